-- From a pattern that was not built to the numbers that are told of it.
use Rattle.std.proofs.Common.{◌≡◌, ℕ, suc, ◌+◌, ◌<◌, List, [], ◌∷◌, ◌++◌, length, get_or, take, drop, refl, sym, ap, subst, ◌∙◌, arith}
use Rattle.std.specs.Prelude.{min, All}
use Rattle.std.specs.Str.{IsUtf8}
use Rattle.std.specs.List.{flat_map, enumerate_from}
use Rattle.std.proofs.Math.Seq.{drop-cons}
use Rattle.std.proofs.lemmas.Grind.{flat_map-append}
use Rattle.std.proofs.lemmas.List.{append_assoc, append-nil, map-append, length-append, length-take-le, take-append-drop, take_more}
use Rattle.std.proofs.lemmas.List.{map_more}
use Rattle.std.proofs.lemmas.List.Elements.{All-append, All-map, All-nil, All-cons, All-same, All-push}
use Rattle.regex.specs.Bytes.{regex_source}
use Rattle.regex.specs.declared.bytes.regex.Regex.{Regex}
use Rattle.fs_text.specs.Texts.{Text}
use Rattle.fs_ports.specs.Patterns.{IsBuiltOf}
use Rattle.fs_doc.specs.Dialplans.{Context, Extension, Condition}
use Rattle.fs_doc.specs.declared.dialplan.Child.{Child}
use Rattle.fs_plan.specs.declared.fault.Unbuilt.{Unbuilt}
use Rattle.fs_plan.specs.declared.fault.Unbuilt.TheVariants as unbuilt
use Rattle.fs_plan.specs.declared.fault.PlanFault.{PlanFault}
use Rattle.fs_plan.specs.declared.fault.PlanFault.TheVariants as fault
use Rattle.fs_plan.specs.Building.{First, HasReading, AreRead, HaveReadings, NumberedPattern, IsNumbered, numbered_patterns, IsTextUnbuilt}
use Rattle.fs_plan.specs.Building.{IsUnbuilt, IsRefusalOf, IsPlanRefusal, IsNoPattern, IsAnyPattern, expressions_of, patterns_of}
use Rattle.fs_plan.specs.Building.{patterns_within, patterns_from, patterns_in, number_of, extensions_in, fault_of, sizes_after}
use Rattle.fs_plan.specs.Building.{sizes_unbuilt}

-- what was built of a text was built of its own source
pub own_built : (text : Text) (regex : Regex) → IsBuiltOf text regex → IsBuiltOf (regex_source regex) regex
own_built text regex built = let P : Text → Type 0 = λ t. IsBuiltOf t regex in subst P (sym built.source) built

-- what was built of a text has a reading
pub has_reading : (text : Text) (regex : Regex) → IsUtf8 text → IsBuiltOf text regex → HasReading text
has_reading text regex is_text built = record { is_text = is_text; is_read = rw (built.is_read) refl }

-- ---- want of memory

pub no_memory : (texts : List Text) (why : Unbuilt) → why ≡ unbuilt.Memory → IsUnbuilt texts why
no_memory texts why is = rw is tt

pub no_memory_for : (patterns : List NumberedPattern) (refused : PlanFault) → refused ≡ fault.Memory → IsRefusalOf patterns refused
no_memory_for patterns refused is = rw is tt

-- ---- the first of a list

-- it is found in a list that begins with these, which are all before it
first_behind : {A : Type 0} (P Q : A → Type 0) (xs ys zs : List A) → All P xs → First P Q ys → First P Q (xs ++ (ys ++ zs))
first_behind P Q xs ys zs before h = record {
  front = xs ++ h.front;
  first = h.first;
  back = h.back ++ zs;
  split = rw (h.split) (simp append_assoc);
  before = All-append P xs h.front before h.before;
  found = h.found;
}

readings_numbered : (extension condition : ℕ) (texts : List Text) → AreRead texts →
    HaveReadings (numbered_patterns extension condition texts)
readings_numbered extension condition texts read = record {
  each = All-map (λ p. HasReading p.text) (λ text. record { text = text; extension = extension; condition = condition }) texts read.each;
}

-- a text is found among texts, and so among the same under a number
first_numbered : (P : Text → Type 0) (extension condition : ℕ) (texts : List Text) → First HasReading P texts →
    First (λ p. HasReading p.text) (IsNumbered P extension condition) (numbered_patterns extension condition texts)
first_numbered P extension condition texts h = record {
  front = numbered_patterns extension condition h.front;
  first = record { text = h.first; extension = extension; condition = condition };
  back = numbered_patterns extension condition h.back;
  split = rw (h.split) (map-append _ h.front (h.first ∷ h.back));
  before = (readings_numbered extension condition h.front (record { each = h.before })).each;
  found = record { extension_is = refl; condition_is = refl; is = h.found };
}

-- ---- lists by positions

-- what comes of two lists, one behind the other, by the positions of their elements
parts-append : {A B : Type 0} (f : ℕ × A → List B) (n : ℕ) (xs ys : List A) →
    flat_map f (enumerate_from n (xs ++ ys)) ≡ flat_map f (enumerate_from n xs) ++ flat_map f (enumerate_from (n + length xs) ys)
parts-append f n [] ys = let e : n ≡ n + 0 = omega arith in ap (λ k. flat_map f (enumerate_from k ys)) e
parts-append f n (x ∷ xs) ys =
    let e : n + 1 + length xs ≡ n + suc (length xs) = omega arith in
    ap (λ bs. f (n, x) ++ bs) (parts-append f (n + 1) xs ys
    ∙ ap (λ k. flat_map f (enumerate_from (n + 1) xs) ++ flat_map f (enumerate_from k ys)) e)
    ∙ sym (append_assoc (f (n, x)) _ _)

-- what comes of the element at a position stands behind what comes of those before it
parts_at : {A B : Type 0} (f : ℕ × A → List B) (n : ℕ) (xs : List A) (i at : ℕ) (x : A) → at ≡ n + i → i < length xs → x ≡ get_or xs i x →
    flat_map f (enumerate_from n xs) ≡ flat_map f (enumerate_from n (take i xs))
    ++ (f (at, x) ++ flat_map f (enumerate_from (at + 1) (drop (suc i) xs)))
parts_at f n xs i at x position within is =
    let rest : drop i xs ≡ x ∷ drop (suc i) xs = drop-cons xs i x within ∙ ap (λ y. y ∷ drop (suc i) xs) (sym is) in
    let whole : xs ≡ take i xs ++ x ∷ drop (suc i) xs = sym (take-append-drop i xs) ∙ ap (λ ys. take i xs ++ ys) rest in
    let long : n + length (take i xs) ≡ at = omega (arith, length-take-le i xs (omega arith)) in
    ap (λ ys. flat_map f (enumerate_from n ys)) whole ∙ parts-append f n (take i xs) (x ∷ drop (suc i) xs)
    ∙ ap (λ k. flat_map f (enumerate_from n (take i xs)) ++ flat_map f (enumerate_from k (x ∷ drop (suc i) xs))) long

-- with one more element
parts_more : {A B : Type 0} (f : ℕ × A → List B) (n : ℕ) (xs : List A) (i at : ℕ) (x : A) → at ≡ n + i → i < length xs → x ≡ get_or xs i x →
    flat_map f (enumerate_from n (take (i + 1) xs)) ≡ flat_map f (enumerate_from n (take i xs)) ++ f (at, x)
parts_more f n xs i at x position within is =
    let more : take (i + 1) xs ≡ take i xs ++ x ∷ [] = take_more xs i x within ∙ ap (λ y. take i xs ++ y ∷ []) (sym is) in
    let long : n + length (take i xs) ≡ at = omega (arith, length-take-le i xs (omega arith)) in
    ap (λ ys. flat_map f (enumerate_from n ys)) more ∙ parts-append f n (take i xs) (x ∷ [])
    ∙ ap (λ k. flat_map f (enumerate_from n (take i xs)) ++ flat_map f (enumerate_from k (x ∷ []))) long
    ∙ ap (λ bs. flat_map f (enumerate_from n (take i xs)) ++ bs) (append-nil (f (at, x)))

-- ---- parts of a dialplan

readings_more : (front more whole : List NumberedPattern) → whole ≡ front ++ more → HaveReadings front → HaveReadings more →
    HaveReadings whole
readings_more front more whole is before here = record {
  each = All-same (λ p. HasReading p.text) whole (front ++ more) is (All-append (λ p. HasReading p.text) front more before.each here.each);
}

-- the first part that has a refusal has that of the whole
refused_in : (front part back whole : List NumberedPattern) (refused : PlanFault) → whole ≡ front ++ (part ++ back) → HaveReadings front →
    IsRefusalOf part refused → IsRefusalOf whole refused
refused_in front part back whole (fault.PatternRefused e c) is before h =
    rw is (first_behind (λ p. HasReading p.text) (IsNumbered IsNoPattern e c) front part back before.each h)
refused_in front part back whole (fault.PatternTooLarge e c) is before h =
    rw is (first_behind (λ p. HasReading p.text) (IsNumbered IsAnyPattern e c) front part back before.each h)
refused_in front part back whole fault.Memory is before h = tt

-- ---- tests

pub children_more : (children : List (Child Text)) (i : ℕ) (child : Child Text) → i < length children → child ≡ get_or children i child →
    HasReading child.expression → AreRead (expressions_of (take i children)) → AreRead (expressions_of (take (i + 1) children))
children_more children i child within is here before =
    let parts : expressions_of (take (i + 1) children) ≡ expressions_of (take i children) ++ child.expression ∷ [] =
    map_more (λ c. c.expression) children i child within ∙ ap (λ c. expressions_of (take i children) ++ c.expression ∷ []) (sym is) in
    record {
      each = All-same HasReading _ _ parts (All-push HasReading (expressions_of (take i children)) child.expression before.each here);
    }

-- a child that was not built
pub child_unbuilt : (children : List (Child Text)) (i : ℕ) (child : Child Text) (why : Unbuilt) → i < length children →
    child ≡ get_or children i child →
    AreRead (expressions_of (take i children)) → IsTextUnbuilt child.expression why → IsUnbuilt (expressions_of children) why
child_unbuilt children i child why within is before h = unbuilt_at why h where
  split_at : expressions_of children ≡ expressions_of (take i children) ++ child.expression ∷ expressions_of (drop (suc i) children)
  split_at = ap expressions_of (sym (take-append-drop i children)) ∙ map-append (λ c. c.expression) (take i children) (drop i children)
      ∙ ap (λ cs. expressions_of (take i children) ++ expressions_of cs)
      (drop-cons children i child within ∙ ap (λ c. c ∷ drop (suc i) children) (sym is))

  first_at : (P : Text → Type 0) → P child.expression → First HasReading P (expressions_of children)
  first_at P h = record {
    front = expressions_of (take i children);
    first = child.expression;
    back = expressions_of (drop (suc i) children);
    split = split_at;
    before = before.each;
    found = h;
  }

  unbuilt_at : (why : Unbuilt) → IsTextUnbuilt child.expression why → IsUnbuilt (expressions_of children) why
  unbuilt_at unbuilt.NoReading h = first_at IsNoPattern h
  unbuilt_at unbuilt.TooLarge h = first_at IsAnyPattern h
  unbuilt_at unbuilt.Memory h = tt

alone : (P : Text → Type 0) (text : Text) → P text → First HasReading P (text ∷ [])
alone P text h = record { front = []; first = text; back = []; split = refl; before = All-nil HasReading; found = h }

-- a pattern alone
pub plain_unbuilt : (text : Text) (why : Unbuilt) → IsTextUnbuilt text why → IsUnbuilt (text ∷ []) why
plain_unbuilt text unbuilt.NoReading h = alone IsNoPattern text h
plain_unbuilt text unbuilt.TooLarge h = alone IsAnyPattern text h
plain_unbuilt text unbuilt.Memory h = tt

pub plain_read : (text : Text) → HasReading text → AreRead (text ∷ [])
plain_read text h = record { each = All-cons HasReading text [] h (All-nil HasReading) }

pub none_read : AreRead []
none_read = record { each = All-nil HasReading }

-- ---- conditions

unbuilt_numbered : (extension condition : ℕ) (texts : List Text) (why : Unbuilt) → IsUnbuilt texts why →
    IsRefusalOf (numbered_patterns extension condition texts) (fault_of why extension condition)
unbuilt_numbered extension condition texts unbuilt.NoReading h = first_numbered IsNoPattern extension condition texts h
unbuilt_numbered extension condition texts unbuilt.TooLarge h = first_numbered IsAnyPattern extension condition texts h
unbuilt_numbered extension condition texts unbuilt.Memory h = tt

pub conditions_more : (number : ℕ) (conditions : List Condition) (i : ℕ) (condition : Condition) → i < length conditions →
    condition ≡ get_or conditions i condition →
    AreRead (patterns_of condition.test) → HaveReadings (patterns_within number (take i conditions)) →
    HaveReadings (patterns_within number (take (i + 1) conditions))
conditions_more number conditions i condition within is here before =
    readings_more _ _ _ (parts_more _ 0 conditions i i condition (omega arith) within is) before
    (readings_numbered number (number_of i) (patterns_of condition.test) here)

-- a condition that was not built
pub condition_refused : (number : ℕ) (conditions : List Condition) (i : ℕ) (condition : Condition) (why : Unbuilt) → i < length conditions →
    condition ≡ get_or conditions i condition → HaveReadings (patterns_within number (take i conditions)) →
    IsUnbuilt (patterns_of condition.test) why →
    IsRefusalOf (patterns_within number conditions) (fault_of why number (number_of i))
condition_refused number conditions i condition why within is before h =
    refused_in _ _ _ _ _ (parts_at _ 0 conditions i i condition (omega arith) within is) before
    (unbuilt_numbered number (number_of i) (patterns_of condition.test) why h)

pub sizes_same : (why : Unbuilt) (extension condition sizes : ℕ) →
    sizes_after (fault_of why extension condition) sizes ≡ sizes_unbuilt why sizes
sizes_same unbuilt.NoReading extension condition sizes = refl
sizes_same unbuilt.TooLarge extension condition sizes = refl
sizes_same unbuilt.Memory extension condition sizes = refl

-- ---- extensions

-- numbers end at 32 bits, and so positions may end at 64
capped : (n position : ℕ) → number_of (min (n + position) 18446744073709551615) ≡ number_of (n + position)
capped n position = omega arith

pub extensions_more : (before : ℕ) (extensions : List Extension) (i : ℕ) (extension : Extension) (number : ℕ)
    (conditions : List Condition) →
    i < length extensions → extension ≡ get_or extensions i extension → number ≡ number_of (min (before + i) 18446744073709551615) →
    conditions ≡ extension.conditions →
    HaveReadings (patterns_within number conditions) → HaveReadings (patterns_from before (take i extensions)) →
    HaveReadings (patterns_from before (take (i + 1) extensions))
extensions_more before extensions i extension number conditions within is numbered own here earlier =
    let same : number_of (before + i) ≡ number = sym (numbered ∙ capped before i) in
    readings_more _ _ _ (parts_more _ before extensions i (before + i) extension refl within is) earlier (rw (same, ← own) here)

-- an extension whose conditions were not built
pub extension_refused : (before : ℕ) (extensions : List Extension) (i : ℕ) (extension : Extension) (refused : PlanFault) →
    i < length extensions →
    extension ≡ get_or extensions i extension → HaveReadings (patterns_from before (take i extensions)) →
    IsRefusalOf (patterns_within (number_of (min (before + i) 18446744073709551615)) extension.conditions) refused →
    IsRefusalOf (patterns_from before extensions) refused
extension_refused before extensions i extension refused within is earlier h =
    let own : IsRefusalOf (patterns_within (number_of (before + i)) extension.conditions) refused = rw (← capped before i) h in
    refused_in _ _ _ _ refused (parts_at _ before extensions i (before + i) extension refl within is) earlier own

-- ---- contexts

-- how many extensions stand before a context, as far as 64 bits go
abbrev pub before : List Context → ℕ → ℕ
before contexts i = min (length (extensions_in (take i contexts))) 18446744073709551615

-- extensions have the same numbers behind so many, or as many as 32 bits tell
same_numbers : (n m : ℕ) (extensions : List Extension) → min n 4294967294 ≡ min m 4294967294 →
    patterns_from n extensions ≡ patterns_from m extensions
same_numbers n m [] is = refl
same_numbers n m (extension ∷ extensions) is =
    let number : number_of n ≡ number_of m = omega arith in
    let more = same_numbers (n + 1) (m + 1) extensions (omega arith) in
    rw (number, more) refl

-- the extensions before a context, its own, and those behind it
parts_of : (contexts : List Context) (i : ℕ) (context : Context) → i < length contexts → context ≡ get_or contexts i context →
    extensions_in contexts ≡ extensions_in (take i contexts) ++ (context.extensions ++ extensions_in (drop (suc i) contexts))
parts_of contexts i context within is =
    let rest : drop i contexts ≡ context ∷ drop (suc i) contexts =
    drop-cons contexts i context within ∙ ap (λ c. c ∷ drop (suc i) contexts) (sym is) in
    ap extensions_in (sym (take-append-drop i contexts))
    ∙ flat_map-append (λ c. c.extensions) (take i contexts) (drop i contexts)
    ∙ ap (λ cs. extensions_in (take i contexts) ++ extensions_in cs) rest

-- the extensions before a context and its own
parts_to : (contexts : List Context) (i : ℕ) (context : Context) → i < length contexts → context ≡ get_or contexts i context →
    extensions_in (take (i + 1) contexts) ≡ extensions_in (take i contexts) ++ context.extensions
parts_to contexts i context within is =
    let more : take (i + 1) contexts ≡ take i contexts ++ context ∷ [] =
    take_more contexts i context within ∙ ap (λ c. take i contexts ++ c ∷ []) (sym is) in
    ap extensions_in more ∙ flat_map-append (λ c. c.extensions) (take i contexts) (context ∷ [])
    ∙ ap (λ es. extensions_in (take i contexts) ++ es) (append-nil context.extensions)

-- the patterns of extensions, and of those behind them
patterns_from-append : (n : ℕ) (xs ys : List Extension) →
    patterns_from n (xs ++ ys) ≡ patterns_from n xs ++ patterns_from (n + length xs) ys
patterns_from-append n xs ys = parts-append _ n xs ys

pub contexts_more : (contexts : List Context) (i : ℕ) (context : Context) (n : ℕ) (extensions : List Extension) → i < length contexts →
    context ≡ get_or contexts i context → n ≡ before contexts i → extensions ≡ context.extensions →
    HaveReadings (patterns_from n extensions) → HaveReadings (patterns_in (take i contexts)) →
    HaveReadings (patterns_in (take (i + 1) contexts))
contexts_more contexts i context n extensions within is so_many own here earlier =
    let front = extensions_in (take i contexts) in
    let parts : patterns_in (take (i + 1) contexts) ≡ patterns_in (take i contexts) ++ patterns_from (0 + length front) context.extensions =
    ap (patterns_from 0) (parts_to contexts i context within is) ∙ patterns_from-append 0 front context.extensions in
    readings_more _ _ _ parts earlier (rw (same_numbers (0 + length front) n context.extensions (omega arith), ← own) here)

-- a context whose extensions were not built
pub context_refused : (contexts : List Context) (i : ℕ) (context : Context) (refused : PlanFault) → i < length contexts →
    context ≡ get_or contexts i context →
    HaveReadings (patterns_in (take i contexts)) → IsRefusalOf (patterns_from (before contexts i) context.extensions) refused →
    IsPlanRefusal contexts refused
context_refused contexts i context refused within is earlier h =
    let front = extensions_in (take i contexts) in
    let back = extensions_in (drop (suc i) contexts) in
    let parts : patterns_in contexts ≡ patterns_in (take i contexts)
    ++ (patterns_from (0 + length front) context.extensions ++ patterns_from (0 + length front + length context.extensions) back) =
    ap (patterns_from 0) (parts_of contexts i context within is) ∙ patterns_from-append 0 front (context.extensions ++ back)
    ∙ ap (λ ps. patterns_from 0 front ++ ps) (patterns_from-append (0 + length front) context.extensions back) in
    let own : IsRefusalOf (patterns_from (0 + length front) context.extensions) refused =
    rw (same_numbers (0 + length front) (before contexts i) context.extensions (omega arith)) h in
    refused_in _ _ _ _ refused parts earlier own

-- one more context
pub before_more : (contexts : List Context) (i : ℕ) (context : Context) → i < length contexts → context ≡ get_or contexts i context →
    min (before contexts i + length context.extensions) 18446744073709551615 ≡ before contexts (i + 1)
before_more contexts i context within is =
    omega (arith, ap length (parts_to contexts i context within is), length-append (extensions_in (take i contexts)) context.extensions)

-- ---- what the functions that build cite

pub ruleset test_rules = (plain_unbuilt, plain_read, none_read, no_memory)

pub ruleset condition_rules = (condition_refused, sizes_same, no_memory_for)
