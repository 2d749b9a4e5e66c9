-- The tag of an element that is wrong is read as its first fault, and what is read so is wrong.
use Rattle.std.proofs.Common.{◌≡◌, ◌⊎◌, inl, inr, ℕ, Bool, true, false, cond, List, [], ◌∷◌, ◌++◌, map, Option, None, Some, Result, Ok, Err}
use Rattle.std.proofs.Common.{refl, sym, ap, ◌∙◌, subst}
use Rattle.fs_text.specs.Texts.{Text}
use Rattle.fs_vars.specs.Pairs.{Pairs}
use Rattle.fs_xml.specs.Results.{◌>>=◌}
use Rattle.fs_xml.specs.Attributes.{Written}
use Rattle.fs_xml.specs.Tags.{BodyText}
use Rattle.fs_xml.specs.Entities.{Values, value_text}
use Rattle.fs_xml.specs.declared.stop.ValueFault.TheVariants as value
use Rattle.fs_doc.specs.declared.fault.DocKind.{DocKind}
use Rattle.fs_doc.specs.declared.fault.DocKind.TheVariants as kinds
use Rattle.fs_doc.specs.declared.fault.DocFault.{DocFault}
use Rattle.fs_doc.specs.declared.element.Level.{Level}
use Rattle.fs_doc.specs.declared.element.Kind.{Kind}
use Rattle.fs_doc.specs.declared.content.Content.{Content}
use Rattle.fs_doc.specs.Faults.{fault, fault_at, or_at}
use Rattle.fs_doc.specs.Values.{value_read}
use Rattle.fs_doc.specs.Elements.{kind_in, has, has_needed, is_foreign}
use Rattle.fs_doc.specs.Attributes.{Tagged, value_fault, is_timed, text_on, text_read, fault_offset, unless_fault, attribute_read}
use Rattle.fs_doc.specs.Attributes.{attributes_read, complete, pairs_read}
use Rattle.fs_doc.specs.Contents.{element_begun}
use Rattle.fs_doc.specs.Reading.{element_read}
use Rattle.fs_spelling.specs.Values.{SpellsValue}
use Rattle.fs_spelling.specs.Readings.{pair_of}
use Rattle.fs_spelling.specs.Documents.{tag_of, text_with_globals, Say, SayNoMore, SayOneMore}
use Rattle.fs_spelling.specs.Faults.{WrongAttribute, Doubled, Timed, RawMark, NoEntity, Refused}
use Rattle.fs_spelling.specs.Faults.{WrongElement, Misplaced, InAttribute, Malformed, Missing, Unbegun}
use Rattle.fs_spelling.proofs.Binds.{bind_ok, bind_err, stopped}
use Rattle.fs_spelling.proofs.WrongValues.{ValueIs, value_is, raw_stops, entity_stops}
use Rattle.fs_spelling.proofs.ElementLaws.{onward, bare, value_bare, text_said, text_is_said, attribute_said, attribute_is_said}
use Rattle.fs_spelling.proofs.ElementLaws.{all_said, all_are_said, completed}

-- ---- what is read is wrong

-- a reading that stops at a place
place_read : {X : Type 0} (at : ℕ) (r : Result X DocKind) (f : DocFault) → or_at at r ≡ Err f →
    (k : DocKind) × (r ≡ Err k) × (fault_at at k ≡ f)
place_read at (Ok x) f e = absurd (cc)
place_read at (Err k) f e = (k, refl, cc)

-- the text of a value that is no text
text_wrong : (e : Tagged) (before : Pairs) (a : Written) (f : DocFault) → has before a.name ≡ false → is_timed e.kind a.name ≡ false →
    text_read e a ≡ Err f → WrongAttribute e.tag (bare e) before a f
unfolding text_read value_read
text_wrong e before a f new untimed h =
    by (value_text (is_foreign e.kind) a.end a.value) (value_is (is_foreign e.kind) a.end a.value) h
  where
    by : (r : Values) → ValueIs (is_foreign e.kind) a.end a.value r → text_on a.at (onward (is_foreign e.kind) e.globals r) ≡ Err f →
        WrongAttribute e.tag (bare e) before a f
    by (Ok decoded) is k = absurd (cc)
    by (Err value.Raw) is k =
        let same : fault_at a.at kinds.BadAttribute ≡ f = cc in
        let P : DocFault → Type 0 = λ g. WrongAttribute e.tag (bare e) before a g in
        let Q : Bool → Type 0 = λ b. SpellsValue b is.front is.text in
        subst P same (RawMark is.front is.rest is.text new untimed is.strict is.whole (subst Q is.strict is.spelt))
    by (Err (value.BadEntity amp)) is k =
        let same : fault_at amp kinds.BadEntity ≡ f = cc in
        let P : DocFault → Type 0 = λ g. WrongAttribute e.tag (bare e) before a g in
        subst P (ap (λ n. fault_at n kinds.BadEntity) (sym is.place) ∙ same)
        (NoEntity is.front is.rest is.text new untimed is.whole is.spelt is.none)

judged : (e : Tagged) (before : Pairs) (a : Written) (text : Text) (f : DocFault) (next : Pairs) (found : Option DocKind) →
    has before a.name ≡ false → is_timed e.kind a.name ≡ false
    → text_read e a ≡ Ok text → value_fault e a.name text ≡ found → unless_fault e.tag a.at found next ≡ Err f
    → WrongAttribute e.tag (bare e) before a f
judged e before a text f next None new untimed read is h = absurd (cc)
judged e before a text f next (Some k) new untimed read is h =
    let said = text_is_said e a text read in
    let same : fault_at (fault_offset e.tag a.at k) k ≡ f = cc in
    let P : DocFault → Type 0 = λ g. WrongAttribute e.tag (bare e) before a g in
    subst P same (Refused said.decoded k new untimed said.spelt
    (sym (value_bare e a.name (text_with_globals e said.decoded)) ∙ ap (value_fault e a.name) (sym said.text_is) ∙ is))

attribute_wrong : (e : Tagged) (before : Pairs) (a : Written) (f : DocFault) → attribute_read e before a ≡ Err f →
    WrongAttribute e.tag (bare e) before a f
unfolding attribute_read
attribute_wrong e before a f h = by (has before a.name) (is_timed e.kind a.name) refl refl h
  where
    P : DocFault → Type 0
    P g = WrongAttribute e.tag (bare e) before a g

    text_or : has before a.name ≡ false → is_timed e.kind a.name ≡ false
        → (text_read e a ≡ Err f) ⊎ ((text : Text) × (text_read e a ≡ Ok text)
        × (unless_fault e.tag a.at (value_fault e a.name text) (before ++ (a.name, text) ∷ []) ≡ Err f)) → P f
    text_or new untimed (inl stops) = text_wrong e before a f new untimed stops
    text_or new untimed (inr (text, read, k)) =
        judged e before a text f (before ++ (a.name, text) ∷ []) (value_fault e a.name text) new untimed read refl k

    by : (s t : Bool) → has before a.name ≡ s → is_timed e.kind a.name ≡ t
        → cond s (fault a.at kinds.BadAttribute)
        (cond t (fault a.at kinds.TimeAttribute)
        (text_read e a >>= λ text. unless_fault e.tag a.at (value_fault e a.name text) (before ++ (a.name, text) ∷ []))) ≡ stopped f → P f
    by true t twice timed k =
        let same : fault_at a.at kinds.BadAttribute ≡ f = cc in subst P same (Doubled twice)
    by false true new timed k =
        let same : fault_at a.at kinds.TimeAttribute ≡ f = cc in subst P same (Timed new timed)
    by false false new untimed k =
        text_or new untimed
        (bind_err (text_read e a) (λ text. unless_fault e.tag a.at (value_fault e a.name text) (before ++ (a.name, text) ∷ [])) f k)

-- one attribute is wrong, and those before it say texts
record WrongAmong (e : Tagged) (so_far : Pairs) (attrs : List Written) (f : DocFault) : Type 0 where
  pub before : List Written
  pub behind : List Written
  pub a : Written
  pub texts : Pairs
  pub whole : attrs ≡ before ++ (a ∷ behind)
  pub say : Say (bare e) so_far (map pair_of before) texts
  pub wrong : WrongAttribute e.tag (bare e) texts a f

wrong_among : (e : Tagged) (so_far : Pairs) (attrs : List Written) (f : DocFault) → attributes_read e so_far attrs ≡ Err f →
    WrongAmong e so_far attrs f
wrong_among e so_far [] f h = absurd (cc)
wrong_among e so_far (a ∷ attrs) f h =
    by (bind_err (attribute_read e so_far a) (λ next. attributes_read e next attrs) f h)
    (λ next k. wrong_among e next attrs f k)
  where
    by : (attribute_read e so_far a ≡ Err f)
        ⊎ ((next : Pairs) × (attribute_read e so_far a ≡ Ok next) × (attributes_read e next attrs ≡ Err f))
        → ((next : Pairs) → attributes_read e next attrs ≡ Err f → WrongAmong e next attrs f) → WrongAmong e so_far (a ∷ attrs) f
    by (inl stops) again = record {
      before = [];
      behind = attrs;
      a = a;
      texts = so_far;
      whole = refl;
      say = SayNoMore (bare e) so_far;
      wrong = attribute_wrong e so_far a f stops;
    }
    by (inr (next, read, k)) again =
        let one = attribute_is_said e so_far a next read in
        let on = again next k in
        let P : Pairs → Type 0 = λ n. Say (bare e) n (map pair_of on.before) on.texts in
        record {
          before = a ∷ on.before;
          behind = on.behind;
          a = on.a;
          texts = on.texts;
          whole = ap (λ t. a ∷ t) on.whole;
          say = SayOneMore (bare e) so_far (pair_of a) (map pair_of on.before) one.decoded on.texts one.new one.untimed one.spelt one.fine
              (subst P one.next_is on.say);
          wrong = on.wrong;
        }

abbrev tag_at : ℕ → Kind → Content → BodyText → Tagged
tag_at at k c body = record { kind = k; tag = at; globals = c.globals.pairs; attrs = body.attrs }

-- behind all attributes
incomplete : (at : ℕ) (outer : Level) (c : Content) (name : Text) (body : BodyText) (k : Kind) (texts : Pairs) (f : DocFault)
    (malformed : Option ℕ) → kind_in outer c.done name ≡ Ok k
    → Say (tag_of k c.globals.pairs (map pair_of body.attrs)) [] (map pair_of body.attrs) texts → body.malformed ≡ malformed
    → complete (tag_at at k c body) malformed texts ≡ Err f → WrongElement at outer c name body f
incomplete at outer c name body k texts f (Some place) known say is h =
    let same : fault_at place kinds.BadAttribute ≡ f = cc in
    let P : DocFault → Type 0 = λ g. WrongElement at outer c name body g in
    subst P same (Malformed k texts place known say is)
incomplete at outer c name body k texts f None known say is h = by (has_needed k texts) refl h
  where
    by : (t : Bool) → has_needed k texts ≡ t → cond t (Ok texts) (fault at kinds.BadAttribute) ≡ stopped {X = Pairs} f →
        WrongElement at outer c name body f
    by true needed i = absurd (cc)
    by false needed i =
        let same : fault_at at kinds.BadAttribute ≡ f = cc in
        let P : DocFault → Type 0 = λ g. WrongElement at outer c name body g in
        subst P same (Missing k texts known say is needed)

pub element_wrong : (at : ℕ) (outer : Level) (c : Content) (name : Text) (body : BodyText) (f : DocFault) →
    element_read at name body outer c ≡ Err f → WrongElement at outer c name body f
unfolding element_read pairs_read
element_wrong at outer c name body f h =
    first (bind_err (or_at at (kind_in outer c.done name)) judged_at f h)
  where
    P : DocFault → Type 0
    P g = WrongElement at outer c name body g

    pairs_at : (k : Kind) → Result Pairs DocFault
    pairs_at k = attributes_read (tag_at at k c body) [] body.attrs >>= λ pairs. complete (tag_at at k c body) body.malformed pairs

    judged_at : Kind → Result (Level × Content) DocFault
    judged_at k = pairs_at k >>= λ pairs. or_at at (element_begun k pairs c)

    known_at : (k : Kind) → or_at at (kind_in outer c.done name) ≡ Ok k → (r : Result Kind DocKind) → kind_in outer c.done name ≡ r →
        kind_in outer c.done name ≡ Ok k
    known_at k e (Ok x) is =
        let on : or_at at (kind_in outer c.done name) ≡ Ok x = ap (λ r. or_at at r) is in
        let both : Ok x ≡ Ok k = sym on ∙ e in
        let same : x ≡ k = cc in is ∙ ap Ok same
    known_at k e (Err d) is =
        let on : or_at at (kind_in outer c.done name) ≡ fault at d = ap (λ r. or_at at r) is in
        let both : fault at d ≡ Ok k = sym on ∙ e in absurd (cc)

    third : (k : Kind) → kind_in outer c.done name ≡ Ok k
        → (attributes_read (tag_at at k c body) [] body.attrs ≡ Err f)
        ⊎ ((texts : Pairs) × (attributes_read (tag_at at k c body) [] body.attrs ≡ Ok texts)
        × (complete (tag_at at k c body) body.malformed texts ≡ Err f)) → P f
    third k known (inl stops) =
        let w = wrong_among (tag_at at k c body) [] body.attrs f stops in
        InAttribute k w.before w.behind w.a w.texts f known w.whole w.say w.wrong
    third k known (inr (texts, read, i)) =
        incomplete at outer c name body k texts f body.malformed known (all_are_said (tag_at at k c body) [] body.attrs texts read) refl i

    begun : (k : Kind) (texts : Pairs) → kind_in outer c.done name ≡ Ok k → pairs_at k ≡ Ok texts
        → or_at at (element_begun k texts c) ≡ Err f → P f
    begun k texts known read i =
        let went =
        bind_ok (attributes_read (tag_at at k c body) [] body.attrs) (λ pairs. complete (tag_at at k c body) body.malformed pairs)
        texts read in
        let whole = completed (tag_at at k c body) body.malformed went.0 texts went.2 in
        let stop = place_read at (element_begun k texts c) f i in
        let S : Pairs → Type 0 = λ t. Say (tag_of k c.globals.pairs (map pair_of body.attrs)) [] (map pair_of body.attrs) t in
        let N : Pairs → Type 0 = λ t. has_needed k t ≡ true in
        subst P stop.2 (Unbegun k texts stop.0 known
        (subst S whole.same (all_are_said (tag_at at k c body) [] body.attrs went.0 went.1)) whole.none
        (subst N whole.same whole.needed) stop.1)

    second : (k : Kind) → kind_in outer c.done name ≡ Ok k
        → (pairs_at k ≡ Err f) ⊎ ((texts : Pairs) × (pairs_at k ≡ Ok texts) × (or_at at (element_begun k texts c) ≡ Err f)) → P f
    second k known (inl stops) =
        third k known
        (bind_err (attributes_read (tag_at at k c body) [] body.attrs) (λ pairs. complete (tag_at at k c body) body.malformed pairs) f
        stops)
    second k known (inr (texts, read, i)) = begun k texts known read i

    first : (or_at at (kind_in outer c.done name) ≡ Err f)
        ⊎ ((k : Kind) × (or_at at (kind_in outer c.done name) ≡ Ok k) × (judged_at k ≡ Err f)) → P f
    first (inl stops) =
        let stop = place_read at (kind_in outer c.done name) f stops in
        subst P stop.2 (Misplaced stop.0 stop.1)
    first (inr (k, read, i)) =
        second k (known_at k read (kind_in outer c.done name) refl)
        (bind_err (pairs_at k) (λ pairs. or_at at (element_begun k pairs c)) f i)

-- ---- what is wrong is read

attribute_stops : (e : Tagged) (before : Pairs) (a : Written) (at : ℕ) (loose : Tagged) (f : DocFault) → WrongAttribute at loose before a f →
    at ≡ e.tag → loose ≡ bare e → attribute_read e before a ≡ Err f
unfolding attribute_read text_read value_read
attribute_stops e before a at loose f (Doubled twice) here same = rw twice refl
attribute_stops e before a at loose f (Timed new timed) here same =
    let is : is_timed e.kind a.name ≡ true = ap (λ (t : Tagged). is_timed t.kind a.name) (sym same) ∙ timed in
    rw (new, is) refl
attribute_stops e before a at loose f (RawMark front rest text new untimed strict whole spelt) here same =
    let fine : is_timed e.kind a.name ≡ false = ap (λ (t : Tagged). is_timed t.kind a.name) (sym same) ∙ untimed in
    let own : is_foreign e.kind ≡ false = ap (λ (t : Tagged). is_foreign t.kind) (sym same) ∙ strict in
    let stops = raw_stops a.end a.value front rest text whole spelt in
    rw (new, fine, own, stops) refl
attribute_stops e before a at loose f (NoEntity front rest text new untimed whole spelt none) here same =
    let fine : is_timed e.kind a.name ≡ false = ap (λ (t : Tagged). is_timed t.kind a.name) (sym same) ∙ untimed in
    let Q : Tagged → Type 0 = λ t. SpellsValue (is_foreign t.kind) front text in
    let stops = entity_stops (is_foreign e.kind) a.end a.value front rest text whole (subst Q same spelt) none in
    rw (new, fine, stops) refl
attribute_stops e before a at loose f (Refused decoded k new untimed spelt refused) here same =
    let fine : is_timed e.kind a.name ≡ false = ap (λ (t : Tagged). is_timed t.kind a.name) (sym same) ∙ untimed in
    let Q : Tagged → Type 0 = λ t. SpellsValue (is_foreign t.kind) a.value decoded in
    let R : Tagged → Type 0 = λ t. value_fault t a.name (text_with_globals t decoded) ≡ Some k in
    let text = text_with_globals e decoded in
    let is : value_fault e a.name text ≡ Some k = value_bare e a.name text ∙ subst R same refused in
    let read : text_read e a ≡ Ok text = text_said e a decoded (subst Q same spelt) in
    ap (λ s. cond s (fault a.at kinds.BadAttribute) (cond (is_timed e.kind a.name) (fault a.at kinds.TimeAttribute)
    (text_read e a >>= λ t. unless_fault e.tag a.at (value_fault e a.name t) (before ++ (a.name, t) ∷ [])))) new
    ∙ ap (λ s. cond s (fault a.at kinds.TimeAttribute)
    (text_read e a >>= λ t. unless_fault e.tag a.at (value_fault e a.name t) (before ++ (a.name, t) ∷ []))) fine
    ∙ ap (λ (r : Result Text DocFault). r >>= λ t. unless_fault e.tag a.at (value_fault e a.name t) (before ++ (a.name, t) ∷ [])) read
    ∙ ap (λ found. unless_fault e.tag a.at found (before ++ (a.name, text) ∷ [])) is
    ∙ ap (λ n. fault (fault_offset n a.at k) k) (sym here)

-- what is said is read, and what stands behind it decides
front_said : (e : Tagged) (so_far : Pairs) (before behind : List Written) (texts : Pairs) → Say (bare e) so_far (map pair_of before) texts →
    attributes_read e so_far (before ++ behind) ≡ attributes_read e texts behind
front_said e so_far [] behind texts (SayNoMore _ _) = refl
front_said e so_far (a ∷ before) behind texts (SayOneMore _ _ _ _ decoded _ new untimed spelt fine say) =
    ap (λ (r : Result Pairs DocFault). r >>= λ next. attributes_read e next (before ++ behind))
    (attribute_said e so_far a decoded new untimed spelt fine)
    ∙ front_said e (so_far ++ (a.name, text_with_globals e decoded) ∷ []) before behind texts say

pub element_stops : (at : ℕ) (outer : Level) (c : Content) (name : Text) (body : BodyText) (f : DocFault) →
    WrongElement at outer c name body f → element_read at name body outer c ≡ Err f
unfolding element_read pairs_read
element_stops at outer c name body f wrong = by f wrong
  where
    pairs_at : (k : Kind) → Option ℕ → Result Pairs DocFault
    pairs_at k malformed =
        attributes_read (tag_at at k c body) [] body.attrs >>= λ pairs. complete (tag_at at k c body) malformed pairs

    judged_at : Kind → Result (Level × Content) DocFault
    judged_at k = pairs_at k body.malformed >>= λ pairs. or_at at (element_begun k pairs c)

    known_at : (k : Kind) → kind_in outer c.done name ≡ Ok k → (or_at at (kind_in outer c.done name) >>= judged_at) ≡ judged_at k
    known_at k known = ap (λ (r : Result Kind DocKind). or_at at r >>= judged_at) known

    said_at : (k : Kind) (texts : Pairs) (malformed : Option ℕ)
        → Say (tag_of k c.globals.pairs (map pair_of body.attrs)) [] (map pair_of body.attrs) texts → body.malformed ≡ malformed
        → judged_at k ≡ (complete (tag_at at k c body) malformed texts >>= λ pairs. or_at at (element_begun k pairs c))
    said_at k texts malformed say is =
        ap (λ m. pairs_at k m >>= λ pairs. or_at at (element_begun k pairs c)) is
        ∙ ap (λ (r : Result Pairs DocFault). (r >>= λ pairs. complete (tag_at at k c body) malformed pairs) >>= λ pairs. or_at at
        (element_begun k pairs c)) (all_said (tag_at at k c body) [] body.attrs texts say)

    by : (g : DocFault) → WrongElement at outer c name body g → (or_at at (kind_in outer c.done name) >>= judged_at) ≡ Err g
    by g (Misplaced k none) = ap (λ (r : Result Kind DocKind). or_at at r >>= judged_at) none
    by g (InAttribute k before behind a texts _ known whole say one) =
        let e = tag_at at k c body in
        let stops : attributes_read e [] body.attrs ≡ Err g =
        ap (attributes_read e []) whole ∙ front_said e [] before (a ∷ behind) texts say
        ∙ ap (λ (r : Result Pairs DocFault). r >>= λ next. attributes_read e next behind)
        (attribute_stops e texts a at (bare e) g one refl refl) in
        known_at k known
        ∙ ap (λ (r : Result Pairs DocFault). (r >>= λ pairs. complete e body.malformed pairs) >>= λ pairs. or_at at
        (element_begun k pairs c)) stops
    by g (Malformed k texts place known say is) = known_at k known ∙ said_at k texts (Some place) say is
    by g (Missing k texts known say is needed) =
        known_at k known ∙ said_at k texts None say is
        ∙ ap (λ t. cond t (Ok texts) (fault at kinds.BadAttribute) >>= λ pairs. or_at at (element_begun k pairs c)) needed
    by g (Unbegun k texts d known say is needed none) =
        known_at k known ∙ said_at k texts None say is
        ∙ ap (λ t. cond t (Ok texts) (fault at kinds.BadAttribute) >>= λ pairs. or_at at (element_begun k pairs c)) needed
        ∙ ap (λ (r : Result (Level × Content) DocKind). or_at at r) none
