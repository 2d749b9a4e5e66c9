-- How many are to read the events of a ring, and their texts, once some are read or more are held.
use Rattle.std.proofs.Common.{◌≡◌, ◌≢◌, ℕ, zero, suc, ◌+◌, ◌-◌, ◌<◌, ◌≤◌, ◌==◌, Bool, true, false, cond, List, [], ◌∷◌, ◌++◌, Option, None, Some}
use Rattle.std.proofs.Common.{refl, sym, ap, subst, ◌∙◌, arith, if◌then◌else◌, All, ◌⊎◌, inl, inr, unwrap_or}
use Rattle.std.specs.Prelude.{nat_le, nat_lt}
use Rattle.std.specs.Option.{option_map, option_or}
use Rattle.std.specs.List.{find}
use Rattle.std.proofs.lemmas.Bool.{eqb-true, cases_eq, false_from_ne_true, leb-true, ltb-true, ltb-false}
use Rattle.std.proofs.lemmas.Bool.Decides.{nat_tests}
use Rattle.std.proofs.lemmas.List.Folds.{find-append}
use Rattle.std.proofs.lemmas.List.Sums.{sum_by-cons}
use Rattle.std.proofs.lemmas.List.Elements.{All-cons, All-head, All-tail, All-push}
use Rattle.std.proofs.lemmas.List.Kept.{AllPairs-cons}
use Rattle.std.proofs.lemmas.List.Quantifiers.{all_pairs_push}
use Rattle.fs_text.specs.Texts.{Text}
use Rattle.fs_event.specs.Rings.{Pair, IsSound, AreBelow, event_of, has_number, released, less_one}
use Rattle.fs_event.proofs.ReleaseLemmas.{one_is_released, others_are_held, numbers_stay_below, read_left}
use Rattle.fs_state.specs.declared.outbox.Waiting.{Waiting}
use Rattle.fs_state.specs.declared.outbox.Waiting.TheVariants as waiting
use Rattle.fs_state.specs.Waiting.{Outbox, text_in, is_of, times, readers_in, readers_of, gone, all_gone, AreOrdered, AreBehind}
use Rattle.fs_state.specs.Waiting.{with_event_held, with_events_held}

-- one, where a test holds
abbrev pub one_if : Bool → ℕ
one_if b = cond b 1 0

pub same_number : (n : ℕ) → (n == n) ≡ true
same_number n = grind (arith, nat_tests)

pub other_number : (n m : ℕ) → n ≢ m → (n == m) ≡ false
other_number n m apart = false_from_ne_true (n == m) (λ same. apart (eqb-true n m same))

-- the text of what is found
abbrev text_found : Option (Pair Text) → Text
text_found found = unwrap_or (option_map (λ pair. pair.event) found) []

-- what is below less is below more
pub below_less : (less more : ℕ) (pairs : List (Pair Text)) → less ≤ more → AreBelow less pairs → AreBelow more pairs
below_less less more pairs within below k d here = omega (arith, within, below k d here)

-- ---- an event that somebody is to read is held

pub text_held : (number : ℕ) (pairs : List (Pair Text)) → 0 < readers_of number pairs → event_of number pairs ≡ Some (text_in pairs number)
text_held number pairs some = by (find (has_number number) pairs) some
  where
    by : (found : Option (Pair Text)) → 0 < readers_in found → option_map (λ pair. pair.event) found ≡ Some (text_found found)
    by None some = absurd (omega (arith, some))
    by (Some pair) some = refl

-- ---- one reader less

less_readers : (found : Option (Pair Text)) → readers_in (less_one found) ≡ readers_in found - 1
less_readers None = omega arith
less_readers (Some pair) = on (nat_le pair.readers 1) refl
  where
    on : (b : Bool) → nat_le pair.readers 1 ≡ b →
        readers_in (if b then None else Some (record pair { readers = pair.readers - 1 })) ≡ pair.readers - 1
    on true e = omega (arith, leb-true pair.readers 1 e)
    on false e = refl

less_text : (found : Option (Pair Text)) → 0 < readers_in (less_one found) → text_found (less_one found) ≡ text_found found
less_text None some = refl
less_text (Some pair) some = on (nat_le pair.readers 1) some
  where
    on : (b : Bool) → 0 < readers_in (if b then None else Some (record pair { readers = pair.readers - 1 })) →
        text_found (if b then None else Some (record pair { readers = pair.readers - 1 })) ≡ pair.event
    on true some = absurd (omega (arith, some))
    on false some = refl

pub readers_released : (number other : ℕ) (pairs : List (Pair Text)) → IsSound pairs →
    readers_of other (released number pairs) ≡ readers_of other pairs - one_if (number == other)
readers_released number other pairs sound = by (cases_eq number other)
  where
    by : (number ≡ other) ⊎ (number ≡ other → ⊥) → readers_of other (released number pairs) ≡ readers_of other pairs - one_if (number == other)
    by (inl same) =
        subst (λ n. readers_of n (released number pairs) ≡ readers_of n pairs - one_if (number == n)) same
        (ap readers_in (one_is_released number pairs sound) ∙ less_readers (find (has_number number) pairs)
        ∙ ap (λ b. readers_of number pairs - one_if b) (sym (same_number number)))
    by (inr apart) =
        let none : readers_of other pairs ≡ readers_of other pairs - 0 = omega arith in
        ap readers_in (others_are_held number other pairs apart) ∙ none
        ∙ ap (λ b. readers_of other pairs - one_if b) (sym (other_number number other apart))

pub texts_released : (number other : ℕ) (pairs : List (Pair Text)) → IsSound pairs → 0 < readers_of other (released number pairs) →
    text_in (released number pairs) other ≡ text_in pairs other
texts_released number other pairs sound some = by (cases_eq number other)
  where
    by : (number ≡ other) ⊎ (number ≡ other → ⊥) → text_in (released number pairs) other ≡ text_in pairs other
    by (inl same) =
        let there : 0 < readers_of number (released number pairs) = subst (λ n. 0 < readers_of n (released number pairs)) (sym same) some in
        let found = one_is_released number pairs sound in
        subst (λ n. text_in (released number pairs) n ≡ text_in pairs n) same
        (ap text_found found ∙ less_text (find (has_number number) pairs) (subst (λ f. 0 < readers_in f) found there))
    by (inr apart) = ap text_found (others_are_held number other pairs apart)

-- what holds of all numbers holds of those that are left
all_left : (P : ℕ → Type 0) (number : ℕ) (pairs : List (Pair Text)) → All (λ (pair : Pair Text). P pair.number) pairs →
    All (λ (pair : Pair Text). P pair.number) (released number pairs)
all_left P number [] all = all
all_left P number (pair ∷ pairs) all = by (has_number number pair) (nat_le pair.readers 1) (all_left P number pairs behind)
  where
    Q : Pair Text → Type 0
    Q pair = P pair.number

    behind : All Q pairs
    behind = All-tail Q pair pairs all

    less : Pair Text
    less = record pair { readers = pair.readers - 1 }

    by : (b last : Bool) → All Q (released number pairs) →
        All Q (if b then (if last then pairs else less ∷ pairs) else pair ∷ released number pairs)
    by true true again = behind
    by true false again = All-cons Q less pairs (All-head Q pair pairs all) behind
    by false last again = All-cons Q pair (released number pairs) (All-head Q pair pairs all) again

order_left : (number : ℕ) (pairs : List (Pair Text)) → AreOrdered pairs → AreOrdered (released number pairs)
order_left number [] order = order
order_left number (pair ∷ pairs) order =
    by (has_number number pair) (nat_le pair.readers 1)
    (order_left number pairs (λ i j d before within. order (suc i) (suc j) d (omega (arith, before)) (omega (arith, within))))
  where
    R : Pair Text → Pair Text → Type 0
    R pair later = pair.number < later.number

    behind : AreOrdered pairs
    behind i j d before within = order (suc i) (suc j) d (omega (arith, before)) (omega (arith, within))

    front : All (λ (later : Pair Text). pair.number < later.number) pairs
    front k d within = order zero (suc k) d (omega arith) (omega (arith, within))

    less : Pair Text
    less = record pair { readers = pair.readers - 1 }

    by : (b last : Bool) → AreOrdered (released number pairs) →
        AreOrdered (if b then (if last then pairs else less ∷ pairs) else pair ∷ released number pairs)
    by true true again = behind
    by true false again = AllPairs-cons R less pairs front behind
    by false last again = AllPairs-cons R pair (released number pairs) (all_left (λ n. pair.number < n) number pairs front) again

pub sound_released : (number : ℕ) (pairs : List (Pair Text)) → IsSound pairs → IsSound (released number pairs)
sound_released number pairs sound = record {
  order = order_left number pairs sound.order;
  read = read_left number pairs sound.read;
}

-- ---- what waited is gone

pub readers_gone : (first : Waiting) (number : ℕ) (pairs : List (Pair Text)) → IsSound pairs →
    readers_of number (gone first pairs) ≡ readers_of number pairs - one_if (is_of number first)
readers_gone (waiting.Reply text) number pairs sound = omega arith
readers_gone (waiting.Event other) number pairs sound = readers_released other number pairs sound

pub texts_gone : (first : Waiting) (number : ℕ) (pairs : List (Pair Text)) → IsSound pairs → 0 < readers_of number (gone first pairs) →
    text_in (gone first pairs) number ≡ text_in pairs number
texts_gone (waiting.Reply text) number pairs sound some = refl
texts_gone (waiting.Event other) number pairs sound some = texts_released other number pairs sound some

pub sound_gone : (first : Waiting) (pairs : List (Pair Text)) → IsSound pairs → IsSound (gone first pairs)
sound_gone (waiting.Reply text) pairs sound = sound
sound_gone (waiting.Event other) pairs sound = sound_released other pairs sound

pub below_gone : (first : Waiting) (end : ℕ) (pairs : List (Pair Text)) → AreBelow end pairs → AreBelow end (gone first pairs)
below_gone (waiting.Reply text) end pairs below = below
below_gone (waiting.Event other) end pairs below = numbers_stay_below other end pairs below

-- how often a number stands there
pub times_cons : (number : ℕ) (first : Waiting) (outbox : Outbox) → times number (first ∷ outbox) ≡ one_if (is_of number first) + times number outbox
times_cons number first outbox = sum_by-cons (λ other. cond (is_of number other) 1 0) first outbox

pub readers_all_gone : (outbox : Outbox) (number : ℕ) (pairs : List (Pair Text)) → IsSound pairs →
    readers_of number (all_gone outbox pairs) ≡ readers_of number pairs - times number outbox
readers_all_gone [] number pairs sound = omega arith
readers_all_gone (first ∷ outbox) number pairs sound =
    omega (
      arith,
      readers_all_gone outbox number (gone first pairs) (sound_gone first pairs sound),
      readers_gone first number pairs sound,
      times_cons number first outbox,
    )

pub texts_all_gone : (outbox : Outbox) (number : ℕ) (pairs : List (Pair Text)) → IsSound pairs → 0 < readers_of number (all_gone outbox pairs) →
    text_in (all_gone outbox pairs) number ≡ text_in pairs number
texts_all_gone [] number pairs sound some = refl
texts_all_gone (first ∷ outbox) number pairs sound some =
    let left = sound_gone first pairs sound in
    let more : 0 < readers_of number (gone first pairs) = omega (arith, some, readers_all_gone outbox number (gone first pairs) left) in
    texts_all_gone outbox number (gone first pairs) left some ∙ texts_gone first number pairs sound more

pub sound_all_gone : (outbox : Outbox) (pairs : List (Pair Text)) → IsSound pairs → IsSound (all_gone outbox pairs)
sound_all_gone [] pairs sound = sound
sound_all_gone (first ∷ outbox) pairs sound = sound_all_gone outbox (gone first pairs) (sound_gone first pairs sound)

pub below_all_gone : (outbox : Outbox) (end : ℕ) (pairs : List (Pair Text)) → AreBelow end pairs → AreBelow end (all_gone outbox pairs)
below_all_gone [] end pairs below = below
below_all_gone (first ∷ outbox) end pairs below = below_all_gone outbox end (gone first pairs) (below_gone first end pairs below)

-- ---- more events are held

-- a number that is greater than all is not held
pub none_above : (number : ℕ) (pairs : List (Pair Text)) → AreBelow number pairs → find (has_number number) pairs ≡ None
none_above number [] below = refl
none_above number (pair ∷ pairs) below =
    let first : pair.number < number = All-head (λ (p : Pair Text). p.number < number) pair pairs below in
    let other : (pair.number == number) ≡ false = grind (arith, nat_tests) in
    ap (λ b. if b then Some pair else find (has_number number) pairs) other
    ∙ none_above number pairs (All-tail (λ (p : Pair Text). p.number < number) pair pairs below)

-- how many are to read the event of a number, if it is this
abbrev pub readers_one : ℕ → Pair Text → ℕ
readers_one number event = readers_in (find (has_number number) (event ∷ []))

or_none : (found : Option (Pair Text)) → option_or found None ≡ found
or_none None = refl
or_none (Some pair) = refl

-- what is found behind one more
found_push : (number : ℕ) (event : Pair Text) (pairs : List (Pair Text)) →
    find (has_number number) (pairs ++ event ∷ []) ≡ option_or (find (has_number number) pairs) (find (has_number number) (event ∷ []))
found_push number event pairs = find-append (has_number number) pairs (event ∷ [])

-- where the number is that of the new event, none was found before
found_new : (number : ℕ) (event : Pair Text) (pairs : List (Pair Text)) → AreBelow event.number pairs → (event.number == number) ≡ true →
    find (has_number number) pairs ≡ None
found_new number event pairs below same = none_above number pairs (subst (λ n. AreBelow n pairs) (eqb-true event.number number same) below)

found_other : (number : ℕ) (event : Pair Text) → (event.number == number) ≡ false → find (has_number number) (event ∷ []) ≡ None
found_other number event other = ap (λ b. if b then Some event else None) other

found_same : (number : ℕ) (event : Pair Text) → (event.number == number) ≡ true → find (has_number number) (event ∷ []) ≡ Some event
found_same number event same = ap (λ b. if b then Some event else None) same

pub readers_of_one : (number : ℕ) (event : Pair Text) (pairs : List (Pair Text)) → AreBelow event.number pairs →
    readers_of number (with_event_held event pairs) ≡ readers_of number pairs + readers_one number event
readers_of_one number event pairs below = by (nat_lt 0 event.readers) (event.number == number) refl refl
  where
    by : (some same : Bool) → nat_lt 0 event.readers ≡ some → (event.number == number) ≡ same →
        readers_of number (if some then pairs ++ event ∷ [] else pairs) ≡ readers_of number pairs + readers_one number event
    by true true e s =
        let old = found_new number event pairs below s in
        ap readers_in (found_push number event pairs) ∙ ap (λ f. readers_in (option_or f (find (has_number number) (event ∷ [])))) old
        ∙ omega (arith, ap readers_in old)
    by true false e s =
        let new = found_other number event s in
        ap readers_in (found_push number event pairs) ∙ ap (λ f. readers_in (option_or (find (has_number number) pairs) f)) new
        ∙ ap readers_in (or_none (find (has_number number) pairs)) ∙ omega (arith, ap readers_in new)
    by false true e s =
        let one : readers_one number event ≡ event.readers = ap readers_in (found_same number event s) in
        let same : (if false then pairs ++ event ∷ [] else pairs) ≡ pairs = refl in
        ap (readers_of number) same ∙ omega (arith, ltb-false 0 event.readers e, one)
    by false false e s =
        let one : readers_one number event ≡ 0 = ap readers_in (found_other number event s) in
        let same : (if false then pairs ++ event ∷ [] else pairs) ≡ pairs = refl in
        ap (readers_of number) same ∙ omega (arith, one)

text_of_old : (number : ℕ) (event : Pair Text) (pairs : List (Pair Text)) → 0 < readers_of number pairs →
    text_in (with_event_held event pairs) number ≡ text_in pairs number
text_of_old number event pairs some = by (nat_lt 0 event.readers)
  where
    old : (found behind : Option (Pair Text)) → 0 < readers_in found → text_found (option_or found behind) ≡ text_found found
    old None behind some = absurd (omega (arith, some))
    old (Some pair) behind some = refl

    by : (b : Bool) → text_in (if b then pairs ++ event ∷ [] else pairs) number ≡ text_in pairs number
    by true =
        ap text_found (found_push number event pairs)
        ∙ old (find (has_number number) pairs) (find (has_number number) (event ∷ [])) some
    by false = refl

text_of_new : (number : ℕ) (event : Pair Text) (pairs : List (Pair Text)) → AreBelow event.number pairs → (event.number == number) ≡ true →
    0 < event.readers → text_in (with_event_held event pairs) number ≡ event.event
text_of_new number event pairs below same some = by (nat_lt 0 event.readers) refl
  where
    by : (b : Bool) → nat_lt 0 event.readers ≡ b → text_in (if b then pairs ++ event ∷ [] else pairs) number ≡ event.event
    by true e =
        ap text_found (found_push number event pairs)
        ∙ ap (λ f. text_found (option_or f (find (has_number number) (event ∷ [])))) (found_new number event pairs below same)
        ∙ ap text_found (found_same number event same)
    by false e = absurd (omega (arith, some, ltb-false 0 event.readers e))

sound_of_one : (event : Pair Text) (pairs : List (Pair Text)) → IsSound pairs → AreBelow event.number pairs → IsSound (with_event_held event pairs)
sound_of_one event pairs sound below = by (nat_lt 0 event.readers) refl
  where
    by : (b : Bool) → nat_lt 0 event.readers ≡ b → IsSound (if b then pairs ++ event ∷ [] else pairs)
    by true e = record {
      order = all_pairs_push (λ (pair : Pair Text) later. pair.number < later.number) pairs event sound.order below;
      read = All-push (λ (pair : Pair Text). 0 < pair.readers) pairs event sound.read (ltb-true 0 event.readers e);
    }
    by false e = sound

below_of_one : (end : ℕ) (event : Pair Text) (pairs : List (Pair Text)) → AreBelow end pairs → event.number < end →
    AreBelow end (with_event_held event pairs)
below_of_one end event pairs below less = by (nat_lt 0 event.readers)
  where
    by : (b : Bool) → AreBelow end (if b then pairs ++ event ∷ [] else pairs)
    by true = All-push (λ (pair : Pair Text). pair.number < end) pairs event below less
    by false = below

-- ---- one after another

front_of : (event : Pair Text) (events : List (Pair Text)) → AreOrdered (event ∷ events) → All (λ (later : Pair Text). event.number < later.number) events
front_of event events order k d within = order zero (suc k) d (omega arith) (omega (arith, within))

pub order_behind : (event : Pair Text) (events : List (Pair Text)) → AreOrdered (event ∷ events) → AreOrdered events
order_behind event events order i j d before within = order (suc i) (suc j) d (omega (arith, before)) (omega (arith, within))

pub first_behind : (event : Pair Text) (events pairs : List (Pair Text)) → AreBehind pairs (event ∷ events) → AreBelow event.number pairs
first_behind event events pairs behind = All-head (λ (e : Pair Text). AreBelow e.number pairs) event events behind.each

pub rest_behind : (event : Pair Text) (events pairs : List (Pair Text)) → AreOrdered (event ∷ events) → AreBehind pairs (event ∷ events) →
    AreBehind (with_event_held event pairs) events
rest_behind event events pairs order behind = record {
  each = λ k d within. below_of_one _ event pairs (behind.each (suc k) d (omega (arith, within))) (front_of event events order k d within);
}

none_below : (number : ℕ) (events : List (Pair Text)) → All (λ (later : Pair Text). number < later.number) events →
    find (has_number number) events ≡ None
none_below number [] above = refl
none_below number (event ∷ events) above =
    let first : number < event.number = All-head (λ (e : Pair Text). number < e.number) event events above in
    let other : (event.number == number) ≡ false = grind (arith, nat_tests) in
    ap (λ b. if b then Some event else find (has_number number) events) other
    ∙ none_below number events (All-tail (λ (e : Pair Text). number < e.number) event events above)

-- the first event is of the number, or another one
pub readers_cons : (number : ℕ) (event : Pair Text) (events : List (Pair Text)) → AreOrdered (event ∷ events) →
    readers_of number (event ∷ events) ≡ readers_one number event + readers_of number events
readers_cons number event events order = by (event.number == number) refl
  where
    by : (same : Bool) → (event.number == number) ≡ same →
        readers_in (if same then Some event else find (has_number number) events)
        ≡ readers_in (if same then Some event else None) + readers_of number events
    by true s =
        let none = none_below event.number events (front_of event events order) in
        let rest : readers_of number events ≡ 0 =
        ap readers_in (subst (λ n. find (has_number n) events ≡ None) (eqb-true event.number number s) none) in
        omega (arith, rest)
    by false s = omega arith

pub readers_held : (number : ℕ) (events pairs : List (Pair Text)) → AreOrdered events → AreBehind pairs events →
    readers_of number (with_events_held events pairs) ≡ readers_of number pairs + readers_of number events
readers_held number [] pairs order behind = omega arith
readers_held number (event ∷ events) pairs order behind =
    omega (
      arith,
      readers_held number events (with_event_held event pairs) (order_behind event events order) (rest_behind event events pairs order behind),
      readers_of_one number event pairs (first_behind event events pairs behind),
      readers_cons number event events order,
    )

pub texts_old : (number : ℕ) (events pairs : List (Pair Text)) → AreOrdered events → AreBehind pairs events → 0 < readers_of number pairs →
    text_in (with_events_held events pairs) number ≡ text_in pairs number
texts_old number [] pairs order behind some = refl
texts_old number (event ∷ events) pairs order behind some =
    let held : 0 < readers_of number (with_event_held event pairs) =
    omega (arith, some, readers_of_one number event pairs (first_behind event events pairs behind)) in
    texts_old number events (with_event_held event pairs) (order_behind event events order) (rest_behind event events pairs order behind) held
    ∙ text_of_old number event pairs some

pub texts_new : (number : ℕ) (events pairs : List (Pair Text)) → AreOrdered events → AreBehind pairs events → 0 < readers_of number events →
    text_in (with_events_held events pairs) number ≡ text_in events number
texts_new number [] pairs order behind some = absurd (omega (arith, some))
texts_new number (event ∷ events) pairs order behind some =
    by (event.number == number) refl
    (texts_new number events (with_event_held event pairs) (order_behind event events order) (rest_behind event events pairs order behind))
  where
    held : List (Pair Text)
    held = with_event_held event pairs

    by : (same : Bool) → (event.number == number) ≡ same →
        (0 < readers_of number events → text_in (with_events_held events held) number ≡ text_in events number) →
        text_in (with_events_held events held) number ≡ text_in (event ∷ events) number
    by true s again =
        let first : find (has_number number) (event ∷ events) ≡ Some event = ap (λ b. if b then Some event else find (has_number number) events) s in
        let read : 0 < event.readers = subst (λ f. 0 < readers_in f) first some in
        let below = first_behind event events pairs behind in
        let there : 0 < readers_of number held =
        omega (arith, read, readers_of_one number event pairs below, ap readers_in (found_same number event s)) in
        texts_old number events held (order_behind event events order) (rest_behind event events pairs order behind) there
        ∙ text_of_new number event pairs below s read ∙ sym (ap text_found first)
    by false s again =
        let rest : find (has_number number) (event ∷ events) ≡ find (has_number number) events =
        ap (λ b. if b then Some event else find (has_number number) events) s in
        again (subst (λ f. 0 < readers_in f) rest some) ∙ sym (ap text_found rest)

pub sound_held : (events pairs : List (Pair Text)) → IsSound pairs → AreOrdered events → AreBehind pairs events → IsSound (with_events_held events pairs)
sound_held [] pairs sound order behind = sound
sound_held (event ∷ events) pairs sound order behind =
    sound_held events (with_event_held event pairs) (sound_of_one event pairs sound (first_behind event events pairs behind))
    (order_behind event events order) (rest_behind event events pairs order behind)

pub below_held : (end : ℕ) (events pairs : List (Pair Text)) → AreBelow end pairs → AreBelow end events → AreBelow end (with_events_held events pairs)
below_held end [] pairs below less = below
below_held end (event ∷ events) pairs below less =
    below_held end events (with_event_held event pairs)
    (below_of_one end event pairs below (All-head (λ (e : Pair Text). e.number < end) event events less))
    (All-tail (λ (e : Pair Text). e.number < end) event events less)
