-- What the counts tell of all events so far.
use Rattle.std.proofs.Common.{◌≡◌, ℕ, ◌+◌, ◌-◌, ◌^◌, ◌<◌, ◌≤◌, ◌==◌, ltb, min, Bool, true, false, List, [], ◌∷◌, ◌++◌, length, cond, Option}
use Rattle.std.proofs.Common.{None, Some, refl, sym, ap, ◌∙◌, arith}
use Rattle.std.specs.List.{count_by}
use Rattle.std.proofs.lemmas.Bool.{eqb-true, eqb-false, ltb-true}
use Rattle.std.proofs.lemmas.List.Sums.{sum_by-append}
use Rattle.std.proofs.lemmas.List.{get_or-set_same, get_or-set_other, length-set, length-replicate, get_or-replicate}
use Rattle.fs_text.specs.declared.causes.Cause.{Cause}
use Rattle.fs_text.specs.declared.causes.Cause.TheVariants.{UnallocatedNumber}
use Rattle.fs_text.specs.declared.event_names.EventName.{EventName}
use Rattle.fs_text.specs.declared.event_names.EventName.TheVariants.{Custom}
use Rattle.fs_text.specs.Cause.{cause_row, cause_number}
use Rattle.fs_text.specs.EventName.{event_row, event_number}
use Rattle.fs_state.specs.declared.event.Event.{Event}
use Rattle.fs_state.specs.Counts.{Tallies, zeros, no_tallies, counted_at, raised_at, with_hangup_counted, with_event_counted}
use Rattle.fs_state.specs.Counts.{with_events_counted, hangup_in, is_named, is_cause, events_named, hangups_for}

-- some events, and then others
pub counted_append : (events others : List Event) (t : Tallies) →
    with_events_counted (events ++ others) t ≡ with_events_counted others (with_events_counted events t)
counted_append [] others t = refl
counted_append (event ∷ events) others t = counted_append events others (with_event_counted event t)

-- ---- one count

-- no count is raised past the last number
abbrev IsLow : ℕ → List ℕ → Type 0
IsLow number counts = (number < length counts) × (counted_at counts number ≤ 2 ^ 64 - 1)

-- the count at a number, where one is raised
raised_here : (counts : List ℕ) (raised number : ℕ) (same : Bool) → (raised == number) ≡ same → IsLow number counts →
    counted_at (raised_at raised counts) number ≡ min (counted_at counts number + cond same 1 0) (2 ^ 64 - 1)
raised_here counts raised number true is low =
    ap (λ n. counted_at (raised_at n counts) number) (eqb-true raised number is)
    ∙ get_or-set_same counts number (min (counted_at counts number + 1) (2 ^ 64 - 1)) 0 low.0
raised_here counts raised number false is low =
    get_or-set_other counts raised number (min (counted_at counts raised + 1) (2 ^ 64 - 1)) 0
    (λ same. eqb-false raised number is (sym same)) ∙ omega (arith, low.1)

raised_low : (counts : List ℕ) (raised number : ℕ) → IsLow number counts → IsLow number (raised_at raised counts)
raised_low counts raised number low = (
  omega (arith, low.0, length-set counts raised (min (counted_at counts raised + 1) (2 ^ 64 - 1))),
  omega (arith, raised_here counts raised number (raised == number) refl low),
)

-- one is counted, and then the others
one_more : {X : Type 0} → (p : X → Bool) (x : X) (xs : List X) → count_by p (x ∷ xs) ≡ cond (p x) 1 0 + count_by p xs
one_more p x xs = omega (arith, sum_by-append (λ y. cond (p y) 1 0) (x ∷ []) xs)

counts_on : (here mid after one others all : ℕ) → mid ≡ min (here + one) (2 ^ 64 - 1) → after ≡ min (mid + others) (2 ^ 64 - 1) →
    all ≡ one + others →
    after ≡ min (here + all) (2 ^ 64 - 1)
counts_on here mid after one others all first rest more = omega (arith, first, rest, more)

-- from none on
from_none : (here all : ℕ) → here ≡ 0 → min (here + all) (2 ^ 64 - 1) ≡ min all (2 ^ 64 - 1)
from_none here all none = omega (arith, none)

zeros_low : (size number : ℕ) → number < size → (IsLow number (zeros size)) × (counted_at (zeros size) number ≡ 0)
unfolding zeros
zeros_low size number within =
    let none : counted_at (zeros size) number ≡ 0 = get_or-replicate size number 0 0 within in
    ((omega (arith, within, length-replicate {A = ℕ} size 0), omega (arith, none)), none)

-- ---- names

event_low : (name : EventName) → ltb (event_number name) 16 ≡ true
unfolding event_row
event_low Custom = refl
event_low _ = refl

named_on : (name : EventName) (events : List Event) (t : Tallies) → IsLow (event_number name) t.events →
    counted_at (with_events_counted events t).events (event_number name)
    ≡ min (counted_at t.events (event_number name) + count_by (is_named name) events) (2 ^ 64 - 1)
named_on name [] t low = omega (arith, low.1)
named_on name (event ∷ events) t low =
    counts_on (counted_at t.events (event_number name)) (counted_at (with_event_counted event t).events (event_number name))
    (counted_at (with_events_counted events (with_event_counted event t)).events (event_number name))
    (cond (is_named name event) 1 0) (count_by (is_named name) events) (count_by (is_named name) (event ∷ events))
    (raised_here t.events (event_number event.name) (event_number name) (is_named name event) refl low)
    (named_on name events (with_event_counted event t) (raised_low t.events (event_number event.name) (event_number name) low))
    (one_more (is_named name) event events)

pub counts_names : (name : EventName) (events : List Event) →
    counted_at (with_events_counted events no_tallies).events (event_number name) ≡ events_named name events
counts_names name events =
    let none = zeros_low 16 (event_number name) (ltb-true (event_number name) 16 (event_low name)) in
    named_on name events no_tallies none.0 ∙ from_none (counted_at (zeros 16) (event_number name)) (count_by (is_named name) events) none.1

-- ---- causes

cause_low : (cause : Cause) → ltb (cause_number cause) 606 ≡ true
unfolding cause_row
cause_low UnallocatedNumber = refl
cause_low _ = refl

hangup_here : (cause : Cause) (told : Option Cause) (hangups : List ℕ) → IsLow (cause_number cause) hangups →
    counted_at (with_hangup_counted told hangups) (cause_number cause)
    ≡ min (counted_at hangups (cause_number cause) + cond (is_cause cause told) 1 0) (2 ^ 64 - 1)
hangup_here cause None hangups low = omega (arith, low.1)
hangup_here cause (Some other) hangups low =
    raised_here hangups (cause_number other) (cause_number cause) (is_cause cause (Some other)) refl low

hangup_low : (cause : Cause) (told : Option Cause) (hangups : List ℕ) → IsLow (cause_number cause) hangups →
    IsLow (cause_number cause) (with_hangup_counted told hangups)
hangup_low cause None hangups low = low
hangup_low cause (Some other) hangups low = raised_low hangups (cause_number other) (cause_number cause) low

hung_on : (cause : Cause) (events : List Event) (t : Tallies) → IsLow (cause_number cause) t.hangups →
    counted_at (with_events_counted events t).hangups (cause_number cause)
    ≡ min (counted_at t.hangups (cause_number cause) + count_by (λ event. is_cause cause (hangup_in event.detail)) events) (2 ^ 64 - 1)
hung_on cause [] t low = omega (arith, low.1)
hung_on cause (event ∷ events) t low =
    let told = hangup_in event.detail in
    counts_on (counted_at t.hangups (cause_number cause)) (counted_at (with_event_counted event t).hangups (cause_number cause))
    (counted_at (with_events_counted events (with_event_counted event t)).hangups (cause_number cause))
    (cond (is_cause cause told) 1 0) (count_by (λ (e : Event). is_cause cause (hangup_in e.detail)) events)
    (count_by (λ (e : Event). is_cause cause (hangup_in e.detail)) (event ∷ events))
    (hangup_here cause told t.hangups low)
    (hung_on cause events (with_event_counted event t) (hangup_low cause told t.hangups low))
    (one_more (λ (e : Event). is_cause cause (hangup_in e.detail)) event events)

pub counts_hangups : (cause : Cause) (events : List Event) →
    counted_at (with_events_counted events no_tallies).hangups (cause_number cause) ≡ hangups_for cause events
counts_hangups cause events =
    let none = zeros_low 606 (cause_number cause) (ltb-true (cause_number cause) 606 (cause_low cause)) in
    hung_on cause events no_tallies none.0
    ∙ from_none (counted_at (zeros 606) (cause_number cause)) (count_by (λ (e : Event). is_cause cause (hangup_in e.detail)) events) none.1

-- ---- all

all_on : (events : List Event) (t : Tallies) → t.all ≤ 2 ^ 64 - 1 →
    (with_events_counted events t).all ≡ min (t.all + length events) (2 ^ 64 - 1)
all_on [] t low = omega (arith, low)
all_on (event ∷ events) t low =
    let first : (with_event_counted event t).all ≡ min (t.all + 1) (2 ^ 64 - 1) = refl in
    let more : length (event ∷ events) ≡ 1 + length events = omega arith in
    counts_on t.all (with_event_counted event t).all (with_events_counted events (with_event_counted event t)).all
    1 (length events) (length (event ∷ events)) first (all_on events (with_event_counted event t) (omega arith)) more

-- as many at least, as far as a count goes
pub all_least : (events : List Event) (t : Tallies) → min (t.all + length events) (2 ^ 64 - 1) ≤ (with_events_counted events t).all
all_least [] t = omega arith
all_least (event ∷ events) t =
    let first : (with_event_counted event t).all ≡ min (t.all + 1) (2 ^ 64 - 1) = refl in
    let more : length (event ∷ events) ≡ 1 + length events = omega arith in
    omega (arith, first, more, all_least events (with_event_counted event t))

pub counts_all : (events : List Event) → (with_events_counted events no_tallies).all ≡ min (length events) (2 ^ 64 - 1)
counts_all events = all_on events no_tallies (omega arith) ∙ from_none 0 (length events) refl
