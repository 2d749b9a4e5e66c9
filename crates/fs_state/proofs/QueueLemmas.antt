-- Who is taken next, as callers are gone through from the last slot to the first, and whether somebody waits at all.
use Rattle.std.proofs.Common.{◌≡◌, ℕ, ◌+◌, ◌<◌, Bool, true, false, List, [], ◌∷◌, ◌++◌, length, drop, Option, None, Some, refl, sym, ap, ◌∙◌}
use Rattle.std.proofs.Common.{arith, suc, if◌then◌else◌}
use Rattle.std.specs.Prelude.{is_some, option_map}
use Rattle.std.proofs.lemmas.List.{at_drop_more, get_or-drop}
use Rattle.std.proofs.lemmas.Option.{none-some, same_Some}
use Rattle.fs_text.specs.Texts.{Text}
use Rattle.fs_chan.specs.declared.chan.Chan.{Chan}
use Rattle.fs_chan.specs.declared.turn.Turn.{Turn}
use Rattle.fs_chan.specs.Queueing.{is_sooner, turn_of}
use Rattle.fs_chan.specs.Work.{first_of}
use Rattle.fs_seats.specs.Seats.{held_in, first_seat, IsEmptyFrom}
use Rattle.fs_state.specs.Switch.{Switch, chan_at}
use Rattle.fs_state.specs.Queues.{Caller, turn_at, waits, caller_in, callers_from, placed, in_turn, sooner_of, slot_of, queue, first_caller, has_caller}

-- ---- one caller more

first_if : (b : Bool) (one other : Caller) (more rest : List Caller) →
    first_of (if b then one ∷ more else other ∷ rest) ≡ (if b then Some one else Some other)
first_if true one other more rest = refl
first_if false one other more rest = refl

first_placed : (slot : ℕ) (turn : Turn) (callers : List Caller) →
    first_of (placed (slot, turn) callers) ≡ sooner_of slot (Some turn) (first_of callers)
first_placed slot turn [] = refl
first_placed slot turn (caller ∷ callers) = first_if (is_sooner caller.1 turn) caller (slot, turn) _ _

-- the first of callers, of whom one may stand in front
pub first_with : (slot : ℕ) (turn : Option Turn) (callers : List Caller) →
    first_of (in_turn (caller_in slot turn ++ callers)) ≡ sooner_of slot turn (first_of (in_turn callers))
first_with slot None callers = refl
first_with slot (Some turn) callers = first_placed slot turn (in_turn callers)

-- ---- all of them

-- the first of the callers in slots from one on
abbrev pub first_from : Text → List (Option Chan) → ℕ → Option Caller
first_from name chans slot = first_of (in_turn (callers_from name slot (drop slot chans)))

pub first_step : (name : Text) (chans : List (Option Chan)) (slot : ℕ) → slot < length chans →
    first_from name chans slot ≡ sooner_of slot (turn_at name (held_in chans slot)) (first_from name chans (slot + 1))
first_step name chans slot within =
    at_drop_more (λ left. first_of (in_turn (callers_from name slot left))) chans slot None within
    ∙ first_with slot (turn_at name (held_in chans slot)) (callers_from name (slot + 1) (drop (slot + 1) chans))

none_from : (name : Text) (chans : List (Option Chan)) (slot : ℕ) → ((i : ℕ) → held_in chans i ≡ None) →
    callers_from name slot chans ≡ []
none_from name [] slot none = refl
none_from name (chan ∷ chans) slot none =
    ap (λ (c : Option Chan). caller_in slot (turn_at name c) ++ callers_from name (slot + 1) chans) (none 0)
    ∙ none_from name chans (slot + 1) (λ i. none (suc i))

pub first_nowhere : (name : Text) (chans : List (Option Chan)) (slot : ℕ) → IsEmptyFrom slot chans →
    first_from name chans slot ≡ None
first_nowhere name chans slot empty =
    ap (λ callers. first_of (in_turn callers))
    (none_from name (drop slot chans) slot (λ i. get_or-drop slot chans i None ∙ empty.each (slot + i) (omega arith)))

-- ---- whether somebody waits

some_sooner : (slot : ℕ) (turn : Option Turn) (other : Option Caller) →
    is_some (sooner_of slot turn other) ≡ (if is_some turn then true else is_some other)
some_sooner slot None other = refl
some_sooner slot (Some turn) None = refl
some_sooner slot (Some turn) (Some other) = by (is_sooner other.1 turn)
  where
    by : (b : Bool) → is_some (if b then Some other else Some (slot, turn)) ≡ true
    by true = refl
    by false = refl

waits_there : (name : Text) (chan : Option Chan) → waits name chan ≡ is_some (turn_at name chan)
waits_there name None = refl
waits_there name (Some c) = refl

some_from : (name : Text) (chans : List (Option Chan)) (slot : ℕ) →
    is_some (first_of (in_turn (callers_from name slot chans))) ≡ is_some (first_seat (waits name) chans slot)
some_from name [] slot = refl
some_from name (chan ∷ chans) slot =
    ap is_some (first_with slot (turn_at name chan) (callers_from name (slot + 1) chans))
    ∙ some_sooner slot (turn_at name chan) (first_of (in_turn (callers_from name (slot + 1) chans)))
    ∙ ap (λ (b : Bool). if b then true else is_some (first_of (in_turn (callers_from name (slot + 1) chans)))) (sym (waits_there name chan))
    ∙ by (waits name chan) (some_from name chans (slot + 1))
  where
    by : (b : Bool) →
        is_some (first_of (in_turn (callers_from name (slot + 1) chans))) ≡ is_some (first_seat (waits name) chans (slot + 1)) →
        (if b then true else is_some (first_of (in_turn (callers_from name (slot + 1) chans))))
        ≡ is_some (if b then Some slot else first_seat (waits name) chans (slot + 1))
    by true rest = refl
    by false rest = rest

some_mapped : (first : Option Caller) → is_some (option_map slot_of first) ≡ is_some first
some_mapped None = refl
some_mapped (Some caller) = refl

-- somebody waits just if some channel does
pub waits_is : (name : Text) (s : Switch) → has_caller name s ≡ is_some (first_seat (waits name) s.channels 0)
waits_is name s = some_mapped (first_of (queue name s)) ∙ some_from name s.channels 0

-- ---- who is taken waits

-- a caller stands in a slot from one on, and has this turn there
record StandsFrom (name : Text) (chans : List (Option Chan)) (k : ℕ) (caller : Caller) : Type 0 where
  i : ℕ
  slot : caller.0 ≡ k + i
  turn : turn_at name (held_in chans i) ≡ Some caller.1

module _ (name : Text) (chan : Option Chan) (chans : List (Option Chan)) (k : ℕ) (caller : Caller)
    (later : first_of (in_turn (callers_from name (k + 1) chans)) ≡ Some caller → StandsFrom name chans (k + 1) caller) where
  behind : (rest : Option Caller) → first_of (in_turn (callers_from name (k + 1) chans)) ≡ rest → rest ≡ Some caller →
      StandsFrom name (chan ∷ chans) k caller
  behind rest rest_is one =
      let there = later (rest_is ∙ one) in
      let at = there.slot in
      record { i = suc there.i; slot = omega (arith, at); turn = there.turn }

  here : (turn : Turn) → turn_at name chan ≡ Some turn → Some (k, turn) ≡ Some caller → StandsFrom name (chan ∷ chans) k caller
  here turn has one =
      let same : (k, turn) ≡ caller = same_Some (k, turn) caller one in
      let at : caller.0 ≡ k = ap (λ (c : Caller). c.0) (sym same) in
      record { i = 0; slot = omega (arith, at); turn = has ∙ ap (λ (c : Caller). Some c.1) same }

  either : (turn : Turn) → turn_at name chan ≡ Some turn → (other : Caller) →
      first_of (in_turn (callers_from name (k + 1) chans)) ≡ Some other → (b : Bool) →
      (if b then Some other else Some (k, turn)) ≡ Some caller → StandsFrom name (chan ∷ chans) k caller
  either turn has other rest_is true one = behind (Some other) rest_is one
  either turn has other rest_is false one = here turn has one

  stands_with : (turn : Option Turn) → turn_at name chan ≡ turn → (rest : Option Caller) →
      first_of (in_turn (callers_from name (k + 1) chans)) ≡ rest → sooner_of k turn rest ≡ Some caller →
      StandsFrom name (chan ∷ chans) k caller
  stands_with None has rest rest_is one = behind rest rest_is one
  stands_with (Some turn) has None rest_is one = here turn has one
  stands_with (Some turn) has (Some other) rest_is one = either turn has other rest_is (is_sooner other.1 turn) one

first_stands : (name : Text) (chans : List (Option Chan)) (k : ℕ) (caller : Caller) →
    first_of (in_turn (callers_from name k chans)) ≡ Some caller → StandsFrom name chans k caller
first_stands name [] k caller is = absurd (none-some caller is)
first_stands name (chan ∷ chans) k caller is =
    stands_with name chan chans k caller (first_stands name chans (k + 1) caller) (turn_at name chan) refl
    (first_of (in_turn (callers_from name (k + 1) chans))) refl
    (sym (first_with k (turn_at name chan) (callers_from name (k + 1) chans)) ∙ is)

-- whoever is taken next waits in the queue
pub first_waits : (name : Text) (s : Switch) (slot : ℕ) → first_caller name s ≡ Some slot → (c : Chan) → chan_at s slot ≡ Some c →
    is_some (turn_of name c) ≡ true
first_waits name s slot is c there = by (first_of (queue name s)) refl is
  where
    by : (first : Option Caller) → first_of (queue name s) ≡ first → option_map slot_of first ≡ Some slot →
        is_some (turn_of name c) ≡ true
    by None first is = absurd (none-some slot is)
    by (Some caller) first is =
        let stands = first_stands name s.channels 0 caller first in
        let at : caller.0 ≡ slot = same_Some caller.0 slot is in
        let same : stands.i ≡ slot = let its = stands.slot in omega (arith, its, at) in
        ap is_some (sym (ap (turn_at name) (ap (held_in s.channels) same ∙ there)) ∙ stands.turn)
