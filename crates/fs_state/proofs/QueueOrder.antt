-- Each queue is in order, and has those who wait there, each once.
use Rattle.std.proofs.Common.{◌≡◌, ◌≢◌, ◌⊎◌, inl, inr, ℕ, zero, suc, ◌+◌, ◌==◌, ◌≤◌, Bool, true, false, ◌||◌, ◌&&◌, if◌then◌else◌, List, [], ◌∷◌, ◌++◌}
use Rattle.std.proofs.Common.{Option, None, Some, All, refl, sym, ap, ◌∙◌, arith}
use Rattle.std.specs.Prelude.{nat_lt}
use Rattle.std.specs.List.{AllPairs}
use Rattle.std.specs.Str.{bytes_eq}
use Rattle.std.proofs.lemmas.Bool.Decides.{nat_tests}
use Rattle.std.proofs.lemmas.List.Elements.{All-nil, All-cons, All-head, All-tail, All-weaker}
use Rattle.std.proofs.lemmas.List.Kept.{AllPairs-cons}
use Rattle.std.proofs.lemmas.Option.{none-some, same_Some}
use Rattle.std.proofs.lemmas.Slice.Eq.{bytes_eq-Decides}
use Rattle.fs_text.specs.Texts.{Text}
use Rattle.fs_chan.specs.declared.chan.Chan.{Chan}
use Rattle.fs_chan.specs.declared.turn.Turn.{Turn}
use Rattle.fs_text.specs.State.{state_number, state_row}
use Rattle.fs_text.specs.declared.states.State.{State}
use Rattle.fs_text.specs.declared.states.State.TheVariants.{CsExecute, CsPark, CsHangup}
use Rattle.fs_chan.specs.declared.wait.Wait.{Wait}
use Rattle.fs_chan.specs.declared.wait.Wait.TheVariants.{FifoIn}
use Rattle.fs_chan.specs.Queueing.{is_sooner, queue_in, queue_of, turn_in, turn_of}
use Rattle.fs_bridge.specs.Hangups.{IsOneOf}
use Rattle.fs_seats.specs.Seats.{held_in}
use Rattle.fs_state.specs.Switch.{Switch, chan_at}
use Rattle.fs_state.specs.Queues.{Caller, turn_at, caller_in, callers_from, placed, in_turn, queue}
use Rattle.fs_state.specs.QueueLaws.{IsNoLater, IsSoundQueue, WaitsThere}

-- ---- whose turn comes first

pub sooner_before : (a b : Caller) → is_sooner a.1 b.1 ≡ true → IsNoLater a b
sooner_before a b is = by (nat_lt a.1.priority b.1.priority) refl (a.1.priority == b.1.priority) refl is
  where
    by : (less : Bool) → nat_lt a.1.priority b.1.priority ≡ less → (same : Bool) → (a.1.priority == b.1.priority) ≡ same →
        (less || (same && nat_lt a.1.arrival b.1.arrival)) ≡ true → IsNoLater a b
    by true less same is all = inl (grind (arith, nat_tests))
    by false less true is all = inr (grind (arith, nat_tests), grind (arith, nat_tests))
    by false less false is all = absurd (cc all)

pub other_before : (a b : Caller) → is_sooner a.1 b.1 ≡ false → IsNoLater b a
other_before a b is = by (nat_lt a.1.priority b.1.priority) refl (a.1.priority == b.1.priority) refl is
  where
    by : (less : Bool) → nat_lt a.1.priority b.1.priority ≡ less → (same : Bool) → (a.1.priority == b.1.priority) ≡ same →
        (less || (same && nat_lt a.1.arrival b.1.arrival)) ≡ false → IsNoLater b a
    by true less same is all = absurd (cc all)
    by false less true is all = inr (grind (arith, nat_tests), grind (arith, nat_tests))
    by false less false is all = inl (grind (arith, nat_tests))

before_trans : (a b c : Caller) → IsNoLater a b → IsNoLater b c → IsNoLater a c
before_trans a b c (inl less) (inl more) = inl (omega (arith, less, more))
before_trans a b c (inl less) (inr same) = let is = same.0 in inl (omega (arith, less, is))
before_trans a b c (inr same) (inl more) = let is = same.0 in inl (omega (arith, is, more))
before_trans a b c (inr same) (inr also) =
    let is = same.0 in let at = also.0 in let first = same.1 in let then_ = also.1 in
    inr (omega (arith, is, at), omega (arith, first, then_))

-- ---- one is put among others

module _ (R : Caller → Caller → Type 0) where
  pairs_head : (caller : Caller) (callers : List Caller) → AllPairs R (caller ∷ callers) → All (R caller) callers
  pairs_head caller callers order k d within = order zero (suc k) d (omega arith) (omega (arith, within))

  pairs_tail : (caller : Caller) (callers : List Caller) → AllPairs R (caller ∷ callers) → AllPairs R callers
  pairs_tail caller callers order i j d before within = order (suc i) (suc j) d (omega (arith, before)) (omega (arith, within))

all_placed : (P : Caller → Type 0) (new : Caller) (callers : List Caller) → P new → All P callers → All P (placed new callers)
all_placed P new [] one all = All-cons P new [] one all
all_placed P new (caller ∷ callers) one all =
    by (is_sooner caller.1 new.1) (all_placed P new callers one (All-tail P caller callers all))
  where
    by : (b : Bool) → All P (placed new callers) → All P (if b then caller ∷ placed new callers else new ∷ caller ∷ callers)
    by true again = All-cons P caller (placed new callers) (All-head P caller callers all) again
    by false again = All-cons P new (caller ∷ callers) one all

order_placed : (new : Caller) (callers : List Caller) → AllPairs IsNoLater callers → AllPairs IsNoLater (placed new callers)
order_placed new [] order = AllPairs-cons IsNoLater new [] (All-nil (IsNoLater new)) order
order_placed new (caller ∷ callers) order =
    by (is_sooner caller.1 new.1) refl (order_placed new callers (pairs_tail IsNoLater caller callers order))
  where
    by : (b : Bool) → is_sooner caller.1 new.1 ≡ b → AllPairs IsNoLater (placed new callers) →
        AllPairs IsNoLater (if b then caller ∷ placed new callers else new ∷ caller ∷ callers)
    by true is again =
        AllPairs-cons IsNoLater caller (placed new callers)
        (all_placed (IsNoLater caller) new callers (sooner_before caller new is) (pairs_head IsNoLater caller callers order)) again
    by false is again =
        AllPairs-cons IsNoLater new (caller ∷ callers)
        (All-cons (IsNoLater new) caller callers (other_before caller new is)
        (All-weaker (IsNoLater caller) (IsNoLater new) (λ other later. before_trans new caller other (other_before caller new is) later)
        callers (pairs_head IsNoLater caller callers order))) order

in_order : (callers : List Caller) → AllPairs IsNoLater (in_turn callers)
in_order [] = λ i j d before within. absurd (omega (arith, within))
in_order (caller ∷ callers) = order_placed caller (in_turn callers) (in_order callers)

-- ---- who stands there

placed_one : (x new : Caller) (callers : List Caller) → IsOneOf x (placed new callers) → (x ≡ new) ⊎ IsOneOf x callers
placed_one x new [] (inl is) = inl is
placed_one x new [] (inr none) = absurd none
placed_one x new (caller ∷ callers) one = by (is_sooner caller.1 new.1) (λ is. placed_one x new callers is) one
  where
    by : (b : Bool) → (IsOneOf x (placed new callers) → (x ≡ new) ⊎ IsOneOf x callers) →
        IsOneOf x (if b then caller ∷ placed new callers else new ∷ caller ∷ callers) → (x ≡ new) ⊎ IsOneOf x (caller ∷ callers)
    by true again (inl is) = inr (inl is)
    by true again (inr later) = elim (again later) [
      | inl is ↦ inl is
      | inr there ↦ inr (inr there)
    ]
    by false again (inl is) = inl is
    by false again (inr there) = inr there

one_placed : (x new : Caller) (callers : List Caller) → (x ≡ new) ⊎ IsOneOf x callers → IsOneOf x (placed new callers)
one_placed x new [] one = one
one_placed x new (caller ∷ callers) one = by (is_sooner caller.1 new.1) (λ is. one_placed x new callers is) one
  where
    by : (b : Bool) → ((x ≡ new) ⊎ IsOneOf x callers → IsOneOf x (placed new callers)) → (x ≡ new) ⊎ IsOneOf x (caller ∷ callers) →
        IsOneOf x (if b then caller ∷ placed new callers else new ∷ caller ∷ callers)
    by true again (inl is) = inr (again (inl is))
    by true again (inr (inl is)) = inl is
    by true again (inr (inr there)) = inr (again (inr there))
    by false again one = one

turn_one : (x : Caller) (callers : List Caller) → IsOneOf x (in_turn callers) → IsOneOf x callers
turn_one x [] one = one
turn_one x (caller ∷ callers) one = elim (placed_one x caller (in_turn callers) one) [
  | inl is ↦ inl is
  | inr there ↦ inr (turn_one x callers there)
]

one_turn : (x : Caller) (callers : List Caller) → IsOneOf x callers → IsOneOf x (in_turn callers)
one_turn x [] one = one
one_turn x (caller ∷ callers) (inl is) = one_placed x caller (in_turn callers) (inl is)
one_turn x (caller ∷ callers) (inr there) = one_placed x caller (in_turn callers) (inr (one_turn x callers there))

-- a caller stands in a slot from one on, and has this turn there
record HeldFrom (name : Text) (chans : List (Option Chan)) (k : ℕ) (caller : Caller) : Type 0 where
  i : ℕ
  slot : caller.0 ≡ k + i
  turn : turn_at name (held_in chans i) ≡ Some caller.1

from_one : (name : Text) (x : Caller) (chans : List (Option Chan)) (k : ℕ) → IsOneOf x (callers_from name k chans) →
    HeldFrom name chans k x
from_one name x [] k one = absurd one
from_one name x (chan ∷ chans) k one = by (turn_at name chan) refl (λ is. from_one name x chans (k + 1) is) one
  where
    later : HeldFrom name chans (k + 1) x → HeldFrom name (chan ∷ chans) k x
    later there = let at = there.slot in record { i = suc there.i; slot = omega (arith, at); turn = there.turn }

    by : (turn : Option Turn) → turn_at name chan ≡ turn → (IsOneOf x (callers_from name (k + 1) chans) → HeldFrom name chans (k + 1) x) →
        IsOneOf x (caller_in k turn ++ callers_from name (k + 1) chans) → HeldFrom name (chan ∷ chans) k x
    by None has again one = later (again one)
    by (Some turn) has again (inl is) =
        let at : x.0 ≡ k = ap (λ (c : Caller). c.0) is in
        record { i = 0; slot = omega (arith, at); turn = has ∙ ap (λ (c : Caller). Some c.1) (sym is) }
    by (Some turn) has again (inr there) = later (again there)

one_from : (name : Text) (turn : Turn) (chans : List (Option Chan)) (k i slot : ℕ) → slot ≡ k + i →
    turn_at name (held_in chans i) ≡ Some turn → IsOneOf (slot, turn) (callers_from name k chans)
one_from name turn [] k i slot at is = absurd (none-some turn is)
one_from name turn (chan ∷ chans) k zero slot at is = by (turn_at name chan) is
  where
    here : slot ≡ k
    here = omega (arith, at)

    by : (found : Option Turn) → found ≡ Some turn → IsOneOf (slot, turn) (caller_in k found ++ callers_from name (k + 1) chans)
    by None found = absurd (none-some turn found)
    by (Some other) found =
        inl (ap (λ (n : ℕ). (n, turn)) here ∙ ap (λ (t : Turn). (k, t)) (sym (same_Some other turn found)))
one_from name turn (chan ∷ chans) k (suc i) slot at is =
    by (turn_at name chan) (one_from name turn chans (k + 1) i slot (omega (arith, at)) is)
  where
    by : (found : Option Turn) → IsOneOf (slot, turn) (callers_from name (k + 1) chans) →
        IsOneOf (slot, turn) (caller_in k found ++ callers_from name (k + 1) chans)
    by None there = there
    by (Some other) there = inr there

-- ---- nobody stands there twice

abbrev Differ : Caller → Caller → Type 0
Differ a b = a.0 ≢ b.0

differ_placed : (new : Caller) (callers : List Caller) → All (Differ new) callers → AllPairs Differ callers →
    AllPairs Differ (placed new callers)
differ_placed new [] none order = AllPairs-cons Differ new [] none order
differ_placed new (caller ∷ callers) none order =
    by (is_sooner caller.1 new.1)
    (differ_placed new callers (All-tail (Differ new) caller callers none) (pairs_tail Differ caller callers order))
  where
    by : (b : Bool) → AllPairs Differ (placed new callers) →
        AllPairs Differ (if b then caller ∷ placed new callers else new ∷ caller ∷ callers)
    by true again =
        AllPairs-cons Differ caller (placed new callers)
        (all_placed (Differ caller) new callers (λ same. All-head (Differ new) caller callers none (sym same))
        (pairs_head Differ caller callers order)) again
    by false again = AllPairs-cons Differ new (caller ∷ callers) none order

all_turns : (P : Caller → Type 0) (callers : List Caller) → All P callers → All P (in_turn callers)
all_turns P [] all = all
all_turns P (caller ∷ callers) all =
    all_placed P caller (in_turn callers) (All-head P caller callers all) (all_turns P callers (All-tail P caller callers all))

-- those of later slots have later slots
all_from : (name : Text) (chans : List (Option Chan)) (k j : ℕ) → j ≤ k → All (λ (c : Caller). j ≤ c.0) (callers_from name k chans)
all_from name [] k j within = All-nil (λ (c : Caller). j ≤ c.0)
all_from name (chan ∷ chans) k j within = by (turn_at name chan) (all_from name chans (k + 1) j (omega (arith, within)))
  where
    by : (found : Option Turn) → All (λ (c : Caller). j ≤ c.0) (callers_from name (k + 1) chans) →
        All (λ (c : Caller). j ≤ c.0) (caller_in k found ++ callers_from name (k + 1) chans)
    by None all = all
    by (Some turn) all = All-cons (λ (c : Caller). j ≤ c.0) (k, turn) (callers_from name (k + 1) chans) within all

differ_from : (name : Text) (chans : List (Option Chan)) (k : ℕ) → AllPairs Differ (in_turn (callers_from name k chans))
differ_from name [] k = λ i j d before within. absurd (omega (arith, within))
differ_from name (chan ∷ chans) k = by (turn_at name chan) (differ_from name chans (k + 1))
  where
    by : (found : Option Turn) → AllPairs Differ (in_turn (callers_from name (k + 1) chans)) →
        AllPairs Differ (in_turn (caller_in k found ++ callers_from name (k + 1) chans))
    by None order = order
    by (Some turn) order =
        differ_placed (k, turn) (in_turn (callers_from name (k + 1) chans))
        (all_turns (Differ (k, turn)) (callers_from name (k + 1) chans)
        (All-weaker (λ (c : Caller). k + 1 ≤ c.0) (Differ (k, turn)) (λ other later same. omega (arith, later, same))
        (callers_from name (k + 1) chans) (all_from name chans (k + 1) (k + 1) (omega arith)))) order

-- ---- of every queue

-- whoever has a turn waits in CS_EXECUTE or CS_PARK, and so is live
turn_lives : (name : Text) (state : State) (wait : Wait) (turn : Turn) → turn_in name state wait ≡ Some turn →
    nat_lt (state_number state) (state_number CsHangup) ≡ true
unfolding state_row
turn_lives name CsExecute wait turn is = refl
turn_lives name CsPark wait turn is = refl
turn_lives name _ wait turn is = absurd (none-some turn is)

pub queue_sound : (name : Text) (s : Switch) → IsSoundQueue name s
queue_sound name s = record {
  order = in_order (callers_from name 0 s.channels);
  callers = λ caller one.
      let held = from_one name caller s.channels 0 (turn_one caller (callers_from name 0 s.channels) one) in
      let at = held.slot in
      let same : held.i ≡ caller.0 = omega (arith, at) in
      stands caller (chan_at s caller.0) refl (ap (λ i. turn_at name (held_in s.channels i)) (sym same) ∙ held.turn);
  all = λ slot c turn there is.
      one_turn (slot, turn) (callers_from name 0 s.channels)
      (one_from name turn s.channels 0 slot slot (omega arith) (ap (turn_at name) there ∙ is));
  once = differ_from name s.channels 0;
}
  where
    stands : (caller : Caller) (found : Option Chan) → chan_at s caller.0 ≡ found → turn_at name found ≡ Some caller.1 →
        WaitsThere name s caller
    stands caller None is turn = absurd (none-some caller.1 turn)
    stands caller (Some c) is turn = record {
      chan = c;
      there = is;
      turn = turn;
      live = turn_lives name c.state c.wait caller.1 turn;
    }

-- a channel has a turn in one queue alone
pub waits_in_one : (name : Text) (c : Chan) (turn : Turn) → turn_of name c ≡ Some turn → queue_of c ≡ Some name
waits_in_one name c turn is = by c.state c.wait is
  where
    named : (queue : Text) (other : Turn) (same : Bool) → bytes_eq queue name ≡ same → (if same then Some other else None) ≡ Some turn →
        queue ≡ name
    named queue other true same is = (bytes_eq-Decides queue name).0 same
    named queue other false same is = absurd (none-some turn is)

    by : (state : State) (wait : Wait) → turn_in name state wait ≡ Some turn → queue_in state wait ≡ Some name
    by CsExecute (FifoIn queue other) is = ap Some (named queue other (bytes_eq queue name) refl is)
    by CsPark (FifoIn queue other) is = ap Some (named queue other (bytes_eq queue name) refl is)
    by CsExecute _ is = absurd (none-some turn is)
    by CsPark _ is = absurd (none-some turn is)
    by _ wait is = absurd (none-some turn is)
