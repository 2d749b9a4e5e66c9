-- What holds of each caller, and the order in which they stand, once one is put among them or taken.
use Rattle.std.proofs.Common.{◌≡◌, zero, suc, ◌<◌, ◌≤◌, Bool, true, false, List, [], ◌∷◌, refl, ap, arith}
use Rattle.std.proofs.Common.{if◌then◌else◌, All}
use Rattle.std.specs.Prelude.{nat_lt}
use Rattle.std.specs.List.{AllPairs}
use Rattle.std.proofs.lemmas.Bool.Decides.{nat_tests}
use Rattle.std.proofs.lemmas.List.Elements.{All-nil, All-cons, All-head, All-tail, All-weaker}
use Rattle.std.proofs.lemmas.List.Kept.{AllPairs-cons}
use Rattle.fs_fifo.specs.declared.caller.QueuedCaller.{QueuedCaller}
use Rattle.fs_fifo.specs.Laws.{IsBefore, IsPlaced}
use Rattle.fs_fifo.specs.Queues.{is_behind, placed, without_first}

-- ---- the first of those in order, and those behind it

pub order_head : (caller : QueuedCaller) (callers : List QueuedCaller) →
    AllPairs IsBefore (caller ∷ callers) → All (IsBefore caller) callers
order_head caller callers order k d within = order zero (suc k) d (omega arith) (omega (arith, within))

pub order_tail : (caller : QueuedCaller) (callers : List QueuedCaller) →
    AllPairs IsBefore (caller ∷ callers) → AllPairs IsBefore callers
order_tail caller callers order i j d before within = order (suc i) (suc j) d (omega (arith, before)) (omega (arith, within))

-- ---- one is put among them

pub all_placed : (P : QueuedCaller → Type 0) (new : QueuedCaller) (callers : List QueuedCaller) →
    P new → All P callers → All P (placed new callers)
all_placed P new [] one all = All-cons P new [] one all
all_placed P new (caller ∷ callers) one all =
    by (is_behind new.priority caller) (all_placed P new callers one (All-tail P caller callers all))
  where
    by : (b : Bool) → All P (placed new callers) → All P (if b then new ∷ caller ∷ callers else caller ∷ placed new callers)
    by true again = All-cons P new (caller ∷ callers) one all
    by false again = All-cons P caller (placed new callers) (All-head P caller callers all) again

-- whoever stands behind one that comes later does, too
all_later : (new caller : QueuedCaller) (callers : List QueuedCaller) → is_behind new.priority caller ≡ true →
    AllPairs IsBefore (caller ∷ callers) → All (λ other. new.priority < other.priority) (caller ∷ callers)
all_later new caller callers is order =
    All-cons (λ other. new.priority < other.priority) caller callers lower
    (All-weaker (IsBefore caller) (λ other. new.priority < other.priority)
    (λ other before. omega (arith, lower, before)) callers (order_head caller callers order))
  where
    lower : new.priority < caller.priority
    lower = grind (arith, nat_tests)

pub order_placed : (new : QueuedCaller) (callers : List QueuedCaller) →
    AllPairs IsBefore callers → AllPairs IsBefore (placed new callers)
order_placed new [] order = AllPairs-cons IsBefore new [] (All-nil (IsBefore new)) order
order_placed new (caller ∷ callers) order =
    by (is_behind new.priority caller) refl (order_placed new callers (order_tail caller callers order))
  where
    by : (b : Bool) → nat_lt new.priority caller.priority ≡ b → AllPairs IsBefore (placed new callers) →
        AllPairs IsBefore (if b then new ∷ caller ∷ callers else caller ∷ placed new callers)
    by true is again =
        AllPairs-cons IsBefore new (caller ∷ callers)
        (All-weaker (λ other. new.priority < other.priority) (IsBefore new)
        (λ other lower. omega (arith, lower)) (caller ∷ callers) (all_later new caller callers is order)) order
    by false is again =
        AllPairs-cons IsBefore caller (placed new callers)
        (all_placed (IsBefore caller) new callers (grind (arith, nat_tests)) (order_head caller callers order)) again

-- those before it are of its priority or of lesser numbers, and those behind it are not
pub placed_splits : (new : QueuedCaller) (callers : List QueuedCaller) → AllPairs IsBefore callers →
    IsPlaced new callers (placed new callers)
placed_splits new [] order = record {
  one = record { front = []; behind = []; all = refl; rest = refl };
  sooner = All-nil (λ other. other.priority ≤ new.priority);
  later = All-nil (λ other. new.priority < other.priority);
}
placed_splits new (caller ∷ callers) order =
    by (is_behind new.priority caller) refl (placed_splits new callers (order_tail caller callers order))
  where
    by : (b : Bool) → nat_lt new.priority caller.priority ≡ b → IsPlaced new callers (placed new callers) →
        IsPlaced new (caller ∷ callers) (if b then new ∷ caller ∷ callers else caller ∷ placed new callers)
    by true is again = record {
      one = record { front = []; behind = caller ∷ callers; all = refl; rest = refl };
      sooner = All-nil (λ other. other.priority ≤ new.priority);
      later = all_later new caller callers is order;
    }
    by false is again = record {
      one = record {
        front = caller ∷ again.one.front;
        behind = again.one.behind;
        all = ap (λ rest. caller ∷ rest) again.one.all;
        rest = ap (λ rest. caller ∷ rest) again.one.rest;
      };
      sooner = All-cons (λ other. other.priority ≤ new.priority) caller again.one.front (grind (arith, nat_tests)) again.sooner;
      later = again.later;
    }

-- ---- the first that passes is taken

pub all_taken : (P : QueuedCaller → Type 0) (test : QueuedCaller → Bool) (callers : List QueuedCaller) →
    All P callers → All P (without_first test callers)
all_taken P test [] all = all
all_taken P test (caller ∷ callers) all = by (test caller) (all_taken P test callers (All-tail P caller callers all))
  where
    by : (b : Bool) → All P (without_first test callers) → All P (if b then callers else caller ∷ without_first test callers)
    by true again = All-tail P caller callers all
    by false again = All-cons P caller (without_first test callers) (All-head P caller callers all) again

pub order_taken : (test : QueuedCaller → Bool) (callers : List QueuedCaller) →
    AllPairs IsBefore callers → AllPairs IsBefore (without_first test callers)
order_taken test [] order = order
order_taken test (caller ∷ callers) order =
    by (test caller) (order_taken test callers (order_tail caller callers order))
  where
    by : (b : Bool) → AllPairs IsBefore (without_first test callers) →
        AllPairs IsBefore (if b then callers else caller ∷ without_first test callers)
    by true again = order_tail caller callers order
    by false again =
        AllPairs-cons IsBefore caller (without_first test callers)
        (all_taken (IsBefore caller) test callers (order_head caller callers order)) again
