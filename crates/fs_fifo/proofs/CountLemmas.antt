-- How many callers pass a test, as that of a slot, and so how many there can be.
use Rattle.std.proofs.Common.{◌≡◌, ℕ, suc, ◌+◌, ◌<◌, ◌≤◌, ◌^◌, ◌==◌, Bool, true, false, ◌||◌, List, [], ◌∷◌, length, refl, sym, ap}
use Rattle.std.proofs.Common.{subst, ◌∙◌, arith, if◌then◌else◌, filter, map, All, count_by, eqb, inl, inr}
use Rattle.std.specs.List.{list_any, AllByRecursion, IsDistinct}
use Rattle.std.proofs.lemmas.Bool.{eqb-true, or_cases, false≢true, true≢false}
use Rattle.std.proofs.lemmas.Bool.Decides.{nat_tests}
use Rattle.std.proofs.lemmas.List.Elements.{All-head, All-tail}
use Rattle.std.proofs.lemmas.List.Sums.{sum_by-cons}
use Rattle.std.proofs.lemmas.Map.Steps.{length-le_from_distinct_below}
use Rattle.fs_fifo.specs.declared.caller.QueuedCaller.{QueuedCaller}
use Rattle.fs_fifo.specs.Queues.{has_slot, is_behind, placed, without_first}

-- ---- how many pass a test

-- one, where the test holds
abbrev pub one_if : Bool → ℕ
one_if b = if b then 1 else 0

-- with one more in front
pub count_front : (test : QueuedCaller → Bool) (caller : QueuedCaller) (callers : List QueuedCaller) →
    count_by test (caller ∷ callers) ≡ one_if (test caller) + count_by test callers
count_front test caller callers = sum_by-cons (λ other. one_if (test other)) caller callers

pub count_placed : (test : QueuedCaller → Bool) (new : QueuedCaller) (callers : List QueuedCaller) →
    count_by test (placed new callers) ≡ one_if (test new) + count_by test callers
count_placed test new [] = count_front test new []
count_placed test new (caller ∷ callers) = by (is_behind new.priority caller) (count_placed test new callers)
  where
    by : (b : Bool) → count_by test (placed new callers) ≡ one_if (test new) + count_by test callers →
        count_by test (if b then new ∷ caller ∷ callers else caller ∷ placed new callers)
        ≡ one_if (test new) + count_by test (caller ∷ callers)
    by true again = count_front test new (caller ∷ callers)
    by false again =
        let part = count_front test caller (placed new callers) in
        let whole = count_front test caller callers in omega (arith, part, whole, again)

pub count_taken : (test out : QueuedCaller → Bool) (callers : List QueuedCaller) →
    count_by test (without_first out callers) ≤ count_by test callers
count_taken test out [] = omega arith
count_taken test out (caller ∷ callers) = by (out caller) (count_taken test out callers) (count_front test caller callers)
  where
    by : (b : Bool) → count_by test (without_first out callers) ≤ count_by test callers →
        count_by test (caller ∷ callers) ≡ one_if (test caller) + count_by test callers →
        count_by test (if b then callers else caller ∷ without_first out callers) ≤ count_by test (caller ∷ callers)
    by true again whole = omega (arith, whole)
    by false again whole =
        let part = count_front test caller (without_first out callers) in omega (arith, whole, part, again)

pub count_kept : (test kept : QueuedCaller → Bool) (callers : List QueuedCaller) →
    count_by test (filter kept callers) ≤ count_by test callers
count_kept test kept [] = omega arith
count_kept test kept (caller ∷ callers) = by (kept caller) (count_kept test kept callers) (count_front test caller callers)
  where
    by : (b : Bool) → count_by test (filter kept callers) ≤ count_by test callers →
        count_by test (caller ∷ callers) ≡ one_if (test caller) + count_by test callers →
        count_by test (if b then caller ∷ filter kept callers else filter kept callers) ≤ count_by test (caller ∷ callers)
    by true again whole = let part = count_front test caller (filter kept callers) in omega (arith, whole, part, again)
    by false again whole = omega (arith, whole, again)

-- whoever stands nowhere is not counted
pub none_counted : (test : QueuedCaller → Bool) (callers : List QueuedCaller) → list_any test callers ≡ false → count_by test callers ≡ 0
none_counted test [] none = refl
none_counted test (caller ∷ callers) none =
    by (test caller) none (none_counted test callers) (count_front test caller callers)
  where
    by : (b : Bool) → (b || list_any test callers) ≡ false → (list_any test callers ≡ false → count_by test callers ≡ 0) →
        count_by test (caller ∷ callers) ≡ one_if b + count_by test callers → count_by test (caller ∷ callers) ≡ 0
    by true is again front = absurd (true≢false is)
    by false is again front = let zero = again is in omega (arith, front, zero)

-- whoever is not counted stands nowhere
pub none_stands : (test : QueuedCaller → Bool) (callers : List QueuedCaller) → count_by test callers ≡ 0 → list_any test callers ≡ false
none_stands test [] none = refl
none_stands test (caller ∷ callers) none =
    by (test caller) (none_stands test callers) (sym (count_front test caller callers) ∙ none)
  where
    by : (b : Bool) → (count_by test callers ≡ 0 → list_any test callers ≡ false) → one_if b + count_by test callers ≡ 0 →
        (b || list_any test callers) ≡ false
    by true again none = absurd (omega (arith, none))
    by false again none = again (omega (arith, none))

-- ---- how many there can be

others_apart : (slot : ℕ) (callers : List QueuedCaller) → count_by (has_slot slot) callers ≡ 0 →
    AllByRecursion (λ other. eqb slot other ≡ false) (map (λ caller. caller.slot) callers)
others_apart slot [] none = tt
others_apart slot (caller ∷ callers) none =
    let front = count_front (has_slot slot) caller callers in
    (by (caller.slot == slot) refl front, others_apart slot callers (omega (arith, front, none)))
  where
    by : (b : Bool) → (caller.slot == slot) ≡ b →
        count_by (has_slot slot) (caller ∷ callers) ≡ one_if b + count_by (has_slot slot) callers → eqb slot caller.slot ≡ false
    by true e front = absurd (omega (arith, front, none))
    by false e front = grind (arith, nat_tests)

slots_differ : (callers : List QueuedCaller) → ((slot : ℕ) → count_by (has_slot slot) callers ≤ 1) →
    IsDistinct eqb (map (λ caller. caller.slot) callers)
unfolding IsDistinct
slots_differ [] once = tt
slots_differ (caller ∷ callers) once = (
  others_apart caller.slot callers (
      let own = once caller.slot in
      let front = count_front (has_slot caller.slot) caller callers in
      let same : (caller.slot == caller.slot) ≡ true = grind (arith, nat_tests) in
      let one = ap one_if same in omega (arith, own, front, one)),
  slots_differ callers (λ slot.
      let all = once slot in let front = count_front (has_slot slot) caller callers in omega (arith, all, front)),
)

slots_below : (callers : List QueuedCaller) → All (λ caller. caller.slot < 2 ^ 16) callers →
    (slot : ℕ) → list_any (eqb slot) (map (λ caller. caller.slot) callers) ≡ true → slot < 2 ^ 16
slots_below [] all slot is = absurd (false≢true is)
slots_below (caller ∷ callers) all slot is =
    elim (or_cases (eqb slot caller.slot) (list_any (eqb slot) (map (λ other. other.slot) callers)) is) [
      | inl here ↦ subst (λ s. s < 2 ^ 16) (sym (eqb-true slot caller.slot here)) (All-head (λ other. other.slot < 2 ^ 16) caller callers all)
      | inr behind ↦ slots_below callers (All-tail (λ other. other.slot < 2 ^ 16) caller callers all) slot behind
    ]

slots_length : (callers : List QueuedCaller) → length (map (λ caller. caller.slot) callers) ≡ length callers
slots_length [] = refl
slots_length (caller ∷ callers) = ap suc (slots_length callers)

-- no more than there are slots
pub few_callers : (callers : List QueuedCaller) → ((slot : ℕ) → count_by (has_slot slot) callers ≤ 1) →
    All (λ caller. caller.slot < 2 ^ 16) callers → length callers ≤ 2 ^ 16
few_callers callers once within =
    subst (λ n. n ≤ 2 ^ 16) (slots_length callers)
    (length-le_from_distinct_below (map (λ caller. caller.slot) callers) (2 ^ 16) (slots_differ callers once) (slots_below callers within))
