-- Which slots stand in a queue, once one is put among the callers, or one is taken.
use Rattle.std.proofs.Common.{◌≡◌, ℕ, ◌==◌, Bool, true, false, not, ◌||◌, ◌&&◌, List, [], ◌∷◌, Some, refl, sym, ap, ◌∙◌}
use Rattle.std.proofs.Common.{arith, if◌then◌else◌}
use Rattle.std.specs.Prelude.{option_map, is_some}
use Rattle.std.specs.List.{find, list_any}
use Rattle.std.proofs.lemmas.Bool.Decides.{nat_tests}
use Rattle.std.proofs.lemmas.Map.Views.{any-filter_same}
use Rattle.fs_fifo.specs.declared.caller.QueuedCaller.{QueuedCaller}
use Rattle.fs_fifo.specs.Laws.{EnteredStands, TakenStandsNowhere, LeftStandsNowhere}
use Rattle.fs_fifo.specs.Queues.{Queues, has_slot, is_behind, waits_in, stands, placed, newcomer, entered, taken, left}
use Rattle.fs_fifo.proofs.WithoutLemmas.{first_goes, any_goes}

-- ---- a slot stands where one of the callers is of it

any_found : (test : QueuedCaller → Bool) (callers : List QueuedCaller) →
    is_some (option_map (λ caller. caller.queue) (find test callers)) ≡ list_any test callers
any_found test [] = refl
any_found test (caller ∷ callers) = by (test caller) (any_found test callers)
  where
    by : (b : Bool) → is_some (option_map (λ other. other.queue) (find test callers)) ≡ list_any test callers →
        is_some (option_map (λ other. other.queue) (if b then Some caller else find test callers)) ≡ (b || list_any test callers)
    by true again = refl
    by false again = again

pub stands_any : (slot : ℕ) (queues : Queues) → stands slot queues ≡ list_any (has_slot slot) queues
stands_any slot queues = any_found (has_slot slot) queues

-- ---- after each change

or_swap : (a b c : Bool) → (a || (b || c)) ≡ (b || (a || c))
or_swap true true c = refl
or_swap true false c = refl
or_swap false true c = refl
or_swap false false c = refl

any_placed : (test : QueuedCaller → Bool) (new : QueuedCaller) (callers : List QueuedCaller) →
    list_any test (placed new callers) ≡ (test new || list_any test callers)
any_placed test new [] = refl
any_placed test new (caller ∷ callers) = by (is_behind new.priority caller) (any_placed test new callers)
  where
    by : (b : Bool) → list_any test (placed new callers) ≡ (test new || list_any test callers) →
        list_any test (if b then new ∷ caller ∷ callers else caller ∷ placed new callers)
        ≡ (test new || (test caller || list_any test callers))
    by true again = refl
    by false again = ap (λ rest. test caller || rest) again ∙ or_swap (test caller) (test new) (list_any test callers)

pub entered_stands : EnteredStands
entered_stands name priority slot other queues =
    stands_any other (entered name priority slot queues)
    ∙ any_placed (has_slot other) (newcomer name priority slot) queues
    ∙ ap (λ stood. (slot == other) || stood) (sym (stands_any other queues))

pub taken_stands_nowhere : TakenStandsNowhere
taken_stands_nowhere name caller slot queues sound is =
    stands_any slot (taken name queues)
    ∙ any_goes (has_slot slot) caller queues (taken name queues) (first_goes (waits_in name) caller queues is) (sound.once slot)
    ∙ ap (λ stood. if has_slot slot caller then false else stood) (sym (stands_any slot queues))

pub left_stands_nowhere : LeftStandsNowhere
left_stands_nowhere slot other queues =
    stands_any other (left slot queues)
    ∙ any-filter_same (has_slot other) (λ caller. not (has_slot slot caller)) (not (slot == other)) same queues
    ∙ by (slot == other)
    ∙ ap (λ stood. if slot == other then false else stood) (sym (stands_any other queues))
  where
    same : (caller : QueuedCaller) → (caller.slot == other) ≡ true → not (caller.slot == slot) ≡ not (slot == other)
    same caller is = grind (arith, nat_tests)

    by : (b : Bool) → (not b && list_any (has_slot other) queues) ≡ (if b then false else list_any (has_slot other) queues)
    by true = refl
    by false = refl
