-- What each change makes of each queue.
use Rattle.std.proofs.Common.{◌≡◌, Bool, true, false, not, List, [], ◌∷◌, ◌++◌, Option, None, Some, refl, sym}
use Rattle.std.proofs.Common.{ap, subst, ◌∙◌, if◌then◌else◌, filter}
use Rattle.std.specs.Prelude.{option_to_list, option_map}
use Rattle.std.specs.List.{AllPairs, find}
use Rattle.std.specs.Str.{bytes_eq}
use Rattle.std.proofs.lemmas.Bool.{false_from_ne_true}
use Rattle.std.proofs.lemmas.List.Kept.{AllPairs-filter}
use Rattle.std.proofs.lemmas.Slice.Eq.{bytes_eq-Decides}
use Rattle.fs_text.specs.Texts.{Text}
use Rattle.fs_fifo.specs.declared.caller.QueuedCaller.{QueuedCaller}
use Rattle.fs_fifo.specs.Laws.{IsBefore, IsWithout, QueuesAreOrdered, FirstIsTaken, LeastIsTaken, EnteredIsPlaced}
use Rattle.fs_fifo.specs.Laws.{LeftIsGone, OneGoes, OthersStay, NobodyChangesNothing}
use Rattle.fs_fifo.specs.Queues.{waits_in, has_slot, placed, newcomer, entered, without_first, queue, first, taken, left, caller_of}
use Rattle.fs_fifo.proofs.OrderLemmas.{order_head, placed_splits}
use Rattle.fs_fifo.proofs.PositionLemmas.{none_taken}
use Rattle.fs_fifo.proofs.StandingLemmas.{stands_any}
use Rattle.fs_fifo.proofs.WithoutLemmas.{first_goes, found_passes, only_left, none_left, kept_placed, kept_same}

pub queues_are_ordered : QueuesAreOrdered
queues_are_ordered name queues sound = AllPairs-filter IsBefore (waits_in name) queues sound.order

-- ---- taking

first_kept : (test : QueuedCaller → Bool) (callers : List QueuedCaller) →
    filter test callers ≡ option_to_list (find test callers) ++ filter test (without_first test callers)
first_kept test [] = refl
first_kept test (caller ∷ callers) = by (test caller) refl (first_kept test callers)
  where
    rest : List QueuedCaller
    rest = without_first test callers

    by : (b : Bool) → test caller ≡ b → filter test callers ≡ option_to_list (find test callers) ++ filter test rest →
        (if b then caller ∷ filter test callers else filter test callers)
        ≡ option_to_list (if b then Some caller else find test callers) ++ filter test (if b then callers else caller ∷ rest)
    by true e again = refl
    by false e again =
        again
        ∙ sym (ap (λ b. option_to_list (find test callers) ++ (if b then caller ∷ filter test rest else filter test rest)) e)

pub first_is_taken : FirstIsTaken
first_is_taken name queues = first_kept (waits_in name) queues

pub least_is_taken : LeastIsTaken
least_is_taken name caller queues sound is =
    order_head caller (queue name (taken name queues))
    (subst (AllPairs IsBefore) (first_is_taken name queues ∙ ap (λ found. option_to_list found ++ queue name (taken name queues)) is)
    (queues_are_ordered name queues sound))

-- ---- entering

same_name : (name : Text) → bytes_eq name name ≡ true
same_name name = (bytes_eq-Decides name name).1 refl

pub entered_is_placed : EnteredIsPlaced
entered_is_placed name priority slot queues sound =
    kept_placed (waits_in name) (newcomer name priority slot) queues (entered name priority slot queues)
    (placed_splits (newcomer name priority slot) queues sound.order) (same_name name)

-- ---- leaving

kept_twice : (one other : QueuedCaller → Bool) (callers : List QueuedCaller) →
    filter one (filter other callers) ≡ filter other (filter one callers)
kept_twice one other [] = refl
kept_twice one other (caller ∷ callers) = by (one caller) (other caller) refl refl (kept_twice one other callers)
  where
    by : (a b : Bool) → one caller ≡ a → other caller ≡ b → filter one (filter other callers) ≡ filter other (filter one callers) →
        filter one (if b then caller ∷ filter other callers else filter other callers)
        ≡ filter other (if a then caller ∷ filter one callers else filter one callers)
    by true true a b again =
        ap (λ t. if t then caller ∷ filter one (filter other callers) else filter one (filter other callers)) a
        ∙ ap (λ rest. caller ∷ rest) again
        ∙ sym (ap (λ t. if t then caller ∷ filter other (filter one callers) else filter other (filter one callers)) b)
    by true false a b again =
        again ∙ sym (ap (λ t. if t then caller ∷ filter other (filter one callers) else filter other (filter one callers)) b)
    by false true a b again =
        ap (λ t. if t then caller ∷ filter one (filter other callers) else filter one (filter other callers)) a ∙ again
    by false false a b again = again

pub left_is_gone : LeftIsGone
left_is_gone name slot queues = kept_twice (waits_in name) (λ caller. not (has_slot slot caller)) queues

pub one_goes : OneGoes
one_goes queues sound = record {
  taken = λ name caller is. first_goes (waits_in name) caller queues is;
  left = λ slot caller is.
      subst (IsWithout caller queues) (sym (only_left (has_slot slot) queues (sound.once slot))) (first_goes (has_slot slot) caller queues is);
}

-- ---- the other queues, and where nobody is taken or leaves

other_name : (one name other : Text) → one ≡ name → (name ≡ other → ⊥) → bytes_eq one other ≡ false
other_name one name other same apart =
    false_from_ne_true (bytes_eq one other) (λ is. apart (sym same ∙ (bytes_eq-Decides one other).0 is))

pub others_stay : OthersStay
others_stay name other queues sound apart =
    record {
      entered = λ priority slot.
          let new = newcomer name priority slot in
          sym (kept_same (waits_in other) new (placed new queues) queues (placed_splits new queues sound.order).one
          (other_name name name other refl apart));
      taken = taken_elsewhere (first name queues) refl;
      left = λ slot is. left_elsewhere slot (caller_of slot queues) refl is;
    }
  where
    taken_elsewhere : (found : Option QueuedCaller) → first name queues ≡ found → queue other (taken name queues) ≡ queue other queues
    taken_elsewhere None none = ap (queue other) (none_taken (waits_in name) queues none)
    taken_elsewhere (Some caller) found =
        kept_same (waits_in other) caller queues (taken name queues) ((one_goes queues sound).taken name caller found)
        (other_name caller.queue name other ((bytes_eq-Decides caller.queue name).0 (found_passes (waits_in name) caller queues found)) apart)

    left_elsewhere : (slot : _) (found : Option QueuedCaller) → caller_of slot queues ≡ found →
        option_map (λ caller. caller.queue) found ≡ Some name → queue other (left slot queues) ≡ queue other queues
    left_elsewhere slot None found is = absurd (cc)
    left_elsewhere slot (Some caller) found is =
        kept_same (waits_in other) caller queues (left slot queues) ((one_goes queues sound).left slot caller found)
        (other_name caller.queue name other (cc) apart)

pub nobody_changes_nothing : NobodyChangesNothing
nobody_changes_nothing queues = record {
  taken = λ name none. none_taken (waits_in name) queues none;
  left = λ slot none. none_left (has_slot slot) queues (sym (stands_any slot queues) ∙ none);
}
