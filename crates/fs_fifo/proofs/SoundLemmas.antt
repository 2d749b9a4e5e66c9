-- Each change leaves queues of which all that holds of queues holds.
use Rattle.std.proofs.Common.{◌≡◌, ℕ, ◌+◌, ◌<◌, ◌≤◌, ◌^◌, ◌==◌, Bool, true, false, not, refl, sym, ap, subst, ◌∙◌}
use Rattle.std.proofs.Common.{arith, length, count_by, Result, Ok, Err, OnOk, OnErr}
use Rattle.std.specs.List.{list_any}
use Rattle.std.proofs.lemmas.Bool.{eqb-true}
use Rattle.std.proofs.lemmas.List.Elements.{All-filter}
use Rattle.std.proofs.lemmas.List.Kept.{AllPairs-filter}
use Rattle.fs_text.specs.Texts.{Text}
use Rattle.fs_fifo.specs.declared.caller.QueuedCaller.{QueuedCaller}
use Rattle.fs_fifo.specs.Laws.{IsBefore, IsSound}
use Rattle.fs_fifo.specs.Queues.{Queues, waits_in, has_slot, stands, placed, newcomer, entered, taken, left}
use Rattle.fs_fifo.proofs.CountLemmas.{one_if, count_placed, count_taken, count_kept, none_counted, few_callers}
use Rattle.fs_fifo.proofs.OrderLemmas.{all_placed, order_placed, all_taken, order_taken}
use Rattle.fs_fifo.proofs.StandingLemmas.{stands_any}

pub entered_sound : (name : Text) (priority slot : ℕ) (queues : Queues) → slot < 2 ^ 16 → stands slot queues ≡ false →
    IsSound queues → IsSound (entered name priority slot queues)
entered_sound name priority slot queues within free sound =
    record {
      order = order_placed new queues sound.order;
      slots = all_placed (λ caller. caller.slot < 2 ^ 16) new queues within sound.slots;
      once = λ other. once other (slot == other) refl;
    }
  where
    new : QueuedCaller
    new = newcomer name priority slot

    nobody : list_any (has_slot slot) queues ≡ false
    nobody = sym (stands_any slot queues) ∙ free

    counted : (other : ℕ) (b : Bool) → (slot == other) ≡ b →
        count_by (has_slot other) (placed new queues) ≡ one_if b + count_by (has_slot other) queues
    counted other b e =
        count_placed (has_slot other) new queues ∙ ap (λ b. one_if b + count_by (has_slot other) queues) e

    once : (other : ℕ) (b : Bool) → (slot == other) ≡ b → count_by (has_slot other) (placed new queues) ≤ 1
    once other true e =
        let none : count_by (has_slot other) queues ≡ 0 =
        subst (λ s. count_by (has_slot s) queues ≡ 0) (eqb-true slot other e) (none_counted (has_slot slot) queues nobody) in
        let all = counted other true e in omega (arith, none, all)
    once other false e = let old = sound.once other in let all = counted other false e in omega (arith, old, all)

pub taken_sound : (name : Text) (queues : Queues) → IsSound queues → IsSound (taken name queues)
taken_sound name queues sound = record {
  order = order_taken (waits_in name) queues sound.order;
  slots = all_taken (λ caller. caller.slot < 2 ^ 16) (waits_in name) queues sound.slots;
  once = λ slot.
      let old = sound.once slot in
      let less = count_taken (has_slot slot) (waits_in name) queues in omega (arith, old, less);
}

pub left_sound : (slot : ℕ) (queues : Queues) → IsSound queues → IsSound (left slot queues)
left_sound slot queues sound =
    record {
      order = AllPairs-filter IsBefore kept queues sound.order;
      slots = All-filter kept (λ caller. caller.slot < 2 ^ 16) queues sound.slots;
      once = λ other.
          let old = sound.once other in
          let less = count_kept (has_slot other) kept queues in omega (arith, old, less);
    }
  where
    kept : QueuedCaller → Bool
    kept = λ caller. not (has_slot slot caller)

-- what was refused is as before
pub sound_either : {T E : Type 0} (result : Result T E) (old next now : Queues) → OnOk result (now ≡ next) →
    OnErr result (now ≡ old) → IsSound old → IsSound next → IsSound now
sound_either (Ok done) old next now changed kept sound after = subst IsSound (sym changed) after
sound_either (Err error) old next now changed kept sound after = subst IsSound (sym kept) sound

-- no more callers wait than there are slots
pub few_wait : (queues : Queues) → IsSound queues → length queues ≤ 2 ^ 16
few_wait queues sound = few_callers queues sound.once sound.slots
