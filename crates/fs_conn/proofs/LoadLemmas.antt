-- What a load comes to that is due.
use Rattle.std.proofs.Common.{◌≡◌, ◌≢◌, ℕ, Bool, true, false, cond, List, [], ◌∷◌, ◌++◌, Option, None, Some, refl, sym, ap, ◌∙◌, subst}
use Rattle.std.proofs.lemmas.Option.{none-some, same_Some}
use mathlib.Core.List.{IsPrefix}
use Rattle.fs_state.specs.Switch.{Switch, is_full_for_load, at_moment}
use Rattle.fs_machine.specs.declared.due.DueActor.TheVariants as due
use Rattle.fs_machine.specs.declared.entry.Entry.{Entry}
use Rattle.fs_machine.specs.declared.entry.Act.TheVariants.{Loaded}
use Rattle.fs_machine.specs.declared.note.LoadNote.{LoadNote}
use Rattle.fs_machine.specs.declared.refusal.Refusal.{Refusal}
use Rattle.fs_machine.specs.declared.refusal.Refusal.TheVariants as refusal
use Rattle.fs_machine.specs.declared.reply.Reply.{Reply}
use Rattle.fs_machine.specs.Step.{refusal_of, refused_where, refused_act, full_journal, refused_as_full_for_load, IsRefusedFor}
use Rattle.fs_machine.specs.Runs.{View, IsSame}
use Rattle.fs_machine.specs.Loading.{load_at}
use Rattle.fs_machine.proofs.DueLaws.{load_accepted}
use Rattle.fs_conn.specs.declared.end.End.{End}
use Rattle.fs_conn.specs.declared.end.End.TheVariants.{JournalFull, Memory}
use Rattle.fs_conn.specs.declared.stop.Stop.TheVariants.{Over}
use Rattle.fs_conn.specs.Play.{Play, noted, switch_of, next_actor, next_note, end_full, after_judging, after_loading, after_due_work}
use Rattle.fs_conn.specs.Steps.{entry_of, IsPlayFront, Halts, Accepts}
use Rattle.fs_conn.specs.Playing.{Playing, play_of, so_far}
use Rattle.fs_conn.proofs.StepLemmas.{play_at, does_accepts}
use Rattle.fs_conn.proofs.PlayLemmas.{loaded_begins}
use Rattle.fs_conn.proofs.NoteLemmas.{note_next}

-- ---- a journal that has no room for a load

-- what is told of it
pub full_told : (s : Switch) (told : Option Refusal) (why : Refusal) → told ≡ refused_as_full_for_load s → told ≡ Some why →
    (is_full_for_load s ≡ true) × (why ≡ full_journal s)
full_told s told why tells is = by (is_full_for_load s) refl (sym tells ∙ is)
  where
    by : (full : Bool) → is_full_for_load s ≡ full → refused_where full (full_journal s) None ≡ Some why →
        (is_full_for_load s ≡ true) × (why ≡ full_journal s)
    by true full e = (full, sym (same_Some (full_journal s) why e))
    by false full e = absurd (cc e)

pub room_told : (s : Switch) (told : Option Refusal) → told ≡ refused_as_full_for_load s → told ≡ None → is_full_for_load s ≡ false
room_told s told tells is = by (is_full_for_load s) refl (sym tells ∙ is)
  where
    by : (full : Bool) → is_full_for_load s ≡ full → refused_where full (full_journal s) None ≡ None → is_full_for_load s ≡ false
    by true full e = absurd (cc e)
    by false room e = room

-- whatever the next note is, the play ends by that
full_ends : (notes : List LoadNote) (s : Playing) (number : ℕ) (note : Option LoadNote) →
    is_full_for_load (switch_of (so_far s)) ≡ true →
    after_loading number note (play_of notes s) ≡ record (play_of notes s) { end = Some (end_full (switch_of (so_far s))) }
unfolding refusal_of
full_ends notes s number None full =
    ap (λ b. record (play_of notes s) { end = Some (cond b (end_full (switch_of (so_far s))) Memory) }) full
full_ends notes s number (Some note) full =
    ap (λ b. after_judging (refused_where b (full_journal (switch_of (so_far s)))
    (refused_act (Loaded number note) (at_moment s.clock (switch_of (so_far s))))) (entry_of (Loaded number note) (play_of notes s))
    (play_of notes s)) full

pub full_stops : (notes : List LoadNote) (s : Playing) (number cost limit : ℕ) → is_full_for_load (switch_of (so_far s)) ≡ true →
    refusal.JournalFull cost limit ≡ full_journal (switch_of (so_far s)) →
    Halts (Over (JournalFull cost limit)) (play_of notes s) (after_due_work (due.Load number) (play_of notes s))
full_stops notes s number cost limit full is =
    let end : end_full (switch_of (so_far s)) ≡ JournalFull cost limit = cc is in (
      refl,
      full_ends notes s number (next_note (play_of notes s)) full ∙ ap (λ (end : End). record (play_of notes s) { end = Some end }) end,
    )

-- ---- one that has

-- nothing speaks against the load whose turn it is
pub never_refused : (s : Playing) (number : ℕ) (note : LoadNote) (why : Refusal) → next_actor (so_far s) ≡ due.Load number →
    is_full_for_load (switch_of (so_far s)) ≡ false → IsRefusedFor (switch_of (so_far s)) (load_at s.clock number note) why →
    why ≢ refusal.Memory → ⊥
unfolding refusal_of
never_refused s number note why turn room cause other =
    let t = switch_of (so_far s) in
    none-some why
    (sym (ap (λ b. refused_where b (full_journal t) (refused_act (Loaded number note) (at_moment s.clock t))) room
    ∙ load_accepted t s.clock number note turn) ∙ cause other)

-- it was entered, with the next note
pub loaded_does : (notes : List LoadNote) (old new : View) (clock number : ℕ) (note : LoadNote) (answer : Reply) →
    Accepts (Loaded number note) (play_at notes old clock) (play_at notes new clock) answer → IsPrefix (noted new.journal) notes →
    play_at notes new clock ≡ after_due_work (due.Load number) (play_at notes old clock)
loaded_does notes old new clock number note answer accepts are =
    let p = play_at notes old clock in
    let longer : new.journal ≡ old.journal ++ entry_of (Loaded number note) p ∷ [] = ap (λ (q : Play). q.journal) accepts.does in
    let next : next_note p ≡ Some note =
    note_next old.journal clock number note notes (subst (λ (entries : List Entry). IsPrefix (noted entries) notes) longer are) in
    does_accepts (Loaded number note) p (play_at notes new clock) answer accepts refl
    ∙ sym (ap (λ (note : Option LoadNote). after_loading number note p) next)

-- or nothing was, since memory was wanting
pub unloaded_does : (notes : List LoadNote) (old new : View) (clock number : ℕ) → IsSame old new →
    IsPlayFront (play_at notes new clock) (after_due_work (due.Load number) (play_at notes old clock))
unloaded_does notes old new clock number same =
    let p = play_at notes old clock in
    let is : play_at notes new clock ≡ p = rw (same.config, same.journal) refl in
    subst (λ (q : Play). IsPlayFront q (after_due_work (due.Load number) p)) (sym is) (loaded_begins number (next_note p) p)
