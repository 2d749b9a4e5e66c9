-- What comes of loading for a job, by the files, by the note and by the reply to its entry.
use Rattle.std.proofs.Common.{◌≡◌, ◌≢◌, ℕ, Bool, true, false, not, List, Option, None, Some, inl, inr, refl, sym, ap}
use Rattle.std.proofs.lemmas.Option.{none-some}
use mathlib.Core.List.{IsPrefix}
use Rattle.fs_doc.specs.Reading.{Configuration}
use Rattle.fs_state.specs.Switch.{Switch, is_full_for_load}
use Rattle.fs_machine.specs.declared.entry.Entry.{Entry}
use Rattle.fs_machine.specs.declared.entry.Act.TheVariants as act
use Rattle.fs_machine.specs.declared.note.LoadNote.{LoadNote}
use Rattle.fs_machine.specs.declared.refusal.Refusal.{Refusal}
use Rattle.fs_machine.specs.declared.refusal.Refusal.TheVariants as refusal
use Rattle.fs_machine.specs.Laws.{state_after}
use Rattle.fs_machine.specs.Loading.{load_at, waits_for_load}
use Rattle.fs_machine.specs.Step.{refusal_of, refused_where, refused_as_full_for_load, full_journal, IsRefusedFor}
use Rattle.fs_machine.specs.Turned.{Refuses}
use Rattle.fs_session.specs.declared.worked.Worked.{Worked}
use Rattle.fs_session.specs.declared.worked.Worked.TheVariants.{Did, Idle, Talk, Load, Stopped, Refused}
use Rattle.fs_session.specs.Loading.{Store, IsLoaded, IsLost, Ceased, Fails, Enters, IsNoted, LoadsOnce}
use Rattle.fs_session.specs.Working.{is_final, Stays}
use Rattle.fs_session.proofs.WorkLemmas.{final_refused, gained_on, stays_on}

-- a load that is refused, and not for good, is one for which the job does not wait
ceased : (s : Switch) (now job : ℕ) (note : LoadNote) (why : Refusal) → IsRefusedFor s (load_at now job note) why →
    is_final why ≡ false → (is_full_for_load s ≡ false) × (waits_for_load job s ≡ false)
unfolding refusal_of
ceased s now job note why refused passing =
    by (is_full_for_load s) refl (waits_for_load job s) refl (refused (λ same. absurd (cc (ap is_final same, passing))))
  where
    by : (full : Bool) → is_full_for_load s ≡ full → (waits : Bool) → waits_for_load job s ≡ waits →
        refused_where full (full_journal s) (refused_where (not waits) (refusal.NotDue None) None) ≡ Some why →
        (is_full_for_load s ≡ false) × (waits_for_load job s ≡ false)
    by true is waits other told =
        let same : refusal.JournalFull s.cost s.settings.journal_limit ≡ why = cc told in absurd (cc (ap is_final same, passing))
    by false is false other told = (is, other)
    by false is true other told = absurd (none-some why told)

-- the journal is not full for a load where none is refused so
has_room : (s : Switch) → refused_as_full_for_load s ≡ None → is_full_for_load s ≡ false
has_room s none = by (is_full_for_load s) none
  where
    by : (full : Bool) → refused_where full (full_journal s) None ≡ None → full ≡ false
    by false is = refl
    by true is = absurd (none-some (full_journal s) (sym is))

-- ---- what comes of the entry

module _ (config : Configuration) (seen : List Entry) (mine : List ℕ) (seen' : List Entry) (mine' : List ℕ) (front : IsPrefix seen seen')
    (same : mine' ≡ mine) (now job : ℕ) (note : LoadNote) (why : Refusal) (refused : Refuses config seen' (load_at now job note) why) where
  stays_refused : Stays config seen mine seen' mine'
  stays_refused = record { front = front; same = same; run = refused.before }

  pub fails_load : is_final why ≡ true → Enters config seen mine seen' mine' job note now (Refused why)
  fails_load final = record {
    stays = stays_refused;
    cause = final_refused (state_after config seen') (load_at now job note) why refused.cause final;
  }

  pub ceases_load : is_final why ≡ false → Enters config seen mine seen' mine' job note now (Idle None)
  ceases_load passing =
      let none = ceased (state_after config seen') now job note why refused.cause passing in
      record { stays = stays_refused; room = none.0; none = none.1 }

-- ---- what comes of the look

-- of the files nothing was asked
pub untouched : (store : Store) → IsLost store store
untouched store = inl (record { counts = refl; sizes = refl; loads = inl (λ k. refl) })

module _ (config : Configuration) (seen : List Entry) (mine : List ℕ) (seen' : List Entry) (mine' : List ℕ)
    (stays : Stays config seen mine seen' mine') (job : ℕ) (store : Store) (now : ℕ) where
  pub loads_full : (why : Refusal) → refused_as_full_for_load (state_after config seen') ≡ Some why →
      LoadsOnce config seen mine seen' mine' job store store now (Refused why)
  loads_full why is = (record { stays = stays; cause = λ _. is }, untouched store)

  pub loads_over : refused_as_full_for_load (state_after config seen') ≡ None → waits_for_load job (state_after config seen') ≡ false →
      LoadsOnce config seen mine seen' mine' job store store now (Idle None)
  loads_over room none =
      (record { stays = stays; room = has_room (state_after config seen') room; none = none }, untouched store)

-- whoever wants memory says so
pub loads_wanting : (config : Configuration) (seen : List Entry) (mine : List ℕ) (seen' : List Entry) (mine' : List ℕ) (job : ℕ)
    (old new : Store) (now : ℕ) → Stays config seen mine seen' mine' → IsLost old new →
    LoadsOnce config seen mine seen' mine' job old new now (Refused refusal.Memory)
loads_wanting config seen mine seen' mine' job old new now stays lost =
    (record { stays = stays; cause = λ other. absurd (other refl) }, lost)

-- ---- what comes of it all

-- what was loaded is noted by an entry, or lost
pub loads_entered : (config : Configuration) (seen : List Entry) (mine : List ℕ) (seen' : List Entry) (mine' : List ℕ) (job : ℕ)
    (old new : Store) (note : LoadNote) (now : ℕ) (worked : Worked) → IsLoaded old new note →
    Enters config seen mine seen' mine' job note now worked → LoadsOnce config seen mine seen' mine' job old new now worked
loads_entered config seen mine seen' mine' job old new note now (Did place wakes) loaded enters =
    record { note = note; entered = enters; loaded = loaded }
loads_entered config seen mine seen' mine' job old new note now (Idle None) loaded enters = (enters, inr (note, loaded))
loads_entered config seen mine seen' mine' job old new note now (Refused why) loaded enters = (enters, inr (note, loaded))
loads_entered config seen mine seen' mine' job old new note now (Idle (Some next)) loaded enters = absurd enters
loads_entered config seen mine seen' mine' job old new note now (Talk target) loaded enters = absurd enters
loads_entered config seen mine seen' mine' job old new note now (Load other) loaded enters = absurd enters
loads_entered config seen mine seen' mine' job old new note now Stopped loaded enters = absurd enters

-- what others entered before it changes nothing of that
module _ (config : Configuration) (seen mid : List Entry) (mine mine' : List ℕ) (seen'' : List Entry) (mine'' : List ℕ)
    (front : IsPrefix seen mid) (same : mine' ≡ mine) (job : ℕ) where
  fails_on : (why : Refusal) → Fails config mid mine' seen'' mine'' job why → Fails config seen mine seen'' mine'' job why
  fails_on why fails =
      record { stays = stays_on config seen mid mine mine' seen'' mine'' front same fails.stays; cause = fails.cause }

  ceased_on : Ceased config mid mine' seen'' mine'' job → Ceased config seen mine seen'' mine'' job
  ceased_on over = record {
    stays = stays_on config seen mid mine mine' seen'' mine'' front same over.stays;
    room = over.room;
    none = over.none;
  }

  pub loads_on : (old new : Store) (now : ℕ) (worked : Worked) → LoadsOnce config mid mine' seen'' mine'' job old new now worked →
      LoadsOnce config seen mine seen'' mine'' job old new now worked
  loads_on old new now (Did place wakes) loads = record {
    note = loads.note;
    entered =
        gained_on config seen mid mine mine' seen'' mine'' front same (λ done. done ≡ act.Loaded job loads.note)
        (λ done. done ≡ act.Loaded job loads.note) now place (λ done is. is) loads.entered;
    loaded = loads.loaded;
  }
  loads_on old new now (Idle None) loads = (ceased_on loads.0, loads.1)
  loads_on old new now (Refused why) loads = (fails_on why loads.0, loads.1)
  loads_on old new now (Idle (Some next)) loads = absurd loads
  loads_on old new now (Talk target) loads = absurd loads
  loads_on old new now (Load other) loads = absurd loads
  loads_on old new now Stopped loads = absurd loads
