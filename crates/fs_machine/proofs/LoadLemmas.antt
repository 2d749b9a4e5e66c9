-- What a load does to a switch: nothing, or other contexts come into force with other globals; and then its job ends.
use Rattle.std.proofs.Common.{◌≡◌, ℕ, Option, None, Some, Result, Ok, Err, refl}
use Rattle.fs_text.specs.Texts.{Text}
use Rattle.fs_vars.specs.Variables.{Variables}
use Rattle.fs_doc.specs.declared.fault.DocFault.{DocFault}
use Rattle.fs_doc.specs.Reading.{Configuration, config_of}
use Rattle.fs_state.specs.declared.job.Asker.{Asker}
use Rattle.fs_state.specs.declared.job.Job.{Job}
use Rattle.fs_state.specs.declared.job.JobWork.{JobWork}
use Rattle.fs_state.specs.declared.job.JobWork.TheVariants as work
use Rattle.fs_state.specs.Switch.{Switch, reloaded, job_of}
use Rattle.fs_machine.specs.declared.note.LoadNote.{LoadNote}
use Rattle.fs_machine.specs.declared.note.LoadNote.TheVariants as note
use Rattle.fs_machine.specs.Loading.{taken_over, document_done, load_outcome, load_ended, after_load}
use Rattle.fs_machine.specs.Originations.{set_all}
use Rattle.fs_machine.specs.Owing.{after_job_end}
use Rattle.fs_machine.proofs.Kept.{DoesJob}

-- what holds wherever contexts come into force holds before the job ends
module _ (Q : Switch → Type 0) (takes : (config : Configuration) (globals : Variables) (s : Switch) → Q s →
    Q (record (reloaded config s) { globals = globals })) where
  taken_kept : (config : Configuration) (globals : Option Variables) (s : Switch) → Q s → Q (taken_over config globals s).state
  taken_kept config None s h = h
  taken_kept config (Some globals) s h = takes config globals s h

  document_kept : (read : Result Configuration DocFault) (s : Switch) → Q s → Q (document_done read s).state
  document_kept (Ok config) s h = taken_kept config (set_all config.globals.pairs s.globals) s h
  document_kept (Err fault) s h = h

  pub outcome_kept : (what : LoadNote) (s : Switch) → Q s → Q (load_outcome what s).state
  unfolding load_outcome
  outcome_kept (note.Ready text) s h = document_kept (config_of text) s h
  outcome_kept (note.DocRefused text) s h = h
  outcome_kept (note.PatternRefused text extension condition) s h = h
  outcome_kept (note.PatternTooLarge text extension condition) s h = h
  outcome_kept note.Absent s h = h
  outcome_kept note.Failed s h = h

-- and so does all that is done, by what comes of the end of a job that waits for a load
module _ (Q R : Switch → Type 0) (takes : (config : Configuration) (globals : Variables) (s : Switch) → Q s →
    Q (record (reloaded config s) { globals = globals })) (stays : (s : Switch) → Q s → R s)
    (ends : (number : ℕ) (who : Asker) (answer : Text) (s : Switch) → DoesJob s number who work.Load → Q s →
    R (after_job_end number who answer s)) where
  pub load_kept : (what : LoadNote) (number : ℕ) (s : Switch) → Q s → R (after_load what number s)
  unfolding after_load
  load_kept what number s h = by (job_of s number) refl
    where
      its : (work : JobWork) (who : Asker) → job_of s number ≡ Some (record { asker = who; work = work }) →
          R (load_ended number (Some (record { asker = who; work = work })) (load_outcome what s) s)
      its work.Run who is = stays s h
      its (work.Sleep until) who is = stays s h
      its (work.Originate orig winner caller) who is = stays s h
      its work.Load who is =
          let done : Q (load_outcome what s).state × DoesJob (load_outcome what s).state number who work.Load =
          outcome_kept (λ (t : Switch). Q t × DoesJob t number who work.Load)
          (λ config globals t k. (takes config globals t k.0, record { there = k.1.there }))
          what s (h, record { there = is }) in
          ends number who (load_outcome what s).answer (load_outcome what s).state done.1 done.0

      by : (found : Option Job) → job_of s number ≡ found → R (load_ended number found (load_outcome what s) s)
      by None is = stays s h
      by (Some job) is = its job.work job.asker is
