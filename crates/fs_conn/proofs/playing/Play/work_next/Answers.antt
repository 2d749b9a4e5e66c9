use Rattle.std.proofs.Common.{false, ap}
use Rattle.fs_machine.specs.declared.due.DueActor.{DueActor}
use Rattle.fs_machine.specs.declared.due.DueActor.TheVariants.{Load}
use Rattle.fs_machine.specs.declared.entry.Act.TheVariants.{Work, Dialed, Job}
use Rattle.fs_conn.specs.Play.{after_trying_act, after_due_work, after_due_step}
use Rattle.fs_conn.specs.Playing.{seen, play_of}
use Rattle.fs_conn.proofs.StepLemmas.{does_both}
use Rattle.fs_conn.proofs.playing.Play.work_next.Goals as goal

pub returns-in-Slot-clause-does : goal.returns-in-Slot-clause-does
returns-in-Slot-clause-does g c = λ notes are.
    let p = play_of notes (seen c.args.self.now) in
    does_both (after_trying_act (Work c.in-Slot.slot)) after_due_step p p (play_of notes (seen c.work.new.self)) c.work.result
    (ap (λ (who : DueActor). after_due_work who p) c.in-Slot.ensures.exact) (c.work.ensures.does notes are)

pub returns-in-Dial-clause-does : goal.returns-in-Dial-clause-does
returns-in-Dial-clause-does g c = λ notes are.
    let p = play_of notes (seen c.args.self.now) in
    does_both (after_trying_act (Dialed c.in-Dial.slot false)) after_due_step p p (play_of notes (seen c.work-in-Dial.new.self))
    c.work-in-Dial.result
    (ap (λ (who : DueActor). after_due_work who p) c.in-Dial.ensures.exact) (c.work-in-Dial.ensures.does notes are)

pub returns-in-Job-clause-does : goal.returns-in-Job-clause-does
returns-in-Job-clause-does g c = λ notes are.
    let p = play_of notes (seen c.args.self.now) in
    does_both (after_trying_act (Job c.in-Job.job)) after_due_step p p (play_of notes (seen c.work-in-Job.new.self)) c.work-in-Job.result
    (ap (λ (who : DueActor). after_due_work who p) c.in-Job.ensures.exact) (c.work-in-Job.ensures.does notes are)

pub returns-in-Load-clause-does : goal.returns-in-Load-clause-does
returns-in-Load-clause-does g c = λ notes are.
    let p = play_of notes (seen c.args.self.now) in
    does_both (after_due_work (Load c.in-Load.job)) after_due_step p p (play_of notes (seen c.load.new.self)) c.load.result
    (ap (λ (who : DueActor). after_due_work who p) c.in-Load.ensures.exact) (c.load.ensures.does notes are)
