use Rattle.std.proofs.Common.{Ok, Err, refl, sym, ◌∙◌}
use Rattle.std.proofs.lemmas.Result.{err_from_is_err_and}
use Rattle.fs_machine.specs.declared.entry.Act.TheVariants.{Close}
use Rattle.fs_machine.specs.declared.entry.Closing.TheVariants.{EndOfInput}
use Rattle.fs_conn.specs.Playing.{seen, so_far, HasFilledSo}
use Rattle.fs_conn.proofs.StepLemmas.{does_with, enters_with, works_enters}
use Rattle.fs_conn.proofs.SendLemmas.{only_same, reads_only, reads_then, writing_none, sends_later, sends_entered}
use Rattle.fs_conn.proofs.NoteLemmas.{adds_none, stopped_adds, loads_then}
use Rattle.fs_conn.proofs.TurnLemmas.{input_ended_none, input_ended_by, input_ended_stops}
use Rattle.fs_conn.proofs.playing.Play.end_input.Goals as goal

pub returns-then-not-reads-clause-does : goal.returns-then-not-reads-clause-does
returns-then-not-reads-clause-does g c = λ notes are.
    input_ended_none notes (seen c.args.self.now) (sym c.reads.ensures ∙ c.if-not-reads.true)

pub returns-then-not-reads-clause-sends : goal.returns-then-not-reads-clause-sends
returns-then-not-reads-clause-sends g c = writing_none (seen c.args.self.now) (seen c.args.self.now) refl (only_same (seen c.args.self.now))

pub returns-then-not-reads-clause-loads : goal.returns-then-not-reads-clause-loads
returns-then-not-reads-clause-loads g c = adds_none _ _ refl

pub returns-in_err-enter-clause-does : goal.returns-in_err-enter-clause-does
returns-in_err-enter-clause-does g c =
    let p = err_from_is_err_and c.from_residual.result c.from_residual.ensures.1 in
    let reading = sym c.reads.ensures ∙ c.if-not-reads.false in
    λ notes are. rw (p.1, p.2)
    (input_ended_stops notes (seen c.args.self.now) (seen c.enter.new.self) _ reading (enters_with notes (Close 1 EndOfInput) (seen c.args.self.now) (seen c.enter.new.self)
    (Err c.in_err-enter.field-0.0) c.in_err-enter.ensures.enters))

pub returns-in_err-enter-clause-sends : goal.returns-in_err-enter-clause-sends
returns-in_err-enter-clause-sends g c =
    let p = err_from_is_err_and c.from_residual.result c.from_residual.ensures.1 in
    rw (p.1, p.2)
    (sends_entered HasFilledSo (Close 1 EndOfInput) (seen c.args.self.now) (seen c.enter.new.self) c.in_err-enter.field-0.0
    c.in_err-enter.ensures.enters c.enter.ensures.only)

pub returns-in_err-enter-clause-reads : goal.returns-in_err-enter-clause-reads
returns-in_err-enter-clause-reads g c = reads_only _ _ c.enter.ensures.only

pub returns-in_err-enter-clause-loads : goal.returns-in_err-enter-clause-loads
returns-in_err-enter-clause-loads g c =
    let p = err_from_is_err_and c.from_residual.result c.from_residual.ensures.1 in
    rw (p.1, p.2) (stopped_adds c.in_err-enter.field-0.0 (seen c.args.self.now) (seen c.enter.new.self) c.enter.ensures.adds)

pub returns-clause-does : goal.returns-clause-does
returns-clause-does g c = λ notes are.
    input_ended_by notes (seen c.args.self.now) (seen c.enter.new.self) (seen c.send_frames.new.self) c.send_frames.result
    (sym c.reads.ensures ∙ c.if-not-reads.false)
    (does_with notes (Close 1 EndOfInput) (seen c.args.self.now) (seen c.enter.new.self) (Ok c.in_ok-enter.field-0)
    c.in_ok-enter.ensures.enters) (c.send_frames.ensures.does notes are)

pub returns-clause-sends : goal.returns-clause-sends
returns-clause-sends g c =
    let old = seen c.args.self.now in
    let mid = seen c.enter.new.self in
    let did = works_enters (Close 1 EndOfInput) (so_far old) (so_far mid) _ refl c.enter.ensures.enters in
    sends_later HasFilledSo old mid (seen c.send_frames.new.self) c.send_frames.result
    (writing_none old mid did.output c.enter.ensures.only) c.send_frames.ensures.sends

pub returns-clause-reads : goal.returns-clause-reads
returns-clause-reads g c = reads_then _ _ _ (reads_only _ _ c.enter.ensures.only) c.send_frames.ensures.reads

pub returns-clause-loads : goal.returns-clause-loads
returns-clause-loads g c =
    loads_then _ (seen c.args.self.now) (seen c.enter.new.self) (seen c.send_frames.new.self) c.send_frames.result c.enter.ensures.adds
    c.send_frames.ensures.loads
