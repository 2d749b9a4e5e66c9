use Rattle.std.proofs.Common.{Ok, Err, refl}
use Rattle.std.proofs.lemmas.Result.{err_from_is_err_and}
use Rattle.fs_machine.specs.declared.entry.Act.TheVariants.{Take}
use Rattle.fs_conn.specs.Playing.{seen, so_far, HasFilledSo}
use Rattle.fs_conn.proofs.StepLemmas.{does_with, enters_with}
use Rattle.fs_conn.proofs.NoteLemmas.{adds_same, stopped_adds, loads_adds}
use Rattle.fs_conn.proofs.SendLemmas.{seen_over, take_replies, frame_does, frame_sends, writing_none, sends_entered, none_entered}
use Rattle.fs_conn.proofs.playing.Play.send_frame.Goals as goal

pub unreachable-requires : goal.unreachable-requires
unreachable-requires g c =
    let accepts = rw c.in-Some.is at c.in_ok-reply.ensures.enters in
    c.in_default-reply.not-Frame _ (take_replies (so_far (seen c.args.self.now)) (so_far (seen c.enter.new.self)) c.in-Some.reply accepts)

pub returns-in_err-reply-clause-sends : goal.returns-in_err-reply-clause-sends
returns-in_err-reply-clause-sends g c =
    let p = err_from_is_err_and c.from_residual.result c.from_residual.ensures.1 in
    rw (p.1, p.2)
    (sends_entered HasFilledSo (Take 1) (seen c.args.self.now) (seen c.enter.new.self) c.in_err-reply.field-0.0
    c.in_err-reply.ensures.enters c.enter.ensures.only)

pub returns-in_default-clause-sends : goal.returns-in_default-clause-sends
returns-in_default-clause-sends g c =
    let old = seen c.args.self.now in
    let new = seen c.enter.new.self in
    writing_none old new (none_entered (Take 1) (so_far old) (so_far new) _ c.in_default.not-Some c.in_ok-reply.ensures.enters)
    c.enter.ensures.only

pub returns-in_err-reply-clause-does : goal.returns-in_err-reply-clause-does
returns-in_err-reply-clause-does g c =
    let p = err_from_is_err_and c.from_residual.result c.from_residual.ensures.1 in
    λ notes are. rw (p.1, p.2)
    (does_with notes (Take 1) (seen c.args.self.now) (seen c.enter.new.self) (Err c.in_err-reply.field-0.0) c.in_err-reply.ensures.enters)

pub returns-in_err-reply-clause-loads : goal.returns-in_err-reply-clause-loads
returns-in_err-reply-clause-loads g c =
    let p = err_from_is_err_and c.from_residual.result c.from_residual.ensures.1 in
    rw (p.1, p.2) (stopped_adds c.in_err-reply.field-0.0 (seen c.args.self.now) (seen c.enter.new.self) c.enter.ensures.adds)

pub returns-clause-does : goal.returns-clause-does
returns-clause-does g c = λ notes are.
    let accepts =
    rw c.in-Frame.is at
    (rw c.in-Some.is at
    (enters_with notes (Take 1) (seen c.args.self.now) (seen c.enter.new.self) (Ok c.in_ok-reply.field-0) c.in_ok-reply.ensures.enters)) in
    frame_does notes (seen c.args.self.now) (seen c.enter.new.self) (seen_over c.enter.new.self c.put.new.self) c.in-Frame.frame c.put.result
    accepts refl (rw c.as_bytes.ensures at c.put.ensures.puts)

pub returns-clause-loads : goal.returns-clause-loads
returns-clause-loads g c =
    loads_adds (seen c.args.self.now) (seen_over c.enter.new.self c.put.new.self) c.put.result
    (adds_same (seen c.args.self.now) (seen c.enter.new.self) (seen_over c.enter.new.self c.put.new.self) refl c.enter.ensures.adds)

pub returns-clause-sends : goal.returns-clause-sends
returns-clause-sends g c =
    let accepts = rw c.in-Frame.is at (rw c.in-Some.is at c.in_ok-reply.ensures.enters) in
    frame_sends (seen c.args.self.now) (seen c.enter.new.self) (seen_over c.enter.new.self c.put.new.self) c.in-Frame.frame c.put.result
    accepts c.enter.ensures.only refl (rw c.as_bytes.ensures at c.put.ensures.puts)

pub returns-in_default-clause-does : goal.returns-in_default-clause-does
returns-in_default-clause-does g c = λ notes are.
    does_with notes (Take 1) (seen c.args.self.now) (seen c.enter.new.self) (Ok c.in_ok-reply.field-0) c.in_ok-reply.ensures.enters
