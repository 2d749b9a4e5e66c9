use Rattle.std.proofs.Common.{Ok, Err, inl, refl, ◌∙◌}
use Rattle.std.proofs.lemmas.Result.{err_from_is_err_and}
use Rattle.fs_machine.specs.declared.entry.Act.TheVariants.{Close}
use Rattle.fs_machine.specs.declared.entry.Closing.TheVariants.{Sent}
use Rattle.fs_conn.specs.Play.{after_trying_act, after_input_end}
use Rattle.fs_conn.specs.Playing.{seen, play_of, so_far, HasFilledSo, MayClose}
use Rattle.fs_conn.proofs.PlayLemmas.{goes_entered}
use Rattle.fs_conn.proofs.StepLemmas.{halts_on, enters_with, works_enters}
use Rattle.fs_conn.proofs.NoteLemmas.{notes_still, adds_same, adds_then, stopped_adds}
use Rattle.fs_conn.proofs.SendLemmas.{seen_over, reads_only, reads_then, reads_unread, writing_none, writing_then, writing_cleared}
use Rattle.fs_conn.proofs.SendLemmas.{sends_later, sends_entered}
use Rattle.fs_conn.proofs.SendLemmas.{sends_point, sends_before_close, halts_before_close, does_closed, halts_closed}
use Rattle.fs_conn.proofs.playing.Play.finish.Goals as goal

pub returns-in_err-end_input-clause-does : goal.returns-in_err-end_input-clause-does
returns-in_err-end_input-clause-does g c =
    let p = err_from_is_err_and c.from_residual.result c.from_residual.ensures.1 in
    λ notes are. rw (p.1, p.2)
    (halts_on (after_trying_act (Close 1 Sent)) (goes_entered (Close 1 Sent)) _ _
    (after_input_end (play_of notes (seen c.args.self.now))) (c.in_err-end_input.ensures.does notes are))

pub returns-in_err-end_input-clause-sends : goal.returns-in_err-end_input-clause-sends
returns-in_err-end_input-clause-sends g c =
    let p = err_from_is_err_and c.from_residual.result c.from_residual.ensures.1 in
    let old = seen c.args.self.now in
    λ notes are. rw (p.1, p.2)
    (sends_point HasFilledSo (MayClose notes old) old (seen c.end_input.new.self) c.in_err-end_input.field-0.0
    (λ bytes filled. inl filled) c.in_err-end_input.ensures.sends)

pub returns-in_err-write-clause-does : goal.returns-in_err-write-clause-does
returns-in_err-write-clause-does g c =
    let p = err_from_is_err_and c.from_residual-in_err-write.result c.from_residual-in_err-write.ensures.1 in
    let mid = seen_over c.end_input.new.self c.write.new.self in
    λ notes are. rw (p.1, p.2)
    (halts_before_close notes (seen c.args.self.now) (seen c.end_input.new.self) mid c.in_err-write.field-0.0
    (c.in_ok-end_input.ensures.does notes are) refl c.in_err-write.ensures.clears)

pub returns-in_err-write-clause-sends : goal.returns-in_err-write-clause-sends
returns-in_err-write-clause-sends g c =
    let p = err_from_is_err_and c.from_residual-in_err-write.result c.from_residual-in_err-write.ensures.1 in
    let mid = seen_over c.end_input.new.self c.write.new.self in
    λ notes are. rw (p.1, p.2)
    (sends_before_close notes (seen c.args.self.now) (seen c.end_input.new.self) mid c.in_err-write.field-0.0
    c.in_ok-end_input.ensures.sends (c.in_ok-end_input.ensures.does notes are) refl c.in_err-write.ensures.clears)

pub returns-in_err-write-clause-reads : goal.returns-in_err-write-clause-reads
returns-in_err-write-clause-reads g c =
    reads_then _ _ _ c.end_input.ensures.reads (reads_unread c.end_input.new.self c.write.new.self c.write.ensures.unread)

pub returns-in_err-enter-clause-does : goal.returns-in_err-enter-clause-does
returns-in_err-enter-clause-does g c =
    let p = err_from_is_err_and c.from_residual-in_err-enter.result c.from_residual-in_err-enter.ensures.1 in
    λ notes are.
    let before =
    notes_still (seen_over c.end_input.new.self c.write.new.self) (seen c.enter.new.self) notes c.enter.ensures.noted are in
    rw (p.1, p.2)
    (halts_closed notes (seen c.args.self.now) (seen_over c.end_input.new.self c.write.new.self) (seen c.enter.new.self)
    c.in_err-enter.field-0.0 (c.in_ok-end_input.ensures.does notes before) (enters_with notes (Close 1 Sent) (seen_over c.end_input.new.self c.write.new.self) (seen c.enter.new.self)
    (Err c.in_err-enter.field-0.0) c.in_err-enter.ensures.enters))

pub returns-in_err-enter-clause-sends : goal.returns-in_err-enter-clause-sends
returns-in_err-enter-clause-sends g c =
    let p = err_from_is_err_and c.from_residual-in_err-enter.result c.from_residual-in_err-enter.ensures.1 in
    let old = seen c.args.self.now in
    let mid = seen_over c.end_input.new.self c.write.new.self in
    let cleared =
    writing_cleared old (seen c.end_input.new.self) mid c.in_ok-end_input.ensures.sends refl c.in_ok-write.ensures.clears in
    λ notes are. rw (p.1, p.2)
    (sends_later {A = Unit {0}} (MayClose notes old) old mid (seen c.enter.new.self) (Err c.in_err-enter.field-0.0) cleared
    (sends_entered (MayClose notes old) (Close 1 Sent) mid (seen c.enter.new.self) c.in_err-enter.field-0.0
    c.in_err-enter.ensures.enters c.enter.ensures.only))

pub returns-in_err-enter-clause-reads : goal.returns-in_err-enter-clause-reads
returns-in_err-enter-clause-reads g c =
    let unread = reads_unread c.end_input.new.self c.write.new.self c.write.ensures.unread in
    reads_then _ _ _ (reads_then _ _ _ c.end_input.ensures.reads unread) (reads_only _ _ c.enter.ensures.only)

pub returns-clause-does : goal.returns-clause-does
returns-clause-does g c = λ notes are.
    let before =
    notes_still (seen_over c.end_input.new.self c.write.new.self) (seen c.enter.new.self) notes c.enter.ensures.noted are in
    does_closed notes (seen c.args.self.now) (seen_over c.end_input.new.self c.write.new.self) (seen c.enter.new.self) c.in_ok-enter.field-0
    (c.in_ok-end_input.ensures.does notes before) (enters_with notes (Close 1 Sent) (seen_over c.end_input.new.self c.write.new.self) (seen c.enter.new.self)
    (Ok c.in_ok-enter.field-0) c.in_ok-enter.ensures.enters)

pub returns-clause-sends : goal.returns-clause-sends
returns-clause-sends g c = λ notes are.
    let old = seen c.args.self.now in
    let mid = seen_over c.end_input.new.self c.write.new.self in
    let new = seen c.enter.new.self in
    let cleared =
    writing_cleared old (seen c.end_input.new.self) mid c.in_ok-end_input.ensures.sends refl c.in_ok-write.ensures.clears in
    writing_then old mid new cleared
    (writing_none mid new (works_enters (Close 1 Sent) (so_far mid) (so_far new) _ refl c.enter.ensures.enters).output
    c.enter.ensures.only)

pub returns-clause-reads : goal.returns-clause-reads
returns-clause-reads g c =
    let unread = reads_unread c.end_input.new.self c.write.new.self c.write.ensures.unread in
    reads_then _ _ _ (reads_then _ _ _ c.end_input.ensures.reads unread) (reads_only _ _ c.enter.ensures.only)

pub returns-clause-all : goal.returns-clause-all
returns-clause-all g c = c.enter.ensures.only.unsent ∙ c.in_ok-write.ensures.clears.1

pub returns-in_err-end_input-clause-loads : goal.returns-in_err-end_input-clause-loads
returns-in_err-end_input-clause-loads g c =
    let p = err_from_is_err_and c.from_residual.result c.from_residual.ensures.1 in rw (p.1, p.2) c.in_err-end_input.ensures.loads

pub returns-in_err-write-clause-loads : goal.returns-in_err-write-clause-loads
returns-in_err-write-clause-loads g c =
    let p = err_from_is_err_and c.from_residual-in_err-write.result c.from_residual-in_err-write.ensures.1 in
    rw (p.1, p.2)
    (stopped_adds c.in_err-write.field-0.0 (seen c.args.self.now) (seen_over c.end_input.new.self c.write.new.self)
    (adds_same (seen c.args.self.now) (seen c.end_input.new.self) (seen_over c.end_input.new.self c.write.new.self) refl
    c.in_ok-end_input.ensures.loads))

pub returns-in_err-enter-clause-loads : goal.returns-in_err-enter-clause-loads
returns-in_err-enter-clause-loads g c =
    let p = err_from_is_err_and c.from_residual-in_err-enter.result c.from_residual-in_err-enter.ensures.1 in
    let mid = seen_over c.end_input.new.self c.write.new.self in
    rw (p.1, p.2)
    (stopped_adds c.in_err-enter.field-0.0 (seen c.args.self.now) (seen c.enter.new.self)
    (adds_then (seen c.args.self.now) mid (seen c.enter.new.self)
    (adds_same (seen c.args.self.now) (seen c.end_input.new.self) mid refl c.in_ok-end_input.ensures.loads) c.enter.ensures.adds))

pub returns-clause-loads : goal.returns-clause-loads
returns-clause-loads g c =
    let mid = seen_over c.end_input.new.self c.write.new.self in
    adds_then (seen c.args.self.now) mid (seen c.enter.new.self)
    (adds_same (seen c.args.self.now) (seen c.end_input.new.self) mid refl c.in_ok-end_input.ensures.loads) c.enter.ensures.adds
