use Rattle.std.proofs.Common.{ap, ◌∙◌}
use Rattle.std.proofs.lemmas.Result.{err_from_is_err_and}
use Rattle.fs_book.proofs.Lists.{prefix_self}
use Rattle.fs_conn.specs.Play.{noted, after_settling, after_waiting, after_taking_all}
use Rattle.fs_conn.specs.Playing.{seen, play_of, HasFilledSo}
use Rattle.fs_conn.proofs.PlayLemmas.{goes_then, goes_waited, goes_all_taken}
use Rattle.fs_conn.proofs.StepLemmas.{halts_on, does_then}
use Rattle.fs_conn.proofs.SendLemmas.{only_then, reads_only, reads_then, writing_none, sends_none, sends_later}
use Rattle.fs_conn.proofs.HereLemmas.{free_sent}
use Rattle.fs_conn.proofs.NoteLemmas.{notes_before, notes_stopped, notes_then, adds_then, stopped_then, loads_then}
use Rattle.fs_conn.proofs.playing.Play.follow.Goals as goal

pub returns-in_err-settle-clause-does : goal.returns-in_err-settle-clause-does
returns-in_err-settle-clause-does g c =
    let p = err_from_is_err_and c.from_residual.result c.from_residual.ensures.1 in
    λ notes are. rw (p.1, p.2)
    (halts_on (λ q. after_taking_all (after_waiting q)) (goes_then after_waiting after_taking_all goes_waited goes_all_taken)
    c.in_err-settle.field-0.0 (play_of notes (seen c.settle.new.self)) (after_settling (play_of notes (seen c.args.self.now)))
    (c.in_err-settle.ensures.does notes are))

pub returns-in_err-wait_out-clause-does : goal.returns-in_err-wait_out-clause-does
returns-in_err-wait_out-clause-does g c =
    let p = err_from_is_err_and c.from_residual-in_err-wait_out.result c.from_residual-in_err-wait_out.ensures.1 in
    λ notes are.
    let before =
    notes_stopped _ _ c.in_err-wait_out.field-0.0 (seen c.settle.new.self) (seen c.wait_out.new.self) notes c.in_err-wait_out.ensures.loads are in
    rw (p.1, p.2, ← c.in_ok-settle.ensures.does notes before)
    (halts_on after_taking_all goes_all_taken c.in_err-wait_out.field-0.0 (play_of notes (seen c.wait_out.new.self))
    (after_waiting (play_of notes (seen c.settle.new.self))) (c.in_err-wait_out.ensures.does notes are))

pub returns-clause-does : goal.returns-clause-does
returns-clause-does g c = λ notes are.
    let before = notes_then _ _ (seen c.wait_out.new.self) (seen c.send_frames.new.self) c.send_frames.result notes c.send_frames.ensures.loads are in
    let first =
    notes_before (seen c.settle.new.self) (seen c.wait_out.new.self) c.in_ok-wait_out.ensures.loads.entries notes
    c.in_ok-wait_out.ensures.loads.more before in
    does_then after_taking_all (play_of notes (seen c.wait_out.new.self)) (after_waiting (after_settling (play_of notes (seen c.args.self.now))))
    (play_of notes (seen c.send_frames.new.self)) c.send_frames.result
    (c.in_ok-wait_out.ensures.does notes before ∙ ap after_waiting (c.in_ok-settle.ensures.does notes first))
    (c.send_frames.ensures.does notes are)

pub returns-in_err-settle-clause-sends : goal.returns-in_err-settle-clause-sends
returns-in_err-settle-clause-sends g c =
    let p = err_from_is_err_and c.from_residual.result c.from_residual.ensures.1 in
    rw (p.1, p.2)
    (sends_none HasFilledSo (seen c.args.self.now) (seen c.settle.new.self) c.in_err-settle.field-0.0
    c.settle.ensures.works.output c.settle.ensures.only c.in_err-settle.ensures.unwritten)

pub returns-in_err-wait_out-clause-sends : goal.returns-in_err-wait_out-clause-sends
returns-in_err-wait_out-clause-sends g c =
    let p = err_from_is_err_and c.from_residual-in_err-wait_out.result c.from_residual-in_err-wait_out.ensures.1 in
    rw (p.1, p.2)
    (sends_none HasFilledSo (seen c.args.self.now) (seen c.wait_out.new.self) c.in_err-wait_out.field-0.0
    (c.wait_out.ensures.works.output ∙ c.settle.ensures.works.output)
    (only_then _ _ _ c.settle.ensures.only c.wait_out.ensures.only) c.in_err-wait_out.ensures.unwritten)

pub returns-clause-sends : goal.returns-clause-sends
returns-clause-sends g c =
    let old = seen c.args.self.now in
    let mid = seen c.wait_out.new.self in
    sends_later HasFilledSo old mid (seen c.send_frames.new.self) c.send_frames.result
    (writing_none old mid (c.wait_out.ensures.works.output ∙ c.settle.ensures.works.output)
    (only_then _ _ _ c.settle.ensures.only c.wait_out.ensures.only)) c.send_frames.ensures.sends

pub returns-clause-reads : goal.returns-clause-reads
returns-clause-reads g c =
    reads_then _ _ _ (reads_only _ _ (only_then _ _ _ c.settle.ensures.only c.wait_out.ensures.only)) c.send_frames.ensures.reads

pub returns-in_err-settle-clause-loads : goal.returns-in_err-settle-clause-loads
returns-in_err-settle-clause-loads g c =
    let p = err_from_is_err_and c.from_residual.result c.from_residual.ensures.1 in rw (p.1, p.2) c.in_err-settle.ensures.loads

pub returns-in_err-wait_out-clause-loads : goal.returns-in_err-wait_out-clause-loads
returns-in_err-wait_out-clause-loads g c =
    let p = err_from_is_err_and c.from_residual-in_err-wait_out.result c.from_residual-in_err-wait_out.ensures.1 in
    rw (p.1, p.2)
    (stopped_then _ c.in_err-wait_out.field-0.0 (seen c.args.self.now) (seen c.settle.new.self) (seen c.wait_out.new.self)
    c.in_ok-settle.ensures.loads c.in_err-wait_out.ensures.loads)

pub returns-clause-loads : goal.returns-clause-loads
returns-clause-loads g c =
    loads_then _ (seen c.args.self.now) (seen c.wait_out.new.self) (seen c.send_frames.new.self) c.send_frames.result
    (adds_then _ _ _ c.in_ok-settle.ensures.loads c.in_ok-wait_out.ensures.loads) c.send_frames.ensures.loads

pub returns-clause-free : goal.returns-clause-free
returns-clause-free g c =
    free_sent (play_of (noted c.send_frames.new.self.machine.now.journal) (seen c.wait_out.new.self)) _ c.send_frames.result
    (c.send_frames.ensures.does _ (prefix_self _)) c.in_ok-wait_out.ensures.free
