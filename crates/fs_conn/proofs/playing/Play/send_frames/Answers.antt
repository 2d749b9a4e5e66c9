use Rattle.std.proofs.Common.{length, Err, refl, arith}
use Rattle.std.proofs.lemmas.Result.{err_from_is_err_and}
use Rattle.fs_state.specs.Switch.{waiting_for}
use Rattle.fs_machine.specs.declared.entry.Act.TheVariants.{Take}
use Rattle.fs_conn.specs.Play.{switch_of, after_trying_act, after_taking_all}
use Rattle.fs_conn.specs.Playing.{seen, play_of, so_far, HasFilledSo}
use Rattle.fs_conn.proofs.NoteLemmas.{notes_before, notes_stopped, adds_none, adds_then, stopped_then}
use Rattle.fs_conn.proofs.RoundLemmas.{round_done, rounds_over}
use Rattle.fs_conn.proofs.SendLemmas.{taken_first, taken_stops, only_same, reads_only, reads_then, writing_none, writing_then, sends_later}
use Rattle.fs_conn.proofs.playing.Play.send_frames.Goals as goal

pub loop-init : goal.loop-init
loop-init g c =
    let old = seen c.args.self.now in record {
      reaches = λ notes are. taken_first (play_of notes old);
      sends = writing_none old old refl (only_same old);
      reads = reads_only old old (only_same old);
      adds = adds_none old old refl;
      spent = omega arith;
    }

pub returns-in_err-send_frame-clause-does : goal.returns-in_err-send_frame-clause-does
returns-in_err-send_frame-clause-does g c =
    let p = err_from_is_err_and c.from_residual.result c.from_residual.ensures.1 in
    λ notes are.
    let before =
    notes_stopped _ _ c.in_err-send_frame.field-0.0 (seen c.loop.self) (seen c.send_frame.new.self) notes c.in_err-send_frame.ensures.loads are in
    rw (p.1, p.2)
    (taken_stops c.loop.counter (play_of notes (seen c.args.self.now)) (play_of notes (seen c.loop.self))
    (play_of notes (seen c.send_frame.new.self)) c.in_err-send_frame.field-0.0 (omega (arith, c.waiting-end.ensures))
    (c.loop.invariant.reaches notes before) (c.in_err-send_frame.ensures.does notes are))

pub returns-in_err-send_frame-clause-loads : goal.returns-in_err-send_frame-clause-loads
returns-in_err-send_frame-clause-loads g c =
    let p = err_from_is_err_and c.from_residual.result c.from_residual.ensures.1 in
    rw (p.1, p.2)
    (stopped_then _ c.in_err-send_frame.field-0.0 (seen c.args.self.now) (seen c.loop.self) (seen c.send_frame.new.self)
    c.loop.invariant.adds c.in_err-send_frame.ensures.loads)

pub returns-in_err-send_frame-clause-sends : goal.returns-in_err-send_frame-clause-sends
returns-in_err-send_frame-clause-sends g c =
    let p = err_from_is_err_and c.from_residual.result c.from_residual.ensures.1 in
    rw (p.1, p.2)
    (sends_later {A = Unit {0}} HasFilledSo (seen c.args.self.now) (seen c.loop.self) (seen c.send_frame.new.self)
    (Err c.in_err-send_frame.field-0.0) c.loop.invariant.sends c.in_err-send_frame.ensures.sends)

pub returns-in_err-send_frame-clause-reads : goal.returns-in_err-send_frame-clause-reads
returns-in_err-send_frame-clause-reads g c = reads_then _ _ _ c.loop.invariant.reads c.send_frame.ensures.reads

pub loop-preserved : goal.loop-preserved
loop-preserved g c =
    let did = c.in_ok-send_frame.ensures in record {
      reaches = λ notes are.
          let before = notes_before (seen c.loop.self) (seen c.send_frame.new.self) did.loads.entries notes did.loads.more are in
          round_done (length (waiting_for (switch_of (so_far (seen c.args.self.now))) 1)) c.loop.counter (after_trying_act (Take 1))
          (play_of notes (seen c.loop.self)) (play_of notes (seen c.send_frame.new.self))
          (after_taking_all (play_of notes (seen c.args.self.now)))
          (omega (arith, c.waiting-end.ensures)) (did.does notes are) (c.loop.invariant.reaches notes before);
      sends =
          writing_then (seen c.args.self.now) (seen c.loop.self) (seen c.send_frame.new.self) c.loop.invariant.sends did.sends;
      reads = reads_then _ _ _ c.loop.invariant.reads c.send_frame.ensures.reads;
      adds = adds_then _ _ _ c.loop.invariant.adds did.loads;
      spent = omega (arith, c.loop.invariant.spent, c.send_frame.ensures.spent);
    }

pub returns-clause-does : goal.returns-clause-does
returns-clause-does g c = λ notes are.
    rounds_over (length (waiting_for (switch_of (so_far (seen c.args.self.now))) 1)) c.loop.counter (after_trying_act (Take 1))
    (play_of notes (seen c.loop.self)) (after_taking_all (play_of notes (seen c.args.self.now))) (omega (arith, c.waiting-end.ensures))
    (c.loop.invariant.reaches notes are)

pub returns-clause-loads : goal.returns-clause-loads
returns-clause-loads g c = c.loop.invariant.adds
