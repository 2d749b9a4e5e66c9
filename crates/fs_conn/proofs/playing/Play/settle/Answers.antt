use Rattle.std.proofs.Common.{◌≡◌, false, refl, sym, ap, ◌∙◌}
use Rattle.std.proofs.lemmas.Result.{err_from_is_err_and}
use Rattle.fs_book.proofs.Lists.{prefix_self}
use Rattle.fs_conn.specs.Play.{Play, noted, next_actor, after_due_step}
use Rattle.fs_conn.specs.Steps.{is_due}
use Rattle.fs_conn.specs.Playing.{seen, play_of}
use Rattle.fs_conn.proofs.PlayLemmas.{worked_none}
use Rattle.fs_conn.proofs.StepLemmas.{works_same, works_then}
use Rattle.fs_conn.proofs.RoundLemmas.{round_done, rounds_over}
use Rattle.fs_conn.proofs.SettleLemmas.{settled_rest, settled_runs, settled_stops}
use Rattle.fs_conn.proofs.SendLemmas.{only_same, only_then}
use Rattle.fs_conn.proofs.NoteLemmas.{notes_before, notes_stopped, adds_none, adds_then, stopped_then}
use Rattle.fs_conn.proofs.playing.Play.settle.Goals as goal

pub loop-init : goal.loop-init
loop-init g c = record {
  reaches = λ notes are. refl;
  works = works_same _ _ refl;
  clock = refl;
  adds = adds_none _ _ refl;
  only = only_same _;
}

pub returns-in_err-work_next-clause-does : goal.returns-in_err-work_next-clause-does
returns-in_err-work_next-clause-does g c =
    let p = err_from_is_err_and c.from_residual.result c.from_residual.ensures.1 in
    λ notes are.
    let before =
    notes_stopped _ _ c.in_err-work_next.field-0.0 (seen c.loop.self) (seen c.work_next.new.self) notes c.in_err-work_next.ensures.loads are in
    rw (p.1, p.2)
    (settled_stops c.loop.counter (play_of notes (seen c.args.self.now)) (play_of notes (seen c.loop.self))
    (play_of notes (seen c.work_next.new.self)) c.in_err-work_next.field-0.0 c.loop-test.true (c.loop.invariant.reaches notes before)
    (c.in_err-work_next.ensures.does notes are))

pub returns-in_err-work_next-clause-works : goal.returns-in_err-work_next-clause-works
returns-in_err-work_next-clause-works g c = works_then _ _ _ c.loop.invariant.works c.work_next.ensures.works

pub returns-in_err-work_next-clause-loads : goal.returns-in_err-work_next-clause-loads
returns-in_err-work_next-clause-loads g c =
    let p = err_from_is_err_and c.from_residual.result c.from_residual.ensures.1 in
    rw (p.1, p.2)
    (stopped_then _ c.in_err-work_next.field-0.0 (seen c.args.self.now) (seen c.loop.self) (seen c.work_next.new.self)
    c.loop.invariant.adds c.in_err-work_next.ensures.loads)

pub returns-in_err-work_next-clause-only : goal.returns-in_err-work_next-clause-only
returns-in_err-work_next-clause-only g c = only_then _ _ _ c.loop.invariant.only c.work_next.ensures.only

pub returns-then-not-branch-clause-does : goal.returns-then-not-branch-clause-does
returns-then-not-branch-clause-does g c = λ notes are.
    let did = c.in_ok-work_next.ensures in
    let p = play_of notes (seen c.loop.self) in
    let before = notes_before (seen c.loop.self) (seen c.work_next.new.self) did.loads.entries notes did.loads.more are in
    let idle : is_due (next_actor p) ≡ false = sym did.due ∙ c.if-not-branch.true in
    did.does notes are ∙ worked_none (next_actor p) p idle
    ∙ settled_rest _ (play_of notes (seen c.args.self.now)) p idle (c.loop.invariant.reaches notes before)

pub returns-then-not-branch-clause-idle : goal.returns-then-not-branch-clause-idle
returns-then-not-branch-clause-idle g c =
    let did = c.in_ok-work_next.ensures in
    let own = noted c.work_next.new.self.machine.now.journal in
    let p = play_of own (seen c.loop.self) in
    let idle : is_due (next_actor p) ≡ false = sym did.due ∙ c.if-not-branch.true in
    ap (λ (q : Play). is_due (next_actor q)) (did.does own (prefix_self own) ∙ worked_none (next_actor p) p idle) ∙ idle

pub returns-then-not-branch-clause-loads : goal.returns-then-not-branch-clause-loads
returns-then-not-branch-clause-loads g c = adds_then _ _ _ c.loop.invariant.adds c.in_ok-work_next.ensures.loads

pub loop-preserved : goal.loop-preserved
loop-preserved g c =
    let did = c.in_ok-work_next.ensures in record {
      reaches = λ notes are.
          let before = notes_before (seen c.loop.self) (seen c.work_next.new.self) did.loads.entries notes did.loads.more are in
          round_done 100000 c.loop.counter after_due_step (play_of notes (seen c.loop.self)) (play_of notes (seen c.work_next.new.self)) _
          c.loop-test.true (did.does notes are) (c.loop.invariant.reaches notes before);
      works = works_then _ _ _ c.loop.invariant.works c.work_next.ensures.works;
      clock = c.work_next.ensures.clock ∙ c.loop.invariant.clock;
      adds = adds_then _ _ _ c.loop.invariant.adds did.loads;
      only = only_then _ _ _ c.loop.invariant.only c.work_next.ensures.only;
    }

pub returns-then-is_due-clause-does : goal.returns-then-is_due-clause-does
returns-then-is_due-clause-does g c = λ notes are.
    settled_runs (play_of notes (seen c.args.self.now)) (play_of notes (seen c.loop.self)) refl
    (sym c.is_due.ensures ∙ c.if-is_due.true)
    (rounds_over 100000 c.loop.counter after_due_step (play_of notes (seen c.loop.self)) _ c.loop-test.false
    (c.loop.invariant.reaches notes are))

pub returns-clause-does : goal.returns-clause-does
returns-clause-does g c = λ notes are.
    settled_rest _ (play_of notes (seen c.args.self.now)) (play_of notes (seen c.loop.self)) (sym c.is_due.ensures ∙ c.if-is_due.false)
    (c.loop.invariant.reaches notes are)
