use Rattle.std.proofs.Common.{◌^◌, ◌<◌, refl, sym, ◌∙◌, rules, arith}
use Rattle.std.proofs.lemmas.Result.{err_from_is_err_and}
use Rattle.fs_conn.specs.Playing.{seen, play_of, so_far}
use Rattle.fs_conn.proofs.StepLemmas.{works_same, works_then, works_at}
use Rattle.fs_conn.proofs.SettleLemmas.{awaits_first, waited_rest, never_stuck, awaits_on, waited_stops}
use Rattle.fs_conn.proofs.SendLemmas.{only_same, only_then, only_at}
use Rattle.fs_conn.proofs.NoteLemmas.{notes_before, notes_stopped, adds_none, adds_then, adds_at, stopped_then, stopped_at}
use Rattle.fs_conn.proofs.playing.Play.wait_out.Goals as goal

pub loop-self-init : goal.loop-self-init
loop-self-init g c = record {
  awaits = λ notes are. awaits_first (play_of notes (seen c.args.self.now));
  works = works_same _ _ refl;
  idle = c.requires.idle;
  adds = adds_none _ _ refl;
  only = only_same _;
}

pub unreachable-requires : goal.unreachable-requires
unreachable-requires g c =
    never_stuck (so_far (seen c.loop-self.self)) c.sound.ensures.state.owed
    (sym c.owes.ensures ∙ c.loop-self-test.true) c.loop-self.invariant.idle
    (λ moment later. c.in_default.not-Later moment (c.next_due.ensures.exact ∙ later))

pub loop-self-preserved : goal.loop-self-preserved
loop-self-preserved g c =
    let now = seen c.loop-self.self in
    let moment = c.in-Later.moment in
    let comes = c.in-Later.ensures.to_come moment refl in
    let last : moment < 2 ^ 64 = search rules in
    let did = c.in_ok-settle.ensures in record {
      awaits = λ notes are.
          let before = notes_before now (seen c.settle.new.self) did.loads.entries notes did.loads.more are in
          awaits_on (play_of notes (seen c.args.self.now)) (play_of notes now) (play_of notes (seen c.settle.new.self)) moment
          (c.loop-self.invariant.awaits notes before) refl (sym c.owes.ensures ∙ c.loop-self-test.true) (sym c.in-Later.ensures.exact)
          comes (omega (arith, comes, last)) did.clock (did.does notes are);
      works = works_then _ _ _ c.loop-self.invariant.works (works_at (so_far now) _ moment did.works);
      idle = did.idle;
      adds = adds_then _ _ _ c.loop-self.invariant.adds (adds_at now (seen c.settle.new.self) moment did.loads);
      only = only_then _ _ _ c.loop-self.invariant.only (only_at now (seen c.settle.new.self) moment c.settle.ensures.only);
    }

pub returns-in_err-settle-clause-does : goal.returns-in_err-settle-clause-does
returns-in_err-settle-clause-does g c =
    let p = err_from_is_err_and c.from_residual.result c.from_residual.ensures.1 in
    let moment = c.in-Later.moment in
    let comes = c.in-Later.ensures.to_come moment refl in
    let last : moment < 2 ^ 64 = search rules in
    λ notes are.
    let before =
    notes_stopped _ _ c.in_err-settle.field-0.0 (seen c.loop-self.self) (seen c.settle.new.self) notes
    (stopped_at _ _ c.in_err-settle.field-0.0 (seen c.loop-self.self) (seen c.settle.new.self) moment c.in_err-settle.ensures.loads) are in
    rw (p.1, p.2)
    (waited_stops (play_of notes (seen c.args.self.now)) (play_of notes (seen c.loop-self.self)) (play_of notes (seen c.settle.new.self))
    moment _ (c.loop-self.invariant.awaits notes before) refl (sym c.owes.ensures ∙ c.loop-self-test.true) (sym c.in-Later.ensures.exact)
    comes (omega (arith, comes, last)) (c.in_err-settle.ensures.does notes are))

pub returns-in_err-settle-clause-works : goal.returns-in_err-settle-clause-works
returns-in_err-settle-clause-works g c =
    works_then _ _ _ c.loop-self.invariant.works
    (works_at (so_far (seen c.loop-self.self)) _ c.in-Later.moment c.settle.ensures.works)

pub returns-in_err-settle-clause-loads : goal.returns-in_err-settle-clause-loads
returns-in_err-settle-clause-loads g c =
    let p = err_from_is_err_and c.from_residual.result c.from_residual.ensures.1 in
    rw (p.1, p.2)
    (stopped_then _ c.in_err-settle.field-0.0 (seen c.args.self.now) (seen c.loop-self.self) (seen c.settle.new.self)
    c.loop-self.invariant.adds
    (stopped_at _ _ c.in_err-settle.field-0.0 (seen c.loop-self.self) (seen c.settle.new.self) c.in-Later.moment c.in_err-settle.ensures.loads))

pub returns-in_err-settle-clause-only : goal.returns-in_err-settle-clause-only
returns-in_err-settle-clause-only g c =
    only_then _ _ _ c.loop-self.invariant.only
    (only_at (seen c.loop-self.self) (seen c.settle.new.self) c.in-Later.moment c.settle.ensures.only)

pub returns-clause-does : goal.returns-clause-does
returns-clause-does g c = λ notes are.
    waited_rest (play_of notes (seen c.args.self.now)) (play_of notes (seen c.loop-self.self)) (c.loop-self.invariant.awaits notes are) refl
    (sym c.owes.ensures ∙ c.loop-self-test.false)

pub returns-clause-loads : goal.returns-clause-loads
returns-clause-loads g c = c.loop-self.invariant.adds

pub returns-clause-free : goal.returns-clause-free
returns-clause-free g c = sym c.owes.ensures ∙ c.loop-self-test.false
