use Rattle.std.proofs.Common.{◌∙◌, [], ◌∷◌, None, subst, sym}
use Rattle.fs_book.specs.Passes.{seen, mine, met, opening_state}
use Rattle.fs_machine.specs.Turned.{configured}
use Rattle.fs_top.specs.Doors.{Rose}
use Rattle.fs_top.specs.Lanes.{Keeps, Enters}
use Rattle.fs_top.proofs.LaneLemmas.{keeps_may}
use Rattle.fs_top.proofs.beside.run_beside.Goals as goal

pub returns-then-run_round-clause-placed : goal.returns-then-run_round-clause-placed
returns-then-run_round-clause-placed g c = λ slots before. c.run_round.ensures.placed slots (c.rounds.invariant.placed slots before)

pub returns-then-run_round-clause-failed : goal.returns-then-run_round-clause-failed
returns-then-run_round-clause-failed g c = λ from before. c.run_round.ensures.failed from (c.rounds.invariant.failed from before)

pub rounds-preserved : goal.rounds-preserved
rounds-preserved g c =
    let ran = c.run_round.ensures in
    let kept = c.rounds.invariant in
    let nothing = ran.nothing c.if-run_round.false in record {
      book = ran.book;
      parts_kept = ran.parts ∙ kept.parts_kept;
      door_kept = nothing.1 ∙ kept.door_kept;
      keeps =
          subst
          (λ pass.
          Keeps g.D.Link.Port.input g.D.Link.Port.output (Enters (g.C.Clock.tells c.args.clock.now) ⊥ None)
          (configured (opening_state c.args.book.now)) (seen pass) (mine pass ∷ met pass) [])
          (sym nothing.0) kept.keeps;
      desk = ran.desk;
      loads = λ first before. ran.loads first (kept.loads first before);
      count = ran.count ∙ kept.count;
      stand = ran.lanes;
      placed = λ slots before. ran.placed slots (kept.placed slots before);
      failed = λ from before. ran.failed from (kept.failed from before);
    }

pub returns-clause-keeps : goal.returns-clause-keeps
returns-clause-keeps g c =
    let tells = g.C.Clock.tells c.args.clock.now in
    let first = g.D.Door.door_faults c.args.door.now in
    let last = g.D.Door.door_faults c.rounds.door in
    let pass = c.rounds.pass in
    keeps_may g.D.Link.Port.input g.D.Link.Port.output (Enters tells ⊥ None) (Enters tells (Rose first last) None)
    (configured (opening_state c.args.book.now)) (seen pass) (mine pass ∷ met pass) []
    (λ entry allowed. ((allowed.0.0, λ halts. absurd (allowed.0.1 halts), allowed.0.2), allowed.1, allowed.2)) c.rounds.invariant.keeps

pub returns-then-run_round-clause-loads : goal.returns-then-run_round-clause-loads
returns-then-run_round-clause-loads g c = λ first before. c.run_round.ensures.loads first (c.rounds.invariant.loads first before)
