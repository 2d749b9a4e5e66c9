use Rattle.std.proofs.Common.{[], ◌∷◌, None}
use Rattle.fs_book.specs.Passes.{seen, mine, met, opening_state}
use Rattle.fs_machine.specs.Turned.{configured}
use Rattle.fs_top.specs.Doors.{Rose}
use Rattle.fs_top.specs.Lanes.{Enters}
use Rattle.fs_top.proofs.LaneLemmas.{keeps_may}
use Rattle.fs_top.proofs.accepting.accept_beside.Goals as goal

pub returns-then-not-begin_last-clause-keeps : goal.returns-then-not-begin_last-clause-keeps
returns-then-not-begin_last-clause-keeps g c =
    let tells = g.C.Clock.tells c.args.clock.now in
    let first = g.D.Door.door_faults c.args.door.now in
    let pass = c.args.pass.now in
    keeps_may g.D.Link.Port.input g.D.Link.Port.output (Enters tells ⊥ None) (Enters tells (Rose first first) None)
    (configured (opening_state c.args.book.now)) (seen pass) (mine pass ∷ met pass) []
    (λ entry allowed. ((allowed.0.0, λ halts. absurd (allowed.0.1 halts), allowed.0.2), allowed.1, allowed.2)) c.requires.keeps
