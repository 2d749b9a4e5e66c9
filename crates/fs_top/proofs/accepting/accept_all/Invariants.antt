use Rattle.std.proofs.Common.{◌≡◌, ◌⊎◌, [], ◌∷◌, None}
use Rattle.fs_book.specs.Passes.{seen, mine, met, parts, opening_state, IsPassOf}
use Rattle.fs_machine.specs.Turned.{configured}
use Rattle.fs_top.specs.Doors.{Rose}
use Rattle.fs_top.specs.Lanes.{Keeps, Enters}
use Rattle.fs_top.proofs.accepting.accept_all.Given as goal

abbrev pub invariant-links : goal.invariant-links
invariant-links g l = record {
  book : IsPassOf configured l.fn.book l.pass;
  parts_kept : parts l.pass ≡ parts l.fn.pass;
  rises : (g.D.Door.door_faults l.door ≡ g.D.Door.door_faults l.fn.door)
      ⊎ Rose (g.D.Door.door_faults l.fn.door) (g.D.Door.door_faults l.door);
  keeps : Keeps g.D.Link.Port.input g.D.Link.Port.output
      (Enters (g.C.Clock.tells l.fn.clock) (Rose (g.D.Door.door_faults l.fn.door) (g.D.Door.door_faults l.door)) None)
      (configured (opening_state l.fn.book)) (seen l.pass) (mine l.pass ∷ met l.pass) [];
}
