use Rattle.std.proofs.Common.{◌≡◌, ◌∷◌, None}
use Rattle.fs_book.specs.Passes.{seen, mine, met, parts, opening_state, IsPassOf}
use Rattle.fs_machine.specs.Turned.{configured}
use Rattle.fs_top.specs.Lanes.{Keeps, Enters}
use Rattle.fs_top.proofs.laning.serve_links.Given as goal

abbrev pub invariant-links : goal.invariant-links
invariant-links g l = record {
  book : IsPassOf configured l.fn.book l.pass;
  parts_kept : parts l.pass ≡ parts l.fn.pass;
  keeps : Keeps g.L.Port.input g.L.Port.output (Enters (g.C.Clock.tells l.fn.clock) ⊥ None) (configured (opening_state l.fn.book))
      (seen l.pass) (mine l.pass ∷ met l.pass) l.conns.items;
}
