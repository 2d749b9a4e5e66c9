use Rattle.std.proofs.Common.{◌≡◌, ℕ, ◌∷◌, Some}
use Rattle.fs_book.specs.Passes.{seen, mine, met, parts, opening_state, IsPassOf}
use Rattle.fs_machine.specs.Turned.{configured}
use Rattle.fs_top.specs.Dials.{vain_in}
use Rattle.fs_top.specs.Lanes.{Keeps, Enters}
use Rattle.fs_top.specs.Reloading.{noted_at}
use Rattle.fs_top.proofs.turning.run_turns.Given as goal

abbrev pub invariant-turns : goal.invariant-turns
invariant-turns g l = record {
  book : IsPassOf configured l.fn.book l.pass;
  parts_kept : parts l.pass ≡ parts l.fn.pass;
  keeps : Keeps g.L.Port.input g.L.Port.output (Enters (g.C.Clock.tells l.fn.clock) ⊥ (Some l.fn.actor))
      (configured (opening_state l.fn.book)) (seen l.pass) (mine l.pass ∷ met l.pass) l.fn.conns.items;
  vain : (slot : ℕ) → vain_in slot (seen l.pass) (mine l.pass ∷ met l.pass) ≡ vain_in slot (seen l.fn.pass) (mine l.fn.pass ∷ met l.fn.pass);
  met_kept : met l.pass ≡ met l.fn.pass;
  noted : noted_at (seen l.pass) (mine l.pass) ≡ noted_at (seen l.fn.pass) (mine l.fn.pass);
}
