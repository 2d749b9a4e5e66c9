use Rattle.std.proofs.Common.{◌≡◌}
use Rattle.fs_book.specs.Passes.{seen, mine, met, parts, opening_state, IsPassOf}
use Rattle.fs_machine.specs.Turned.{configured}
use Rattle.fs_session.specs.Working.{Tries}
use Rattle.fs_session.proofs.working.work_once.Given as goal

abbrev pub invariant-turns : goal.invariant-turns
invariant-turns g l = record {
  book : IsPassOf configured l.fn.book l.pass;
  met_kept : met l.pass ≡ met l.fn.pass;
  parts_kept : parts l.pass ≡ parts l.fn.pass;
  tries : Tries (configured (opening_state l.fn.book)) (seen l.fn.pass) (mine l.fn.pass) (seen l.pass) (mine l.pass) l.fn.actor
      l.fn.now l.tried;
}
