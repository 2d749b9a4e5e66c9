use Rattle.std.proofs.Common.{◌≡◌}
use Rattle.fs_book.specs.Passes.{seen, mine, met, parts, opening_state, IsPassOf}
use Rattle.fs_machine.specs.Turned.{configured}
use Rattle.fs_conn.specs.Steps.{HoldsLittle}
use Rattle.fs_conn.specs.Owning.{OwnsConn}
use Rattle.fs_conn.specs.Talks.{point, Holds}
use Rattle.fs_conn.proofs.conversing.converse.Given as goal

abbrev pub invariant-rounds : goal.invariant-rounds
invariant-rounds g l = record {
  book : IsPassOf configured l.fn.book l.pass;
  owns : OwnsConn (configured (opening_state l.fn.book)) l.fn.conn (seen l.pass) (mine l.pass);
  met_kept : met l.pass ≡ met l.fn.pass;
  parts_kept : parts l.pass ≡ parts l.fn.pass;
  holds : Holds (g.C.Clock.tells l.fn.clock) (configured (opening_state l.fn.book)) l.fn.conn
      (point (seen l.fn.pass) (mine l.fn.pass) (g.L.Port.input l.fn.link) (g.L.Port.output l.fn.link))
      (point (seen l.pass) (mine l.pass) (g.L.Port.input l.link) (g.L.Port.output l.link)) l.blocks.rest;
  faults : (g.L.Port.input l.link).faults ≡ (g.L.Port.input l.fn.link).faults;
  little : HoldsLittle l.blocks;
}
