use Rattle.std.proofs.Common.{◌≡◌, List, ℕ}
use Rattle.fs_book.specs.Passes.{seen, mine, met, parts, opening_state, IsPassOf}
use Rattle.fs_machine.specs.Turned.{configured}
use Rattle.fs_conn.specs.Owning.{OwnsConn}
use Rattle.fs_conn.specs.Talks.{Point, point, Holds}
use Rattle.fs_conn.proofs.handing.drain.Given as goal

abbrev pub invariant-frames : goal.invariant-frames
invariant-frames g l = record {
  book : IsPassOf configured l.fn.book l.pass;
  owns : OwnsConn (configured (opening_state l.fn.book)) l.fn.conn (seen l.pass) (mine l.pass);
  met_kept : met l.pass ≡ met l.fn.pass;
  parts_kept : parts l.pass ≡ parts l.fn.pass;
  input : g.L.Port.input l.link ≡ g.L.Port.input l.fn.link;
  holds : (from : Point) (rest : List ℕ) → Holds (g.C.Clock.tells l.fn.clock) (configured (opening_state l.fn.book)) l.fn.conn from
      (point (seen l.fn.pass) (mine l.fn.pass) (g.L.Port.input l.fn.link) (g.L.Port.output l.fn.link)) rest
      → Holds (g.C.Clock.tells l.fn.clock) (configured (opening_state l.fn.book)) l.fn.conn from
      (point (seen l.pass) (mine l.pass) (g.L.Port.input l.link) (g.L.Port.output l.link)) rest;
}
