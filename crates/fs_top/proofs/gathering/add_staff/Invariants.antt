use Rattle.std.proofs.Common.{◌≡◌, ℕ, ◌+◌, ◌*◌, ◌≤◌, length}
use Rattle.std.specs.List.{All}
use Rattle.fs_book.specs.Passes.{seen, mine, met, parts, IsPassOf}
use Rattle.fs_machine.specs.Turned.{configured}
use Rattle.fs_top.specs.Standing.{Stands, ArePlaced, HaveFailed}
use Rattle.fs_top.proofs.gathering.add_staff.Given as goal

abbrev pub invariant-links : goal.invariant-links
invariant-links g l = record {
  book : IsPassOf configured l.fn.book l.pass;
  same : (seen l.pass ≡ seen l.fn.pass) × (mine l.pass ≡ mine l.fn.pass) × (met l.pass ≡ met l.fn.pass);
  counted : parts l.pass + 2 * length l.lanes.items ≡ parts l.fn.pass + 2 * length l.fn.lanes.items;
  more : length l.fn.lanes.items ≤ length l.lanes.items;
  stand : All (Stands g.L.Port.input g.L.Port.output (g.C.Clock.tells l.fn.clock) l.fn.book) l.lanes.items;
  placed : (slots : ℕ) → slots ≤ length l.fn.lanes.items → ArePlaced slots l.fn.lanes.items → ArePlaced slots l.lanes.items;
  failed : (from : ℕ) → HaveFailed g.O.Dialer.dial_faults from l.fn.lanes.items → HaveFailed g.O.Dialer.dial_faults from l.lanes.items;
}
