use Rattle.std.proofs.Common.{◌≡◌, ◌+◌, ◌*◌, length}
use Rattle.std.specs.List.{All}
use Rattle.fs_book.specs.Passes.{seen, mine, met, parts, IsPassOf}
use Rattle.fs_machine.specs.Turned.{configured}
use Rattle.fs_top.specs.Standing.{Stands, ArePlaced, HaveFailed}
use Rattle.fs_top.proofs.gathering.make_slots.Given as goal

abbrev pub invariant-slots : goal.invariant-slots
invariant-slots g l = record {
  book : IsPassOf configured l.fn.book l.pass;
  same : (seen l.pass ≡ seen l.fn.pass) × (mine l.pass ≡ mine l.fn.pass) × (met l.pass ≡ met l.fn.pass);
  counted : parts l.pass + 2 * length l.lanes.items ≡ parts l.fn.pass;
  order : length l.lanes.items ≡ l.number;
  stand : All (Stands g.L.Port.input g.L.Port.output (g.C.Clock.tells l.fn.clock) l.fn.book) l.lanes.items;
  placed : ArePlaced l.fn.slots l.lanes.items;
  failed : HaveFailed g.O.Dialer.dial_faults (g.O.Dialer.dial_faults l.fn.dialer) l.lanes.items;
}
