use Rattle.std.proofs.Common.{◌≡◌}
use Rattle.fs_book.specs.Tenures.{IsWaiting}
use Rattle.fs_book.proofs.book.Book.enter.Given as goal

abbrev pub invariant-loop : goal.invariant-loop
invariant-loop g l =
    ((l.seat.table_id ≡ l.fn.seat.table_id) × (l.seat.id ≡ l.fn.seat.id)) × IsWaiting l.fn.seat.me.0 l.ticket l.seat.me
