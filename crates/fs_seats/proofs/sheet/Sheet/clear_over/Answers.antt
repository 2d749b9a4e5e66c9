use Rattle.std.proofs.Common.{arith}
use Rattle.fs_seats.specs.Sheets.{written}
use Rattle.fs_seats.proofs.EmptyLemmas.{emptied_all}
use Rattle.fs_seats.proofs.sheet.Sheet.clear_over.Goals as goal

pub returns : goal.returns
returns g c =
    let kept = c.args.kept.now in
    record {
      ok = emptied_all kept (written kept c.loop-seat.self) c.filled-seat-end.result c.loop-seat.seat c.filled-seat-end.ensures.empty
          (omega arith) (omega arith) c.loop-seat.invariant;
    }
