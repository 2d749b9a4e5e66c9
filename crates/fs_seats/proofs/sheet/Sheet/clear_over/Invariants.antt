use Rattle.std.proofs.Common.{◌≡◌, ◌++◌, drop}
use Rattle.fs_seats.specs.Seats.{no_seats}
use Rattle.fs_seats.specs.Sheets as spec
use Rattle.fs_seats.proofs.sheet.Sheet.clear_over.Given as goal

-- the seats before this one are empty, the others as they are kept
abbrev pub invariant-loop-seat : goal.invariant-loop-seat
invariant-loop-seat g l = spec.written l.kept l.self ≡ no_seats l.seat ++ drop l.seat l.kept
