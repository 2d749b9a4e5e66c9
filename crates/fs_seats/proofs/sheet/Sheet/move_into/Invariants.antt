use Rattle.std.proofs.Common.{◌≡◌, drop}
use Rattle.fs_seats.specs.Sheets as spec
use Rattle.fs_seats.proofs.sheet.Sheet.move_into.Given as goal

-- what is still to be written makes of the table what all does
abbrev pub invariant-loop-write : goal.invariant-loop-write
invariant-loop-write g l = spec.written l.seats (drop l.write-index l.write-items) ≡ spec.written l.fn.seats l.fn.self
