use Rattle.std.proofs.Common.{◌≡◌, drop}
use Rattle.std.specs.Option.{option_copied}
use Rattle.fs_seats.specs.Sheets as spec
use Rattle.fs_seats.proofs.sheet.Sheet.over.Given as goal

abbrev pub invariant-loop-write : goal.invariant-loop-write
invariant-loop-write g l =
    spec.newest (drop l.write-index l.write-items) l.seat (option_copied l.held) ≡ spec.newest l.write-items l.seat (option_copied l.kept)
