use Rattle.std.proofs.Common.{◌≡◌, drop}
use Rattle.fs_seats.specs.Sheets as spec
use Rattle.fs_seats.proofs.sheet.has_write.Given as goal

-- whether one is found is settled by those that are left
abbrev pub invariant-loop-write : goal.invariant-loop-write
invariant-loop-write g l = spec.has_write (drop l.write-index l.writes) l.seat ≡ spec.has_write l.writes l.seat
