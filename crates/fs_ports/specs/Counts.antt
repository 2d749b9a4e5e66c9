-- Counts of faults. They never fall, and one that has no room left stands still.
use Rattle.std.specs.Prelude.{ℕ, ◌+◌, min}

-- the count after one more fault
abbrev pub raised : ℕ → ℕ
raised count = min (count + 1) 18446744073709551615
