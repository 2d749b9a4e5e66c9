-- Moments, in microseconds.
use Rattle.std.specs.Prelude.{ℕ, ◌+◌, ◌-◌, ◌^◌, min}

-- so many microseconds after a moment; the last moment is 2^64 - 1
abbrev pub moment_after : ℕ → ℕ → ℕ
moment_after now microseconds = min (now + microseconds) (2 ^ 64 - 1)
