-- Which moments a clock in memory may tell.
use Rattle.std.specs.Prelude.{◌≡◌, ℕ, ◌+◌, ◌*◌, ◌%◌}

-- the moment is the start and some steps, where moments wrap round at 2^64
abbrev pub IsAfterSteps : ℕ → ℕ → ℕ → Type 0
IsAfterSteps start step moment = (steps : ℕ) × (moment ≡ (start + steps * step) % 18446744073709551616)
