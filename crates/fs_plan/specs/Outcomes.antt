-- What comes of a step of a hunt, which ends where an expansion is too long.
use Rattle.std.specs.Prelude.{◌≡◌, ℕ, Result, Ok, Err}
use Rattle.fs_vars.specs.declared.refused.Refused.{Refused}
use Rattle.fs_vars.specs.declared.refused.Refused.TheVariants.{TooLong}

-- what a step gives, or the length of the first expansion that is too long
abbrev pub Outcome : Type 0 → Type 0
Outcome A = Result A ℕ

infixl 10 ◌>>=◌
-- one step after another
abbrev pub ◌>>=◌ : {A B : Type 0} → Outcome A → (A → Outcome B) → Outcome B
Ok a >>= next = next a
Err len >>= next = Err len

-- a refusal with a length tells of the expansion that is too long; want of memory says nothing of it
abbrev pub IsFault : {A : Type 0} → Outcome A → Refused → Type 0
IsFault outcome refused = (len : ℕ) → refused ≡ TooLong len → outcome ≡ Err len
