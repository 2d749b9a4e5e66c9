-- Readings one after another.
use Rattle.std.proofs.Common.{◌≡◌, ◌⊎◌, inl, inr, Result, Ok, Err, refl, ap}
use Rattle.fs_xml.specs.Results.{◌>>=◌}

-- a reading that was followed was read
pub bind_ok : {X Y E : Type 0} (read : Result X E) (next : X → Result Y E) (y : Y) → (read >>= next) ≡ Ok y →
    (x : X) × (read ≡ Ok x) × (next x ≡ Ok y)
bind_ok (Ok x) next y e = (x, refl, e)
bind_ok (Err f) next y e = absurd (cc)

-- a reading that stopped
abbrev pub stopped : {X E : Type 0} → E → Result X E
stopped f = Err f

-- a reading that stops was stopped, or what follows it was
pub bind_err : {X Y E : Type 0} (read : Result X E) (next : X → Result Y E) (f : E) → (read >>= next) ≡ Err f →
    (read ≡ Err f) ⊎ ((x : X) × (read ≡ Ok x) × (next x ≡ Err f))
bind_err (Ok x) next f e = inr (x, refl, e)
bind_err (Err g) next f e = let same : g ≡ f = cc in inl (ap Err same)
