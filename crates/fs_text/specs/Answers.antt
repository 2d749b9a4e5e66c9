-- How a call answers what a reading function says.
use Rattle.std.specs.Prelude.{◌≡◌, Result, Ok, Err}

-- what is answered, as it is seen, is what is read; or the same fault
abbrev pub Gives : {X Y E : Type 0} → (X → Y) → Result X E → Result Y E → Type 0
Gives view (Ok x) read = read ≡ Ok (view x)
Gives view (Err e) read = read ≡ Err e
