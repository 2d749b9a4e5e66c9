-- How many events each connection did not get that it wanted, because too many waited for it.
use Rattle.std.specs.Prelude.{ℕ, ◌+◌, ◌-◌, ◌^◌, ◌==◌, min, Bool, List, [], ◌∷◌, if◌then◌else◌}
use Rattle.fs_state.specs.declared.losses.Loss.{Loss}

-- a loss for each connection that had one, in the order of the first
abbrev pub Losses : Type 0
Losses = List Loss

-- no connection has lost anything
abbrev pub no_losses : Losses
no_losses = []

-- a loss is that of a connection
abbrev pub is_of : ℕ → Loss → Bool
is_of conn loss = loss.conn == conn

-- how many a connection has lost
abbrev pub lost_in : ℕ → Losses → ℕ
lost_in conn [] = 0
lost_in conn (loss ∷ losses) = if is_of conn loss then loss.events else lost_in conn losses

-- a count that is raised; it stands still at 2^64 - 1
abbrev pub raised_by : ℕ → ℕ → ℕ
raised_by more count = min (count + more) (2 ^ 64 - 1)

-- with so many more that a connection has lost
abbrev pub with_loss : ℕ → ℕ → Losses → Losses
with_loss conn more [] = record { conn = conn; events = more } ∷ []
with_loss conn more (loss ∷ losses) =
    if is_of conn loss then record { conn = conn; events = raised_by more loss.events } ∷ losses
    else loss ∷ with_loss conn more losses
