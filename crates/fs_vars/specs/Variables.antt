-- The limits of the number and size of variables, and what setting a variable leaves.
use Rattle.std.specs.Prelude.{◌==◌, ℕ, ◌+◌, Bool, true, ◌&&◌, ◌||◌, not, nat_le, if◌then◌else◌, length, count_by, sum_by, codes}
use Rattle.fs_text.specs.Texts.{Text}
use Rattle.fs_vars.specs.declared.bounds.Bounds.{Bounds}
use Rattle.fs_vars.specs.declared.bounds.Bounds.TheVariants.{Channel, Globals}
use Rattle.fs_vars.specs.declared.tally.Tally.{Tally}
use Rattle.fs_vars.specs.Pairs.{Pairs, same_text, with_value, without}

-- the variables that the machine itself sets on a channel
unfoldable pub is_machine_set : Text → Bool
is_machine_set name =
    same_text name (codes "originate_disposition") || same_text name (codes "bridge_hangup_cause")
    || same_text name (codes "hangup_cause") || same_text name (codes "signal_bond")

-- whether a variable counts to the limits
abbrev pub counts : Bounds → Text → Bool
counts Channel name = not (is_machine_set name)
counts Globals name = true

-- how many variables may count
abbrev pub most_variables : Bounds → ℕ
most_variables Channel = 512
most_variables Globals = 1024

-- how many bytes their names and values may have
abbrev pub most_bytes : Bounds → ℕ
most_bytes Channel = 32768
most_bytes Globals = 262144

-- the bytes of a variable, where it counts
abbrev pub counted_bytes : Bounds → Text × Text → ℕ
counted_bytes bounds pair = if counts bounds pair.0 then length pair.0 + length pair.1 else 0

-- how many variables count, and the bytes of these
abbrev pub tally_of : Bounds → Pairs → Tally
tally_of bounds pairs = record { variables = count_by (λ pair. counts bounds pair.0) pairs; bytes = sum_by (counted_bytes bounds) pairs }

-- neither limit is passed
abbrev pub is_within : Bounds → Tally → Bool
is_within bounds tally = nat_le tally.variables (most_variables bounds) && nat_le tally.bytes (most_bytes bounds)

-- variables and the limits that they keep
pub record Variables : Type 0 where
  pub bounds : Bounds
  pub pairs : Pairs

-- an empty value, and `_undef_`, stand for none
abbrev pub is_removal : Text → Bool
is_removal value = length value == 0 || same_text value (codes "_undef_")

-- no limit is passed by this name and this value, nor by the variables once it is set
abbrev pub fits : Variables → Text → Text → Bool
fits vars name value =
    nat_le (length name) 256 && nat_le (length value) 16384
    && is_within vars.bounds (tally_of vars.bounds (with_value vars.pairs name value))

-- the name can be set to the value: it is not empty, and no limit would be passed
unfoldable pub can_set : Variables → Text → Text → Bool
can_set vars name value = not (length name == 0) && (is_removal value || fits vars name value)

-- the variables after the name was set to the value
unfoldable pub set_to : Variables → Text → Text → Variables
set_to vars name value = record vars { pairs = if is_removal value then without vars.pairs name else with_value vars.pairs name value }
