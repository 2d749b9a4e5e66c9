-- A channel that is taken up from its slot.
use Rattle.std.specs.Prelude.{◌≡◌, ℕ, Option, None, Some}
use Rattle.fs_chan.specs.declared.chan.Chan.{Chan}
use Rattle.fs_state.specs.declared.moving.Moving.{Moving}

-- it is the one that stood in the slot, with its state; nothing is taken up where there was none
abbrev pub IsTakenUp : ℕ → Option Chan → Option Moving → Type 0
IsTakenUp slot stood None = stood ≡ None
IsTakenUp slot stood (Some m) = (stood ≡ Some m.chan) × (m.slot ≡ slot) × (m.from ≡ m.chan.state)
