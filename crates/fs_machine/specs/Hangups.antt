-- Hangups of all channels of a switch.
use Rattle.std.specs.Prelude.{ℕ, List, length}
use Rattle.std.specs.List.{range_with_len}
use Rattle.fs_text.specs.declared.causes.Cause.{Cause}
use Rattle.fs_state.specs.Switch.{Switch}
use Rattle.fs_state.specs.Hangups.{after_hangups_for}

-- all slots, in order
abbrev pub all_slots : Switch → List ℕ
all_slots s = range_with_len 0 (length s.channels)

-- all live channels are hung up in one hangup, of one cause
abbrev pub after_hangup_of_all : Cause → Switch → Switch
after_hangup_of_all cause s = after_hangups_for cause (all_slots s) s
