-- What a channel does that outlives its bridge.
use Rattle.std.specs.Prelude.{◌==◌, ℕ, Bool, false, if◌then◌else◌, Option, None, Some, codes}
use Rattle.fs_text.specs.Texts.{Text}
use Rattle.fs_text.specs.declared.causes.Cause.{Cause}
use Rattle.fs_text.specs.declared.causes.Cause.TheVariants.{NormalClearing}
use Rattle.fs_vars.specs.Pairs.{same_text, value_of}
use Rattle.fs_vars.specs.Variables.{Variables}
use Rattle.fs_bridge.specs.declared.row.Row.{Row}
use Rattle.fs_bridge.specs.declared.row.BridgeKind.{BridgeKind}
use Rattle.fs_bridge.specs.declared.row.BridgeKind.TheVariants.{Dial, Joined, Fifo}
use Rattle.fs_bridge.specs.declared.after.After.{After}
use Rattle.fs_bridge.specs.declared.after.After.TheVariants.{GoOn, Hangup, Park}

-- a value that is there is the text `true`
abbrev pub is_true : Option Text → Bool
is_true None = false
is_true (Some value) = same_text value (codes "true")

-- a variable is `true`
abbrev pub says_true : Variables → Text → Bool
says_true vars name = is_true (value_of vars.pairs name)

-- who was called parks or hangs up
abbrev pub after_being_called : Variables → After
after_being_called vars = if says_true vars (codes "park_after_bridge") then Park else Hangup NormalClearing

-- who called hangs up, too, or goes on
abbrev pub after_calling : Variables → Cause → After
after_calling vars cause = if says_true vars (codes "hangup_after_bridge") then Hangup cause else GoOn

-- what a leg does by its variables that outlives a bridge of this kind, which ended of this cause; true: it called
abbrev pub after_kind : BridgeKind → Bool → Variables → Cause → After
after_kind Dial called vars cause = if called then after_calling vars cause else after_being_called vars
after_kind Joined called vars cause = after_being_called vars
after_kind Fifo called vars cause = after_calling vars cause

-- what the survivor of a bridge does
abbrev pub after_bridge : Row → ℕ → Variables → Cause → After
after_bridge row survivor vars cause = after_kind row.kind (row.caller == survivor) vars cause
