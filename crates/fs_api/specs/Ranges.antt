-- The limits that the numbers and texts of an api command keep.
use Rattle.std.specs.Prelude.{◌≤◌, IfSome}
use Rattle.fs_chan.specs.Changes.{IsShortTarget}
use Rattle.fs_orig.specs.Timeouts.{IsTimeout}
use Rattle.fs_api.specs.declared.api.Api.{Api}
use Rattle.fs_api.specs.declared.api.Api.TheVariants.{Msleep, Originate, UuidTransfer}

-- a sleep is at most an hour, the time that legs have is in its range, and a channel can be routed where it is transferred
abbrev pub IsInRange : Api → Type 0
IsInRange (Msleep milliseconds) = milliseconds ≤ 3600000
IsInRange (Originate url winner cid_name cid_number timeout) = IfSome timeout IsTimeout
IsInRange (UuidTransfer uuid side to) = IsShortTarget to
IsInRange _ = Unit {0}
