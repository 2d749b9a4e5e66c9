-- Where a winner is routed to.
use Rattle.std.specs.Prelude.{◌≤◌, length}
use Rattle.fs_text.specs.Texts.{Text}

-- an extension, in a context of a dialplan
pub record RouteTo : Type 0 where
  pub exten : Text
  pub dialplan : Text
  pub context : Text

-- the texts that a winner is routed by can stand in a profile
pub record IsShortRoute (exten dialplan context : Text) : Type 0 where
  pub exten_short : length exten ≤ 256
  pub dialplan_short : length dialplan ≤ 256
  pub context_short : length context ≤ 256
