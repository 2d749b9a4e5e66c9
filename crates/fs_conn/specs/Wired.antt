-- A link, with the bytes that are to be written to it.
use Rattle.std.specs.Prelude.{◌≡◌, ℕ, List}
use Rattle.std.specs.Borrow.{GName}
use Rattle.fs_ports.specs.Ports.{Input, Output}

-- both sides of a link, the bytes that are not written to it yet, and which link it is
pub record Wired : Type 0 where
  pub input : Input
  pub output : Output
  pub unsent : List ℕ
  pub link : GName

-- nothing was read, of the same link
pub record IsUnread (old new : Wired) : Type 0 where
  pub input : new.input ≡ old.input
  pub link : new.link ≡ old.link
