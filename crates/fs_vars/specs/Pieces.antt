-- The pieces of a text, as they are taken off its front.
use Rattle.std.specs.Prelude.{◌≡◌, ◌++◌, ◌<◌, [], length, Option, MatchOption}
use Rattle.std.specs.Borrow.{Bor}
use Rattle.fs_text.specs.Texts.{Text}
use Rattle.fs_vars.specs.Pairs.{Pairs}
use Rattle.fs_vars.specs.Expansion.{expanded}

-- a text that is left to be expanded, with the named values that it can use
pub record Left : Type 0 where
  pub known : Pairs
  pub text : Text

-- a piece was taken off the front: behind it stands what the rest is expanded to
pub record TakesPiece (old : Left) (piece : Text) (new : Left) : Type 0 where
  pub known : new.known ≡ old.known
  pub text : expanded old.known old.text ≡ piece ++ expanded new.known new.text
  pub shorter : length new.text < length old.text

-- a step takes a piece, or gives nothing where no text is left
abbrev pub GivesPiece : Left → Option (Bor Text) → Left → Type 0
GivesPiece old piece new = MatchOption piece (old.text ≡ []) (λ bytes. TakesPiece old bytes.now new)
