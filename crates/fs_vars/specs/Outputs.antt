-- An expanded text as it grows, and why it is refused.
use Rattle.std.specs.Prelude.{◌≡◌, ℕ, ◌-◌, ◌<◌, ◌≤◌, ◌^◌, min, length}
use Rattle.fs_text.specs.Texts.{Text}
use Rattle.fs_vars.specs.declared.output.Output.{Output}
use Rattle.fs_vars.specs.declared.refused.Refused.{Refused}
use Rattle.fs_vars.specs.declared.refused.Refused.TheVariants.{Memory, TooLong}

-- the length of a text, as far as 64 bits go
abbrev pub len_of : Text → ℕ
len_of text = min (length text) (2 ^ 64 - 1)

-- the output counts all of a text, and has its bytes as long as it is not too long
pub record Holds (output : Output) (text : Text) : Type 0 where
  pub counted : output.len ≡ len_of text
  pub kept : output.len ≤ 65536 → output.bytes.items ≡ text

-- a text is too long exactly with more than 65,536 bytes; want of memory says nothing of it
abbrev pub IsTextRefusal : Text → Refused → Type 0
IsTextRefusal whole Memory = Unit {0}
IsTextRefusal whole (TooLong len) = (65536 < length whole) × (len ≡ len_of whole)
