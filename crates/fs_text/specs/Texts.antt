-- Texts of bytes.
use Rattle.std.specs.Prelude.{ℕ, List}

-- the bytes of a text, of any encoding
abbrev pub Text : Type 0
Text = List ℕ
