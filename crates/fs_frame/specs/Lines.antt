-- Lines and their texts.
use Rattle.std.specs.Prelude.{◌≡◌, ◌≢◌, ℕ, Bool, true, false, ◌==◌, List, [], ◌∷◌, ◌++◌, if◌then◌else◌}
use Rattle.std.specs.List.{before_first, list_any}

-- LF, which ends a line
abbrev pub is_lf : ℕ → Bool
is_lf byte = byte == 10

-- a line is bytes other than LF, and then LF
pub record IsLine (line : List ℕ) : Type 0 where
  pub content : List ℕ
  pub no_lf : list_any is_lf content ≡ false
  pub spelling : line ≡ content ++ 10 ∷ []

-- the bytes, of which one CR at their end is left out
abbrev pub without_cr : List ℕ → List ℕ
without_cr [] = []
without_cr (byte ∷ []) = if byte == 13 then [] else byte ∷ []
without_cr (byte ∷ next ∷ bytes) = byte ∷ without_cr (next ∷ bytes)

-- the text of a line: what stands before the LF and before one CR there
abbrev pub text_of : List ℕ → List ℕ
text_of line = without_cr (before_first is_lf line)

-- a line with no text
abbrev pub IsEmptyLine : List ℕ → Type 0
IsEmptyLine line = IsLine line × (text_of line ≡ [])

-- a line with a text
abbrev pub IsTextLine : List ℕ → Type 0
IsTextLine line = IsLine line × (text_of line ≢ [])

-- the lines, where one more byte stands before the first of them
abbrev pub with_front : ℕ → List (List ℕ) → List (List ℕ)
with_front byte [] = []
with_front byte (line ∷ lines) = (byte ∷ line) ∷ lines

-- the whole lines of the bytes, in order: what stands behind the last LF is none
abbrev pub lines_of : List ℕ → List (List ℕ)
lines_of [] = []
lines_of (byte ∷ bytes) = if is_lf byte then (10 ∷ []) ∷ lines_of bytes else with_front byte (lines_of bytes)

-- whether there is a byte
abbrev pub has_bytes : List ℕ → Bool
has_bytes [] = false
has_bytes (byte ∷ bytes) = true

-- whether the line has a text
abbrev pub has_text : List ℕ → Bool
has_text line = has_bytes (text_of line)

-- the text of the first line that has one: the command line
abbrev pub first_text : List (List ℕ) → List ℕ
first_text [] = []
first_text (line ∷ lines) = if has_text line then text_of line else first_text lines

-- the lines up to that line, joined, with it
abbrev pub up_to_command : List (List ℕ) → List ℕ
up_to_command [] = []
up_to_command (line ∷ lines) = line ++ (if has_text line then [] else up_to_command lines)

-- the lines behind it
abbrev pub behind_command : List (List ℕ) → List (List ℕ)
behind_command [] = []
behind_command (line ∷ lines) = if has_text line then lines else behind_command lines
