-- One block: any number of empty lines, a command line, header lines, an empty line, and a body.
use Rattle.std.specs.Prelude.{◌≡◌, ◌≤◌, ◌+◌, ℕ, nat_le, nat_lt, List, [], ◌∷◌, ◌++◌, length, take, drop, Option, None, Some, if◌then◌else◌}
use Rattle.std.specs.List.{AllByRecursion, concat}
use Rattle.std.specs.Option.{option_and_then, option_map, option_map_or}
use Rattle.fs_frame.specs.Lines.{IsEmptyLine, IsTextLine, lines_of, has_text, first_text}
use Rattle.fs_frame.specs.Headers.{declared_by}
use Rattle.fs_frame.specs.declared.length.Declared.{Declared}
use Rattle.fs_frame.specs.declared.length.Declared.TheVariants.{Length, Malformed}
use Rattle.fs_frame.specs.declared.fault.Fault.{Fault}
use Rattle.fs_frame.specs.declared.fault.Fault.TheVariants.{TooLong, BadLength}

-- the head of a block: empty lines, a command line, header lines, and the empty line that ends it
pub record IsHead (bytes : List ℕ) : Type 0 where
  pub empties : List (List ℕ)
  pub command : List ℕ
  pub headers : List (List ℕ)
  pub end : List ℕ
  pub are_empty : AllByRecursion IsEmptyLine empties
  pub is_command : IsTextLine command
  pub are_headers : AllByRecursion IsTextLine headers
  pub is_end : IsEmptyLine end
  pub spelling : bytes ≡ concat empties ++ command ++ concat headers ++ end

-- a block is a head and a body as long as that declares, both within the limit
pub record IsBlock (block : List ℕ) : Type 0 where
  pub head : List ℕ
  pub body : List ℕ
  pub is_head : IsHead head
  pub declares : declared_by head ≡ Length (length body)
  pub spelling : block ≡ head ++ body
  pub within : length block ≤ 65536

-- the line of a block: the text of its command line
unfoldable pub line_of : List ℕ → List ℕ
line_of block = first_text (lines_of block)

-- behind a command line: the lines with a text and the empty line that ends them, if one does
abbrev pub up_to_empty : List (List ℕ) → Option (List ℕ)
up_to_empty [] = None
up_to_empty (line ∷ lines) = if has_text line then option_map (λ more. line ++ more) (up_to_empty lines) else Some line

-- the head in front of the lines, if a whole one stands there
abbrev pub head_of : List (List ℕ) → Option (List ℕ)
head_of [] = None
head_of (line ∷ lines) = option_map (λ more. line ++ more) (if has_text line then up_to_empty lines else head_of lines)

-- the body of a block: what stands behind its head, and nothing where no whole head stands in front
unfoldable pub body_of : List ℕ → List ℕ
body_of block = option_map_or (λ head. drop (length head) block) (head_of (lines_of block)) []

-- the bytes, if a block may have so many
abbrev pub within_limit : List ℕ → Option (List ℕ)
within_limit bytes = if nat_le (length bytes) 65536 then Some bytes else None

-- the head in front of the bytes whose end is among the first of them that a block may have, if one stands there
unfoldable pub head_in_front : List ℕ → Option (List ℕ)
head_in_front bytes = option_and_then within_limit (head_of (lines_of bytes))

-- the first so many bytes, if they are there and a block may have so many
abbrev pub front_with : ℕ → List ℕ → Option (List ℕ)
front_with len bytes = if nat_le len (length bytes) then within_limit (take len bytes) else None

-- the block in front of the bytes, where its head has this length and declares this for its body
abbrev pub front_by : Declared → ℕ → List ℕ → Option (List ℕ)
front_by (Length body) len bytes = front_with (len + body) bytes
front_by Malformed len bytes = None

-- the block in front of the bytes, if a whole one stands there
unfoldable pub front_of : List ℕ → Option (List ℕ)
front_of bytes = option_and_then (λ head. front_by (declared_by head) (length head) bytes) (head_in_front bytes)

-- what is wrong with a block whose head has this length and declares this for its body
abbrev pub fault_by : Declared → ℕ → Option Fault
fault_by (Length body) len = if nat_lt 65536 (len + body) then Some (TooLong (len + body)) else None
fault_by Malformed len = Some BadLength

-- what is wrong with bytes whose head, if it has its end among the first that a block may have, is this
abbrev pub fault_with : Option (List ℕ) → List ℕ → Option Fault
fault_with None bytes = if nat_lt 65536 (length bytes) then Some (TooLong 65537) else None
fault_with (Some head) bytes = fault_by (declared_by head) (length head)

-- why no block stands in front of the bytes and none can come, if that is so
unfoldable pub fault_of : List ℕ → Option Fault
fault_of bytes = fault_with (head_in_front bytes) bytes
