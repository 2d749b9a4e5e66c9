-- What a search of the front of some bytes finds.
use Rattle.std.specs.Prelude.{◌≡◌, ◌+◌, ◌≤◌, ℕ, false, List, ◌∷◌, ◌++◌, [], Option, None, Some, IfSome, is_some, length, take, drop}
use Rattle.std.specs.Prelude.{slice_range, if◌then◌else◌}
use Rattle.std.specs.List.{concat, list_any, position_or_len}
use Rattle.std.specs.Option.{option_map_or}
use Rattle.fs_frame.specs.Lines.{is_lf, text_of, lines_of, has_text, first_text, up_to_command}
use Rattle.fs_frame.specs.Headers.{declared_by}
use Rattle.fs_frame.specs.Block.{up_to_empty, head_of, head_in_front, front_of, fault_of}
use Rattle.fs_frame.specs.declared.length.Declared.TheVariants.{Length}
use Rattle.fs_frame.specs.declared.span.Span.{Span}
use Rattle.fs_frame.specs.declared.span.CommandLine.{CommandLine}
use Rattle.fs_frame.specs.declared.scan.Scan.{Scan}
use Rattle.fs_frame.specs.declared.scan.Found.{Found}
use Rattle.fs_frame.specs.declared.scan.Found.TheVariants as found
use Rattle.fs_frame.specs.declared.front.Front.{Front}
use Rattle.fs_frame.specs.declared.front.Front.TheVariants.{Open, Headed, Spoilt}

-- the first bytes, as many as a block may have
unfoldable pub within_reach : List ℕ → List ℕ
within_reach bytes = take 65536 bytes

-- this part of the bytes
abbrev pub span_bytes : List ℕ → Span → List ℕ
span_bytes bytes span = slice_range bytes span.start (span.start + span.len)

-- the command line stands there: the first line of the bytes that has a text
pub record IsCommandAt (bytes : List ℕ) (command : CommandLine) : Type 0 where
  pub within : command.text.start + command.text.len ≤ length bytes
  pub text : span_bytes bytes command.text ≡ first_text (lines_of bytes)
  pub end_within : command.end ≤ length bytes
  pub end_is : command.end ≡ length (up_to_command (lines_of bytes))

-- these bytes are whole lines among which no head ends, and the command line, if it is among them, stands there
pub record IsPassed (passed : List ℕ) (command : Option CommandLine) : Type 0 where
  pub whole : concat (lines_of passed) ≡ passed
  pub no_head : head_of (lines_of passed) ≡ None
  pub met : is_some command ≡ list_any has_text (lines_of passed)
  pub command_is : IfSome command (IsCommandAt passed)

-- a search of the bytes came so far
pub record IsScanned (bytes : List ℕ) (scan : Scan) : Type 0 where
  pub within : scan.passed ≤ length bytes
  pub is_passed : IsPassed (take scan.passed bytes) scan.command
  pub searched : scan.searched ≤ position_or_len is_lf (drop scan.passed bytes)

-- the bytes go on with a line of this length, and so many bytes in front of it are its text
pub record GoesOn (bytes : List ℕ) (text_len len : ℕ) : Type 0 where
  pub content : List ℕ
  pub more : List ℕ
  pub no_lf : list_any is_lf content ≡ false
  pub split : bytes ≡ content ++ 10 ∷ more
  pub len_is : len ≡ length content + 1
  pub text_is : text_of (content ++ 10 ∷ []) ≡ take text_len content
  pub text_within : text_len ≤ length content

-- the text of the first line and what stands behind that line, if there is a line and it has a text
abbrev pub first_of : List (List ℕ) → List ℕ → Option (List ℕ × List ℕ)
first_of [] bytes = None
first_of (line ∷ lines) bytes = if has_text line then Some (text_of line, drop (length line) bytes) else None

-- what stands behind the first line without a text, and nothing where there is none
abbrev pub behind_end : List ℕ → List ℕ
behind_end bytes = option_map_or (λ front. drop (length front) bytes) (up_to_empty (lines_of bytes)) []

-- a head of this length stands in front, and its command line stands there
pub record StandsHead (bytes : List ℕ) (len : ℕ) (command : CommandLine) : Type 0 where
  pub within : len ≤ length bytes
  pub head : head_of (lines_of bytes) ≡ Some (take len bytes)
  pub command_is : IsCommandAt (take len bytes) command

-- a search went behind one more line of the bytes: a head ends there, or it goes on from there
abbrev pub IsBehind : List ℕ → ℕ → Found → Type 0
IsBehind bytes passed (found.Head len command) = StandsHead bytes len command
IsBehind bytes passed (found.Open scan) = IsScanned bytes scan × (scan.passed ≡ passed)

-- what a search of all the bytes finds in front
abbrev pub IsFound : List ℕ → Found → Type 0
IsFound bytes (found.Head len command) = StandsHead bytes len command
IsFound bytes (found.Open scan) = IsScanned bytes scan × (head_of (lines_of bytes) ≡ None)

-- a head stands in front of the bytes, and its block, which has this length, may come
pub record StandsHeaded (bytes : List ℕ) (len : ℕ) (command : CommandLine) : Type 0 where
  pub head : List ℕ
  pub body : ℕ
  pub stands : head_in_front bytes ≡ Some head
  pub declares : declared_by head ≡ Length body
  pub len_is : len ≡ length head + body
  pub within : len ≤ 65536
  pub command_is : IsCommandAt head command

-- what is known of the front of the bytes
abbrev pub IsFront : List ℕ → Front → Type 0
IsFront bytes (Open scan) = IsScanned (within_reach bytes) scan
IsFront bytes (Headed len command) = StandsHeaded bytes len command
IsFront bytes (Spoilt fault) = fault_of bytes ≡ Some fault

-- what a search of the front comes to: it goes on only where no head stands in front and one may still come
abbrev pub IsLookedAt : List ℕ → Front → Type 0
IsLookedAt bytes (Open scan) = IsScanned (within_reach bytes) scan × (front_of bytes ≡ None) × (fault_of bytes ≡ None)
IsLookedAt bytes (Headed len command) = StandsHeaded bytes len command
IsLookedAt bytes (Spoilt fault) = fault_of bytes ≡ Some fault

-- how a buffer lies: the block handed out last begins at `lent`, the rest at `start`, and so much is known of its front
pub record IsLaidOut (bytes : List ℕ) (lent start : ℕ) (front : Front) : Type 0 where
  pub lent_within : lent ≤ start
  pub start_within : start ≤ length bytes
  pub is_front : IsFront (drop start bytes) front
