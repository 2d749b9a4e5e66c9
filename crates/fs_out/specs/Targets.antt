-- Where a controller is dialed, as words say it.
use Rattle.std.specs.Prelude.{ℕ, ◌==◌, nat_le, ◌&&◌, Bool, not, if◌then◌else◌, List, [], ◌∷◌, length, filter, codes, Option, None, Some, Result, Ok, Err}
use Rattle.std.specs.List.{list_any, before_last, after_last, slice_split}
use Rattle.std.specs.Str.{bytes_eq}
use Rattle.fs_text.specs.Number.{read_u64}
use Rattle.fs_text.specs.Texts.{Text}
use Rattle.fs_text.specs.Words.{is_byte}
use Rattle.fs_out.specs.declared.fault.TargetFault.{TargetFault}
use Rattle.fs_out.specs.declared.fault.TargetFault.TheVariants as fault
use Rattle.fs_out.specs.declared.target.Target.{Target}

-- ---- words

-- what stands between spaces, with nothing between two of them
abbrev pub parts_at_spaces : Text → List Text
parts_at_spaces text = slice_split (is_byte 32) text

-- it is not empty
abbrev pub is_word : Text → Bool
is_word part = not (length part == 0)

-- the words of a text, with runs of spaces between them
abbrev pub words_of : Text → List Text
words_of text = filter is_word (parts_at_spaces text)

-- ---- the address

-- what stands before and behind the last colon, if there is one
unfoldable pub parts_of : Text → Option (Text × Text)
parts_of address =
    if list_any (is_byte 58) address then Some (before_last (is_byte 58) address, after_last (is_byte 58) address) else None

-- a number from 1 to 65,535
abbrev pub within_ports : Option ℕ → Option ℕ
within_ports None = None
within_ports (Some n) = if nat_le 1 n && nat_le n 65535 then Some n else None

-- the port that a text says
abbrev pub port_of : Text → Option ℕ
port_of text = within_ports (read_u64 text)

-- ---- the target

-- the word by which a controller may command more than one channel
abbrev pub is_full : Text → Bool
is_full word = bytes_eq word (codes "full")

-- by a host, a port, and the words behind the address
abbrev pub target_at : Text → Option ℕ → List Text → Result Target TargetFault
target_at host None modes = Err fault.BadPort
target_at host (Some port) modes =
    if length host == 0 then Err fault.NoHost else Ok (record { host = host; port = port; full = list_any is_full modes })

-- by the parts of an address
abbrev pub target_by : Option (Text × Text) → List Text → Result Target TargetFault
target_by None modes = Err fault.NoPort
target_by (Some parts) modes = target_at parts.0 (port_of parts.1) modes

-- by words, the first of which is the address
abbrev pub target_in : List Text → Result Target TargetFault
target_in [] = Err fault.NoPort
target_in (address ∷ modes) = target_by (parts_of address) modes

-- the target that a text says, or what is wrong with it
unfoldable pub target_of : Text → Result Target TargetFault
target_of text = target_in (words_of text)
