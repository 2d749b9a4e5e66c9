-- How many seconds an origination has.
use Rattle.std.specs.Prelude.{ℕ, ◌≤◌, nat_le, ◌&&◌, if◌then◌else◌, List, Option, None, Some, codes}
use Rattle.std.specs.List.{filter_map, last_or}
use Rattle.std.specs.Option.{option_and_then}
use Rattle.std.specs.Str.{bytes_eq}
use Rattle.fs_text.specs.Number.{read_u64}
use Rattle.fs_text.specs.Texts.{Text}
use Rattle.fs_dial.specs.DialStrings.{Dial}
use Rattle.fs_orig.specs.Plans.{plain_pairs}

-- a number of seconds from 1 to 3,600
pub record IsTimeout (seconds : ℕ) : Type 0 where
  pub low : 1 ≤ seconds
  pub high : seconds ≤ 3600

abbrev pub seconds_within : ℕ → Option ℕ
seconds_within n = if nat_le 1 n && nat_le n 3600 then Some n else None

-- the number of seconds that a text says
abbrev pub seconds_in : Text → Option ℕ
seconds_in text = option_and_then seconds_within (read_u64 text)

-- the value of a pair that has this name
abbrev pub value_named : Text → Text × Text → Option Text
value_named name pair = if bytes_eq pair.0 name then Some pair.1 else None

-- the value of the last pair of this name
abbrev pub last_value : Text → List (Text × Text) → Option Text
last_value name pairs = last_or None (filter_map (value_named name) pairs)

-- what the last pair of the braces says that is named `originate_timeout`
abbrev pub braces_timeout : Dial → Option ℕ
braces_timeout dial = option_and_then seconds_in (last_value (codes "originate_timeout") (plain_pairs dial.pairs))
