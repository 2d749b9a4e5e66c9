-- What the text of a pattern is read as, and what building a pattern did.
use Rattle.std.specs.Prelude.{◌≡◌, ℕ, ◌<◌, false, List, chars, Option, None, Some}
use Rattle.std.specs.Option.{option_map}
use Rattle.regex.specs.Patterns.{Re, SameCaptures, Config, default_config}
use Rattle.regex.specs.Bytes.{regex_pattern, regex_names, regex_source}
use Rattle.regex.specs.declared.bytes.regex.Regex.{Regex}
use Rattle.regex_syntax.specs.Grammar.{Names, read}
use Rattle.fs_ports.specs.Counts.{raised}
use Rattle.fs_ports.specs.declared.patterns.Built.{Built}
use Rattle.fs_ports.specs.declared.patterns.Built.TheVariants as built

-- patterns are searched in bytes, and need not match whole characters
abbrev pub options : Config
options = record default_config { utf8 = false }

-- a pattern, how deep it is nested, and the names of its groups, of which the first is the whole match
pub record Reading : Type 0 where
  pub re : Re
  pub depth : ℕ
  pub names : Names

-- what a text is read as, if it is a pattern
unfoldable pub pattern_reading : List ℕ → Option Reading
pattern_reading text = option_map (λ (re, names). record { re = re.value; depth = re.depth; names = names }) (read options (chars text))

-- the text is no pattern, or one that is nested too deep
abbrev pub IsUnreadable : Option Reading → Type 0
IsUnreadable None = Unit {0}
IsUnreadable (Some r) = options.nest_limit < r.depth

-- the text is a pattern, and what was built of it matches as it does, with the same groups
pub record IsBuiltOf (text : List ℕ) (regex : Regex) : Type 0 where
  pub what : Reading
  pub is_read : pattern_reading text ≡ Some what
  pub alike : SameCaptures (regex_pattern regex) what.re
  pub names : regex_names regex ≡ what.names
  pub source : regex_source regex ≡ text

-- what the answer says of the text
abbrev pub Says : List ℕ → Built → Type 0
Says text (built.Regex regex) = IsBuiltOf text regex
Says text built.NoReading = IsUnreadable (pattern_reading text)
Says text built.TooLarge = Unit {0}
Says text built.Memory = Unit {0}

-- what the answer did to the count of patterns that were too large
abbrev pub Counts : ℕ → ℕ → Built → Type 0
Counts old new (built.Regex regex) = new ≡ old
Counts old new built.NoReading = new ≡ old
Counts old new built.TooLarge = new ≡ raised old
Counts old new built.Memory = new ≡ old
