-- What a pattern finds in the value of a field.
use Rattle.std.specs.Prelude.{ℕ, zero, suc, Bool, true, false, nat_lt, if◌then◌else◌, List, [], map, length, Option, None, Some}
use Rattle.std.specs.Prelude.{slice_range}
use Rattle.std.specs.List.{range_with_len}
use Rattle.std.specs.Option.{option_map_or}
use Rattle.regex.specs.Bytes.{captures_haystack, captures_span}
use Rattle.regex.specs.Patterns.{Match, find, span}
use Rattle.regex.specs.Writes.{group_of}
use Rattle.regex.specs.declared.bytes.captures.Captures.{Captures}
use Rattle.fs_text.specs.Texts.{Text}
use Rattle.fs_ports.specs.Patterns.{Reading, pattern_reading}
use Rattle.fs_plan.specs.declared.tested.Tested.{Tested}

-- the texts of the whole match and of its groups 1 to 9
abbrev pub Groups : Type 0
Groups = List Text

-- the text that a group spans, or none where it took no part
abbrev pub group_text : Text → Option (ℕ × ℕ) → Text
group_text value span = option_map_or (λ (s : ℕ × ℕ). slice_range value s.0 s.1) span []

-- the text of a group of captures
abbrev pub captured : Captures → ℕ → Text
captured captures n = group_text (captures_haystack captures) (captures_span captures n)

-- what a group of a match spans; group 0 is the whole match
abbrev pub span_of : Match → ℕ → Option (ℕ × ℕ)
span_of m zero = Some (span m)
span_of m (suc n) = group_of m (suc n)

abbrev pub groups_of : Text → Match → Groups
groups_of value m = map (λ n. group_text value (span_of m n)) (range_with_len 0 10)

-- a pattern has a group beside the whole match
abbrev pub has_groups : Reading → Bool
has_groups pattern = nat_lt 1 (length pattern.names)

abbrev pub no_match : Tested
no_match = record { holds = false; groups = None }

-- what a match gives: its groups, where the pattern has any
abbrev pub match_gives : Reading → Text → Option Match → Tested
match_gives pattern value None = no_match
match_gives pattern value (Some m) = record { holds = true; groups = if has_groups pattern then Some (groups_of value m) else None }

-- the leftmost match of the pattern anywhere in the value
abbrev pub searched : Option Reading → Text → Tested
searched None value = no_match
searched (Some pattern) value = match_gives pattern value (find pattern.re value 0)

-- what the pattern of a text finds in a value
unfoldable pub tested : Text → Text → Tested
tested expression value = searched (pattern_reading expression) value
