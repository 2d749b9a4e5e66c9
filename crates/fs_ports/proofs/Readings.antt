-- From what the crate `regex` ensures of a text to what the text is read as.
use Rattle.std.proofs.Common.{◌≡◌, ◌≢◌, ℕ, ◌<◌, ◌≤◌, ◌⊎◌, List, length, Option, None, Some, IsSomeAnd, refl, ⊎_elim}
use Rattle.std.specs.Prelude.{chars, IfSome}
use Rattle.std.specs.Option.{option_map}
use Rattle.regex.specs.Patterns.{Re, SameCaptures, Reads, Refuses}
use Rattle.regex.specs.Bytes.{regex_pattern, regex_names, regex_source, regex_config, IsReadFromSource}
use Rattle.regex.specs.Sources.{IsRefusal}
use Rattle.regex.specs.Failures.{IsRightKind}
use Rattle.regex.specs.declared.bytes.regex.Regex.{Regex}
use Rattle.regex.specs.declared.error.Error.{Error}
use Rattle.regex.specs.declared.error.Error.TheVariants.{Syntax}
use Rattle.regex_syntax.specs.Brackets.{Nested}
use Rattle.regex_syntax.specs.Grammar.{Names, read, group_count}
use Rattle.regex_syntax.specs.declared.error.Error as parser
use Rattle.regex_syntax.specs.declared.error.ErrorKind.{ErrorKind}
use Rattle.regex_syntax.specs.declared.error.ErrorKind.TheVariants.{OutOfMemory, NestLimitExceeded}
use Rattle.fs_ports.specs.Patterns.{Reading, pattern_reading, options, IsUnreadable, IsBuiltOf}

-- what the grammar of the crate gives, and what is seen of it
abbrev Read : Type 0
Read = Option (Nested Re × Names)

abbrev seen : Read → Option Reading
seen = option_map (λ (re, names). record { re = re.value; depth = re.depth; names = names })

-- the reading that a regex was built of
abbrev Found : Option Reading → Regex → Type 0
Found read regex = IsSomeAnd read (λ what. SameCaptures (regex_pattern regex) what.re × (regex_names regex ≡ what.names))

built_of : (text : List ℕ) (regex : Regex) → regex_source regex ≡ text → (read : Option Reading) → pattern_reading text ≡ read →
    Found read regex → IsBuiltOf text regex
built_of text regex source None is found = absurd found
built_of text regex source (Some what) is found = record { what = what; is_read = is; alike = found.0; names = found.1; source = source }

found_in : (read : Read) (depth : ℕ) (regex : Regex) →
    IsSomeAnd read (λ (re, names). (re.depth ≤ depth) × SameCaptures (regex_pattern regex) re.value × (regex_names regex ≡ names)
    × (group_count (regex_pattern regex) ≤ length (regex_names regex))) →
    Found (seen read) regex
found_in None depth regex h = absurd h
found_in (Some x) depth regex h = (h.1, h.2)

-- a regex whose source is the text is built of it
pub built : (text : List ℕ) (regex : Regex) → regex_source regex ≡ text → regex_config regex ≡ options → IsReadFromSource regex →
    IsBuiltOf text regex
unfolding Reads pattern_reading
built text regex source config is_read =
    built_of text regex source (pattern_reading text) refl (found_in (read options (chars text)) _ regex (rw (source, config) at is_read))

unreadable : (read : Read) (kind : ErrorKind) → kind ≢ OutOfMemory →
    (kind ≡ OutOfMemory) ⊎ ((read ≡ None) ⊎ ((kind ≡ NestLimitExceeded) × IfSome read (λ (re, names). options.nest_limit < re.depth))) →
    IsUnreadable (seen read)
unreadable None kind memory h = tt
unreadable (Some x) kind memory h =
    ⊎_elim (λ e. absurd (memory e)) (⊎_elim (λ none. absurd cc) (λ deep. deep.1)) h

-- a text with an error of syntax is no pattern, or nested too deep
pub refused : (text : List ℕ) (error : Error) (e : parser.Error) → error ≡ Syntax e → IsRefusal options text error →
    IsRightKind options text error → IsUnreadable (pattern_reading text)
unfolding Refuses pattern_reading
refused text error e is refusal kind = unreadable (read options (chars text)) e.kind (rw is at kind) (refusal e is)

pub ruleset reading_rules = (built, refused)
