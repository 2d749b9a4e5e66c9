-- What `load` prints of the events that were counted.
use Rattle.std.specs.Prelude.{ℕ, ◌==◌, List, [], ◌++◌, map, codes, if◌then◌else◌}
use Rattle.std.specs.List.{concat}
use Rattle.std.specs.Fmt.{decimal}
use Rattle.fs_text.specs.Cause.{all_causes, cause_name, cause_number}
use Rattle.fs_text.specs.EventName.{all_events, event_name, event_number}
use Rattle.fs_text.specs.declared.causes.Cause.{Cause}
use Rattle.fs_text.specs.declared.event_names.EventName.{EventName}
use Rattle.fs_state.specs.Counts.{Tallies, counted_at}

-- a number behind a space, at the end of a line
abbrev pub number_end : ℕ → List ℕ
number_end number = codes " " ++ (decimal number ++ codes "\n")

-- a count in a line, unless it is 0
abbrev pub count_line : List ℕ → List ℕ → ℕ → List ℕ
count_line kind name count = if count == 0 then [] else kind ++ (name ++ number_end count)

-- how many channels were hung up with a cause
abbrev pub cause_line : Tallies → Cause → List ℕ
cause_line tallies cause = count_line (codes "cause ") (cause_name cause) (counted_at tallies.hangups (cause_number cause))

-- how many events had a name
abbrev pub event_line : Tallies → EventName → List ℕ
event_line tallies name = count_line (codes "event ") (event_name name) (counted_at tallies.events (event_number name))

-- how many calls there were, and the counts that are not 0, of causes and then of events, each in the order of their numbers
unfoldable pub counts_text : ℕ → Tallies → List ℕ
counts_text calls tallies =
    codes "calls" ++ (number_end calls ++ (concat (map (cause_line tallies) all_causes) ++ concat (map (event_line tallies) all_events)))
