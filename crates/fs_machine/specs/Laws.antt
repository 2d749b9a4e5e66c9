-- What the laws of runs speak of: what entries make of a switch that was configured so.
use Rattle.std.specs.Prelude.{ℕ, ◌≤◌, List, [], ◌∷◌, ◌++◌}
use Rattle.fs_doc.specs.Reading.{Configuration}
use Rattle.fs_text.specs.Texts.{Text}
use Rattle.fs_state.specs.Switch.{Switch, empty}
use Rattle.fs_machine.specs.declared.entry.Entry.{Entry}
use Rattle.fs_machine.specs.declared.entry.Act.TheVariants.{Close}
use Rattle.fs_machine.specs.declared.entry.Closing.TheVariants.{Sent}
use Rattle.fs_machine.specs.Frames.{frames_from, handed_from}
use Rattle.fs_machine.specs.Runs.{run_from, IsRunFrom}

-- the journal may cost 2^30 at most
abbrev pub IsLimited : Configuration → Type 0
IsLimited config = config.settings.journal_limit ≤ 1073741824

-- none of the entries is refused
abbrev pub IsRun : Configuration → List Entry → Type 0
IsRun config entries = IsRunFrom (empty config) entries

-- the state behind the entries
abbrev pub state_after : Configuration → List Entry → Switch
state_after config entries = run_from (empty config) entries

-- the frames that the entries give a connection
abbrev pub given_to : ℕ → Configuration → List Entry → List Text
given_to conn config entries = frames_from conn (empty config) entries

-- the frames that they hand out to it
abbrev pub handed_to : ℕ → Configuration → List Entry → List Text
handed_to conn config entries = handed_from conn (empty config) entries

-- the entries, and then the one by which a connection is closed with all sent
abbrev pub until_sent : List Entry → ℕ → ℕ → List Entry
until_sent entries moment conn = entries ++ record { moment = moment; act = Close conn Sent } ∷ []
