-- The frames that entries give a connection, those that they hand out to it, and the commands that it gives.
use Rattle.std.specs.Prelude.{ℕ, ◌==◌, List, [], ◌∷◌, ◌++◌, take, if◌then◌else◌}
use Rattle.fs_text.specs.Texts.{Text}
use Rattle.fs_state.specs.Frames.{Gift}
use Rattle.fs_state.specs.Outboxes.{texts_of}
use Rattle.fs_state.specs.Switch.{Switch, waiting_for, at_moment, all_given}
use Rattle.fs_state.specs.Posting.{with_posts}
use Rattle.fs_machine.specs.declared.entry.Entry.{Entry}
use Rattle.fs_machine.specs.declared.entry.Act.{Act}
use Rattle.fs_machine.specs.declared.entry.Act.TheVariants.{Command, Take}
use Rattle.fs_machine.specs.Connections.{phase_at}
use Rattle.fs_machine.specs.Step.{is_closed, act_done, step}

-- ---- what is given

-- the texts of the frames among gifts that are for a connection
abbrev pub frames_among : ℕ → List Gift → List Text
frames_among conn [] = []
frames_among conn (gift ∷ gifts) = (if gift.conn == conn then texts_of gift.frames else []) ++ frames_among conn gifts

-- of a switch before its entry is over; a connection that is closed is given nothing
abbrev pub given_in : ℕ → Switch → List Text
given_in conn s = if is_closed (phase_at s conn) then [] else frames_among conn (all_given s)

-- by an entry: the reply to its own command, the events that it posts, replies that were owed, and notices
unfoldable pub given_by : ℕ → Switch → Entry → List Text
given_by conn s entry = given_in conn (with_posts s (act_done entry.act (at_moment entry.moment s)).state)

-- by entries, one after another
abbrev pub frames_from : ℕ → Switch → List Entry → List Text
frames_from conn s [] = []
frames_from conn s (entry ∷ entries) = given_by conn s entry ++ frames_from conn (step s entry).state entries

-- ---- what is handed out

-- by an act: a Take hands out the first frame that waits
abbrev pub handed_in : ℕ → Act → Switch → List Text
handed_in conn (Take taker) s = if taker == conn then take 1 (waiting_for s conn) else []
handed_in conn _ s = []

-- by entries, one after another
abbrev pub handed_from : ℕ → Switch → List Entry → List Text
handed_from conn s [] = []
handed_from conn s (entry ∷ entries) = handed_in conn entry.act s ++ handed_from conn (step s entry).state entries

-- ---- commands

-- the block of a command of this connection
abbrev pub command_in : ℕ → Act → List Text
command_in conn (Command giver block) = if giver == conn then block ∷ [] else []
command_in conn _ = []

-- the blocks of the commands of a connection, in order
abbrev pub commands_of : ℕ → List Entry → List Text
commands_of conn [] = []
commands_of conn (entry ∷ entries) = command_in conn entry.act ++ commands_of conn entries
