-- How an entry of a run concerns one connection: it is its own, one of others, or the one by which it comes.
use Rattle.std.specs.Prelude.{◌≡◌, ◌≢◌, ℕ, Bool, true, false, List, [], ◌∷◌, ◌++◌, Option, None, Some, ◌⊎◌}
use Rattle.fs_text.specs.Texts.{Text}
use Rattle.fs_cmd.specs.Frames.{auth_request}
use Rattle.fs_state.specs.declared.conn.Phase.{Phase}
use Rattle.fs_state.specs.declared.conn.Phase.TheVariants.{Fresh, Ready, Ending, Closed}
use Rattle.fs_state.specs.declared.conn.Parting.{Parting}
use Rattle.fs_state.specs.declared.conn.Parting.TheVariants as parting
use Rattle.fs_state.specs.Switch.{Switch, waiting_for}
use Rattle.fs_machine.specs.declared.entry.Entry.{Entry}
use Rattle.fs_machine.specs.declared.entry.Act.{Act}
use Rattle.fs_machine.specs.declared.entry.Act.TheVariants.{Arrive, Command, Take, Close, Dialed, Work, Job, Loaded, Halt}
use Rattle.fs_machine.specs.Connections.{phase_at}
use Rattle.fs_machine.specs.Controlling.{coming_number, held_through}
use Rattle.fs_machine.specs.Questions.{owed_to, parting_at}
use Rattle.fs_machine.specs.Step.{reads, is_closed, step}
use Rattle.fs_machine.specs.Frames.{given_by, handed_in, command_in}

-- the connection whose act it is
abbrev pub actor_of : Act → Option ℕ
actor_of Arrive = None
actor_of (Command conn block) = Some conn
actor_of (Take conn) = Some conn
actor_of (Close conn how) = Some conn
actor_of (Dialed slot linked) = None
actor_of (Work slot) = None
actor_of (Job number) = None
actor_of (Loaded number note) = None
actor_of Halt = None

-- An act of its own, while it is open. What waited for it, and then what it is given, is what is handed out to it, and then what waits.
-- If the act closes it, it is given nothing.
pub record IsOwn (conn : ℕ) (s : Switch) (entry : Entry) : Type 0 where
  pub actor : actor_of entry.act ≡ Some conn
  pub was_open : is_closed (phase_at s conn) ≡ false
  pub frames : is_closed (phase_at (step s entry).state conn) ≡ false →
      waiting_for s conn ++ given_by conn s entry ≡ handed_in conn entry.act s ++ waiting_for (step s entry).state conn
  pub last : is_closed (phase_at (step s entry).state conn) ≡ true → given_by conn s entry ≡ []

-- for this it parts by its own doing: its exit, a password that was refused, the end of its input
abbrev pub is_its_own : Parting → Bool
is_its_own parting.Exit = true
is_its_own parting.AuthRefused = true
is_its_own parting.EndOfInput = true
is_its_own parting.Stopped = false
is_its_own parting.ChannelLeft = false

-- it stays in its phase, and has parted for what it had parted for
pub record KeepsPhase (conn : ℕ) (s t : Switch) : Type 0 where
  pub phase : phase_at t conn ≡ phase_at s conn
  pub parting : parting_at t conn ≡ parting_at s conn

-- it read commands and is ending now, not by its own doing
pub record IsParted (conn : ℕ) (s t : Switch) : Type 0 where
  pub read : reads (phase_at s conn) ≡ true
  pub ending : phase_at t conn ≡ Ending
  pub why : Parting
  pub parting : parting_at t conn ≡ Some why
  pub others : is_its_own why ≡ false

-- what others may make of it
abbrev pub KeepsOrParts : ℕ → Switch → Switch → Type 0
KeepsOrParts conn s t = KeepsPhase conn s t ⊎ IsParted conn s t

-- An act of others. It gives no command and nothing is handed out to it; it stays in its phase, or it read commands and is ending now; it
-- is owed nothing if it was owed nothing; what it is given waits behind what waited.
pub record IsOthers (conn : ℕ) (s : Switch) (entry : Entry) : Type 0 where
  pub actor : actor_of entry.act ≢ Some conn
  pub commands : command_in conn entry.act ≡ []
  pub handed : handed_in conn entry.act s ≡ []
  pub phase : KeepsOrParts conn s (step s entry).state
  pub owed : owed_to s conn ≡ None → owed_to (step s entry).state conn ≡ None
  pub frames : waiting_for (step s entry).state conn ≡ waiting_for s conn ++ given_by conn s entry

-- the connection that comes by an act, if one does: it arrives, or is that of a controller which takes hold of a channel
abbrev pub comer_of : Act → Switch → Option ℕ
comer_of Arrive s = Some (coming_number s)
comer_of (Command conn block) s = None
comer_of (Take conn) s = None
comer_of (Close conn how) s = None
comer_of (Dialed slot linked) s = held_through linked slot s
comer_of (Work slot) s = None
comer_of (Job number) s = None
comer_of (Loaded number note) s = None
comer_of Halt s = None

-- the phase in which it is then: one that arrives gives no command but its password, the one of a controller gives all
abbrev pub first_phase : Act → Phase
first_phase Arrive = Fresh
first_phase _ = Ready

-- what it is given by that: one that arrives is asked for the password, a controller is told nothing before it asks
abbrev pub first_frames : Act → List Text
first_frames Arrive = auth_request ∷ []
first_frames _ = []

-- The act by which it comes. It is given its first frames, and nothing else waits.
pub record Comes (conn : ℕ) (s : Switch) (entry : Entry) : Type 0 where
  pub comer : comer_of entry.act s ≡ Some conn
  pub before : phase_at s conn ≡ Closed
  pub after : phase_at (step s entry).state conn ≡ first_phase entry.act
  pub given : given_by conn s entry ≡ first_frames entry.act
  pub frames : waiting_for (step s entry).state conn ≡ first_frames entry.act

-- an entry concerns a connection in one of these three ways
abbrev pub Concerns : ℕ → Switch → Entry → Type 0
Concerns conn s entry = IsOwn conn s entry ⊎ (IsOthers conn s entry ⊎ Comes conn s entry)
