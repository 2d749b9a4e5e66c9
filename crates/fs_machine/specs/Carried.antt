-- What a run leaves of a connection where it goes on without naming it, and what an entry of its own does to it.
use Rattle.std.specs.Prelude.{◌≡◌, ℕ, ◌≤◌, ◌==◌, ◌||◌, Bool, true, false, List, [], ◌∷◌, ◌++◌, None}
use Rattle.fs_doc.specs.Reading.{Configuration}
use Rattle.fs_text.specs.Texts.{Text}
use Rattle.fs_state.specs.Switch.{Switch}
use Rattle.fs_machine.specs.declared.entry.Entry.{Entry}
use Rattle.fs_machine.specs.declared.entry.Act.{Act}
use Rattle.fs_machine.specs.declared.entry.Act.TheVariants.{Close}
use Rattle.fs_machine.specs.declared.entry.Closing.TheVariants.{Sent, Failed}
use Rattle.fs_machine.specs.Connections.{phase_at}
use Rattle.fs_machine.specs.Questions.{owed_to}
use Rattle.fs_machine.specs.Step.{is_closed}
use Rattle.fs_machine.specs.Frames.{handed_in, command_in, commands_of}
use Rattle.fs_machine.specs.Laws.{state_after, given_to, handed_to}
use Rattle.fs_machine.specs.Turned.{IsJournal}

-- the act closes the connection, of which all was sent
abbrev pub closes_sent : ℕ → Act → Bool
closes_sent conn (Close closer Sent) = closer == conn
closes_sent conn _ = false

-- one of the entries does
abbrev pub is_sent : ℕ → List Entry → Bool
is_sent conn [] = false
is_sent conn (entry ∷ entries) = closes_sent conn entry.act || is_sent conn entries

-- the act closes a connection
abbrev pub shuts : Act → Bool
shuts (Close closer Sent) = true
shuts (Close closer Failed) = true
shuts _ = false

-- a connection has come: its number is drawn
abbrev pub HasCome : ℕ → Switch → Type 0
HasCome conn s = conn ≤ s.drawn.conns

-- a connection is closed, or was never there
abbrev pub is_shut_at : Configuration → List Entry → ℕ → Bool
is_shut_at config log conn = is_closed (phase_at (state_after config log) conn)

-- a connection that has come, in a journal and in one that goes on without naming it
pub record Carries (conn : ℕ) (config : Configuration) (old new : List Entry) : Type 0 where
  pub run : IsJournal config new
  pub come : HasCome conn (state_after config new)
  pub shut : is_shut_at config new conn ≡ is_shut_at config old conn
  pub owed : owed_to (state_after config old) conn ≡ None → owed_to (state_after config new) conn ≡ None
  pub handed : handed_to conn config new ≡ handed_to conn config old
  pub more : List Text
  pub given : given_to conn config new ≡ given_to conn config old ++ more
  pub silent : is_shut_at config old conn ≡ true → given_to conn config new ≡ given_to conn config old
  pub commands : commands_of conn new ≡ commands_of conn old
  pub sent : is_sent conn new ≡ is_sent conn old

-- an entry of its own
pub record Does (conn : ℕ) (config : Configuration) (before : List Entry) (entry : Entry) : Type 0 where
  pub run : IsJournal config (before ++ entry ∷ [])
  pub come : HasCome conn (state_after config (before ++ entry ∷ []))
  pub was_open : is_shut_at config before conn ≡ false
  pub shut : is_shut_at config (before ++ entry ∷ []) conn ≡ shuts entry.act
  pub handed : handed_to conn config (before ++ entry ∷ [])
      ≡ handed_to conn config before ++ handed_in conn entry.act (state_after config before)
  pub more : List Text
  pub given : given_to conn config (before ++ entry ∷ []) ≡ given_to conn config before ++ more
  pub commands : commands_of conn (before ++ entry ∷ []) ≡ commands_of conn before ++ command_in conn entry.act
  pub sent : is_sent conn (before ++ entry ∷ []) ≡ (is_sent conn before || closes_sent conn entry.act)

-- a connection that has come and that no entry names yet
pub record Begins (conn : ℕ) (config : Configuration) (log : List Entry) : Type 0 where
  pub come : HasCome conn (state_after config log)
  pub open_yet : is_shut_at config log conn ≡ false
  pub handed : handed_to conn config log ≡ []
  pub commands : commands_of conn log ≡ []
  pub unsent : is_sent conn log ≡ false
