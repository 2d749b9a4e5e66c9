-- What the owner of a connection enters in a book, and what it asks.
use Rattle.std.specs.Prelude.{◌≡◌, ℕ, List, [], ◌∷◌, ◌++◌, length, Some}
use mathlib.Core.List.{IsPrefix}
use Rattle.fs_doc.specs.Reading.{Configuration}
use Rattle.fs_book.specs.Opened.{OwnsNumber, NoneNames, Quiet}
use Rattle.fs_machine.specs.declared.entry.Entry.{Entry}
use Rattle.fs_machine.specs.declared.entry.Act.{Act}
use Rattle.fs_machine.specs.declared.entry.Act.TheVariants.{Arrive}
use Rattle.fs_machine.specs.declared.reply.Reply.{Reply}
use Rattle.fs_machine.specs.declared.refusal.Refusal.{Refusal}
use Rattle.fs_machine.specs.declared.standing.Standing.{Standing}
use Rattle.fs_machine.specs.Standing.{standing_of}
use Rattle.fs_machine.specs.Laws.{state_after}
use Rattle.fs_machine.specs.Turned.{IsJournal, Answers, Refuses, opens, names}
use Rattle.fs_conn.specs.declared.standing.StandingOf.{StandingOf}

-- a pass that has seen this, with these places, owns the connection
abbrev pub OwnsConn : Configuration → ℕ → List Entry → List ℕ → Type 0
OwnsConn config conn seen mine = OwnsNumber opens config conn seen mine

-- an act at a moment
abbrev pub entry_at : ℕ → Act → Entry
entry_at moment act = record { moment = moment; act = act }

-- An act was entered, at a moment that the clock may tell. Others may have entered something before it, and nothing that names the
-- connection.
pub record Entered (may : ℕ → Type 0) (config : Configuration) (conn : ℕ) (seen : List Entry) (mine : List ℕ) (seen' : List Entry)
    (mine' : List ℕ) (act : Act) (answer : Reply) : Type 0 where
  pub moment : ℕ
  pub told : may moment
  pub before : List Entry
  pub quiet : Quiet names conn seen before
  pub sees : before ++ entry_at moment act ∷ [] ≡ seen'
  pub more : mine' ≡ mine ++ length before ∷ []
  pub answers : Answers config before (entry_at moment act) answer

-- it was refused
pub record Refused (config : Configuration) (conn : ℕ) (seen : List Entry) (mine : List ℕ) (seen' : List Entry) (mine' : List ℕ)
    (act : Act) (why : Refusal) : Type 0 where
  pub moment : ℕ
  pub quiet : Quiet names conn seen seen'
  pub same : mine' ≡ mine
  pub refuses : Refuses config seen' (entry_at moment act) why

-- A connection came, by an entry at a moment that the clock may tell, which opens its number. Others may have entered something before it.
pub record Welcomed (may : ℕ → Type 0) (config : Configuration) (seen : List Entry) (mine : List ℕ) (seen' : List Entry)
    (mine' : List ℕ) (conn : ℕ) : Type 0 where
  pub moment : ℕ
  pub told : may moment
  pub before : List Entry
  pub front : IsPrefix seen before
  pub sees : seen' ≡ before ++ entry_at moment Arrive ∷ []
  pub more : mine' ≡ mine ++ length before ∷ []
  pub run : IsJournal config seen'
  pub opened : opens config before (entry_at moment Arrive) ≡ Some conn
  -- the pass owns it, and no entry names it yet
  pub owns : OwnsConn config conn seen' mine'
  pub fresh : NoneNames names conn seen'

-- none came, for this reason
pub record TurnedAway (config : Configuration) (seen : List Entry) (mine : List ℕ) (seen' : List Entry) (mine' : List ℕ) (why : Refusal)
    : Type 0 where
  pub moment : ℕ
  pub front : IsPrefix seen seen'
  pub same : mine' ≡ mine
  pub refuses : Refuses config seen' (entry_at moment Arrive) why

-- what a look tells: these entries are a run, and so the connection stands behind them
pub record TellsConn (asked : StandingOf) (config : Configuration) (log : List Entry) (answer : Standing) : Type 0 where
  pub run : IsJournal config log
  pub stands : answer ≡ standing_of asked.conn (state_after config log)
