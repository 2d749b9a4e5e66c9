-- What comes of dialing a controller for the channel in a slot.
use Rattle.std.specs.Prelude.{◌≡◌, ◌⊎◌, ℕ, Bool, true, false, List, Option, None, Some, is_some, IfSome}
use Rattle.fs_doc.specs.Reading.{Configuration}
use Rattle.fs_ports.specs.Counts.{raised}
use Rattle.fs_state.specs.Switch.{is_full}
use Rattle.fs_machine.specs.declared.answer.Answer.{Answer}
use Rattle.fs_machine.specs.declared.entry.Entry.{Entry}
use Rattle.fs_machine.specs.declared.entry.Act.TheVariants.{Dialed}
use Rattle.fs_machine.specs.declared.reply.Reply.{Reply}
use Rattle.fs_machine.specs.declared.reply.Reply.TheVariants as reply
use Rattle.fs_machine.specs.Controlling.{dial_at}
use Rattle.fs_machine.specs.Laws.{state_after}
use Rattle.fs_machine.specs.Turned.{opens}
use Rattle.fs_session.specs.declared.talked.Talked.{Talked}
use Rattle.fs_session.specs.declared.talked.Talked.TheVariants.{Opened, Not, Idle, Refused}
use Rattle.fs_session.specs.Working.{Gained, Stays, Fails}

-- what came of an entry at a place, by its reply and the link that there was
abbrev pub talked_by : {L : Type 0} → ℕ → Reply → Answer → Option L → Talked L
talked_by place (reply.Dialed (Some conn)) answer (Some link) = Opened conn link answer.wakes
talked_by place _ answer _ = Not place answer.wakes

abbrev pub talked : {L : Type 0} → ℕ → Answer → Option L → Talked L
talked place answer link = talked_by place answer.reply answer link

-- what a dial did to the count of those that failed: it rose where there is no link
abbrev pub Counts : Bool → ℕ → ℕ → Type 0
Counts true old new = new ≡ old
Counts false old new = new ≡ raised old

-- one dial at most failed
abbrev pub MayCount : ℕ → ℕ → Type 0
MayCount old new = (new ≡ old) ⊎ (new ≡ raised old)

-- what a dial gave: a link of which this holds, or none
abbrev pub Dials : {L : Type 0} → (L → Type 0) → ℕ → ℕ → Option L → Type 0
Dials IsNew old new link = IfSome link IsNew × Counts (is_some link) old new

module _ (config : Configuration) (seen : List Entry) (mine : List ℕ) (seen' : List Entry) (mine' : List ℕ) (slot : ℕ) where
  -- An entry tells whether there is a link, at this place and moment. Only where a dial failed it tells of none.
  pub record Tells (old new now place : ℕ) : Type 0 where
    pub linked : Bool
    pub gained : Gained config seen mine seen' mine' (λ done. done ≡ Dialed slot linked) now place
    pub counts : Counts linked old new

  -- The connection of this number came by it, over a link of which this holds.
  pub record Opens {L : Type 0} (IsNew : L → Type 0) (old new now conn : ℕ) (link : L) : Type 0 where
    pub place : ℕ
    pub tells : Tells old new now place
    pub opened : opens config tells.gained.before (record { moment = now; act = tells.gained.act }) ≡ Some conn
    pub linked : tells.linked ≡ true
    pub is_new : IsNew link

  -- no connection came by it
  pub record OpensNone (old new now place : ℕ) : Type 0 where
    pub tells : Tells old new now place
    pub none : opens config tells.gained.before (record { moment = now; act = tells.gained.act }) ≡ None

  -- none was made, and the channel waits for no controller behind all that is seen, where more may be entered
  pub record Ceased : Type 0 where
    pub stays : Stays config seen mine seen' mine'
    pub room : is_full (state_after config seen') ≡ false
    pub none : dial_at (state_after config seen') slot ≡ None

  -- what came of it
  abbrev pub Talks : {L : Type 0} → (L → Type 0) → ℕ → ℕ → ℕ → Talked L → Type 0
  Talks IsNew old new now (Opened conn link wakes) = Opens IsNew old new now conn link
  Talks IsNew old new now (Not place wakes) = OpensNone old new now place
  Talks IsNew old new now Idle = Ceased × MayCount old new
  Talks IsNew old new now (Refused why) = Fails config seen mine seen' mine' why × MayCount old new
