-- What stands while a connection converses, and what its conversation comes to.
use Rattle.std.specs.Prelude.{◌≡◌, ◌⊎◌, ℕ, Bool, true, false, List, [], ◌++◌, Option, Some, None, Result, Ok, Err, slice_get}
use Rattle.std.specs.List.{AllByRecursion, concat}
use Rattle.std.specs.Io.KnownBytes.{IsAtEnd}
use mathlib.Core.List.{IsPrefix}
use Rattle.fs_doc.specs.Reading.{Configuration}
use Rattle.fs_ports.specs.Counts.{raised}
use Rattle.fs_ports.specs.Ports.{Input, Output, Reads, Writes, Stopped}
use Rattle.fs_frame.specs.Block.{IsBlock, fault_of}
use Rattle.fs_frame.specs.Blocks.{HasNoBlock, blocks_of, rest_of}
use Rattle.fs_frame.specs.Stream.{Stream, fed_with}
use Rattle.fs_frame.specs.declared.fault.Fault.TheVariants as faults
use Rattle.fs_book.specs.Opened.{Quiet}
use Rattle.fs_state.specs.Switch.{Switch, is_full}
use Rattle.fs_state.specs.declared.conn.Parting.{Parting}
use Rattle.fs_state.specs.declared.conn.Parting.TheVariants as parting
use Rattle.fs_machine.specs.declared.entry.Entry.{Entry}
use Rattle.fs_machine.specs.declared.entry.Act.{Act}
use Rattle.fs_machine.specs.declared.entry.Act.TheVariants.{Take}
use Rattle.fs_machine.specs.declared.refusal.Refusal.{Refusal}
use Rattle.fs_machine.specs.declared.refusal.Refusal.TheVariants as refusal
use Rattle.fs_machine.specs.declared.reply.Reply.{Reply}
use Rattle.fs_machine.specs.declared.reply.Reply.TheVariants as reply
use Rattle.fs_machine.specs.declared.answer.Answer.{Answer}
use Rattle.fs_machine.specs.declared.standing.Standing.{Standing}
use Rattle.fs_machine.specs.Questions.{parting_at}
use Rattle.fs_machine.specs.Frames.{commands_of}
use Rattle.fs_machine.specs.Laws.{state_after, given_to, handed_to}
use Rattle.fs_machine.specs.Standing.{standing_of, standing_by}
use Rattle.fs_machine.specs.Turned.{IsJournal, names}
use Rattle.fs_machine.specs.Carried.{HasCome, is_sent, is_shut_at}
use Rattle.fs_conn.specs.declared.handing.Taken.{Taken}
use Rattle.fs_conn.specs.declared.end.End.{End}
use Rattle.fs_conn.specs.declared.end.End.TheVariants as ends
use Rattle.fs_conn.specs.declared.stop.Stop.{Stop}
use Rattle.fs_conn.specs.declared.stop.Stop.TheVariants as stops
use Rattle.fs_conn.specs.declared.round.Round.{Round}
use Rattle.fs_conn.specs.declared.round.Round.TheVariants as rounds
use Rattle.fs_conn.specs.declared.round.Piece.{Piece}
use Rattle.fs_conn.specs.declared.round.Piece.TheVariants as pieces
use Rattle.fs_conn.specs.Ends.{IsFullAt}
use Rattle.fs_conn.specs.Steps.{MayBeFed, HoldsLittle}
use Rattle.fs_conn.specs.Partings.{PartedBy, PartedByInput, MadeToStop}
use Rattle.fs_conn.specs.Owning.{Entered}

-- where a conversation stands: the journal as far as its pass has seen it, the pass's places, and the two sides of its link
pub record Point : Type 0 where
  pub log : List Entry
  pub mine : List ℕ
  pub input : Input
  pub output : Output

abbrev pub point : List Entry → List ℕ → Input → Output → Point
point log mine input output = record { log = log; mine = mine; input = input; output = output }

-- the bytes of the frames that a journal gives a connection, and of those that it hands out
abbrev pub bytes_given : Configuration → ℕ → List Entry → List ℕ
bytes_given config conn log = concat (given_to conn config log)

abbrev pub bytes_handed : Configuration → ℕ → List Entry → List ℕ
bytes_handed config conn log = concat (handed_to conn config log)

-- the entry at this place names the connection, and has a moment that may be told
abbrev pub MadeAt : (ℕ → Type 0) → ℕ → List Entry → ℕ → Type 0
MadeAt may conn log p = (entry : Entry) × (slice_get log p ≡ Some entry) × (names entry ≡ Some conn) × may entry.moment

-- the pass gained these places
pub record Gains (may : ℕ → Type 0) (conn : ℕ) (mine0 : List ℕ) (log : List Entry) (mine : List ℕ) : Type 0 where
  pub places : List ℕ
  pub more : mine ≡ mine0 ++ places
  pub each : AllByRecursion (MadeAt may conn log) places

-- a front of the bytes was written, and no write failed
pub record FrontWritten (old new : Output) (bytes : List ℕ) : Type 0 where
  pub front : List ℕ
  pub back : List ℕ
  pub split : bytes ≡ front ++ back
  pub writes : Writes old new front

-- the connection parted so, behind a front of the journal
pub record PartedIn (config : Configuration) (conn : ℕ) (log : List Entry) (why : Parting) : Type 0 where
  pub before : List Entry
  pub front : IsPrefix before log
  pub parted : parting_at (state_after config before) conn ≡ Some why

-- the journal was full behind a front of it
pub record FullIn (config : Configuration) (log : List Entry) (cost limit : ℕ) : Type 0 where
  pub before : List Entry
  pub front : IsPrefix before log
  pub full : IsFullAt cost limit (state_after config before)

-- it parted for the end of the switch, or since its channel had left it
abbrev pub StoppedIn : Configuration → ℕ → List Entry → Type 0
StoppedIn config conn log = PartedIn config conn log parting.Stopped ⊎ PartedIn config conn log parting.ChannelLeft

-- an end that comes where the connection was made to read no further command
abbrev pub PartedEnd : Configuration → ℕ → List Entry → End → Type 0
PartedEnd config conn log ends.Exit = PartedIn config conn log parting.Exit
PartedEnd config conn log ends.AuthRefused = PartedIn config conn log parting.AuthRefused
PartedEnd config conn log ends.Stopped = StoppedIn config conn log
PartedEnd config conn log _ = ⊥

-- how it ends behind the end of its input: so where it parted for that, else for what it had parted for before
abbrev pub HungUp : Configuration → ℕ → List Entry → End → End → Type 0
HungUp config conn log end e = ((e ≡ end) × PartedIn config conn log parting.EndOfInput) ⊎ PartedEnd config conn log e

-- behind a write that failed: the connection is closed, or the journal is full
abbrev pub IsGivenUp : Configuration → ℕ → List Entry → Type 0
IsGivenUp config conn log = (is_shut_at config log conn ≡ true) ⊎ (is_full (state_after config log) ≡ true)

-- how it ends where closing it was refused for this, behind a write that failed
abbrev pub end_unclosed : Refusal → End
end_unclosed refusal.Memory = ends.Memory
end_unclosed _ = ends.WriteFault

-- an end that comes before the connection is closed
abbrev pub EarlyEnd : Configuration → List Entry → End → Type 0
EarlyEnd config log (ends.JournalFull cost limit) = FullIn config log cost limit
EarlyEnd config log _ = ⊥

-- what was written where it stopped so
abbrev pub StopDid : Configuration → ℕ → List Entry → Output → Output → Stop → Type 0
StopDid config conn log out0 out1 (stops.Over end) = FrontWritten out0 out1 (bytes_given config conn log) × EarlyEnd config log end
StopDid config conn log out0 out1 stops.OutOfMemory = FrontWritten out0 out1 (bytes_given config conn log)
StopDid config conn log out0 out1 stops.WriteFault = Stopped out0 out1 (bytes_given config conn log)

-- the reply to an act that was tried, if it was entered
abbrev pub replied : Result (Option Answer) Stop → Result (Option Reply) Stop
replied (Ok (Some answer)) = Ok (Some answer.reply)
replied (Ok None) = Ok None
replied (Err stop) = Err stop

-- how the connection whose act was entered stands since
abbrev pub StandsBy : Act → Switch → Result (Option Answer) Stop → Type 0
StandsBy act s (Ok (Some answer)) = answer.standing ≡ standing_by act s
StandsBy act s _ = Unit {0}

-- so a connection stands, if it is told
abbrev pub StandsSo : ℕ → Switch → Result (Option Standing) Stop → Type 0
StandsSo conn s (Ok (Some standing)) = standing ≡ standing_of conn s
StandsSo conn s _ = Unit {0}

-- nothing was entered that names the connection
pub record Idles (config : Configuration) (conn : ℕ) (seen : List Entry) (mine : List ℕ) (seen' : List Entry) (mine' : List ℕ)
    : Type 0 where
  pub quiet : Quiet names conn seen seen'
  pub same : mine' ≡ mine
  pub run : IsJournal config seen'

-- what was read where an end by the input comes: `rest` is no command
abbrev pub InputCause : End → Point → Point → List ℕ → Type 0
InputCause ends.Eof from now rest =
    (blocks_of rest ≡ []) × (fault_of rest ≡ None) × (now.input.faults ≡ from.input.faults) × IsAtEnd now.input.left
InputCause ends.ReadFault from now rest =
    (blocks_of rest ≡ []) × (fault_of rest ≡ None) × (now.input.faults ≡ raised from.input.faults)
InputCause (ends.TooLong len) from now rest =
    (blocks_of rest ≡ []) × (fault_of rest ≡ Some (faults.TooLong len)) × (now.input.faults ≡ from.input.faults)
InputCause ends.BadLength from now rest =
    (blocks_of rest ≡ []) × (fault_of rest ≡ Some faults.BadLength) × (now.input.faults ≡ from.input.faults)
InputCause _ from now rest = ⊥

module _ (may : ℕ → Type 0) (config : Configuration) (conn : ℕ) where
  -- what was entered and read so far, of which `rest` is no command yet
  pub record Base (from now : Point) (rest : List ℕ) : Type 0 where
    pub later : IsPrefix from.log now.log
    pub gains : Gains may conn from.mine now.log now.mine
    pub run : IsJournal config now.log
    pub come : HasCome conn (state_after config now.log)
    pub are_blocks : AllByRecursion IsBlock (commands_of conn now.log)
    pub reads : Reads from.input now.input (concat (commands_of conn now.log) ++ rest)

  -- the conversation goes on, and what was handed out is written
  pub record Holds (from now : Point) (rest : List ℕ) : Type 0 where
    pub base : Base from now rest
    pub live : is_shut_at config now.log conn ≡ false
    pub unsent : is_sent conn now.log ≡ false
    pub written : Writes from.output now.output (bytes_handed config conn now.log)

  -- it was closed, of which all was sent, and all its frames are written
  pub record HasEnded (from now : Point) (rest : List ℕ) : Type 0 where
    pub base : Base from now rest
    pub sent : is_sent conn now.log ≡ true
    pub shut : is_shut_at config now.log conn ≡ true
    pub written : Writes from.output now.output (bytes_given config conn now.log)

  -- it stopped, and a front of its frames is written
  pub record HasStopped (from now : Point) (rest : List ℕ) (stop : Stop) : Type 0 where
    pub base : Base from now rest
    pub unsent : is_sent conn now.log ≡ false
    pub did : StopDid config conn now.log from.output now.output stop

  -- a write failed, and it was given up, or memory was wanting for that
  abbrev pub GivesUp : Point → Point → List ℕ → End → Type 0
  GivesUp from now rest ends.WriteFault = HasStopped from now rest stops.WriteFault × IsGivenUp config conn now.log
  GivesUp from now rest ends.Memory = HasStopped from now rest stops.WriteFault
  GivesUp from now rest _ = ⊥

  -- an act was entered, or was refused and the conversation goes on, or stops
  abbrev pub Tries : List Entry → List ℕ → List Entry → List ℕ → Act → Result (Option Reply) Stop → Type 0
  Tries seen mine seen' mine' act (Ok (Some answer)) = Entered may config conn seen mine seen' mine' act answer
  Tries seen mine seen' mine' act (Ok None) = Idles config conn seen mine seen' mine'
  Tries seen mine seen' mine' act (Err (stops.Over end)) = Idles config conn seen mine seen' mine' × EarlyEnd config seen' end
  Tries seen mine seen' mine' act (Err stops.OutOfMemory) = Idles config conn seen mine seen' mine'
  Tries seen mine seen' mine' act (Err stops.WriteFault) = ⊥

  -- the frame that was taken, if one waited, and how the connection stands since
  abbrev pub Takes : List Entry → List ℕ → List Entry → List ℕ → Result (Option Taken) Stop → Type 0
  Takes seen mine seen' mine' (Ok (Some taken)) =
      Entered may config conn seen mine seen' mine' (Take conn) (reply.Frame taken.frame)
      × (taken.standing ≡ standing_of conn (state_after config seen'))
  Takes seen mine seen' mine' (Ok None) = Idles config conn seen mine seen' mine'
  Takes seen mine seen' mine' (Err (stops.Over end)) = Idles config conn seen mine seen' mine' × EarlyEnd config seen' end
  Takes seen mine seen' mine' (Err stops.OutOfMemory) = Idles config conn seen mine seen' mine'
  Takes seen mine seen' mine' (Err stops.WriteFault) = ⊥

  abbrev pub GoesOn : {T : Type 0} → Point → Point → List ℕ → Result T Stop → Type 0
  GoesOn from now rest (Ok done) = Holds from now rest
  GoesOn from now rest (Err stop) = HasStopped from now rest stop

  -- it is over, with this end
  abbrev pub Closes : End → Point → Point → List ℕ → Result End Stop → Type 0
  Closes end from now rest (Ok e) = (e ≡ end) × HasEnded from now rest
  Closes end from now rest (Err stop) = HasStopped from now rest stop

  -- it had parted, and is over
  abbrev pub Departs : Point → Point → List ℕ → Result End Stop → Type 0
  Departs from now rest (Ok e) = PartedEnd config conn now.log e × HasEnded from now rest
  Departs from now rest (Err stop) = HasStopped from now rest stop

  -- either of both
  abbrev pub Hangs : End → Point → Point → List ℕ → Result End Stop → Type 0
  Hangs end from now rest (Ok e) = HungUp config conn now.log end e × HasEnded from now rest
  Hangs end from now rest (Err stop) = HasStopped from now rest stop

  -- for what the connection had parted where an end comes, and what was read
  abbrev pub OverCause : End → Point → Point → List ℕ → Type 0
  OverCause ends.Exit from now rest = PartedIn config conn now.log parting.Exit
  OverCause ends.AuthRefused from now rest = PartedIn config conn now.log parting.AuthRefused
  OverCause ends.Stopped from now rest = StoppedIn config conn now.log
  OverCause end from now rest = PartedIn config conn now.log parting.EndOfInput × InputCause end from now rest

  -- the conversation is over
  pub record Over (from now : Point) (end : End) : Type 0 where
    pub rest : List ℕ
    pub finishes : HasEnded from now rest
    pub cause : OverCause end from now rest

  abbrev pub Rounds : Point → Point → List ℕ → Result Round Stop → Type 0
  Rounds from now rest (Ok rounds.GoOn) = Holds from now rest × (now.input.faults ≡ from.input.faults)
  Rounds from now rest (Ok (rounds.Done end)) = Over from now end
  Rounds from now rest (Err stop) = (left : List ℕ) × HasStopped from now left stop

  -- what a part of a round came to, if it was tried; else the conversation goes on
  abbrev pub IfTried : Point → Point → List ℕ → Result (Option Round) Stop → Type 0
  IfTried from now rest (Ok (Some round)) = Rounds from now rest (Ok round)
  IfTried from now rest (Ok None) = Holds from now rest × (now.input.faults ≡ from.input.faults)
  IfTried from now rest (Err stop) = Rounds from now rest (Err stop)

-- a part of a round that was tried came to this
abbrev pub tried_of : Result Round Stop → Result (Option Round) Stop
tried_of (Ok round) = Ok (Some round)
tried_of (Err stop) = Err stop

-- no block stands in front of these bytes, and nothing is wrong with them
abbrev pub NeedsMore : List ℕ → Type 0
NeedsMore rest = HasNoBlock rest × (fault_of rest ≡ None)

-- where nothing was tried, more is needed for a block
abbrev pub LacksBlock : List ℕ → Result (Option Round) Stop → Type 0
LacksBlock rest (Ok None) = NeedsMore rest
LacksBlock rest _ = Unit {0}

-- how much is held behind a part of a round: where nothing was tried, more may be fed
abbrev pub HoldsBehind : Stream → Result (Option Round) Stop → Type 0
HoldsBehind stream (Ok None) = MayBeFed stream
HoldsBehind stream _ = HoldsLittle stream

-- what a read did
abbrev pub Gets : Input → Input → Stream → Stream → Result Piece Stop → Type 0
Gets in0 in1 old new (Ok pieces.More) = (piece : List ℕ) × Reads in0 in1 piece × (in1.faults ≡ in0.faults) × (new ≡ fed_with old piece)
Gets in0 in1 old new (Ok pieces.NotYet) = (in1 ≡ in0) × (new ≡ old)
Gets in0 in1 old new (Ok pieces.AtEnd) = IsAtEnd in1.left × (in1 ≡ in0) × (new ≡ old)
Gets in0 in1 old new (Ok pieces.Failed) = (in1 ≡ record in0 { faults = raised in0.faults }) × (new ≡ old)
Gets in0 in1 old new (Err stop) = (stop ≡ stops.OutOfMemory) × ((piece : List ℕ) × Reads in0 in1 piece × (in1.faults ≡ in0.faults))

-- the ends that close the connection, of which all was sent
abbrev pub ends_sent : End → Bool
ends_sent ends.Exit = true
ends_sent ends.AuthRefused = true
ends_sent ends.Stopped = true
ends_sent ends.Eof = true
ends_sent ends.ReadFault = true
ends_sent (ends.TooLong len) = true
ends_sent ends.BadLength = true
ends_sent _ = false

-- an end for a full journal or for want of memory
abbrev pub IsCutOff : End → Type 0
IsCutOff (ends.JournalFull cost limit) = Unit {0}
IsCutOff ends.Memory = Unit {0}
IsCutOff _ = ⊥

-- the ends that come though no read and no write failed
abbrev pub is_faultless : End → Bool
is_faultless ends.Exit = true
is_faultless ends.Eof = true
is_faultless ends.AuthRefused = true
is_faultless ends.Stopped = true
is_faultless (ends.TooLong len) = true
is_faultless ends.BadLength = true
is_faultless (ends.JournalFull cost limit) = true
is_faultless ends.Memory = true
is_faultless _ = false

-- what was written of these bytes, by the end: memory may have been wanting behind a write that failed
abbrev pub EndWrote : End → Output → Output → List ℕ → Type 0
EndWrote ends.WriteFault out0 out1 bytes = Stopped out0 out1 bytes
EndWrote ends.Memory out0 out1 bytes = FrontWritten out0 out1 bytes ⊎ Stopped out0 out1 bytes
EndWrote _ out0 out1 bytes = FrontWritten out0 out1 bytes

-- when an end may come: `others` are the blocks that were read and are no commands
abbrev pub EndCause : End → Configuration → ℕ → List Entry → Input → Input → List ℕ → List (List ℕ) → Type 0
EndCause ends.Exit config conn log in0 in1 taken others = PartedBy config conn log parting.Exit
EndCause ends.AuthRefused config conn log in0 in1 taken others = PartedBy config conn log parting.AuthRefused
EndCause ends.Stopped config conn log in0 in1 taken others = MadeToStop config conn log
EndCause ends.Eof config conn log in0 in1 taken others =
    PartedByInput config conn log × (others ≡ []) × (fault_of (rest_of taken) ≡ None) × (in1.faults ≡ in0.faults) × IsAtEnd in1.left
EndCause ends.ReadFault config conn log in0 in1 taken others =
    PartedByInput config conn log × (others ≡ []) × (fault_of (rest_of taken) ≡ None) × (in1.faults ≡ raised in0.faults)
EndCause (ends.TooLong len) config conn log in0 in1 taken others =
    PartedByInput config conn log × (others ≡ []) × (fault_of (rest_of taken) ≡ Some (faults.TooLong len)) × (in1.faults ≡ in0.faults)
EndCause ends.BadLength config conn log in0 in1 taken others =
    PartedByInput config conn log × (others ≡ []) × (fault_of (rest_of taken) ≡ Some faults.BadLength) × (in1.faults ≡ in0.faults)
EndCause ends.WriteFault config conn log in0 in1 taken others = IsGivenUp config conn log
EndCause (ends.JournalFull cost limit) config conn log in0 in1 taken others = FullIn config log cost limit
EndCause ends.Memory config conn log in0 in1 taken others = Unit {0}
EndCause (ends.Runaway count) config conn log in0 in1 taken others = ⊥

-- what a conversation came to, in a journal
pub record Told (config : Configuration) (conn : ℕ) (in0 : Input) (out0 : Output) (log : List Entry) (in1 : Input) (out1 : Output)
    (end : End) : Type 0 where
  pub run : IsJournal config log
  pub come : HasCome conn (state_after config log)
  -- the blocks that were read are its commands, each once and in their order, and then others
  pub taken : List ℕ
  pub reads : Reads in0 in1 taken
  pub others : List (List ℕ)
  pub commands_are : blocks_of taken ≡ commands_of conn log ++ others
  -- what was written is a front of its frames, and all of them where it was closed as sent; it is given no more then
  pub wrote : EndWrote end out0 out1 (bytes_given config conn log)
  pub sent : is_sent conn log ≡ ends_sent end
  pub all : is_sent conn log ≡ true → Writes out0 out1 (bytes_given config conn log) × (is_shut_at config log conn ≡ true)
  pub cause : EndCause end config conn log in0 in1 taken others

-- what a conversation did: its pass saw more, gained places, and the conversation is told
pub record Talks (may : ℕ → Type 0) (config : Configuration) (conn : ℕ) (from now : Point) (end : End) : Type 0 where
  pub later : IsPrefix from.log now.log
  pub gains : Gains may conn from.mine now.log now.mine
  pub told : Told config conn from.input from.output now.log now.input now.output end

module _ (may : ℕ → Type 0) (config : Configuration) (conn : ℕ) where
  -- the block is a command now, or the connection had parted before
  abbrev pub Handles : List ℕ → Point → Point → List ℕ → Result Round Stop → Type 0
  Handles block from now rest (Ok rounds.GoOn) = Holds may config conn from now rest
  Handles block from now rest (Ok (rounds.Done e)) = PartedEnd config conn now.log e × HasEnded may config conn from now (block ++ rest)
  Handles block from now rest (Err stop) = HasStopped may config conn from now (block ++ rest) stop

  -- it had parted, and is over
  abbrev pub Departed : Point → Point → List ℕ → Result Round Stop → Type 0
  Departed from now rest (Ok rounds.GoOn) = ⊥
  Departed from now rest (Ok (rounds.Done e)) = PartedEnd config conn now.log e × HasEnded may config conn from now rest
  Departed from now rest (Err stop) = HasStopped may config conn from now rest stop

  -- it is over, with this end or since it had parted
  abbrev pub Hung : End → Point → Point → List ℕ → Result Round Stop → Type 0
  Hung end from now rest (Ok rounds.GoOn) = ⊥
  Hung end from now rest (Ok (rounds.Done e)) = HungUp config conn now.log end e × HasEnded may config conn from now rest
  Hung end from now rest (Err stop) = HasStopped may config conn from now rest stop
