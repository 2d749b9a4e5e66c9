-- What a step of a play did, and what stopped it.
use Rattle.std.specs.Prelude.{◌≡◌, ◌≢◌, ℕ, ◌+◌, ◌<◌, ◌≤◌, Bool, true, false, List, [], ◌∷◌, ◌++◌, length, Option, None, Some, Result, Ok}
use Rattle.std.specs.Prelude.{Err, IfErr}
use Rattle.std.specs.List.{concat}
use Rattle.std.specs.Io.KnownBytes.{IsAtEnd}
use Rattle.fs_ports.specs.Counts.{raised}
use Rattle.fs_ports.specs.Ports.{Input, Output, Reads, Writes, Stopped}
use Rattle.fs_frame.specs.Stream.{Stream, fed_with}
use Rattle.fs_machine.specs.declared.due.DueActor.{DueActor}
use Rattle.fs_machine.specs.declared.due.DueActor.TheVariants as actor
use Rattle.fs_machine.specs.declared.entry.Entry.{Entry}
use Rattle.fs_machine.specs.declared.entry.Act.{Act}
use Rattle.fs_machine.specs.declared.reply.Reply.{Reply}
use Rattle.fs_machine.specs.Step.{step, refusal_of}
use Rattle.fs_machine.specs.Frames.{handed_in}
use Rattle.fs_conn.specs.declared.end.End.{End}
use Rattle.fs_conn.specs.declared.end.End.TheVariants.{Exit, AuthRefused, Stopped as ends_by_stop, Eof, ReadFault}
use Rattle.fs_conn.specs.declared.end.End.TheVariants.{WriteFault as ends_by_write}
use Rattle.fs_conn.specs.declared.end.End.TheVariants.{TooLong, BadLength, JournalFull, Memory, Runaway}
use Rattle.fs_conn.specs.declared.stop.Stop.{Stop}
use Rattle.fs_conn.specs.declared.stop.Stop.TheVariants.{Over, OutOfMemory, WriteFault}
use Rattle.fs_conn.specs.declared.wire.Filled.{Filled}
use Rattle.fs_conn.specs.declared.wire.Filled.TheVariants.{More, AtEnd, ReadFailed}
use Rattle.fs_conn.specs.Play.{Play, switch_of, output_of, after_trying_act}

-- what its entries cost
abbrev pub spent : Play → ℕ
spent p = (switch_of p).cost

-- the journal of a play is a front of that of the whole
pub record IsPlayFront (p whole : Play) : Type 0 where
  pub config : whole.config ≡ p.config
  pub more : List Entry
  pub split : whole.journal ≡ p.journal ++ more

-- ---- how a step stops

-- an end that comes before that of the connection; for want of memory no play ends but one in which no note is left for a load
abbrev pub is_early : End → Bool
is_early (JournalFull cost limit) = true
is_early (Runaway count) = true
is_early Exit = false
is_early AuthRefused = false
is_early ends_by_stop = false
is_early Eof = false
is_early ReadFault = false
is_early ends_by_write = false
is_early (TooLong len) = false
is_early BadLength = false
is_early Memory = true

-- what was to become the whole play came to its end, or broke off behind a front of it
abbrev pub Halts : Stop → Play → Play → Type 0
Halts (Over end) p whole = (is_early end ≡ true) × (whole ≡ record p { end = Some end })
Halts OutOfMemory p whole = IsPlayFront p whole
Halts WriteFault p whole = IsPlayFront p whole

-- a step of the play was done, or halted
abbrev pub Does : {A : Type 0} → (Play → Play) → Play → Play → Result A Stop → Type 0
Does step old new (Ok done) = new ≡ step old
Does step old new (Err stop) = Halts stop new (step old)

-- ---- entries

-- an act as it is entered at the clock's moment
abbrev pub entry_of : Act → Play → Entry
entry_of act p = record { moment = p.clock; act = act }

-- there was room for an entry, which cost something
pub record Costs (old new : Play) : Type 0 where
  pub more : spent old < spent new
  pub free : spent old + 65600 ≤ old.config.settings.journal_limit

-- an act was entered, and this is its reply
pub record Accepts (act : Act) (old new : Play) (reply : Reply) : Type 0 where
  pub defined : refusal_of (switch_of old) (entry_of act old) ≡ None
  pub does : new ≡ record old { journal = old.journal ++ entry_of act old ∷ [] }
  pub reply_is : reply ≡ (step (switch_of old) (entry_of act old)).reply
  pub hands : output_of new ≡ output_of old ++ concat (handed_in 1 act (switch_of old))
  pub costs : Costs old new

-- an act was refused, and the play goes on as it was
pub record Rejects (act : Act) (old new : Play) : Type 0 where
  pub does : new ≡ after_trying_act act old
  pub same : new ≡ old

-- what entering an act did
abbrev pub Enters : Act → Play → Play → Result (Option Reply) Stop → Type 0
Enters act old new (Ok None) = Rejects act old new
Enters act old new (Ok (Some reply)) = Accepts act old new reply
Enters act old new (Err (Over end)) = (new ≡ old) × Halts (Over end) new (after_trying_act act old)
Enters act old new (Err OutOfMemory) = new ≡ old
Enters act old new (Err WriteFault) = ⊥

-- one has something to do
abbrev pub is_due : DueActor → Bool
is_due (actor.Slot slot) = true
is_due (actor.Dial slot) = true
is_due (actor.Job number) = true
is_due (actor.Load number) = true
is_due (actor.Later moment) = false
is_due actor.Never = false

-- a step that writes nothing did not stop by a write
abbrev pub IsUnwritten : {A : Type 0} → Result A Stop → Type 0
IsUnwritten result = IfErr result (λ stop. stop ≢ WriteFault)

-- entries were made that hand out no frame
pub record Works (old new : Play) : Type 0 where
  pub output : output_of new ≡ output_of old
  pub spent : spent old ≤ spent new

-- ---- bytes

-- what putting a frame behind what is unsent did
abbrev pub Puts : {A : Type 0} → Output → Output → List ℕ → List ℕ → List ℕ → Result A Stop → Type 0
Puts out0 out1 old new frame (Ok done) = (sent : List ℕ) × (old ++ frame ≡ sent ++ new) × Writes out0 out1 sent
Puts out0 out1 old new frame (Err (Over end)) = ⊥
Puts out0 out1 old new frame (Err OutOfMemory) = ⊥
Puts out0 out1 old new frame (Err WriteFault) = Stopped out0 out1 (old ++ frame) × (65536 ≤ length (old ++ frame))

-- what writing all that is unsent did
abbrev pub Clears : {A : Type 0} → Output → Output → List ℕ → List ℕ → Result A Stop → Type 0
Clears out0 out1 old new (Ok done) = Writes out0 out1 old × (new ≡ [])
Clears out0 out1 old new (Err (Over end)) = ⊥
Clears out0 out1 old new (Err OutOfMemory) = ⊥
Clears out0 out1 old new (Err WriteFault) = Stopped out0 out1 old

-- a buffer of blocks may be fed: what it holds is no more than a block may have
abbrev pub MayBeFed : Stream → Type 0
MayBeFed stream = length stream.rest ≤ 65536

-- what it holds is little: no more than that, and one piece
abbrev pub HoldsLittle : Stream → Type 0
HoldsLittle stream = length stream.rest ≤ 69632

-- what reading more of a link did, at most 4,096 bytes
abbrev pub Fills : Input → Input → Stream → Stream → Result Filled Stop → Type 0
Fills in0 in1 old new (Ok More) =
    (piece : List ℕ) × (0 < length piece) × (length piece ≤ 4096) × Reads in0 in1
    piece × (in1.faults ≡ in0.faults) × (new ≡ fed_with old piece)
Fills in0 in1 old new (Ok AtEnd) = IsAtEnd in1.left × (in1 ≡ in0) × (new ≡ old)
Fills in0 in1 old new (Ok ReadFailed) = (in1 ≡ record in0 { faults = raised in0.faults }) × (new ≡ old)
Fills in0 in1 old new (Err (Over end)) = ⊥
Fills in0 in1 old new (Err OutOfMemory) =
    (piece : List ℕ) × (length piece ≤ 4096) × Reads in0 in1 piece × (in1.faults ≡ in0.faults) × (new ≡ old)
Fills in0 in1 old new (Err WriteFault) = (in1 ≡ in0) × (new ≡ old)

-- before that all that was unsent was written, or a write of it failed
abbrev pub WritesFirst : {A : Type 0} → Output → Output → List ℕ → List ℕ → Result A Stop → Type 0
WritesFirst out0 out1 old new (Ok done) = Writes out0 out1 old × (new ≡ [])
WritesFirst out0 out1 old new (Err (Over end)) = ⊥
WritesFirst out0 out1 old new (Err OutOfMemory) = Writes out0 out1 old × (new ≡ [])
WritesFirst out0 out1 old new (Err WriteFault) = Stopped out0 out1 old
