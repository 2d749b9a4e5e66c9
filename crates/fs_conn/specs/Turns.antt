-- What stands of a played connection from turn to turn, and at its end.
use Rattle.std.specs.Prelude.{◌≡◌, ℕ, ◌-◌, ◌*◌, ◌+◌, ◌<◌, ◌≤◌, Bool, true, false, List, [], ◌∷◌, ◌++◌, length, Option, None, Some, Result}
use Rattle.std.specs.Prelude.{Ok, Err, ◌⊎◌, if◌then◌else◌}
use Rattle.std.specs.List.{AllByRecursion, concat}
use Rattle.std.specs.Io.KnownBytes.{IsAtEnd}
use Rattle.fs_doc.specs.Reading.{Configuration}
use Rattle.fs_ports.specs.Counts.{raised}
use Rattle.fs_ports.specs.Ports.{Input, Output, Reads, Writes, Stopped}
use Rattle.fs_frame.specs.Block.{IsBlock, fault_of}
use Rattle.fs_frame.specs.Blocks.{rest_of}
use Rattle.fs_frame.specs.Stream.{Stream}
use Rattle.fs_machine.specs.declared.entry.Entry.{Entry}
use Rattle.fs_machine.specs.declared.entry.Act.TheVariants.{Close}
use Rattle.fs_machine.specs.declared.entry.Closing.TheVariants.{Failed}
use Rattle.fs_machine.specs.declared.note.LoadNote.{LoadNote}
use Rattle.fs_machine.specs.declared.refusal.Refusal.{Refusal}
use Rattle.fs_machine.specs.Step.{refusal_of}
use Rattle.fs_conn.specs.declared.end.End.{End}
use Rattle.fs_conn.specs.declared.end.End.TheVariants as ends
use Rattle.fs_conn.specs.declared.stop.Stop.{Stop}
use Rattle.fs_conn.specs.declared.stop.Stop.TheVariants.{Over, OutOfMemory, WriteFault}
use Rattle.fs_conn.specs.declared.conversation.Turn.{Turn}
use Rattle.fs_conn.specs.declared.conversation.Turn.TheVariants.{GoOn, Done}
use Rattle.fs_conn.specs.Play.{Play, switch_of, bytes_handed, output_of, after_opening, after_commands, after_conversing, after_input_end}
use Rattle.fs_conn.specs.Play.{farewell, end_behind, played}
use Rattle.fs_conn.specs.Steps.{spent, Halts}
use Rattle.fs_conn.specs.Playing.{Playing, play_of, HasFilled}

-- the bytes that were read, and whether the reading failed behind them
pub record HasRead (in0 in1 : Input) (input : List ℕ) (read_failed : Bool) : Type 0 where
  pub reads : Reads in0 in1 input
  pub faults : in1.faults ≡ (if read_failed then raised in0.faults else in0.faults)

-- ---- writes

-- the last bytes of the input came with one read, before which what those before them had come to was written
pub record IsPrompt (config : Configuration) (notes : List LoadNote) (input sent : List ℕ) : Type 0 where
  pub earlier : List ℕ
  pub piece : List ℕ
  pub split : input ≡ earlier ++ piece
  pub few : length piece ≤ 4096
  pub more : List ℕ
  pub written : sent ≡ output_of (after_conversing config earlier notes) ++ more

-- what a play handed out was written, but for what is unsent; nothing was read yet, or all was written before the last read
pub record HasWritten (config : Configuration) (notes : List LoadNote) (out0 out1 : Output) (input unsent : List ℕ) (p : Play) : Type 0 where
  pub sent : List ℕ
  pub split : output_of p ≡ sent ++ unsent
  pub written : Writes out0 out1 sent
  pub prompt : (input ≡ []) ⊎ IsPrompt config notes input sent

-- where a play writes: behind a frame with which there is enough unsent, before it reads on, before the connection is closed, and
-- where the play comes to its end before that
pub data WritesAt (config : Configuration) (notes : List LoadNote) (input : List ℕ) (read_failed : Bool) (unsent : List ℕ) (p : Play)
    : Type 0 where
  behind_frame : HasFilled unsent p → WritesAt config notes input read_failed unsent p
  before_read : p ≡ after_conversing config input notes → WritesAt config notes input read_failed unsent p
  before_close : p ≡ after_input_end (after_conversing config input notes) → WritesAt config notes input read_failed unsent p
  at_early_end : (end : End) → Halts (Over end) p (played config input read_failed notes) → WritesAt config notes input read_failed unsent p

-- all writes before were done, and then one of what was unsent failed
pub record FailsAt (config : Configuration) (notes : List LoadNote) (out0 out1 : Output) (input : List ℕ) (read_failed : Bool) (p : Play)
    : Type 0 where
  pub mid : Output
  pub unsent : List ℕ
  pub written : HasWritten config notes out0 mid input unsent p
  pub stopped : Stopped mid out1 unsent
  pub point : WritesAt config notes input read_failed unsent p

-- since it began a play has written what it handed out, but for what is unsent
abbrev pub HasSent : List LoadNote → Playing → Playing → List ℕ → Type 0
HasSent notes start now input = HasWritten start.config notes start.output now.output input now.unsent (play_of notes now)

-- what was written since then by a play that stopped
abbrev pub StoppedBy : List LoadNote → Playing → Playing → List ℕ → Bool → Stop → Type 0
StoppedBy notes start now input read_failed (Over end) = HasSent notes start now input
StoppedBy notes start now input read_failed OutOfMemory = HasSent notes start now input
StoppedBy notes start now input read_failed WriteFault =
    FailsAt start.config notes start.output now.output input read_failed (play_of notes now)

-- ---- turns

-- the connection goes on: what was read, entered and written since it began
pub record Stands (notes : List LoadNote) (start now : Playing) (stream : Stream) : Type 0 where
  pub blocks : List (List ℕ)
  pub are_blocks : AllByRecursion IsBlock blocks
  pub reads : Reads start.input now.input (concat blocks ++ stream.rest)
  pub read_faults : now.input.faults ≡ start.input.faults
  pub play_is : play_of notes now ≡ after_commands (after_opening start.config notes) blocks
  pub written : HasSent notes start now (concat blocks ++ stream.rest)

-- an end that neither a failed write nor want of memory brings
abbrev pub is_told : End → Bool
is_told ends.WriteFault = false
is_told ends.Memory = false
is_told ends.Exit = true
is_told ends.Eof = true
is_told ends.AuthRefused = true
is_told ends.Stopped = true
is_told ends.ReadFault = true
is_told (ends.TooLong len) = true
is_told ends.BadLength = true
is_told (ends.JournalFull cost limit) = true
is_told (ends.Runaway count) = true

-- the connection came to this end, and is not closed yet
pub record Ends (notes : List LoadNote) (start now : Playing) (end : End) : Type 0 where
  pub input : List ℕ
  pub read_failed : Bool
  pub has_read : HasRead start.input now.input input read_failed
  pub play_is : play_of notes now ≡ after_conversing start.config input notes
  pub written : HasSent notes start now input
  pub end_is : end ≡ end_behind (farewell (play_of notes now)) (fault_of (rest_of input)) read_failed
  pub told : is_told end ≡ true
  pub at_end : end ≡ ends.Eof → IsAtEnd now.input.left

-- the connection was closed after this end, or the play came to it before
pub record Concludes (notes : List LoadNote) (start now : Playing) (end : End) : Type 0 where
  pub input : List ℕ
  pub read_failed : Bool
  pub has_read : HasRead start.input now.input input read_failed
  pub play_is : played start.config input read_failed notes ≡ record (play_of notes now) { end = Some end }
  pub written : Writes start.output now.output (output_of (play_of notes now))
  pub told : is_told end ≡ true
  pub at_end : end ≡ ends.Eof → IsAtEnd now.input.left

-- the play stopped
pub record Stops (notes : List LoadNote) (start now : Playing) (stop : Stop) : Type 0 where
  pub input : List ℕ
  pub read_failed : Bool
  pub has_read : HasRead start.input now.input input read_failed
  pub halts : Halts stop (play_of notes now) (played start.config input read_failed notes)
  pub stopped : StoppedBy notes start now input read_failed stop

-- what one turn did: the connection goes on, came to an end or stopped
abbrev pub Turns : List LoadNote → Playing → Playing → Stream → Result Turn Stop → Type 0
Turns notes start now stream (Ok GoOn) = Stands notes start now stream
Turns notes start now stream (Ok (Done end)) = Ends notes start now end
Turns notes start now stream (Err stop) = Stops notes start now stop

-- how much there is to do at most: the cost that the journal has left, and for each unit of it the bytes that may be read before a block is
-- whole
abbrev pub work_left : Play → Stream → ℕ
work_left p stream = (p.config.settings.journal_limit - spent p) * 70000 + (69999 - length stream.rest)

-- a turn after which the connection goes on leaves less to do
abbrev pub Falls : Play → Stream → Play → Stream → Result Turn Stop → Type 0
Falls old_play old new_play new (Ok GoOn) = work_left new_play new < work_left old_play old
Falls old_play old new_play new (Ok (Done end)) = Unit {0}
Falls old_play old new_play new (Err stop) = Unit {0}

-- what holds where the connection goes on behind a turn
abbrev pub OnGoOn : Result Turn Stop → Type 0 → Type 0
OnGoOn (Ok GoOn) fact = fact
OnGoOn (Ok (Done end)) fact = Unit {0}
OnGoOn (Err stop) fact = Unit {0}

-- what a conversation did: it was closed after its end, or stopped
abbrev pub Converses : List LoadNote → Playing → Playing → Result End Stop → Type 0
Converses notes start now (Ok end) = Concludes notes start now end
Converses notes start now (Err stop) = Stops notes start now stop

-- ---- the end

-- the play came to its end
pub record Finishes (config : Configuration) (notes : List LoadNote) (in0 : Input) (out0 : Output) (in1 : Input) (out1 : Output) (end : End)
    (journal : List Entry) : Type 0 where
  pub input : List ℕ
  pub read_failed : Bool
  pub has_read : HasRead in0 in1 input read_failed
  pub journal_is : journal ≡ (played config input read_failed notes).journal
  pub written : Writes out0 out1 (bytes_handed config (played config input read_failed notes).journal)
  pub end_is : (played config input read_failed notes).end ≡ Some end
  pub at_end : end ≡ ends.Eof → IsAtEnd in1.left

-- the play broke off before its end: its journal is a front of the one that was to come
pub record Breaks (config : Configuration) (notes : List LoadNote) (in0 in1 : Input) (journal : List Entry) : Type 0 where
  pub input : List ℕ
  pub read_failed : Bool
  pub has_read : HasRead in0 in1 input read_failed
  pub more : List Entry
  pub split : (played config input read_failed notes).journal ≡ journal ++ more

-- memory was wanting, and the frames that were handed out were written
pub record LacksMemory (config : Configuration) (notes : List LoadNote) (in0 : Input) (out0 : Output) (in1 : Input) (out1 : Output)
    (journal : List Entry) : Type 0 where
  pub breaks : Breaks config notes in0 in1 journal
  pub written : Writes out0 out1 (bytes_handed config journal)

-- memory was wanting, and then a write of the frames that were handed out failed
pub record LacksBoth (config : Configuration) (notes : List LoadNote) (in0 : Input) (out0 : Output) (in1 : Input) (out1 : Output)
    (journal : List Entry) : Type 0 where
  pub breaks : Breaks config notes in0 in1 journal
  pub stopped : Stopped out0 out1 (bytes_handed config journal)

-- a write failed where the play had come so far
pub record BreaksAt (config : Configuration) (notes : List LoadNote) (in0 : Input) (out0 : Output) (in1 : Input) (out1 : Output) (p : Play)
    : Type 0 where
  pub breaks : Breaks config notes in0 in1 p.journal
  pub stopped : Stopped out0 out1 (bytes_handed config p.journal)
  pub fails : FailsAt config notes out0 out1 breaks.input breaks.read_failed p

-- memory was wanting, and all was written or a write of it failed; or a write failed and then memory was wanting to close the connection
pub data WantsMemory (config : Configuration) (notes : List LoadNote) (in0 : Input) (out0 : Output) (in1 : Input) (out1 : Output)
    (journal : List Entry) : Type 0 where
  all_written : LacksMemory config notes in0 out0 in1 out1 journal → WantsMemory config notes in0 out0 in1 out1 journal
  then_failed : LacksBoth config notes in0 out0 in1 out1 journal → WantsMemory config notes in0 out0 in1 out1 journal
  failed_before : (p : Play) → BreaksAt config notes in0 out0 in1 out1 p → journal ≡ p.journal →
      WantsMemory config notes in0 out0 in1 out1 journal

-- the connection is closed as Failed at this moment
abbrev pub failed_at : ℕ → Entry
failed_at moment = record { moment = moment; act = Close 1 Failed }

-- an entry stands behind the others where the definition does not refuse it
abbrev pub unless_refused : Option Refusal → Entry → List Entry → List Entry
unless_refused None entry before = before ++ entry ∷ []
unless_refused (Some refusal) entry before = before

-- the journal behind a play whose connection was closed as Failed at the clock's moment, unless the definition refuses that
abbrev pub closed_failed : Play → List Entry
closed_failed p = unless_refused (refusal_of (switch_of p) (failed_at p.clock)) (failed_at p.clock) p.journal

-- a write failed, and then the connection was closed so
pub record FailsToWrite (config : Configuration) (notes : List LoadNote) (in0 : Input) (out0 : Output) (in1 : Input) (out1 : Output)
    (journal : List Entry) : Type 0 where
  pub play : Play
  pub config_is : play.config ≡ config
  pub breaks_at : BreaksAt config notes in0 out0 in1 out1 play
  pub closes : journal ≡ closed_failed play

-- what closing a connection as Failed came to, by how the play ends
abbrev pub ClosesFailed : Play → Play → End → Type 0
ClosesFailed old new ends.WriteFault = (new.config ≡ old.config) × (new.journal ≡ closed_failed old)
ClosesFailed old new ends.Memory = new ≡ old
ClosesFailed old new _ = ⊥

-- what a play did, by its end
abbrev pub Plays : Configuration → List LoadNote → Input → Output → Input → Output → List Entry → End → Type 0
Plays config notes in0 out0 in1 out1 journal ends.Memory = WantsMemory config notes in0 out0 in1 out1 journal
Plays config notes in0 out0 in1 out1 journal ends.WriteFault = FailsToWrite config notes in0 out0 in1 out1 journal
Plays config notes in0 out0 in1 out1 journal ends.Exit = Finishes config notes in0 out0 in1 out1 ends.Exit journal
Plays config notes in0 out0 in1 out1 journal ends.Eof = Finishes config notes in0 out0 in1 out1 ends.Eof journal
Plays config notes in0 out0 in1 out1 journal ends.AuthRefused = Finishes config notes in0 out0 in1 out1 ends.AuthRefused journal
Plays config notes in0 out0 in1 out1 journal ends.Stopped = Finishes config notes in0 out0 in1 out1 ends.Stopped journal
Plays config notes in0 out0 in1 out1 journal ends.ReadFault = Finishes config notes in0 out0 in1 out1 ends.ReadFault journal
Plays config notes in0 out0 in1 out1 journal (ends.TooLong len) = Finishes config notes in0 out0 in1 out1 (ends.TooLong len) journal
Plays config notes in0 out0 in1 out1 journal ends.BadLength = Finishes config notes in0 out0 in1 out1 ends.BadLength journal
Plays config notes in0 out0 in1 out1 journal (ends.JournalFull cost limit) =
    Finishes config notes in0 out0 in1 out1 (ends.JournalFull cost limit) journal
Plays config notes in0 out0 in1 out1 journal (ends.Runaway count) = Finishes config notes in0 out0 in1 out1 (ends.Runaway count) journal
