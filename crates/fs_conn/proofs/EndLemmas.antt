-- From a conversation to the play.
use Rattle.std.proofs.Common.{◌≡◌, ℕ, Bool, true, false, List, [], Option, Some, Result, Ok, Err, refl, sym, ap, ◌∙◌, subst}
use Rattle.std.proofs.Common.{append-nil}
use Rattle.fs_doc.specs.Reading.{Configuration}
use Rattle.fs_ports.specs.Ports.{Input, Output, Writes, Stopped}
use Rattle.fs_ports.proofs.Sides.{reads_nothing, writes_nothing, stopped_later}
use Rattle.fs_frame.specs.Blocks.{blocks_of}
use Rattle.fs_machine.specs.declared.entry.Entry.{Entry}
use Rattle.fs_machine.specs.declared.entry.Act.TheVariants.{Arrive}
use Rattle.fs_conn.specs.declared.end.End.{End}
use Rattle.fs_conn.specs.declared.end.End.TheVariants as ends
use Rattle.fs_conn.specs.declared.stop.Stop.{Stop}
use Rattle.fs_conn.specs.declared.stop.Stop.TheVariants.{Over, OutOfMemory, WriteFault}
use Rattle.fs_conn.specs.Play.{Play, new_play, bytes_handed, output_of, after_opening}
use Rattle.fs_conn.specs.Play.{after_conversing, played}
use Rattle.fs_conn.specs.Steps.{IsPlayFront, Halts, Clears}
use Rattle.fs_conn.specs.Playing.{Playing, play_of, so_far, ReadsNothing, OnlyPlays}
use Rattle.fs_conn.specs.Turns.{is_told, at_early_end, FailsAt, Concludes, Stops, Finishes, Breaks, BreaksAt, WantsMemory, all_written}
use Rattle.fs_conn.specs.Turns.{then_failed, failed_before, ClosesFailed, Plays}
use Rattle.fs_conn.proofs.PlayLemmas.{goes_acted, goes_all_commanded}
use Rattle.fs_conn.proofs.WriteLemmas.{written_all, written_whole, stopped_whole}
use Rattle.fs_conn.proofs.TurnLemmas.{played_is, goes_concluded}
use Rattle.fs_machine.specs.declared.note.LoadNote.{LoadNote}

module _ (notes : List LoadNote) where
  -- a play is of its configuration
  config_played : (config : Configuration) (input : List ℕ) (read_failed : Bool) → (played config input read_failed notes).config ≡ config
  config_played config input read_failed =
      ap (λ (p : Play). p.config) (sym (played_is config input read_failed notes))
      ∙ ((goes_concluded input read_failed).begins (after_conversing config input notes)).config
      ∙ ((goes_all_commanded (blocks_of input)).begins (after_opening config notes)).config ∙ ((goes_acted Arrive).begins (new_play config notes)).config

  -- ---- ends

  -- a play that came to its end by itself concludes, once all is written
  concludes_over : (start old new : Playing) (end : End) → Stops notes start old (Over end) → play_of notes new ≡ play_of notes old →
      Writes old.output new.output old.unsent → ReadsNothing old new → (is_told end ≡ true) × (end ≡ ends.Eof → ⊥) →
      Concludes notes start new end
  concludes_over start old new end stops same writes nothing told =
      record {
        input = stops.input;
        read_failed = stops.read_failed;
        has_read = rw nothing.input stops.has_read;
        play_is = stops.halts.1 ∙ ap (λ (p : Play). record p { end = Some end }) (sym same);
        written =
            subst (λ (p : Play). Writes start.output new.output (output_of p)) (sym same)
            (written_whole notes start.config start.output new.output stops.input [] (play_of notes old)
            (written_all notes start old new.output stops.input stops.stopped writes) refl);
        told = told.0;
        at_end = λ is_eof. absurd (told.1 is_eof);
      }

  pub config_concludes : (start now : Playing) (end : End) → Concludes notes start now end → now.config ≡ start.config
  config_concludes start now end done =
      sym (ap (λ (q : Play). q.config) done.play_is) ∙ config_played start.config done.input done.read_failed

  finishes : (start now : Playing) (end : End) → Concludes notes start now end →
      Finishes start.config notes start.input start.output now.input now.output end now.journal
  finishes start now end done =
      let journal : now.journal ≡ (played start.config done.input done.read_failed notes).journal = sym (ap (λ (q : Play). q.journal) done.play_is) in
      let bytes : output_of (play_of notes now) ≡ bytes_handed start.config (played start.config done.input done.read_failed notes).journal =
      ap (λ c. bytes_handed c now.journal) (config_concludes start now end done) ∙ ap (bytes_handed start.config) journal in record {
        input = done.input;
        read_failed = done.read_failed;
        has_read = done.has_read;
        journal_is = journal;
        written = subst (λ (written : List ℕ). Writes start.output now.output written) bytes done.written;
        end_is = ap (λ (q : Play). q.end) done.play_is;
        at_end = done.at_end;
      }

  plays_told : (config : Configuration) (in0 in1 : Input) (out0 out1 : Output) (end : End) (journal : List Entry) → is_told end ≡ true →
      Finishes config notes in0 out0 in1 out1 end journal → Plays config notes in0 out0 in1 out1 journal end
  plays_told config in0 in1 out0 out1 ends.Exit journal told done = done
  plays_told config in0 in1 out0 out1 ends.Eof journal told done = done
  plays_told config in0 in1 out0 out1 ends.AuthRefused journal told done = done
  plays_told config in0 in1 out0 out1 ends.Stopped journal told done = done
  plays_told config in0 in1 out0 out1 ends.ReadFault journal told done = done
  plays_told config in0 in1 out0 out1 ends.WriteFault journal told done = absurd (cc)
  plays_told config in0 in1 out0 out1 (ends.TooLong len) journal told done = done
  plays_told config in0 in1 out0 out1 ends.BadLength journal told done = done
  plays_told config in0 in1 out0 out1 (ends.JournalFull cost limit) journal told done = done
  plays_told config in0 in1 out0 out1 ends.Memory journal told done = absurd (cc)
  plays_told config in0 in1 out0 out1 (ends.Runaway count) journal told done = done

  pub plays_end : (start now : Playing) (end : End) → Concludes notes start now end →
      Plays start.config notes start.input start.output now.input now.output now.journal end
  plays_end start now end done =
      plays_told start.config start.input now.input start.output now.output end now.journal done.told (finishes start now end done)

  -- ---- a play that broke off

  config_begins : (config : Configuration) (input : List ℕ) (read_failed : Bool) (p : Play) →
      IsPlayFront p (played config input read_failed notes) →
      p.config ≡ config
  config_begins config input read_failed p begins = sym begins.config ∙ config_played config input read_failed

  -- a play that stopped is of its configuration, and a front of the whole
  whole_begins : (p : Play) (end : Option End) (whole : Play) → whole ≡ record p { end = end } → IsPlayFront p whole
  whole_begins p end whole is =
      record { config = ap (λ (q : Play). q.config) is; more = []; split = ap (λ (q : Play). q.journal) is ∙ sym (append-nil p.journal) }

  halts_begins : (stop : Stop) (p whole : Play) → Halts stop p whole → IsPlayFront p whole
  halts_begins (Over end) p whole halts = whole_begins p (Some end) whole halts.1
  halts_begins OutOfMemory p whole halts = halts
  halts_begins WriteFault p whole halts = halts

  stops_begins : (start now : Playing) (stop : Stop) → (stops : Stops notes start now stop) →
      IsPlayFront (play_of notes now) (played start.config stops.input stops.read_failed notes)
  stops_begins start now stop stops = halts_begins stop (play_of notes now) (played start.config stops.input stops.read_failed notes) stops.halts

  pub stops_config : (start now : Playing) (stop : Stop) → Stops notes start now stop → now.config ≡ start.config
  stops_config start now stop stops =
      config_begins start.config stops.input stops.read_failed (play_of notes now) (stops_begins start now stop stops)

  stops_breaks : (start now : Playing) (stop : Stop) → Stops notes start now stop →
      Breaks start.config notes start.input now.input now.journal
  stops_breaks start now stop stops =
      let begins = stops_begins start now stop stops in
      record { input = stops.input; read_failed = stops.read_failed; has_read = stops.has_read; more = begins.more; split = begins.split }

  -- its bytes are those of its journal
  stops_bytes : (start now : Playing) (stop : Stop) → Stops notes start now stop →
      output_of (play_of notes now) ≡ bytes_handed start.config now.journal
  stops_bytes start now stop stops = ap (λ c. bytes_handed c now.journal) (stops_config start now stop stops)

  -- memory was wanting, and what was unsent was written, or that failed
  pub wants_memory : {A : Type 0} → (start old : Playing) (out : Output) (left : List ℕ) (result : Result A Stop) →
      Stops notes start old OutOfMemory → Clears old.output out old.unsent left result →
      WantsMemory start.config notes start.input start.output old.input out old.journal
  wants_memory start old out left (Ok done) stops clears = all_written (record {
    breaks = stops_breaks start old OutOfMemory stops;
    written =
        subst (λ (bytes : List ℕ). Writes start.output out bytes) (stops_bytes start old OutOfMemory stops)
        (written_whole notes start.config start.output out stops.input [] (play_of notes old)
        (written_all notes start old out stops.input stops.stopped clears.0) refl);
  })
  wants_memory start old out left (Err (Over end)) stops clears = absurd clears
  wants_memory start old out left (Err OutOfMemory) stops clears = absurd clears
  wants_memory start old out left (Err WriteFault) stops clears = then_failed (record {
    breaks = stops_breaks start old OutOfMemory stops;
    stopped =
        subst (λ (bytes : List ℕ). Stopped start.output out bytes)
        (sym stops.stopped.split ∙ stops_bytes start old OutOfMemory stops)
        (stopped_later start.output old.output out stops.stopped.sent old.unsent stops.stopped.written clears);
  })

  -- a play that came to its end by itself, and of which all is written; by its definition it may end for want of memory, where no note is left
  pub plays_over : (start old new : Playing) (end : End) → Stops notes start old (Over end) → play_of notes new ≡ play_of notes old →
      Clears {A = Unit {0}} old.output new.output old.unsent new.unsent (Ok tt) → ReadsNothing old new →
      Plays start.config notes start.input start.output new.input new.output new.journal end
  plays_over start old new end stops same clears nothing = by end stops
    where
      told : (end : End) → Stops notes start old (Over end) → (is_told end ≡ true) × (end ≡ ends.Eof → ⊥) →
          Plays start.config notes start.input start.output new.input new.output new.journal end
      told end stops such = plays_end start new end (concludes_over start old new end stops same clears.0 nothing such)

      by : (end : End) → Stops notes start old (Over end) →
          Plays start.config notes start.input start.output new.input new.output new.journal end
      by ends.Exit stops = absurd (cc stops.halts.0)
      by ends.Eof stops = absurd (cc stops.halts.0)
      by ends.AuthRefused stops = absurd (cc stops.halts.0)
      by ends.Stopped stops = absurd (cc stops.halts.0)
      by ends.ReadFault stops = absurd (cc stops.halts.0)
      by ends.WriteFault stops = absurd (cc stops.halts.0)
      by (ends.TooLong len) stops = absurd (cc stops.halts.0)
      by ends.BadLength stops = absurd (cc stops.halts.0)
      by (ends.JournalFull cost limit) stops = told (ends.JournalFull cost limit) stops (refl, λ same. cc)
      by (ends.Runaway count) stops = told (ends.Runaway count) stops (refl, λ same. cc)
      by ends.Memory stops =
          let journal : new.journal ≡ old.journal = ap (λ (p : Play). p.journal) same in
          rw (journal, nothing.input)
          (wants_memory {A = Unit {0}} start old new.output new.unsent (Ok tt) (record {
            input = stops.input;
            read_failed = stops.read_failed;
            has_read = stops.has_read;
            halts = stops_begins start old (Over ends.Memory) stops;
            stopped = stops.stopped;
          }) clears)

  -- memory was wanting before anything was entered
  pub wants_first : (config : Configuration) (in0 : Input) (out0 : Output) (journal : List Entry) → journal ≡ [] →
      WantsMemory config notes in0 out0 in0 out0 journal
  wants_first config in0 out0 journal none =
      subst (λ (entries : List Entry). WantsMemory config notes in0 out0 in0 out0 entries) (sym none) (all_written (record {
        breaks = record {
          input = [];
          read_failed = false;
          has_read = record { reads = reads_nothing in0; faults = refl };
          more = (played config [] false notes).journal;
          split = refl;
        };
        written = writes_nothing out0;
      }))

  -- an end before that of the connection, behind which the last write failed, is such a point too
  pub fails_over : (start old new : Playing) (end : End) (stop : Stop) → Stops notes start old (Over end) →
      play_of notes new ≡ play_of notes old →
      Clears {A = Unit {0}} old.output new.output old.unsent new.unsent (Err stop) → ReadsNothing old new → Stops notes start new WriteFault
  fails_over start old new end (Over other) stops same clears nothing = absurd clears
  fails_over start old new end OutOfMemory stops same clears nothing = absurd clears
  fails_over start old new end WriteFault stops same clears nothing =
      let whole = played start.config stops.input stops.read_failed notes in record {
        input = stops.input;
        read_failed = stops.read_failed;
        has_read = rw nothing.input stops.has_read;
        halts = subst (λ (p : Play). IsPlayFront p whole) (sym same) (stops_begins start old (Over end) stops);
        stopped = subst (λ (p : Play). FailsAt start.config notes start.output new.output stops.input stops.read_failed p) (sym same) (record {
          mid = old.output;
          unsent = old.unsent;
          written = stops.stopped;
          stopped = clears;
          point = at_early_end end stops.halts;
        });
      }

  -- a write failed
  breaks_at : (start now : Playing) → Stops notes start now WriteFault →
      BreaksAt start.config notes start.input start.output now.input now.output (play_of notes now)
  unfolding stops_breaks
  breaks_at start now stops = record {
    breaks = stops_breaks start now WriteFault stops;
    stopped =
        subst (λ (bytes : List ℕ). Stopped start.output now.output bytes) (stops_bytes start now WriteFault stops)
        (stopped_whole notes start.config start.output now.output stops.input stops.read_failed (play_of notes now) stops.stopped);
    fails = stops.stopped;
  }

  -- and the connection was closed as Failed, or memory was wanting for that: so the play ends
  pub plays_failed : (start old new : Playing) (end : End) → Stops notes start old WriteFault → ClosesFailed (so_far old) (so_far new) end →
      OnlyPlays old new → Plays start.config notes start.input start.output new.input new.output new.journal end
  plays_failed start old new ends.WriteFault stops closes only = rw (only.input, only.output) (record {
    play = play_of notes old;
    config_is = stops_config start old WriteFault stops;
    breaks_at = breaks_at start old stops;
    closes = closes.1;
  })
  plays_failed start old new ends.Memory stops closes only =
      rw (only.input, only.output) (failed_before (play_of notes old) (breaks_at start old stops) (ap (λ (q : Play). q.journal) closes))
  plays_failed start old new _ stops closes only = absurd closes
