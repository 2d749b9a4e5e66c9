-- What a turn of a conversation comes to.
use Rattle.std.proofs.Common.{◌≡◌, ◌≢◌, ℕ, ◌<◌, ◌≤◌, Bool, true, false, cond, List, [], ◌∷◌, ◌++◌, length, Option, None, Some, Result, Ok}
use Rattle.std.proofs.Common.{Err, inl}
use Rattle.std.proofs.Common.{sym, refl, ap, ◌∙◌, subst, append_assoc, append-nil, length-append, arith, ◌&&◌, not, if◌then◌else◌}
use Rattle.std.specs.List.{AllByRecursion, concat}
use Rattle.std.specs.Option.{option_and_then}
use Rattle.std.specs.Io.KnownBytes.{IsAtEnd}
use Rattle.std.proofs.lemmas.List.Folds.{concat-append}
use Rattle.fs_doc.specs.Reading.{Configuration}
use Rattle.fs_ports.specs.Counts.{raised}
use Rattle.fs_ports.specs.Ports.{Input, Output, Reads, Writes}
use Rattle.fs_ports.proofs.Sides.{reads_both, reads_nothing, writes_nothing}
use Rattle.fs_frame.specs.Block.{IsBlock, fault_of}
use Rattle.fs_frame.specs.Blocks.{HasNoBlock, blocks_of, rest_of}
use Rattle.fs_frame.specs.Stream.{Stream, new_stream, fed_with}
use Rattle.fs_frame.specs.Next.{HandsOut}
use Rattle.fs_frame.proofs.BlockLaws.{AllByRecursion-append, blocks_of-append, rest_of-append, blocks_of-no_block, rest_of-no_block}
use Rattle.fs_frame.proofs.BlockLaws.{front_of-no_block}
use Rattle.fs_frame.proofs.BodyLaws.{short_rest}
use Rattle.fs_state.specs.declared.conn.Conn.{Conn}
use Rattle.fs_state.specs.declared.conn.Phase.{Phase}
use Rattle.fs_state.specs.declared.conn.Phase.TheVariants.{Fresh, Ready, Ending, Closed}
use Rattle.fs_state.specs.declared.conn.Parting.{Parting}
use Rattle.fs_state.specs.declared.conn.Parting.TheVariants as way
use Rattle.fs_state.specs.Switch.{Switch, conn_of}
use Rattle.fs_machine.specs.declared.entry.Act.TheVariants.{Arrive, Command, Close}
use Rattle.fs_machine.specs.declared.entry.Closing.TheVariants.{EndOfInput}
use Rattle.fs_machine.specs.Connections.{phase_of, phase_at}
use Rattle.fs_machine.specs.Questions.{parting_of, parting_at, owes}
use Rattle.fs_machine.specs.Here.{IsHere}
use Rattle.fs_machine.specs.Step.{reads}
use Rattle.fs_machine.specs.Owed.{PartsIn, AreOwed}
use Rattle.fs_conn.specs.declared.end.End.{End}
use Rattle.fs_conn.specs.declared.end.End.TheVariants.{Exit, AuthRefused, Stopped, Eof}
use Rattle.fs_conn.specs.declared.stop.Stop.{Stop}
use Rattle.fs_conn.specs.declared.stop.Stop.TheVariants.{Over, OutOfMemory, WriteFault}
use Rattle.fs_conn.specs.declared.wire.Filled.{Filled}
use Rattle.fs_conn.specs.declared.wire.Filled.TheVariants.{More}
use Rattle.fs_conn.specs.Play.{Play, switch_of, output_of, new_play, with_end, after_trying_act, after_taking_all, after_following}
use Rattle.fs_conn.specs.Play.{after_act, reads_on, takes_commands, after_command, after_commands, after_opening, after_input_end}
use Rattle.fs_conn.specs.Play.{after_conversing, after_closing, end_by, farewell, end_behind, played, played_as}
use Rattle.fs_conn.specs.Steps.{spent, IsPlayFront, Halts, Does, Costs, Enters, Fills, WritesFirst}
use Rattle.fs_conn.specs.Playing.{Playing, play_of, so_far, IsNew, ReadsNothing, OnlyPlays, Writing, Sends, HasFilledSo, MayClose}
use Rattle.fs_conn.specs.Turns.{HasRead, HasWritten, behind_frame, before_read, HasSent, StoppedBy, Stands, is_told, Ends}
use Rattle.fs_conn.specs.Turns.{Concludes, Stops, work_left}
use Rattle.fs_conn.proofs.PlayLemmas.{begins_self, begins_trans, Goes, goes_entered, goes_ended, goes_all_taken, goes_followed}
use Rattle.fs_conn.proofs.PlayLemmas.{goes_all_commanded, goes_closed}
use Rattle.fs_conn.proofs.StepLemmas.{halts_on, does_both, does_enters}
use Rattle.fs_conn.proofs.SettleLemmas.{is_none}
use Rattle.fs_conn.proofs.SendLemmas.{writing_none}
use Rattle.fs_conn.proofs.WriteLemmas.{written_then, written_all, written_read, written_whole, stopped_unwritten, stopped_sends, filled_so}
use Rattle.fs_conn.proofs.WriteLemmas.{may_close}
use Rattle.fs_machine.specs.declared.note.LoadNote.{LoadNote}

-- ---- what follows the last command

abbrev pub concluded : List ℕ → Bool → Play → Play
concluded input read_failed p = with_end (end_behind (farewell p) (fault_of (rest_of input)) read_failed) (after_closing p)

pub played_is : (config : Configuration) (input : List ℕ) (read_failed : Bool) (notes : List LoadNote) →
    concluded input read_failed (after_conversing config input notes) ≡ played config input read_failed notes
unfolding played_as
played_is config input read_failed notes = refl

pub goes_concluded : (input : List ℕ) (read_failed : Bool) → Goes (concluded input read_failed)
goes_concluded input read_failed = record {
  over =
      λ p over. let end = end_behind (farewell p) (fault_of (rest_of input)) read_failed in
      ap (with_end end) (goes_closed.over p over) ∙ (goes_ended end).over p over;
  begins =
      λ p. let end = end_behind (farewell p) (fault_of (rest_of input)) read_failed in
      begins_trans p (after_closing p) (with_end end (after_closing p)) (goes_closed.begins p) ((goes_ended end).begins (after_closing p));
}

-- ---- where a connection stands

-- it reads commands, and is owed no reply
pub record IsReading (p : Play) : Type 0 where
  pub reads : reads_on p ≡ true
  pub owed : owes (switch_of p) 1 ≡ false
  pub takes : takes_commands p ≡ true
  pub none : farewell p ≡ None

-- one that is there, whose input has not ended, and that says no farewell has not parted
reads_in : (now : Phase) (parting : Option Parting) → PartsIn now parting → parting ≢ Some way.EndOfInput → end_by parting ≡ None →
    reads now ≡ true
reads_in Fresh parting parts hears none = refl
reads_in Ready parting parts hears none = refl
reads_in Ending None parts hears none = absurd (parts refl)
reads_in Ending (Some way.Exit) parts hears none = absurd (cc)
reads_in Ending (Some way.AuthRefused) parts hears none = absurd (cc)
reads_in Ending (Some way.Stopped) parts hears none = absurd (cc)
reads_in Ending (Some way.ChannelLeft) parts hears none = absurd (cc)
reads_in Ending (Some way.EndOfInput) parts hears none = absurd (hears refl)
reads_in Closed parting parts hears none = absurd parts

pub reads_still : (s : Switch) → AreOwed s → IsHere 1 s → end_by (parting_at s 1) ≡ None → reads (phase_at s 1) ≡ true
reads_still s sound here none = by (conn_of s 1) refl
  where
    by : (found : Option Conn) → conn_of s 1 ≡ found → reads (phase_at s 1) ≡ true
    by None is = absurd (here.there is)
    by (Some c) is =
        ap (λ found. reads (phase_of found)) is
        ∙ reads_in c.phase c.parting (sound.parted 1 c is) (λ ended. here.hears (ap (option_and_then parting_of) is ∙ ended))
        (sym (ap (λ found. end_by (option_and_then parting_of found)) is) ∙ none)

pub is_reading : (p : Play) (last : Option End) → AreOwed (switch_of p) → IsHere 1 (switch_of p) → owes (switch_of p) 1 ≡ false →
    last ≡ farewell p → ((end : End) → last ≡ Some end → ⊥) → IsReading p
is_reading p last sound here free last_is never =
    let none : farewell p ≡ None = sym last_is ∙ is_none last never in
    let reading = reads_still (switch_of p) sound here none in record {
      reads = reading;
      owed = free;
      takes = ap (λ b. b && not (owes (switch_of p) 1)) reading ∙ ap not free;
      none = none;
    }

-- one that says farewell reads no further command
reads_none_in : (now : Phase) (parting : Option Parting) (end : End) → PartsIn now parting → end_by parting ≡ Some end → reads now ≡ false
reads_none_in Fresh parting end parts last = let none : None ≡ Some end = ap end_by (sym parts) ∙ last in absurd (cc)
reads_none_in Ready parting end parts last = let none : None ≡ Some end = ap end_by (sym parts) ∙ last in absurd (cc)
reads_none_in Ending parting end parts last = refl
reads_none_in Closed parting end parts last = refl

reads_no_more : (s : Switch) (end : End) → AreOwed s → end_by (parting_at s 1) ≡ Some end → reads (phase_at s 1) ≡ false
reads_no_more s end sound last = by (conn_of s 1) refl
  where
    by : (found : Option Conn) → conn_of s 1 ≡ found → reads (phase_at s 1) ≡ false
    by None is = ap (λ found. reads (phase_of found)) is
    by (Some c) is =
        ap (λ found. reads (phase_of found)) is
        ∙ reads_none_in c.phase c.parting end (sound.parted 1 c is)
        (sym (ap (λ found. end_by (option_and_then parting_of found)) is) ∙ last)

-- ---- commands

after_commands-append : (p : Play) (xs ys : List (List ℕ)) → after_commands p (xs ++ ys) ≡ after_commands (after_commands p xs) ys
after_commands-append p [] ys = refl
after_commands-append p (x ∷ xs) ys = after_commands-append (after_command p x) xs ys

-- a connection that takes no further command gives none
pub after_commands-none : (p : Play) (blocks : List (List ℕ)) → takes_commands p ≡ false → after_commands p blocks ≡ p
after_commands-none p [] none = refl
after_commands-none p (block ∷ blocks) none =
    ap (λ q. after_commands q blocks) (ap (λ b. cond b (after_act (Command 1 block) p) p) none) ∙ after_commands-none p blocks none

pub commanded_takes : (p : Play) (block : List ℕ) → takes_commands p ≡ true → after_command p block ≡ after_act (Command 1 block) p
commanded_takes p block is = ap (λ b. cond b (after_act (Command 1 block) p) p) is

module _ (notes : List LoadNote) where
  -- what these blocks and what is behind them come to
  after_conversing-append : (config : Configuration) (blocks : List (List ℕ)) (rest : List ℕ) → AllByRecursion IsBlock blocks →
      after_commands (after_commands (after_opening config notes) blocks) (blocks_of rest) ≡ after_conversing config (concat blocks ++ rest) notes
  after_conversing-append config blocks rest are_blocks =
      sym (ap (after_commands (after_opening config notes)) (blocks_of-append blocks rest are_blocks)
      ∙ after_commands-append (after_opening config notes) blocks (blocks_of rest))

  -- the blocks so far, with the one that was handed out
  snoc_whole : (blocks : List (List ℕ)) (block rest old : List ℕ) → old ≡ block ++ rest →
      concat blocks ++ old ≡ concat (blocks ++ block ∷ []) ++ rest
  snoc_whole blocks block rest old e =
      ap (λ xs. concat blocks ++ xs) e ∙ sym (append_assoc (concat blocks) block rest)
      ∙ ap (λ xs. (concat blocks ++ xs) ++ rest) (sym (append-nil block)) ∙ ap (λ xs. xs ++ rest) (sym (concat-append blocks (block ∷ [])))

  -- the play of the blocks so far, with the one that was handed out
  snoc_play : (config : Configuration) (p : Play) (blocks : List (List ℕ)) (block : List ℕ) →
      p ≡ after_commands (after_opening config notes) blocks →
      takes_commands p ≡ true →
      after_act (Command 1 block) p ≡ after_commands (after_opening config notes) (blocks ++ block ∷ [])
  snoc_play config p blocks block is reading =
      sym (commanded_takes p block reading) ∙ ap (λ q. after_command q block) is ∙ sym
      (after_commands-append (after_opening config notes) blocks (block ∷ []))

  -- ---- how a conversation stops

  -- a play that is a front of what these blocks give stopped, whatever follows in its input
  pub stops_short : (start now : Playing) (stop : Stop) (blocks : List (List ℕ)) (rest : List ℕ) →
      AllByRecursion IsBlock blocks → HasRead start.input now.input (concat blocks ++ rest) false → Halts stop (play_of notes now)
      (after_commands (after_opening start.config notes) blocks) →
      StoppedBy notes start now (concat blocks ++ rest) false stop → Stops notes start now stop
  stops_short start now stop blocks rest are_blocks has_read halts stopped =
      let input = concat blocks ++ rest in
      let p = play_of notes now in
      let further =
      halts_on (λ q. after_commands q (blocks_of rest)) (goes_all_commanded (blocks_of rest)) stop p
      (after_commands (after_opening start.config notes) blocks) halts in
      let all = subst (λ (q : Play). Halts stop p q) (after_conversing-append start.config blocks rest are_blocks) further in
      let whole = halts_on (concluded input false) (goes_concluded input false) stop p (after_conversing start.config input notes) all in record {
        input = input;
        read_failed = false;
        has_read = has_read;
        halts = subst (λ (q : Play). Halts stop p q) (played_is start.config input false notes) whole;
        stopped = stopped;
      }

  begins_is : (p whole : Play) → p ≡ whole → IsPlayFront p whole
  begins_is p whole is = subst (λ (q : Play). IsPlayFront p q) is (begins_self p)

  -- the play of what was read, where no further block is in front of that
  stands_read : (start now : Playing) (stream : Stream) → (stands : Stands notes start now stream) → HasNoBlock stream.rest →
      play_of notes now ≡ after_conversing start.config (concat stands.blocks ++ stream.rest) notes
  stands_read start now stream stands no_block =
      ap (after_commands (play_of notes now)) (sym (blocks_of-no_block stream.rest no_block))
      ∙ ap (λ q. after_commands q (blocks_of stream.rest)) stands.play_is
      ∙ after_conversing-append start.config stands.blocks stream.rest stands.are_blocks

  -- all was written, and then a piece was read
  written_fed : (start now : Playing) (out : Output) (stream : Stream) (piece : List ℕ) → (stands : Stands notes start now stream) →
      HasNoBlock stream.rest → length piece ≤ 4096 → Writes now.output out now.unsent →
      HasWritten start.config notes start.output out (concat stands.blocks ++ (stream.rest ++ piece)) [] (play_of notes now)
  written_fed start now out stream piece stands no_block few writes =
      subst (λ (input : List ℕ). HasWritten start.config notes start.output out input [] (play_of notes now))
      (append_assoc (concat stands.blocks) stream.rest piece)
      (written_read notes start.config start.output out (concat stands.blocks ++ stream.rest) piece (play_of notes now)
      (stands_read start now stream stands no_block)
      (written_all notes start now out _ stands.written writes) few)

  -- what was read, with a piece more
  reads_fed : (start now : Playing) (stream : Stream) (in1 : Input) (piece : List ℕ) → (stands : Stands notes start now stream) →
      Reads now.input in1 piece → Reads start.input in1 (concat stands.blocks ++ (stream.rest ++ piece))
  reads_fed start now stream in1 piece stands reads =
      subst (λ (xs : List ℕ). Reads start.input in1 xs) (append_assoc (concat stands.blocks) stream.rest piece)
      (reads_both start.input now.input in1 _ piece stands.reads reads)

  -- all was written, and the play is the same
  sent_fed : (start old new : Playing) (input : List ℕ) → play_of notes new ≡ play_of notes old → new.unsent ≡ [] →
      HasWritten start.config notes start.output new.output input [] (play_of notes old) → HasSent notes start new input
  sent_fed start old new input same none written =
      subst (λ (bytes : List ℕ). HasWritten start.config notes start.output new.output input bytes (play_of notes new)) (sym none)
      (subst (λ (p : Play). HasWritten start.config notes start.output new.output input [] p) (sym same) written)

  -- memory was wanting for what was read, or a write before that failed
  pub stops_filling : (start old new : Playing) (before mid after : Stream) (stop : Stop) → Stands notes start old before →
      HasNoBlock before.rest →
      Fills old.input new.input mid after (Err stop) → WritesFirst {A = Filled} old.output new.output old.unsent new.unsent (Err stop) →
      play_of notes new ≡ play_of notes old →
      Stops notes start new stop
  stops_filling start old new before mid after (Over end) stands no_block fills writes same = absurd fills
  stops_filling start old new before mid after OutOfMemory stands no_block fills writes same =
      stops_short start new OutOfMemory stands.blocks (before.rest ++ fills.0) stands.are_blocks
      (record {
        reads = reads_fed start old before new.input fills.0 stands fills.2;
        faults = fills.3 ∙ stands.read_faults;
      })
      (begins_is (play_of notes new) (after_commands (after_opening start.config notes) stands.blocks) (same ∙ stands.play_is))
      (sent_fed start old new _ same writes.1 (written_fed start old new.output before fills.0 stands no_block fills.1 writes.0))
  stops_filling start old new before mid after WriteFault stands no_block fills writes same =
      stops_short start new WriteFault stands.blocks before.rest stands.are_blocks
      (record {
        reads = subst (λ (i : Input). Reads start.input i (concat stands.blocks ++ before.rest)) (sym fills.0) stands.reads;
        faults = ap (λ (i : Input). i.faults) fills.0 ∙ stands.read_faults;
      })
      (begins_is (play_of notes new) (after_commands (after_opening start.config notes) stands.blocks) (same ∙ stands.play_is))
      (record {
        mid = old.output;
        unsent = old.unsent;
        written =
            subst (λ (p : Play). HasWritten start.config notes start.output old.output (concat stands.blocks ++ before.rest) old.unsent p)
            (sym same) stands.written;
        stopped = writes;
        point = before_read (same ∙ stands_read start old before stands no_block);
      })

  -- what was written stands behind a block that was handed out
  written_behind : (start old mid : Playing) (before after : Stream) (block : List ℕ) → (stands : Stands notes start old before) →
      HandsOut before after block → output_of (play_of notes mid) ≡ output_of (play_of notes old) → OnlyPlays old mid →
      HasSent notes start mid (concat (stands.blocks ++ block ∷ []) ++ after.rest)
  written_behind start old mid before after block stands hands_out output only =
      written_then notes start old mid _
      (subst (λ (input : List ℕ). HasSent notes start old input) (snoc_whole stands.blocks block after.rest before.rest hands_out.rest)
      stands.written)
      (writing_none old mid output only)

  -- what a block gives stopped
  pub stops_behind : (start old new : Playing) (stop : Stop) (before after : Stream) (block : List ℕ) →
      (stands : Stands notes start old before) →
      HandsOut before after block → takes_commands (play_of notes old) ≡ true → new.input ≡ old.input →
      Halts stop (play_of notes new) (after_act (Command 1 block) (play_of notes old)) →
      StoppedBy notes start new (concat (stands.blocks ++ block ∷ []) ++ after.rest) false stop → Stops notes start new stop
  stops_behind start old new stop before after block stands hands_out reading same halts stopped =
      stops_short start new stop (stands.blocks ++ block ∷ []) after.rest
      (AllByRecursion-append IsBlock stands.blocks (block ∷ []) stands.are_blocks (hands_out.is_block, tt))
      (rw same (record {
        reads = subst (λ (xs : List ℕ). Reads start.input old.input xs)
            (snoc_whole stands.blocks block after.rest before.rest hands_out.rest) stands.reads;
        faults = stands.read_faults;
      }))
      (subst (λ (q : Play). Halts stop (play_of notes new) q)
      (snoc_play start.config (play_of notes old) stands.blocks block stands.play_is reading) halts)
      stopped

  -- the command of a block was not entered
  pub stops_command : (start old new : Playing) (stop : Stop) (before after : Stream) (block : List ℕ) →
      Stands notes start old before → HandsOut before after block → takes_commands (play_of notes old) ≡ true →
      Halts stop (play_of notes new) (after_trying_act (Command 1 block) (play_of notes old)) →
      output_of (play_of notes new) ≡ output_of (play_of notes old) → OnlyPlays old new → stop ≢ WriteFault → Stops notes start new stop
  stops_command start old new stop before after block stands hands_out reading halts output only unwritten =
      stops_behind start old new stop before after block stands hands_out reading only.input
      (halts_on after_following goes_followed stop (play_of notes new) (after_trying_act (Command 1 block) (play_of notes old)) halts)
      (stopped_unwritten notes start new _ false stop unwritten (written_behind start old new before after block stands hands_out output only))

  -- or not all that comes of it
  pub stops_following : (start old mid new : Playing) (stop : Stop) (before after : Stream) (block : List ℕ) →
      Stands notes start old before → HandsOut before after block → takes_commands (play_of notes old) ≡ true →
      play_of notes mid ≡ after_trying_act (Command 1 block) (play_of notes old) → output_of (play_of notes mid) ≡ output_of (play_of notes old) → OnlyPlays old mid →
      Halts stop (play_of notes new) (after_following (play_of notes mid)) → Sends {A = Unit {0}} HasFilledSo mid new (Err stop) → ReadsNothing mid new →
      Stops notes start new stop
  stops_following start old mid new stop before after block stands hands_out reading mid_is output only halts sends nothing =
      stops_behind start old new stop before after block stands hands_out reading (nothing.input ∙ only.input)
      (subst (λ (q : Play). Halts stop (play_of notes new) (after_following q)) mid_is halts)
      (stopped_sends notes HasFilledSo start mid new _ false stop
      (written_behind start old mid before after block stands hands_out output only) sends (λ bytes filled. behind_frame (filled_so notes bytes new filled)))

  -- ---- how it goes on

  -- a block was answered
  pub goes_on_behind : (start old mid new : Playing) (before after : Stream) (block : List ℕ) →
      Stands notes start old before → HandsOut before after block → takes_commands (play_of notes old) ≡ true →
      play_of notes mid ≡ after_trying_act (Command 1 block) (play_of notes old) → output_of (play_of notes mid) ≡ output_of (play_of notes old) → OnlyPlays old mid →
      play_of notes new ≡ after_following (play_of notes mid) → Writing mid new → ReadsNothing mid new → Stands notes start new after
  goes_on_behind start old mid new before after block stands hands_out reading mid_is output only new_is writing nothing =
      let same : new.input ≡ old.input = nothing.input ∙ only.input in record {
        blocks = stands.blocks ++ block ∷ [];
        are_blocks = AllByRecursion-append IsBlock stands.blocks (block ∷ []) stands.are_blocks (hands_out.is_block, tt);
        reads = rw same
            (subst (λ (xs : List ℕ). Reads start.input old.input xs)
            (snoc_whole stands.blocks block after.rest before.rest hands_out.rest) stands.reads);
        read_faults = ap (λ i. i.faults) same ∙ stands.read_faults;
        play_is = new_is ∙ ap after_following mid_is ∙ snoc_play start.config (play_of notes old) stands.blocks block stands.play_is reading;
        written =
            written_then notes start mid new _ (written_behind start old mid before after block stands hands_out output only) writing;
      }

  -- a piece was read, once all was written
  pub goes_on_fed : (start old new : Playing) (before mid after : Stream) → Stands notes start old before → HasNoBlock before.rest →
      mid.rest ≡ before.rest → Fills old.input new.input mid after (Ok More) →
      WritesFirst {A = Filled} old.output new.output old.unsent new.unsent (Ok More) → play_of notes new ≡ play_of notes old → Stands notes start new after
  goes_on_fed start old new before mid after stands no_block rest_same fills writes same =
      let piece = fills.0 in
      let rest : after.rest ≡ before.rest ++ piece = ap (λ (s : Stream). s.rest) fills.5 ∙ ap (λ xs. xs ++ piece) rest_same in record {
        blocks = stands.blocks;
        are_blocks = stands.are_blocks;
        reads = subst (λ (xs : List ℕ). Reads start.input new.input (concat stands.blocks ++ xs)) (sym rest)
            (reads_fed start old before new.input piece stands fills.3);
        read_faults = fills.4 ∙ stands.read_faults;
        play_is = same ∙ stands.play_is;
        written =
            subst (λ (xs : List ℕ). HasSent notes start new (concat stands.blocks ++ xs)) (sym rest)
            (sent_fed start old new _ same writes.1 (written_fed start old new.output before piece stands no_block fills.2 writes.0));
      }

  -- ---- how it ends

  -- a farewell is told, and is no end by the input
  abbrev IsFarewell : End → Type 0
  IsFarewell end = (is_told end ≡ true) × (end ≢ Eof)

  farewell_told : (parting : Option Parting) (end : End) → end_by parting ≡ Some end → IsFarewell end
  farewell_told None end is = absurd (cc)
  farewell_told (Some way.Exit) end is = let same : Exit ≡ end = cc in subst IsFarewell same (refl, λ eof. cc)
  farewell_told (Some way.AuthRefused) end is = let same : AuthRefused ≡ end = cc in subst IsFarewell same (refl, λ eof. cc)
  farewell_told (Some way.Stopped) end is = let same : Stopped ≡ end = cc in subst IsFarewell same (refl, λ eof. cc)
  farewell_told (Some way.ChannelLeft) end is = let same : Stopped ≡ end = cc in subst IsFarewell same (refl, λ eof. cc)
  farewell_told (Some way.EndOfInput) end is = absurd (cc)

  -- the connection reads no further command
  pub ends_by_farewell : (start now : Playing) (end : End) (stream : Stream) → Stands notes start now stream →
      AreOwed (switch_of (play_of notes now)) →
      farewell (play_of notes now) ≡ Some end → Ends notes start now end
  ends_by_farewell start now end stream stands sound last =
      let p = play_of notes now in
      let told = farewell_told (parting_at (switch_of p) 1) end last in record {
        input = concat stands.blocks ++ stream.rest;
        read_failed = false;
        has_read = record { reads = stands.reads; faults = stands.read_faults };
        play_is =
            sym (after_commands-none p (blocks_of stream.rest)
            (ap (λ b. b && not (owes (switch_of p) 1)) (reads_no_more (switch_of p) end sound last)))
            ∙ ap (λ q. after_commands q (blocks_of stream.rest)) stands.play_is
            ∙ after_conversing-append start.config stands.blocks stream.rest stands.are_blocks;
        written = stands.written;
        end_is = sym (ap (λ last. end_behind last (fault_of (rest_of (concat stands.blocks ++ stream.rest))) false) last);
        told = told.0;
        at_end = λ is_eof. absurd (told.1 is_eof);
      }

  -- no block is in front, and none will be read
  pub ends_between : (start old new : Playing) (end : End) (stream : Stream) (read_failed : Bool) →
      Stands notes start old stream → HasNoBlock stream.rest → farewell (play_of notes old) ≡ None → Reads old.input new.input [] →
      new.input.faults ≡ (if read_failed then raised old.input.faults else old.input.faults) →
      Writing old new → play_of notes new ≡ play_of notes old → end ≡ end_behind None (fault_of stream.rest) read_failed → is_told end ≡ true →
      (end ≡ Eof → IsAtEnd new.input.left) → Ends notes start new end
  ends_between start old new end stream read_failed stands no_block none reads faults writing same end_is told at_end =
      let input = concat stands.blocks ++ stream.rest in
      let rest : fault_of stream.rest ≡ fault_of (rest_of input) =
      ap fault_of (sym (rest_of-append stands.blocks stream.rest stands.are_blocks ∙ rest_of-no_block stream.rest no_block)) in record {
        input = input;
        read_failed = read_failed;
        has_read = record {
          reads = subst (λ (xs : List ℕ). Reads start.input new.input xs) (append-nil input)
              (reads_both start.input old.input new.input _ [] stands.reads reads);
          faults = faults ∙ ap (λ n. if read_failed then raised n else n) stands.read_faults;
        };
        play_is = same ∙ stands_read start old stream stands no_block;
        written = written_then notes start old new input stands.written writing;
        end_is = end_is ∙ ap (λ fault. end_behind None fault read_failed) rest
            ∙ ap (λ last. end_behind last (fault_of (rest_of input)) read_failed) (sym (ap farewell same ∙ none));
        told = told;
        at_end = at_end;
      }

  -- a read that failed read nothing
  pub reads_failed : (in0 : Input) → Reads in0 (record in0 { faults = raised in0.faults }) []
  reads_failed in0 = let nothing = reads_nothing in0 in record { taken = nothing.taken; left = nothing.left; waits = refl }

  -- ---- how a turn leaves less to do

  -- a block that was entered
  pub falls_behind : (old mid new : Play) (stream later : Stream) (block : List ℕ) → mid ≡ after_trying_act (Command 1 block) old →
      new ≡ after_following mid → Costs old mid → spent mid ≤ spent new →
      work_left new later < work_left old stream
  falls_behind old mid new stream later block mid_is new_is costs spent =
      let config : new.config ≡ old.config =
      ap (λ (p : Play). p.config) new_is ∙ (goes_followed.begins mid).config ∙ ap (λ (p : Play). p.config) mid_is
      ∙ ((goes_entered (Command 1 block)).begins old).config in
      let limit = ap (λ (c : Configuration). c.settings.journal_limit) config in omega (arith, limit, costs.more, costs.free, spent)

  -- a piece that was read
  pub falls_fed : (p : Play) (old new : Stream) (piece : List ℕ) → HasNoBlock old.rest → fault_of old.rest ≡ None → new.rest ≡ old.rest →
      0 < length piece →
      work_left p (fed_with new piece) < work_left p old
  falls_fed p old new piece no_block well same some =
      let few = short_rest old.rest (front_of-no_block old.rest no_block) well in
      let long = length-append new.rest piece in
      let kept = ap length same in omega (arith, few, long, kept)

  -- ---- the end

  -- a connection that came to its end was closed
  pub concludes : (start old new : Playing) (end : End) → Ends notes start old end → play_of notes new ≡ after_closing (play_of notes old) →
      Writing old new →
      ReadsNothing old new → new.unsent ≡ [] → Concludes notes start new end
  concludes start old new end ends new_is writing nothing none =
      let p = play_of notes old in
      let later = play_of notes new in
      let same = ap after_closing ends.play_is in
      let whole : with_end end later ≡ played start.config ends.input ends.read_failed notes =
      ap (λ how. with_end how later)
      (ends.end_is ∙ ap (λ q. end_behind (farewell q) (fault_of (rest_of ends.input)) ends.read_failed) ends.play_is)
      ∙ ap (with_end (end_behind (farewell (after_conversing start.config ends.input notes)) (fault_of (rest_of ends.input)) ends.read_failed))
      (new_is ∙ same)
      ∙ played_is start.config ends.input ends.read_failed notes in record {
        input = ends.input;
        read_failed = ends.read_failed;
        has_read = rw nothing.input ends.has_read;
        play_is = sym whole;
        written =
            written_whole notes start.config start.output new.output ends.input new.unsent later
            (written_then notes start old new ends.input ends.written writing) none;
        told = ends.told;
        at_end = rw nothing.input ends.at_end;
      }

  -- the closing of a connection stopped
  pub stops_closing : (start old new : Playing) (end : End) (stop : Stop) → Ends notes start old end →
      Halts stop (play_of notes new) (after_closing (play_of notes old)) → Sends {A = Unit {0}} (MayClose notes old) old new (Err stop) →
      ReadsNothing old new → Stops notes start new stop
  stops_closing start old new end stop ends halts sends nothing =
      let p = play_of notes old in
      let later = play_of notes new in
      let how = end_behind (farewell p) (fault_of (rest_of ends.input)) ends.read_failed in
      let whole = halts_on (with_end how) (goes_ended how) stop later (after_closing p) halts in record {
        input = ends.input;
        read_failed = ends.read_failed;
        has_read = rw nothing.input ends.has_read;
        halts =
            subst (λ (q : Play). Halts stop later q)
            (ap (concluded ends.input ends.read_failed) ends.play_is ∙ played_is start.config ends.input ends.read_failed notes) whole;
        stopped =
            stopped_sends notes (MayClose notes old) start old new ends.input ends.read_failed stop ends.written sends
            (λ bytes may. may_close notes start.config ends.input ends.read_failed bytes old new ends.play_is may);
      }

  -- it stopped as it came
  stops_first : (start now : Playing) (stop : Stop) → now.input ≡ start.input →
      Halts stop (play_of notes now) (after_opening start.config notes) →
      StoppedBy notes start now [] false stop → Stops notes start now stop
  stops_first start now stop same halts stopped =
      stops_short start now stop [] [] tt
      (record { reads = rw same (reads_nothing start.input); faults = ap (λ i. i.faults) same }) halts stopped

  -- a play before any entry
  new_is : (start : Playing) → IsNew start → play_of notes start ≡ new_play start.config notes
  new_is start is = rw (is.journal, is.clock) refl

  -- it came, and nothing was written yet
  pub record Comes (start mid : Playing) : Type 0 where
    pub play_is : play_of notes mid ≡ after_trying_act Arrive (new_play start.config notes)
    pub written : HasSent notes start mid []
    pub input : mid.input ≡ start.input

  written_came : (start mid : Playing) → IsNew start → output_of (play_of notes mid) ≡ output_of (play_of notes start) →
      OnlyPlays start mid →
      HasSent notes start mid []
  written_came start mid is output only = record {
    sent = [];
    split = output ∙ ap output_of (new_is start is) ∙ sym (only.unsent ∙ is.unsent);
    written = subst (λ (out : Output). Writes start.output out []) (sym only.output) (writes_nothing start.output);
    prompt = inl refl;
  }

  pub came : (start mid : Playing) → IsNew start → play_of notes mid ≡ after_trying_act Arrive (play_of notes start) →
      output_of (play_of notes mid) ≡ output_of (play_of notes start) → OnlyPlays start mid → Comes start mid
  came start mid is mid_is output only = record {
    play_is = mid_is ∙ ap (after_trying_act Arrive) (new_is start is);
    written = written_came start mid is output only;
    input = only.input;
  }

  -- its coming was not entered
  pub stops_coming : (start now : Playing) (stop : Stop) → IsNew start →
      Halts stop (play_of notes now) (after_trying_act Arrive (play_of notes start)) →
      output_of (play_of notes now) ≡ output_of (play_of notes start) → OnlyPlays start now → stop ≢ WriteFault → Stops notes start now stop
  stops_coming start now stop is halts output only unwritten =
      let begun = subst (λ (q : Play). Halts stop (play_of notes now) (after_trying_act Arrive q)) (new_is start is) halts in
      stops_first start now stop only.input
      (halts_on after_following goes_followed stop (play_of notes now) (after_trying_act Arrive (new_play start.config notes)) begun)
      (stopped_unwritten notes start now [] false stop unwritten (written_came start now is output only))

  -- what comes of that stopped
  pub stops_opening : (start mid now : Playing) (stop : Stop) → Comes start mid →
      Halts stop (play_of notes now) (after_following (play_of notes mid)) →
      Sends {A = Unit {0}} HasFilledSo mid now (Err stop) → ReadsNothing mid now → Stops notes start now stop
  stops_opening start mid now stop comes halts sends nothing =
      stops_first start now stop (nothing.input ∙ comes.input)
      (subst (λ (q : Play). Halts stop (play_of notes now) (after_following q)) comes.play_is halts)
      (stopped_sends notes HasFilledSo start mid now [] false stop comes.written sends (λ bytes filled. behind_frame (filled_so notes bytes now filled)))

  -- memory was wanting before anything was read
  pub stops_opened : (start mid now : Playing) → Comes start mid → play_of notes now ≡ after_following (play_of notes mid) →
      Writing mid now →
      ReadsNothing mid now → Stops notes start now OutOfMemory
  stops_opened start mid now comes now_is writing nothing =
      stops_first start now OutOfMemory (nothing.input ∙ comes.input)
      (begins_is (play_of notes now) (after_opening start.config notes) (now_is ∙ ap after_following comes.play_is))
      (written_then notes start mid now [] comes.written writing)

  -- the connection came, and nothing was read yet
  pub stands_first : (start mid now : Playing) (stream : Stream) → Comes start mid →
      play_of notes now ≡ after_following (play_of notes mid) →
      Writing mid now → ReadsNothing mid now → stream ≡ new_stream → Stands notes start now stream
  stands_first start mid now stream comes now_is writing nothing stream_is =
      let same : now.input ≡ start.input = nothing.input ∙ comes.input in record {
        blocks = [];
        are_blocks = tt;
        reads = rw (same, stream_is) (reads_nothing start.input);
        read_faults = ap (λ i. i.faults) same;
        play_is = now_is ∙ ap after_following comes.play_is;
        written = subst (λ (s : Stream). HasSent notes start now s.rest) (sym stream_is) (written_then notes start mid now [] comes.written writing);
      }

  -- a connection that reads no command does not end its input
  pub input_ended_none : (s : Playing) → reads_on (so_far s) ≡ false → play_of notes s ≡ after_input_end (play_of notes s)
  input_ended_none s none =
      sym (ap (λ b. cond b (after_taking_all (after_trying_act (Close 1 EndOfInput) (play_of notes s))) (play_of notes s)) none)

  -- one that reads commands ends it, and all frames are taken
  pub input_ended_by : {A : Type 0} → (old mid new : Playing) (result : Result A Stop) → reads_on (so_far old) ≡ true →
      play_of notes mid ≡ after_trying_act (Close 1 EndOfInput) (play_of notes old) →
      Does after_taking_all (play_of notes mid) (play_of notes new) result → Does after_input_end (play_of notes old) (play_of notes new) result
  input_ended_by old mid new result reading mid_is does =
      does_both after_taking_all after_input_end (play_of notes mid) (play_of notes old) (play_of notes new) result
      (ap after_taking_all mid_is
      ∙ sym (ap (λ b. cond b (after_taking_all (after_trying_act (Close 1 EndOfInput) (play_of notes old))) (play_of notes old)) reading))
      does

  -- the end of the input was not entered
  pub input_ended_stops : (old new : Playing) (stop : Stop) → reads_on (play_of notes old) ≡ true →
      Enters (Close 1 EndOfInput) (play_of notes old) (play_of notes new) (Err stop) → Halts stop (play_of notes new) (after_input_end (play_of notes old))
  input_ended_stops old new stop reading enters =
      let p = play_of notes old in
      let end = after_trying_act (Close 1 EndOfInput) p in
      subst (λ (q : Play). Halts stop (play_of notes new) q) (sym (ap (λ b. cond b (after_taking_all end) p) reading))
      (halts_on after_taking_all goes_all_taken stop (play_of notes new) end
      (does_enters (Close 1 EndOfInput) p (play_of notes new) (Err stop) refl enters))
