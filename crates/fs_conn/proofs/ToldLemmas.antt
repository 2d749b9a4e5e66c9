-- What rounds of a conversation come to, how it begins, and what is told of it at its end.
use Rattle.std.proofs.Common.{◌≡◌, ◌≢◌, ◌⊎◌, inl, inr, ℕ, true, false, if◌then◌else◌, List, [], ◌∷◌, ◌++◌, length, drop, Option}
use Rattle.std.proofs.Common.{Result, Ok, Err, refl, ap, sym, subst, ◌∙◌, append_assoc, append-nil}
use Rattle.std.proofs.lemmas.Bool.{eq-eqb}
use Rattle.std.proofs.lemmas.List.Folds.{concat-append}
use Rattle.std.specs.List.{AllByRecursion, concat}
use Rattle.fs_text.specs.Texts.{Text}
use Rattle.fs_doc.specs.Reading.{Configuration}
use Rattle.fs_ports.specs.Counts.{raised}
use Rattle.fs_ports.specs.Ports.{Input, Output, Reads, Writes}
use Rattle.fs_ports.proofs.Sides.{writes_nothing, reads_both, reads_nothing, stopped_sooner}
use Rattle.fs_frame.specs.Block.{IsBlock, fault_of}
use Rattle.fs_frame.specs.Blocks.{blocks_of, rest_of}
use Rattle.fs_frame.specs.declared.fault.Fault.{Fault}
use Rattle.fs_frame.proofs.BlockLaws.{AllByRecursion-append, blocks_of-append, rest_of-append}
use Rattle.fs_book.specs.Opened.{NoneNames, Quiet}
use Rattle.fs_book.proofs.Lists.{prefix_self, prefix_trans}
use Rattle.fs_state.specs.declared.conn.Parting.{Parting}
use Rattle.fs_state.specs.declared.conn.Parting.TheVariants as way
use Rattle.fs_machine.specs.declared.entry.Entry.{Entry}
use Rattle.fs_machine.specs.declared.entry.Act.TheVariants.{Command}
use Rattle.fs_machine.specs.declared.reply.Reply.{Reply}
use Rattle.fs_machine.specs.Frames.{commands_of}
use Rattle.fs_machine.specs.Laws.{given_to, handed_to}
use Rattle.fs_machine.specs.Turned.{IsJournal, names}
use Rattle.fs_machine.specs.Carried.{is_sent, is_shut_at}
use Rattle.fs_machine.proofs.QuietLemmas.{carries, does, begins}
use Rattle.fs_conn.specs.declared.end.End.{End}
use Rattle.fs_conn.specs.declared.end.End.TheVariants as ends
use Rattle.fs_conn.specs.declared.stop.Stop.{Stop}
use Rattle.fs_conn.specs.declared.stop.Stop.TheVariants as stops
use Rattle.fs_conn.specs.declared.round.Round.{Round}
use Rattle.fs_conn.specs.declared.round.Round.TheVariants.{GoOn, Done}
use Rattle.fs_conn.specs.Owning.{OwnsConn, entry_at, Entered}
use Rattle.fs_conn.specs.Partings.{PartedAt, EndsAs}
use Rattle.fs_conn.specs.Talks.{Point, point, bytes_given, FrontWritten, PartedIn, PartedEnd, HungUp, InputCause, IfTried, LacksBlock, tried_of}
use Rattle.fs_conn.specs.Talks.{Base, Holds, HasStopped, GivesUp, OverCause, Over, Rounds, Handles, Departed, Hung, ends_sent, EndWrote, EndCause}
use Rattle.fs_conn.specs.Talks.{Told, Talks, IsCutOff, is_faultless}
use Rattle.fs_conn.proofs.PartingLemmas.{at_front, parted_by_command, parted_by_input, made_to_stop, by_up, input_up, stop_up, parts_once}
use Rattle.fs_conn.proofs.TalkLemmas.{or_none, full_up, still_full, front_longer, holds_quiet, stops_holds, idle_before, gains_push}

-- bytes that have no block are all behind their blocks
rest_whole : (rest : List ℕ) → blocks_of rest ≡ [] → rest_of rest ≡ rest
unfolding rest_of
rest_whole rest none = ap (λ (bs : List (List ℕ)). drop (length (concat bs)) rest) none

behind : (bs : List (List ℕ)) (rest : List ℕ) (fault : Option Fault) → AllByRecursion IsBlock bs → blocks_of rest ≡ [] →
    fault_of rest ≡ fault → fault_of (rest_of (concat bs ++ rest)) ≡ fault
behind bs rest fault are none is = ap fault_of (rest_of-append bs rest are ∙ rest_whole rest none) ∙ is

bytes_push : (bs : List (List ℕ)) (b rest : List ℕ) → concat (bs ++ b ∷ []) ++ rest ≡ concat bs ++ (b ++ rest)
bytes_push bs b rest =
    ap (λ xs. xs ++ rest) (concat-append bs (b ∷ []) ∙ ap (λ xs. concat bs ++ xs) (append-nil b)) ∙ append_assoc (concat bs) b rest

module _ (may : ℕ → Type 0) (config : Configuration) (conn : ℕ) where
  -- a block became a command
  pub commanded : (from : Point) (log log' : List Entry) (mine mine' : List ℕ) (in1 : Input) (out1 : Output) (b rest : List ℕ)
      (answer : Reply) → IsBlock b → Entered may config conn log mine log' mine' (Command conn b) answer
      → Holds may config conn from (point log mine in1 out1) (b ++ rest) → Holds may config conn from (point log' mine' in1 out1) rest
  commanded from log log' mine mine' in1 out1 b rest answer is n h =
      let now = holds_quiet may config conn from log n.before mine mine in1 out1 (b ++ rest)
      (idle_before may config conn log log' mine mine' _ answer n) h in
      let e : Entry = entry_at n.moment (Command conn b) in
      let d = does conn config n.before e answer n.answers now.base.come refl in
      let more : commands_of conn (n.before ++ e ∷ []) ≡ commands_of conn n.before ++ b ∷ [] =
      d.commands ∙ ap (λ t. commands_of conn n.before ++ (if t then b ∷ [] else [])) (eq-eqb conn conn refl) in
      let P : List Entry → Type 0 = λ j. Holds may config conn from (point j mine' in1 out1) rest in
      subst P n.sees (record {
        base = record {
          later = prefix_trans from.log n.before (n.before ++ e ∷ []) now.base.later (e ∷ [], refl);
          gains = gains_push may config conn from.mine n.before e mine mine' refl n.told n.more now.base.gains;
          run = d.run;
          come = d.come;
          are_blocks =
              subst (λ (bs : List (List ℕ)). AllByRecursion IsBlock bs) (sym more)
              (AllByRecursion-append IsBlock (commands_of conn n.before) (b ∷ []) now.base.are_blocks (is, tt));
          reads =
              subst (λ (bs : List ℕ). Reads from.input in1 bs)
              (sym (ap (λ bs. concat bs ++ rest) more ∙ bytes_push (commands_of conn n.before) b rest)) now.base.reads;
        };
        live = d.shut;
        unsent = d.sent ∙ or_none (is_sent conn n.before) false now.unsent;
        written =
            subst (λ (fs : List Text). Writes from.output out1 (concat fs))
            (sym (d.handed ∙ append-nil (handed_to conn config n.before))) now.written;
      })

  -- more was read
  pub read_on : (from : Point) (log : List Entry) (mine : List ℕ) (in1 in2 : Input) (out1 : Output) (rest piece : List ℕ) →
      Reads in1 in2 piece → Holds may config conn from (point log mine in1 out1) rest
      → Holds may config conn from (point log mine in2 out1) (rest ++ piece)
  read_on from log mine in1 in2 out1 rest piece more h = record {
    base = record {
      later = h.base.later;
      gains = h.base.gains;
      run = h.base.run;
      come = h.base.come;
      are_blocks = h.base.are_blocks;
      reads =
          subst (λ (bs : List ℕ). Reads from.input in2 bs) (append_assoc (concat (commands_of conn log)) rest piece)
          (reads_both from.input in1 in2 (concat (commands_of conn log) ++ rest) piece h.base.reads more);
    };
    live = h.live;
    unsent = h.unsent;
    written = h.written;
  }

  -- a read failed
  pub read_failed_on : (from : Point) (log : List Entry) (mine : List ℕ) (in1 : Input) (out1 : Output) (rest : List ℕ) →
      Holds may config conn from (point log mine in1 out1) rest
      → Holds may config conn from (point log mine (record in1 { faults = raised in1.faults }) out1) rest
  read_failed_on from log mine in1 out1 rest h = record {
    base = record {
      later = h.base.later;
      gains = h.base.gains;
      run = h.base.run;
      come = h.base.come;
      are_blocks = h.base.are_blocks;
      reads = record { taken = h.base.reads.taken; left = h.base.reads.left; waits = h.base.reads.waits };
    };
    live = h.live;
    unsent = h.unsent;
    written = h.written;
  }

  -- there was no memory for what was read
  pub turns_stopped : (from : Point) (log : List Entry) (mine : List ℕ) (in1 in2 : Input) (out1 : Output) (rest piece : List ℕ) →
      Reads in1 in2 piece → Holds may config conn from (point log mine in1 out1) rest
      → (left : List ℕ) × HasStopped may config conn from (point log mine in2 out1) left stops.OutOfMemory
  turns_stopped from log mine in1 in2 out1 rest piece more h = (
    rest ++ piece,
    stops_holds may config conn from log mine in2 out1 (rest ++ piece)
        (read_on from log mine in1 in2 out1 rest piece more h),
  )

  -- the connection had parted
  departed_cause : (from now : Point) (rest : List ℕ) (end : End) → PartedEnd config conn now.log end →
      OverCause may config conn end from now rest
  departed_cause from now rest ends.Exit parted = parted
  departed_cause from now rest ends.AuthRefused parted = parted
  departed_cause from now rest ends.Stopped parted = parted
  departed_cause from now rest _ parted = absurd parted

  pub turns_departed : (from now : Point) (rest left : List ℕ) (result : Result Round Stop) →
      Departed may config conn from now rest result → Rounds may config conn from now left result
  turns_departed from now rest left (Ok GoOn) d = absurd d
  turns_departed from now rest left (Ok (Done e)) d =
      record { rest = rest; finishes = d.1; cause = departed_cause from now rest e d.0 }
  turns_departed from now rest left (Err stop) d = (rest, d)

  pub handles_departed : (from now : Point) (b rest : List ℕ) (result : Result Round Stop) →
      Departed may config conn from now (b ++ rest) result → Handles may config conn b from now rest result
  handles_departed from now b rest (Ok GoOn) d = absurd d
  handles_departed from now b rest (Ok (Done e)) d = d
  handles_departed from now b rest (Err stop) d = d

  pub turns_handled : (from now : Point) (b rest : List ℕ) (result : Result Round Stop) → now.input.faults ≡ from.input.faults →
      Handles may config conn b from now rest result → Rounds may config conn from now rest result
  turns_handled from now b rest (Ok GoOn) same h = (h, same)
  turns_handled from now b rest (Ok (Done e)) same h =
      record { rest = b ++ rest; finishes = h.1; cause = departed_cause from now (b ++ rest) e h.0 }
  turns_handled from now b rest (Err stop) same h = (b ++ rest, h)

  -- it had parted for the end of its input
  input_over : (from now : Point) (rest : List ℕ) (end : End) → PartedIn config conn now.log way.EndOfInput →
      InputCause end from now rest → OverCause may config conn end from now rest
  input_over from now rest ends.Eof parted cause = (parted, cause)
  input_over from now rest ends.ReadFault parted cause = (parted, cause)
  input_over from now rest (ends.TooLong len) parted cause = (parted, cause)
  input_over from now rest ends.BadLength parted cause = (parted, cause)
  input_over from now rest _ parted cause = absurd cause

  hung_over : (from now : Point) (rest : List ℕ) (e end : End) → HungUp config conn now.log end e → InputCause end from now rest →
      OverCause may config conn e from now rest
  hung_over from now rest e end (inl hung) cause =
      subst (λ (x : End). OverCause may config conn x from now rest) (sym hung.0) (input_over from now rest end hung.1 cause)
  hung_over from now rest e end (inr parted) cause = departed_cause from now rest e parted

  pub turns_hung : (from now : Point) (rest left : List ℕ) (end : End) (result : Result Round Stop) →
      InputCause end from now rest → Hung may config conn end from now rest result
      → Rounds may config conn from now left result
  turns_hung from now rest left end (Ok GoOn) cause h = absurd h
  turns_hung from now rest left end (Ok (Done e)) cause h =
      record { rest = rest; finishes = h.1; cause = hung_over from now rest e end h.0 cause }
  turns_hung from now rest left end (Err stop) cause h = (rest, h)

  pub if_tried : (from now : Point) (rest : List ℕ) (result : Result Round Stop) → Rounds may config conn from now rest result →
      IfTried may config conn from now rest (tried_of result)
  if_tried from now rest (Ok round) r = r
  if_tried from now rest (Err stop) r = r

  -- ---- how it begins

  pub holds_first : (log : List Entry) (mine : List ℕ) (in0 : Input) (out0 : Output) → IsJournal config log →
      OwnsConn config conn log mine → NoneNames names conn log
      → Holds may config conn (point log mine in0 out0) (point log mine in0 out0) []
  holds_first log mine in0 out0 run owns none =
      let b = begins conn config log mine run owns none in
      record {
        base = record {
          later = prefix_self log;
          gains = record { places = []; more = sym (append-nil mine); each = tt };
          run = run;
          come = b.come;
          are_blocks = subst (λ (bs : List (List ℕ)). AllByRecursion IsBlock bs) (sym b.commands) tt;
          reads = subst (λ (bs : List (List ℕ)). Reads in0 in0 (concat bs ++ [])) (sym b.commands) (reads_nothing in0);
        };
        live = b.open_yet;
        unsent = b.unsent;
        written = subst (λ (fs : List Text). Writes out0 out0 (concat fs)) (sym b.handed) (writes_nothing out0);
      }

  -- ---- how it ends

  over_sent : (from now : Point) (rest : List ℕ) (end : End) → OverCause may config conn end from now rest → ends_sent end ≡ true
  over_sent from now rest ends.Exit cause = refl
  over_sent from now rest ends.AuthRefused cause = refl
  over_sent from now rest ends.Stopped cause = refl
  over_sent from now rest ends.Eof cause = refl
  over_sent from now rest ends.ReadFault cause = refl
  over_sent from now rest (ends.TooLong len) cause = refl
  over_sent from now rest ends.BadLength cause = refl
  over_sent from now rest ends.WriteFault cause = absurd cause.1
  over_sent from now rest (ends.JournalFull cost limit) cause = absurd cause.1
  over_sent from now rest ends.Memory cause = absurd cause.1
  over_sent from now rest (ends.Runaway count) cause = absurd cause.1

  over_wrote : (from now : Point) (rest : List ℕ) (end : End) (bytes : List ℕ) → OverCause may config conn end from now rest →
      FrontWritten from.output now.output bytes → EndWrote end from.output now.output bytes
  over_wrote from now rest ends.WriteFault bytes cause w = absurd cause.1
  over_wrote from now rest ends.Memory bytes cause w = absurd cause.1
  over_wrote from now rest _ bytes cause w = w

  over_cause : (from now : Point) (rest : List ℕ) (end : End) → IsJournal config now.log → AllByRecursion IsBlock (commands_of conn now.log) →
      OverCause may config conn end from now rest
      → EndCause end config conn now.log from.input now.input (concat (commands_of conn now.log) ++ rest) (blocks_of rest)
  over_cause from now rest ends.Exit run are cause =
      parted_by_command config conn now.log way.Exit run refl (λ same. cc) (at_front config conn now.log way.Exit run cause)
  over_cause from now rest ends.AuthRefused run are cause =
      parted_by_command config conn now.log way.AuthRefused run refl (λ same. cc) (at_front config conn now.log way.AuthRefused run cause)
  over_cause from now rest ends.Stopped run are cause = made_to_stop config conn now.log run cause
  over_cause from now rest ends.Eof run are cause = (
    parted_by_input config conn now.log run cause.0,
    cause.1.0,
    behind (commands_of conn now.log) rest _ are cause.1.0 cause.1.1,
    cause.1.2,
    cause.1.3,
  )
  over_cause from now rest ends.ReadFault run are cause = (
    parted_by_input config conn now.log run cause.0,
    cause.1.0,
    behind (commands_of conn now.log) rest _ are cause.1.0 cause.1.1,
    cause.1.2,
  )
  over_cause from now rest (ends.TooLong len) run are cause = (
    parted_by_input config conn now.log run cause.0,
    cause.1.0,
    behind (commands_of conn now.log) rest _ are cause.1.0 cause.1.1,
    cause.1.2,
  )
  over_cause from now rest ends.BadLength run are cause = (
    parted_by_input config conn now.log run cause.0,
    cause.1.0,
    behind (commands_of conn now.log) rest _ are cause.1.0 cause.1.1,
    cause.1.2,
  )
  over_cause from now rest ends.WriteFault run are cause = absurd cause.1
  over_cause from now rest (ends.JournalFull cost limit) run are cause = absurd cause.1
  over_cause from now rest ends.Memory run are cause = absurd cause.1
  over_cause from now rest (ends.Runaway count) run are cause = absurd cause.1

  whole : (out0 out1 : Output) (bytes : List ℕ) → Writes out0 out1 bytes → FrontWritten out0 out1 bytes
  whole out0 out1 bytes w = record { front = bytes; back = []; split = sym (append-nil bytes); writes = w }

  pub ends_over : (from now : Point) (end : End) → Over may config conn from now end → Talks may config conn from now end
  ends_over from now end o =
      let f = o.finishes in
      record {
        later = f.base.later;
        gains = f.base.gains;
        told = record {
          run = f.base.run;
          come = f.base.come;
          taken = concat (commands_of conn now.log) ++ o.rest;
          reads = f.base.reads;
          others = blocks_of o.rest;
          commands_are = blocks_of-append (commands_of conn now.log) o.rest f.base.are_blocks;
          wrote =
              over_wrote from now o.rest end (bytes_given config conn now.log) o.cause
              (whole from.output now.output (bytes_given config conn now.log) f.written);
          sent = f.sent ∙ sym (over_sent from now o.rest end o.cause);
          all = λ is. (f.written, f.shut);
          cause = over_cause from now o.rest end f.base.run f.base.are_blocks o.cause;
        };
      }

  ends_stopped : (from now : Point) (rest : List ℕ) (end : End) → Base may config conn from now rest →
      is_sent conn now.log ≡ false → ends_sent end ≡ false
      → EndWrote end from.output now.output (bytes_given config conn now.log)
      → EndCause end config conn now.log from.input now.input (concat (commands_of conn now.log) ++ rest) (blocks_of rest)
      → Talks may config conn from now end
  ends_stopped from now rest end base unsent not_sent wrote cause = record {
    later = base.later;
    gains = base.gains;
    told = record {
      run = base.run;
      come = base.come;
      taken = concat (commands_of conn now.log) ++ rest;
      reads = base.reads;
      others = blocks_of rest;
      commands_are = blocks_of-append (commands_of conn now.log) rest base.are_blocks;
      wrote = wrote;
      sent = unsent ∙ sym not_sent;
      all = λ is. absurd (let z : false ≡ true = sym unsent ∙ is in cc z);
      cause = cause;
    };
  }

  pub ends_memory : (from now : Point) (rest : List ℕ) → HasStopped may config conn from now rest stops.OutOfMemory →
      Talks may config conn from now ends.Memory
  ends_memory from now rest s = ends_stopped from now rest ends.Memory s.base s.unsent refl (inl s.did) tt

  pub ends_given_up : (from now : Point) (rest : List ℕ) (end : End) → GivesUp may config conn from now rest end →
      Talks may config conn from now end
  ends_given_up from now rest ends.WriteFault g =
      ends_stopped from now rest ends.WriteFault g.0.base g.0.unsent refl g.0.did g.1
  ends_given_up from now rest ends.Memory g = ends_stopped from now rest ends.Memory g.base g.unsent refl (inr g.did) tt
  ends_given_up from now rest _ g = absurd g

  pub ends_early : (from now : Point) (rest : List ℕ) (end : End) → HasStopped may config conn from now rest (stops.Over end) →
      Talks may config conn from now end
  ends_early from now rest (ends.JournalFull cost limit) s =
      ends_stopped from now rest (ends.JournalFull cost limit) s.base s.unsent refl s.did.0 s.did.1
  ends_early from now rest ends.Exit s = absurd s.did.1
  ends_early from now rest ends.AuthRefused s = absurd s.did.1
  ends_early from now rest ends.Stopped s = absurd s.did.1
  ends_early from now rest ends.Eof s = absurd s.did.1
  ends_early from now rest ends.ReadFault s = absurd s.did.1
  ends_early from now rest (ends.TooLong len) s = absurd s.did.1
  ends_early from now rest ends.BadLength s = absurd s.did.1
  ends_early from now rest ends.WriteFault s = absurd s.did.1
  ends_early from now rest ends.Memory s = absurd s.did.1
  ends_early from now rest (ends.Runaway count) s = absurd s.did.1

-- ---- what is told stays true where the journal goes on without naming the connection

wrote_longer : (end : End) (out0 out1 : Output) (bytes more : List ℕ) → EndWrote end out0 out1 bytes → EndWrote end out0 out1 (bytes ++ more)
wrote_longer ends.WriteFault out0 out1 bytes more w = stopped_sooner out0 out1 bytes more w
wrote_longer ends.Exit out0 out1 bytes more w = front_longer out0 out1 bytes more w
wrote_longer ends.AuthRefused out0 out1 bytes more w = front_longer out0 out1 bytes more w
wrote_longer ends.Stopped out0 out1 bytes more w = front_longer out0 out1 bytes more w
wrote_longer ends.Eof out0 out1 bytes more w = front_longer out0 out1 bytes more w
wrote_longer ends.ReadFault out0 out1 bytes more w = front_longer out0 out1 bytes more w
wrote_longer (ends.TooLong len) out0 out1 bytes more w = front_longer out0 out1 bytes more w
wrote_longer ends.BadLength out0 out1 bytes more w = front_longer out0 out1 bytes more w
wrote_longer (ends.JournalFull cost limit) out0 out1 bytes more w = front_longer out0 out1 bytes more w
wrote_longer ends.Memory out0 out1 bytes more (inl w) = inl (front_longer out0 out1 bytes more w)
wrote_longer ends.Memory out0 out1 bytes more (inr w) = inr (stopped_sooner out0 out1 bytes more w)
wrote_longer (ends.Runaway count) out0 out1 bytes more w = front_longer out0 out1 bytes more w

cause_up : (end : End) (config : Configuration) (conn : ℕ) (log log' : List Entry) (in0 in1 : Input) (taken : List ℕ)
    (others : List (List ℕ)) → IsJournal config log' → is_shut_at config log' conn ≡ is_shut_at config log conn
    → Quiet names conn log log' → EndCause end config conn log in0 in1 taken others
    → EndCause end config conn log' in0 in1 taken others
cause_up ends.Exit config conn log log' in0 in1 taken others run shut quiet cause = by_up config conn log log' way.Exit quiet cause
cause_up ends.AuthRefused config conn log log' in0 in1 taken others run shut quiet cause = by_up config conn log log' way.AuthRefused quiet cause
cause_up ends.Stopped config conn log log' in0 in1 taken others run shut quiet cause = stop_up config conn log log' quiet cause
cause_up ends.Eof config conn log log' in0 in1 taken others run shut quiet cause =
    (input_up config conn log log' quiet cause.0, cause.1, cause.2, cause.3, cause.4)
cause_up ends.ReadFault config conn log log' in0 in1 taken others run shut quiet cause =
    (input_up config conn log log' quiet cause.0, cause.1, cause.2, cause.3)
cause_up (ends.TooLong len) config conn log log' in0 in1 taken others run shut quiet cause =
    (input_up config conn log log' quiet cause.0, cause.1, cause.2, cause.3)
cause_up ends.BadLength config conn log log' in0 in1 taken others run shut quiet cause =
    (input_up config conn log log' quiet cause.0, cause.1, cause.2, cause.3)
cause_up ends.WriteFault config conn log log' in0 in1 taken others run shut quiet (inl closed) = inl (shut ∙ closed)
cause_up ends.WriteFault config conn log log' in0 in1 taken others run shut quiet (inr full) =
    inr (still_full config log log' quiet.more quiet.split run full)
cause_up (ends.JournalFull cost limit) config conn log log' in0 in1 taken others run shut quiet cause =
    full_up config log log' cost limit (quiet.more, quiet.split) cause
cause_up ends.Memory config conn log log' in0 in1 taken others run shut quiet cause = cause
cause_up (ends.Runaway count) config conn log log' in0 in1 taken others run shut quiet cause = cause

pub told_up : (config : Configuration) (conn : ℕ) (in0 : Input) (out0 : Output) (log log' : List Entry) (in1 : Input) (out1 : Output)
    (end : End) → IsJournal config log' → Quiet names conn log log' → Told config conn in0 out0 log in1 out1 end
    → Told config conn in0 out0 log' in1 out1 end
told_up config conn in0 out0 log log' in1 out1 end run quiet t =
    let k = carries conn config log log' run t.come quiet in
    let bytes : bytes_given config conn log' ≡ bytes_given config conn log ++ concat k.more =
    ap concat k.given ∙ concat-append (given_to conn config log) k.more in
    record {
      run = run;
      come = k.come;
      taken = t.taken;
      reads = t.reads;
      others = t.others;
      commands_are = t.commands_are ∙ ap (λ bs. bs ++ t.others) (sym k.commands);
      wrote =
          subst (λ (xs : List ℕ). EndWrote end out0 out1 xs) (sym bytes)
          (wrote_longer end out0 out1 (bytes_given config conn log) (concat k.more) t.wrote);
      sent = k.sent ∙ t.sent;
      all = λ is.
          let all = t.all (sym k.sent ∙ is) in (
            subst (λ (fs : List Text). Writes out0 out1 (concat fs)) (sym (k.silent all.1)) all.0,
            k.shut ∙ all.1,
          );
      cause = cause_up end config conn log log' in0 in1 t.taken t.others run k.shut quiet t.cause;
    }

-- ---- what decides an end

module _ (config : Configuration) (conn : ℕ) (in0 : Input) (out0 : Output) (log : List Entry) (in1 : Input) (out1 : Output) where
  -- by this entry it parted where it was closed with all sent
  entry_by : (end : End) (taken : List ℕ) (others : List (List ℕ)) → EndCause end config conn log in0 in1 taken others →
      ends_sent end ≡ true → (why : Parting) × PartedAt config conn log why × EndsAs why end
  entry_by ends.Exit taken others cause is = (way.Exit, cause.at, refl)
  entry_by ends.AuthRefused taken others cause is = (way.AuthRefused, cause.at, refl)
  entry_by ends.Stopped taken others (inl by_end) is = (way.Stopped, by_end.at, refl)
  entry_by ends.Stopped taken others (inr left) is = (way.ChannelLeft, left, refl)
  entry_by ends.Eof taken others cause is = (way.EndOfInput, cause.0.at, refl)
  entry_by ends.ReadFault taken others cause is = (way.EndOfInput, cause.0.at, refl)
  entry_by (ends.TooLong len) taken others cause is = (way.EndOfInput, cause.0.at, refl)
  entry_by ends.BadLength taken others cause is = (way.EndOfInput, cause.0.at, refl)
  entry_by ends.WriteFault taken others cause is = absurd (cc is)
  entry_by (ends.JournalFull cost limit) taken others cause is = absurd (cc is)
  entry_by ends.Memory taken others cause is = absurd (cc is)
  entry_by (ends.Runaway count) taken others cause is = absurd (cc is)

  pub ends_sent_by : (end : End) → Told config conn in0 out0 log in1 out1 end → ends_sent end ≡ true →
      (why : Parting) × PartedAt config conn log why × EndsAs why end × (out1.faults ≡ out0.faults)
  ends_sent_by end t is =
      let by = entry_by end t.taken t.others t.cause is in
      let all = t.all (t.sent ∙ is) in
      let written : Writes out0 out1 (bytes_given config conn log) = all.0 in (by.0, by.1, by.2, written.faults)

  -- it parted for nothing else
  as_parted : (end : End) (why : Parting) → Told config conn in0 out0 log in1 out1 end → ends_sent end ≡ true →
      PartedAt config conn log why → EndsAs why end ⊎ IsCutOff end
  as_parted end why t is parted =
      let by = entry_by end t.taken t.others t.cause is in
      inl (subst (λ (w : Parting). EndsAs w end) (parts_once config conn log by.0 why t.run by.1 parted).2 by.2)

  pub ends_parted : (end : End) (why : Parting) → Told config conn in0 out0 log in1 out1 end → PartedAt config conn log why →
      out1.faults ≢ raised out0.faults → EndsAs why end ⊎ IsCutOff end
  ends_parted ends.Exit why t parted written = as_parted ends.Exit why t refl parted
  ends_parted ends.AuthRefused why t parted written = as_parted ends.AuthRefused why t refl parted
  ends_parted ends.Stopped why t parted written = as_parted ends.Stopped why t refl parted
  ends_parted ends.Eof why t parted written = as_parted ends.Eof why t refl parted
  ends_parted ends.ReadFault why t parted written = as_parted ends.ReadFault why t refl parted
  ends_parted (ends.TooLong len) why t parted written = as_parted (ends.TooLong len) why t refl parted
  ends_parted ends.BadLength why t parted written = as_parted ends.BadLength why t refl parted
  ends_parted ends.WriteFault why t parted written = absurd (written t.wrote.faults)
  ends_parted (ends.JournalFull cost limit) why t parted written = inr tt
  ends_parted ends.Memory why t parted written = inr tt
  ends_parted (ends.Runaway count) why t parted written = absurd t.cause

  pub ends_faultless : (end : End) → Told config conn in0 out0 log in1 out1 end → in1.faults ≢ raised in0.faults →
      out1.faults ≢ raised out0.faults → is_faultless end ≡ true
  ends_faultless ends.Exit t read written = refl
  ends_faultless ends.Eof t read written = refl
  ends_faultless ends.AuthRefused t read written = refl
  ends_faultless ends.Stopped t read written = refl
  ends_faultless ends.ReadFault t read written = absurd (read t.cause.3)
  ends_faultless ends.WriteFault t read written = absurd (written t.wrote.faults)
  ends_faultless (ends.TooLong len) t read written = refl
  ends_faultless ends.BadLength t read written = refl
  ends_faultless (ends.JournalFull cost limit) t read written = refl
  ends_faultless ends.Memory t read written = refl
  ends_faultless (ends.Runaway count) t read written = absurd t.cause

-- what was tried needs no more bytes
pub lacks_none : (rest : List ℕ) (result : Result Round Stop) → LacksBlock rest (tried_of result)
lacks_none rest (Ok round) = tt
lacks_none rest (Err stop) = tt
