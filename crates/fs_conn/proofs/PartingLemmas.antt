-- By which entry a connection parted, among others who enter.
use Rattle.std.proofs.Common.{◌≡◌, ◌≢◌, ℕ, zero, suc, ◌+◌, Bool, true, false, not, if◌then◌else◌, List, [], ◌∷◌, ◌++◌, Option, None, Some}
use Rattle.std.proofs.Common.{◌⊎◌, inl, inr, option_map, refl, sym, ap, ◌∙◌, subst, append_assoc, append-nil}
use Rattle.std.specs.Option.{option_and_then}
use Rattle.std.proofs.lemmas.Bool.{both_ways, ne_eqb, cases_eq}
use Rattle.std.proofs.lemmas.Option.{none-some, same_Some}
use mathlib.Core.List.{IsPrefix}
use Rattle.fs_text.specs.Texts.{Text}
use Rattle.fs_doc.specs.Reading.{Configuration}
use Rattle.fs_cmd.specs.Commands.{command_of}
use Rattle.fs_seats.specs.declared.numbered.Numbered.{Numbered}
use Rattle.fs_seats.specs.Seats.{no_seats, first_seat}
use Rattle.fs_seats.specs.Rows.{has_number, row_of}
use Rattle.fs_seats.proofs.RowLemmas.{row_none}
use Rattle.fs_book.specs.Opened.{NoneNames, Quiet}
use Rattle.fs_book.proofs.Lists.{prefix_self}
use Rattle.fs_state.specs.declared.conn.Conn.{Conn}
use Rattle.fs_state.specs.declared.conn.Phase.{Phase}
use Rattle.fs_state.specs.declared.conn.Phase.TheVariants as phase
use Rattle.fs_state.specs.declared.conn.Parting.{Parting}
use Rattle.fs_state.specs.declared.conn.Parting.TheVariants as parting
use Rattle.fs_state.specs.Switch.{Switch, empty, conn_of, at_moment}
use Rattle.fs_machine.specs.declared.entry.Entry.{Entry}
use Rattle.fs_machine.specs.declared.entry.Act.{Act}
use Rattle.fs_machine.specs.declared.entry.Act.TheVariants.{Arrive, Command, Take, Close, Dialed, Work, Job, Loaded, Halt}
use Rattle.fs_machine.specs.declared.entry.Closing.TheVariants.{EndOfInput, Sent, Failed}
use Rattle.fs_machine.specs.declared.refusal.Refusal.TheVariants as refusal
use Rattle.fs_machine.specs.declared.reply.Reply.{Reply}
use Rattle.fs_machine.specs.Connections.{phase_of, phase_at, conn_changed, conn_changed_from, parted}
use Rattle.fs_machine.specs.Questions.{parting_of, parting_at, owed_to}
use Rattle.fs_machine.specs.Step.{reads, is_closed, busy, refusal_of, step}
use Rattle.fs_machine.specs.Frames.{command_in, commands_of}
use Rattle.fs_machine.specs.Controlling.{after_letting_go}
use Rattle.fs_machine.specs.Concerns.{actor_of, is_its_own, KeepsPhase, IsParted, IsOwn, IsOthers, first_phase, Comes}
use Rattle.fs_machine.specs.Laws.{state_after}
use Rattle.fs_machine.specs.Owed.{PartsIn}
use Rattle.fs_machine.specs.Turned.{IsJournal, Answers, names}
use Rattle.fs_machine.specs.Carried.{HasCome, shuts}
use Rattle.fs_machine.proofs.RunLemmas.{run_more, runs_both}
use Rattle.fs_machine.proofs.OrderLemmas.{Orderly, none_refused, not_refused, run_orderly, empty_orderly}
use Rattle.fs_machine.proofs.OwedLaws.{run_is_owed}
use Rattle.fs_machine.proofs.StoppedMoves.{parts_at_end, goes_while_read}
use Rattle.fs_machine.proofs.FramesLaws.{settings_run}
use Rattle.fs_machine.proofs.KeepLemmas.{Sockets, row_changed, freed_sockets}
use Rattle.fs_machine.proofs.ControlLemmas.{left_off, behind_conn}
use Rattle.fs_machine.proofs.LeftLemmas.{NoneLeft, run_none_left, empty_none_left}
use Rattle.fs_machine.proofs.PartLemmas.{take_keeps, command_parts}
use Rattle.fs_machine.proofs.ConcernLemmas.{concerns}
use Rattle.fs_machine.proofs.QuietLemmas.{commands_append, journal_front, come_on, others_of, does}
use Rattle.fs_conn.specs.Owning.{entry_at, Entered}
use Rattle.fs_conn.specs.Ends.{PartsFor}
use Rattle.fs_conn.specs.Talks.{PartedIn, StoppedIn}
use Rattle.fs_conn.specs.Partings.{PartedAt, PartedBy, PartedByInput, StoppedBy, MadeToStop}
use Rattle.fs_conn.proofs.PartLemmas.{reason}
use Rattle.fs_conn.proofs.ArriveLemmas.{open_come}

-- ---- one that is there parts

parts_where_read : (conn : ℕ) (why : Parting) (s : Switch) → reads (phase_at s conn) ≡ true →
    (c : Conn) × (conn_of (conn_changed (parted why) conn s) conn ≡ Some (parted why c))
parts_where_read conn why s reading = by (conn_of s conn) refl
  where
    by : (found : Option Conn) → conn_of s conn ≡ found →
        (c : Conn) × (conn_of (conn_changed_from (parted why) conn found s) conn ≡ Some (parted why c))
    by None is =
        let closed : reads phase.Closed ≡ true = ap (λ (found : Option Conn). reads (phase_of found)) (sym is) ∙ reading in
        absurd (cc closed)
    by (Some c) is = (c, row_changed s.conns conn c (parted why c) is)

-- a number is the connection's or it is not
is_its : (found : Option ℕ) (conn : ℕ) → (found ≡ Some conn) ⊎ (found ≡ Some conn → ⊥)
is_its None conn = inr (λ same. none-some conn same)
is_its (Some number) conn =
    elim (cases_eq number conn) [ inl same ↦ inl (ap Some same) | inr differ ↦ inr (λ same. differ (same_Some number conn same)) ]

-- ---- two entries of one list

-- both are the same one, or one stands before the other
abbrev EitherFirst : List Entry → List Entry → Entry → Entry → Type 0
EitherFirst front other_front entry other =
    (front ≡ other_front) × (entry ≡ other)
    ⊎ (IsPrefix (front ++ entry ∷ []) other_front ⊎ IsPrefix (other_front ++ other ∷ []) front)

either_later : (first : Entry) (front other_front : List Entry) (entry other : Entry) → EitherFirst front other_front entry other →
    EitherFirst (first ∷ front) (first ∷ other_front) entry other
either_later first front other_front entry other (inl same) = inl (ap (λ entries. first ∷ entries) same.0, same.1)
either_later first front other_front entry other (inr (inl pre)) = inr (inl (pre.0, ap (λ entries. first ∷ entries) pre.1))
either_later first front other_front entry other (inr (inr pre)) = inr (inr (pre.0, ap (λ entries. first ∷ entries) pre.1))

either_first : (front other_front : List Entry) (entry other : Entry) (rest other_rest : List Entry) →
    front ++ entry ∷ rest ≡ other_front ++ other ∷ other_rest → EitherFirst front other_front entry other
either_first [] [] entry other rest other_rest same = inl (refl, cc same)
either_first [] (first ∷ other_front) entry other rest other_rest same = inr (inl (other_front, cc same))
either_first (first ∷ front) [] entry other rest other_rest same = inr (inr (front, cc same))
either_first (first ∷ front) (second ∷ other_front) entry other rest other_rest same =
    let heads : first ≡ second = cc same in
    subst (λ x. EitherFirst (first ∷ front) (x ∷ other_front) entry other) heads
    (either_later first front other_front entry other
    (either_first front other_front entry other rest other_rest (cc same)))

-- ---- an empty switch

nowhere : (conn count from : ℕ) → first_seat (has_number conn) (no_seats {T = Numbered Conn} count) from ≡ None
unfolding no_seats
nowhere conn zero from = refl
nowhere conn (suc count) from = nowhere conn count (from + 1)

-- nobody has parted
first_unparted : (config : Configuration) (conn : ℕ) → parting_at (empty config) conn ≡ None
first_unparted config conn =
    let rows = no_seats {T = Numbered Conn} config.settings.max_connections in
    ap (option_and_then parting_of) (row_none rows conn (nowhere conn config.settings.max_connections 0))

-- ---- what phases say

ending_by : (p : Phase) (parting : Option Parting) (why : Parting) → parting ≡ Some why → PartsIn p parting → p ≡ phase.Ending
ending_by phase.Fresh parting why is parts = absurd (none-some why (sym parts ∙ is))
ending_by phase.Ready parting why is parts = absurd (none-some why (sym parts ∙ is))
ending_by phase.Ending parting why is parts = refl
ending_by phase.Closed parting why is parts = absurd parts

closed_reads : (p : Phase) → is_closed p ≡ true → reads p ≡ false
closed_reads phase.Fresh is = absurd (cc)
closed_reads phase.Ready is = absurd (cc)
closed_reads phase.Ending is = absurd (cc)
closed_reads phase.Closed is = refl

of_not : (b : Bool) → not b ≡ false → b ≡ true
of_not true is = refl
of_not false is = absurd (cc)

-- a command is taken only of one that reads
reads_commands : (conn moment giver : ℕ) (block : Text) (s : Switch) → giver ≡ conn →
    refusal_of s (record { moment = moment; act = Command giver block }) ≡ None → reads (phase_at s conn) ≡ true
reads_commands conn moment giver block s same none =
    subst (λ n. reads (phase_at s n) ≡ true) same
    (of_not (reads (phase_at s giver))
    (none_refused (not (reads (phase_at s giver))) refusal.Gone (busy (owed_to s giver))
    (not_refused s (record { moment = moment; act = Command giver block }) none)).0)

-- and the end of its input too
reads_input : (conn moment closer : ℕ) (s : Switch) → closer ≡ conn →
    refusal_of s (record { moment = moment; act = Close closer EndOfInput }) ≡ None → reads (phase_at s conn) ≡ true
reads_input conn moment closer s same none =
    subst (λ n. reads (phase_at s n) ≡ true) same
    (of_not (reads (phase_at s closer))
    (none_refused (not (reads (phase_at s closer))) refusal.Gone None
    (not_refused s (record { moment = moment; act = Close closer EndOfInput }) none)).0)

-- behind which it has parted for that
input_parts : (conn moment : ℕ) (s : Switch) → reads (phase_at s conn) ≡ true →
    parting_at (step s (record { moment = moment; act = Close conn EndOfInput })).state conn ≡ Some parting.EndOfInput
unfolding step
input_parts conn moment s reading =
    let free : Switch = after_letting_go conn (at_moment moment s) in
    let silent : Switch = conn_changed (parted parting.EndOfInput) conn free in
    let same : conn_of free conn ≡ conn_of s conn =
    ap (λ (x : Sockets). row_of x.conns conn) (freed_sockets conn (at_moment moment s)) in
    let there = parts_where_read conn parting.EndOfInput free (ap (λ (found : Option Conn). reads (phase_of found)) same ∙ reading) in
    ap (option_and_then parting_of) (behind_conn silent conn ∙ ap (option_map (left_off silent conn)) there.1)

-- one that comes reads commands
first_reads : (act : Act) → reads (first_phase act) ≡ true
first_reads Arrive = refl
first_reads _ = refl

module _ (config : Configuration) (conn : ℕ) where
  abbrev at : List Entry → Switch
  at log = state_after config log

  orderly_at : (log : List Entry) → IsJournal config log → Orderly (at log)
  orderly_at log journal = run_orderly (empty config) log (empty_orderly config journal.within.settings.journal.1) journal.run

  settled_at : (log : List Entry) → NoneLeft (at log)
  settled_at log = run_none_left (empty config) log (empty_none_left config)

  -- one that has parted is ending
  ending : (log : List Entry) (why : Parting) → IsJournal config log → parting_at (at log) conn ≡ Some why →
      phase_at (at log) conn ≡ phase.Ending
  ending log why journal parted = by (conn_of (at log) conn) refl
    where
      by : (found : Option Conn) → conn_of (at log) conn ≡ found → phase_at (at log) conn ≡ phase.Ending
      by None is = absurd (none-some why (sym (ap (option_and_then parting_of) is) ∙ parted))
      by (Some c) is =
          ap phase_of is
          ∙ ending_by c.phase c.parting why (sym (ap (option_and_then parting_of) is) ∙ parted)
          ((run_is_owed config log journal.within journal.run).parted conn c is)

  -- the next entry of a run is taken
  accepted : (front : List Entry) (entry : Entry) → IsJournal config (front ++ entry ∷ []) → refusal_of (at front) entry ≡ None
  accepted front entry journal = (runs_both (empty config) front (entry ∷ []) journal.run).1.0

  answered : (front : List Entry) (entry : Entry) → (journal : IsJournal config (front ++ entry ∷ [])) →
      Answers config front entry (step (at front) entry).reply
  answered front entry journal = record {
    before = journal_front config front (entry ∷ []) journal;
    defined = accepted front entry journal;
    reply_is = refl;
  }

  -- ---- one that reads no further command

  -- an entry behind which it reads none either, and has parted for nothing else
  record Over (front : List Entry) (entry : Entry) : Type 0 where
    silent : command_in conn entry.act ≡ []
    still : reads (phase_at (at (front ++ entry ∷ [])) conn) ≡ false
    parting : (why : Parting) → parting_at (at (front ++ entry ∷ [])) conn ≡ Some why → parting_at (at front) conn ≡ Some why

  over_keeps : (front : List Entry) (entry : Entry) → reads (phase_at (at front) conn) ≡ false → command_in conn entry.act ≡ [] →
      KeepsPhase conn (at front) (step (at front) entry).state → Over front entry
  over_keeps front entry still silent keeps =
      let went : at (front ++ entry ∷ []) ≡ (step (at front) entry).state = run_more (empty config) front entry in record {
        silent = silent;
        still = ap (λ (s : Switch). reads (phase_at s conn)) went ∙ (ap reads keeps.phase ∙ still);
        parting = λ why is. sym keeps.parting ∙ (sym (ap (λ (s : Switch). parting_at s conn) went) ∙ is);
      }

  over_shut : (front : List Entry) (entry : Entry) → IsJournal config (front ++ entry ∷ []) → HasCome conn (at front) →
      command_in conn entry.act ≡ [] → names entry ≡ Some conn → shuts entry.act ≡ true → Over front entry
  over_shut front entry journal come silent named closing =
      let d = does conn config front entry (step (at front) entry).reply (answered front entry journal) come named in
      let shut : is_closed (phase_at (at (front ++ entry ∷ [])) conn) ≡ true = d.shut ∙ closing in record {
        silent = silent;
        still = closed_reads (phase_at (at (front ++ entry ∷ [])) conn) shut;
        parting = λ why is. absurd (both_ways (is_closed (phase_at (at (front ++ entry ∷ [])) conn))
            (ap is_closed (ending (front ++ entry ∷ []) why journal is)) shut);
      }

  over_own : (front : List Entry) (moment : ℕ) (act : Act) → IsJournal config (front ++ entry_at moment act ∷ []) →
      HasCome conn (at front) → reads (phase_at (at front) conn) ≡ false → actor_of act ≡ Some conn → Over front (entry_at moment act)
  over_own front moment Arrive journal come still named = absurd (none-some conn named)
  over_own front moment (Command giver block) journal come still named =
      absurd (both_ways (reads (phase_at (at front) conn)) still
      (reads_commands conn moment giver block (at front) (same_Some giver conn named)
      (accepted front (entry_at moment (Command giver block)) journal)))
  over_own front moment (Take taker) journal come still named =
      over_keeps front (entry_at moment (Take taker)) still refl (take_keeps conn moment taker (at front) (settled_at front))
  over_own front moment (Close closer EndOfInput) journal come still named =
      absurd (both_ways (reads (phase_at (at front) conn)) still
      (reads_input conn moment closer (at front) (same_Some closer conn named)
      (accepted front (entry_at moment (Close closer EndOfInput)) journal)))
  over_own front moment (Close closer Sent) journal come still named =
      over_shut front (entry_at moment (Close closer Sent)) journal come refl named refl
  over_own front moment (Close closer Failed) journal come still named =
      over_shut front (entry_at moment (Close closer Failed)) journal come refl named refl
  over_own front moment (Work slot) journal come still named = absurd (none-some conn named)
  over_own front moment (Dialed slot linked) journal come still named = absurd (none-some conn named)
  over_own front moment (Job number) journal come still named = absurd (none-some conn named)
  over_own front moment (Loaded number note) journal come still named = absurd (none-some conn named)
  over_own front moment Halt journal come still named = absurd (none-some conn named)

  over_others : (front : List Entry) (entry : Entry) → reads (phase_at (at front) conn) ≡ false → IsOthers conn (at front) entry →
      Over front entry
  over_others front entry still one = by one.phase
    where
      by : KeepsPhase conn (at front) (step (at front) entry).state ⊎ IsParted conn (at front) (step (at front) entry).state →
          Over front entry
      by (inl keeps) = over_keeps front entry still one.commands keeps
      by (inr parts) = absurd (both_ways (reads (phase_at (at front) conn)) still parts.read)

  over_one : (front : List Entry) (entry : Entry) → IsJournal config (front ++ entry ∷ []) → HasCome conn (at front) →
      reads (phase_at (at front) conn) ≡ false → Over front entry
  over_one front entry journal come still = by (is_its (names entry) conn)
    where
      by : (names entry ≡ Some conn) ⊎ (names entry ≡ Some conn → ⊥) → Over front entry
      by (inl named) = over_own front entry.moment entry.act journal come still named
      by (inr apart) =
          over_others front entry still
          (others_of conn (at front) entry (orderly_at front (journal_front config front (entry ∷ []) journal))
          (accepted front entry journal) come apart)

  -- it gives no command any more, and has parted for nothing else
  record OverAll (front rest : List Entry) : Type 0 where
    silent : commands_of conn rest ≡ []
    come : HasCome conn (at (front ++ rest))
    still : reads (phase_at (at (front ++ rest)) conn) ≡ false
    parting : (why : Parting) → parting_at (at (front ++ rest)) conn ≡ Some why → parting_at (at front) conn ≡ Some why

  over_all : (front rest : List Entry) → IsJournal config (front ++ rest) → HasCome conn (at front) →
      reads (phase_at (at front) conn) ≡ false → OverAll front rest
  over_all front [] journal come still = record {
    silent = refl;
    come = subst (λ log. HasCome conn (at log)) (sym (append-nil front)) come;
    still = subst (λ log. reads (phase_at (at log) conn) ≡ false) (sym (append-nil front)) still;
    parting = λ why is. subst (λ log. parting_at (at log) conn ≡ Some why) (append-nil front) is;
  }
  over_all front (entry ∷ rest) journal come still =
      let joined : (front ++ entry ∷ []) ++ rest ≡ front ++ entry ∷ rest = append_assoc front (entry ∷ []) rest in
      let all : IsJournal config ((front ++ entry ∷ []) ++ rest) = subst (IsJournal config) (sym joined) journal in
      let first = journal_front config (front ++ entry ∷ []) rest all in
      let one = over_one front entry first come still in
      let went : at (front ++ entry ∷ []) ≡ (step (at front) entry).state = run_more (empty config) front entry in
      let later : HasCome conn (at (front ++ entry ∷ [])) =
      subst (HasCome conn) (sym went)
      (come_on conn (at front) entry (orderly_at front (journal_front config front (entry ∷ []) first)) (accepted front entry first) come) in
      let more = over_all (front ++ entry ∷ []) rest all later one.still in record {
        silent = ap (λ blocks. blocks ++ commands_of conn rest) one.silent ∙ more.silent;
        come = subst (λ log. HasCome conn (at log)) joined more.come;
        still = subst (λ log. reads (phase_at (at log) conn) ≡ false) joined more.still;
        parting = λ why is. one.parting why (more.parting why
            (subst (λ log. parting_at (at log) conn ≡ Some why) (sym joined) is));
      }

  -- and so does one that has parted
  over_parted : (front rest : List Entry) (why : Parting) → IsJournal config (front ++ rest) → parting_at (at front) conn ≡ Some why →
      OverAll front rest
  over_parted front rest why journal parted =
      let first = journal_front config front rest journal in
      let phase = ending front why first parted in
      over_all front rest journal (open_come conn (at front) (orderly_at front first) (ap is_closed phase)) (ap reads phase)

  -- ---- the entry by which it parted

  parted_on : (front : List Entry) (entry : Entry) (rest : List Entry) (why : Parting) → IsJournal config (front ++ entry ∷ rest) →
      parting_at (at front) conn ≡ None → parting_at (at (front ++ entry ∷ rest)) conn ≡ Some why →
      (parting_at (at (front ++ entry ∷ [])) conn ≡ None → PartedAt config conn (front ++ entry ∷ rest) why) →
      PartedAt config conn (front ++ entry ∷ rest) why
  parted_on front entry rest why journal none is further = by (parting_at (at (front ++ entry ∷ [])) conn) refl
    where
      joined : (front ++ entry ∷ []) ++ rest ≡ front ++ entry ∷ rest
      joined = append_assoc front (entry ∷ []) rest

      by : (found : Option Parting) → parting_at (at (front ++ entry ∷ [])) conn ≡ found → PartedAt config conn (front ++ entry ∷ rest) why
      by None still = further still
      by (Some other) parted =
          let all =
          over_parted (front ++ entry ∷ []) rest other (subst (IsJournal config) (sym joined) journal) parted in record {
            before = front;
            entry = entry;
            behind = rest;
            split = refl;
            last = all.silent;
            unparted = none;
            parted = all.parting why (subst (λ log. parting_at (at log) conn ≡ Some why) (sym joined) is);
          }

  parted_at : (front rest : List Entry) (why : Parting) → IsJournal config (front ++ rest) → parting_at (at front) conn ≡ None →
      parting_at (at (front ++ rest)) conn ≡ Some why → PartedAt config conn (front ++ rest) why
  parted_at front [] why journal none is =
      absurd (none-some why (sym none ∙ subst (λ log. parting_at (at log) conn ≡ Some why) (append-nil front) is))
  parted_at front (entry ∷ rest) why journal none is =
      let joined : (front ++ entry ∷ []) ++ rest ≡ front ++ entry ∷ rest = append_assoc front (entry ∷ []) rest in
      parted_on front entry rest why journal none is
      (λ still. subst (λ log. PartedAt config conn log why) joined
      (parted_at (front ++ entry ∷ []) rest why (subst (IsJournal config) (sym joined) journal) still
      (subst (λ log. parting_at (at log) conn ≡ Some why) (sym joined) is)))

  -- ---- which entry that is

  -- it read commands, and by its own doing it parts for its command or the end of its input
  record Parts (front : List Entry) (entry : Entry) (why : Parting) : Type 0 where
    reading : reads (phase_at (at front) conn) ≡ true
    command : is_its_own why ≡ true → why ≢ parting.EndOfInput →
        (block : Text) × (entry.act ≡ Command conn block) × PartsFor why config.settings.password (command_of block)
    input : why ≡ parting.EndOfInput → entry.act ≡ Close conn EndOfInput

  -- what does not change it does not part it
  parts_not : (front : List Entry) (entry : Entry) (why : Parting) → parting_at (at front) conn ≡ None →
      parting_at (at (front ++ entry ∷ [])) conn ≡ Some why → KeepsPhase conn (at front) (step (at front) entry).state → ⊥
  parts_not front entry why none is keeps =
      none-some why (sym (ap (λ (s : Switch). parting_at s conn) (run_more (empty config) front entry) ∙ (keeps.parting ∙ none)) ∙ is)

  parts_command : (front : List Entry) (moment giver : ℕ) (block : Text) (why : Parting) →
      IsJournal config (front ++ entry_at moment (Command giver block) ∷ []) → parting_at (at front) conn ≡ None →
      parting_at (at (front ++ entry_at moment (Command giver block) ∷ [])) conn ≡ Some why → giver ≡ conn →
      Parts front (entry_at moment (Command giver block)) why
  parts_command front moment giver block why journal none is same =
      let entry = entry_at moment (Command giver block) in
      let reading = reads_commands conn moment giver block (at front) same (accepted front entry journal) in
      let went : at (front ++ entry ∷ []) ≡ (step (at front) entry).state = run_more (empty config) front entry in
      let parts : parting_at (step (at front) entry).state conn ≡ Some why =
      sym (ap (λ (s : Switch). parting_at s conn) went) ∙ is in
      let given : parting_at (step (at front) (entry_at moment (Command conn block))).state conn ≡ Some why =
      subst (λ n. parting_at (step (at front) (entry_at moment (Command n block))).state conn ≡ Some why) same parts in
      let made = command_parts conn moment block (at front) reading none in record {
        reading = reading;
        command = λ own other. (
          block,
          ap (λ n. Command n block) same,
          reason conn why config block (at front) (step (at front) (entry_at moment (Command conn block))).state
              (settings_run (empty config) front) made given own,
        );
        input = λ ended. absurd (made.hears (given ∙ ap Some ended));
      }

  parts_input : (front : List Entry) (moment closer : ℕ) (why : Parting) →
      IsJournal config (front ++ entry_at moment (Close closer EndOfInput) ∷ []) →
      parting_at (at (front ++ entry_at moment (Close closer EndOfInput) ∷ [])) conn ≡ Some why → closer ≡ conn →
      Parts front (entry_at moment (Close closer EndOfInput)) why
  parts_input front moment closer why journal is same =
      let entry = entry_at moment (Close closer EndOfInput) in
      let reading = reads_input conn moment closer (at front) same (accepted front entry journal) in
      let went : at (front ++ entry ∷ []) ≡ (step (at front) entry).state = run_more (empty config) front entry in
      let ended : parting_at (step (at front) entry).state conn ≡ Some parting.EndOfInput =
      subst (λ n. parting_at (step (at front) (entry_at moment (Close n EndOfInput))).state conn ≡ Some parting.EndOfInput) (sym same)
      (input_parts conn moment (at front) reading) in record {
        reading = reading;
        command = λ own other.
            absurd (other (same_Some why parting.EndOfInput
            (sym is ∙ (ap (λ (s : Switch). parting_at s conn) went ∙ ended))));
        input = λ by_input. ap (λ n. Close n EndOfInput) same;
      }

  -- what closes it does not part it
  parts_shut : (front : List Entry) (entry : Entry) (why : Parting) → IsJournal config (front ++ entry ∷ []) →
      HasCome conn (at front) → names entry ≡ Some conn → shuts entry.act ≡ true →
      parting_at (at (front ++ entry ∷ [])) conn ≡ Some why → ⊥
  parts_shut front entry why journal come named closing is =
      both_ways (is_closed (phase_at (at (front ++ entry ∷ [])) conn))
      (ap is_closed (ending (front ++ entry ∷ []) why journal is))
      ((does conn config front entry (step (at front) entry).reply (answered front entry journal) come named).shut ∙ closing)

  parts_own : (front : List Entry) (moment : ℕ) (act : Act) (why : Parting) → IsJournal config (front ++ entry_at moment act ∷ []) →
      HasCome conn (at front) → parting_at (at front) conn ≡ None →
      parting_at (at (front ++ entry_at moment act ∷ [])) conn ≡ Some why → actor_of act ≡ Some conn →
      Parts front (entry_at moment act) why
  parts_own front moment Arrive why journal come none is named = absurd (none-some conn named)
  parts_own front moment (Command giver block) why journal come none is named =
      parts_command front moment giver block why journal none is (same_Some giver conn named)
  parts_own front moment (Take taker) why journal come none is named =
      absurd (parts_not front (entry_at moment (Take taker)) why none is (take_keeps conn moment taker (at front) (settled_at front)))
  parts_own front moment (Close closer EndOfInput) why journal come none is named =
      parts_input front moment closer why journal is (same_Some closer conn named)
  parts_own front moment (Close closer Sent) why journal come none is named =
      absurd (parts_shut front (entry_at moment (Close closer Sent)) why journal come named refl is)
  parts_own front moment (Close closer Failed) why journal come none is named =
      absurd (parts_shut front (entry_at moment (Close closer Failed)) why journal come named refl is)
  parts_own front moment (Work slot) why journal come none is named = absurd (none-some conn named)
  parts_own front moment (Dialed slot linked) why journal come none is named = absurd (none-some conn named)
  parts_own front moment (Job number) why journal come none is named = absurd (none-some conn named)
  parts_own front moment (Loaded number note) why journal come none is named = absurd (none-some conn named)
  parts_own front moment Halt why journal come none is named = absurd (none-some conn named)

  parts_others : (front : List Entry) (entry : Entry) (why : Parting) → parting_at (at front) conn ≡ None →
      parting_at (at (front ++ entry ∷ [])) conn ≡ Some why → IsOthers conn (at front) entry → Parts front entry why
  parts_others front entry why none is one = by one.phase
    where
      by : KeepsPhase conn (at front) (step (at front) entry).state ⊎ IsParted conn (at front) (step (at front) entry).state →
          Parts front entry why
      by (inl keeps) = absurd (parts_not front entry why none is keeps)
      by (inr parts) =
          let went : at (front ++ entry ∷ []) ≡ (step (at front) entry).state = run_more (empty config) front entry in
          let same : parts.why ≡ why =
          same_Some parts.why why (sym parts.parting ∙ (sym (ap (λ (s : Switch). parting_at s conn) went) ∙ is)) in
          let others : is_its_own why ≡ false = sym (ap is_its_own same) ∙ parts.others in record {
            reading = parts.read;
            command = λ own other. absurd (both_ways (is_its_own why) others own);
            input = λ ended. absurd (both_ways (is_its_own why) others (ap is_its_own ended));
          }

  -- so it does not part by that
  parts_come : (front : List Entry) (entry : Entry) (why : Parting) → IsJournal config (front ++ entry ∷ []) →
      parting_at (at (front ++ entry ∷ [])) conn ≡ Some why → Comes conn (at front) entry → ⊥
  parts_come front entry why journal is come =
      both_ways (reads (phase_at (at (front ++ entry ∷ [])) conn)) (ap reads (ending (front ++ entry ∷ []) why journal is))
      (ap (λ (s : Switch). reads (phase_at s conn)) (run_more (empty config) front entry)
      ∙ (ap reads come.after ∙ first_reads entry.act))

  parts : (front : List Entry) (entry : Entry) (why : Parting) → IsJournal config (front ++ entry ∷ []) →
      parting_at (at front) conn ≡ None → parting_at (at (front ++ entry ∷ [])) conn ≡ Some why → Parts front entry why
  parts front entry why journal none is = by (concerns config front entry conn journal.within.settings.journal.1 journal.run)
    where
      by : IsOwn conn (at front) entry ⊎ (IsOthers conn (at front) entry ⊎ Comes conn (at front) entry) → Parts front entry why
      by (inl own) =
          parts_own front entry.moment entry.act why journal
          (open_come conn (at front) (orderly_at front (journal_front config front (entry ∷ []) journal)) own.was_open) none is own.actor
      by (inr (inl others)) = parts_others front entry why none is others
      by (inr (inr comes)) = absurd (parts_come front entry why journal is comes)

  -- ---- the entry of a journal behind a front of which it had parted

  parted_in : (before more : List Entry) (why : Parting) → IsJournal config (before ++ more) → parting_at (at before) conn ≡ Some why →
      PartedAt config conn (before ++ more) why
  parted_in before more why journal is =
      let p = parted_at [] before why (journal_front config before more journal) (first_unparted config conn) is in
      let all = over_parted before more why journal is in record {
        before = p.before;
        entry = p.entry;
        behind = p.behind ++ more;
        split = ap (λ log. log ++ more) p.split ∙ append_assoc p.before (p.entry ∷ p.behind) more;
        last = commands_append conn p.behind more ∙ (ap (λ blocks. blocks ++ commands_of conn more) p.last ∙ all.silent);
        unparted = p.unparted;
        parted = p.parted;
      }

  journal_at : (log : List Entry) (why : Parting) → IsJournal config log → (p : PartedAt config conn log why) →
      IsJournal config (p.before ++ p.entry ∷ [])
  journal_at log why journal p =
      journal_front config (p.before ++ p.entry ∷ []) p.behind
      (subst (IsJournal config) (p.split ∙ sym (append_assoc p.before (p.entry ∷ []) p.behind)) journal)

  pub parted_by_command : (log : List Entry) (why : Parting) → IsJournal config log → is_its_own why ≡ true →
      why ≢ parting.EndOfInput → PartedAt config conn log why → PartedBy config conn log why
  parted_by_command log why journal own other p =
      let made = (parts p.before p.entry why (journal_at log why journal p) p.unparted p.parted).command own other in
      record { at = p; block = made.0; gives = made.1; is = made.2 }

  stopped_by_end : (log : List Entry) → IsJournal config log → PartedAt config conn log parting.Stopped → StoppedBy config conn log
  stopped_by_end log journal p =
      let front = journal_at log parting.Stopped journal p in
      let made = parts p.before p.entry parting.Stopped front p.unparted p.parted in record {
        at = p;
        unstopped =
            goes_while_read config p.before conn (journal_front config p.before (p.entry ∷ []) front).run made.reading;
        stopped = parts_at_end config (p.before ++ p.entry ∷ []) conn p.parted;
      }

  pub at_front : (log : List Entry) (why : Parting) → IsJournal config log → PartedIn config conn log why → PartedAt config conn log why
  at_front log why journal p =
      subst (λ entries. PartedAt config conn entries why) p.front.1
      (parted_in p.before p.front.0 why (subst (IsJournal config) (sym p.front.1) journal) p.parted)

  -- by the end of its input
  pub parted_by_input : (log : List Entry) → IsJournal config log → PartedIn config conn log parting.EndOfInput →
      PartedByInput config conn log
  parted_by_input log journal is =
      let p = at_front log parting.EndOfInput journal is in record {
        at = p;
        ends =
            (parts p.before p.entry parting.EndOfInput (journal_at log parting.EndOfInput journal p) p.unparted p.parted).input refl;
      }

  -- it was made to stop
  pub made_to_stop : (log : List Entry) → IsJournal config log → StoppedIn config conn log → MadeToStop config conn log
  made_to_stop log journal (inl p) = inl (stopped_by_end log journal (at_front log parting.Stopped journal p))
  made_to_stop log journal (inr p) = inr (at_front log parting.ChannelLeft journal p)

  -- ---- it parts once

  -- it had parted and reads no further command, so it does not part again
  not_again : (log : List Entry) (why other : Parting) → IsJournal config log → (p : PartedAt config conn log why) →
      (q : PartedAt config conn log other) → IsPrefix (p.before ++ p.entry ∷ []) q.before → ⊥
  not_again log why other journal p q pre =
      let front = p.before ++ p.entry ∷ [] in
      let here = journal_at log other journal q in
      let over =
      over_parted front pre.0 why
      (subst (IsJournal config) (sym pre.1) (journal_front config q.before (q.entry ∷ []) here)) p.parted in
      let one =
      over_one q.before q.entry here (subst (λ entries. HasCome conn (at entries)) pre.1 over.come)
      (subst (λ entries. reads (phase_at (at entries) conn) ≡ false) pre.1 over.still) in
      none-some other (sym q.unparted ∙ one.parting other q.parted)

  pub parts_once : (log : List Entry) (why other : Parting) → IsJournal config log → (p : PartedAt config conn log why) →
      (q : PartedAt config conn log other) → (p.before ≡ q.before) × (p.entry ≡ q.entry) × (why ≡ other)
  parts_once log why other journal p q =
      by (either_first p.before q.before p.entry q.entry p.behind q.behind (sym p.split ∙ q.split))
    where
      by : EitherFirst p.before q.before p.entry q.entry → (p.before ≡ q.before) × (p.entry ≡ q.entry) × (why ≡ other)
      by (inl same) =
          let front : p.before ++ p.entry ∷ [] ≡ q.before ++ q.entry ∷ [] = cc (same.0, same.1) in (
            same.0,
            same.1,
            same_Some why other (sym p.parted ∙ (ap (λ entries. parting_at (at entries) conn) front ∙ q.parted)),
          )
      by (inr (inl pre)) = absurd (not_again log why other journal p q pre)
      by (inr (inr pre)) = absurd (not_again log other why journal q p pre)

  -- ---- a journal that goes on without naming it

  no_command : (act : Act) → (actor_of act ≡ Some conn → ⊥) → command_in conn act ≡ []
  no_command Arrive apart = refl
  no_command (Command giver block) apart =
      ap (λ b. if b then block ∷ [] else []) (ne_eqb giver conn (λ same. apart (ap Some same)))
  no_command (Take taker) apart = refl
  no_command (Close closer how) apart = refl
  no_command (Work slot) apart = refl
  no_command (Dialed slot linked) apart = refl
  no_command (Job number) apart = refl
  no_command (Loaded number note) apart = refl
  no_command Halt apart = refl

  no_commands : (entries : List Entry) → NoneNames names conn entries → commands_of conn entries ≡ []
  no_commands [] none = refl
  no_commands (entry ∷ entries) none =
      ap (λ blocks. blocks ++ commands_of conn entries) (no_command entry.act none.0) ∙ no_commands entries none.1

  last_up : (behind more : List Entry) → commands_of conn behind ≡ [] → NoneNames names conn more → commands_of conn (behind ++ more) ≡ []
  last_up behind more last none =
      commands_append conn behind more ∙ (ap (λ blocks. blocks ++ commands_of conn more) last ∙ no_commands more none)

  split_up : (log log' before behind : List Entry) (entry : Entry) → (quiet : Quiet names conn log log') →
      log ≡ before ++ entry ∷ behind → log' ≡ before ++ entry ∷ (behind ++ quiet.more)
  split_up log log' before behind entry quiet split =
      sym quiet.split ∙ (ap (λ entries. entries ++ quiet.more) split ∙ append_assoc before (entry ∷ behind) quiet.more)

  abbrev at_up : (log log' : List Entry) (why : Parting) → Quiet names conn log log' → PartedAt config conn log why →
      PartedAt config conn log' why
  at_up log log' why quiet p = record {
    before = p.before;
    entry = p.entry;
    behind = p.behind ++ quiet.more;
    split = split_up log log' p.before p.behind p.entry quiet p.split;
    last = last_up p.behind quiet.more p.last quiet.none;
    unparted = p.unparted;
    parted = p.parted;
  }

  pub by_up : (log log' : List Entry) (why : Parting) → Quiet names conn log log' → PartedBy config conn log why →
      PartedBy config conn log' why
  by_up log log' why quiet p = record {
    at = at_up log log' why quiet p.at;
    block = p.block;
    gives = p.gives;
    is = p.is;
  }

  pub input_up : (log log' : List Entry) → Quiet names conn log log' → PartedByInput config conn log → PartedByInput config conn log'
  input_up log log' quiet p = record { at = at_up log log' parting.EndOfInput quiet p.at; ends = p.ends }

  pub stop_up : (log log' : List Entry) → Quiet names conn log log' → MadeToStop config conn log → MadeToStop config conn log'
  stop_up log log' quiet (inl p) = inl (record {
    at = at_up log log' parting.Stopped quiet p.at;
    unstopped = p.unstopped;
    stopped = p.stopped;
  })
  stop_up log log' quiet (inr p) = inr (at_up log log' parting.ChannelLeft quiet p)

-- the end of its input was entered, and it has parted for that
pub input_parted : (may : ℕ → Type 0) (config : Configuration) (conn : ℕ) (log log' : List Entry) (mine mine' : List ℕ)
    (answer : Reply) → Entered may config conn log mine log' mine' (Close conn EndOfInput) answer
    → PartedIn config conn log' parting.EndOfInput
input_parted may config conn log log' mine mine' answer n =
    let entry = entry_at n.moment (Close conn EndOfInput) in
    let s : Switch = state_after config n.before in
    let parts : parting_at (step s entry).state conn ≡ Some parting.EndOfInput =
    input_parts conn n.moment s (reads_input conn n.moment conn s refl n.answers.defined) in record {
      before = log';
      front = prefix_self log';
      parted =
          subst (λ entries. parting_at (state_after config entries) conn ≡ Some parting.EndOfInput) n.sees
          (ap (λ (t : Switch). parting_at t conn) (run_more (empty config) n.before entry) ∙ parts);
    }
