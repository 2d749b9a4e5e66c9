-- What a connection parts for: its own command, or what others do.
use Rattle.std.proofs.Common.{◌≡◌, ◌≢◌, ℕ, zero, suc, ◌+◌, Bool, true, false, if◌then◌else◌, List, [], ◌∷◌, Option, None, Some, unwrap_or}
use Rattle.std.proofs.Common.{◌⊎◌, inl, inr, refl, sym, ap, ◌∙◌}
use Rattle.std.specs.Option.{option_and_then}
use Rattle.std.specs.Str.{bytes_eq}
use Rattle.std.proofs.lemmas.Bool.{both_ways}
use Rattle.std.proofs.lemmas.Option.{same_Some, none-some}
use Rattle.std.proofs.lemmas.Slice.Eq.{bytes_eq-Decides}
use Rattle.fs_text.specs.Texts.{Text}
use Rattle.fs_cmd.specs.Commands as command
use Rattle.fs_cmd.specs.Commands.{Command, command_of, Message, Execute, Hangup, BadCall}
use Rattle.fs_cmd.specs.Frames.{accepted, invalid, bye, format_unsupported, message_taken, invalid_session, invalid_call, messages_full}
use Rattle.fs_cmd.specs.Frames.{jobs_full, denied}
use Rattle.fs_cmd.specs.declared.command.Form.{Form}
use Rattle.fs_cmd.specs.declared.command.Form.TheVariants.{Plain, Json, Xml}
use Rattle.fs_filter.specs.Subscriptions.{Subscription, has_filter}
use Rattle.fs_api.specs.Readings.{api_of}
use Rattle.fs_chan.specs.declared.action.Action.{Action}
use Rattle.fs_chan.specs.declared.chan.Chan.{Chan}
use Rattle.fs_chan.specs.Changes.{takes_message, with_message}
use Rattle.fs_orig.specs.declared.caller.Caller.{Caller}
use Rattle.fs_orig.specs.declared.orig.Owner.TheVariants as owner
use Rattle.fs_orig.specs.declared.plan.LegPlan.{LegPlan}
use Rattle.fs_orig.specs.declared.winner.Winner.{Winner}
use Rattle.fs_seats.specs.declared.numbered.Numbered.{Numbered}
use Rattle.fs_seats.specs.Seats.{no_seats, first_seat}
use Rattle.fs_seats.specs.Rows.{has_number, row_of, with_new_row}
use Rattle.fs_seats.proofs.RowLemmas.{row_none}
use Rattle.fs_doc.specs.Reading.{Configuration}
use Rattle.fs_state.specs.declared.conn.Conn.{Conn}
use Rattle.fs_state.specs.declared.conn.Phase.{Phase}
use Rattle.fs_state.specs.declared.conn.Phase.TheVariants as phase
use Rattle.fs_state.specs.declared.conn.Parting.{Parting}
use Rattle.fs_state.specs.declared.conn.Parting.TheVariants as parting
use Rattle.fs_state.specs.declared.job.Asker.TheVariants as asker
use Rattle.fs_state.specs.declared.job.JobWork.{JobWork}
use Rattle.fs_state.specs.declared.job.JobWork.TheVariants.{Originate}
use Rattle.fs_state.specs.Switch.{Switch, empty, conn_of, next_orig_number, next_job_number, is_full_of_jobs, with_new_job, at_moment}
use Rattle.fs_state.specs.Switch.{with_next_identifier, chan_at, with_chan, slot_named}
use Rattle.fs_state.specs.Ending.{ended}
use Rattle.fs_state.specs.Hangups.{after_hangup}
use Rattle.fs_machine.specs.declared.entry.Act.{Act}
use Rattle.fs_machine.specs.declared.entry.Act.TheVariants as act
use Rattle.fs_machine.specs.Connections.{phase_of, phase_at, conn_changed_from, conn_changed, admitted, parted, owed_since}
use Rattle.fs_machine.specs.Connections.{with_subs_changed, subs_at}
use Rattle.fs_machine.specs.Questions.{parting_of, parting_at}
use Rattle.fs_machine.specs.Originations.{MadeGroup, group_made}
use Rattle.fs_machine.specs.Attempts.{first_group, orig_begun, originate_begun}
use Rattle.fs_machine.specs.declared.owing.Giver.TheVariants as giver
use Rattle.fs_machine.specs.Owing.{after_job_begin, job_uuid, background_begun}
use Rattle.fs_machine.specs.Api.{done_by}
use Rattle.fs_machine.specs.Commands.{with_reply, after_dismissal, after_password, with_response_of, after_asking, after_subscribing}
use Rattle.fs_machine.specs.Commands.{with_begun_told, after_background, with_response, control_at, controlled_uuid, message_done_to}
use Rattle.fs_machine.specs.Commands.{may_command_all, unless_denied, greeted_by}
use Rattle.fs_machine.specs.Commands.{queued_on, message_done, message_done_at, message_sent, command_done_in, command_done}
use Rattle.fs_machine.specs.Done.{Done}
use Rattle.fs_machine.specs.Controlling.{coming_number, after_dial, after_letting_go, after_leavings, greeting_for}
use Rattle.fs_machine.specs.Step.{Acted, reads, new_conn, step}
use Rattle.fs_machine.specs.Concerns.{is_its_own, KeepsPhase, IsParted, KeepsOrParts}
use Rattle.fs_machine.proofs.Kept.{Fact, KeptByCalls, KeptByApi}
use Rattle.fs_machine.proofs.ShortLemmas.{api_short}
use Rattle.fs_machine.proofs.RestLemmas.{Rest, calls_by_rest, group_made_rest, hung_rest}
use Rattle.fs_machine.proofs.ActWalk.{done_kept}
use Rattle.fs_machine.proofs.KeepLemmas.{Sockets, row_changed, IsLeft, IsStopped, Settles, stop_settles, left_settles, keeps_left}
use Rattle.fs_machine.proofs.KeepLemmas.{freed_sockets, act_keeps}
use Rattle.fs_machine.proofs.LeftLemmas.{NoneLeft, empty_none_left, take_done, arrive_done}
use Rattle.fs_machine.proofs.ComingLemmas.{TakesHold, TakesNone, dial_takes, unlinked, none_keeps}

-- ---- a connection stays

keeps_same : (conn : ℕ) (s t : Switch) → conn_of t conn ≡ conn_of s conn → KeepsPhase conn s t
keeps_same conn s t same = record { phase = ap phase_of same; parting = ap (option_and_then parting_of) same }

keeps_trans : (conn : ℕ) (s t u : Switch) → KeepsPhase conn s t → KeepsPhase conn t u → KeepsPhase conn s u
keeps_trans conn s t u first second = record {
  phase = second.phase ∙ first.phase;
  parting = second.parting ∙ first.parting;
}

-- a change that leaves both
changed_keeps : (change : Conn → Conn) → ((c : Conn) → (change c).phase ≡ c.phase) → ((c : Conn) → (change c).parting ≡ c.parting) →
    (conn : ℕ) (s : Switch) → KeepsPhase conn s (conn_changed change conn s)
changed_keeps change phase_stays parting_stays conn s = by (conn_of s conn) refl
  where
    by : (found : Option Conn) → conn_of s conn ≡ found → KeepsPhase conn s (conn_changed_from change conn found s)
    by None is = keeps_same conn s s refl
    by (Some c) is = let there = row_changed s.conns conn c (change c) is in record {
      phase = ap phase_of there ∙ (phase_stays c ∙ sym (ap phase_of is));
      parting = ap (option_and_then parting_of) there ∙ (parting_stays c ∙ sym (ap (option_and_then parting_of) is));
    }

-- ---- others

-- one that settles stays or parts
pub settled_parts : (conn : ℕ) (s t : Switch) → Settles (conn_of s conn) (conn_of t conn) → KeepsOrParts conn s t
settled_parts conn s t settles = by settles.way
  where
    by : IsLeft (conn_of s conn) (conn_of t conn) ⊎ IsStopped (conn_of s conn) (conn_of t conn) → KeepsOrParts conn s t
    by (inl stays) = inl (record { phase = stays.phase; parting = stays.parting })
    by (inr stops) =
        inr (record { read = stops.read; ending = stops.ending; why = stops.why; parting = stops.parting; others = stops.others })

-- one that has parted reads no commands, so that it parts once
parts_trans : (conn : ℕ) (s t u : Switch) → KeepsOrParts conn s t → KeepsOrParts conn t u → KeepsOrParts conn s u
parts_trans conn s t u (inl first) (inl second) = inl (keeps_trans conn s t u first second)
parts_trans conn s t u (inl first) (inr second) = inr (record {
  read = sym (ap reads first.phase) ∙ second.read;
  ending = second.ending;
  why = second.why;
  parting = second.parting;
  others = second.others;
})
parts_trans conn s t u (inr first) (inl second) = inr (record {
  read = first.read;
  ending = second.phase ∙ first.ending;
  why = first.why;
  parting = second.parting ∙ first.parting;
  others = first.others;
})
parts_trans conn s t u (inr first) (inr second) =
    let none : reads phase.Ending ≡ true = sym (ap reads first.ending) ∙ second.read in absurd (cc none)

-- an act of nobody, by which none comes
abbrev pub IsOfNobody : Act → Type 0
IsOfNobody (act.Dialed slot linked) = linked ≡ false
IsOfNobody (act.Work slot) = Unit {0}
IsOfNobody (act.Job number) = Unit {0}
IsOfNobody (act.Loaded number note) = Unit {0}
IsOfNobody act.Halt = Unit {0}
IsOfNobody _ = ⊥

-- it keeps a connection in its phase, or parts it
pub others_part : (conn moment : ℕ) (a : Act) (s : Switch) → IsOfNobody a →
    KeepsOrParts conn s (step s (record { moment = moment; act = a })).state
unfolding step
others_part conn moment (act.Dialed slot true) s such = absurd (both_ways true such refl)
others_part conn moment (act.Dialed slot false) s such =
    by (dial_takes false slot (at_moment moment s))
  where
    by : TakesHold false slot (at_moment moment s) ⊎ TakesNone false slot (at_moment moment s) →
        KeepsOrParts conn s (step s (record { moment = moment; act = act.Dialed slot false })).state
    by (inl takes) =
        absurd (none-some (coming_number s) (sym (unlinked slot (at_moment moment s)) ∙ takes.number))
    by (inr none) =
        settled_parts conn s (step s (record { moment = moment; act = act.Dialed slot false })).state
        ((keeps_left (at_moment moment s) (after_dial false slot (at_moment moment s))
        (none_keeps {who = None} {may_end = false} false slot (at_moment moment s) none)).others conn (none-some conn))
others_part conn moment (act.Work slot) s such =
    settled_parts conn s (step s (record { moment = moment; act = act.Work slot })).state
    ((act_keeps (act.Work slot) (at_moment moment s)).others conn (none-some conn))
others_part conn moment (act.Job number) s such =
    settled_parts conn s (step s (record { moment = moment; act = act.Job number })).state
    ((act_keeps (act.Job number) (at_moment moment s)).others conn (none-some conn))
others_part conn moment (act.Loaded number note) s such =
    settled_parts conn s (step s (record { moment = moment; act = act.Loaded number note })).state
    ((act_keeps (act.Loaded number note) (at_moment moment s)).others conn (none-some conn))
others_part conn moment act.Halt s such =
    settled_parts conn s (step s (record { moment = moment; act = act.Halt })).state
    ((act_keeps act.Halt (at_moment moment s)).others conn (none-some conn))
others_part conn moment act.Arrive s such = absurd such
others_part conn moment (act.Command giver block) s such = absurd such
others_part conn moment (act.Take taker) s such = absurd such
others_part conn moment (act.Close gone how) s such = absurd such

-- taking a frame keeps it so, where no connection stands whose channel has left it
pub take_keeps : (conn moment taker : ℕ) (s : Switch) → NoneLeft s →
    KeepsPhase conn s (step s (record { moment = moment; act = act.Take taker })).state
unfolding step
take_keeps conn moment taker s none =
    keeps_same conn s (step s (record { moment = moment; act = act.Take taker })).state
    (ap (λ (done : Acted). conn_of done.state conn) (take_done taker (at_moment moment s) none))

-- ---- api commands

abbrev KeepsFrom : ℕ → Switch → Fact
KeepsFrom conn s b t = KeepsOrParts conn s t

module _ (conn : ℕ) (s : Switch) where
  calls_keep : KeptByCalls (KeepsFrom conn s)
  calls_keep =
      calls_by_rest (KeepsFrom conn s)
      (λ b t u h same. parts_trans conn s t u h (inl (keeps_same conn t u (ap (λ (r : Rest). row_of r.conns conn) same)))) (λ t h. h)

  owing_keeps : (work : JobWork) (t : Switch) → KeepsOrParts conn s t → KeepsOrParts conn s (after_job_begin (giver.Conn conn) work t)
  owing_keeps work t h =
      let begun : Switch = with_new_job (record { asker = asker.Conn conn; work = work }) t in
      parts_trans conn s t (after_job_begin (giver.Conn conn) work t) h
      (inl (keeps_trans conn t begun (after_job_begin (giver.Conn conn) work t) (keeps_same conn t begun refl)
      (changed_keeps (owed_since t.entries) (λ c. refl) (λ c. refl) conn begun)))

  originates_keeps : (groups : List (List LegPlan)) (winner : Winner) (caller : Caller) (timeout : Option ℕ) (t : Switch) →
      KeepsOrParts conn s t → KeepsOrParts conn s (originate_begun (giver.Conn conn) groups winner caller timeout t)
  originates_keeps groups winner caller timeout t h =
      let made : MadeGroup = group_made (first_group groups) caller (next_orig_number t) t in
      let begun : Switch =
      orig_begun (owner.Job (next_job_number made.state)) groups made.legs (unwrap_or timeout 60) made.state in
      owing_keeps (Originate (next_orig_number t) winner caller) begun
      (parts_trans conn s t begun h
      (inl (keeps_same conn t begun
      (ap (λ (r : Rest). row_of r.conns conn) (group_made_rest (first_group groups) caller (next_orig_number t) t)))))

  api_keeps : KeptByApi (giver.Conn conn) (KeepsFrom conn s)
  api_keeps = record {
    spent = λ h. h;
    draws = λ {s = t} h. parts_trans conn s t (with_next_identifier t) h (inl (keeps_same conn t (with_next_identifier t) refl));
    waits = λ what {s = t} wait may room h. owing_keeps what t h;
    originates = λ groups winner caller timeout {s = t} may are short room h. originates_keeps groups winner caller timeout t h;
    leavings = λ {s = t} h. parts_trans conn s t (after_leavings t) h (settled_parts conn t (after_leavings t) (left_settles t conn));
    ends = λ reply notice {s = t} dead h. parts_trans conn s t (ended reply notice t) h
        (settled_parts conn t (ended reply notice t) (stop_settles reply notice t conn));
  }

  -- they leave the connection that gives them as it is, or part it by the end of the switch
  done_parts : (text : Text) → KeepsOrParts conn s (done_by (giver.Conn conn) (api_of text) s).state
  done_parts text =
      done_kept (giver.Conn conn) (KeepsFrom conn s) calls_keep api_keeps (api_of text) {s = s} tt (api_short text)
      (inl (keeps_same conn s s refl))

-- ---- a command of its own

-- what a command makes of a connection that reads commands and has not parted: it parts for its exit, or for a password that is refused
pub record CommandParts (conn : ℕ) (given : Command) (s t : Switch) : Type 0 where
  pub reads_on : reads (phase_at t conn) ≡ true → parting_at t conn ≡ None
  pub exit : parting_at t conn ≡ Some parting.Exit → given ≡ command.Exit
  pub refused : parting_at t conn ≡ Some parting.AuthRefused → (word : Text) × (given ≡ command.Auth word) × (word ≢ s.settings.password)
  pub hears : parting_at t conn ≢ Some parting.EndOfInput

-- it has not parted
unparted : (conn : ℕ) (given : Command) (s t : Switch) → parting_at t conn ≡ None → CommandParts conn given s t
unparted conn given s t none = record {
  reads_on = λ reading. none;
  exit = λ is. absurd (none-some parting.Exit (sym none ∙ is));
  refused = λ is. absurd (none-some parting.AuthRefused (sym none ∙ is));
  hears = λ is. none-some parting.EndOfInput (sym none ∙ is);
}

keeps_unparted : (conn : ℕ) (given : Command) (s t : Switch) → parting_at s conn ≡ None → KeepsPhase conn s t → CommandParts conn given s t
keeps_unparted conn given s t none keeps = unparted conn given s t (keeps.parting ∙ none)

-- it has parted, but not by its own doing
others_parted : (conn : ℕ) (given : Command) (s past t : Switch) → IsParted conn past t → CommandParts conn given s t
others_parted conn given s past t parts = record {
  reads_on = λ reading. let none : reads phase.Ending ≡ true = ap reads (sym parts.ending) ∙ reading in absurd (cc none);
  exit = λ is. absurd (apart parting.Exit refl is);
  refused = λ is. absurd (apart parting.AuthRefused refl is);
  hears = λ is. apart parting.EndOfInput refl is;
}
  where
    apart : (why : Parting) → is_its_own why ≡ true → parting_at t conn ≡ Some why → ⊥
    apart why own is =
        let same : why ≡ parts.why = same_Some why parts.why (sym is ∙ parts.parting) in
        both_ways (is_its_own why) (ap is_its_own same ∙ parts.others) own

-- it stays, or it has parted so
parts_unparted : (conn : ℕ) (given : Command) (s t : Switch) → parting_at s conn ≡ None → KeepsOrParts conn s t →
    CommandParts conn given s t
parts_unparted conn given s t none (inl keeps) = keeps_unparted conn given s t none keeps
parts_unparted conn given s t none (inr parts) = others_parted conn given s s t parts

-- what it has parted for stays where no channel has left it, and else it parts by its channel
left_parts : (conn : ℕ) (given : Command) (s t : Switch) → CommandParts conn given s t → CommandParts conn given s (after_leavings t)
left_parts conn given s t parts = by (settled_parts conn t (after_leavings t) (left_settles t conn))
  where
    by : KeepsOrParts conn t (after_leavings t) → CommandParts conn given s (after_leavings t)
    by (inl keeps) = record {
      reads_on = λ reading. keeps.parting ∙ parts.reads_on (sym (ap reads keeps.phase) ∙ reading);
      exit = λ is. parts.exit (sym keeps.parting ∙ is);
      refused = λ is. parts.refused (sym keeps.parting ∙ is);
      hears = λ is. parts.hears (sym keeps.parting ∙ is);
    }
    by (inr left) = others_parted conn given s t (after_leavings t) left

-- the password opens the way
admitted_unparted : (conn : ℕ) (s : Switch) → parting_at s conn ≡ None → parting_at (conn_changed admitted conn s) conn ≡ None
admitted_unparted conn s none = by (conn_of s conn) refl
  where
    by : (found : Option Conn) → conn_of s conn ≡ found → parting_at (conn_changed_from admitted conn found s) conn ≡ None
    by None is = none
    by (Some c) is =
        ap (option_and_then parting_of) (row_changed s.conns conn c (admitted c) is)
        ∙ (sym (ap (option_and_then parting_of) is) ∙ none)

-- one that is there parts
dismissed : (conn : ℕ) (why : Parting) (s : Switch) → reads (phase_at s conn) ≡ true →
    (phase_at (conn_changed (parted why) conn s) conn ≡ phase.Ending) × (parting_at (conn_changed (parted why) conn s) conn ≡ Some why)
dismissed conn why s reading = by (conn_of s conn) refl
  where
    by : (found : Option Conn) → conn_of s conn ≡ found →
        (phase_at (conn_changed_from (parted why) conn found s) conn ≡ phase.Ending)
        × (parting_at (conn_changed_from (parted why) conn found s) conn ≡ Some why)
    by None is =
        let closed : reads phase.Closed ≡ true = ap (λ (found : Option Conn). reads (phase_of found)) (sym is) ∙ reading in
        absurd (cc closed)
    by (Some c) is =
        let there = row_changed s.conns conn c (parted why c) is in (ap phase_of there, ap (option_and_then parting_of) there)

-- so it does once it has let its channel go
dismissed_free : (conn : ℕ) (why : Parting) (s : Switch) → reads (phase_at s conn) ≡ true →
    (phase_at (conn_changed (parted why) conn (after_letting_go conn s)) conn ≡ phase.Ending)
    × (parting_at (conn_changed (parted why) conn (after_letting_go conn s)) conn ≡ Some why)
dismissed_free conn why s reading =
    dismissed conn why (after_letting_go conn s)
    (ap (λ (x : Sockets). reads (phase_of (row_of x.conns conn))) (freed_sockets conn s) ∙ reading)

-- for its exit
exits : (conn : ℕ) (given : Command) (s t : Switch) → given ≡ command.Exit → phase_at t conn ≡ phase.Ending →
    parting_at t conn ≡ Some parting.Exit → CommandParts conn given s t
exits conn given s t is ending parts = record {
  reads_on = λ reading. let none : reads phase.Ending ≡ true = ap reads (sym ending) ∙ reading in absurd (cc none);
  exit = λ same. is;
  refused = λ same. let e : Some parting.Exit ≡ Some parting.AuthRefused = sym parts ∙ same in absurd (cc e);
  hears = λ same. let e : Some parting.Exit ≡ Some parting.EndOfInput = sym parts ∙ same in cc e;
}

-- for a password that is refused
refuses : (conn : ℕ) (word : Text) (s t : Switch) → word ≢ s.settings.password → phase_at t conn ≡ phase.Ending →
    parting_at t conn ≡ Some parting.AuthRefused → CommandParts conn (command.Auth word) s t
refuses conn word s t differs ending parts = record {
  reads_on = λ reading. let none : reads phase.Ending ≡ true = ap reads (sym ending) ∙ reading in absurd (cc none);
  exit = λ same. let e : Some parting.AuthRefused ≡ Some parting.Exit = sym parts ∙ same in absurd (cc e);
  refused = λ same. (word, refl, differs);
  hears = λ same. let e : Some parting.AuthRefused ≡ Some parting.EndOfInput = sym parts ∙ same in cc e;
}

-- a password was offered
offered : (conn : ℕ) (word : Text) (s : Switch) → reads (phase_at s conn) ≡ true → parting_at s conn ≡ None →
    CommandParts conn (command.Auth word) s (after_password conn word s)
offered conn word s reading none = by (bytes_eq word s.settings.password) refl
  where
    by : (same : Bool) → bytes_eq word s.settings.password ≡ same →
        CommandParts conn (command.Auth word) s
        (if same then with_reply conn accepted (conn_changed admitted conn s) else after_dismissal conn parting.AuthRefused invalid s)
    by true is =
        unparted conn (command.Auth word) s (with_reply conn accepted (conn_changed admitted conn s)) (admitted_unparted conn s none)
    by false is = let parts = dismissed_free conn parting.AuthRefused s reading in
        refuses conn word s (after_dismissal conn parting.AuthRefused invalid s)
        (λ same. both_ways (bytes_eq word s.settings.password) is ((bytes_eq-Decides word s.settings.password).1 same)) parts.0 parts.1

dismisses : (conn : ℕ) (s : Switch) → reads (phase_at s conn) ≡ true →
    CommandParts conn command.Exit s (after_dismissal conn parting.Exit bye s)
dismisses conn s reading =
    let parts = dismissed_free conn parting.Exit s reading in
    exits conn command.Exit s (after_dismissal conn parting.Exit bye s) refl parts.0 parts.1

-- what it subscribes leaves it as it is
asked_keeps : (conn : ℕ) (change : Subscription → Subscription) (text : Text) (s : Switch) →
    KeepsPhase conn s (after_asking conn change text s)
asked_keeps conn change text s =
    let asked : Switch = conn_changed (with_subs_changed change) conn s in
    keeps_trans conn s asked (after_asking conn change text s) (changed_keeps (with_subs_changed change) (λ c. refl) (λ c. refl) conn s)
    (keeps_same conn asked (after_asking conn change text s) refl)

replied_keeps : (conn : ℕ) (text : Text) (s : Switch) → KeepsPhase conn s (with_reply conn text s)
replied_keeps conn text s = keeps_same conn s (with_reply conn text s) refl

either_keeps : (conn : ℕ) (s : Switch) (test : Bool) (x y : Switch) → KeepsPhase conn s x → KeepsPhase conn s y →
    KeepsPhase conn s (if test then x else y)
either_keeps conn s true x y first second = first
either_keeps conn s false x y first second = second

subscribed_keeps : (conn : ℕ) (form : Form) (names : Text) (s : Switch) → KeepsPhase conn s (after_subscribing conn form names s)
subscribed_keeps conn Plain names s = asked_keeps conn _ _ s
subscribed_keeps conn Json names s = replied_keeps conn format_unsupported s
subscribed_keeps conn Xml names s = replied_keeps conn format_unsupported s

responded_parts : (conn : ℕ) (answer : Option Text) (s t : Switch) → KeepsOrParts conn s t →
    KeepsOrParts conn s (with_response_of conn answer t)
responded_parts conn None s t keeps = keeps
responded_parts conn (Some answer) s t keeps =
    parts_trans conn s t (with_response_of conn (Some answer) t) keeps (inl (keeps_same conn t _ refl))

queued_keeps : (conn : ℕ) (uuid : Text) (message : Action) (slot : ℕ) (found : Option Chan) (s : Switch) →
    KeepsPhase conn s (queued_on conn uuid message slot found s)
queued_keeps conn uuid message slot None s = replied_keeps conn (invalid_session uuid) s
queued_keeps conn uuid message slot (Some c) s =
    let taken : Switch = with_reply conn message_taken (with_chan slot (Some (with_message message c)) s) in
    either_keeps conn s (takes_message c) taken (with_reply conn messages_full s) (keeps_same conn s taken refl)
    (replied_keeps conn messages_full s)

message_keeps : (conn : ℕ) (uuid : Text) (message : Message) (slot : ℕ) (s : Switch) → KeepsPhase conn s (message_done conn uuid message slot s)
message_keeps conn uuid (Execute application argument) slot s =
    queued_keeps conn uuid (record { application = application; argument = argument }) slot (chan_at s slot) s
message_keeps conn uuid (Hangup cause) slot s =
    let hung : Switch = after_hangup cause slot s in
    let keeps : KeepsPhase conn s hung =
    keeps_same conn s hung (ap (λ (r : Rest). row_of r.conns conn) (hung_rest ((slot, cause) ∷ []) s)) in
    keeps_trans conn s hung (with_reply conn message_taken hung) keeps (keeps_same conn hung (with_reply conn message_taken hung) refl)
message_keeps conn uuid BadCall slot s = replied_keeps conn invalid_call s

found_keeps : (conn : ℕ) (uuid : Text) (message : Message) (found : Option ℕ) (s : Switch) →
    KeepsPhase conn s (message_done_at conn uuid message found s)
found_keeps conn uuid message None s = replied_keeps conn (invalid_session uuid) s
found_keeps conn uuid message (Some slot) s = message_keeps conn uuid message slot s

named_keeps : (conn : ℕ) (uuid : Option Text) (message : Message) (s : Switch) → KeepsPhase conn s (message_done_to conn uuid message s)
named_keeps conn None message s = replied_keeps conn (invalid_session []) s
named_keeps conn (Some uuid) message s = found_keeps conn uuid message (slot_named uuid s) s

sent_keeps : (conn : ℕ) (uuid : Option Text) (message : Message) (s : Switch) → KeepsPhase conn s (message_sent conn uuid message s)
sent_keeps conn None message s = named_keeps conn (controlled_uuid (control_at s conn)) message s
sent_keeps conn (Some uuid) message s = named_keeps conn (Some uuid) message s

greeted_keeps : (conn : ℕ) (found : Option Text) (s : Switch) → KeepsPhase conn s (greeted_by conn found s)
greeted_keeps conn None s = replied_keeps conn _ s
greeted_keeps conn (Some text) s = keeps_same conn s (greeted_by conn (Some text) s) refl

-- a job begins in the background
begun_keeps : (conn : ℕ) (given : Option Text) (text : Text) (s : Switch) → KeepsPhase conn s (background_begun given text s)
begun_keeps conn None text s = keeps_same conn s (background_begun None text s) refl
begun_keeps conn (Some uuid) text s = keeps_same conn s (background_begun (Some uuid) text s) refl

background_keeps : (conn : ℕ) (given : Option Text) (text : Text) (s : Switch) → KeepsPhase conn s (after_background conn given text s)
background_keeps conn given text s =
    let begun : Switch = background_begun given text s in
    let told : Switch = with_begun_told conn (job_uuid given s) begun in
    either_keeps conn s (is_full_of_jobs s) (with_reply conn jobs_full s) told (replied_keeps conn jobs_full s)
    (keeps_trans conn s begun told (begun_keeps conn given text s) (keeps_same conn begun told refl))

-- what is not for the controller of one channel is denied to it
permitted_parts : (conn : ℕ) (given : Command) (done : Switch → Switch) (s : Switch) → parting_at s conn ≡ None →
    CommandParts conn given s (done s) → CommandParts conn given s (unless_denied conn done s)
permitted_parts conn given done s none parts = by (may_command_all (control_at s conn))
  where
    by : (may : Bool) → CommandParts conn given s (if may then done s else with_reply conn denied s)
    by true = parts
    by false = keeps_unparted conn given s (with_reply conn denied s) none (replied_keeps conn denied s)

-- a command in a phase in which commands are read
commanded_parts : (conn : ℕ) (now : Phase) (given : Command) (s : Switch) → reads now ≡ true → phase_at s conn ≡ now →
    parting_at s conn ≡ None → CommandParts conn given s (command_done_in now conn given s)
commanded_parts conn phase.Fresh (command.Auth word) s reading at none = offered conn word s (ap reads at ∙ reading) none
commanded_parts conn phase.Fresh command.Exit s reading at none = dismisses conn s (ap reads at ∙ reading)
commanded_parts conn phase.Fresh given s reading at none = keeps_unparted conn given s _ none (replied_keeps conn _ s)
commanded_parts conn phase.Ready (command.Auth word) s reading at none =
    keeps_unparted conn (command.Auth word) s _ none (replied_keeps conn _ s)
commanded_parts conn phase.Ready command.Exit s reading at none = dismisses conn s (ap reads at ∙ reading)
commanded_parts conn phase.Ready (command.Api text) s reading at none =
    let done : Done = done_by (giver.Conn conn) (api_of text) s in
    permitted_parts conn (command.Api text) (λ t. with_response conn (done_by (giver.Conn conn) (api_of text) t)) s none
    (parts_unparted conn (command.Api text) s _ none (responded_parts conn done.reply s done.state (done_parts conn s text)))
commanded_parts conn phase.Ready (command.Event form names) s reading at none =
    keeps_unparted conn (command.Event form names) s _ none (subscribed_keeps conn form names s)
commanded_parts conn phase.Ready (command.Nixevent names) s reading at none =
    keeps_unparted conn (command.Nixevent names) s _ none (asked_keeps conn _ _ s)
commanded_parts conn phase.Ready command.Noevents s reading at none =
    keeps_unparted conn command.Noevents s _ none
    (either_keeps conn s (subs_at s conn).listening _ _ (asked_keeps conn _ _ s) (replied_keeps conn _ s))
commanded_parts conn phase.Ready (command.Filter header value) s reading at none =
    keeps_unparted conn (command.Filter header value) s _ none (asked_keeps conn _ _ s)
commanded_parts conn phase.Ready (command.FilterDelete header value) s reading at none =
    keeps_unparted conn (command.FilterDelete header value) s _ none
    (either_keeps conn s (has_filter (subs_at s conn).filters header value) _ _ (asked_keeps conn _ _ s) (replied_keeps conn _ s))
commanded_parts conn phase.Ready (command.Bgapi text job) s reading at none =
    permitted_parts conn (command.Bgapi text job) (after_background conn job text) s none
    (keeps_unparted conn (command.Bgapi text job) s _ none (background_keeps conn job text s))
commanded_parts conn phase.Ready (command.Sendmsg uuid message) s reading at none =
    keeps_unparted conn (command.Sendmsg uuid message) s _ none (sent_keeps conn uuid message s)
commanded_parts conn phase.Ready command.Connect s reading at none =
    keeps_unparted conn command.Connect s _ none (greeted_keeps conn (greeting_for (control_at s conn) s) s)
commanded_parts conn phase.Ready given s reading at none = keeps_unparted conn given s _ none (replied_keeps conn _ s)
commanded_parts conn phase.Ending given s reading at none = absurd (cc reading)
commanded_parts conn phase.Closed given s reading at none = absurd (cc reading)

-- and so does the entry of a block
pub command_parts : (conn moment : ℕ) (block : Text) (s : Switch) → reads (phase_at s conn) ≡ true → parting_at s conn ≡ None →
    CommandParts conn (command_of block) s (step s (record { moment = moment; act = act.Command conn block })).state
unfolding step command_done
command_parts conn moment block s reading none =
    let now : Switch = at_moment moment s in
    let done : Switch = command_done_in (phase_at s conn) conn (command_of block) now in
    let parts : CommandParts conn (command_of block) now (after_leavings done) =
    left_parts conn (command_of block) now done (commanded_parts conn (phase_at s conn) (command_of block) now reading refl none) in
    record { reads_on = parts.reads_on; exit = parts.exit; refused = parts.refused; hears = parts.hears }

-- ---- the first connection

nowhere : (count from : ℕ) → first_seat (has_number 1) (no_seats {T = Numbered Conn} count) from ≡ None
unfolding no_seats
nowhere zero from = refl
nowhere (suc count) from = nowhere count (from + 1)

-- it has not parted
pub none_parted : (config : Configuration) → parting_at (empty config) 1 ≡ None
none_parted config =
    let rows = no_seats {T = Numbered Conn} config.settings.max_connections in
    ap (option_and_then parting_of) (row_none rows 1 (nowhere config.settings.max_connections 0))

first_parting : (count : ℕ) → option_and_then parting_of (row_of (with_new_row (no_seats {T = Numbered Conn} count) 1 new_conn) 1) ≡ None
unfolding no_seats
first_parting zero = refl
first_parting (suc count) = refl

-- nor has it once it has come
pub arrival_unparted : (config : Configuration) (moment : ℕ) →
    parting_at (step (empty config) (record { moment = moment; act = act.Arrive })).state 1 ≡ None
unfolding step
arrival_unparted config moment =
    ap (λ (done : Acted). parting_at done.state 1)
    (arrive_done (at_moment moment (empty config)) (empty_none_left config))
    ∙ first_parting config.settings.max_connections
