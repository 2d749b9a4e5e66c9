-- Commands, work, jobs and the end of the switch keep all connections in their seats, with what waits for them, and end no input.
use Rattle.std.proofs.Common.{◌≡◌, ◌≢◌, ℕ, Bool, true, false, List, length, Option, None, Some, unwrap_or, option_and_then, ◌⊎◌, inl, inr}
use Rattle.std.proofs.Common.{map, option_map, not, if◌then◌else◌, refl, sym, ap, subst, ◌∙◌}
use Rattle.std.proofs.lemmas.Bool.{both_ways, cases_eq}
use Rattle.std.proofs.lemmas.List.{length-map}
use Rattle.std.proofs.lemmas.Option.{same_Some, none-some}
use Rattle.fs_text.specs.Texts.{Text}
use Rattle.fs_text.specs.declared.causes.Cause.TheVariants.{SystemShutdown}
use Rattle.fs_cmd.specs.Commands.{Command, command_of}
use Rattle.fs_cmd.specs.Frames.{notice}
use Rattle.fs_filter.specs.Subscriptions.{Subscription}
use Rattle.fs_orig.specs.declared.caller.Caller.{Caller}
use Rattle.fs_orig.specs.declared.leg.OrigLeg.{OrigLeg}
use Rattle.fs_orig.specs.declared.orig.Owner.TheVariants as owner
use Rattle.fs_orig.specs.declared.plan.LegPlan.{LegPlan}
use Rattle.fs_orig.specs.declared.winner.Winner.{Winner}
use Rattle.fs_seats.specs.declared.numbered.Numbered.{Numbered}
use Rattle.fs_seats.specs.Seats.{held_in}
use Rattle.fs_seats.specs.Rows.{has_number, seat_of, row_of, with_row}
use Rattle.fs_seats.proofs.RowLemmas.{each_put_at, length_put_at, SameNumbers, held_of, row_at, row_none, numbers-with_row}
use Rattle.fs_seats.proofs.RowLemmas.{row_of-with_row_same, row_of-with_row_other}
use Rattle.fs_state.specs.Outboxes.{Frames}
use Rattle.fs_state.specs.declared.conn.Conn.{Conn}
use Rattle.fs_state.specs.declared.conn.Control.{Control}
use Rattle.fs_state.specs.declared.conn.Phase.{Phase}
use Rattle.fs_state.specs.declared.conn.Phase.TheVariants.{Fresh, Ready, Ending, Closed}
use Rattle.fs_state.specs.declared.conn.Parting.{Parting}
use Rattle.fs_state.specs.declared.conn.Parting.TheVariants as parting
use Rattle.fs_state.specs.declared.job.Asker.{Asker}
use Rattle.fs_state.specs.declared.job.Asker.TheVariants as asker
use Rattle.fs_state.specs.declared.job.JobWork.{JobWork}
use Rattle.fs_state.specs.declared.job.JobWork.TheVariants.{Originate}
use Rattle.fs_state.specs.Switch.{Switch, chan_at, conn_of, next_orig_number, with_new_job, without_job}
use Rattle.fs_state.specs.Switch.{with_next_identifier, reloaded}
use Rattle.fs_state.specs.Switch.{without_orig, with_frame_now, with_notice, with_event}
use Rattle.fs_state.specs.Ending.{released, released_in, ended}
use Rattle.fs_machine.specs.declared.entry.Act.{Act}
use Rattle.fs_machine.specs.declared.entry.Act.TheVariants as act
use Rattle.fs_machine.specs.declared.entry.Closing.TheVariants as closing
use Rattle.fs_machine.specs.declared.note.LoadNote.{LoadNote}
use Rattle.fs_machine.specs.Texts.{made_text, failed_text}
use Rattle.fs_machine.specs.Connections.{conn_changed_from, conn_changed, admitted, parted, owed_since, not_owed, phase_of, phase_at}
use Rattle.fs_machine.specs.Connections.{with_subs_changed}
use Rattle.fs_machine.specs.Questions.{parting_of, owed_of}
use Rattle.fs_machine.specs.Originations.{MadeGroup, group_made, after_winning}
use Rattle.fs_machine.specs.Attempts.{first_group, orig_begun, tried_by_job, originate_begun}
use Rattle.fs_machine.specs.Jobs.{job_done}
use Rattle.fs_machine.specs.declared.owing.Giver.{Giver}
use Rattle.fs_machine.specs.declared.owing.Giver.TheVariants as giver
use Rattle.fs_machine.specs.Owing.{job_number, after_job_begin, background_begun, after_job_end}
use Rattle.fs_machine.specs.Loading.{after_load}
use Rattle.fs_machine.specs.Commands.{command_done}
use Rattle.fs_machine.specs.Work.{after_work}
use Rattle.fs_machine.specs.Hangups.{all_slots, after_hangup_of_all}
use Rattle.fs_machine.specs.Shutdown.{shutdown_event, stopped_reply, after_shutdown}
use Rattle.fs_machine.specs.Controlling.{is_held, is_left_in, is_left, conn_behind, after_letting_go, after_leavings}
use Rattle.fs_machine.specs.Step.{reads, is_closed, after_close, act_done}
use Rattle.fs_machine.specs.Concerns.{is_its_own}
use Rattle.fs_machine.proofs.ControlLemmas.{behind_held, behind_numbers, left_off, behind_conn}
use Rattle.fs_machine.proofs.Walk.{let_go_kept}
use Rattle.fs_machine.proofs.Kept.{Fact, KeptByCalls, raced, KeptByApi, KeptByJobs, KeptByDials, LeavesBy, KeptByCommands}
use Rattle.fs_machine.proofs.RestLemmas.{Rest, rest_of, calls_by_rest, dials_by_rest, group_made_rest, worked_rest, won_rest, hung_rest}
use Rattle.fs_machine.proofs.LoadLemmas.{load_kept}
use Rattle.fs_machine.proofs.ActWalk.{job_kept, commanded_kept}
use Rattle.fs_machine.proofs.StopLemmas.{let_off, released_held, released_numbers, ended_conn}

-- the connections of a switch, with what waits for them and what numbers them
pub record Sockets : Type 0 where
  pub conns : List (Option (Numbered Conn))
  pub outboxes : List Frames
  pub drawn : ℕ

abbrev pub sockets_of : Switch → Sockets
sockets_of s = record { conns = s.conns; outboxes = s.outboxes; drawn = s.drawn.conns }

-- the rest tells them
pub sockets_same : (s t : Switch) → rest_of t ≡ rest_of s → sockets_of t ≡ sockets_of s
sockets_same s t same =
    ap (λ (r : Rest). let sockets : Sockets = record { conns = r.conns; outboxes = r.outboxes; drawn = r.conns_drawn } in sockets) same

-- a connection that is there, and is gone
abbrev pub is_shut : Option (Numbered Conn) → Bool
is_shut None = false
is_shut (Some row) = is_closed row.held.phase

-- there is no such connection
abbrev pub AreOpen : List (Option (Numbered Conn)) → Type 0
AreOpen rows = (seat : ℕ) → is_shut (held_in rows seat) ≡ false

-- a connection stays in its phase, and has parted for what it had parted for
pub record IsLeft (old new : Option Conn) : Type 0 where
  pub phase : phase_of new ≡ phase_of old
  pub parting : option_and_then parting_of new ≡ option_and_then parting_of old

-- it read commands, and has parted by the end of the switch, or as its channel left
pub record IsStopped (old new : Option Conn) : Type 0 where
  pub read : reads (phase_of old) ≡ true
  pub ending : phase_of new ≡ Ending
  pub why : Parting
  pub parting : option_and_then parting_of new ≡ Some why
  pub others : is_its_own why ≡ false

-- it is left or stopped, and is owed nothing if it was owed nothing
pub record Settles (old new : Option Conn) : Type 0 where
  pub way : IsLeft old new ⊎ IsStopped old new
  pub owed : option_and_then owed_of old ≡ None → option_and_then owed_of new ≡ None

pub settles_same : (old new : Option Conn) → new ≡ old → Settles old new
settles_same old new same = record {
  way = inl (record { phase = ap phase_of same; parting = ap (option_and_then parting_of) same });
  owed = λ none. ap (option_and_then owed_of) same ∙ none;
}

-- one that is stopped reads no commands, so that it is not stopped again
ways_on : (old mid new : Option Conn) → IsLeft old mid ⊎ IsStopped old mid → IsLeft mid new ⊎ IsStopped mid new →
    IsLeft old new ⊎ IsStopped old new
ways_on old mid new (inl first) (inl second) =
    inl (record { phase = second.phase ∙ first.phase; parting = second.parting ∙ first.parting })
ways_on old mid new (inl first) (inr second) =
    inr (record {
      read = sym (ap reads first.phase) ∙ second.read;
      ending = second.ending;
      why = second.why;
      parting = second.parting;
      others = second.others;
    })
ways_on old mid new (inr first) (inl second) =
    inr (record {
      read = first.read;
      ending = second.phase ∙ first.ending;
      why = first.why;
      parting = second.parting ∙ first.parting;
      others = first.others;
    })
ways_on old mid new (inr first) (inr second) =
    let none : reads Ending ≡ true = sym (ap reads first.ending) ∙ second.read in absurd (cc none)

pub settles_trans : (old mid new : Option Conn) → Settles old mid → Settles mid new → Settles old new
settles_trans old mid new first second = record {
  way = ways_on old mid new first.way second.way;
  owed = λ none. second.owed (first.owed none);
}

-- its input has not ended
abbrev pub Hears : Option Conn → Type 0
Hears conn = option_and_then parting_of conn ≢ Some parting.EndOfInput

hears_same : (old new : Option Conn) → new ≡ old → Hears old → Hears new
hears_same old new same heard = subst Hears (sym same) heard

-- one that settles hears if it heard
settled_hears : (old new : Option Conn) → Settles old new → Hears old → Hears new
settled_hears old new settles heard = by settles.way
  where
    by : IsLeft old new ⊎ IsStopped old new → Hears new
    by (inl stays) same = heard (sym stays.parting ∙ same)
    by (inr stops) same =
        let is : stops.why ≡ parting.EndOfInput = same_Some stops.why parting.EndOfInput (sym stops.parting ∙ same) in
        both_ways (is_its_own stops.why) stops.others (ap is_its_own is)

-- The connections of one switch stand where those of another do, and the same waits for them. All settle but the one, if there is one,
-- whose
-- act it is. No input ends, unless one may.
pub record Keeps (who : Option ℕ) (may_end : Bool) (s t : Switch) : Type 0 where
  pub numbers : SameNumbers s.conns t.conns
  pub seats : length t.conns ≡ length s.conns
  pub outboxes : t.outboxes ≡ s.outboxes
  pub drawn : t.drawn.conns ≡ s.drawn.conns
  pub opened : AreOpen s.conns → AreOpen t.conns
  pub others : (number : ℕ) → (who ≡ Some number → ⊥) → Settles (conn_of s number) (conn_of t number)
  pub hears : may_end ≡ false → (number : ℕ) → Hears (conn_of s number) → Hears (conn_of t number)

pub keeps_same : {who : Option ℕ} {may_end : Bool} → (s t : Switch) → sockets_of t ≡ sockets_of s → Keeps who may_end s t
keeps_same s t same = record {
  numbers = λ number seat. ap (λ (x : Sockets). has_number number (held_in x.conns seat)) same;
  seats = ap (λ (x : Sockets). length x.conns) same;
  outboxes = ap (λ (x : Sockets). x.outboxes) same;
  drawn = ap (λ (x : Sockets). x.drawn) same;
  opened = λ each seat. ap (λ (x : Sockets). is_shut (held_in x.conns seat)) same ∙ each seat;
  others = λ number apart. settles_same (conn_of s number) (conn_of t number) (ap (λ (x : Sockets). row_of x.conns number) same);
  hears = λ none number. hears_same (conn_of s number) (conn_of t number) (ap (λ (x : Sockets). row_of x.conns number) same);
}

pub keeps_refl : {who : Option ℕ} {may_end : Bool} → (s : Switch) → Keeps who may_end s s
keeps_refl s = keeps_same s s refl

pub keeps_trans : {who : Option ℕ} {may_end : Bool} → (s t u : Switch) → Keeps who may_end s t → Keeps who may_end t u →
    Keeps who may_end s u
keeps_trans s t u first second = record {
  numbers = λ number seat. second.numbers number seat ∙ first.numbers number seat;
  seats = second.seats ∙ first.seats;
  outboxes = second.outboxes ∙ first.outboxes;
  drawn = second.drawn ∙ first.drawn;
  opened = λ each. second.opened (first.opened each);
  others = λ number apart.
      settles_trans (conn_of s number) (conn_of t number) (conn_of u number) (first.others number apart) (second.others number apart);
  hears = λ none number heard. second.hears none number (first.hears none number heard);
}

pub keeps_on : {who : Option ℕ} {may_end : Bool} → (s t u : Switch) → Keeps who may_end s t → sockets_of u ≡ sockets_of t →
    Keeps who may_end s u
keeps_on s t u keeps same = keeps_trans s t u keeps (keeps_same t u same)

-- ---- a connection is changed

open_held : (held : Option (Numbered Conn)) (c : Conn) → is_shut held ≡ false → held_of held ≡ Some c → is_closed c.phase ≡ false
open_held None c shut is = absurd (cc)
open_held (Some row) c shut is = subst (λ (d : Conn). is_closed d.phase ≡ false) (same_Some row.held c is) shut

row_open : (rows : List (Option (Numbered Conn))) (number : ℕ) (c : Conn) → AreOpen rows → row_of rows number ≡ Some c →
    is_closed c.phase ≡ false
row_open rows number c each is = by (seat_of rows number) refl
  where
    by : (found : Option ℕ) → seat_of rows number ≡ found → is_closed c.phase ≡ false
    by None none = absurd (none-some c (sym (row_none rows number none) ∙ is))
    by (Some seat) there = open_held (held_in rows seat) c (each seat) (sym (row_at rows number seat there) ∙ is)

-- one that is there and is changed has what it is changed to
pub row_changed : (rows : List (Option (Numbered Conn))) (number : ℕ) (c d : Conn) → row_of rows number ≡ Some c →
    row_of (with_row rows number d) number ≡ Some d
row_changed rows number c d is = by (seat_of rows number) refl
  where
    by : (found : Option ℕ) → seat_of rows number ≡ found → row_of (with_row rows number d) number ≡ Some d
    by None none = absurd (none-some c (sym (row_none rows number none) ∙ is))
    by (Some seat) there = row_of-with_row_same rows number seat d there

-- what holds of its change, and of what stays the same, holds of each connection
row_holds : (Holds : Option Conn → Option Conn → Type 0) → ((old new : Option Conn) → new ≡ old → Holds old new) →
    (rows : List (Option (Numbered Conn))) (number : ℕ) (c d : Conn) →
    row_of rows number ≡ Some c → (other : ℕ) → (number ≡ other → Holds (Some c) (Some d)) →
    Holds (row_of rows other) (row_of (with_row rows number d) other)
row_holds Holds stays rows number c d is other changes = by (cases_eq number other)
  where
    by : (number ≡ other) ⊎ (number ≡ other → ⊥) → Holds (row_of rows other) (row_of (with_row rows number d) other)
    by (inl same) = subst (λ n. Holds (row_of rows n) (row_of (with_row rows number d) n)) same
        (subst (λ old. Holds old (row_of (with_row rows number d) number)) (sym is)
        (subst (Holds (Some c)) (sym (row_changed rows number c d is)) (changes same)))
    by (inr differ) = stays (row_of rows other) (row_of (with_row rows number d) other) (row_of-with_row_other rows number d other differ)

-- a change leaves the input as it is, or one may end
abbrev HearsOn : Bool → (Conn → Conn) → Type 0
HearsOn may_end change = may_end ≡ false → (c : Conn) → Hears (Some c) → Hears (Some (change c))

-- it is changed in its place, if it is there, and does not go; by an act that is not its own it settles
pub conn_changed_keeps : {who : Option ℕ} {may_end : Bool} → (change : Conn → Conn) →
    ((c : Conn) → is_closed c.phase ≡ false → is_closed (change c).phase ≡ false) →
    HearsOn may_end change → (number : ℕ) → ((who ≡ Some number → ⊥) → (c : Conn) → Settles (Some c) (Some (change c))) → (s : Switch) →
    Keeps who may_end s (conn_changed change number s)
conn_changed_keeps {who} {may_end} change stays hears number settles s = by (conn_of s number) refl
  where
    by : (found : Option Conn) → conn_of s number ≡ found → Keeps who may_end s (conn_changed_from change number found s)
    by None is = keeps_refl s
    by (Some c) is = record {
      numbers = numbers-with_row s.conns number (change c);
      seats = length_put_at s.conns (Some (record { number = number; held = change c })) (seat_of s.conns number);
      outboxes = refl;
      drawn = refl;
      opened = λ each. each_put_at (λ held. is_shut held ≡ false) s.conns (Some (record { number = number; held = change c }))
          (seat_of s.conns number) each
          (stays c (row_open s.conns number c each is));
      others = λ other apart. row_holds Settles settles_same s.conns number c (change c) is other
          (λ same. settles (λ own. apart (own ∙ ap Some same)) c);
      hears = λ none other. row_holds (λ old new. Hears old → Hears new) hears_same s.conns number c (change c) is other
          (λ same. hears none c);
    }

-- its own act may change it in each way
pub own_changed_keeps : {may_end : Bool} → (change : Conn → Conn) →
    ((c : Conn) → is_closed c.phase ≡ false → is_closed (change c).phase ≡ false) → HearsOn may_end change →
    (conn : ℕ) (s : Switch) → Keeps (Some conn) may_end s (conn_changed change conn s)
own_changed_keeps change stays hears conn s = conn_changed_keeps change stays hears conn (λ apart c. absurd (apart refl)) s

-- it parts for the end of its input
abbrev pub ends_input : Parting → Bool
ends_input parting.Exit = false
ends_input parting.AuthRefused = false
ends_input parting.EndOfInput = true
ends_input parting.Stopped = false
ends_input parting.ChannelLeft = false

parted_hears : (why : Parting) → HearsOn (ends_input why) (parted why)
parted_hears parting.Exit none c heard same = cc
parted_hears parting.AuthRefused none c heard same = cc
parted_hears parting.EndOfInput none c heard same = cc
parted_hears parting.Stopped none c heard same = cc
parted_hears parting.ChannelLeft none c heard same = cc

parted_keeps : (why : Parting) (conn : ℕ) (s : Switch) → Keeps (Some conn) (ends_input why) s (conn_changed (parted why) conn s)
parted_keeps why conn s = own_changed_keeps (parted why) (λ c h. refl) (parted_hears why) conn s

-- ---- all connections part

-- each settles
let_off_settles : (found : Option Conn) → Settles found (option_map let_off found)
let_off_settles None = settles_same None None refl
let_off_settles (Some c) = by c.phase refl
  where
    by : (now : Phase) → c.phase ≡ now → Settles (Some c) (Some (released_in now c))
    by Fresh is = record {
      way = inr (record { read = ap reads is; ending = refl; why = parting.Stopped; parting = refl; others = refl });
      owed = λ none. refl;
    }
    by Ready is = record {
      way = inr (record { read = ap reads is; ending = refl; why = parting.Stopped; parting = refl; others = refl });
      owed = λ none. refl;
    }
    by Ending is = record { way = inl (record { phase = refl; parting = refl }); owed = λ none. refl }
    by Closed is = record { way = inl (record { phase = refl; parting = refl }); owed = λ none. refl }

-- and none goes
released_open : (held : Option (Numbered Conn)) → is_shut held ≡ false → is_shut (released held) ≡ false
released_open None shut = refl
released_open (Some row) shut = by row.held.phase
  where
    by : (now : Phase) → is_closed (released_in now row.held).phase ≡ false
    by Fresh = refl
    by Ready = refl
    by Ending = shut
    by Closed = shut

pub stop_settles : (reply notice : Text) (s : Switch) (number : ℕ) → Settles (conn_of s number) (conn_of (ended reply notice s) number)
stop_settles reply notice s number =
    subst (Settles (conn_of s number)) (sym (ended_conn reply notice s number)) (let_off_settles (conn_of s number))

stop_keeps : {who : Option ℕ} {may_end : Bool} → (reply notice : Text) (s : Switch) → Keeps who may_end s (ended reply notice s)
stop_keeps reply notice s = record {
  numbers = released_numbers s.conns;
  seats = length-map s.conns released;
  outboxes = refl;
  drawn = refl;
  opened = λ each seat. ap is_shut (released_held s.conns seat) ∙ released_open (held_in s.conns seat) (each seat);
  others = λ number apart. stop_settles reply notice s number;
  hears = λ none number. settled_hears (conn_of s number) (conn_of (ended reply notice s) number) (stop_settles reply notice s number);
}

-- ---- those part whose channel has left

-- each settles
left_off_settles : (s : Switch) (number : ℕ) (found : Option Conn) → Settles found (option_map (left_off s number) found)
left_off_settles s number None = settles_same None None refl
left_off_settles s number (Some c) = by c.phase c.control refl
  where
    by : (now : Phase) (control : Option Control) → c.phase ≡ now →
        Settles (Some c) (Some (if is_left_in s number now control then parted parting.ChannelLeft c else c))
    by Ready (Some control) is = either (not (is_held number (chan_at s control.slot)))
      where
        either : (left : Bool) → Settles (Some c) (Some (if left then parted parting.ChannelLeft c else c))
        either true = record {
          way = inr (record { read = ap reads is; ending = refl; why = parting.ChannelLeft; parting = refl; others = refl });
          owed = λ none. none;
        }
        either false = settles_same (Some c) (Some c) refl
    by Ready None is = settles_same (Some c) (Some c) refl
    by Fresh control is = settles_same (Some c) (Some c) refl
    by Ending control is = settles_same (Some c) (Some c) refl
    by Closed control is = settles_same (Some c) (Some c) refl

-- and none goes
left_open : (s : Switch) (held : Option (Numbered Conn)) → is_shut held ≡ false → is_shut (conn_behind s held) ≡ false
left_open s None shut = refl
left_open s (Some row) shut = by (is_left s row)
  where
    by : (left : Bool) →
        is_shut (Some (if left then record { number = row.number; held = parted parting.ChannelLeft row.held } else row)) ≡ false
    by true = refl
    by false = shut

pub left_settles : (s : Switch) (number : ℕ) → Settles (conn_of s number) (conn_of (after_leavings s) number)
left_settles s number = subst (Settles (conn_of s number)) (sym (behind_conn s number)) (left_off_settles s number (conn_of s number))

pub leavings_keep : {who : Option ℕ} {may_end : Bool} → (s : Switch) → Keeps who may_end s (after_leavings s)
leavings_keep s = record {
  numbers = behind_numbers s s.conns;
  seats = length-map s.conns (conn_behind s);
  outboxes = refl;
  drawn = refl;
  opened = λ each seat. ap is_shut (behind_held s s.conns seat) ∙ left_open s (held_in s.conns seat) (each seat);
  others = λ number apart. left_settles s number;
  hears = λ none number. settled_hears (conn_of s number) (conn_of (after_leavings s) number) (left_settles s number);
}

-- so it is with them behind a change
pub keeps_left : {who : Option ℕ} {may_end : Bool} → (s t : Switch) → Keeps who may_end s t → Keeps who may_end s (after_leavings t)
keeps_left s t keeps = keeps_trans s t (after_leavings t) keeps (leavings_keep t)

-- ---- jobs

-- the connection whose act it is that a command is given, if one gives it
abbrev acting : Giver → Option ℕ
acting (giver.Conn conn) = Some conn
acting (giver.Job number job) = None

owing_keeps : (by : Giver) (work : JobWork) (s : Switch) → Keeps (acting by) false s (after_job_begin by work s)
owing_keeps (giver.Conn conn) work s =
    let begun : Switch = with_new_job (record { asker = asker.Conn conn; work = work }) s in
    keeps_trans s begun (conn_changed (owed_since s.entries) conn begun) (keeps_same s begun refl)
    (own_changed_keeps (owed_since s.entries) (λ c h. h) (λ none c heard. heard) conn begun)
owing_keeps (giver.Job number job) work s = keeps_same s (after_job_begin (giver.Job number job) work s) refl

ended_keeps : {who : Option ℕ} → (number : ℕ) (from : Asker) (answer : Text) (s : Switch) →
    Keeps who false s (after_job_end number from answer s)
ended_keeps number (asker.Conn conn) answer s =
    keeps_on s (conn_changed not_owed conn (without_job number s)) (after_job_end number (asker.Conn conn) answer s)
    (keeps_trans s (without_job number s) (conn_changed not_owed conn (without_job number s)) (keeps_same s (without_job number s) refl)
    (conn_changed_keeps not_owed (λ c h. h) (λ none c heard. heard) conn
    (λ apart c. record { way = inl (record { phase = refl; parting = refl }); owed = λ none. refl }) (without_job number s)))
    refl
ended_keeps number (asker.Background job) answer s = keeps_same s (after_job_end number (asker.Background job) answer s) refl

begun_keeps : (by : Giver) (groups : List (List LegPlan)) (winner : Winner) (caller : Caller) (timeout orig : ℕ) (made : MadeGroup)
    (s : Switch) → sockets_of made.state ≡ sockets_of s →
    Keeps (acting by) false s (tried_by_job by groups winner caller timeout orig made)
begun_keeps by groups winner caller timeout orig made s same =
    let begun : Switch = orig_begun (owner.Job (job_number by made.state)) groups made.legs timeout made.state in
    keeps_trans s begun (tried_by_job by groups winner caller timeout orig made) (keeps_same s begun same)
    (owing_keeps by (Originate orig winner caller) begun)

-- ---- every move

-- what a switch keeps of an earlier one
abbrev KeepsFrom : Option ℕ → Switch → Fact
KeepsFrom who s b t = Keeps who false s t

calls_keep : (who : Option ℕ) (s : Switch) → KeptByCalls (KeepsFrom who s)
calls_keep who s = calls_by_rest (KeepsFrom who s) (λ b t u h same. keeps_on s t u h (sockets_same t u same)) (λ t h. h)

-- api commands
module _ (by : Giver) (s : Switch) where
  waits_keep : (what : JobWork) {t : Switch} → Keeps (acting by) false s t → Keeps (acting by) false s (after_job_begin by what t)
  waits_keep what {t} h = keeps_trans s t (after_job_begin by what t) h (owing_keeps by what t)

  originates_keep : (groups : List (List LegPlan)) (winner : Winner) (caller : Caller) (timeout : Option ℕ) {t : Switch} →
      Keeps (acting by) false s t → Keeps (acting by) false s (originate_begun by groups winner caller timeout t)
  originates_keep groups winner caller timeout {t} h =
      let made : MadeGroup = group_made (first_group groups) caller (next_orig_number t) t in
      keeps_trans s t (originate_begun by groups winner caller timeout t) h
      (begun_keeps by groups winner caller (unwrap_or timeout 60) (next_orig_number t) made t
      (sockets_same t made.state (group_made_rest (first_group groups) caller (next_orig_number t) t)))

  api_keep : KeptByApi by (KeepsFrom (acting by) s)
  api_keep = record {
    spent = λ h. h;
    draws = λ {s = t} h. keeps_on s t (with_next_identifier t) h refl;
    waits = λ what wait may room h. waits_keep what h;
    originates = λ groups winner caller timeout may are short room h. originates_keep groups winner caller timeout h;
    leavings = λ {s = t} h. keeps_left s t h;
    ends = λ reply notice {s = t} dead h. keeps_trans s t (ended reply notice t) h (stop_keeps reply notice t);
  }

-- the jobs that run a command, and those that end
module _ (s : Switch) where
  over_keeps : (job : ℕ) (who : Asker) (orig : ℕ) (answer : Text) (t u : Switch) → sockets_of u ≡ sockets_of t → Keeps None false s t →
      Keeps None false s (after_job_end job who answer (without_orig orig u))
  over_keeps job who orig answer t u same h =
      keeps_trans s (without_orig orig u) (after_job_end job who answer (without_orig orig u))
      (keeps_on s t (without_orig orig u) h same)
      (ended_keeps job who answer (without_orig orig u))

  wins_keep : (job : ℕ) (who : Asker) (orig : ℕ) (winner : Winner) (leg : OrigLeg) (t : Switch) → Keeps None false s t →
      Keeps None false s (after_job_end job who (made_text leg.uuid)
      (without_orig orig (after_winning winner (unwrap_or leg.slot 0) t)))
  wins_keep job who orig winner leg t h =
      let u : Switch = after_winning winner (unwrap_or leg.slot 0) t in
      over_keeps job who orig (made_text leg.uuid) t u (sockets_same t u (won_rest winner (unwrap_or leg.slot 0) t)) h

  jobs_keep : KeptByJobs s (KeepsFrom None s)
  jobs_keep = record {
    out = λ number job {s = t} does h. keeps_on s t (without_job number t) h refl;
    runs = λ number job. api_keep (giver.Job number job) s;
    woken = λ number who what answer {s = t} wait does h. keeps_trans s t (after_job_end number who answer t) h
        (ended_keeps number who answer t);
    failed = λ job who winner caller orig cause {s = t} does over h. over_keeps job who orig (failed_text cause) t t refl h;
    wins = λ job who winner caller orig leg slots does won h. wins_keep job who orig winner leg (raced slots s) h;
  }

  dials_keep : KeptByDials s (KeepsFrom None s)
  dials_keep = dials_by_rest s (KeepsFrom None s) (λ b t u h same. keeps_on s t u h (sockets_same t u same)) (λ t h. h)

-- the commands of a connection
module _ (conn : ℕ) (s : Switch) where
  noticed_keeps : (frame : Text) {t : Switch} → Keeps (Some conn) false s t → Keeps (Some conn) false s (with_notice conn frame t)
  noticed_keeps frame {t} h = keeps_on s t (with_notice conn frame t) h refl

  gave_keeps : (frame : Text) {t : Switch} → Keeps (Some conn) false s t → Keeps (Some conn) false s (with_frame_now conn frame t)
  gave_keeps frame {t} h = keeps_on s t (with_frame_now conn frame t) h refl

  asked_keeps : (change : Subscription → Subscription) {t : Switch} → Keeps (Some conn) false s t →
      Keeps (Some conn) false s (conn_changed (with_subs_changed change) conn t)
  asked_keeps change {t} h =
      keeps_trans s t (conn_changed (with_subs_changed change) conn t) h
      (own_changed_keeps (with_subs_changed change) (λ c h. h) (λ none c heard. heard) conn t)

  admitted_keeps : {t : Switch} → phase_at t conn ≡ Fresh → Keeps (Some conn) false s t →
      Keeps (Some conn) false s (conn_changed admitted conn t)
  admitted_keeps {t} fresh h =
      keeps_trans s t (conn_changed admitted conn t) h (own_changed_keeps admitted (λ c h. refl) (λ none c heard. heard) conn t)

  leaves_keeps : (why : Parting) {t : Switch} → LeavesBy why → Keeps (Some conn) false s t →
      Keeps (Some conn) false s (conn_changed (parted why) conn t)
  leaves_keeps parting.Exit {t} leaves h = keeps_trans s t (conn_changed (parted parting.Exit) conn t) h (parted_keeps parting.Exit conn t)
  leaves_keeps parting.AuthRefused {t} leaves h =
      keeps_trans s t (conn_changed (parted parting.AuthRefused) conn t) h (parted_keeps parting.AuthRefused conn t)
  leaves_keeps parting.EndOfInput leaves h = absurd leaves
  leaves_keeps parting.Stopped leaves h = absurd leaves
  leaves_keeps parting.ChannelLeft leaves h = absurd leaves

  background_keeps : (given : Option Text) (command : Text) {t : Switch} → Keeps (Some conn) false s t →
      Keeps (Some conn) false s (background_begun given command t)
  background_keeps None command {t} h = keeps_on s t (background_begun None command t) h refl
  background_keeps (Some uuid) command {t} h = keeps_on s t (background_begun (Some uuid) command t) h refl

  commands_keep : KeptByCommands conn (KeepsFrom (Some conn) s)
  commands_keep = record {
    api = api_keep (giver.Conn conn) s;
    noticed = λ frame h. noticed_keeps frame h;
    gave = λ frame h. gave_keeps frame h;
    asked = λ change h. asked_keeps change h;
    admitted = λ fresh h. admitted_keeps fresh h;
    parted = λ why leaves was h. leaves_keeps why leaves h;
    backgrounds = λ given command room h. background_keeps given command h;
  }

-- ---- what acts keep

work_keeps : (slot : ℕ) (s : Switch) → Keeps None false s (after_work slot s)
work_keeps slot s = keeps_same s (after_work slot s) (sockets_same s (after_work slot s) (worked_rest slot s))

job_done_keeps : (number : ℕ) (s : Switch) → Keeps None false s (job_done number s)
job_done_keeps number s = job_kept s (KeepsFrom None s) (calls_keep None s) (dials_keep s) (jobs_keep s) number (keeps_refl s) (keeps_refl s)

load_keeps : (what : LoadNote) (number : ℕ) (s : Switch) → Keeps None false s (after_load what number s)
load_keeps what number s =
    load_kept (λ (t : Switch). Keeps None false s t) (λ (t : Switch). Keeps None false s t)
    (λ config globals t h. keeps_on s t (record (reloaded config t) { globals = globals }) h refl) (λ t h. h)
    (λ job who answer t does h. keeps_trans s t (after_job_end job who answer t) h (ended_keeps job who answer t)) what number s
    (keeps_refl s)

commanded_keeps : (conn : ℕ) (command : Command) (s : Switch) → Keeps (Some conn) false s (command_done conn command s)
commanded_keeps conn command s =
    commanded_kept conn (KeepsFrom (Some conn) s) (calls_keep (Some conn) s) (commands_keep conn s) command {s = s} (keeps_refl s)

halt_keeps : (s : Switch) → Keeps None false s (after_shutdown s)
unfolding after_shutdown
halt_keeps s =
    let hung : Switch = after_hangup_of_all SystemShutdown s in
    let told : Switch = with_event shutdown_event (after_leavings hung) in
    keeps_trans s told (ended stopped_reply notice told)
    (keeps_on s (after_leavings hung) told
    (keeps_left s hung
    (keeps_same s hung (sockets_same s hung (hung_rest (map (λ slot. (slot, SystemShutdown)) (all_slots s)) s))))
    refl)
    (stop_keeps stopped_reply notice told)

-- ---- a connection lets its channel go

freed_rest : (conn : ℕ) (s : Switch) → rest_of (after_letting_go conn s) ≡ rest_of s
freed_rest conn s =
    let_go_kept (λ b t. rest_of t ≡ rest_of s)
    (calls_by_rest (λ b t. rest_of t ≡ rest_of s) (λ b t u h same. same ∙ h) (λ t h. h)).touches conn {b = None} {s = s} refl

pub freed_sockets : (conn : ℕ) (s : Switch) → sockets_of (after_letting_go conn s) ≡ sockets_of s
freed_sockets conn s = sockets_same s (after_letting_go conn s) (freed_rest conn s)

pub freed_keeps : {who : Option ℕ} {may_end : Bool} → (conn : ℕ) (s : Switch) → Keeps who may_end s (after_letting_go conn s)
freed_keeps conn s = keeps_same s (after_letting_go conn s) (freed_sockets conn s)

-- and its input ends
silent_keeps : (conn : ℕ) (s : Switch) → Keeps (Some conn) true s (after_close closing.EndOfInput conn s)
silent_keeps conn s =
    let free : Switch = after_letting_go conn s in
    keeps_trans s free (after_close closing.EndOfInput conn s) (freed_keeps conn s) (parted_keeps parting.EndOfInput conn free)

-- ---- all acts

-- those that open no connection, close none, and take no frame
abbrev pub ActKeeps : Act → Switch → Type 0
ActKeeps act.Arrive s = Unit {0}
ActKeeps (act.Take conn) s = Unit {0}
ActKeeps (act.Close conn closing.Sent) s = Unit {0}
ActKeeps (act.Close conn closing.Failed) s = Unit {0}
ActKeeps (act.Dialed slot linked) s = Unit {0}
ActKeeps (act.Close conn closing.EndOfInput) s = Keeps (Some conn) true s (act_done (act.Close conn closing.EndOfInput) s).state
ActKeeps (act.Command conn block) s = Keeps (Some conn) false s (act_done (act.Command conn block) s).state
ActKeeps other s = Keeps None false s (act_done other s).state

pub act_keeps : (a : Act) (s : Switch) → ActKeeps a s
act_keeps (act.Command conn block) s =
    keeps_left s (command_done conn (command_of block) s) (commanded_keeps conn (command_of block) s)
act_keeps (act.Close conn closing.EndOfInput) s = keeps_left s (after_close closing.EndOfInput conn s) (silent_keeps conn s)
act_keeps (act.Work slot) s = keeps_left s (after_work slot s) (work_keeps slot s)
act_keeps (act.Job number) s = keeps_left s (job_done number s) (job_done_keeps number s)
act_keeps (act.Loaded number note) s = keeps_left s (after_load note number s) (load_keeps note number s)
act_keeps act.Halt s = keeps_left s (after_shutdown s) (halt_keeps s)
act_keeps _ s = tt
