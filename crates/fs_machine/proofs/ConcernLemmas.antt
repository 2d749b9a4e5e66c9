-- Each entry of a run is for a connection its own, one of others, or the one by which it comes.
use Rattle.std.proofs.Common.{◌≡◌, ℕ, ◌-◌, ◌^◌, ◌<◌, ◌≤◌, ◌==◌, Bool, true, false, not, if◌then◌else◌, List, [], ◌∷◌, ◌++◌, length}
use Rattle.std.proofs.Common.{take, Option, None, Some, option_map, is_none, is_some, ◌⊎◌, inl, inr, refl, sym, ap, subst, ◌∙◌}
use Rattle.std.specs.Prelude.{flat_map}
use Rattle.std.proofs.lemmas.Bool.{both_ways, eqb-true, eq-eqb, ne_eqb, cases_eq}
use Rattle.std.proofs.lemmas.Option.{same_Some, none-some}
use Rattle.fs_doc.specs.Reading.{Configuration}
use Rattle.fs_text.specs.Texts.{Text}
use Rattle.fs_chan.specs.declared.chan.Chan.{Chan}
use Rattle.fs_chan.specs.Controlling.{held_by}
use Rattle.fs_seats.specs.declared.numbered.Numbered.{Numbered}
use Rattle.fs_seats.specs.Seats.{held_in, least_free}
use Rattle.fs_seats.specs.Rows.{has_number, seat_of, row_of, with_new_row}
use Rattle.fs_seats.proofs.HeldLemmas.{held_here, held_within}
use Rattle.fs_seats.proofs.RowLemmas.{held_of, row_at, stands_seat, row_none, row_of-without_row_other, row_of-with_new_row_same}
use Rattle.fs_seats.proofs.RowLemmas.{row_of-with_new_row_other}
use Rattle.fs_cmd.specs.Frames.{auth_request}
use Rattle.fs_state.specs.declared.conn.Conn.{Conn}
use Rattle.fs_state.specs.declared.conn.Parting.TheVariants as parting
use Rattle.fs_state.specs.declared.conn.Phase.{Phase}
use Rattle.fs_state.specs.declared.conn.Phase.TheVariants.{Fresh, Ready, Ending, Closed}
use Rattle.fs_state.specs.Posting.{posts, with_posts}
use Rattle.fs_state.specs.Switch.{Switch, empty, chan_at, conn_of, waiting_for, without_conn, is_full_of_conns, at_moment, gift_of}
use Rattle.fs_state.specs.Switch.{with_frame_taken, after_entry, all_given}
use Rattle.fs_machine.specs.declared.entry.Entry.{Entry}
use Rattle.fs_machine.specs.declared.entry.Act.{Act}
use Rattle.fs_machine.specs.declared.entry.Act.TheVariants.{Arrive, Command, Take, Close, Dialed, Work, Job, Loaded, Halt}
use Rattle.fs_machine.specs.declared.entry.Closing.TheVariants.{EndOfInput, Sent, Failed}
use Rattle.fs_machine.specs.declared.refusal.Refusal.TheVariants as refusal
use Rattle.fs_machine.specs.Entries.{cost_of}
use Rattle.fs_machine.specs.Connections.{phase_of, phase_at, parted}
use Rattle.fs_machine.specs.Controlling.{controller, coming_number, taken_hold_of, after_dial, held_through, after_letting_go}
use Rattle.fs_machine.specs.Controlling.{is_held, is_left_in, is_left, farewell_behind, after_leavings}
use Rattle.fs_machine.specs.Questions.{owed_to}
use Rattle.fs_machine.specs.Step.{reads, is_closed, busy, refused_where, refused_act, refusal_of, seats_for_conns, new_conn, arrived}
use Rattle.fs_machine.specs.Step.{Acted, act_done, step}
use Rattle.fs_machine.specs.Runs.{run_from, IsRunFrom}
use Rattle.fs_machine.specs.Frames.{frames_among, given_in, given_by, handed_in, command_in}
use Rattle.fs_machine.specs.Concerns.{actor_of, comer_of, IsOwn, IsOthers, Comes, Concerns}
use Rattle.fs_machine.proofs.ControlLemmas.{left_off, behind_conn}
use Rattle.fs_machine.proofs.KeepLemmas.{Settles, settles_same, settles_trans, Keeps, leavings_keep, freed_keeps, act_keeps}
use Rattle.fs_machine.proofs.LeftLemmas.{is_left_in_seat, arrive_done, kept_told_nothing}
use Rattle.fs_machine.proofs.ComingLemmas.{TakesHold, TakesNone, dial_takes, held_advanced, none_keeps, hold_keeps, dial_waits}
use Rattle.fs_machine.proofs.PartLemmas.{settled_parts}
use Rattle.fs_machine.proofs.WaitingLemmas.{Ordered, none_closed, keeps_ordered, keeps_waiting, closed_waits, taken_other}
use Rattle.fs_machine.proofs.PostLemmas.{among_append, posts_gone}
use Rattle.fs_machine.proofs.WaitingLemmas.{without_other, number_new, arrived_ordered, arrived_waits, posted_ordered}
use Rattle.fs_machine.proofs.OrderLemmas.{Orderly, acted_ordered, none_refused, not_full, not_refused, room_left, advanced_orderly}
use Rattle.fs_machine.proofs.OrderLemmas.{left_waits, gone_with, run_orderly, empty_orderly}
use Rattle.fs_machine.proofs.FramesLaws.{close_refused, Lost, entry_follows, none_waits, run_front}

-- ---- whose act it is

is_its : (found : Option ℕ) (conn : ℕ) → (found ≡ Some conn) ⊎ (found ≡ Some conn → ⊥)
is_its None conn = inr (λ same. none-some conn same)
is_its (Some number) conn =
    elim (cases_eq number conn) [ inl same ↦ inl (ap Some same) | inr differ ↦ inr (λ same. differ (same_Some number conn same)) ]

-- the number of one that comes is that which is drawn
pub comer_number : (act : Act) (s : Switch) (number : ℕ) → comer_of act s ≡ Some number → coming_number s ≡ number
comer_number Arrive s number is = same_Some (coming_number s) number is
comer_number (Dialed slot linked) s number is = by (dial_takes linked slot s)
  where
    by : TakesHold linked slot s ⊎ TakesNone linked slot s → coming_number s ≡ number
    by (inl takes) = same_Some (coming_number s) number (sym takes.number ∙ is)
    by (inr takes) = absurd (none-some number (sym takes.none ∙ is))
comer_number _ s number is = absurd (none-some number is)

-- whether one comes is no matter of the clock
comer_advanced : (act : Act) (now : ℕ) (s : Switch) → comer_of act (at_moment now s) ≡ comer_of act s
comer_advanced (Dialed slot linked) now s = held_advanced linked slot now s
comer_advanced _ now s = refl

-- an act by which one comes hands out nothing
pub comer_handed : (act : Act) (s t : Switch) (conn number : ℕ) → comer_of act s ≡ Some number → handed_in conn act t ≡ []
comer_handed (Take taker) s t conn number is = absurd (none-some number is)
comer_handed _ s t conn number is = refl

-- ---- an act of others

-- a connection settles, and the same waits for it
record Spares (conn : ℕ) (s t : Switch) : Type 0 where
  settles : Settles (conn_of s conn) (conn_of t conn)
  waits : waiting_for t conn ≡ waiting_for s conn

keeps_spares : {who : Option ℕ} {may_end : Bool} → (conn : ℕ) (s t : Switch) → Keeps who may_end s t → (who ≡ Some conn → ⊥) →
    Spares conn s t
keeps_spares conn s t keeps apart = record { settles = keeps.others conn apart; waits = keeps_waiting s t keeps conn }

-- one that goes spares the others
without_spares : (conn gone : ℕ) (s : Switch) → (gone ≡ conn → ⊥) → Spares conn s (without_conn gone s)
without_spares conn gone s differ = record {
  settles = settles_same (conn_of s conn) (conn_of (without_conn gone s) conn) (row_of-without_row_other s.conns gone conn differ);
  waits = without_other gone conn s differ;
}

spares_trans : (conn : ℕ) (s t u : Switch) → Spares conn s t → Spares conn t u → Spares conn s u
spares_trans conn s t u first second = record {
  settles = settles_trans (conn_of s conn) (conn_of t conn) (conn_of u conn) first.settles second.settles;
  waits = second.waits ∙ first.waits;
}

-- those whose channel has left them part, and spare all so
left_spares : (conn : ℕ) (s t : Switch) → Spares conn s t → Spares conn s (after_leavings t)
left_spares conn s t spares =
    spares_trans conn s t (after_leavings t) spares
    (keeps_spares conn t (after_leavings t) (leavings_keep {who = None} {may_end = false} t) (none-some conn))

-- one that lets its channel go does, and so it does where it goes then
closed_spares : (conn gone : ℕ) (s : Switch) → (gone ≡ conn → ⊥) → Spares conn s (gone_with gone s)
closed_spares conn gone s differ =
    let free : Switch = after_letting_go gone s in
    left_spares conn s (without_conn gone free)
    (spares_trans conn s free (without_conn gone free)
    (keeps_spares conn s free (freed_keeps {who = None} {may_end = false} gone s) (none-some conn))
    (without_spares conn gone free differ))

-- a dial spares each but the one that comes by it
dial_spares : (conn : ℕ) (linked : Bool) (slot : ℕ) (s : Switch) → Ordered s → s.drawn.conns < 2 ^ 32 - 1 →
    (held_through linked slot s ≡ Some conn → ⊥) → Spares conn s (after_dial linked slot s)
dial_spares conn linked slot s ordered room apart = by (dial_takes linked slot s)
  where
    by : TakesHold linked slot s ⊎ TakesNone linked slot s → Spares conn s (after_dial linked slot s)
    by (inl takes) = record {
      settles =
          settles_same (conn_of s conn) (conn_of (after_dial linked slot s) conn)
          (ap (λ (t : Switch). conn_of t conn) takes.after
          ∙ row_of-with_new_row_other s.conns (coming_number s) (controller slot takes.chan takes.text) conn
          (λ same. apart (takes.number ∙ ap Some same)));
      waits = dial_waits linked slot s conn ordered room;
    }
    by (inr none) =
        keeps_spares conn s (after_dial linked slot s) (none_keeps {who = None} {may_end = false} linked slot s none) (none-some conn)

-- an act spares each whose it is not, and that does not come by it
act_spares : (conn : ℕ) (act : Act) (s : Switch) → Ordered s → s.drawn.conns < 2 ^ 32 - 1 → (actor_of act ≡ Some conn → ⊥) →
    (comer_of act s ≡ Some conn → ⊥) → Spares conn s (act_done act s).state
act_spares conn Arrive s ordered room acts comes = left_spares conn s (arrived s).state (record {
  settles = settles_same (conn_of s conn) (conn_of (arrived s).state conn)
      (row_of-with_new_row_other s.conns (coming_number s) new_conn conn (λ same. comes (ap Some same)));
  waits = arrived_waits s conn ordered room;
})
act_spares conn (Take taker) s ordered room acts comes = left_spares conn s (with_frame_taken taker s) (record {
  settles = settles_same (conn_of s conn) (conn_of s conn) refl;
  waits = taken_other taker conn s (λ same. acts (ap Some same));
})
act_spares conn (Close gone Sent) s ordered room acts comes = closed_spares conn gone s (λ same. acts (ap Some same))
act_spares conn (Close gone Failed) s ordered room acts comes = closed_spares conn gone s (λ same. acts (ap Some same))
act_spares conn (Dialed slot linked) s ordered room acts comes =
    left_spares conn s (after_dial linked slot s) (dial_spares conn linked slot s ordered room comes)
act_spares conn act s ordered room acts comes = keeps_spares conn s (act_done act s).state (act_keeps act s) acts

-- it gives no command
others_command : (conn : ℕ) (act : Act) → (actor_of act ≡ Some conn → ⊥) → command_in conn act ≡ []
others_command conn (Command giver block) apart =
    ap (λ b. if b then block ∷ [] else []) (ne_eqb giver conn (λ same. apart (ap Some same)))
others_command conn _ apart = refl

-- nothing is handed out
others_handed : (conn : ℕ) (act : Act) (s : Switch) → (actor_of act ≡ Some conn → ⊥) → handed_in conn act s ≡ []
others_handed conn (Take taker) s apart =
    ap (λ b. if b then take 1 (waiting_for s conn) else []) (ne_eqb taker conn (λ same. apart (ap Some same)))
others_handed conn _ s apart = refl

pub others : (conn : ℕ) (s : Switch) (entry : Entry) → Orderly s → refusal_of s entry ≡ None →
    (actor_of entry.act ≡ Some conn → ⊥) → (comer_of entry.act s ≡ Some conn → ⊥) → IsOthers conn s entry
unfolding step given_by
others conn s entry orderly none acts comes =
    let now : Switch = at_moment entry.moment s in
    let ordered : Ordered now = (advanced_orderly entry.moment s orderly).ordered in
    let room : s.drawn.conns < 2 ^ 32 - 1 = room_left s orderly (not_full s entry none) in
    let spares : Spares conn now (act_done entry.act now).state =
    act_spares conn entry.act now ordered room acts (λ is. comes (sym (comer_advanced entry.act entry.moment s) ∙ is)) in
    record {
      actor = acts;
      commands = others_command conn entry.act acts;
      handed = others_handed conn entry.act s acts;
      phase = settled_parts conn s (step s entry).state spares.settles;
      owed = spares.settles.owed;
      frames =
          closed_waits (cost_of entry.act) (with_posts s (act_done entry.act now).state) conn
          (posted_ordered s (act_done entry.act now).state (acted_ordered entry.act now ordered room))
          ∙ ap (λ frames. frames ++ given_in conn (with_posts s (act_done entry.act now).state)) spares.waits;
    }

-- ---- an act of its own

-- one that reads commands is open
pub reads_open : (now : Phase) → not (reads now) ≡ false → is_closed now ≡ false
reads_open Fresh e = refl
reads_open Ready e = refl
reads_open Ending e = refl
reads_open Closed e = absurd (cc)

-- whose act is not refused is open
actor_open : (act : Act) (number : ℕ) (s : Switch) → actor_of act ≡ Some number → refused_act act s ≡ None →
    is_closed (phase_at s number) ≡ false
actor_open Arrive number s same none = absurd (none-some number same)
actor_open (Command conn block) number s same none =
    subst (λ n. is_closed (phase_at s n) ≡ false) (same_Some conn number same)
    (reads_open (phase_at s conn) (none_refused (not (reads (phase_at s conn))) refusal.Gone (busy (owed_to s conn)) none).0)
actor_open (Take conn) number s same none =
    subst (λ n. is_closed (phase_at s n) ≡ false) (same_Some conn number same)
    (none_refused (is_closed (phase_at s conn)) refusal.Gone (refused_where (length (waiting_for s conn) == 0) refusal.Empty None) none).0
actor_open (Close conn EndOfInput) number s same none =
    subst (λ n. is_closed (phase_at s n) ≡ false) (same_Some conn number same)
    (reads_open (phase_at s conn) (none_refused (not (reads (phase_at s conn))) refusal.Gone None none).0)
actor_open (Close conn Sent) number s same none =
    subst (λ n. is_closed (phase_at s n) ≡ false) (same_Some conn number same) (close_refused s conn none).0
actor_open (Close conn Failed) number s same none =
    subst (λ n. is_closed (phase_at s n) ≡ false) (same_Some conn number same)
    (none_refused (is_closed (phase_at s conn)) refusal.Gone None none).0
actor_open (Dialed slot linked) number s same none = absurd (none-some number same)
actor_open (Work slot) number s same none = absurd (none-some number same)
actor_open (Job job) number s same none = absurd (none-some number same)
actor_open (Loaded job note) number s same none = absurd (none-some number same)
actor_open Halt number s same none = absurd (none-some number same)

-- one that is closed by an entry is given nothing
pub closed_gives_none : (conn : ℕ) (s : Switch) (entry : Entry) → is_closed (phase_at (step s entry).state conn) ≡ true →
    given_by conn s entry ≡ []
unfolding step given_by
closed_gives_none conn s entry gone =
    ap (λ b. if b then [] else frames_among conn (all_given (with_posts s (act_done entry.act (at_moment entry.moment s)).state))) gone

pub own : (conn : ℕ) (s : Switch) (entry : Entry) → Orderly s → refusal_of s entry ≡ None → actor_of entry.act ≡ Some conn → IsOwn conn s entry
own conn s entry orderly none actor = record {
  actor = actor;
  was_open = actor_open entry.act conn (at_moment entry.moment s) actor (not_refused s entry none);
  frames = λ still. by (entry_follows conn s entry orderly none) still;
  last = closed_gives_none conn s entry;
}
  where
    by : (waiting_for s conn ++ given_by conn s entry ≡ handed_in conn entry.act s ++ waiting_for (step s entry).state conn) ⊎ Lost conn s
        entry →
        is_closed (phase_at (step s entry).state conn) ≡ false →
        waiting_for s conn ++ given_by conn s entry ≡ handed_in conn entry.act s ++ waiting_for (step s entry).state conn
    by (inl follows) still = follows
    by (inr lost) still =
        absurd (both_ways (is_closed (phase_at (step s entry).state conn)) still (none_closed (step s entry).state conn lost.gone))

-- ---- the act by which it comes

-- where not each seat is taken a connection that comes is there
new_there : (c : Conn) (s : Switch) → Ordered s → s.drawn.conns < 2 ^ 32 - 1 → is_full_of_conns s ≡ false →
    row_of (with_new_row s.conns (coming_number s) c) (coming_number s) ≡ Some c
new_there c s ordered room free = by (least_free s.conns 0) refl free
  where
    by : (found : Option ℕ) → least_free s.conns 0 ≡ found → is_none found ≡ false →
        row_of (with_new_row s.conns (coming_number s) c) (coming_number s) ≡ Some c
    by None is free = absurd (cc)
    by (Some put) is free = row_of-with_new_row_same s.conns (coming_number s) c put ordered.distinct (number_new s ordered room) is

-- one that arrives is asked for the password
arrives : (moment : ℕ) (s : Switch) → Orderly s → refusal_of s (record { moment = moment; act = Arrive }) ≡ None →
    Comes (coming_number s) s (record { moment = moment; act = Arrive })
unfolding step given_by
arrives moment s orderly none =
    let new : ℕ = coming_number s in
    let now : Switch = at_moment moment s in
    let ordered : Ordered now = (advanced_orderly moment s orderly).ordered in
    let room : s.drawn.conns < 2 ^ 32 - 1 = room_left s orderly (not_full s (record { moment = moment; act = Arrive }) none) in
    let nowhere : seat_of s.conns new ≡ None = number_new s orderly.ordered room in
    let there : conn_of (arrived now).state new ≡ Some new_conn =
    new_there new_conn s orderly.ordered room
    (none_refused (is_full_of_conns s) (refusal.TooMany (seats_for_conns s)) None
    (none_refused (is_some s.stopping) refusal.Gone (refused_where (is_full_of_conns s) (refusal.TooMany (seats_for_conns s)) None)
    (not_refused s (record { moment = moment; act = Arrive }) none)).1).0 in
    let t : Switch = (arrived now).state in
    let done : act_done Arrive now ≡ arrived now = arrive_done now orderly.settled in
    let given : given_in new (with_posts s t) ≡ auth_request ∷ [] =
    ap (λ found. if is_closed (phase_of found) then [] else frames_among new (all_given (with_posts s t))) there
    ∙ ap (λ gifts. frames_among new ((gifts ++ gift_of new auth_request ∷ []) ++ (posts s t ++ (s.late ++ s.notices)))) orderly.replies
    ∙ ap (λ gifts. frames_among new (gift_of new auth_request ∷ (posts s t ++ (gifts ++ s.notices)))) orderly.late
    ∙ ap (λ gifts. frames_among new (gift_of new auth_request ∷ (posts s t ++ gifts))) orderly.notices
    ∙ ap (λ texts. (if new == new then auth_request ∷ [] else []) ++ texts)
    (among_append new (posts s t) [] ∙ ap (λ texts. texts ++ []) (posts_gone s t new nowhere))
    ∙ ap (λ b. (if b then auth_request ∷ [] else []) ++ []) (eq-eqb new new refl) in
    record {
      comer = refl;
      before = ap phase_of (row_none s.conns new nowhere);
      after = ap (λ (acted : Acted). phase_at acted.state new) done ∙ ap phase_of there;
      given = ap (λ (acted : Acted). given_in new (with_posts s acted.state)) done ∙ given;
      frames =
          ap (λ (acted : Acted). waiting_for (after_entry 64 (with_posts s acted.state)) new) done
          ∙ closed_waits 64 (with_posts s t) new (posted_ordered s t (arrived_ordered now ordered room))
          ∙ ap (λ frames. frames ++ given_in new (with_posts s t))
          (arrived_waits now new ordered room ∙ none_waits s new nowhere)
          ∙ given;
    }

-- ---- a controller comes

module _ (slot : ℕ) (c : Chan) (text : Text) (s : Switch) (ordered : Ordered s) (room : s.drawn.conns < 2 ^ 32 - 1)
    (free : is_full_of_conns s ≡ false) (at : chan_at s slot ≡ Some c) where
  abbrev new : ℕ
  new = coming_number s

  abbrev its : Conn
  its = controller slot c text

  abbrev taken : Switch
  taken = taken_hold_of slot c text s

  its_row : conn_of taken new ≡ Some its
  its_row = new_there its s ordered room free

  -- it holds its channel
  holds : is_left_in taken new its.phase its.control ≡ false
  holds =
      ap (λ (found : Option Chan). not (is_held new found))
      (held_here s.channels slot (Some (held_by new c)) (held_within s.channels slot c at))
      ∙ ap not (eq-eqb new new refl)

  -- so it stays
  pub its_conn : conn_of (after_leavings taken) new ≡ Some its
  its_conn =
      behind_conn taken new ∙ ap (option_map (left_off taken new)) its_row
      ∙ ap (λ (left : Bool). Some (if left then parted parting.ChannelLeft its else its)) holds

  taken_ordered : Ordered taken
  taken_ordered = keeps_ordered (arrived s).state taken (hold_keeps slot c text s) (arrived_ordered s ordered room)

  -- and is given no notice
  pub its_farewells : frames_among new (flat_map (farewell_behind taken) taken.conns) ≡ []
  its_farewells = kept_told_nothing new taken taken.conns (λ seat has. by seat has (held_in taken.conns seat) refl)
    where
      of : (row : Numbered Conn) → row.number ≡ new → row.held ≡ its → is_left taken row ≡ false
      of row numbered same =
          ap (λ (n : ℕ). is_left_in taken n row.held.phase row.held.control) numbered
          ∙ ap (λ (d : Conn). is_left_in taken new d.phase d.control) same
          ∙ holds

      by : (seat : ℕ) → has_number new (held_in taken.conns seat) ≡ true → (held : Option (Numbered Conn)) →
          held_in taken.conns seat ≡ held → is_left_in_seat taken held ≡ false
      by seat has None there = refl
      by seat has (Some row) there =
          of row (eqb-true row.number new (sym (ap (has_number new) there) ∙ has))
          (same_Some row.held its
          (sym (row_at taken.conns new seat (stands_seat taken.conns new seat taken_ordered.distinct has) ∙ ap held_of there) ∙ its_row))

  -- nothing waits for it
  pub its_waits : waiting_for (after_leavings taken) new ≡ []
  its_waits =
      left_waits taken new
      ∙ keeps_waiting (arrived s).state taken (hold_keeps slot c text s) new
      ∙ arrived_waits s new ordered room
      ∙ none_waits s new (number_new s ordered room)

-- it is given nothing
takes : (moment slot : ℕ) (linked : Bool) (s : Switch) → Orderly s →
    refusal_of s (record { moment = moment; act = Dialed slot linked }) ≡ None → TakesHold linked slot (at_moment moment s) →
    Comes (coming_number s) s (record { moment = moment; act = Dialed slot linked })
unfolding step given_by
takes moment slot linked s orderly none hold =
    let new : ℕ = coming_number s in
    let now : Switch = at_moment moment s in
    let ordered : Ordered now = (advanced_orderly moment s orderly).ordered in
    let room : s.drawn.conns < 2 ^ 32 - 1 = room_left s orderly (not_full s (record { moment = moment; act = Dialed slot linked }) none) in
    let nowhere : seat_of s.conns new ≡ None = number_new s orderly.ordered room in
    let taken : Switch = taken_hold_of slot hold.chan hold.text now in
    let t : Switch = after_leavings taken in
    let done : (act_done (Dialed slot linked) now).state ≡ t = ap after_leavings hold.after in
    let there : conn_of t new ≡ Some (controller slot hold.chan hold.text) =
    its_conn slot hold.chan hold.text now ordered room hold.room hold.there in
    let given : given_in new (with_posts s t) ≡ [] =
    ap (λ found. if is_closed (phase_of found) then [] else frames_among new (all_given (with_posts s t))) there
    ∙ ap (λ gifts. frames_among new (gifts ++ (posts s t ++ (s.late ++ t.notices)))) orderly.replies
    ∙ ap (λ gifts. frames_among new (posts s t ++ (gifts ++ t.notices))) orderly.late
    ∙ ap (λ gifts. frames_among new (posts s t ++ (gifts ++ flat_map (farewell_behind taken) taken.conns))) orderly.notices
    ∙ among_append new (posts s t) (flat_map (farewell_behind taken) taken.conns)
    ∙ ap (λ texts. texts ++ frames_among new (flat_map (farewell_behind taken) taken.conns)) (posts_gone s t new nowhere)
    ∙ its_farewells slot hold.chan hold.text now ordered room hold.room hold.there in
    record {
      comer = sym (held_advanced linked slot moment s) ∙ hold.number;
      before = ap phase_of (row_none s.conns new nowhere);
      after = ap (λ (u : Switch). phase_at u new) done ∙ ap phase_of there;
      given = ap (λ (u : Switch). given_in new (with_posts s u)) done ∙ given;
      frames =
          ap (λ (u : Switch). waiting_for (after_entry 64 (with_posts s u)) new) done
          ∙ closed_waits 64 (with_posts s t) new
          (posted_ordered s t (subst Ordered done (acted_ordered (Dialed slot linked) now ordered room)))
          ∙ ap (λ frames. frames ++ given_in new (with_posts s t))
          (its_waits slot hold.chan hold.text now ordered room hold.room hold.there)
          ∙ given;
    }

-- each connection that comes by an act
pub comes : (conn moment : ℕ) (act : Act) (s : Switch) → Orderly s → refusal_of s (record { moment = moment; act = act }) ≡ None →
    comer_of act s ≡ Some conn → Comes conn s (record { moment = moment; act = act })
comes conn moment Arrive s orderly none comer =
    subst (λ number. Comes number s (record { moment = moment; act = Arrive })) (comer_number Arrive s conn comer)
    (arrives moment s orderly none)
comes conn moment (Dialed slot linked) s orderly none comer = by (dial_takes linked slot (at_moment moment s))
  where
    by : TakesHold linked slot (at_moment moment s) ⊎ TakesNone linked slot (at_moment moment s) →
        Comes conn s (record { moment = moment; act = Dialed slot linked })
    by (inl hold) =
        subst (λ number. Comes number s (record { moment = moment; act = Dialed slot linked }))
        (comer_number (Dialed slot linked) s conn comer) (takes moment slot linked s orderly none hold)
    by (inr hold) = absurd (none-some conn (sym hold.none ∙ (held_advanced linked slot moment s ∙ comer)))
comes conn moment _ s orderly none comer = absurd (none-some conn comer)

-- ---- each entry

act_concerns : (conn moment : ℕ) (act : Act) (s : Switch) → Orderly s → refusal_of s (record { moment = moment; act = act }) ≡ None →
    Concerns conn s (record { moment = moment; act = act })
act_concerns conn moment act s orderly none =
    elim (is_its (comer_of act s) conn) [
      | inl comer ↦ inr (inr (comes conn moment act s orderly none comer))
      | inr apart ↦
          elim (is_its (actor_of act) conn) [
            | inl actor ↦ inl (own conn s (record { moment = moment; act = act }) orderly none actor)
            | inr differs ↦ inr (inl (others conn s (record { moment = moment; act = act }) orderly none differs apart))
          ]
    ]

pub concerns : (config : Configuration) (entries : List Entry) (entry : Entry) (conn : ℕ) → config.settings.journal_limit ≤ 1073741824 →
    IsRunFrom (empty config) (entries ++ entry ∷ []) → Concerns conn (run_from (empty config) entries) entry
concerns config entries entry conn limit run =
    let front = run_front (empty config) entries entry run in
    act_concerns conn entry.moment entry.act (run_from (empty config) entries)
    (run_orderly (empty config) entries (empty_orderly config limit) front.0) front.1
