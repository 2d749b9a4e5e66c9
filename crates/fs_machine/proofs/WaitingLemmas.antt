-- What waits for connections, before and after a change.
use Rattle.std.proofs.Common.{◌≡◌, ℕ, ◌+◌, ◌-◌, ◌^◌, ◌<◌, ◌≤◌, ◌==◌, min, Bool, true, false, if◌then◌else◌, List, [], ◌∷◌, ◌++◌, length}
use Rattle.std.proofs.Common.{drop, Option, None, Some, ◌⊎◌, inl, inr, refl, sym, ap, subst, ◌∙◌, append_assoc, append-nil, arith}
use Rattle.std.proofs.lemmas.List.{get_or-set_same, get_or-set_other, length-set, length-map}
use Rattle.std.proofs.lemmas.Bool.{cases_eq}
use Rattle.fs_text.specs.Texts.{Text}
use Rattle.fs_seats.specs.declared.numbered.Numbered.{Numbered}
use Rattle.fs_seats.specs.Seats.{held_in, least_free}
use Rattle.fs_seats.specs.Rows.{has_number, seat_of, with_new_row}
use Rattle.fs_seats.proofs.RowLemmas.{AreDistinct, AreWithin, held_of, row_at, row_none, each_put_at, length_put_at, seat_stands}
use Rattle.fs_seats.proofs.RowLemmas.{seat_within, seats_apart, above_nowhere, seats_same, distinct_same, distinct-without_row}
use Rattle.fs_seats.proofs.RowLemmas.{within-without_row, seat_of-without_row_same, seat_of-without_row_other, distinct-with_new_row}
use Rattle.fs_seats.proofs.RowLemmas.{within-with_new_row, seat_of-with_new_row_other, new_stands, new_free}
use Rattle.fs_state.specs.declared.conn.Conn.{Conn}
use Rattle.fs_state.specs.declared.conn.Parting.TheVariants.{ChannelLeft}
use Rattle.fs_state.specs.Frames.{Gift}
use Rattle.fs_state.specs.Drawn as numbers
use Rattle.fs_state.specs.Frames.{Frames, texts_of}
use Rattle.fs_state.specs.Outboxes.{outbox_at, without_first_frame, without_frames, with_frames_at, delivered}
use Rattle.fs_state.specs.Posting.{posts, with_posts}
use Rattle.fs_state.specs.Switch.{Switch, waiting_at, outgoing_for, waiting_for, changed_at, with_frame_taken, without_conn, all_given}
use Rattle.fs_state.specs.Switch.{with_new_conn, after_entry}
use Rattle.fs_state.specs.Moves.{after_completion}
use Rattle.fs_state.proofs.GiftLemmas.{AreQuiet, quiet_less, quiet_taken, quiet_delivered, changed_length, given_length, delivered_length}
use Rattle.fs_state.proofs.GiftLemmas.{one_given, texts_append, texts_drop}
use Rattle.fs_machine.specs.Connections.{phase_of, phase_at, parted}
use Rattle.fs_machine.specs.Controlling.{is_left, conn_behind, controller, taken_hold_of, after_dial, after_letting_go, after_leavings}
use Rattle.fs_machine.specs.Step.{is_closed, new_conn, arrived}
use Rattle.fs_machine.specs.Frames.{frames_among, given_in}
use Rattle.fs_machine.proofs.PostLemmas.{frames_for, texts_for, nothing_posted}
use Rattle.fs_machine.proofs.RestLemmas.{Rest, rest_of, whichever}
use Rattle.fs_machine.proofs.ControlLemmas.{behind_held, behind_numbers, behind_seat}
use Rattle.fs_machine.proofs.DialedLemmas.{dialed_by, completed_rest, freed_rest}
use Rattle.fs_machine.proofs.KeepLemmas.{is_shut, AreOpen, Keeps}

-- the connections of a switch and its outboxes fit together
pub record Ordered (s : Switch) : Type 0 where
  pub distinct : AreDistinct s.conns
  pub within : AreWithin s.drawn.conns s.conns
  pub opened : AreOpen s.conns
  pub seats : length s.outboxes ≡ length s.conns
  pub quiet : AreQuiet s.conns s.outboxes

-- ---- whether a connection is there

-- one that is not there is closed
pub none_closed : (s : Switch) (conn : ℕ) → seat_of s.conns conn ≡ None → is_closed (phase_at s conn) ≡ true
none_closed s conn is = ap (λ found. is_closed (phase_of found)) (row_none s.conns conn is)

-- what stands for a connection is open
held_open : (held : Option (Numbered Conn)) (number : ℕ) → is_shut held ≡ false → has_number number held ≡ true →
    is_closed (phase_of (held_of held)) ≡ false
held_open None number shut has = absurd (cc)
held_open (Some row) number shut has = shut

-- one that is there is open
pub some_open : (s : Switch) (conn seat : ℕ) → AreOpen s.conns → seat_of s.conns conn ≡ Some seat → is_closed (phase_at s conn) ≡ false
some_open s conn seat opened is =
    ap (λ found. is_closed (phase_of found)) (row_at s.conns conn seat is)
    ∙ held_open (held_in s.conns seat) conn (opened seat) (seat_stands s.conns conn seat is)

-- ---- a step that keeps the connections

-- connections and outboxes fit together as before
pub keeps_ordered : {who : Option ℕ} {may_end : Bool} → (s t : Switch) → Keeps who may_end s t → Ordered s → Ordered t
keeps_ordered s t keeps ordered = record {
  distinct = distinct_same s.conns t.conns keeps.numbers ordered.distinct;
  within = λ number seat stands. subst (λ bound. number ≤ bound) (sym keeps.drawn)
      (ordered.within number seat (sym (keeps.numbers number seat) ∙ stands));
  opened = keeps.opened ordered.opened;
  seats = ap length keeps.outboxes ∙ ordered.seats ∙ sym keeps.seats;
  quiet = λ seat free. ap (λ outboxes. outbox_at outboxes seat) keeps.outboxes
      ∙ ordered.quiet seat (λ number. sym (keeps.numbers number seat) ∙ free number);
}

-- the same frames wait
pub keeps_outgoing : {who : Option ℕ} {may_end : Bool} → (s t : Switch) → Keeps who may_end s t → (conn : ℕ) →
    outgoing_for t conn ≡ outgoing_for s conn
keeps_outgoing s t keeps conn =
    ap (λ outboxes. waiting_at outboxes (seat_of t.conns conn)) keeps.outboxes
    ∙ ap (waiting_at s.outboxes) (seats_same s.conns t.conns keeps.numbers conn)

pub keeps_waiting : {who : Option ℕ} {may_end : Bool} → (s t : Switch) → Keeps who may_end s t → (conn : ℕ) →
    waiting_for t conn ≡ waiting_for s conn
keeps_waiting s t keeps conn = ap texts_of (keeps_outgoing s t keeps conn)

-- each connection has the same seat
pub keeps_seat : {who : Option ℕ} {may_end : Bool} → (s t : Switch) → Keeps who may_end s t → (conn : ℕ) →
    seat_of t.conns conn ≡ seat_of s.conns conn
keeps_seat s t keeps conn = seats_same s.conns t.conns keeps.numbers conn

-- ---- a change that leaves connections and outboxes as they are

rest_ordered : (s t : Switch) → rest_of t ≡ rest_of s → Ordered s → Ordered t
rest_ordered s t same ordered = record {
  distinct = subst (λ (r : Rest). AreDistinct r.conns) (sym same) ordered.distinct;
  within = subst (λ (r : Rest). AreWithin r.conns_drawn r.conns) (sym same) ordered.within;
  opened = subst (λ (r : Rest). AreOpen r.conns) (sym same) ordered.opened;
  seats = subst (λ (r : Rest). length r.outboxes ≡ length r.conns) (sym same) ordered.seats;
  quiet = subst (λ (r : Rest). AreQuiet r.conns r.outboxes) (sym same) ordered.quiet;
}

rest_outgoing : (s t : Switch) → rest_of t ≡ rest_of s → (conn : ℕ) → outgoing_for t conn ≡ outgoing_for s conn
rest_outgoing s t same conn = ap (λ (r : Rest). waiting_at r.outboxes (seat_of r.conns conn)) same

-- a connection lets its channel go
pub freed_ordered : (conn : ℕ) (s : Switch) → Ordered s → Ordered (after_letting_go conn s)
freed_ordered conn s ordered = rest_ordered s (after_letting_go conn s) (freed_rest conn s) ordered

pub freed_outgoing : (gone : ℕ) (s : Switch) (conn : ℕ) → outgoing_for (after_letting_go gone s) conn ≡ outgoing_for s conn
freed_outgoing gone s conn = rest_outgoing s (after_letting_go gone s) (freed_rest gone s) conn

-- ---- connections part whose channels have left them

pub left_ordered : (s : Switch) → Ordered s → Ordered (after_leavings s)
left_ordered s ordered = record {
  distinct = distinct_same s.conns (after_leavings s).conns (behind_numbers s s.conns) ordered.distinct;
  within = λ number seat stands. ordered.within number seat (sym (behind_numbers s s.conns number seat) ∙ stands);
  opened = λ seat. ap is_shut (behind_held s s.conns seat) ∙ by (held_in s.conns seat) (ordered.opened seat);
  seats = ordered.seats ∙ sym (length-map s.conns (conn_behind s));
  quiet = λ seat free. ordered.quiet seat (λ number. sym (behind_numbers s s.conns number seat) ∙ free number);
}
  where
    of : (row : Numbered Conn) (left : Bool) → is_closed row.held.phase ≡ false →
        is_shut (Some (if left then record { number = row.number; held = parted ChannelLeft row.held } else row)) ≡ false
    of row true shut = refl
    of row false shut = shut

    by : (held : Option (Numbered Conn)) → is_shut held ≡ false → is_shut (conn_behind s held) ≡ false
    by None shut = refl
    by (Some row) shut = of row (is_left s row) shut

-- the same frames wait
pub left_outgoing : (s : Switch) (conn : ℕ) → outgoing_for (after_leavings s) conn ≡ outgoing_for s conn
left_outgoing s conn = ap (waiting_at s.outboxes) (behind_seat s s.conns conn)

pub left_waits : (s : Switch) (conn : ℕ) → waiting_for (after_leavings s) conn ≡ waiting_for s conn
left_waits s conn = ap texts_of (left_outgoing s conn)

-- ---- gifts

-- all gifts, one after another
each_given : (conns : List (Option (Numbered Conn))) (conn seat : ℕ) (gifts : List Gift) (outboxes : List Frames) →
    seat_of conns conn ≡ Some seat → seat < length outboxes →
    outbox_at (delivered conns gifts outboxes) seat ≡ outbox_at outboxes seat ++ frames_for conn gifts
each_given conns conn seat [] outboxes is within = sym (append-nil (outbox_at outboxes seat))
each_given conns conn seat (gift ∷ gifts) outboxes is within =
    each_given conns conn seat gifts (with_frames_at (seat_of conns gift.conn) gift.frames outboxes) is
    (subst (λ n. seat < n) (sym (given_length (seat_of conns gift.conn) gift.frames outboxes)) within)
    ∙ ap (λ outbox. outbox ++ frames_for conn gifts) (one_given conns outboxes conn seat gift is within)
    ∙ append_assoc (outbox_at outboxes seat) (if gift.conn == conn then gift.frames else []) (frames_for conn gifts)

-- the frames that the entry in hand gives a connection; one that is closed gets none
abbrev pub outgoing_given : ℕ → Switch → Frames
outgoing_given conn s = if is_closed (phase_at s conn) then [] else frames_for conn (all_given s)

-- their texts
pub texts_given : (conn : ℕ) (s : Switch) → texts_of (outgoing_given conn s) ≡ given_in conn s
texts_given conn s = by (is_closed (phase_at s conn))
  where
    by : (b : Bool) → texts_of (if b then [] else frames_for conn (all_given s)) ≡ (if b then [] else frames_among conn (all_given s))
    by true = refl
    by false = texts_for conn (all_given s)

-- ---- the end of an entry

-- what is posted is no matter of connections
pub posted_ordered : (before t : Switch) → Ordered t → Ordered (with_posts before t)
posted_ordered before t ordered = record {
  distinct = ordered.distinct;
  within = ordered.within;
  opened = ordered.opened;
  seats = ordered.seats;
  quiet = ordered.quiet;
}

-- connections and outboxes fit together as before
pub closed_ordered : (cost : ℕ) (t : Switch) → Ordered t → Ordered (after_entry cost t)
closed_ordered cost t ordered = record {
  distinct = ordered.distinct;
  within = ordered.within;
  opened = ordered.opened;
  seats = delivered_length t.conns (all_given t) t.outboxes ∙ ordered.seats;
  quiet = quiet_delivered t.conns (all_given t) t.outboxes ordered.quiet;
}

-- one that is not there is given nothing
pub none_given : (t : Switch) (conn : ℕ) → seat_of t.conns conn ≡ None → given_in conn t ≡ []
none_given t conn is = ap (λ b. if b then [] else frames_among conn (all_given t)) (none_closed t conn is)

-- what is given waits behind what waited
pub closed_outgoing : (cost : ℕ) (t : Switch) (conn : ℕ) → Ordered t →
    outgoing_for (after_entry cost t) conn ≡ outgoing_for t conn ++ outgoing_given conn t
closed_outgoing cost t conn ordered = by (seat_of t.conns conn) refl
  where
    by : (found : Option ℕ) → seat_of t.conns conn ≡ found →
        waiting_at (delivered t.conns (all_given t) t.outboxes) found ≡ waiting_at t.outboxes found ++ outgoing_given conn t
    by None is = sym (ap (λ b. if b then [] else frames_for conn (all_given t)) (none_closed t conn is))
    by (Some seat) is =
        each_given t.conns conn seat (all_given t) t.outboxes is
        (subst (λ n. seat < n) (sym ordered.seats) (seat_within t.conns conn seat is))
        ∙ ap (λ b. outbox_at t.outboxes seat ++ (if b then [] else frames_for conn (all_given t)))
        (sym (some_open t conn seat ordered.opened is))

pub closed_waits : (cost : ℕ) (t : Switch) (conn : ℕ) → Ordered t →
    waiting_for (after_entry cost t) conn ≡ waiting_for t conn ++ given_in conn t
closed_waits cost t conn ordered =
    ap texts_of (closed_outgoing cost t conn ordered) ∙ texts_append (outgoing_for t conn) (outgoing_given conn t)
    ∙ ap (λ texts. waiting_for t conn ++ texts) (texts_given conn t)

-- where no gift is nothing is given
pub nothing_given : (t : Switch) (conn : ℕ) → all_given t ≡ [] → given_in conn t ≡ []
nothing_given t conn none =
    ap (λ gifts. if is_closed (phase_at t conn) then [] else frames_among conn gifts) none
    ∙ whichever (λ (texts : List Text). texts ≡ []) (is_closed (phase_at t conn)) [] [] refl refl

-- so it is where nothing is answered, nothing happened, and nothing else is given
pub none_in_all : (before t : Switch) → t.replies ≡ [] → t.news ≡ [] → t.late ≡ [] → t.notices ≡ [] →
    all_given (with_posts before t) ≡ []
none_in_all before t replies news late notices =
    ap (λ gifts. gifts ++ (posts before t ++ (t.late ++ t.notices))) replies
    ∙ ap (λ gifts. gifts ++ (t.late ++ t.notices)) (nothing_posted before t news)
    ∙ ap (λ gifts. gifts ++ t.notices) late ∙ notices

-- an entry that gives nothing leaves what waits
pub closed_quietly : (cost : ℕ) (t : Switch) (conn : ℕ) → Ordered t → all_given t ≡ [] →
    waiting_for (after_entry cost t) conn ≡ waiting_for t conn
closed_quietly cost t conn ordered none =
    closed_waits cost t conn ordered ∙ ap (λ frames. waiting_for t conn ++ frames) (nothing_given t conn none)
    ∙ append-nil (waiting_for t conn)

-- ---- a frame is taken

pub taken_ordered : (taker : ℕ) (s : Switch) → Ordered s → Ordered (with_frame_taken taker s)
taken_ordered taker s ordered = record {
  distinct = ordered.distinct;
  within = ordered.within;
  opened = ordered.opened;
  seats = changed_length without_first_frame (λ seat outboxes. length-set outboxes seat (drop 1 (outbox_at outboxes seat)))
      (seat_of s.conns taker) s.outboxes ∙ ordered.seats;
  quiet = quiet_taken s.conns s.outboxes taker (seat_of s.conns taker) refl ordered.quiet;
}

-- the others wait for that connection
pub taken_outgoing : (conn : ℕ) (s : Switch) → Ordered s → outgoing_for (with_frame_taken conn s) conn ≡ drop 1 (outgoing_for s conn)
taken_outgoing conn s ordered = by (seat_of s.conns conn) refl
  where
    by : (found : Option ℕ) → seat_of s.conns conn ≡ found →
        waiting_at (changed_at without_first_frame found s.outboxes) found ≡ drop 1 (waiting_at s.outboxes found)
    by None is = refl
    by (Some seat) is =
        get_or-set_same s.outboxes seat (drop 1 (outbox_at s.outboxes seat)) []
        (subst (λ n. seat < n) (sym ordered.seats) (seat_within s.conns conn seat is))

pub taken_same : (conn : ℕ) (s : Switch) → Ordered s → waiting_for (with_frame_taken conn s) conn ≡ drop 1 (waiting_for s conn)
taken_same conn s ordered = ap texts_of (taken_outgoing conn s ordered) ∙ texts_drop 1 (outgoing_for s conn)

-- and for all others what waited
pub taken_apart : (taker conn : ℕ) (s : Switch) → (taker ≡ conn → ⊥) → outgoing_for (with_frame_taken taker s) conn ≡ outgoing_for s conn
taken_apart taker conn s differ = by (seat_of s.conns taker) (seat_of s.conns conn) refl refl
  where
    by : (there found : Option ℕ) → seat_of s.conns taker ≡ there → seat_of s.conns conn ≡ found →
        waiting_at (changed_at without_first_frame there s.outboxes) found ≡ waiting_at s.outboxes found
    by None found is_there is = refl
    by (Some seat) None is_there is = refl
    by (Some seat) (Some mine) is_there is =
        get_or-set_other s.outboxes seat mine (drop 1 (outbox_at s.outboxes seat)) []
        (λ same. differ (sym (seats_apart s.conns conn taker mine seat is is_there same)))

pub taken_other : (taker conn : ℕ) (s : Switch) → (taker ≡ conn → ⊥) → waiting_for (with_frame_taken taker s) conn ≡ waiting_for s conn
taken_other taker conn s differ = ap texts_of (taken_apart taker conn s differ)

-- ---- a connection goes

pub without_ordered : (gone : ℕ) (s : Switch) → Ordered s → Ordered (without_conn gone s)
without_ordered gone s ordered = record {
  distinct = distinct-without_row s.conns gone ordered.distinct;
  within = within-without_row s.conns gone s.drawn.conns ordered.within;
  opened = each_put_at (λ held. is_shut held ≡ false) s.conns None (seat_of s.conns gone) ordered.opened refl;
  seats =
      changed_length without_frames (λ seat outboxes. length-set outboxes seat []) (seat_of s.conns gone) s.outboxes ∙ ordered.seats
      ∙ sym (length_put_at s.conns None (seat_of s.conns gone));
  quiet = quiet_less s.conns s.outboxes (seat_of s.conns gone) ordered.quiet;
}

-- nothing waits for it any more
pub without_outgoing : (gone : ℕ) (s : Switch) → Ordered s → outgoing_for (without_conn gone s) gone ≡ []
without_outgoing gone s ordered =
    ap (waiting_at (changed_at without_frames (seat_of s.conns gone) s.outboxes)) (seat_of-without_row_same s.conns gone ordered.distinct)

pub without_same : (gone : ℕ) (s : Switch) → Ordered s → waiting_for (without_conn gone s) gone ≡ []
without_same gone s ordered = ap texts_of (without_outgoing gone s ordered)

-- for all others waits what waited
pub without_apart : (gone conn : ℕ) (s : Switch) → (gone ≡ conn → ⊥) → outgoing_for (without_conn gone s) conn ≡ outgoing_for s conn
without_apart gone conn s differ =
    ap (waiting_at (changed_at without_frames (seat_of s.conns gone) s.outboxes)) (seat_of-without_row_other s.conns gone conn differ)
    ∙ by (seat_of s.conns gone) (seat_of s.conns conn) refl refl
  where
    by : (there found : Option ℕ) → seat_of s.conns gone ≡ there → seat_of s.conns conn ≡ found →
        waiting_at (changed_at without_frames there s.outboxes) found ≡ waiting_at s.outboxes found
    by None found is_there is = refl
    by (Some seat) None is_there is = refl
    by (Some seat) (Some mine) is_there is =
        get_or-set_other s.outboxes seat mine [] [] (λ same. differ (sym (seats_apart s.conns conn gone mine seat is is_there same)))

pub without_other : (gone conn : ℕ) (s : Switch) → (gone ≡ conn → ⊥) → waiting_for (without_conn gone s) conn ≡ waiting_for s conn
without_other gone conn s differ = ap texts_of (without_apart gone conn s differ)

-- ---- a connection comes

-- its number is greater than those before
pub number_above : (drawn : ℕ) → drawn < 2 ^ 32 - 1 → drawn < min (drawn + 1) (2 ^ 32 - 1)
number_above drawn room = omega arith

-- so no connection has it
pub number_new : (s : Switch) → Ordered s → s.drawn.conns < 2 ^ 32 - 1 → seat_of s.conns (numbers.with_conn s.drawn).conns ≡ None
number_new s ordered room =
    above_nowhere s.conns s.drawn.conns (numbers.with_conn s.drawn).conns ordered.within (number_above s.drawn.conns room)

pub come_ordered : (new : Conn) (s : Switch) → is_closed new.phase ≡ false → Ordered s → s.drawn.conns < 2 ^ 32 - 1 →
    Ordered (with_new_conn new s)
come_ordered new s shut ordered room = record {
  distinct = distinct-with_new_row s.conns (numbers.with_conn s.drawn).conns new ordered.distinct (number_new s ordered room);
  within = within-with_new_row s.conns (numbers.with_conn s.drawn).conns new (numbers.with_conn s.drawn).conns
      (λ number seat stands. omega (arith, ordered.within number seat stands, number_above s.drawn.conns room)) (omega arith);
  opened =
      each_put_at (λ held. is_shut held ≡ false) s.conns (Some (record { number = (numbers.with_conn s.drawn).conns; held = new }))
      (least_free s.conns 0) ordered.opened shut;
  seats = ordered.seats
      ∙ sym (length_put_at s.conns (Some (record { number = (numbers.with_conn s.drawn).conns; held = new })) (least_free s.conns 0));
  quiet = λ seat free. ordered.quiet seat (new_free s.conns (numbers.with_conn s.drawn).conns new seat free);
}

pub arrived_ordered : (s : Switch) → Ordered s → s.drawn.conns < 2 ^ 32 - 1 → Ordered (arrived s).state
arrived_ordered s ordered room =
    let come : Ordered (with_new_conn new_conn s) = come_ordered new_conn s refl ordered room in
    record { distinct = come.distinct; within = come.within; opened = come.opened; seats = come.seats; quiet = come.quiet }

-- nothing waits for it yet but what the entry gives
pub come_outgoing : (new : Conn) (s : Switch) (conn : ℕ) → Ordered s → s.drawn.conns < 2 ^ 32 - 1 →
    outgoing_for (with_new_conn new s) conn ≡ outgoing_for s conn
come_outgoing new s conn ordered room = by (cases_eq (numbers.with_conn s.drawn).conns conn)
  where
    none : seat_of s.conns (numbers.with_conn s.drawn).conns ≡ None
    none = number_new s ordered room

    nothing : (found : Option ℕ) →
        seat_of (with_new_row s.conns (numbers.with_conn s.drawn).conns new) (numbers.with_conn s.drawn).conns ≡ found →
        waiting_at s.outboxes found ≡ []
    nothing None is = refl
    nothing (Some seat) is =
        ordered.quiet seat (new_stands s.conns (numbers.with_conn s.drawn).conns new seat none
        (seat_stands (with_new_row s.conns (numbers.with_conn s.drawn).conns new) (numbers.with_conn s.drawn).conns seat is))

    by : ((numbers.with_conn s.drawn).conns ≡ conn) ⊎ ((numbers.with_conn s.drawn).conns ≡ conn → ⊥) →
        outgoing_for (with_new_conn new s) conn ≡ outgoing_for s conn
    by (inl same) = subst (λ number. outgoing_for (with_new_conn new s) number ≡ outgoing_for s number) same
        (nothing (seat_of (with_new_row s.conns (numbers.with_conn s.drawn).conns new) (numbers.with_conn s.drawn).conns) refl
        ∙ sym (ap (waiting_at s.outboxes) none))
    by (inr differ) = ap (waiting_at s.outboxes) (seat_of-with_new_row_other s.conns (numbers.with_conn s.drawn).conns new conn differ)

pub arrived_outgoing : (s : Switch) (conn : ℕ) → Ordered s → s.drawn.conns < 2 ^ 32 - 1 →
    outgoing_for (arrived s).state conn ≡ outgoing_for s conn
arrived_outgoing s conn ordered room = come_outgoing new_conn s conn ordered room

pub arrived_waits : (s : Switch) (conn : ℕ) → Ordered s → s.drawn.conns < 2 ^ 32 - 1 →
    waiting_for (arrived s).state conn ≡ waiting_for s conn
arrived_waits s conn ordered room = ap texts_of (arrived_outgoing s conn ordered room)

-- one that had a smaller number, and is gone, stays so
pub come_gone : (new : Conn) (s : Switch) (conn : ℕ) → s.drawn.conns < 2 ^ 32 - 1 → seat_of s.conns conn ≡ None → conn ≤ s.drawn.conns →
    seat_of (with_new_conn new s).conns conn ≡ None
come_gone new s conn room none below =
    seat_of-with_new_row_other s.conns (numbers.with_conn s.drawn).conns new conn
    (λ same. omega (arith, number_above s.drawn.conns room, below, same)) ∙ none

pub arrived_gone : (s : Switch) (conn : ℕ) → s.drawn.conns < 2 ^ 32 - 1 → seat_of s.conns conn ≡ None → conn ≤ s.drawn.conns →
    seat_of (arrived s).state.conns conn ≡ None
arrived_gone s conn room none below = come_gone new_conn s conn room none below

-- ---- a controller was dialed

-- its connection comes, or none does
pub dialed_ordered : (linked : Bool) (slot : ℕ) (s : Switch) → Ordered s → s.drawn.conns < 2 ^ 32 - 1 → Ordered (after_dial linked slot s)
dialed_ordered linked slot s ordered room =
    dialed_by Ordered linked slot s ordered
    (λ c text. rest_ordered (with_new_conn (controller slot c text) s) (taken_hold_of slot c text s) refl
    (come_ordered (controller slot c text) s refl ordered room))
    (rest_ordered s (after_completion slot s) (completed_rest slot s) ordered)

pub dialed_outgoing : (linked : Bool) (slot : ℕ) (s : Switch) (conn : ℕ) → Ordered s → s.drawn.conns < 2 ^ 32 - 1 →
    outgoing_for (after_dial linked slot s) conn ≡ outgoing_for s conn
dialed_outgoing linked slot s conn ordered room =
    dialed_by (λ (t : Switch). outgoing_for t conn ≡ outgoing_for s conn) linked slot s refl
    (λ c text. come_outgoing (controller slot c text) s conn ordered room)
    (rest_outgoing s (after_completion slot s) (completed_rest slot s) conn)

-- one that is gone stays so when another goes
pub without_gone : (gone : ℕ) (s : Switch) (conn : ℕ) → Ordered s → seat_of s.conns conn ≡ None →
    seat_of (without_conn gone s).conns conn ≡ None
without_gone gone s conn ordered none = by (cases_eq gone conn)
  where
    by : (gone ≡ conn) ⊎ (gone ≡ conn → ⊥) → seat_of (without_conn gone s).conns conn ≡ None
    by (inl same) =
        subst (λ number. seat_of (without_conn gone s).conns number ≡ None) same (seat_of-without_row_same s.conns gone ordered.distinct)
    by (inr differ) = seat_of-without_row_other s.conns gone conn differ ∙ none
