-- The frames that entries give a connection are those that they hand out to it, and then those that wait.
use Rattle.std.proofs.Common.{◌≡◌, ℕ, ◌-◌, ◌^◌, ◌<◌, ◌≤◌, ◌==◌, Bool, true, false, if◌then◌else◌, not, ◌||◌, List, [], ◌∷◌, ◌++◌, length}
use Rattle.std.proofs.Common.{take, drop, Option, None, Some, is_some, ◌⊎◌, inl, inr, refl, sym, ap, subst, ◌∙◌, append_assoc, append-nil}
use Rattle.std.proofs.Common.{take-append-drop, arith}
use Rattle.std.proofs.lemmas.Bool.{both_ways, eqb-true, eqb-false, cases_eq, or_parts, not-false}
use Rattle.std.proofs.lemmas.List.{nil_from_length}
use Rattle.fs_doc.specs.Reading.{Configuration}
use Rattle.fs_seats.specs.Rows.{seat_of}
use Rattle.fs_seats.proofs.RowLemmas.{seat_stands}
use Rattle.fs_text.specs.Texts.{Text}
use Rattle.fs_state.specs.Frames.{texts_of}
use Rattle.fs_state.specs.Posting.{with_posts}
use Rattle.fs_state.specs.Switch.{Switch, empty, waiting_at, waiting_for, with_frame_taken, at_moment, after_entry, all_given}
use Rattle.fs_machine.specs.declared.entry.Entry.{Entry}
use Rattle.fs_machine.specs.declared.entry.Act.{Act}
use Rattle.fs_machine.specs.declared.entry.Act.TheVariants.{Arrive, Take, Close, Dialed}
use Rattle.fs_machine.specs.declared.entry.Closing.TheVariants.{Sent, Failed}
use Rattle.fs_machine.specs.declared.refusal.Refusal.TheVariants as refusal
use Rattle.fs_machine.specs.Entries.{cost_of}
use Rattle.fs_machine.specs.Connections.{phase_at}
use Rattle.fs_machine.specs.Questions.{owed_to}
use Rattle.fs_machine.specs.Controlling.{after_dial}
use Rattle.fs_machine.specs.Step.{is_closed, is_ending, is_unsent, refused_where, refused_act, refusal_of, Acted, arrived, act_done, step}
use Rattle.fs_machine.specs.Runs.{run_from, IsRunFrom}
use Rattle.fs_machine.specs.Frames.{given_in, given_by, frames_from, handed_in, handed_from}
use Rattle.fs_machine.proofs.FrameLemmas.{handed_more}
use Rattle.fs_machine.proofs.RestLemmas.{whichever}
use Rattle.fs_machine.proofs.KeepLemmas.{Keeps, act_keeps}
use Rattle.fs_machine.proofs.WaitingLemmas.{Ordered, none_closed, some_open, keeps_waiting, closed_waits, closed_quietly, none_given}
use Rattle.fs_machine.proofs.WaitingLemmas.{posted_ordered, none_in_all}
use Rattle.fs_machine.proofs.WaitingLemmas.{nothing_given, taken_ordered, taken_same, taken_other, arrived_waits}
use Rattle.fs_machine.proofs.LeftLemmas.{take_done}
use Rattle.fs_machine.proofs.ComingLemmas.{dial_waits}
use Rattle.fs_machine.proofs.OrderLemmas.{left_waits, gone_with, gone_ordered, gone_seat, gone_drawn, gone_same, gone_other}
use Rattle.fs_machine.proofs.CloseLaws.{take_leaves_phase}
use Rattle.fs_machine.proofs.OrderLemmas.{Orderly, acted_ordered, acted_settings, acted_drawn, acted_gone, none_refused, not_full}
use Rattle.fs_machine.proofs.OrderLemmas.{not_refused, room_left, advanced_orderly, entry_orderly, run_orderly, empty_waits, empty_orderly}

-- ---- one act

-- what an act gives, in an entry that began in a switch
abbrev posted_by : Switch → Act → Switch → Switch
posted_by before act s = with_posts before (act_done act s).state

-- what waited and what is given is what is handed out and what then waits
abbrev Follows : Switch → ℕ → Act → Switch → Type 0
Follows before conn act s =
    waiting_for s conn ++ given_in conn (posted_by before act s) ≡ handed_in conn act s ++ waiting_for
    (after_entry (cost_of act) (posted_by before act s)) conn

-- or else the connection is gone, and what waited for it is dropped
record Drops (before : Switch) (conn : ℕ) (act : Act) (s : Switch) : Type 0 where
  handed : handed_in conn act s ≡ []
  given : given_in conn (posted_by before act s) ≡ []
  gone : seat_of (act_done act s).state.conns conn ≡ None
  drawn : conn ≤ (act_done act s).state.drawn.conns

-- an act that hands out nothing, and leaves what waits
quiet_follows : (before : Switch) (conn : ℕ) (act : Act) (s : Switch) → handed_in conn act s ≡ [] → Ordered (act_done act s).state →
    waiting_for (act_done act s).state conn ≡ waiting_for s conn → Follows before conn act s
quiet_follows before conn act s handed ordered same =
    sym (closed_waits (cost_of act) (posted_by before act s) conn (posted_ordered before (act_done act s).state ordered)
    ∙ ap (λ frames. frames ++ given_in conn (posted_by before act s)) same)
    ∙ ap (λ frames. frames ++ waiting_for (after_entry (cost_of act) (posted_by before act s)) conn) (sym handed)

-- an act that keeps the connections
keeps_follows : {who : Option ℕ} {may_end : Bool} → (before : Switch) (conn : ℕ) (act : Act) (s : Switch) → handed_in conn act s ≡ [] →
    Ordered (act_done act s).state → Keeps who may_end s (act_done act s).state → Follows before conn act s
keeps_follows before conn act s handed ordered keeps =
    quiet_follows before conn act s handed ordered (keeps_waiting s (act_done act s).state keeps conn)

-- a frame that is taken is handed out, and the others wait
take_follows : (before : Switch) (conn taker : ℕ) (s : Switch) → Orderly s → Follows before conn (Take taker) s
take_follows before conn taker s orderly =
    subst (λ (done : Acted). waiting_for s conn ++ given_in conn (with_posts before done.state)
    ≡ handed_in conn (Take taker) s ++ waiting_for (after_entry 64 (with_posts before done.state)) conn)
    (sym (take_done taker s orderly.settled)) (by (taker == conn) refl)
  where
    t : Switch
    t = with_posts before (with_frame_taken taker s)

    ordered : Ordered t
    ordered = posted_ordered before (with_frame_taken taker s) (taken_ordered taker s orderly.ordered)

    nothing : all_given t ≡ []
    nothing = none_in_all before (with_frame_taken taker s) orderly.replies orderly.news orderly.late orderly.notices

    none : given_in conn t ≡ []
    none = nothing_given t conn nothing

    waits : waiting_for (after_entry 64 t) conn ≡ waiting_for (with_frame_taken taker s) conn
    waits = closed_quietly 64 t conn ordered nothing

    by : (b : Bool) → (taker == conn) ≡ b →
        waiting_for s conn ++ given_in conn t ≡ (if b then take 1 (waiting_for s conn) else []) ++ waiting_for (after_entry 64 t) conn
    by true e =
        ap (λ frames. waiting_for s conn ++ frames) none ∙ append-nil (waiting_for s conn)
        ∙ sym (take-append-drop 1 (waiting_for s conn))
        ∙ ap (λ frames. take 1 (waiting_for s conn) ++ frames)
        (sym (waits
        ∙ subst (λ number. waiting_for (with_frame_taken number s) conn ≡ drop 1 (waiting_for s conn)) (sym (eqb-true taker conn e))
        (taken_same conn s orderly.ordered)))
    by false e =
        ap (λ frames. waiting_for s conn ++ frames) none ∙ append-nil (waiting_for s conn)
        ∙ sym (waits ∙ taken_other taker conn s (eqb-false taker conn e))

-- why a connection of which all was sent cannot be closed
pub close_refused : (s : Switch) (conn : ℕ) → refused_act (Close conn Sent) s ≡ None →
    (is_closed (phase_at s conn) ≡ false) × (refused_where (is_unsent s conn)
    (refusal.Unsent (length (waiting_for s conn)) (is_some (owed_to s conn))) None ≡ None)
close_refused s conn none =
    none_refused (is_closed (phase_at s conn)) refusal.Gone
    (refused_where (is_unsent s conn) (refusal.Unsent (length (waiting_for s conn)) (is_some (owed_to s conn))) None) none

-- nothing waits for such a connection
pub sent_all : (s : Switch) (conn : ℕ) → refused_act (Close conn Sent) s ≡ None → waiting_for s conn ≡ []
sent_all s conn none =
    let sent =
    (none_refused (is_unsent s conn) (refusal.Unsent (length (waiting_for s conn)) (is_some (owed_to s conn))) None
    (close_refused s conn none).1).0 in
    let parts = or_parts (not (is_ending (phase_at s conn))) (not (length (waiting_for s conn) == 0) || is_some (owed_to s conn)) sent in
    let waits = or_parts (not (length (waiting_for s conn) == 0)) (is_some (owed_to s conn)) parts.1 in
    nil_from_length (waiting_for s conn) (eqb-true (length (waiting_for s conn)) 0 (not-false (length (waiting_for s conn) == 0) waits.0))

-- a connection that goes with all sent leaves nothing
sent_follows : (before : Switch) (conn gone : ℕ) (s : Switch) → Orderly s → refused_act (Close gone Sent) s ≡ None →
    Follows before conn (Close gone Sent) s
sent_follows before conn gone s orderly none =
    quiet_follows before conn (Close gone Sent) s refl (gone_ordered gone s orderly.ordered) (by (cases_eq gone conn))
  where
    by : (gone ≡ conn) ⊎ (gone ≡ conn → ⊥) → waiting_for (gone_with gone s) conn ≡ waiting_for s conn
    by (inl same) =
        subst (λ number. waiting_for (gone_with gone s) number ≡ waiting_for s number) same
        (gone_same gone s orderly.ordered ∙ sym (sent_all s gone none))
    by (inr differ) = gone_other gone conn s differ

-- a connection that is open has a number that was drawn
open_drawn : (s : Switch) (conn : ℕ) → Ordered s → is_closed (phase_at s conn) ≡ false → conn ≤ s.drawn.conns
open_drawn s conn ordered is_open = by (seat_of s.conns conn) refl
  where
    by : (found : Option ℕ) → seat_of s.conns conn ≡ found → conn ≤ s.drawn.conns
    by None is = absurd (both_ways (is_closed (phase_at s conn)) is_open (none_closed s conn is))
    by (Some seat) is = ordered.within conn seat (seat_stands s.conns conn seat is)

-- one whose link failed is gone
failed_drops : (before : Switch) (conn : ℕ) (s : Switch) → Orderly s → refused_act (Close conn Failed) s ≡ None →
    Drops before conn (Close conn Failed) s
failed_drops before conn s orderly none = record {
  handed = refl;
  given = none_given (posted_by before (Close conn Failed) s) conn (gone_seat conn s orderly.ordered);
  gone = gone_seat conn s orderly.ordered;
  drawn = subst (λ drawn. conn ≤ drawn) (sym (gone_drawn conn s))
      (open_drawn s conn orderly.ordered (none_refused (is_closed (phase_at s conn)) refusal.Gone None none).0);
}

-- and the others do not feel it
failed_follows : (before : Switch) (conn gone : ℕ) (s : Switch) → Orderly s → refused_act (Close gone Failed) s ≡ None →
    Follows before conn (Close gone Failed) s ⊎ Drops before conn (Close gone Failed) s
failed_follows before conn gone s orderly none = by (cases_eq gone conn)
  where
    by : (gone ≡ conn) ⊎ (gone ≡ conn → ⊥) → Follows before conn (Close gone Failed) s ⊎ Drops before conn (Close gone Failed) s
    by (inl same) = inr (subst (λ number. Drops before number (Close gone Failed) s) same (failed_drops before gone s orderly none))
    by (inr differ) =
        inl
        (quiet_follows before conn (Close gone Failed) s refl (gone_ordered gone s orderly.ordered) (gone_other gone conn s differ))

-- an act that closes no connection as failed
abbrev pub IsUnfailed : Act → Type 0
IsUnfailed (Close gone Failed) = ⊥
IsUnfailed _ = Unit {0}

-- each such act that is not refused
unfailed_follows : (before : Switch) (conn : ℕ) (act : Act) (s : Switch) → IsUnfailed act → Orderly s → s.drawn.conns < 2 ^ 32 - 1 →
    refused_act act s ≡ None → Follows before conn act s
unfailed_follows before conn Arrive s such orderly room none =
    quiet_follows before conn Arrive s refl (acted_ordered Arrive s orderly.ordered room)
    (left_waits (arrived s).state conn ∙ arrived_waits s conn orderly.ordered room)
unfailed_follows before conn (Dialed slot linked) s such orderly room none =
    quiet_follows before conn (Dialed slot linked) s refl (acted_ordered (Dialed slot linked) s orderly.ordered room)
    (left_waits (after_dial linked slot s) conn ∙ dial_waits linked slot s conn orderly.ordered room)
unfailed_follows before conn (Take taker) s such orderly room none = take_follows before conn taker s orderly
unfailed_follows before conn (Close gone Sent) s such orderly room none = sent_follows before conn gone s orderly none
unfailed_follows before conn (Close gone Failed) s such orderly room none = absurd such
unfailed_follows before conn act s such orderly room none =
    keeps_follows before conn act s refl (acted_ordered act s orderly.ordered room) (act_keeps act s)

-- each act that is not refused
act_follows : (before : Switch) (conn : ℕ) (act : Act) (s : Switch) → Orderly s → s.drawn.conns < 2 ^ 32 - 1 → refused_act act s ≡ None →
    Follows before conn act s ⊎ Drops before conn act s
act_follows before conn (Close gone Failed) s orderly room none = failed_follows before conn gone s orderly none
act_follows before conn act s orderly room none = inl (unfailed_follows before conn act s tt orderly room none)

-- ---- one entry

-- the clock hands out nothing
handed_advanced : (conn now : ℕ) (act : Act) (s : Switch) → handed_in conn act (at_moment now s) ≡ handed_in conn act s
handed_advanced conn now (Take taker) s = refl
handed_advanced conn now _ s = refl

pub record Lost (conn : ℕ) (s : Switch) (entry : Entry) : Type 0 where
  pub handed : handed_in conn entry.act s ≡ []
  pub given : given_by conn s entry ≡ []
  pub gone : seat_of (step s entry).state.conns conn ≡ None
  pub drawn : conn ≤ (step s entry).state.drawn.conns

-- the same of the entry of an act
entry_waits : (conn : ℕ) (s : Switch) (entry : Entry) → Follows s conn entry.act (at_moment entry.moment s) →
    waiting_for s conn ++ given_by conn s entry ≡ handed_in conn entry.act s ++ waiting_for (step s entry).state conn
unfolding step given_by
entry_waits conn s entry follows =
    follows ∙ ap (λ frames. frames ++ waiting_for (step s entry).state conn) (handed_advanced conn entry.moment entry.act s)

entry_drops : (conn : ℕ) (s : Switch) (entry : Entry) → Drops s conn entry.act (at_moment entry.moment s) → Lost conn s entry
unfolding step given_by
entry_drops conn s entry drops = record {
  handed = sym (handed_advanced conn entry.moment entry.act s) ∙ drops.handed;
  given = drops.given;
  gone = drops.gone;
  drawn = drops.drawn;
}

pub entry_follows : (conn : ℕ) (s : Switch) (entry : Entry) → Orderly s → refusal_of s entry ≡ None →
    (waiting_for s conn ++ given_by conn s entry ≡ handed_in conn entry.act s ++ waiting_for (step s entry).state conn) ⊎ Lost conn s entry
entry_follows conn s entry orderly none =
    by (act_follows s conn entry.act (at_moment entry.moment s) (advanced_orderly entry.moment s orderly)
    (room_left s orderly (not_full s entry none)) (not_refused s entry none))
  where
    by : Follows s conn entry.act (at_moment entry.moment s) ⊎ Drops s conn entry.act (at_moment entry.moment s) →
        (waiting_for s conn ++ given_by conn s entry ≡ handed_in conn entry.act s ++ waiting_for (step s entry).state conn) ⊎ Lost conn s
        entry
    by (inl follows) = inl (entry_waits conn s entry follows)
    by (inr drops) = inr (entry_drops conn s entry drops)

-- ---- a connection that is gone

-- nothing waits for it
pub none_waits : (s : Switch) (conn : ℕ) → seat_of s.conns conn ≡ None → waiting_for s conn ≡ []
none_waits s conn none = ap (λ found. texts_of (waiting_at s.outboxes found)) none

-- and nothing is handed out to it
none_handed : (conn : ℕ) (act : Act) (s : Switch) → seat_of s.conns conn ≡ None → handed_in conn act s ≡ []
none_handed conn (Take taker) s none =
    whichever (λ (texts : List Text). texts ≡ []) (taker == conn) (take 1 (waiting_for s conn)) []
    (ap (take 1) (none_waits s conn none)) refl
none_handed conn _ s none = refl

-- an entry leaves it gone
entry_gone : (conn : ℕ) (s : Switch) (entry : Entry) → Orderly s → refusal_of s entry ≡ None → seat_of s.conns conn ≡ None →
    conn ≤ s.drawn.conns → Lost conn s entry
unfolding step given_by
entry_gone conn s entry orderly none nowhere below =
    let room : s.drawn.conns < 2 ^ 32 - 1 = room_left s orderly (not_full s entry none) in
    let later : seat_of (act_done entry.act (at_moment entry.moment s)).state.conns conn ≡ None =
    acted_gone entry.act (at_moment entry.moment s) conn (advanced_orderly entry.moment s orderly).ordered room nowhere below in
    record {
      handed = none_handed conn entry.act s nowhere;
      given = none_given (with_posts s (act_done entry.act (at_moment entry.moment s)).state) conn later;
      gone = later;
      drawn = omega (arith, below, (acted_drawn entry.act (at_moment entry.moment s) room).0);
    }

-- it is given nothing, is handed out nothing, and stays gone
record StaysGone (conn : ℕ) (s : Switch) (entries : List Entry) : Type 0 where
  given : frames_from conn s entries ≡ []
  handed : handed_from conn s entries ≡ []
  gone : seat_of (run_from s entries).conns conn ≡ None

stays_gone : (conn : ℕ) (s : Switch) (entries : List Entry) → Orderly s → IsRunFrom s entries → seat_of s.conns conn ≡ None →
    conn ≤ s.drawn.conns → StaysGone conn s entries
stays_gone conn s [] orderly run nowhere below = record { given = refl; handed = refl; gone = nowhere }
stays_gone conn s (entry ∷ entries) orderly run nowhere below =
    let first = entry_gone conn s entry orderly run.0 nowhere below in
    let rest = stays_gone conn (step s entry).state entries (entry_orderly s entry orderly run.0) run.1 first.gone first.drawn in
    record {
      given = ap (λ frames. frames ++ frames_from conn (step s entry).state entries) first.given ∙ rest.given;
      handed = ap (λ frames. frames ++ handed_from conn (step s entry).state entries) first.handed ∙ rest.handed;
      gone = rest.gone;
    }

-- ---- all entries

record HandedOut (conn : ℕ) (s : Switch) (entries : List Entry) : Type 0 where
  more : List Text
  split : waiting_for s conn ++ frames_from conn s entries ≡ handed_from conn s entries ++ more
  waits : is_closed (phase_at (run_from s entries) conn) ≡ false → more ≡ waiting_for (run_from s entries) conn

-- two parts, one behind the other
regrouped : (waits given handed later from behind more : List Text) → waits ++ given ≡ handed ++ later → later ++ from ≡ behind ++ more →
    waits ++ (given ++ from) ≡ (handed ++ behind) ++ more
regrouped waits given handed later from behind more first rest =
    sym (append_assoc waits given from) ∙ ap (λ frames. frames ++ from) first ∙ append_assoc handed later from
    ∙ ap (λ frames. handed ++ frames) rest ∙ sym (append_assoc handed behind more)

-- what waits alone, with nothing given and nothing handed out
none_more : (waits given from handed behind : List Text) → given ≡ [] → from ≡ [] → handed ≡ [] → behind ≡ [] →
    waits ++ (given ++ from) ≡ (handed ++ behind) ++ waits
none_more waits given from handed behind a b c d =
    ap (λ frames. waits ++ (frames ++ from)) a ∙ ap (λ frames. waits ++ frames) b ∙ append-nil waits
    ∙ sym (ap (λ frames. (frames ++ behind) ++ waits) c ∙ ap (λ frames. frames ++ waits) d)

-- one entry in front of others
one_more : (conn : ℕ) (s : Switch) (entry : Entry) (entries : List Entry) → Orderly s → IsRunFrom s (entry ∷ entries) →
    HandedOut conn (step s entry).state entries →
    HandedOut conn s (entry ∷ entries)
one_more conn s entry entries orderly run rest = by (entry_follows conn s entry orderly run.0)
  where
    lost : Lost conn s entry → StaysGone conn (step s entry).state entries → HandedOut conn s (entry ∷ entries)
    lost first gone = record {
      more = waiting_for s conn;
      split = none_more (waiting_for s conn) (given_by conn s entry) (frames_from conn (step s entry).state entries)
          (handed_in conn entry.act s)
          (handed_from conn (step s entry).state entries) first.given gone.given first.handed gone.handed;
      waits = λ is_open. absurd
          (both_ways (is_closed (phase_at (run_from (step s entry).state entries) conn)) is_open
          (none_closed (run_from (step s entry).state entries) conn gone.gone));
    }

    by : (waiting_for s conn ++ given_by conn s entry ≡ handed_in conn entry.act s ++ waiting_for (step s entry).state conn) ⊎ Lost conn s
        entry → HandedOut conn s (entry ∷ entries)
    by (inl follows) = record {
      more = rest.more;
      split = regrouped (waiting_for s conn) (given_by conn s entry) (handed_in conn entry.act s) (waiting_for (step s entry).state conn)
          (frames_from conn (step s entry).state entries) (handed_from conn (step s entry).state entries) rest.more follows rest.split;
      waits = rest.waits;
    }
    by (inr first) =
        lost first (stays_gone conn (step s entry).state entries (entry_orderly s entry orderly run.0) run.1 first.gone first.drawn)

handed_out : (conn : ℕ) (s : Switch) (entries : List Entry) → Orderly s → IsRunFrom s entries → HandedOut conn s entries
handed_out conn s [] orderly run = record { more = waiting_for s conn; split = append-nil (waiting_for s conn); waits = λ is_open. refl }
handed_out conn s (entry ∷ entries) orderly run =
    one_more conn s entry entries orderly run (handed_out conn (step s entry).state entries (entry_orderly s entry orderly run.0) run.1)

-- ---- from the empty switch

-- what is handed out is the first of what is given
pub handed_first : (config : Configuration) (entries : List Entry) (conn : ℕ) → config.settings.journal_limit ≤ 1073741824 →
    IsRunFrom (empty config) entries →
    (more : List Text) × (frames_from conn (empty config) entries ≡ handed_from conn (empty config) entries ++ more)
handed_first config entries conn limit run =
    let all = handed_out conn (empty config) entries (empty_orderly config limit) run in
    (all.more, ap (λ frames. frames ++ frames_from conn (empty config) entries) (sym (empty_waits config conn)) ∙ all.split)

-- while the connection is open the others wait
pub handed_open : (config : Configuration) (entries : List Entry) (conn : ℕ) → config.settings.journal_limit ≤ 1073741824 →
    IsRunFrom (empty config) entries →
    is_closed (phase_at (run_from (empty config) entries) conn) ≡ false →
    frames_from conn (empty config) entries ≡ handed_from conn (empty config) entries ++ waiting_for (run_from (empty config) entries) conn
handed_open config entries conn limit run is_open =
    let all = handed_out conn (empty config) entries (empty_orderly config limit) run in
    ap (λ frames. frames ++ frames_from conn (empty config) entries) (sym (empty_waits config conn)) ∙ all.split
    ∙ ap (λ frames. handed_from conn (empty config) entries ++ frames) (all.waits is_open)

-- what entries give with one more
pub frames_more : (conn : ℕ) (s : Switch) (entries : List Entry) (entry : Entry) →
    frames_from conn s (entries ++ entry ∷ []) ≡ frames_from conn s entries ++ given_by conn (run_from s entries) entry
frames_more conn s [] entry = append-nil (given_by conn s entry)
frames_more conn s (first ∷ entries) entry =
    ap (λ frames. given_by conn s first ++ frames) (frames_more conn (step s first).state entries entry)
    ∙ sym (append_assoc (given_by conn s first) (frames_from conn (step s first).state entries)
    (given_by conn (run_from (step s first).state entries) entry))

-- the front of a run with one more entry, and that entry
pub run_front : (s : Switch) (entries : List Entry) (entry : Entry) → IsRunFrom s (entries ++ entry ∷ []) →
    IsRunFrom s entries × (refusal_of (run_from s entries) entry ≡ None)
run_front s [] entry run = (tt, run.0)
run_front s (first ∷ entries) entry run = let rest = run_front (step s first).state entries entry run.1 in ((run.0, rest.0), rest.1)

-- a connection that is closed with all sent was handed out all
close_gives_none : (s : Switch) (moment conn : ℕ) → Orderly s → given_by conn s (record { moment = moment; act = Close conn Sent }) ≡ []
unfolding given_by
close_gives_none s moment conn orderly =
    none_given (with_posts s (gone_with conn (at_moment moment s))) conn
    (gone_seat conn (at_moment moment s) (advanced_orderly moment s orderly).ordered)

-- a connection that can be closed so is open
close_open : (s : Switch) (moment conn : ℕ) → refusal_of s (record { moment = moment; act = Close conn Sent }) ≡ None →
    is_closed (phase_at s conn) ≡ false
close_open s moment conn none =
    (close_refused (at_moment moment s) conn (not_refused s (record { moment = moment; act = Close conn Sent }) none)).0

-- then what was given was handed out
pub handed_sent : (config : Configuration) (entries : List Entry) (moment conn : ℕ) → config.settings.journal_limit ≤ 1073741824 →
    IsRunFrom (empty config) (entries ++ record { moment = moment; act = Close conn Sent } ∷ []) →
    frames_from conn (empty config) (entries ++ record { moment = moment; act = Close conn Sent } ∷ [])
    ≡ handed_from conn (empty config) (entries ++ record { moment = moment; act = Close conn Sent } ∷ [])
handed_sent config entries moment conn limit run = result
  where
    front : IsRunFrom
        (empty config) entries × (refusal_of (run_from (empty config) entries) (record { moment = moment; act = Close conn Sent }) ≡ None)
    front = run_front (empty config) entries (record { moment = moment; act = Close conn Sent }) run

    orderly : Orderly (run_from (empty config) entries)
    orderly = run_orderly (empty config) entries (empty_orderly config limit) front.0

    nothing : waiting_for (run_from (empty config) entries) conn ≡ []
    nothing = sent_all (at_moment moment (run_from (empty config) entries)) conn
        (not_refused (run_from (empty config) entries) (record { moment = moment; act = Close conn Sent }) front.1)

    before : frames_from conn (empty config) entries ≡ handed_from conn (empty config) entries
    before =
        handed_open config entries conn limit front.0 (close_open (run_from (empty config) entries) moment conn front.1)
        ∙ ap (λ frames. handed_from conn (empty config) entries ++ frames) nothing ∙ append-nil (handed_from conn (empty config) entries)

    result : frames_from conn (empty config) (entries ++ record { moment = moment; act = Close conn Sent } ∷ [])
        ≡ handed_from conn (empty config) (entries ++ record { moment = moment; act = Close conn Sent } ∷ [])
    result =
        frames_more conn (empty config) entries (record { moment = moment; act = Close conn Sent })
        ∙ ap (λ frames. frames_from conn (empty config) entries ++ frames)
        (close_gives_none (run_from (empty config) entries) moment conn orderly)
        ∙ append-nil (frames_from conn (empty config) entries)
        ∙ before
        ∙ sym (handed_more conn (empty config) entries (record { moment = moment; act = Close conn Sent })
        ∙ append-nil (handed_from conn (empty config) entries))

-- ---- runs that close no connection as failed

abbrev pub AreUnfailed : List Entry → Type 0
AreUnfailed [] = Unit {0}
AreUnfailed (entry ∷ entries) = IsUnfailed entry.act × AreUnfailed entries

pub unfailed_more : (entries : List Entry) (entry : Entry) → AreUnfailed entries → IsUnfailed entry.act →
    AreUnfailed (entries ++ entry ∷ [])
unfailed_more [] entry all such = (such, tt)
unfailed_more (first ∷ entries) entry all such = (all.0, unfailed_more entries entry all.1 such)

-- what waited and is given is what is handed out and waits then
waits_on : (conn : ℕ) (s : Switch) (entries : List Entry) → Orderly s → IsRunFrom s entries → AreUnfailed entries →
    waiting_for s conn ++ frames_from conn s entries ≡ handed_from conn s entries ++ waiting_for (run_from s entries) conn
waits_on conn s [] orderly run unfailed = append-nil (waiting_for s conn)
waits_on conn s (entry ∷ entries) orderly run unfailed =
    let follows =
    unfailed_follows s conn entry.act (at_moment entry.moment s) unfailed.0 (advanced_orderly entry.moment s orderly)
    (room_left s orderly (not_full s entry run.0)) (not_refused s entry run.0) in
    regrouped (waiting_for s conn) (given_by conn s entry) (handed_in conn entry.act s) (waiting_for (step s entry).state conn)
    (frames_from conn (step s entry).state entries)
    (handed_from conn (step s entry).state entries) (waiting_for (run_from (step s entry).state entries) conn)
    (entry_waits conn s entry follows)
    (waits_on conn (step s entry).state entries (entry_orderly s entry orderly run.0) run.1 unfailed.1)

-- so nothing is lost
pub handed_unfailed : (config : Configuration) (entries : List Entry) (conn : ℕ) → config.settings.journal_limit ≤ 1073741824 →
    IsRunFrom (empty config) entries → AreUnfailed entries →
    frames_from conn (empty config) entries ≡ handed_from conn (empty config) entries ++ waiting_for (run_from (empty config) entries) conn
handed_unfailed config entries conn limit run unfailed =
    ap (λ frames. frames ++ frames_from conn (empty config) entries) (sym (empty_waits config conn))
    ∙ waits_on conn (empty config) entries (empty_orderly config limit) run unfailed

-- ---- the settings

pub settings_step : (s : Switch) (entry : Entry) → (step s entry).state.settings ≡ s.settings
unfolding step
settings_step s entry = acted_settings entry.act (at_moment entry.moment s)

-- no entry changes them
pub settings_run : (s : Switch) (entries : List Entry) → (run_from s entries).settings ≡ s.settings
settings_run s [] = refl
settings_run s (entry ∷ entries) = settings_run (step s entry).state entries ∙ settings_step s entry

-- ---- single steps behind a run

-- nothing waits for a connection that is closed
pub closed_waits_not : (config : Configuration) (entries : List Entry) (conn : ℕ) → config.settings.journal_limit ≤ 1073741824 →
    IsRunFrom (empty config) entries →
    is_closed (phase_at (run_from (empty config) entries) conn) ≡ true → waiting_for (run_from (empty config) entries) conn ≡ []
closed_waits_not config entries conn limit run gone = by (seat_of (run_from (empty config) entries).conns conn) refl
  where
    by : (found : Option ℕ) → seat_of (run_from (empty config) entries).conns conn ≡ found →
        waiting_for (run_from (empty config) entries) conn ≡ []
    by None is = none_waits (run_from (empty config) entries) conn is
    by (Some seat) is = absurd (both_ways (is_closed (phase_at (run_from (empty config) entries) conn))
        (some_open (run_from (empty config) entries) conn seat
        (run_orderly (empty config) entries (empty_orderly config limit) run).ordered.opened is) gone)

-- a frame that is taken leaves the others, and the phase of the connection
take_leaves : (s : Switch) (moment conn : ℕ) → Orderly s →
    waiting_for (step s (record { moment = moment; act = Take conn })).state conn ≡ drop 1 (waiting_for s conn)
unfolding step
take_leaves s moment conn orderly =
    let t : Switch = with_frame_taken conn (at_moment moment s) in
    ap (λ (done : Acted). waiting_for (after_entry 64 (with_posts s done.state)) conn)
    (take_done conn (at_moment moment s) orderly.settled)
    ∙ closed_quietly 64 (with_posts s t) conn
    (posted_ordered s t (taken_ordered conn (at_moment moment s) (advanced_orderly moment s orderly).ordered))
    (none_in_all s t orderly.replies orderly.news orderly.late orderly.notices)
    ∙ taken_same conn (at_moment moment s) (advanced_orderly moment s orderly).ordered

pub take_leaves_rest : (config : Configuration) (entries : List Entry) (moment conn : ℕ) → config.settings.journal_limit ≤ 1073741824 →
    IsRunFrom (empty config) entries →
    is_closed (phase_at (run_from (empty config) entries) conn) ≡ false →
    (waiting_for (step (run_from (empty config) entries) (record { moment = moment; act = Take conn })).state conn ≡ drop 1
    (waiting_for (run_from (empty config) entries) conn))
    × (phase_at (step (run_from (empty config) entries) (record { moment = moment; act = Take conn })).state conn ≡ phase_at
    (run_from (empty config) entries) conn)
take_leaves_rest config entries moment conn limit run is_open = (
  take_leaves (run_from (empty config) entries) moment conn (run_orderly (empty config) entries (empty_orderly config limit) run),
  take_leaves_phase (run_from (empty config) entries) moment conn
      (run_orderly (empty config) entries (empty_orderly config limit) run).settled,
)
