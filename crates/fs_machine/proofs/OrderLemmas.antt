-- Behind the entries of a run the connections and their outboxes fit together.
use Rattle.std.proofs.Common.{◌≡◌, ℕ, ◌+◌, ◌*◌, ◌-◌, ◌^◌, ◌<◌, ◌≤◌, min, Bool, true, false, if◌then◌else◌, List, [], ◌∷◌, Option, None, refl, sym, ap}
use Rattle.std.proofs.Common.{◌⊎◌, inl, inr, subst, ◌∙◌, arith}
use Rattle.std.proofs.lemmas.Bool.{both_ways, ltb-false, ltb-true}
use Rattle.fs_doc.specs.Reading.{Configuration}
use Rattle.fs_seats.specs.declared.numbered.Numbered.{Numbered}
use Rattle.fs_seats.specs.Seats.{held_in}
use Rattle.fs_seats.specs.Rows.{has_number, seat_of}
use Rattle.fs_seats.proofs.RowLemmas.{nowhere, seat_of-without_row_same}
use Rattle.fs_seats.proofs.HeldLemmas.{nothing_held}
use Rattle.fs_doc.specs.declared.settings.Settings.{Settings}
use Rattle.fs_state.specs.declared.conn.Conn.{Conn}
use Rattle.fs_state.specs.Frames.{texts_of}
use Rattle.fs_state.specs.Posting.{with_posts}
use Rattle.fs_state.specs.Switch.{Switch, empty, waiting_at, outgoing_for, waiting_for, at_moment, after_entry, is_full, is_full_for_load}
use Rattle.fs_state.specs.Switch.{with_frame_taken, without_conn}
use Rattle.fs_state.proofs.GiftLemmas.{none_waits, as_many}
use Rattle.fs_machine.specs.declared.entry.Entry.{Entry}
use Rattle.fs_machine.specs.declared.entry.Act.{Act}
use Rattle.fs_machine.specs.declared.entry.Act.TheVariants.{Arrive, Take, Close, Dialed}
use Rattle.fs_machine.specs.declared.entry.Closing.TheVariants.{Sent, Failed}
use Rattle.fs_machine.specs.declared.refusal.Refusal.{Refusal}
use Rattle.fs_machine.specs.Entries.{cost_of, is_load}
use Rattle.fs_machine.specs.Controlling.{after_dial, after_letting_go, after_leavings}
use Rattle.fs_machine.specs.Step.{refused_where, refused_act, is_full_for, full_journal, refusal_of, arrived, acted, act_done, step}
use Rattle.fs_machine.specs.Runs.{run_from, IsRunFrom}
use Rattle.fs_machine.proofs.ConstantMoves.{Constants, acted_constants}
use Rattle.fs_machine.proofs.RestLemmas.{Rest}
use Rattle.fs_machine.proofs.KeepLemmas.{is_shut, keeps_same, leavings_keep, freed_keeps, act_keeps}
use Rattle.fs_machine.proofs.LeftLemmas.{NoneLeft, none_left, empty_none_left}
use Rattle.fs_machine.proofs.WaitingLemmas.{Ordered, keeps_ordered, keeps_seat, keeps_waiting, posted_ordered, closed_ordered}
use Rattle.fs_machine.proofs.WaitingLemmas.{taken_ordered, without_same, without_other}
use Rattle.fs_machine.proofs.ComingLemmas.{TakesHold, TakesNone, dial_takes, dial_ordered, dial_gone}
use Rattle.fs_machine.proofs.WaitingLemmas.{without_ordered, arrived_ordered, arrived_gone, without_gone}
use Rattle.fs_machine.proofs.FrameLemmas.{some_cost}

-- ---- what each act keeps

-- those that part stay where they are
left_ordered : (s : Switch) → Ordered s → Ordered (after_leavings s)
left_ordered s ordered = keeps_ordered s (after_leavings s) (leavings_keep {who = None} {may_end = false} s) ordered

pub left_seat : (s : Switch) (conn : ℕ) → seat_of (after_leavings s).conns conn ≡ seat_of s.conns conn
left_seat s conn = keeps_seat s (after_leavings s) (leavings_keep {who = None} {may_end = false} s) conn

pub left_waits : (s : Switch) (conn : ℕ) → waiting_for (after_leavings s) conn ≡ waiting_for s conn
left_waits s conn = keeps_waiting s (after_leavings s) (leavings_keep {who = None} {may_end = false} s) conn

-- and so do all while one lets its channel go
free_ordered : (conn : ℕ) (s : Switch) → Ordered s → Ordered (after_letting_go conn s)
free_ordered conn s ordered = keeps_ordered s (after_letting_go conn s) (freed_keeps {who = None} {may_end = false} conn s) ordered

free_seat : (gone : ℕ) (s : Switch) (conn : ℕ) → seat_of (after_letting_go gone s).conns conn ≡ seat_of s.conns conn
free_seat gone s conn = keeps_seat s (after_letting_go gone s) (freed_keeps {who = None} {may_end = false} gone s) conn

free_waits : (gone : ℕ) (s : Switch) (conn : ℕ) → waiting_for (after_letting_go gone s) conn ≡ waiting_for s conn
free_waits gone s conn = keeps_waiting s (after_letting_go gone s) (freed_keeps {who = None} {may_end = false} gone s) conn

-- one is gone then
abbrev pub gone_with : ℕ → Switch → Switch
gone_with gone s = after_leavings (without_conn gone (after_letting_go gone s))

pub gone_ordered : (gone : ℕ) (s : Switch) → Ordered s → Ordered (gone_with gone s)
gone_ordered gone s ordered =
    left_ordered (without_conn gone (after_letting_go gone s))
    (without_ordered gone (after_letting_go gone s) (free_ordered gone s ordered))

pub gone_seat : (gone : ℕ) (s : Switch) → Ordered s → seat_of (gone_with gone s).conns gone ≡ None
gone_seat gone s ordered =
    left_seat (without_conn gone (after_letting_go gone s)) gone
    ∙ seat_of-without_row_same (after_letting_go gone s).conns gone (free_ordered gone s ordered).distinct

pub gone_drawn : (gone : ℕ) (s : Switch) → (gone_with gone s).drawn.conns ≡ s.drawn.conns
gone_drawn gone s = (freed_keeps {who = None} {may_end = false} gone s).drawn

-- nothing waits for it, and for the others what waited
pub gone_same : (gone : ℕ) (s : Switch) → Ordered s → waiting_for (gone_with gone s) gone ≡ []
gone_same gone s ordered =
    left_waits (without_conn gone (after_letting_go gone s)) gone
    ∙ without_same gone (after_letting_go gone s) (free_ordered gone s ordered)

pub gone_other : (gone conn : ℕ) (s : Switch) → (gone ≡ conn → ⊥) → waiting_for (gone_with gone s) conn ≡ waiting_for s conn
gone_other gone conn s differ =
    left_waits (without_conn gone (after_letting_go gone s)) conn
    ∙ without_other gone conn (after_letting_go gone s) differ
    ∙ free_waits gone s conn

-- the connections that there are, and their outboxes
pub acted_ordered : (act : Act) (s : Switch) → Ordered s → s.drawn.conns < 2 ^ 32 - 1 → Ordered (act_done act s).state
acted_ordered Arrive s ordered room = left_ordered (arrived s).state (arrived_ordered s ordered room)
acted_ordered (Take conn) s ordered room = left_ordered (with_frame_taken conn s) (taken_ordered conn s ordered)
acted_ordered (Close conn Sent) s ordered room = gone_ordered conn s ordered
acted_ordered (Close conn Failed) s ordered room = gone_ordered conn s ordered
acted_ordered (Dialed slot linked) s ordered room = left_ordered (after_dial linked slot s) (dial_ordered linked slot s ordered room)
acted_ordered act s ordered room = keeps_ordered s (act_done act s).state (act_keeps act s) ordered

-- no act pays or counts by itself, nor changes the settings
pub acted_cost : (act : Act) (s : Switch) → (act_done act s).state.cost ≡ s.cost
acted_cost act s = ap (λ (c : Constants). c.cost) (acted_constants act s)

pub acted_settings : (act : Act) (s : Switch) → (act_done act s).state.settings ≡ s.settings
acted_settings act s = ap (λ (c : Constants). c.settings) (acted_constants act s)

pub acted_counts : (act : Act) (s : Switch) → (act_done act s).state.counts ≡ s.counts
acted_counts act s = ap (λ (c : Constants). c.counts) (acted_constants act s)

-- at most one number more is drawn
abbrev pub IsNext : ℕ → ℕ → Type 0
IsNext drawn later = (drawn ≤ later) × (later ≤ drawn + 1)

next_same : (drawn later : ℕ) → later ≡ drawn → IsNext drawn later
next_same drawn later same = (omega (arith, same), omega (arith, same))

next_more : (drawn : ℕ) → drawn < 2 ^ 32 - 1 → IsNext drawn (min (drawn + 1) (2 ^ 32 - 1))
next_more drawn room = (omega (arith, room), omega arith)

pub acted_drawn : (act : Act) (s : Switch) → s.drawn.conns < 2 ^ 32 - 1 → IsNext s.drawn.conns (act_done act s).state.drawn.conns
acted_drawn Arrive s room = next_more s.drawn.conns room
acted_drawn (Take conn) s room = next_same s.drawn.conns s.drawn.conns refl
acted_drawn (Close conn Sent) s room = next_same s.drawn.conns (gone_with conn s).drawn.conns (gone_drawn conn s)
acted_drawn (Close conn Failed) s room = next_same s.drawn.conns (gone_with conn s).drawn.conns (gone_drawn conn s)
acted_drawn (Dialed slot linked) s room = by (dial_takes linked slot s)
  where
    by : TakesHold linked slot s ⊎ TakesNone linked slot s → IsNext s.drawn.conns (after_dial linked slot s).drawn.conns
    by (inl takes) =
        subst (λ (t : Switch). IsNext s.drawn.conns t.drawn.conns) (sym takes.after) (next_more s.drawn.conns room)
    by (inr none) =
        next_same s.drawn.conns (after_dial linked slot s).drawn.conns (ap (λ (rest : Rest). rest.conns_drawn) none.rest)
acted_drawn act s room = next_same s.drawn.conns (act_done act s).state.drawn.conns (act_keeps act s).drawn

still_gone : (gone : ℕ) (s : Switch) (conn : ℕ) → Ordered s → seat_of s.conns conn ≡ None → seat_of (gone_with gone s).conns conn ≡ None
still_gone gone s conn ordered none =
    left_seat (without_conn gone (after_letting_go gone s)) conn
    ∙ without_gone gone (after_letting_go gone s) conn (free_ordered gone s ordered) (free_seat gone s conn ∙ none)

-- a connection that had its number and is gone stays so
pub acted_gone : (act : Act) (s : Switch) (conn : ℕ) → Ordered s → s.drawn.conns < 2 ^ 32 - 1 → seat_of s.conns conn ≡ None →
    conn ≤ s.drawn.conns →
    seat_of (act_done act s).state.conns conn ≡ None
acted_gone Arrive s conn ordered room none below = left_seat (arrived s).state conn ∙ arrived_gone s conn room none below
acted_gone (Take taker) s conn ordered room none below = left_seat (with_frame_taken taker s) conn ∙ none
acted_gone (Close gone Sent) s conn ordered room none below = still_gone gone s conn ordered none
acted_gone (Close gone Failed) s conn ordered room none below = still_gone gone s conn ordered none
acted_gone (Dialed slot linked) s conn ordered room none below =
    left_seat (after_dial linked slot s) conn ∙ dial_gone linked slot s conn room none below
acted_gone act s conn ordered room none below = keeps_seat s (act_done act s).state (act_keeps act s) conn ∙ none

-- ---- refusals

-- without a refusal its test fails, and no other refusal follows
pub none_refused : (test : Bool) (why : Refusal) (otherwise : Option Refusal) → refused_where test why otherwise ≡ None →
    (test ≡ false) × (otherwise ≡ None)
none_refused true why otherwise none = absurd (cc)
none_refused false why otherwise none = (refl, none)

-- what has room for a load has room for each other entry
pub room_for_load : (s : Switch) → is_full_for_load s ≡ false → is_full s ≡ false
room_for_load s below =
    let room : s.cost + 1048641 ≤ s.settings.journal_limit = ltb-false s.settings.journal_limit (s.cost + 1048641) below in
    lower (is_full s) refl room
  where
    lower : (full : Bool) → is_full s ≡ full → s.cost + 1048641 ≤ s.settings.journal_limit → full ≡ false
    lower true is room = absurd (omega (arith, ltb-true s.settings.journal_limit (s.cost + 65600) is, room))
    lower false is room = refl

-- whichever of both it was
room_for : (load : Bool) (s : Switch) → (if load then is_full_for_load s else is_full s) ≡ false → is_full s ≡ false
room_for true s below = room_for_load s below
room_for false s below = below

-- an entry that is not refused came where the journal was not full, and its act is not refused
pub not_full : (s : Switch) (entry : Entry) → refusal_of s entry ≡ None → is_full s ≡ false
unfolding refusal_of
not_full s entry none =
    room_for (is_load entry.act) s
    (none_refused (is_full_for entry.act s) (full_journal s) (refused_act entry.act (at_moment entry.moment s)) none).0

pub not_refused : (s : Switch) (entry : Entry) → refusal_of s entry ≡ None → refused_act entry.act (at_moment entry.moment s) ≡ None
unfolding refusal_of
not_refused s entry none =
    (none_refused (is_full_for entry.act s) (full_journal s) (refused_act entry.act (at_moment entry.moment s)) none).1

-- ---- between entries

-- a switch between the entries of a run, whose journal is short enough for each connection to have a number of its own
pub record Orderly (s : Switch) : Type 0 where
  pub ordered : Ordered s
  pub settled : NoneLeft s
  pub replies : s.replies ≡ []
  pub posted : s.posted ≡ []
  pub late : s.late ≡ []
  pub notices : s.notices ≡ []
  pub news : s.news ≡ []
  pub paid : 64 * s.drawn.conns ≤ s.cost
  pub limit : s.settings.journal_limit ≤ 1073741824

-- further numbers can be drawn
pub room_left : (s : Switch) → Orderly s → is_full s ≡ false → s.drawn.conns < 2 ^ 32 - 1
room_left s orderly below =
    omega (arith, orderly.paid, orderly.limit, ltb-false s.settings.journal_limit (s.cost + 65600) below)

-- the clock is no matter of connections
pub advanced_ordered : (now : ℕ) (s : Switch) → Ordered s → Ordered (at_moment now s)
advanced_ordered now s ordered =
    keeps_ordered s (at_moment now s) (keeps_same {who = None} {may_end = false} s (at_moment now s) refl) ordered

pub advanced_orderly : (now : ℕ) (s : Switch) → Orderly s → Orderly (at_moment now s)
advanced_orderly now s orderly = record {
  ordered = advanced_ordered now s orderly.ordered;
  settled = orderly.settled;
  replies = orderly.replies;
  posted = orderly.posted;
  late = orderly.late;
  notices = orderly.notices;
  news = orderly.news;
  paid = orderly.paid;
  limit = orderly.limit;
}

-- the number that is drawn next is paid for by the cost of an entry
pub paid_more : (drawn later cost spent limit : ℕ) → later ≤ drawn + 1 → 64 * drawn ≤ cost → cost + 65600 ≤ limit → limit ≤ 1073741824 →
    64 ≤ spent →
    64 * later ≤ min (cost + spent) (2 ^ 64 - 1)
paid_more drawn later cost spent limit next paid below small some = omega (arith, next, paid, below, small, some)

act_orderly : (before : Switch) (act : Act) (s : Switch) → Orderly s → is_full s ≡ false →
    Orderly (after_entry (cost_of act) (with_posts before (act_done act s).state))
act_orderly before act s orderly below = record {
  ordered = closed_ordered (cost_of act) (with_posts before (act_done act s).state)
      (posted_ordered before (act_done act s).state (acted_ordered act s orderly.ordered (room_left s orderly below)));
  settled = none_left (acted act s).state;
  replies = refl;
  posted = refl;
  late = refl;
  notices = refl;
  news = refl;
  paid = subst (λ cost. 64 * (act_done act s).state.drawn.conns ≤ min (cost + cost_of act) (2 ^ 64 - 1)) (sym (acted_cost act s))
      (paid_more s.drawn.conns (act_done act s).state.drawn.conns s.cost (cost_of act) s.settings.journal_limit
      (acted_drawn act s (room_left s orderly below)).1 orderly.paid
      (ltb-false s.settings.journal_limit (s.cost + 65600) below) orderly.limit (some_cost act));
  limit = subst (λ (settings : Settings). settings.journal_limit ≤ 1073741824) (sym (acted_settings act s)) orderly.limit;
}

-- so it stays from entry to entry
pub entry_orderly : (s : Switch) (entry : Entry) → Orderly s → refusal_of s entry ≡ None → Orderly (step s entry).state
unfolding step
entry_orderly s entry orderly none =
    act_orderly s entry.act (at_moment entry.moment s) (advanced_orderly entry.moment s orderly) (not_full s entry none)

pub run_orderly : (s : Switch) (entries : List Entry) → Orderly s → IsRunFrom s entries → Orderly (run_from s entries)
run_orderly s [] orderly run = orderly
run_orderly s (entry ∷ entries) orderly run = run_orderly (step s entry).state entries (entry_orderly s entry orderly run.0) run.1

-- ---- the empty switch

-- no connection is there
pub empty_nowhere : (config : Configuration) (conn : ℕ) → seat_of (empty config).conns conn ≡ None
empty_nowhere config conn =
    nowhere (empty config).conns conn (λ seat. ap (has_number conn) (nothing_held (Numbered Conn) config.settings.max_connections seat))

pub empty_outgoing : (config : Configuration) (conn : ℕ) → outgoing_for (empty config) conn ≡ []
empty_outgoing config conn = ap (waiting_at (empty config).outboxes) (empty_nowhere config conn)

pub empty_waits : (config : Configuration) (conn : ℕ) → waiting_for (empty config) conn ≡ []
empty_waits config conn = ap texts_of (empty_outgoing config conn)

empty_ordered : (config : Configuration) → Ordered (empty config)
empty_ordered config = record {
  distinct =
      λ number p q first second. absurd
      (both_ways (has_number number (held_in (empty config).conns p))
      (ap (has_number number) (nothing_held (Numbered Conn) config.settings.max_connections p)) first);
  within = λ number seat stands. absurd
      (both_ways (has_number number (held_in (empty config).conns seat))
      (ap (has_number number) (nothing_held (Numbered Conn) config.settings.max_connections seat)) stands);
  opened = λ seat. ap is_shut (nothing_held (Numbered Conn) config.settings.max_connections seat);
  seats = as_many (Numbered Conn) config.settings.max_connections;
  quiet = λ seat free. none_waits config.settings.max_connections seat;
}

pub empty_orderly : (config : Configuration) → config.settings.journal_limit ≤ 1073741824 → Orderly (empty config)
empty_orderly config limit = record {
  ordered = empty_ordered config;
  settled = empty_none_left config;
  replies = refl;
  posted = refl;
  late = refl;
  notices = refl;
  news = refl;
  paid = omega arith;
  limit = limit;
}
