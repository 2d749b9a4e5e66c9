-- In every run few events wait for each connection: an entry answers and gives no other frames than replies, and posts what has room.
use Rattle.std.proofs.Common.{◌≡◌, ℕ, ◌+◌, ◌-◌, ◌^◌, ◌<◌, ◌≤◌, ◌==◌, Bool, true, false, if◌then◌else◌, List, [], ◌∷◌, ◌++◌, length}
use Rattle.std.proofs.Common.{Option, None, Some, unwrap_or, ◌⊎◌, inl, inr, refl, sym, ap, subst, ◌∙◌, arith}
use Rattle.std.specs.Prelude.{flat_map}
use Rattle.std.proofs.lemmas.Bool.{cases_eq}
use Rattle.std.proofs.lemmas.List.Sums.{count_by-le-length}
use Rattle.fs_text.specs.Texts.{Text}
use Rattle.fs_cmd.specs.Frames.{auth_request, api_reply}
use Rattle.fs_doc.specs.Limits.{IsWithin}
use Rattle.fs_doc.specs.Reading.{Configuration}
use Rattle.fs_orig.specs.declared.caller.Caller.{Caller}
use Rattle.fs_orig.specs.declared.orig.Owner.TheVariants as owner
use Rattle.fs_orig.specs.declared.plan.LegPlan.{LegPlan}
use Rattle.fs_orig.specs.declared.winner.Winner.{Winner}
use Rattle.fs_seats.specs.declared.numbered.Numbered.{Numbered}
use Rattle.fs_state.specs.declared.conn.Conn.{Conn}
use Rattle.fs_state.specs.declared.conn.Parting.TheVariants as parting
use Rattle.fs_state.specs.declared.conn.Phase.{Phase}
use Rattle.fs_state.specs.declared.conn.Phase.TheVariants as phase
use Rattle.fs_state.specs.Frames.{Gift}
use Rattle.fs_state.specs.declared.job.Asker.{Asker}
use Rattle.fs_state.specs.declared.job.Asker.TheVariants as asker
use Rattle.fs_state.specs.declared.job.JobWork.{JobWork}
use Rattle.fs_state.specs.declared.job.JobWork.TheVariants.{Originate}
use Rattle.fs_state.specs.Frames.{Reply}
use Rattle.fs_state.specs.Drawn as numbers
use Rattle.fs_state.specs.Frames.{Frames, is_event, events_in}
use Rattle.fs_state.specs.Posting.{most_events, room_behind, posts, with_posts}
use Rattle.fs_state.specs.Switch.{Switch, empty, conn_of, next_orig_number, with_new_job, without_job}
use Rattle.fs_state.specs.Switch.{without_orig, without_conn, outgoing_for, with_frame_taken, gift_of, at_moment, all_given, after_entry}
use Rattle.fs_state.specs.Ending.{last_reply, last_notice, last_replies, last_notices, ended}
use Rattle.fs_state.proofs.GiftLemmas.{events_append, events_drop}
use Rattle.fs_machine.specs.declared.entry.Entry.{Entry}
use Rattle.fs_machine.specs.declared.entry.Act.{Act}
use Rattle.fs_machine.specs.declared.entry.Act.TheVariants.{Arrive, Take, Close, Dialed}
use Rattle.fs_machine.specs.declared.entry.Closing.TheVariants.{Sent, Failed}
use Rattle.fs_machine.specs.Texts.{made_text, failed_text}
use Rattle.fs_machine.specs.Controlling.{is_left, farewell, farewell_behind, after_dial, after_letting_go, after_leavings}
use Rattle.fs_machine.specs.Connections.{phase_at, conn_changed_from, conn_changed, admitted, parted, owed_since, not_owed}
use Rattle.fs_machine.specs.Connections.{with_subs_changed}
use Rattle.fs_machine.specs.Entries.{cost_of}
use Rattle.fs_machine.specs.Originations.{MadeGroup, group_made, after_winning}
use Rattle.fs_machine.specs.Attempts.{first_group, orig_begun, originate_begun}
use Rattle.fs_machine.specs.declared.owing.Giver.{Giver}
use Rattle.fs_machine.specs.declared.owing.Giver.TheVariants as giver
use Rattle.fs_machine.specs.Owing.{job_number, after_job_begin, background_begun, after_job_end}
use Rattle.fs_machine.specs.Runs.{run_from, IsRunFrom}
use Rattle.fs_machine.specs.Sound.{EventsAreFew}
use Rattle.fs_machine.specs.Step.{is_closed, refusal_of, arrived, act_done, step}
use Rattle.fs_machine.proofs.Kept.{Fact, raced, KeptByApi, KeptByMoves}
use Rattle.fs_machine.proofs.ActWalk.{acted_kept}
use Rattle.fs_machine.proofs.RestLemmas.{Rest, rest_of, calls_by_rest, dials_by_rest, group_made_rest, won_rest}
use Rattle.fs_machine.proofs.KeepLemmas.{act_keeps}
use Rattle.fs_machine.proofs.PostLemmas.{frames_for, frames_append, few_posts}
use Rattle.fs_machine.proofs.WaitingLemmas.{Ordered, keeps_outgoing, outgoing_given, posted_ordered, closed_outgoing, taken_outgoing}
use Rattle.fs_machine.proofs.WaitingLemmas.{taken_apart, without_outgoing, without_apart, arrived_outgoing, dialed_outgoing}
use Rattle.fs_machine.proofs.WaitingLemmas.{freed_ordered, freed_outgoing, left_outgoing}
use Rattle.fs_machine.proofs.OrderLemmas.{Orderly, acted_ordered, not_full, room_left, advanced_orderly, entry_orderly, empty_outgoing}
use Rattle.fs_machine.proofs.OrderLemmas.{empty_orderly}

-- ---- what is answered, and what is given behind the events

-- none of the frames tells of an event
abbrev pub AreReplies : List Gift → Type 0
AreReplies gifts = (conn : ℕ) → events_in (frames_for conn gifts) ≡ 0

none_replies : (gifts : List Gift) → gifts ≡ [] → AreReplies gifts
none_replies gifts none conn = ap (λ (all : List Gift). events_in (frames_for conn all)) none

one_reply : (conn other : ℕ) (text : Text) → events_in (frames_for other (gift_of conn text ∷ [])) ≡ 0
one_reply conn other text = by (conn == other)
  where
    by : (b : Bool) → events_in ((if b then Reply text ∷ [] else []) ++ []) ≡ 0
    by true = refl
    by false = refl

-- so it is with more of them
replies_more : (gifts more : List Gift) → AreReplies gifts → AreReplies more → AreReplies (gifts ++ more)
replies_more gifts more h k other =
    ap events_in (frames_append other gifts more)
    ∙ events_append (frames_for other gifts) (frames_for other more)
    ∙ omega (arith, h other, k other)

reply_more : (conn : ℕ) (text : Text) (gifts : List Gift) → AreReplies gifts → AreReplies (gifts ++ gift_of conn text ∷ [])
reply_more conn text gifts h = replies_more gifts (gift_of conn text ∷ []) h (λ other. one_reply conn other text)

-- and with those that each seat gives
replies_each : {A : Type 0} → (gives : A → List Gift) → ((held : A) → AreReplies (gives held)) → (rows : List A) →
    AreReplies (flat_map gives rows)
replies_each gives each [] = λ conn. refl
replies_each gives each (held ∷ rows) = replies_more (gives held) (flat_map gives rows) (each held) (replies_each gives each rows)

-- what a connection is given at the end of the switch
are_last_replies : (reply : Text) (held : Option (Numbered Conn)) → AreReplies (last_replies reply held)
are_last_replies reply None = λ conn. refl
are_last_replies reply (Some row) = by row.held.owed
  where
    by : (owed : Option ℕ) → AreReplies (last_reply row.number reply owed)
    by None = λ conn. refl
    by (Some since) = λ conn. one_reply row.number conn reply

are_last_notices : (notice : Text) (held : Option (Numbered Conn)) → AreReplies (last_notices notice held)
are_last_notices notice None = λ conn. refl
are_last_notices notice (Some row) = by row.held.phase
  where
    by : (now : Phase) → AreReplies (last_notice row.number notice now)
    by phase.Fresh = λ conn. one_reply row.number conn notice
    by phase.Ready = λ conn. one_reply row.number conn notice
    by phase.Ending = λ conn. refl
    by phase.Closed = λ conn. refl

-- what one is given whose channel has left
are_farewells : (s : Switch) (held : Option (Numbered Conn)) → AreReplies (farewell_behind s held)
are_farewells s None = λ conn. refl
are_farewells s (Some row) = by (is_left s row)
  where
    by : (left : Bool) → AreReplies (if left then gift_of row.number (farewell row.held.control) ∷ [] else [])
    by true = λ conn. one_reply row.number conn (farewell row.held.control)
    by false = λ conn. refl

-- what is given that is no event
abbrev Replies : Switch → Type 0
Replies s = AreReplies s.replies × AreReplies s.late × AreReplies s.notices

rest_replies : (s t : Switch) → rest_of t ≡ rest_of s → Replies s → Replies t
rest_replies s t same h = (
  subst AreReplies (sym (ap (λ (r : Rest). r.replies) same)) h.0,
  subst AreReplies (sym (ap (λ (r : Rest). r.late) same)) h.1,
  subst AreReplies (sym (ap (λ (r : Rest). r.notices) same)) h.2,
)

changed_replies : (change : Conn → Conn) (conn : ℕ) (s : Switch) → Replies s → Replies (conn_changed change conn s)
changed_replies change conn s h = by (conn_of s conn)
  where
    by : (found : Option Conn) → Replies (conn_changed_from change conn found s)
    by None = h
    by (Some c) = h

owing_replies : (by : Giver) (what : JobWork) (s : Switch) → Replies s → Replies (after_job_begin by what s)
owing_replies (giver.Conn conn) what s h =
    changed_replies (owed_since s.entries) conn (with_new_job (record { asker = asker.Conn conn; work = what }) s) h
owing_replies (giver.Job number job) what s h = h

ended_replies : (number : ℕ) (who : Asker) (answer : Text) (s : Switch) → Replies s → Replies (after_job_end number who answer s)
ended_replies number (asker.Conn conn) answer s h =
    let over : Switch = conn_changed not_owed conn (without_job number s) in
    let k : Replies over = changed_replies not_owed conn (without_job number s) h in
    (k.0, reply_more conn (api_reply answer) over.late k.1, k.2)
ended_replies number (asker.Background job) answer s h = h

originates_replies : (by : Giver) (groups : List (List LegPlan)) (winner : Winner) (caller : Caller) (timeout : Option ℕ) (s : Switch) →
    Replies s → Replies (originate_begun by groups winner caller timeout s)
originates_replies by groups winner caller timeout s h =
    let made : MadeGroup = group_made (first_group groups) caller (next_orig_number s) s in
    owing_replies by (Originate (next_orig_number s) winner caller)
    (orig_begun (owner.Job (job_number by made.state)) groups made.legs (unwrap_or timeout 60) made.state)
    (rest_replies s made.state (group_made_rest (first_group groups) caller (next_orig_number s) s) h)

background_replies : (given : Option Text) (command : Text) (s : Switch) → Replies s → Replies (background_begun given command s)
background_replies None command s h = h
background_replies (Some uuid) command s h = h

stopped_replies : (reply notice : Text) (s : Switch) → Replies s → Replies (ended reply notice s)
stopped_replies reply notice s h = (
  h.0,
  replies_more s.late (flat_map (last_replies reply) s.conns) h.1 (replies_each (last_replies reply) (are_last_replies reply) s.conns),
  replies_more s.notices (flat_map (last_notices notice) s.conns) h.2
      (replies_each (last_notices notice) (are_last_notices notice) s.conns),
)

left_replies : (s : Switch) → Replies s → Replies (after_leavings s)
left_replies s h = (
  h.0,
  h.1,
  replies_more s.notices (flat_map (farewell_behind s) s.conns) h.2 (replies_each (farewell_behind s) (are_farewells s) s.conns),
)

-- every move gives replies alone
abbrev Replying : Fact
Replying b s = Replies s

replying_api : (by : Giver) → KeptByApi by Replying
replying_api by = record {
  spent = λ h. h;
  draws = λ h. h;
  waits = λ what {s = s} wait may room h. owing_replies by what s h;
  originates = λ groups winner caller timeout {s = s} may are short room h. originates_replies by groups winner caller timeout s h;
  leavings = λ {s = s} h. left_replies s h;
  ends = λ reply notice {s = s} dead h. stopped_replies reply notice s h;
}

replying_moves : (before : Switch) → KeptByMoves before Replying
replying_moves before = record {
  calls = calls_by_rest Replying (λ b t u h same. rest_replies t u same h) (λ t h. h);
  jobs = record {
    out = λ number job does h. h;
    runs = λ number job. replying_api (giver.Job number job);
    woken = λ number who what answer {s = s} wait does h. ended_replies number who answer s h;
    failed = λ job who winner caller orig cause {s = s} does over h. ended_replies job who (failed_text cause) (without_orig orig s) h;
    wins = λ job who winner caller orig leg slots does won h.
        let t : Switch = raced slots before in
        let u : Switch = after_winning winner (unwrap_or leg.slot 0) t in
        ended_replies job who (made_text leg.uuid) (without_orig orig u)
        (rest_replies t u (won_rest winner (unwrap_or leg.slot 0) t) h);
  };
  dials = dials_by_rest before Replying (λ b t u h same. rest_replies t u same h) (λ t h. h);
  commands = λ conn. record {
    api = replying_api (giver.Conn conn);
    noticed = λ frame {s = s} h. (h.0, h.1, reply_more conn frame s.notices h.2);
    gave = λ frame {s = s} h. (reply_more conn frame s.replies h.0, h.1, h.2);
    asked = λ change {s = s} h. changed_replies (with_subs_changed change) conn s h;
    admitted = λ {s = s} fresh h. changed_replies admitted conn s h;
    parted = λ why {s = s} leaves was h. changed_replies (parted why) conn s h;
    backgrounds = λ given command {s = s} room h. background_replies given command s h;
  };
  visits = record {
    arrived = λ {s = s} h. (reply_more (numbers.with_conn s.drawn).conns auth_request s.replies h.0, h.1, h.2);
    taken = λ conn h. h;
    holds = λ slot c text there waits room h. h;
    silent = λ conn {s = s} was h. changed_replies (parted parting.EndOfInput) conn s h;
    left = λ conn was h. h;
    halted = λ reply notice {s = s} dead h. stopped_replies reply notice s h;
  };
}

acted_replies : (act : Act) (s : Switch) → Replies s → Replies (act_done act s).state
acted_replies act s h = acted_kept s Replying (replying_moves s) act (λ loads config t k. k) h

-- ---- what waits

-- as many events as before, where the same frames wait
same_events : (new old : Frames) → new ≡ old → events_in new ≤ events_in old
same_events new old same = subst (λ (frames : Frames). events_in frames ≤ events_in old) (sym same) (omega arith)

taken_events : (taker conn : ℕ) (s : Switch) → Ordered s →
    events_in (outgoing_for (with_frame_taken taker s) conn) ≤ events_in (outgoing_for s conn)
taken_events taker conn s ordered = by (cases_eq taker conn)
  where
    own : events_in (outgoing_for (with_frame_taken taker s) taker) ≤ events_in (outgoing_for s taker)
    own =
        subst (λ (frames : Frames). events_in frames ≤ events_in (outgoing_for s taker)) (sym (taken_outgoing taker s ordered))
        (events_drop (outgoing_for s taker))

    by : (taker ≡ conn) ⊎ (taker ≡ conn → ⊥) → events_in (outgoing_for (with_frame_taken taker s) conn) ≤ events_in (outgoing_for s conn)
    by (inl same) =
        subst (λ number. events_in (outgoing_for (with_frame_taken taker s) number) ≤ events_in (outgoing_for s number)) same own
    by (inr differ) =
        same_events (outgoing_for (with_frame_taken taker s) conn) (outgoing_for s conn) (taken_apart taker conn s differ)

without_events : (gone conn : ℕ) (s : Switch) → Ordered s →
    events_in (outgoing_for (without_conn gone s) conn) ≤ events_in (outgoing_for s conn)
without_events gone conn s ordered = by (cases_eq gone conn)
  where
    own : events_in (outgoing_for (without_conn gone s) gone) ≤ events_in (outgoing_for s gone)
    own =
        subst (λ (frames : Frames). events_in frames ≤ events_in (outgoing_for s gone)) (sym (without_outgoing gone s ordered))
        (omega arith)

    by : (gone ≡ conn) ⊎ (gone ≡ conn → ⊥) → events_in (outgoing_for (without_conn gone s) conn) ≤ events_in (outgoing_for s conn)
    by (inl same) =
        subst (λ number. events_in (outgoing_for (without_conn gone s) number) ≤ events_in (outgoing_for s number)) same own
    by (inr differ) = same_events (outgoing_for (without_conn gone s) conn) (outgoing_for s conn) (without_apart gone conn s differ)

-- nor do more wait where the same frames do behind it
behind_events : (s t : Switch) (conn : ℕ) → events_in (outgoing_for t conn) ≤ events_in (outgoing_for s conn) →
    events_in (outgoing_for (after_leavings t) conn) ≤ events_in (outgoing_for s conn)
behind_events s t conn less =
    subst (λ (frames : Frames). events_in frames ≤ events_in (outgoing_for s conn)) (sym (left_outgoing t conn)) less

-- one that is gone has let its channel go
gone_events : (gone conn : ℕ) (s : Switch) → Ordered s →
    events_in (outgoing_for (without_conn gone (after_letting_go gone s)) conn) ≤ events_in (outgoing_for s conn)
gone_events gone conn s ordered =
    subst
    (λ (frames : Frames). events_in (outgoing_for (without_conn gone (after_letting_go gone s)) conn) ≤ events_in frames)
    (freed_outgoing gone s conn) (without_events gone conn (after_letting_go gone s) (freed_ordered gone s ordered))

-- an act puts nothing into the outboxes by itself
acted_events : (act : Act) (s : Switch) (conn : ℕ) → Ordered s → s.drawn.conns < 2 ^ 32 - 1 →
    events_in (outgoing_for (act_done act s).state conn) ≤ events_in (outgoing_for s conn)
acted_events Arrive s conn ordered room =
    same_events (outgoing_for (act_done Arrive s).state conn) (outgoing_for s conn)
    (left_outgoing (arrived s).state conn ∙ arrived_outgoing s conn ordered room)
acted_events (Dialed slot linked) s conn ordered room =
    same_events (outgoing_for (act_done (Dialed slot linked) s).state conn) (outgoing_for s conn)
    (left_outgoing (after_dial linked slot s) conn ∙ dialed_outgoing linked slot s conn ordered room)
acted_events (Take taker) s conn ordered room = behind_events s (with_frame_taken taker s) conn (taken_events taker conn s ordered)
acted_events (Close gone Sent) s conn ordered room =
    behind_events s (without_conn gone (after_letting_go gone s)) conn (gone_events gone conn s ordered)
acted_events (Close gone Failed) s conn ordered room =
    behind_events s (without_conn gone (after_letting_go gone s)) conn (gone_events gone conn s ordered)
acted_events act s conn ordered room =
    same_events (outgoing_for (act_done act s).state conn) (outgoing_for s conn)
    (keeps_outgoing s (act_done act s).state (act_keeps act s) conn)

-- ---- the end of an entry

-- what is posted has room, and all else are replies
given_events : (before t : Switch) (conn : ℕ) → Ordered before → Replies t →
    events_in (outgoing_given conn (with_posts before t)) ≤ room_behind (outgoing_for before conn)
given_events before t conn ordered h = by (is_closed (phase_at t conn))
  where
    behind : Frames
    behind = frames_for conn (posts before t ++ (t.late ++ t.notices))

    whole : events_in (frames_for conn (all_given (with_posts before t))) ≡ events_in (frames_for conn t.replies) + events_in behind
    whole =
        ap events_in (frames_append conn t.replies (posts before t ++ (t.late ++ t.notices)))
        ∙ events_append (frames_for conn t.replies) behind

    rest : events_in behind ≡ events_in (frames_for conn (posts before t)) + events_in (frames_for conn (t.late ++ t.notices))
    rest =
        ap events_in (frames_append conn (posts before t) (t.late ++ t.notices))
        ∙ events_append (frames_for conn (posts before t)) (frames_for conn (t.late ++ t.notices))

    last : events_in (frames_for conn (t.late ++ t.notices)) ≡ events_in (frames_for conn t.late) + events_in (frames_for conn t.notices)
    last =
        ap events_in (frames_append conn t.late t.notices) ∙ events_append (frames_for conn t.late) (frames_for conn t.notices)

    most : events_in (frames_for conn (posts before t)) ≤ length (frames_for conn (posts before t))
    most = count_by-le-length is_event (frames_for conn (posts before t))

    few : length (frames_for conn (posts before t)) ≤ room_behind (outgoing_for before conn)
    few = few_posts before t conn ordered.distinct

    by : (b : Bool) →
        events_in (if b then [] else frames_for conn (all_given (with_posts before t))) ≤ room_behind (outgoing_for before conn)
    by true = omega arith
    by false = omega (arith, whole, rest, last, h.0 conn, h.1 conn, h.2 conn, most, few)

-- so few events wait then
closed_events : (cost : ℕ) (before t : Switch) (conn : ℕ) → Ordered before → Ordered t → Replies t →
    events_in (outgoing_for t conn) ≤ events_in (outgoing_for before conn) → events_in (outgoing_for before conn) ≤ most_events →
    events_in (outgoing_for (after_entry cost (with_posts before t)) conn) ≤ most_events
closed_events cost before t conn first ordered replies less few =
    let whole : events_in (outgoing_for (after_entry cost (with_posts before t)) conn) ≡ events_in (outgoing_for t conn) + events_in
    (outgoing_given conn (with_posts before t)) =
    ap events_in (closed_outgoing cost (with_posts before t) conn (posted_ordered before t ordered))
    ∙ events_append (outgoing_for t conn) (outgoing_given conn (with_posts before t)) in
    omega (arith, whole, given_events before t conn first replies, less, few)

step_few : (s : Switch) (entry : Entry) → Orderly s → refusal_of s entry ≡ None → EventsAreFew s → EventsAreFew (step s entry).state
unfolding step
step_few s entry orderly none few =
    let now : Switch = at_moment entry.moment s in
    let t : Switch = (act_done entry.act now).state in
    let ordered : Ordered now = (advanced_orderly entry.moment s orderly).ordered in
    let room : s.drawn.conns < 2 ^ 32 - 1 = room_left s orderly (not_full s entry none) in
    let replies : Replies t =
    acted_replies entry.act now
    (none_replies s.replies orderly.replies, none_replies s.late orderly.late, none_replies s.notices orderly.notices) in
    record {
      each = λ conn. closed_events (cost_of entry.act) s t conn orderly.ordered (acted_ordered entry.act now ordered room) replies
          (acted_events entry.act now conn ordered room) (few.each conn);
    }

run_few : (s : Switch) (entries : List Entry) → Orderly s → IsRunFrom s entries → EventsAreFew s → EventsAreFew (run_from s entries)
run_few s [] orderly run few = few
run_few s (entry ∷ entries) orderly run few =
    run_few (step s entry).state entries (entry_orderly s entry orderly run.0) run.1 (step_few s entry orderly run.0 few)

-- nothing waits at first
empty_few : (config : Configuration) → EventsAreFew (empty config)
empty_few config = record {
  each = λ conn. subst (λ (frames : Frames). events_in frames ≤ most_events) (sym (empty_outgoing config conn)) (omega arith);
}

pub events_are_few : (config : Configuration) (entries : List Entry) → IsWithin config → IsRunFrom (empty config) entries →
    EventsAreFew (run_from (empty config) entries)
events_are_few config entries within run =
    run_few (empty config) entries (empty_orderly config within.settings.journal.1) run (empty_few config)
