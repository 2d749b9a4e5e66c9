-- What is told of bridges tells how often each number was drawn, and which bridges stand.
use Rattle.std.proofs.Common.{◌≡◌, ℕ, zero, suc, ◌+◌, ◌≤◌, ◌<◌, ◌==◌, Bool, true, false, not, if◌then◌else◌, List, [], ◌∷◌, ◌++◌}
use Rattle.std.specs.Prelude.{◌&&◌}
use Rattle.std.proofs.Common.{count_by, Option, None, Some, option_to_list, ◌⊎◌, inl, inr, refl, sym, ap, subst, ◌∙◌}
use Rattle.std.proofs.Common.{arith, true≢false}
use Rattle.std.specs.List.{find}
use Rattle.std.proofs.lemmas.Bool.{cases_lt, eqb-true, or_cases, false≢true}
use Rattle.std.proofs.lemmas.Cmp.{nat_eq_equiv}
use Rattle.std.proofs.lemmas.List.{append_assoc}
use Rattle.std.proofs.lemmas.List.Elements.{All-head, All-push, All-tail}
use Rattle.std.proofs.lemmas.List.Sums.{sum_by-append, sum_by_push}
use Rattle.fs_text.specs.declared.causes.Cause.{Cause}
use Rattle.fs_text.specs.declared.causes.Cause.TheVariants.{NormalClearing}
use Rattle.fs_text.specs.declared.states.State.TheVariants.{CsHangup}
use Rattle.fs_text.specs.declared.event_names.EventName.{EventName}
use Rattle.fs_text.specs.declared.event_names.EventName.TheVariants.{ChannelExecuteComplete, ChannelBridge, ChannelUnbridge}
use Rattle.fs_text.specs.EventName.{event_number}
use Rattle.fs_bridge.specs.declared.after.After.{After}
use Rattle.fs_bridge.specs.declared.after.After.TheVariants.{GoOn, Hangup, Park}
use Rattle.fs_bridge.specs.declared.row.Row.{Row}
use Rattle.fs_bridge.specs.Bridges.{BridgeRows, has_leg, has_number, unbridged}
use Rattle.fs_bridge.specs.Closure.{Member, Members, Ends, closure_of}
use Rattle.fs_bridge.specs.Hangups.{IsOneOf}
use Rattle.fs_bridge.specs.Orders.{has_slot}
use Rattle.fs_bridge.proofs.DragLemmas.{one_back, one_filter, one_parts}
use Rattle.fs_bridge.proofs.RowLemmas.{one_if, none_counted}
use Rattle.fs_chan.specs.declared.chan.Chan.{Chan}
use Rattle.fs_chan.specs.Bridging.{awaited_by, unbridged as let_go}
use Rattle.fs_chan.specs.Changes.{is_live, at_rest, parked, hung_up}
use Rattle.fs_orig.specs.declared.orig.Orig.{Orig}
use Rattle.fs_orig.specs.Changes.{with_death}
use Rattle.fs_state.specs.declared.event.Detail.{Detail}
use Rattle.fs_state.specs.declared.event.Detail.TheVariants as detail
use Rattle.fs_state.specs.declared.event.Event.{Event}
use Rattle.fs_state.specs.Switch.{Switch, chan_at, with_chan, bridge_at, without_bridge, orig_of, with_event}
use Rattle.fs_state.specs.Moves.{with_changed_chan_from, with_changed_chan, after_move, plain_event, with_state_events, hangup_event}
use Rattle.fs_state.specs.Counts.{is_named}
use Rattle.fs_state.specs.Bridging.{bridge_event}
use Rattle.fs_state.specs.Moves.{application_event, running_at, orig_changed_from, leg_changed, its_leg_changed, is_owner}
use Rattle.fs_state.specs.Moves.{given_up_by, orig_given_up, after_hangup_from, after_one_hangup, after_completion}
use Rattle.fs_state.specs.Hangups.{lives_at, world_of, living_of, Ended, after_end, after_ends, unbridge_event, is_leg_of, with_end_told}
use Rattle.fs_state.specs.Hangups.{untold_by, after_member, after_members, after_outliving, after_survival, after_survivals, after_closure}
use Rattle.fs_state.specs.declared.event.QueueAction.TheVariants.{Abort}
use Rattle.fs_state.specs.Queues.{queue_event, abort_told}
use Rattle.fs_machine.proofs.AbortLemmas.{abort_kept}
use Rattle.fs_state.specs.Hangups.{after_hangups}
use Rattle.fs_state.specs.Leaving.{after_parting, leaving_of, after_bridges_left}
use Rattle.fs_machine.specs.BridgeEvents.{tells_begin, tells_end, begins, ends, begun, ended, EndsStandBehind, shares_leg, EndsStandBetween}
use Rattle.fs_machine.specs.EventNames.{can_tell, AreNamed}
use Rattle.fs_machine.proofs.Kept.{IsOfNoBridge, TellsNoBridge}
use Rattle.fs_machine.proofs.StayLemmas.{application_plain, state_plain_kept, moved_plain}
use Rattle.fs_machine.proofs.BondRows.{IsLeg, RowsFit, is_leg, caller_leg, answerer_leg, unbridged_fit}
use Rattle.fs_machine.proofs.ListCounts.{counts_front, counts_some, counts_one, counts_found, counts_none, counts_kept, counts_part}
use Rattle.fs_machine.proofs.ListCounts.{counts_apart, one_passes, stands_in, stands_pushed}
use Rattle.fs_machine.proofs.EndLemmas.{is_end_of, ends_of_number, rows_of_number, AreEnds, closure_ends}
use Rattle.fs_machine.proofs.PartingLemmas.{parted_state, partings_kept}
use Rattle.fs_machine.proofs.WorldEnds.{left_ends}

-- ---- how often a number is drawn

-- when so many are, from 1 on
abbrev pub drawn_times : ℕ → ℕ → ℕ
drawn_times number zero = 0
drawn_times number (suc drawn) = drawn_times number drawn + one_if (suc drawn == number)

-- not yet
pub drawn_later : (number drawn : ℕ) → drawn < number → drawn_times number drawn ≡ 0
drawn_later number zero later = refl
drawn_later number (suc drawn) later = by (suc drawn == number) refl (drawn_later number drawn (omega (arith, later)))
  where
    by : (b : Bool) → (suc drawn == number) ≡ b → drawn_times number drawn ≡ 0 → drawn_times number drawn + one_if b ≡ 0
    by true is none = let same = eqb-true (suc drawn) number is in absurd (omega (arith, same, later))
    by false is none = omega (arith, none)

-- never
pub drawn_never : (drawn : ℕ) → drawn_times 0 drawn ≡ 0
drawn_never zero = refl
drawn_never (suc drawn) = by (suc drawn == 0) refl (drawn_never drawn)
  where
    by : (b : Bool) → (suc drawn == 0) ≡ b → drawn_times 0 drawn ≡ 0 → drawn_times 0 drawn + one_if b ≡ 0
    by true is none = let same = eqb-true (suc drawn) 0 is in absurd (omega (arith, same))
    by false is none = omega (arith, none)

-- once
pub drawn_once : (number drawn : ℕ) → 1 ≤ number → number ≤ drawn → drawn_times number drawn ≡ 1
drawn_once number zero first last = absurd (omega (arith, first, last))
drawn_once number (suc drawn) first last = by (suc drawn == number) refl (drawn_once number drawn first)
  where
    by : (b : Bool) → (suc drawn == number) ≡ b → (number ≤ drawn → drawn_times number drawn ≡ 1) →
        drawn_times number drawn + one_if b ≡ 1
    by true is again =
        let same = eqb-true (suc drawn) number is in
        let none = drawn_later number drawn (omega (arith, same)) in
        omega (arith, none)
    by false is again =
        let other : suc drawn ≡ number → ⊥ = λ same. true≢false (sym (ap (λ n. n == number) same ∙ nat_eq_equiv.refl number) ∙ is) in
        let once = again (omega (arith, last, other)) in
        omega (arith, once)

-- never twice
pub drawn_most : (number drawn : ℕ) → drawn_times number drawn ≤ 1
drawn_most number zero = omega arith
drawn_most number (suc drawn) = by (suc drawn == number) refl (drawn_most number drawn)
  where
    by : (b : Bool) → (suc drawn == number) ≡ b → drawn_times number drawn ≤ 1 → drawn_times number drawn + one_if b ≤ 1
    by true is most =
        let same = eqb-true (suc drawn) number is in
        let none = drawn_later number drawn (omega (arith, same)) in
        omega (arith, none)
    by false is most = omega (arith, most)

-- one more is
pub drawn_next : (number drawn : ℕ) → drawn_times number (drawn + 1) ≡ drawn_times number drawn + one_if (drawn + 1 == number)
drawn_next number drawn =
    let next : drawn + 1 ≡ suc drawn = omega arith in
    ap (drawn_times number) next ∙ ap (λ n. drawn_times number drawn + one_if (n == number)) (sym next)

-- ---- what is told

-- what of a switch tells of bridges
pub record Tidings : Type 0 where
  pub bridges : BridgeRows
  pub news : List Event

abbrev pub tidings_of : Switch → Tidings
tidings_of s = record { bridges = s.bridges; news = s.news }

-- the bridge that stands of a number is the one of which it is told that it begins
abbrev pub RowsAreTold : List Event → BridgeRows → Type 0
RowsAreTold events bridges =
    (row other : Row) (event : Event) → IsOneOf event events → event.detail ≡ detail.Bridge row → IsOneOf other bridges.rows →
    other.number ≡ row.number → other ≡ row

-- One event tells of each number that was drawn, and the bridge of each one stands, or its end is told, or so many are still to be told.
-- Each event is well named, and each end stands behind the beginning, and in front of that of the next bridge of one of its legs.
pub record TellsIn (past : List Event) (more : ℕ → ℕ) (now : Tidings) : Type 0 where
  pub rows : RowsFit now.bridges
  pub named : AreNamed (past ++ now.news)
  pub behind : EndsStandBehind (past ++ now.news)
  pub between : EndsStandBetween (past ++ now.news)
  pub rows_told : RowsAreTold (past ++ now.news) now.bridges
  pub begin : (number : ℕ) → begun number past + begun number now.news ≡ drawn_times number now.bridges.drawn
  pub end : (number : ℕ) →
      ended number past + ended number now.news + (rows_of_number number now.bridges + more number)
      ≡ drawn_times number now.bridges.drawn

abbrev pub TellsBut : List Event → (ℕ → ℕ) → Switch → Type 0
TellsBut past more s = TellsIn past more (tidings_of s)

-- none is still to be told
abbrev pub Tells : List Event → Switch → Type 0
Tells past s = TellsBut past (λ number. 0) s

-- a number stands once at most
tells_one : (past : List Event) (more : ℕ → ℕ) (s : Switch) (number : ℕ) → TellsBut past more s →
    rows_of_number number s.bridges + more number ≤ 1
tells_one past more s number h =
    let most = drawn_most number s.bridges.drawn in
    let all = h.end number in
    omega (arith, most, all)

as_many : (past : List Event) (more other : ℕ → ℕ) (s : Switch) → ((number : ℕ) → more number ≡ other number) → TellsBut past more s →
    TellsBut past other s
as_many past more other s same h = record {
  rows = h.rows;
  named = h.named;
  behind = h.behind;
  between = h.between;
  rows_told = h.rows_told;
  begin = h.begin;
  end = λ number. let is = same number in let all = h.end number in omega (arith, is, all);
}

-- one more event
pub begun_push : (number : ℕ) (events : List Event) (event : Event) →
    begun number (events ++ event ∷ []) ≡ begun number events + one_if (begins number event)
begun_push number events event = sum_by_push (λ (e : Event). one_if (begins number e)) events event

pub ended_push : (number : ℕ) (events : List Event) (event : Event) →
    ended number (events ++ event ∷ []) ≡ ended number events + one_if (ends number event)
ended_push number events event = sum_by_push (λ (e : Event). one_if (ends number e)) events event

-- ---- one more event

-- an event that is told has its name
has_name : (name : EventName) → (event_number name == event_number name) ≡ true
has_name name = nat_eq_equiv.refl (event_number name)

never : (test : Bool) → (test && false) ≡ false
never true = refl
never false = refl

-- that of a bridge
pub bridge_begins : (number : ℕ) (row : Row) → begins number (bridge_event row) ≡ has_number number row
bridge_begins number row = ap (λ b. b && has_number number row) (has_name ChannelBridge)

pub bridge_ends : (number : ℕ) (row : Row) → ends number (bridge_event row) ≡ false
bridge_ends number row = never (is_named ChannelUnbridge (bridge_event row))

unbridge_begins : (number : ℕ) (e : Ended) → begins number (unbridge_event e) ≡ false
unbridge_begins number e = never (is_named ChannelBridge (unbridge_event e))

unbridge_ends : (number : ℕ) (e : Ended) → ends number (unbridge_event e) ≡ is_end_of number e
unbridge_ends number e = ap (λ b. b && is_end_of number e) (has_name ChannelUnbridge)

-- and of none
none_begins : (number : ℕ) (what : Detail) → IsOfNoBridge what → tells_begin number what ≡ false
none_begins number (detail.Bridge row) none = absurd none
none_begins number (detail.Unbridge row cause) none = absurd none
none_begins number _ none = refl

none_ends : (number : ℕ) (what : Detail) → IsOfNoBridge what → tells_end number what ≡ false
none_ends number (detail.Bridge row) none = absurd none
none_ends number (detail.Unbridge row cause) none = absurd none
none_ends number _ none = refl

no_begin : (number : ℕ) (event : Event) → TellsNoBridge event → begins number event ≡ false
no_begin number event none =
    ap (λ b. is_named ChannelBridge event && b) (none_begins number event.detail none.1) ∙ never (is_named ChannelBridge event)

no_end : (number : ℕ) (event : Event) → TellsNoBridge event → ends number event ≡ false
no_end number event none =
    ap (λ b. is_named ChannelUnbridge event && b) (none_ends number event.detail none.1) ∙ never (is_named ChannelUnbridge event)

-- it is well named
pub named_push : (past news : List Event) (event : Event) → can_tell event.name event.detail ≡ true → AreNamed (past ++ news) →
    AreNamed (past ++ (news ++ event ∷ []))
named_push past news event can h =
    subst AreNamed (append_assoc past news (event ∷ []))
    (All-push (λ (e : Event). can_tell e.name e.detail ≡ true) (past ++ news) event h can)

-- the end that it tells stands behind the beginning
pub behind_push : (past news : List Event) (event : Event) → ((number : ℕ) → ends number event ≡ true → begun number (past ++ news) ≡ 1) →
    EndsStandBehind (past ++ news) → EndsStandBehind (past ++ (news ++ event ∷ []))
behind_push past news event begin h =
    subst EndsStandBehind (append_assoc past news (event ∷ []))
    (λ number front back other is ends. by number front other ends (stands_pushed (past ++ news) event front other back is))
  where
    by : (number : ℕ) (front : List Event) (other : Event) → ends number other ≡ true →
        ((front ≡ past ++ news) × (other ≡ event)) ⊎ ((rest : List Event) × (past ++ news ≡ front ++ other ∷ rest)) →
        begun number front ≡ 1
    by number front other is (inl last) = ap (begun number) last.0 ∙ begin number (ap (ends number) (sym last.1) ∙ is)
    by number front other is (inr sooner) = h number front sooner.0 other sooner.1 is

-- of the events and one more it is that one, or was there
one_pushed : (past news : List Event) (event other : Event) → IsOneOf other (past ++ (news ++ event ∷ [])) →
    IsOneOf other (past ++ news) ⊎ (other ≡ event)
one_pushed past news event other is =
    by (one_parts other (past ++ news) (event ∷ []) (subst (λ events. IsOneOf other events) (sym (append_assoc past news (event ∷ []))) is))
  where
    by : IsOneOf other (past ++ news) ⊎ IsOneOf other (event ∷ []) → IsOneOf other (past ++ news) ⊎ (other ≡ event)
    by (inl old) = inl old
    by (inr (inl same)) = inr same
    by (inr (inr none)) = absurd none

-- the beginning that it tells is that of the bridge that stands of its number
pub rows_push : (past news : List Event) (event : Event) (bridges : BridgeRows) →
    ((row other : Row) → event.detail ≡ detail.Bridge row → IsOneOf other bridges.rows → other.number ≡ row.number → other ≡ row) →
    RowsAreTold (past ++ news) bridges → RowsAreTold (past ++ (news ++ event ∷ [])) bridges
rows_push past news event bridges of h row other one among is there same = by (one_pushed past news event one among)
  where
    by : IsOneOf one (past ++ news) ⊎ (one ≡ event) → other ≡ row
    by (inl old) = h row other one old is there same
    by (inr last) = of row other (ap (λ (e : Event). e.detail) (sym last) ∙ is) there same

-- and the ends of those before that had one of its legs stand in front of it
pub between_push : (past news : List Event) (event : Event) →
    ((one other : Row) (before between : List Event) (first : Event) → past ++ news ≡ before ++ first ∷ between →
    first.detail ≡ detail.Bridge one → event.detail ≡ detail.Bridge other → shares_leg one other ≡ true →
    ended one.number between ≡ 1) →
    EndsStandBetween (past ++ news) → EndsStandBetween (past ++ (news ++ event ∷ []))
between_push past news event since h =
    subst EndsStandBetween (append_assoc past news (event ∷ []))
    (λ one other before between back first later is begin again shares.
    by one other before between back first later begin again shares
    (stands_pushed (past ++ news) event (before ++ first ∷ between) later back
    (is ∙ sym (append_assoc before (first ∷ between) (later ∷ back)))))
  where
    by : (one other : Row) (before between back : List Event) (first later : Event) → first.detail ≡ detail.Bridge one →
        later.detail ≡ detail.Bridge other → shares_leg one other ≡ true →
        ((before ++ first ∷ between ≡ past ++ news) × (later ≡ event))
        ⊎ ((rest : List Event) × (past ++ news ≡ (before ++ first ∷ between) ++ later ∷ rest)) →
        ended one.number between ≡ 1
    by one other before between back first later begin again shares (inl last) =
        since one other before between first (sym last.0) begin (ap (λ (e : Event). e.detail) (sym last.1) ∙ again) shares
    by one other before between back first later begin again shares (inr sooner) =
        h one other before between sooner.0 first later
        (sooner.1 ∙ append_assoc before (first ∷ between) (later ∷ sooner.0)) begin again shares

-- each of these events has the name of what it tells
pub named_one : (events : List Event) → AreNamed events → (event : Event) → IsOneOf event events → can_tell event.name event.detail ≡ true
named_one [] all event one = absurd one
named_one (e ∷ events) all event (inl same) =
    ap (λ (x : Event). can_tell x.name x.detail) same ∙ All-head (λ (x : Event). can_tell x.name x.detail ≡ true) e events all
named_one (e ∷ events) all event (inr one) =
    named_one events (All-tail (λ (x : Event). can_tell x.name x.detail ≡ true) e events all) event one

-- so one that tells of a bridge tells its beginning, and no end
begins_of : (event : Event) (row : Row) → can_tell event.name event.detail ≡ true → event.detail ≡ detail.Bridge row →
    begins row.number event ≡ true
begins_of event row can is =
    ap (λ (what : Detail). is_named ChannelBridge event && tells_begin row.number what) is
    ∙ by event.name (ap (can_tell event.name) (sym is) ∙ can)
  where
    by : (name : EventName) → can_tell name (detail.Bridge row) ≡ true →
        ((event_number name == event_number ChannelBridge) && has_number row.number row) ≡ true
    by ChannelBridge can = ap (λ b. b && has_number row.number row) (has_name ChannelBridge) ∙ nat_eq_equiv.refl row.number
    by _ can = absurd (false≢true can)

begins_no_end : (number : ℕ) (event : Event) (row : Row) → event.detail ≡ detail.Bridge row → ends number event ≡ false
begins_no_end number event row is =
    ap (λ (what : Detail). is_named ChannelUnbridge event && tells_end number what) is ∙ never (is_named ChannelUnbridge event)

-- by an event so many fewer are still to be told
told_by : (past : List Event) (more less : ℕ → ℕ) (event : Event) (s : Switch) → can_tell event.name event.detail ≡ true →
    ((number : ℕ) → begins number event ≡ false) → ((number : ℕ) → more number ≡ less number + one_if (ends number event)) →
    TellsBut past more s → TellsBut past less (with_event event s)
told_by past more less event s can none fewer h = record {
  rows = h.rows;
  named = named_push past s.news event can h.named;
  behind = behind_push past s.news event (λ number is. begun_before number is) h.behind;
  between = between_push past s.news event (λ one other before between first at begin again shares. absurd (tells_none other again))
      h.between;
  rows_told = rows_push past s.news event s.bridges (λ row other is there same. absurd (tells_none row is)) h.rows_told;
  begin = λ number.
      let all = h.begin number in
      let push = begun_push number s.news event ∙ ap (λ b. begun number s.news + one_if b) (none number) in
      omega (arith, all, push);
  end = λ number.
      let all = h.end number in
      let push = ended_push number s.news event in
      let left = fewer number in
      omega (arith, all, push, left);
}
  where
    tells_none : (row : Row) → event.detail ≡ detail.Bridge row → ⊥
    tells_none row is = true≢false (sym (begins_of event row can is) ∙ none row.number)

    begun_before : (number : ℕ) → ends number event ≡ true → begun number (past ++ s.news) ≡ 1
    begun_before number is =
        let both : begun number (past ++ s.news) ≡ begun number past + begun number s.news =
        sum_by-append (λ (e : Event). one_if (begins number e)) past s.news in
        let begin = h.begin number in
        let end = h.end number in
        let most = drawn_most number s.bridges.drawn in
        let left = fewer number ∙ ap (λ b. less number + one_if b) is in
        omega (arith, both, begin, end, most, left)

-- what is told of no bridge
pub told_tells : (past : List Event) (more : ℕ → ℕ) (event : Event) (s : Switch) → TellsNoBridge event → TellsBut past more s →
    TellsBut past more (with_event event s)
told_tells past more event s none h =
    told_by past more more event s none.0 (λ number. no_begin number event none)
    (λ number. let told = ap one_if (no_end number event none) in omega (arith, told)) h

-- and a caller that leaves its queue
abort_tells : (past : List Event) (more : ℕ → ℕ) (slot : ℕ) (s : Switch) → TellsBut past more s → TellsBut past more (abort_told slot s)
abort_tells past more slot s h =
    abort_kept (TellsBut past more) slot (λ name t k. told_tells past more (queue_event Abort name slot) t (refl, tt) k) s h

pub same_tells : (past : List Event) (more : ℕ → ℕ) (t u : Switch) → tidings_of u ≡ tidings_of t → TellsBut past more t →
    TellsBut past more u
same_tells past more t u same h = subst (TellsIn past more) (sym same) h

-- ---- what leaves tidings as they are

pub changed_tidings : (change : Chan → Chan) (slot : ℕ) (s : Switch) → tidings_of (with_changed_chan change slot s) ≡ tidings_of s
changed_tidings change slot s = by (chan_at s slot)
  where
    by : (found : Option Chan) → tidings_of (with_changed_chan_from change slot found s) ≡ tidings_of s
    by None = refl
    by (Some c) = refl

its_leg_tidings : (change : ℕ → Orig → Orig) (slot : ℕ) (leg_of : Option ℕ) (s : Switch) →
    tidings_of (its_leg_changed change slot leg_of s) ≡ tidings_of s
its_leg_tidings change slot None s = refl
its_leg_tidings change slot (Some number) s = by (orig_of s number)
  where
    by : (found : Option Orig) → tidings_of (orig_changed_from (leg_changed change slot) number found s) ≡ tidings_of s
    by None = refl
    by (Some o) = refl

given_up_tidings : (slot : ℕ) (awaited : Option ℕ) (s : Switch) → tidings_of (orig_given_up slot awaited s) ≡ tidings_of s
given_up_tidings slot None s = refl
given_up_tidings slot (Some number) s = by (orig_of s number)
  where
    either : (test : Bool) (t : Switch) → tidings_of t ≡ tidings_of s → tidings_of (if test then t else s) ≡ tidings_of s
    either true t same = same
    either false t same = refl

    by : (found : Option Orig) → tidings_of (given_up_by slot number found s) ≡ tidings_of s
    by None = refl
    by (Some o) = either (is_owner slot o.owner) _ refl

module _ (past : List Event) (more : ℕ → ℕ) where
  plain_tells : (name : EventName) (slot : ℕ) (s : Switch) → TellsNoBridge (plain_event name slot) → TellsBut past more s →
      TellsBut past more (with_event (plain_event name slot) s)
  plain_tells name slot s plain h = told_tells past more (plain_event name slot) s plain h

  pub moved_tells : (change : Chan → Chan) (slot : ℕ) (s : Switch) → TellsBut past more s → TellsBut past more (after_move change slot s)
  moved_tells change slot s h =
      moved_plain (TellsBut past more) plain_tells change slot s
      (λ c is. same_tells past more s (with_chan slot (Some (change c)) s) refl h) h

  one_hung_tells : (cause : Cause) (slot : ℕ) (s : Switch) → TellsBut past more s → TellsBut past more (after_one_hangup cause slot s)
  one_hung_tells cause slot s h = by (chan_at s slot)
    where
      either : (test : Bool) (t : Switch) → TellsBut past more t → TellsBut past more (if test then t else s)
      either true t k = k
      either false t k = h

      by : (found : Option Chan) → TellsBut past more (after_hangup_from cause slot found s)
      by None = h
      by (Some c) =
          let cut : Switch = with_event (hangup_event cause slot) (with_chan slot (Some (hung_up cause c)) s) in
          let told : Switch = with_state_events c.state CsHangup slot cut in
          let left : Switch = its_leg_changed (λ position. with_death position s.entries cause) slot c.leg_of told in
          either (is_live c) (orig_given_up slot (awaited_by c) left)
          (same_tells past more told (orig_given_up slot (awaited_by c) left)
          (given_up_tidings slot (awaited_by c) left ∙ its_leg_tidings (λ position. with_death position s.entries cause) slot c.leg_of told)
          (state_plain_kept (TellsBut past more) plain_tells c.state CsHangup slot {s = cut}
          (told_tells past more (hangup_event cause slot) (with_chan slot (Some (hung_up cause c)) s) (refl, tt)
          (same_tells past more s (with_chan slot (Some (hung_up cause c)) s) refl h))))

  pub completed_tells : (slot : ℕ) (s : Switch) → TellsBut past more s → TellsBut past more (after_completion slot s)
  completed_tells slot s h =
      told_tells past more (application_event ChannelExecuteComplete (running_at slot s) slot) (after_move at_rest slot s)
      (application_plain (running_at slot s) slot) (moved_tells at_rest slot s h)

  outlives_tells : (what : After) (slot : ℕ) (s : Switch) → TellsBut past more s → TellsBut past more (after_outliving what slot s)
  outlives_tells GoOn slot s h = completed_tells slot s h
  outlives_tells Park slot s h = moved_tells parked slot s h
  outlives_tells (Hangup cause) slot s h = h

  survival_tells : (what : After) (slot : ℕ) (s : Switch) → TellsBut past more s → TellsBut past more (after_survival what slot s)
  survival_tells what slot s h = by (lives_at s slot)
    where
      by : (live : Bool) → TellsBut past more (if live then after_outliving what slot s else s)
      by true = outlives_tells what slot s h
      by false = h

  survivals_tell : (survivors : List (ℕ × After)) (s : Switch) → TellsBut past more s → TellsBut past more (after_survivals survivors s)
  survivals_tell [] s h = h
  survivals_tell (one ∷ later) s h = survivals_tell later (after_survival one.1 one.0 s) (survival_tells one.1 one.0 s h)

-- ---- bridges end

-- of the rows of other numbers as many are left, and none of this one
rows_left : (number other : ℕ) (bridges : BridgeRows) →
    rows_of_number number (unbridged other bridges) ≡ (if other == number then 0 else rows_of_number number bridges)
rows_left number other bridges = by (other == number) refl
  where
    by : (b : Bool) → (other == number) ≡ b →
        rows_of_number number (unbridged other bridges) ≡ (if b then 0 else rows_of_number number bridges)
    by true is =
        ap (λ n. rows_of_number n (unbridged other bridges)) (sym (eqb-true other number is)) ∙ counts_none (has_number other) bridges.rows
    by false is =
        counts_kept (has_number number) (λ row. not (has_number other row)) bridges.rows
        (λ row has. kept row has (has_number other row) refl)
      where
        kept : (row : Row) → has_number number row ≡ true → (b : Bool) → has_number other row ≡ b → not b ≡ true
        kept row has true same =
            let one = eqb-true row.number number has in
            let two = eqb-true row.number other same in
            absurd (true≢false (sym (nat_eq_equiv.refl other) ∙ ap (λ n. other == n) (sym two ∙ one) ∙ is))
        kept row has false same = refl

module _ (past : List Event) where
  -- one bridge ends, and its end is to be told
  end_tells : (more : ℕ → ℕ) (e : Ended) (s : Switch) → 1 ≤ rows_of_number e.0.number s.bridges → TellsBut past more s →
      TellsBut past (λ number. more number + one_if (is_end_of number e)) (after_end e.0 e.1 s)
  end_tells more e s there h =
      same_tells past (λ number. more number + one_if (is_end_of number e)) t (after_end e.0 e.1 s)
      (changed_tidings (let_go e.1) e.0.answerer (with_changed_chan (let_go e.1) e.0.caller t)
      ∙ changed_tidings (let_go e.1) e.0.caller t)
      (record {
        rows = unbridged_fit e.0.number s.bridges h.rows;
        named = h.named;
        behind = h.behind;
        between = h.between;
        rows_told = λ row other event one is there same.
            h.rows_told row other event one is (one_filter (λ (r : Row). not (has_number e.0.number r)) other s.bridges.rows there) same;
        begin = h.begin;
        end = λ number. by number (e.0.number == number) refl;
      })
    where
      t : Switch
      t = without_bridge e.0.number s

      by : (number : ℕ) (b : Bool) → (e.0.number == number) ≡ b →
          ended number past + ended number s.news
          + (rows_of_number number (unbridged e.0.number s.bridges) + (more number + one_if (e.0.number == number)))
          ≡ drawn_times number s.bridges.drawn
      by number true is =
          let all = h.end number in
          let one = tells_one past more s number h in
          let stood = subst (λ n. 1 ≤ rows_of_number n s.bridges) (eqb-true e.0.number number is) there in
          let left = rows_left number e.0.number s.bridges ∙ ap (λ b. if b then 0 else rows_of_number number s.bridges) is in
          let told = ap one_if is in
          omega (arith, all, one, stood, left, told)
      by number false is =
          let all = h.end number in
          let left = rows_left number e.0.number s.bridges ∙ ap (λ b. if b then 0 else rows_of_number number s.bridges) is in
          let told = ap one_if is in
          omega (arith, all, left, told)

  ends_tell : (more : ℕ → ℕ) (over : List Ended) (s : Switch) →
      ((number : ℕ) → ends_of_number number over ≤ rows_of_number number s.bridges) → TellsBut past more s →
      TellsBut past (λ number. more number + ends_of_number number over) (after_ends over s)
  ends_tell more [] s stand h =
      as_many past more (λ number. more number + 0) s (λ number. omega arith) h
  ends_tell more (e ∷ over) s stand h =
      as_many past (λ number. more number + one_if (is_end_of number e) + ends_of_number number over)
      (λ number. more number + ends_of_number number (e ∷ over)) (after_ends over (after_end e.0 e.1 s))
      (λ number. let front = counts_front (is_end_of number) e over in omega (arith, front))
      (ends_tell (λ number. more number + one_if (is_end_of number e)) over (after_end e.0 e.1 s) left (end_tells more e s there h))
    where
      there : 1 ≤ rows_of_number e.0.number s.bridges
      there =
          let front = counts_front (is_end_of e.0.number) e over
          ∙ ap (λ b. one_if b + ends_of_number e.0.number over) (nat_eq_equiv.refl e.0.number) in
          let less = stand e.0.number in
          omega (arith, front, less)

      left : (number : ℕ) → ends_of_number number over ≤ rows_of_number number (after_end e.0 e.1 s).bridges
      left number = by (e.0.number == number) refl
        where
          t : Switch
          t = without_bridge e.0.number s

          same : rows_of_number number (after_end e.0 e.1 s).bridges ≡ rows_of_number number (unbridged e.0.number s.bridges)
          same =
              ap (λ (now : Tidings). rows_of_number number now.bridges)
              (changed_tidings (let_go e.1) e.0.answerer (with_changed_chan (let_go e.1) e.0.caller t)
              ∙ changed_tidings (let_go e.1) e.0.caller t)

          by : (b : Bool) → (e.0.number == number) ≡ b →
              ends_of_number number over ≤ rows_of_number number (after_end e.0 e.1 s).bridges
          by true is =
              let front = counts_front (is_end_of number) e over ∙ ap (λ b. one_if b + ends_of_number number over) is in
              let less = stand number in
              let one = tells_one past more s number h in
              omega (arith, front, less, one)
          by false is =
              let front = counts_front (is_end_of number) e over ∙ ap (λ b. one_if b + ends_of_number number over) is in
              let less = stand number in
              let rows = rows_left number e.0.number s.bridges ∙ ap (λ b. if b then 0 else rows_of_number number s.bridges) is in
              omega (arith, front, less, rows, same)

  -- ---- and are told

  -- so many are still to be told, of these
  abbrev untold : List Ended → ℕ → ℕ
  untold over number = ends_of_number number over

  -- one of those that are still to be told is told
  end_told : (over : List Ended) (slot : ℕ) (s : Switch) → count_by (is_leg_of slot) over ≤ 1 → TellsBut past (untold over) s →
      TellsBut past (untold (untold_by slot over)) (with_end_told (find (is_leg_of slot) over) s)
  end_told over slot s one h = by (find (is_leg_of slot) over) refl
    where
      apart : (number : ℕ) →
          ends_of_number number (untold_by slot over) + ends_of_number number (option_to_list (find (is_leg_of slot) over))
          ≡ ends_of_number number over
      apart number = counts_apart (is_end_of number) (is_leg_of slot) over one

      by : (found : Option Ended) → find (is_leg_of slot) over ≡ found →
          TellsBut past (untold (untold_by slot over)) (with_end_told found s)
      by None is =
          as_many past (untold over) (untold (untold_by slot over)) s
          (λ number.
          let all = apart number in
          let none = ap (λ (found : Option Ended). ends_of_number number (option_to_list found)) is in
          omega (arith, all, none)) h
      by (Some e) is =
          told_by past (untold over) (untold (untold_by slot over)) (unbridge_event e) s refl (λ number. unbridge_begins number e)
          (λ number.
          let rest = apart number in
          let some = ap (λ (found : Option Ended). ends_of_number number (option_to_list found)) is in
          let single = counts_front (is_end_of number) e [] in
          let told = ap one_if (unbridge_ends number e) in
          omega (arith, rest, some, single, told)) h

  -- each of them has a leg among these members, and no slot is a leg of two
  record AreToldBy (over : List Ended) (members : Members) : Type 0 where
    legs : (e : Ended) → IsOneOf e over → (slot : ℕ) × (has_slot slot members ≡ true) × (is_leg_of slot e ≡ true)
    one : (slot : ℕ) → count_by (is_leg_of slot) over ≤ 1

  later_told : (over : List Ended) (m : Member) (members : Members) → AreToldBy over (m ∷ members) → AreToldBy (untold_by m.0 over) members
  later_told over m members are = record {
    legs = λ e one.
        let kept = one_passes (λ (x : Ended). not (is_leg_of m.0 x)) e over one in
        by e kept.1 (are.legs e kept.0);
    one = λ slot.
        let part = counts_part (is_leg_of slot) (λ (x : Ended). not (is_leg_of m.0 x)) over in
        let all = are.one slot in
        omega (arith, part, all);
  }
    where
      by : (e : Ended) → not (is_leg_of m.0 e) ≡ true →
          (slot : ℕ) × (has_slot slot (m ∷ members) ≡ true) × (is_leg_of slot e ≡ true) →
          (slot : ℕ) × (has_slot slot members ≡ true) × (is_leg_of slot e ≡ true)
      by e other has =
          elim (or_cases (m.0 == has.0) (has_slot has.0 members) has.1) [
            | inl here ↦
                absurd (true≢false (sym other ∙ ap not (ap (λ at. is_leg_of at e) (eqb-true m.0 has.0 here) ∙ has.2)))
            | inr there ↦ (has.0, there, has.2)
          ]

  none_left : (over : List Ended) (number : ℕ) → AreToldBy over [] → ends_of_number number over ≡ 0
  none_left [] number are = refl
  none_left (e ∷ over) number are = absurd (false≢true (are.legs e (inl refl)).1)

  members_tell : (over : List Ended) (members : Members) (s : Switch) → AreToldBy over members → TellsBut past (untold over) s →
      Tells past (after_members over members s)
  members_tell over [] s are h = as_many past (untold over) (λ number. 0) s (λ number. none_left over number are) h
  members_tell over (m ∷ members) s are h =
      members_tell (untold_by m.0 over) members (after_member over m s) (later_told over m members are)
      (one_hung_tells past (untold (untold_by m.0 over)) m.1 m.0 (with_end_told (find (is_leg_of m.0) over) (abort_told m.0 s))
      (end_told over m.0 (abort_told m.0 s) (are.one m.0) (abort_tells past (untold over) m.0 s h)))

  -- ---- all of it

  closure_tells : (all : Ends) (s : Switch) → AreEnds s.bridges all.members all.ended → Tells past s → Tells past (after_closure all s)
  closure_tells all s are h =
      let over : List Ended = all.ended in
      survivals_tell past (λ number. 0) all.survivors (after_members over all.members (after_ends over s))
      (members_tell over all.members (after_ends over s) (record { legs = are.legs; one = are.one })
      (as_many past (λ number. 0 + ends_of_number number over) (untold over) (after_ends over s) (λ number. omega arith)
      (ends_tell (λ number. 0) over s are.stand h)))

  pub hung_tells : (named : Members) (s : Switch) → Tells past s → Tells past (after_hangups named s)
  unfolding after_hangups
  hung_tells named s h = closure_tells (closure_of (world_of s) (living_of s named)) s (closure_ends named s h.rows) h

  -- a bridge is left, which is told at once
  pub parted_tells : (slot : ℕ) (row : Row) (s : Switch) → bridge_at s slot ≡ Some row → Tells past s →
      Tells past (after_parting (row, NormalClearing) s)
  parted_tells slot row s part h =
      let e : Ended = (row, NormalClearing) in
      let there = counts_found (has_leg slot) (has_number row.number) s.bridges.rows row part (nat_eq_equiv.refl row.number) in
      told_by past (λ number. 0 + one_if (is_end_of number e)) (λ number. 0) (unbridge_event e) (after_end row NormalClearing s) refl
      (λ number. unbridge_begins number e) (λ number. let told = ap one_if (unbridge_ends number e) in omega (arith, told))
      (end_tells (λ number. 0) e s there h)

  -- some leave their bridges: these end, and then those that end by a hangup are told as ever
  pub bridges_left_tells : (slots : List ℕ) (s : Switch) → Tells past s → Tells past (after_bridges_left slots s)
  unfolding after_bridges_left
  bridges_left_tells slots s h =
      let parted = partings_kept (Tells past) parted_tells slots s h.rows h in
      closure_tells (leaving_of slots s).ends (parted_state slots s) (left_ends slots s h.rows) parted

-- ---- the end is told before the next beginning

module _ (past : List Event) (s : Switch) (h : Tells past s) where
  -- a number that is told was drawn
  pub told_drawn : (row : Row) (event : Event) → IsOneOf event (past ++ s.news) → event.detail ≡ detail.Bridge row →
      row.number ≤ s.bridges.drawn
  told_drawn row event one is = by (cases_lt s.bridges.drawn row.number)
    where
      by : (s.bridges.drawn < row.number) ⊎ (row.number ≤ s.bridges.drawn) → row.number ≤ s.bridges.drawn
      by (inl late) =
          let none = drawn_later row.number s.bridges.drawn late in
          let all = h.begin row.number in
          let both : begun row.number (past ++ s.news) ≡ begun row.number past + begun row.number s.news =
          sum_by-append (λ (e : Event). one_if (begins row.number e)) past s.news in
          let some = counts_one (begins row.number) event (past ++ s.news) one
          (begins_of event row (named_one (past ++ s.news) h.named event one) is) in
          absurd (omega (arith, none, all, both, some))
      by (inr last) = last

  -- and so was that of a bridge that stands
  pub row_drawn : (row : Row) → IsOneOf row s.bridges.rows → row.number ≤ s.bridges.drawn
  row_drawn row one = by (cases_lt s.bridges.drawn row.number)
    where
      by : (s.bridges.drawn < row.number) ⊎ (row.number ≤ s.bridges.drawn) → row.number ≤ s.bridges.drawn
      by (inl late) =
          let none = drawn_later row.number s.bridges.drawn late in
          let all = h.end row.number in
          let some = counts_one (has_number row.number) row s.bridges.rows one (nat_eq_equiv.refl row.number) in
          absurd (omega (arith, none, all, some))
      by (inr last) = last

  module _ (one : Row) (before between : List Event) (first : Event) (at : past ++ s.news ≡ before ++ first ∷ between)
      (is : first.detail ≡ detail.Bridge one) where
    among : IsOneOf first (past ++ s.news)
    among = subst (λ events. IsOneOf first events) (sym at) (one_back first before (first ∷ between) (inl refl))

    first_begins : begins one.number first ≡ true
    first_begins = begins_of first one (named_one (past ++ s.news) h.named first among) is

    begun_parts : begun one.number past + begun one.number s.news ≡ begun one.number before + (1 + begun one.number between)
    begun_parts =
        let both : begun one.number (past ++ s.news) ≡ begun one.number past + begun one.number s.news =
        sum_by-append (λ (e : Event). one_if (begins one.number e)) past s.news in
        let same = ap (begun one.number) at in
        let parts : begun one.number (before ++ first ∷ between) ≡ begun one.number before + begun one.number (first ∷ between) =
        sum_by-append (λ (e : Event). one_if (begins one.number e)) before (first ∷ between) in
        let front = counts_front (begins one.number) first between ∙ ap (λ b. one_if b + begun one.number between) first_begins in
        omega (arith, both, same, parts, front)

    ended_parts : ended one.number past + ended one.number s.news ≡ ended one.number before + ended one.number between
    ended_parts =
        let both : ended one.number (past ++ s.news) ≡ ended one.number past + ended one.number s.news =
        sum_by-append (λ (e : Event). one_if (ends one.number e)) past s.news in
        let same = ap (ended one.number) at in
        let parts : ended one.number (before ++ first ∷ between) ≡ ended one.number before + ended one.number (first ∷ between) =
        sum_by-append (λ (e : Event). one_if (ends one.number e)) before (first ∷ between) in
        let front = counts_front (ends one.number) first between
        ∙ ap (λ b. one_if b + ended one.number between) (begins_no_end one.number first one is) in
        omega (arith, both, same, parts, front)

    -- no end of it is told in front of its beginning
    none_before : ended one.number before ≡ 0
    none_before = by (counts_some (ends one.number) before)
      where
        begun_front : (front back : List Event) (event : Event) → before ≡ front ++ event ∷ back →
            begun one.number front ≤ begun one.number before
        begun_front front back event is =
            let same = ap (begun one.number) is in
            let parts : begun one.number (front ++ event ∷ back) ≡ begun one.number front + begun one.number (event ∷ back) =
            sum_by-append (λ (e : Event). one_if (begins one.number e)) front (event ∷ back) in
            omega (arith, same, parts)

        by : (ended one.number before ≡ 0) ⊎ ((e : Event) × IsOneOf e before × (ends one.number e ≡ true)) → ended one.number before ≡ 0
        by (inl none) = none
        by (inr some) =
            let there = stands_in some.0 before some.1 in
            let begin = h.behind one.number there.0 (there.1 ++ first ∷ between) some.0
            (at ∙ ap (λ events. events ++ first ∷ between) there.2 ∙ append_assoc there.0 (some.0 ∷ there.1) (first ∷ between)) some.2 in
            let less = begun_front there.0 there.1 some.0 there.2 in
            let all = h.begin one.number in
            let most = drawn_most one.number s.bridges.drawn in
            absurd (omega (arith, begin, less, all, most, begun_parts))

    -- a bridge that stands no more has ended since
    ended_since : rows_of_number one.number s.bridges ≡ 0 → ended one.number between ≡ 1
    ended_since gone =
        let begin = h.begin one.number in
        let end = h.end one.number in
        let most = drawn_most one.number s.bridges.drawn in
        omega (arith, begin, end, most, gone, begun_parts, ended_parts, none_before)

    -- where the legs of another bridge are part of none, it stands no more if it shares one
    pub ended_between : (other : Row) → bridge_at s other.caller ≡ None → bridge_at s other.answerer ≡ None →
        shares_leg one other ≡ true → ended one.number between ≡ 1
    ended_between other caller answerer shares = ended_since (by (counts_some (has_number one.number) s.bridges.rows))
      where
        lone : (slot : ℕ) → IsLeg slot other → bridge_at s slot ≡ None
        lone slot (inl same) = ap (bridge_at s) same ∙ caller
        lone slot (inr same) = ap (bridge_at s) same ∙ answerer

        gone : (slot : ℕ) → has_leg slot other ≡ true → has_leg slot one ≡ true → IsOneOf one s.bridges.rows → ⊥
        gone slot shared leg there =
            let none = none_counted (has_leg slot) s.bridges.rows (lone slot (is_leg other slot shared)) in
            let some = counts_one (has_leg slot) one s.bridges.rows there leg in
            omega (arith, none, some)

        shared : IsOneOf one s.bridges.rows → ⊥
        shared there =
            elim (or_cases (has_leg one.caller other) (has_leg one.answerer other) shares) [
              | inl calls ↦ gone one.caller calls (caller_leg one) there
              | inr answers ↦ gone one.answerer answers (answerer_leg one) there
            ]

        by : (rows_of_number one.number s.bridges ≡ 0)
            ⊎ ((row : Row) × IsOneOf row s.bridges.rows × (has_number one.number row ≡ true)) → rows_of_number one.number s.bridges ≡ 0
        by (inl none) = none
        by (inr some) =
            let same = h.rows_told one some.0 first among is some.1 (eqb-true some.0.number one.number some.2) in
            absurd (shared (subst (λ row. IsOneOf row s.bridges.rows) same some.1))
