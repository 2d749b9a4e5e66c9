-- As many events are named as beginnings of bridges as there were joined, and as many as ends as of these stand no more.
use Rattle.std.proofs.Common.{◌≡◌, ℕ, zero, suc, ◌+◌, ◌-◌, ◌≤◌, ◌^◌, ◌==◌, min, Bool, true, false, List, [], ◌∷◌, length, count_by, ◌⊎◌}
use Rattle.std.proofs.Common.{inl, inr, refl, sym, ap, ◌∙◌, arith, true≢false}
use Rattle.std.specs.Prelude.{◌&&◌}
use Rattle.std.proofs.lemmas.Bool.{eqb-true, eq-eqb, false≢true}
use Rattle.std.proofs.lemmas.Cmp.{nat_eq_equiv}
use Rattle.fs_text.specs.declared.event_names.EventName.{EventName}
use Rattle.fs_text.specs.declared.event_names.EventName.TheVariants.{ChannelBridge, ChannelUnbridge}
use Rattle.fs_text.specs.EventName.{event_row, event_number}
use Rattle.fs_doc.specs.Reading.{Configuration}
use Rattle.fs_bridge.specs.declared.row.Row.{Row}
use Rattle.fs_bridge.specs.Bridges.{has_number}
use Rattle.fs_bridge.specs.Hangups.{IsOneOf}
use Rattle.fs_bridge.proofs.RowLemmas.{one_if}
use Rattle.fs_event.specs.Rings.{no_events}
use Rattle.fs_state.specs.declared.event.Detail.{Detail}
use Rattle.fs_state.specs.declared.event.Detail.TheVariants as detail
use Rattle.fs_state.specs.declared.event.Event.{Event}
use Rattle.fs_state.specs.Counts.{is_named}
use Rattle.fs_state.specs.Switch.{Switch, empty}
use Rattle.fs_machine.specs.declared.entry.Entry.{Entry}
use Rattle.fs_machine.specs.BridgeEvents.{tells_begin, tells_end, begins, ends, begun, ended, standing, BridgesAreCounted, events_in}
use Rattle.fs_machine.specs.EventNames.{can_tell}
use Rattle.fs_machine.specs.Runs.{View, run_from}
use Rattle.fs_machine.proofs.ListCounts.{counts_front}
use Rattle.fs_machine.proofs.EndLemmas.{rows_of_number}
use Rattle.fs_machine.proofs.EventLemmas.{counts_events}
use Rattle.fs_machine.proofs.BridgeCounts.{drawn_times, drawn_once, drawn_most, named_one}
use Rattle.fs_machine.proofs.BridgeLaws.{HasTold, begun_as, ended_as, all_named, run_has_told}

-- ---- sums over numbers

-- over those from 1 on
abbrev sum_upto : (ℕ → ℕ) → ℕ → ℕ
sum_upto f zero = 0
sum_upto f (suc last) = sum_upto f last + f (suc last)

sum_same : (f g : ℕ → ℕ) (last : ℕ) → ((n : ℕ) → f n ≡ g n) → sum_upto f last ≡ sum_upto g last
sum_same f g zero same = refl
sum_same f g (suc last) same = let rest = sum_same f g last same in let one = same (suc last) in omega (arith, rest, one)

sum_both : (f g : ℕ → ℕ) (last : ℕ) → sum_upto (λ n. f n + g n) last ≡ sum_upto f last + sum_upto g last
sum_both f g zero = refl
sum_both f g (suc last) = let rest = sum_both f g last in omega (arith, rest)

sum_none : (last : ℕ) → sum_upto (λ n. 0) last ≡ 0
sum_none zero = refl
sum_none (suc last) = let rest = sum_none last in omega (arith, rest)

-- each of these was drawn once
sum_drawn : (last drawn : ℕ) → last ≤ drawn → sum_upto (λ n. drawn_times n drawn) last ≡ last
sum_drawn zero drawn less = refl
sum_drawn (suc last) drawn less =
    let rest = sum_drawn last drawn (omega (arith, less)) in
    let once = drawn_once (suc last) drawn (omega arith) less in
    omega (arith, rest, once)

same_back : (a b : ℕ) → (a == b) ≡ (b == a)
same_back a b = by (a == b) refl (b == a) refl
  where
    by : (x : Bool) → (a == b) ≡ x → (y : Bool) → (b == a) ≡ y → x ≡ y
    by true is true back = refl
    by true is false back = absurd (true≢false (sym (eq-eqb b a (sym (eqb-true a b is))) ∙ back))
    by false is true back = absurd (false≢true (sym is ∙ eq-eqb a b (sym (eqb-true b a back))))
    by false is false back = refl

-- one of them is this number, if it was drawn
sum_one : (number last : ℕ) → sum_upto (λ n. one_if (number == n)) last ≡ drawn_times number last
sum_one number zero = refl
sum_one number (suc last) =
    let rest = sum_one number last in
    let one = ap one_if (same_back number (suc last)) in
    omega (arith, rest, one)

-- ---- a list of which each has one number, or none

module _ (X : Type 0) (test : ℕ → X → Bool) (any : X → Bool) where
  -- it has no number, or this one
  abbrev Marks : X → Type 0
  Marks x = ((any x ≡ false) × ((n : ℕ) → test n x ≡ false)) ⊎ ((any x ≡ true) × ((k : ℕ) × ((n : ℕ) → test n x ≡ (k == n))))

  -- so many have one as have the numbers that were drawn
  sum_counts : (drawn : ℕ) (xs : List X) → ((x : X) → IsOneOf x xs → Marks x) →
      ((n : ℕ) → count_by (test n) xs ≤ drawn_times n drawn) → sum_upto (λ n. count_by (test n) xs) drawn ≡ count_by any xs
  sum_counts drawn [] marks few = sum_none drawn
  sum_counts drawn (x ∷ xs) marks few =
      by (marks x (inl refl))
      (sum_counts drawn xs (λ y one. marks y (inr one))
      (λ n. let front = counts_front (test n) x xs in let all = few n in omega (arith, front, all)))
    where
      both : sum_upto (λ n. count_by (test n) (x ∷ xs)) drawn
          ≡ sum_upto (λ n. one_if (test n x)) drawn + sum_upto (λ n. count_by (test n) xs) drawn
      both =
          sum_same (λ n. count_by (test n) (x ∷ xs)) (λ n. one_if (test n x) + count_by (test n) xs) drawn
          (λ n. counts_front (test n) x xs)
          ∙ sum_both (λ n. one_if (test n x)) (λ n. count_by (test n) xs) drawn

      by : Marks x → sum_upto (λ n. count_by (test n) xs) drawn ≡ count_by any xs →
          sum_upto (λ n. count_by (test n) (x ∷ xs)) drawn ≡ count_by any (x ∷ xs)
      by (inl none) rest =
          let front = counts_front any x xs ∙ ap (λ b. one_if b + count_by any xs) none.0 in
          let first = sum_same (λ n. one_if (test n x)) (λ n. 0) drawn (λ n. ap one_if (none.1 n)) ∙ sum_none drawn in
          omega (arith, rest, both, front, first)
      by (inr one) rest =
          let number : ℕ = one.1.0 in
          let front = counts_front any x xs ∙ ap (λ b. one_if b + count_by any xs) one.0 in
          let first : sum_upto (λ n. one_if (test n x)) drawn ≡ drawn_times number drawn =
          sum_same (λ n. one_if (test n x)) (λ n. one_if (number == n)) drawn (λ n. ap one_if (one.1.1 n)) ∙ sum_one number drawn in
          let own = counts_front (test number) x xs
          ∙ ap (λ b. one_if b + count_by (test number) xs) (one.1.1 number ∙ nat_eq_equiv.refl number) in
          let all = few number in
          let most = drawn_most number drawn in
          omega (arith, rest, both, front, first, own, all, most)

-- ---- events and rows

-- an event that can tell what it tells has the name of a beginning just if it tells one
begin_marks : (event : Event) → can_tell event.name event.detail ≡ true → Marks Event begins (is_named ChannelBridge) event
unfolding event_row
begin_marks event can = by event.name event.detail can
  where
    by : (name : EventName) (what : Detail) → can_tell name what ≡ true →
        (((event_number name == event_number ChannelBridge) ≡ false)
        × ((n : ℕ) → ((event_number name == event_number ChannelBridge) && tells_begin n what) ≡ false))
        ⊎ (((event_number name == event_number ChannelBridge) ≡ true)
        × ((k : ℕ) × ((n : ℕ) → ((event_number name == event_number ChannelBridge) && tells_begin n what) ≡ (k == n))))
    by ChannelBridge (detail.Bridge row) is = inr (refl, (row.number, λ n. refl))
    by ChannelBridge _ is = absurd (false≢true is)
    by _ _ is = inl (refl, λ n. refl)

end_marks : (event : Event) → can_tell event.name event.detail ≡ true → Marks Event ends (is_named ChannelUnbridge) event
unfolding event_row
end_marks event can = by event.name event.detail can
  where
    by : (name : EventName) (what : Detail) → can_tell name what ≡ true →
        (((event_number name == event_number ChannelUnbridge) ≡ false)
        × ((n : ℕ) → ((event_number name == event_number ChannelUnbridge) && tells_end n what) ≡ false))
        ⊎ (((event_number name == event_number ChannelUnbridge) ≡ true)
        × ((k : ℕ) × ((n : ℕ) → ((event_number name == event_number ChannelUnbridge) && tells_end n what) ≡ (k == n))))
    by ChannelUnbridge (detail.Unbridge row cause) is = inr (refl, (row.number, λ n. refl))
    by ChannelUnbridge _ is = absurd (false≢true is)
    by _ _ is = inl (refl, λ n. refl)

all_count : (rows : List Row) → count_by (λ row. true) rows ≡ length rows
all_count [] = refl
all_count (row ∷ rows) =
    let front = counts_front (λ (r : Row). true) row rows in let rest = all_count rows in omega (arith, front, rest)

-- ---- as the definition has it

module _ (past : List Event) (s : Switch) (h : HasTold past s) where
  begun_all : count_by (is_named ChannelBridge) past ≡ s.bridges.drawn
  begun_all =
      let all = sum_drawn s.bridges.drawn s.bridges.drawn (omega arith) in
      let each = sum_same (λ n. begun n past) (λ n. drawn_times n s.bridges.drawn) s.bridges.drawn (begun_as past s h) in
      let total = sum_counts Event begins (is_named ChannelBridge) s.bridges.drawn past
      (λ event one. begin_marks event (named_one past (all_named past s h) event one))
      (λ n. let is = begun_as past s h n in omega (arith, is)) in
      omega (arith, all, each, total)

  ended_all : count_by (is_named ChannelUnbridge) past + standing s ≡ s.bridges.drawn
  ended_all =
      let all = sum_drawn s.bridges.drawn s.bridges.drawn (omega arith) in
      let each = sum_same (λ n. ended n past + rows_of_number n s.bridges) (λ n. drawn_times n s.bridges.drawn) s.bridges.drawn
      (ended_as past s h) in
      let both = sum_both (λ n. ended n past) (λ n. rows_of_number n s.bridges) s.bridges.drawn in
      let total = sum_counts Event ends (is_named ChannelUnbridge) s.bridges.drawn past
      (λ event one. end_marks event (named_one past (all_named past s h) event one))
      (λ n. let is = ended_as past s h n in omega (arith, is)) in
      let rows = sum_counts Row has_number (λ row. true) s.bridges.drawn s.bridges.rows
      (λ row one. inr (refl, (row.number, λ n. refl)))
      (λ n. let is = ended_as past s h n in omega (arith, is)) in
      let stand = all_count s.bridges.rows in
      omega (arith, all, each, both, total, rows, stand)

pub bridges_are_counted : (config : Configuration) (entries : List Entry) →
    BridgesAreCounted (run_from (empty config) entries) (events_in config entries)
bridges_are_counted config entries = record {
  begun = begins_told;
  ended = ends_told;
  counts_begun = counts_events m ChannelBridge ∙ ap (λ count. min count (2 ^ 64 - 1)) begins_told;
  counts_ended = counts_events m ChannelUnbridge ∙ ap (λ count. min count (2 ^ 64 - 1)) none_stand;
}
  where
    m : View
    m = record { config = config; journal = entries; spare = 0; ring = no_events }

    begins_told : count_by (is_named ChannelBridge) (events_in config entries) ≡ (run_from (empty config) entries).bridges.drawn
    begins_told = begun_all (events_in config entries) (run_from (empty config) entries) (run_has_told config entries)

    ends_told : count_by (is_named ChannelUnbridge) (events_in config entries) + standing (run_from (empty config) entries)
        ≡ (run_from (empty config) entries).bridges.drawn
    ends_told = ended_all (events_in config entries) (run_from (empty config) entries) (run_has_told config entries)

    none_stand : count_by (is_named ChannelUnbridge) (events_in config entries)
        ≡ (run_from (empty config) entries).bridges.drawn - standing (run_from (empty config) entries)
    none_stand = omega (arith, ends_told)
