-- In every run one event tells of each bridge that it begins, and behind that one of each that stands no more that it has ended, in front
-- of the beginning of the next bridge of one of its legs; each event can tell what it tells.
use Rattle.std.proofs.Common.{◌≡◌, ℕ, ◌+◌, ◌≤◌, true, false, List, [], ◌∷◌, ◌++◌, Option, None, Some, is_some}
use Rattle.std.proofs.Common.{◌⊎◌, inl, inr, refl, sym, ap, subst, ◌∙◌, arith, true≢false}
use Rattle.std.proofs.lemmas.Bool.{false≢true, cases_eq}
use Rattle.std.proofs.lemmas.List.{append-nil, append_assoc}
use Rattle.std.proofs.lemmas.List.Elements.{All-nil}
use Rattle.std.proofs.lemmas.List.Sums.{sum_by-append}
use Rattle.fs_doc.specs.Reading.{Configuration}
use Rattle.fs_bridge.specs.Bridges.{BridgeRows, has_number, numbered}
use Rattle.fs_bridge.specs.declared.row.Row.{Row}
use Rattle.fs_bridge.proofs.RowLemmas.{one_if, none_counted, none_found}
use Rattle.fs_state.specs.declared.event.Event.{Event}
use Rattle.fs_state.specs.Switch.{Switch, empty, at_moment}
use Rattle.fs_machine.specs.declared.entry.Entry.{Entry}
use Rattle.fs_machine.specs.BridgeEvents.{begins, ends, begun, ended, WasDrawn, BridgesAreTold, EndsStandBehind, EndsStandBetween}
use Rattle.fs_machine.specs.BridgeEvents.{events_in}
use Rattle.fs_machine.specs.EventNames.{can_tell, AreNamed}
use Rattle.fs_machine.specs.Events.{events_by, happened_from, events_of}
use Rattle.fs_machine.specs.Runs.{run_from}
use Rattle.fs_machine.specs.Step.{act_done, step}
use Rattle.fs_machine.proofs.ActWalk.{acted_kept}
use Rattle.fs_machine.proofs.BondRows.{RowsFit}
use Rattle.fs_machine.proofs.EventLemmas.{events_first}
use Rattle.fs_machine.proofs.ListCounts.{found_passes, counts_found, some_stands}
use Rattle.fs_machine.proofs.StandingLemmas.{none_fit}
use Rattle.fs_machine.proofs.EndLemmas.{rows_of_number}
use Rattle.fs_machine.proofs.BridgeCounts.{drawn_times, drawn_later, drawn_never, drawn_once, drawn_most, RowsAreTold, Tells}
use Rattle.fs_machine.proofs.BridgeMoves.{Telling, telling_moves}

-- ---- runs

-- the events of entries tell so, and none is left in hand
pub record HasTold (past : List Event) (s : Switch) : Type 0 where
  pub told : Tells past s
  pub over : s.news ≡ []

nothing_told : (config : Configuration) → HasTold [] (empty config)
nothing_told config = record {
  told = record {
    rows = none_fit;
    named = All-nil (λ (event : Event). can_tell event.name event.detail ≡ true);
    behind = λ number front back event is ends. absurd (some_stands front event back is);
    between = λ one other before between back first later is begin again shares.
        absurd (some_stands before first (between ++ later ∷ back) is);
    rows_told = λ row other event one is there same. absurd one;
    begin = λ number. refl;
    end = λ number. refl;
  };
  over = refl;
}

-- the news of an entry become events of the past
past_told : (past : List Event) (s t : Switch) → Tells past s → t.bridges ≡ s.bridges → t.news ≡ [] → HasTold (past ++ s.news) t
past_told past s t h same over = record {
  told = record {
    rows = subst RowsFit (sym same) h.rows;
    named = subst AreNamed all_past h.named;
    behind = subst EndsStandBehind all_past h.behind;
    between = subst EndsStandBetween all_past h.between;
    rows_told = subst (RowsAreTold ((past ++ s.news) ++ t.news)) (sym same)
        (subst (λ events. RowsAreTold events s.bridges) all_past h.rows_told);
    begin = λ number.
        let all = h.begin number in
        let both : begun number (past ++ s.news) ≡ begun number past + begun number s.news =
        sum_by-append (λ (e : Event). one_if (begins number e)) past s.news in
        let none : begun number t.news ≡ 0 = ap (begun number) over in
        let drawn : drawn_times number t.bridges.drawn ≡ drawn_times number s.bridges.drawn =
        ap (λ (b : BridgeRows). drawn_times number b.drawn) same in
        omega (arith, all, both, none, drawn);
    end = λ number.
        let all = h.end number in
        let both : ended number (past ++ s.news) ≡ ended number past + ended number s.news =
        sum_by-append (λ (e : Event). one_if (ends number e)) past s.news in
        let none : ended number t.news ≡ 0 = ap (ended number) over in
        let drawn : drawn_times number t.bridges.drawn ≡ drawn_times number s.bridges.drawn =
        ap (λ (b : BridgeRows). drawn_times number b.drawn) same in
        let rows : rows_of_number number t.bridges ≡ rows_of_number number s.bridges = ap (rows_of_number number) same in
        omega (arith, all, both, none, drawn, rows);
  };
  over = over;
}
  where
    all_past : past ++ s.news ≡ (past ++ s.news) ++ t.news
    all_past = sym (ap (λ news. (past ++ s.news) ++ news) over ∙ append-nil (past ++ s.news))

step_told : (past : List Event) (s : Switch) (entry : Entry) → HasTold past s → HasTold (past ++ events_by s entry) (step s entry).state
unfolding step events_by
step_told past s entry h =
    let now : Switch = at_moment entry.moment s in
    let t : Switch = (act_done entry.act now).state in
    past_told past t (step s entry).state
    (acted_kept now (Telling past) (telling_moves past now) entry.act (λ loads config t k. k)
    (record {
      rows = h.told.rows;
      named = h.told.named;
      behind = h.told.behind;
      between = h.told.between;
      rows_told = h.told.rows_told;
      begin = h.told.begin;
      end = h.told.end;
    })) refl refl

run_told : (seat : ℕ) (past : List Event) (s : Switch) (entries : List Entry) → HasTold past s →
    HasTold (past ++ events_of (happened_from seat s entries)) (run_from s entries)
run_told seat past s [] h = subst (λ events. HasTold events s) (sym (append-nil past)) h
run_told seat past s (entry ∷ entries) h =
    let t : Switch = (step s entry).state in
    subst (λ events. HasTold events (run_from t entries))
    (append_assoc past (events_by s entry) (events_of (happened_from (seat + 1) t entries))
    ∙ ap (λ events. past ++ events) (sym (events_first seat s entry entries)))
    (run_told (seat + 1) (past ++ events_by s entry) t entries (step_told past s entry h))

-- ---- as the definition has it

module _ (past : List Event) (s : Switch) (h : HasTold past s) where
  pub begun_as : (number : ℕ) → begun number past ≡ drawn_times number s.bridges.drawn
  begun_as number =
      let all = h.told.begin number in
      let none : begun number s.news ≡ 0 = ap (begun number) h.over in
      omega (arith, all, none)

  pub ended_as : (number : ℕ) → ended number past + rows_of_number number s.bridges ≡ drawn_times number s.bridges.drawn
  ended_as number =
      let all = h.told.end number in
      let none : ended number s.news ≡ 0 = ap (ended number) h.over in
      omega (arith, all, none)

  -- what stands is one of the rows
  stands_one : (number : ℕ) (found : Option Row) → numbered number s.bridges ≡ found → is_some found ≡ true →
      1 ≤ rows_of_number number s.bridges
  stands_one number None is some = absurd (false≢true some)
  stands_one number (Some row) is some =
      counts_found (has_number number) (has_number number) s.bridges.rows row is
      (found_passes (has_number number) s.bridges.rows row is)

  stands_none : (number : ℕ) (found : Option Row) → numbered number s.bridges ≡ found → is_some found ≡ false →
      rows_of_number number s.bridges ≡ 0
  stands_none number None is none = none_counted (has_number number) s.bridges.rows is
  stands_none number (Some row) is none = absurd (true≢false none)

  -- a number is not drawn
  never_drawn : (number : ℕ) → (WasDrawn number s → ⊥) → drawn_times number s.bridges.drawn ≡ 0
  never_drawn number never = by (cases_eq number 0)
    where
      by : (number ≡ 0) ⊎ (number ≡ 0 → ⊥) → drawn_times number s.bridges.drawn ≡ 0
      by (inl zero) = ap (λ n. drawn_times n s.bridges.drawn) zero ∙ drawn_never s.bridges.drawn
      by (inr other) =
          let first : 1 ≤ number = omega (arith, other) in
          let late : number ≤ s.bridges.drawn → ⊥ = λ last. never (record { first = first; last = last }) in
          drawn_later number s.bridges.drawn (omega (arith, late))

  events_as : past ++ s.news ≡ past
  events_as = ap (λ news. past ++ news) h.over ∙ append-nil past

  pub all_named : AreNamed past
  all_named = subst AreNamed events_as h.told.named

  all_behind : EndsStandBehind past
  all_behind = subst EndsStandBehind events_as h.told.behind

  all_between : EndsStandBetween past
  all_between = subst EndsStandBetween events_as h.told.between

  all_told : BridgesAreTold s past
  all_told = record {
    begin = λ number drawn. begun_as number ∙ drawn_once number s.bridges.drawn drawn.first drawn.last;
    stand = λ number stands.
        let all = ended_as number in
        let most = drawn_most number s.bridges.drawn in
        let one = stands_one number (numbered number s.bridges) refl stands in
        omega (arith, all, most, one);
    end = λ number drawn gone.
        let all = ended_as number in
        let once = drawn_once number s.bridges.drawn drawn.first drawn.last in
        let none = stands_none number (numbered number s.bridges) refl gone in
        omega (arith, all, once, none);
    none = λ number never.
        let begin = begun_as number in
        let end = ended_as number in
        let zero = never_drawn number never in (
          omega (arith, begin, zero),
          omega (arith, end, zero),
          ap is_some (none_found (has_number number) s.bridges.rows (omega (arith, end, zero))),
        );
  }

pub run_has_told : (config : Configuration) (entries : List Entry) → HasTold (events_in config entries) (run_from (empty config) entries)
run_has_told config entries = run_told 0 [] (empty config) entries (nothing_told config)

pub events_are_named : (config : Configuration) (entries : List Entry) → AreNamed (events_in config entries)
events_are_named config entries =
    all_named (events_in config entries) (run_from (empty config) entries) (run_has_told config entries)

pub bridges_are_told : (config : Configuration) (entries : List Entry) →
    BridgesAreTold (run_from (empty config) entries) (events_in config entries)
bridges_are_told config entries =
    all_told (events_in config entries) (run_from (empty config) entries) (run_has_told config entries)

pub ends_stand_behind : (config : Configuration) (entries : List Entry) → EndsStandBehind (events_in config entries)
ends_stand_behind config entries =
    all_behind (events_in config entries) (run_from (empty config) entries) (run_has_told config entries)

pub ends_stand_between : (config : Configuration) (entries : List Entry) → EndsStandBetween (events_in config entries)
ends_stand_between config entries =
    all_between (events_in config entries) (run_from (empty config) entries) (run_has_told config entries)
