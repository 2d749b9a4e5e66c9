-- Which contexts are in force, and how often others came into force: no entry but a load changes that, and each change counts.
use mathlib.Core.List.{IsPrefix}
use Rattle.std.proofs.Common.{◌≡◌, ℕ, ◌+◌, ◌<◌, ◌⊎◌, inl, inr, false, List, [], ◌∷◌, refl, sym, ap, ◌∙◌, append-nil, arith}
use Rattle.std.proofs.lemmas.Bool.{false≢true}
use Rattle.fs_doc.specs.Dialplans.{Context}
use Rattle.fs_doc.specs.Reading.{Configuration}
use Rattle.fs_book.proofs.Lists.{prefix_trans}
use Rattle.fs_state.specs.Posting.{with_posts}
use Rattle.fs_state.specs.Switch.{Switch, empty, at_moment, after_entry}
use Rattle.fs_machine.specs.declared.entry.Entry.{Entry}
use Rattle.fs_machine.specs.declared.entry.Act.{Act}
use Rattle.fs_machine.specs.Entries.{is_load}
use Rattle.fs_machine.specs.Step.{act_done, step}
use Rattle.fs_machine.specs.Runs.{run_from}
use Rattle.fs_machine.specs.Laws.{state_after}
use Rattle.fs_machine.specs.Routes.{IsInForceAfter}
use Rattle.fs_machine.proofs.RestLemmas.{Rest, rest_of}
use Rattle.fs_machine.proofs.FrontLemmas.{Front, front_of}
use Rattle.fs_machine.proofs.ConstantMoves.{Reading, reading_moves}
use Rattle.fs_machine.proofs.ActWalk.{acted_kept}
use Rattle.fs_machine.proofs.RunLemmas.{run_behind}

record InForce : Type 0 where
  contexts : List Context
  reloads : ℕ

abbrev in_force_of : Switch → InForce
in_force_of s = record { contexts = s.contexts; reloads = s.reloads }

in_rest : Rest → InForce
in_rest r = record { contexts = r.contexts; reloads = r.reloads }

in_front : Front → InForce
in_front f = record { contexts = f.contexts; reloads = f.reloads }

by_rest : (s t : Switch) → rest_of t ≡ rest_of s → in_force_of t ≡ in_force_of s
unfolding in_rest
by_rest s t same = ap in_rest same

by_front : (s t : Switch) → front_of t ≡ front_of s → in_force_of t ≡ in_force_of s
unfolding in_front
by_front s t same = ap in_front same

-- the same contexts are in force, and no others came into force meanwhile
pub record InForceSame (s t : Switch) : Type 0 where
  pub contexts : t.contexts ≡ s.contexts
  pub reloads : t.reloads ≡ s.reloads

-- or others came into force since then
abbrev pub GrowsInForce : Switch → Switch → Type 0
GrowsInForce s t = InForceSame s t ⊎ (s.reloads < t.reloads)

-- ---- one entry

-- an act that notes no load leaves in force what is
pub acted_in_force : (act : Act) (s : Switch) → is_load act ≡ false → InForceSame s (act_done act s).state
acted_in_force act s none =
    let same : in_force_of (act_done act s).state ≡ in_force_of s =
    acted_kept s (Reading InForce in_force_of (λ x. x ≡ in_force_of s))
    (reading_moves InForce in_force_of (λ x. x ≡ in_force_of s) by_rest by_front s) act
    (λ loads. absurd (false≢true (sym none ∙ loads))) refl in
    record { contexts = ap (λ (x : InForce). x.contexts) same; reloads = ap (λ (x : InForce). x.reloads) same }

-- the events that are posted leave it too, and so does the end of an entry
pub posted_in_force : (base t : Switch) → InForceSame t (with_posts base t)
posted_in_force base t = record { contexts = refl; reloads = refl }

pub entry_in_force : (cost : ℕ) (t : Switch) → InForceSame t (after_entry cost t)
entry_in_force cost t = record { contexts = refl; reloads = refl }

-- so does an entry that notes none
pub step_in_force : (s : Switch) (entry : Entry) → is_load entry.act ≡ false → InForceSame s (step s entry).state
unfolding step
step_in_force s entry none =
    let same : InForceSame (at_moment entry.moment s) (act_done entry.act (at_moment entry.moment s)).state =
    acted_in_force entry.act (at_moment entry.moment s) none in
    record { contexts = same.contexts; reloads = same.reloads }

-- it is as it was, or there is a load more
abbrev Grows : Switch → InForce → Type 0
Grows s x = (x ≡ in_force_of s) ⊎ (s.reloads < x.reloads)

acted_grows : (act : Act) (s : Switch) → Grows s (in_force_of (act_done act s).state)
acted_grows act s =
    acted_kept s (Reading InForce in_force_of (Grows s)) (reading_moves InForce in_force_of (Grows s) by_rest by_front s)
    act (λ loads config t h. inr (counted t h)) (inl refl)
  where
    counted : (t : Switch) → Grows s (in_force_of t) → s.reloads < t.reloads + 1
    counted t (inl same) = let as_many : t.reloads ≡ s.reloads = ap (λ (x : InForce). x.reloads) same in omega (arith, as_many)
    counted t (inr more) = omega (arith, more)

pub step_grows : (s : Switch) (entry : Entry) → GrowsInForce s (step s entry).state
unfolding step
step_grows s entry = by (acted_grows entry.act (at_moment entry.moment s))
  where
    by : Grows s (in_force_of (act_done entry.act (at_moment entry.moment s)).state) → GrowsInForce s (step s entry).state
    by (inl same) =
        inl (record { contexts = ap (λ (x : InForce). x.contexts) same; reloads = ap (λ (x : InForce). x.reloads) same })
    by (inr more) = inr more

-- ---- runs

grows_on : (s t u : Switch) → GrowsInForce s t → GrowsInForce t u → GrowsInForce s u
grows_on s t u (inl first) (inl second) =
    inl (record { contexts = second.contexts ∙ first.contexts; reloads = second.reloads ∙ first.reloads })
grows_on s t u (inl first) (inr second) = let same : t.reloads ≡ s.reloads = first.reloads in inr (omega (arith, same, second))
grows_on s t u (inr first) (inl second) = let same : u.reloads ≡ t.reloads = second.reloads in inr (omega (arith, same, first))
grows_on s t u (inr first) (inr second) = inr (omega (arith, first, second))

pub run_grows : (s : Switch) (entries : List Entry) → GrowsInForce s (run_from s entries)
run_grows s [] = inl (record { contexts = refl; reloads = refl })
run_grows s (entry ∷ entries) =
    grows_on s (step s entry).state (run_from (step s entry).state entries) (step_grows s entry) (run_grows (step s entry).state entries)

-- what is in force behind a journal is so after as many loads
pub in_force_now : (config : Configuration) (journal : List Entry) (reloads : ℕ) (contexts : List Context) →
    (state_after config journal).reloads ≡ reloads → (state_after config journal).contexts ≡ contexts →
    IsInForceAfter config journal reloads contexts
in_force_now config journal reloads contexts many are =
    record { before = journal; front = ([], append-nil journal); count = many; contexts_are = are }

-- and behind more entries
pub in_force_longer : (config : Configuration) (xs ys : List Entry) (reloads : ℕ) (contexts : List Context) → IsPrefix xs ys →
    IsInForceAfter config xs reloads contexts → IsInForceAfter config ys reloads contexts
in_force_longer config xs ys reloads contexts longer h = record {
  before = h.before;
  front = prefix_trans h.before xs ys h.front longer;
  count = h.count;
  contexts_are = h.contexts_are;
}

-- the contexts that were in force after so many loads are in force as long as there are no more
pub in_force_once : (config : Configuration) (journal : List Entry) (reloads : ℕ) (contexts : List Context) →
    IsInForceAfter config journal reloads contexts → (state_after config journal).reloads ≡ reloads →
    (state_after config journal).contexts ≡ contexts
in_force_once config journal reloads contexts h same = by (run_grows past h.front.0)
  where
    past : Switch
    past = state_after config h.before

    whole : state_after config journal ≡ run_from (state_after config h.before) h.front.0
    whole = ap (state_after config) (sym h.front.1) ∙ run_behind (empty config) h.before h.front.0

    by : GrowsInForce (state_after config h.before) (run_from (state_after config h.before) h.front.0) →
        (state_after config journal).contexts ≡ contexts
    by (inl stays) = ap (λ (t : Switch). t.contexts) whole ∙ (stays.contexts ∙ h.contexts_are)
    by (inr more) =
        let then : (state_after config h.before).reloads ≡ reloads = h.count in
        let now : (run_from (state_after config h.before) h.front.0).reloads ≡ reloads =
        sym (ap (λ (t : Switch). t.reloads) whole) ∙ same in
        absurd (omega (arith, more, then, now))
