-- One caller goes, and all others wait on in their order.
use Rattle.std.proofs.Common.{◌≡◌, ◌+◌, ◌<◌, ◌≤◌, Bool, true, false, not, ◌||◌, List, [], ◌∷◌, ◌++◌, Some, refl, sym, ap, ◌∙◌}
use Rattle.std.proofs.Common.{arith, if◌then◌else◌, filter, count_by}
use Rattle.std.specs.List.{find, list_any}
use Rattle.std.proofs.lemmas.Bool.{true≢false}
use Rattle.std.proofs.lemmas.List.Elements.{All-filter, filter-append}
use Rattle.std.proofs.lemmas.List.Folds.{list_any-append}
use Rattle.std.proofs.lemmas.List.Sums.{sum_by-append}
use Rattle.fs_fifo.specs.declared.caller.QueuedCaller.{QueuedCaller}
use Rattle.fs_fifo.specs.Laws.{IsPlaced, IsWithout}
use Rattle.fs_fifo.specs.Queues.{without_first}
use Rattle.fs_fifo.proofs.CountLemmas.{one_if, count_front, none_stands}

-- ---- the first that passes goes

pub first_goes : (test : QueuedCaller → Bool) (one : QueuedCaller) (callers : List QueuedCaller) →
    find test callers ≡ Some one → IsWithout one callers (without_first test callers)
first_goes test one [] is = absurd (cc)
first_goes test one (caller ∷ callers) is = by (test caller) is (first_goes test one callers)
  where
    by : (b : Bool) → (if b then Some caller else find test callers) ≡ Some one →
        (find test callers ≡ Some one → IsWithout one callers (without_first test callers)) →
        IsWithout one (caller ∷ callers) (if b then callers else caller ∷ without_first test callers)
    by true is again =
        let same : caller ≡ one = cc in
        record { front = []; behind = callers; all = ap (λ first. first ∷ callers) same; rest = refl }
    by false is again =
        let goes = again is in
        record {
          front = caller ∷ goes.front;
          behind = goes.behind;
          all = ap (λ others. caller ∷ others) goes.all;
          rest = ap (λ others. caller ∷ others) goes.rest;
        }

-- that one passes
pub found_passes : (test : QueuedCaller → Bool) (one : QueuedCaller) (callers : List QueuedCaller) →
    find test callers ≡ Some one → test one ≡ true
found_passes test one [] is = absurd (cc)
found_passes test one (caller ∷ callers) is = by (test caller) refl is (found_passes test one callers)
  where
    by : (b : Bool) → test caller ≡ b → (if b then Some caller else find test callers) ≡ Some one →
        (find test callers ≡ Some one → test one ≡ true) → test one ≡ true
    by true passes is again = let same : caller ≡ one = cc in sym (ap test same) ∙ passes
    by false passes is again = again is

-- where none passes, all are kept that do not
pub none_left : (out : QueuedCaller → Bool) (callers : List QueuedCaller) → list_any out callers ≡ false →
    filter (λ caller. not (out caller)) callers ≡ callers
none_left out [] none = refl
none_left out (caller ∷ callers) none = by (out caller) none (none_left out callers)
  where
    kept : List QueuedCaller
    kept = filter (λ caller. not (out caller)) callers

    by : (b : Bool) → (b || list_any out callers) ≡ false → (list_any out callers ≡ false → kept ≡ callers) →
        (if not b then caller ∷ kept else kept) ≡ caller ∷ callers
    by true is again = absurd (true≢false is)
    by false is again = ap (λ rest. caller ∷ rest) (again is)

-- where one passes at most, all are kept but the first that does
pub only_left : (out : QueuedCaller → Bool) (callers : List QueuedCaller) → count_by out callers ≤ 1 →
    filter (λ caller. not (out caller)) callers ≡ without_first out callers
only_left out [] once = refl
only_left out (caller ∷ callers) once = by (out caller) (count_front out caller callers) (only_left out callers)
  where
    kept : List QueuedCaller
    kept = filter (λ caller. not (out caller)) callers

    by : (b : Bool) → count_by out (caller ∷ callers) ≡ one_if b + count_by out callers →
        (count_by out callers ≤ 1 → kept ≡ without_first out callers) →
        (if not b then caller ∷ kept else kept) ≡ (if b then callers else caller ∷ without_first out callers)
    by true front again = none_left out callers (none_stands out callers (omega (arith, front, once)))
    by false front again = ap (λ rest. caller ∷ rest) (again (omega (arith, front, once)))

-- ---- those of a test, with one or without it

-- it is put among them too, if it passes
pub kept_placed : (test : QueuedCaller → Bool) (new : QueuedCaller) (before after : List QueuedCaller) →
    IsPlaced new before after → test new ≡ true → IsPlaced new (filter test before) (filter test after)
kept_placed test new before after placed passes = record {
  one = record {
    front = filter test placed.one.front;
    behind = filter test placed.one.behind;
    all = ap (filter test) placed.one.all
        ∙ filter-append test placed.one.front (new ∷ placed.one.behind)
        ∙ ap (λ b. filter test placed.one.front ++ (if b then new ∷ filter test placed.one.behind else filter test placed.one.behind)) passes;
    rest = ap (filter test) placed.one.rest ∙ filter-append test placed.one.front placed.one.behind;
  };
  sooner = All-filter test (λ caller. caller.priority ≤ new.priority) placed.one.front placed.sooner;
  later = All-filter test (λ caller. new.priority < caller.priority) placed.one.behind placed.later;
}

-- they stay as they were, if it does not
pub kept_same : (test : QueuedCaller → Bool) (one : QueuedCaller) (callers others : List QueuedCaller) →
    IsWithout one callers others → test one ≡ false → filter test others ≡ filter test callers
kept_same test one callers others goes fails =
    ap (filter test) goes.rest
    ∙ filter-append test goes.front goes.behind
    ∙ sym (ap (λ b. filter test goes.front ++ (if b then one ∷ filter test goes.behind else filter test goes.behind)) fails)
    ∙ sym (filter-append test goes.front (one ∷ goes.behind))
    ∙ sym (ap (filter test) goes.all)

count_without : (test : QueuedCaller → Bool) (one : QueuedCaller) (callers others : List QueuedCaller) →
    IsWithout one callers others → count_by test callers ≡ one_if (test one) + count_by test others
count_without test one callers others goes =
    let all = ap (count_by test) goes.all ∙ sum_by-append (λ caller. one_if (test caller)) goes.front (one ∷ goes.behind) in
    let front = count_front test one goes.behind in
    let rest = ap (count_by test) goes.rest ∙ sum_by-append (λ caller. one_if (test caller)) goes.front goes.behind in
    omega (arith, all, front, rest)

any_without : (test : QueuedCaller → Bool) (one : QueuedCaller) (callers others : List QueuedCaller) →
    IsWithout one callers others → test one ≡ false → list_any test others ≡ list_any test callers
any_without test one callers others goes fails =
    ap (list_any test) goes.rest
    ∙ list_any-append test goes.front goes.behind
    ∙ sym (ap (λ b. list_any test goes.front || (b || list_any test goes.behind)) fails)
    ∙ sym (list_any-append test goes.front (one ∷ goes.behind))
    ∙ sym (ap (list_any test) goes.all)

-- where one passes at most, none does once it goes
pub any_goes : (test : QueuedCaller → Bool) (one : QueuedCaller) (callers others : List QueuedCaller) →
    IsWithout one callers others → count_by test callers ≤ 1 →
    list_any test others ≡ (if test one then false else list_any test callers)
any_goes test one callers others goes once =
    by (test one) (count_without test one callers others goes) (any_without test one callers others goes)
  where
    by : (b : Bool) → count_by test callers ≡ one_if b + count_by test others →
        (b ≡ false → list_any test others ≡ list_any test callers) →
        list_any test others ≡ (if b then false else list_any test callers)
    by true counted same = none_stands test others (omega (arith, counted, once))
    by false counted same = same refl
