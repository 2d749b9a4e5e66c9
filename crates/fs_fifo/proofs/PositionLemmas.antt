-- At which position a caller is put, and from which the first of a queue is taken.
use Rattle.std.proofs.Common.{◌≡◌, ℕ, suc, ◌+◌, ◌≤◌, Bool, true, false, cond, not, List, [], ◌∷◌, length, None, Some}
use Rattle.std.proofs.Common.{refl, sym, ap, ◌∙◌, arith, if◌then◌else◌, unwrap_or}
use Rattle.std.specs.Prelude.{nat_lt, slice_get, insert, remove, position}
use Rattle.std.specs.List.{find, position_or_len}
use Rattle.std.proofs.lemmas.Bool.Decides.{nat_tests}
use Rattle.std.proofs.lemmas.List.Folds.{find_at}
use Rattle.std.proofs.lemmas.List.Sums.{prefix_len-le-length}
use Rattle.std.proofs.lemmas.Option.{slice_get_past}
use Rattle.fs_fifo.specs.declared.caller.QueuedCaller.{QueuedCaller}
use Rattle.fs_fifo.specs.Queues.{is_behind, placed, without_first}

-- it is put before the first that comes later
pub insert_placed : (new : QueuedCaller) (callers : List QueuedCaller) →
    insert callers (position_or_len (is_behind new.priority) callers) new ≡ placed new callers
insert_placed new [] = refl
insert_placed new (caller ∷ callers) = by (is_behind new.priority caller) (insert_placed new callers)
  where
    at : ℕ
    at = position_or_len (is_behind new.priority) callers

    by : (b : Bool) → insert callers at new ≡ placed new callers →
        insert (caller ∷ callers) (cond (not b) (1 + at) 0) new ≡ (if b then new ∷ caller ∷ callers else caller ∷ placed new callers)
    by true again = refl
    by false again =
        let next : 1 + at ≡ suc at = omega arith in
        ap (λ n. insert (caller ∷ callers) n new) next ∙ ap (λ rest. caller ∷ rest) again

-- the first that passes is removed
pub remove_first : (test : QueuedCaller → Bool) (callers : List QueuedCaller) →
    remove callers (position_or_len test callers) ≡ without_first test callers
remove_first test [] = refl
remove_first test (caller ∷ callers) = by (test caller) (remove_first test callers)
  where
    at : ℕ
    at = position_or_len test callers

    by : (b : Bool) → remove callers at ≡ without_first test callers →
        remove (caller ∷ callers) (cond (not b) (1 + at) 0) ≡ (if b then callers else caller ∷ without_first test callers)
    by true again = refl
    by false again =
        let next : 1 + at ≡ suc at = omega arith in ap (remove (caller ∷ callers)) next ∙ ap (λ rest. caller ∷ rest) again

-- the position of one that passes
pub position_is : (test : QueuedCaller → Bool) (callers : List QueuedCaller) (at : ℕ) → position test callers ≡ Some at →
    at ≡ position_or_len test callers
position_is test callers at is = by (nat_lt (position_or_len test callers) (length callers)) is
  where
    by : (b : Bool) → cond b (Some (position_or_len test callers)) None ≡ Some at → at ≡ position_or_len test callers
    by true e = sym (ap (λ o. unwrap_or o at) e)
    by false e = absurd (cc)

-- the position of the first that passes, or the length where none passes
pub position_or_length : (test : QueuedCaller → Bool) (callers : List QueuedCaller) →
    unwrap_or (position test callers) (length callers) ≡ position_or_len test callers
position_or_length test callers =
    by (position_or_len test callers) (length callers) (prefix_len-le-length (λ caller. not (test caller)) callers)
  where
    by : (at len : ℕ) → at ≤ len → unwrap_or (cond (nat_lt at len) (Some at) None) len ≡ at
    by at len within = grind (arith, nat_tests)

-- the one at that position is found
pub found_at : (test : QueuedCaller → Bool) (callers : List QueuedCaller) (at : ℕ) → position test callers ≡ Some at →
    find test callers ≡ slice_get callers at
found_at test callers at is = find_at test callers ∙ ap (slice_get callers) (sym (position_is test callers at is))

-- where there is no position, none is found
pub none_found : (test : QueuedCaller → Bool) (callers : List QueuedCaller) → position test callers ≡ None → find test callers ≡ None
none_found test callers none = by (nat_lt (position_or_len test callers) (length callers)) refl none
  where
    by : (b : Bool) → nat_lt (position_or_len test callers) (length callers) ≡ b →
        cond b (Some (position_or_len test callers)) None ≡ None → find test callers ≡ None
    by true e is = absurd (cc)
    by false e is = find_at test callers ∙ slice_get_past callers (position_or_len test callers) (grind (arith, nat_tests))

-- where none is found, all stay
pub none_taken : (test : QueuedCaller → Bool) (callers : List QueuedCaller) → find test callers ≡ None →
    without_first test callers ≡ callers
none_taken test [] none = refl
none_taken test (caller ∷ callers) none = by (test caller) (none_taken test callers) none
  where
    by : (b : Bool) → (find test callers ≡ None → without_first test callers ≡ callers) →
        (if b then Some caller else find test callers) ≡ None →
        (if b then callers else caller ∷ without_first test callers) ≡ caller ∷ callers
    by true again is = absurd (cc)
    by false again is = ap (λ rest. caller ∷ rest) (again is)
