-- The rows of bridges: who is part of one, once one more is there, and once one is gone.
use Rattle.std.proofs.Common.{◌≡◌, ◌≢◌, ℕ, ◌+◌, ◌≤◌, ◌<◌, ◌==◌, Bool, true, false, not, ◌||◌, List, [], ◌∷◌, ◌++◌}
use Rattle.std.proofs.Common.{Option, None, Some, refl, sym, ap, ◌∙◌, arith, if◌then◌else◌, filter, All, count_by, ◌⊎◌, inl, inr}
use Rattle.std.specs.List.{find}
use Rattle.std.specs.Option.{option_or}
use Rattle.std.proofs.lemmas.Bool.{eqb-true, or_cases}
use Rattle.std.proofs.lemmas.List.Elements.{All-push, All-filter}
use Rattle.std.proofs.lemmas.List.Folds.{find-append}
use Rattle.std.proofs.lemmas.List.Kept.{AllPairs-filter}
use Rattle.std.proofs.lemmas.List.Quantifiers.{all_pairs_push}
use Rattle.std.proofs.lemmas.List.Sums.{sum_by-append, sum_by-cons}
use Rattle.fs_bridge.specs.declared.row.Row.{Row}
use Rattle.fs_bridge.specs.declared.row.BridgeKind.{BridgeKind}
use Rattle.fs_bridge.specs.Bridges.{BridgeRows, has_leg, has_number, part_of, next_row, joined, unbridged}
use Rattle.fs_bridge.specs.Laws.{IsRow, IsSound, JoinedArePart, EndedIsLeft, unless_numbered}

-- ---- how many rows there are of a test

-- one, where the test holds
abbrev pub one_if : Bool → ℕ
one_if b = if b then 1 else 0

-- with one more row in front
pub count_front : (test : Row → Bool) (row : Row) (rows : List Row) →
    count_by test (row ∷ rows) ≡ one_if (test row) + count_by test rows
count_front test row rows = sum_by-cons (λ r. one_if (test r)) row rows

-- with one more row behind
pub count_push : (test : Row → Bool) (rows : List Row) (row : Row) →
    count_by test (rows ++ row ∷ []) ≡ count_by test rows + one_if (test row)
count_push test rows row =
    let both = sum_by-append (λ r. one_if (test r)) rows (row ∷ []) in
    omega (arith, both)

-- what is found nowhere is counted nowhere
pub none_counted : (test : Row → Bool) (rows : List Row) → find test rows ≡ None → count_by test rows ≡ 0
none_counted test [] none = refl
none_counted test (row ∷ rows) none = by (test row) refl (none_counted test rows) none
  where
    by : (b : Bool) → test row ≡ b → (find test rows ≡ None → count_by test rows ≡ 0) →
        (if b then Some row else find test rows) ≡ None → count_by test (row ∷ rows) ≡ 0
    by true e again none = absurd (cc)
    by false e again none =
        let front = count_front test row rows ∙ ap (λ b. one_if b + count_by test rows) e in
        omega (arith, front, again none)

-- what is counted nowhere is found nowhere
pub none_found : (test : Row → Bool) (rows : List Row) → count_by test rows ≡ 0 → find test rows ≡ None
none_found test [] none = refl
none_found test (row ∷ rows) none =
    by (test row) refl (none_found test rows) (sym (count_front test row rows) ∙ none)
  where
    by : (b : Bool) → test row ≡ b → (count_by test rows ≡ 0 → find test rows ≡ None) →
        one_if b + count_by test rows ≡ 0 → find test (row ∷ rows) ≡ None
    by true e again none = absurd (omega (arith, none))
    by false e again none = ap (λ b. if b then Some row else find test rows) e ∙ again (omega (arith, none))

-- there are no more of them in a part
pub less_in_part : (test kept : Row → Bool) (rows : List Row) → count_by test (filter kept rows) ≤ count_by test rows
less_in_part test kept [] = omega arith
less_in_part test kept (row ∷ rows) = by (kept row) (less_in_part test kept rows)
  where
    whole : count_by test (row ∷ rows) ≡ one_if (test row) + count_by test rows
    whole = count_front test row rows

    by : (b : Bool) → count_by test (filter kept rows) ≤ count_by test rows →
        count_by test (if b then row ∷ filter kept rows else filter kept rows) ≤ count_by test (row ∷ rows)
    by true less =
        let part : count_by test (row ∷ filter kept rows) ≡ one_if (test row) + count_by test (filter kept rows)
        = count_front test row (filter kept rows) in
        let same : count_by test (row ∷ rows) ≡ one_if (test row) + count_by test rows = whole in
        omega (arith, less, part, same)
    by false less =
        let same : count_by test (row ∷ rows) ≡ one_if (test row) + count_by test rows = whole in
        omega (arith, less, same)

-- ---- who is part of a bridge

-- a slot of a row is the one or the other leg
which_leg : (slot caller answerer : ℕ) → (caller == slot || answerer == slot) ≡ true → (slot ≡ caller) ⊎ (slot ≡ answerer)
which_leg slot caller answerer is = by (or_cases (caller == slot) (answerer == slot) is)
  where
    by : ((caller == slot) ≡ true) ⊎ ((answerer == slot) ≡ true) → (slot ≡ caller) ⊎ (slot ≡ answerer)
    by (inl e) = inl (sym (eqb-true caller slot e))
    by (inr e) = inr (sym (eqb-true answerer slot e))

-- the legs that are joined are part of nothing before
free_leg : (caller answerer slot : ℕ) (kind : BridgeKind) (bridges : BridgeRows) →
    part_of caller bridges ≡ None → part_of answerer bridges ≡ None →
    has_leg slot (next_row caller answerer kind bridges) ≡ true → part_of slot bridges ≡ None
free_leg caller answerer slot kind bridges first second is = by (which_leg slot caller answerer is)
  where
    by : (slot ≡ caller) ⊎ (slot ≡ answerer) → part_of slot bridges ≡ None
    by (inl e) = ap (λ s. part_of s bridges) e ∙ first
    by (inr e) = ap (λ s. part_of s bridges) e ∙ second

pub joined_are_part : JoinedArePart
joined_are_part caller answerer slot kind bridges first second =
    find-append (has_leg slot) bridges.rows (row ∷ []) ∙ by (has_leg slot row) refl
  where
    row : Row
    row = next_row caller answerer kind bridges

    after_none : (found : Option Row) → option_or found None ≡ found
    after_none None = refl
    after_none (Some r) = refl

    by : (b : Bool) → has_leg slot row ≡ b →
        option_or (part_of slot bridges) (if b then Some row else None) ≡ (if b then Some row else part_of slot bridges)
    by true e = ap (λ found. option_or found (Some row)) (free_leg caller answerer slot kind bridges first second e)
    by false e = after_none (part_of slot bridges)

-- among rows of which one at most has a leg, it is found once those of a number are gone, unless it is of that number
left_in : (number slot : ℕ) (rows : List Row) → count_by (has_leg slot) rows ≤ 1 →
    find (has_leg slot) (filter (λ row. not (has_number number row)) rows) ≡ unless_numbered number (find (has_leg slot) rows)
left_in number slot [] one = refl
left_in number slot (row ∷ rows) one =
    by (has_leg slot row) (has_number number row) refl refl counted (left_in number slot rows)
  where
    kept : Row → Bool
    kept = λ r. not (has_number number r)

    rest : List Row
    rest = filter kept rows

    counted : one_if (has_leg slot row) + count_by (has_leg slot) rows ≤ 1
    counted = let front = count_front (has_leg slot) row rows in omega (arith, front, one)

    none : count_by (has_leg slot) rows ≡ 0 → find (has_leg slot) rest ≡ None
    none zero =
        let less = less_in_part (has_leg slot) kept rows in
        none_found (has_leg slot) rest (omega (arith, less, zero))

    by : (leg same : Bool) → has_leg slot row ≡ leg → has_number number row ≡ same →
        one_if leg + count_by (has_leg slot) rows ≤ 1 →
        (count_by (has_leg slot) rows ≤ 1 → find (has_leg slot) rest ≡ unless_numbered number (find (has_leg slot) rows)) →
        find (has_leg slot) (if not same then row ∷ rest else rest)
        ≡ unless_numbered number (if leg then Some row else find (has_leg slot) rows)
    by true true l n one again = none (omega (arith, one)) ∙ sym (ap (λ b. if b then None else Some row) n)
    by true false l n one again =
        ap (λ b. if b then Some row else find (has_leg slot) rest) l ∙ sym (ap (λ b. if b then None else Some row) n)
    by false true l n one again = again (omega (arith, one))
    by false false l n one again = ap (λ b. if b then Some row else find (has_leg slot) rest) l ∙ again (omega (arith, one))

pub ended_is_left : EndedIsLeft
ended_is_left number slot bridges sound = left_in number slot bridges.rows (sound.one slot)

-- ---- what holds of all rows

-- a row stays what it is while numbers are drawn
pub more_drawn : (drawn : ℕ) (rows : List Row) → All (IsRow drawn) rows → All (IsRow (drawn + 1)) rows
more_drawn drawn rows all k d within =
    let row = all k d within in
    record { first = row.first; last = omega (arith, row.last); apart = row.apart }

pub joined_sound : (caller answerer : ℕ) (kind : BridgeKind) (bridges : BridgeRows) → caller ≢ answerer →
    part_of caller bridges ≡ None → part_of answerer bridges ≡ None → IsSound bridges →
    IsSound (joined caller answerer kind bridges)
joined_sound caller answerer kind bridges apart first second sound =
    record {
      rows = All-push (IsRow (bridges.drawn + 1)) bridges.rows row (more_drawn bridges.drawn bridges.rows sound.rows)
          (record { first = omega arith; last = omega arith; apart = apart });
      order = all_pairs_push (λ r later. r.number < later.number) bridges.rows row sound.order (λ k d within.
          let old = sound.rows k d within in omega (arith, old.last));
      one = λ slot. one slot (has_leg slot row) refl;
    }
  where
    row : Row
    row = next_row caller answerer kind bridges

    one : (slot : ℕ) (b : Bool) → has_leg slot row ≡ b → count_by (has_leg slot) (bridges.rows ++ row ∷ []) ≤ 1
    one slot true e =
        let zero = none_counted (has_leg slot) bridges.rows (free_leg caller answerer slot kind bridges first second e) in
        let more = count_push (has_leg slot) bridges.rows row in
        omega (arith, zero, more ∙ ap (λ b. count_by (has_leg slot) bridges.rows + one_if b) e)
    one slot false e =
        let old = sound.one slot in
        let more = count_push (has_leg slot) bridges.rows row in
        omega (arith, old, more ∙ ap (λ b. count_by (has_leg slot) bridges.rows + one_if b) e)

pub unbridged_sound : (number : ℕ) (bridges : BridgeRows) → IsSound bridges → IsSound (unbridged number bridges)
unbridged_sound number bridges sound =
    record {
      rows = All-filter kept (IsRow bridges.drawn) bridges.rows sound.rows;
      order = AllPairs-filter (λ r later. r.number < later.number) kept bridges.rows sound.order;
      one = λ slot. let old = sound.one slot in let less = less_in_part (has_leg slot) kept bridges.rows in omega (arith, old, less);
    }
  where
    kept : Row → Bool
    kept = λ r. not (has_number number r)
