-- The rows of bridges, as slots find them: which stand behind one more bridge, and behind the end of one.
use Rattle.std.proofs.Common.{◌≡◌, ◌≢◌, ℕ, ◌+◌, ◌≤◌, ◌==◌, Bool, true, false, ◌||◌, Option, None, Some, if◌then◌else◌, ◌⊎◌, inl, inr}
use Rattle.std.proofs.Common.{refl, sym, ap, subst, ◌∙◌, arith}
use Rattle.std.proofs.lemmas.Bool.{eqb-true, or_cases}
use Rattle.std.proofs.lemmas.Cmp.{nat_eq_equiv}
use Rattle.std.proofs.lemmas.Option.{none-some, same_Some}
use Rattle.fs_bridge.specs.declared.row.Row.{Row}
use Rattle.fs_bridge.specs.declared.row.BridgeKind.{BridgeKind}
use Rattle.fs_bridge.specs.Bridges.{BridgeRows, has_leg, has_number, part_of, next_row, joined, unbridged}
use Rattle.fs_bridge.specs.Closure.{peer_in}
use Rattle.fs_bridge.specs.Laws.{IsSound, unless_numbered}
use Rattle.fs_bridge.proofs.RowLemmas.{joined_are_part, ended_is_left, joined_sound, unbridged_sound}

-- a slot is a leg of a row
abbrev pub IsLeg : ℕ → Row → Type 0
IsLeg slot row = (slot ≡ row.caller) ⊎ (slot ≡ row.answerer)

-- whoever is part of a row is one of its legs, which differ, and both are part of it; each row has a number of its own, that was drawn
pub record RowsFit (bridges : BridgeRows) : Type 0 where
  pub sound : IsSound bridges
  pub leg : (slot : ℕ) (row : Row) → part_of slot bridges ≡ Some row → IsLeg slot row
  pub apart : (slot : ℕ) (row : Row) → part_of slot bridges ≡ Some row → row.caller ≢ row.answerer
  pub caller : (slot : ℕ) (row : Row) → part_of slot bridges ≡ Some row → part_of row.caller bridges ≡ Some row
  pub answerer : (slot : ℕ) (row : Row) → part_of slot bridges ≡ Some row → part_of row.answerer bridges ≡ Some row
  pub numbers : (a b : ℕ) (r q : Row) → part_of a bridges ≡ Some r → part_of b bridges ≡ Some q → r.number ≡ q.number → r ≡ q
  pub drawn : (slot : ℕ) (row : Row) → part_of slot bridges ≡ Some row → row.number ≤ bridges.drawn

-- both legs of a row are part of it
pub leg_part : (bridges : BridgeRows) (slot other : ℕ) (row : Row) → RowsFit bridges → part_of slot bridges ≡ Some row → IsLeg other row →
    part_of other bridges ≡ Some row
leg_part bridges slot other row fit part (inl same) = ap (λ at. part_of at bridges) same ∙ fit.caller slot row part
leg_part bridges slot other row fit part (inr same) = ap (λ at. part_of at bridges) same ∙ fit.answerer slot row part

-- the other leg is a leg
pub peer_leg : (row : Row) (slot : ℕ) → IsLeg (peer_in row slot) row
peer_leg row slot = by (row.caller == slot)
  where
    by : (test : Bool) → IsLeg (if test then row.answerer else row.caller) row
    by true = inr refl
    by false = inl refl

pub is_leg : (row : Row) (slot : ℕ) → has_leg slot row ≡ true → IsLeg slot row
is_leg row slot is =
    elim (or_cases (row.caller == slot) (row.answerer == slot) is) [
      | inl e ↦ inl (sym (eqb-true row.caller slot e))
      | inr e ↦ inr (sym (eqb-true row.answerer slot e))
    ]

pub caller_leg : (row : Row) → has_leg row.caller row ≡ true
caller_leg row = ap (λ b. b || (row.answerer == row.caller)) (nat_eq_equiv.refl row.caller)

pub answerer_leg : (row : Row) → has_leg row.answerer row ≡ true
answerer_leg row = by (row.caller == row.answerer) (nat_eq_equiv.refl row.answerer)
  where
    by : (b : Bool) → (row.answerer == row.answerer) ≡ true → (b || (row.answerer == row.answerer)) ≡ true
    by true is = refl
    by false is = is

-- ---- a bridge ends

-- whoever is part of a row still was, and it has another number
record Still (number : ℕ) (row : Row) (found : Option Row) : Type 0 where
  was : found ≡ Some row
  other : has_number number row ≡ false

still_in : (number : ℕ) (row : Row) (found : Option Row) → unless_numbered number found ≡ Some row → Still number row found
still_in number row None is = absurd (none-some row is)
still_in number row (Some r) is = by (has_number number r) refl is
  where
    by : (test : Bool) → has_number number r ≡ test → (if test then None else Some r) ≡ Some row → Still number row (Some r)
    by true has e = absurd (none-some row e)
    by false has e = record { was = e; other = ap (has_number number) (sym (same_Some r row e)) ∙ has }

pub still_part : (number slot : ℕ) (bridges : BridgeRows) (row : Row) → IsSound bridges →
    part_of slot (unbridged number bridges) ≡ Some row →
    (part_of slot bridges ≡ Some row) × (has_number number row ≡ false)
still_part number slot bridges row sound is =
    let still = still_in number row (part_of slot bridges) (sym (ended_is_left number slot bridges sound) ∙ is) in (still.was, still.other)

-- and whoever is part of a row of another number still is
pub stays_part : (number slot : ℕ) (bridges : BridgeRows) (row : Row) → IsSound bridges → part_of slot bridges ≡ Some row →
    has_number number row ≡ false → part_of slot (unbridged number bridges) ≡ Some row
stays_part number slot bridges row sound is other =
    ended_is_left number slot bridges sound ∙ ap (unless_numbered number) is ∙ ap (λ test. if test then None else Some row) other

pub unbridged_fit : (number : ℕ) (bridges : BridgeRows) → RowsFit bridges → RowsFit (unbridged number bridges)
unbridged_fit number bridges fit = record {
  sound = unbridged_sound number bridges fit.sound;
  leg = λ slot row is. fit.leg slot row (still_part number slot bridges row fit.sound is).0;
  apart = λ slot row is. fit.apart slot row (still_part number slot bridges row fit.sound is).0;
  caller = λ slot row is.
      let was = still_part number slot bridges row fit.sound is in
      stays_part number row.caller bridges row fit.sound (fit.caller slot row was.0) was.1;
  answerer = λ slot row is.
      let was = still_part number slot bridges row fit.sound is in
      stays_part number row.answerer bridges row fit.sound (fit.answerer slot row was.0) was.1;
  numbers = λ a b r q one two same. fit.numbers a b r q (still_part number a bridges r fit.sound one).0
      (still_part number b bridges q fit.sound two).0 same;
  drawn = λ slot row is. fit.drawn slot row (still_part number slot bridges row fit.sound is).0;
}

-- ---- one more bridge

module _ (caller answerer : ℕ) (kind : BridgeKind) (bridges : BridgeRows) (first : part_of caller bridges ≡ None)
    (second : part_of answerer bridges ≡ None) where
  new : Row
  new = next_row caller answerer kind bridges

  -- whoever is part of a row is a leg of the new one, or was part of it, and is none
  pub joined_part : (slot : ℕ) (row : Row) → part_of slot (joined caller answerer kind bridges) ≡ Some row →
      (IsLeg slot (next_row caller answerer kind bridges) × (row ≡ next_row caller answerer kind bridges))
      ⊎ (part_of slot bridges ≡ Some row)
  unfolding new
  joined_part slot row is = by (has_leg slot new) refl (sym (joined_are_part caller answerer slot kind bridges first second) ∙ is)
    where
      by : (test : Bool) → has_leg slot new ≡ test → (if test then Some new else part_of slot bridges) ≡ Some row →
          (IsLeg slot new × (row ≡ new)) ⊎ (part_of slot bridges ≡ Some row)
      by true leg e = inl (is_leg new slot leg, sym (same_Some new row e))
      by false leg e = inr e

  pub new_part : (slot : ℕ) → has_leg slot (next_row caller answerer kind bridges) ≡ true →
      part_of slot (joined caller answerer kind bridges) ≡ Some (next_row caller answerer kind bridges)
  unfolding new
  new_part slot is =
      joined_are_part caller answerer slot kind bridges first second ∙ ap (λ test. if test then Some new else part_of slot bridges) is

  -- whoever was part of a row is so still
  pub old_part : (slot : ℕ) (row : Row) → part_of slot bridges ≡ Some row → part_of slot (joined caller answerer kind bridges) ≡ Some row
  unfolding new
  old_part slot row is =
      joined_are_part caller answerer slot kind bridges first second
      ∙ ap (λ test. if test then Some new else part_of slot bridges) (none (has_leg slot new) refl)
      ∙ is
    where
      other : IsLeg slot new → ⊥
      other (inl same) = none-some row (sym first ∙ (ap (λ at. part_of at bridges) (sym same) ∙ is))
      other (inr same) = none-some row (sym second ∙ (ap (λ at. part_of at bridges) (sym same) ∙ is))

      none : (test : Bool) → has_leg slot new ≡ test → has_leg slot new ≡ false
      none true leg = absurd (other (is_leg new slot leg))
      none false leg = leg

  -- these are the cases
  abbrev Cases : ℕ → Row → Type 0
  Cases slot row =
      (IsLeg slot (next_row caller answerer kind bridges) × (row ≡ next_row caller answerer kind bridges))
      ⊎ (part_of slot bridges ≡ Some row)

  pub joined_fit : caller ≢ answerer → RowsFit bridges → RowsFit (joined caller answerer kind bridges)
  unfolding new
  joined_fit differ fit = record {
    sound = joined_sound caller answerer kind bridges differ first second fit.sound;
    leg = λ slot row is. leg slot row (joined_part slot row is);
    apart = λ slot row is. apart slot row (joined_part slot row is);
    caller = λ slot row is. calls slot row (joined_part slot row is);
    answerer = λ slot row is. answers slot row (joined_part slot row is);
    numbers = λ a b r q one two same. numbers a b r q (joined_part a r one) (joined_part b q two) same;
    drawn = λ slot row is. drawn slot row (joined_part slot row is);
  }
    where
      leg : (slot : ℕ) (row : Row) → Cases slot row → IsLeg slot row
      leg slot row (inl is) = subst (IsLeg slot) (sym is.1) is.0
      leg slot row (inr is) = fit.leg slot row is

      apart : (slot : ℕ) (row : Row) → Cases slot row → row.caller ≢ row.answerer
      apart slot row (inl is) = subst (λ (r : Row). r.caller ≢ r.answerer) (sym is.1) differ
      apart slot row (inr is) = fit.apart slot row is

      calls : (slot : ℕ) (row : Row) → Cases slot row → part_of row.caller (joined caller answerer kind bridges) ≡ Some row
      calls slot row (inl is) =
          subst (λ (r : Row). part_of r.caller (joined caller answerer kind bridges) ≡ Some r) (sym is.1) (new_part caller (caller_leg new))
      calls slot row (inr is) = old_part row.caller row (fit.caller slot row is)

      answers : (slot : ℕ) (row : Row) → Cases slot row → part_of row.answerer (joined caller answerer kind bridges) ≡ Some row
      answers slot row (inl is) =
          subst (λ (r : Row). part_of r.answerer (joined caller answerer kind bridges) ≡ Some r) (sym is.1)
          (new_part answerer (answerer_leg new))
      answers slot row (inr is) = old_part row.answerer row (fit.answerer slot row is)

      numbers : (a b : ℕ) (r q : Row) → Cases a r → Cases b q → r.number ≡ q.number → r ≡ q
      numbers a b r q (inl one) (inl two) same = one.1 ∙ sym two.1
      numbers a b r q (inl one) (inr two) same =
          let less : q.number ≤ bridges.drawn = fit.drawn b q two in
          let is : r.number ≡ bridges.drawn + 1 = ap (λ (row : Row). row.number) one.1 in
          absurd (omega (arith, less, is, same))
      numbers a b r q (inr one) (inl two) same =
          let less : r.number ≤ bridges.drawn = fit.drawn a r one in
          let is : q.number ≡ bridges.drawn + 1 = ap (λ (row : Row). row.number) two.1 in
          absurd (omega (arith, less, is, same))
      numbers a b r q (inr one) (inr two) same = fit.numbers a b r q one two same

      drawn : (slot : ℕ) (row : Row) → Cases slot row → row.number ≤ bridges.drawn + 1
      drawn slot row (inl is) = let e : row.number ≡ bridges.drawn + 1 = ap (λ (r : Row). r.number) is.1 in omega (arith, e)
      drawn slot row (inr is) = let less : row.number ≤ bridges.drawn = fit.drawn slot row is in omega (arith, less)
