-- Each bridge that a hangup ends is told once to have ended.
use Rattle.std.proofs.Common.{◌≡◌, ℕ, ◌+◌, ◌≤◌, ◌==◌, Bool, true, false, if◌then◌else◌, List, [], ◌∷◌, ◌++◌}
use Rattle.std.proofs.Common.{fold, count_by, Option, None, Some, ◌⊎◌, inl, inr, refl, sym, ap, ◌∙◌}
use Rattle.std.proofs.Common.{arith, true≢false}
use Rattle.std.proofs.lemmas.Bool.{eqb-true}
use Rattle.std.proofs.lemmas.Cmp.{nat_eq_equiv}
use Rattle.std.proofs.lemmas.Option.{same_Some}
use Rattle.std.proofs.lemmas.List.Sums.{sum_by_push}
use Rattle.fs_bridge.specs.declared.row.Row.{Row}
use Rattle.fs_bridge.specs.Bridges.{BridgeRows, has_leg, has_number}
use Rattle.fs_bridge.specs.Closure.{Member, Members, has_ended, with_end, ended_by, ended_of, members_of, closure_of}
use Rattle.fs_bridge.specs.Hangups.{IsOneOf}
use Rattle.fs_bridge.specs.Orders.{has_slot, in_order}
use Rattle.fs_bridge.specs.Worlds.{World}
use Rattle.fs_bridge.proofs.DragLemmas.{one_parts}
use Rattle.fs_bridge.proofs.OnceLemmas.{has_order}
use Rattle.fs_bridge.proofs.RowLemmas.{one_if}
use Rattle.fs_bridge.proofs.SettledLemmas.{one_stands}
use Rattle.fs_state.specs.Switch.{Switch, bridge_at}
use Rattle.fs_state.specs.Hangups.{world_of, living_of, Ended, is_leg_of}
use Rattle.fs_machine.proofs.BondRows.{RowsFit, leg_part, is_leg}
use Rattle.fs_machine.proofs.BondLemmas.{row_seen}
use Rattle.fs_machine.proofs.ListCounts.{found_passes, counts_less, counts_some, counts_found}
use Rattle.fs_machine.proofs.ListCounts.{any_of}

-- ---- which bridges end

-- the bridge of this number ends
abbrev pub is_end_of : ℕ → Ended → Bool
is_end_of number e = has_number number e.0

-- how many of these bridges have this number
abbrev pub ends_of_number : ℕ → List Ended → ℕ
ends_of_number number ended = count_by (is_end_of number) ended

-- how many rows have it
abbrev pub rows_of_number : ℕ → BridgeRows → ℕ
rows_of_number number bridges = count_by (has_number number) bridges.rows

-- each of these bridges is that of one of the members, and none is there twice
record AreOf (s : Switch) (members : Members) (ended : List Ended) : Type 0 where
  member : (e : Ended) → IsOneOf e ended → (m : Member) × IsOneOf m members × (bridge_at s m.0 ≡ Some e.0)
  once : (number : ℕ) → ends_of_number number ended ≤ 1

-- one that has not ended yet has no number of one that has
apart_from : (s : Switch) (members : Members) (ended : List Ended) (slot number : ℕ) (row : Row) → RowsFit s.bridges →
    bridge_at s slot ≡ Some row → has_ended row.caller ended ≡ false → has_number number row ≡ true → AreOf s members ended →
    ends_of_number number ended ≡ 0
apart_from s members ended slot number row fit part new is are = by (counts_some (is_end_of number) ended)
  where
    by : (ends_of_number number ended ≡ 0) ⊎ ((e : Ended) × IsOneOf e ended × (is_end_of number e ≡ true)) →
        ends_of_number number ended ≡ 0
    by (inl none) = none
    by (inr some) =
        let e : Ended = some.0 in
        let of = are.member e some.1 in
        let numbers : e.0.number ≡ row.number =
        eqb-true e.0.number number some.2 ∙ sym (eqb-true row.number number is) in
        let same : e.0 ≡ row = fit.numbers of.0.0 slot e.0 row of.2 part numbers in
        let calls : (e.0.caller == row.caller) ≡ true =
        ap (λ (r : Row). r.caller == row.caller) same ∙ nat_eq_equiv.refl row.caller in
        absurd (true≢false (sym (any_of (λ (x : Ended). x.0.caller == row.caller) e ended some.1 calls) ∙ new))

-- whoever tells of a bridge, as a hangup asks, is part of it
abbrev pub Shows : World → Switch → Type 0
Shows w s = (slot : ℕ) (row : Row) → w.row slot ≡ Some row → bridge_at s slot ≡ Some row

module _ (w : World) (s : Switch) (fit : RowsFit s.bridges) (shows : Shows w s) where
  -- with the bridge of one more member
  more_of : (members : Members) (m : Member) (ended : List Ended) → IsOneOf m members → AreOf s members ended →
      AreOf s members (ended_by w ended m)
  more_of members m ended one are = by (w.row m.0) refl
    where
      with_row : (row : Row) → w.row m.0 ≡ Some row → has_ended row.caller ended ≡ false → AreOf s members (ended ++ (row, m.1) ∷ [])
      with_row row is new = record {
        member = λ e among. member e (one_parts e ended ((row, m.1) ∷ []) among);
        once = λ number. once number (has_number number row) refl;
      }
        where
          part : bridge_at s m.0 ≡ Some row
          part = shows m.0 row is

          member : (e : Ended) → IsOneOf e ended ⊎ IsOneOf e ((row, m.1) ∷ []) →
              (m : Member) × IsOneOf m members × (bridge_at s m.0 ≡ Some e.0)
          member e (inl old) = are.member e old
          member e (inr (inl same)) = (m, one, part ∙ ap (λ (x : Ended). Some x.0) (sym same))
          member e (inr (inr none)) = absurd none

          once : (number : ℕ) (b : Bool) → has_number number row ≡ b → ends_of_number number (ended ++ (row, m.1) ∷ []) ≤ 1
          once number true has =
              let none = apart_from s members ended m.0 number row fit part new has are in
              let more = sum_by_push (λ (e : Ended). one_if (is_end_of number e)) ended (row, m.1)
              ∙ ap (λ b. ends_of_number number ended + one_if b) has in
              omega (arith, none, more)
          once number false has =
              let old = are.once number in
              let more = sum_by_push (λ (e : Ended). one_if (is_end_of number e)) ended (row, m.1)
              ∙ ap (λ b. ends_of_number number ended + one_if b) has in
              omega (arith, old, more)

      either : (row : Row) → w.row m.0 ≡ Some row → (test : Bool) → has_ended row.caller ended ≡ test →
          AreOf s members (if test then ended else ended ++ (row, m.1) ∷ [])
      either row is true old = are
      either row is false new = with_row row is new

      by : (found : Option Row) → w.row m.0 ≡ found → AreOf s members (with_end m.1 ended found)
      by None is = are
      by (Some row) is = either row is (has_ended row.caller ended) refl

  all_of : (members more : Members) (ended : List Ended) → ((m : Member) → IsOneOf m more → IsOneOf m members) →
      AreOf s members ended → AreOf s members (fold (ended_by w) ended more)
  all_of members [] ended among are = are
  all_of members (m ∷ more) ended among are =
      all_of members more (ended_by w ended m) (λ other one. among other (inr one)) (more_of members m ended (among m (inl refl)) are)

-- ---- what holds of them

-- each of these bridges stands, and has a leg among the slots of these members, of which none is a leg of another one
pub record AreEnds (bridges : BridgeRows) (members : Members) (ended : List Ended) : Type 0 where
  pub stand : (number : ℕ) → ends_of_number number ended ≤ rows_of_number number bridges
  pub legs : (e : Ended) → IsOneOf e ended → (slot : ℕ) × (has_slot slot members ≡ true) × (is_leg_of slot e ≡ true)
  pub one : (slot : ℕ) → count_by (is_leg_of slot) ended ≤ 1

-- whose hangup it is, in any world that shows bridges that stand
module _ (w : World) (named : Members) (s : Switch) (fit : RowsFit s.bridges) (shows : Shows w s) where
  members : Members
  members = members_of w named

  ended : List Ended
  ended = ended_of w members

  are : AreOf s members ended
  unfolding ended
  are = all_of w s fit shows members members [] (λ m one. one) (record { member = λ e none. absurd none; once = λ number. omega arith })

  stands : (number : ℕ) → ends_of_number number ended ≤ rows_of_number number s.bridges
  stands number = by (counts_some (is_end_of number) ended)
    where
      by : (ends_of_number number ended ≡ 0) ⊎ ((e : Ended) × IsOneOf e ended × (is_end_of number e ≡ true)) →
          ends_of_number number ended ≤ rows_of_number number s.bridges
      by (inl none) = omega (arith, none)
      by (inr some) =
          let of = are.member some.0 some.1 in
          let there = counts_found (has_leg of.0.0) (has_number number) s.bridges.rows some.0.0 of.2 some.2 in
          let once = are.once number in
          omega (arith, there, once)

  has_one : (e : Ended) → IsOneOf e ended →
      (slot : ℕ) × (has_slot slot (in_order members) ≡ true) × (is_leg_of slot e ≡ true)
  has_one e one =
      let of = are.member e one in
      (of.0.0, has_order of.0.0 [] members ∙ one_stands of.0 members of.1, found_passes (has_leg of.0.0) s.bridges.rows e.0 of.2)

  -- whoever is a leg of one of them is part of it
  is_part : (slot : ℕ) (e : Ended) → IsOneOf e ended → is_leg_of slot e ≡ true → bridge_at s slot ≡ Some e.0
  is_part slot e one leg =
      let of = are.member e one in
      leg_part s.bridges of.0.0 slot e.0 fit of.2 (is_leg e.0 slot leg)

  one_leg : (slot : ℕ) → count_by (is_leg_of slot) ended ≤ 1
  one_leg slot = by (counts_some (is_leg_of slot) ended)
    where
      by : (count_by (is_leg_of slot) ended ≡ 0) ⊎ ((e : Ended) × IsOneOf e ended × (is_leg_of slot e ≡ true)) →
          count_by (is_leg_of slot) ended ≤ 1
      by (inl none) = omega (arith, none)
      by (inr some) =
          let number : ℕ = some.0.0.number in
          let part : bridge_at s slot ≡ Some some.0.0 = is_part slot some.0 some.1 some.2 in
          let less = counts_less (is_leg_of slot) (is_end_of number) ended (λ e one leg. same_number e one leg part) in
          let once = are.once number in
          omega (arith, less, once)
        where
          same_number : (e : Ended) → IsOneOf e ended → is_leg_of slot e ≡ true → bridge_at s slot ≡ Some some.0.0 →
              is_end_of some.0.0.number e ≡ true
          same_number e one leg part =
              let same : e.0 ≡ some.0.0 = same_Some e.0 some.0.0 (sym (is_part slot e one leg) ∙ part) in
              ap (has_number some.0.0.number) same ∙ nat_eq_equiv.refl some.0.0.number

  -- each of them stands until then
  pub end_stands_in : (e : Ended) → IsOneOf e (closure_of w named).ended → (slot : ℕ) × (bridge_at s slot ≡ Some e.0)
  unfolding ended members
  end_stands_in e one = let of = are.member e one in (of.0.0, of.2)

  pub closure_once_in : (number : ℕ) → ends_of_number number (closure_of w named).ended ≤ 1
  unfolding ended members
  closure_once_in number = are.once number

  pub closure_ends_in : AreEnds s.bridges (closure_of w named).members (closure_of w named).ended
  unfolding ended members
  closure_ends_in = record { stand = stands; legs = has_one; one = one_leg }

-- as a switch has it
module _ (named : Members) (s : Switch) (fit : RowsFit s.bridges) where
  pub closure_once : (number : ℕ) → ends_of_number number (closure_of (world_of s) (living_of s named)).ended ≤ 1
  closure_once = closure_once_in (world_of s) (living_of s named) s fit (row_seen s)

  pub closure_ends :
      AreEnds s.bridges (closure_of (world_of s) (living_of s named)).members (closure_of (world_of s) (living_of s named)).ended
  closure_ends = closure_ends_in (world_of s) (living_of s named) s fit (row_seen s)
