-- The two channels of a bridge name each other until it ends, and whoever hangs up is in none any more.
use Rattle.std.proofs.Common.{◌≡◌, ℕ, ◌==◌, Bool, true, false, List, [], ◌∷◌, ◌++◌, fold, filter_map, Option, None, Some, if◌then◌else◌}
use Rattle.std.proofs.Common.{option_and_then, option_map, ◌⊎◌, inl, inr, refl, sym, ap, subst, ◌∙◌}
use Rattle.std.proofs.lemmas.Bool.{eqb-true, or_cases, false≢true}
use Rattle.std.proofs.lemmas.Option.{none-some, same_Some}
use Rattle.fs_vars.specs.Variables.{Variables}
use Rattle.fs_bridge.specs.declared.after.After.{After}
use Rattle.fs_bridge.specs.declared.row.Row.{Row}
use Rattle.fs_bridge.specs.After.{after_bridge}
use Rattle.fs_bridge.specs.Closure.{Member, Members, peer_in, left_in, left_by, has_ended, with_end, ended_by, survivor_of}
use Rattle.fs_bridge.specs.Closure.{members_of, closure_of}
use Rattle.fs_bridge.specs.Hangups.{IsOneOf}
use Rattle.fs_bridge.specs.Worlds.{World}
use Rattle.fs_bridge.proofs.DragLemmas.{one_parts, one_front, one_back, one_in_order}
use Rattle.fs_bridge.proofs.SurvivorLemmas.{IsTold, one_told, left_case}
use Rattle.fs_state.specs.Switch.{Switch, chan_at, bridge_at}
use Rattle.fs_state.specs.Hangups.{world_of, living_of, has_peer, row_at, Ended}
use Rattle.fs_machine.proofs.BondRows.{RowsFit}

-- ---- which bridges end

-- the bridge of a caller is among those that have ended
record HasEnd (caller : ℕ) (ended : List Ended) : Type 0 where
  end : Ended
  one : IsOneOf end ended
  calls : end.0.caller ≡ caller

has_end : (caller : ℕ) (ended : List Ended) → has_ended caller ended ≡ true → HasEnd caller ended
has_end caller [] is = absurd (false≢true is)
has_end caller (e ∷ ended) is =
    elim (or_cases (e.0.caller == caller) (has_ended caller ended) is) [
      | inl here ↦ record { end = e; one = inl refl; calls = eqb-true e.0.caller caller here }
      | inr there ↦ let later = has_end caller ended there in record { end = later.end; one = inr later.one; calls = later.calls }
    ]

-- whatever has ended has ended still
more_ended : (w : World) (e : Ended) (ended : List Ended) (m : Member) → IsOneOf e ended → IsOneOf e (ended_by w ended m)
more_ended w e ended m is = by (w.row m.0)
  where
    either : (row : Row) (test : Bool) → IsOneOf e (if test then ended else ended ++ (row, m.1) ∷ [])
    either row true = is
    either row false = one_front e ended ((row, m.1) ∷ []) is

    by : (found : Option Row) → IsOneOf e (with_end m.1 ended found)
    by None = is
    by (Some row) = either row (has_ended row.caller ended)

all_ended : (w : World) (e : Ended) (ended : List Ended) (members : Members) → IsOneOf e ended →
    IsOneOf e (fold (ended_by w) ended members)
all_ended w e ended [] is = is
all_ended w e ended (m ∷ members) is = all_ended w e (ended_by w ended m) members (more_ended w e ended m is)

-- the bridge of a member ends, or one of the same caller
member_end : (w : World) (ended : List Ended) (m : Member) (row : Row) → w.row m.0 ≡ Some row → HasEnd row.caller (ended_by w ended m)
member_end w ended m row is = subst (λ (found : Option Row). HasEnd row.caller (with_end m.1 ended found)) (sym is)
    (by (has_ended row.caller ended) refl)
  where
    by : (test : Bool) → has_ended row.caller ended ≡ test → HasEnd row.caller (if test then ended else ended ++ (row, m.1) ∷ [])
    by true has = has_end row.caller ended has
    by false has = record { end = (row, m.1); one = one_back (row, m.1) ended ((row, m.1) ∷ []) (inl refl); calls = refl }

members_end : (w : World) (ended : List Ended) (members : Members) (m : Member) (row : Row) → IsOneOf m members → w.row m.0 ≡ Some row →
    HasEnd row.caller (fold (ended_by w) ended members)
members_end w ended [] m row one is = absurd one
members_end w ended (first ∷ members) m row (inl same) is =
    let has = member_end w ended first row (ap (λ (who : Member). w.row who.0) (sym same) ∙ is) in
    record { end = has.end; one = all_ended w has.end (ended_by w ended first) members has.one; calls = has.calls }
members_end w ended (first ∷ members) m row (inr one) is = members_end w (ended_by w ended first) members m row one is

end_row : (w : World) (ended : List Ended) (m : Member) (e : Ended) → IsOneOf e (ended_by w ended m) →
    IsOneOf e ended ⊎ (w.row m.0 ≡ Some e.0)
end_row w ended m e is = by (w.row m.0) refl is
  where
    last : (row : Row) → w.row m.0 ≡ Some row → IsOneOf e ended ⊎ IsOneOf e ((row, m.1) ∷ []) →
        IsOneOf e ended ⊎ (w.row m.0 ≡ Some e.0)
    last row there (inl old) = inl old
    last row there (inr (inl same)) = inr (there ∙ ap (λ (x : Ended). Some x.0) (sym same))
    last row there (inr (inr none)) = absurd none

    either : (row : Row) → w.row m.0 ≡ Some row → (test : Bool) → IsOneOf e (if test then ended else ended ++ (row, m.1) ∷ []) →
        IsOneOf e ended ⊎ (w.row m.0 ≡ Some e.0)
    either row there true one = inl one
    either row there false one = last row there (one_parts e ended ((row, m.1) ∷ []) one)

    by : (found : Option Row) → w.row m.0 ≡ found → IsOneOf e (with_end m.1 ended found) →
        IsOneOf e ended ⊎ (w.row m.0 ≡ Some e.0)
    by None there one = inl one
    by (Some row) there one = either row there (has_ended row.caller ended) one

-- a bridge that ends is that of one of the members
record IsEndOf (w : World) (members : Members) (e : Ended) : Type 0 where
  by : Member
  one : IsOneOf by members
  row : w.row by.0 ≡ Some e.0

ends_rows : (w : World) (ended : List Ended) (members : Members) (e : Ended) → IsOneOf e (fold (ended_by w) ended members) →
    IsOneOf e ended ⊎ IsEndOf w members e
ends_rows w ended [] e is = inl is
ends_rows w ended (m ∷ members) e is = later (ends_rows w (ended_by w ended m) members e is)
  where
    first : IsOneOf e ended ⊎ (w.row m.0 ≡ Some e.0) → IsOneOf e ended ⊎ IsEndOf w (m ∷ members) e
    first (inl old) = inl old
    first (inr its) = inr (record { by = m; one = inl refl; row = its })

    later : IsOneOf e (ended_by w ended m) ⊎ IsEndOf w members e → IsOneOf e ended ⊎ IsEndOf w (m ∷ members) e
    later (inl old) = first (end_row w ended m e old)
    later (inr new) = inr (record { by = new.by; one = inr new.one; row = new.row })

-- ---- as a switch has it

-- the row that a hangup sees stands
pub row_seen : (s : Switch) (slot : ℕ) (row : Row) → row_at s slot ≡ Some row → bridge_at s slot ≡ Some row
row_seen s slot row is = by (has_peer (chan_at s slot)) is
  where
    by : (test : Bool) → (if test then bridge_at s slot else None) ≡ Some row → bridge_at s slot ≡ Some row
    by true e = e
    by false e = absurd (none-some row e)

-- a bridge that ends by a hangup is that of one who hangs up
pub record EndsBy (named : Members) (s : Switch) (row : Row) : Type 0 where
  pub by : Member
  pub one : IsOneOf by (members_of (world_of s) (living_of s named))
  pub its : row_at s by.0 ≡ Some row

pub end_by : (named : Members) (s : Switch) (e : Ended) → IsOneOf e (closure_of (world_of s) (living_of s named)).ended →
    EndsBy named s e.0
end_by named s e is =
    elim (ends_rows (world_of s) [] (members_of (world_of s) (living_of s named)) e is) [
      | inl none ↦ absurd none
      | inr some ↦ record { by = some.by; one = some.one; its = some.row }
    ]

-- it stands until then
pub end_stands : (named : Members) (s : Switch) (e : Ended) → IsOneOf e (closure_of (world_of s) (living_of s named)).ended →
    (slot : ℕ) × (bridge_at s slot ≡ Some e.0)
end_stands named s e is =
    let ends : EndsBy named s e.0 = end_by named s e is in (ends.by.0, row_seen s ends.by.0 e.0 ends.its)

-- it ends, of some cause
pub record HasEnded (named : Members) (s : Switch) (row : Row) : Type 0 where
  pub end : Ended
  pub one : IsOneOf end (closure_of (world_of s) (living_of s named)).ended
  pub is : end.0 ≡ row

ended_here : (named : Members) (s : Switch) (m : Member) (row : Row) → RowsFit s.bridges →
    IsOneOf m (members_of (world_of s) (living_of s named)) → row_at s m.0 ≡ Some row → HasEnded named s row
ended_here named s m row fit one is =
    let has = members_end (world_of s) [] (members_of (world_of s) (living_of s named)) m row one is in
    let stands = end_stands named s has.end has.one in
    let there : bridge_at s row.caller ≡ Some row = fit.caller m.0 row (row_seen s m.0 row is) in
    let here : bridge_at s has.end.0.caller ≡ Some has.end.0 = fit.caller stands.0 has.end.0 stands.1 in
    record {
      end = has.end;
      one = has.one;
      is = same_Some has.end.0 row (sym here ∙ (ap (bridge_at s) has.calls ∙ there));
    }

-- the bridge of whoever hangs up
pub member_ended : (named : Members) (s : Switch) (m : Member) (row : Row) → RowsFit s.bridges →
    IsOneOf m (closure_of (world_of s) (living_of s named)).members → has_peer (chan_at s m.0) ≡ true → bridge_at s m.0 ≡ Some row →
    HasEnded named s row
member_ended named s m row fit one peer is =
    ended_here named s m row fit (one_in_order m (members_of (world_of s) (living_of s named)) one)
    (ap (λ test. if test then bridge_at s m.0 else None) peer ∙ is)

-- whoever outlives a bridge was the other leg of it, for one that hangs up
pub record Outlives (named : Members) (s : Switch) (slot : ℕ) : Type 0 where
  pub by : ℕ
  pub row : Row
  pub part : bridge_at s by ≡ Some row
  pub other : slot ≡ peer_in row by
  pub ended : HasEnded named s row

outlives_by : (named : Members) (s : Switch) (m : Member) (one : ℕ × After) → RowsFit s.bridges →
    IsOneOf m (members_of (world_of s) (living_of s named)) → left_by (world_of s) m ≡ Some one → Outlives named s one.0
outlives_by named s m one fit among told = by (row_at s m.0) refl told
  where
    left : (row : Row) (vars : Option Variables) → row_at s m.0 ≡ Some row →
        option_map (λ vars. (peer_in row m.0, after_bridge row (peer_in row m.0) vars m.1)) vars ≡ Some one → Outlives named s one.0
    left row None is e = absurd (none-some one e)
    left row (Some vars) is e = record {
      by = m.0;
      row = row;
      part = row_seen s m.0 row is;
      other = sym (ap (λ (l : ℕ × After). l.0) (same_Some (peer_in row m.0, after_bridge row (peer_in row m.0) vars m.1) one e));
      ended = ended_here named s m row fit among is;
    }

    by : (found : Option Row) → row_at s m.0 ≡ found → option_and_then (left_in (world_of s) m) found ≡ Some one → Outlives named s one.0
    by None is e = absurd (none-some one e)
    by (Some row) is e = left row ((world_of s).vars (peer_in row m.0)) is e

pub survivor_outlives : (named : Members) (s : Switch) (one : ℕ × After) → RowsFit s.bridges →
    IsOneOf one (closure_of (world_of s) (living_of s named)).survivors → Outlives named s one.0
survivor_outlives named s one fit is =
    let w : World = world_of s in
    let members : Members = members_of w (living_of s named) in
    let told : IsTold (survivor_of w members) one members =
    one_told (survivor_of w members) one members (one_in_order one (filter_map (survivor_of w members) members) is) in
    outlives_by named s told.by one fit told.one (left_case members one (left_by w told.by) told.told).0
