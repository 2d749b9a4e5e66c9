-- Owners wait still behind channels that leave their bridges: whoever was the other leg of one dialed nothing.
use Rattle.std.proofs.Common.{ℕ, List, map, inl, inr, refl, subst}
use Rattle.fs_text.specs.declared.causes.Cause.TheVariants.{OriginatorCancel, NormalClearing}
use Rattle.fs_bridge.specs.declared.after.After.{After}
use Rattle.fs_bridge.specs.declared.row.Row.{Row}
use Rattle.fs_bridge.specs.Closure.{Members, Ends}
use Rattle.fs_bridge.specs.Hangups.{IsOneOf}
use Rattle.fs_bridge.proofs.SettledLemmas.{one_stands}
use Rattle.fs_chan.specs.Bridging.{unbridged}
use Rattle.fs_state.specs.Switch.{Switch, without_bridge}
use Rattle.fs_state.specs.Moves.{with_changed_chan}
use Rattle.fs_state.specs.Hangups.{after_hangups}
use Rattle.fs_state.specs.Leaving.{all_legs_at, after_parting, leaving_of, after_bridges_left, after_leaving_others}
use Rattle.fs_machine.proofs.StayLemmas.{changed_there}
use Rattle.fs_machine.proofs.HangLemmas.{members_as_left, hangs_as_left, stay_as_left}
use Rattle.fs_machine.proofs.JoinLemmas.{DialsNone}
use Rattle.fs_machine.proofs.LegLemmas.{roles_of}
use Rattle.fs_machine.proofs.BondTables.{Bonds}
use Rattle.fs_machine.proofs.BondHangups.{survivors_dial_none, hung_bonds}
use Rattle.fs_machine.proofs.BondLeaves.{parted_bonds, other_off}
use Rattle.fs_machine.proofs.PartingLemmas.{parted_state, left_named, closure_at, partings_kept, survivors_as_left, leaving_ends}
use Rattle.fs_machine.proofs.OwnerLemmas.{Owned, alike_owned}
use Rattle.fs_machine.proofs.OwnerHangups.{closure_owned, hung_owned}

-- a bridge ends
freed_owned : (slot : ℕ) (s : Switch) → Owned (roles_of s) → Owned (roles_of (with_changed_chan (unbridged NormalClearing) slot s))
freed_owned slot s h =
    changed_there (λ (t : Switch). Owned (roles_of t)) (unbridged NormalClearing) slot s
    (λ c is. alike_owned (roles_of s) slot c (unbridged NormalClearing c) is refl refl refl h) h

parting_owned : (row : Row) (s : Switch) → Owned (roles_of s) → Owned (roles_of (after_parting (row, NormalClearing) s))
parting_owned row s h =
    let t : Switch = without_bridge row.number s in
    freed_owned row.answerer (with_changed_chan (unbridged NormalClearing) row.caller t) (freed_owned row.caller t h)

-- the bridges that they leave end
parted_owned : (slots : List ℕ) (s : Switch) → Bonds s → Owned (roles_of s) → Owned (roles_of (parted_state slots s))
parted_owned slots s bonds h =
    partings_kept (λ (t : Switch). Owned (roles_of t)) (λ slot row t part k. parting_owned row t k) slots s bonds.rows h

-- whoever outlives one dials nothing then
stay_dials : (slots : List ℕ) (s : Switch) → Bonds s → (one : ℕ × After) → IsOneOf one (leaving_of slots s).ends.survivors →
    DialsNone (parted_state slots s) one.0
stay_dials slots s bonds one is =
    elim (survivors_as_left slots s (closure_at slots s) one
    (subst (λ (e : Ends). IsOneOf one e.survivors) (leaving_ends slots s bonds) is)) [
      | inl hung ↦ survivors_dial_none (left_named slots s) (parted_state slots s) one (parted_bonds slots s bonds) hung
      | inr other ↦ λ c there. (other_off slots s bonds one other.0 c there).dials
    ]

bridges_left_owned : (slots : List ℕ) (s : Switch) → Bonds s → Owned (roles_of s) → Owned (roles_of (after_bridges_left slots s))
unfolding after_bridges_left
bridges_left_owned slots s bonds h =
    closure_owned (hangs_as_left slots s) (leaving_of slots s).ends (parted_state slots s)
    (λ m one. one_stands m (members_as_left slots s) one) (λ one is. stay_as_left slots s one is)
    (λ one is. stay_dials slots s bonds one is) (parted_owned slots s bonds h)

-- and before that the legs that they dialed are hung up
pub others_owned : (slots : List ℕ) (s : Switch) → Bonds s → Owned (roles_of s) → Owned (roles_of (after_leaving_others slots s))
others_owned slots s bonds h =
    let named : Members = map (λ slot. (slot, OriginatorCancel)) (all_legs_at s slots) in
    bridges_left_owned slots (after_hangups named s) (hung_bonds named s bonds) (hung_owned named s bonds h)
