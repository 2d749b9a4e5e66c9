-- Who is hung up together: a loopback channel and its other end, where some of those that are named may not live.
use Rattle.std.proofs.Common.{◌≡◌, ℕ, zero, suc, ◌==◌, ◌<◌, Bool, true, false, not, ◌&&◌, ◌||◌, [], ◌∷◌, ◌++◌, filter, flat_map, length}
use Rattle.std.proofs.Common.{Option, None, Some, option_map, option_to_list, filter_map, inl, inr, refl, sym, ap, subst, ◌∙◌, arith}
use Rattle.std.proofs.Math.Path.{fun_ext}
use Rattle.std.proofs.lemmas.Bool.{eqb-true, or_cases, or_left, or_right, false≢true}
use Rattle.std.proofs.lemmas.List.Elements.{filter_passes}
use Rattle.fs_bridge.specs.Closure.{Member, Members, by_partner, by_origination, by_peer, drags, round_after, with_rounds, left_by}
use Rattle.fs_bridge.specs.Closure.{survivor_of, members_of, closure_of}
use Rattle.fs_bridge.specs.Hangups.{IsOneOf, IsDragged}
use Rattle.fs_bridge.specs.Orders.{has_slot, in_order}
use Rattle.fs_bridge.specs.Worlds.{World, IsSlot}
use Rattle.fs_bridge.specs.declared.after.After.{After}
use Rattle.fs_bridge.proofs.DragLemmas.{one_front, one_in_order}
use Rattle.fs_bridge.proofs.OnceLemmas.{has_order}
use Rattle.fs_bridge.proofs.PartLemmas.{one_of_all, all_from_one}
use Rattle.fs_bridge.proofs.SurvivorLemmas.{IsTold, one_told, left_case}
use Rattle.fs_bridge.proofs.SettledLemmas.{AreSlots, has_front, one_stands, dragged_hang_up}
use Rattle.fs_chan.specs.declared.chan.Chan.{Chan}
use Rattle.fs_seats.proofs.HeldLemmas.{held_within}
use Rattle.fs_state.specs.Switch.{Switch, chan_at}
use Rattle.fs_state.specs.Hangups.{lives, lives_at, world_of, living_of}

-- ---- slots

-- nothing stands in slot 0
abbrev pub NoneAtZero : Switch → Type 0
NoneAtZero s = chan_at s 0 ≡ None

-- a channel is in a slot that there is
pub chan_slot : (s : Switch) → NoneAtZero s → (slot : ℕ) (c : Chan) → chan_at s slot ≡ Some c → IsSlot (world_of s) slot
chan_slot s empty slot c is =
    let within : slot < length s.channels = held_within s.channels slot c is in
    record { first = omega (arith, apart); last = omega (arith, within) }
  where
    apart : slot ≡ 0 → ⊥
    apart same =
        let there : chan_at s 0 ≡ Some c = ap (chan_at s) (sym same) ∙ is in
        absurd (cc)

-- so is whoever lives
pub are_slots : (s : Switch) → NoneAtZero s → AreSlots (world_of s)
are_slots s empty slot live = by (chan_at s slot) refl live
  where
    by : (found : Option Chan) → chan_at s slot ≡ found → lives found ≡ true → IsSlot (world_of s) slot
    by None is live = absurd (false≢true live)
    by (Some c) is live = chan_slot s empty slot c is

-- ---- members

-- who hangs up when these are named
abbrev pub members_for : Members → Switch → Members
members_for named s = (closure_of (world_of s) (living_of s named)).members

-- a slot hangs up
abbrev pub hangs_up : ℕ → Members → Switch → Bool
hangs_up slot named s = has_slot slot (members_for named s)

-- in order they are the same
pub same_members : (named : Members) (s : Switch) (slot : ℕ) →
    hangs_up slot named s ≡ has_slot slot (members_of (world_of s) (living_of s named))
same_members named s slot = has_order slot [] (members_of (world_of s) (living_of s named))

-- a member in that slot
pub record HasMember (slot : ℕ) (members : Members) : Type 0 where
  pub member : Member
  pub one : IsOneOf member members
  pub at : member.0 ≡ slot

pub has_member : (slot : ℕ) (members : Members) → has_slot slot members ≡ true → HasMember slot members
has_member slot [] is = absurd (false≢true is)
has_member slot (m ∷ members) is =
    elim (or_cases (m.0 == slot) (has_slot slot members) is) [
      | inl here ↦ record { member = m; one = inl refl; at = eqb-true m.0 slot here }
      | inr there ↦ let later = has_member slot members there in
          record { member = later.member; one = inr later.one; at = later.at }
    ]

-- who outlives a bridge does not hang up
pub survivors_stay : (named : Members) (s : Switch) (one : ℕ × After) →
    IsOneOf one (closure_of (world_of s) (living_of s named)).survivors → hangs_up one.0 named s ≡ false
survivors_stay named s one is =
    let w : World = world_of s in
    let members : Members = members_of w (living_of s named) in
    let told : IsTold (survivor_of w members) one members =
    one_told (survivor_of w members) one members (one_in_order one (filter_map (survivor_of w members) members) is) in
    same_members named s one.0 ∙ (left_case members one (left_by w told.by) told.told).1

-- ---- whoever is dragged, where some that are named may not live

-- those that are named count as live
abbrev counted : World → Members → World
counted w named = record w { live = λ slot. w.live slot || has_slot slot named }

-- they join no round, since they are members, so the same hang up
joins_same : (live named member : Bool) → (named ≡ true → member ≡ true) → ((live || named) && not member) ≡ (live && not member)
joins_same true named member are = refl
joins_same false false member are = refl
joins_same false true true are = refl
joins_same false true false are = absurd (false≢true (are refl))

rounds_same : (w : World) (named : Members) (more : ℕ) (members round : Members) →
    ((slot : ℕ) → has_slot slot named ≡ true → has_slot slot members ≡ true) →
    with_rounds (counted w named) more members round ≡ with_rounds w more members round
rounds_same w named zero members round are = refl
rounds_same w named (suc more) members round are =
    ap (λ (next : Members). with_rounds (counted w named) more (members ++ next) next)
    (ap (λ (joins : Member → Bool). in_order (filter joins (flat_map (drags w) round)))
    (fun_ext (λ (m : Member). joins_same (w.live m.0) (has_slot m.0 named) (has_slot m.0 members) (are m.0))))
    ∙ rounds_same w named more (members ++ round_after w members round) (round_after w members round)
    (λ slot is. has_front slot members (round_after w members round) (are slot is))

counted_same : (w : World) (named : Members) → members_of (counted w named) named ≡ members_of w named
unfolding members_of
counted_same w named = rounds_same w named w.slots (in_order named) (in_order named) (λ slot is. has_order slot [] named ∙ is)

-- those that are named are in slots that there are
abbrev pub InSlots : World → Members → Type 0
InSlots w named = (m : Member) → IsOneOf m named → IsSlot w m.0

-- whoever lives and is dragged hangs up
dragged_too : (w : World) (named : Members) (m : Member) → AreSlots w → InSlots w named → IsDragged w (members_of w named) m →
    w.live m.0 ≡ true → has_slot m.0 (members_of w named) ≡ true
dragged_too w named m slots within dragged live =
    ap (has_slot m.0) (sym (counted_same w named))
    ∙ dragged_hang_up (counted w named) named m there
    (all_from_one (λ (n : Member). (counted w named).live n.0 ≡ true) named
    (λ n one. or_right (w.live n.0) (has_slot n.0 named) (one_stands n named one)))
    (record {
      by = dragged.by;
      member = subst (λ (all : Members). IsOneOf dragged.by all) (sym (counted_same w named)) dragged.member;
      dragged = dragged.dragged;
    })
    (or_left (w.live m.0) (has_slot m.0 named) live)
  where
    there : AreSlots (counted w named)
    there slot is =
        elim (or_cases (w.live slot) (has_slot slot named) is) [
          | inl lives ↦ let its = slots slot lives in record { first = its.first; last = its.last }
          | inr names ↦
              let has : HasMember slot named = has_member slot named names in
              let its : IsSlot w slot = subst (IsSlot w) has.at (within has.member has.one) in
              record { first = its.first; last = its.last }
        ]

-- the other end of a loopback channel hangs up with it, if it lives
pub partner_drops : (w : World) (named : Members) (slot partner : ℕ) → AreSlots w → InSlots w named → w.partner slot ≡ Some partner →
    w.live partner ≡ true → has_slot slot (closure_of w named).members ≡ true → has_slot partner (closure_of w named).members ≡ true
partner_drops w named slot partner slots within names live is =
    let m : HasMember slot (members_of w named) =
    has_member slot (members_of w named) (sym (has_order slot [] (members_of w named)) ∙ is) in
    let dragged : by_partner w m.member ≡ (partner, m.member.1) ∷ [] =
    ap (λ (found : Option ℕ). option_to_list (option_map (λ other. (other, m.member.1)) found)) (ap w.partner m.at ∙ names) in
    has_order partner [] (members_of w named)
    ∙ dragged_too w named (partner, m.member.1) slots within
    (record {
      by = m.member;
      member = m.one;
      dragged =
          one_front (partner, m.member.1) (by_partner w m.member) (by_origination w m.member ++ by_peer w m.member)
          (subst (λ (all : Members). IsOneOf (partner, m.member.1) all) (sym dragged) (inl refl));
    }) live

pub partner_hangs_up : (named : Members) (s : Switch) (slot partner : ℕ) → NoneAtZero s → (world_of s).partner slot ≡ Some partner →
    lives_at s partner ≡ true → hangs_up slot named s ≡ true → hangs_up partner named s ≡ true
partner_hangs_up named s slot partner empty names live is =
    partner_drops (world_of s) (living_of s named) slot partner (are_slots s empty)
    (λ m one. are_slots s empty m.0
    (one_of_all (λ (n : Member). lives_at s n.0 ≡ true) (living_of s named) (filter_passes (λ n. lives_at s n.0) named) m one))
    names live is
