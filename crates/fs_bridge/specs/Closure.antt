-- What a hangup drags along, in rounds.
use Rattle.std.specs.Prelude.{◌≡◌, ℕ, zero, suc, ◌==◌, eqb, Bool, true, not, ◌&&◌, if◌then◌else◌, List, [], ◌∷◌, ◌++◌, map, filter}
use Rattle.std.specs.Prelude.{fold, flat_map, filter_map, Option, None, Some, option_map, option_and_then, option_to_list, All}
use Rattle.std.specs.List.{IsDistinct, list_any}
use Rattle.fs_text.specs.declared.causes.Cause.{Cause}
use Rattle.fs_text.specs.declared.causes.Cause.TheVariants.{OriginatorCancel}
use Rattle.fs_bridge.specs.declared.row.Row.{Row}
use Rattle.fs_bridge.specs.declared.after.After.{After}
use Rattle.fs_bridge.specs.declared.after.After.TheVariants.{GoOn, Hangup, Park}
use Rattle.fs_bridge.specs.After.{after_bridge}
use Rattle.fs_bridge.specs.Worlds.{World}
use Rattle.fs_bridge.specs.Orders.{has_slot, in_order}

-- a slot whose channel hangs up, and its cause
abbrev pub Member : Type 0
Member = ℕ × Cause

abbrev pub Members : Type 0
Members = List Member

-- those that are named: they live, and no two are in one slot
pub record AreNamed (w : World) (named : Members) : Type 0 where
  pub live : All (λ m. w.live m.0 ≡ true) named
  pub differ : IsDistinct eqb (map (λ m. m.0) named)

-- ---- what a member drags

-- its partner, with its cause
abbrev pub by_partner : World → Member → Members
by_partner w m = option_to_list (option_map (λ slot. (slot, m.1)) (w.partner m.0))

-- a leg whose origination is given up
abbrev pub cancelled : ℕ → Member
cancelled slot = (slot, OriginatorCancel)

-- the living legs of the origination that a slot owns
abbrev pub cancelled_legs : World → ℕ → Members
cancelled_legs w slot = map cancelled (w.legs slot)

-- the living legs of its origination
abbrev pub by_origination : World → Member → Members
by_origination w m = cancelled_legs w m.0

-- the other leg of a bridge
abbrev pub peer_in : Row → ℕ → ℕ
peer_in row slot = if row.caller == slot then row.answerer else row.caller

-- what the other leg of its bridge does, by that leg's variables, when it dies
abbrev pub left_in : World → Member → Row → Option (ℕ × After)
left_in w m row =
    option_map (λ vars. (peer_in row m.0, after_bridge row (peer_in row m.0) vars m.1)) (w.vars (peer_in row m.0))

-- its peer, and what that does when it dies
abbrev pub left_by : World → Member → Option (ℕ × After)
left_by w m = option_and_then (left_in w m) (w.row m.0)

-- the cause of which it hangs up
abbrev pub hangup_cause : After → Option Cause
hangup_cause (Hangup cause) = Some cause
hangup_cause GoOn = None
hangup_cause Park = None

-- it is a member, where it hangs up
abbrev pub hung : ℕ × After → Option Member
hung left = option_map (λ cause. (left.0, cause)) (hangup_cause left.1)

-- its peer, where that hangs up, too
abbrev pub by_peer : World → Member → Members
by_peer w m = option_to_list (option_and_then hung (left_by w m))

-- all that it drags, in the order in which its ways count
abbrev pub drags : World → Member → Members
drags w m = by_partner w m ++ (by_origination w m ++ by_peer w m)

-- ---- the rounds

-- it lives, and is no member yet
abbrev pub may_join : World → Members → Member → Bool
may_join w members m = w.live m.0 && not (has_slot m.0 members)

-- the next round: who is dragged by this round, lives and is no member yet, in order of slots. This round is in order
-- of slots, too, so the first that drags a channel is the one in the least slot.
abbrev pub round_after : World → Members → Members → Members
round_after w members round = in_order (filter (may_join w members) (flat_map (drags w) round))

-- the members and those of so many further rounds
abbrev pub with_rounds : World → ℕ → Members → Members → Members
with_rounds w zero members round = members
with_rounds w (suc more) members round =
    with_rounds w more (members ++ round_after w members round) (round_after w members round)

-- all members, round by round. There are no more rounds than slots, since each has someone who was no member yet.
unfoldable pub members_of : World → Members → Members
members_of w named = with_rounds w w.slots (in_order named) (in_order named)

-- ---- what becomes of bridges

-- one of these bridges is that of the caller
abbrev pub has_ended : ℕ → List (Row × Cause) → Bool
has_ended caller ended = list_any (λ e. e.0.caller == caller) ended

-- with a bridge that ends of a cause, if there is one that has not ended yet
abbrev pub with_end : Cause → List (Row × Cause) → Option Row → List (Row × Cause)
with_end cause ended None = ended
with_end cause ended (Some row) = if has_ended row.caller ended then ended else ended ++ (row, cause) ∷ []

-- with the bridge of one more member
abbrev pub ended_by : World → List (Row × Cause) → Member → List (Row × Cause)
ended_by w ended m = with_end m.1 ended (w.row m.0)

-- the bridges of the members, in the order in which they end, each with the cause of the leg that died first
abbrev pub ended_of : World → Members → List (Row × Cause)
ended_of w members = fold (ended_by w) [] members

-- the peer of a member, if it is none itself
abbrev pub survivor_of : World → Members → Member → Option (ℕ × After)
survivor_of w members m =
    option_and_then (λ left. if has_slot left.0 members then None else Some left) (left_by w m)

-- the peers that are no members, in order of slots
abbrev pub survivors_of : World → Members → List (ℕ × After)
survivors_of w members = in_order (filter_map (survivor_of w members) members)

-- what a hangup comes to
pub record Ends : Type 0 where
  -- who hangs up, and of which cause, in order of slots
  pub members : Members
  -- the bridges that end, and of which cause, in the order in which they end
  pub ended : List (Row × Cause)
  -- who outlives a bridge, and what it does, in order of slots
  pub survivors : List (ℕ × After)

-- what these members come to
abbrev pub ends_of : World → Members → Ends
ends_of w members =
    record { members = in_order members; ended = ended_of w members; survivors = survivors_of w members }

-- what the hangup of those that are named comes to
abbrev pub closure_of : World → Members → Ends
closure_of w named = ends_of w (members_of w named)
