-- What happens to channels and to originations draws no number of a bridge; two that are joined draw one.
use Rattle.std.proofs.Common.{◌≡◌, ℕ, ◌+◌, Bool, true, false, List, [], ◌∷◌, Option, None, Some, option_and_then, refl, ◌∙◌}
use Rattle.fs_text.specs.Cause.{cause_name}
use Rattle.fs_text.specs.declared.causes.Cause.{Cause}
use Rattle.fs_bridge.specs.declared.row.BridgeKind.{BridgeKind}
use Rattle.fs_bridge.specs.Closure.{Members}
use Rattle.fs_chan.specs.declared.chan.Chan.{Chan}
use Rattle.fs_chan.specs.Bridging.{awaiting, awaited_by, bridged, at_leisure, exported_pairs}
use Rattle.fs_chan.specs.Changes.{at_rest}
use Rattle.fs_orig.specs.declared.caller.Caller.{Caller}
use Rattle.fs_orig.specs.declared.orig.Orig.{Orig}
use Rattle.fs_orig.specs.declared.orig.Owner.TheVariants as owner
use Rattle.fs_orig.specs.declared.plan.LegPlan.{LegPlan}
use Rattle.fs_orig.specs.declared.winner.Winner.{Winner}
use Rattle.fs_orig.specs.Changes.{with_answer, at_next_group}
use Rattle.fs_orig.specs.Plans.{all_behind}
use Rattle.fs_state.specs.Switch.{Switch, chan_at, with_bridge, orig_of, next_orig_number}
use Rattle.fs_state.specs.Moves.{after_move, with_changed_chan, orig_changed_from, orig_changed, leg_changed, orig_given_up}
use Rattle.fs_state.specs.Hangups.{after_hangups}
use Rattle.fs_state.specs.Bridging.{peer_of, with_peer_from, with_peer, joined_as}
use Rattle.fs_machine.specs.declared.call.Call.{Call}
use Rattle.fs_machine.specs.Originations.{leg_end, pair_made, MadeGroup, group_made, won_by, after_winning}
use Rattle.fs_machine.specs.Attempts.{first_group, orig_begun, with_group}
use Rattle.fs_machine.specs.Bridging.{caller_of, group_dialed, goes_on, after_going_on, bridge_failed_from, after_bridge_failure, disposed}
use Rattle.fs_machine.specs.Dialing.{tried_by_slot}
use Rattle.fs_state.specs.Leaving.{after_bridges_left}
use Rattle.fs_machine.specs.Joining.{after_leaving, after_departures}
use Rattle.fs_machine.proofs.Kept.{KeptByTouches, KeptByBirths}
use Rattle.fs_machine.proofs.LeaveLemmas.{departed_kept}
use Rattle.fs_machine.proofs.NameLemmas.{leg_by}
use Rattle.fs_machine.proofs.StayLemmas.{moved_there, changed_there}
use Rattle.fs_machine.proofs.HangLemmas.{dies, hangups_kept, given_up_kept, bridges_left_kept}
use Rattle.fs_machine.proofs.Walk.{disposed_kept, group_made_kept}

-- as many numbers of bridges were drawn
abbrev pub SameDrawn : Switch → Switch → Type 0
SameDrawn s t = t.bridges.drawn ≡ s.bridges.drawn

-- ---- single moves

pub orig_changed_drawn : (change : Orig → Orig) (number : ℕ) (s : Switch) → SameDrawn s (orig_changed change number s)
orig_changed_drawn change number s = by (orig_of s number)
  where
    by : (orig : Option Orig) → SameDrawn s (orig_changed_from change number orig s)
    by None = refl
    by (Some o) = refl

pub moved_drawn : (change : Chan → Chan) (slot : ℕ) (s : Switch) → SameDrawn s (after_move change slot s)
moved_drawn change slot s = moved_there (λ (t : Switch). SameDrawn s t) (λ event t h. h) change slot s (λ c is. refl) refl

changed_drawn : (change : Chan → Chan) (slot : ℕ) (s : Switch) → SameDrawn s (with_changed_chan change slot s)
changed_drawn change slot s = changed_there (λ (t : Switch). SameDrawn s t) change slot s (λ c is. refl) refl

pub hung_drawn : (named : Members) (s : Switch) → SameDrawn s (after_hangups named s)
hung_drawn named s =
    hangups_kept named s (λ (t : Switch). SameDrawn s t) (λ event t h. h) (λ slot old new t is falls h. h) (λ number t h. h)
    (λ cause seat leg number t h. orig_changed_drawn (dies cause seat leg) number t ∙ h) (λ number t h. h) refl

given_up_drawn : (slot : ℕ) (awaited : Option ℕ) (s : Switch) → SameDrawn s (orig_given_up slot awaited s)
given_up_drawn slot awaited s = given_up_kept (λ (t : Switch). SameDrawn s t) (λ number t h. h) slot awaited s refl

left_drawn : (slot : ℕ) (s : Switch) → SameDrawn s (after_leaving slot s)
left_drawn slot s =
    let awaited : Option ℕ = option_and_then awaited_by (chan_at s slot) in
    changed_drawn at_leisure slot (orig_given_up slot awaited s) ∙ given_up_drawn slot awaited s

bridges_left_drawn : (slots : List ℕ) (s : Switch) → SameDrawn s (after_bridges_left slots s)
bridges_left_drawn slots s =
    bridges_left_kept slots s (λ (t : Switch). SameDrawn s t) (λ event t h. h) (λ slot old new t is falls h. h) (λ number t h. h)
    (λ cause seat leg number t h. orig_changed_drawn (dies cause seat leg) number t ∙ h) (λ number t h. h) refl

pub departed_drawn : (slots : List ℕ) (s : Switch) → SameDrawn s (after_departures slots s)
departed_drawn slots s =
    departed_kept (λ (t : Switch). SameDrawn s t) (λ event t h. h) (λ at t h. left_drawn at t ∙ h) (λ named t h. hung_drawn named t ∙ h)
    (λ all t h. bridges_left_drawn all t ∙ h) slots s refl

pub won_drawn : (winner : Winner) (slot : ℕ) (s : Switch) → SameDrawn s (after_winning winner slot s)
unfolding after_winning
won_drawn winner slot s = moved_drawn (won_by winner) slot s

-- ---- two are joined

peer_drawn : (slot other : ℕ) (s : Switch) → SameDrawn s (with_peer slot other s)
peer_drawn slot other s = by (chan_at s other)
  where
    by : (found : Option Chan) → SameDrawn s (with_peer_from slot other found s)
    by None = refl
    by (Some c) = changed_drawn (bridged (peer_of other c)) slot s

-- a number is drawn
pub joined_drawn : (kind : BridgeKind) (caller answerer : ℕ) (s : Switch) →
    (joined_as kind caller answerer s).bridges.drawn ≡ s.bridges.drawn + 1
joined_drawn kind caller answerer s =
    let t : Switch = with_bridge caller answerer kind s in
    peer_drawn answerer caller (with_peer caller answerer t) ∙ peer_drawn caller answerer t

-- ---- what happens to a channel, and leaves it what it is to others

pub drawn_touches : (s : Switch) → KeptByTouches (λ b t. SameDrawn s t)
drawn_touches s = record {
  told = λ event plain h. h;
  globals = λ globals h. h;
  changed = λ slot old new there stays h. h;
  answers = λ seat slot number {s = t} h. orig_changed_drawn (leg_changed (λ position. with_answer position seat) slot) number t ∙ h;
}

-- a channel has failed to bridge
pub failure_drawn : (cause : Cause) (slot : ℕ) (s : Switch) → SameDrawn s (after_bridge_failure cause slot s)
unfolding after_bridge_failure
failure_drawn cause slot s = by (chan_at s slot)
  where
    t : Switch
    t = disposed (cause_name cause) slot s

    told : SameDrawn s t
    told = disposed_kept (λ b u. SameDrawn s u) (drawn_touches s) (cause_name cause) slot {b = None} {s = s} refl

    on : (onward : Bool) → SameDrawn s (after_going_on onward cause slot t)
    on true = moved_drawn at_rest slot t ∙ told
    on false = hung_drawn ((slot, cause) ∷ []) t ∙ told

    by : (found : Option Chan) → SameDrawn s (bridge_failed_from found cause slot s)
    by None = refl
    by (Some c) = on (goes_on cause c.vars)

-- ---- the legs of a group are made

pub pair_drawn : (call : Call) (orig a b : ℕ) (s : Switch) → SameDrawn s (pair_made call orig a b s)
pair_drawn call orig a b s = leg_by (λ (t : Switch). SameDrawn s t) call.uuid call (leg_end orig a b) s refl (λ own. refl)

drawn_births : (s : Switch) → KeptByBirths (λ b t. SameDrawn s t)
drawn_births s = record {
  spent = λ h. h;
  pair = λ call orig a b {s = t} short named first second h. pair_drawn call orig a b t ∙ h;
}

group_made_drawn : (plans : List LegPlan) (caller : Caller) (orig : ℕ) (s : Switch) → SameDrawn s (group_made plans caller orig s).state
group_made_drawn plans caller orig s =
    group_made_kept (λ b t. SameDrawn s t) (drawn_births s) plans caller orig {s = s} refl

-- and an origination comes to them
pub regrouped_drawn : (number : ℕ) (plans : List LegPlan) (caller : Caller) (s : Switch) →
    SameDrawn s (with_group number (group_made plans caller number s))
regrouped_drawn number plans caller s =
    let made : MadeGroup = group_made plans caller number s in
    orig_changed_drawn (at_next_group made.legs) number made.state ∙ group_made_drawn plans caller number s

-- a channel dials them
pub dialed_drawn : (slot : ℕ) (c : Chan) (groups : List (List LegPlan)) (timeout : ℕ) (s : Switch) →
    SameDrawn s (tried_by_slot slot groups timeout (next_orig_number s) (group_dialed (Some c) (first_group groups) (next_orig_number s) s))
dialed_drawn slot c groups timeout s =
    let plans : List LegPlan = all_behind (exported_pairs c.vars) (first_group groups) in
    let made : MadeGroup = group_made plans (caller_of c) (next_orig_number s) s in
    moved_drawn (awaiting (next_orig_number s)) slot (orig_begun (owner.Slot slot) groups made.legs timeout made.state)
    ∙ group_made_drawn plans (caller_of c) (next_orig_number s) s
