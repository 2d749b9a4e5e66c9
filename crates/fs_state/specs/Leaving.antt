-- How channels leave their bridges, and the legs that they dial, and live on.
use Rattle.std.specs.Prelude.{ℕ, List, [], filter, fold, flat_map}
use Rattle.fs_text.specs.declared.causes.Cause.TheVariants.{OriginatorCancel}
use Rattle.fs_bridge.specs.Leaving.{LeavingEnds, closure_of_leaving}
use Rattle.fs_state.specs.Switch.{Switch, with_event}
use Rattle.fs_state.specs.Hangups.{Ended, lives_at, world_of, legs_at, unbridge_event, after_end, after_closure, after_hangups_for}

-- ---- the legs that they dial

-- the living legs that the channels in these slots dialed
abbrev pub all_legs_at : Switch → List ℕ → List ℕ
all_legs_at s slots = flat_map (legs_at s) slots

-- these are hung up, in a hangup of their own
abbrev pub after_cancelling : List ℕ → Switch → Switch
after_cancelling slots s = after_hangups_for OriginatorCancel (all_legs_at s slots) s

-- ---- their bridges

-- a bridge ends as it is left, and that is told
abbrev pub after_parting : Ended → Switch → Switch
after_parting e s = with_event (unbridge_event e) (after_end e.0 e.1 s)

-- these do, one after another
abbrev pub after_partings : List Ended → Switch → Switch
after_partings parted s = fold (λ t e. after_parting e t) s parted

-- those of some slots whose channels are live
abbrev pub living_among : Switch → List ℕ → List ℕ
living_among s slots = filter (lives_at s) slots

-- what it comes to that those of them leave who live
abbrev pub leaving_of : List ℕ → Switch → LeavingEnds
leaving_of slots s = closure_of_leaving (world_of s) [] (living_among s slots)

-- the bridges that are left end, then hang up those whom that drags along, and others outlive a bridge
abbrev pub after_leaving_ends : LeavingEnds → Switch → Switch
after_leaving_ends all s = after_closure all.ends (after_partings all.parted s)

-- those of these channels that live leave their bridges together
unfoldable pub after_bridges_left : List ℕ → Switch → Switch
after_bridges_left slots s = after_leaving_ends (leaving_of slots s) s

-- ---- both

-- the channels in these slots leave: the legs that they dialed are hung up, and then those who still live leave their bridges
abbrev pub after_leaving_others : List ℕ → Switch → Switch
after_leaving_others slots s = after_bridges_left slots (after_cancelling slots s)
