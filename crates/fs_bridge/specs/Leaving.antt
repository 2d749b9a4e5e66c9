-- What it comes to that channels hang up, or leave their bridges and live on.
use Rattle.std.specs.Prelude.{ℕ, ◌==◌, nat_lt, Bool, not, if◌then◌else◌, List, [], ◌++◌, filter, fold, filter_map, count_by, insert}
use Rattle.std.specs.Prelude.{Option, None, Some}
use Rattle.std.specs.List.{list_any}
use Rattle.fs_text.specs.declared.causes.Cause.{Cause}
use Rattle.fs_text.specs.declared.causes.Cause.TheVariants.{NormalClearing}
use Rattle.fs_bridge.specs.declared.row.Row.{Row}
use Rattle.fs_bridge.specs.declared.after.After.{After}
use Rattle.fs_bridge.specs.Bridges.{has_leg}
use Rattle.fs_bridge.specs.Worlds.{World}
use Rattle.fs_bridge.specs.Orders.{has_slot, placed}
use Rattle.fs_bridge.specs.Closure.{Member, Members, Ends, left_by, hung, has_ended, closure_of}

-- who leaves a bridge and lives on, with the cause of which that bridge ends: a normal clearing
abbrev pub leaver : ℕ → Member
leaver slot = (slot, NormalClearing)

-- it is one of these slots
abbrev pub is_among : ℕ → List ℕ → Bool
is_among slot slots = list_any (λ other. other == slot) slots

-- ---- the bridges that are left

-- with a bridge that is left, if there is one that has not ended yet, behind those of lesser numbers
abbrev pub with_parted : List (Row × Cause) → Option Row → List (Row × Cause)
with_parted parted None = parted
with_parted parted (Some row) =
    if has_ended row.caller parted
    then parted
    else insert parted (count_by (λ end. nat_lt end.0.number row.number) parted) (row, NormalClearing)

-- the bridges of those who leave, in order of their numbers, each with the cause of its end
abbrev pub parted_of : World → List ℕ → List (Row × Cause)
parted_of w left = fold (λ parted slot. with_parted parted (w.row slot)) [] left

-- one of those who leave is a leg of it
abbrev pub is_left : List ℕ → Row → Bool
is_left left row = list_any (λ slot. has_leg slot row) left

-- a bridge, if there is one that nobody leaves
abbrev pub unless_left : List ℕ → Option Row → Option Row
unless_left left None = None
unless_left left (Some row) = if is_left left row then None else Some row

-- the channels of a switch, once the bridges that are left have ended
abbrev pub parted_world : World → List ℕ → World
parted_world w left = record w { row = λ slot. unless_left left (w.row slot) }

-- ---- who is left

-- a channel, if there is one, with what it does, that does not leave, too
abbrev pub unless_leaving : List ℕ → Option (ℕ × After) → Option (ℕ × After)
unless_leaving left None = None
unless_leaving left (Some other) = if is_among other.0 left then None else Some other

-- the other leg of the bridge of one who leaves, and what it does, where that does not leave, too
abbrev pub left_behind : World → List ℕ → ℕ → Option (ℕ × After)
left_behind w left slot = unless_leaving left (left_by w (leaver slot))

-- all of these
abbrev pub all_left : World → List ℕ → List (ℕ × After)
all_left w left = filter_map (left_behind w left) left

-- ---- who hangs up

-- round 0: those that are named, and those who are left and do not outlive it
abbrev pub first_round : World → Members → List ℕ → Members
first_round w first left = first ++ filter_map hung (all_left w left)

-- who is left outlives its bridge, too, unless it hangs up
abbrev pub with_survivors : List (ℕ × After) → Ends → Ends
with_survivors others ends =
    record ends { survivors = fold placed ends.survivors (filter (λ s. not (has_slot s.0 ends.members)) others) }

-- what comes of those that are named, and of those who are left: the hangup of round 0, where the bridges that are left have ended and drag
-- nobody, and beside it those who are left and stay
abbrev pub ends_with : World → Members → List ℕ → Ends
ends_with w first left = with_survivors (all_left w left) (closure_of (parted_world w left) (first_round w first left))

-- ---- who leaves and lives on

-- with one more slot, behind lesser ones; nothing more where it is there
abbrev pub with_slot : List ℕ → ℕ → List ℕ
with_slot slots slot =
    if is_among slot slots then slots else insert slots (count_by (λ other. nat_lt other slot) slots) slot

-- those who leave and do not hang up by it, in order of slots
abbrev pub leavers_of : List ℕ → Members → List ℕ
leavers_of left members = fold with_slot [] (filter (λ slot. not (has_slot slot members)) left)

-- ---- all of it

-- what it comes to that some hang up, or leave
pub record LeavingEnds : Type 0 where
  -- the bridges that end as they are left, and of which cause, in order of their numbers
  pub parted : List (Row × Cause)
  -- who hangs up, which bridges end by that, and who outlives a bridge of either kind
  pub ends : Ends
  -- who leaves and lives on, in order of slots
  pub leavers : List ℕ

-- what it comes to that those of the first list hang up, and those of the second leave
abbrev pub closure_of_leaving : World → Members → List ℕ → LeavingEnds
closure_of_leaving w first left = record {
  parted = parted_of w left;
  ends = ends_with w first left;
  leavers = leavers_of left (ends_with w first left).members;
}
