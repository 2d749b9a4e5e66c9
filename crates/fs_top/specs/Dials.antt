-- Dials in vain: how many entries tell of one, and how many a dialer counts.
use Rattle.std.specs.Prelude.{◌≡◌, ◌⊎◌, ℕ, ◌+◌, ◌≤◌, ◌==◌, ◌&&◌, not, if◌then◌else◌, Bool, false, List, Option, None, Some, slice_get, count_by}
use Prim.Native.Nat.{suc}
use Rattle.fs_book.specs.Counts.{total}
use Rattle.fs_machine.specs.declared.entry.Entry.{Entry}
use Rattle.fs_machine.specs.declared.entry.Act.{Act}
use Rattle.fs_machine.specs.declared.entry.Act.TheVariants.{Dialed}

-- an entry tells that there is no link to the controller for whom the channel in a slot waits
abbrev pub tells_in_vain : ℕ → Act → Bool
tells_in_vain slot (Dialed other linked) = (other == slot) && not linked
tells_in_vain slot _ = false

abbrev pub is_in_vain : ℕ → Entry → Bool
is_in_vain slot entry = tells_in_vain slot entry.act

-- so many entries of a journal do
abbrev pub vain_dials : ℕ → List Entry → ℕ
vain_dials slot journal = count_by (is_in_vain slot) journal

-- what is found at a place meets a test, or does not
abbrev pub found_by : {E : Type 0} → (E → Bool) → Option E → ℕ
found_by test None = 0
found_by test (Some entry) = if test entry then 1 else 0

-- so many of what stands at the places of these lists do
abbrev pub count_at : {E : Type 0} → (E → Bool) → List E → List (List ℕ) → ℕ
count_at test seen lists = total (total (λ place. found_by test (slice_get seen place))) lists

-- so many entries at these places tell of a dial in vain
abbrev pub vain_in : ℕ → List Entry → List (List ℕ) → ℕ
vain_in slot seen lists = count_at (is_in_vain slot) seen lists

-- so many dials may have failed while a count went from one number to another; one that has no room left counts as risen
abbrev pub HasRisen : ℕ → ℕ → ℕ → Type 0
HasRisen times old new = (old + times ≤ new) ⊎ (18446744073709551615 ≤ new)

-- the same where there is a count, and none failed where there is none
abbrev pub IsBounded : ℕ → ℕ → Option ℕ → Type 0
IsBounded vain old None = vain ≡ 0
IsBounded vain old (Some new) = HasRisen vain old new

-- Of each slot, from 1 on, at most as many entries tell of a dial in vain as the count of its dialer has risen; the counts are in the order of
-- the slots, and none tells so of a slot that has no dialer.
abbrev pub AreBounded : (ℕ → ℕ) → ℕ → List ℕ → Type 0
AreBounded vain old counts = (slot : ℕ) → IsBounded (vain (suc slot)) old (slice_get counts slot)
