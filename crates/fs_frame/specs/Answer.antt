-- From what was taken from the front of a buffer to the answer.
use Rattle.std.specs.Prelude.{◌≡◌, List, ℕ, ⊤, None, Some}
use Rattle.fs_frame.specs.Block.{front_of, fault_of}
use Rattle.fs_frame.specs.Next.{bytes_of}
use Rattle.fs_frame.specs.Calls.{answer_for}
use Rattle.fs_frame.specs.Front.{IsCommandAt}
use Rattle.fs_frame.specs.declared.front.Taken.{Taken}
use Rattle.fs_frame.specs.declared.front.Taken.TheVariants.{Whole, Nothing, Spoilt}
use Rattle.fs_frame.specs.declared.next.Next.{Next}
use Rattle.fs_frame.specs.declared.next.Next.TheVariants.{Block, NeedMore, TooLong, BadLength}

-- what was taken from the front of the bytes: their block, which has its command line there
abbrev pub IsTaken : List ℕ → Taken → Type 0
IsTaken bytes (Whole command) = (block : List ℕ) × (front_of bytes ≡ Some block) × IsCommandAt block command
IsTaken bytes Nothing = (front_of bytes ≡ None) × (fault_of bytes ≡ None)
IsTaken bytes (Spoilt fault) = fault_of bytes ≡ Some fault

-- the block that was taken has its command line there
abbrev pub HasCommand : List ℕ → Taken → Type 0
HasCommand block (Whole command) = IsCommandAt block command
HasCommand block Nothing = ⊤
HasCommand block (Spoilt fault) = ⊤

-- a block with these bytes is lent
abbrev pub LendsBytes : List ℕ → Next → Type 0
LendsBytes bytes (Block block) = bytes_of block ≡ bytes
LendsBytes bytes NeedMore = ⊥
LendsBytes bytes (TooLong len) = ⊥
LendsBytes bytes BadLength = ⊥

-- the answer for what was taken, where this is the block handed out last
abbrev pub IsAnswer : List ℕ → Taken → Next → Type 0
IsAnswer last (Whole command) next = LendsBytes last next
IsAnswer last Nothing next = next ≡ NeedMore
IsAnswer last (Spoilt fault) next = next ≡ answer_for fault
