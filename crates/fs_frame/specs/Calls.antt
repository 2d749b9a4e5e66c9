-- What a buffer answers over a whole list of calls.
use Rattle.std.specs.Prelude.{◌≡◌, ℕ, List, [], ◌∷◌, ◌++◌, ⊤, Option, None, Some}
use Rattle.fs_frame.specs.Block.{fault_of}
use Rattle.fs_frame.specs.Blocks.{blocks_of, rest_of}
use Rattle.fs_frame.specs.Stream.{Stream, new_stream, fed_with, after_next_block}
use Rattle.fs_frame.specs.Next.{IsNext, bytes_of}
use Rattle.fs_frame.specs.declared.fault.Fault.{Fault}
use Rattle.fs_frame.specs.declared.fault.Fault.TheVariants as faults
use Rattle.fs_frame.specs.declared.next.Next.{Next}
use Rattle.fs_frame.specs.declared.next.Next.TheVariants.{Block, NeedMore, TooLong, BadLength}

-- a call on the buffer: a piece was fed, or the next block was asked for and this was the answer
pub data Call : Type 0 where
  fed : List ℕ → Call
  asked : Next → Call

-- the answers are those of a buffer that stands so before the first of the calls
abbrev pub AreAnsweredFrom : Stream → List Call → Type 0
AreAnsweredFrom s [] = ⊤
AreAnsweredFrom s (fed piece ∷ calls) = AreAnsweredFrom (fed_with s piece) calls
AreAnsweredFrom s (asked next ∷ calls) = IsNext s next × AreAnsweredFrom (after_next_block s) calls

-- the answers are those of a new buffer
abbrev pub AreAnswered : List Call → Type 0
AreAnswered calls = AreAnsweredFrom new_stream calls

-- all that was fed
abbrev pub stream_of : List Call → List ℕ
stream_of [] = []
stream_of (fed piece ∷ calls) = piece ++ stream_of calls
stream_of (asked next ∷ calls) = stream_of calls

-- the block that an answer hands out
abbrev pub block_in : Next → List (List ℕ)
block_in (Block block) = bytes_of block ∷ []
block_in NeedMore = []
block_in (TooLong len) = []
block_in BadLength = []

-- the blocks that were handed out
abbrev pub blocks_in : List Call → List (List ℕ)
blocks_in [] = []
blocks_in (fed piece ∷ calls) = blocks_in calls
blocks_in (asked next ∷ calls) = block_in next ++ blocks_in calls

-- the blocks come first among those of the stream
abbrev pub ComeFirst : List (List ℕ) → List ℕ → Type 0
ComeFirst blocks stream = (more : List (List ℕ)) × (blocks_of stream ≡ blocks ++ more)

-- the blocks are all of the stream, and what is wrong with its rest is as said
abbrev pub IsUsedUp : List (List ℕ) → List ℕ → Option Fault → Type 0
IsUsedUp blocks stream fault = (blocks_of stream ≡ blocks) × (fault_of (rest_of stream) ≡ fault)

-- the answer that follows when these blocks of the stream were handed out
abbrev pub Follows : List (List ℕ) → List ℕ → Next → Type 0
Follows blocks stream (Block block) = ComeFirst (blocks ++ bytes_of block ∷ []) stream
Follows blocks stream NeedMore = IsUsedUp blocks stream None
Follows blocks stream (TooLong len) = IsUsedUp blocks stream (Some (faults.TooLong len))
Follows blocks stream BadLength = IsUsedUp blocks stream (Some faults.BadLength)

-- the answer for this fault
abbrev pub answer_for : Fault → Next
answer_for (faults.TooLong len) = TooLong len
answer_for faults.BadLength = BadLength

-- each answer is this one
abbrev pub AlwaysAnswered : Next → List Call → Type 0
AlwaysAnswered next [] = ⊤
AlwaysAnswered next (fed piece ∷ calls) = AlwaysAnswered next calls
AlwaysAnswered next (asked again ∷ calls) = (again ≡ next) × AlwaysAnswered next calls
