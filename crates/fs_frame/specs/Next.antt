-- What the buffer answers when it is asked for the next block.
use Rattle.std.specs.Prelude.{◌≡◌, ℕ, List, ◌++◌, Option, None, Some}
use Rattle.fs_frame.specs.Block.{IsBlock, fault_of}
use Rattle.fs_frame.specs.Blocks.{HasNoBlock}
use Rattle.fs_frame.specs.Stream.{Stream, after_next_block}
use Rattle.fs_frame.specs.declared.block.Block.{Block as LentBlock}
use Rattle.fs_frame.specs.declared.fault.Fault.{Fault}
use Rattle.fs_frame.specs.declared.fault.Fault.TheVariants as faults
use Rattle.fs_frame.specs.declared.next.Next.{Next}
use Rattle.fs_frame.specs.declared.next.Next.TheVariants.{Block, NeedMore, TooLong, BadLength}

-- the bytes of a block that is lent
abbrev pub bytes_of : LentBlock → List ℕ
bytes_of block = block.bytes.now

-- the block stood in front of the stream, which goes on behind it
pub record HandsOut (old new : Stream) (block : List ℕ) : Type 0 where
  pub is_block : IsBlock block
  pub rest : old.rest ≡ block ++ new.rest

-- no block stood in front of the stream, and none of it is lost
pub record HandsOutNothing (old new : Stream) : Type 0 where
  pub no_block : HasNoBlock old.rest
  pub rest : new.rest ≡ old.rest

-- nothing is handed out, for this fault or for none
abbrev pub IsNextNone : Stream → Option Fault → Type 0
IsNextNone s fault = HandsOutNothing s (after_next_block s) × (fault_of s.rest ≡ fault)

-- the answer where the stream stands so: the block in front, or else why none can come, or that one still may
abbrev pub IsNext : Stream → Next → Type 0
IsNext s (Block block) = HandsOut s (after_next_block s) (bytes_of block)
IsNext s NeedMore = IsNextNone s None
IsNext s (TooLong len) = IsNextNone s (Some (faults.TooLong len))
IsNext s BadLength = IsNextNone s (Some faults.BadLength)
