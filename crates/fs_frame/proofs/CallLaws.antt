-- What a buffer has handed out after a list of calls.
use Rattle.std.proofs.Common.{◌≡◌, ℕ, List, [], ◌∷◌, ◌++◌, Option, None, Some, refl, sym, ◌∙◌, ap, append_assoc}
use Rattle.std.proofs.lemmas.List.{append-nil}
use Rattle.std.proofs.lemmas.List.Folds.{concat-append}
use Rattle.std.specs.List.{AllByRecursion, concat}
use Rattle.fs_frame.specs.Block.{IsBlock, fault_of}
use Rattle.fs_frame.specs.Blocks.{HasNoBlock, blocks_of, rest_of}
use Rattle.fs_frame.specs.Stream.{Stream, new_stream, fed_with, after_next_block}
use Rattle.fs_frame.specs.Next.{IsNext, IsNextNone, HandsOut, HandsOutNothing, bytes_of}
use Rattle.fs_frame.specs.Calls.{Call, fed, asked, AreAnsweredFrom, AreAnswered, stream_of, blocks_in, ComeFirst, IsUsedUp, Follows}
use Rattle.fs_frame.specs.Calls.{answer_for, AlwaysAnswered}
use Rattle.fs_frame.specs.declared.fault.Fault.{Fault}
use Rattle.fs_frame.specs.declared.fault.Fault.TheVariants as faults
use Rattle.fs_frame.specs.declared.next.Next.{Next}
use Rattle.fs_frame.specs.declared.next.Next.TheVariants.{Block, NeedMore, TooLong, BadLength}
use Rattle.fs_frame.proofs.BlockLaws.{AllByRecursion-append, blocks_of-append, rest_of-append, blocks_of-no_block, rest_of-no_block}
use Rattle.fs_frame.proofs.BlockLaws.{HasNoBlock-front_of}
use Rattle.fs_frame.proofs.BodyLaws.{front_of-fault, fault_of-append}

-- these blocks of the stream were handed out, and the buffer holds what follows them
record Stands (blocks : List (List ℕ)) (stream : List ℕ) (s : Stream) : Type 0 where
  each : AllByRecursion IsBlock blocks
  whole : stream ≡ concat blocks ++ s.rest

-- the buffer after these calls
after : Stream → List Call → Stream
after s [] = s
after s (fed piece ∷ calls) = after (fed_with s piece) calls
after s (asked next ∷ calls) = after (after_next_block s) calls

Stands-fed : (blocks : List (List ℕ)) (stream : List ℕ) (s : Stream) (piece : List ℕ) → Stands blocks stream s →
    Stands blocks (stream ++ piece) (fed_with s piece)
Stands-fed blocks stream s piece stands = record {
  each = stands.each;
  whole = ap (λ (bytes : List ℕ). bytes ++ piece) stands.whole ∙ append_assoc (concat blocks) s.rest piece;
}

Stands-block : (blocks : List (List ℕ)) (stream : List ℕ) (s new : Stream) (block : List ℕ) → Stands blocks stream s →
    HandsOut s new block → Stands (blocks ++ block ∷ []) stream new
Stands-block blocks stream s new block stands out = record {
  each = AllByRecursion-append IsBlock blocks (block ∷ []) stands.each (out.is_block, tt);
  whole = rw (concat-append blocks (block ∷ []), append-nil block, append_assoc (concat blocks) block new.rest)
      (stands.whole ∙ ap (λ (bytes : List ℕ). concat blocks ++ bytes) out.rest);
}

Stands-nothing : (blocks : List (List ℕ)) (stream : List ℕ) (s new : Stream) → Stands blocks stream s → HandsOutNothing s new →
    Stands blocks stream new
Stands-nothing blocks stream s new stands out = record {
  each = stands.each;
  whole = stands.whole ∙ ap (λ (bytes : List ℕ). concat blocks ++ bytes) (sym out.rest);
}

Stands-after : (blocks : List (List ℕ)) (stream : List ℕ) (s : Stream) (calls : List Call) → Stands blocks stream s →
    AreAnsweredFrom s calls → Stands (blocks ++ blocks_in calls) (stream ++ stream_of calls) (after s calls)
unfolding after
Stands-after blocks stream s [] stands answered = rw (append-nil blocks, append-nil stream) stands
Stands-after blocks stream s (fed piece ∷ calls) stands answered =
    rw (← append_assoc stream piece (stream_of calls))
    (Stands-after blocks (stream ++ piece) (fed_with s piece) calls (Stands-fed blocks stream s piece stands) answered)
Stands-after blocks stream s (asked (Block block) ∷ calls) stands answered =
    rw (← append_assoc blocks (bytes_of block ∷ []) (blocks_in calls))
    (Stands-after (blocks ++ bytes_of block ∷ []) stream (after_next_block s) calls
    (Stands-block blocks stream s (after_next_block s) (bytes_of block) stands answered.0) answered.1)
Stands-after blocks stream s (asked NeedMore ∷ calls) stands answered =
    Stands-after blocks stream (after_next_block s) calls (Stands-nothing blocks stream s (after_next_block s) stands answered.0.0)
    answered.1
Stands-after blocks stream s (asked (TooLong len) ∷ calls) stands answered =
    Stands-after blocks stream (after_next_block s) calls (Stands-nothing blocks stream s (after_next_block s) stands answered.0.0)
    answered.1
Stands-after blocks stream s (asked BadLength ∷ calls) stands answered =
    Stands-after blocks stream (after_next_block s) calls (Stands-nothing blocks stream s (after_next_block s) stands answered.0.0)
    answered.1

Stands-calls : (calls : List Call) → AreAnswered calls → Stands (blocks_in calls) (stream_of calls) (after new_stream calls)
Stands-calls calls answered = Stands-after [] [] new_stream calls (record { each = tt; whole = refl }) answered

come_first : (blocks : List (List ℕ)) (stream : List ℕ) (s : Stream) → Stands blocks stream s → ComeFirst blocks stream
come_first blocks stream s stands = (blocks_of s.rest, ap blocks_of stands.whole ∙ blocks_of-append blocks s.rest stands.each)

rest_is : (blocks : List (List ℕ)) (stream : List ℕ) (s : Stream) → Stands blocks stream s → HasNoBlock s.rest → rest_of stream ≡ s.rest
rest_is blocks stream s stands no_block =
    ap rest_of stands.whole ∙ rest_of-append blocks s.rest stands.each ∙ rest_of-no_block s.rest no_block

used_up : (blocks : List (List ℕ)) (stream : List ℕ) (s : Stream) (fault : Option Fault) → Stands blocks stream s → IsNextNone s fault →
    IsUsedUp blocks stream fault
used_up blocks stream s fault stands is =
    let all : blocks_of stream ≡ blocks = ap blocks_of stands.whole ∙ blocks_of-append blocks s.rest stands.each
    ∙ ap (λ (more : List (List ℕ)). blocks ++ more) (blocks_of-no_block s.rest is.0.no_block) ∙ append-nil blocks in
    (all, rw (rest_is blocks stream s stands is.0.no_block) is.1)

-- the blocks handed out come first in the stream
pub ComeFirst-calls : (calls : List Call) → AreAnswered calls → ComeFirst (blocks_in calls) (stream_of calls)
ComeFirst-calls calls answered = come_first (blocks_in calls) (stream_of calls) (after new_stream calls) (Stands-calls calls answered)

answered-append : (s : Stream) (calls more : List Call) → AreAnsweredFrom s (calls ++ more) →
    AreAnsweredFrom s calls × AreAnsweredFrom (after s calls) more
unfolding after
answered-append s [] more answered = (tt, answered)
answered-append s (fed piece ∷ calls) more answered = answered-append (fed_with s piece) calls more answered
answered-append s (asked next ∷ calls) more answered =
    let behind : AreAnsweredFrom (after_next_block s) calls × AreAnsweredFrom (after (after_next_block s) calls) more =
    answered-append (after_next_block s) calls more answered.1 in
    ((answered.0, behind.0), behind.1)

follows : (blocks : List (List ℕ)) (stream : List ℕ) (s : Stream) (next : Next) → Stands blocks stream s → IsNext s next →
    Follows blocks stream next
follows blocks stream s (Block block) stands is =
    come_first (blocks ++ bytes_of block ∷ []) stream (after_next_block s)
    (Stands-block blocks stream s (after_next_block s) (bytes_of block) stands is)
follows blocks stream s NeedMore stands is = used_up blocks stream s None stands is
follows blocks stream s (TooLong len) stands is = used_up blocks stream s (Some (faults.TooLong len)) stands is
follows blocks stream s BadLength stands is = used_up blocks stream s (Some faults.BadLength) stands is

-- and each answer is the one that follows
pub Follows-calls : (calls : List Call) (next : Next) → AreAnswered (calls ++ asked next ∷ []) →
    Follows (blocks_in calls) (stream_of calls) next
Follows-calls calls next answered =
    let parts : AreAnsweredFrom new_stream calls × AreAnsweredFrom (after new_stream calls) (asked next ∷ []) =
    answered-append new_stream calls (asked next ∷ []) answered in
    follows (blocks_in calls) (stream_of calls) (after new_stream calls) next (Stands-calls calls parts.0) parts.1.0

some_fault : (a b : Fault) → Some a ≡ Some b → a ≡ b
some_fault a b is = cc

-- where something is wrong with the rest that is the answer
IsNext-fault : (s : Stream) (fault : Fault) (next : Next) → fault_of s.rest ≡ Some fault → IsNext s next → next ≡ answer_for fault
IsNext-fault s fault (Block block) wrong is =
    absurd (HasNoBlock-front_of s.rest (front_of-fault s.rest fault wrong) (bytes_of block) (after_next_block s).rest is.is_block is.rest)
IsNext-fault s fault NeedMore wrong is = let no : None ≡ Some fault = sym is.1 ∙ wrong in absurd (cc)
IsNext-fault s fault (TooLong len) wrong is = ap answer_for (some_fault (faults.TooLong len) fault (sym is.1 ∙ wrong))
IsNext-fault s fault BadLength wrong is = ap answer_for (some_fault faults.BadLength fault (sym is.1 ∙ wrong))

rest-fault : (s : Stream) (fault : Fault) → fault_of s.rest ≡ Some fault → (after_next_block s).rest ≡ s.rest
unfolding after_next_block
rest-fault s fault wrong = rw (front_of-fault s.rest fault wrong) refl

always_answered : (s : Stream) (calls : List Call) (fault : Fault) → fault_of s.rest ≡ Some fault → AreAnsweredFrom s calls →
    AlwaysAnswered (answer_for fault) calls
always_answered s [] fault wrong answered = tt
always_answered s (fed piece ∷ calls) fault wrong answered =
    always_answered (fed_with s piece) calls fault (fault_of-append s.rest piece fault wrong) answered
always_answered s (asked next ∷ calls) fault wrong answered = (
  IsNext-fault s fault next wrong answered.0,
  always_answered (after_next_block s) calls fault (rw (rest-fault s fault wrong) wrong) answered.1,
)

fault_answered : (s : Stream) (fault : Fault) → IsNext s (answer_for fault) → fault_of s.rest ≡ Some fault
fault_answered s (faults.TooLong len) is = is.1
fault_answered s faults.BadLength is = is.1

-- after the answer for a fault each answer is the same
pub AlwaysAnswered-calls : (calls further : List Call) (fault : Fault) → AreAnswered (calls ++ asked (answer_for fault) ∷ further) →
    AlwaysAnswered (answer_for fault) further
AlwaysAnswered-calls calls further fault answered =
    let s : Stream = after new_stream calls in
    let parts : AreAnsweredFrom new_stream calls × AreAnsweredFrom s (asked (answer_for fault) ∷ further) =
    answered-append new_stream calls (asked (answer_for fault) ∷ further) answered in
    (always_answered s (asked (answer_for fault) ∷ further) fault (fault_answered s fault parts.1.0) parts.1).1
