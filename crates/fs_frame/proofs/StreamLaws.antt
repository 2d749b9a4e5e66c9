-- What a buffer stands for, once it went past its front.
use Rattle.std.proofs.Common.{◌≡◌, ℕ, ◌+◌, ◌-◌, List, [], ◌<◌, ◌≤◌, ◌++◌, length, take, drop, None, Some, refl, sym, ◌∙◌, ap, arith}
use Rattle.std.proofs.Common.{slice_range}
use Rattle.std.proofs.lemmas.List.{length-take-le, length-drop, take_rest, drop-drop}
use Rattle.std.proofs.lemmas.List.Prefix.{front_rest}
use Rattle.fs_frame.specs.Block.{front_of}
use Rattle.fs_frame.specs.Stream.{Stream, after_next_block}
use Rattle.fs_frame.specs.Next.{IsNext, HandsOut, HandsOutNothing, bytes_of}
use Rattle.fs_frame.specs.Answer.{IsTaken, HasCommand, IsAnswer}
use Rattle.fs_frame.specs.Front.{IsCommandAt, IsLookedAt}
use Rattle.fs_frame.specs.declared.scan.Scan.{Scan}
use Rattle.fs_frame.specs.declared.front.Front.{Front}
use Rattle.fs_frame.specs.declared.front.Front.TheVariants as fronts
use Rattle.fs_frame.specs.declared.front.Front.TheVariants.{Open, Headed}
use Rattle.fs_frame.specs.declared.fault.Fault.{Fault}
use Rattle.fs_frame.specs.declared.fault.Fault.TheVariants as faults
use Rattle.fs_frame.specs.declared.span.CommandLine.{CommandLine}
use Rattle.fs_frame.specs.declared.front.Taken.{Taken}
use Rattle.fs_frame.specs.declared.front.Taken.TheVariants.{Whole, Nothing, Spoilt}
use Rattle.fs_frame.specs.declared.next.Next.{Next}
use Rattle.fs_frame.specs.declared.next.Next.TheVariants.{Block, NeedMore, TooLong, BadLength}
use Rattle.fs_frame.proofs.BodyLaws.{StandsInFront, front_of-stands, front_of-fault, short_rest}
use Rattle.fs_frame.proofs.BlockLaws.{HasNoBlock-front_of}
use Rattle.fs_frame.proofs.FrontLaws.{headed_whole, headed_open}

-- behind a whole block
after_next_block-whole : (s : Stream) (len : ℕ) → len ≤ length s.rest → front_of s.rest ≡ Some (take len s.rest) →
    after_next_block s ≡ record { last = take len s.rest; rest = drop len s.rest }
unfolding after_next_block
after_next_block-whole s len there found = rw (found, length-take-le len s.rest there) refl

-- where no block stands
after_next_block-none : (s : Stream) → front_of s.rest ≡ None → after_next_block s ≡ record { last = []; rest = s.rest }
unfolding after_next_block
after_next_block-none s no_block = rw no_block refl

self-sub : (n : ℕ) → n - n ≡ 0
self-sub n = omega arith

-- the buffer of these bytes, from where the block handed out last begins, and from where the rest does
abbrev pub seen : List ℕ → ℕ → ℕ → Stream
seen bytes lent start = record { last = slice_range bytes lent start; rest = drop start bytes }

seen-whole : (bytes : List ℕ) (lent start len : ℕ) → len ≤ length (drop start bytes) →
    front_of (drop start bytes) ≡ Some (take len (drop start bytes)) →
    seen bytes start (start + len) ≡ after_next_block (seen bytes lent start)
seen-whole bytes lent start len there found =
    let width : start + len - start ≡ len = omega arith in
    rw (after_next_block-whole (seen bytes lent start) len there found, width, drop-drop len start bytes) refl

seen-none : (bytes : List ℕ) (lent start : ℕ) → front_of (drop start bytes) ≡ None →
    seen bytes start start ≡ after_next_block (seen bytes lent start)
seen-none bytes lent start no_block = rw (after_next_block-none (seen bytes lent start) no_block, self-sub start) refl

-- ---- what was looked at from the start of the rest on

-- this part of the bytes was looked at
abbrev pub looked : List ℕ → ℕ → List ℕ
looked bytes start = take (length bytes - start) (drop start bytes)

looked_whole : (bytes : List ℕ) (start len : ℕ) (front : Front) (command : CommandLine) → IsLookedAt (looked bytes start) front →
    front ≡ Headed len command → len ≤ length bytes - start →
    (front_of (drop start bytes) ≡ Some (take len (drop start bytes))) × IsCommandAt (take len (drop start bytes)) command
looked_whole bytes start len front command at is there =
    let seen_at : IsLookedAt (looked bytes start) (Headed len command) = rw is at at in
    headed_whole (drop start bytes) len command (rw (take_rest bytes start) at seen_at) (omega (arith, there, length-drop start bytes))

-- a whole block
pub seen-headed : (bytes : List ℕ) (lent start len : ℕ) (front : Front) (command : CommandLine) → IsLookedAt (looked bytes start) front →
    front ≡ Headed len command → len ≤ length bytes - start →
    seen bytes start (start + len) ≡ after_next_block (seen bytes lent start)
seen-headed bytes lent start len front command at is there =
    seen-whole bytes lent start len (omega (arith, there, length-drop start bytes))
    (looked_whole bytes start len front command at is there).0

pub taken-headed : (bytes : List ℕ) (start len : ℕ) (front : Front) (command : CommandLine) → IsLookedAt (looked bytes start) front →
    front ≡ Headed len command → len ≤ length bytes - start → IsTaken (drop start bytes) (Whole command)
taken-headed bytes start len front command at is there =
    let whole : (front_of (drop start bytes) ≡ Some (take len (drop start bytes))) × IsCommandAt (take len (drop start bytes)) command =
    looked_whole bytes start len front command at is there in
    (take len (drop start bytes), whole.0, whole.1)

-- one of which not all is there
pub taken-open : (bytes : List ℕ) (start len : ℕ) (front : Front) (command : CommandLine) → IsLookedAt (looked bytes start) front →
    front ≡ Headed len command → length bytes - start < len → IsTaken (drop start bytes) Nothing
taken-open bytes start len front command at is few =
    let seen_at : IsLookedAt (looked bytes start) (Headed len command) = rw is at at in
    headed_open (drop start bytes) len command (rw (take_rest bytes start) at seen_at) (omega (arith, few, length-drop start bytes))

-- no head
pub taken-nothing : (bytes : List ℕ) (start : ℕ) (front : Front) (scan : Scan) → IsLookedAt (looked bytes start) front →
    front ≡ Open scan → IsTaken (drop start bytes) Nothing
taken-nothing bytes start front scan at is =
    let seen_at : IsLookedAt (looked bytes start) (Open scan) = rw is at at in
    let rest : IsLookedAt (drop start bytes) (Open scan) = rw (take_rest bytes start) at seen_at in
    (rest.1, rest.2)

-- something wrong
pub taken-spoilt : (bytes : List ℕ) (start : ℕ) (front : Front) (fault : Fault) → IsLookedAt (looked bytes start) front →
    front ≡ fronts.Spoilt fault → IsTaken (drop start bytes) (Spoilt fault)
taken-spoilt bytes start front fault at is =
    let seen_at : IsLookedAt (looked bytes start) (fronts.Spoilt fault) = rw is at at in
    rw (take_rest bytes start) at seen_at

-- in each of these cases the buffer stays
pub seen-nothing : (bytes : List ℕ) (lent start : ℕ) → IsTaken (drop start bytes) Nothing →
    seen bytes start start ≡ after_next_block (seen bytes lent start)
seen-nothing bytes lent start is = seen-none bytes lent start is.0

pub seen-spoilt : (bytes : List ℕ) (lent start : ℕ) (fault : Fault) → IsTaken (drop start bytes) (Spoilt fault) →
    seen bytes start start ≡ after_next_block (seen bytes lent start)
seen-spoilt bytes lent start fault is = seen-none bytes lent start (front_of-fault (drop start bytes) fault is)

after_next_block-last : (s : Stream) (block : List ℕ) → front_of s.rest ≡ Some block → (after_next_block s).last ≡ block
unfolding after_next_block
after_next_block-last s block found = rw found refl

after_next_block-rest : (s : Stream) (block : List ℕ) → front_of s.rest ≡ Some block →
    (after_next_block s).rest ≡ drop (length block) s.rest
unfolding after_next_block
after_next_block-rest s block found = rw found refl

-- the command line that was found is that of the block that is lent
pub HasCommand-taken : (s : Stream) (taken : Taken) → IsTaken s.rest taken → HasCommand (after_next_block s).last taken
HasCommand-taken s (Whole command) is = rw (after_next_block-last s is.0 is.1) is.2
HasCommand-taken s Nothing is = tt
HasCommand-taken s (Spoilt fault) is = tt

HandsOut-block : (s : Stream) (block lent : List ℕ) → front_of s.rest ≡ Some block → lent ≡ (after_next_block s).last →
    HandsOut s (after_next_block s) lent
HandsOut-block s block lent found is =
    let stands : StandsInFront block s.rest = front_of-stands s.rest block found in
    rw (is, after_next_block-last s block found) (record {
      is_block = stands.is_block;
      rest = rw (after_next_block-rest s block found) (front_behind s.rest block stands.more stands.split);
    })
  where
    front_behind : (bytes front more : List ℕ) → bytes ≡ front ++ more → bytes ≡ front ++ drop (length front) bytes
    front_behind bytes front more split = split ∙ ap (λ (bs : List ℕ). front ++ bs) (sym (front_rest bytes front more split))

HandsOutNothing-none : (s : Stream) → front_of s.rest ≡ None → HandsOutNothing s (after_next_block s)
HandsOutNothing-none s no_block =
    rw (after_next_block-none s no_block) (record { no_block = HasNoBlock-front_of s.rest no_block; rest = refl })

-- the answer for what was taken is the one that is due
pub IsNext-taken : (s : Stream) (taken : Taken) (next : Next) → IsTaken s.rest taken → IsAnswer (after_next_block s).last taken next →
    IsNext s next
IsNext-taken s (Whole command) (Block block) is answer = HandsOut-block s is.0 (bytes_of block) is.1 answer
IsNext-taken s (Whole command) NeedMore is answer = absurd answer
IsNext-taken s (Whole command) (TooLong len) is answer = absurd answer
IsNext-taken s (Whole command) BadLength is answer = absurd answer
IsNext-taken s Nothing next is answer = rw answer (HandsOutNothing-none s is.0, is.1)
IsNext-taken s (Spoilt (faults.TooLong len)) next is answer =
    rw answer (HandsOutNothing-none s (front_of-fault s.rest (faults.TooLong len) is), is)
IsNext-taken s (Spoilt faults.BadLength) next is answer =
    rw answer (HandsOutNothing-none s (front_of-fault s.rest faults.BadLength is), is)

-- and where that is that more is needed, no more bytes are held than a block may have
pub few_held : (s : Stream) (taken : Taken) (next : Next) → IsTaken s.rest taken → IsAnswer (after_next_block s).last taken next →
    next ≡ NeedMore → length s.rest ≤ 65536
few_held s (Whole command) (Block block) is answer more = cc
few_held s (Whole command) NeedMore is answer more = absurd answer
few_held s (Whole command) (TooLong len) is answer more = cc
few_held s (Whole command) BadLength is answer more = cc
few_held s Nothing next is answer more = short_rest s.rest is.0 is.1
few_held s (Spoilt (faults.TooLong len)) next is answer more =
    let no : TooLong len ≡ NeedMore = sym answer ∙ more in cc
few_held s (Spoilt faults.BadLength) next is answer more =
    let no : BadLength ≡ NeedMore = sym answer ∙ more in cc
