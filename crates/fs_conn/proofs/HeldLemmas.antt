-- How much a buffer of blocks holds.
use Rattle.std.proofs.Common.{◌≡◌, ℕ, List, length, Result, Ok, Err, ap, arith, length-append}
use Rattle.fs_frame.specs.Stream.{Stream, new_stream}
use Rattle.fs_frame.specs.Next.{HandsOut}
use Rattle.fs_conn.specs.declared.round.Round.{Round}
use Rattle.fs_conn.specs.declared.stop.Stop.{Stop}
use Rattle.fs_conn.specs.Steps.{HoldsLittle}
use Rattle.fs_conn.specs.Talks.{HoldsBehind, tried_of}

-- a new one holds nothing
pub held_new : (s : Stream) → s ≡ new_stream → HoldsLittle s
held_new s is = let none = ap (λ (s : Stream). length s.rest) is in omega (arith, none)

-- behind a block it holds no more
pub held_behind : (old new : Stream) (block : List ℕ) → HandsOut old new block → HoldsLittle old → HoldsLittle new
held_behind old new block hands little = omega (arith, little, ap length hands.rest, length-append block new.rest)

-- what was tried left little
pub held_tried : (s : Stream) (result : Result Round Stop) → HoldsLittle s → HoldsBehind s (tried_of result)
held_tried s (Ok round) little = little
held_tried s (Err stop) little = little
