-- The blocks of a stream of bytes. No word here knows in which pieces the stream came.
use Rattle.std.specs.Prelude.{◌≡◌, ◌≢◌, ℕ, zero, suc, List, [], ◌∷◌, ◌++◌, length, drop}
use Rattle.std.specs.List.{AllByRecursion, concat}
use Rattle.std.specs.Option.{option_map_or}
use Rattle.fs_frame.specs.Block.{IsBlock, front_of}

-- no block stands in front of these bytes
abbrev pub HasNoBlock : List ℕ → Type 0
HasNoBlock bytes = (block more : List ℕ) → IsBlock block → bytes ≢ block ++ more

-- the stream is these blocks and then a rest, which has no further block in front
pub record Splits (stream : List ℕ) (blocks : List (List ℕ)) (rest : List ℕ) : Type 0 where
  pub whole : stream ≡ concat blocks ++ rest
  pub each : AllByRecursion IsBlock blocks
  pub last : HasNoBlock rest

-- the first blocks of the stream, n at most
unfoldable pub first_blocks : ℕ → List ℕ → List (List ℕ)
first_blocks zero stream = []
first_blocks (suc n) stream = option_map_or (λ block. block ∷ first_blocks n (drop (length block) stream)) (front_of stream) []

-- the blocks of the stream: they are no more than it has bytes
unfoldable pub blocks_of : List ℕ → List (List ℕ)
blocks_of stream = first_blocks (length stream) stream

-- what follows its blocks
unfoldable pub rest_of : List ℕ → List ℕ
rest_of stream = drop (length (concat (blocks_of stream))) stream
