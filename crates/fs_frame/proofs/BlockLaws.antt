-- How blocks lie in a stream.
use Rattle.std.proofs.Common.{◌≡◌, ◌≤◌, ◌<◌, ℕ, zero, suc, List, [], ◌∷◌, ◌++◌, length, drop, Option, None, Some}
use Rattle.std.proofs.Common.{refl, sym, ◌∙◌, ap, append_assoc, arith, length-append}
use Rattle.std.proofs.lemmas.List.Folds.{concat-append}
use Rattle.std.proofs.lemmas.List.Prefix.{front_rest}
use Rattle.std.specs.List.{AllByRecursion, concat}
use Rattle.std.specs.Option.{option_map_or}
use Rattle.fs_frame.specs.Block.{IsBlock, front_of}
use Rattle.fs_frame.specs.Blocks.{HasNoBlock, Splits, first_blocks, blocks_of, rest_of}
use Rattle.fs_frame.proofs.BodyLaws.{StandsInFront, front_of-append, front_of-stands, front_of-none}

-- a block is not empty
pub length-block : (block : List ℕ) → IsBlock block → 0 < length block
length-block [] is_block =
    let nothing : front_of [] ≡ None = front_of-none in
    let found : front_of [] ≡ Some [] = front_of-append [] [] is_block in
    cc
length-block (byte ∷ block) is_block = omega arith

-- what holds of each of two lists' elements holds of those of the two together
pub AllByRecursion-append : (P : List ℕ → Type 0) (xs ys : List (List ℕ)) → AllByRecursion P xs → AllByRecursion P ys →
    AllByRecursion P (xs ++ ys)
AllByRecursion-append P [] ys all more = more
AllByRecursion-append P (x ∷ xs) ys all more = (all.0, AllByRecursion-append P xs ys all.1 more)

-- nothing is found in front exactly where no block stands there
pub front_of-no_block : (bytes : List ℕ) → HasNoBlock bytes → front_of bytes ≡ None
front_of-no_block bytes no_block = step (front_of bytes) refl
  where
    step : (found : Option (List ℕ)) → front_of bytes ≡ found → found ≡ None
    step None is = refl
    step (Some block) is = let stands : StandsInFront block bytes = front_of-stands bytes block is in
        absurd (no_block block stands.more stands.is_block stands.split)

pub HasNoBlock-front_of : (bytes : List ℕ) → front_of bytes ≡ None → HasNoBlock bytes
HasNoBlock-front_of bytes nothing block more is_block split =
    let found : front_of (block ++ more) ≡ Some block = front_of-append block more is_block in cc

-- the first blocks of a stream that falls into blocks and a rest are those blocks
first_blocks-splits : (blocks : List (List ℕ)) (n : ℕ) (stream rest : List ℕ) → Splits stream blocks rest → length stream ≤ n →
    first_blocks n stream ≡ blocks
unfolding first_blocks
first_blocks-splits [] zero stream rest split fits = refl
first_blocks-splits [] (suc n) stream rest split fits =
    let nothing : front_of stream ≡ None = rw split.whole (front_of-no_block rest split.last) in
    rw nothing refl
first_blocks-splits (block ∷ blocks) zero stream rest split fits =
    let whole : stream ≡ block ++ (concat blocks ++ rest) = split.whole ∙ append_assoc block (concat blocks) rest in
    absurd (omega (arith, length-block block split.each.0, length-append block (concat blocks ++ rest), ap length whole))
first_blocks-splits (block ∷ blocks) (suc n) stream rest split fits =
    let behind : List ℕ = concat blocks ++ rest in
    let whole : stream ≡ block ++ behind = split.whole ∙ append_assoc block (concat blocks) rest in
    let found : front_of stream ≡ Some block = rw whole (front_of-append block behind split.each.0) in
    let again : first_blocks n behind ≡ blocks =
    first_blocks-splits blocks n behind rest (record { whole = refl; each = split.each.1; last = split.last })
    (omega (arith, length-block block split.each.0, length-append block behind, ap length whole)) in
    rw (found, front_rest stream block behind whole, again) refl

-- the stream falls into these blocks and some rest
record Falls (stream : List ℕ) (blocks : List (List ℕ)) : Type 0 where
  rest : List ℕ
  splits : Splits stream blocks rest

no_more : (stream : List ℕ) → front_of stream ≡ None → Falls stream []
no_more stream nothing = record { rest = stream; splits = record { whole = refl; each = tt; last = HasNoBlock-front_of stream nothing } }

falls_behind : (stream block more : List ℕ) (blocks : List (List ℕ)) → stream ≡ block ++ more → IsBlock block → Falls more blocks →
    Falls stream (block ∷ blocks)
falls_behind stream block more blocks split is_block falls = record {
  rest = falls.rest;
  splits = record {
    whole = split ∙ ap (λ (bytes : List ℕ). block ++ bytes) falls.splits.whole ∙ sym (append_assoc block (concat blocks) falls.rest);
    each = (is_block, falls.splits.each);
    last = falls.splits.last;
  };
}

falls : (n : ℕ) (stream : List ℕ) → length stream ≤ n → Falls stream (first_blocks n stream)
unfolding first_blocks
falls zero [] fits = no_more [] (front_of-none)
falls zero (byte ∷ stream) fits = absurd (omega arith)
falls (suc n) stream fits = step (front_of stream) refl (λ (more : List ℕ). falls n more)
  where
    step : (found : Option (List ℕ)) → front_of stream ≡ found → ((more : List ℕ) → length more ≤ n → Falls more (first_blocks n more)) →
        Falls stream (option_map_or (λ (block : List ℕ). block ∷ first_blocks n (drop (length block) stream)) found [])
    step None is again = no_more stream is
    step (Some block) is again =
        let stands : StandsInFront block stream = front_of-stands stream block is in
        rw (front_rest stream block stands.more stands.split)
        (falls_behind stream block stands.more (first_blocks n stands.more) stands.split stands.is_block
        (again stands.more
        (omega (arith, length-block block stands.is_block, length-append block stands.more, ap length stands.split))))

-- a stream falls into its blocks and its rest
pub splits : (stream : List ℕ) → Splits stream (blocks_of stream) (rest_of stream)
unfolding blocks_of rest_of
splits stream =
    let all : Falls stream (blocks_of stream) = falls (length stream) stream (omega arith) in
    rw (front_rest stream (concat (blocks_of stream)) all.rest all.splits.whole) all.splits

-- and in no other way
pub blocks_of-splits : (stream rest : List ℕ) (blocks : List (List ℕ)) → Splits stream blocks rest → blocks_of stream ≡ blocks
unfolding blocks_of
blocks_of-splits stream rest blocks split = first_blocks-splits blocks (length stream) stream rest split (omega arith)

pub rest_of-splits : (stream rest : List ℕ) (blocks : List (List ℕ)) → Splits stream blocks rest → rest_of stream ≡ rest
unfolding rest_of
rest_of-splits stream rest blocks split =
    rw (blocks_of-splits stream rest blocks split) (front_rest stream (concat blocks) rest split.whole)

-- blocks in front are the first blocks of the stream, and leave its rest
splits-append : (blocks : List (List ℕ)) (more : List ℕ) → AllByRecursion IsBlock blocks →
    Splits (concat blocks ++ more) (blocks ++ blocks_of more) (rest_of more)
splits-append blocks more each =
    let behind : Splits more (blocks_of more) (rest_of more) = splits more in
    record {
      whole = rw (concat-append blocks (blocks_of more), append_assoc (concat blocks) (concat (blocks_of more)) (rest_of more))
          (ap (λ (bytes : List ℕ). concat blocks ++ bytes) behind.whole);
      each = AllByRecursion-append IsBlock blocks (blocks_of more) each behind.each;
      last = behind.last;
    }

pub blocks_of-append : (blocks : List (List ℕ)) (more : List ℕ) → AllByRecursion IsBlock blocks →
    blocks_of (concat blocks ++ more) ≡ blocks ++ blocks_of more
blocks_of-append blocks more each =
    blocks_of-splits (concat blocks ++ more) (rest_of more) (blocks ++ blocks_of more) (splits-append blocks more each)

pub rest_of-append : (blocks : List (List ℕ)) (more : List ℕ) → AllByRecursion IsBlock blocks →
    rest_of (concat blocks ++ more) ≡ rest_of more
rest_of-append blocks more each =
    rest_of-splits (concat blocks ++ more) (rest_of more) (blocks ++ blocks_of more) (splits-append blocks more each)

-- where no block stands in front there is none, and all is the rest
pub blocks_of-no_block : (rest : List ℕ) → HasNoBlock rest → blocks_of rest ≡ []
blocks_of-no_block rest no_block = blocks_of-splits rest rest [] (record { whole = refl; each = tt; last = no_block })

pub rest_of-no_block : (rest : List ℕ) → HasNoBlock rest → rest_of rest ≡ rest
rest_of-no_block rest no_block = rest_of-splits rest rest [] (record { whole = refl; each = tt; last = no_block })
