-- A block with LF behind it is read as it is written, and what is read is written so.
use Rattle.std.proofs.Common.{◌≡◌, ℕ, ◌<◌, ◌≤◌, Bool, true, false, nat_le, List, ◌∷◌, ◌++◌, length, take, drop}
use Rattle.std.proofs.Common.{Ok, Err, cond, refl, sym, ap, ◌∙◌, arith, codes, take-append-drop}
use Rattle.std.proofs.lemmas.Bool.Decides.{nat_tests}
use Rattle.std.proofs.lemmas.List.{take_at, drop_at, length-append, length-take-le}
use Rattle.fs_replay.specs.declared.fault.Fault.TheVariants.{Bad, Cut}
use Rattle.fs_replay.specs.Reading.{Reads, begins, block_at}
use Rattle.fs_replay.proofs.Numbers.{word_is}

-- a block and LF behind it are what the bytes begin with
pub record IsBlock (len : ℕ) (bytes block left : List ℕ) : Type 0 where
  pub text : bytes ≡ block ++ (10 ∷ left)
  pub size : length block ≡ len

pub block_sound : (len : ℕ) (bytes block left : List ℕ) → block_at len bytes ≡ Ok (block, left) → IsBlock len bytes block left
unfolding block_at
block_sound len bytes block left read = first (nat_le (length bytes) len) refl read
  where
    second : (t : Bool) → begins (codes "\n") (drop len bytes) ≡ t → nat_le (length bytes) len ≡ false
        → ◌≡◌ {A = Reads (List ℕ)} (cond t (Ok (take len bytes, drop 1 (drop len bytes))) (Err Bad)) (Ok (block, left)) → IsBlock len bytes block left
    second true here long same =
        let both : ◌≡◌ {A = List ℕ × List ℕ} (take len bytes, drop 1 (drop len bytes)) (block, left) = cc in
        let front : take len bytes ≡ block = ap (λ (r : List ℕ × List ℕ). r.0) both in
        let back : drop 1 (drop len bytes) ≡ left = ap (λ (r : List ℕ × List ℕ). r.1) both in
        let more : len < length bytes = grind (arith, nat_tests) in
        record {
          text = sym (take-append-drop len bytes) ∙ ap (λ (l : List ℕ). take len bytes ++ l) (word_is (codes "\n") (drop len bytes) here)
              ∙ ap (λ (l : List ℕ). take len bytes ++ (10 ∷ l)) back ∙ ap (λ (l : List ℕ). l ++ (10 ∷ left)) front;
          size = ap length (sym front) ∙ length-take-le len bytes (omega arith);
        }
    second false none long same = absurd (cc)

    first : (t : Bool) → nat_le (length bytes) len ≡ t
        → ◌≡◌ {A = Reads (List ℕ)} (cond t (Err Cut) (cond (begins (codes "\n") (drop len bytes)) (Ok (take len bytes, drop 1 (drop len bytes))) (Err Bad))) (Ok (block, left))
        → IsBlock len bytes block left
    first true short same = absurd (cc)
    first false long same = second (begins (codes "\n") (drop len bytes)) refl long same

pub block_complete : (block rest : List ℕ) → block_at (length block) (block ++ (10 ∷ rest)) ≡ Ok (block, rest)
unfolding block_at
block_complete block rest =
    let long : nat_le (length (block ++ (10 ∷ rest))) (length block) ≡ false = grind (arith, nat_tests, length-append block (10 ∷ rest)) in
    let back = drop_at block (10 ∷ rest) (length block) refl in
    let front = take_at block (10 ∷ rest) (length block) refl in
    rw (long, back, front) refl

-- a block is cut where fewer bytes are there
pub block_cut : (len : ℕ) (block : List ℕ) → length block ≤ len → block_at len block ≡ Err Cut
unfolding block_at
block_cut len block short =
    let cut : nat_le (length block) len ≡ true = grind (arith, nat_tests) in
    rw cut refl

pub cut_block : (len : ℕ) (bytes : List ℕ) → block_at len bytes ≡ Err Cut → length bytes ≤ len
unfolding block_at
cut_block len bytes read = first (nat_le (length bytes) len) refl read
  where
    second : (t : Bool) → ◌≡◌ {A = Reads (List ℕ)} (cond t (Ok (take len bytes, drop 1 (drop len bytes))) (Err Bad)) (Err Cut) → length bytes ≤ len
    second true same = absurd (cc)
    second false same = absurd (cc)

    first : (t : Bool) → nat_le (length bytes) len ≡ t
        → ◌≡◌ {A = Reads (List ℕ)} (cond t (Err Cut) (cond (begins (codes "\n") (drop len bytes)) (Ok (take len bytes, drop 1 (drop len bytes))) (Err Bad))) (Err Cut)
        → length bytes ≤ len
    first true short same = grind (arith, nat_tests)
    first false long same = second (begins (codes "\n") (drop len bytes)) same
