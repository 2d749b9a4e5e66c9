-- Texts that are cut, and readings one after another.
use Rattle.std.proofs.Common.{◌≡◌, ℕ, suc, ◌+◌, ◌-◌, take, drop, Bool, true, false, cond, not, ◌||◌, ◌==◌, List, [], ◌∷◌, ◌++◌, length}
use Rattle.std.proofs.Common.{Result, Ok, Err, refl, ap, ◌∙◌, arith}
use Rattle.std.specs.List.{position_or_len, list_any, before_first}
use Rattle.std.proofs.lemmas.List.{length-append}
use Rattle.std.proofs.lemmas.Bool.Decides.{nat_tests}
use Rattle.std.proofs.Math.Seq.{take-append_seam}
use Rattle.fs_dial.specs.Results.{◌>>=◌}
use Rattle.fs_dial.specs.Guards.{front_of}

-- a reading that was followed was read
pub bind_ok : {X Y E : Type 0} (read : Result X E) (next : X → Result Y E) (y : Y) → (read >>= next) ≡ Ok y →
    (x : X) × (read ≡ Ok x) × (next x ≡ Ok y)
bind_ok (Ok x) next y e = (x, refl, e)
bind_ok (Err f) next y e = absurd (cc)

pub or_false : (a b : Bool) → (a || b) ≡ false → (a ≡ false) × (b ≡ false)
or_false true b e = absurd (cc)
or_false false b e = (refl, e)

pub eqb-true : (m n : ℕ) → (m == n) ≡ true → m ≡ n
eqb-true m n e = grind (arith, nat_tests)

pub eqb-refl : (n : ℕ) → (n == n) ≡ true
eqb-refl n = grind (arith, nat_tests)

-- what stands before a rest
pub front_is : (front rest : List ℕ) → front_of (front ++ rest) rest ≡ front
front_is front rest =
    let size : length (front ++ rest) - length rest ≡ length front = omega (arith, length-append front rest) in
    ap (λ n. take n (front ++ rest)) size ∙ take-append_seam front rest

-- ---- the first byte of a kind

pub first_offset : (p : ℕ → Bool) (before : List ℕ) (q : ℕ) (behind : List ℕ) → list_any p before ≡ false → p q ≡ true →
    position_or_len p (before ++ (q ∷ behind)) ≡ length before
first_offset p [] q behind none passes = rw passes refl
first_offset p (b ∷ before) q behind none passes =
    let parts = or_false (p b) (list_any p before) none in
    let more = first_offset p before q behind parts.1 passes in
    let fails : p b ≡ false = parts.0 in
    rw fails (omega (arith, more))

pub no_offset : (p : ℕ → Bool) (bytes : List ℕ) → list_any p bytes ≡ false → position_or_len p bytes ≡ length bytes
no_offset p [] none = refl
no_offset p (b ∷ bytes) none =
    let parts = or_false (p b) (list_any p bytes) none in
    let more = no_offset p bytes parts.1 in
    let fails : p b ≡ false = parts.0 in
    rw fails (omega (arith, more))

-- what stands before the first such byte has none, what stands from it on begins with one, and both are the whole
pub record Cut (p : ℕ → Bool) (bytes front from : List ℕ) : Type 0 where
  pub whole : bytes ≡ front ++ from
  pub none : list_any p front ≡ false
  pub here : (b : ℕ) (rest : List ℕ) → from ≡ b ∷ rest → p b ≡ true

pub cut_at : (p : ℕ → Bool) (bytes : List ℕ) → Cut p bytes (before_first p bytes) (drop (position_or_len p bytes) bytes)
cut_at p [] = record { whole = refl; none = refl; here = λ b rest e. absurd (cc) }
cut_at p (b ∷ bytes) = by (p b) refl (cut_at p bytes)
  where
    by : (t : Bool) → p b ≡ t → Cut p bytes (before_first p bytes) (drop (position_or_len p bytes) bytes)
        → Cut p (b ∷ bytes) (take (cond (not t) (1 + position_or_len p bytes) 0) (b ∷ bytes))
        (drop (cond (not t) (1 + position_or_len p bytes) 0) (b ∷ bytes))
    by true passes more = record { whole = refl; none = refl; here = λ c rest e. cc }
    by false fails more =
        let n = position_or_len p bytes in
        let one : 1 + n ≡ suc n = omega arith in
        rw one (record { whole = ap (λ l. b ∷ l) more.whole; none = rw fails more.none; here = more.here })
