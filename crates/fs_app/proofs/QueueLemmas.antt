-- The name of a queue stands before the last `!` of its word.
use Rattle.std.proofs.Common.{◌≡◌, ℕ, ◌+◌, ◌<◌, ◌≤◌, Bool, true, false, List, [], ◌∷◌, length, Option, None, Some, refl, ap, ◌∙◌}
use Rattle.std.specs.Prelude.{◌==◌, take, slice_index}
use Prim.Native.Nat.{zero, suc}
use native.Mathlib.Omega.{arith}
use Rattle.memchr.specs.Find.{is_byte}
use Rattle.fs_app.specs.Applications.{before_last, with_byte}

-- no byte is this one
abbrev pub None_is : ℕ → List ℕ → Type 0
None_is byte bytes = (k : ℕ) → k < length bytes → is_byte byte (slice_index bytes k) ≡ true → ⊥

not_it : (b : Bool) → (b ≡ true → ⊥) → b ≡ false
not_it true not = absurd (not refl)
not_it false not = refl

pub none_before : (byte : ℕ) (bytes : List ℕ) → None_is byte bytes → before_last byte bytes ≡ None
none_before byte [] none = refl
none_before byte (b ∷ bytes) none =
    ap (λ (front : Option (List ℕ)). with_byte b (b == byte) front) (none_before byte bytes (λ k below. none (suc k) (omega (arith, below))))
    ∙ ap (λ (is : Bool). with_byte b is None) (not_it (b == byte) (none 0 (omega arith)))

pub some_before : (byte : ℕ) (bytes : List ℕ) (i : ℕ) → i < length bytes → is_byte byte (slice_index bytes i) ≡ true →
    ((k : ℕ) → i + 1 ≤ k → k < length bytes → is_byte byte (slice_index bytes k) ≡ true → ⊥) →
    before_last byte bytes ≡ Some (take i bytes)
some_before byte [] i below is none = absurd (omega (arith, below))
some_before byte (b ∷ bytes) zero below is none =
    ap (λ (front : Option (List ℕ)). with_byte b (b == byte) front)
    (none_before byte bytes (λ k within. none (suc k) (omega arith) (omega (arith, within))))
    ∙ ap (λ (it : Bool). with_byte b it None) is
some_before byte (b ∷ bytes) (suc i) below is none =
    ap (λ (front : Option (List ℕ)). with_byte b (b == byte) front)
    (some_before byte bytes i (omega (arith, below)) is (λ k more within. none (suc k) (omega (arith, more)) (omega (arith, within))))
