-- What a release comes to.
use Rattle.std.proofs.Common.{◌≡◌, ℕ, zero, suc, ◌-◌, ◌<◌, ◌==◌, Bool, true, false, List, [], ◌∷◌}
use Rattle.std.proofs.Common.{None, Some, refl, sym, ap, subst, ◌∙◌, arith, if◌then◌else◌, All}
use Rattle.std.specs.Prelude.{nat_le}
use Rattle.std.specs.List.{AllPairs, find}
use Rattle.std.proofs.lemmas.Bool.{eqb-true, false_from_ne_true}
use Rattle.std.proofs.lemmas.Bool.Decides.{nat_tests}
use Rattle.std.proofs.lemmas.List.Elements.{All-cons, All-head, All-tail}
use Rattle.fs_event.specs.Rings.{Pair, has_number, released, less_one, OneIsReleased, OthersAreHeld, NumbersStayBelow}

module _ {T : Type 0} where
  -- all that are left are still to be read
  pub read_left : (number : ℕ) (pairs : List (Pair T)) → All (λ pair. 0 < pair.readers) pairs → All (λ pair. 0 < pair.readers) (released number pairs)
  read_left number [] all = all
  read_left number (pair ∷ pairs) all =
      by (has_number number pair) (nat_le pair.readers 1) refl refl (read_left number pairs (All-tail (λ p. 0 < p.readers) pair pairs all))
    where
      P : Pair T → Type 0
      P pair = 0 < pair.readers

      behind : All P pairs
      behind = All-tail P pair pairs all

      by : (b last : Bool) → has_number number pair ≡ b → nat_le pair.readers 1 ≡ last → All P (released number pairs) →
          All P (if b then (if last then pairs else record pair { readers = pair.readers - 1 } ∷ pairs) else pair ∷ released number pairs)
      by true true e l again = behind
      by true false e l again = All-cons P (record pair { readers = pair.readers - 1 }) pairs (grind (arith, nat_tests)) behind
      by false last e l again = All-cons P pair (released number pairs) (All-head P pair pairs all) again

  above_nowhere : (number : ℕ) (pairs : List (Pair T)) → All (λ pair. number < pair.number) pairs → find (has_number number) pairs ≡ None
  above_nowhere number [] above = refl
  above_nowhere number (pair ∷ pairs) above =
      let first : number < pair.number = All-head (λ p. number < p.number) pair pairs above in
      let other : (pair.number == number) ≡ false = grind (arith, nat_tests) in
      ap (λ b. if b then Some pair else find (has_number number) pairs) other
      ∙ above_nowhere number pairs (All-tail (λ p. number < p.number) pair pairs above)

  abbrev IsRising : List (Pair T) → Type 0
  IsRising pairs = AllPairs (λ pair later. pair.number < later.number) pairs

  one_released : (number : ℕ) (pairs : List (Pair T)) → IsRising pairs →
      find (has_number number) (released number pairs) ≡ less_one (find (has_number number) pairs)
  one_released number [] order = refl
  one_released number (pair ∷ pairs) order =
      by (has_number number pair) (nat_le pair.readers 1) refl refl
      (one_released number pairs (λ i j d before within. order (suc i) (suc j) d (omega (arith, before)) (omega (arith, within))))
    where
      less : Pair T
      less = record pair { readers = pair.readers - 1 }

      gone : (pair.number == number) ≡ true → find (has_number number) pairs ≡ None
      gone e =
          subst (λ n. find (has_number n) pairs ≡ None) (eqb-true pair.number number e)
          (above_nowhere pair.number pairs (λ k d within. order zero (suc k) d (omega arith) (omega (arith, within))))

      by : (b last : Bool) → (pair.number == number) ≡ b → nat_le pair.readers 1 ≡ last →
          find (has_number number) (released number pairs) ≡ less_one (find (has_number number) pairs) →
          find (has_number number) (if b then (if last then pairs else less ∷ pairs) else pair ∷ released number pairs)
          ≡ less_one (if b then Some pair else find (has_number number) pairs)
      by true true e l again = gone e ∙ sym (ap (λ last. if last then None else Some less) l)
      by true false e l again =
          ap (λ b. if b then Some less else find (has_number number) pairs) e ∙ sym (ap (λ last. if last then None else Some less) l)
      by false last e l again = ap (λ b. if b then Some pair else find (has_number number) (released number pairs)) e ∙ again

  pub one_is_released : OneIsReleased T
  one_is_released number pairs sound = one_released number pairs sound.order

  pub others_are_held : OthersAreHeld T
  others_are_held number other [] apart = refl
  others_are_held number other (pair ∷ pairs) apart =
      by (has_number number pair) (nat_le pair.readers 1) refl (others_are_held number other pairs apart)
    where
      less : Pair T
      less = record pair { readers = pair.readers - 1 }

      not_other : (pair.number == number) ≡ true → (pair.number == other) ≡ false
      not_other e = let same = eqb-true pair.number number e in false_from_ne_true (pair.number == other) (λ is.
          apart (sym same ∙ eqb-true pair.number other is))

      by : (b last : Bool) → (pair.number == number) ≡ b → find (has_number other) (released number pairs) ≡ find (has_number other) pairs →
          find (has_number other) (if b then (if last then pairs else less ∷ pairs) else pair ∷ released number pairs)
          ≡ (if has_number other pair then Some pair else find (has_number other) pairs)
      by true true e again = sym (ap (λ b. if b then Some pair else find (has_number other) pairs) (not_other e))
      by true false e again =
          ap (λ b. if b then Some less else find (has_number other) pairs) (not_other e)
          ∙ sym (ap (λ b. if b then Some pair else find (has_number other) pairs) (not_other e))
      by false last e again = ap (λ found. if has_number other pair then Some pair else found) again

  pub numbers_stay_below : NumbersStayBelow T
  numbers_stay_below number end [] below = below
  numbers_stay_below number end (pair ∷ pairs) below =
      by (has_number number pair) (nat_le pair.readers 1) (numbers_stay_below number end pairs behind)
    where
      P : Pair T → Type 0
      P p = p.number < end

      behind : All P pairs
      behind = All-tail P pair pairs below

      front : pair.number < end
      front = All-head P pair pairs below

      by : (b last : Bool) → All P (released number pairs) →
          All P (if b then (if last then pairs else record pair { readers = pair.readers - 1 } ∷ pairs) else pair ∷ released number pairs)
      by true true again = behind
      by true false again = All-cons P (record pair { readers = pair.readers - 1 }) pairs front behind
      by false last again = All-cons P pair (released number pairs) front again
