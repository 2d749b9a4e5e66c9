-- Which keys a slot holds, behind each step.
use Rattle.std.proofs.Common.{◌≡◌, ◌≢◌, ℕ, ◌==◌, Bool, true, false, not, ◌&&◌, ◌||◌, [], ◌∷◌, ◌++◌, refl, sym, ap, ◌∙◌}
use Rattle.std.proofs.Common.{if◌then◌else◌, filter}
use Rattle.std.specs.List.{list_any}
use Rattle.std.proofs.Math.Bool.{or-false}
use Rattle.std.proofs.lemmas.Bool.{eqb-true, false_from_ne_true}
use Rattle.std.proofs.lemmas.List.{append-nil}
use Rattle.std.proofs.lemmas.List.Elements.{filter-append}
use Rattle.std.proofs.lemmas.List.Folds.{list_any-append}
use Rattle.fs_limit.specs.declared.hold.Hold.{Hold}
use Rattle.fs_limit.specs.Holds.{Holds, has_slot, is_hold, is_of, has, may_hold, adds_hold, new_hold, held_by, after_release}
use Rattle.fs_limit.specs.Laws.{Ask, Release, AskedIsHeld, ReleasedHoldsNothing, ReleasedLeavesOthers, OthersStay}
use Rattle.fs_limit.proofs.KeyLemmas.{same_hold}

-- ---- once a slot asked

pub asked_is_held : AskedIsHeld
asked_is_held realm id max slot holds other_realm other_id other =
    by (may_hold realm id max slot holds) (has realm id slot holds) refl
  where
    new : Hold
    new = new_hold realm id slot

    test : Hold → Bool
    test = is_hold other_realm other_id other

    already : (b : Bool) → test new ≡ b → has realm id slot holds ≡ true → list_any test holds ≡ (list_any test holds || b)
    already true is held =
        let same = same_hold realm id other_realm other_id slot other is in
        let there : list_any test holds ≡ true =
        ap (λ r. has r other_id other holds) (sym same.0)
        ∙ ap (λ i. has realm i other holds) (sym same.1)
        ∙ ap (λ s. has realm id s holds) (sym same.2)
        ∙ held in there ∙ sym (ap (λ b. b || true) there)
    already false is held = sym (or-false (list_any test holds))

    by : (may held : Bool) → has realm id slot holds ≡ held →
        list_any test (if may && not held then holds ++ new ∷ [] else holds) ≡ (list_any test holds || (may && test new))
    by true true is = already (test new) refl is
    by true false is = list_any-append test holds (new ∷ []) ∙ ap (λ b. list_any test holds || b) (or-false (test new))
    by false held is = sym (or-false (list_any test holds))

-- ---- once a slot is released

pub released_holds_nothing : ReleasedHoldsNothing
released_holds_nothing slot [] = refl
released_holds_nothing slot (hold ∷ holds) = by (has_slot slot hold) refl (released_holds_nothing slot holds)
  where
    rest : Holds
    rest = after_release slot holds

    by : (b : Bool) → has_slot slot hold ≡ b → held_by slot rest ≡ [] → held_by slot (if not b then hold ∷ rest else rest) ≡ []
    by true is again = again
    by false is again = ap (λ b. if b then hold ∷ held_by slot rest else held_by slot rest) is ∙ again

-- what passes twice passes both
kept_twice : (one other : Hold → Bool) (holds : Holds) →
    filter one (filter other holds) ≡ filter (λ hold. one hold && other hold) holds
kept_twice one other [] = refl
kept_twice one other (hold ∷ holds) = by (one hold) (other hold) refl (kept_twice one other holds)
  where
    both : Holds
    both = filter (λ hold. one hold && other hold) holds

    by : (a b : Bool) → one hold ≡ a → filter one (filter other holds) ≡ both →
        filter one (if b then hold ∷ filter other holds else filter other holds) ≡ (if a && b then hold ∷ both else both)
    by true true is again =
        ap (λ a. if a then hold ∷ filter one (filter other holds) else filter one (filter other holds)) is
        ∙ ap (λ rest. hold ∷ rest) again
    by false true is again =
        ap (λ a. if a then hold ∷ filter one (filter other holds) else filter one (filter other holds)) is ∙ again
    by true false is again = again
    by false false is again = again

pub released_leaves_others : ReleasedLeavesOthers
released_leaves_others realm id slot holds = kept_twice (is_of realm id) (λ hold. not (has_slot slot hold)) holds

-- ---- what other slots hold

other_slot : (slot other : ℕ) → slot ≢ other → (slot == other) ≡ false
other_slot slot other apart = false_from_ne_true (slot == other) (λ is. apart (eqb-true slot other is))

released_others : (slot other : ℕ) (holds : Holds) → slot ≢ other → held_by other (after_release slot holds) ≡ held_by other holds
released_others slot other [] apart = refl
released_others slot other (hold ∷ holds) apart = by (has_slot slot hold) refl (released_others slot other holds apart)
  where
    rest : Holds
    rest = after_release slot holds

    by : (b : Bool) → has_slot slot hold ≡ b → held_by other rest ≡ held_by other holds →
        held_by other (if not b then hold ∷ rest else rest) ≡ held_by other (hold ∷ holds)
    by true is again =
        let none : has_slot other hold ≡ false =
        ap (λ s. s == other) (eqb-true hold.slot slot is) ∙ other_slot slot other apart in
        again ∙ sym (ap (λ b. if b then hold ∷ held_by other holds else held_by other holds) none)
    by false is again = ap (λ held. if has_slot other hold then hold ∷ held else held) again

pub others_stay : OthersStay
others_stay (Ask realm id max slot) other holds apart = by (adds_hold realm id max slot holds)
  where
    new : Hold
    new = new_hold realm id slot

    by : (b : Bool) → held_by other (if b then holds ++ new ∷ [] else holds) ≡ held_by other holds
    by true =
        filter-append (has_slot other) holds (new ∷ [])
        ∙ ap (λ b. held_by other holds ++ (if b then new ∷ [] else [])) (other_slot slot other apart)
        ∙ append-nil (held_by other holds)
    by false = refl
others_stay (Release slot) other holds apart = released_others slot other holds apart
