-- An argument that has no `$` has nothing to expand.
use Rattle.std.proofs.Common.{◌≡◌, ◌∙◌, ℕ, suc, ◌+◌, ◌≤◌, ◌==◌, Bool, true, false, not, ◌&&◌, cond, [], ◌∷◌, length, Some, None, refl, ap, arith}
use Rattle.std.proofs.lemmas.Bool.Decides.{nat_tests}
use Rattle.std.specs.Prelude.{if◌then◌else◌, nat_lt}
use Rattle.std.specs.List.{position_or_len}
use Rattle.fs_text.specs.Texts.{Text}
use Rattle.fs_vars.specs.Pairs.{Pairs}
use Rattle.fs_vars.specs.Expansion.{expanded, has_escape, has_reference}
use Rattle.fs_vars.proofs.ExpansionLemmas.{expanded-nothing, expanded-other}
use Rattle.fs_machine.specs.Applications.{unless_too_long}

abbrev is_dollar : ℕ → Bool
is_dollar b = b == 36

abbrev HasNoDollar : Text → Type 0
HasNoDollar text = position_or_len is_dollar text ≡ length text

and_false : (a : Bool) → (a && false) ≡ false
and_false true = refl
and_false false = refl

-- none in front, and none behind it
front_none : (b : ℕ) (text : Text) → HasNoDollar (b ∷ text) → is_dollar b ≡ false
front_none b text none = by (is_dollar b) refl none
  where
    by : (test : Bool) → is_dollar b ≡ test → cond (not test) (1 + position_or_len is_dollar text) 0 ≡ suc (length text) → is_dollar b ≡ false
    by true is none = absurd (omega (arith, none))
    by false is none = is

rest_none : (b : ℕ) (text : Text) → HasNoDollar (b ∷ text) → HasNoDollar text
rest_none b text none = by (is_dollar b) none
  where
    by : (test : Bool) → cond (not test) (1 + position_or_len is_dollar text) 0 ≡ suc (length text) → HasNoDollar text
    by true none = absurd (omega (arith, none))
    by false none = omega (arith, none)

no_escape : (b : ℕ) (text : Text) → HasNoDollar text → has_escape (b ∷ text) ≡ false
no_escape b [] none = and_false _
no_escape b (c ∷ text) none = grind (arith, nat_tests, front_none c text none)

no_reference : (b : ℕ) (text : Text) → is_dollar b ≡ false → has_reference (b ∷ text) ≡ false
no_reference b text other = grind (arith, nat_tests, other)

stands : (known : Pairs) (text : Text) → HasNoDollar text → expanded known text ≡ text
stands known [] none = expanded-nothing known
stands known (b ∷ text) none =
    expanded-other known b text (no_escape b text (rest_none b text none)) (no_reference b text (front_none b text none))
    ∙ ap (λ (more : Text). b ∷ more) (stands known text (rest_none b text none))

within : (text : Text) → length text ≤ 65536 → unless_too_long text ≡ Some text
within text short = by (nat_lt 65536 (length text)) refl
  where
    by : (test : Bool) → nat_lt 65536 (length text) ≡ test → (if test then None else Some text) ≡ Some text
    by true long = absurd (grind (arith, nat_tests, short, long))
    by false long = refl

pub plain_stands : (known : Pairs) (text : Text) → HasNoDollar text → length text ≤ 65536 → unless_too_long (expanded known text) ≡ Some text
plain_stands known text none short = rw (stands known text none) (within text short)
