-- Which core a text is the first identifier of.
use Rattle.std.proofs.Common.{◌≡◌, ◌<◌, ◌↔◌, ◌/◌, ◌%◌, ◌^◌, ℕ, Bool, true, false, cond, ◌&&◌, Option, None, Some, refl, sym, ap, ◌∙◌, arith}
use Rattle.std.specs.Str.{bytes_eq}
use Rattle.std.specs.Option.{option_and_then}
use Rattle.std.proofs.lemmas.Slice.Eq.{bytes_eq-Decides}
use Rattle.std.proofs.lemmas.Bool.Decides.{nat_tests}
use Rattle.fs_text.specs.CoreId.{uuid, high_of, IsCore, IsCoreText}
use Rattle.fs_text.specs.Texts.{Text}
use Rattle.fs_text.proofs.IdLemmas.{uuid_owned}
use Rattle.fs_doc.specs.Settings.{is_core, core_in, core_of}

-- options that are the same values are the same
same_option : (a b : Option ℕ) → ((n : ℕ) → a ≡ Some n → b ≡ Some n) → ((n : ℕ) → b ≡ Some n → a ≡ Some n) → a ≡ b
same_option (Some n) b to from = sym (to n refl)
same_option None (Some n) to from = from n refl
same_option None None to from = refl

is_core-true : (core : ℕ) → is_core core ≡ true → (core < 2 ^ 64) × (core / 2 ^ 12 % 16 ≡ 8)
is_core-true core h = grind (arith, nat_tests)

true-is_core : (core : ℕ) → core < 2 ^ 64 → core / 2 ^ 12 % 16 ≡ 8 → is_core core ≡ true
true-is_core core small version = grind (arith, nat_tests)

in_is : (text : Text) (high core : ℕ) → core_in text high ≡ Some core → IsCoreText core text
in_is text high core = by (is_core high) (bytes_eq (uuid high 0) text) (is_core-true high) (bytes_eq-Decides (uuid high 0) text).0
  where
    by : (t u : Bool) → (t ≡ true → (high < 2 ^ 64) × (high / 2 ^ 12 % 16 ≡ 8)) → (u ≡ true → uuid high 0 ≡ text) →
        cond (t && u) (Some high) None ≡ Some core → IsCoreText core text
    by true true is same e = let it : high ≡ core = cc in rw (← it) (is refl, sym (same refl))
    by true false is same e = absurd (cc)
    by false u is same e = absurd (cc)

first_in : (text : Text) (half : Option ℕ) (core : ℕ) → option_and_then (core_in text) half ≡ Some core → IsCoreText core text
first_in text None core e = absurd (cc)
first_in text (Some high) core e = in_is text high core e

pub core_found : (text : Text) (core : ℕ) → core_of text ≡ Some core → IsCore core
unfolding core_of
core_found text core e = (first_in text (high_of text) core e).0

is_in : (text : Text) (core : ℕ) → IsCoreText core text → core_in text core ≡ Some core
is_in text core is =
    let number = true-is_core core is.0.0 is.0.1 in
    let same : bytes_eq (uuid core 0) text ≡ true = (bytes_eq-Decides (uuid core 0) text).1 (sym is.1) in
    rw (number, same) refl

pub core_is : (text : Text) (found : Option ℕ) → ((core : ℕ) → (found ≡ Some core) ↔ IsCoreText core text) → found ≡ core_of text
unfolding core_of
core_is text found tells =
    same_option found (option_and_then (core_in text) (high_of text))
    (λ core e.
    let is = (tells core).0 e in
    let high : high_of text ≡ Some core = ap high_of is.1 ∙ uuid_owned core 0 is.0 (omega arith) in
    rw high (is_in text core is))
    (λ core e. (tells core).1 (first_in text (high_of text) core e))
