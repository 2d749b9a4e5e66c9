-- Texts as they stand in strings.
use Rattle.std.proofs.Common.{Result, Ok, Err, IsOk, MatchResult, Bor, ◌≡◌, ℕ, ◌<◌, Bool, true, false, All, ap, ◌∙◌, arith, inl}
use Rattle.std.proofs.Common.{inr, ◌||◌, ◌==◌, nat_lt, refl}
use Rattle.std.proofs.lemmas.Bool.{or_parts}
use Rattle.std.proofs.lemmas.Bool.Decides.{nat_tests}
use Rattle.std.proofs.lemmas.List.Elements.{All-weaker}
use Rattle.std.proofs.lemmas.Str.{IsUtf8-from_is_utf8, is_utf8-from_IsUtf8, IsUtf8-from_ascii}
use Rattle.std.proofs.lemmas.Str.Ascii.{IsAscii-from_all}
use Rattle.std.specs.List.{list_any}
use Rattle.std.specs.Str.{IsUtf8, is_utf8}
use Rattle.fs_text.specs.Escape.{escape, marks, IsClean}
use Rattle.fs_text.specs.Texts.{Text}
use Rattle.fs_json.specs.Fields.{shown}

pub shown_as_it_is : (text : Text) → IsUtf8 text → shown text ≡ text
unfolding shown
shown_as_it_is text is = rw (is_utf8-from_IsUtf8 text is)

not_utf8 : (b : Bool) → (b ≡ true → ⊥) → b ≡ false
not_utf8 true fails = absurd (fails cc)
not_utf8 false _ = cc

pub shown_escaped : (text : Text) → (IsUtf8 text → ⊥) → shown text ≡ escape text
unfolding shown
shown_escaped text fails = rw (not_utf8 (is_utf8 text) (λ is. fails (IsUtf8-from_is_utf8 text is)))

-- ---- an escaped text is ASCII

clean_is_ascii : (b : ℕ) → IsClean b → b < 128
clean_is_ascii b (inl sign) = omega (arith, sign)
clean_is_ascii b (inr kept) =
    let front = or_parts (nat_lt b 32 || nat_lt 126 b) (list_any (λ m. m == b) marks) kept in
    let high : nat_lt 126 b ≡ false = (or_parts (nat_lt b 32) (nat_lt 126 b) front.0).1 in
    grind (arith, nat_tests)

pub clean_is_utf8 : (text : Text) → All IsClean text → IsUtf8 text
clean_is_utf8 text are = IsUtf8-from_ascii text (IsAscii-from_all text (All-weaker IsClean (λ b. b < 128) clean_is_ascii text are))

-- UTF-8 is read as text
pub is_read : {E : Type 0} (text : Text) (read : Result (Bor Text) E) (P : Bor Text → Type 0) (Q : E → Type 0)
    → MatchResult read (λ s. P s × IsUtf8 text) (λ e. (¬ (IsUtf8 text)) × Q e) → IsUtf8 text → IsOk read
is_read text (Ok s) P Q cases is = refl
is_read text (Err e) P Q cases is = absurd (cases.0 is)

-- and stands there as it is
pub text_read : {E : Type 0} (text : Text) (read : Result (Bor Text) E) (s : Bor Text) (Q : E → Type 0) → read ≡ Ok s
    → MatchResult read (λ s. (s.now ≡ text) × IsUtf8 text) (λ e. (¬ (IsUtf8 text)) × Q e) → s.now ≡ text
text_read text (Ok r) s Q is cases = let same : s ≡ r = cc in ap (λ (x : Bor Text). x.now) same ∙ cases.0
text_read text (Err e) s Q is cases = absurd cc
