use Rattle.std.proofs.Common.{◌≡◌, ℕ, Bool, true, false, List, Result, Ok, Err, is_ok, MatchResult, sym, ◌∙◌, Bor}
use Rattle.std.specs.Str.{IsUtf8, is_utf8}
use Rattle.std.proofs.lemmas.Str.{IsUtf8-from_is_utf8, is_utf8-from_IsUtf8}
use Rattle.fs_doc.proofs.attributes.is_utf8.Goals as goal

not_true : (b : Bool) → (b ≡ true → ⊥) → false ≡ b
not_true true fails = absurd (fails (cc))
not_true false _ = cc

decided : {E : Type 0} (text : List ℕ) (read : Result (Bor (List ℕ)) E) (P : Bor (List ℕ) → Type 0) (Q : E → Type 0)
    → MatchResult read (λ s. P s × IsUtf8 text) (λ e. (¬ (IsUtf8 text)) × Q e) → is_ok read ≡ is_utf8 text
decided text (Ok s) P Q h = sym (is_utf8-from_IsUtf8 text h.1)
decided text (Err e) P Q h = not_true (is_utf8 text) (λ is. h.0 (IsUtf8-from_is_utf8 text is))

pub returns : goal.returns
returns c = c.is_ok.ensures.value ∙ decided c.args.text.now c.from_utf8.result _ _ c.from_utf8.ensures.cases
