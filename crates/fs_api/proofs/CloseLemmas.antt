-- The last `)` of a text, from its end.
use Rattle.std.proofs.Common.{◌≡◌, ℕ, suc, ◌-◌, ◌≤◌, ◌==◌, Bool, true, false, [], ◌∷◌, ◌++◌, length, take, get_or, None, Some, refl, sym}
use Rattle.std.proofs.Common.{ap, ◌∙◌, arith}
use Rattle.std.proofs.lemmas.Bool.{eqb-true, eq-eqb}
use Rattle.std.proofs.Math.Seq.{drop-cons}
use Rattle.std.proofs.lemmas.List.{take-append-drop, drop_all}
use Rattle.std.specs.Prelude.{if◌then◌else◌}
use Rattle.fs_text.specs.Texts.{Text}
use Rattle.fs_api.specs.Originates.{is_close, before_close, more_before_close}

-- behind a last byte that is one
pub closes : (front : Text) (last : ℕ) → is_close last ≡ true → before_close (front ++ last ∷ []) ≡ Some front
closes [] last is = ap (λ b. if b then Some [] else None) is
closes (byte ∷ front) last is = ap (more_before_close byte) (closes front last is)

-- a last byte that is none changes nothing
pub goes_on : (front : Text) (last : ℕ) → is_close last ≡ false → before_close (front ++ last ∷ []) ≡ before_close front
goes_on [] last is = ap (λ b. if b then Some [] else None) is
goes_on (byte ∷ front) last is = ap (more_before_close byte) (goes_on front last is)

-- a text that is not empty, as a front and its last byte
seam : (text : Text) (d : ℕ) → 1 ≤ length text → text ≡ take (length text - 1) text ++ get_or text (length text - 1) d ∷ []
seam text d some =
    let n : ℕ = length text - 1 in
    sym (take-append-drop n text)
    ∙ ap (λ rest. take n text ++ rest) (drop-cons text n d (omega (arith, some))
    ∙ ap (λ rest. get_or text n d ∷ rest) (drop_all (suc n) text (omega (arith, some))))

pub closes_before : (text : Text) (d : ℕ) → 1 ≤ length text → get_or text (length text - 1) d ≡ 41 →
    before_close text ≡ Some (take (length text - 1) text)
closes_before text d some is =
    ap before_close (seam text d some) ∙ closes (take (length text - 1) text) (get_or text (length text - 1) d)
    (eq-eqb (get_or text (length text - 1) d) 41 is)

-- a byte that is none
no_close : (byte : ℕ) → (byte ≡ 41 → ⊥) → is_close byte ≡ false
no_close byte isnt = on (byte == 41) refl
  where
    on : (b : Bool) → (byte == 41) ≡ b → b ≡ false
    on true e = absurd (isnt (eqb-true byte 41 e))
    on false e = refl

pub goes_on_before : (text : Text) (d : ℕ) → 1 ≤ length text → (get_or text (length text - 1) d ≡ 41 → ⊥) →
    before_close text ≡ before_close (take (length text - 1) text)
goes_on_before text d some isnt =
    ap before_close (seam text d some) ∙ goes_on (take (length text - 1) text) (get_or text (length text - 1) d)
    (no_close (get_or text (length text - 1) d) isnt)
