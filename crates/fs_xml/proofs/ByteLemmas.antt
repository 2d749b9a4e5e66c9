-- A run of bytes in front, and what follows it.
use Rattle.std.proofs.Common.{◌≡◌, ℕ, ◌-◌, Bool, true, false, cond, List, [], ◌∷◌, ◌++◌, length, take, drop, refl, sym, ap, ◌∙◌, arith}
use Rattle.std.specs.List.{take_while}
use Rattle.std.proofs.lemmas.List.{length-append}
use Rattle.std.proofs.lemmas.List.Sums.{take_while-cons}
use Rattle.std.proofs.Math.Seq.{take-append_seam, drop-append_seam}
use Rattle.fs_xml.specs.Bytes.{past}

-- the run and what follows it are the whole
pub run_past : (p : ℕ → Bool) (bytes : List ℕ) → take_while p bytes ++ past p bytes ≡ bytes
run_past p [] = refl
run_past p (b ∷ bytes) = rw take_while-cons (by (p b) (run_past p bytes))
  where
    by : (t : Bool) → take_while p bytes ++ past p bytes ≡ bytes →
        cond t (b ∷ take_while p bytes) [] ++ cond t (past p bytes) (b ∷ bytes) ≡ b ∷ bytes
    by true h = ap (λ more. b ∷ more) h
    by false h = refl

run_length : (p : ℕ → Bool) (bytes : List ℕ) → length bytes - length (past p bytes) ≡ length (take_while p bytes)
run_length p bytes = omega (arith, ap length (run_past p bytes), length-append (take_while p bytes) (past p bytes))

pub front_is : (p : ℕ → Bool) (bytes : List ℕ) → take (length bytes - length (past p bytes)) bytes ≡ take_while p bytes
front_is p bytes =
    ap (λ n. take n bytes) (run_length p bytes) ∙ ap (take (length (take_while p bytes))) (sym (run_past p bytes))
    ∙ take-append_seam (take_while p bytes) (past p bytes)

pub back_is : (p : ℕ → Bool) (bytes : List ℕ) → drop (length bytes - length (past p bytes)) bytes ≡ past p bytes
back_is p bytes =
    ap (λ n. drop n bytes) (run_length p bytes) ∙ ap (drop (length (take_while p bytes))) (sym (run_past p bytes))
    ∙ drop-append_seam (take_while p bytes) (past p bytes)
