-- What a reference means, and where it ends, where its parts are told.
use Rattle.std.proofs.Common.{◌≡◌, ℕ, suc, ◌+◌, true, false, [], ◌∷◌, ◌++◌, length, drop, codes, None, Some, unwrap_or, append_assoc, refl}
use Rattle.std.proofs.Common.{ap, ◌∙◌, arith}
use Rattle.std.specs.List.{list_any}
use Rattle.std.proofs.Math.Seq.{drop-append-add}
use Rattle.fs_text.specs.Words.{is_byte, halves_of}
use Rattle.fs_text.specs.Texts.{Text}
use Rattle.fs_text.proofs.Cuts.{found_behind, before_behind, after_behind, nothing_after}
use Rattle.fs_vars.specs.declared.part.Part.{Part}
use Rattle.fs_vars.specs.Pairs.{Pairs, value_of}
use Rattle.fs_vars.specs.Parts.{part_in, part_of}
use Rattle.fs_vars.specs.Expansion.{expanded, meaning, value_asked, asked_name, asked_part, inside_of, is_brace, is_call, IsPlainName}
use Rattle.fs_vars.proofs.ExpansionLemmas.{expanded-reference}

-- a reference whose inside is told
pub expanded-written : (known : Pairs) (inside rest : Text) → list_any is_brace inside ≡ false →
    expanded known (codes "${" ++ inside ++ codes "}" ++ rest) ≡ meaning known inside ++ expanded known rest
expanded-written known inside rest none =
    let text : Text = 36 ∷ 123 ∷ (inside ++ 125 ∷ rest) in
    let within : inside_of text ≡ inside = before_behind is_brace inside 125 rest none refl in
    let behind : drop (length inside + 3) text ≡ rest =
    ap (λ n. drop n text) (three (length inside)) ∙ drop-append-add inside (125 ∷ rest) 1 in
    let whole = expanded-reference known text (found_behind is_brace inside 125 rest refl) in
    ap (λ more. expanded known (36 ∷ 123 ∷ more)) (append_assoc inside (codes "}") rest)
    ∙ whole ∙ ap (λ bytes. meaning known bytes ++ expanded known (drop (length bytes + 3) text)) within
    ∙ ap (λ more. meaning known inside ++ expanded known more) behind
  where
    three : (n : ℕ) → n + 3 ≡ suc (suc (n + 1))
    three n = omega arith

-- a plain name asks for no part
asked_part-name : (name : Text) → IsPlainName name → asked_part name ≡ None
unfolding halves_of
asked_part-name name plain = ap part_in (nothing_after (is_byte 58) name plain.no_colon)

-- and means its value
pub meaning-name : (known : Pairs) (name : Text) → IsPlainName name → meaning known name ≡ unwrap_or (value_of known name) []
unfolding meaning value_asked
meaning-name known name plain = rw (asked_part-name name plain, plain.no_call)

-- what is asked for behind it is a part of that value
pub meaning-part : (known : Pairs) (name asked : Text) (part : Part) → IsPlainName name → part_in asked ≡ Some part →
    meaning known (name ++ codes ":" ++ asked) ≡ part_of part (unwrap_or (value_of known name) [])
unfolding meaning value_asked
meaning-part known name asked part plain is =
    let whole = append_assoc name (codes ":") asked in
    let before = before_behind (is_byte 58) name 58 asked plain.no_colon refl in
    let after = ap part_in (after_behind (is_byte 58) name 58 asked plain.no_colon refl) ∙ is in
    rw (whole, after, before, plain.no_call)

-- and a name with `(` or `$` means nothing
pub meaning-written : (known : Pairs) (inside : Text) → list_any is_call (asked_name inside) ≡ true →
    meaning known inside ≡ codes "${" ++ inside ++ codes "}"
unfolding meaning value_asked
meaning-written known inside call = rw call
