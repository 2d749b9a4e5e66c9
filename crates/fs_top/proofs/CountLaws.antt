-- How the lines of a table are put together, a row after another.
use Rattle.std.proofs.Common.{◌≡◌, ◌+◌, ◌<◌, ◌≤◌, ℕ, List, [], ◌∷◌, ◌++◌, Bor, length, map, take, sym, ap, ◌∙◌, append_assoc}
use Rattle.std.proofs.lemmas.List.{take_more, take_all, map-append, append-nil}
use Rattle.std.proofs.lemmas.List.Folds.{concat-append}
use Rattle.std.specs.List.{concat}
use lib.ListN.{get_or}

-- a row of a table: a value, its number and its name
abbrev Row : Type 0 → Type 0
Row A = A × ℕ × Bor (List ℕ)

-- the lines of these values, those of one more of which is at the front of a row
lines_more : {A : Type 0} (line : A → List ℕ) (rows : List (Row A)) (n : ℕ) (none : Row A) → n < length rows →
    concat (map line (map (λ row. row.0) (take (n + 1) rows)))
    ≡ concat (map line (map (λ row. row.0) (take n rows))) ++ line (get_or rows n none).0
lines_more {A} line rows n none within =
    let front : List (Row A) = take n rows in
    let row : Row A = get_or rows n none in
    ap (λ (xs : List (Row A)). concat (map line (map (λ row. row.0) xs))) (take_more rows n none within)
    ∙ ap (λ (xs : List A). concat (map line xs)) (map-append (λ (row : Row A). row.0) front (row ∷ []))
    ∙ ap concat (map-append line (map (λ (row : Row A). row.0) front) (row.0 ∷ []))
    ∙ concat-append (map line (map (λ (row : Row A). row.0) front)) (line row.0 ∷ [])
    ∙ ap (λ xs. concat (map line (map (λ (row : Row A). row.0) front)) ++ xs) (append-nil (line row.0))

-- behind the lines so far stand those of one more row
pub lines_on : {A : Type 0} (line : A → List ℕ) (rows : List (Row A)) (n : ℕ) (none : Row A) (before so_far after : List ℕ) →
    n < length rows → so_far ≡ before ++ concat (map line (map (λ row. row.0) (take n rows))) →
    after ≡ so_far ++ line (get_or rows n none).0 → after ≡ before ++ concat (map line (map (λ row. row.0) (take (n + 1) rows)))
lines_on {A} line rows n none before so_far after within is then =
    let lines : List ℕ = concat (map line (map (λ (row : Row A). row.0) (take n rows))) in
    let more : List ℕ = line (get_or rows n none).0 in
    then ∙ ap (λ xs. xs ++ more) is ∙ append_assoc before lines more
    ∙ ap (λ xs. before ++ xs) (sym (lines_more line rows n none within))

-- behind the last row they are those of all values
pub lines_all : {A : Type 0} (line : A → List ℕ) (rows : List (Row A)) (n : ℕ) (all : List A) (before so_far : List ℕ) →
    length rows ≤ n → map (λ row. row.0) rows ≡ all → so_far ≡ before ++ concat (map line (map (λ row. row.0) (take n rows))) →
    so_far ≡ before ++ concat (map line all)
lines_all {A} line rows n all before so_far whole are is =
    is ∙ ap (λ (xs : List (Row A)). before ++ concat (map line (map (λ row. row.0) xs))) (take_all n rows whole)
    ∙ ap (λ (xs : List A). before ++ concat (map line xs)) are
