-- How a line is sent in parts.
use Rattle.std.proofs.Common.{◌≡◌, ◌+◌, ◌<◌, ℕ, List, [], ◌∷◌, ◌++◌, Bor, length, map, take, drop, sym, ap, ◌∙◌, subst}
use Rattle.std.proofs.lemmas.List.{take_more, take-append-drop, map-append, append-nil}
use Rattle.std.proofs.lemmas.List.Folds.{concat-append}
use Rattle.std.specs.List.{concat}
use lib.ListN.{get_or}
use Rattle.fs_ports.specs.Ports.{Output, Writes, Stopped}
use Rattle.fs_ports.proofs.Sides.{writes_both, stopped_later, stopped_sooner}

-- the bytes of these parts
abbrev joined : List (Bor (List ℕ)) → List ℕ
joined parts = concat (map (λ part. part.now) parts)

-- the parts so far, and one more
joined-more : (parts : List (Bor (List ℕ))) (n : ℕ) (none : Bor (List ℕ)) → n < length parts →
    joined (take (n + 1) parts) ≡ joined (take n parts) ++ (get_or parts n none).now
joined-more parts n none within =
    ap joined (take_more parts n none within)
    ∙ ap concat (map-append (λ (part : Bor (List ℕ)). part.now) (take n parts) (get_or parts n none ∷ []))
    ∙ concat-append (map (λ (part : Bor (List ℕ)). part.now) (take n parts)) ((get_or parts n none).now ∷ [])
    ∙ ap (λ xs. joined (take n parts) ++ xs) (append-nil (get_or parts n none).now)

-- one more part was sent
pub parts_more : (old mid new : Output) (parts : List (Bor (List ℕ))) (n : ℕ) (none : Bor (List ℕ)) → n < length parts →
    Writes old mid (concat (map (λ part. part.now) (take n parts))) → Writes mid new (get_or parts n none).now →
    Writes old new (concat (map (λ part. part.now) (take (n + 1) parts)))
parts_more old mid new parts n none within first second =
    subst (λ (xs : List ℕ). Writes old new xs) (sym (joined-more parts n none within))
    (writes_both old mid new (joined (take n parts)) (get_or parts n none).now first second)

-- the sending of a part stopped
pub parts_stopped : (old mid new : Output) (parts : List (Bor (List ℕ))) (n : ℕ) (none : Bor (List ℕ)) → n < length parts →
    Writes old mid (concat (map (λ part. part.now) (take n parts))) → Stopped mid new (get_or parts n none).now →
    Stopped old new (concat (map (λ part. part.now) parts))
parts_stopped old mid new parts n none within first second =
    let split : joined (take (n + 1) parts) ++ joined (drop (n + 1) parts) ≡ joined parts =
    sym (concat-append (map (λ (part : Bor (List ℕ)). part.now) (take (n + 1) parts))
    (map (λ (part : Bor (List ℕ)). part.now) (drop (n + 1) parts)))
    ∙ ap concat (sym (map-append (λ (part : Bor (List ℕ)). part.now) (take (n + 1) parts) (drop (n + 1) parts)))
    ∙ ap joined (take-append-drop (n + 1) parts) in
    let here : Stopped old new (joined (take (n + 1) parts)) =
    subst (λ (xs : List ℕ). Stopped old new xs) (sym (joined-more parts n none within))
    (stopped_later old mid new (joined (take n parts)) (get_or parts n none).now first second) in
    subst (λ (xs : List ℕ). Stopped old new xs) split
    (stopped_sooner old new (joined (take (n + 1) parts)) (joined (drop (n + 1) parts)) here)
