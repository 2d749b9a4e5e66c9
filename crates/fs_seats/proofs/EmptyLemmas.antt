-- A table of which one seat after another is emptied.
use Rattle.std.proofs.Common.{◌≡◌, ℕ, zero, suc, ◌+◌, ◌<◌, ◌≤◌, List, [], ◌∷◌, ◌++◌, length, drop, Option, None, refl, ap, ◌∙◌, arith}
use Rattle.fs_seats.specs.Seats.{no_seats, held_in, with_held, IsEmptyFrom}
use Rattle.fs_seats.specs.Sheets.{written}

pub emptied_first : {T : Type 0} → (seats : List (Option T)) → written seats [] ≡ no_seats 0 ++ drop 0 seats
unfolding no_seats
emptied_first seats = refl

emptied_one : {T : Type 0} → (seats : List (Option T)) (seat : ℕ) → seat < length seats →
    with_held (no_seats seat ++ drop seat seats) seat None ≡ no_seats (suc seat) ++ drop (suc seat) seats
unfolding no_seats
emptied_one [] seat within = absurd (omega (arith, within))
emptied_one (held ∷ more) zero within = refl
emptied_one (held ∷ more) (suc seat) within = ap (λ left. None ∷ left) (emptied_one more seat (omega (arith, within)))

pub emptied_next : {T : Type 0} → (seats now : List (Option T)) (seat : ℕ) → seat < length seats →
    now ≡ no_seats seat ++ drop seat seats → with_held now seat None ≡ no_seats (seat + 1) ++ drop (seat + 1) seats
emptied_next seats now seat within is =
    ap (λ list. with_held list seat None) is ∙ emptied_one seats seat within
    ∙ ap (λ n. no_seats n ++ drop n seats) {x = suc seat} {y = seat + 1} (omega arith)

none_left : {T : Type 0} → (seats : List (Option T)) (from : ℕ) → from ≤ length seats → ((k : ℕ) → from ≤ k → held_in seats k ≡ None) →
    no_seats from ++ drop from seats ≡ no_seats (length seats)
unfolding no_seats
none_left [] zero within none = refl
none_left [] (suc from) within none = absurd (omega (arith, within))
none_left (held ∷ more) zero within none =
    ap (λ here. here ∷ more) (none 0 (omega arith))
    ∙ ap (λ left. None ∷ left) (none_left more zero (omega arith) (λ k from. none (suc k) (omega arith)))
none_left (held ∷ more) (suc from) within none =
    ap (λ left. None ∷ left) (none_left more from (omega (arith, within)) (λ k past. none (suc k) (omega (arith, past))))

-- from the first empty one on nothing is to be emptied
pub emptied_all : {T : Type 0} → (seats now : List (Option T)) (from seat : ℕ) → IsEmptyFrom from seats → from ≤ seat →
    seat ≤ length seats → now ≡ no_seats seat ++ drop seat seats → now ≡ no_seats (length seats)
emptied_all seats now from seat empty past within is =
    is ∙ none_left seats seat within (λ k behind. empty.each k (omega (arith, past, behind)))

pub ruleset emptied_rules = (emptied_first, emptied_next)
