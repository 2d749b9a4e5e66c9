-- Sums over a list, and how often a place stands in lists.
use Rattle.std.specs.Prelude.{ℕ, ◌+◌, ◌==◌, nat_lt, if◌then◌else◌, List, [], ◌∷◌}

-- f of each, added up
abbrev pub total : {V : Type 0} → (V → ℕ) → List V → ℕ
total f [] = 0
total f (v ∷ vs) = f v + total f vs

-- how often the place stands in the list
abbrev pub times : ℕ → List ℕ → ℕ
times p places = total (λ q. if q == p then 1 else 0) places

-- how often it stands in a list that has each place below n once
abbrev pub once_below : ℕ → ℕ → ℕ
once_below p n = if nat_lt p n then 1 else 0
