-- How many seats there are, and the first of them of which a test holds.
use Rattle.std.proofs.Common.{◌≡◌, ℕ, ◌+◌, Bool, List, [], ◌∷◌, length, Option, None, Some, cond, refl, sym, ap, ◌∙◌}
use Rattle.std.specs.List.{position, position_from}
use Rattle.std.proofs.lemmas.List.{length-replicate}
use Rattle.std.proofs.lemmas.Iterator.Adapters.{position_from-zero}
use Rattle.fs_seats.specs.Seats.{no_seats, first_seat}

-- so many empty seats are so many seats
pub no_seats_length : (T : Type 0) (count : ℕ) → length (no_seats {T = T} count) ≡ count
unfolding no_seats
no_seats_length T count = length-replicate count None

-- the first seat from one on is told as a position
from_there : {T : Type 0} → (test : Option T → Bool) (seats : List (Option T)) (seat : ℕ) →
    first_seat test seats seat ≡ position_from test seat seats
from_there test [] seat = refl
from_there test (held ∷ more) seat = ap (λ later. cond (test held) (Some seat) later) (from_there test more (seat + 1))

-- the first of all seats is the position
pub first_of_all : {T : Type 0} → (test : Option T → Bool) (seats : List (Option T)) → first_seat test seats 0 ≡ position test seats
first_of_all test seats = from_there test seats 0 ∙ sym (position_from-zero test seats)
