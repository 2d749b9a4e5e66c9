-- The events that are still to be read, and what each change makes of them. T is the form in which they are kept.
use Rattle.std.specs.Prelude.{◌≡◌, ◌≢◌, ℕ, ◌-◌, ◌==◌, ◌<◌, Bool, nat_le, if◌then◌else◌, List, [], ◌∷◌, ◌++◌, All}
use Rattle.std.specs.Prelude.{Option, None, Some}
use Rattle.std.specs.Option.{option_map}
use Rattle.std.specs.List.{find, AllPairs}

-- an event with its number, and how many are still to read it
pub record Pair (T : Type 0) : Type 0 where
  pub number : ℕ
  pub event : T
  pub readers : ℕ

-- the pairs that are held, how many places are in use, and how many more are set aside
pub record Events (T : Type 0) : Type 0 where
  pub pairs : List (Pair T)
  pub slots : ℕ
  pub spare : ℕ

module _ {T : Type 0} where
  abbrev pub no_events : Events T
  no_events = record { pairs = []; slots = 0; spare = 0 }

  -- it has this number
  abbrev pub has_number : ℕ → Pair T → Bool
  has_number number pair = pair.number == number

  -- the event of a number, where it is held
  abbrev pub event_of : ℕ → List (Pair T) → Option T
  event_of number pairs = option_map (λ pair. pair.event) (find (has_number number) pairs)

  -- with one more event behind all others
  abbrev pub pushed : ℕ → T → ℕ → List (Pair T) → List (Pair T)
  pushed number event readers pairs = pairs ++ record { number = number; event = event; readers = readers } ∷ []

  -- with one reader less of the event of a number; at none it goes
  abbrev pub released : ℕ → List (Pair T) → List (Pair T)
  released number [] = []
  released number (pair ∷ pairs) =
      if has_number number pair
      then (if nat_le pair.readers 1 then pairs else record pair { readers = pair.readers - 1 } ∷ pairs)
      else pair ∷ released number pairs

  -- the numbers of all are less than this one
  abbrev pub AreBelow : ℕ → List (Pair T) → Type 0
  AreBelow number pairs = All (λ pair. pair.number < number) pairs

  -- what holds of the pairs of a ring
  pub record IsSound (pairs : List (Pair T)) : Type 0 where
    pub order : AllPairs (λ pair later. pair.number < later.number) pairs
    pub read : All (λ pair. 0 < pair.readers) pairs

  -- a pair with one reader less; none where that was the last
  abbrev pub less_one : Option (Pair T) → Option (Pair T)
  less_one None = None
  less_one (Some pair) = if nat_le pair.readers 1 then None else Some (record pair { readers = pair.readers - 1 })

-- the pair of a number loses a reader, and goes with the last one
abbrev pub OneIsReleased : Type 0 → Type 0
OneIsReleased T =
    (number : ℕ) (pairs : List (Pair T)) → IsSound pairs →
    find (has_number number) (released number pairs) ≡ less_one (find (has_number number) pairs)

-- the pairs of other numbers stay
abbrev pub OthersAreHeld : Type 0 → Type 0
OthersAreHeld T =
    (number other : ℕ) (pairs : List (Pair T)) → number ≢ other →
    find (has_number other) (released number pairs) ≡ find (has_number other) pairs

-- no number is greater than before
abbrev pub NumbersStayBelow : Type 0 → Type 0
NumbersStayBelow T =
    (number end : ℕ) (pairs : List (Pair T)) → AreBelow end pairs → AreBelow end (released number pairs)
