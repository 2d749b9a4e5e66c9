-- The places of the ring, and which events they keep.
use Rattle.std.specs.Prelude.{◌≡◌, ◌≢◌, ℕ, ◌+◌, ◌-◌, ◌*◌, ◌<◌, ◌≤◌, Bool, true, false, nat_le, if◌then◌else◌}
use Rattle.std.specs.Prelude.{List, [], ◌∷◌, ◌++◌, All, length, slice_get, filter_map, Option, None, Some, is_some}
use Rattle.std.specs.Option.{option_map}
use Rattle.std.specs.List.{AllPairs}
use Rattle.circular_buffer.specs.Buffer.{last_item}
use Rattle.fs_event.specs.declared.place.Kept.{Kept}
use Rattle.fs_event.specs.declared.place.Place.{Place}
use Rattle.fs_event.specs.Rings.{Pair}

module _ {T : Type 0} where
  -- ---- one place

  -- what is kept with one reader less
  abbrev pub less_one : Option (Kept T) → Option (Kept T)
  less_one None = None
  less_one (Some kept) = if nat_le kept.readers 1 then None else Some (record kept { readers = kept.readers - 1 })

  abbrev pub read_once : Place T → Place T
  read_once place = record place { kept = less_one place.kept }

  -- its event goes with the next reader
  abbrev pub is_last_of : Option (Kept T) → Bool
  is_last_of None = false
  is_last_of (Some kept) = nat_le kept.readers 1

  abbrev pub is_last : Place T → Bool
  is_last place = is_last_of place.kept

  -- it keeps an event
  abbrev pub is_kept : Place T → Bool
  is_kept place = is_some place.kept

  -- the event that it keeps
  abbrev pub event_of : Place T → Option T
  event_of place = option_map (λ kept. kept.event) place.kept

  -- the pair that it keeps
  abbrev pub pair_with : ℕ → Kept T → Pair T
  pair_with number kept = record { number = number; event = kept.event; readers = kept.readers }

  abbrev pub pair_of : Place T → Option (Pair T)
  pair_of place = option_map (pair_with place.number) place.kept

  -- ---- all places

  abbrev pub pairs_of : List (Place T) → List (Pair T)
  pairs_of places = filter_map pair_of places

  -- their numbers rise
  abbrev pub IsOrdered : List (Place T) → Type 0
  IsOrdered places = AllPairs (λ place later. place.number < later.number) places

  -- what holds of the places of a ring that keeps so many events
  pub record IsRing (places : List (Place T)) (held : ℕ) : Type 0 where
    pub order : IsOrdered places
    pub count : held ≡ length (pairs_of places)
    pub slots : length places ≤ 2 * held + 1
    pub read : All (λ pair. 0 < pair.readers) (pairs_of places)

  -- the place with this index is of this number
  abbrev pub IsAt : ℕ → List (Place T) → ℕ → Type 0
  IsAt number places index = option_map (λ place. place.number) (slice_get places index) ≡ Some number

  -- no place is of this number
  abbrev pub IsNowhere : ℕ → List (Place T) → Type 0
  IsNowhere number places = All (λ place. place.number ≢ number) places

  -- ---- places that are given up

  -- without the first place, if its event went
  abbrev pub without_front : List (Place T) → List (Place T)
  without_front [] = []
  without_front (place ∷ places) = if is_kept place then place ∷ places else places

  -- with the first place behind all others, or given up if its event went
  abbrev pub turned_once : List (Place T) → List (Place T)
  turned_once [] = []
  turned_once (place ∷ places) = if is_kept place then places ++ place ∷ [] else places

  -- the same events are kept, in order, in no more places
  pub record KeepsPairs (old new : List (Place T)) : Type 0 where
    pub pairs : pairs_of new ≡ pairs_of old
    pub order : IsOrdered new
    pub fewer : length new ≤ length old

  -- the last place, if there is one, keeps its event
  pub record IsKeptLast (places : List (Place T)) : Type 0 where
    pub last : (place : Place T) → last_item places ≡ Some place → is_kept place ≡ true

  -- the last place lost its event
  pub record HasEmptyLast (places : List (Place T)) : Type 0 where
    pub place : Place T
    pub last : last_item places ≡ Some place
    pub empty : is_kept place ≡ false

-- one if it is so
abbrev pub one_if : Bool → ℕ
one_if b = if b then 1 else 0
