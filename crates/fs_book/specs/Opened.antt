-- Which entries of a journal open a number and which name one, and whose they are.
use Rattle.std.specs.Prelude.{◌≡◌, ◌≢◌, ℕ, ◌<◌, List, [], ◌∷◌, ◌++◌, length, take, Option, Some, slice_get}
use mathlib.Core.Option.{some}
use lib.ListN.{get_elem?}
use Rattle.fs_book.specs.Counts.{times}

-- the entry at the place opens the number
abbrev pub OpensAt : {B E : Type 0} → (B → List E → E → Option ℕ) → B → List E → ℕ → ℕ → Type 0
OpensAt {B} {E} opens origin log p number = (entry : E) × (slice_get log p ≡ Some entry) × (opens origin (take p log) entry ≡ Some number)

-- the entry at the place names the number
abbrev pub NamesAt : {E : Type 0} → (E → Option ℕ) → List E → ℕ → ℕ → Type 0
NamesAt {E} names log p number = (entry : E) × (slice_get log p ≡ Some entry) × (names entry ≡ Some number)

-- one of the places opens the number
abbrev pub OwnsNumber : {B E : Type 0} → (B → List E → E → Option ℕ) → B → ℕ → List E → List ℕ → Type 0
OwnsNumber opens origin number log places = (p : ℕ) × (0 < times p places) × OpensAt opens origin log p number

-- where the entry names a number, one of the places opens it
abbrev pub NamesOwn : {B E : Type 0} → (B → List E → E → Option ℕ) → (E → Option ℕ) → B → List E → List ℕ → E → Type 0
NamesOwn opens names origin log places entry = (number : ℕ) → names entry ≡ Some number → OwnsNumber opens origin number log places

-- each later place is the larger
abbrev pub Rises : List ℕ → Type 0
Rises places = (i j p q : ℕ) → i < j → slice_get places i ≡ Some p → slice_get places j ≡ Some q → p < q

module _ {B E : Type 0} (opens : B → List E → E → Option ℕ) (names : E → Option ℕ) (start : Option B) (lists : List (List ℕ))
    (seen : List E) where
  -- what names a number stands in a list that opens it
  abbrev pub Closed : Type 0
  Closed =
      (origin : B) → start ≡ Some origin → (k : ℕ) (l : List ℕ) → get_elem? lists k ≡ some l → (p number : ℕ) → 0 < times p l
      → NamesAt names seen p number → OwnsNumber opens origin number seen l

  -- the same, as a fact and no data
  abbrev pub NoStray : Type 0
  NoStray =
      (origin : B) → start ≡ Some origin → (k : ℕ) (l : List ℕ) → get_elem? lists k ≡ some l → (p number : ℕ) → 0 < times p l
      → NamesAt names seen p number → (OwnsNumber opens origin number seen l → ⊥) → ⊥

  -- a list that opens a number has each place that names it
  abbrev pub Owned : Type 0
  Owned =
      (origin : B) → start ≡ Some origin → (k : ℕ) (l : List ℕ) → get_elem? lists k ≡ some l → (q number : ℕ) → 0 < times q l
      → OpensAt opens origin seen q number → (p : ℕ) → NamesAt names seen p number → 0 < times p l

  -- what the type of a pass says of its lists: they rise, their places are those of what was seen, and what names a number stands where
  -- it was opened
  pub record IsSound : Type 0 where
    pub places : (k : ℕ) (l : List ℕ) → get_elem? lists k ≡ some l → (p : ℕ) → 0 < times p l → p < length seen
    pub rising : (k : ℕ) (l : List ℕ) → get_elem? lists k ≡ some l → Rises l
    pub owned : Owned
    pub closed : NoStray

-- no entry names the number
abbrev pub NoneNames : {E : Type 0} → (E → Option ℕ) → ℕ → List E → Type 0
NoneNames names number [] = Unit {0}
NoneNames names number (entry ∷ entries) = (names entry ≢ Some number) × NoneNames names number entries

-- nothing that names the number was appended
pub record Quiet {E : Type 0} (names : E → Option ℕ) (number : ℕ) (old new : List E) : Type 0 where
  pub more : List E
  pub split : old ++ more ≡ new
  pub none : NoneNames names number more
