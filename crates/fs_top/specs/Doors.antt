-- What the one at the door does: it counts faults, and halts the switch behind one.
use Rattle.std.specs.Prelude.{◌≡◌, ◌⊎◌, ℕ, ◌<◌, ◌≤◌, List, [], ◌∷◌, ◌++◌, length}
use mathlib.Core.List.{IsPrefix}
use Rattle.fs_doc.specs.Reading.{Configuration}
use Rattle.fs_machine.specs.declared.entry.Entry.{Entry}
use Rattle.fs_machine.specs.declared.entry.Act.TheVariants.{Halt}
use Rattle.fs_machine.specs.Turned.{IsJournal}

-- the count rose; one that has no room left counts as risen
abbrev pub Rose : ℕ → ℕ → Type 0
Rose old new = (old < new) ⊎ (18446744073709551615 ≤ new)

module _ (may : ℕ → Type 0) (config : Configuration) (seen : List Entry) (mine : List ℕ) (seen' : List Entry) (mine' : List ℕ) where
  -- the switch was halted, at a moment that may be told. Others may have entered something before it.
  pub record Halted : Type 0 where
    pub moment : ℕ
    pub told : may moment
    pub before : List Entry
    pub front : IsPrefix seen before
    pub sees : seen' ≡ before ++ record { moment = moment; act = Halt } ∷ []
    pub more : mine' ≡ mine ++ length before ∷ []
    pub run : IsJournal config seen'

  -- it was not
  pub record Unhalted : Type 0 where
    pub front : IsPrefix seen seen'
    pub same : mine' ≡ mine
    pub run : IsJournal config seen'

  -- one of both
  abbrev pub Halts : Type 0
  Halts = Halted ⊎ Unhalted
