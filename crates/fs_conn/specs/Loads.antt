-- What a play loads.
use Rattle.std.specs.Prelude.{◌≡◌, ◌⊎◌, ℕ, ◌+◌, List, [], ◌∷◌, length, slice_get, Some}
use Rattle.fs_machine.specs.declared.note.LoadNote.{LoadNote}
use Rattle.fs_machine.specs.declared.loading.NewPlan.{NewPlan}
use Rattle.fs_machine.specs.Loading.{IsLoad, IsNoteOf, IsBuiltAsNoted, CountsLoad}
use Rattle.fs_conn.specs.declared.end.End.{End}
use Rattle.fs_conn.specs.declared.end.End.TheVariants as ends
use Rattle.fs_conn.specs.Filed.{FileView}

-- of so many loads that were answered the others are told as before
abbrev pub MovesBy : ℕ → FileView → FileView → Type 0
MovesBy count old new = (k : ℕ) → new.loads k ≡ old.loads (k + count)

-- none was answered
abbrev pub Stays : FileView → FileView → Type 0
Stays old new = (k : ℕ) → new.loads k ≡ old.loads k

-- the counts are the same
abbrev pub CountsNothing : FileView → FileView → Type 0
CountsNothing old new = (new.counts ≡ old.counts) × (new.sizes ≡ old.sizes)

-- they are what a load of this note made of them
abbrev pub CountsOne : LoadNote → FileView → FileView → Type 0
CountsOne note old new = CountsLoad note old.counts new.counts old.sizes new.sizes

-- they are what loads of these notes made of them, one after another
abbrev pub CountsAll : List LoadNote → FileView → FileView → Type 0
CountsAll [] old new = CountsNothing old new
CountsAll (note ∷ notes) old new = (mid : FileView) × CountsOne note old mid × CountsAll notes mid new

-- These are the notes of loads, in their order: each is the note of what the files told that this load would answer, and its document is what
-- it says. The loads to come are those behind them, and the counts are what these notes make of them.
pub record HasLoaded (old new : FileView) (notes : List LoadNote) : Type 0 where
  pub each : (k : ℕ) (note : LoadNote) → slice_get notes k ≡ Some note → IsNoteOf (old.loads k) note × IsBuiltAsNoted note
  pub rest : MovesBy (length notes) old new
  pub counts : CountsAll notes old new

-- what came of a load is as it is submitted, and is noted of what the files told that it would answer
pub record Loaded (old new : FileView) (load : NewPlan) : Type 0 where
  pub fits : IsLoad load
  pub told : IsNoteOf (old.loads 0) load.note
  pub built : IsBuiltAsNoted load.note
  pub rest : MovesBy 1 old new
  pub counts : CountsOne load.note old new

-- a load was begun for which memory was wanting
pub record Begun (old new : FileView) : Type 0 where
  pub rest : Stays old new ⊎ MovesBy 1 old new
  pub counts : CountsNothing old new

-- a load was begun of which nothing is noted, since memory was wanting: it was answered or was not, and counted or not
pub record MayHaveLoaded (old new : FileView) : Type 0 where
  pub rest : Stays old new ⊎ MovesBy 1 old new
  pub counts : CountsNothing old new ⊎ ((note : LoadNote) × CountsOne note old new)

-- these are the notes of loads, behind which one more may have been begun
pub record HasLoadedOrBegun (old new : FileView) (notes : List LoadNote) : Type 0 where
  pub mid : FileView
  pub noted : HasLoaded old mid notes
  pub begun : MayHaveLoaded mid new

-- what a play loaded of which these are the notes, by its end
unfoldable pub LoadsBy : End → FileView → FileView → List LoadNote → Type 0
LoadsBy ends.Memory old new notes = HasLoadedOrBegun old new notes
LoadsBy _ old new notes = HasLoaded old new notes
