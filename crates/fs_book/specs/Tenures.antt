-- Where a caller stands who waits for its turn, and who has the state.
use Rattle.std.specs.Prelude.{◌≡◌, ℕ, ◌%◌, ◌^◌, List, [], ◌∷◌, Option, Some, None}
use mathlib.Core.List.{IsPrefix}
use Rattle.atomic_table.specs.Table.{Me}
use Rattle.fs_book.specs.declared.view.Stage.TheVariants.{Waiting, Out}
use Rattle.fs_book.specs.declared.view.View.{View}
use Rattle.fs_book.specs.Turns.{Sound}

-- it waits with this ticket
abbrev pub IsWaiting : {S B E : Type 0} → View B E → ℕ → Me (Option S) (View B E) → Type 0
IsWaiting v ticket m = (k : ℕ) × (ticket ≡ k % (2 ^ 64)) × (m ≡ (record v { stage = Waiting k }, []))

-- it has the state, whose journal begins with all that it had seen
abbrev pub IsIn : {S B E : Type 0} → (S → B) → (S → List E) → (B → List E → E → Option ℕ) → (E → Option ℕ)
    → View B E → S → Me (Option S) (View B E) → Type 0
IsIn start journal opens names v x m =
    (k : ℕ) × (v.start ≡ Some (start x)) × IsPrefix v.seen (journal x) × Sound opens names m.0
    × (m ≡ (record v { stage = Out k; seen = journal x }, (0, None) ∷ []))
