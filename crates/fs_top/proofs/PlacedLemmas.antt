-- The lanes of slots come first, in their order, and so are met.
use Rattle.std.proofs.Common.{◌≡◌, ℕ, ◌+◌, ◌*◌, ◌≤◌, List, [], ◌∷◌, ◌++◌, length, take, drop, sym, ap, subst, ◌∙◌, arith, append-nil}
use Rattle.std.proofs.lemmas.List.{length_push, take_all}
use Rattle.std.proofs.Math.ListN.{drop_of_length-le}
use Rattle.fs_top.specs.declared.lanes.Lane.{Lane}
use Rattle.fs_top.specs.declared.lanes.Lane.TheVariants.{Slot, Staff}
use Rattle.fs_top.specs.Standing.{IsPlaced, ArePlaced, IsNext, HaveFailed, dialers_of}

-- what a slice that was lent of a list left there is the whole list, if it has as many
pub lent_back : {X : Type 0} (old lent new : List X) (count : ℕ) → lent ≡ old → length lent ≡ count → length new ≡ length lent →
    new ≡ take count (new ++ drop (length new) old)
lent_back {X} old lent new count is whole same =
    let none : drop (length new) old ≡ [] = drop_of_length-le old (omega (arith, same, ap length is)) in
    sym (ap (λ (rest : List X). take count (new ++ rest)) none ∙ ap (take count) (append-nil new) ∙ take_all count new (omega (arith, whole, same)))

module _ {L O : Type 0} where
  -- what holds of a list of lanes holds of the same list
  pub placed_as : (slots : ℕ) (old new : List (Lane L O)) → old ≡ new → ArePlaced slots old → ArePlaced slots new
  placed_as slots old new same = subst (λ (lanes : List (Lane L O)). ArePlaced slots lanes) same

  pub counted_as : (before after : ℕ) (old new : List (Lane L O)) → after ≡ before + 2 * length new → old ≡ new
      → after ≡ before + 2 * length old
  counted_as before after old new counted same = omega (arith, counted, ap length same)

  pub failed_all : (faults : O → ℕ) (from : ℕ) (old new : List (Lane L O)) → old ≡ new → HaveFailed faults from old
      → HaveFailed faults from new
  failed_all faults from old new same = subst (λ (lanes : List (Lane L O)). HaveFailed faults from lanes) same

  -- as many dialers were met as lanes, while these are of slots; so the lane that stands there is the next
  pub next_of : (slots at before : ℕ) (lane : Lane L O) → (at ≤ slots → before ≡ at) → IsPlaced slots at lane → IsNext before lane
  next_of slots at before (Slot lane) order placed =
      placed.1 ∙ ap (λ (n : ℕ). n + 1) (sym (order (omega (arith, placed.0))))
  next_of slots at before (Staff staff) order placed = tt

  -- behind it there are as many as before, and its own
  pub order_on : (slots : ℕ) (dialers : List O) (lanes : List (Lane L O)) (lane : Lane L O)
      → (length lanes ≤ slots → length dialers ≡ length lanes) → IsPlaced slots (length lanes) lane
      → length (lanes ++ lane ∷ []) ≤ slots → length (dialers ++ dialers_of lane) ≡ length (lanes ++ lane ∷ [])
  order_on slots dialers lanes (Slot lane) order placed front =
      let was = order (omega (arith, placed.0)) in
      omega (arith, was, length_push dialers lane.dialer, length_push lanes (Slot lane))
  order_on slots dialers lanes (Staff staff) order placed front =
      absurd (omega (arith, placed, front, length_push lanes (Staff staff)))
