-- How many entries of a pass tell of a dial in vain, and how many a dialer counts.
use Rattle.std.proofs.Common.{◌≡◌, ◌≢◌, ℕ, zero, suc, ◌+◌, ◌<◌, ◌≤◌, inl, inr, Bool, true, false, List, [], ◌∷◌, ◌++◌, length}
use Rattle.std.proofs.Common.{Option, None, Some, refl, sym, ap, subst, ◌∙◌, arith}
use Rattle.std.specs.Prelude.{◌&&◌, ◌==◌, not, slice_get, slice_index_or, if◌then◌else◌}
use Rattle.std.proofs.lemmas.Bool.Decides.{nat_tests}
use mathlib.Core.List.{IsPrefix}
use mathlib.Core.Logic.{dite}
use mathlib.Core.Option.{some}
use lib.ListN.{get_elem?}
use native.Mathlib.Decide.{dec_lt}
use Rattle.fs_doc.specs.Reading.{Configuration}
use Rattle.fs_book.specs.Counts.{times}
use Rattle.fs_book.proofs.Lists.{prefix_trans, last_get}
use Rattle.fs_machine.specs.declared.entry.Entry.{Entry}
use Rattle.fs_machine.specs.declared.entry.Act.{Act}
use Rattle.fs_machine.specs.declared.entry.Act.TheVariants.{Arrive, Command, Take, Close, Dialed, Work, Job, Loaded, Halt}
use Rattle.fs_session.specs.declared.actor.Actor.{Actor}
use Rattle.fs_session.specs.declared.actor.Actor.TheVariants.{Slot, Jobs}
use Rattle.fs_session.specs.declared.worked.Worked.{Worked}
use Rattle.fs_session.specs.declared.worked.Worked.TheVariants.{Did, Idle, Talk, Load, Stopped, Refused}
use Rattle.fs_session.specs.Talking.{Counts, MayCount}
use Rattle.fs_session.specs.Working.{Works, Stays, Gained, IsTurnOf}
use Rattle.fs_top.specs.Dials.{tells_in_vain, is_in_vain, found_by, vain_in, HasRisen, IsBounded, AreBounded}
use Rattle.fs_top.specs.Lanes.{AreAllowed, Enters}
use Rattle.fs_top.proofs.PlaceLemmas.{count_append, count_push, count_up, count_none}

-- ---- what may have failed

pub risen_or : (times old new : ℕ) → (new < 18446744073709551615 → old + times ≤ new) → HasRisen times old new
risen_or times old new rises =
    dite (dec_lt new 18446744073709551615) (λ below. inl (rises below)) (λ whole. inr (omega (arith, whole)))

pub risen_none : (old new : ℕ) → MayCount old new → HasRisen 0 old new
risen_none old new (inl same) = risen_or 0 old new (λ below. omega (arith, same))
risen_none old new (inr rose) = risen_or 0 old new (λ below. omega (arith, rose, below))

-- what one entry tells, by whether there was a link
pub risen_one : (linked : Bool) (slot old new : ℕ) → Counts linked old new →
    HasRisen (if tells_in_vain slot (Dialed slot linked) then 1 else 0) old new
risen_one true slot old new counts = by (slot == slot)
  where
    by : (same : Bool) → HasRisen (if same && false then 1 else 0) old new
    by true = risen_none old new (inl counts)
    by false = risen_none old new (inl counts)
risen_one false slot old new counts = by (slot == slot)
  where
    by : (same : Bool) → HasRisen (if same && true then 1 else 0) old new
    by true = risen_or 1 old new (λ below. omega (arith, counts, below))
    by false = risen_none old new (inr counts)

-- one after the other
pub risen_more : (one two from now new : ℕ) → HasRisen one from now → HasRisen two now new → HasRisen (one + two) from new
risen_more one two from now new first (inr whole) = inr whole
risen_more one two from now new (inl first) (inl second) = inl (omega (arith, first, second))
risen_more one two from now new (inr whole) (inl second) = inr (omega (arith, whole, second))

-- ---- turns

turn_quiet : (who : Actor) (done : Act) (slot : ℕ) → IsTurnOf who done → tells_in_vain slot done ≡ false
turn_quiet (Slot own) done slot is = ap (tells_in_vain slot) is
turn_quiet Jobs done slot is = ap (tells_in_vain slot) is.1

module _ (config : Configuration) (seen seen' : List Entry) (mine mine' : List ℕ) (met met' : List (List ℕ)) (met_is : met' ≡ met)
    (below : (k : ℕ) (l : List ℕ) → get_elem? (mine ∷ met) k ≡ some l → (p : ℕ) → 0 < times p l → p < length seen) (slot : ℕ) where
  vain_stays : Stays config seen mine seen' mine' → vain_in slot seen' (mine' ∷ met') ≡ vain_in slot seen (mine ∷ met)
  vain_stays stays =
      ap (λ (ms : List (List ℕ)). vain_in slot seen' (mine' ∷ ms)) met_is
      ∙ ap (λ (ps : List ℕ). vain_in slot seen' (ps ∷ met)) stays.same
      ∙ count_up (is_in_vain slot) seen seen' (mine ∷ met) stays.front below

  vain_gained : (who : Actor) (now place : ℕ) → Gained config seen mine seen' mine' (IsTurnOf who) now place →
      vain_in slot seen' (mine' ∷ met') ≡ vain_in slot seen (mine ∷ met)
  vain_gained who now place gained =
      let entry : Entry = record { moment = now; act = gained.act } in
      let there : slice_get seen' place ≡ Some entry =
      ap (λ (log : List Entry). slice_get log place) gained.sees
      ∙ ap (λ (p : ℕ). slice_get (gained.before ++ entry ∷ []) p) gained.at ∙ last_get gained.before entry in
      let whole : IsPrefix seen seen' =
      prefix_trans seen gained.before seen' gained.front (entry ∷ [], sym gained.sees) in
      let quiet : found_by (is_in_vain slot) (slice_get seen' place) ≡ 0 =
      ap (found_by (is_in_vain slot)) there
      ∙ ap (λ (b : Bool). if b then 1 else 0) (turn_quiet who gained.act slot gained.is) in
      let pushed = count_push (is_in_vain slot) seen' mine met place in
      ap (λ (ms : List (List ℕ)). vain_in slot seen' (mine' ∷ ms)) met_is
      ∙ ap (λ (ps : List ℕ). vain_in slot seen' (ps ∷ met)) gained.more
      ∙ (omega (arith, pushed, quiet, count_up (is_in_vain slot) seen seen' (mine ∷ met) whole below))

  -- a turn tells of no dial
  pub vain_worked : (who : Actor) (now : ℕ) (worked : Worked) → Works config seen mine seen' mine' who now worked →
      vain_in slot seen' (mine' ∷ met') ≡ vain_in slot seen (mine ∷ met)
  vain_worked who now (Did place wakes) works = vain_gained who now place works
  vain_worked who now (Idle None) works = vain_stays works.stays
  vain_worked who now (Idle (Some next)) works = vain_stays works.stays
  vain_worked who now (Talk target) works = vain_stays works.stands.stays
  vain_worked who now (Load job) works = vain_stays works.stays
  vain_worked who now Stopped works = vain_stays works.stays
  vain_worked who now (Refused why) works = vain_stays works.stays

-- ---- a pass that tells of no dial of a slot

other_slot : (p q : ℕ) (linked : Bool) → p ≢ q → ((p == q) && not linked) ≡ false
other_slot p q linked differs = by (p == q) (grind (arith, nat_tests))
  where
    by : (same : Bool) → same ≡ false → (same && not linked) ≡ false
    by false is = refl
    by true is = absurd (cc is)

act_quiet : (slot : ℕ) (own : Option Actor) (done : Act) →
    ((other : ℕ) (linked : Bool) → done ≡ Dialed other linked → own ≡ Some (Slot other)) → own ≢ Some (Slot slot) → tells_in_vain slot done ≡ false
act_quiet slot own (Dialed other linked) its differs =
    other_slot other slot linked (λ same. differs (its other linked refl ∙ ap (λ (n : ℕ). Some (Slot n)) same))
act_quiet slot own Arrive its differs = refl
act_quiet slot own (Command conn block) its differs = refl
act_quiet slot own (Take conn) its differs = refl
act_quiet slot own (Close conn how) its differs = refl
act_quiet slot own (Work other) its differs = refl
act_quiet slot own (Job number) its differs = refl
act_quiet slot own (Loaded number note) its differs = refl
act_quiet slot own Halt its differs = refl

pub vain_none : (may : ℕ → Type 0) (halts : Type 0) (own : Option Actor) (config : Configuration) (seen : List Entry) (lists : List (List ℕ))
    (slot : ℕ) → AreAllowed config seen lists (Enters may halts own) → own ≢ Some (Slot slot) → vain_in slot seen lists ≡ 0
vain_none may halts own config seen lists slot allowed differs =
    count_none (is_in_vain slot) seen lists
    (λ k places there p entry has at. act_quiet slot own entry.act (allowed k places there p entry has at).1 differs)

-- a pass that is seen as it was tells what it told
pub vain_same : (seen seen' : List Entry) (mine mine' : List ℕ) (met met' : List (List ℕ)) (slot : ℕ) → seen' ≡ seen → mine' ≡ mine →
    met' ≡ met → vain_in slot seen' (mine' ∷ met') ≡ vain_in slot seen (mine ∷ met)
vain_same seen seen' mine mine' met met' slot seen_is mine_is met_is =
    ap (λ (log : List Entry). vain_in slot log (mine' ∷ met')) seen_is ∙ ap (λ (ps : List ℕ). vain_in slot seen (ps ∷ met')) mine_is
    ∙ ap (λ (ms : List (List ℕ)). vain_in slot seen (mine ∷ ms)) met_is

-- what two passes tell that were met
pub vain_met : (seen1 seen2 seen' : List Entry) (mine1 mine2 mine' : List ℕ) (met1 met2 met' : List (List ℕ)) (slot : ℕ) →
    IsPrefix seen1 seen' → IsPrefix seen2 seen' → mine' ≡ mine1 → met' ≡ met1 ++ mine2 ∷ met2 →
    ((k : ℕ) (l : List ℕ) → get_elem? (mine1 ∷ met1) k ≡ some l → (p : ℕ) → 0 < times p l → p < length seen1) →
    ((k : ℕ) (l : List ℕ) → get_elem? (mine2 ∷ met2) k ≡ some l → (p : ℕ) → 0 < times p l → p < length seen2) →
    vain_in slot seen' (mine' ∷ met') ≡ vain_in slot seen1 (mine1 ∷ met1) + vain_in slot seen2 (mine2 ∷ met2)
vain_met seen1 seen2 seen' mine1 mine2 mine' met1 met2 met' slot front1 front2 mine_is met_is below1 below2 =
    let lists_is : mine' ∷ met' ≡ (mine1 ∷ met1) ++ mine2 ∷ met2 = cc (mine_is, met_is) in
    let one = count_up (is_in_vain slot) seen1 seen' (mine1 ∷ met1) front1 below1 in
    let two = count_up (is_in_vain slot) seen2 seen' (mine2 ∷ met2) front2 below2 in
    ap (vain_in slot seen') lists_is
    ∙ (omega (arith, count_append (is_in_vain slot) seen' (mine1 ∷ met1) (mine2 ∷ met2), one, two))

-- ---- all slots

-- so many as others do
pub bounded_as : (vain vain' : ℕ → ℕ) (from : ℕ) (counts : List ℕ) → ((slot : ℕ) → vain' slot ≡ vain slot) → AreBounded vain from counts →
    AreBounded vain' from counts
bounded_as vain vain' from counts same bounded slot =
    subst (λ n. IsBounded n from (slice_get counts slot)) (sym (same (suc slot))) (bounded slot)

-- none, where nobody has dialed
pub bounded_none : (vain : ℕ → ℕ) (from : ℕ) → ((slot : ℕ) → vain slot ≡ 0) → AreBounded vain from []
bounded_none vain from none slot = none (suc slot)

-- one more dialer, of the slot that comes next
pub bounded_push : (vain more vain' : ℕ → ℕ) (from new : ℕ) (counts : List ℕ) → ((slot : ℕ) → vain' slot ≡ vain slot + more slot) →
    ((slot : ℕ) → slot ≢ suc (length counts) → more slot ≡ 0) → HasRisen (more (suc (length counts))) from new →
    AreBounded vain from counts → AreBounded vain' from (counts ++ new ∷ [])
bounded_push vain more vain' from new [] sums none risen bounded zero =
    let all : vain' 1 ≡ more 1 = omega (arith, sums 1, bounded 0) in subst (λ n. HasRisen n from new) (sym all) risen
bounded_push vain more vain' from new [] sums none risen bounded (suc slot) =
    omega (arith, sums (suc (suc slot)), bounded (suc slot), none (suc (suc slot)) (λ same. absurd (omega (arith, same))))
bounded_push vain more vain' from new (count ∷ counts) sums none risen bounded zero =
    let all : vain' 1 ≡ vain 1 = omega (arith, sums 1, none 1 (λ same. absurd (omega (arith, same)))) in
    subst (λ n. HasRisen n from count) (sym all) (bounded 0)
bounded_push vain more vain' from new (count ∷ counts) sums none risen bounded (suc slot) =
    bounded_push (λ s. vain (suc s)) (λ s. more (suc s)) (λ s. vain' (suc s)) from new counts (λ s. sums (suc s))
    (λ s differs. none (suc s) (λ same. differs (omega (arith, same)))) risen (λ s. bounded (suc s)) slot

-- what holds of each holds of one more
pub each_push : {T : Type 0} (P : ℕ → T → Type 0) (xs : List T) (x : T) →
    ((k : ℕ) (d : T) → k < length xs → P k (slice_index_or xs k d)) → P (length xs) x →
    (k : ℕ) (d : T) → k < length (xs ++ x ∷ []) → P k (slice_index_or (xs ++ x ∷ []) k d)
each_push P [] x each last zero d inside = last
each_push P [] x each last (suc k) d inside = absurd (omega (arith, inside))
each_push P (y ∷ xs) x each last zero d inside = each 0 d (omega arith)
each_push P (y ∷ xs) x each last (suc k) d inside =
    each_push (λ j. P (suc j)) xs x (λ j e lt. each (suc j) e (omega (arith, lt))) last k d (omega (arith, inside))
