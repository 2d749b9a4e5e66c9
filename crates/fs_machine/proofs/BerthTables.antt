-- The living legs in a table of originations that are left where one is changed, comes or goes.
use Rattle.std.proofs.Common.{◌≡◌, ℕ, ◌&&◌, Bool, true, false, if◌then◌else◌, Option, None, Some, slice_get, ◌⊎◌, inl, inr, refl, sym, ap}
use Rattle.std.proofs.Common.{subst, ◌∙◌}
use Rattle.std.specs.List.{slice_set}
use Rattle.std.proofs.lemmas.Bool.{cases_eq, eqb-true, false≢true}
use Rattle.std.proofs.lemmas.Option.{none-some, same_Some}
use Rattle.fs_text.specs.declared.causes.Cause.{Cause}
use Rattle.fs_orig.specs.declared.leg.OrigLeg.{OrigLeg}
use Rattle.fs_orig.specs.declared.orig.Orig.{Orig}
use Rattle.fs_orig.specs.Legs as legs
use Rattle.fs_orig.specs.Legs.{lives, position_in}
use Rattle.fs_orig.specs.Changes.{rings, with_leg_answer, with_leg_death, with_leg, with_changed_leg, with_answer, with_death}
use Rattle.fs_orig.proofs.Positions.{passes, position_is_first}
use Rattle.fs_seats.specs.declared.numbered.Numbered.{Numbered}
use Rattle.fs_seats.specs.Seats.{held_in, with_held, least_free}
use Rattle.fs_seats.specs.Rows.{has_number, seat_of, row_of, with_held_at, with_row, without_row, with_new_row}
use Rattle.fs_seats.proofs.HeldLemmas.{held_here, held_there}
use Rattle.fs_seats.proofs.RowLemmas.{AreDistinct, seat_stands, seat_within, stands_seat, one_number, row_at, held_of, free_least}
use Rattle.fs_seats.proofs.TableLemmas.{row_written}
use Rattle.fs_state.specs.Switch.{Switch}
use Rattle.fs_state.specs.Moves.{leg_changed_at, leg_changed}
use Rattle.fs_state.proofs.LegTables.{Origs, Berth, berthed, berth_if, berth_of, berth_in, berth_at, in_slot, berth_number}
use Rattle.fs_state.proofs.LegTables.{set_here, set_there, as_row, HasSeat, row_there}
use Rattle.fs_machine.specs.Sound.{IsLegIn}

-- a living leg of the origination of a number is in a slot
pub record HasBerth (origs : Origs) (number slot : ℕ) : Type 0 where
  pub seat : ℕ
  pub position : ℕ
  pub at : berth_at origs seat position ≡ Some (in_slot number slot)

-- ---- one leg is changed

-- who lives in a slot is there
slot_there : (slot : ℕ) (leg : OrigLeg) → legs.lives_in slot leg ≡ true → leg.slot ≡ Some slot
slot_there slot leg = by (lives leg) leg.slot
  where
    by : (test : Bool) (which : Option ℕ) → (test && legs.is_at slot which) ≡ true → which ≡ Some slot
    by true None is = absurd (false≢true is)
    by true (Some other) is = ap Some (eqb-true other slot is)
    by false which is = absurd (false≢true is)

-- and so is who has a berth there
berth_slot : (number : ℕ) (leg : OrigLeg) (berth : Berth) → berth_of number (Some leg) ≡ Some berth → leg.slot ≡ berth.slot
berth_slot number leg berth = by (lives leg)
  where
    by : (test : Bool) → berth_if test number leg.slot ≡ Some berth → leg.slot ≡ berth.slot
    by true is = ap (λ (x : Berth). x.slot) (same_Some (berthed number leg.slot) berth is)
    by false is = absurd (none-some berth is)

-- a change keeps the berths of whoever lives in a slot
abbrev Keeps : (OrigLeg → OrigLeg) → ℕ → ℕ → Berth → Type 0
Keeps change slot number berth =
    (leg : OrigLeg) → legs.lives_in slot leg ≡ true → berth_of number (Some leg) ≡ Some berth → berth_of number (Some (change leg)) ≡ Some
    berth

changed_leg_stays : (change : OrigLeg → OrigLeg) (slot number : ℕ) (o : Orig) (position : ℕ) (berth : Berth) →
    Keeps change slot number berth → berth_of number (slice_get o.legs position) ≡ Some berth →
    berth_of number (slice_get (leg_changed (λ p x. record x { legs = with_changed_leg change p x.legs }) slot o).legs position) ≡ Some berth
changed_leg_stays change slot number o position berth keeps has = by (position_in slot o.legs) refl
  where
    at : (first : ℕ) (old : OrigLeg) → slice_get o.legs first ≡ Some old → passes (legs.lives_in slot) (Some old) ≡ true →
        (position ≡ first) ⊎ (position ≡ first → ⊥) →
        berth_of number (slice_get (slice_set o.legs first (change old)) position) ≡ Some berth
    at first old there lived (inl same) =
        let was : slice_get o.legs position ≡ Some old = ap (slice_get o.legs) same ∙ there in
        let now : slice_get (slice_set o.legs first (change old)) position ≡ Some (change old) =
        ap (slice_get (slice_set o.legs first (change old))) same ∙ set_here o.legs first old (change old) there in
        ap (berth_of number) now ∙ keeps old lived (sym (ap (berth_of number) was) ∙ has)
    at first old there lived (inr other) = ap (berth_of number) (set_there o.legs first position (change old) other) ∙ has

    first_of : (first : ℕ) → passes (legs.lives_in slot) (slice_get o.legs first) ≡ true → (old : Option OrigLeg) →
        slice_get o.legs first ≡ old → berth_of number (slice_get (with_leg change first old o.legs) position) ≡ Some berth
    first_of first lived None there = has
    first_of first lived (Some old) there =
        at first old there (ap (passes (legs.lives_in slot)) (sym there) ∙ lived) (cases_eq position first)

    by : (first : Option ℕ) → position_in slot o.legs ≡ first →
        berth_of number (slice_get (leg_changed_at (λ p x. record x { legs = with_changed_leg change p x.legs }) first o).legs position)
        ≡ Some berth
    by None is = has
    by (Some first) is =
        first_of first (position_is_first (legs.lives_in slot) o.legs first is).here (slice_get o.legs first) refl

-- who answers stays
pub answered_stays : (seat slot number : ℕ) (o : Orig) (position : ℕ) (berth : Berth) →
    berth_of number (slice_get o.legs position) ≡ Some berth →
    berth_of number (slice_get (leg_changed (λ p. with_answer p seat) slot o).legs position) ≡ Some berth
answered_stays seat slot number o position berth has =
    changed_leg_stays (with_leg_answer seat) slot number o position berth (λ leg lived is. by leg (rings leg) is) has
  where
    by : (leg : OrigLeg) (test : Bool) → berth_of number (Some leg) ≡ Some berth →
        berth_of number (Some (if test then record leg { answered = Some seat } else leg)) ≡ Some berth
    by leg true is = is
    by leg false is = is

-- where one dies who is in another slot stays
pub died_stays : (seat slot number : ℕ) (cause : Cause) (o : Orig) (position : ℕ) (berth : Berth) → (berth.slot ≡ Some slot → ⊥) →
    berth_of number (slice_get o.legs position) ≡ Some berth →
    berth_of number (slice_get (leg_changed (λ p. with_death p seat cause) slot o).legs position) ≡ Some berth
died_stays seat slot number cause o position berth apart has =
    changed_leg_stays (with_leg_death seat cause) slot number o position berth
    (λ leg lived is. absurd (apart (sym (berth_slot number leg berth is) ∙ slot_there slot leg lived))) has

-- ---- one origination is changed

pub row_stays : (origs : Origs) (number : ℕ) (o new : Orig) → row_of origs number ≡ Some o → (seat position : ℕ) (berth : Berth) →
    (berth_of number (slice_get o.legs position) ≡ Some berth → berth_of number (slice_get new.legs position) ≡ Some berth) →
    berth_at origs seat position ≡ Some berth → berth_at (with_row origs number new) seat position ≡ Some berth
row_stays origs number o new is seat position berth keeps has =
    subst (λ (rows : Origs). berth_at rows seat position ≡ Some berth) (sym (row_written origs number row.0 new row.1))
    (by (cases_eq seat row.0))
  where
    row : HasSeat origs number o
    row = row_there origs number o is

    by : (seat ≡ row.0) ⊎ (seat ≡ row.0 → ⊥) → berth_at (with_held origs row.0 (as_row number new)) seat position ≡ Some berth
    by (inl same) =
        let here : held_in (with_held origs row.0 (as_row number new)) seat ≡ as_row number new =
        ap (held_in (with_held origs row.0 (as_row number new))) same
        ∙ held_here origs row.0 (as_row number new) (seat_within origs number row.0 row.1) in
        let was : held_in origs seat ≡ as_row number o = ap (held_in origs) same ∙ row.2 in
        ap (berth_in position) here ∙ keeps (sym (ap (berth_in position) was) ∙ has)
    by (inr other) = ap (berth_in position) (held_there origs row.0 seat (as_row number new) other) ∙ has

-- ---- one goes

pub gone_stays : (origs : Origs) (number seat position : ℕ) (berth : Berth) → (berth.number ≡ number → ⊥) →
    berth_at origs seat position ≡ Some berth → berth_at (without_row origs number) seat position ≡ Some berth
gone_stays origs number seat position berth apart has = by (seat_of origs number) refl
  where
    other : (gone : ℕ) → seat_of origs number ≡ Some gone → seat ≡ gone → ⊥
    other gone is same =
        apart
        (one_number (held_in origs seat) berth.number number (berth_number position (held_in origs seat) berth has)
        (subst (λ (p : ℕ). has_number number (held_in origs p) ≡ true) (sym same) (seat_stands origs number gone is)))

    by : (found : Option ℕ) → seat_of origs number ≡ found → berth_at (with_held_at origs None found) seat position ≡ Some berth
    by None is = has
    by (Some gone) is = ap (berth_in position) (held_there origs gone seat None (other gone is)) ∙ has

-- ---- one comes

pub come_stays : (origs : Origs) (number : ℕ) (o : Orig) (seat position : ℕ) (berth : Berth) → berth_at origs seat position ≡ Some berth →
    berth_at (with_new_row origs number o) seat position ≡ Some berth
come_stays origs number o seat position berth has = by (least_free origs 0) refl
  where
    by : (found : Option ℕ) → least_free origs 0 ≡ found → berth_at (with_held_at origs (as_row number o) found) seat position ≡ Some berth
    by None is = has
    by (Some put) is =
        let free : held_in origs put ≡ None = (free_least origs put is).0 in
        let other : seat ≡ put → ⊥ =
        λ (same : seat ≡ put). none-some berth (sym (ap (berth_in position) (ap (held_in origs) same ∙ free)) ∙ has) in
        ap (berth_in position) (held_there origs put seat (as_row number o) other) ∙ has

-- its legs are there, if it is
pub row_berth : (origs : Origs) (number : ℕ) (o : Orig) (position slot : ℕ) → row_of origs number ≡ Some o →
    berth_of number (slice_get o.legs position) ≡ Some (in_slot number slot) → HasBerth origs number slot
row_berth origs number o position slot is has =
    let row : HasSeat origs number o = row_there origs number o is in
    record { seat = row.0; position = position; at = ap (berth_in position) row.2 ∙ has }

-- ---- as the definition has it

-- what is known of a berth
record IsBerthOf (number slot position : ℕ) (held : Option (Numbered Orig)) : Type 0 where
  row : Numbered Orig
  is : held ≡ Some row
  numbered : row.number ≡ number
  leg : OrigLeg
  at : slice_get row.held.legs position ≡ Some leg
  lives : lives leg ≡ true
  there : leg.slot ≡ Some slot

berth_leg : (number slot position : ℕ) (held : Option (Numbered Orig)) → berth_in position held ≡ Some (in_slot number slot) →
    IsBerthOf number slot position held
berth_leg number slot position None has = absurd (none-some (in_slot number slot) has)
berth_leg number slot position (Some row) has = by (slice_get row.held.legs position) refl has
  where
    living : (leg : OrigLeg) → slice_get row.held.legs position ≡ Some leg → (test : Bool) → lives leg ≡ test →
        berth_if test row.number leg.slot ≡ Some (in_slot number slot) → IsBerthOf number slot position (Some row)
    living leg at true lived is =
        let same : berthed row.number leg.slot ≡ in_slot number slot = same_Some (berthed row.number leg.slot) (in_slot number slot) is in
        record {
          row = row;
          is = refl;
          numbered = ap (λ (x : Berth). x.number) same;
          leg = leg;
          at = at;
          lives = lived;
          there = ap (λ (x : Berth). x.slot) same;
        }
    living leg at false lived is = absurd (none-some (in_slot number slot) is)

    by : (found : Option OrigLeg) → slice_get row.held.legs position ≡ found → berth_of row.number found ≡ Some (in_slot number slot) →
        IsBerthOf number slot position (Some row)
    by None at is = absurd (none-some (in_slot number slot) is)
    by (Some leg) at is = living leg at (lives leg) refl is

-- a berth is that of a living leg of an origination that is there
pub leg_in : (s : Switch) (number slot : ℕ) → AreDistinct s.origs → HasBerth s.origs number slot → IsLegIn s slot number
leg_in s number slot distinct berth =
    let b : IsBerthOf number slot berth.position (held_in s.origs berth.seat) =
    berth_leg number slot berth.position (held_in s.origs berth.seat) berth.at in
    let seat : seat_of s.origs number ≡ Some berth.seat =
    stands_seat s.origs number berth.seat distinct
    (berth_number berth.position (held_in s.origs berth.seat) (in_slot number slot) berth.at) in
    record {
      leg = b.leg;
      has = record {
        orig = b.row.held;
        there = row_at s.origs number berth.seat seat ∙ ap held_of b.is;
        position = berth.position;
        at = b.at;
        lives = b.lives;
      };
      is = b.there;
    }
