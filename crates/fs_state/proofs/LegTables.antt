-- The living legs in a table of originations, and what is left of them where an origination is changed, begun or gone.
use Rattle.std.proofs.Common.{◌≡◌, ℕ, zero, suc, ◌&&◌, Bool, true, false, if◌then◌else◌, List, [], ◌∷◌, Option, None, Some, slice_get, ◌⊎◌}
use Rattle.std.proofs.Common.{inl, inr, refl, sym, ap, subst, ◌∙◌, true≢false}
use Rattle.std.specs.List.{slice_set}
use Rattle.std.proofs.lemmas.Bool.{cases_eq, both_ways, eqb-true, eq-eqb}
use Rattle.std.proofs.lemmas.Option.{none-some, same_Some}
use Rattle.fs_text.specs.declared.causes.Cause.{Cause}
use Rattle.fs_orig.specs.declared.leg.OrigLeg.{OrigLeg}
use Rattle.fs_orig.specs.declared.orig.Orig.{Orig}
use Rattle.fs_orig.specs.Legs as legs
use Rattle.fs_orig.specs.Legs.{lives, position_in}
use Rattle.fs_orig.specs.Changes.{rings, with_leg_answer, with_leg_death, with_leg, with_changed_leg, with_death}
use Rattle.fs_orig.proofs.Positions.{passes, position_is_first, position_is_none}
use Rattle.fs_seats.specs.declared.numbered.Numbered.{Numbered}
use Rattle.fs_seats.specs.Seats.{held_in, with_held, least_free}
use Rattle.fs_seats.specs.Rows.{has_number, seat_of, row_of, with_held_at, with_row, without_row, with_new_row}
use Rattle.fs_seats.proofs.HeldLemmas.{held_here, held_there, at_each}
use Rattle.fs_seats.proofs.RowLemmas.{AreDistinct, seat_stands, seat_within, free_least}
use Rattle.fs_seats.proofs.TableLemmas.{row_found, row_written}
use Rattle.fs_state.specs.Moves.{leg_changed_at, leg_changed}

abbrev pub Origs : Type 0
Origs = List (Option (Numbered Orig))

-- what is known of a living leg: the number of its origination, and its slot
pub record Berth : Type 0 where
  pub number : ℕ
  pub slot : Option ℕ

abbrev pub berthed : ℕ → Option ℕ → Berth
berthed number slot = record { number = number; slot = slot }

abbrev pub berth_if : Bool → ℕ → Option ℕ → Option Berth
berth_if true number slot = Some (berthed number slot)
berth_if false number slot = None

abbrev pub berth_of : ℕ → Option OrigLeg → Option Berth
berth_of number None = None
berth_of number (Some leg) = berth_if (lives leg) number leg.slot

-- the living leg at a position of an origination
abbrev pub berth_in : ℕ → Option (Numbered Orig) → Option Berth
berth_in position None = None
berth_in position (Some row) = berth_of row.number (slice_get row.held.legs position)

abbrev pub berth_at : Origs → ℕ → ℕ → Option Berth
berth_at origs seat position = berth_in position (held_in origs seat)

-- the berth of a leg in a slot
abbrev pub in_slot : ℕ → ℕ → Berth
in_slot number slot = berthed number (Some slot)

-- whoever lives in the new one lived in the old one, and was berthed as now
abbrev pub FewerIn : Option (Numbered Orig) → Option (Numbered Orig) → Type 0
FewerIn old new = (position : ℕ) (berth : Berth) → berth_in position new ≡ Some berth → berth_in position old ≡ Some berth

abbrev pub Fewer : Origs → Origs → Type 0
Fewer old new = (seat : ℕ) → FewerIn (held_in old seat) (held_in new seat)

-- the berth is of this number
pub berth_its : (number : ℕ) (leg : Option OrigLeg) (berth : Berth) → berth_of number leg ≡ Some berth → berth.number ≡ number
berth_its number None berth h = absurd (none-some berth h)
berth_its number (Some leg) berth h = by (lives leg) h
  where
    by : (test : Bool) → berth_if test number leg.slot ≡ Some berth → berth.number ≡ number
    by true h = sym (ap (λ (x : Berth). x.number) (same_Some (berthed number leg.slot) berth h))
    by false h = absurd (none-some berth h)

pub berth_number : (position : ℕ) (held : Option (Numbered Orig)) (berth : Berth) → berth_in position held ≡ Some berth →
    has_number berth.number held ≡ true
berth_number position None berth h = absurd (none-some berth h)
berth_number position (Some row) berth h = eq-eqb row.number berth.number (sym (berth_its row.number (slice_get row.held.legs position) berth h))

-- who has a berth in a slot lives there, and has it if he does
berth_lives : (number slot : ℕ) (leg : Option OrigLeg) → berth_of number leg ≡ Some (in_slot number slot) →
    passes (legs.lives_in slot) leg ≡ true
berth_lives number slot None h = absurd (none-some (in_slot number slot) h)
berth_lives number slot (Some leg) h = by (lives leg) leg.slot h
  where
    by : (test : Bool) (which : Option ℕ) → berth_if test number which ≡ Some (in_slot number slot) → (test && legs.is_at slot which) ≡ true
    by true which h =
        ap (legs.is_at slot) (ap (λ (x : Berth). x.slot) (same_Some (berthed number which) (in_slot number slot) h)) ∙ eq-eqb slot slot refl
    by false which h = absurd (none-some (in_slot number slot) h)

lives_berthed : (number slot : ℕ) (leg : OrigLeg) → legs.lives_in slot leg ≡ true → berth_of number (Some leg) ≡ Some (in_slot number slot)
lives_berthed number slot leg = by (lives leg) leg.slot
  where
    by : (test : Bool) (which : Option ℕ) → (test && legs.is_at slot which) ≡ true → berth_if test number which ≡ Some (in_slot number slot)
    by true None h = absurd (true≢false (sym h))
    by true (Some other) h = ap (λ (n : ℕ). Some (in_slot number n)) (eqb-true other slot h)
    by false which h = absurd (true≢false (sym h))

-- ---- one leg of a list is changed

pub set_here : (these : List OrigLeg) (first : ℕ) (old new : OrigLeg) → slice_get these first ≡ Some old →
    slice_get (slice_set these first new) first ≡ Some new
set_here [] first old new is = absurd (none-some old is)
set_here (leg ∷ more) zero old new is = refl
set_here (leg ∷ more) (suc first) old new is = set_here more first old new is

pub set_there : (these : List OrigLeg) (first other : ℕ) (new : OrigLeg) → (other ≡ first → ⊥) →
    slice_get (slice_set these first new) other ≡ slice_get these other
set_there [] first other new apart = refl
set_there (leg ∷ more) zero zero new apart = absurd (apart refl)
set_there (leg ∷ more) zero (suc other) new apart = refl
set_there (leg ∷ more) (suc first) zero new apart = refl
set_there (leg ∷ more) (suc first) (suc other) new apart = set_there more first other new (λ same. apart (ap suc same))

-- a change by which no leg comes to life or moves
abbrev pub Spares : (OrigLeg → OrigLeg) → Type 0
Spares change =
    (number : ℕ) (leg : OrigLeg) (berth : Berth) → berth_of number (Some (change leg)) ≡ Some berth → berth_of number (Some leg) ≡ Some berth

pub answer_spares : (seat : ℕ) → Spares (with_leg_answer seat)
answer_spares seat number leg berth = by (rings leg)
  where
    by : (test : Bool) → berth_of number (Some (if test then record leg { answered = Some seat } else leg)) ≡ Some berth →
        berth_of number (Some leg) ≡ Some berth
    by true h = h
    by false h = h

-- who died has no berth
no_berth : (seat : ℕ) (cause : Cause) (number : ℕ) (leg : OrigLeg) (berth : Berth) →
    berth_of number (Some (with_leg_death seat cause leg)) ≡ Some berth → ⊥
no_berth seat cause number leg berth = by (lives leg) refl
  where
    by : (test : Bool) → lives leg ≡ test →
        berth_of number (Some (if test then record leg { died = Some seat; cause = Some cause } else leg)) ≡ Some berth → ⊥
    by true is h = none-some berth h
    by false is h = none-some berth (sym (ap (λ (b : Bool). berth_if b number leg.slot) is) ∙ h)

pub death_spares : (seat : ℕ) (cause : Cause) → Spares (with_leg_death seat cause)
death_spares seat cause number leg berth h = absurd (no_berth seat cause number leg berth h)

changed_spares : (change : OrigLeg → OrigLeg) → Spares change → (first : ℕ) (these : List OrigLeg) (number position : ℕ) (berth : Berth) →
    berth_of number (slice_get (with_changed_leg change first these) position) ≡ Some berth → berth_of number (slice_get these position) ≡ Some
    berth
changed_spares change spares first these number position berth = by (slice_get these first) refl
  where
    at : (old : OrigLeg) → slice_get these first ≡ Some old → (position ≡ first) ⊎ (position ≡ first → ⊥) →
        berth_of number (slice_get (slice_set these first (change old)) position) ≡ Some berth →
        berth_of number (slice_get these position) ≡ Some berth
    at old is (inl same) h =
        let now : slice_get (slice_set these first (change old)) position ≡ Some (change old) =
        ap (slice_get (slice_set these first (change old))) same ∙ set_here these first old (change old) is in
        ap (berth_of number) (ap (slice_get these) same ∙ is) ∙ spares number old berth (sym (ap (berth_of number) now) ∙ h)
    at old is (inr other) h = sym (ap (berth_of number) (set_there these first position (change old) other)) ∙ h

    by : (found : Option OrigLeg) → slice_get these first ≡ found →
        berth_of number (slice_get (with_leg change first found these) position) ≡ Some berth →
        berth_of number (slice_get these position) ≡ Some berth
    by None is h = h
    by (Some old) is h = at old is (cases_eq position first) h

-- ---- the leg in a slot is changed

-- an origination under its number
abbrev pub as_row : ℕ → Orig → Option (Numbered Orig)
as_row number o = Some (record { number = number; held = o })

pub touched_spares : (change : OrigLeg → OrigLeg) → Spares change → (slot number : ℕ) (o : Orig) →
    FewerIn (as_row number o) (as_row number (leg_changed (λ p x. record x { legs = with_changed_leg change p x.legs }) slot o))
touched_spares change spares slot number o position berth = by (position_in slot o.legs)
  where
    by : (first : Option ℕ) →
        berth_of number (slice_get (leg_changed_at (λ p x. record x { legs = with_changed_leg change p x.legs }) first o).legs position) ≡
        Some berth →
        berth_of number (slice_get o.legs position) ≡ Some berth
    by None h = h
    by (Some first) h = changed_spares change spares first o.legs number position berth h

-- where a slot berths one leg at most, none sits there behind a death
none_left : (number slot seat : ℕ) (cause : Cause) (o : Orig) →
    ((p q : ℕ) → berth_of number (slice_get o.legs p) ≡ Some (in_slot number slot) →
    berth_of number (slice_get o.legs q) ≡ Some (in_slot number slot) → p ≡ q) →
    (position : ℕ) →
    berth_of number (slice_get (leg_changed (λ p. with_death p seat cause) slot o).legs position) ≡ Some (in_slot number slot) → ⊥
none_left number slot seat cause o apart position = by (position_in slot o.legs) refl
  where
    met : (first : ℕ) (old : Option OrigLeg) → slice_get o.legs first ≡ old → passes (legs.lives_in slot) old ≡ true →
        (position ≡ first) ⊎ (position ≡ first → ⊥) →
        berth_of number (slice_get (with_leg (with_leg_death seat cause) first old o.legs) position) ≡ Some (in_slot number slot) → ⊥
    met first None there passing either h = true≢false (sym passing)
    met first (Some old) there passing (inl same) h =
        let now : slice_get (slice_set o.legs first (with_leg_death seat cause old)) position ≡ Some (with_leg_death seat cause old) =
        ap (slice_get (slice_set o.legs first (with_leg_death seat cause old))) same
        ∙ set_here o.legs first old (with_leg_death seat cause old) there in
        no_berth seat cause number old (in_slot number slot) (sym (ap (berth_of number) now) ∙ h)
    met first (Some old) there passing (inr other) h =
        other
        (apart position first (sym (ap (berth_of number) (set_there o.legs first position (with_leg_death seat cause old) other)) ∙ h)
        (ap (berth_of number) there ∙ lives_berthed number slot old passing))

    by : (first : Option ℕ) → position_in slot o.legs ≡ first →
        berth_of number (slice_get (leg_changed_at (λ p. with_death p seat cause) first o).legs position) ≡ Some (in_slot number slot) → ⊥
    by None none h =
        both_ways (passes (legs.lives_in slot) (slice_get o.legs position)) (position_is_none (legs.lives_in slot) o.legs position none)
        (berth_lives number slot (slice_get o.legs position) h)
    by (Some first) is h =
        met first (slice_get o.legs first) refl (position_is_first (legs.lives_in slot) o.legs first is).here (cases_eq position first) h

-- ---- one origination of a table is changed, or is gone

-- the row of an origination that is there
abbrev pub HasSeat : Origs → ℕ → Orig → Type 0
HasSeat origs number o = (seat : ℕ) × (seat_of origs number ≡ Some seat) × (held_in origs seat ≡ as_row number o)

pub row_there : (origs : Origs) (number : ℕ) (o : Orig) → row_of origs number ≡ Some o → HasSeat origs number o
row_there origs number o is =
    let found = row_found origs number o is in
    let named : as_row found.1.number o ≡ as_row number o = ap (λ (n : ℕ). as_row n o) found.2.numbered in
    (found.0, found.2.at, found.2.there ∙ (ap (as_row found.1.number) found.3 ∙ named))

pub changed_fewer : (origs : Origs) (number : ℕ) (o new : Orig) → row_of origs number ≡ Some o →
    FewerIn (as_row number o) (as_row number new) → Fewer origs (with_row origs number new)
changed_fewer origs number o new is fewer =
    let row = row_there origs number o is in
    subst (Fewer origs) (sym (row_written origs number row.0 new row.1))
    (at_each origs row.0 (as_row number new) FewerIn (seat_within origs number row.0 row.1)
    (subst (λ (held : Option (Numbered Orig)). FewerIn held (as_row number new)) (sym row.2) fewer)
    (λ held position berth h. h))

pub without_fewer : (origs : Origs) (number : ℕ) → Fewer origs (without_row origs number)
without_fewer origs number = by (seat_of origs number) refl
  where
    by : (found : Option ℕ) → seat_of origs number ≡ found → Fewer origs (with_held_at origs None found)
    by None is = λ seat position berth h. h
    by (Some at) is =
        at_each origs at None FewerIn (seat_within origs number at is) (λ position berth h. absurd (none-some berth h))
        (λ held position berth h. h)

-- a death leaves no leg of this origination in the slot
pub death_leaves_none : (origs : Origs) (number : ℕ) (o : Orig) (slot seat : ℕ) (cause : Cause) → AreDistinct origs →
    row_of origs number ≡ Some o →
    ((at p q : ℕ) (berth : Berth) → berth_at origs at p ≡ Some berth → berth_at origs at q ≡ Some berth → p ≡ q) →
    (at position : ℕ) →
    berth_at (with_row origs number (leg_changed (λ p. with_death p seat cause) slot o)) at position ≡ Some (in_slot number slot) → ⊥
death_leaves_none origs number o slot seat cause distinct is apart at position has = by (cases_eq at row.0)
  where
    dead : Orig
    dead = leg_changed (λ p. with_death p seat cause) slot o

    row : (p : ℕ) × (seat_of origs number ≡ Some p) × (held_in origs p ≡ as_row number o)
    row = row_there origs number o is

    now : berth_at (with_held origs row.0 (as_row number dead)) at position ≡ Some (in_slot number slot)
    now = subst (λ (rows : Origs). berth_at rows at position ≡ Some (in_slot number slot)) (row_written origs number row.0 dead row.1) has

    by : (at ≡ row.0) ⊎ (at ≡ row.0 → ⊥) → ⊥
    by (inl same) =
        none_left number slot seat cause o
        (λ p q first second. apart row.0 p q (in_slot number slot) (ap (berth_in p) row.2 ∙ first) (ap (berth_in q) row.2 ∙ second)) position
        (sym (ap (berth_in position)
        (ap (held_in (with_held origs row.0 (as_row number dead))) same
        ∙ held_here origs row.0 (as_row number dead) (seat_within origs number row.0 row.1))) ∙ now)
    by (inr other) =
        let was : berth_at origs at position ≡ Some (in_slot number slot) =
        sym (ap (berth_in position) (held_there origs row.0 at (as_row number dead) other)) ∙ now in
        other (distinct number at row.0 (berth_number position (held_in origs at) (in_slot number slot) was)
        (seat_stands origs number row.0 row.1))

-- ---- the legs of an origination are others

-- a leg that lives is one of the new ones, or of another origination
pub changed_or_old : (origs : Origs) (number : ℕ) (o new : Orig) (row : HasSeat origs number o) (seat position : ℕ) (berth : Berth) →
    berth_at (with_row origs number new) seat position ≡ Some berth →
    ((seat ≡ row.0) × (berth_of number (slice_get new.legs position) ≡ Some berth)) ⊎ ((seat ≡ row.0 → ⊥) × (berth_at origs seat position ≡
    Some berth))
changed_or_old origs number o new row seat position berth has = by (cases_eq seat row.0)
  where
    now : berth_at (with_held origs row.0 (as_row number new)) seat position ≡ Some berth
    now = subst (λ (rows : Origs). berth_at rows seat position ≡ Some berth) (row_written origs number row.0 new row.1) has

    by : (seat ≡ row.0) ⊎ (seat ≡ row.0 → ⊥) →
        ((seat ≡ row.0) × (berth_of number (slice_get new.legs position) ≡ Some berth)) ⊎ ((seat ≡ row.0 → ⊥) ×
        (berth_at origs seat position ≡ Some berth))
    by (inl same) =
        let here : held_in (with_held origs row.0 (as_row number new)) seat ≡ as_row number new =
        ap (held_in (with_held origs row.0 (as_row number new))) same
        ∙ held_here origs row.0 (as_row number new) (seat_within origs number row.0 row.1) in
        inl (same, sym (ap (berth_in position) here) ∙ now)
    by (inr other) = inr (other, sym (ap (berth_in position) (held_there origs row.0 seat (as_row number new) other)) ∙ now)

-- ---- one origination more

-- a leg that lives is one of its, or was there
pub new_or_old : (origs : Origs) (next : ℕ) (o : Orig) (seat position : ℕ) (berth : Berth) →
    berth_at (with_new_row origs next o) seat position ≡ Some berth →
    (berth_of next (slice_get o.legs position) ≡ Some berth) ⊎ (berth_at origs seat position ≡ Some berth)
new_or_old origs next o seat position berth = by (least_free origs 0) refl
  where
    at : (put : ℕ) → least_free origs 0 ≡ Some put → (seat ≡ put) ⊎ (seat ≡ put → ⊥) →
        berth_at (with_held origs put (as_row next o)) seat position ≡ Some berth →
        (berth_of next (slice_get o.legs position) ≡ Some berth) ⊎ (berth_at origs seat position ≡ Some berth)
    at put free (inl same) h =
        let new : held_in (with_held origs put (as_row next o)) seat ≡ as_row next o =
        ap (held_in (with_held origs put (as_row next o))) same ∙ held_here origs put (as_row next o) (free_least origs put free).1 in
        inl (sym (ap (berth_in position) new) ∙ h)
    at put free (inr other) h = inr (sym (ap (berth_in position) (held_there origs put seat (as_row next o) other)) ∙ h)

    by : (found : Option ℕ) → least_free origs 0 ≡ found → berth_at (with_held_at origs (as_row next o) found) seat position ≡ Some berth →
        (berth_of next (slice_get o.legs position) ≡ Some berth) ⊎ (berth_at origs seat position ≡ Some berth)
    by None is h = inr h
    by (Some put) is h = at put is (cases_eq seat put) h
