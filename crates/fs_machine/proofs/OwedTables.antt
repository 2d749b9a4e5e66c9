-- The originations that jobs own, and those that slots own, as tables of numbers, and how these go through changes of originations.
use Rattle.std.proofs.Common.{◌≡◌, ℕ, zero, suc, ◌+◌, true, List, [], ◌∷◌, map, Option, None, Some, refl, sym, ap, subst, ◌∙◌, arith}
use Rattle.std.specs.List.{slice_set}
use Rattle.std.proofs.lemmas.Bool.{false≢true}
use Rattle.std.proofs.lemmas.Option.{none-some, same_Some}
use Rattle.fs_seats.specs.Seats.{no_seats, held_in, with_held, least_free}
use Rattle.fs_seats.proofs.HeldLemmas.{nothing_held}
use Rattle.fs_seats.proofs.TableLemmas.{kept_without, HasRow, row_of_held, something_there, row_found, row_written, row_removed, row_added}
use Rattle.fs_seats.proofs.TableLemmas.{one_if, taken_in}
use Rattle.std.proofs.lemmas.List.{set-get_or, map-set}
use Rattle.std.proofs.lemmas.List.Sums.{sum_by-cons}
use Rattle.fs_orig.specs.declared.orig.Orig.{Orig}
use Rattle.fs_orig.specs.declared.orig.Owner.{Owner}
use Rattle.fs_orig.specs.declared.orig.Owner.TheVariants as owner
use Rattle.fs_seats.specs.declared.numbered.Numbered.{Numbered}
use Rattle.fs_seats.specs.Rows.{has_number, seat_of, row_of, with_held_at, with_row, without_row, with_new_row}
use Rattle.fs_seats.proofs.RowLemmas.{held_of, row_at, seat_stands, free_least}
use Rattle.fs_state.proofs.LegTables.{Origs}

-- what is told of the owner of an origination
abbrev pub Tells : Type 0
Tells = Owner → ℕ → Option ℕ

-- the number, if a job owns it
abbrev pub by_job : Tells
by_job (owner.Job job) number = Some number
by_job (owner.Slot slot) number = None

-- the slot that owns it, if one does
abbrev pub by_slot : Tells
by_slot (owner.Job job) number = None
by_slot (owner.Slot slot) number = Some slot

-- the number, if a slot owns it
abbrev pub of_slot : Tells
of_slot (owner.Job job) number = None
of_slot (owner.Slot slot) number = Some number

-- the same of what stands at a seat, and of a table
abbrev pub owned_at : Tells → Option (Numbered Orig) → Option ℕ
owned_at of None = None
owned_at of (Some row) = of row.held.owner row.number

abbrev pub owned_in : Tells → Origs → List (Option ℕ)
owned_in of origs = map (owned_at of) origs

pub owned_held : (of : Tells) (origs : Origs) (seat : ℕ) → held_in (owned_in of origs) seat ≡ owned_at of (held_in origs seat)
owned_held of [] seat = refl
owned_held of (held ∷ more) zero = refl
owned_held of (held ∷ more) (suc seat) = owned_held of more seat

-- what is told of the origination of a number, with its seat
pub record IsOwnedAt (of : Tells) (origs : Origs) (number : ℕ) (o : Orig) : Type 0 where
  pub seat : ℕ
  pub at : seat_of origs number ≡ Some seat
  pub told : held_in (owned_in of origs) seat ≡ of o.owner number

pub owned_there : (of : Tells) (origs : Origs) (number : ℕ) (o : Orig) → row_of origs number ≡ Some o → IsOwnedAt of origs number o
owned_there of origs number o is =
    let found = row_found origs number o is in
    record {
      seat = found.0;
      at = found.2.at;
      told = owned_held of origs found.0
          ∙ (ap (owned_at of) found.2.there ∙ (ap (λ (y : Orig). of y.owner found.1.number) found.3 ∙ ap (of o.owner) found.2.numbered));
    }

-- what stands there is written again
written_again : (of : Tells) (origs : Origs) (seat : ℕ) (told : Option ℕ) → told ≡ held_in (owned_in of origs) seat →
    slice_set (owned_in of origs) seat told ≡ owned_in of origs
written_again of origs seat told same =
    ap (λ (held : Option ℕ). slice_set (owned_in of origs) seat held) same ∙ set-get_or (owned_in of origs) seat None

-- an origination is changed that keeps its owner
pub owned_changed : (of : Tells) (origs : Origs) (number : ℕ) (o x : Orig) → row_of origs number ≡ Some o → x.owner ≡ o.owner →
    owned_in of (with_row origs number x) ≡ owned_in of origs
owned_changed of origs number o x is same =
    let there : IsOwnedAt of origs number o = owned_there of origs number o is in
    ap (owned_in of) (row_written origs number there.seat x there.at)
    ∙ (map-set (owned_at of) origs there.seat (Some (record { number = number; held = x }))
    ∙ written_again of origs there.seat (of x.owner number) (ap (λ (by : Owner). of by number) same ∙ sym there.told))

-- one is gone
pub owned_removed : (of : Tells) (origs : Origs) (number seat : ℕ) → seat_of origs number ≡ Some seat →
    owned_in of (without_row origs number) ≡ with_held (owned_in of origs) seat None
owned_removed of origs number seat at = ap (owned_in of) (row_removed origs number seat at) ∙ map-set (owned_at of) origs seat None

-- one comes
pub owned_added : (of : Tells) (origs : Origs) (number seat : ℕ) (x : Orig) → least_free origs 0 ≡ Some seat →
    owned_in of (with_new_row origs number x) ≡ with_held (owned_in of origs) seat (of x.owner number)
owned_added of origs number seat x at =
    ap (owned_in of) (row_added origs number seat x at)
    ∙ map-set (owned_at of) origs seat (Some (record { number = number; held = x }))

-- one is gone of whose owner nothing is told
pub untold_removed : (of : Tells) (origs : Origs) (number : ℕ) (o : Orig) → row_of origs number ≡ Some o → of o.owner number ≡ None →
    owned_in of (without_row origs number) ≡ owned_in of origs
untold_removed of origs number o is none =
    let there : IsOwnedAt of origs number o = owned_there of origs number o is in
    owned_removed of origs number there.seat there.at ∙ written_again of origs there.seat None (sym (there.told ∙ none))

-- one is gone that was not there
no_thing : (number : ℕ) (held : Option (Numbered Orig)) → has_number number held ≡ true → held_of held ≡ None → ⊥
no_thing number None has none = false≢true has
no_thing number (Some row) has none = something_there row.held none

pub none_removed : (of : Tells) (origs : Origs) (number : ℕ) → row_of origs number ≡ None →
    owned_in of (without_row origs number) ≡ owned_in of origs
none_removed of origs number none = by (seat_of origs number) refl
  where
    by : (found : Option ℕ) → seat_of origs number ≡ found →
        owned_in of (with_held_at {T = Numbered Orig} origs None found) ≡ owned_in of origs
    by None is = refl
    by (Some seat) is =
        absurd (no_thing number (held_in origs seat) (seat_stands origs number seat is) (sym (row_at origs number seat is) ∙ none))

-- whatever goes, what is left stood there before
pub left_stood : (of : Tells) (origs : Origs) (number seat told : ℕ) → held_in (owned_in of (without_row origs number)) seat ≡ Some told →
    held_in (owned_in of origs) seat ≡ Some told
left_stood of origs number seat told is = by (seat_of origs number) refl
  where
    by : (found : Option ℕ) → seat_of origs number ≡ found → held_in (owned_in of origs) seat ≡ Some told
    by None none =
        sym (ap (λ (found : Option ℕ). held_in (owned_in of (with_held_at {T = Numbered Orig} origs None found)) seat) none) ∙ is
    by (Some gone) at =
        (kept_without (owned_in of origs) gone seat told
        (sym (ap (λ (l : List (Option ℕ)). held_in l seat) (owned_removed of origs number gone at)) ∙ is)).1

-- one comes of whose owner nothing is told
pub untold_added : (of : Tells) (origs : Origs) (number : ℕ) (x : Orig) → of x.owner number ≡ None →
    owned_in of (with_new_row origs number x) ≡ owned_in of origs
untold_added of origs number x none = by (least_free origs 0) refl
  where
    by : (found : Option ℕ) → least_free origs 0 ≡ found →
        owned_in of (with_held_at {T = Numbered Orig} origs (Some (record { number = number; held = x })) found) ≡ owned_in of origs
    by None is = refl
    by (Some seat) is =
        map-set (owned_at of) origs seat (Some (record { number = number; held = x }))
        ∙ written_again of origs seat (of x.owner number)
        (none ∙ sym (owned_held of origs seat ∙ ap (owned_at of) (free_least origs seat is).0))

-- each origination is owned by a job or by a slot
pub taken_apart : (origs : Origs) → taken_in origs ≡ taken_in (owned_in by_job origs) + taken_in (owned_in by_slot origs)
taken_apart [] = refl
taken_apart (held ∷ more) =
    let rest : taken_in more ≡ taken_in (owned_in by_job more) + taken_in (owned_in by_slot more) = taken_apart more in
    let all : taken_in (held ∷ more) ≡ one_if held + taken_in more = sum_by-cons one_if held more in
    let jobs : taken_in (owned_in by_job (held ∷ more)) ≡ one_if (owned_at by_job held) + taken_in (owned_in by_job more) =
    sum_by-cons one_if (owned_at by_job held) (owned_in by_job more) in
    let slots : taken_in (owned_in by_slot (held ∷ more)) ≡ one_if (owned_at by_slot held) + taken_in (owned_in by_slot more) =
    sum_by-cons one_if (owned_at by_slot held) (owned_in by_slot more) in
    let one : one_if held ≡ one_if (owned_at by_job held) + one_if (owned_at by_slot held) = either held in
    omega (arith, rest, all, jobs, slots, one)
  where
    whose : (by : Owner) (number : ℕ) → 1 ≡ one_if (by_job by number) + one_if (by_slot by number)
    whose (owner.Job job) number = refl
    whose (owner.Slot slot) number = refl

    either : (x : Option (Numbered Orig)) → one_if x ≡ one_if (owned_at by_job x) + one_if (owned_at by_slot x)
    either None = refl
    either (Some row) = whose row.held.owner row.number

-- what a job owns stands there
pub job_there : (origs : Origs) (seat number : ℕ) → held_in (owned_in by_job origs) seat ≡ Some number →
    (row : Numbered Orig) × (held_in origs seat ≡ Some row) × (row.number ≡ number)
job_there origs seat number told = by (held_in origs seat) refl (sym (owned_held by_job origs seat) ∙ told)
  where
    numbered : (by : Owner) (other : ℕ) → by_job by other ≡ Some number → other ≡ number
    numbered (owner.Job job) other is = same_Some other number is
    numbered (owner.Slot slot) other is = absurd (none-some number is)

    by : (held : Option (Numbered Orig)) → held_in origs seat ≡ held → owned_at by_job held ≡ Some number →
        (row : Numbered Orig) × (held_in origs seat ≡ Some row) × (row.number ≡ number)
    by None is told = absurd (none-some number told)
    by (Some row) is told = (row, is, numbered row.held.owner row.number told)

-- so there is an origination of its number
pub job_has_row : (origs : Origs) (seat number : ℕ) → held_in (owned_in by_job origs) seat ≡ Some number → HasRow origs number
job_has_row origs seat number told =
    let there = job_there origs seat number told in
    subst (λ (n : ℕ). HasRow origs n) there.2 (row_of_held origs seat there.0 there.1)

-- in an empty table nobody owns any
pub none_owned : (of : Tells) (count seat number : ℕ) → held_in (owned_in of (no_seats {T = Numbered Orig} count)) seat ≡ Some number → ⊥
none_owned of count seat number told =
    none-some number
    (sym (owned_held of (no_seats {T = Numbered Orig} count) seat ∙ ap (owned_at of) (nothing_held (Numbered Orig) count seat)) ∙ told)
