-- No more originations are owned by slots than there are slots.
use Rattle.std.proofs.Common.{◌≡◌, ℕ, zero, suc, ◌+◌, ◌<◌, ◌≤◌, List, [], ◌∷◌, length, Option, None, Some, ◌⊎◌, inl, inr, refl, sym, ap}
use Rattle.std.proofs.Common.{subst, ◌∙◌, arith}
use Rattle.std.proofs.lemmas.Bool.{cases_eq}
use Rattle.std.proofs.lemmas.List.Sums.{sum_by-cons}
use Rattle.std.proofs.lemmas.Option.{none-some, same_Some}
use Rattle.fs_chan.specs.declared.chan.Chan.{Chan}
use Rattle.fs_chan.specs.Bridging.{awaited_by}
use Rattle.fs_orig.specs.declared.orig.Orig.{Orig}
use Rattle.fs_orig.specs.declared.orig.Owner.{Owner}
use Rattle.fs_orig.specs.declared.orig.Owner.TheVariants as owner
use Rattle.fs_seats.specs.declared.numbered.Numbered.{Numbered}
use Rattle.fs_seats.specs.Seats.{held_in, with_held}
use Rattle.fs_seats.proofs.HeldLemmas.{held_within}
use Rattle.fs_seats.proofs.TableLemmas.{HasRow, row_is, row_of_held, kept_without, one_if, taken_in, taken_less}
use Rattle.fs_seats.proofs.NumberLemmas.{Numbers}
use Rattle.fs_state.specs.Switch.{Switch, chan_at}
use Rattle.fs_machine.specs.Sound.{Awaits, IsOwnedBy}
use Rattle.fs_machine.proofs.ClosureLemmas.{NoneAtZero}
use Rattle.fs_machine.proofs.OwedTables.{by_slot, owned_at, owned_in, owned_held}

-- ---- as many different numbers as there are below a bound

abbrev Told : Type 0
Told = List (Option ℕ)

-- no number is told at two seats
abbrev AreApart : Told → Type 0
AreApart told = (p q k : ℕ) → held_in told p ≡ Some k → held_in told q ≡ Some k → p ≡ q

-- each number is below a bound
abbrev AreBelow : ℕ → Told → Type 0
AreBelow n told = (p k : ℕ) → held_in told p ≡ Some k → k < n

-- a number is told somewhere, or nowhere
abbrev IsSomewhere : Told → ℕ → Type 0
IsSomewhere told k = (p : ℕ) × (held_in told p ≡ Some k)

somewhere : (told : Told) (k : ℕ) → IsSomewhere told k ⊎ (IsSomewhere told k → ⊥)
somewhere [] k = inr (λ is. none-some k is.1)
somewhere (first ∷ more) k = by first refl (somewhere more k)
  where
    none : (held : Option ℕ) → first ≡ held → (held ≡ Some k → ⊥) → (IsSomewhere more k → ⊥) → IsSomewhere (first ∷ more) k → ⊥
    none held is other later (zero, there) = other (sym is ∙ there)
    none held is other later (suc p, there) = later (p, there)

    either : (m : ℕ) → first ≡ Some m → (IsSomewhere more k → ⊥) → (m ≡ k) ⊎ (m ≡ k → ⊥) →
        IsSomewhere (first ∷ more) k ⊎ (IsSomewhere (first ∷ more) k → ⊥)
    either m is later (inl same) = inl (0, is ∙ ap Some same)
    either m is later (inr other) = inr (none (Some m) is (λ same. other (same_Some m k same)) later)

    by : (held : Option ℕ) → first ≡ held → IsSomewhere more k ⊎ (IsSomewhere more k → ⊥) →
        IsSomewhere (first ∷ more) k ⊎ (IsSomewhere (first ∷ more) k → ⊥)
    by held is (inl later) = inl (suc later.0, later.1)
    by None is (inr later) = inr (none None is (λ same. none-some k same) later)
    by (Some m) is (inr later) = either m is later (cases_eq m k)

none_below : (told : Told) → AreBelow 0 told → taken_in told ≡ 0
none_below [] below = refl
none_below (None ∷ more) below =
    let rest : taken_in more ≡ 0 = none_below more (λ p k is. below (suc p) k is) in
    let all : taken_in (None ∷ more) ≡ 0 + taken_in more = sum_by-cons one_if None more in
    omega (arith, rest, all)
none_below (Some k ∷ more) below = absurd (let less : k < 0 = below 0 k refl in omega (arith, less))

-- so no more seats are taken than there are numbers below the bound
few_taken : (n : ℕ) (told : Told) → AreApart told → AreBelow n told → taken_in told ≤ n
few_taken zero told apart below = let none : taken_in told ≡ 0 = none_below told below in omega (arith, none)
few_taken (suc n) told apart below = by (few_taken n) (somewhere told n)
  where
    by : ((less : Told) → AreApart less → AreBelow n less → taken_in less ≤ n) → IsSomewhere told n ⊎ (IsSomewhere told n → ⊥) →
        taken_in told ≤ suc n
    by fewer (inl is) =
        let without : Told = with_held told is.0 None in
        let one : taken_in without + 1 ≡ taken_in told = taken_less told is.0 n is.1 in
        let rest : taken_in without ≤ n =
        fewer without
        (λ p q k ep eq. apart p q k (kept_without told is.0 p k ep).1 (kept_without told is.0 q k eq).1)
        (λ p k e.
        let kept = kept_without told is.0 p k e in
        let less : k < suc n = below p k kept.1 in
        let other : k ≡ n → ⊥ = λ same. kept.0 (apart p is.0 k kept.1 (is.1 ∙ ap Some (sym same))) in
        omega (arith, less, other)) in
        omega (arith, one, rest)
    by fewer (inr none) =
        let rest : taken_in told ≤ n =
        fewer told apart
        (λ p k e.
        let less : k < suc n = below p k e in
        let other : k ≡ n → ⊥ = λ same. none (p, e ∙ ap Some same) in
        omega (arith, less, other)) in
        omega (arith, rest)

-- with a number in front that is told nowhere else
front_apart : (k : ℕ) (told : Told) → (IsSomewhere told k → ⊥) → AreApart told → AreApart (Some k ∷ told)
front_apart k told none apart zero zero m one two = refl
front_apart k told none apart zero (suc q) m one two = absurd (none (q, two ∙ sym one))
front_apart k told none apart (suc p) zero m one two = absurd (none (p, one ∙ sym two))
front_apart k told none apart (suc p) (suc q) m one two = ap suc (apart p q m one two)

front_below : (n k : ℕ) (told : Told) → k < n → AreBelow n told → AreBelow n (Some k ∷ told)
front_below n k told less below zero m is = subst (λ j. j < n) (same_Some k m is) less
front_below n k told less below (suc p) m is = below p m is

-- ---- slots that own originations

module _ (s : Switch) (numbers : Numbers s.origs s.drawn.origs)
    (wait : (slot number : ℕ) → IsOwnedBy s slot number → Awaits s slot number) (zero_free : NoneAtZero s)
    (seats : length s.channels ≤ 257) where
  -- the origination at a seat, and its number
  record OwnsAt (p slot : ℕ) : Type 0 where
    row : Numbered Orig
    there : held_in s.origs p ≡ Some row
    awaits : Awaits s slot row.number

  owner_is : (by : Owner) (number slot : ℕ) → by_slot by number ≡ Some slot → by ≡ owner.Slot slot
  owner_is (owner.Job job) number slot is = absurd (none-some slot is)
  owner_is (owner.Slot other) number slot is = ap owner.Slot (same_Some other slot is)

  owned_row : (row : Numbered Orig) (p slot : ℕ) → held_in s.origs p ≡ Some row → row.held.owner ≡ owner.Slot slot →
      HasRow s.origs row.number → IsOwnedBy s slot row.number
  owned_row row p slot there owned (seat, found, is) =
      let here : seat ≡ p = numbers.apart seat p found row is.there there is.numbered in
      let same : found ≡ row = same_Some found row (sym is.there ∙ (ap (held_in s.origs) here ∙ there)) in
      record {
        orig = found.held;
        there = row_is s.origs row.number seat found is;
        owned = ap (λ (r : Numbered Orig). r.held.owner) same ∙ owned;
      }

  owns_at : (p slot : ℕ) → held_in (owned_in by_slot s.origs) p ≡ Some slot → OwnsAt p slot
  owns_at p slot is = by (held_in s.origs p) refl (sym (owned_held by_slot s.origs p) ∙ is)
    where
      by : (held : Option (Numbered Orig)) → held_in s.origs p ≡ held → owned_at by_slot held ≡ Some slot → OwnsAt p slot
      by None there told = absurd (none-some slot told)
      by (Some row) there told = record {
        row = row;
        there = there;
        awaits = wait slot row.number
            (owned_row row p slot there (owner_is row.held.owner row.number slot told) (row_of_held s.origs p row there));
      }

  slots_apart : AreApart (owned_in by_slot s.origs)
  slots_apart p q slot one two =
      let first = owns_at p slot one in
      let second = owns_at q slot two in
      let same : first.awaits.chan ≡ second.awaits.chan =
      same_Some first.awaits.chan second.awaits.chan (sym first.awaits.there ∙ second.awaits.there) in
      numbers.apart p q first.row second.row first.there second.there
      (same_Some first.row.number second.row.number (sym first.awaits.waits ∙ (ap awaited_by same ∙ second.awaits.waits)))

  below_length : (slot : ℕ) (c : Chan) → chan_at s slot ≡ Some c → slot < 257
  below_length slot c there = let within : slot < length s.channels = held_within s.channels slot c there in omega (arith, within, seats)

  slots_below : AreBelow 257 (owned_in by_slot s.origs)
  slots_below p slot is = let at = owns_at p slot is in below_length slot at.awaits.chan at.awaits.there

  -- nothing stands in slot 0, so that is not one of them
  none_zero : IsSomewhere (owned_in by_slot s.origs) 0 → ⊥
  none_zero is = let at = owns_at is.0 0 is.1 in none-some at.awaits.chan (sym zero_free ∙ at.awaits.there)

  with_zero : Told
  with_zero = Some 0 ∷ owned_in by_slot s.origs

  zero_apart : AreApart with_zero
  unfolding with_zero
  zero_apart = front_apart 0 (owned_in by_slot s.origs) none_zero slots_apart

  zero_below : AreBelow 257 with_zero
  unfolding with_zero
  zero_below = front_below 257 0 (owned_in by_slot s.origs) (omega arith) slots_below

  zero_more : taken_in with_zero ≡ 1 + taken_in (owned_in by_slot s.origs)
  unfolding with_zero
  zero_more = sum_by-cons one_if (Some 0) (owned_in by_slot s.origs)

  pub few_slots : taken_in (owned_in by_slot s.origs) ≤ 256
  few_slots =
      let most : taken_in with_zero ≤ 257 = few_taken 257 with_zero zero_apart zero_below in
      let more : taken_in with_zero ≡ 1 + taken_in (owned_in by_slot s.origs) = zero_more in
      omega (arith, most, more)

  -- nor is a slot whose channel waits for nothing
  pub fewer_slots : (slot : ℕ) (c : Chan) → chan_at s slot ≡ Some c → awaited_by c ≡ None →
      taken_in (owned_in by_slot s.origs) + 1 ≤ 256
  unfolding with_zero
  fewer_slots slot c there none =
      let most : taken_in (Some slot ∷ with_zero) ≤ 257 =
      few_taken 257 (Some slot ∷ with_zero) (front_apart slot with_zero nowhere zero_apart)
      (front_below 257 slot with_zero (below_length slot c there) zero_below) in
      let more : taken_in with_zero ≡ 1 + taken_in (owned_in by_slot s.origs) = zero_more in
      let all : taken_in (Some slot ∷ with_zero) ≡ 1 + taken_in with_zero = sum_by-cons one_if (Some slot) with_zero in
      omega (arith, most, more, all)
    where
      nowhere : IsSomewhere with_zero slot → ⊥
      nowhere (zero, is) =
          let same : 0 ≡ slot = same_Some 0 slot is in
          none-some c (sym zero_free ∙ (ap (chan_at s) same ∙ there))
      nowhere (suc p, is) =
          let at = owns_at p slot is in
          let same : c ≡ at.awaits.chan = same_Some c at.awaits.chan (sym there ∙ at.awaits.there) in
          none-some at.row.number (sym none ∙ (ap awaited_by same ∙ at.awaits.waits))
