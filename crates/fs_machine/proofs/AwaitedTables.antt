-- What channels wait for is there and is theirs, behind changes of channels and of originations.
use Rattle.std.proofs.Common.{◌≡◌, ℕ, true, None, Some, ◌⊎◌, inl, inr, sym, ap, ◌∙◌}
use Rattle.std.proofs.lemmas.Bool.{cases_eq}
use Rattle.std.proofs.lemmas.Option.{none-some, same_Some}
use Rattle.fs_chan.specs.declared.chan.Chan.{Chan}
use Rattle.fs_chan.specs.Bridging.{awaited_by}
use Rattle.fs_chan.specs.Changes.{is_live}
use Rattle.fs_orig.specs.declared.orig.Orig.{Orig}
use Rattle.fs_orig.specs.declared.orig.Owner.TheVariants as owner
use Rattle.fs_seats.specs.Seats.{held_in, with_held}
use Rattle.fs_seats.specs.Rows.{row_of, with_row, without_row, with_new_row}
use Rattle.fs_seats.proofs.RowLemmas.{row_of-with_row_same, row_of-with_row_other, row_of-without_row_other, row_of-with_new_row_other}
use Rattle.fs_seats.proofs.TableLemmas.{row_found, IsWrittenOrKept, written_or_kept, kept_without}
use Rattle.fs_state.proofs.LegTables.{Origs}
use Rattle.fs_machine.proofs.LegLemmas.{Channels}
use Rattle.fs_machine.proofs.BondTables.{NoSlot, Stood, stood}

-- an origination of that number is there, and is that of the slot
pub record HasOwner (origs : Origs) (number slot : ℕ) : Type 0 where
  pub orig : Orig
  pub there : row_of origs number ≡ Some orig
  pub owned : orig.owner ≡ owner.Slot slot

-- Whoever waits for an origination lives and owns it, or is in a slot that is open.
pub record Await (open_at : ℕ → Type 0) (channels : Channels) (origs : Origs) : Type 0 where
  pub own : (slot number : ℕ) (c : Chan) → held_in channels slot ≡ Some c → awaited_by c ≡ Some number →
      open_at slot ⊎ HasOwner origs number slot
  pub live : (slot number : ℕ) (c : Chan) → held_in channels slot ≡ Some c → awaited_by c ≡ Some number → is_live c ≡ true

-- a new channel waits for what the old one waited for, or for nothing
abbrev pub AwaitsNoMore : Chan → Chan → Type 0
AwaitsNoMore old new = (number : ℕ) → awaited_by new ≡ Some number →
    (awaited_by old ≡ Some number) × (is_live old ≡ true → is_live new ≡ true)

pub awaits_none : (old new : Chan) → awaited_by new ≡ None → AwaitsNoMore old new
awaits_none old new none number is = absurd (none-some number (sym none ∙ is))

-- ---- channels

pub put_await : (open_at : ℕ → Type 0) (channels : Channels) (origs : Origs) (seat : ℕ) (old new : Chan) →
    held_in channels seat ≡ Some old →
    AwaitsNoMore old new → Await open_at channels origs → Await open_at (with_held channels seat (Some new)) origs
put_await open_at channels origs seat old new there fewer h = record {
  own = λ slot number c is waits.
      let was = before slot number c is waits in h.own slot number was.0 was.1 was.2.0;
  live = λ slot number c is waits.
      let was = before slot number c is waits in was.2.1 (h.live slot number was.0 was.1 was.2.0);
}
  where
    before : (slot number : ℕ) (c : Chan) → held_in (with_held channels seat (Some new)) slot ≡ Some c → awaited_by c ≡ Some number →
        (d : Chan) × (held_in channels slot ≡ Some d) × ((awaited_by d ≡ Some number) × (is_live d ≡ true → is_live c ≡ true))
    before slot number c is waits = by (stood channels seat old new slot c there is)
      where
        either : (was : Chan) → held_in channels slot ≡ Some was →
            ((slot ≡ seat) × (was ≡ old) × (c ≡ new)) ⊎ ((slot ≡ seat → ⊥) × (c ≡ was)) →
            (d : Chan) × (held_in channels slot ≡ Some d) × ((awaited_by d ≡ Some number) × (is_live d ≡ true → is_live c ≡ true))
        either was at (inl here) =
            let kept = fewer number (sym (ap awaited_by here.2) ∙ waits) in
            (was, at, (ap awaited_by here.1 ∙ kept.0, λ live. ap is_live here.2 ∙ kept.1 (sym (ap is_live here.1) ∙ live)))
        either was at (inr other) = (was, at, (sym (ap awaited_by other.1) ∙ waits, λ live. ap is_live other.1 ∙ live))

        by : Stood channels seat old new slot c →
            (d : Chan) × (held_in channels slot ≡ Some d) × ((awaited_by d ≡ Some number) × (is_live d ≡ true → is_live c ≡ true))
        by s = either s.was s.there s.how

-- something comes to a slot that waits for nothing
pub new_await : (open_at : ℕ → Type 0) (channels : Channels) (origs : Origs) (seat : ℕ) (new : Chan) → awaited_by new ≡ None →
    Await open_at channels origs → Await open_at (with_held channels seat (Some new)) origs
new_await open_at channels origs seat new none h = record {
  own = λ slot number c is waits. own slot number c waits (written_or_kept channels seat (Some new) slot c is);
  live = λ slot number c is waits. live slot number c waits (written_or_kept channels seat (Some new) slot c is);
}
  where
    no : (number : ℕ) (c : Chan) → Some new ≡ Some c → awaited_by c ≡ Some number → ⊥
    no number c same waits = none-some number (sym none ∙ (ap awaited_by (same_Some new c same) ∙ waits))

    own : (slot number : ℕ) (c : Chan) → awaited_by c ≡ Some number → IsWrittenOrKept channels seat (Some new) slot c →
        open_at slot ⊎ HasOwner origs number slot
    own slot number c waits (inl here) = absurd (no number c here.1 waits)
    own slot number c waits (inr kept) = h.own slot number c kept.1 waits

    live : (slot number : ℕ) (c : Chan) → awaited_by c ≡ Some number → IsWrittenOrKept channels seat (Some new) slot c → is_live c ≡ true
    live slot number c waits (inl here) = absurd (no number c here.1 waits)
    live slot number c waits (inr kept) = h.live slot number c kept.1 waits

-- one goes
pub left_await : (open_at : ℕ → Type 0) (channels : Channels) (origs : Origs) (seat : ℕ) → Await open_at channels origs →
    Await open_at (with_held channels seat None) origs
left_await open_at channels origs seat h = record {
  own = λ slot number c is waits. h.own slot number c (kept_without channels seat slot c is).1 waits;
  live = λ slot number c is waits. h.live slot number c (kept_without channels seat slot c is).1 waits;
}

-- a slot is closed whose channel waits for nothing
pub close_await : (channels : Channels) (origs : Origs) (slot : ℕ) →
    ((c : Chan) → held_in channels slot ≡ Some c → awaited_by c ≡ None) → Await (λ at. at ≡ slot) channels origs →
    Await NoSlot channels origs
close_await channels origs slot none h = record {
  own = λ at number c is waits. own at number c is waits (h.own at number c is waits);
  live = h.live;
}
  where
    own : (at number : ℕ) (c : Chan) → held_in channels at ≡ Some c → awaited_by c ≡ Some number → (at ≡ slot) ⊎ HasOwner origs number at →
        NoSlot at ⊎ HasOwner origs number at
    own at number c is waits (inl same) =
        absurd (none-some number (sym (none c (ap (held_in channels) (sym same) ∙ is)) ∙ waits))
    own at number c is waits (inr owns) = inr owns

pub open_await : (open_at : ℕ → Type 0) (channels : Channels) (origs : Origs) → Await NoSlot channels origs → Await open_at channels origs
open_await open_at channels origs h = record {
  own = λ at number c is waits. own at number (h.own at number c is waits);
  live = h.live;
}
  where
    own : (at number : ℕ) → NoSlot at ⊎ HasOwner origs number at → open_at at ⊎ HasOwner origs number at
    own at number (inl none) = absurd none
    own at number (inr owns) = inr owns

-- ---- originations

-- each that was there is there still, with its owner
abbrev pub Stay : Origs → Origs → Type 0
Stay old new = (number slot : ℕ) → HasOwner old number slot → HasOwner new number slot

pub rows_await : (open_at : ℕ → Type 0) (channels : Channels) (old new : Origs) → Stay old new → Await open_at channels old →
    Await open_at channels new
rows_await open_at channels old new stay h = record {
  own = λ slot number c is waits. own slot number (h.own slot number c is waits);
  live = h.live;
}
  where
    own : (slot number : ℕ) → open_at slot ⊎ HasOwner old number slot → open_at slot ⊎ HasOwner new number slot
    own slot number (inl opens) = inl opens
    own slot number (inr owns) = inr (stay number slot owns)

-- one is changed, and keeps its owner
pub stay_with : (origs : Origs) (number : ℕ) (p x : Orig) → row_of origs number ≡ Some p → x.owner ≡ p.owner →
    Stay origs (with_row origs number x)
stay_with origs number p x there same n slot owns = by (cases_eq number n)
  where
    by : (number ≡ n) ⊎ (number ≡ n → ⊥) → HasOwner (with_row origs number x) n slot
    by (inl here) =
        let found = row_found origs number p there in
        let is : p ≡ owns.orig = same_Some p owns.orig (sym there ∙ (ap (row_of origs) here ∙ owns.there)) in
        record {
          orig = x;
          there = ap (row_of (with_row origs number x)) (sym here) ∙ row_of-with_row_same origs number found.0 x found.2.at;
          owned = same ∙ (ap (λ (o : Orig). o.owner) is ∙ owns.owned);
        }
    by (inr other) = record {
      orig = owns.orig;
      there = row_of-with_row_other origs number x n other ∙ owns.there;
      owned = owns.owned;
    }

-- one comes of a number that none had
pub stay_new : (origs : Origs) (number : ℕ) (x : Orig) → row_of origs number ≡ None → Stay origs (with_new_row origs number x)
stay_new origs number x none n slot owns = record {
  orig = owns.orig;
  there = row_of-with_new_row_other origs number x n
      (λ same. none-some owns.orig (sym none ∙ (ap (row_of origs) same ∙ owns.there))) ∙ owns.there;
  owned = owns.owned;
}

-- one goes that only open slots wait for
pub gone_await : (open_at : ℕ → Type 0) (channels : Channels) (origs : Origs) (gone : ℕ) →
    ((slot : ℕ) (c : Chan) → held_in channels slot ≡ Some c → awaited_by c ≡ Some gone → HasOwner origs gone slot → open_at slot) →
    Await open_at channels origs → Await open_at channels (without_row origs gone)
gone_await open_at channels origs gone free h = record {
  own = λ slot number c is waits. own slot number c is waits (cases_eq gone number) (h.own slot number c is waits);
  live = h.live;
}
  where
    own : (slot number : ℕ) (c : Chan) → held_in channels slot ≡ Some c → awaited_by c ≡ Some number →
        (gone ≡ number) ⊎ (gone ≡ number → ⊥) →
        open_at slot ⊎ HasOwner origs number slot → open_at slot ⊎ HasOwner (without_row origs gone) number slot
    own slot number c is waits which (inl opens) = inl opens
    own slot number c is waits (inl same) (inr owns) =
        inl
        (free slot c is (waits ∙ ap Some (sym same))
        (record { orig = owns.orig; there = ap (row_of origs) same ∙ owns.there; owned = owns.owned }))
    own slot number c is waits (inr other) (inr owns) =
        inr
        (record {
          orig = owns.orig;
          there = row_of-without_row_other origs gone number other ∙ owns.there;
          owned = owns.owned;
        })
