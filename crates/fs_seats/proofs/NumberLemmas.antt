-- Numbers that things in a table have of their own, behind one change too.
use Rattle.std.proofs.Common.{◌≡◌, ℕ, ◌+◌, ◌≤◌, List, Option, None, Some, refl, sym, ap, subst, ◌∙◌, inl, inr, arith}
use Rattle.std.proofs.lemmas.Option.{none-some, same_Some}
use Rattle.fs_seats.specs.declared.numbered.Numbered.{Numbered}
use Rattle.fs_seats.specs.Seats.{no_seats, held_in, with_held}
use Rattle.fs_seats.proofs.TableLemmas.{IsWrittenOrKept, written_or_kept, kept_without, none_held, number_at, numbers_in, numbers_held}

-- each thing has a number of its own that was drawn
pub record Numbers {T : Type 0} (rows : List (Option (Numbered T))) (drawn : ℕ) : Type 0 where
  pub apart : (p q : ℕ) (a c : Numbered T) → held_in rows p ≡ Some a → held_in rows q ≡ Some c → a.number ≡ c.number → p ≡ q
  pub within : (p : ℕ) (a : Numbered T) → held_in rows p ≡ Some a → a.number ≤ drawn

-- a thing is changed, and keeps its number
pub numbers_changed : {T : Type 0} → (rows : List (Option (Numbered T))) (drawn p : ℕ) (old new : Numbered T) → held_in rows p ≡ Some old →
    new.number ≡ old.number →
    Numbers rows drawn → Numbers (with_held rows p (Some new)) drawn
numbers_changed {T} rows drawn p old new there same h = record {
  apart = λ q r x z ex ez e. h.apart q r (was q x ex).0 (was r z ez).0 (was q x ex).1 (was r z ez).1
      ((was q x ex).2 ∙ (e ∙ sym (was r z ez).2));
  within = λ q x e. subst (λ (n : ℕ). n ≤ drawn) (was q x e).2 (h.within q (was q x e).0 (was q x e).1);
}
  where
    by : (q : ℕ) (x : Numbered T) → IsWrittenOrKept rows p (Some new) q x →
        (y : Numbered T) × (held_in rows q ≡ Some y) × (y.number ≡ x.number)
    by q x (inl here) =
        (old, ap (λ (k : ℕ). held_in rows k) here.0 ∙ there, sym same ∙ ap (λ (y : Numbered T). y.number) (same_Some new x here.1))
    by q x (inr kept) = (x, kept.1, refl)

    -- what stands there had its number before
    was : (q : ℕ) (x : Numbered T) → held_in (with_held rows p (Some new)) q ≡ Some x →
        (y : Numbered T) × (held_in rows q ≡ Some y) × (y.number ≡ x.number)
    was q x e = by q x (written_or_kept rows p (Some new) q x e)

-- a thing is gone
pub numbers_gone : {T : Type 0} → (rows : List (Option (Numbered T))) (drawn p : ℕ) → Numbers rows drawn →
    Numbers (with_held rows p None) drawn
numbers_gone rows drawn p h = record {
  apart = λ q r x z ex ez e. h.apart q r x z (kept_without rows p q x ex).1 (kept_without rows p r z ez).1 e;
  within = λ q x e. h.within q x (kept_without rows p q x e).1;
}

-- a thing comes, of the next number
pub numbers_come : {T : Type 0} → (rows : List (Option (Numbered T))) (drawn p : ℕ) (new : Numbered T) → new.number ≡ drawn + 1 →
    Numbers rows drawn → Numbers (with_held rows p (Some new)) (drawn + 1)
numbers_come {T} rows drawn p new fresh h = record {
  apart = λ q r x z ex ez e. apart q r x z (written_or_kept rows p (Some new) q x ex) (written_or_kept rows p (Some new) r z ez) e;
  within = λ q x e. within q x (written_or_kept rows p (Some new) q x e);
}
  where
    number_of : (x : Numbered T) → Some new ≡ Some x → x.number ≡ drawn + 1
    number_of x e = sym (ap (λ (y : Numbered T). y.number) (same_Some new x e)) ∙ fresh

    apart : (q r : ℕ) (x z : Numbered T) → IsWrittenOrKept rows p (Some new) q x →
        IsWrittenOrKept rows p (Some new) r z → x.number ≡ z.number → q ≡ r
    apart q r x z (inl one) (inl two) e = one.0 ∙ sym two.0
    apart q r x z (inl one) (inr two) e =
        let first : x.number ≡ drawn + 1 = number_of x one.1 in
        let second : z.number ≤ drawn = h.within r z two.1 in
        absurd (omega (arith, first, second, e))
    apart q r x z (inr one) (inl two) e =
        let first : x.number ≤ drawn = h.within q x one.1 in
        let second : z.number ≡ drawn + 1 = number_of z two.1 in
        absurd (omega (arith, first, second, e))
    apart q r x z (inr one) (inr two) e = h.apart q r x z one.1 two.1 e

    within : (q : ℕ) (x : Numbered T) → IsWrittenOrKept rows p (Some new) q x → x.number ≤ drawn + 1
    within q x (inl here) = let is : x.number ≡ drawn + 1 = number_of x here.1 in omega (arith, is)
    within q x (inr kept) = let is : x.number ≤ drawn = h.within q x kept.1 in omega (arith, is)

-- a number was drawn for which there was no seat
pub numbers_more : {T : Type 0} → (rows : List (Option (Numbered T))) (drawn : ℕ) → Numbers rows drawn → Numbers rows (drawn + 1)
numbers_more rows drawn h = record {
  apart = h.apart;
  within = λ q x e. let is : x.number ≤ drawn = h.within q x e in omega (arith, is);
}

-- ---- an empty table

-- at no seat of an empty table stands a number
pub no_number : (T : Type 0) (count seat number : ℕ) → held_in (numbers_in (no_seats {T = Numbered T} count)) seat ≡ Some number → ⊥
no_number T count seat number is =
    by (held_in (no_seats {T = Numbered T} count) seat) refl (sym (numbers_held (no_seats {T = Numbered T} count) seat) ∙ is)
  where
    by : (held : Option (Numbered T)) → held_in (no_seats {T = Numbered T} count) seat ≡ held → number_at held ≡ Some number → ⊥
    by None at e = none-some number e
    by (Some row) at e = none_held count seat row at

pub none_numbered : {T : Type 0} → (count : ℕ) → Numbers (no_seats {T = Numbered T} count) 0
none_numbered count = record {
  apart = λ p q a c is_a is_c e. absurd (none_held count p a is_a);
  within = λ p a is. absurd (none_held count p a is);
}
