-- Which key and which slot a hold is of.
use Rattle.std.proofs.Common.{◌≡◌, ℕ, ◌==◌, Bool, true, false, not, ◌&&◌, refl}
use Rattle.std.specs.Str.{bytes_eq}
use Rattle.std.proofs.lemmas.Bool.{eqb-true, false≢true}
use Rattle.std.proofs.lemmas.Slice.Eq.{bytes_eq-Decides}
use Rattle.fs_text.specs.Texts.{Text}
use Rattle.fs_limit.specs.Holds.{is_of, is_hold, new_hold}

-- both of two tests hold
pub both : (one other : Bool) → (one && other) ≡ true → (one ≡ true) × (other ≡ true)
both true true is = (refl, refl)
both true false is = absurd (false≢true is)
both false other is = absurd (false≢true is)

-- the one holds, and the other does not
pub only_one : (one other : Bool) → (one && not other) ≡ true → (one ≡ true) × (other ≡ false)
only_one true true is = absurd (false≢true is)
only_one true false is = (refl, refl)
only_one false other is = absurd (false≢true is)

-- a new hold is of no other key than its own
pub same_key : (realm id other_realm other_id : Text) (slot : ℕ) → is_of other_realm other_id (new_hold realm id slot) ≡ true →
    (realm ≡ other_realm) × (id ≡ other_id)
same_key realm id other_realm other_id slot is =
    let parts = both (bytes_eq realm other_realm) (bytes_eq id other_id) is in
    ((bytes_eq-Decides realm other_realm).0 parts.0, (bytes_eq-Decides id other_id).0 parts.1)

-- nor of another slot
pub same_hold : (realm id other_realm other_id : Text) (slot other : ℕ) →
    is_hold other_realm other_id other (new_hold realm id slot) ≡ true →
    (realm ≡ other_realm) × (id ≡ other_id) × (slot ≡ other)
same_hold realm id other_realm other_id slot other is =
    let parts = both (is_of other_realm other_id (new_hold realm id slot)) (slot == other) is in
    let key = same_key realm id other_realm other_id slot parts.0 in (key.0, key.1, eqb-true slot other parts.1)
