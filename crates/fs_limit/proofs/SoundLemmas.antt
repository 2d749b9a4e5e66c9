-- What is true of all holds stays true behind each change.
use Rattle.std.proofs.Common.{◌≡◌, ℕ, ◌+◌, ◌<◌, ◌≤◌, ◌^◌, Bool, true, false, not, [], ◌∷◌, ◌++◌, refl, sym, ap, subst, ◌∙◌}
use Rattle.std.proofs.Common.{arith, length, count_by, if◌then◌else◌, Result, Ok, Err, OnOk, OnErr}
use Rattle.std.proofs.lemmas.List.Sums.{length-filter, count_by-le-length}
use Rattle.fs_text.specs.Texts.{Text}
use Rattle.fs_limit.specs.declared.hold.Hold.{Hold}
use Rattle.fs_limit.specs.Holds.{Holds, has_slot, is_hold, has, may_hold, adds_hold, new_hold, after_release}
use Rattle.fs_limit.specs.Laws.{IsOnce, IsSound, Ask, Release, StaysOnce}
use Rattle.fs_limit.proofs.CountLemmas.{one_if, count_behind, count_kept, none_counted}
use Rattle.fs_limit.proofs.KeyLemmas.{only_one, same_hold}

-- ---- a slot holds a key once at most

added_once : (realm id : Text) (slot : ℕ) (holds : Holds) → has realm id slot holds ≡ false → IsOnce holds →
    IsOnce (holds ++ new_hold realm id slot ∷ [])
added_once realm id slot holds free once other_realm other_id other =
    by (is_hold other_realm other_id other new) refl (count_behind (is_hold other_realm other_id other) new holds)
  where
    new : Hold
    new = new_hold realm id slot

    by : (b : Bool) → is_hold other_realm other_id other new ≡ b →
        count_by (is_hold other_realm other_id other) (holds ++ new ∷ [])
        ≡ count_by (is_hold other_realm other_id other) holds + one_if b →
        count_by (is_hold other_realm other_id other) (holds ++ new ∷ []) ≤ 1
    by true is all =
        let same = same_hold realm id other_realm other_id slot other is in
        let none : count_by (is_hold other_realm other_id other) holds ≡ 0 =
        ap (λ r. count_by (is_hold r other_id other) holds) (sym same.0)
        ∙ ap (λ i. count_by (is_hold realm i other) holds) (sym same.1)
        ∙ ap (λ s. count_by (is_hold realm id s) holds) (sym same.2)
        ∙ none_counted (is_hold realm id slot) holds free in omega (arith, all, none)
    by false is all = let old = once other_realm other_id other in omega (arith, all, old)

released_once : (slot : ℕ) (holds : Holds) → IsOnce holds → IsOnce (after_release slot holds)
released_once slot holds once realm id other =
    let old = once realm id other in
    let less = count_kept (is_hold realm id other) (λ hold. not (has_slot slot hold)) holds in omega (arith, old, less)

pub stays_once : StaysOnce
stays_once (Ask realm id max slot) holds once = by (adds_hold realm id max slot holds) refl
  where
    by : (b : Bool) → adds_hold realm id max slot holds ≡ b → IsOnce (if b then holds ++ new_hold realm id slot ∷ [] else holds)
    by true adds = added_once realm id slot holds (only_one (may_hold realm id max slot holds) (has realm id slot holds) adds).1 once
    by false adds = once
stays_once (Release slot) holds once = released_once slot holds once

-- ---- all that is true of them

-- also where the new hold was refused, and they are as before
pub added_sound : {T E : Type 0} (realm id : Text) (slot : ℕ) (old now : Holds) (result : Result T E) →
    OnOk result (now ≡ old ++ new_hold realm id slot ∷ []) → OnOk result (length now < 2 ^ 32) → OnErr result (now ≡ old) →
    has realm id slot old ≡ false → IsSound old → IsSound now
added_sound realm id slot old now (Ok done) added few kept free sound = record {
  once = subst IsOnce (sym added) (added_once realm id slot old free sound.once);
  few = few;
}
added_sound realm id slot old now (Err error) added few kept free sound = subst IsSound (sym kept) sound

pub released_sound : (slot : ℕ) (holds : Holds) → IsSound holds → IsSound (after_release slot holds)
released_sound slot holds sound = record {
  once = released_once slot holds sound.once;
  few =
      let old = sound.few in
      let counted = length-filter (λ hold. not (has_slot slot hold)) holds in
      let less = count_by-le-length (λ hold. not (has_slot slot hold)) holds in omega (arith, old, counted, less);
}
