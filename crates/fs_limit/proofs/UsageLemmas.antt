-- How many slots hold a key, behind each step and over any steps.
use Rattle.std.proofs.Common.{◌≡◌, ℕ, ◌+◌, ◌<◌, ◌≤◌, Bool, true, false, not, ◌&&◌, ◌⊎◌, [], ◌∷◌, ◌++◌, refl, ap, subst, ◌∙◌}
use Rattle.std.proofs.Common.{arith, length, if◌then◌else◌, inl, inr}
use Rattle.std.proofs.lemmas.Bool.{cases_lt, ltb-true, false≢true}
use Rattle.std.proofs.lemmas.List.Elements.{All-head, All-tail}
use Rattle.fs_text.specs.Texts.{Text}
use Rattle.fs_limit.specs.declared.hold.Hold.{Hold}
use Rattle.fs_limit.specs.Holds.{Holds, is_of, is_hold, has, holders, others, may_hold, adds_hold, new_hold}
use Rattle.fs_limit.specs.Laws.{IsOnce, Step, Ask, Release, after, Allows, AsksWithin}
use Rattle.fs_limit.specs.Laws.{AllowedIsWithin, GrowsByAsking, NeverMore}
use Rattle.fs_limit.proofs.CountLemmas.{one_if, none_counted, holders_split, holders_behind}
use Rattle.fs_limit.proofs.HeldLemmas.{released_leaves_others}
use Rattle.fs_limit.proofs.KeyLemmas.{only_one, same_key}
use Rattle.fs_limit.proofs.SoundLemmas.{stays_once}

-- ---- at one step

one_at_most : (b : Bool) → one_if b ≤ 1
one_at_most true = omega arith
one_at_most false = omega arith

-- a slot that may hold a key, and did not, is one of as many as were allowed
added_within : (realm id : Text) (max slot : ℕ) (holds : Holds) → may_hold realm id max slot holds ≡ true →
    has realm id slot holds ≡ false → length (holders realm id (holds ++ new_hold realm id slot ∷ [])) ≤ max
added_within realm id max slot holds may free =
    let few = ltb-true (length (others realm id slot holds)) max may in
    let split = holders_split realm id slot holds in
    let none = none_counted (is_hold realm id slot) holds free in
    let all = holders_behind realm id (new_hold realm id slot) holds in
    let one = one_at_most (is_of realm id (new_hold realm id slot)) in omega (arith, few, split, none, all, one)

pub allowed_is_within : AllowedIsWithin
allowed_is_within realm id max slot holds once may = by (may_hold realm id max slot holds) (has realm id slot holds) may refl
  where
    by : (b h : Bool) → b ≡ true → has realm id slot holds ≡ h →
        length (holders realm id (if b && not h then holds ++ new_hold realm id slot ∷ [] else holds)) ≤ max
    by true true is held =
        let few = ltb-true (length (others realm id slot holds)) max may in
        let split = holders_split realm id slot holds in
        let own = once realm id slot in omega (arith, few, split, own)
    by true false is held = added_within realm id max slot holds may held
    by false h is held = absurd (false≢true is)

pub grows_by_asking : GrowsByAsking
grows_by_asking realm id (Ask asked_realm asked_id max slot) holds once grows =
    by (adds_hold asked_realm asked_id max slot holds) refl grows
  where
    new : Hold
    new = new_hold asked_realm asked_id slot

    counted : (b : Bool) → is_of realm id new ≡ b → length (holders realm id holds) < length (holders realm id (holds ++ new ∷ [])) →
        is_of realm id new ≡ true
    counted true is more = is
    counted false is more =
        let all = holders_behind realm id new holds ∙ ap (λ b. length (holders realm id holds) + one_if b) is in
        absurd (omega (arith, all, more))

    by : (b : Bool) → adds_hold asked_realm asked_id max slot holds ≡ b →
        length (holders realm id holds) < length (holders realm id (if b then holds ++ new ∷ [] else holds)) →
        Allows realm id (length (holders realm id (if b then holds ++ new ∷ [] else holds))) (Ask asked_realm asked_id max slot)
    by true adds more =
        let same = same_key asked_realm asked_id realm id slot (counted (is_of realm id new) refl more) in
        let parts = only_one (may_hold asked_realm asked_id max slot holds) (has asked_realm asked_id slot holds) adds in (
          same.0,
          same.1,
          subst (λ r. length (holders r id (holds ++ new ∷ [])) ≤ max) same.0
              (subst (λ i. length (holders asked_realm i (holds ++ new ∷ [])) ≤ max) same.1
              (added_within asked_realm asked_id max slot holds parts.0 parts.1)),
        )
    by false adds more = absurd (omega (arith, more))
grows_by_asking realm id (Release slot) holds once grows =
    let left = ap length (released_leaves_others realm id slot holds) in
    let split = holders_split realm id slot holds in absurd (omega (arith, left, split, grows))

-- ---- over a run of steps

-- where all that ask for a key allow so many, no step takes more
step_within : (realm id : Text) (most : ℕ) (step : Step) (holds : Holds) → IsOnce holds → AsksWithin realm id most step →
    length (holders realm id holds) ≤ most → length (holders realm id (after step holds)) ≤ most
step_within realm id most step holds once asks before =
    by (cases_lt (length (holders realm id holds)) (length (holders realm id (after step holds))))
  where
    asked : (step : Step) (count : ℕ) → AsksWithin realm id most step → Allows realm id count step → count ≤ most
    asked (Ask asked_realm asked_id max slot) count asks allows =
        let within = asks allows.0 allows.1 in let few = allows.2 in omega (arith, within, few)
    asked (Release slot) count asks allows = absurd allows

    by : (length (holders realm id holds) < length (holders realm id (after step holds)))
        ⊎ (length (holders realm id (after step holds)) ≤ length (holders realm id holds)) →
        length (holders realm id (after step holds)) ≤ most
    by (inl grows) =
        asked step (length (holders realm id (after step holds))) asks (grows_by_asking realm id step holds once grows)
    by (inr less) = omega (arith, less, before)

pub never_more : NeverMore
never_more realm id most [] holds once asks before = before
never_more realm id most (step ∷ steps) holds once asks before =
    never_more realm id most steps (after step holds) (stays_once step holds once)
    (All-tail (AsksWithin realm id most) step steps asks)
    (step_within realm id most step holds once (All-head (AsksWithin realm id most) step steps asks) before)
