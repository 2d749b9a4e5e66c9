-- The groups of a dial string that is read: there is one, and each has a leg.
use Rattle.std.proofs.Common.{◌≡◌, ℕ, zero, suc, List, [], ◌∷◌, map, slice_get, Option, None, Some, IsSome, option_map, Ok, refl, sym}
use Rattle.std.proofs.Common.{subst, ◌∙◌}
use Rattle.std.proofs.lemmas.Option.{none-some, same_Some, slice_get-map}
use Rattle.fs_text.specs.Texts.{Text}
use Rattle.fs_dial.specs.Legs.{LegText}
use Rattle.fs_dial.specs.DialStrings.{Dial, dial_string}
use Rattle.fs_dial.specs.Spelling.{AreLegs}
use Rattle.fs_dial.specs.Spelling.AreLegs.{LastLeg, SameGroup, NextGroup}
use Rattle.fs_dial.proofs.Whole.{read_is_spelt}
use Rattle.fs_orig.specs.declared.plan.LegPlan.{LegPlan}
use Rattle.fs_orig.specs.Plans.{leg_plan, plans_of}
use Rattle.fs_machine.proofs.Kept.{AreGroups}

-- there is a first group
first_there : (end : ℕ) (text : Text) (groups : List (List LegText)) → AreLegs end text groups → IsSome (slice_get groups 0)
first_there end text _ (LastLeg _ leg is) = refl
first_there end text _ (SameGroup _ rest leg legs groups is more) = refl
first_there end text _ (NextGroup _ rest leg groups is more) = refl

-- it begins with a leg
begins : (leg : LegText) (legs group : List LegText) → Some (leg ∷ legs) ≡ Some group → IsSome (slice_get group 0)
begins leg legs group is = subst (λ (g : List LegText). IsSome (slice_get g 0)) (same_Some (leg ∷ legs) group is) refl

each_filled : (end : ℕ) (text : Text) (groups : List (List LegText)) → AreLegs end text groups → (k : ℕ) (group : List LegText) →
    slice_get groups k ≡ Some group → IsSome (slice_get group 0)
each_filled end text _ (LastLeg _ leg is) zero group there = begins leg [] group there
each_filled end text _ (LastLeg _ leg is) (suc k) group there = absurd (none-some group there)
each_filled end text _ (SameGroup _ rest leg legs groups is more) zero group there = begins leg legs group there
each_filled end text _ (SameGroup _ rest leg legs groups is more) (suc k) group there =
    each_filled end rest (legs ∷ groups) more (suc k) group there
each_filled end text _ (NextGroup _ rest leg groups is more) zero group there = begins leg [] group there
each_filled end text _ (NextGroup _ rest leg groups is more) (suc k) group there = each_filled end rest groups more k group there

-- what is there is there behind a map
some_map : {A B : Type 0} → (f : A → B) (xs : List A) (k : ℕ) → IsSome (slice_get xs k) → IsSome (slice_get (map f xs) k)
some_map {A} {B} f xs k some = subst IsSome (sym (slice_get-map f xs k)) (by (slice_get xs k) some)
  where
    by : (x : Option A) → IsSome x → IsSome (option_map f x)
    by None some = some
    by (Some x) some = refl

plans_filled : (dial : Dial) → ((k : ℕ) (group : List LegText) → slice_get dial.groups k ≡ Some group → IsSome (slice_get group 0)) →
    (k : ℕ) (group : List LegPlan) → slice_get (plans_of dial) k ≡ Some group → IsSome (slice_get group 0)
plans_filled dial each k group there =
    by (slice_get dial.groups k) refl (sym (slice_get-map (λ legs. map (leg_plan dial.pairs) legs) dial.groups k) ∙ there)
  where
    by : (legs : Option (List LegText)) → slice_get dial.groups k ≡ legs →
        option_map (λ legs. map (leg_plan dial.pairs) legs) legs ≡ Some group → IsSome (slice_get group 0)
    by None is e = absurd (none-some group e)
    by (Some legs) is e =
        subst (λ (g : List LegPlan). IsSome (slice_get g 0)) (same_Some (map (leg_plan dial.pairs) legs) group e)
        (some_map (leg_plan dial.pairs) legs 0 (each k legs is))

pub dialed_groups : (url : Text) (dial : Dial) → dial_string url ≡ Ok dial → AreGroups (plans_of dial)
dialed_groups url dial is =
    let spelt = read_is_spelt url dial is in
    record {
      some = some_map (λ legs. map (leg_plan dial.pairs) legs) dial.groups 0 (first_there _ spelt.rest dial.groups spelt.legs);
      filled = plans_filled dial (each_filled _ spelt.rest dial.groups spelt.legs);
    }
