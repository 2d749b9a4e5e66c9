-- Whoever hangs up is named, or dragged by one who hangs up.
use Rattle.std.proofs.Common.{◌≡◌, ℕ, zero, suc, Bool, true, false, cond, List, [], ◌∷◌, ◌++◌, take, drop, fold, filter, flat_map}
use Rattle.std.proofs.Common.{◌⊎◌, inl, inr, refl, subst}
use Rattle.std.specs.Prelude.{nat_lt, insert, count_by}
use Rattle.std.proofs.lemmas.List.{take-append-drop}
use Rattle.fs_bridge.specs.Worlds.{World}
use Rattle.fs_bridge.specs.Orders.{has_slot, placed, in_order}
use Rattle.fs_bridge.specs.Closure.{Member, Members, drags, may_join, round_after, with_rounds, members_of}
use Rattle.fs_bridge.specs.Hangups.{IsOneOf, IsDragged, EachIsNamedOrDragged}

-- ---- one of a list

pub one_parts : {X : Type 0} (x : X) (xs ys : List X) → IsOneOf x (xs ++ ys) → IsOneOf x xs ⊎ IsOneOf x ys
one_parts x [] ys is = inr is
one_parts x (first ∷ xs) ys (inl is) = inl (inl is)
one_parts x (first ∷ xs) ys (inr is) = elim (one_parts x xs ys is) [ inl h ↦ inl (inr h) | inr h ↦ inr h ]

pub one_front : {X : Type 0} (x : X) (xs ys : List X) → IsOneOf x xs → IsOneOf x (xs ++ ys)
one_front x [] ys is = absurd is
one_front x (first ∷ xs) ys (inl is) = inl is
one_front x (first ∷ xs) ys (inr is) = inr (one_front x xs ys is)

pub one_back : {X : Type 0} (x : X) (xs ys : List X) → IsOneOf x ys → IsOneOf x (xs ++ ys)
one_back x [] ys is = is
one_back x (first ∷ xs) ys is = inr (one_back x xs ys is)

pub one_insert : {X : Type 0} (x : X) (xs : List X) (i : ℕ) (y : X) → IsOneOf x (insert xs i y) → (x ≡ y) ⊎ IsOneOf x xs
one_insert x xs i y is =
    elim (one_parts x (take i xs) (y ∷ drop i xs) is) [
      | inl h ↦ inr (subst (λ all. IsOneOf x all) (take-append-drop i xs) (one_front x (take i xs) (drop i xs) h))
      | inr h ↦ elim h [
        | inl same ↦ inl same
        | inr behind ↦ inr (subst (λ all. IsOneOf x all) (take-append-drop i xs) (one_back x (take i xs) (drop i xs) behind))
      ]
    ]

one_case : {T : Type 0} (x : ℕ × T) (things : List (ℕ × T)) (i : ℕ) (thing : ℕ × T) (stands : Bool) →
    IsOneOf x (cond stands things (insert things i thing)) → (x ≡ thing) ⊎ IsOneOf x things
one_case x things i thing true is = inr is
one_case x things i thing false is = one_insert x things i thing is

pub one_placed : {T : Type 0} (x : ℕ × T) (things : List (ℕ × T)) (thing : ℕ × T) → IsOneOf x (placed things thing) →
    (x ≡ thing) ⊎ IsOneOf x things
unfolding placed
one_placed x things thing is =
    one_case x things (count_by (λ other. nat_lt other.0 thing.0) things) thing (has_slot thing.0 things) is

pub one_order : {T : Type 0} (x : ℕ × T) (before things : List (ℕ × T)) → IsOneOf x (fold placed before things) →
    IsOneOf x before ⊎ IsOneOf x things
one_order x before [] is = inl is
one_order x before (thing ∷ things) is =
    elim (one_order x (placed before thing) things is) [
      | inl h ↦ elim (one_placed x before thing h) [ inl same ↦ inr (inl same) | inr there ↦ inl there ]
      | inr h ↦ inr (inr h)
    ]

-- in order stands only who was there
pub one_in_order : {T : Type 0} (x : ℕ × T) (things : List (ℕ × T)) → IsOneOf x (in_order things) → IsOneOf x things
one_in_order x things is = elim (one_order x [] things is) [ inl h ↦ absurd h | inr h ↦ h ]

kept_case : {X : Type 0} (x y : X) (left : List X) (b : Bool) → IsOneOf x (cond b (y ∷ left) left) → (x ≡ y) ⊎ IsOneOf x left
kept_case x y left true is = is
kept_case x y left false is = inr is

pub one_filter : {X : Type 0} (test : X → Bool) (x : X) (xs : List X) → IsOneOf x (filter test xs) → IsOneOf x xs
one_filter test x [] is = is
one_filter test x (y ∷ xs) is =
    elim (kept_case x y (filter test xs) (test y) is) [ inl same ↦ inl same | inr h ↦ inr (one_filter test x xs h) ]

-- ---- who is dragged

further : (w : World) (first : Member) (round : Members) (m : Member) → IsDragged w round m → IsDragged w (first ∷ round) m
further w first round m is = record { by = is.by; member = inr is.member; dragged = is.dragged }

one_dragged : (w : World) (round : Members) (m : Member) → IsOneOf m (flat_map (drags w) round) → IsDragged w round m
one_dragged w [] m is = absurd is
one_dragged w (by ∷ round) m is =
    elim (one_parts m (drags w by) (flat_map (drags w) round) is) [
      | inl h ↦ record { by = by; member = inl refl; dragged = h }
      | inr h ↦ further w by round m (one_dragged w round m h)
    ]

-- who joins a round is dragged by one of the round before
pub joined_dragged : (w : World) (members round : Members) (m : Member) → IsOneOf m (round_after w members round) → IsDragged w round m
joined_dragged w members round m is =
    one_dragged w round m
    (one_filter (may_join w members) m (flat_map (drags w) round)
    (one_in_order m (filter (may_join w members) (flat_map (drags w) round)) is))

-- each of the round is a member, and each member is named or dragged
record Chained (w : World) (named members round : Members) : Type 0 where
  pub within : (m : Member) → IsOneOf m round → IsOneOf m members
  pub each : (m : Member) → IsOneOf m members → IsOneOf m named ⊎ IsDragged w members m

widened : (w : World) (members more : Members) (m : Member) → IsDragged w members m → IsDragged w (members ++ more) m
widened w members more m is = record { by = is.by; member = one_front is.by members more is.member; dragged = is.dragged }

of_round : (w : World) (members round more : Members) (m : Member) → ((by : Member) → IsOneOf by round → IsOneOf by members) →
    IsDragged w round m → IsDragged w (members ++ more) m
of_round w members round more m within is =
    record { by = is.by; member = one_front is.by members more (within is.by is.member); dragged = is.dragged }

next_each : (w : World) (named members round : Members) (m : Member) → Chained w named members round →
    IsOneOf m (members ++ round_after w members round) → IsOneOf m named ⊎ IsDragged w (members ++ round_after w members round) m
next_each w named members round m h is =
    elim (one_parts m members (round_after w members round) is) [
      | inl old ↦ elim (h.each m old) [ inl there ↦ inl there | inr by ↦ inr (widened w members (round_after w members round) m by) ]
      | inr new ↦ inr (of_round w members round (round_after w members round) m h.within (joined_dragged w members round m new))
    ]

next_chained : (w : World) (named members round : Members) → Chained w named members round →
    Chained w named (members ++ round_after w members round) (round_after w members round)
next_chained w named members round h = record {
  within = λ m is. one_back m members (round_after w members round) is;
  each = λ m is. next_each w named members round m h is;
}

rounds_chained : (w : World) (named : Members) (more : ℕ) (members round : Members) → Chained w named members round →
    (m : Member) → IsOneOf m (with_rounds w more members round) → IsOneOf m named ⊎ IsDragged w (with_rounds w more members round) m
rounds_chained w named zero members round h m is = h.each m is
rounds_chained w named (suc more) members round h m is =
    rounds_chained w named more (members ++ round_after w members round) (round_after w members round)
    (next_chained w named members round h) m is

pub each_is_named_or_dragged : EachIsNamedOrDragged
unfolding members_of
each_is_named_or_dragged w named m is =
    rounds_chained w named w.slots (in_order named) (in_order named)
    (record { within = λ _ h. h; each = λ x h. inl (one_in_order x named h) }) m is
