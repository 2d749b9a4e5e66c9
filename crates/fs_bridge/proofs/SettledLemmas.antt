-- Whoever lives and is dragged by one who hangs up, hangs up.
use Rattle.std.proofs.Common.{◌≡◌, ℕ, zero, suc, ◌+◌, ◌<◌, ◌≤◌, Bool, true, false, ◌||◌, ◌&&◌, not, cond, eqb, List, [], ◌∷◌, ◌++◌, map, length}
use Rattle.std.proofs.Common.{get_or, filter, flat_map, ◌⊎◌, inl, inr, refl, ap, sym, subst, ◌∙◌, arith, Any}
use Rattle.std.specs.Prelude.{◌==◌, All}
use Rattle.std.specs.List.{list_any, IsDistinct, AllByRecursion}
use Rattle.std.proofs.Math.Nat.{suc-ne-zero}
use Rattle.std.proofs.lemmas.List.{length-append, length-map}
use Rattle.std.proofs.lemmas.List.Folds.{list_any-append, Any-from_list_any}
use Rattle.std.proofs.lemmas.Bool.{eqb-true, true≢false, false_from_ne_true, or_cases}
use Rattle.std.proofs.lemmas.Cmp.{nat_eq_equiv}
use Rattle.std.proofs.lemmas.Map.Keys.{IsDistinct-cons}
use Rattle.std.proofs.lemmas.Map.Steps.{length-le_from_distinct_below}
use Rattle.fs_bridge.specs.Worlds.{World, IsSlot}
use Rattle.fs_bridge.specs.Orders.{has_slot, in_order}
use Rattle.fs_bridge.specs.Closure.{Member, Members, AreNamed, drags, may_join, round_after, with_rounds, members_of}
use Rattle.fs_bridge.specs.Hangups.{IsOneOf, IsDragged, EachDraggedHangsUp}
use Rattle.fs_bridge.proofs.DragLemmas.{one_parts, one_front, one_back}
use Rattle.fs_bridge.proofs.OnceLemmas.{count_in, count_cons, has_order, order_once, more_once}

-- ---- tests

or_left : (a b : Bool) → a ≡ true → (a || b) ≡ true
or_left true b is = refl
or_left false b is = absurd (true≢false (sym is))

or_right : (a b : Bool) → b ≡ true → (a || b) ≡ true
or_right true b is = refl
or_right false b is = is

pub and_left : (a b : Bool) → (a && b) ≡ true → a ≡ true
and_left true b is = refl
and_left false b is = is

pub both : (a b : Bool) → a ≡ true → b ≡ false → (a && not b) ≡ true
both true false a b = refl
both true true a b = absurd (true≢false b)
both false b' a b = absurd (true≢false (sym a))

-- ---- who is a member

pub has_front : (slot : ℕ) (xs ys : Members) → has_slot slot xs ≡ true → has_slot slot (xs ++ ys) ≡ true
has_front slot xs ys is =
    list_any-append (λ (m : Member). m.0 == slot) xs ys ∙ or_left (has_slot slot xs) (has_slot slot ys) is

pub has_back : (slot : ℕ) (xs ys : Members) → has_slot slot ys ≡ true → has_slot slot (xs ++ ys) ≡ true
has_back slot xs ys is =
    list_any-append (λ (m : Member). m.0 == slot) xs ys ∙ or_right (has_slot slot xs) (has_slot slot ys) is

pub has_either : (slot : ℕ) (xs ys : Members) → has_slot slot (xs ++ ys) ≡ true → (has_slot slot xs ≡ true) ⊎ (has_slot slot ys ≡ true)
has_either slot xs ys is =
    or_cases (has_slot slot xs) (has_slot slot ys) (sym (list_any-append (λ (m : Member). m.0 == slot) xs ys) ∙ is)

-- ---- who joins a round

joins_case : (slot : ℕ) (m : Member) (left : Members) (joins : Bool) → joins ≡ true → (m.0 == slot) ≡ true →
    has_slot slot (cond joins (m ∷ left) left) ≡ true
joins_case slot m left true is here = or_left (m.0 == slot) (has_slot slot left) here
joins_case slot m left false is here = absurd (true≢false (sym is))

behind_case : (slot : ℕ) (m : Member) (left : Members) (joins : Bool) → has_slot slot left ≡ true →
    has_slot slot (cond joins (m ∷ left) left) ≡ true
behind_case slot m left true is = or_right (m.0 == slot) (has_slot slot left) is
behind_case slot m left false is = is

joined : (w : World) (members dragged : Members) (m : Member) → IsOneOf m dragged → w.live m.0 ≡ true → has_slot m.0 members ≡ false →
    has_slot m.0 (filter (may_join w members) dragged) ≡ true
joined w members [] m is lives new = absurd is
joined w members (d ∷ dragged) m (inl same) lives new =
    joins_case m.0 d (filter (may_join w members) dragged) (may_join w members d)
    (ap (λ other. may_join w members other) (sym same) ∙ both (w.live m.0) (has_slot m.0 members) lives new)
    (ap (λ other. other.0 == m.0) (sym same) ∙ nat_eq_equiv.refl m.0)
joined w members (d ∷ dragged) m (inr is) lives new =
    behind_case m.0 d (filter (may_join w members) dragged) (may_join w members d) (joined w members dragged m is lives new)

one_of_all : (w : World) (round : Members) (by m : Member) → IsOneOf by round → IsOneOf m (drags w by) →
    IsOneOf m (flat_map (drags w) round)
one_of_all w [] by m member is = absurd member
one_of_all w (first ∷ round) by m (inl same) is =
    one_front m (drags w first) (flat_map (drags w) round) (subst (λ who. IsOneOf m (drags w who)) same is)
one_of_all w (first ∷ round) by m (inr member) is =
    one_back m (drags w first) (flat_map (drags w) round) (one_of_all w round by m member is)

lives_case : (w : World) (members : Members) (slot : ℕ) (m : Member) (left : Members) (joins : Bool) → may_join w members m ≡ joins →
    (has_slot slot left ≡ true → w.live slot ≡ true) → has_slot slot (cond joins (m ∷ left) left) ≡ true → w.live slot ≡ true
lives_case w members slot m left false joins rest is = rest is
lives_case w members slot m left true joins rest is =
    elim (or_cases (m.0 == slot) (has_slot slot left) is) [
      | inl here ↦ ap (λ s. w.live s) (sym (eqb-true m.0 slot here)) ∙ and_left (w.live m.0) (not (has_slot m.0 members)) joins
      | inr behind ↦ rest behind
    ]

joined_lives : (w : World) (members dragged : Members) (slot : ℕ) → has_slot slot (filter (may_join w members) dragged) ≡ true →
    w.live slot ≡ true
joined_lives w members [] slot is = absurd (true≢false (sym is))
joined_lives w members (m ∷ dragged) slot is =
    lives_case w members slot m (filter (may_join w members) dragged) (may_join w members m) refl (joined_lives w members dragged slot) is

-- ---- all whom a member drags hang up

abbrev Settled : World → Members → Member → Type 0
Settled w members by = (m : Member) → IsOneOf m (drags w by) → w.live m.0 ≡ true → has_slot m.0 members ≡ true

-- the members before this round are settled; all live, and each is one once
record Settles (w : World) (members round : Members) : Type 0 where
  pub each : (by : Member) → IsOneOf by members → IsOneOf by round ⊎ Settled w members by
  pub lives : (slot : ℕ) → has_slot slot members ≡ true → w.live slot ≡ true
  pub once : (slot : ℕ) → count_in slot members ≤ 1

drags_case : (w : World) (members round : Members) (by m : Member) (stands : Bool) → has_slot m.0 members ≡ stands → IsOneOf by round →
    IsOneOf m (drags w by) → w.live m.0 ≡ true → has_slot m.0 (members ++ round_after w members round) ≡ true
drags_case w members round by m true stands member is lives = has_front m.0 members (round_after w members round) stands
drags_case w members round by m false stands member is lives =
    has_back m.0 members (round_after w members round)
    (has_order m.0 [] (filter (may_join w members) (flat_map (drags w) round))
    ∙ joined w members (flat_map (drags w) round) m (one_of_all w round by m member is) lives stands)

next_each : (w : World) (members round : Members) (by : Member) → Settles w members round →
    IsOneOf by (members ++ round_after w members round) →
    IsOneOf by (round_after w members round) ⊎ Settled w (members ++ round_after w members round) by
next_each w members round by h is =
    elim (one_parts by members (round_after w members round) is) [
      | inl old ↦ elim (h.each by old) [
        | inl now ↦ inr (λ m dragged lives. drags_case w members round by m (has_slot m.0 members) refl now dragged lives)
        | inr settled ↦ inr (λ m dragged lives. has_front m.0 members (round_after w members round) (settled m dragged lives))
      ]
      | inr new ↦ inl new
    ]

next_lives : (w : World) (members round : Members) (slot : ℕ) → Settles w members round →
    has_slot slot (members ++ round_after w members round) ≡ true → w.live slot ≡ true
next_lives w members round slot h is =
    elim (has_either slot members (round_after w members round) is) [
      | inl old ↦ h.lives slot old
      | inr new ↦ joined_lives w members (flat_map (drags w) round) slot
          (sym (has_order slot [] (filter (may_join w members) (flat_map (drags w) round))) ∙ new)
    ]

next_settles : (w : World) (members round : Members) → Settles w members round →
    Settles w (members ++ round_after w members round) (round_after w members round)
next_settles w members round h = record {
  each = λ by is. next_each w members round by h is;
  lives = λ slot is. next_lives w members round slot h is;
  once = λ slot. more_once w slot members round (has_slot slot members) refl (h.once slot);
}

-- ---- there are enough rounds

-- whoever lives is in a slot that there is
abbrev pub AreSlots : World → Type 0
AreSlots w = (slot : ℕ) → w.live slot ≡ true → IsSlot w slot

apart_head : (slot : ℕ) (m : Member) (n count : ℕ) (here : Bool) → (m.0 == slot) ≡ here → count ≡ cond here 1 0 + n → count ≡ 0 →
    ((slot == m.0) ≡ false) × (n ≡ 0)
apart_head slot m n count true is sum none = absurd (suc-ne-zero n (omega (arith, sum, none)))
apart_head slot m n count false is sum none = (nat_eq_equiv.symm slot m.0 ∙ is, omega (arith, sum, none))

pub apart : (slot : ℕ) (ms : Members) → count_in slot ms ≡ 0 → AllByRecursion (λ other. eqb slot other ≡ false) (map (λ m. m.0) ms)
apart slot [] none = tt
apart slot (m ∷ ms) none =
    let head = apart_head slot m (count_in slot ms) (count_in slot (m ∷ ms)) (m.0 == slot) refl (count_cons slot m ms) none in
    (head.0, apart slot ms head.1)

rest_once : (slot : ℕ) (m : Member) (ms : Members) → count_in slot (m ∷ ms) ≤ 1 → count_in slot ms ≤ 1
rest_once slot m ms once = let sum = count_cons slot m ms in omega (arith, sum, once)

one_here : (here : Bool) (n count : ℕ) → here ≡ true → count ≡ cond here 1 0 + n → count ≤ 1 → n ≡ 0
one_here true n count is sum once = omega (arith, sum, once)
one_here false n count is sum once = absurd (true≢false (sym is))

first_once : (m : Member) (ms : Members) → count_in m.0 (m ∷ ms) ≤ 1 → count_in m.0 ms ≡ 0
first_once m ms once =
    one_here (m.0 == m.0) (count_in m.0 ms) (count_in m.0 (m ∷ ms)) (nat_eq_equiv.refl m.0) (count_cons m.0 m ms) once

distinct : (ms : Members) → ((slot : ℕ) → count_in slot ms ≤ 1) → IsDistinct eqb (map (λ m. m.0) ms)
unfolding IsDistinct
distinct [] once = tt
distinct (m ∷ ms) once = (apart m.0 ms (first_once m ms (once m.0)), distinct ms (λ slot. rest_once slot m ms (once slot)))

slot_has : (slot : ℕ) (ms : Members) → list_any (eqb slot) (map (λ m. m.0) ms) ≡ true → has_slot slot ms ≡ true
slot_has slot [] is = is
slot_has slot (m ∷ ms) is =
    elim (or_cases (eqb slot m.0) (list_any (eqb slot) (map (λ m. m.0) ms)) is) [
      | inl here ↦ or_left (m.0 == slot) (has_slot slot ms) (nat_eq_equiv.symm m.0 slot ∙ here)
      | inr behind ↦ or_right (m.0 == slot) (has_slot slot ms) (slot_has slot ms behind)
    ]

not_zero : (slot : ℕ) → 1 ≤ slot → eqb 0 slot ≡ false
not_zero slot first =
    false_from_ne_true (eqb 0 slot) (λ is. let same = eqb-true 0 slot is in suc-ne-zero 0 (omega (arith, same, first)))

no_zero : (w : World) (ms : Members) → AreSlots w → ((slot : ℕ) → has_slot slot ms ≡ true → w.live slot ≡ true) →
    AllByRecursion (λ other. eqb 0 other ≡ false) (map (λ m. m.0) ms)
no_zero w [] lines lives = tt
no_zero w (m ∷ ms) lines lives = (
  not_zero m.0 (lines m.0 (lives m.0 (or_left (m.0 == m.0) (has_slot m.0 ms) (nat_eq_equiv.refl m.0)))).first,
  no_zero w ms lines (λ slot is. lives slot (or_right (m.0 == slot) (has_slot slot ms) is)),
)

within : (w : World) (ms : Members) (slot : ℕ) → AreSlots w → ((slot : ℕ) → has_slot slot ms ≡ true → w.live slot ≡ true) →
    list_any (eqb slot) (0 ∷ map (λ m. m.0) ms) ≡ true → slot < w.slots + 1
within w ms slot lines lives is =
    elim (or_cases (eqb slot 0) (list_any (eqb slot) (map (λ m. m.0) ms)) is) [
      | inl here ↦ let none = eqb-true slot 0 here in omega (arith, none)
      | inr there ↦ let last = (lines slot (lives slot (slot_has slot ms there))).last in omega (arith, last)
    ]

few_members : (w : World) (ms : Members) → AreSlots w → ((slot : ℕ) → has_slot slot ms ≡ true → w.live slot ≡ true) →
    ((slot : ℕ) → count_in slot ms ≤ 1) → length ms ≤ w.slots
few_members w ms lines lives once =
    let few = length-le_from_distinct_below (0 ∷ map (λ m. m.0) ms) (w.slots + 1)
    (IsDistinct-cons eqb 0 (map (λ m. m.0) ms) (no_zero w ms lines lives) (distinct ms once))
    (λ slot is. within w ms slot lines lives is) in
    let same = length-map ms (λ m. m.0) in
    omega (arith, few, same)

-- no one is in the round, or so many more rounds come that each could still bring someone
abbrev Enough : World → ℕ → Members → Members → Type 0
Enough w more members round = (length round ≡ 0) ⊎ (w.slots + 1 ≤ more + length members)

none_in_empty : (by : Member) (round : Members) → length round ≡ 0 → IsOneOf by round → ⊥
none_in_empty by [] empty is = is
none_in_empty by (m ∷ round) empty is = suc-ne-zero (length round) empty

empty_next : (w : World) (members round : Members) → length round ≡ 0 → length (round_after w members round) ≡ 0
empty_next w members [] empty = refl
empty_next w members (m ∷ round) empty = absurd (suc-ne-zero (length round) empty)

enough_case : (w : World) (more : ℕ) (members next : Members) → w.slots + 1 ≤ suc more + length members →
    Enough w more (members ++ next) next
enough_case w more members [] enough = inl refl
enough_case w more members (m ∷ next) enough =
    let sum = length-append members (m ∷ next) in
    inr (omega (arith, sum, enough))

next_enough : (w : World) (more : ℕ) (members round : Members) → Enough w (suc more) members round →
    Enough w more (members ++ round_after w members round) (round_after w members round)
next_enough w more members round (inl empty) = inl (empty_next w members round empty)
next_enough w more members round (inr enough) = enough_case w more members (round_after w members round) enough

last_empty : (w : World) (members round : Members) → AreSlots w → Settles w members round → Enough w zero members round → length round ≡ 0
last_empty w members round lines h (inl empty) = empty
last_empty w members round lines h (inr enough) =
    let few = few_members w members lines h.lives h.once in
    absurd (suc-ne-zero (w.slots) (omega (arith, few, enough)))

rounds_settle : (w : World) (more : ℕ) (members round : Members) → AreSlots w → Settles w members round → Enough w more members round →
    (by : Member) → IsOneOf by (with_rounds w more members round) → Settled w (with_rounds w more members round) by
rounds_settle w zero members round lines h enough by is =
    elim (h.each by is) [
      | inl now ↦ absurd (none_in_empty by round (last_empty w members round lines h enough) now)
      | inr settled ↦ settled
    ]
rounds_settle w (suc more) members round lines h enough by is =
    rounds_settle w more (members ++ round_after w members round) (round_after w members round) lines (next_settles w members round h)
    (next_enough w more members round enough) by is

rounds_live : (w : World) (more : ℕ) (members round : Members) (slot : ℕ) → Settles w members round →
    has_slot slot (with_rounds w more members round) ≡ true → w.live slot ≡ true
rounds_live w zero members round slot h is = h.lives slot is
rounds_live w (suc more) members round slot h is =
    rounds_live w more (members ++ round_after w members round) (round_after w members round) slot (next_settles w members round h) is

-- whoever is one of them stands in a slot that they have
pub one_stands : {T : Type 0} (x : ℕ × T) (xs : List (ℕ × T)) → IsOneOf x xs → has_slot x.0 xs ≡ true
one_stands x [] is = absurd is
one_stands x (y ∷ xs) (inl same) =
    or_left (y.0 == x.0) (has_slot x.0 xs) (ap (λ other. other.0 == x.0) (sym same) ∙ nat_eq_equiv.refl x.0)
one_stands x (y ∷ xs) (inr is) = or_right (y.0 == x.0) (has_slot x.0 xs) (one_stands x xs is)

-- ---- those who are named

-- they live
abbrev pub AreLive : World → Members → Type 0
AreLive w named = All (λ m. w.live m.0 ≡ true) named

named_at : (w : World) (named : Members) (slot : ℕ) → AreLive w named → Any (λ m. (m.0 == slot) ≡ true) named → w.live slot ≡ true
named_at w named slot are among =
    let there : get_or named among.0 among.1 ≡ among.1 = among.3 in
    let same : among.1.0 ≡ slot = eqb-true among.1.0 slot among.4 in
    ap (λ s. w.live s) (sym same) ∙ ap (λ m. w.live m.0) (sym there) ∙ are among.0 among.1 among.2

named_lives : (w : World) (named : Members) (slot : ℕ) → AreLive w named → has_slot slot (in_order named) ≡ true → w.live slot ≡ true
named_lives w named slot are is =
    named_at w named slot are (Any-from_list_any (λ (m : Member). m.0 == slot) named (sym (has_order slot [] named) ∙ is))

first_enough : (w : World) (round : Members) → Enough w w.slots round round
first_enough w [] = inl refl
first_enough w (m ∷ round) = inr (omega arith)

named_settle : (w : World) (named : Members) → AreLive w named → Settles w (in_order named) (in_order named)
named_settle w named are = record {
  each = λ by is. inl is;
  lives = λ slot is. named_lives w named slot are is;
  once = λ slot. order_once slot [] named (omega arith);
}

-- whoever lives and is dragged by one who hangs up hangs up, where those who are named live
pub dragged_hang_up : (w : World) (named : Members) (m : Member) → AreSlots w → AreLive w named → IsDragged w (members_of w named) m →
    w.live m.0 ≡ true → has_slot m.0 (members_of w named) ≡ true
unfolding members_of
dragged_hang_up w named m slots are dragged lives =
    rounds_settle w w.slots (in_order named) (in_order named) slots (named_settle w named are) (first_enough w (in_order named))
    dragged.by dragged.member m dragged.dragged lives

-- whoever hangs up lived
pub all_members_live : (w : World) (named : Members) (slot : ℕ) → AreLive w named → has_slot slot (members_of w named) ≡ true →
    w.live slot ≡ true
unfolding members_of
all_members_live w named slot are is = rounds_live w w.slots (in_order named) (in_order named) slot (named_settle w named are) is

pub each_dragged_hangs_up : EachDraggedHangsUp
each_dragged_hangs_up w named m lines are dragged lives = dragged_hang_up w named m lines.live are.live dragged lives

pub members_live : (w : World) (named : Members) (slot : ℕ) → AreNamed w named → has_slot slot (members_of w named) ≡ true →
    w.live slot ≡ true
members_live w named slot are is = all_members_live w named slot are.live is
