-- The bridges that end as they are left, and that no bridge ends twice.
use Rattle.std.proofs.Common.{◌≡◌, ℕ, suc, ◌+◌, ◌<◌, ◌≤◌, Bool, true, false, cond, List, [], ◌∷◌, take, drop, fold, Option, None, Some}
use Rattle.std.proofs.Common.{◌⊎◌, inl, inr, refl, ap, sym, subst, ◌∙◌, arith}
use Rattle.std.specs.Prelude.{◌==◌, nat_lt, insert, count_by}
use Rattle.std.specs.List.{AllPairs}
use Rattle.std.proofs.lemmas.Bool.{eqb-true, or_cases, true≢false, ltb-true, ltb-false}
use Rattle.std.proofs.lemmas.List.{take-append-drop}
use Rattle.std.proofs.lemmas.List.Kept.{AllPairs-cons}
use Rattle.std.proofs.lemmas.List.Sums.{sum_by-cons, sum_by-append}
use Rattle.std.proofs.lemmas.Option.{none-some}
use Rattle.fs_text.specs.declared.causes.Cause.{Cause}
use Rattle.fs_text.specs.declared.causes.Cause.TheVariants.{NormalClearing}
use Rattle.fs_bridge.specs.declared.row.Row.{Row}
use Rattle.fs_bridge.specs.Bridges.{has_leg}
use Rattle.fs_bridge.specs.Worlds.{World, AreLines}
use Rattle.fs_bridge.specs.Orders.{has_slot}
use Rattle.fs_bridge.specs.Closure.{Members, has_ended, members_of, ended_of}
use Rattle.fs_bridge.specs.Hangups.{IsOneOf}
use Rattle.fs_bridge.specs.Leaving.{with_parted, parted_of, is_left, parted_world, first_round}
use Rattle.fs_bridge.specs.Leavings.{AreLeaving, PartedAreLeft, PartedAreInOrder, OthersEndOfTheFirst, EndsWithALegOrLeaver, NoneEndsTwice}
use Rattle.fs_bridge.proofs.DragLemmas.{one_back, one_insert}
use Rattle.fs_bridge.proofs.OnceLemmas.{has_order}
use Rattle.fs_bridge.proofs.SurvivorLemmas.{kept_insert}
use Rattle.fs_bridge.proofs.EndLemmas.{IsTold, leg_tells, one_row, member_lives, each_ends_of_the_first, ends_with_a_leg, no_bridge_ends_twice}
use Rattle.fs_bridge.proofs.EndLemmas.{TellsOfEach, none_ended, leg_of_end, legs_front}
use Rattle.fs_bridge.proofs.ListedLemmas.{each_of_a_round_hangs_up}
use Rattle.fs_bridge.proofs.PartLemmas.{all_from_one, left_leg, leg_left, unless_to, unless_gone, leaver_lives, parted_lines, first_named}

-- ---- in order of a key

-- each stands in a relation to all behind it
abbrev pub AreOrdered : {X : Type 0} → (X → X → Type 0) → List X → Type 0
AreOrdered R [] = Unit {0}
AreOrdered {X} R (x ∷ xs) = ((y : X) → IsOneOf y xs → R x y) × AreOrdered R xs

pub ordered_pairs : {X : Type 0} (R : X → X → Type 0) (xs : List X) → AreOrdered R xs → AllPairs R xs
ordered_pairs R [] are = λ i j d less within. absurd (omega (arith, within))
ordered_pairs R (x ∷ xs) are = AllPairs-cons R x xs (all_from_one (R x) xs are.0) (ordered_pairs R xs are.1)

-- how many have a lesser key
abbrev lesser : {X : Type 0} → (X → ℕ) → ℕ → List X → ℕ
lesser key n xs = count_by (λ x. nat_lt (key x) n) xs

lesser_front : {X : Type 0} (key : X → ℕ) (n : ℕ) (x : X) (xs : List X) →
    lesser key n (x ∷ xs) ≡ cond (nat_lt (key x) n) 1 0 + lesser key n xs
lesser_front {X} key n x xs = sum_by-cons (λ (y : X). cond (nat_lt (key y) n) 1 0) x xs

none_lesser : {X : Type 0} (key : X → ℕ) (n : ℕ) (xs : List X) → ((y : X) → IsOneOf y xs → n ≤ key y) → lesser key n xs ≡ 0
none_lesser key n [] greater = refl
none_lesser {X} key n (y ∷ ys) greater = by (nat_lt (key y) n) refl (none_lesser key n ys (λ z is. greater z (inr is)))
  where
    by : (b : Bool) → nat_lt (key y) n ≡ b → lesser key n ys ≡ 0 → lesser key n (y ∷ ys) ≡ 0
    by true less none =
        let below = ltb-true (key y) n less in
        let above = greater y (inl refl) in
        absurd (omega (arith, below, above))
    by false less none =
        let front = lesser_front key n y ys ∙ ap (λ b. cond b 1 0 + lesser key n ys) less in
        omega (arith, front, none)

-- one more behind those of lesser keys
pub ordered_insert : {X : Type 0} (key : X → ℕ) (R : X → X → Type 0) (t : X) (xs : List X) →
    ((x y : X) → R x y → key x ≤ key y) → ((x : X) → key x < key t → R x t) → ((x : X) → IsOneOf x xs → key t ≤ key x → R t x) →
    AreOrdered R xs → AreOrdered R (insert xs (lesser key (key t) xs) t)
ordered_insert key R t [] up below above are = (λ y is. absurd is, tt)
ordered_insert {X} key R t (x ∷ xs) up below above are =
    by (nat_lt (key x) (key t)) refl (ordered_insert key R t xs up below (λ y is. above y (inr is)) are.1)
  where
    behind : (y : X) → key x < key t → IsOneOf y (insert xs (lesser key (key t) xs) t) → R x y
    behind y less is =
        elim (one_insert y xs (lesser key (key t) xs) t is) [
          | inl same ↦ subst (λ z. R x z) (sym same) (below x less)
          | inr there ↦ are.0 y there
        ]

    from : key t ≤ key x → (y : X) → IsOneOf y (x ∷ xs) → key t ≤ key y
    from least y (inl same) = subst (λ z. key t ≤ key z) (sym same) least
    from least y (inr is) = let more = up x y (are.0 y is) in omega (arith, least, more)

    by : (b : Bool) → nat_lt (key x) (key t) ≡ b → AreOrdered R (insert xs (lesser key (key t) xs) t) →
        AreOrdered R (insert (x ∷ xs) (lesser key (key t) (x ∷ xs)) t)
    by true less rest =
        let front = lesser_front key (key t) x xs ∙ ap (λ b. cond b 1 0 + lesser key (key t) xs) less in
        let count : suc (lesser key (key t) xs) ≡ lesser key (key t) (x ∷ xs) = omega (arith, front) in
        subst (λ n. AreOrdered R (insert (x ∷ xs) n t)) count ((λ y is. behind y (ltb-true (key x) (key t) less) is), rest)
    by false less rest =
        let least = ltb-false (key x) (key t) less in
        subst (λ n. AreOrdered R (insert (x ∷ xs) n t)) (sym (none_lesser key (key t) (x ∷ xs) (from least)))
        ((λ y is. above y is (from least y is)), are)

-- ---- one more bridge that is left

-- a bridge with the cause of its end
abbrev Ended : Type 0
Ended = Row × Cause

abbrev number_of : Ended → ℕ
number_of e = e.0.number

abbrev place_of : Row → List Ended → ℕ
place_of row ended = count_by (λ (e : Ended). nat_lt e.0.number row.number) ended

abbrev with_row : Row → Bool → List Ended → List Ended
with_row row stands ended = cond stands ended (insert ended (place_of row ended) (row, NormalClearing))

abbrev NoLater : Ended → Ended → Type 0
NoLater e later = e.0.number ≤ later.0.number

row_ordered : (row : Row) (stands : Bool) (ended : List Ended) → AreOrdered NoLater ended → AreOrdered NoLater (with_row row stands ended)
row_ordered row true ended are = are
row_ordered row false ended are =
    ordered_insert number_of NoLater (row, NormalClearing) ended (λ x y up. up) (λ x less. omega (arith, less)) (λ x is up. up) are

parted_ordered : (ended : List Ended) (o : Option Row) → AreOrdered NoLater ended → AreOrdered NoLater (with_parted ended o)
parted_ordered ended None are = are
parted_ordered ended (Some row) are = row_ordered row (has_ended row.caller ended) ended are

all_ordered : (w : World) (before : List Ended) (left : List ℕ) → AreOrdered NoLater before →
    AreOrdered NoLater (fold (λ parted slot. with_parted parted (w.row slot)) before left)
all_ordered w before [] are = are
all_ordered w before (slot ∷ left) are =
    all_ordered w (with_parted before (w.row slot)) left (parted_ordered before (w.row slot) are)

pub parted_are_in_order : PartedAreInOrder
parted_are_in_order w first left = ordered_pairs NoLater (parted_of w left) (all_ordered w [] left tt)

-- ---- who is among them

row_parts : (e : Ended) (row : Row) (stands : Bool) (ended : List Ended) → IsOneOf e (with_row row stands ended) →
    IsOneOf e ended ⊎ (e ≡ (row, NormalClearing))
row_parts e row true ended is = inl is
row_parts e row false ended is =
    elim (one_insert e ended (place_of row ended) (row, NormalClearing) is) [ inl same ↦ inr same | inr there ↦ inl there ]

parted_parts : (e : Ended) (ended : List Ended) (o : Option Row) → IsOneOf e (with_parted ended o) →
    IsOneOf e ended ⊎ ((o ≡ Some e.0) × (e.1 ≡ NormalClearing))
parted_parts e ended None is = inl is
parted_parts e ended (Some row) is =
    elim (row_parts e row (has_ended row.caller ended) ended is) [
      | inl old ↦ inl old
      | inr same ↦ inr (ap (λ x. Some x.0) (sym same), ap (λ x. x.1) same)
    ]

-- one who leaves tells of it, and it ends of a normal clearing
abbrev IsParted : World → List ℕ → Ended → Type 0
IsParted w left e = (slot : ℕ) × IsOneOf slot left × (w.row slot ≡ Some e.0) × (e.1 ≡ NormalClearing)

further : (w : World) (slot : ℕ) (left : List ℕ) (e : Ended) → IsParted w left e → IsParted w (slot ∷ left) e
further w slot left e is = (is.0, inr is.1, is.2, is.3)

all_parts : (w : World) (e : Ended) (before : List Ended) (left : List ℕ) →
    IsOneOf e (fold (λ parted slot. with_parted parted (w.row slot)) before left) → IsOneOf e before ⊎ IsParted w left e
all_parts w e before [] is = inl is
all_parts w e before (slot ∷ left) is =
    elim (all_parts w e (with_parted before (w.row slot)) left is) [
      | inl there ↦ elim (parted_parts e before (w.row slot) there) [
        | inl old ↦ inl old
        | inr new ↦ inr (slot, inl refl, new.0, new.1)
      ]
      | inr later ↦ inr (further w slot left e later)
    ]

pub parted_from : (w : World) (left : List ℕ) (e : Ended) → IsOneOf e (parted_of w left) → IsParted w left e
parted_from w left e is = elim (all_parts w e [] left is) [ inl none ↦ absurd none | inr there ↦ there ]

row_kept : (e : Ended) (row : Row) (stands : Bool) (ended : List Ended) → IsOneOf e ended → IsOneOf e (with_row row stands ended)
row_kept e row true ended is = is
row_kept e row false ended is = kept_insert e ended (place_of row ended) (row, NormalClearing) is

parted_kept : (e : Ended) (ended : List Ended) (o : Option Row) → IsOneOf e ended → IsOneOf e (with_parted ended o)
parted_kept e ended None is = is
parted_kept e ended (Some row) is = row_kept e row (has_ended row.caller ended) ended is

all_kept : (w : World) (e : Ended) (before : List Ended) (left : List ℕ) → IsOneOf e before →
    IsOneOf e (fold (λ parted slot. with_parted parted (w.row slot)) before left)
all_kept w e before [] is = is
all_kept w e before (slot ∷ left) is = all_kept w e (with_parted before (w.row slot)) left (parted_kept e before (w.row slot) is)

ended_at : (caller : ℕ) (ended : List Ended) → has_ended caller ended ≡ true → (e : Ended) × IsOneOf e ended × (e.0.caller ≡ caller)
ended_at caller [] is = absurd (true≢false (sym is))
ended_at caller (e ∷ ended) is =
    elim (or_cases (e.0.caller == caller) (has_ended caller ended) is) [
      | inl here ↦ (e, inl refl, eqb-true e.0.caller caller here)
      | inr there ↦ let behind = ended_at caller ended there in (behind.0, inr behind.1, behind.2)
    ]

-- live channels tell of these, and they end of a normal clearing
abbrev AreCleared : World → List Ended → Type 0
AreCleared w ended = (e : Ended) → IsOneOf e ended → IsTold w e.0 × (e.1 ≡ NormalClearing)

pub new_in : {X : Type 0} (x : X) (xs : List X) (i : ℕ) → IsOneOf x (insert xs i x)
new_in {X} x xs i = one_back x (take i xs) (x ∷ drop i xs) (inl refl)

row_put : (w : World) (row : Row) (stands : Bool) (ended : List Ended) → AreLines w → IsTold w row → AreCleared w ended →
    has_ended row.caller ended ≡ stands → IsOneOf (row, NormalClearing) (with_row row stands ended)
row_put w row true ended lines told cleared is =
    let there = ended_at row.caller ended is in
    let its = cleared there.0 there.1 in
    let same : there.0.0 ≡ row = one_row w row there.0.0 lines told its.0 there.2 in
    let pair : there.0 ≡ (row, NormalClearing) = ap (λ r. (r, there.0.1)) same ∙ ap (λ c. (row, c)) its.1 in
    subst (λ e. IsOneOf e ended) pair there.1
row_put w row false ended lines told cleared is = new_in (row, NormalClearing) ended (place_of row ended)

parted_put : (w : World) (row : Row) (o : Option Row) (ended : List Ended) → AreLines w → IsTold w row → AreCleared w ended →
    o ≡ Some row → IsOneOf (row, NormalClearing) (with_parted ended o)
parted_put w row o ended lines told cleared is =
    subst (λ p. IsOneOf (row, NormalClearing) (with_parted ended p)) (sym is)
    (row_put w row (has_ended row.caller ended) ended lines told cleared refl)

still_cleared : (w : World) (slot : ℕ) (ended : List Ended) → w.live slot ≡ true → AreCleared w ended →
    AreCleared w (with_parted ended (w.row slot))
still_cleared w slot ended lives cleared e is =
    elim (parted_parts e ended (w.row slot) is) [
      | inl old ↦ cleared e old
      | inr new ↦ (record { slot = slot; lives = lives; bridge = new.0 }, new.1)
    ]

all_put : (w : World) (row : Row) (slot : ℕ) (before : List Ended) (left : List ℕ) → AreLines w →
    ((s : ℕ) → IsOneOf s left → w.live s ≡ true) → AreCleared w before → IsOneOf slot left → w.row slot ≡ Some row →
    IsOneOf (row, NormalClearing) (fold (λ parted s. with_parted parted (w.row s)) before left)
all_put w row slot before [] lines live cleared is bridge = absurd is
all_put w row slot before (s ∷ left) lines live cleared (inl same) bridge =
    all_kept w (row, NormalClearing) (with_parted before (w.row s)) left
    (parted_put w row (w.row s) before lines
    (record { slot = slot; lives = live slot (inl same); bridge = bridge }) cleared (ap (λ n. w.row n) (sym same) ∙ bridge))
all_put w row slot before (s ∷ left) lines live cleared (inr is) bridge =
    all_put w row slot (with_parted before (w.row s)) left lines (λ n one. live n (inr one))
    (still_cleared w s before (live s (inl refl)) cleared) is bridge

parted_to : (w : World) (first : Members) (left : List ℕ) (row : Row) (slot : ℕ) → AreLines w → AreLeaving w first left →
    IsOneOf slot left → w.row slot ≡ Some row → IsOneOf (row, NormalClearing) (parted_of w left)
parted_to w first left row slot lines are is bridge =
    all_put w row slot [] left lines (leaver_lives w first left are) (λ e none. absurd none) is bridge

pub parted_are_left : PartedAreLeft
parted_are_left w first left row cause lines are = (
  λ is. parted_from w left (row, cause) is,
  λ is.
      subst (λ c. IsOneOf (row, c) (parted_of w left)) (sym is.3) (parted_to w first left row is.0 lines are is.1 is.2),
)

-- ---- the others

pub others_end_of_the_first : OthersEndOfTheFirst
others_end_of_the_first w first left row cause lines are =
    each_ends_of_the_first (parted_world w left) (first_round w first left) row cause (parted_lines w left lines)
    (first_named w first left lines are)

-- ---- which bridges end

leaves_or_not : (w : World) (first : Members) (left : List ℕ) (slot : ℕ) (row : Row) (leg : ℕ) → AreLines w → AreLeaving w first left →
    w.live slot ≡ true → w.row slot ≡ Some row → has_leg leg row ≡ true → IsOneOf leg left →
    IsOneOf (row, NormalClearing) (parted_of w left)
leaves_or_not w first left slot row leg lines are lives bridge is leaves =
    parted_to w first left row leg lines are leaves
    (leg_tells w row leg lines (record { slot = slot; lives = lives; bridge = bridge }) is)

abbrev Which : World → Members → List ℕ → Row → Type 0
Which w first left row =
    (cause : Cause)
    × (IsOneOf (row, cause) (parted_of w left)
    ⊎ IsOneOf (row, cause) (ended_of (parted_world w left) (members_of (parted_world w left) (first_round w first left))))

member_ends : (w : World) (first : Members) (left : List ℕ) (slot : ℕ) (row : Row) (leg : ℕ) → AreLines w → AreLeaving w first left →
    w.live slot ≡ true → w.row slot ≡ Some row → has_leg leg row ≡ true →
    has_slot leg (members_of (parted_world w left) (first_round w first left)) ≡ true → Which w first left row
member_ends w first left slot row leg lines are lives bridge is member = by (is_left left row) refl
  where
    by : (b : Bool) → is_left left row ≡ b → Which w first left row
    by true gone =
        let who = left_leg left row gone in
        (NormalClearing, inl (leaves_or_not w first left slot row who.0 lines are lives bridge who.2 who.1))
    by false none =
        let ends =
        (ends_with_a_leg (parted_world w left) (first_round w first left) slot row (parted_lines w left lines)
        (first_named w first left lines are) lives (unless_to left (w.row slot) row bridge none)).1 (leg, is, member) in
        (ends.0, inr ends.1)

leaver_leg : (w : World) (first : Members) (left : List ℕ) (row : Row) (cause : Cause) → AreLines w → AreLeaving w first left →
    IsParted w left (row, cause) → (leg : ℕ) × (has_leg leg row ≡ true) × IsOneOf leg left
leaver_leg w first left row cause lines are is =
    (is.0, (lines.row is.0 row (leaver_lives w first left are is.0 is.1) is.2).leg, is.1)

pub ends_with_a_leg_or_leaver : EndsWithALegOrLeaver
ends_with_a_leg_or_leaver w first left slot row lines are lives bridge = (
  λ end.
      elim end.1 [
        | inl parted ↦
            let leg = leaver_leg w first left row end.0 lines are (parted_from w left (row, end.0) parted) in
            (leg.0, leg.1, inl leg.2)
        | inr ended ↦
            let leg =
            leg_of_end there named row end.0 (parted_lines w left lines) (first_named w first left lines are)
            ((others_end_of_the_first w first left row end.0 lines are).0 ended) in
            (leg.0, leg.1, inr (has_order leg.0 [] (members_of there named) ∙ leg.2))
      ],
  λ leg.
      elim leg.2 [
        | inl leaves ↦ (NormalClearing, inl (leaves_or_not w first left slot row leg.0 lines are lives bridge leg.1 leaves))
        | inr member ↦
            member_ends w first left slot row leg.0 lines are lives bridge leg.1
            (sym (has_order leg.0 [] (members_of there named)) ∙ member)
      ],
)
  where
    there : World
    there = parted_world w left

    named : Members
    named = first_round w first left

-- ---- none ends twice

abbrev legs_in : ℕ → List Ended → ℕ
legs_in slot ended = count_by (λ end. has_leg slot end.0) ended

legs_insert : (slot : ℕ) (ended : List Ended) (i : ℕ) (e : Ended) →
    legs_in slot (insert ended i e) ≡ cond (has_leg slot e.0) 1 0 + legs_in slot ended
legs_insert slot ended i e =
    let parts = sum_by-append (λ (end : Ended). cond (has_leg slot end.0) 1 0) (take i ended) (e ∷ drop i ended) in
    let one = legs_front slot e (drop i ended) in
    let whole = sum_by-append (λ (end : Ended). cond (has_leg slot end.0) 1 0) (take i ended) (drop i ended) in
    let same = ap (λ all. legs_in slot all) (take-append-drop i ended) in
    omega (arith, parts, one, whole, same)

no_legs : (slot : ℕ) (ended : List Ended) → ((e : Ended) → IsOneOf e ended → has_leg slot e.0 ≡ true → ⊥) → legs_in slot ended ≡ 0
no_legs slot [] none = refl
no_legs slot (e ∷ ended) none = by (has_leg slot e.0) refl (no_legs slot ended (λ x is. none x (inr is)))
  where
    by : (b : Bool) → has_leg slot e.0 ≡ b → legs_in slot ended ≡ 0 → legs_in slot (e ∷ ended) ≡ 0
    by true is rest = absurd (none e (inl refl) is)
    by false is rest =
        let front = legs_front slot e ended ∙ ap (λ b. cond b 1 0 + legs_in slot ended) is in
        omega (arith, front, rest)

cleared_tell : (w : World) (slot : ℕ) (ended : List Ended) → AreLines w → AreCleared w ended → TellsOfEach w slot ended
cleared_tell w slot ended lines cleared e is leg = leg_tells w e.0 slot lines (cleared e is).0 leg

row_once : (w : World) (slot : ℕ) (row : Row) (stands : Bool) (ended : List Ended) → AreLines w → IsTold w row → AreCleared w ended →
    has_ended row.caller ended ≡ stands → legs_in slot ended ≤ 1 → legs_in slot (with_row row stands ended) ≤ 1
row_once w slot row true ended lines told cleared is once = once
row_once w slot row false ended lines told cleared is once = by (has_leg slot row) refl
  where
    by : (b : Bool) → has_leg slot row ≡ b → legs_in slot (insert ended (place_of row ended) (row, NormalClearing)) ≤ 1
    by true leg =
        let none =
        none_ended w slot row ended (cleared_tell w slot ended lines cleared) (leg_tells w row slot lines told leg) is in
        let put =
        legs_insert slot ended (place_of row ended) (row, NormalClearing) ∙ ap (λ b. cond b 1 0 + legs_in slot ended) leg in
        omega (arith, put, none)
    by false leg =
        let put =
        legs_insert slot ended (place_of row ended) (row, NormalClearing) ∙ ap (λ b. cond b 1 0 + legs_in slot ended) leg in
        omega (arith, put, once)

parted_once : (w : World) (slot s : ℕ) (ended : List Ended) (o : Option Row) → AreLines w → w.live s ≡ true → w.row s ≡ o →
    AreCleared w ended → legs_in slot ended ≤ 1 → legs_in slot (with_parted ended o) ≤ 1
parted_once w slot s ended None lines lives bridge cleared once = once
parted_once w slot s ended (Some row) lines lives bridge cleared once =
    row_once w slot row (has_ended row.caller ended) ended lines (record { slot = s; lives = lives; bridge = bridge }) cleared refl once

all_once : (w : World) (slot : ℕ) (before : List Ended) (left : List ℕ) → AreLines w → ((s : ℕ) → IsOneOf s left → w.live s ≡ true) →
    AreCleared w before → legs_in slot before ≤ 1 →
    legs_in slot (fold (λ parted s. with_parted parted (w.row s)) before left) ≤ 1
all_once w slot before [] lines live cleared once = once
all_once w slot before (s ∷ left) lines live cleared once =
    all_once w slot (with_parted before (w.row s)) left lines (λ n one. live n (inr one))
    (still_cleared w s before (live s (inl refl)) cleared)
    (parted_once w slot s before (w.row s) lines (live s (inl refl)) refl cleared once)

pub none_ends_twice : NoneEndsTwice
none_ends_twice w first left slot lines are =
    let both = sum_by-append (λ (end : Ended). cond (has_leg slot end.0) 1 0) (parted_of w left) ended in
    let sum : legs_in slot (parted_of w left) + legs_in slot ended ≤ 1 = by (there.row slot) refl in
    omega (arith, both, sum)
  where
    there : World
    there = parted_world w left

    named : Members
    named = first_round w first left

    ended : List Ended
    ended = ended_of there (members_of there named)

    tells : (e : Ended) → IsOneOf e ended → has_leg slot e.0 ≡ true → there.row slot ≡ Some e.0
    tells e is leg =
        let d = (others_end_of_the_first w first left e.0 e.1 lines are).0 is in
        let member =
        each_of_a_round_hangs_up there named d.round (d.leg, e.1) (parted_lines w left lines) (first_named w first left lines are)
        d.died in
        leg_tells there e.0 slot (parted_lines w left lines)
        (record {
          slot = d.leg;
          lives = member_lives there named (d.leg, e.1) (first_named w first left lines are) member;
          bridge = d.bridge;
        })
        leg

    -- who is a leg of one that is left is part of none that stands
    gone : (e : Ended) → IsOneOf e (parted_of w left) → has_leg slot e.0 ≡ true → there.row slot ≡ None
    gone e is leg =
        let from = parted_from w left e is in
        let lives = leaver_lives w first left are from.0 from.1 in
        let its = (lines.row from.0 e.0 lives from.2).leg in
        unless_gone left (w.row slot) e.0
        (leg_tells w e.0 slot lines (record { slot = from.0; lives = lives; bridge = from.2 }) leg)
        (leg_left left e.0 from.0 from.1 its)

    by : (o : Option Row) → there.row slot ≡ o → legs_in slot (parted_of w left) + legs_in slot ended ≤ 1
    by None is =
        let none = no_legs slot ended (λ e one leg. none-some e.0 (sym is ∙ tells e one leg)) in
        let once = all_once w slot [] left lines (leaver_lives w first left are) (λ e one. absurd one) (omega arith) in
        omega (arith, none, once)
    by (Some row) is =
        let none = no_legs slot (parted_of w left) (λ e one leg. none-some row (sym (gone e one leg) ∙ is)) in
        let once =
        no_bridge_ends_twice there named slot (parted_lines w left lines) (first_named w first left lines are) in
        omega (arith, none, once)
