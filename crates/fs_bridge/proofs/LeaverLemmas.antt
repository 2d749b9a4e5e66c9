-- Who hangs up where some leave, and who lives on.
use Rattle.std.proofs.Common.{◌≡◌, ℕ, zero, ◌<◌, ◌≤◌, Bool, true, false, not, cond, List, [], ◌∷◌, filter, fold, None}
use Rattle.std.proofs.Common.{◌⊎◌, inl, inr, refl, ap, sym, subst, ◌∙◌, arith}
use Rattle.std.specs.Prelude.{◌==◌, nat_lt, insert, count_by}
use Rattle.std.proofs.lemmas.Bool.{eqb-true, true≢false, false_from_ne_true}
use Rattle.std.proofs.lemmas.Option.{none-some}
use Rattle.fs_bridge.specs.declared.after.After.{After}
use Rattle.fs_bridge.specs.declared.after.After.TheVariants.{GoOn, Hangup, Park}
use Rattle.fs_bridge.specs.Worlds.{World, AreLines}
use Rattle.fs_bridge.specs.Orders.{has_slot}
use Rattle.fs_bridge.specs.Closure.{Member, Members, AreNamed, hangup_cause, members_of, survivors_of}
use Rattle.fs_bridge.specs.Hangups.{IsOneOf}
use Rattle.fs_bridge.specs.Rounds.{IsLeft}
use Rattle.fs_bridge.specs.Leaving.{leaver, is_among, parted_world, all_left, first_round, ends_with, with_slot, leavers_of}
use Rattle.fs_bridge.specs.Leavings.{AreLeaving, IsLeftBehind, MembersAreOfRounds, OfOneRoundAndCause, OthersSurvive}
use Rattle.fs_bridge.specs.Leavings.{SurvivorsStay, LeaversLive, LeaversAreInOrder}
use Rattle.fs_bridge.proofs.DragLemmas.{one_insert, one_order, one_filter}
use Rattle.fs_bridge.proofs.OnceLemmas.{has_order}
use Rattle.fs_bridge.proofs.SettledLemmas.{one_stands}
use Rattle.fs_bridge.proofs.SurvivorLemmas.{kept_insert, kept_fold, rounds_are_members, no_survivor_hangs_up}
use Rattle.fs_bridge.proofs.FirstLemmas.{none_at, IsFirst, first_order, first_kept}
use Rattle.fs_bridge.proofs.ListedLemmas.{each_is_in_a_round, each_of_a_round_hangs_up, one_round_and_cause}
use Rattle.fs_bridge.proofs.EndLemmas.{member_lives}
use Rattle.fs_bridge.proofs.OutliveLemmas.{leaves_living, peer_is_leg, survivors_are_left}
use Rattle.fs_bridge.proofs.PartLemmas.{among_one, one_among, leg_left, unless_from, unless_gone, AreApart, all_left_apart, left_is, is_left_one}
use Rattle.fs_bridge.proofs.PartLemmas.{first_are_named_or_left, leaver_lives, parted_lines, first_named}
use Rattle.fs_bridge.proofs.PartedLemmas.{AreOrdered, ordered_pairs, ordered_insert, new_in}

-- all who hang up, round by round
abbrev all_of : World → Members → List ℕ → Members
all_of w first left = members_of (parted_world w left) (first_round w first left)

-- ---- the rounds

pub members_are_of_rounds : MembersAreOfRounds
members_are_of_rounds w first left m lines are = (
  λ is. each_is_in_a_round there named m (first_named w first left lines are) ((rounds_are_members there named m).0 is),
  λ is.
      (rounds_are_members there named m).1
      (each_of_a_round_hangs_up there named is.0 m (parted_lines w left lines) (first_named w first left lines are) is.1),
)
  where
    there : World
    there = parted_world w left

    named : Members
    named = first_round w first left

pub of_one_round_and_cause : OfOneRoundAndCause
of_one_round_and_cause w first left slot n other cause its lines are =
    one_round_and_cause (parted_world w left) (first_round w first left) slot n other cause its (first_named w first left lines are)

-- ---- who lives on

same_members : (w : World) (first : Members) (left : List ℕ) (slot : ℕ) →
    has_slot slot (ends_with w first left).members ≡ has_slot slot (all_of w first left)
same_members w first left slot = has_order slot [] (all_of w first left)

passes_case : {X : Type 0} (test : X → Bool) (x y : X) (rest : List X) (b : Bool) → test y ≡ b → (IsOneOf x rest → test x ≡ true) →
    IsOneOf x (cond b (y ∷ rest) rest) → test x ≡ true
passes_case test x y rest true is behind (inl same) = ap test same ∙ is
passes_case test x y rest true is behind (inr one) = behind one
passes_case test x y rest false is behind one = behind one

passes : {X : Type 0} (test : X → Bool) (x : X) (xs : List X) → IsOneOf x (filter test xs) → test x ≡ true
passes test x [] is = absurd is
passes test x (y ∷ xs) is = passes_case test x y (filter test xs) (test y) refl (passes test x xs) is

keeps_case : {X : Type 0} (x y : X) (rest : List X) (b : Bool) → IsOneOf x rest → IsOneOf x (cond b (y ∷ rest) rest)
keeps_case x y rest true is = inr is
keeps_case x y rest false is = is

here_case : {X : Type 0} (y : X) (rest : List X) (b : Bool) → b ≡ true → IsOneOf y (cond b (y ∷ rest) rest)
here_case y rest true is = inl refl
here_case y rest false is = absurd (true≢false (sym is))

keeps : {X : Type 0} (test : X → Bool) (x : X) (xs : List X) → IsOneOf x xs → test x ≡ true → IsOneOf x (filter test xs)
keeps test x [] is passes = is
keeps test x (y ∷ xs) (inl same) passes =
    subst (λ z. IsOneOf z (filter test (y ∷ xs))) (sym same)
    (here_case y (filter test xs) (test y) (ap test (sym same) ∙ passes))
keeps test x (y ∷ xs) (inr is) passes = keeps_case x y (filter test xs) (test y) (keeps test x xs is passes)

not_true : (b : Bool) → not b ≡ true → b ≡ false
not_true true is = absurd (true≢false (sym is))
not_true false is = refl

not_false : (b : Bool) → b ≡ false → not b ≡ true
not_false b is = ap not is

-- each that is apart from all others is the first of its slot
apart_first : {T : Type 0} (x : ℕ × T) (xs : List (ℕ × T)) → AreApart xs → IsOneOf x xs → IsFirst x xs
apart_first x [] are is = is
apart_first x (y ∷ xs) are (inl same) = inl same
apart_first x (y ∷ xs) are (inr is) = inr (other, apart_first x xs are.1 is)
  where
    other : (y.0 == x.0) ≡ false
    other =
        false_from_ne_true (y.0 == x.0)
        (λ here. true≢false (sym (one_stands x xs is) ∙ ap (λ slot. has_slot slot xs) (sym (eqb-true y.0 x.0 here)) ∙ are.0))

-- whoever is left by one who leaves is part of no bridge that stands
left_alone : (w : World) (first : Members) (left : List ℕ) (slot : ℕ) (after : After) → AreLines w → AreLeaving w first left →
    IsLeftBehind w left slot after → (parted_world w left).row slot ≡ None
left_alone w first left slot after lines are is =
    let lives = leaver_lives w first left are is.by is.leaves in
    let its = leaves_living w (leaver is.by) slot after lines lives is.other in
    unless_gone left (w.row slot) its.row its.tells
    (leg_left left its.row is.by is.leaves (peer_is_leg its.row slot is.by its.peer))

-- those who outlive one who hangs up are not left by one who leaves
none_of_both : (w : World) (first : Members) (left : List ℕ) (slot : ℕ) (after : After) → AreLines w → AreLeaving w first left →
    IsLeftBehind w left slot after → has_slot slot (survivors_of (parted_world w left) (all_of w first left)) ≡ false
none_of_both w first left slot after lines are is =
    none_at slot (survivors_of there (all_of w first left)) (λ other one.
    let by = (survivors_are_left there named slot other there_lines there_are).0 one in
    let its = leaves_living there by.0 slot other there_lines (member_lives there named by.0 there_are by.1) by.2 in
    none-some its.row (sym (left_alone w first left slot after lines are is) ∙ its.tells))
  where
    there : World
    there = parted_world w left

    named : Members
    named = first_round w first left

    there_lines : AreLines there
    there_lines = parted_lines w left lines

    there_are : AreNamed there named
    there_are = first_named w first left lines are

-- one who is left by a member
abbrev IsLeftByMember : World → Members → List ℕ → ℕ → After → Type 0
IsLeftByMember w first left slot after =
    (by : Member) × IsOneOf by (ends_with w first left).members × IsLeft (parted_world w left) by slot after

-- it outlives a bridge, left by one who leaves or by one who hangs up
abbrev Outlives : World → Members → List ℕ → ℕ → After → Type 0
Outlives w first left slot after =
    (IsLeftBehind w left slot after ⊎ IsLeftByMember w first left slot after)
    × (has_slot slot (ends_with w first left).members ≡ false)

-- the others who do not hang up
abbrev stay_of : World → Members → List ℕ → List (ℕ × After)
stay_of w first left = filter (λ s. not (has_slot s.0 (ends_with w first left).members)) (all_left w left)

survives_from : (w : World) (first : Members) (left : List ℕ) (slot : ℕ) (after : After) → AreLines w → AreLeaving w first left →
    IsOneOf (slot, after) (ends_with w first left).survivors → Outlives w first left slot after
survives_from w first left slot after lines are is =
    elim (one_order (slot, after) (survivors_of there (all_of w first left)) (stay_of w first left) is) [
      | inl old ↦
          let by = (survivors_are_left there named slot after (parted_lines w left lines) (first_named w first left lines are)).0 old in
          (inr (by.0, (rounds_are_members there named by.0).1 by.1, by.2), same_members w first left slot ∙ by.3)
      | inr new ↦ (
        inl (left_is w left (slot, after) (one_filter test (slot, after) (all_left w left) new)),
        not_true (has_slot slot (ends_with w first left).members) (passes test (slot, after) (all_left w left) new),
      )
    ]
  where
    there : World
    there = parted_world w left

    named : Members
    named = first_round w first left

    test : ℕ × After → Bool
    test s = not (has_slot s.0 (ends_with w first left).members)

survives_to : (w : World) (first : Members) (left : List ℕ) (slot : ℕ) (after : After) → AreLines w → AreLeaving w first left →
    Outlives w first left slot after → IsOneOf (slot, after) (ends_with w first left).survivors
survives_to w first left slot after lines are is =
    elim is.0 [
      | inl behind ↦
          first_order (slot, after) (survivors_of there (all_of w first left)) (stay_of w first left)
          (none_of_both w first left slot after lines are behind)
          (first_kept (λ s. not (has_slot s (ends_with w first left).members)) (slot, after) (all_left w left)
          (not_false (has_slot slot (ends_with w first left).members) is.1)
          (apart_first (slot, after) (all_left w left) (all_left_apart w first left lines are) (is_left_one w left slot after behind)))
      | inr member ↦
          kept_fold (slot, after) (survivors_of there (all_of w first left)) (stay_of w first left)
          ((survivors_are_left there named slot after (parted_lines w left lines) (first_named w first left lines are)).1
          (member.0, (rounds_are_members there named member.0).0 member.1, member.2, sym (same_members w first left slot) ∙ is.1))
    ]
  where
    there : World
    there = parted_world w left

    named : Members
    named = first_round w first left

pub others_survive : OthersSurvive
others_survive w first left slot after lines are =
    (survives_from w first left slot after lines are, survives_to w first left slot after lines are)

-- who is left by a member does not leave
no_leaver : (w : World) (first : Members) (left : List ℕ) (slot : ℕ) (after : After) → IsLeftByMember w first left slot after →
    IsOneOf slot left → ⊥
no_leaver w first left slot after is leaves =
    let row = unless_from left (w.row is.0.0) is.2.row is.2.bridge in
    true≢false (sym (leg_left left is.2.row slot leaves (peer_is_leg is.2.row is.0.0 slot is.2.peer)) ∙ row.1)

-- who is left by one who leaves and does not hang up goes on or parks
stays_on : (w : World) (first : Members) (left : List ℕ) (slot : ℕ) (after : After) → AreLines w → AreLeaving w first left →
    IsLeftBehind w left slot after → has_slot slot (ends_with w first left).members ≡ false → hangup_cause after ≡ None
stays_on w first left slot GoOn lines are is none = refl
stays_on w first left slot Park lines are is none = refl
stays_on w first left slot (Hangup cause) lines are is none =
    let round = (first_are_named_or_left w first left (slot, cause)).1 (inr is) in
    let member =
    each_of_a_round_hangs_up (parted_world w left) (first_round w first left) zero (slot, cause) (parted_lines w left lines)
    (first_named w first left lines are) round in
    absurd (true≢false (sym (one_stands (slot, cause) (all_of w first left) member) ∙ sym (same_members w first left slot) ∙ none))

goes_on : (w : World) (first : Members) (left : List ℕ) (s : ℕ × After) → AreLines w → AreLeaving w first left →
    IsLeftByMember w first left s.0 s.1 → has_slot s.0 (ends_with w first left).members ≡ false → hangup_cause s.1 ≡ None
goes_on w first left s lines are is none =
    let there = parted_lines w left lines in
    let named = first_named w first left lines are in
    let member = (rounds_are_members (parted_world w left) (first_round w first left) is.0).0 is.1 in
    (no_survivor_hangs_up (parted_world w left) (first_round w first left) s there named
    ((survivors_are_left (parted_world w left) (first_round w first left) s.0 s.1 there named).1
    (is.0, member, is.2, sym (same_members w first left s.0) ∙ none))).1

pub survivors_stay : SurvivorsStay
survivors_stay w first left s lines are is =
    let both = survives_from w first left s.0 s.1 lines are is in
    elim both.0 [
      | inl behind ↦ (behind.stays, stays_on w first left s.0 s.1 lines are behind both.1)
      | inr member ↦ (no_leaver w first left s.0 s.1 member, goes_on w first left s lines are member both.1)
    ]

-- ---- who leaves and lives on

slot_case : (slot s : ℕ) (slots : List ℕ) (i : ℕ) (stands : Bool) → IsOneOf slot (cond stands slots (insert slots i s)) →
    IsOneOf slot slots ⊎ (slot ≡ s)
slot_case slot s slots i true is = inl is
slot_case slot s slots i false is = elim (one_insert slot slots i s is) [ inl same ↦ inr same | inr there ↦ inl there ]

slots_from : (slot : ℕ) (before slots : List ℕ) → IsOneOf slot (fold with_slot before slots) → IsOneOf slot before ⊎ IsOneOf slot slots
slots_from slot before [] is = inl is
slots_from slot before (s ∷ slots) is =
    elim (slots_from slot (with_slot before s) slots is) [
      | inl there ↦
          elim (slot_case slot s before (count_by (λ other. nat_lt other s) before) (is_among s before) there) [
            | inl old ↦ inl old
            | inr same ↦ inr (inl same)
          ]
      | inr later ↦ inr (inr later)
    ]

slot_kept : (slot s : ℕ) (slots : List ℕ) (i : ℕ) (stands : Bool) → IsOneOf slot slots → IsOneOf slot (cond stands slots (insert slots i s))
slot_kept slot s slots i true is = is
slot_kept slot s slots i false is = kept_insert slot slots i s is

slots_kept : (slot : ℕ) (before slots : List ℕ) → IsOneOf slot before → IsOneOf slot (fold with_slot before slots)
slots_kept slot before [] is = is
slots_kept slot before (s ∷ slots) is =
    slots_kept slot (with_slot before s) slots
    (slot_kept slot s before (count_by (λ other. nat_lt other s) before) (is_among s before) is)

slot_put : (s : ℕ) (slots : List ℕ) (i : ℕ) (stands : Bool) → is_among s slots ≡ stands → IsOneOf s (cond stands slots (insert slots i s))
slot_put s slots i true is = among_one s slots is
slot_put s slots i false is = new_in s slots i

slots_to : (slot : ℕ) (before slots : List ℕ) → IsOneOf slot slots → IsOneOf slot (fold with_slot before slots)
slots_to slot before [] is = absurd is
slots_to slot before (s ∷ slots) (inl same) =
    slots_kept slot (with_slot before s) slots
    (subst (λ n. IsOneOf n (with_slot before s)) (sym same)
    (slot_put s before (count_by (λ other. nat_lt other s) before) (is_among s before) refl))
slots_to slot before (s ∷ slots) (inr is) = slots_to slot (with_slot before s) slots is

pub leavers_live : LeaversLive
leavers_live w first left slot = (
  λ is.
      elim (slots_from slot [] (filter test left) is) [
        | inl none ↦ absurd none
        | inr there ↦ (one_filter test slot left there, not_true (has_slot slot members) (passes test slot left there))
      ],
  λ is. slots_to slot [] (filter test left) (keeps test slot left is.0 (not_false (has_slot slot members) is.1)),
)
  where
    members : Members
    members = (ends_with w first left).members

    test : ℕ → Bool
    test s = not (has_slot s members)

abbrev IsLess : ℕ → ℕ → Type 0
IsLess slot later = slot < later

above_it : (s other : ℕ) (slots : List ℕ) → is_among s slots ≡ false → IsOneOf other slots → s ≤ other → s < other
above_it s other slots none is least =
    let apart : other ≡ s → ⊥ = λ same. true≢false
    (sym (one_among s slots (subst (λ n. IsOneOf n slots) same is)) ∙ none) in
    omega (arith, least, apart)

slot_ordered : (s : ℕ) (slots : List ℕ) (stands : Bool) → is_among s slots ≡ stands → AreOrdered IsLess slots →
    AreOrdered IsLess (cond stands slots (insert slots (count_by (λ other. nat_lt other s) slots) s))
slot_ordered s slots true is are = are
slot_ordered s slots false is are =
    ordered_insert (λ n. n) IsLess s slots (λ x y less. omega (arith, less)) (λ x less. less)
    (λ x one least. above_it s x slots is one least) are

slots_ordered : (before slots : List ℕ) → AreOrdered IsLess before → AreOrdered IsLess (fold with_slot before slots)
slots_ordered before [] are = are
slots_ordered before (s ∷ slots) are = slots_ordered (with_slot before s) slots (slot_ordered s before (is_among s before) refl are)

pub leavers_are_in_order : LeaversAreInOrder
leavers_are_in_order w first left =
    ordered_pairs IsLess (leavers_of left (ends_with w first left).members)
    (slots_ordered [] (filter (λ slot. not (has_slot slot (ends_with w first left).members)) left) tt)
