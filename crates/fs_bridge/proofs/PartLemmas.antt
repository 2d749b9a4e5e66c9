-- The switch once the bridges that are left have ended, and who is in the first round there.
use Rattle.std.proofs.Common.{◌≡◌, ℕ, Bool, true, false, ◌||◌, eqb, List, [], ◌∷◌, ◌++◌, map, filter_map, Option, None, Some}
use Rattle.std.proofs.Common.{inl, inr, refl, ap, sym, subst, ◌∙◌}
use Rattle.std.specs.Prelude.{◌==◌, if◌then◌else◌, All}
use Rattle.std.specs.List.{IsDistinct, AllByRecursion, cons_option}
use Rattle.std.proofs.lemmas.List.{append-nil}
use Rattle.std.proofs.lemmas.List.Elements.{All-nil, All-cons, All-head, All-tail}
use Rattle.std.proofs.lemmas.Bool.{eqb-true, or_cases, true≢false, false_from_ne_true}
use Rattle.std.proofs.lemmas.Cmp.{nat_eq_equiv}
use Rattle.std.proofs.lemmas.Option.{none-some, same_Some}
use Rattle.std.proofs.Math.Path.{fun_ext}
use Rattle.fs_text.specs.declared.causes.Cause.{Cause}
use Rattle.fs_text.specs.declared.causes.Cause.TheVariants.{NormalClearing}
use Rattle.fs_vars.specs.Variables.{Variables}
use Rattle.fs_bridge.specs.declared.row.Row.{Row}
use Rattle.fs_bridge.specs.declared.row.BridgeKind.{BridgeKind}
use Rattle.fs_bridge.specs.declared.row.BridgeKind.TheVariants.{Dial, Joined, Fifo}
use Rattle.fs_bridge.specs.declared.after.After.{After}
use Rattle.fs_bridge.specs.declared.after.After.TheVariants.{GoOn, Hangup, Park}
use Rattle.fs_bridge.specs.After.{says_true, after_calling, after_being_called, after_kind}
use Rattle.fs_bridge.specs.Bridges.{has_leg}
use Rattle.fs_bridge.specs.Worlds.{World, AreLines, IsSlot, IsRowOf}
use Rattle.fs_bridge.specs.Orders.{has_slot}
use Rattle.fs_bridge.specs.Closure.{Member, Members, AreNamed, left_by, hung, hangup_cause, closure_of}
use Rattle.fs_bridge.specs.Hangups.{IsOneOf}
use Rattle.fs_bridge.specs.Rounds.{IsLeft}
use Rattle.fs_bridge.specs.Leaving.{leaver, is_among, is_left, unless_left, parted_world, unless_leaving, left_behind, all_left, first_round}
use Rattle.fs_bridge.specs.Leavings.{AreLeaving, NobodyLeaves, IsLeftBehind, OthersStand, FirstAreNamedOrLeft, LeftClear, LeavingIsAHangup}
use Rattle.fs_bridge.proofs.DragLemmas.{one_parts, one_front, one_back}
use Rattle.fs_bridge.proofs.OnceLemmas.{none_in}
use Rattle.fs_bridge.proofs.SettledLemmas.{apart, one_stands}
use Rattle.fs_bridge.proofs.SurvivorLemmas.{one_told}
use Rattle.fs_bridge.proofs.FirstLemmas.{none_at}
use Rattle.fs_bridge.proofs.WayLemmas.{left_from, left_to}
use Rattle.fs_bridge.proofs.OutliveLemmas.{Leaves, leaves_living, one_leaves, told_one}

-- ---- lists of slots

pub among_one : (slot : ℕ) (slots : List ℕ) → is_among slot slots ≡ true → IsOneOf slot slots
among_one slot [] is = absurd (true≢false (sym is))
among_one slot (other ∷ slots) is =
    elim (or_cases (other == slot) (is_among slot slots) is) [
      | inl here ↦ inl (sym (eqb-true other slot here))
      | inr there ↦ inr (among_one slot slots there)
    ]

true_here : (a b : Bool) → a ≡ true → (a || b) ≡ true
true_here a b is = ap (λ c. c || b) is

true_there : (a b : Bool) → b ≡ true → (a || b) ≡ true
true_there true b is = refl
true_there false b is = is

pub one_among : (slot : ℕ) (slots : List ℕ) → IsOneOf slot slots → is_among slot slots ≡ true
one_among slot [] is = absurd is
one_among slot (other ∷ slots) (inl same) =
    true_here (other == slot) (is_among slot slots) (ap (λ s. s == slot) (sym same) ∙ nat_eq_equiv.refl slot)
one_among slot (other ∷ slots) (inr is) = true_there (other == slot) (is_among slot slots) (one_among slot slots is)

pub not_among : (slot : ℕ) (slots : List ℕ) → (IsOneOf slot slots → ⊥) → is_among slot slots ≡ false
not_among slot slots none = false_from_ne_true (is_among slot slots) (λ is. none (among_one slot slots is))

pub one_of_all : {X : Type 0} (P : X → Type 0) (xs : List X) → All P xs → (x : X) → IsOneOf x xs → P x
one_of_all P [] all x is = absurd is
one_of_all P (y ∷ xs) all x (inl same) = subst P (sym same) (All-head P y xs all)
one_of_all P (y ∷ xs) all x (inr is) = one_of_all P xs (All-tail P y xs all) x is

pub all_from_one : {X : Type 0} (P : X → Type 0) (xs : List X) → ((x : X) → IsOneOf x xs → P x) → All P xs
all_from_one P [] each = All-nil P
all_from_one P (y ∷ xs) each = All-cons P y xs (each y (inl refl)) (all_from_one P xs (λ x is. each x (inr is)))

-- ---- a bridge that somebody leaves

pub left_leg : (left : List ℕ) (row : Row) → is_left left row ≡ true → (slot : ℕ) × IsOneOf slot left × (has_leg slot row ≡ true)
left_leg [] row is = absurd (true≢false (sym is))
left_leg (s ∷ left) row is =
    elim (or_cases (has_leg s row) (is_left left row) is) [
      | inl here ↦ (s, inl refl, here)
      | inr there ↦ let behind = left_leg left row there in (behind.0, inr behind.1, behind.2)
    ]

pub leg_left : (left : List ℕ) (row : Row) (slot : ℕ) → IsOneOf slot left → has_leg slot row ≡ true → is_left left row ≡ true
leg_left [] row slot is leg = absurd is
leg_left (s ∷ left) row slot (inl same) leg =
    true_here (has_leg s row) (is_left left row) (ap (λ other. has_leg other row) (sym same) ∙ leg)
leg_left (s ∷ left) row slot (inr is) leg = true_there (has_leg s row) (is_left left row) (leg_left left row slot is leg)

stays_case : (row its : Row) (gone : Bool) → (if gone then None else Some its) ≡ Some row → (its ≡ row) × (gone ≡ false)
stays_case row its true is = absurd (none-some row is)
stays_case row its false is = (same_Some its row is, refl)

-- a bridge that stands is one that nobody leaves
pub unless_from : (left : List ℕ) (o : Option Row) (row : Row) → unless_left left o ≡ Some row → (o ≡ Some row) × (is_left left row ≡ false)
unless_from left None row is = absurd (none-some row is)
unless_from left (Some its) row is =
    let both = stays_case row its (is_left left its) is in
    (ap (λ r. Some r) both.0, ap (λ r. is_left left r) (sym both.0) ∙ both.1)

pub unless_to : (left : List ℕ) (o : Option Row) (row : Row) → o ≡ Some row → is_left left row ≡ false → unless_left left o ≡ Some row
unless_to left o row is none =
    ap (λ r. unless_left left r) is ∙ ap (λ gone. if gone then None else Some row) none

pub unless_gone : (left : List ℕ) (o : Option Row) (row : Row) → o ≡ Some row → is_left left row ≡ true → unless_left left o ≡ None
unless_gone left o row is gone =
    ap (λ r. unless_left left r) is ∙ ap (λ there. if there then None else Some row) gone

-- ---- the switch once they have ended

slot_there : (w : World) (left : List ℕ) (slot : ℕ) → IsSlot w slot → IsSlot (parted_world w left) slot
slot_there w left slot is = record { first = is.first; last = is.last }

row_there : (w : World) (left : List ℕ) (slot : ℕ) (row : Row) → is_left left row ≡ false → IsRowOf w slot row →
    IsRowOf (parted_world w left) slot row
row_there w left slot row none is = record {
  leg = is.leg;
  apart = is.apart;
  caller = is.caller;
  answerer = is.answerer;
  caller_tells = unless_to left (w.row row.caller) row is.caller_tells none;
  answerer_tells = unless_to left (w.row row.answerer) row is.answerer_tells none;
}

pub parted_lines : (w : World) (left : List ℕ) → AreLines w → AreLines (parted_world w left)
parted_lines w left lines = record {
  live = λ slot is. slot_there w left slot (lines.live slot is);
  vars = lines.vars;
  partner = λ slot other is. slot_there w left other (lines.partner slot other is);
  legs = λ slot k d within. slot_there w left _ (lines.legs slot k d within);
  differ = lines.differ;
  caller = λ slot row is. slot_there w left row.caller (lines.caller slot row (unless_from left (w.row slot) row is).0);
  answerer = λ slot row is. slot_there w left row.answerer (lines.answerer slot row (unless_from left (w.row slot) row is).0);
  row = λ slot row lives is.
      let both = unless_from left (w.row slot) row is in
      row_there w left slot row both.1 (lines.row slot row lives both.0);
}

-- ---- who is left

behind_case : (left : List ℕ) (s its : ℕ × After) (leaves : Bool) → is_among its.0 left ≡ leaves →
    (if leaves then None else Some its) ≡ Some s → (its ≡ s) × (is_among s.0 left ≡ false)
behind_case left s its true at is = absurd (none-some s is)
behind_case left s its false at is = let same = same_Some its s is in (same, ap (λ x. is_among x.0 left) (sym same) ∙ at)

behind_from : (left : List ℕ) (o : Option (ℕ × After)) (s : ℕ × After) → unless_leaving left o ≡ Some s →
    (o ≡ Some s) × (is_among s.0 left ≡ false)
behind_from left None s is = absurd (none-some s is)
behind_from left (Some its) s is =
    let both = behind_case left s its (is_among its.0 left) refl is in
    (ap (λ x. Some x) both.0, both.1)

behind_to : (left : List ℕ) (o : Option (ℕ × After)) (s : ℕ × After) → o ≡ Some s → is_among s.0 left ≡ false →
    unless_leaving left o ≡ Some s
behind_to left o s is none =
    ap (λ x. unless_leaving left x) is ∙ ap (λ leaves. if leaves then None else Some s) none

stays_from : (slot : ℕ) (left : List ℕ) → is_among slot left ≡ false → IsOneOf slot left → ⊥
stays_from slot left none is = true≢false (sym (one_among slot left is) ∙ none)

pub left_is : (w : World) (left : List ℕ) (s : ℕ × After) → IsOneOf s (all_left w left) → IsLeftBehind w left s.0 s.1
left_is w left s is =
    let told = one_told (left_behind w left) s left is in
    let both = behind_from left (left_by w (leaver told.by)) s told.told in record {
      by = told.by;
      leaves = told.one;
      other = left_from w (leaver told.by) s both.0;
      stays = stays_from s.0 left both.1;
    }

pub is_left_one : (w : World) (left : List ℕ) (slot : ℕ) (after : After) → IsLeftBehind w left slot after →
    IsOneOf (slot, after) (all_left w left)
is_left_one w left slot after is =
    told_one (left_behind w left) is.by (slot, after) left is.leaves
    (behind_to left (left_by w (leaver is.by)) (slot, after) (left_to w (leaver is.by) slot after is.other)
    (not_among slot left is.stays))

-- ---- who is left by a bridge that stands

none_leaves : (left : List ℕ) (row : Row) → is_left left row ≡ false → (leg : ℕ) → IsOneOf leg left → has_leg leg row ≡ false
none_leaves left row none leg is =
    false_from_ne_true (has_leg leg row) (λ has. true≢false (sym (leg_left left row leg is has) ∙ none))

nobody_left : (left : List ℕ) (row : Row) → ((leg : ℕ) → IsOneOf leg left → has_leg leg row ≡ false) → is_left left row ≡ false
nobody_left left row none =
    false_from_ne_true (is_left left row)
    (λ is. let who = left_leg left row is in true≢false (sym who.2 ∙ none who.0 who.1))

pub others_stand : OthersStand
others_stand w left by slot after = (
  λ is.
      let both = unless_from left (w.row by.0) is.row is.bridge in (
        record { row = is.row; vars = is.vars; bridge = both.0; peer = is.peer; own = is.own; does = is.does },
        none_leaves left is.row both.1,
      ),
  λ both. record {
    row = both.0.row;
    vars = both.0.vars;
    bridge = unless_to left (w.row by.0) both.0.row both.0.bridge (nobody_left left both.0.row both.1);
    peer = both.0.peer;
    own = both.0.own;
    does = both.0.does;
  },
)

-- ---- round 0

-- a channel that is left and does this
abbrev left_with : ℕ → After → ℕ × After
left_with slot after = (slot, after)

hung_case : (slot : ℕ) (after : After) (m : Member) → hung (slot, after) ≡ Some m → left_with slot after ≡ left_with m.0 (Hangup m.1)
hung_case slot GoOn m is = absurd (none-some m is)
hung_case slot Park m is = absurd (none-some m is)
hung_case slot (Hangup cause) m is = ap (λ x. left_with x.0 (Hangup x.1)) (same_Some (slot, cause) m is)

pub first_are_named_or_left : FirstAreNamedOrLeft
first_are_named_or_left w first left m = (
  λ is.
      elim (one_parts m first (filter_map hung (all_left w left)) is) [
        | inl named ↦ inl named
        | inr other ↦
            let told = one_told hung m (all_left w left) other in
            let same = hung_case told.by.0 told.by.1 m told.told in
            inr (subst (λ s. IsLeftBehind w left s.0 s.1) same (left_is w left told.by told.one))
      ],
  λ is.
      elim is [
        | inl named ↦ one_front m first (filter_map hung (all_left w left)) named
        | inr other ↦
            one_back m first (filter_map hung (all_left w left))
            (told_one hung (m.0, Hangup m.1) m (all_left w left) (is_left_one w left m.0 (Hangup m.1) other) refl)
      ],
)

abbrev Clears : After → Type 0
Clears after = (cause : Cause) → after ≡ Hangup cause → cause ≡ NormalClearing

same_cause : (cause its : Cause) → Hangup its ≡ Hangup cause → cause ≡ its
same_cause cause its is = sym (same_Some its cause (ap (λ a. hangup_cause a) is))

goes_on : (cause : Cause) → GoOn ≡ Hangup cause → ⊥
goes_on cause is = none-some cause (ap (λ a. hangup_cause a) is)

parks : (cause : Cause) → Park ≡ Hangup cause → ⊥
parks cause is = none-some cause (ap (λ a. hangup_cause a) is)

clears_calling : (says : Bool) → Clears (if says then Hangup NormalClearing else GoOn)
clears_calling true cause is = same_cause cause NormalClearing is
clears_calling false cause is = absurd (goes_on cause is)

clears_called : (says : Bool) → Clears (if says then Park else Hangup NormalClearing)
clears_called true cause is = absurd (parks cause is)
clears_called false cause is = same_cause cause NormalClearing is

clears_dialed : (vars : Variables) (called : Bool) → Clears (if called then after_calling vars NormalClearing else after_being_called vars)
clears_dialed vars true = clears_calling (says_true vars _)
clears_dialed vars false = clears_called (says_true vars _)

clears : (kind : BridgeKind) (called : Bool) (vars : Variables) → Clears (after_kind kind called vars NormalClearing)
clears Dial called vars = clears_dialed vars called
clears Joined called vars = clears_called (says_true vars _)
clears Fifo called vars = clears_calling (says_true vars _)

pub left_clear : LeftClear
left_clear w left slot cause is =
    clears is.other.row.kind (is.other.row.caller == slot) is.other.vars cause is.other.does

-- ---- no two of round 0 are in one slot

-- no two of them are told of one slot
abbrev pub AreApart : {T : Type 0} → List (ℕ × T) → Type 0
AreApart [] = Unit {0}
AreApart (x ∷ xs) = (has_slot x.0 xs ≡ false) × AreApart xs

apart_differ : (ms : Members) → AreApart ms → IsDistinct eqb (map (λ m. m.0) ms)
unfolding IsDistinct
apart_differ [] are = tt
apart_differ (m ∷ ms) are = (apart m.0 ms (none_in m.0 ms are.0), apart_differ ms are.1)

never : (slot : ℕ) (slots : List ℕ) → AllByRecursion (λ other. eqb slot other ≡ false) slots → IsOneOf slot slots → ⊥
never slot [] none is = is
never slot (other ∷ slots) none (inl same) =
    true≢false (sym (nat_eq_equiv.refl slot) ∙ ap (λ s. eqb slot s) same ∙ none.0)
never slot (other ∷ slots) none (inr is) = never slot slots none.1 is

-- what leaves another leaves it alone
left_once : (w : World) (all : List ℕ) (a b : ℕ) (s : ℕ × After) (t : ℕ × After) → AreLines w → w.live a ≡ true → w.live b ≡ true →
    left_behind w all a ≡ Some s → left_behind w all b ≡ Some t → t.0 ≡ s.0 → a ≡ b
left_once w all a b s t lines lives too is other same =
    let one = left_from w (leaver a) s (behind_from all (left_by w (leaver a)) s is).0 in
    let its = left_from w (leaver b) t (behind_from all (left_by w (leaver b)) t other).0 in
    one_leaves w a b s.0 (leaves_living w (leaver a) s.0 s.1 lines lives one)
    (subst (λ slot. Leaves w b slot) same (leaves_living w (leaver b) t.0 t.1 lines too its))

left_apart : (w : World) (all left : List ℕ) → AreLines w → ((slot : ℕ) → IsOneOf slot left → w.live slot ≡ true) → IsDistinct eqb left →
    AreApart (filter_map (left_behind w all) left)
unfolding IsDistinct
left_apart w all [] lines live differ = tt
left_apart w all (a ∷ left) lines live differ =
    by (left_behind w all a) refl (left_apart w all left lines (λ slot is. live slot (inr is)) differ.1)
  where
    rest : List (ℕ × After)
    rest = filter_map (left_behind w all) left

    by : (o : Option (ℕ × After)) → left_behind w all a ≡ o → AreApart rest → AreApart (cons_option o rest)
    by None is are = are
    by (Some s) is are = (
      none_at s.0 rest
          (λ after there.
          let told = one_told (left_behind w all) (s.0, after) left there in
          let same =
          left_once w all a told.by s (s.0, after) lines (live a (inl refl)) (live told.by (inr told.one)) is told.told refl in
          never a left differ.0 (subst (λ slot. IsOneOf slot left) (sym same) told.one)),
      are,
    )

hung_slot : (s : ℕ × After) (m : Member) → hung s ≡ Some m → m.0 ≡ s.0
hung_slot s m is = ap (λ x. x.0) (sym (hung_case s.0 s.1 m is))

hung_apart : (xs : List (ℕ × After)) → AreApart xs → AreApart (filter_map hung xs)
hung_apart [] are = tt
hung_apart (s ∷ xs) are = by (hung s) refl (hung_apart xs are.1)
  where
    by : (o : Option Member) → hung s ≡ o → AreApart (filter_map hung xs) → AreApart (cons_option o (filter_map hung xs))
    by None is rest = rest
    by (Some m) is rest = (
      none_at m.0 (filter_map hung xs)
          (λ cause there.
          let told = one_told hung (m.0, cause) xs there in
          let slot : told.by.0 ≡ s.0 = sym (hung_slot told.by (m.0, cause) told.told) ∙ hung_slot s m is in
          true≢false (sym (one_stands told.by xs told.one) ∙ ap (λ n. has_slot n xs) slot ∙ are.0)),
      rest,
    )

-- ---- those of round 0 are named

-- whoever leaves lives
pub leaver_lives : (w : World) (first : Members) (left : List ℕ) → AreLeaving w first left → (slot : ℕ) → IsOneOf slot left →
    w.live slot ≡ true
leaver_lives w first left are slot is = one_of_all (λ s. w.live s ≡ true) left are.live slot is

live_peer : (row : Row) (live : ℕ → Bool) (slot : ℕ) (called : Bool) → live row.caller ≡ true → live row.answerer ≡ true →
    live (if called then row.answerer else row.caller) ≡ true
live_peer row live slot true caller answerer = answerer
live_peer row live slot false caller answerer = caller

-- and so does whoever is left
pub left_lives : (w : World) (by : Member) (slot : ℕ) (after : After) → AreLines w → w.live by.0 ≡ true → IsLeft w by slot after →
    w.live slot ≡ true
left_lives w by slot after lines lives is =
    let of = lines.row by.0 is.row lives is.bridge in
    ap (λ s. w.live s) is.peer ∙ live_peer is.row w.live by.0 (is.row.caller == by.0) of.caller of.answerer

left_named : (w : World) (first : Members) (left : List ℕ) → AreLines w → AreLeaving w first left →
    AreNamed (parted_world w left) (filter_map hung (all_left w left))
left_named w first left lines are = record {
  live =
      all_from_one (λ m. w.live m.0 ≡ true) (filter_map hung (all_left w left))
      (λ m is.
      let told = one_told hung m (all_left w left) is in
      let left_it = left_is w left told.by told.one in
      ap (λ s. w.live s) (hung_slot told.by m told.told)
      ∙ left_lives w (leaver left_it.by) told.by.0 told.by.1 lines (leaver_lives w first left are left_it.by left_it.leaves)
      left_it.other);
  differ =
      apart_differ (filter_map hung (all_left w left))
      (hung_apart (all_left w left) (left_apart w left left lines (leaver_lives w first left are) are.differ));
}

pub first_named : (w : World) (first : Members) (left : List ℕ) → AreLines w → AreLeaving w first left →
    AreNamed (parted_world w left) (first_round w first left)
first_named w first left lines are =
    elim are.alone [
      | inl none ↦
          subst (λ some. AreNamed (parted_world w left) (some ++ filter_map hung (all_left w left))) (sym none)
          (left_named w first left lines are)
      | inr none ↦
          subst (λ others. AreNamed (parted_world w others) (first_round w first others)) (sym none)
          (subst (λ named. AreNamed (parted_world w []) named) (sym (append-nil first))
          (record { live = are.named.live; differ = are.named.differ }))
    ]

pub leaving_is_a_hangup : LeavingIsAHangup
leaving_is_a_hangup w first left lines are = (parted_lines w left lines, first_named w first left lines are)

-- all of whom are left are apart
pub all_left_apart : (w : World) (first : Members) (left : List ℕ) → AreLines w → AreLeaving w first left → AreApart (all_left w left)
all_left_apart w first left lines are = left_apart w left left lines (leaver_lives w first left are) are.differ

-- ---- nobody leaves

same_row : (o : Option Row) → unless_left [] o ≡ o
same_row None = refl
same_row (Some row) = refl

same_world : (w : World) → parted_world w [] ≡ w
same_world w = ap (λ row. record w { row = row }) (fun_ext (λ slot. same_row (w.row slot)))

pub nobody_leaves : NobodyLeaves
nobody_leaves w first =
    ap (λ named. record { parted = []; ends = closure_of (parted_world w []) named; leavers = [] }) (append-nil first)
    ∙ ap (λ there. record { parted = []; ends = closure_of there first; leavers = [] }) (same_world w)
