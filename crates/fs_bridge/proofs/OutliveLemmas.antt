-- Who outlives a bridge.
use Rattle.std.proofs.Common.{◌≡◌, ◌≢◌, ℕ, Bool, true, false, ◌||◌, if◌then◌else◌, List, [], ◌∷◌, filter_map, Option, None, Some}
use Rattle.std.proofs.Common.{inl, inr, refl, ap, sym, subst, ◌∙◌}
use Rattle.std.specs.Prelude.{◌==◌, option_and_then}
use Rattle.std.specs.List.{cons_option}
use Rattle.std.proofs.lemmas.Bool.{eqb-true, or_cases, true≢false}
use Rattle.std.proofs.lemmas.Cmp.{nat_eq_equiv}
use Rattle.std.proofs.lemmas.Option.{same_Some}
use Rattle.fs_bridge.specs.declared.row.Row.{Row}
use Rattle.fs_bridge.specs.declared.after.After.{After}
use Rattle.fs_bridge.specs.Bridges.{has_leg}
use Rattle.fs_bridge.specs.Worlds.{World, AreLines}
use Rattle.fs_bridge.specs.Orders.{has_slot}
use Rattle.fs_bridge.specs.Closure.{Member, Members, AreNamed, peer_in, left_by, survivor_of, survivors_of, members_of}
use Rattle.fs_bridge.specs.Hangups.{IsOneOf}
use Rattle.fs_bridge.specs.Rounds.{IsLeft, IsInRound}
use Rattle.fs_bridge.specs.Endings.{SurvivorsAreLeft}
use Rattle.fs_bridge.proofs.DragLemmas.{one_in_order}
use Rattle.fs_bridge.proofs.SurvivorLemmas.{one_told, left_case}
use Rattle.fs_bridge.proofs.FirstLemmas.{only_first, first_in_order}
use Rattle.fs_bridge.proofs.WayLemmas.{left_from, left_to}
use Rattle.fs_bridge.proofs.ListedLemmas.{each_is_in_a_round, one_round_and_cause}
use Rattle.fs_bridge.proofs.EndLemmas.{leg_tells, member_lives}

-- ---- the legs of a bridge

peer_leg_case : (row : Row) (called : Bool) → has_leg (if called then row.answerer else row.caller) row ≡ true
peer_leg_case row true = there (row.caller == row.answerer)
  where
    there : (b : Bool) → (b || row.answerer == row.answerer) ≡ true
    there true = refl
    there false = nat_eq_equiv.refl row.answerer
peer_leg_case row false = ap (λ b. b || row.answerer == row.caller) (nat_eq_equiv.refl row.caller)

pub peer_is_leg : (row : Row) (slot other : ℕ) → other ≡ peer_in row slot → has_leg other row ≡ true
peer_is_leg row slot other is = ap (λ s. has_leg s row) is ∙ peer_leg_case row (row.caller == slot)

peer_case : (row : Row) (slot other : ℕ) (called : Bool) → row.caller ≢ row.answerer → (row.caller == slot) ≡ called →
    has_leg slot row ≡ true → other ≡ (if called then row.answerer else row.caller) → slot ≡ peer_in row other
peer_case row slot other true apart is leg peer =
    sym (eqb-true row.caller slot is)
    ∙ sym (ap (λ b. if b then row.answerer else row.caller) (none (row.caller == other) refl))
  where
    none : (b : Bool) → (row.caller == other) ≡ b → b ≡ false
    none false same = refl
    none true same = absurd (apart (eqb-true row.caller other same ∙ peer))
peer_case row slot other false apart is leg peer =
    elim (or_cases (row.caller == slot) (row.answerer == slot) leg) [
      | inl caller ↦ absurd (true≢false (sym caller ∙ is))
      | inr answerer ↦
          sym (eqb-true row.answerer slot answerer)
          ∙ sym (ap (λ s. if row.caller == s then row.answerer else row.caller) peer
          ∙ ap (λ b. if b then row.answerer else row.caller) (nat_eq_equiv.refl row.caller))
    ]

-- each leg is the other leg of its peer
peer_back : (row : Row) (slot other : ℕ) → row.caller ≢ row.answerer → has_leg slot row ≡ true → other ≡ peer_in row slot →
    slot ≡ peer_in row other
peer_back row slot other apart leg peer = peer_case row slot other (row.caller == slot) apart refl leg peer

-- ---- one leaves it

-- one leg leaves the other: that tells of a bridge, of which the one is the other leg
pub record Leaves (w : World) (leg other : ℕ) : Type 0 where
  pub row : Row
  pub tells : w.row other ≡ Some row
  pub peer : leg ≡ peer_in row other

pub leaves_living : (w : World) (by : Member) (slot : ℕ) (after : After) → AreLines w → w.live by.0 ≡ true → IsLeft w by slot after →
    Leaves w by.0 slot
leaves_living w by slot after lines lives is =
    let of = lines.row by.0 is.row lives is.bridge in record {
      row = is.row;
      tells =
          leg_tells w is.row slot lines (record { slot = by.0; lives = lives; bridge = is.bridge })
          (peer_is_leg is.row by.0 slot is.peer);
      peer = peer_back is.row by.0 slot of.apart of.leg is.peer;
    }

leaves : (w : World) (named : Members) (by : Member) (slot : ℕ) (after : After) → AreLines w → AreNamed w named →
    IsOneOf by (members_of w named) → IsLeft w by slot after → Leaves w by.0 slot
leaves w named by slot after lines are member is = leaves_living w by slot after lines (member_lives w named by are member) is

pub one_leaves : (w : World) (leg other left : ℕ) → Leaves w leg left → Leaves w other left → leg ≡ other
one_leaves w leg other left is too =
    let same : is.row ≡ too.row = same_Some is.row too.row (sym is.tells ∙ too.tells) in
    is.peer ∙ ap (λ row. peer_in row left) same ∙ sym too.peer

one_member : (w : World) (named : Members) (m other : Member) → AreNamed w named → IsOneOf m (members_of w named) →
    IsOneOf other (members_of w named) → m.0 ≡ other.0 → m ≡ other
one_member w named m other are is too same =
    let round = each_is_in_a_round w named m are is in
    let its = each_is_in_a_round w named other are too in
    let cause =
    one_round_and_cause w named other.0 round.0 its.0 m.1 other.1 are
    (subst (λ s. IsInRound w named round.0 (s, m.1)) same round.1) its.1 in
    ap (λ s. (s, m.1)) same ∙ ap (λ c. (other.0, c)) cause.1

-- ---- survivors

survivor_case : (members : Members) (s : ℕ × After) (stands : Bool) → stands ≡ false → (if stands then None else Some s) ≡ Some s
survivor_case members s true is = absurd (true≢false is)
survivor_case members s false is = refl

survivor_is : (w : World) (members : Members) (m : Member) (s : ℕ × After) → left_by w m ≡ Some s → has_slot s.0 members ≡ false →
    survivor_of w members m ≡ Some s
survivor_is w members m s told none =
    ap (λ o. option_and_then (λ left. if has_slot left.0 members then None else Some left) o) told
    ∙ survivor_case members s (has_slot s.0 members) none

behind_option : {X : Type 0} (y : X) (o : Option X) (rest : List X) → IsOneOf y rest → IsOneOf y (cons_option o rest)
behind_option y None rest is = is
behind_option y (Some x) rest is = inr is

pub told_one : {X Y : Type 0} (h : X → Option Y) (x : X) (y : Y) (xs : List X) → IsOneOf x xs → h x ≡ Some y → IsOneOf y (filter_map h xs)
told_one h x y [] is told = absurd is
told_one h x y (z ∷ xs) (inl same) told =
    subst (λ o. IsOneOf y (cons_option o (filter_map h xs))) (sym told ∙ ap h same) (inl refl)
told_one h x y (z ∷ xs) (inr is) told = behind_option y (h z) (filter_map h xs) (told_one h x y xs is told)

-- who is told of, by whom, and that it does not hang up
record Survives (w : World) (named : Members) (s : ℕ × After) : Type 0 where
  pub by : Member
  pub member : IsOneOf by (members_of w named)
  pub told : left_by w by ≡ Some s
  pub stays : has_slot s.0 (members_of w named) ≡ false

survives : (w : World) (named : Members) (s : ℕ × After) → IsOneOf s (filter_map (survivor_of w (members_of w named)) (members_of w named)) →
    Survives w named s
survives w named s is =
    let told = one_told (survivor_of w (members_of w named)) s (members_of w named) is in
    let left = left_case (members_of w named) s (left_by w told.by) told.told in
    record { by = told.by; member = told.one; told = left.0; stays = left.1 }

-- of one slot is one survivor at most
one_survives : (w : World) (named : Members) (s other : ℕ × After) → AreLines w → AreNamed w named → Survives w named s →
    Survives w named other → other.0 ≡ s.0 → s ≡ other
one_survives w named s other lines are is too same =
    let first = leaves w named is.by s.0 s.1 lines are is.member (left_from w is.by s is.told) in
    let second = leaves w named too.by other.0 other.1 lines are too.member (left_from w too.by other too.told) in
    let slots = one_leaves w is.by.0 too.by.0 s.0 first (subst (λ left. Leaves w too.by.0 left) same second) in
    let by = one_member w named is.by too.by are is.member too.member slots in
    same_Some s other (sym is.told ∙ ap (λ m. left_by w m) by ∙ too.told)

survivor_from : (w : World) (named : Members) (s : ℕ × After) → IsOneOf s (survivors_of w (members_of w named)) →
    (by : Member) × IsOneOf by (members_of w named) × IsLeft w by s.0 s.1 × (has_slot s.0 (members_of w named) ≡ false)
survivor_from w named s is =
    let of = survives w named s (one_in_order s (filter_map (survivor_of w (members_of w named)) (members_of w named)) is) in
    (of.by, of.member, left_from w of.by s of.told, of.stays)

survivor_to : (w : World) (named : Members) (s : ℕ × After) → AreLines w → AreNamed w named → Survives w named s →
    IsOneOf s (survivors_of w (members_of w named))
survivor_to w named s lines are is =
    first_in_order s all
    (only_first s all
    (told_one (survivor_of w (members_of w named)) is.by s (members_of w named) is.member
    (survivor_is w (members_of w named) is.by s is.told is.stays))
    (λ other one same. one_survives w named s other lines are is (survives w named other one) same))
  where
    all : List (ℕ × After)
    all = filter_map (survivor_of w (members_of w named)) (members_of w named)

pub survivors_are_left : SurvivorsAreLeft
survivors_are_left w named slot after lines are = (
  λ is. survivor_from w named (slot, after) is,
  λ is.
      survivor_to w named (slot, after) lines are
      (record { by = is.0; member = is.1; told = left_to w is.0 slot after is.2; stays = is.3 }),
)
