-- Who hangs up by the closure, and who outlives a bridge.
use Rattle.std.proofs.Common.{◌≡◌, ℕ, ◌≤◌, ◌+◌, Bool, true, false, ◌||◌, cond, List, [], ◌∷◌, ◌++◌, take, drop, fold}
use Rattle.std.proofs.Common.{filter_map, Option, None, Some, option_to_list, inl, inr, refl, ap, sym, subst, ◌∙◌, arith}
use Rattle.std.specs.Prelude.{◌==◌, nat_lt, insert, count_by, option_map, option_and_then, if◌then◌else◌}
use Rattle.std.specs.List.{cons_option}
use Rattle.std.proofs.Math.Nat.{suc-ne-zero}
use Rattle.std.proofs.lemmas.List.{take-append-drop}
use Rattle.std.proofs.lemmas.Bool.{true≢false}
use Rattle.std.proofs.lemmas.Cmp.{nat_eq_equiv}
use Rattle.std.proofs.lemmas.Option.{none-some, same_Some}
use Rattle.fs_text.specs.declared.causes.Cause.{Cause}
use Rattle.fs_vars.specs.Variables.{Variables}
use Rattle.fs_bridge.specs.declared.after.After.{After}
use Rattle.fs_bridge.specs.declared.row.Row.{Row}
use Rattle.fs_bridge.specs.After.{after_bridge}
use Rattle.fs_bridge.specs.Worlds.{World, AreLines}
use Rattle.fs_bridge.specs.Orders.{has_slot, placed}
use Rattle.fs_bridge.specs.Closure.{Member, Members, AreNamed, by_partner, by_origination, by_peer, drags, hung, peer_in, left_in, left_by}
use Rattle.fs_bridge.specs.Closure.{hangup_cause, survivor_of, members_of}
use Rattle.fs_bridge.specs.Hangups.{IsOneOf, RoundsAreMembers, NoSurvivorHangsUp}
use Rattle.fs_bridge.proofs.DragLemmas.{one_parts, one_front, one_back, one_in_order}
use Rattle.fs_bridge.proofs.OnceLemmas.{count_in, count_cons, has_placed, nobody_twice}
use Rattle.fs_bridge.proofs.SettledLemmas.{each_dragged_hangs_up, members_live, one_stands}

-- ---- in order stands everyone

pub kept_insert : {X : Type 0} (x : X) (xs : List X) (i : ℕ) (y : X) → IsOneOf x xs → IsOneOf x (insert xs i y)
kept_insert x xs i y is =
    elim (one_parts x (take i xs) (drop i xs) (subst (λ all. IsOneOf x all) (sym (take-append-drop i xs)) is)) [
      | inl h ↦ one_front x (take i xs) (y ∷ drop i xs) h
      | inr h ↦ one_back x (take i xs) (y ∷ drop i xs) (inr h)
    ]

kept_case : {T : Type 0} (x : ℕ × T) (things : List (ℕ × T)) (i : ℕ) (thing : ℕ × T) (stands : Bool) → IsOneOf x things →
    IsOneOf x (cond stands things (insert things i thing))
kept_case x things i thing true is = is
kept_case x things i thing false is = kept_insert x things i thing is

kept_placed : {T : Type 0} (x : ℕ × T) (things : List (ℕ × T)) (thing : ℕ × T) → IsOneOf x things → IsOneOf x (placed things thing)
unfolding placed
kept_placed x things thing is =
    kept_case x things (count_by (λ other. nat_lt other.0 thing.0) things) thing (has_slot thing.0 things) is

new_case : {T : Type 0} (things : List (ℕ × T)) (i : ℕ) (thing : ℕ × T) (stands : Bool) → stands ≡ false →
    IsOneOf thing (cond stands things (insert things i thing))
new_case things i thing true is = absurd (true≢false is)
new_case things i thing false is = one_back thing (take i things) (thing ∷ drop i things) (inl refl)

pub new_placed : {T : Type 0} (things : List (ℕ × T)) (thing : ℕ × T) → has_slot thing.0 things ≡ false → IsOneOf thing (placed things thing)
unfolding placed
new_placed things thing is =
    new_case things (count_by (λ other. nat_lt other.0 thing.0) things) thing (has_slot thing.0 things) is

pub kept_fold : {T : Type 0} (x : ℕ × T) (before things : List (ℕ × T)) → IsOneOf x before → IsOneOf x (fold placed before things)
kept_fold x before [] is = is
kept_fold x before (thing ∷ things) is = kept_fold x (placed before thing) things (kept_placed x before thing is)

some_here : (here : Bool) (n count : ℕ) → here ≡ true → count ≡ cond here 1 0 + n → 1 ≤ count
some_here true n count is sum = omega (arith, sum)
some_here false n count is sum = absurd (true≢false (sym is))

some_in : {T : Type 0} (x : ℕ × T) (things : List (ℕ × T)) → IsOneOf x things → 1 ≤ count_in x.0 things
some_in x [] is = absurd is
some_in x (thing ∷ things) (inl same) =
    some_here (thing.0 == x.0) (count_in x.0 things) (count_in x.0 (thing ∷ things))
    (ap (λ t. t.0 == x.0) (sym same) ∙ nat_eq_equiv.refl x.0) (count_cons x.0 thing things)
some_in x (thing ∷ things) (inr is) =
    let sum = count_cons x.0 thing things in
    let behind = some_in x things is in
    omega (arith, sum, behind)

other_here : (here : Bool) (n count : ℕ) → 1 ≤ n → count ≤ 1 → count ≡ cond here 1 0 + n → (here ≡ false) × (n ≤ 1)
other_here true n count one once sum = absurd (suc-ne-zero 0 (omega (arith, one, once, sum)))
other_here false n count one once sum = (refl, omega (arith, once, sum))

all_placed : {T : Type 0} (x : ℕ × T) (before things : List (ℕ × T)) → IsOneOf x things → has_slot x.0 before ≡ false →
    count_in x.0 things ≤ 1 → IsOneOf x (fold placed before things)
all_placed x before [] is new once = absurd is
all_placed x before (thing ∷ things) (inl same) new once =
    subst (λ t. IsOneOf t (fold placed (placed before thing) things)) (sym same)
    (kept_fold thing (placed before thing) things (new_placed before thing (ap (λ t. has_slot t.0 before) (sym same) ∙ new)))
all_placed x before (thing ∷ things) (inr is) new once =
    let rest = other_here (thing.0 == x.0) (count_in x.0 things) (count_in x.0 (thing ∷ things)) (some_in x things is) once
    (count_cons x.0 thing things) in
    all_placed x (placed before thing) things is
    (has_placed x.0 before thing ∙ ap (λ b. b || has_slot x.0 before) rest.0 ∙ new) rest.1

pub rounds_are_members : RoundsAreMembers
rounds_are_members w named m =
    (λ is. one_in_order m (members_of w named) is, λ is. all_placed m [] (members_of w named) is refl (nobody_twice w named m.0))

-- ---- who outlives a bridge

pub record IsTold {X Y : Type 0} (h : X → Option Y) (y : Y) (xs : List X) : Type 0 where
  pub by : X
  pub one : IsOneOf by xs
  pub told : h by ≡ Some y

told_case : {X Y : Type 0} (h : X → Option Y) (y : Y) (x : X) (xs : List X) (o : Option Y) → h x ≡ o →
    (IsOneOf y (filter_map h xs) → IsTold h y xs) → IsOneOf y (cons_option o (filter_map h xs)) → IsTold h y (x ∷ xs)
told_case h y x xs None is rest one = let r = rest one in record { by = r.by; one = inr r.one; told = r.told }
told_case h y x xs (Some z) is rest (inl same) = record { by = x; one = inl refl; told = is ∙ ap (λ v. Some v) (sym same) }
told_case h y x xs (Some z) is rest (inr one) = let r = rest one in record { by = r.by; one = inr r.one; told = r.told }

pub one_told : {X Y : Type 0} (h : X → Option Y) (y : Y) (xs : List X) → IsOneOf y (filter_map h xs) → IsTold h y xs
one_told h y [] is = absurd is
one_told h y (x ∷ xs) is = told_case h y x xs (h x) refl (one_told h y xs) is

no_member : (members : Members) (left s : ℕ × After) (stands : Bool) → has_slot left.0 members ≡ stands →
    (if stands then None else Some left) ≡ Some s → (left ≡ s) × (has_slot s.0 members ≡ false)
no_member members left s true is told = absurd (none-some s told)
no_member members left s false is told =
    let same : left ≡ s = same_Some left s told in (same, ap (λ l. has_slot l.0 members) (sym same) ∙ is)

pub left_case : (members : Members) (s : ℕ × After) (o : Option (ℕ × After)) →
    option_and_then (λ left. if has_slot left.0 members then None else Some left) o ≡ Some s → (o ≡ Some s) × (has_slot s.0 members ≡ false)
left_case members s None told = absurd (none-some s told)
left_case members s (Some left) told =
    let both = no_member members left s (has_slot left.0 members) refl told in
    (ap (λ l. Some l) both.0, both.1)

peer_case : (w : World) (slot : ℕ) (row : Row) (called : Bool) → w.live row.caller ≡ true → w.live row.answerer ≡ true →
    w.live (if called then row.answerer else row.caller) ≡ true
peer_case w slot row true caller answerer = answerer
peer_case w slot row false caller answerer = caller

vars_case : (w : World) (m : Member) (row : Row) (s : ℕ × After) (vars : Option Variables) →
    option_map (λ vars. (peer_in row m.0, after_bridge row (peer_in row m.0) vars m.1)) vars ≡ Some s → peer_in row m.0 ≡ s.0
vars_case w m row s None told = absurd (none-some s told)
vars_case w m row s (Some vars) told =
    ap (λ l. l.0) (same_Some (peer_in row m.0, after_bridge row (peer_in row m.0) vars m.1) s told)

row_case : (w : World) (m : Member) (s : ℕ × After) (row : Option Row) → AreLines w → w.live m.0 ≡ true → w.row m.0 ≡ row →
    option_and_then (left_in w m) row ≡ Some s → w.live s.0 ≡ true
row_case w m s None lines lives is told = absurd (none-some s told)
row_case w m s (Some row) lines lives is told =
    let of = lines.row m.0 row lives is in
    ap (λ slot. w.live slot) (sym (vars_case w m row s (w.vars (peer_in row m.0)) told))
    ∙ peer_case w m.0 row (row.caller == m.0) of.caller of.answerer

-- the peer of a member lives
left_lives : (w : World) (m : Member) (s : ℕ × After) → AreLines w → w.live m.0 ≡ true → left_by w m ≡ Some s → w.live s.0 ≡ true
left_lives w m s lines lives told = row_case w m s (w.row m.0) lines lives refl told

abbrev member_in : ℕ → Cause → Member
member_in slot cause = (slot, cause)

hung_as : (slot : ℕ) (o : Option Cause) (cause : Cause) → o ≡ Some cause → option_map (member_in slot) o ≡ Some (member_in slot cause)
hung_as slot o cause is = ap (λ c. option_map (member_in slot) c) is

-- a peer that hangs up is dragged
peer_dragged : (w : World) (m : Member) (s : ℕ × After) (cause : Cause) → left_by w m ≡ Some s → hangup_cause s.1 ≡ Some cause →
    IsOneOf (s.0, cause) (drags w m)
peer_dragged w m s cause told hangs =
    one_back (s.0, cause) (by_partner w m) (by_origination w m ++ by_peer w m)
    (one_back (s.0, cause) (by_origination w m) (by_peer w m)
    (subst (λ o. IsOneOf (s.0, cause) (option_to_list o))
    (sym (ap (λ l. option_and_then hung l) told ∙ hung_as s.0 (hangup_cause s.1) cause hangs)) (inl refl)))

goes_case : (w : World) (named : Members) (m : Member) (s : ℕ × After) (o : Option Cause) → AreLines w → AreNamed w named →
    IsOneOf m (members_of w named) → left_by w m ≡ Some s → has_slot s.0 (members_of w named) ≡ false → w.live s.0 ≡ true →
    hangup_cause s.1 ≡ o → o ≡ None
goes_case w named m s None lines are member told none lives hangs = refl
goes_case w named m s (Some cause) lines are member told none lives hangs =
    absurd (true≢false
    (sym (each_dragged_hangs_up w named (s.0, cause) lines are
    (record { by = m; member = member; dragged = peer_dragged w m s cause told hangs }) lives) ∙ none))

survives : (w : World) (named : Members) (s : ℕ × After) → AreLines w → AreNamed w named →
    IsTold (survivor_of w (members_of w named)) s (members_of w named) →
    (has_slot s.0 (members_of w named) ≡ false) × (hangup_cause s.1 ≡ None)
survives w named s lines are told =
    let left = left_case (members_of w named) s (left_by w told.by) told.told in
    let lives = members_live w named told.by.0 are (one_stands told.by (members_of w named) told.one) in (
      left.1,
      goes_case w named told.by s (hangup_cause s.1) lines are told.one left.0 left.1
          (left_lives w told.by s lines lives left.0) refl,
    )

pub no_survivor_hangs_up : NoSurvivorHangsUp
no_survivor_hangs_up w named s lines are is =
    survives w named s lines are
    (one_told (survivor_of w (members_of w named)) s (members_of w named)
    (one_in_order s (filter_map (survivor_of w (members_of w named)) (members_of w named)) is))
