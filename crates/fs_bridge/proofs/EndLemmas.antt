-- The bridges that end by a hangup.
use Rattle.std.proofs.Common.{◌≡◌, ℕ, zero, suc, ◌+◌, ◌<◌, ◌≤◌, Bool, true, false, ◌||◌, cond, List, [], ◌∷◌, ◌++◌, fold}
use Rattle.std.proofs.Common.{Option, None, Some, ◌⊎◌, inl, inr, refl, ap, sym, subst, ◌∙◌, arith}
use Rattle.std.specs.Prelude.{◌==◌, count_by}
use Rattle.std.proofs.lemmas.Bool.{eqb-true, or_cases, or_from, or_parts, true≢false, false_from_ne_true}
use Rattle.std.proofs.lemmas.Cmp.{nat_eq_equiv}
use Rattle.std.proofs.lemmas.List.Folds.{list_any-append}
use Rattle.std.proofs.lemmas.List.Sums.{sum_by-cons}
use Rattle.std.proofs.lemmas.Option.{same_Some}
use Rattle.fs_text.specs.declared.causes.Cause.{Cause}
use Rattle.fs_bridge.specs.declared.row.Row.{Row}
use Rattle.fs_bridge.specs.Bridges.{has_leg}
use Rattle.fs_bridge.specs.Worlds.{World, AreLines}
use Rattle.fs_bridge.specs.Orders.{has_slot}
use Rattle.fs_bridge.specs.Closure.{Member, Members, AreNamed, has_ended, with_end, ended_by, ended_of, members_of}
use Rattle.fs_bridge.specs.Hangups.{IsOneOf}
use Rattle.fs_bridge.specs.Rounds.{IsNoLater, IsInRound}
use Rattle.fs_bridge.specs.Endings.{EndsOf, EachEndsOfTheFirst, EndsWithALeg, NoBridgeEndsTwice}
use Rattle.fs_bridge.proofs.DragLemmas.{one_parts, one_front, one_back}
use Rattle.fs_bridge.proofs.OnceLemmas.{none_behind}
use Rattle.fs_bridge.proofs.SettledLemmas.{members_live, one_stands}
use Rattle.fs_bridge.proofs.FirstLemmas.{one_at, IsSorted}
use Rattle.fs_bridge.proofs.ListedLemmas.{round_at, all_to, round_sorted, agrees, members_all, in_round_to, each_is_in_a_round, same_round}
use Rattle.fs_bridge.proofs.ListedLemmas.{each_of_a_round_hangs_up}

-- ---- a list of bridges that ended

-- a bridge is that of the caller
abbrev is_of : ℕ → Option Row → Bool
is_of caller None = false
is_of caller (Some row) = row.caller == caller

-- the first of the members with a bridge of this caller tells of this one, and has this cause
abbrev IsFirstEnd : World → Row → Cause → Members → Type 0
IsFirstEnd w row cause [] = ⊥
IsFirstEnd w row cause (m ∷ ms) =
    ((w.row m.0 ≡ Some row) × (cause ≡ m.1)) ⊎ ((is_of row.caller (w.row m.0) ≡ false) × IsFirstEnd w row cause ms)

ended_too : (caller : ℕ) (row : Row) (before : List (Row × Cause)) (same : Bool) → (row.caller == caller) ≡ same →
    has_ended row.caller before ≡ true → has_ended caller before ≡ (has_ended caller before || same)
ended_too caller row before true is stands =
    let old : has_ended caller before ≡ true = ap (λ c. has_ended c before) (sym (eqb-true row.caller caller is)) ∙ stands in
    old ∙ sym (ap (λ b. b || true) old)
ended_too caller row before false is stands = none_behind (has_ended caller before)

has_case : (caller : ℕ) (row : Row) (cause : Cause) (before : List (Row × Cause)) (stands : Bool) → has_ended row.caller before ≡ stands →
    has_ended caller (cond stands before (before ++ (row, cause) ∷ [])) ≡ (has_ended caller before || row.caller == caller)
has_case caller row cause before true is = ended_too caller row before (row.caller == caller) refl is
has_case caller row cause before false is =
    list_any-append (λ (e : Row × Cause). e.0.caller == caller) before ((row, cause) ∷ [])
    ∙ ap (λ b. has_ended caller before || b) (sym (none_behind (row.caller == caller)))

has_with_end : (caller : ℕ) (cause : Cause) (before : List (Row × Cause)) (o : Option Row) →
    has_ended caller (with_end cause before o) ≡ (has_ended caller before || is_of caller o)
has_with_end caller cause before None = none_behind (has_ended caller before)
has_with_end caller cause before (Some row) = has_case caller row cause before (has_ended row.caller before) refl

new_case : (e : Row × Cause) (row : Row) (cause : Cause) (before : List (Row × Cause)) (stands : Bool) →
    has_ended row.caller before ≡ stands → IsOneOf e (cond stands before (before ++ (row, cause) ∷ [])) →
    IsOneOf e before ⊎ ((has_ended e.0.caller before ≡ false) × (e ≡ (row, cause)))
new_case e row cause before true is one = inl one
new_case e row cause before false is one =
    elim (one_parts e before ((row, cause) ∷ []) one) [
      | inl old ↦ inl old
      | inr new ↦ elim new [
        | inl same ↦ inr (ap (λ x. has_ended x.0.caller before) same ∙ is, same)
        | inr none ↦ absurd none
      ]
    ]

end_parts : (e : Row × Cause) (cause : Cause) (before : List (Row × Cause)) (o : Option Row) → IsOneOf e (with_end cause before o) →
    IsOneOf e before ⊎ ((has_ended e.0.caller before ≡ false) × ((o ≡ Some e.0) × (e.1 ≡ cause)))
end_parts e cause before None is = inl is
end_parts e cause before (Some row) is =
    elim (new_case e row cause before (has_ended row.caller before) refl is) [
      | inl old ↦ inl old
      | inr new ↦ inr (new.0, (ap (λ x. Some x.0) (sym new.1), ap (λ x. x.1) new.1))
    ]

first_ended : (w : World) (e : Row × Cause) (before : List (Row × Cause)) (ms : Members) → IsOneOf e (fold (ended_by w) before ms) →
    IsOneOf e before ⊎ ((has_ended e.0.caller before ≡ false) × IsFirstEnd w e.0 e.1 ms)
first_ended w e before [] is = inl is
first_ended w e before (m ∷ ms) is =
    elim (first_ended w e (with_end m.1 before (w.row m.0)) ms is) [
      | inl there ↦ elim (end_parts e m.1 before (w.row m.0) there) [ inl old ↦ inl old | inr new ↦ inr (new.0, inl new.1) ]
      | inr later ↦
          let parts = or_parts (has_ended e.0.caller before) (is_of e.0.caller (w.row m.0))
          (sym (has_with_end e.0.caller m.1 before (w.row m.0)) ∙ later.0) in
          inr (parts.0, inr (parts.1, later.1))
    ]

kept_case : (e : Row × Cause) (row : Row) (cause : Cause) (before : List (Row × Cause)) (stands : Bool) → IsOneOf e before →
    IsOneOf e (cond stands before (before ++ (row, cause) ∷ []))
kept_case e row cause before true is = is
kept_case e row cause before false is = one_front e before ((row, cause) ∷ []) is

kept_end : (e : Row × Cause) (cause : Cause) (before : List (Row × Cause)) (o : Option Row) → IsOneOf e before →
    IsOneOf e (with_end cause before o)
kept_end e cause before None is = is
kept_end e cause before (Some row) is = kept_case e row cause before (has_ended row.caller before) is

kept_ends : (w : World) (e : Row × Cause) (before : List (Row × Cause)) (ms : Members) → IsOneOf e before →
    IsOneOf e (fold (ended_by w) before ms)
kept_ends w e before [] is = is
kept_ends w e before (m ∷ ms) is = kept_ends w e (with_end m.1 before (w.row m.0)) ms (kept_end e m.1 before (w.row m.0) is)

put_case : (row : Row) (cause : Cause) (before : List (Row × Cause)) (stands : Bool) → stands ≡ false →
    IsOneOf (row, cause) (cond stands before (before ++ (row, cause) ∷ []))
put_case row cause before true is = absurd (true≢false is)
put_case row cause before false is = one_back (row, cause) before ((row, cause) ∷ []) (inl refl)

put_end : (row : Row) (cause : Cause) (before : List (Row × Cause)) (o : Option Row) → o ≡ Some row → has_ended row.caller before ≡ false →
    IsOneOf (row, cause) (with_end cause before o)
put_end row cause before o is new =
    subst (λ p. IsOneOf (row, cause) (with_end cause before p)) (sym is) (put_case row cause before (has_ended row.caller before) new)

ended_first : (w : World) (row : Row) (cause : Cause) (before : List (Row × Cause)) (ms : Members) → has_ended row.caller before ≡ false →
    IsFirstEnd w row cause ms → IsOneOf (row, cause) (fold (ended_by w) before ms)
ended_first w row cause before [] new is = absurd is
ended_first w row cause before (m ∷ ms) new (inl here) =
    kept_ends w (row, cause) (with_end m.1 before (w.row m.0)) ms
    (subst (λ c. IsOneOf (row, c) (with_end m.1 before (w.row m.0))) (sym here.1) (put_end row m.1 before (w.row m.0) here.0 new))
ended_first w row cause before (m ∷ ms) new (inr is) =
    ended_first w row cause (with_end m.1 before (w.row m.0)) ms
    (has_with_end row.caller m.1 before (w.row m.0) ∙ or_from (has_ended row.caller before) (is_of row.caller (w.row m.0)) new is.0) is.1

-- ---- members stand in order of rounds, and in one round of slots

abbrev IsEarlier : World → Members → Member → Member → Type 0
IsEarlier w named m later =
    (n k : ℕ) → IsInRound w named n m → IsInRound w named k later → (n < k) ⊎ ((n ≡ k) × (m.0 < later.0))

abbrev AreRanked : World → Members → Members → Type 0
AreRanked w named [] = Unit {0}
AreRanked w named (m ∷ ms) = ((later : Member) → IsOneOf later ms → IsEarlier w named m later) × AreRanked w named ms

ranked_both : (w : World) (named xs ys : Members) → AreRanked w named xs → AreRanked w named ys →
    ((m later : Member) → IsOneOf m xs → IsOneOf later ys → IsEarlier w named m later) → AreRanked w named (xs ++ ys)
ranked_both w named [] ys front back between = back
ranked_both w named (x ∷ xs) ys front back between = (
  λ later is. elim (one_parts later xs ys is) [ inl one ↦ front.0 later one | inr one ↦ between x later (inl refl) one ],
  ranked_both w named xs ys front.1 back (λ m later one other. between m later (inr one) other),
)

ranked_round : (w : World) (named : Members) (n : ℕ) (ms : Members) → AreNamed w named → IsSorted ms →
    ((m : Member) → IsOneOf m ms → IsInRound w named n m) → AreRanked w named ms
ranked_round w named n [] are sorted round = tt
ranked_round w named n (m ∷ ms) are sorted round = (
  λ later one i j is too.
      inr (
        same_round w named m.0 i n m.1 m.1 is (round m (inl refl))
            ∙ same_round w named later.0 n j later.1 later.1 (round later (inr one)) too,
        sorted.0 later one,
      ),
  ranked_round w named n ms are sorted.1 (λ other one. round other (inr one)),
)

all_ranked : (w : World) (named : Members) (n : ℕ) → AreNamed w named → AreRanked w named (all_to w named n)
all_ranked w named zero are =
    ranked_round w named zero (round_at w named zero) are (round_sorted w named zero) (agrees w named zero are).to
all_ranked w named (suc n) are =
    ranked_both w named (all_to w named n) (round_at w named (suc n)) (all_ranked w named n are)
    (ranked_round w named (suc n) (round_at w named (suc n)) are (round_sorted w named (suc n)) (agrees w named (suc n) are).to)
    between
  where
    between : (m later : Member) → IsOneOf m (all_to w named n) → IsOneOf later (round_at w named (suc n)) → IsEarlier w named m later
    between m later one other i j is too =
        let there = in_round_to w named n m are one in
        let first = same_round w named m.0 i there.0 m.1 m.1 is there.1.1 in
        let last = same_round w named later.0 j (suc n) later.1 later.1 too ((agrees w named (suc n) are).to later other) in
        inl (omega (arith, first, last, there.1.0))

members_ranked : (w : World) (named : Members) → AreNamed w named → AreRanked w named (members_of w named)
members_ranked w named are =
    subst (λ all. AreRanked w named all) (sym (members_all w named)) (all_ranked w named w.slots are)

-- ---- bridges of live channels

-- a live channel tells of this bridge
pub record IsTold (w : World) (row : Row) : Type 0 where
  pub slot : ℕ
  pub lives : w.live slot ≡ true
  pub bridge : w.row slot ≡ Some row

-- each of its legs tells of it
pub leg_tells : (w : World) (row : Row) (leg : ℕ) → AreLines w → IsTold w row → has_leg leg row ≡ true → w.row leg ≡ Some row
leg_tells w row leg lines told is =
    let of = lines.row told.slot row told.lives told.bridge in
    elim (or_cases (row.caller == leg) (row.answerer == leg) is) [
      | inl caller ↦ ap (λ s. w.row s) (sym (eqb-true row.caller leg caller)) ∙ of.caller_tells
      | inr answerer ↦ ap (λ s. w.row s) (sym (eqb-true row.answerer leg answerer)) ∙ of.answerer_tells
    ]

-- two of one caller are one
pub one_row : (w : World) (row other : Row) → AreLines w → IsTold w row → IsTold w other → other.caller ≡ row.caller → other ≡ row
one_row w row other lines told too same =
    let of = lines.row told.slot row told.lives told.bridge in
    let its = lines.row too.slot other too.lives too.bridge in
    same_Some other row (sym its.caller_tells ∙ ap (λ s. w.row s) same ∙ of.caller_tells)

-- a live channel whose bridge has this caller tells of this bridge
is_same : (w : World) (row : Row) (slot : ℕ) (o : Option Row) → AreLines w → IsTold w row → w.live slot ≡ true → w.row slot ≡ o →
    is_of row.caller o ≡ true → w.row slot ≡ Some row
is_same w row slot None lines told lives bridge is = absurd (true≢false (sym is))
is_same w row slot (Some other) lines told lives bridge is =
    let same =
    one_row w row other lines told (record { slot = slot; lives = lives; bridge = bridge }) (eqb-true other.caller row.caller is) in
    bridge ∙ ap (λ r. Some r) same

is_own : (w : World) (row : Row) (slot : ℕ) → w.row slot ≡ Some row → is_of row.caller (w.row slot) ≡ true
is_own w row slot bridge = ap (λ o. is_of row.caller o) bridge ∙ nat_eq_equiv.refl row.caller

-- ---- bridges of members

-- these are members
abbrev Within : World → Members → Members → Type 0
Within w named ms = (m : Member) → IsOneOf m ms → IsOneOf m (members_of w named)

pub member_lives : (w : World) (named : Members) (m : Member) → AreNamed w named → IsOneOf m (members_of w named) → w.live m.0 ≡ true
member_lives w named m are is = members_live w named m.0 are (one_stands m (members_of w named) is)

pub told_by : (w : World) (named : Members) (m : Member) (row : Row) → AreNamed w named → IsOneOf m (members_of w named) →
    w.row m.0 ≡ Some row → IsTold w row
told_by w named m row are is bridge = record { slot = m.0; lives = member_lives w named m are is; bridge = bridge }

-- a leg of a bridge died before the other that is among these
record EndsAmong (w : World) (named : Members) (row : Row) (cause : Cause) (ms : Members) : Type 0 where
  pub leg : ℕ
  pub round : ℕ
  pub one : IsOneOf (leg, cause) ms
  pub bridge : w.row leg ≡ Some row
  pub died : IsInRound w named round (leg, cause)
  pub first : (other later : ℕ) (its : Cause) → IsOneOf (other, its) ms → has_leg other row ≡ true →
      IsInRound w named later (other, its) → IsNoLater round leg later other

no_later : (n a k b : ℕ) → (n < k) ⊎ ((n ≡ k) × (a < b)) → IsNoLater n a k b
no_later n a k b (inl less) = inl less
no_later n a k b (inr both) = let less = both.1 in inr (both.0, omega (arith, less))

here_first : (w : World) (named : Members) (row : Row) (m : Member) (ms : Members) (round other later : ℕ) (its : Cause) →
    AreRanked w named (m ∷ ms) → IsInRound w named round m → IsOneOf (other, its) (m ∷ ms) → IsInRound w named later (other, its) →
    IsNoLater round m.0 later other
here_first w named row m ms round other later its ranked died (inl same) is =
    let slots : m.0 ≡ other = sym (ap (λ x. x.0) same) in
    let its_round = subst (λ s. IsInRound w named later (s, its)) (sym slots) is in
    inr (same_round w named m.0 round later m.1 its died its_round, omega (arith, slots))
here_first w named row m ms round other later its ranked died (inr one) is =
    no_later round m.0 later other (ranked.0 (other, its) one round later died is)

ends_here : (w : World) (named : Members) (row : Row) (cause : Cause) (m : Member) (ms : Members) → AreNamed w named →
    AreRanked w named (m ∷ ms) → IsOneOf m (members_of w named) → w.row m.0 ≡ Some row → cause ≡ m.1 →
    EndsAmong w named row cause (m ∷ ms)
ends_here w named row cause m ms are ranked member bridge same =
    let there = each_is_in_a_round w named m are member in record {
      leg = m.0;
      round = there.0;
      one = inl (ap (λ c. (m.0, c)) same);
      bridge = bridge;
      died = subst (λ c. IsInRound w named there.0 (m.0, c)) (sym same) there.1;
      first = λ other later its one leg is. here_first w named row m ms there.0 other later its ranked there.1 one is;
    }

not_head : (w : World) (named : Members) (row : Row) (cause : Cause) (m : Member) (ms : Members) (d : EndsAmong w named row cause ms)
    (other later : ℕ) (its : Cause) → AreLines w → IsTold w row → is_of row.caller (w.row m.0) ≡ false →
    IsOneOf (other, its) (m ∷ ms) → has_leg other row ≡ true → IsInRound w named later (other, its) →
    IsNoLater d.round d.leg later other
not_head w named row cause m ms d other later its lines told none (inl same) leg is =
    let bridge = leg_tells w row other lines told leg in
    absurd (true≢false (sym (is_own w row other bridge) ∙ ap (λ x. is_of row.caller (w.row x.0)) same ∙ none))
not_head w named row cause m ms d other later its lines told none (inr one) leg is = d.first other later its one leg is

ends_among : (w : World) (named : Members) (row : Row) (cause : Cause) (ms : Members) → AreLines w → AreNamed w named →
    Within w named ms → AreRanked w named ms → IsFirstEnd w row cause ms → EndsAmong w named row cause ms
ends_among w named row cause [] lines are within ranked is = absurd is
ends_among w named row cause (m ∷ ms) lines are within ranked (inl here) =
    ends_here w named row cause m ms are ranked (within m (inl refl)) here.0 here.1
ends_among w named row cause (m ∷ ms) lines are within ranked (inr there) =
    let d = ends_among w named row cause ms lines are (λ x one. within x (inr one)) ranked.1 there.1 in
    let told = told_by w named (d.leg, cause) row are (within (d.leg, cause) (inr d.one)) d.bridge in record {
      leg = d.leg;
      round = d.round;
      one = inr d.one;
      bridge = d.bridge;
      died = d.died;
      first = λ other later its one leg is. not_head w named row cause m ms d other later its lines told there.0 one leg is;
    }

ends_of : (w : World) (named : Members) (row : Row) (cause : Cause) → AreLines w → AreNamed w named →
    IsOneOf (row, cause) (ended_of w (members_of w named)) → EndsOf w named row cause
ends_of w named row cause lines are is =
    elim (first_ended w (row, cause) [] (members_of w named) is) [
      | inl none ↦ absurd none
      | inr first ↦
          let d = ends_among w named row cause (members_of w named) lines are (λ m one. one) (members_ranked w named are) first.1 in record {
            leg = d.leg;
            round = d.round;
            bridge = d.bridge;
            died = d.died;
            first = λ other later its leg round.
                d.first other later its (each_of_a_round_hangs_up w named later (other, its) lines are round) leg round;
          }
    ]

-- who stands behind another does not come first
not_first : (round leg k slot : ℕ) → IsNoLater round leg k slot → (k < round) ⊎ ((k ≡ round) × (slot < leg)) → ⊥
not_first round leg k slot (inl less) (inl more) = absurd (omega (arith, less, more))
not_first round leg k slot (inl less) (inr both) = let same = both.0 in absurd (omega (arith, less, same))
not_first round leg k slot (inr both) (inl more) = let same = both.0 in absurd (omega (arith, more, same))
not_first round leg k slot (inr both) (inr other) =
    let less = both.1 in
    let more = other.1 in
    absurd (omega (arith, less, more))

behind_it : (w : World) (named : Members) (row : Row) (cause : Cause) (m : Member) (ms : Members) → AreLines w → AreNamed w named →
    AreRanked w named (m ∷ ms) → IsOneOf m (members_of w named) → (d : EndsOf w named row cause) → IsTold w row →
    IsOneOf (d.leg, cause) ms → is_of row.caller (w.row m.0) ≡ false
behind_it w named row cause m ms lines are ranked member d told one =
    false_from_ne_true (is_of row.caller (w.row m.0)) (λ is.
    let bridge = is_same w row m.0 (w.row m.0) lines told lives refl is in
    let leg = (lines.row m.0 row lives bridge).leg in
    not_first d.round d.leg there.0 m.0 (d.first m.0 there.0 m.1 leg there.1)
    (ranked.0 (d.leg, cause) one there.0 d.round there.1 d.died))
  where
    lives : w.live m.0 ≡ true
    lives = member_lives w named m are member

    there : (n : ℕ) × IsInRound w named n m
    there = each_is_in_a_round w named m are member

first_among : (w : World) (named : Members) (row : Row) (cause : Cause) (ms : Members) → AreLines w → AreNamed w named →
    Within w named ms → AreRanked w named ms → (d : EndsOf w named row cause) → IsTold w row → IsOneOf (d.leg, cause) ms →
    IsFirstEnd w row cause ms
first_among w named row cause [] lines are within ranked d told one = one
first_among w named row cause (m ∷ ms) lines are within ranked d told (inl same) =
    inl (ap (λ x. w.row x.0) (sym same) ∙ d.bridge, ap (λ x. x.1) same)
first_among w named row cause (m ∷ ms) lines are within ranked d told (inr one) =
    inr (
      behind_it w named row cause m ms lines are ranked (within m (inl refl)) d told one,
      first_among w named row cause ms lines are (λ x is. within x (inr is)) ranked.1 d told one,
    )

of_ends : (w : World) (named : Members) (row : Row) (cause : Cause) → AreLines w → AreNamed w named → EndsOf w named row cause →
    IsOneOf (row, cause) (ended_of w (members_of w named))
of_ends w named row cause lines are d =
    let member = each_of_a_round_hangs_up w named d.round (d.leg, cause) lines are d.died in
    ended_first w row cause [] (members_of w named) refl
    (first_among w named row cause (members_of w named) lines are (λ m one. one) (members_ranked w named are) d
    (told_by w named (d.leg, cause) row are member d.bridge) member)

pub each_ends_of_the_first : EachEndsOfTheFirst
each_ends_of_the_first w named row cause lines are =
    (ends_of w named row cause lines are, of_ends w named row cause lines are)

-- ---- a bridge with a leg that hangs up ends

some_first : (w : World) (named : Members) (row : Row) (leg : Member) (ms : Members) → AreLines w → AreNamed w named →
    Within w named ms → IsTold w row → IsOneOf leg ms → w.row leg.0 ≡ Some row → (cause : Cause) × IsFirstEnd w row cause ms
some_first w named row leg [] lines are within told one bridge = absurd one
some_first w named row leg (m ∷ ms) lines are within told (inl same) bridge =
    (m.1, inl (ap (λ x. w.row x.0) (sym same) ∙ bridge, refl))
some_first w named row leg (m ∷ ms) lines are within told (inr one) bridge =
    by (is_of row.caller (w.row m.0)) refl (some_first w named row leg ms lines are (λ x is. within x (inr is)) told one bridge)
  where
    by : (b : Bool) → is_of row.caller (w.row m.0) ≡ b → (cause : Cause) × IsFirstEnd w row cause ms →
        (cause : Cause) × IsFirstEnd w row cause (m ∷ ms)
    by true is behind =
        (m.1, inl (is_same w row m.0 (w.row m.0) lines told (member_lives w named m are (within m (inl refl))) refl is, refl))
    by false is behind = (behind.0, inr (is, behind.1))

pub leg_of_end : (w : World) (named : Members) (row : Row) (cause : Cause) → AreLines w → AreNamed w named → EndsOf w named row cause →
    (leg : ℕ) × (has_leg leg row ≡ true) × (has_slot leg (members_of w named) ≡ true)
leg_of_end w named row cause lines are d =
    let member = each_of_a_round_hangs_up w named d.round (d.leg, cause) lines are d.died in (
      d.leg,
      (lines.row d.leg row (member_lives w named (d.leg, cause) are member) d.bridge).leg,
      one_stands (d.leg, cause) (members_of w named) member,
    )

end_of_leg : (w : World) (named : Members) (row : Row) (leg : ℕ) → AreLines w → AreNamed w named → IsTold w row →
    has_leg leg row ≡ true → has_slot leg (members_of w named) ≡ true →
    (cause : Cause) × IsOneOf (row, cause) (ended_of w (members_of w named))
end_of_leg w named row leg lines are told is stands =
    let member = one_at leg (members_of w named) stands in
    let first =
    some_first w named row (leg, member.0) (members_of w named) lines are (λ m one. one) told member.1
    (leg_tells w row leg lines told is) in
    (first.0, ended_first w row first.0 [] (members_of w named) refl first.1)

pub ends_with_a_leg : EndsWithALeg
ends_with_a_leg w named slot row lines are lives bridge = (
  λ end. leg_of_end w named row end.0 lines are (ends_of w named row end.0 lines are end.1),
  λ leg. end_of_leg w named row leg.0 lines are (record { slot = slot; lives = lives; bridge = bridge }) leg.1 leg.2,
)

-- ---- no bridge ends twice

-- no two of them have one caller
abbrev AreApart : List (Row × Cause) → Type 0
AreApart [] = Unit {0}
AreApart (e ∷ es) = (has_ended e.0.caller es ≡ false) × AreApart es

apart_push : (row : Row) (cause : Cause) (es : List (Row × Cause)) → AreApart es → has_ended row.caller es ≡ false →
    AreApart (es ++ (row, cause) ∷ [])
apart_push row cause [] apart new = (refl, tt)
apart_push row cause (e ∷ es) apart new =
    let parts = or_parts (e.0.caller == row.caller) (has_ended row.caller es) new in
    let other : (row.caller == e.0.caller) ≡ false = nat_eq_equiv.symm row.caller e.0.caller ∙ parts.0 in (
      list_any-append (λ (x : Row × Cause). x.0.caller == e.0.caller) es ((row, cause) ∷ [])
          ∙ or_from (has_ended e.0.caller es) (row.caller == e.0.caller || false) apart.0
          (sym (none_behind (row.caller == e.0.caller)) ∙ other),
      apart_push row cause es apart.1 parts.1,
    )

apart_case : (row : Row) (cause : Cause) (es : List (Row × Cause)) (stands : Bool) → has_ended row.caller es ≡ stands → AreApart es →
    AreApart (cond stands es (es ++ (row, cause) ∷ []))
apart_case row cause es true is apart = apart
apart_case row cause es false is apart = apart_push row cause es apart is

apart_end : (cause : Cause) (es : List (Row × Cause)) (o : Option Row) → AreApart es → AreApart (with_end cause es o)
apart_end cause es None apart = apart
apart_end cause es (Some row) apart = apart_case row cause es (has_ended row.caller es) refl apart

all_apart : (w : World) (before : List (Row × Cause)) (ms : Members) → AreApart before → AreApart (fold (ended_by w) before ms)
all_apart w before [] apart = apart
all_apart w before (m ∷ ms) apart = all_apart w (with_end m.1 before (w.row m.0)) ms (apart_end m.1 before (w.row m.0) apart)

-- the slot tells of each of which it is a leg
abbrev pub TellsOfEach : World → ℕ → List (Row × Cause) → Type 0
TellsOfEach w slot es = (e : Row × Cause) → IsOneOf e es → has_leg slot e.0 ≡ true → w.row slot ≡ Some e.0

pub legs_front : (slot : ℕ) (e : Row × Cause) (es : List (Row × Cause)) →
    count_by (λ end. has_leg slot end.0) (e ∷ es) ≡ cond (has_leg slot e.0) 1 0 + count_by (λ end. has_leg slot end.0) es
legs_front slot e es = sum_by-cons (λ (end : Row × Cause). cond (has_leg slot end.0) 1 0) e es

pub none_ended : (w : World) (slot : ℕ) (row : Row) (es : List (Row × Cause)) → TellsOfEach w slot es → w.row slot ≡ Some row →
    has_ended row.caller es ≡ false → count_by (λ end. has_leg slot end.0) es ≡ 0
none_ended w slot row [] tells bridge none = refl
none_ended w slot row (e ∷ es) tells bridge none =
    by (has_leg slot e.0) refl (none_ended w slot row es (λ x one. tells x (inr one)) bridge parts.1)
  where
    parts : ((e.0.caller == row.caller) ≡ false) × (has_ended row.caller es ≡ false)
    parts = or_parts (e.0.caller == row.caller) (has_ended row.caller es) none

    by : (b : Bool) → has_leg slot e.0 ≡ b → count_by (λ end. has_leg slot end.0) es ≡ 0 →
        count_by (λ end. has_leg slot end.0) (e ∷ es) ≡ 0
    by true is behind =
        let same : e.0 ≡ row = same_Some e.0 row (sym (tells e (inl refl) is) ∙ bridge) in
        absurd (true≢false (sym (ap (λ r. r.caller == row.caller) same ∙ nat_eq_equiv.refl row.caller) ∙ parts.0))
    by false is behind =
        let front = legs_front slot e es ∙ ap (λ b. cond b 1 0 + count_by (λ end. has_leg slot end.0) es) is in
        omega (arith, front, behind)

one_ended : (w : World) (slot : ℕ) (es : List (Row × Cause)) → TellsOfEach w slot es → AreApart es →
    count_by (λ end. has_leg slot end.0) es ≤ 1
one_ended w slot [] tells apart = omega arith
one_ended w slot (e ∷ es) tells apart =
    by (has_leg slot e.0) refl (one_ended w slot es (λ x one. tells x (inr one)) apart.1)
  where
    by : (b : Bool) → has_leg slot e.0 ≡ b → count_by (λ end. has_leg slot end.0) es ≤ 1 →
        count_by (λ end. has_leg slot end.0) (e ∷ es) ≤ 1
    by true is behind =
        let none = none_ended w slot e.0 es (λ x one. tells x (inr one)) (tells e (inl refl) is) apart.0 in
        let front = legs_front slot e es ∙ ap (λ b. cond b 1 0 + count_by (λ end. has_leg slot end.0) es) is in
        omega (arith, front, none)
    by false is behind =
        let front = legs_front slot e es ∙ ap (λ b. cond b 1 0 + count_by (λ end. has_leg slot end.0) es) is in
        omega (arith, front, behind)

pub no_bridge_ends_twice : NoBridgeEndsTwice
no_bridge_ends_twice w named slot lines are =
    one_ended w slot (ended_of w (members_of w named)) tells (all_apart w [] (members_of w named) tt)
  where
    tells : TellsOfEach w slot (ended_of w (members_of w named))
    tells e one leg =
        let d = ends_of w named e.0 e.1 lines are one in
        let member = each_of_a_round_hangs_up w named d.round (d.leg, e.1) lines are d.died in
        leg_tells w e.0 slot lines (told_by w named (d.leg, e.1) e.0 are member d.bridge) leg
