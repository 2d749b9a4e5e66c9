-- The rounds of a hangup are those of its lists.
use Rattle.std.proofs.Common.{◌≡◌, ℕ, zero, suc, ◌+◌, ◌<◌, ◌≤◌, Bool, true, false, ◌&&◌, not, eqb, [], ◌∷◌, ◌++◌, map, filter, flat_map}
use Rattle.std.proofs.Common.{inl, inr, refl, ap, sym, subst, ◌∙◌, arith}
use Rattle.std.specs.List.{IsDistinct, AllByRecursion}
use Rattle.std.proofs.Math.Nat.{eq-or-lt_of_le}
use Rattle.std.proofs.lemmas.Bool.{true≢false, false_from_ne_true}
use Rattle.std.proofs.lemmas.Bool.Decides.{leb_tells}
use Rattle.fs_text.specs.declared.causes.Cause.{Cause}
use Rattle.fs_bridge.specs.Worlds.{World}
use Rattle.fs_bridge.specs.Orders.{has_slot, in_order}
use Rattle.fs_bridge.specs.Closure.{Member, Members, AreNamed, drags, may_join, round_after, with_rounds, members_of}
use Rattle.fs_bridge.specs.Hangups.{IsOneOf}
use Rattle.fs_bridge.specs.Rounds.{IsInRound, IsBefore}
use Rattle.fs_bridge.specs.Endings.{EachIsInARound, EachOfARoundHangsUp, OneRoundAndCause}
use Rattle.fs_bridge.proofs.DragLemmas.{one_parts, one_front, one_in_order}
use Rattle.fs_bridge.proofs.SettledLemmas.{and_left, both, has_front, has_back, has_either, one_stands, each_dragged_hangs_up}
use Rattle.fs_bridge.proofs.FirstLemmas.{one_at, IsFirst, first_kept, first_filter, in_order_first, first_in_order}
use Rattle.fs_bridge.proofs.FirstLemmas.{IsSorted, in_order_sorted, sorted_same}
use Rattle.fs_bridge.proofs.WayLemmas.{drags_to, DraggedFirst, dragged_first, first_dragged}

abbrev mutual
  -- the list of a round
  pub round_at : World → Members → ℕ → Members
  round_at w named zero = in_order named
  round_at w named (suc n) = round_after w (all_to w named n) (round_at w named n)

  -- the members of the rounds up to this one
  pub all_to : World → Members → ℕ → Members
  all_to w named zero = in_order named
  all_to w named (suc n) = all_to w named n ++ round_after w (all_to w named n) (round_at w named n)

pub round_sorted : (w : World) (named : Members) (n : ℕ) → IsSorted (round_at w named n)
round_sorted w named zero = in_order_sorted named
round_sorted w named (suc n) =
    in_order_sorted (filter (may_join w (all_to w named n)) (flat_map (drags w) (round_at w named n)))

-- ---- a round is its list

-- who is in the round stands in its list, and who was in one up to it among the members of those
pub record Agrees (w : World) (named : Members) (n : ℕ) : Type 0 where
  pub to : (m : Member) → IsOneOf m (round_at w named n) → IsInRound w named n m
  pub from : (m : Member) → IsInRound w named n m → IsOneOf m (round_at w named n)
  pub past_to : (slot : ℕ) → has_slot slot (all_to w named n) ≡ true → IsBefore w named (suc n) slot
  pub past_from : (slot : ℕ) → IsBefore w named (suc n) slot → has_slot slot (all_to w named n) ≡ true

apart_from : (slot : ℕ) (m : Member) (ms : Members) → AllByRecursion (λ other. eqb slot other ≡ false) (map (λ m. m.0) ms) →
    IsOneOf m ms → eqb slot m.0 ≡ false
apart_from slot m [] apart is = absurd is
apart_from slot m (y ∷ ms) apart (inl same) = ap (λ x. eqb slot x.0) same ∙ apart.0
apart_from slot m (y ∷ ms) apart (inr is) = apart_from slot m ms apart.1 is

named_first : (m : Member) (ms : Members) → IsDistinct eqb (map (λ m. m.0) ms) → IsOneOf m ms → IsFirst m ms
unfolding IsDistinct
named_first m [] differ is = is
named_first m (y ∷ ms) differ (inl same) = inl same
named_first m (y ∷ ms) differ (inr is) = inr (apart_from y.0 m ms differ.0 is, named_first m ms differ.1 is)

agrees_first : (w : World) (named : Members) → AreNamed w named → Agrees w named zero
agrees_first w named are = record {
  to = λ m is. one_in_order m named is;
  from = λ m is. first_in_order m named (named_first m named are.differ is);
  past_to = λ slot is. let there = one_at slot (in_order named) is in inr (there.0, one_in_order (slot, there.0) named there.1);
  past_from = λ slot is.
      elim is [
        | inl none ↦ absurd none
        | inr named_there ↦
            one_stands (slot, named_there.0) (in_order named)
            (first_in_order (slot, named_there.0) named (named_first (slot, named_there.0) named are.differ named_there.1))
      ];
}

-- who may join a round, by the slot
abbrev can_join : World → Members → ℕ → Bool
can_join w members slot = w.live slot && not (has_slot slot members)

joins_no_member : (lives stands : Bool) → (lives && not stands) ≡ true → stands ≡ true → ⊥
joins_no_member true true joins is = true≢false (sym joins)
joins_no_member false true joins is = true≢false (sym joins)
joins_no_member lives false joins is = true≢false (sym is)

next_to : (w : World) (named : Members) (n : ℕ) (m : Member) → Agrees w named n →
    IsOneOf m (round_after w (all_to w named n) (round_at w named n)) → IsInRound w named (suc n) m
next_to w named n m h is = record {
  lives = and_left (w.live m.0) (not (has_slot m.0 members)) kept.0;
  before = λ old. joins_no_member (w.live m.0) (has_slot m.0 members) kept.0 (h.past_from m.0 (inl old));
  in_it = λ cause now. joins_no_member (w.live m.0) (has_slot m.0 members) kept.0 (h.past_from m.0 (inr (cause, now)));
  first = record {
    by = first.by;
    way = first.way;
    one = h.to first.by first.one;
    drags = first.drags;
    first = λ other also cause one does. first.first other also cause (h.from other one) does;
  };
}
  where
    members : Members
    members = all_to w named n

    dragged : Members
    dragged = flat_map (drags w) (round_at w named n)

    kept : (can_join w members m.0 ≡ true) × IsFirst m dragged
    kept = first_filter (can_join w members) m dragged (in_order_first m (filter (may_join w members) dragged) is)

    first : DraggedFirst w (round_at w named n) m
    first = dragged_first w (round_at w named n) m (round_sorted w named n) kept.1

next_from : (w : World) (named : Members) (n : ℕ) (m : Member) → Agrees w named n → IsInRound w named (suc n) m →
    IsOneOf m (round_after w (all_to w named n) (round_at w named n))
next_from w named n m h is =
    first_in_order m (filter (may_join w members) dragged)
    (first_kept (can_join w members) m dragged (both (w.live m.0) (has_slot m.0 members) is.lives new) first)
  where
    members : Members
    members = all_to w named n

    dragged : Members
    dragged = flat_map (drags w) (round_at w named n)

    new : has_slot m.0 members ≡ false
    new =
        false_from_ne_true (has_slot m.0 members) (λ stands.
        elim (h.past_to m.0 stands) [ inl old ↦ is.before old | inr now ↦ is.in_it now.0 now.1 ])

    first : IsFirst m dragged
    first =
        first_dragged w (round_at w named n) is.first.by m is.first.way (round_sorted w named n) (h.from is.first.by is.first.one)
        is.first.drags (λ other also cause one does. is.first.first other also cause (h.to other one) does)

past_next_to : (w : World) (named : Members) (n slot : ℕ) → Agrees w named n →
    has_slot slot (all_to w named n ++ round_after w (all_to w named n) (round_at w named n)) ≡ true →
    IsBefore w named (suc (suc n)) slot
past_next_to w named n slot h is =
    elim (has_either slot (all_to w named n) (round_after w (all_to w named n) (round_at w named n)) is) [
      | inl old ↦ inl (h.past_to slot old)
      | inr new ↦
          let there = one_at slot (round_after w (all_to w named n) (round_at w named n)) new in
          inr (there.0, next_to w named n (slot, there.0) h there.1)
    ]

past_next_from : (w : World) (named : Members) (n slot : ℕ) → Agrees w named n → IsBefore w named (suc (suc n)) slot →
    has_slot slot (all_to w named n ++ round_after w (all_to w named n) (round_at w named n)) ≡ true
past_next_from w named n slot h (inl old) =
    has_front slot (all_to w named n) (round_after w (all_to w named n) (round_at w named n)) (h.past_from slot old)
past_next_from w named n slot h (inr new) =
    has_back slot (all_to w named n) (round_after w (all_to w named n) (round_at w named n))
    (one_stands (slot, new.0) (round_after w (all_to w named n) (round_at w named n)) (next_from w named n (slot, new.0) h new.1))

pub agrees : (w : World) (named : Members) (n : ℕ) → AreNamed w named → Agrees w named n
agrees w named zero are = agrees_first w named are
agrees w named (suc n) are =
    let h = agrees w named n are in record {
      to = λ m is. next_to w named n m h is;
      from = λ m is. next_from w named n m h is;
      past_to = λ slot is. past_next_to w named n slot h is;
      past_from = λ slot is. past_next_from w named n slot h is;
    }

-- ---- all who hang up

rounds_all : (w : World) (named : Members) (more n total : ℕ) → more + n ≡ total →
    with_rounds w more (all_to w named n) (round_at w named n) ≡ all_to w named total
rounds_all w named zero n total sum = let same : n ≡ total = omega (arith, sum) in ap (λ k. all_to w named k) same
rounds_all w named (suc more) n total sum = rounds_all w named more (suc n) total (omega (arith, sum))

-- all who hang up are those of as many rounds as there are slots
pub members_all : (w : World) (named : Members) → members_of w named ≡ all_to w named w.slots
unfolding members_of
members_all w named = rounds_all w named w.slots zero w.slots (omega arith)

one_round_at : (w : World) (named : Members) (m : Member) (n : ℕ) → IsOneOf m (all_to w named n) →
    (k : ℕ) × ((k ≤ n) × IsOneOf m (round_at w named k))
one_round_at w named m zero is = (zero, (omega arith, is))
one_round_at w named m (suc n) is =
    elim (one_parts m (all_to w named n) (round_at w named (suc n)) is) [
      | inl old ↦ let there = one_round_at w named m n old in (there.0, (omega (arith, there.1.0), there.1.1))
      | inr new ↦ (suc n, (omega arith, new))
    ]

-- who is one of the rounds up to one is in one of these
pub in_round_to : (w : World) (named : Members) (n : ℕ) (m : Member) → AreNamed w named → IsOneOf m (all_to w named n) →
    (k : ℕ) × ((k ≤ n) × IsInRound w named k m)
in_round_to w named n m are is =
    let there = one_round_at w named m n is in
    (there.0, (there.1.0, (agrees w named there.0 are).to m there.1.1))

pub each_is_in_a_round : EachIsInARound
each_is_in_a_round w named m are is =
    let there = in_round_to w named w.slots m are (subst (λ all. IsOneOf m all) (members_all w named) is) in
    (there.0, there.1.1)

-- ---- one round of one cause

is_before : (w : World) (named : Members) (slot n k : ℕ) (cause : Cause) → IsInRound w named n (slot, cause) → n < k →
    IsBefore w named k slot
is_before w named slot n zero cause is less = absurd (omega (arith, less))
is_before w named slot n (suc k) cause is less =
    let up_to : n ≤ k = omega (arith, less) in
    elim (eq-or-lt_of_le up_to) [
      | inl same ↦ inr (cause, subst (λ i. IsInRound w named i (slot, cause)) same is)
      | inr below ↦ inl (is_before w named slot n k cause is below)
    ]

not_twice : (w : World) (named : Members) (slot n k : ℕ) (cause its : Cause) → IsInRound w named n (slot, cause) →
    IsInRound w named k (slot, its) → n < k → ⊥
not_twice w named slot n zero cause its is later less = absurd (omega (arith, less))
not_twice w named slot n (suc k) cause its is later less =
    elim (is_before w named slot n (suc k) cause is less) [ inl old ↦ later.before old | inr now ↦ later.in_it now.0 now.1 ]

pub same_round : (w : World) (named : Members) (slot n k : ℕ) (cause its : Cause) → IsInRound w named n (slot, cause) →
    IsInRound w named k (slot, its) → n ≡ k
same_round w named slot n k cause its is other =
    elim (leb_tells n k) [
      | inl up_to ↦ elim (eq-or-lt_of_le up_to.1) [
        | inl same ↦ same
        | inr less ↦ absurd (not_twice w named slot n k cause its is other less)
      ]
      | inr more ↦ absurd (not_twice w named slot k n its cause other is more.1)
    ]

pub one_round_and_cause : OneRoundAndCause
one_round_and_cause w named slot n other cause its are is too = (same, ap (λ m. m.1) pair)
  where
    member : Cause → Member
    member c = (slot, c)

    same : n ≡ other
    same = same_round w named slot n other cause its is too

    here : IsInRound w named n (slot, its)
    here = subst (λ k. IsInRound w named k (slot, its)) (sym same) too

    listed : (m : Member) → IsInRound w named n m → IsOneOf m (round_at w named n)
    listed m one = (agrees w named n are).from m one

    pair : member cause ≡ member its
    pair =
        sorted_same (round_at w named n) (slot, cause) (slot, its) (round_sorted w named n) (listed (slot, cause) is)
        (listed (slot, its) here) refl

-- ---- whoever is in a round hangs up

first_in_all : (w : World) (named : Members) (n : ℕ) (m : Member) → IsOneOf m (in_order named) → IsOneOf m (all_to w named n)
first_in_all w named zero m is = is
first_in_all w named (suc n) m is = one_front m (all_to w named n) (round_at w named (suc n)) (first_in_all w named n m is)

-- who is in a slot of one that is in a round is that one
its_cause : (w : World) (named : Members) (n : ℕ) (m : Member) → AreNamed w named → IsInRound w named n m →
    has_slot m.0 (members_of w named) ≡ true → IsOneOf m (members_of w named)
its_cause w named n m are is stands =
    let there = one_at m.0 (members_of w named) stands in
    let round = each_is_in_a_round w named (m.0, there.0) are there.1 in
    let same = one_round_and_cause w named m.0 round.0 n there.0 m.1 are round.1 is in
    subst (λ c. IsOneOf (m.0, c) (members_of w named)) same.1 there.1

pub each_of_a_round_hangs_up : EachOfARoundHangsUp
each_of_a_round_hangs_up w named zero m lines are is =
    subst (λ all. IsOneOf m all) (sym (members_all w named))
    (first_in_all w named w.slots m (first_in_order m named (named_first m named are.differ is)))
each_of_a_round_hangs_up w named (suc n) m lines are is =
    its_cause w named (suc n) m are is
    (each_dragged_hangs_up w named m lines are
    (record {
      by = is.first.by;
      member = each_of_a_round_hangs_up w named n is.first.by lines are is.first.one;
      dragged = drags_to w is.first.way is.first.by m is.first.drags;
    })
    is.lives)
