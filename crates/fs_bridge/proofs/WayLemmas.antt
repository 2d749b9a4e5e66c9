-- In which ways a member drags a channel, and in which first.
use Rattle.std.proofs.Common.{◌≡◌, ℕ, ◌<◌, ◌≤◌, false, List, [], ◌∷◌, ◌++◌, map, flat_map, Option, None, Some}
use Rattle.std.proofs.Common.{option_to_list, inl, inr, refl, ap, sym, subst, ◌∙◌, arith}
use Rattle.std.specs.Prelude.{option_map, option_and_then}
use Rattle.std.proofs.lemmas.Bool.{true≢false}
use Rattle.std.proofs.lemmas.Option.{none-some, same_Some}
use Rattle.fs_text.specs.declared.causes.Cause.{Cause}
use Rattle.fs_text.specs.declared.causes.Cause.TheVariants.{OriginatorCancel}
use Rattle.fs_vars.specs.Variables.{Variables}
use Rattle.fs_bridge.specs.declared.row.Row.{Row}
use Rattle.fs_bridge.specs.declared.after.After.{After}
use Rattle.fs_bridge.specs.declared.after.After.TheVariants.{GoOn, Hangup, Park}
use Rattle.fs_bridge.specs.After.{after_bridge}
use Rattle.fs_bridge.specs.Worlds.{World}
use Rattle.fs_bridge.specs.Orders.{has_slot}
use Rattle.fs_bridge.specs.Closure.{Member, Members, by_partner, by_origination, by_peer, drags, cancelled, peer_in, left_in, left_by, hung}
use Rattle.fs_bridge.specs.Hangups.{IsOneOf}
use Rattle.fs_bridge.specs.Rounds.{Way, rank, IsLeft, DragsBy, IsNoLater, IsDraggedFirst}
use Rattle.fs_bridge.specs.Rounds.Way.{Partner, Origination, Peer}
use Rattle.fs_bridge.proofs.DragLemmas.{one_parts, one_front, one_back}
use Rattle.fs_bridge.proofs.SettledLemmas.{one_stands}
use Rattle.fs_bridge.proofs.FirstLemmas.{none_at, IsFirst, first_one, only_first, first_front, first_back, first_parts, IsSorted}

-- ---- the lists of a member's ways

partner_case : (by m : Member) (o : Option ℕ) → IsOneOf m (option_to_list (option_map (λ slot. (slot, by.1)) o)) →
    (o ≡ Some m.0) × (m.1 ≡ by.1)
partner_case by m None is = absurd is
partner_case by m (Some slot) (inl same) = (ap (λ n. Some n) (sym (ap (λ x. x.0) same)), ap (λ x. x.1) same)
partner_case by m (Some slot) (inr is) = absurd is

case_partner : (by m : Member) (o : Option ℕ) → o ≡ Some m.0 → m.1 ≡ by.1 →
    IsOneOf m (option_to_list (option_map (λ slot. (slot, by.1)) o))
case_partner by m None is cause = absurd (none-some m.0 is)
case_partner by m (Some slot) is cause =
    inl (ap (λ c. (m.0, c)) cause ∙ ap (λ s. (s, by.1)) (sym (same_Some slot m.0 is)))

leg_case : (m : Member) (legs : List ℕ) → IsOneOf m (map cancelled legs) → IsOneOf m.0 legs × (m.1 ≡ OriginatorCancel)
leg_case m [] is = absurd is
leg_case m (leg ∷ legs) (inl same) = (inl (ap (λ x. x.0) same), ap (λ x. x.1) same)
leg_case m (leg ∷ legs) (inr is) = let more = leg_case m legs is in (inr more.0, more.1)

case_leg : (m : Member) (legs : List ℕ) → IsOneOf m.0 legs → m.1 ≡ OriginatorCancel → IsOneOf m (map cancelled legs)
case_leg m [] is cause = is
case_leg m (leg ∷ legs) (inl same) cause = inl (ap (λ s. (s, m.1)) same ∙ ap (λ c. (leg, c)) cause)
case_leg m (leg ∷ legs) (inr is) cause = inr (case_leg m legs is cause)

left_vars : (w : World) (by : Member) (row : Row) (s : ℕ × After) (o : Option Variables) → w.row by.0 ≡ Some row →
    w.vars (peer_in row by.0) ≡ o →
    option_map (λ vars. (peer_in row by.0, after_bridge row (peer_in row by.0) vars by.1)) o ≡ Some s → IsLeft w by s.0 s.1
left_vars w by row s None bridge own told = absurd (none-some s told)
left_vars w by row s (Some vars) bridge own told =
    let same = same_Some (peer_in row by.0, after_bridge row (peer_in row by.0) vars by.1) s told in
    let at : peer_in row by.0 ≡ s.0 = ap (λ x. x.0) same in record {
      row = row;
      vars = vars;
      bridge = bridge;
      peer = sym at;
      own = ap (λ slot. w.vars slot) (sym at) ∙ own;
      does = ap (λ slot. after_bridge row slot vars by.1) (sym at) ∙ ap (λ x. x.1) same;
    }

left_row : (w : World) (by : Member) (s : ℕ × After) (o : Option Row) → w.row by.0 ≡ o → option_and_then (left_in w by) o ≡ Some s →
    IsLeft w by s.0 s.1
left_row w by s None bridge told = absurd (none-some s told)
left_row w by s (Some row) bridge told = left_vars w by row s (w.vars (peer_in row by.0)) bridge refl told

pub left_from : (w : World) (by : Member) (s : ℕ × After) → left_by w by ≡ Some s → IsLeft w by s.0 s.1
left_from w by s told = left_row w by s (w.row by.0) refl told

pub left_to : (w : World) (by : Member) (slot : ℕ) (after : After) → IsLeft w by slot after → left_by w by ≡ Some (slot, after)
left_to w by slot after is =
    ap (λ o. option_and_then (left_in w by) o) is.bridge
    ∙ ap (λ s. option_map (λ vars. (s, after_bridge is.row s vars by.1)) (w.vars s)) (sym is.peer)
    ∙ ap (λ o. option_map (λ vars. (slot, after_bridge is.row slot vars by.1)) o) is.own
    ∙ ap (λ a. Some (slot, a)) is.does

hung_case : (w : World) (by m : Member) (slot : ℕ) (after : After) → IsLeft w by slot after →
    IsOneOf m (option_to_list (hung (slot, after))) → IsLeft w by m.0 (Hangup m.1)
hung_case w by m slot GoOn left is = absurd is
hung_case w by m slot Park left is = absurd is
hung_case w by m slot (Hangup cause) left (inl same) = subst (λ x. IsLeft w by x.0 (Hangup x.1)) (sym same) left
hung_case w by m slot (Hangup cause) left (inr is) = absurd is

peer_case : (w : World) (by m : Member) (o : Option (ℕ × After)) → left_by w by ≡ o →
    IsOneOf m (option_to_list (option_and_then hung o)) → IsLeft w by m.0 (Hangup m.1)
peer_case w by m None told is = absurd is
peer_case w by m (Some s) told is = hung_case w by m s.0 s.1 (left_from w by s told) is

case_peer : (w : World) (by m : Member) → IsLeft w by m.0 (Hangup m.1) → IsOneOf m (by_peer w by)
case_peer w by m is =
    subst (λ o. IsOneOf m (option_to_list (option_and_then hung o))) (sym (left_to w by m.0 (Hangup m.1) is)) (inl refl)

-- ---- a way of a member

abbrev pub in_way : World → Way → Member → Members
in_way w Partner by = by_partner w by
in_way w Origination by = by_origination w by
in_way w Peer by = by_peer w by

pub way_from : (w : World) (way : Way) (by m : Member) → IsOneOf m (in_way w way by) → DragsBy w way by m
way_from w Partner by m is = partner_case by m (w.partner by.0) is
way_from w Origination by m is = leg_case m (w.legs by.0) is
way_from w Peer by m is = peer_case w by m (left_by w by) refl is

pub way_to : (w : World) (way : Way) (by m : Member) → DragsBy w way by m → IsOneOf m (in_way w way by)
way_to w Partner by m is = case_partner by m (w.partner by.0) is.0 is.1
way_to w Origination by m is = case_leg m (w.legs by.0) is.0 is.1
way_to w Peer by m is = case_peer w by m is

option_first : (m : Member) (o : Option Member) → IsOneOf m (option_to_list o) → IsFirst m (option_to_list o)
option_first m None is = is
option_first m (Some x) (inl same) = inl same
option_first m (Some x) (inr is) = absurd is

leg_same : (m other : Member) → m.1 ≡ OriginatorCancel → other.1 ≡ OriginatorCancel → other.0 ≡ m.0 → m ≡ other
leg_same m other cause its same = ap (λ c. (m.0, c)) (cause ∙ sym its) ∙ ap (λ s. (s, other.1)) (sym same)

way_first : (w : World) (way : Way) (by m : Member) → IsOneOf m (in_way w way by) → IsFirst m (in_way w way by)
way_first w Partner by m is = option_first m (option_map (λ slot. (slot, by.1)) (w.partner by.0)) is
way_first w Origination by m is =
    only_first m (by_origination w by) is
    (λ other too same. leg_same m other (leg_case m (w.legs by.0) is).1 (leg_case other (w.legs by.0) too).1 same)
way_first w Peer by m is = option_first m (option_and_then hung (left_by w by)) is

no_way : (w : World) (way : Way) (by : Member) (slot : ℕ) (cause : Cause) → has_slot slot (in_way w way by) ≡ false →
    DragsBy w way by (slot, cause) → ⊥
no_way w way by slot cause none is =
    true≢false (sym (one_stands (slot, cause) (in_way w way by) (way_to w way by (slot, cause) is)) ∙ none)

-- ---- all ways of a member

pub drags_to : (w : World) (way : Way) (by m : Member) → DragsBy w way by m → IsOneOf m (drags w by)
drags_to w Partner by m is = one_front m (by_partner w by) (by_origination w by ++ by_peer w by) (way_to w Partner by m is)
drags_to w Origination by m is =
    one_back m (by_partner w by) (by_origination w by ++ by_peer w by)
    (one_front m (by_origination w by) (by_peer w by) (way_to w Origination by m is))
drags_to w Peer by m is =
    one_back m (by_partner w by) (by_origination w by ++ by_peer w by)
    (one_back m (by_origination w by) (by_peer w by) (way_to w Peer by m is))

pub drags_from : (w : World) (by m : Member) → IsOneOf m (drags w by) → (way : Way) × DragsBy w way by m
drags_from w by m is =
    elim (one_parts m (by_partner w by) (by_origination w by ++ by_peer w by) is) [
      | inl partner ↦ (Partner, way_from w Partner by m partner)
      | inr other ↦ elim (one_parts m (by_origination w by) (by_peer w by) other) [
        | inl leg ↦ (Origination, way_from w Origination by m leg)
        | inr peer ↦ (Peer, way_from w Peer by m peer)
      ]
    ]

-- one member drags it, and in no earlier way
record DragsFirst (w : World) (by m : Member) : Type 0 where
  pub way : Way
  pub drags : DragsBy w way by m
  pub first : (also : Way) (cause : Cause) → DragsBy w also by (m.0, cause) → rank way ≤ rank also

behind_partner : (w : World) (by : Member) (slot : ℕ) (cause : Cause) (also : Way) → has_slot slot (by_partner w by) ≡ false →
    DragsBy w also by (slot, cause) → 1 ≤ rank also
behind_partner w by slot cause Partner none is = absurd (no_way w Partner by slot cause none is)
behind_partner w by slot cause Origination none is = omega arith
behind_partner w by slot cause Peer none is = omega arith

behind_both : (w : World) (by : Member) (slot : ℕ) (cause : Cause) (also : Way) → has_slot slot (by_partner w by) ≡ false →
    has_slot slot (by_origination w by) ≡ false → DragsBy w also by (slot, cause) → 2 ≤ rank also
behind_both w by slot cause Partner none no_leg is = absurd (no_way w Partner by slot cause none is)
behind_both w by slot cause Origination none no_leg is = absurd (no_way w Origination by slot cause no_leg is)
behind_both w by slot cause Peer none no_leg is = omega arith

first_from : (w : World) (by m : Member) → IsFirst m (drags w by) → DragsFirst w by m
first_from w by m is =
    elim (first_parts m (by_partner w by) (by_origination w by ++ by_peer w by) is) [
      | inl partner ↦ record {
        way = Partner;
        drags = way_from w Partner by m (first_one m (by_partner w by) partner);
        first = λ also cause too. omega arith;
      }
      | inr other ↦ elim (first_parts m (by_origination w by) (by_peer w by) other.1) [
        | inl leg ↦ record {
          way = Origination;
          drags = way_from w Origination by m (first_one m (by_origination w by) leg);
          first = λ also cause too. behind_partner w by m.0 cause also other.0 too;
        }
        | inr peer ↦ record {
          way = Peer;
          drags = way_from w Peer by m (first_one m (by_peer w by) peer.1);
          first = λ also cause too. behind_both w by m.0 cause also other.0 peer.0 too;
        }
      ]
    ]

first_to : (w : World) (way : Way) (by m : Member) → DragsBy w way by m →
    ((also : Way) (cause : Cause) → DragsBy w also by (m.0, cause) → rank way ≤ rank also) → IsFirst m (drags w by)
first_to w Partner by m is first =
    first_front m (by_partner w by) (by_origination w by ++ by_peer w by) (way_first w Partner by m (way_to w Partner by m is))
first_to w Origination by m is first =
    first_back m (by_partner w by) (by_origination w by ++ by_peer w by)
    (none_at m.0 (by_partner w by)
    (λ cause too. let less = first Partner cause (way_from w Partner by (m.0, cause) too) in absurd (omega (arith, less))))
    (first_front m (by_origination w by) (by_peer w by) (way_first w Origination by m (way_to w Origination by m is)))
first_to w Peer by m is first =
    first_back m (by_partner w by) (by_origination w by ++ by_peer w by)
    (none_at m.0 (by_partner w by)
    (λ cause too. let less = first Partner cause (way_from w Partner by (m.0, cause) too) in absurd (omega (arith, less))))
    (first_back m (by_origination w by) (by_peer w by)
    (none_at m.0 (by_origination w by)
    (λ cause too. let less = first Origination cause (way_from w Origination by (m.0, cause) too) in absurd (omega (arith, less))))
    (way_first w Peer by m (way_to w Peer by m is)))

-- ---- all of a round

pub not_later : (a b c d : ℕ) → IsNoLater a b c d → c < a → ⊥
not_later a b c d (inl less) more = absurd (omega (arith, less, more))
not_later a b c d (inr same) more = let first = same.0 in absurd (omega (arith, first, more))

pub second_no_later : (a b c d : ℕ) → IsNoLater a b c d → a ≡ c → b ≤ d
second_no_later a b c d (inl less) same = absurd (omega (arith, less, same))
second_no_later a b c d (inr both) same = both.1

-- one of a list drags it first
abbrev pub DraggedFirst : World → Members → Member → Type 0
DraggedFirst w round m = IsDraggedFirst w (λ by. IsOneOf by round) m

head_later : (w : World) (h m other : Member) (rest : Members) (also : Way) (cause : Cause) (d : DragsFirst w h m) →
    IsSorted (h ∷ rest) → IsOneOf other (h ∷ rest) → DragsBy w also other (m.0, cause) →
    IsNoLater h.0 (rank d.way) other.0 (rank also)
head_later w h m other rest also cause d sorted (inl same) does =
    inr (ap (λ x. x.0) (sym same), d.first also cause (subst (λ who. DragsBy w also who (m.0, cause)) same does))
head_later w h m other rest also cause d sorted (inr is) does = inl (sorted.0 other is)

rest_later : (w : World) (h m other : Member) (rest : Members) (also : Way) (cause : Cause) (d : DraggedFirst w rest m) →
    has_slot m.0 (drags w h) ≡ false → IsOneOf other (h ∷ rest) → DragsBy w also other (m.0, cause) →
    IsNoLater d.by.0 (rank d.way) other.0 (rank also)
rest_later w h m other rest also cause d none (inl same) does =
    absurd
    (true≢false
    (sym (one_stands (m.0, cause) (drags w h)
    (drags_to w also h (m.0, cause) (subst (λ who. DragsBy w also who (m.0, cause)) same does))) ∙ none))
rest_later w h m other rest also cause d none (inr is) does = d.first other also cause is does

pub dragged_first : (w : World) (round : Members) (m : Member) → IsSorted round → IsFirst m (flat_map (drags w) round) →
    DraggedFirst w round m
dragged_first w [] m sorted is = absurd is
dragged_first w (h ∷ rest) m sorted is =
    elim (first_parts m (drags w h) (flat_map (drags w) rest) is) [
      | inl here ↦
          let d = first_from w h m here in record {
            by = h;
            way = d.way;
            one = inl refl;
            drags = d.drags;
            first = λ other also cause one does. head_later w h m other rest also cause d sorted one does;
          }
      | inr there ↦
          let d = dragged_first w rest m sorted.1 there.1 in record {
            by = d.by;
            way = d.way;
            one = inr d.one;
            drags = d.drags;
            first = λ other also cause one does. rest_later w h m other rest also cause d there.0 one does;
          }
    ]

-- no other of the round drags it before
abbrev NoneBefore : World → Members → Member → Way → Member → Type 0
NoneBefore w round by way m =
    (other : Member) (also : Way) (cause : Cause) → IsOneOf other round → DragsBy w also other (m.0, cause) →
    IsNoLater by.0 (rank way) other.0 (rank also)

pub first_dragged : (w : World) (round : Members) (by m : Member) (way : Way) → IsSorted round → IsOneOf by round → DragsBy w way by m →
    NoneBefore w round by way m → IsFirst m (flat_map (drags w) round)
first_dragged w [] by m way sorted one does first = absurd one
first_dragged w (h ∷ rest) by m way sorted (inl same) does first =
    first_front m (drags w h) (flat_map (drags w) rest)
    (first_to w way h m (subst (λ who. DragsBy w way who m) same does)
    (λ also cause too. second_no_later by.0 (rank way) h.0 (rank also) (first h also cause (inl refl) too) (ap (λ x. x.0) same)))
first_dragged w (h ∷ rest) by m way sorted (inr one) does first =
    first_back m (drags w h) (flat_map (drags w) rest)
    (none_at m.0 (drags w h)
    (λ cause is.
    let also = drags_from w h (m.0, cause) is in
    not_later by.0 (rank way) h.0 (rank also.0) (first h also.0 cause (inl refl) also.1) (sorted.0 by one)))
    (first_dragged w rest by m way sorted.1 one does (λ other also cause is. first other also cause (inr is)))
