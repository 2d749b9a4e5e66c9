-- Rounds of a hangup, one member after another.
use Rattle.std.proofs.Common.{◌≡◌, ℕ, zero, suc, ◌+◌, ◌-◌, ◌<◌, ◌≤◌}
use Rattle.std.proofs.Common.{List, [], ◌∷◌, ◌++◌, length, take, get_or, filter, filter_map}
use Rattle.std.proofs.Common.{fold, flat_map, Option, None, Some, option_to_list, refl, ap, sym, ◌∙◌, arith}
use Rattle.std.specs.List.{cons_option}
use Rattle.std.proofs.lemmas.List.{take_more, append-nil}
use Rattle.std.proofs.lemmas.List.Sums.{fold-append}
use Rattle.std.proofs.lemmas.List.Elements.{filter-append, filter_map-append}
use Rattle.std.proofs.lemmas.Grind.{flat_map-append}
use Rattle.std.proofs.Math.Nat.{suc-ne-zero}
use Rattle.fs_bridge.specs.Worlds.{World}
use Rattle.fs_bridge.specs.Orders.{placed, in_order}
use Rattle.fs_bridge.specs.Closure.{Member, Members, drags, may_join, round_after, with_rounds}

-- ---- a round

pub option_alone : {X : Type 0} (o : Option X) → cons_option o [] ≡ option_to_list o
option_alone None = refl
option_alone (Some x) = refl

-- one more survivor, if there is one
pub survivor_next : {X T : Type 0} (h : X → Option (ℕ × T)) (xs : List X) (i : ℕ) (d : X) (before : List (ℕ × T)) (o : Option (ℕ × T)) →
    i < length xs → before ≡ in_order (filter_map h (take i xs)) → o ≡ h (get_or xs i d) →
    fold placed before (option_to_list o) ≡ in_order (filter_map h (take (i + 1) xs))
survivor_next h xs i d before o within so_far is =
    ap (λ all. fold placed all (option_to_list o)) so_far
    ∙ ap (λ one. fold placed (in_order (filter_map h (take i xs))) (option_to_list one)) is
    ∙ ap (λ last. fold placed (in_order (filter_map h (take i xs))) last) (sym (option_alone (h (get_or xs i d))))
    ∙ sym (fold-append placed [] (filter_map h (take i xs)) (cons_option (h (get_or xs i d)) []))
    ∙ ap (λ all. in_order all) (sym (filter_map-append h (take i xs) (get_or xs i d ∷ [])))
    ∙ ap (λ front. in_order (filter_map h front)) (sym (take_more xs i d within))

-- with those whom one more member drags
pub round_next : (w : World) (members round : Members) (i : ℕ) (d : Member) → i < length round →
    round_after w members (take (i + 1) round)
    ≡ fold placed (round_after w members (take i round)) (filter (may_join w members) (drags w (get_or round i d)))
round_next w members round i d within =
    ap (λ front. round_after w members front) (take_more round i d within)
    ∙ ap (λ all. in_order (filter (may_join w members) all)) (flat_map-append (drags w) (take i round) (get_or round i d ∷ []))
    ∙ ap (λ last. in_order (filter (may_join w members) (flat_map (drags w) (take i round) ++ last)))
    (append-nil (drags w (get_or round i d)))
    ∙ ap (λ all. in_order all) (filter-append (may_join w members) (flat_map (drags w) (take i round)) (drags w (get_or round i d)))
    ∙ fold-append placed [] (filter (may_join w members) (flat_map (drags w) (take i round)))
    (filter (may_join w members) (drags w (get_or round i d)))

-- ---- the rounds

-- behind a round in which there is nobody comes nobody
pub none_more : (w : World) (more : ℕ) (members : Members) → with_rounds w more members [] ≡ members
none_more w zero members = refl
none_more w (suc more) members = ap (λ all. with_rounds w more all []) (append-nil members) ∙ none_more w more members

pub none_left : (w : World) (more : ℕ) (members round : Members) → length round ≡ 0 → with_rounds w more members round ≡ members
none_left w more members [] empty = none_more w more members
none_left w more members (m ∷ round) empty = absurd (suc-ne-zero (length round) empty)

-- one more round
pub rounds_next : (w : World) (done : ℕ) (members round : Members) → done < w.slots →
    with_rounds w (w.slots - done) members round
    ≡ with_rounds w (w.slots - (done + 1)) (members ++ round_after w members round) (round_after w members round)
rounds_next w done members round within =
    let left : w.slots - done ≡ suc (w.slots - (done + 1)) = omega arith in
    ap (λ more. with_rounds w more members round) left

-- no round is left
pub rounds_done : (w : World) (done : ℕ) (members round : Members) → w.slots ≤ done →
    with_rounds w (w.slots - done) members round ≡ members
rounds_done w done members round past =
    let left : w.slots - done ≡ 0 = omega arith in
    ap (λ more. with_rounds w more members round) left

pub ruleset round_rules = (rounds_next, rounds_done)
