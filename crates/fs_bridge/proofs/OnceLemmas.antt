-- Nobody hangs up twice.
use Rattle.std.proofs.Common.{◌≡◌, ℕ, zero, suc, ◌+◌, ◌≤◌, Bool, true, false, ◌||◌, ◌&&◌, not, cond, List, [], ◌∷◌, ◌++◌}
use Rattle.std.proofs.Common.{take, drop, fold, filter, flat_map, refl, ap, sym, ◌∙◌, arith}
use Rattle.std.specs.Prelude.{nat_lt, ◌==◌, insert}
use Rattle.std.specs.List.{count_by}
use Rattle.std.proofs.lemmas.List.{take-append-drop}
use Rattle.std.proofs.lemmas.List.Folds.{list_any-append}
use Rattle.std.proofs.lemmas.List.Sums.{sum_by-append}
use Rattle.std.proofs.lemmas.Bool.{eqb-true, true≢false}
use Rattle.fs_bridge.specs.Worlds.{World}
use Rattle.fs_bridge.specs.Orders.{has_slot, placed, in_order}
use Rattle.fs_bridge.specs.Closure.{Member, Members, drags, may_join, round_after, with_rounds, members_of}
use Rattle.fs_bridge.specs.Hangups.{NobodyTwice}

pub none_behind : (b : Bool) → b ≡ (b || false)
none_behind true = refl
none_behind false = refl

none_and : (b : Bool) → (b && false) ≡ false
none_and true = refl
none_and false = refl

stays : (lives stands : Bool) → stands ≡ true → (lives && not stands) ≡ false
stays lives true is = none_and lives
stays lives false is = absurd (true≢false (sym is))

-- how many of these are told of the slot
abbrev pub count_in : {T : Type 0} → ℕ → List (ℕ × T) → ℕ
count_in slot things = count_by (λ thing. thing.0 == slot) things

pub count_cons : {T : Type 0} (slot : ℕ) (thing : ℕ × T) (things : List (ℕ × T)) →
    count_in slot (thing ∷ things) ≡ cond (thing.0 == slot) 1 0 + count_in slot things
count_cons {T} slot thing things =
    let parts = sum_by-append (λ (t : ℕ × T). cond (t.0 == slot) 1 0) (thing ∷ []) things in
    omega (arith, parts)

none_step : (here there : Bool) (n m : ℕ) → m ≡ cond here 1 0 + n → (there ≡ false → n ≡ 0) → (here || there) ≡ false → m ≡ 0
none_step true there n m count none is = absurd (true≢false is)
none_step false there n m count none is = let zero_there = none is in omega (arith, count, zero_there)

pub none_in : {T : Type 0} (slot : ℕ) (things : List (ℕ × T)) → has_slot slot things ≡ false → count_in slot things ≡ 0
none_in slot [] is = refl
none_in slot (thing ∷ things) is =
    none_step (thing.0 == slot) (has_slot slot things) (count_in slot things) (count_in slot (thing ∷ things))
    (count_cons slot thing things) (none_in slot things) is

-- what is put in counts once
count_insert : {T : Type 0} (slot : ℕ) (things : List (ℕ × T)) (i : ℕ) (thing : ℕ × T) →
    count_in slot (insert things i thing) ≡ cond (thing.0 == slot) 1 0 + count_in slot things
count_insert {T} slot things i thing =
    let parts = sum_by-append (λ (t : ℕ × T). cond (t.0 == slot) 1 0) (take i things) (thing ∷ drop i things) in
    let one = count_cons slot thing (drop i things) in
    let whole = sum_by-append (λ (t : ℕ × T). cond (t.0 == slot) 1 0) (take i things) (drop i things) in
    let same = ap (λ all. count_in slot all) (take-append-drop i things) in
    omega (arith, parts, one, whole, same)

middle : (a b c : Bool) → (a || (b || c)) ≡ (b || (a || c))
middle true true c = refl
middle true false c = refl
middle false b c = refl

any_insert : {T : Type 0} (slot : ℕ) (things : List (ℕ × T)) (i : ℕ) (thing : ℕ × T) →
    has_slot slot (insert things i thing) ≡ (thing.0 == slot || has_slot slot things)
any_insert {T} slot things i thing =
    list_any-append (λ (t : ℕ × T). t.0 == slot) (take i things) (thing ∷ drop i things)
    ∙ middle (has_slot slot (take i things)) (thing.0 == slot) (has_slot slot (drop i things))
    ∙ ap (λ there. thing.0 == slot || there)
    (sym (list_any-append (λ (t : ℕ × T). t.0 == slot) (take i things) (drop i things))
    ∙ ap (λ all. has_slot slot all) (take-append-drop i things))

-- ---- one more at its place

once_here : {T : Type 0} (slot : ℕ) (things : List (ℕ × T)) (thing : ℕ × T) (here : Bool) → (thing.0 == slot) ≡ here →
    has_slot thing.0 things ≡ false → count_in slot things ≤ 1 → cond here 1 0 + count_in slot things ≤ 1
once_here slot things thing true is free once =
    let none = none_in slot things (ap (λ s. has_slot s things) (sym (eqb-true thing.0 slot is)) ∙ free) in
    omega (arith, none)
once_here slot things thing false is free once = omega (arith, once)

once_case : {T : Type 0} (slot : ℕ) (things : List (ℕ × T)) (thing : ℕ × T) (i : ℕ) (stands : Bool) → has_slot thing.0 things ≡ stands →
    count_in slot things ≤ 1 → count_in slot (cond stands things (insert things i thing)) ≤ 1
once_case slot things thing i true is once = once
once_case slot things thing i false is once =
    let put = count_insert slot things i thing in
    let here = once_here slot things thing (thing.0 == slot) refl is once in
    omega (arith, put, here)

pub placed_once : {T : Type 0} (slot : ℕ) (things : List (ℕ × T)) (thing : ℕ × T) → count_in slot things ≤ 1 →
    count_in slot (placed things thing) ≤ 1
unfolding placed
placed_once slot things thing once =
    once_case slot things thing (count_by (λ other. nat_lt other.0 thing.0) things) (has_slot thing.0 things) refl once

pub order_once : {T : Type 0} (slot : ℕ) (before things : List (ℕ × T)) → count_in slot before ≤ 1 →
    count_in slot (fold placed before things) ≤ 1
order_once slot before [] once = once
order_once slot before (thing ∷ things) once = order_once slot (placed before thing) things (placed_once slot before thing once)

same_here : {T : Type 0} (slot : ℕ) (things : List (ℕ × T)) (thing : ℕ × T) (here : Bool) → (thing.0 == slot) ≡ here →
    has_slot thing.0 things ≡ true → has_slot slot things ≡ (here || has_slot slot things)
same_here slot things thing true is stands = ap (λ s. has_slot s things) (sym (eqb-true thing.0 slot is)) ∙ stands
same_here slot things thing false is stands = refl

has_case : {T : Type 0} (slot : ℕ) (things : List (ℕ × T)) (thing : ℕ × T) (i : ℕ) (stands : Bool) → has_slot thing.0 things ≡ stands →
    has_slot slot (cond stands things (insert things i thing)) ≡ (thing.0 == slot || has_slot slot things)
has_case slot things thing i true is = same_here slot things thing (thing.0 == slot) refl is
has_case slot things thing i false is = any_insert slot things i thing

pub has_placed : {T : Type 0} (slot : ℕ) (things : List (ℕ × T)) (thing : ℕ × T) →
    has_slot slot (placed things thing) ≡ (thing.0 == slot || has_slot slot things)
unfolding placed
has_placed slot things thing =
    has_case slot things thing (count_by (λ other. nat_lt other.0 thing.0) things) (has_slot thing.0 things) refl

shift : (a b c : Bool) → ((b || a) || c) ≡ (a || (b || c))
shift true true c = refl
shift true false c = refl
shift false true c = refl
shift false false c = refl

-- in order are told of the same slots
pub has_order : {T : Type 0} (slot : ℕ) (before things : List (ℕ × T)) →
    has_slot slot (fold placed before things) ≡ (has_slot slot before || has_slot slot things)
has_order slot before [] = none_behind (has_slot slot before)
has_order slot before (thing ∷ things) =
    has_order slot (placed before thing) things
    ∙ ap (λ front. front || has_slot slot things) (has_placed slot before thing)
    ∙ shift (has_slot slot before) (thing.0 == slot) (has_slot slot things)

-- ---- a round

apart_here : (w : World) (slot : ℕ) (members : Members) (m : Member) (here : Bool) → (m.0 == slot) ≡ here →
    has_slot slot members ≡ true → may_join w members m ≡ true → here ≡ false
apart_here w slot members m false is stands joins = refl
apart_here w slot members m true is stands joins =
    absurd (true≢false
    (sym joins ∙ stays (w.live m.0) (has_slot m.0 members) (ap (λ s. has_slot s members) (eqb-true m.0 slot is) ∙ stands)))

apart_case : (w : World) (slot : ℕ) (members : Members) (m : Member) (left : Members) (joins : Bool) → may_join w members m ≡ joins →
    has_slot slot members ≡ true → has_slot slot left ≡ false → has_slot slot (cond joins (m ∷ left) left) ≡ false
apart_case w slot members m left false is stands rest = rest
apart_case w slot members m left true is stands rest =
    ap (λ here. here || has_slot slot left) (apart_here w slot members m (m.0 == slot) refl stands is) ∙ rest

joined_apart : (w : World) (slot : ℕ) (members dragged : Members) → has_slot slot members ≡ true →
    has_slot slot (filter (may_join w members) dragged) ≡ false
joined_apart w slot members [] stands = refl
joined_apart w slot members (m ∷ dragged) stands =
    apart_case w slot members m (filter (may_join w members) dragged) (may_join w members m) refl stands
    (joined_apart w slot members dragged stands)

-- who is a member joins no round
pub round_apart : (w : World) (slot : ℕ) (members round : Members) → has_slot slot members ≡ true →
    has_slot slot (round_after w members round) ≡ false
round_apart w slot members round stands =
    has_order slot [] (filter (may_join w members) (flat_map (drags w) round))
    ∙ joined_apart w slot members (flat_map (drags w) round) stands

pub more_once : (w : World) (slot : ℕ) (members round : Members) (stands : Bool) → has_slot slot members ≡ stands →
    count_in slot members ≤ 1 → count_in slot (members ++ round_after w members round) ≤ 1
more_once w slot members round true is once =
    let none = none_in slot (round_after w members round) (round_apart w slot members round is) in
    let both = sum_by-append (λ (m : Member). cond (m.0 == slot) 1 0) members (round_after w members round) in
    omega (arith, none, both)
more_once w slot members round false is once =
    let none = none_in slot members is in
    let next = order_once slot [] (filter (may_join w members) (flat_map (drags w) round)) (omega arith) in
    let both = sum_by-append (λ (m : Member). cond (m.0 == slot) 1 0) members (round_after w members round) in
    omega (arith, none, next, both)

rounds_once : (w : World) (slot more : ℕ) (members round : Members) → count_in slot members ≤ 1 →
    count_in slot (with_rounds w more members round) ≤ 1
rounds_once w slot zero members round once = once
rounds_once w slot (suc more) members round once =
    rounds_once w slot more (members ++ round_after w members round) (round_after w members round)
    (more_once w slot members round (has_slot slot members) refl once)

pub nobody_twice : NobodyTwice
unfolding members_of
nobody_twice w named slot = rounds_once w slot w.slots (in_order named) (in_order named) (order_once slot [] named (omega arith))
