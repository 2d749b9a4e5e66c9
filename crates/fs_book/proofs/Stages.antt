-- Stages of a caller, and lists in which one place changes.
use Rattle.std.proofs.Common.{◌≡◌, ◌≢◌, ◌⊎◌, ℕ, zero, suc, ◌<◌, ◌≤◌, List, [], ◌∷◌, ◌++◌}
use Rattle.std.proofs.Common.{length, set, Option, Some, None, refl, ap, sym, ◌∙◌, subst, inl, inr, ⊎_elim, arith}
use mathlib.Core.Option.{some, some-injective, some-ne-none}
use lib.ListN.{get_elem?}
use Rattle.atomic_table.specs.Table.{rest}
use Rattle.atomic_table.proofs.Lists.{at_set}
use Rattle.fs_book.specs.declared.view.Stage.{Stage}
use Rattle.fs_book.specs.declared.view.Stage.TheVariants.{Idle, Waiting, Out}
use Rattle.fs_book.specs.Counts.{total, times}
use Rattle.fs_book.specs.Opened.{Rises}
use Rattle.fs_book.specs.Turns.{tickets_of, HasTicket}
use Rattle.fs_book.proofs.Opening.{rises_push}

pub same_at : {A : Type 0} (xs : List A) (i j : ℕ) (a b : A) → get_elem? xs i ≡ some a → get_elem? xs j ≡ some b → i ≡ j → a ≡ b
same_at xs i j a b at at' is = some-injective a b (sym at ∙ (ap (λ (k : ℕ). get_elem? xs k) is ∙ at'))

-- what stands at a place stands below the length
pub at_below : {A : Type 0} (xs : List A) (i : ℕ) (a : A) → get_elem? xs i ≡ some a → i < length xs
at_below [] i a at = absurd (some-ne-none a (sym at))
at_below (x ∷ xs) zero a at = omega arith
at_below (x ∷ xs) (suc i) a at = let r = at_below xs i a at in omega arith

-- what holds of each, where one changed
pub each_set : {V : Type 0} (P : V → Type 0) (vs : List V) (i : ℕ) (w : V) → P w →
    ((j : ℕ) (u : V) → j ≢ i → get_elem? vs j ≡ some u → P u) → (j : ℕ) (u : V) → get_elem? (set vs i w) j ≡ some u → P u
each_set P vs i w mine others j u e =
    ⊎_elim (λ (x : (j ≡ i) × (w ≡ u)). subst P x.1 mine) (λ (x : (j ≢ i) × (get_elem? vs j ≡ some u)). others j u x.0 x.1)
    (at_set vs i j w u e)

-- a view has one ticket at most
pub tickets_le : (stage : Stage) → tickets_of stage ≤ 1
tickets_le Idle = omega arith
tickets_le (Waiting k) = omega arith
tickets_le (Out k) = omega arith

-- a stage is one thing
pub idle_out : (k : ℕ) → Idle ≡ Out k → ⊥
idle_out k e = cc e

pub waiting_out : (k n : ℕ) → Waiting k ≡ Out n → ⊥
waiting_out k n e = cc e

pub waiting_is : (k n : ℕ) → Waiting k ≡ Waiting n → k ≡ n
waiting_is k n e = cc e

-- who has no ticket is idle
pub idle_of : (stage : Stage) → tickets_of stage ≡ 0 → stage ≡ Idle
idle_of Idle is = refl
idle_of (Waiting k) is = absurd (omega arith)
idle_of (Out k) is = absurd (omega arith)

-- what is known by two names is one
pub Some_is : {A : Type 0} (a b : A) → Some a ≡ Some b → a ≡ b
Some_is a b e = cc e

-- who is idle has no ticket
pub no_ticket : (stage : Stage) (k : ℕ) → stage ≡ Idle → HasTicket stage k → ⊥
no_ticket Idle k is h = h
no_ticket (Waiting t) k is h = absurd (cc is)
no_ticket (Out t) k is h = absurd (cc is)

-- the slot that was taken last
pub taken_last : {S : Type 0} (taken others : List (ℕ × S)) (slot : ℕ) (x : S) → taken ≡ (slot, x) ∷ others → taken ≡ (slot, x) ∷ rest taken
taken_last taken others slot x e = e ∙ ap (λ c. (slot, x) ∷ rest c) (sym e)

abbrev last_taken : {S : Type 0} → List (ℕ × Option S) → Option S
last_taken [] = None
last_taken (c ∷ cs) = c.1

-- the state that is carried is one
pub one_carried : {S : Type 0} (x y : S) → ◌≡◌ {A = List (ℕ × Option S)} ((0, Some x) ∷ []) ((0, Some y) ∷ []) → x ≡ y
one_carried x y e = Some_is x y (ap last_taken e)

-- the only list is empty
pub none_in : (k : ℕ) (l : List ℕ) (p : ℕ) → get_elem? ([] ∷ []) k ≡ some l → 0 < times p l → ⊥
none_in zero l p at h = let e : times p [] ≡ times p l = ap (times p) (some-injective [] l at) in omega arith
none_in (suc k) l p at h = some-ne-none l (sym at)

pub none_rises : (k : ℕ) (l : List ℕ) → get_elem? ([] ∷ []) k ≡ some l → Rises l
none_rises zero l at = subst Rises (some-injective [] l at) (λ i j p q lt at_i at_j. absurd (cc at_i))
none_rises (suc k) l at = absurd (some-ne-none l (sym at))

-- the only view
pub alone : {V : Type 0} (v : V) (j : ℕ) (u : V) → get_elem? (v ∷ []) j ≡ some u → v ≡ u
alone v zero u at = some-injective v u at
alone v (suc j) u at = absurd (some-ne-none u (sym at))

pub only_one : {V : Type 0} (v : V) (i j : ℕ) (u w : V) → get_elem? (v ∷ []) i ≡ some u → get_elem? (v ∷ []) j ≡ some w → i ≡ j
only_one v zero zero u w at at' = refl
only_one v zero (suc j) u w at at' = absurd (some-ne-none w (sym at'))
only_one v (suc i) j u w at at' = absurd (some-ne-none u (sym at))

-- each list rises where the first gains a place behind all
pub rises_all : (mine : List ℕ) (met : List (List ℕ)) (n : ℕ) → ((p : ℕ) → 0 < total (times p) (mine ∷ met) → p < n) →
    ((k : ℕ) (l : List ℕ) → get_elem? (mine ∷ met) k ≡ some l → Rises l)
    → (k : ℕ) (l : List ℕ) → get_elem? ((mine ++ n ∷ []) ∷ met) k ≡ some l → Rises l
rises_all mine met n below rises zero l at =
    subst Rises (some-injective _ _ at) (rises_push mine n (λ p h. below p (omega arith)) (rises 0 mine refl))
rises_all mine met n below rises (suc k) l at = rises (suc k) l at

-- what stands in two lists behind one another stands in one of them
pub at_either : {A : Type 0} (xs ys : List A) (k : ℕ) (a : A) → get_elem? (xs ++ ys) k ≡ some a →
    ((i : ℕ) × (get_elem? xs i ≡ some a)) ⊎ ((i : ℕ) × (get_elem? ys i ≡ some a))
at_either [] ys k a at = inr (k, at)
at_either (x ∷ xs) ys zero a at = inl (0, at)
at_either (x ∷ xs) ys (suc k) a at =
    ⊎_elim (λ (h : (i : ℕ) × (get_elem? xs i ≡ some a)). inl (suc h.0, h.1)) (λ h. inr h) (at_either xs ys k a at)
