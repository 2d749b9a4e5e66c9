-- Numbers by place, and by count: no two entries then open one number.
use Rattle.std.specs.Prelude.{◌≡◌, ℕ, Bool, true, false, if◌then◌else◌, List, [], ◌∷◌, ◌++◌, length, take, Option, Some, None, slice_get}
use Prim.Native.Nat.{zero, suc}
use mathlib.Core.Path.{refl, sym, ap, ◌∙◌}
use Rattle.fs_book.specs.Opened.{OpensAt}

-- ---- an entry that opens a number opens that of its place in the journal

abbrev pub by_place : {E : Type 0} → (E → Bool) → List E → E → Option ℕ
by_place test log entry = if test entry then Some (length log) else None

taken : {E : Type 0} (log : List E) (p : ℕ) (entry : E) → slice_get log p ≡ Some entry → length (take p log) ≡ p
taken [] p entry is = absurd cc
taken (x ∷ xs) zero entry is = refl
taken (x ∷ xs) (suc p) entry is = ap suc (taken xs p entry is)

opened : (b : Bool) (place number : ℕ) → ◌≡◌ {A = Option ℕ} (if b then Some place else None) (Some number) → place ≡ number
opened true place number is = cc is
opened false place number is = absurd (cc is)

pub by_place_once : {B E : Type 0} (test : E → Bool) (origin : B) (log : List E) (p q number : ℕ)
    → OpensAt (λ _ before entry. by_place test before entry) origin log p number
    → OpensAt (λ _ before entry. by_place test before entry) origin log q number → p ≡ q
by_place_once test origin log p q number h h' =
    sym (taken log p h.0 h.1) ∙ opened (test h.0) (length (take p log)) number h.2
    ∙ sym (opened (test h'.0) (length (take q log)) number h'.2) ∙ taken log q h'.0 h'.1

-- ---- an entry that opens a number opens one more than so many entries before it did

abbrev pub counted_where : Bool → ℕ → ℕ
counted_where b count = if b then suc count else count

-- how many of the entries meet the test
abbrev pub count_among : {E : Type 0} → (E → Bool) → List E → ℕ
count_among test [] = 0
count_among test (entry ∷ entries) = counted_where (test entry) (count_among test entries)

-- what the entry opens after these, if it opens a number
abbrev pub by_count : {E : Type 0} → (E → Bool) → List E → E → Option ℕ
by_count test log entry = if test entry then Some (suc (count_among test log)) else None

next_opened : (b : Bool) (count number : ℕ) → ◌≡◌ {A = Option ℕ} (if b then Some (suc count) else None) (Some number)
    → (b ≡ true) × (suc count ≡ number)
next_opened true count number is = (refl, cc is)
next_opened false count number is = absurd (cc is)

some_before : (b : Bool) (count : ℕ) → b ≡ true → 0 ≡ counted_where b count → ⊥
some_before true count is none = absurd (cc none)
some_before false count is none = absurd (cc is)

cancel : (b : Bool) (m n : ℕ) → counted_where b m ≡ counted_where b n → m ≡ n
cancel true m n is = cc is
cancel false m n is = is

one_less : (m n : ℕ) → suc m ≡ suc n → m ≡ n
one_less m n is = cc is

same_place : {E : Type 0} (test : E → Bool) (log : List E) (p q : ℕ) (entry other : E) → slice_get log p ≡ Some entry → test entry ≡ true
    → slice_get log q ≡ Some other → test other ≡ true → count_among test (take p log) ≡ count_among test (take q log) → p ≡ q
same_place test [] p q entry other at holds at' holds' same = absurd cc
same_place test (x ∷ xs) zero zero entry other at holds at' holds' same = refl
same_place test (x ∷ xs) zero (suc q) entry other at holds at' holds' same =
    let e : x ≡ entry = cc at in absurd (some_before (test x) (count_among test (take q xs)) (ap test e ∙ holds) same)
same_place test (x ∷ xs) (suc p) zero entry other at holds at' holds' same =
    let e : x ≡ other = cc at' in absurd (some_before (test x) (count_among test (take p xs)) (ap test e ∙ holds') (sym same))
same_place test (x ∷ xs) (suc p) (suc q) entry other at holds at' holds' same =
    ap suc (same_place test xs p q entry other at holds at' holds'
    (cancel (test x) (count_among test (take p xs)) (count_among test (take q xs)) same))

pub by_count_once : {B E : Type 0} (test : E → Bool) (origin : B) (log : List E) (p q number : ℕ)
    → OpensAt (λ _ before entry. by_count test before entry) origin log p number
    → OpensAt (λ _ before entry. by_count test before entry) origin log q number → p ≡ q
by_count_once test origin log p q number h h' =
    let a = next_opened (test h.0) (count_among test (take p log)) number h.2 in
    let b = next_opened (test h'.0) (count_among test (take q log)) number h'.2 in
    same_place test log p q h.0 h'.0 h.1 a.0 h'.1 b.0 (one_less (count_among test (take p log)) (count_among test (take q log))
    (a.1 ∙ sym b.1))

-- ---- so too where it is by the entries before it that an entry opens a number

-- how many of the entries meet the test, which sees what stands before each, behind these
abbrev pub count_behind : {E : Type 0} → (List E → E → Bool) → List E → List E → ℕ
count_behind test before [] = 0
count_behind test before (entry ∷ entries) = counted_where (test before entry) (count_behind test (before ++ entry ∷ []) entries)

-- what the entry opens after these, if it opens a number
abbrev pub by_history : {E : Type 0} → (List E → E → Bool) → List E → E → Option ℕ
by_history test log entry = if test log entry then Some (suc (count_behind test [] log)) else None

nothing_behind : {E : Type 0} (xs : List E) → xs ++ [] ≡ xs
nothing_behind [] = refl
nothing_behind (x ∷ xs) = ap (λ (ys : List _). x ∷ ys) (nothing_behind xs)

one_by_one : {E : Type 0} (before : List E) (x : E) (xs : List E) → (before ++ x ∷ []) ++ xs ≡ before ++ x ∷ xs
one_by_one [] x xs = refl
one_by_one (y ∷ before) x xs = ap (λ (ys : List _). y ∷ ys) (one_by_one before x xs)

same_place_behind : {E : Type 0} (test : List E → E → Bool) (before log : List E) (p q : ℕ) (entry other : E) → slice_get log p ≡ Some entry
    → test (before ++ take p log) entry ≡ true → slice_get log q ≡ Some other → test (before ++ take q log) other ≡ true
    → count_behind test before (take p log) ≡ count_behind test before (take q log) → p ≡ q
same_place_behind test before [] p q entry other at holds at' holds' same = absurd cc
same_place_behind test before (x ∷ xs) zero zero entry other at holds at' holds' same = refl
same_place_behind test before (x ∷ xs) zero (suc q) entry other at holds at' holds' same =
    let e : x ≡ entry = cc at in
    let opens : test before x ≡ true = ap (test before) e ∙ sym (ap (λ (b : List _). test b entry) (nothing_behind before)) ∙ holds in
    absurd (some_before (test before x) (count_behind test (before ++ x ∷ []) (take q xs)) opens same)
same_place_behind test before (x ∷ xs) (suc p) zero entry other at holds at' holds' same =
    let e : x ≡ other = cc at' in
    let opens : test before x ≡ true = ap (test before) e ∙ sym (ap (λ (b : List _). test b other) (nothing_behind before)) ∙ holds' in
    absurd (some_before (test before x) (count_behind test (before ++ x ∷ []) (take p xs)) opens (sym same))
same_place_behind test before (x ∷ xs) (suc p) (suc q) entry other at holds at' holds' same =
    ap suc (same_place_behind test (before ++ x ∷ []) xs p q entry other at
    (ap (λ (b : List _). test b entry) (one_by_one before x (take p xs)) ∙ holds) at'
    (ap (λ (b : List _). test b other) (one_by_one before x (take q xs)) ∙ holds')
    (cancel (test before x) (count_behind test (before ++ x ∷ []) (take p xs)) (count_behind test (before ++ x ∷ []) (take q xs)) same))

pub by_history_once : {B E : Type 0} (test : B → List E → E → Bool) (origin : B) (log : List E) (p q number : ℕ)
    → OpensAt (λ from before entry. by_history (test from) before entry) origin log p number
    → OpensAt (λ from before entry. by_history (test from) before entry) origin log q number → p ≡ q
by_history_once test origin log p q number h h' =
    let a = next_opened (test origin (take p log) h.0) (count_behind (test origin) [] (take p log)) number h.2 in
    let b = next_opened (test origin (take q log) h'.0) (count_behind (test origin) [] (take q log)) number h'.2 in
    same_place_behind (test origin) [] log p q h.0 h'.0 h.1 a.0 h'.1 b.0
    (one_less (count_behind (test origin) [] (take p log)) (count_behind (test origin) [] (take q log)) (a.1 ∙ sym b.1))
