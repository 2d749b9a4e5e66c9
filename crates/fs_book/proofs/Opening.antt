-- Openings and names where more is seen, and where an entry is appended.
use Rattle.std.proofs.Common.{◌≡◌, ℕ, zero, suc, ◌<◌, List, [], ◌∷◌, ◌++◌, length, take, Option, Some, slice_get, refl, ap, sym, ◌∙◌, subst}
use Rattle.std.proofs.Common.{arith, length-append}
use Rattle.std.proofs.lemmas.Bool.Decides.{nat_tests}
use mathlib.Core.List.{IsPrefix}
use mathlib.Core.Logic.{dite}
use mathlib.Core.Option.{some-injective}
use native.Mathlib.Decide.{dec_lt, ℕ_discrete}
use Rattle.fs_book.specs.Counts.{total, times}
use Rattle.fs_book.specs.Opened.{OpensAt, NamesAt, OwnsNumber, NamesOwn, Rises, Closed}
use Rattle.fs_book.proofs.Lists.{prefix_get, prefix_got, prefix_take, get_below, get_last, last_get, last_take, one_le_total, times_here}
use Rattle.fs_book.proofs.Lists.{times_before, times_more}

-- what stands in a list is counted there
pub times_at : (places : List ℕ) (i p : ℕ) → slice_get places i ≡ Some p → 0 < times p places
times_at [] i p h = absurd cc
times_at (x ∷ xs) zero p h = let e : x ≡ p = cc h in grind (arith, nat_tests)
times_at (x ∷ xs) (suc i) p h = let r = times_at xs i p h in omega arith

-- a place that follows all of a list
pub rises_push : (places : List ℕ) (n : ℕ) → ((p : ℕ) → 0 < times p places → p < n) → Rises places → Rises (places ++ n ∷ [])
rises_push places n below rises i j p q lt at at' =
    let whole : IsPrefix places (places ++ n ∷ []) = (n ∷ [], refl) in
    let len = length-append places (n ∷ []) in
    let end = get_below (places ++ n ∷ []) j q at' in
    let first : slice_get places i ≡ Some p = prefix_got places (places ++ n ∷ []) i p whole (omega arith) at in
    dite (dec_lt j (length places))
    (λ inside. rises i j p q lt first (prefix_got places (places ++ n ∷ []) j q whole inside at'))
    (λ outside.
    let here : j ≡ length places = omega arith in
    let last : n ≡ q = get_last places n q (subst (λ (k : ℕ). slice_get (places ++ n ∷ []) k ≡ Some q) here at') in
    let r = below p (times_at places i p first) in omega arith)

module _ {E : Type 0} (names : E → Option ℕ) where
  pub names_up : (xs ys : List E) (p number : ℕ) → IsPrefix xs ys → NamesAt names xs p number → NamesAt names ys p number
  names_up xs ys p number pre h = (h.0, prefix_get xs ys p h.0 pre h.1, h.2)

  pub names_down : (xs ys : List E) (p number : ℕ) → IsPrefix xs ys → p < length xs → NamesAt names ys p number → NamesAt names xs p number
  names_down xs ys p number pre lt h = (h.0, prefix_got xs ys p h.0 pre lt h.1, h.2)

module _ {B E : Type 0} (opens : B → List E → E → Option ℕ) where
  -- what was opened stays opened where more is seen
  pub opens_up : (origin : B) (xs ys : List E) (p number : ℕ) → IsPrefix xs ys → OpensAt opens origin xs p number →
      OpensAt opens origin ys p number
  opens_up origin xs ys p number pre h =
      let before : take p ys ≡ take p xs = prefix_take xs ys p pre (let r = get_below xs p h.0 h.1 in omega arith) in
      (h.0, prefix_get xs ys p h.0 pre h.1, ap (λ (log : List E). opens origin log h.0) before ∙ h.2)

  -- what is owned stays owned where more is seen
  pub owns_up : (origin : B) (number : ℕ) (xs ys : List E) (places : List ℕ) → IsPrefix xs ys → OwnsNumber opens origin number xs places →
      OwnsNumber opens origin number ys places
  owns_up origin number xs ys places pre h = (h.0, h.1, opens_up origin xs ys h.0 number pre h.2)

  -- so it does where a place is added
  pub owns_more : (origin : B) (number : ℕ) (log : List E) (places : List ℕ) (p : ℕ) → OwnsNumber opens origin number log places →
      OwnsNumber opens origin number log (places ++ p ∷ [])
  owns_more origin number log places p h = (h.0, times_more h.0 p places h.1, h.2)

  -- the number that the last entry opened is one's own
  pub own_new : (origin : B) (number : ℕ) (log : List E) (entry : E) (places : List ℕ) → opens origin log entry ≡ Some number
      → OwnsNumber opens origin number (log ++ entry ∷ []) (places ++ length log ∷ [])
  own_new origin number log entry places is = (
    length log,
    times_here (length log) places,
    (entry, last_get log entry, ap (λ (before : List E). opens origin before entry) (last_take log entry) ∙ is),
  )

module _ {B E : Type 0} (opens : B → List E → E → Option ℕ) (names : E → Option ℕ) where
  -- an entry that is one's own stays so where more is seen
  pub own_up : (origin : B) (xs ys : List E) (places : List ℕ) (entry : E) → IsPrefix xs ys → NamesOwn opens names origin xs places entry →
      NamesOwn opens names origin ys places entry
  own_up origin xs ys places entry pre own number is = owns_up opens origin number xs ys places pre (own number is)

  pub closed_up : (start : Option B) (lists : List (List ℕ)) (xs ys : List E) → IsPrefix xs ys →
      ((p : ℕ) → 0 < total (times p) lists → p < length xs)
      → Closed opens names start lists xs → Closed opens names start lists ys
  closed_up start lists xs ys pre below closed origin is k l at p number in_l named =
      let inside = below p (let r = one_le_total (times p) lists k l at in omega arith) in
      owns_up opens origin number xs ys l pre (closed origin is k l at p number in_l (names_down names xs ys p number pre inside named))

  -- an entry that is one's own is appended
  pub closed_push : (start : Option B) (mine : List ℕ) (met : List (List ℕ)) (log : List E) (entry : E)
      → ((p : ℕ) → 0 < total (times p) (mine ∷ met) → p < length log)
      → ((origin : B) → start ≡ Some origin → NamesOwn opens names origin log mine entry)
      → Closed opens names start (mine ∷ met) log → Closed opens names start ((mine ++ length log ∷ []) ∷ met) (log ++ entry ∷ [])
  closed_push start mine met log entry below own closed origin is (suc k) l at p number in_l named =
      let whole : IsPrefix log (log ++ entry ∷ []) = (entry ∷ [], refl) in
      closed_up start (mine ∷ met) log (log ++ entry ∷ []) whole below closed origin is (suc k) l at p number in_l named
  closed_push start mine met log entry below own closed origin is zero l at p number in_l named =
      let whole : IsPrefix log (log ++ entry ∷ []) = (entry ∷ [], refl) in
      let l_is : mine ++ length log ∷ [] ≡ l = some-injective _ _ at in
      let counted : 0 < times p (mine ++ length log ∷ []) = subst (λ (x : List ℕ). 0 < times p x) (sym l_is) in_l in
      subst (OwnsNumber opens origin number (log ++ entry ∷ [])) l_is
      (dite (ℕ_discrete p (length log))
      (λ here.
      let last : entry ≡ named.0 =
      get_last log entry named.0 (subst (λ (n : ℕ). slice_get (log ++ entry ∷ []) n ≡ Some named.0) here named.1) in
      owns_more opens origin number (log ++ entry ∷ []) mine (length log)
      (owns_up opens origin number log (log ++ entry ∷ []) mine whole (own origin is number (ap names last ∙ named.2))))
      (λ elsewhere.
      owns_more opens origin number (log ++ entry ∷ []) mine (length log)
      (closed_up start (mine ∷ met) log (log ++ entry ∷ []) whole below closed origin is zero mine refl p number
      (times_before p (length log) mine elsewhere counted) named)))
