-- Elements in chunks, each once.
use Rattle.std.proofs.Common.{◌≡◌, ◌==◌, ℕ, zero, suc, ◌+◌, ◌<◌, Bool, true, false, cond, ◌&&◌, ◌||◌, List, [], ◌∷◌, ◌++◌, take, drop, length, get_or}
use Rattle.std.proofs.Common.{refl, sym, ap, subst, append_assoc, drop-cons, add-one, ◌∙◌, arith}
use Rattle.std.specs.Arc.{arc_value}
use Rattle.std.specs.Cmp.{IsEquivalence}
use Rattle.std.specs.HashSet.{HashSet}
use Rattle.std.specs.List.{list_any, list_all, AllZip, AllByRecursion, IsDistinct}
use Rattle.std.specs.declared.sync.Arc.{Arc}
use Rattle.std.proofs.lemmas.Bool.{false≢true}
use Rattle.std.proofs.lemmas.Bool.Decides.{nat_tests}
use Rattle.std.proofs.lemmas.List.{append-nil}
use Rattle.std.proofs.lemmas.List.Folds.{list_any-append}
use Rattle.indexmap.specs.IndexSet.{insert_key}
use Rattle.fs_filter.specs.Chunks.{elements, joined}

-- ---- elements that are distinct

module _ {K : Type 0} (P : K → Type 0) where
  front : (xs ys : List K) → AllByRecursion P (xs ++ ys) → AllByRecursion P xs
  front [] ys all = tt
  front (x ∷ xs) ys all = (all.0, front xs ys all.1)

  more : (xs : List K) (x : K) → AllByRecursion P xs → P x → AllByRecursion P (xs ++ x ∷ [])
  more [] x all one = (one, tt)
  more (y ∷ xs) x all one = (all.0, more xs x all.1 one)

  there : (xs rest : List K) (x : K) → AllByRecursion P (xs ++ x ∷ rest) → P x
  there [] rest x all = all.0
  there (y ∷ xs) rest x all = there xs rest x all.1

module _ {K : Type 0} (eq : K → K → Bool) where
  -- what stands behind others is distinct
  pub distinct_behind : (xs ys : List K) → IsDistinct eq (xs ++ ys) → IsDistinct eq ys
  unfolding IsDistinct
  distinct_behind [] ys d = d
  distinct_behind (x ∷ xs) ys d = distinct_behind xs ys d.1

  -- so is what stands before others
  pub distinct_before : (xs ys : List K) → IsDistinct eq (xs ++ ys) → IsDistinct eq xs
  unfolding IsDistinct
  distinct_before [] ys d = tt
  distinct_before (x ∷ xs) ys d = (front (λ y. eq x y ≡ false) xs ys d.0, distinct_before xs ys d.1)

  -- with one that is new they are distinct
  pub distinct_more : IsEquivalence eq → (xs : List K) (x : K) → IsDistinct eq xs → false ≡ list_any (eq x) xs → IsDistinct eq (xs ++ x ∷ [])
  unfolding IsDistinct
  distinct_more laws [] x d new = (tt, tt)
  distinct_more laws (y ∷ xs) x d new = by (eq x y) refl new (distinct_more laws xs x d.1)
    where
      by : (b : Bool) → eq x y ≡ b → false ≡ (b || list_any (eq x) xs) →
          (false ≡ list_any (eq x) xs → IsDistinct eq (xs ++ x ∷ [])) → IsDistinct eq (y ∷ (xs ++ x ∷ []))
      by true here new rest = absurd (false≢true new)
      by false here new rest = (more (λ z. eq y z ≡ false) xs x d.0 (laws.symm y x ∙ here), rest new)

  absent : IsEquivalence eq → (xs rest : List K) (x : K) → IsDistinct eq (xs ++ x ∷ rest) → list_any (eq x) xs ≡ false
  unfolding IsDistinct
  absent laws [] rest x d = refl
  absent laws (y ∷ xs) rest x d =
      ap (λ b. b || list_any (eq x) xs) (laws.symm x y ∙ there (λ z. eq y z ≡ false) xs rest x d.0) ∙ absent laws xs rest x d.1

  -- one that is apart from all goes last
  pub put_new : IsEquivalence eq → (xs rest : List K) (x : K) → IsDistinct eq (xs ++ x ∷ rest) → insert_key eq xs x ≡ xs ++ x ∷ []
  put_new laws xs rest x d = ap (λ b. cond b xs (xs ++ x ∷ [])) (absent laws xs rest x d)

  -- the next of some is put behind those so far
  pub put_next : IsEquivalence eq → (all items whole : List K) (i : ℕ) (x : K) → IsDistinct eq whole → i < length items →
      x ≡ get_or items i x → all ++ drop i items ≡ whole → insert_key eq all x ++ drop (i + 1) items ≡ whole
  put_next laws all items whole i x d below is so_far =
      let next : drop i items ≡ x ∷ drop (suc i) items = drop-cons items i x below ∙ ap (λ y. y ∷ drop (suc i) items) (sym is) in
      let parts : all ++ x ∷ drop (suc i) items ≡ whole = ap (λ l. all ++ l) (sym next) ∙ so_far in
      ap (λ l. l ++ drop (i + 1) items) (put_new laws all (drop (suc i) items) x (subst (IsDistinct eq) (sym parts) d))
      ∙ append_assoc all (x ∷ []) (drop (i + 1) items)
      ∙ ap (λ n. all ++ x ∷ drop n items) (add-one i) ∙ parts

-- ---- chunks

some : (n : ℕ) → (suc n == 0) ≡ false
some n = grind (arith, nat_tests)

module _ {T S Z : Type 0} where
  -- chunks that are shared have the same
  pub joined_shared : (chunks others : List (Arc (HashSet T S) Z)) → AllZip (λ c d. arc_value d ≡ arc_value c) chunks others →
      joined others ≡ joined chunks
  joined_shared [] [] same = refl
  joined_shared [] (other ∷ others) same = absurd same
  joined_shared (chunk ∷ chunks) [] same = absurd same
  joined_shared (chunk ∷ chunks) (other ∷ others) same = (λ j. (same.0 j).keys ++ joined_shared chunks others same.1 j)

  -- an element of some chunk is one of all
  pub any_joined : (p : T → Bool) (chunks : List (Arc (HashSet T S) Z)) →
      list_any (λ chunk. list_any p (elements chunk)) chunks ≡ list_any p (joined chunks)
  any_joined p [] = refl
  any_joined p (chunk ∷ chunks) =
      ap (λ rest. list_any p (elements chunk) || rest) (any_joined p chunks) ∙ sym (list_any-append p (elements chunk) (joined chunks))

  -- where no chunk has an element there is none
  pub none_joined : (chunks : List (Arc (HashSet T S) Z)) → list_all (λ chunk. length (elements chunk) == 0) chunks ≡ (length (joined chunks) == 0)
  none_joined [] = refl
  none_joined (chunk ∷ chunks) = by (elements chunk) (none_joined chunks)
    where
      by : (first : List T) → list_all (λ chunk. length (elements chunk) == 0) chunks ≡ (length (joined chunks) == 0) →
          (length first == 0 && list_all (λ chunk. length (elements chunk) == 0) chunks) ≡ (length (first ++ joined chunks) == 0)
      by [] rest = rest
      by (x ∷ first) rest = ap (λ b. b && list_all (λ chunk. length (elements chunk) == 0) chunks) (some (length first)) ∙ sym (some (length (first ++ joined chunks)))

  -- one chunk more
  pub joined_more : (chunks : List (Arc (HashSet T S) Z)) (chunk : Arc (HashSet T S) Z) →
      joined (chunks ++ chunk ∷ []) ≡ joined chunks ++ elements chunk
  joined_more [] chunk = append-nil (elements chunk)
  joined_more (first ∷ chunks) chunk =
      ap (λ l. elements first ++ l) (joined_more chunks chunk) ∙ sym (append_assoc (elements first) (joined chunks) (elements chunk))

  cut : (chunks : List (Arc (HashSet T S) Z)) (n : ℕ) → joined (take n chunks) ++ joined (drop n chunks) ≡ joined chunks
  cut chunks zero = refl
  cut [] (suc n) = refl
  cut (chunk ∷ chunks) (suc n) =
      append_assoc (elements chunk) (joined (take n chunks)) (joined (drop n chunks)) ∙ ap (λ l. elements chunk ++ l) (cut chunks n)

  -- the chunks of a front, and those behind it with one element more
  pub joined_cut : (chunks front back : List (Arc (HashSet T S) Z)) (n : ℕ) (element : T) → front ≡ take n chunks → back ≡ drop n chunks →
      joined front ++ (joined back ++ element ∷ []) ≡ joined chunks ++ element ∷ []
  joined_cut chunks front back n element before behind =
      ap (λ l. joined l ++ (joined back ++ element ∷ [])) before ∙ ap (λ l. joined (take n chunks) ++ (joined l ++ element ∷ [])) behind
      ∙ sym (append_assoc (joined (take n chunks)) (joined (drop n chunks)) (element ∷ []))
      ∙ ap (λ l. l ++ element ∷ []) (cut chunks n)

  from : (chunks : List (Arc (HashSet T S) Z)) (i : ℕ) (chunk : Arc (HashSet T S) Z) → i < length chunks → chunk ≡ get_or chunks i chunk →
      joined (drop i chunks) ≡ elements chunk ++ joined (drop (i + 1) chunks)
  from chunks i chunk below is =
      ap joined (drop-cons chunks i chunk below ∙ ap (λ c. c ∷ drop (suc i) chunks) (sym is))
      ∙ ap (λ n. elements chunk ++ joined (drop n chunks)) (sym (add-one i))

  -- the next chunk stands behind those so far
  pub gathered_next : (all whole : List T) (chunks : List (Arc (HashSet T S) Z)) (i : ℕ) (chunk : Arc (HashSet T S) Z) → i < length chunks →
      chunk ≡ get_or chunks i chunk → all ++ joined (drop i chunks) ≡ whole →
      (all ++ elements chunk) ++ joined (drop (i + 1) chunks) ≡ whole
  gathered_next all whole chunks i chunk below is so_far =
      append_assoc all (elements chunk) (joined (drop (i + 1) chunks)) ∙ ap (λ l. all ++ l) (sym (from chunks i chunk below is)) ∙ so_far
