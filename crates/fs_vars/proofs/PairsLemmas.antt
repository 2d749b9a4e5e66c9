-- What a table's entries and the sums over its pairs are after a name is put in or taken out.
use Rattle.std.proofs.Common.{◌≡◌, ℕ, ◌+◌, append_assoc, Bool, true, false, cond, not, List, [], ◌∷◌, ◌++◌, None, Some, sum_by, refl, sym}
use Rattle.std.proofs.Common.{ap, ◌∙◌, subst, arith}
use Rattle.std.specs.Global.{Vec}
use Rattle.std.specs.List.{IsDistinct, AllByRecursion}
use Rattle.std.specs.Map.{keys_of, lookup, remove_entry}
use Rattle.std.proofs.lemmas.Cmp.{nat_list_eq_equiv}
use Rattle.std.proofs.lemmas.Slice.Eq.{bytes_eq-Decides}
use Rattle.std.proofs.lemmas.List.Sums.{sum_by-cons}
use Rattle.indexmap.specs.IndexMap.{insert_entry}
use Rattle.fs_text.specs.Texts.{Text}
use Rattle.fs_vars.specs.Pairs.{Pairs, same_text, value_of, with_value, without, AreDistinct, pairs_of, same_key}

-- a name that is the same is equal
pub same : (a b : Text) → same_text a b ≡ true → a ≡ b
same a b = (bytes_eq-Decides a b).0

-- ---- the entries of a table

pub value_of-pairs_of : (name : Text) (es : List (Vec ℕ × Text)) → lookup (λ key. same_text name key.items) es ≡ value_of (pairs_of es) name
value_of-pairs_of name [] = refl
value_of-pairs_of name (e ∷ es) = ap (cond (same_text name e.0.items) (Some e.1)) (value_of-pairs_of name es)

pub with_value-pairs_of : (key : Vec ℕ) (value : Text) (es : List (Vec ℕ × Text)) →
    pairs_of (insert_entry same_key es key value) ≡ with_value (pairs_of es) key.items value
with_value-pairs_of key value [] = refl
with_value-pairs_of key value (e ∷ es) = by (same_key key e.0) (with_value-pairs_of key value es)
  where
    rest : Pairs
    rest = with_value (pairs_of es) key.items value

    by : (b : Bool) → pairs_of (insert_entry same_key es key value) ≡ rest →
        pairs_of (cond b ((e.0, value) ∷ es) (e ∷ insert_entry same_key es key value))
        ≡ cond b ((e.0.items, value) ∷ pairs_of es) ((e.0.items, e.1) ∷ rest)
    by true h = refl
    by false h = ap (λ more. (e.0.items, e.1) ∷ more) h

apart-pairs_of : (key : Vec ℕ) (es : List (Vec ℕ × Text)) → AllByRecursion (λ other. same_key key other ≡ false) (keys_of es) →
    AllByRecursion (λ other. same_text key.items other ≡ false) (keys_of (pairs_of es))
apart-pairs_of key [] h = h
apart-pairs_of key (e ∷ es) h = (h.0, apart-pairs_of key es h.1)

pub AreDistinct-pairs_of : (es : List (Vec ℕ × Text)) → IsDistinct same_key (keys_of es) → AreDistinct (pairs_of es)
unfolding IsDistinct
AreDistinct-pairs_of [] h = h
AreDistinct-pairs_of (e ∷ es) h = (apart-pairs_of e.0 es h.0, AreDistinct-pairs_of es h.1)

remove_entry-pairs_of : (name : Text) (es : List (Vec ℕ × Text)) →
    pairs_of (remove_entry (λ key. same_text name key.items) es) ≡ remove_entry (same_text name) (pairs_of es)
remove_entry-pairs_of name [] = refl
remove_entry-pairs_of name (e ∷ es) = by (same_text name e.0.items) (remove_entry-pairs_of name es)
  where
    less : List (Vec ℕ × Text)
    less = remove_entry (λ key. same_text name key.items) es

    by : (b : Bool) → pairs_of less ≡ remove_entry (same_text name) (pairs_of es) →
        pairs_of (cond b es (e ∷ less)) ≡ cond b (pairs_of es) ((e.0.items, e.1) ∷ remove_entry (same_text name) (pairs_of es))
    by true h = refl
    by false h = ap (λ more. (e.0.items, e.1) ∷ more) h

-- ---- distinct names

-- a name that no pair has takes none out
without-apart : (name : Text) (ps : Pairs) → AllByRecursion (λ other. same_text name other ≡ false) (keys_of ps) → without ps name ≡ ps
without-apart name [] h = refl
without-apart name (p ∷ ps) h = rw h.0 (ap (λ more. p ∷ more) (without-apart name ps h.1))

pub without-absent : (name : Text) (ps : Pairs) → value_of ps name ≡ None → without ps name ≡ ps
without-absent name [] h = refl
without-absent name (p ∷ ps) h = by (same_text name p.0) h (without-absent name ps)
  where
    by : (b : Bool) → cond b (Some p.1) (value_of ps name) ≡ None → (value_of ps name ≡ None → without ps name ≡ ps) →
        cond (not b) (p ∷ without ps name) (without ps name) ≡ p ∷ ps
    by true h rest = absurd (cc)
    by false h rest = ap (λ more. p ∷ more) (rest h)

-- and so does one that the first pair alone has, of those behind it
without-same : (name : Text) (p : Text × Text) (ps : Pairs) → same_text name p.0 ≡ true →
    AllByRecursion (λ other. same_text p.0 other ≡ false) (keys_of ps) → without ps name ≡ ps
without-same name p ps e h =
    without-apart name ps (subst (λ n. AllByRecursion (λ other. same_text n other ≡ false) (keys_of ps)) (sym (same name p.0 e)) h)

-- where names differ, the pairs of the others are those without the first of the name
without-first : (name : Text) (ps : Pairs) → AreDistinct ps → remove_entry (same_text name) ps ≡ without ps name
unfolding IsDistinct
without-first name [] h = refl
without-first name (p ∷ ps) h = by (same_text name p.0) refl (without-first name ps h.1)
  where
    by : (b : Bool) → same_text name p.0 ≡ b → remove_entry (same_text name) ps ≡ without ps name →
        cond b ps (p ∷ remove_entry (same_text name) ps) ≡ cond (not b) (p ∷ without ps name) (without ps name)
    by true e rest = sym (without-same name p ps e h.0)
    by false e rest = ap (λ more. p ∷ more) rest

pub without-pairs_of : (name : Text) (es : List (Vec ℕ × Text)) → IsDistinct same_key (keys_of es) →
    pairs_of (remove_entry (λ key. same_text name key.items) es) ≡ without (pairs_of es) name
without-pairs_of name es h = remove_entry-pairs_of name es ∙ without-first name (pairs_of es) (AreDistinct-pairs_of es h)

-- ---- sums over pairs

module _ (f : Text × Text → ℕ) (name value : Text) where
  -- a name that is there takes its own part out of a sum
  pub sum_by-without : (ps : Pairs) → AreDistinct ps → value_of ps name ≡ Some value →
      sum_by f (without ps name) + sum_by f ((name, value) ∷ []) ≡ sum_by f ps
  unfolding IsDistinct
  sum_by-without [] h there = absurd (cc)
  sum_by-without (p ∷ ps) h there = by (same_text name p.0) refl there (sum_by-without ps h.1)
    where
      by : (b : Bool) → same_text name p.0 ≡ b → cond b (Some p.1) (value_of ps name) ≡ Some value →
          (value_of ps name ≡ Some value → sum_by f (without ps name) + (0 + f (name, value)) ≡ sum_by f ps)
          → sum_by f (cond (not b) (p ∷ without ps name) (without ps name)) + (0 + f (name, value)) ≡ sum_by f (p ∷ ps)
      by true e is rest =
          let others = without-same name p ps e h.0 in
          let kept : p.1 ≡ value = cc in
          let own : f (name, value) ≡ f p = ap f (λ i. (same name p.0 e i, sym kept i)) in
          rw (others, own, sum_by-cons) (omega arith)
      by false e is rest = let less = rest is in rw (sum_by-cons f p (without ps name), sum_by-cons f p ps) (omega arith)

  -- a name that is set adds its own part to the sum of the others
  pub sum_by-with_value : (ps : Pairs) → AreDistinct ps →
      sum_by f (without ps name) + sum_by f ((name, value) ∷ []) ≡ sum_by f (with_value ps name value)
  unfolding IsDistinct
  sum_by-with_value [] h = omega arith
  sum_by-with_value (p ∷ ps) h = by (same_text name p.0) refl (sum_by-with_value ps h.1)
    where
      by : (b : Bool) → same_text name p.0 ≡ b → sum_by f (without ps name) + (0 + f (name, value)) ≡ sum_by f (with_value ps name value)
          → sum_by f (cond (not b) (p ∷ without ps name) (without ps name)) + (0 + f (name, value))
          ≡ sum_by f (cond b ((p.0, value) ∷ ps) (p ∷ with_value ps name value))
      by true e rest =
          let others = without-same name p ps e h.0 in
          let own : f (name, value) ≡ f (p.0, value) = ap (λ n. f (n, value)) (same name p.0 e) in
          rw (others, own, sum_by-cons) (omega arith)
      by false e rest = rw (sum_by-cons f p (with_value ps name value), sum_by-cons f p (without ps name)) (omega arith)

-- a name that only comes later is put last
pub with_value-later : (name value : Text) (ps qs : Pairs) → AreDistinct (ps ++ (name, value) ∷ qs) →
    with_value ps name value ≡ ps ++ (name, value) ∷ []
unfolding IsDistinct
with_value-later name value [] qs h = refl
with_value-later name value (p ∷ ps) qs h = rw other (ap (λ more. p ∷ more) (with_value-later name value ps qs h.1))
  where
    apart : (ps : Pairs) → AllByRecursion (λ other. same_text p.0 other ≡ false) (keys_of (ps ++ (name, value) ∷ qs)) →
        same_text p.0 name ≡ false
    apart [] h = h.0
    apart (q ∷ qs) h = apart qs h.1

    other : same_text name p.0 ≡ false
    other = nat_list_eq_equiv.symm name p.0 ∙ apart ps h.0

-- one more entry is copied
pub copied_more : (whole copied new rest : Pairs) (name value : Text) → AreDistinct whole → copied ++ (name, value) ∷ rest ≡ whole →
    new ≡ with_value copied name value → new ++ rest ≡ whole
copied_more whole copied new rest name value distinct so_far put =
    let last = with_value-later name value copied rest (subst AreDistinct (sym so_far) distinct) in
    rw (put, last, append_assoc) so_far

-- ---- one list of pairs behind another

-- a name that the first has is found there
pub found_first : (name value : Text) (ps qs : Pairs) → value_of ps name ≡ Some value → value_of (ps ++ qs) name ≡ Some value
found_first name value [] qs h = absurd (cc)
found_first name value (p ∷ ps) qs h = by (same_text name p.0) h (found_first name value ps qs)
  where
    by : (b : Bool) → cond b (Some p.1) (value_of ps name) ≡ Some value →
        (value_of ps name ≡ Some value → value_of (ps ++ qs) name ≡ Some value) → cond b (Some p.1) (value_of (ps ++ qs) name) ≡ Some value
    by true h rest = h
    by false h rest = rest h

-- one that it has not is looked for in the second
pub found_later : (name : Text) (ps qs : Pairs) → value_of ps name ≡ None → value_of (ps ++ qs) name ≡ value_of qs name
found_later name [] qs h = refl
found_later name (p ∷ ps) qs h = by (same_text name p.0) h (found_later name ps qs)
  where
    by : (b : Bool) → cond b (Some p.1) (value_of ps name) ≡ None →
        (value_of ps name ≡ None → value_of (ps ++ qs) name ≡ value_of qs name) →
        cond b (Some p.1) (value_of (ps ++ qs) name) ≡ value_of qs name
    by true h rest = absurd (cc)
    by false h rest = rest h

pub ruleset found = (found_first, found_later)
