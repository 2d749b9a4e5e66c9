-- What a look-up in a table finds.
use Rattle.std.proofs.Common.{◌≡◌, ℕ, suc, Bool, true, false, List, [], ◌∷◌, map, refl, sym, ap, ◌∙◌, Option, Some, cond, arith, Bor}
use Rattle.std.proofs.Common.{Contains, ◌==◌, ◌⊎◌, inl, inr, ⊎_elim}
use Rattle.std.specs.List.{find}
use Rattle.std.specs.Option.{option_map}
use Rattle.std.specs.Str.{bytes_eq}
use Rattle.std.proofs.lemmas.Slice.Eq.{bytes_eq-Decides}
use Rattle.fs_text.specs.Tables.{IsTable, named}

pick : {A B : Type 0} (f : A → B) (b : Bool) (x : A) (r : Option A) →
    option_map f (cond b (Some x) r) ≡ cond b (Some (f x)) (option_map f r)
pick f true x r = refl
pick f false x r = refl

-- the rows of the code find what the definition finds, where they have its names
named_is : {A : Type 0} (name_of : A → List ℕ) (rows : List (A × ℕ × Bor (List ℕ))) (text : List ℕ)
    → map (λ row. row.2.now) rows ≡ map (λ row. name_of row.0) rows
    → named rows text ≡ find (λ a. bytes_eq (name_of a) text) (map (λ row. row.0) rows)
unfolding named
named_is name_of [] text same = refl
named_is name_of (row ∷ rest) text same =
    let here : row.2.now ≡ name_of row.0 = cc in
    let there : map (λ row. row.2.now) rest ≡ map (λ row. name_of row.0) rest = cc in
    rw (
      pick (λ row. row.0) (bytes_eq row.2.now text) row (find (λ row. bytes_eq row.2.now text) rest),
      here,
      named_is name_of rest text there,
    ) refl

pub found_from_named : {A : Type 0} (name_of : A → List ℕ) (r : Option A) (rows : List (A × ℕ × Bor (List ℕ))) (text : List ℕ)
    → r ≡ named rows text → map (λ row. row.2.now) rows ≡ map (λ row. name_of row.0) rows
    → r ≡ find (λ a. bytes_eq (name_of a) text) (map (λ row. row.0) rows)
found_from_named name_of r rows text is same = is ∙ named_is name_of rows text same

-- what is found stands in front, or is found behind
in_front : {A : Type 0} (passes : Bool) (x a : A) (rest : Option A)
    → cond passes (Some x) rest ≡ Some a → ((passes ≡ true) × (x ≡ a)) ⊎ (rest ≡ Some a)
in_front true x a rest found = inl (refl, cc)
in_front false x a rest found = inr found

-- what is found passes the test
found_passes : {A : Type 0} (test : A → Bool) (xs : List A) (a : A) → find test xs ≡ Some a → test a ≡ true
found_passes test [] a found = cc
found_passes test (x ∷ xs) a found =
    ⊎_elim (λ here. ap test (sym here.1) ∙ here.0) (λ there. found_passes test xs a there) (in_front (test x) x a (find test xs) found)

-- what is found is in the list
found_listed : {A B : Type 0} (f : A → B) (test : A → Bool) (xs : List A) (a : A) → find test xs ≡ Some a → Contains (map f xs) (f a)
found_listed f test [] a found = cc
found_listed f test (x ∷ xs) a found =
    ⊎_elim
    (λ here. (0, omega arith, ap f here.1))
    (λ there. let behind = found_listed f test xs a there in (suc behind.0, omega (arith, behind.1), behind.2))
    (in_front (test x) x a (find test xs) found)

-- a list of rows is a table where each value is found by its number and by its name
pub is_table : {A : Type 0} (row : A → ℕ × List ℕ) (values : List A)
    → ((a : A) → find (λ b. (row b).0 == (row a).0) values ≡ Some a)
    → ((a : A) → find (λ b. bytes_eq (row b).1 (row a).1) values ≡ Some a)
    → IsTable (map row values) row (λ text. find (λ a. bytes_eq (row a).1 text) values)
is_table {A} row values by_number by_name = record {
  complete = λ a. found_listed row (λ b. bytes_eq (row b).1 (row a).1) values a (by_name a);
  numbers = λ a b same. let found : find (λ c. (row c).0 == (row a).0) values ≡ Some b = rw same (by_number b) in
      let both : Some a ≡ Some b = sym (by_number a) ∙ found in cc;
  names = λ a text. (
    λ found. (bytes_eq-Decides (row a).1 text).0 (found_passes (λ b. bytes_eq (row b).1 text) values a found),
    λ named. rw (← named) (by_name a),
  );
}
