-- How the files of a name come in turn.
use Rattle.std.proofs.Common.{◌≡◌, ℕ, suc, ◌+◌, ◌-◌, ◌≤◌, ◌<◌, Bool, true, false, cond, not, List, [], ◌∷◌, ◌++◌, length, drop, filter}
use Rattle.std.proofs.Common.{Option, None, Some, refl, sym, ap, ◌∙◌, arith, if◌then◌else◌, unwrap_or}
use Rattle.std.specs.Prelude.{◌==◌, nat_lt, min, slice_get, remove, position}
use Rattle.std.specs.List.{list_any, find, position_or_len}
use Rattle.std.specs.Set.{remove_key}
use Rattle.std.specs.Option.{option_map}
use Rattle.std.proofs.lemmas.Bool.Decides.{nat_tests}
use Rattle.std.proofs.Math.Nat.{zero-min}
use Rattle.std.proofs.lemmas.List.{take_all, drop_all, append-nil}
use Rattle.fs_ports.specs.declared.files.Load.{Load}
use Rattle.fs_ports.specs.declared.files.Load.TheVariants.{Failed}
use Rattle.fs_ports.specs.Counts.{raised}
use Rattle.fs_ports.specs.Memory.{Shelf, is_named, file_bytes, moved_on, loaded, load_of, load_behind}

module _ {X : Type 0} (test : X → Bool) where
  -- the first that passes is removed
  removed : (xs : List X) → remove xs (position_or_len test xs) ≡ remove_key test xs
  removed [] = refl
  removed (x ∷ xs) = by (test x) (removed xs)
    where
      at : ℕ
      at = position_or_len test xs

      by : (b : Bool) → remove xs at ≡ remove_key test xs →
          remove (x ∷ xs) (cond (not b) (1 + at) 0) ≡ cond b xs (x ∷ remove_key test xs)
      by true again = refl
      by false again =
          let next : 1 + at ≡ suc at = omega arith in ap (remove (x ∷ xs)) next ∙ ap (λ rest. x ∷ rest) again

  -- at the position where one passes, the first is removed
  pub removed_at : (xs : List X) (at : ℕ) → position test xs ≡ Some at → remove xs at ≡ remove_key test xs
  removed_at xs at is = by (nat_lt (position_or_len test xs) (length xs)) is
    where
      by : (b : Bool) → cond b (Some (position_or_len test xs)) None ≡ Some at → remove xs at ≡ remove_key test xs
      by true e = ap (remove xs) (sym (ap (λ o. unwrap_or o at) e)) ∙ removed xs
      by false e = absurd (cc)

  -- where none passes, all stay
  pub none_removed : (xs : List X) → position test xs ≡ None → xs ≡ remove_key test xs
  none_removed xs none = by (nat_lt (position_or_len test xs) (length xs)) refl none
    where
      all_stay : (at : ℕ) → length xs ≤ at → xs ≡ remove xs at
      all_stay at past =
          let rest : drop (suc at) xs ≡ [] = drop_all (suc at) xs (omega (arith, past)) in
          sym (ap (λ front. front ++ drop (suc at) xs) (take_all at xs past) ∙ ap (λ behind. xs ++ behind) rest ∙ append-nil xs)

      by : (b : Bool) → nat_lt (position_or_len test xs) (length xs) ≡ b →
          cond b (Some (position_or_len test xs)) None ≡ None → xs ≡ remove_key test xs
      by true e is = absurd (cc)
      by false e is = all_stay (position_or_len test xs) (grind (arith, nat_tests)) ∙ removed xs

  -- the first that is found is the first that passes
  found_first : (xs : List X) → find test xs ≡ slice_get (filter test xs) 0
  found_first [] = refl
  found_first (x ∷ xs) = by (test x) (found_first xs)
    where
      by : (b : Bool) → find test xs ≡ slice_get (filter test xs) 0 →
          (if b then Some x else find test xs) ≡ slice_get (if b then x ∷ filter test xs else filter test xs) 0
      by true again = refl
      by false again = again

  -- those that pass are without their first
  rest_passes : (xs : List X) → filter test (remove_key test xs) ≡ drop 1 (filter test xs)
  rest_passes [] = refl
  rest_passes (x ∷ xs) = by (test x) refl (rest_passes xs)
    where
      by : (b : Bool) → test x ≡ b → filter test (remove_key test xs) ≡ drop 1 (filter test xs) →
          filter test (cond b xs (x ∷ remove_key test xs)) ≡ drop 1 (if b then x ∷ filter test xs else filter test xs)
      by true is again = refl
      by false is again = ap (λ b. if b then x ∷ filter test (remove_key test xs) else filter test (remove_key test xs)) is ∙ again

-- one after another, the last one again and again: once the first of several is gone, each is what the next one was
turns : {X : Type 0} (several : Bool) (xs : List X) (behind : ℕ) → nat_lt 1 (length xs) ≡ several →
    let rest = if several then drop 1 xs else xs in
    slice_get rest (min behind (length rest - 1)) ≡ slice_get xs (min (behind + 1) (length xs - 1))
turns true [] behind is = refl
turns true (x ∷ xs) behind is =
    let some : 0 < length xs = grind (arith, nat_tests) in
    let next : suc (min behind (length xs - 1)) ≡ min (behind + 1) (suc (length xs) - 1) = omega (arith, some) in
    ap (slice_get (x ∷ xs)) next
turns false xs behind is =
    let few : length xs ≤ 1 = grind (arith, nat_tests) in
    let same : min behind (length xs - 1) ≡ min (behind + 1) (length xs - 1) = omega (arith, few) in
    ap (slice_get xs) same

module _ (files : List (List ℕ × List ℕ)) (name : List ℕ) where
  -- the next load finds the first file of its name
  pub bytes_found : option_map (λ file. file.1) (find (is_named name) files) ≡ file_bytes files name 0
  bytes_found =
      let same = filter (is_named name) files in
      ap (option_map (λ file. file.1)) (found_first (is_named name) files ∙ ap (slice_get same) (sym (zero-min (length same - 1))))

  -- once a load of the name is over, each finds what the one behind it would have found
  bytes_move_on : (behind : ℕ) → file_bytes (moved_on files name) name behind ≡ file_bytes files name (behind + 1)
  bytes_move_on behind = by (nat_lt 1 (length same)) refl
    where
      same : List (List ℕ × List ℕ)
      same = filter (is_named name) files

      given : List (List ℕ × List ℕ) → Option (List ℕ)
      given some = option_map (λ file. file.1) (slice_get some (min behind (length some - 1)))

      by : (several : Bool) → nat_lt 1 (length same) ≡ several →
          file_bytes (if several then remove_key (is_named name) files else files) name behind ≡ file_bytes files name (behind + 1)
      by true is = ap given (rest_passes (is_named name) files) ∙ ap (option_map (λ file. file.1)) (turns true same behind is)
      by false is = ap (option_map (λ file. file.1)) (turns false same behind is)

-- so do the answers
pub answers_move_on : (shelf : Shelf) (name : List ℕ) (behind : ℕ) →
    load_behind (loaded shelf name) name behind ≡ load_behind shelf name (behind + 1)
answers_move_on shelf name behind =
    let number : raised (raised shelf.loads + behind) ≡ raised (shelf.loads + (behind + 1)) = omega arith in
    ap (λ n. answer n (file_bytes (moved_on shelf.held name) name behind)) number
    ∙ ap (answer (raised (shelf.loads + (behind + 1)))) (bytes_move_on shelf.held name behind)
  where
    answer : ℕ → Option (List ℕ) → Load
    answer number bytes = if list_any (λ n. n == number) shelf.failed then Failed else load_of bytes
