-- The names of a comma list, cut off one after another.
use Rattle.std.proofs.Common.{◌≡◌, ℕ, ◌<◌, Bool, true, false, cond, List, [], ◌∷◌, ◌++◌, length, Option, None, Some, refl, sym, ap, ◌∙◌}
use Rattle.std.proofs.Common.{filter_map, option_to_list, append_assoc}
use Rattle.std.specs.List.{slice_split, position_or_len, list_any, cons_option}
use Rattle.std.proofs.lemmas.Bool.{or_parts, ltb-true}
use Rattle.std.proofs.lemmas.List.Splits.{slice_split_first, slice_split-cons_no}
use Rattle.fs_text.specs.Words.{is_byte, before_byte, behind_byte, halves_of}
use Rattle.fs_text.specs.Texts.{Text}
use Rattle.fs_text.proofs.Cuts.{found, none_cut}
use Rattle.fs_chan.specs.Exports.{names_of}

-- without a comma there is one name
pub one_name : (list : Text) → halves_of 44 list ≡ None → names_of list ≡ list ∷ []
one_name list whole = without list (none_cut 44 list whole)
  where
    without : (xs : Text) → list_any (is_byte 44) xs ≡ false → slice_split (is_byte 44) xs ≡ xs ∷ []
    without [] none = refl
    without (x ∷ xs) none =
        let parts = or_parts (is_byte 44 x) (list_any (is_byte 44) xs) none in
        slice_split-cons_no (is_byte 44) x xs parts.0 ∙ rw (without xs parts.1) refl

-- with one, the first name stands before it and the others behind it
pub first_name : (list name rest : Text) → halves_of 44 list ≡ Some (name, rest) → names_of list ≡ name ∷ names_of rest
unfolding halves_of
first_name list name rest e = by (list_any (is_byte 44) list) refl e
  where
    by : (t : Bool) → list_any (is_byte 44) list ≡ t →
        cond {A = Option (List ℕ × List ℕ)} t (Some (before_byte 44 list, behind_byte 44 list)) None ≡ Some (name, rest)
        → names_of list ≡ name ∷ names_of rest
    by true some is =
        let both : ◌≡◌ {A = List ℕ × List ℕ} (before_byte 44 list, behind_byte 44 list) (name, rest) = cc in
        let front : before_byte 44 list ≡ name = ap (λ (x : List ℕ × List ℕ). x.0) both in
        let back : behind_byte 44 list ≡ rest = ap (λ (x : List ℕ × List ℕ). x.1) both in
        let within : position_or_len (is_byte 44) list < length list = ltb-true _ _ (sym (found (is_byte 44) list) ∙ some) in
        rw (← front, ← back) (slice_split_first (is_byte 44) list 0 within)
    by false none is = absurd (cc)

-- ---- what is told of names

option_alone : {X : Type 0} (o : Option X) (xs : List X) → cons_option o xs ≡ option_to_list o ++ xs
option_alone None xs = refl
option_alone (Some x) xs = refl

-- one more name: what was told of those before it, and what is told of all behind it, is all that is told
pub told_next : {X Y : Type 0} (tell : X → Option Y) (before all : List Y) (name : X) (names behind : List X) →
    names ≡ name ∷ behind → before ++ filter_map tell names ≡ all → (before ++ option_to_list (tell name)) ++ filter_map tell behind ≡ all
told_next tell before all name names behind first whole =
    append_assoc before (option_to_list (tell name)) (filter_map tell behind)
    ∙ ap (λ more. before ++ more) (sym (option_alone (tell name) (filter_map tell behind)))
    ∙ ap (λ more. before ++ filter_map tell more) (sym first)
    ∙ whole
