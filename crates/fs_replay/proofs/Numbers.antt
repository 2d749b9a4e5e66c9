-- Words and numbers are read as they are written, and what is read is written so.
use Rattle.std.proofs.Common.{◌≡◌, ◌⊎◌, inl, inr, ℕ, zero, suc, ◌<◌, ◌^◌, Bool, true, false, not, ◌&&◌, ◌||◌, nat_eq, nat_lt, nat_le, List, [], ◌∷◌, ◌++◌, length, take, drop, get_or}
use Rattle.std.proofs.Common.{Option, None, Some, cond, refl, sym, ap, ◌∙◌, arith, rules, codes, take-append-drop}
use Rattle.std.specs.Char.{is_ascii_digit}
use Rattle.std.specs.List.{list_all, list_any, position_or_len}
use Rattle.std.specs.Fmt.{decimal}
use Rattle.std.specs.Str.Parse.{digits_value}
use Rattle.std.proofs.lemmas.Bool.{and_parts, ltb-false}
use Rattle.std.proofs.lemmas.Bool.Decides.{nat_tests, Decides-eqb}
use Rattle.std.proofs.lemmas.List.{take_at, drop_at}
use Rattle.std.proofs.lemmas.Slice.Eq.{starts_is}
use Rattle.std.proofs.lemmas.Str.Parse.{IsNumeralModel, numerals_by_value}
use Rattle.std.proofs.lemmas.Fmt.{digits_decimal, decimal_digit, first_decimal, decimal-digits_value}
use Rattle.fs_text.specs.Number.{is_u64, read_u64}
use Rattle.fs_text.proofs.NumberLemmas.{read_u64-decimal}
use Rattle.fs_text.proofs.Cuts.{first_behind}
use Rattle.fs_replay.specs.Texts.{field}
use Rattle.fs_replay.specs.Reading.{Read, begins, is_other, number_of, leaving, number_at, field_at, below, conn_at, slot_at, and_then, word_at}

digits : IsNumeralModel (λ text. list_all is_ascii_digit text ≡ true) (digits_value 10)
digits = numerals_by_value _ (search rules)

-- ---- readings

-- what is read is one thing, and one rest
pub one_read : {X : Type 0} (x y : X) (a b : List ℕ) → ◌≡◌ {A = Read X} (Some (x, a)) (Some (y, b)) → (x ≡ y) × (a ≡ b)
one_read {X} x y a b same =
    let both : ◌≡◌ {A = X × List ℕ} (x, a) (y, b) = cc in
    (ap (λ (r : X × List ℕ). r.0) both, ap (λ (r : X × List ℕ). r.1) both)

-- one of two was read
pub one_of : {X : Type 0} (t : Bool) (a b : Option X) (x : X) → cond t a b ≡ Some x → ((t ≡ true) × (a ≡ Some x)) ⊎ ((t ≡ false) × (b ≡ Some x))
one_of true a b x is = inl (refl, is)
one_of false a b x is = inr (refl, is)

-- what follows was read behind something
pub record Follows {X Y : Type 0} (r : Read X) (next : X → List ℕ → Read Y) (y : Y) (left : List ℕ) : Type 0 where
  pub first : X
  pub mid : List ℕ
  pub before : r ≡ Some (first, mid)
  pub behind : next first mid ≡ Some (y, left)

pub follows : {X Y : Type 0} (r : Read X) (next : X → List ℕ → Read Y) (y : Y) (left : List ℕ) → and_then r next ≡ Some (y, left) → Follows r next y left
follows None next y left is = absurd (cc)
follows (Some r) next y left is = record { first = r.0; mid = r.1; before = refl; behind = is }

-- ---- words

-- where the word stands in front, the bytes are the word and what is left behind it
pub word_is : (word bytes : List ℕ) → begins word bytes ≡ true → bytes ≡ word ++ drop (length word) bytes
word_is word bytes found = (starts_is Decides-eqb bytes word (begins word bytes) refl).0 found

-- what is read of a word
pub word_sound : {X : Type 0} (word : List ℕ) (x y : X) (bytes left : List ℕ) → word_at word x bytes ≡ Some (y, left) → (y ≡ x) × (bytes ≡ word ++ left)
word_sound {X} word x y bytes left is = by (begins word bytes) refl is
  where
    by : (t : Bool) → begins word bytes ≡ t → ◌≡◌ {A = Read X} (cond t (Some (x, drop (length word) bytes)) None) (Some (y, left))
        → (y ≡ x) × (bytes ≡ word ++ left)
    by true found same =
        let parts = one_read x y (drop (length word) bytes) left same in
        (sym parts.0, word_is word bytes found ∙ ap (λ l. word ++ l) parts.1)
    by false none same = absurd (cc)

-- ---- digits

no_other : (ds : List ℕ) → list_all is_ascii_digit ds ≡ true → list_any is_other ds ≡ false
no_other [] all = refl
no_other (d ∷ ds) all = by (is_ascii_digit d) all (no_other ds)
  where
    by : (t : Bool) → (t && list_all is_ascii_digit ds) ≡ true → (list_all is_ascii_digit ds ≡ true → list_any is_other ds ≡ false)
        → (not t || list_any is_other ds) ≡ false
    by true h more = more h
    by false h more = absurd (cc)

and_false : (t : Bool) → (t && false) ≡ false
and_false true = refl
and_false false = refl

no_zero : (n : ℕ) → n < 2 ^ 64 → (nat_lt 1 (length (decimal n)) && nat_eq (get_or (decimal n) 0 0) 48) ≡ false
no_zero zero small = rw (decimal_digit 0 (omega arith)) refl
no_zero (suc n) small =
    let first = first_decimal (suc n) (omega arith) small in
    let other : nat_eq (get_or (decimal (suc n)) 0 0) 48 ≡ false = grind (arith, nat_tests) in
    ap (λ t. nat_lt 1 (length (decimal (suc n))) && t) other ∙ and_false _

-- the digits of a number are read as it
pub number_of-decimal : (n : ℕ) → n < 2 ^ 64 → number_of (decimal n) ≡ Some n
unfolding number_of
number_of-decimal n small = ap (λ t. cond t None (read_u64 (decimal n))) (no_zero n small) ∙ read_u64-decimal n small

alone : (l x : ℕ) → (nat_lt 1 l && nat_eq x 48) ≡ false → 0 < l → x ≡ 48 → l ≡ 1
alone l x plain some is = by (nat_lt 1 l) refl plain
  where
    by : (t : Bool) → nat_lt 1 l ≡ t → (t && nat_eq x 48) ≡ false → l ≡ 1
    by true long h =
        let zero : nat_eq x 48 ≡ true = grind (arith, nat_tests) in
        absurd (cc)
    by false short h = omega (arith, ltb-false 1 l short)

digits_parts : (ds : List ℕ) → is_u64 ds ≡ true → (0 < length ds) × (list_all is_ascii_digit ds ≡ true) × (digits_value 10 ds < 2 ^ 64)
digits_parts ds does =
    let outer = and_parts _ (nat_lt (digits_value 10 ds) (2 ^ 64)) does in
    let inner = and_parts _ (list_all is_ascii_digit ds) outer.0 in
    let short = and_parts (nat_le 1 (length ds)) (nat_le (length ds) 20) inner.0 in
    (some (length ds) short.0, inner.1, under (digits_value 10 ds) (2 ^ 64) outer.1)
  where
    some : (l : ℕ) → nat_le 1 l ≡ true → 0 < l
    some l h = grind (arith, nat_tests)

    under : (a b : ℕ) → nat_lt a b ≡ true → a < b
    under a b h = grind (arith, nat_tests)

digits_are : (ds : List ℕ) (n : ℕ) → (nat_lt 1 (length ds) && nat_eq (get_or ds 0 0) 48) ≡ false → read_u64 ds ≡ Some n → (ds ≡ decimal n) × (n < 2 ^ 64)
unfolding read_u64
digits_are ds n plain is = by (is_u64 ds) refl is
  where
    by : (t : Bool) → is_u64 ds ≡ t → ◌≡◌ {A = Option ℕ} (cond t (Some (digits_value 10 ds)) None) (Some n) → (ds ≡ decimal n) × (n < 2 ^ 64)
    by true does same =
        let value : digits_value 10 ds ≡ n = cc in
        let parts = digits_parts ds does in
        let written = decimal-digits_value digits ds parts.1 parts.0 (alone (length ds) (get_or ds 0 0) plain parts.0) parts.2 in
        (sym written ∙ ap decimal value, rw (← value) parts.2)
    by false does_not same = absurd (cc)

-- what is read as a number is its digits
pub number_of_sound : (ds : List ℕ) (n : ℕ) → number_of ds ≡ Some n → (ds ≡ decimal n) × (n < 2 ^ 64)
unfolding number_of
number_of_sound ds n is = by (nat_lt 1 (length ds) && nat_eq (get_or ds 0 0) 48) refl is
  where
    by : (t : Bool) → (nat_lt 1 (length ds) && nat_eq (get_or ds 0 0) 48) ≡ t → ◌≡◌ {A = Option ℕ} (cond t None (read_u64 ds)) (Some n)
        → (ds ≡ decimal n) × (n < 2 ^ 64)
    by true leading same = absurd (cc)
    by false plain same = digits_are ds n plain same

number_complete : (n c : ℕ) (rest : List ℕ) → n < 2 ^ 64 → is_other c ≡ true → number_at (decimal n ++ c ∷ rest) ≡ Some (n, c ∷ rest)
number_complete n c rest small other =
    let bytes = decimal n ++ c ∷ rest in
    let at = position_or_len is_other bytes in
    let len = sym (first_behind is_other (decimal n) c rest (no_other (decimal n) (digits_decimal digits n small)) other) in
    let front = take_at (decimal n) (c ∷ rest) at len in
    let back = drop_at (decimal n) (c ∷ rest) at len in
    ap (λ (l : List ℕ). leaving l (number_of (take at bytes))) back ∙ ap (λ (ds : List ℕ). leaving (c ∷ rest) (number_of ds)) front
    ∙ ap (leaving (c ∷ rest)) (number_of-decimal n small)

number_sound : (n : ℕ) (bytes left : List ℕ) → number_at bytes ≡ Some (n, left) → (bytes ≡ decimal n ++ left) × (n < 2 ^ 64)
number_sound n bytes left is = by (number_of (take (position_or_len is_other bytes) bytes)) refl is
  where
    by : (o : Option ℕ) → number_of (take (position_or_len is_other bytes) bytes) ≡ o → leaving (drop (position_or_len is_other bytes) bytes) o ≡ Some (n, left)
        → (bytes ≡ decimal n ++ left) × (n < 2 ^ 64)
    by None none same = absurd (cc)
    by (Some m) some same =
        let parts = one_read m n (drop (position_or_len is_other bytes) bytes) left same in
        let written = number_of_sound (take (position_or_len is_other bytes) bytes) n (some ∙ ap Some parts.0) in (
          sym (take-append-drop (position_or_len is_other bytes) bytes)
              ∙ ap (λ (l : List ℕ). l ++ drop (position_or_len is_other bytes) bytes) written.0 ∙ ap (λ (l : List ℕ). decimal n ++ l) parts.1,
          written.1,
        )

-- ---- numbers with the space in front of them

pub field_complete : (n c : ℕ) (rest : List ℕ) → n < 2 ^ 64 → is_other c ≡ true → field_at (field n ++ c ∷ rest) ≡ Some (n, c ∷ rest)
unfolding field_at
field_complete n c rest small other = number_complete n c rest small other

pub field_sound : (n : ℕ) (bytes left : List ℕ) → field_at bytes ≡ Some (n, left) → (bytes ≡ field n ++ left) × (n < 2 ^ 64)
unfolding field_at
field_sound n bytes left is = by (begins (codes " ") bytes) refl is
  where
    by : (t : Bool) → begins (codes " ") bytes ≡ t → ◌≡◌ {A = Read ℕ} (cond t (number_at (drop 1 bytes)) None) (Some (n, left))
        → (bytes ≡ field n ++ left) × (n < 2 ^ 64)
    by true found same =
        let parts = number_sound n (drop 1 bytes) left same in
        (word_is (codes " ") bytes found ∙ ap (λ (l : List ℕ). 32 ∷ l) parts.0, parts.1)
    by false none same = absurd (cc)

below_complete : (limit n : ℕ) (left : List ℕ) (r : Read ℕ) → n < limit → r ≡ Some (n, left) → below limit r ≡ Some (n, left)
below_complete limit n left r small is =
    let under : nat_lt n limit ≡ true = grind (arith, nat_tests) in
    ap (below limit) is ∙ ap (λ t. cond {A = Read ℕ} t (Some (n, left)) None) under

below_sound : (limit n : ℕ) (left : List ℕ) (r : Read ℕ) → below limit r ≡ Some (n, left) → (r ≡ Some (n, left)) × (n < limit)
below_sound limit n left None is = absurd (cc)
below_sound limit n left (Some r) is = by (nat_lt r.0 limit) refl is
  where
    by : (t : Bool) → nat_lt r.0 limit ≡ t → ◌≡◌ {A = Read ℕ} (cond t (Some r) None) (Some (n, left)) → (◌≡◌ {A = Read ℕ} (Some r) (Some (n, left))) × (n < limit)
    by true under same =
        let parts = one_read r.0 n r.1 left same in
        let small : r.0 < limit = grind (arith, nat_tests) in
        (same, rw (← parts.0) small)
    by false over same = absurd (cc)

pub conn_complete : (n c : ℕ) (rest : List ℕ) → n < 2 ^ 32 → is_other c ≡ true → conn_at (field n ++ c ∷ rest) ≡ Some (n, c ∷ rest)
unfolding conn_at
conn_complete n c rest small other = below_complete (2 ^ 32) n (c ∷ rest) _ small (field_complete n c rest (omega arith) other)

pub conn_sound : (n : ℕ) (bytes left : List ℕ) → conn_at bytes ≡ Some (n, left) → (bytes ≡ field n ++ left) × (n < 2 ^ 32)
unfolding conn_at
conn_sound n bytes left is =
    let parts = below_sound (2 ^ 32) n left (field_at bytes) is in
    ((field_sound n bytes left parts.0).0, parts.1)

pub slot_complete : (n c : ℕ) (rest : List ℕ) → n < 2 ^ 16 → is_other c ≡ true → slot_at (field n ++ c ∷ rest) ≡ Some (n, c ∷ rest)
unfolding slot_at
slot_complete n c rest small other = below_complete (2 ^ 16) n (c ∷ rest) _ small (field_complete n c rest (omega arith) other)

pub slot_sound : (n : ℕ) (bytes left : List ℕ) → slot_at bytes ≡ Some (n, left) → (bytes ≡ field n ++ left) × (n < 2 ^ 16)
unfolding slot_at
slot_sound n bytes left is =
    let parts = below_sound (2 ^ 16) n left (field_at bytes) is in
    ((field_sound n bytes left parts.0).0, parts.1)
