-- Pairs are read as what they spell.
use Rattle.std.proofs.Common.{◌≡◌, ◌≢◌, ℕ, zero, suc, ◌+◌, ◌<◌, take, drop, true, false, List, [], ◌∷◌, ◌++◌, length, Option, Result, Ok}
use Rattle.std.proofs.Common.{Err, refl, sym, ap, ◌∙◌, subst, append_assoc, append-nil, arith}
use Rattle.std.specs.List.{position_or_len, list_any, before_first}
use Rattle.std.proofs.lemmas.List.{length-append}
use Rattle.std.proofs.Math.Seq.{take-append_seam, drop-append_seam}
use Rattle.fs_dial.specs.declared.fault.DialFault.{DialFault}
use Rattle.fs_dial.specs.declared.guard.Guard.TheVariants.{Bare}
use Rattle.fs_dial.specs.Results.{◌>>=◌}
use Rattle.fs_dial.specs.Guards.{from_mark, front_of, offset}
use Rattle.fs_dial.specs.Pairs.{Pair, Pairs, is_equals, pair_on, pair_at, behind, pair_step, go_on, pairs_within, pairs_at}
use Rattle.fs_dial.specs.Spelling.{Protects, IsPair, ArePairs, LastPair, NextPair, Holds}
use Rattle.fs_dial.proofs.Cuts.{eqb-true, front_is, first_offset, Cut, cut_at}
use Rattle.fs_dial.proofs.Marks.{passed, found, guard_over, Before, before, Found, found_mark, over, over_mark}

-- ---- one pair

equals_passes : is_equals 61 ≡ true
equals_passes = refl

cut_here : (at separator : ℕ) (name value : List ℕ) → name ≢ [] →
    pair_on at separator name (61 ∷ value) ≡ Ok (record { at = at; name = name; value = value; separator = separator })
unfolding pair_on
cut_here at separator [] value named = absurd (named refl)
cut_here at separator (b ∷ name) value named = refl

named_read : (at separator : ℕ) (name value : List ℕ) → name ≢ [] → list_any is_equals name ≡ false
    → pair_at at separator (name ++ (61 ∷ value)) ≡ Ok (record { at = at; name = name; value = value; separator = separator })
unfolding pair_at
named_read at separator name value named first =
    let whole : List ℕ = name ++ (61 ∷ value) in
    let size = first_offset is_equals name 61 value first equals_passes in
    let front : before_first is_equals whole ≡ name = ap (λ n. take n whole) size ∙ take-append_seam name (61 ∷ value) in
    let from : drop (position_or_len is_equals whole) whole ≡ 61 ∷ value = ap (λ n. drop n whole) size
    ∙ drop-append_seam name (61 ∷ value) in
    ap (λ n. pair_on at separator n (drop (position_or_len is_equals whole) whole)) front ∙ ap (pair_on at separator name) from
    ∙ cut_here at separator name value named

pair_read : (at separator : ℕ) (bytes : List ℕ) (pair : Pair) → IsPair at separator bytes pair → pair_at at separator bytes ≡ Ok pair
pair_read at separator bytes pair is =
    rw (is.whole, ← is.is_at, ← is.is_separated) (named_read pair.at pair.separator pair.name pair.value is.named is.first)

abbrev read_as : Pair → Result Pair DialFault
read_as pair = Ok pair

same_pair : (x y : Pair) → read_as x ≡ read_as y → x ≡ y
same_pair x y e = cc

pair_spelt : (at separator : ℕ) (bytes : List ℕ) (pair : Pair) → pair_at at separator bytes ≡ Ok pair → IsPair at separator bytes pair
unfolding pair_at pair_on
pair_spelt at separator bytes pair e =
    by (before_first is_equals bytes) (drop (position_or_len is_equals bytes) bytes) (cut_at is_equals bytes) e
  where
    by : (name from : List ℕ) → Cut is_equals bytes name from → pair_on at separator name from ≡ Ok pair → IsPair at separator bytes pair
    by [] from cut e = absurd (cc)
    by (b ∷ name) [] cut e = absurd (cc)
    by (b ∷ name) (c ∷ value) cut e =
        let is : c ≡ 61 = eqb-true c 61 (cut.here c value refl) in
        let P : Pair → Type 0 = λ p. IsPair at separator bytes p in
        subst P (same_pair _ pair e) (record {
          is_at = refl;
          is_separated = refl;
          whole = cut.whole ∙ ap (λ q. (b ∷ name) ++ (q ∷ value)) is;
          named = λ none. absurd (cc);
          first = cut.none;
        })

-- ---- what is spelt is read

abbrev pub Step : Type 0
Step = Result (List Pair × Option (List ℕ)) DialFault

step_read : (end separator : ℕ) (so_far : List Pair) (bytes front from : List ℕ) (pair : Pair) → from_mark separator Bare bytes ≡ from →
    bytes ≡ front ++ from → pair_at (offset end bytes) separator front ≡ Ok pair
    → pair_step end separator so_far bytes ≡ Ok (so_far ++ pair ∷ [], behind from)
unfolding pair_step
step_read end separator so_far bytes front from pair mark whole reads =
    let same : front_of bytes from ≡ front = ap (λ l. front_of l from) whole ∙ front_is front from in
    let taken : List ℕ → List ℕ →
    Step = λ piece rest. (pair_at (offset end bytes) separator piece >>= λ p. Ok (so_far ++ p ∷ [], behind rest)) in
    ap (λ rest. taken (front_of bytes rest) rest) mark ∙ ap (λ piece. taken piece from) same
    ∙ ap (λ (r : Result Pair DialFault). r >>= λ p. Ok (so_far ++ p ∷ [], behind from)) reads

pairs_read : (end separator : ℕ) (bytes : List ℕ) (pairs : List Pair) → ArePairs end separator bytes pairs →
    (more : ℕ) (so_far : List Pair) → length bytes < more
    → pairs_within more end separator so_far bytes ≡ Ok (so_far ++ pairs)
pairs_read end separator bytes pairs are zero so_far enough = absurd (omega arith)
pairs_read end separator bytes pairs (LastPair piece pair protects is) (suc more) so_far enough =
    let none : from_mark separator Bare piece ≡ [] = ap (from_mark separator Bare) (sym (append-nil piece))
    ∙ passed separator piece [] protects in
    let step =
    step_read end separator so_far piece piece [] pair none (sym (append-nil piece))
    (pair_read (offset end piece) separator piece pair is) in
    ap (λ (r : Step). r >>= λ x. go_on (λ next rest. pairs_within more end separator next rest) x) step
pairs_read end separator bytes pairs (NextPair piece rest pair others protects plain is are) (suc more) so_far enough =
    let whole : List ℕ = piece ++ (separator ∷ rest) in
    let mark : from_mark separator Bare whole ≡ separator ∷ rest = passed separator piece (separator ∷ rest) protects
    ∙ found separator rest plain in
    let step =
    step_read end separator so_far whole piece (separator ∷ rest) pair mark refl
    (pair_read (offset end whole) separator piece pair is) in
    let fewer : length rest < more = omega (arith, enough, length-append piece (separator ∷ rest)) in
    ap (λ (r : Step). r >>= λ x. go_on (λ next rest. pairs_within more end separator next rest) x) step
    ∙ pairs_read end separator rest others are more (so_far ++ pair ∷ []) fewer ∙ ap (λ l. Ok l) (append_assoc so_far (pair ∷ []) others)

pub content_read : (end separator : ℕ) (content : List ℕ) (pairs so_far : List Pair) → Holds end separator content pairs →
    pairs_at end separator so_far content ≡ Ok (so_far ++ pairs)
unfolding pairs_at
content_read end separator [] pairs so_far none = ap (λ l. Ok l) (sym (append-nil so_far) ∙ ap (λ l. so_far ++ l) (sym none))
content_read end separator (b ∷ bytes) pairs so_far are =
    pairs_read end separator (b ∷ bytes) pairs are (length (b ∷ bytes) + 1) so_far (omega arith)

-- ---- what is read is spelt

abbrev read_all : List Pair → Pairs
read_all pairs = Ok pairs

pub same_pairs : (x y : List Pair) → read_all x ≡ read_all y → x ≡ y
same_pairs x y e = cc

-- the pairs that were read behind those so far
pub record PairsSpelt (end separator : ℕ) (so_far all : List Pair) (bytes : List ℕ) : Type 0 where
  pub pairs : List Pair
  pub are : ArePairs end separator bytes pairs
  pub all_are : all ≡ so_far ++ pairs

last_spelt : (end separator : ℕ) (so_far all : List Pair) (bytes front : List ℕ) (pair : Pair) → bytes ≡ front ++ [] →
    Protects separator front → pair_at (offset end bytes) separator front ≡ Ok pair
    → so_far ++ pair ∷ [] ≡ all → PairsSpelt end separator so_far all bytes
last_spelt end separator so_far all bytes front pair whole protects reads all_are =
    let same : bytes ≡ front = whole ∙ append-nil front in
    let P : List ℕ → Type 0 = λ l. ArePairs end separator l (pair ∷ []) in
    let is = pair_spelt (offset end front) separator front pair (ap (λ l. pair_at (offset end l) separator front) (sym same) ∙ reads) in
    record { pairs = pair ∷ []; are = subst P (sym same) (LastPair front pair protects is); all_are = sym all_are }

next_spelt : (end separator : ℕ) (so_far all : List Pair) (bytes front rest : List ℕ) (b : ℕ) (pair : Pair) → bytes ≡ front ++ (b ∷ rest) →
    Found separator b → Protects separator front
    → pair_at (offset end bytes) separator front ≡ Ok pair → PairsSpelt end separator (so_far ++ pair ∷ []) all rest →
    PairsSpelt end separator so_far all bytes
next_spelt end separator so_far all bytes front rest b pair whole mark protects reads on =
    let same : bytes ≡ front ++ (separator ∷ rest) = whole ∙ ap (λ c. front ++ (c ∷ rest)) mark.same in
    let P : List ℕ → Type 0 = λ l. ArePairs end separator l (pair ∷ on.pairs) in
    let is = pair_spelt (offset end (front ++ (separator ∷ rest))) separator front pair
    (ap (λ l. pair_at (offset end l) separator front) (sym same) ∙ reads) in
    record {
      pairs = pair ∷ on.pairs;
      are = subst P (sym same) (NextPair front rest pair on.pairs protects mark.plain is on.are);
      all_are = on.all_are ∙ append_assoc so_far (pair ∷ []) on.pairs;
    }

-- behind a mark the bytes end unprotected too
rest_ends : (separator : ℕ) (bytes front rest : List ℕ) (b : ℕ) → bytes ≡ front ++ (b ∷ rest) → Found separator b →
    Protects separator front → guard_over Bare bytes ≡ Bare → guard_over Bare rest ≡ Bare
rest_ends separator bytes front rest b whole mark protects ends =
    let same : bytes ≡ front ++ (separator ∷ rest) = whole ∙ ap (λ c. front ++ (c ∷ rest)) mark.same in
    sym (over_mark separator rest mark.plain) ∙ sym (over separator front (separator ∷ rest) protects) ∙ ap (guard_over Bare) (sym same)
    ∙ ends

abbrev Again : ℕ → ℕ → ℕ → List Pair → Type 0
Again more end separator all =
    (so_far : List Pair) (bytes : List ℕ) → pairs_within more end separator so_far bytes ≡ Ok all → length bytes < more →
    guard_over Bare bytes ≡ Bare → PairsSpelt end separator so_far all bytes

one_more : (more end separator : ℕ) (so_far all : List Pair) (bytes from : List ℕ) → from_mark separator Bare bytes ≡ from →
    length bytes < suc more → guard_over Bare bytes ≡ Bare → Again more end separator all
    → ((pair_at (offset end bytes) separator (front_of bytes from) >>= λ p. Ok (so_far ++ p ∷ [], behind from)) >>= λ x. go_on
    (λ next rest. pairs_within more end separator next rest) x) ≡ Ok all
    → PairsSpelt end separator so_far all bytes
one_more more end separator so_far all bytes from mark enough ends again e =
    let b = before separator Bare bytes from mark (λ _. ends) in
    let same : front_of bytes from ≡ b.front = ap (λ l. front_of l from) b.whole ∙ front_is b.front from in
    by b (pair_at (offset end bytes) separator b.front) refl from refl mark
    (ap (λ piece. (pair_at (offset end bytes) separator piece >>= λ p. Ok (so_far ++ p ∷ [], behind from)) >>= λ x. go_on
    (λ next rest. pairs_within more end separator next rest) x) (sym same) ∙ e)
  where
    by : (b : Before separator Bare bytes from) (r : Result Pair DialFault) → pair_at (offset end bytes) separator b.front ≡ r →
        (f : List ℕ) → from ≡ f → from_mark separator Bare bytes ≡ f
        → ((r >>= λ p. Ok (so_far ++ p ∷ [], behind f)) >>= λ x. go_on (λ next rest. pairs_within more end separator next rest) x) ≡ Ok
        all → PairsSpelt end separator so_far all bytes
    by b (Err f) reads from is mark e = absurd (cc)
    by b (Ok pair) reads [] is mark e =
        last_spelt end separator so_far all bytes b.front pair (b.whole ∙ ap (λ l. b.front ++ l) is) b.is reads
        (same_pairs (so_far ++ pair ∷ []) all e)
    by b (Ok pair) reads (c ∷ rest) is mark e =
        let whole : bytes ≡ b.front ++ (c ∷ rest) = b.whole ∙ ap (λ l. b.front ++ l) is in
        let found = found_mark separator Bare bytes c rest mark in
        let fewer : length rest < more = omega (arith, enough, ap length whole, length-append b.front (c ∷ rest)) in
        next_spelt end separator so_far all bytes b.front rest c pair whole found b.is reads
        (again (so_far ++ pair ∷ []) rest e fewer (rest_ends separator bytes b.front rest c whole found b.is ends))

pairs_spelt : (more end separator : ℕ) (all so_far : List Pair) (bytes : List ℕ) → pairs_within more end separator so_far bytes ≡ Ok all →
    length bytes < more → guard_over Bare bytes ≡ Bare
    → PairsSpelt end separator so_far all bytes
unfolding pair_step
pairs_spelt zero end separator all so_far bytes e enough ends = absurd (omega arith)
pairs_spelt (suc more) end separator all so_far bytes e enough ends =
    one_more more end separator so_far all bytes (from_mark separator Bare bytes) refl enough ends
    (λ so rest reads fewer more_ends. pairs_spelt more end separator all so rest reads fewer more_ends) e

pub record ContentSpelt (end separator : ℕ) (so_far all : List Pair) (content : List ℕ) : Type 0 where
  pub pairs : List Pair
  pub holds : Holds end separator content pairs
  pub all_are : all ≡ so_far ++ pairs

pub content_spelt : (end separator : ℕ) (so_far all : List Pair) (content : List ℕ) → pairs_at end separator so_far content ≡ Ok all →
    guard_over Bare content ≡ Bare → ContentSpelt end separator so_far all content
unfolding pairs_at
content_spelt end separator so_far all [] e ends =
    record { pairs = []; holds = refl; all_are = sym (same_pairs so_far all e) ∙ sym (append-nil so_far) }
content_spelt end separator so_far all (b ∷ bytes) e ends =
    let s = pairs_spelt (length (b ∷ bytes) + 1) end separator all so_far (b ∷ bytes) e (omega arith) ends in
    record { pairs = s.pairs; holds = s.are; all_are = s.all_are }
