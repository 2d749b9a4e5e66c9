-- Each part of a dial string stands in its text at its offset.
use Rattle.std.proofs.Common.{◌≡◌, ℕ, ◌+◌, Bool, true, false, cond, not, ◌&&◌, ◌==◌, List, [], ◌∷◌, ◌++◌, length, refl, sym, ap, ◌∙◌}
use Rattle.std.proofs.Common.{append_assoc, arith}
use Rattle.std.specs.List.{AllByRecursion}
use Rattle.std.proofs.lemmas.List.{length-append}
use Rattle.fs_dial.specs.declared.bracket.Bracket.{Bracket}
use Rattle.fs_dial.specs.declared.bracket.Bracket.TheVariants.{Brace, Square}
use Rattle.fs_dial.specs.Guards.{offset}
use Rattle.fs_dial.specs.Pairs.{Pair}
use Rattle.fs_dial.specs.Brackets.{opener_of, closer_of, lead_of}
use Rattle.fs_dial.specs.Legs.{LegText}
use Rattle.fs_dial.specs.DialStrings.{Dial}
use Rattle.fs_dial.specs.Spelling.{IsPair, ArePairs, LastPair, NextPair, Holds, IsBracket, AreBrackets, NoBracket, OneBracket, IsLeg}
use Rattle.fs_dial.specs.Spelling.{AreLegs, LastLeg, SameGroup, NextGroup, Spells}
use Rattle.fs_dial.specs.Offsets.{PairStands, LegStands, DialStands}

all_append : {X : Type 0} (P : X → Type 0) (xs ys : List X) → AllByRecursion P xs → AllByRecursion P ys → AllByRecursion P (xs ++ ys)
all_append P [] ys a b = b
all_append P (x ∷ xs) ys a b = (a.0, all_append P xs ys a.1 b)

-- ---- pairs

-- bytes that end at an offset of a text
pub record EndsAt (text : List ℕ) (end : ℕ) (bytes : List ℕ) : Type 0 where
  pub before : List ℕ
  pub tail : List ℕ
  pub whole : text ≡ before ++ (bytes ++ tail)
  pub size : length before + length bytes ≡ end

-- what is behind some bytes ends there too
behind_ends : (text : List ℕ) (end : ℕ) (front rest : List ℕ) → EndsAt text end (front ++ rest) → EndsAt text end rest
behind_ends text end front rest e = record {
  before = e.before ++ front;
  tail = e.tail;
  whole = e.whole ∙ ap (λ l. e.before ++ l) (append_assoc front rest e.tail) ∙ sym (append_assoc e.before front (rest ++ e.tail));
  size = omega (arith, e.size, length-append front rest, length-append e.before front);
}

-- a pair in front of them stands where they begin
pair_stands : (text : List ℕ) (end separator : ℕ) (front rest : List ℕ) (pair : Pair) → EndsAt text end (front ++ rest) →
    IsPair (offset end (front ++ rest)) separator front pair → PairStands text pair
pair_stands text end separator front rest pair e is = record {
  before = e.before;
  behind = rest ++ e.tail;
  whole = e.whole ∙ ap (λ l. e.before ++ l) (append_assoc front rest e.tail) ∙ ap (λ l. e.before ++ (l ++ (rest ++ e.tail))) is.whole;
  is_at = omega (arith, e.size) ∙ sym is.is_at;
}

pairs_stand : (text : List ℕ) (end separator : ℕ) (bytes : List ℕ) (pairs : List Pair) → ArePairs end separator bytes pairs →
    EndsAt text end bytes → AllByRecursion (PairStands text) pairs
pairs_stand text end separator bytes pairs (LastPair piece pair protects is) e = (
  record {
    before = e.before;
    behind = e.tail;
    whole = e.whole ∙ ap (λ l. e.before ++ (l ++ e.tail)) is.whole;
    is_at = omega (arith, e.size) ∙ sym is.is_at;
  },
  tt,
)
pairs_stand text end separator bytes pairs (NextPair piece rest pair others protects plain is are) e =
    let assoc : (piece ++ (separator ∷ [])) ++ rest ≡ piece ++ (separator ∷ rest) = append_assoc piece (separator ∷ []) rest in
    let on : EndsAt text end ((piece ++ (separator ∷ [])) ++ rest) = rw assoc e in (
      pair_stands text end separator piece (separator ∷ rest) pair e is,
      pairs_stand text end separator rest others are
          (behind_ends text end (piece ++ (separator ∷ [])) rest on),
    )

content_stands : (text : List ℕ) (end separator : ℕ) (content : List ℕ) (pairs : List Pair) → Holds end separator content pairs →
    EndsAt text end content → AllByRecursion (PairStands text) pairs
content_stands text end separator [] pairs none e = rw none tt
content_stands text end separator (b ∷ bytes) pairs are e = pairs_stand text end separator (b ∷ bytes) pairs are e

-- ---- brackets

pub record Leads (inside rest : List ℕ) : Type 0 where
  pub lead : List ℕ
  pub whole : inside ≡ lead ++ rest

leads : (closer : ℕ) (inside : List ℕ) → Leads inside (lead_of closer inside).1
unfolding lead_of
leads closer [] = record { lead = []; whole = refl }
leads closer (a ∷ []) = record { lead = []; whole = refl }
leads closer (a ∷ b ∷ []) = record { lead = []; whole = refl }
leads closer (a ∷ b ∷ x ∷ bytes) = by (a == 94 && b == 94 && not (x == closer))
  where
    by : (t : Bool) → Leads (a ∷ b ∷ x ∷ bytes) (cond {A = ℕ × List ℕ} t (x, bytes) (44, a ∷ b ∷ x ∷ bytes)).1
    by true = record { lead = a ∷ b ∷ x ∷ []; whole = refl }
    by false = record { lead = []; whole = refl }

-- a rest of a text
pub record Rest (text rest : List ℕ) : Type 0 where
  pub before : List ℕ
  pub whole : text ≡ before ++ rest

further : (text front rest : List ℕ) → Rest text (front ++ rest) → Rest text rest
further text front rest r = record { before = r.before ++ front; whole = r.whole ∙ sym (append_assoc r.before front rest) }

-- what stands in front of a rest ends where that begins
ends_there : (text content rest : List ℕ) → Rest text (content ++ rest) → EndsAt text (offset (length text) rest) content
ends_there text content rest r = record {
  before = r.before;
  tail = rest;
  whole = r.whole;
  size = omega (arith, ap length r.whole, length-append r.before (content ++ rest), length-append content rest);
}

-- behind a bracket's lead stand its content, the mark that ends it, and the rest
inside_rest : (shape : Bracket) (end : ℕ) (text front rest : List ℕ) (pairs : List Pair) (is : IsBracket shape end front rest pairs) →
    Rest text front → Rest text (is.content ++ (closer_of shape ∷ rest))
inside_rest shape end text front rest pairs is r =
    let l = leads (closer_of shape) is.inside in
    let same : (lead_of (closer_of shape) is.inside).1 ≡ is.content ++ (closer_of shape ∷ rest) = ap (λ (x : ℕ × List ℕ). x.1) is.lead in
    let whole : front ≡ (opener_of shape ∷ l.lead) ++ (is.content ++ (closer_of shape ∷ rest)) = is.opens
    ∙ ap (λ i. opener_of shape ∷ i) (l.whole ∙ ap (λ i. l.lead ++ i) same) in
    further text (opener_of shape ∷ l.lead) (is.content ++ (closer_of shape ∷ rest))
    (record { before = r.before; whole = r.whole ∙ ap (λ f. r.before ++ f) whole })

bracket_rest : (shape : Bracket) (end : ℕ) (text front rest : List ℕ) (pairs : List Pair) → IsBracket shape end front rest pairs →
    Rest text front → Rest text rest
bracket_rest shape end text front rest pairs is r =
    further text (closer_of shape ∷ []) rest
    (further text is.content (closer_of shape ∷ rest) (inside_rest shape end text front rest pairs is r))

bracket_stands : (shape : Bracket) (text front rest : List ℕ) (pairs : List Pair) → IsBracket shape (length text) front rest pairs →
    Rest text front → AllByRecursion (PairStands text) pairs
bracket_stands shape text front rest pairs is r =
    content_stands text (offset (length text) (closer_of shape ∷ rest)) is.separator is.content pairs is.holds
    (ends_there text is.content (closer_of shape ∷ rest) (inside_rest shape (length text) text front rest pairs is r))

brackets_rest : (shape : Bracket) (end : ℕ) (text front rest : List ℕ) (pairs : List Pair) → AreBrackets shape end front rest pairs →
    Rest text front → Rest text rest
brackets_rest shape end text front rest pairs (NoBracket bytes none) r = r
brackets_rest shape end text front rest pairs (OneBracket bytes middle behind first others is are) r =
    brackets_rest shape end text middle behind others are (bracket_rest shape end text bytes middle first is r)

brackets_stand : (shape : Bracket) (text front rest : List ℕ) (pairs : List Pair) → AreBrackets shape (length text) front rest pairs →
    Rest text front → AllByRecursion (PairStands text) pairs
brackets_stand shape text front rest pairs (NoBracket bytes none) r = tt
brackets_stand shape text front rest pairs (OneBracket bytes middle behind first others is are) r =
    all_append (PairStands text) first others (bracket_stands shape text bytes middle first is r)
    (brackets_stand shape text middle behind others are (bracket_rest shape (length text) text bytes middle first is r))

-- ---- legs

leg_rest : (end : ℕ) (text front rest : List ℕ) (leg : LegText) → IsLeg end front rest leg → Rest text front → Rest text rest
leg_rest end text front rest leg is r =
    further text leg.endpoint rest (brackets_rest Square end text front (leg.endpoint ++ rest) leg.pairs is.brackets r)

leg_stands : (text front rest : List ℕ) (leg : LegText) → IsLeg (length text) front rest leg → Rest text front → LegStands text leg
leg_stands text front rest leg is r =
    let e = brackets_rest Square (length text) text front (leg.endpoint ++ rest) leg.pairs is.brackets r in
    record {
      endpoint = record {
        before = e.before;
        behind = rest;
        whole = e.whole;
        is_at = omega (arith, ap length e.whole, length-append e.before (leg.endpoint ++ rest)) ∙ sym is.is_at;
      };
      pairs = brackets_stand Square text front (leg.endpoint ++ rest) leg.pairs is.brackets r;
    }

legs_stand : (text front : List ℕ) (groups : List (List LegText)) → AreLegs (length text) front groups → Rest text front →
    AllByRecursion (λ group. AllByRecursion (LegStands text) group) groups
legs_stand text front groups (LastLeg bytes leg is) r = ((leg_stands text bytes [] leg is r, tt), tt)
legs_stand text front groups (SameGroup bytes rest leg legs others is are) r =
    let on = legs_stand text rest (legs ∷ others) are
    (further text (44 ∷ []) rest (leg_rest (length text) text bytes (44 ∷ rest) leg is r)) in
    ((leg_stands text bytes (44 ∷ rest) leg is r, on.0), on.1)
legs_stand text front groups (NextGroup bytes rest leg others is are) r =
    let on = legs_stand text rest others are (further text (124 ∷ []) rest (leg_rest (length text) text bytes (124 ∷ rest) leg is r)) in
    ((leg_stands text bytes (124 ∷ rest) leg is r, tt), on)

pub dial_stands : (text : List ℕ) (dial : Dial) → Spells text dial → DialStands text dial
dial_stands text dial is =
    let all : Rest text text = record { before = []; whole = refl } in
    record {
      pairs = brackets_stand Brace text text is.rest dial.pairs is.braces all;
      legs = legs_stand text is.rest dial.groups is.legs (brackets_rest Brace (length text) text text is.rest dial.pairs is.braces all);
    }
