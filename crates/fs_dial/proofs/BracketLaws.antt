-- Brackets are read as what they spell.
use Rattle.std.proofs.Common.{◌≡◌, ℕ, zero, suc, ◌+◌, ◌-◌, ◌<◌, ◌≤◌, Bool, true, false, cond, not, ◌&&◌, ◌==◌, List, [], ◌∷◌, ◌++◌, length}
use Rattle.std.proofs.Common.{Option, None, Some, Result, Ok, refl, sym, ap, ◌∙◌, subst, append_assoc, append-nil, arith}
use Rattle.std.proofs.lemmas.List.{length-append}
use Rattle.fs_dial.specs.declared.bracket.Bracket.{Bracket}
use Rattle.fs_dial.specs.declared.bracket.Bracket.TheVariants.{Brace, Square}
use Rattle.fs_dial.specs.declared.fault.DialFault.{DialFault}
use Rattle.fs_dial.specs.declared.guard.Guard.TheVariants.{Bare}
use Rattle.fs_dial.specs.Results.{◌>>=◌}
use Rattle.fs_dial.specs.Guards.{is_guard, from_mark, front_of, offset}
use Rattle.fs_dial.specs.Pairs.{Pair, Pairs, pairs_at}
use Rattle.fs_dial.specs.Brackets.{opener_of, closer_of, lead_of, Taken, closed_at, content_at, bracket_at, bracket_step, go_on}
use Rattle.fs_dial.specs.Brackets.{brackets_within, brackets_at}
use Rattle.fs_dial.specs.Spelling.{Holds, IsBracket, begins_with, AreBrackets, NoBracket, OneBracket}
use Rattle.fs_dial.proofs.Cuts.{bind_ok, eqb-true, eqb-refl, front_is}
use Rattle.fs_dial.proofs.Marks.{passed, found, guard_over, before, found_mark, over}
use Rattle.fs_dial.proofs.PairLaws.{content_read, content_spelt}

closer_plain : (shape : Bracket) → is_guard (closer_of shape) ≡ false
unfolding is_guard closer_of
closer_plain Brace = refl
closer_plain Square = refl

-- the lead takes bytes away
lead_short : (closer : ℕ) (inside : List ℕ) → length (lead_of closer inside).1 ≤ length inside
unfolding lead_of
lead_short closer [] = omega arith
lead_short closer (a ∷ []) = omega arith
lead_short closer (a ∷ b ∷ []) = omega arith
lead_short closer (a ∷ b ∷ x ∷ bytes) = by (a == 94 && b == 94 && not (x == closer))
  where
    by : (t : Bool) → length (cond {A = ℕ × List ℕ} t (x, bytes) (44, a ∷ b ∷ x ∷ bytes)).1 ≤ length (a ∷ b ∷ x ∷ bytes)
    by true = omega arith
    by false = omega arith

-- ---- what is spelt is read

closed_read : (at end separator : ℕ) (so_far pairs : List Pair) (content : List ℕ) (b : ℕ) (rest : List ℕ) →
    Holds (offset end (b ∷ rest)) separator content pairs
    → closed_at at end separator so_far (content ++ (b ∷ rest)) (b ∷ rest) ≡ Ok (so_far ++ pairs, rest)
unfolding closed_at
closed_read at end separator so_far pairs content b rest holds =
    ap (λ held. pairs_at (offset end (b ∷ rest)) separator so_far held >>= λ all. Ok (all, rest)) (front_is content (b ∷ rest))
    ∙ ap (λ (r : Pairs). r >>= λ all. Ok (all, rest)) (content_read (offset end (b ∷ rest)) separator content pairs so_far holds)

inside_read : (shape : Bracket) (end : ℕ) (text rest : List ℕ) (pairs so_far : List Pair) (is : IsBracket shape end text rest pairs) →
    bracket_at shape end so_far is.inside ≡ Ok (so_far ++ pairs, rest)
unfolding bracket_at content_at
inside_read shape end text rest pairs so_far is =
    let at = offset end is.inside - 1 in
    let closer = closer_of shape in
    let whole : List ℕ = is.content ++ (closer ∷ rest) in
    let mark : from_mark closer Bare whole ≡ closer ∷ rest = passed closer is.content (closer ∷ rest) is.closes
    ∙ found closer rest (closer_plain shape) in
    ap (content_at shape at end so_far) is.lead ∙ ap (closed_at at end is.separator so_far whole) mark
    ∙ closed_read at end is.separator so_far pairs is.content closer rest is.holds

abbrev Step : Type 0
Step = Result (List Pair × Option (List ℕ)) DialFault

step_read : (shape : Bracket) (end : ℕ) (text rest : List ℕ) (pairs so_far : List Pair) → IsBracket shape end text rest pairs →
    bracket_step shape end so_far text ≡ Ok (so_far ++ pairs, Some rest)
unfolding bracket_step
step_read shape end text rest pairs so_far is =
    let opener = opener_of shape in
    let taken : Step = (bracket_at shape end so_far is.inside >>= λ x. Ok (x.0, Some x.1)) in
    ap (bracket_step shape end so_far) is.opens ∙ ap (λ t. cond t taken (Ok (so_far, None))) (eqb-refl opener)
    ∙ ap (λ (r : Taken). r >>= λ x. Ok (x.0, Some x.1)) (inside_read shape end text rest pairs so_far is)

none_read : (shape : Bracket) (end : ℕ) (text : List ℕ) (so_far : List Pair) → begins_with (opener_of shape) text ≡ false →
    bracket_step shape end so_far text ≡ Ok (so_far, None)
unfolding bracket_step
none_read shape end [] so_far none = refl
none_read shape end (b ∷ bytes) so_far none = rw none refl

bracket_long : (shape : Bracket) (end : ℕ) (text rest : List ℕ) (pairs : List Pair) → IsBracket shape end text rest pairs →
    length rest < length text
bracket_long shape end text rest pairs is =
    let short = lead_short (closer_of shape) is.inside in
    let size : length (lead_of (closer_of shape) is.inside).1 ≡ length (is.content ++ (closer_of shape ∷ rest)) =
    ap (λ (x : ℕ × List ℕ). length x.1) is.lead in
    omega (arith, short, size, length-append is.content (closer_of shape ∷ rest), ap length is.opens)

within_read : (shape : Bracket) (end : ℕ) (text rest : List ℕ) (pairs : List Pair) → AreBrackets shape end text rest pairs →
    (more : ℕ) (so_far : List Pair) → length text < more
    → brackets_within more shape end so_far text ≡ Ok (so_far ++ pairs, rest)
within_read shape end text rest pairs are zero so_far enough = absurd (omega arith)
within_read shape end text rest pairs (NoBracket bytes none) (suc more) so_far enough =
    ap (λ (r : Step). r >>= λ x. go_on (λ next behind. brackets_within more shape end next behind) bytes x)
    (none_read shape end bytes so_far none)
    ∙ ap (λ l. Ok (l, bytes)) (sym (append-nil so_far))
within_read shape end text rest pairs (OneBracket bytes middle behind first others is are) (suc more) so_far enough =
    let fewer : length middle < more = omega (arith, enough, bracket_long shape end bytes middle first is) in
    ap (λ (r : Step). r >>= λ x. go_on (λ next behind. brackets_within more shape end next behind) bytes x)
    (step_read shape end bytes middle first so_far is)
    ∙ within_read shape end middle behind others are more (so_far ++ first) fewer
    ∙ ap (λ l. Ok (l, behind)) (append_assoc so_far first others)

pub brackets_read : (shape : Bracket) (end : ℕ) (text rest : List ℕ) (pairs : List Pair) → AreBrackets shape end text rest pairs →
    brackets_at shape end text ≡ Ok (pairs, rest)
unfolding brackets_at
brackets_read shape end text rest pairs are = within_read shape end text rest pairs are (length text + 1) [] (omega arith)

pub brackets_short : (shape : Bracket) (end : ℕ) (text rest : List ℕ) (pairs : List Pair) → AreBrackets shape end text rest pairs →
    length rest ≤ length text
brackets_short shape end text rest pairs (NoBracket bytes none) = omega arith
brackets_short shape end text rest pairs (OneBracket bytes middle behind first others is are) =
    omega (arith, bracket_long shape end bytes middle first is, brackets_short shape end middle behind others are)

-- ---- what is read is spelt

-- the pairs of a bracket that were read behind those so far
pub record BracketSpelt (shape : Bracket) (end : ℕ) (so_far all : List Pair) (text rest : List ℕ) : Type 0 where
  pub pairs : List Pair
  pub is : IsBracket shape end text rest pairs
  pub all_are : all ≡ so_far ++ pairs

abbrev taken_as : List Pair → List ℕ → Taken
taken_as pairs rest = Ok (pairs, rest)

same_taken : (x y : List Pair) (rest behind : List ℕ) → taken_as x rest ≡ taken_as y behind → (x ≡ y) × (rest ≡ behind)
same_taken x y rest behind e =
    let both : ◌≡◌ {A = List Pair × List ℕ} (x, rest) (y, behind) = cc in
    (ap (λ (p : List Pair × List ℕ). p.0) both, ap (λ (p : List Pair × List ℕ). p.1) both)

seam : (bytes front behind rest : List ℕ) (b closer : ℕ) → bytes ≡ front ++ (b ∷ behind) → b ≡ closer → behind ≡ rest →
    bytes ≡ front ++ (closer ∷ rest)
seam bytes front behind rest b closer whole mark same = rw (← mark, ← same) whole

closed_spelt : (shape : Bracket) (at end separator : ℕ) (so_far all : List Pair) (text inside bytes rest : List ℕ) →
    text ≡ opener_of shape ∷ inside → lead_of (closer_of shape) inside ≡ (separator, bytes)
    → (from : List ℕ) → from_mark (closer_of shape) Bare bytes ≡ from → closed_at at end separator so_far bytes from ≡ Ok (all, rest) →
    BracketSpelt shape end so_far all text rest
unfolding closed_at
closed_spelt shape at end separator so_far all text inside bytes rest opens lead [] mark e = absurd (cc)
closed_spelt shape at end separator so_far all text inside bytes rest opens lead (b ∷ behind) mark e =
    let closer = closer_of shape in
    let f = before closer Bare bytes (b ∷ behind) mark (λ none. absurd (cc)) in
    let m = found_mark closer Bare bytes b behind mark in
    let held : front_of bytes (b ∷ behind) ≡ f.front = ap (λ l. front_of l (b ∷ behind)) f.whole ∙ front_is f.front (b ∷ behind) in
    let read =
    bind_ok (pairs_at (offset end (b ∷ behind)) separator so_far (front_of bytes (b ∷ behind))) (λ pairs. Ok (pairs, behind))
    (all, rest) e in
    let same = same_taken read.0 all behind rest read.2 in
    let ends : guard_over Bare f.front ≡ Bare = ap (guard_over Bare) (sym (append-nil f.front)) ∙ over closer f.front [] f.is in
    let whole : bytes ≡ f.front ++ (closer ∷ rest) = seam bytes f.front behind rest b closer f.whole m.same same.1 in
    let tail : ◌≡◌ {A = List ℕ} (closer ∷ rest) (b ∷ behind) = rw (m.same, same.1) refl in
    let reads : pairs_at (offset end (closer ∷ rest)) separator so_far f.front ≡ Ok all =
    ap (λ l. pairs_at (offset end l) separator so_far f.front) tail ∙ ap (pairs_at (offset end (b ∷ behind)) separator so_far) (sym held)
    ∙ read.1 ∙ ap (λ l. Ok l) same.0 in
    let c = content_spelt (offset end (closer ∷ rest)) separator so_far all f.front reads ends in
    record {
      pairs = c.pairs;
      is = record {
        inside = inside;
        separator = separator;
        content = f.front;
        opens = opens;
        lead = lead ∙ ap (λ l. (separator, l)) whole;
        closes = f.is;
        holds = c.holds;
      };
      all_are = c.all_are;
    }

inside_spelt : (shape : Bracket) (end : ℕ) (so_far all : List Pair) (text inside rest : List ℕ) → text ≡ opener_of shape ∷ inside →
    bracket_at shape end so_far inside ≡ Ok (all, rest)
    → BracketSpelt shape end so_far all text rest
unfolding bracket_at content_at
inside_spelt shape end so_far all text inside rest opens e =
    let closer = closer_of shape in
    let lead = lead_of closer inside in
    closed_spelt shape (offset end inside - 1) end lead.0 so_far all text inside lead.1 rest opens refl (from_mark closer Bare lead.1) refl e

-- a bracket was read, or none is there
abbrev pub StepSpelt : Bracket → ℕ → List Pair → List Pair → List ℕ → Option (List ℕ) → Type 0
StepSpelt shape end so_far all text None = (begins_with (opener_of shape) text ≡ false) × (all ≡ so_far)
StepSpelt shape end so_far all text (Some rest) = BracketSpelt shape end so_far all text rest

abbrev step_as : List Pair → Option (List ℕ) → Step
step_as pairs rest = Ok (pairs, rest)

same_step : (x y : List Pair) (rest behind : Option (List ℕ)) → step_as x rest ≡ step_as y behind → (x ≡ y) × (rest ≡ behind)
same_step x y rest behind e =
    let both : ◌≡◌ {A = List Pair × Option (List ℕ)} (x, rest) (y, behind) = cc in
    (ap (λ (p : List Pair × Option (List ℕ)). p.0) both, ap (λ (p : List Pair × Option (List ℕ)). p.1) both)

step_spelt : (shape : Bracket) (end : ℕ) (so_far all : List Pair) (text : List ℕ) (rest : Option (List ℕ)) →
    bracket_step shape end so_far text ≡ Ok (all, rest) → StepSpelt shape end so_far all text rest
unfolding bracket_step
step_spelt shape end so_far all [] rest e =
    let same = same_step so_far all None rest e in
    let P : Option (List ℕ) → Type 0 = λ r. StepSpelt shape end so_far all [] r in
    subst P same.1 (refl, sym same.0)
step_spelt shape end so_far all (b ∷ inside) rest e = by (b == opener_of shape) refl e
  where
    by : (t : Bool) → (b == opener_of shape) ≡ t →
        cond {A = Step} t (bracket_at shape end so_far inside >>= λ x. Ok (x.0, Some x.1)) (Ok (so_far, None)) ≡ Ok (all, rest)
        → StepSpelt shape end so_far all (b ∷ inside) rest
    by true opens e =
        let read = bind_ok (bracket_at shape end so_far inside) (λ x. Ok (x.0, Some x.1)) (all, rest) e in
        let x = read.0 in
        let same = same_step x.0 all (Some x.1) rest read.2 in
        let P : Option (List ℕ) → Type 0 = λ r. StepSpelt shape end so_far all (b ∷ inside) r in
        let opening : ◌≡◌ {A = List ℕ} (b ∷ inside) (opener_of shape ∷ inside) =
        ap (λ q. q ∷ inside) (eqb-true b (opener_of shape) opens) in
        subst P same.1 (inside_spelt shape end so_far all (b ∷ inside) inside x.1 opening (read.1 ∙ ap (λ l. Ok (l, x.1)) same.0))
    by false other e =
        let same = same_step so_far all None rest e in
        let P : Option (List ℕ) → Type 0 = λ r. StepSpelt shape end so_far all (b ∷ inside) r in
        subst P same.1 (other, sym same.0)

pub record BracketsSpelt (shape : Bracket) (end : ℕ) (so_far all : List Pair) (text rest : List ℕ) : Type 0 where
  pub pairs : List Pair
  pub are : AreBrackets shape end text rest pairs
  pub all_are : all ≡ so_far ++ pairs

within_spelt : (more : ℕ) (shape : Bracket) (end : ℕ) (all : List Pair) (rest : List ℕ) (so_far : List Pair) (text : List ℕ) →
    brackets_within more shape end so_far text ≡ Ok (all, rest) → length text < more
    → BracketsSpelt shape end so_far all text rest
within_spelt zero shape end all rest so_far text e enough = absurd (omega arith)
within_spelt (suc more) shape end all rest so_far text e enough =
    let read =
    bind_ok (bracket_step shape end so_far text) (λ x. go_on (λ next behind. brackets_within more shape end next behind) text x)
    (all, rest) e in
    let x = read.0 in
    by x.0 x.1 (step_spelt shape end so_far x.0 text x.1 read.1) read.2
    (λ next behind e fewer. within_spelt more shape end all rest next behind e fewer)
  where
    by : (next : List Pair) (behind : Option (List ℕ)) → StepSpelt shape end so_far next text behind →
        go_on (λ next behind. brackets_within more shape end next behind) text (next, behind) ≡ Ok (all, rest)
        → ((next : List Pair) (behind : List ℕ) → brackets_within more shape end next behind ≡ Ok (all, rest) → length behind < more →
        BracketsSpelt shape end next all behind rest)
        → BracketsSpelt shape end so_far all text rest
    by next None (none, none_more) e again =
        let same = same_taken next all text rest e in
        let P : List ℕ → Type 0 = λ l. AreBrackets shape end text l [] in
        record { pairs = []; are = subst P same.1 (NoBracket text none); all_are = sym same.0 ∙ none_more ∙ sym (append-nil so_far) }
    by next (Some behind) b e again =
        let fewer : length behind < more = omega (arith, enough, bracket_long shape end text behind b.pairs b.is) in
        let on = again next behind e fewer in
        record {
          pairs = b.pairs ++ on.pairs;
          are = OneBracket text behind rest b.pairs on.pairs b.is on.are;
          all_are = on.all_are ∙ ap (λ l. l ++ on.pairs) b.all_are ∙ append_assoc so_far b.pairs on.pairs;
        }

pub brackets_spelt : (shape : Bracket) (end : ℕ) (text rest : List ℕ) (pairs : List Pair) → brackets_at shape end text ≡ Ok (pairs, rest) →
    AreBrackets shape end text rest pairs
unfolding brackets_at
brackets_spelt shape end text rest pairs e =
    let s = within_spelt (length text + 1) shape end pairs rest [] text e (omega arith) in
    let P : List Pair → Type 0 = λ ps. AreBrackets shape end text rest ps in
    subst P (sym s.all_are) s.are
