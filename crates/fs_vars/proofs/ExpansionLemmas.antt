-- A text that is expanded is expanded piece after piece.
use Rattle.std.proofs.Common.{length-drop, length-append, length-take, Bor, option_map, unwrap_or, ◌≡◌, ℕ, zero, suc, ◌+◌, ◌-◌, ◌<◌, ◌≤◌}
use Rattle.std.proofs.Common.{Bool, true, false, cond, not, ◌&&◌, ◌||◌, nat_eq, [], ◌∷◌, ◌++◌, length, take, drop, codes, refl, sym, ap}
use Rattle.std.proofs.Common.{◌∙◌, subst, arith, Option, None, Some}
use Rattle.std.specs.List.{starts_with, list_any, position_or_len, before_first}
use Rattle.std.proofs.lemmas.List.{length-take-le, take_at}
use Rattle.fs_text.specs.Texts.{Text}
use Rattle.fs_text.proofs.Cuts.{offset_within}
use Rattle.std.proofs.lemmas.Bool.{false≢true, and_right, and_left, and_parts, or_parts, eqb-true, eqb-false, ne_eqb}
use Rattle.memchr.specs.Find.{is_byte2}
use Rattle.fs_vars.specs.Pairs.{Pairs}
use Rattle.fs_vars.specs.Expansion.{Piece, front, by_pieces, expanded, meaning, value_asked, has_escape, has_reference, inside_of, is_brace}
use Rattle.fs_vars.specs.Pieces.{Left, TakesPiece}

-- ---- pieces in general

-- what belongs to the piece before is passed over
by_pieces-skip : (piece : Text → Piece) (skip : ℕ) (text : Text) → by_pieces piece skip text ≡ by_pieces piece 0 (drop skip text)
by_pieces-skip piece zero text = refl
by_pieces-skip piece (suc skip) [] = refl
by_pieces-skip piece (suc skip) (b ∷ text) = by_pieces-skip piece skip text

-- the first piece, and then the others
pub by_pieces-front : (piece : Text → Piece) (text : Text) → 0 < length text → 1 ≤ (piece text).len →
    by_pieces piece 0 text ≡ (piece text).text ++ by_pieces piece 0 (drop (piece text).len text)
by_pieces-front piece [] h k = absurd (omega arith)
by_pieces-front piece (b ∷ text) h k =
    ap (λ more. (piece (b ∷ text)).text ++ more)
    (by_pieces-skip piece ((piece (b ∷ text)).len - 1) text ∙ ap (by_pieces piece 0) (behind (piece (b ∷ text)).len k))
  where
    behind : (n : ℕ) → 1 ≤ n → drop (n - 1) text ≡ drop n (b ∷ text)
    behind zero h = absurd (omega arith)
    behind (suc n) h = ap (λ k. drop k text) (omega arith)

-- ---- the front of a text

-- `$` and the backslash
abbrev pub is_special : ℕ → Bool
is_special = is_byte2 36 92

-- a `$` in front is no backslash
not_backslash : (b : ℕ) → nat_eq 36 b ≡ true → nat_eq 92 b ≡ false
not_backslash b h = ne_eqb 92 b (λ e. absurd (omega (arith, eqb-true 36 b h)))

-- a reference is no escaped `$`
reference_or_escape : (text : Text) → has_reference text ≡ true → has_escape text ≡ false
reference_or_escape [] h = refl
reference_or_escape (b ∷ text) h = and_left _ _ (not_backslash b (and_parts _ _ (and_parts _ _ h).0).0)

-- what has an escaped `$` or a reference in front has bytes
has_bytes : (text : Text) → has_escape text ≡ true → 0 < length text
has_bytes [] h = absurd (cc)
has_bytes (b ∷ text) h = omega arith

has_more_bytes : (text : Text) → has_reference text ≡ true → 0 < length text
has_more_bytes [] h = absurd (cc)
has_more_bytes (b ∷ text) h = omega arith

-- another byte than a backslash in front is no escape
no_escape : (b : ℕ) (text : Text) → nat_eq b 92 ≡ false → has_escape (b ∷ text) ≡ false
no_escape b text h = and_left _ _ (ne_eqb 92 b (λ e. eqb-false b 92 h (sym e)))

-- another byte than `$` in front is no reference
no_reference : (b : ℕ) (text : Text) → nat_eq b 36 ≡ false → has_reference (b ∷ text) ≡ false
no_reference b text h = and_left _ _ (and_left _ _ (ne_eqb 36 b (λ e. eqb-false b 36 h (sym e))))

module _ (known : Pairs) where
  -- no text gives no text
  pub expanded-nothing : expanded known [] ≡ []
  unfolding expanded
  expanded-nothing = refl

  -- a piece in front, and then the others
  expanded-front : (text : Text) (piece : Piece) → 0 < length text → front known text ≡ piece → 1 ≤ piece.len →
      expanded known text ≡ piece.text ++ expanded known (drop piece.len text)
  unfolding expanded
  expanded-front text piece h is some =
      subst (λ p. by_pieces (front known) 0 text ≡ p.text ++ by_pieces (front known) 0 (drop p.len text)) is
      (by_pieces-front (front known) text h (subst (λ p. 1 ≤ p.len) (sym is) some))

  -- an escaped `$` gives `$`
  pub expanded-escape : (text : Text) → has_escape text ≡ true → expanded known text ≡ codes "$" ++ expanded known (drop 2 text)
  unfolding front
  expanded-escape text h = expanded-front text (record { text = codes "$"; len = 2 }) (has_bytes text h) (rw h) (omega arith)

  -- a reference gives what it stands for
  pub expanded-reference : (text : Text) → has_reference text ≡ true →
      expanded known text ≡ meaning known (inside_of text) ++ expanded known (drop (length (inside_of text) + 3) text)
  unfolding front
  expanded-reference text h =
      expanded-front text (record { text = meaning known (inside_of text); len = length (inside_of text) + 3 }) (has_more_bytes text h)
      (rw (reference_or_escape text h, h)) (omega arith)

  -- any other byte stands as it is
  pub expanded-other : (b : ℕ) (text : Text) → has_escape (b ∷ text) ≡ false → has_reference (b ∷ text) ≡ false →
      expanded known (b ∷ text) ≡ b ∷ expanded known text
  unfolding front
  expanded-other b text h k = expanded-front (b ∷ text) (record { text = b ∷ []; len = 1 }) (omega arith) (rw (h, k)) (omega arith)

  -- one byte more stands as it is
  run_more : (b n : ℕ) (text : Text) → has_escape (b ∷ text) ≡ false → has_reference (b ∷ text) ≡ false →
      expanded known text ≡ take n text ++ expanded known (drop n text)
      → expanded known (b ∷ text) ≡ take (1 + n) (b ∷ text) ++ expanded known (drop (1 + n) (b ∷ text))
  run_more b n text h k rest =
      let one : 1 + n ≡ suc n = omega arith in
      rw one (expanded-other b text h k ∙ ap (λ more. b ∷ more) rest)

  -- what stands before the next `$` or backslash stands as it is
  expanded-plain : (text : Text) → expanded known text ≡ take (position_or_len is_special text) text
      ++ expanded known (drop (position_or_len is_special text) text)
  expanded-plain [] = refl
  expanded-plain (b ∷ text) = by (is_special b) refl (expanded-plain text)
    where
      n : ℕ
      n = position_or_len is_special text

      by : (t : Bool) → is_special b ≡ t → expanded known text ≡ take n text ++ expanded known (drop n text)
          → expanded known (b ∷ text) ≡ take (cond (not t) (1 + n) 0) (b ∷ text)
          ++ expanded known (drop (cond (not t) (1 + n) 0) (b ∷ text))
      by true e rest = refl
      by false e rest = let parts = or_parts _ _ e in run_more b n text (no_escape b text parts.1) (no_reference b text parts.0) rest

  -- a front that is neither stands as it is, with all before the next `$` or backslash
  pub expanded-run : (text : Text) (n : ℕ) → 0 < length text → n ≡ 1 + position_or_len is_special (drop 1 text) → has_escape text ≡ false →
      has_reference text ≡ false
      → expanded known text ≡ take n text ++ expanded known (drop n text)
  expanded-run [] n some is h k = absurd (omega arith)
  expanded-run (b ∷ text) n some is h k = rw is (run_more b (position_or_len is_special text) text h k (expanded-plain text))

-- ---- what a step takes

-- a piece, with the rest behind it
taken : (old new : Left) (piece : Text) (n : ℕ) → new ≡ record old { text = drop n old.text } → 0 < n → 0 < length old.text →
    expanded old.known old.text ≡ piece ++ expanded old.known (drop n old.text) → TakesPiece old piece new
taken old new piece n is some text whole =
    rw is (record { known = refl; text = whole; shorter = omega (arith, length-drop n old.text) })

pub escape_taken : (old new : Left) → new ≡ record old { text = drop 2 old.text } → has_escape old.text ≡ true →
    TakesPiece old (codes "$") new
escape_taken old new is h = taken old new (codes "$") 2 is (omega arith) (has_bytes old.text h) (expanded-escape old.known old.text h)

pub reference_taken : (old new : Left) (n : ℕ) → n ≡ length (inside_of old.text) + 3 → new ≡ record old { text = drop n old.text } →
    has_reference old.text ≡ true → TakesPiece old (meaning old.known (inside_of old.text)) new
reference_taken old new n len is h =
    taken old new (meaning old.known (inside_of old.text)) n is (omega (arith, len)) (has_more_bytes old.text h)
    (rw len (expanded-reference old.known old.text h))

pub plain_taken : (old new : Left) (n : ℕ) → n ≡ 1 + position_or_len is_special (drop 1 old.text) →
    new ≡ record old { text = drop n old.text } → 0 < length old.text → has_escape old.text ≡ false → has_reference old.text ≡ false
    → TakesPiece old (take n old.text) new
plain_taken old new n len is some h k =
    taken old new (take n old.text) n is (omega (arith, len)) some (expanded-run old.known old.text n some len h k)

-- ---- a reference as it is written

-- the first `}` ends what stands before it
brace_ends : (text : Text) → list_any is_brace text ≡ true →
    take (position_or_len is_brace text + 1) text ≡ before_first is_brace text ++ codes "}"
brace_ends [] h = absurd (cc)
brace_ends (b ∷ text) h = by (is_brace b) refl h (brace_ends text)
  where
    n : ℕ
    n = position_or_len is_brace text

    by : (t : Bool) → is_brace b ≡ t → (t || list_any is_brace text) ≡ true →
        (list_any is_brace text ≡ true → take (n + 1) text ≡ take n text ++ codes "}")
        → take (cond (not t) (1 + n) 0 + 1) (b ∷ text) ≡ take (cond (not t) (1 + n) 0) (b ∷ text) ++ codes "}"
    by true e h rest = ap (λ c. c ∷ []) (eqb-true b 125 e)
    by false e h rest =
        let two : 1 + n + 1 ≡ suc (n + 1) = omega arith in
        let one : 1 + n ≡ suc n = omega arith in
        rw (two, one) (ap (λ more. b ∷ more) (rest h))

-- a closed reference is `${`, its inside and `}`
pub reference_is : (text : Text) → has_reference text ≡ true →
    take (length (inside_of text) + 3) text ≡ codes "${" ++ inside_of text ++ codes "}"
reference_is [] h = absurd (false≢true h)
reference_is (b ∷ []) h = absurd (false≢true (sym (and_right (nat_eq 36 b) false refl) ∙ (and_parts _ _ h).0))
reference_is (b ∷ c ∷ text) h =
    let parts = and_parts (starts_with nat_eq (b ∷ c ∷ text) (codes "${")) (list_any is_brace text) h in
    let start = and_parts (nat_eq 36 b) (nat_eq 123 c && true) parts.0 in
    let dollar : 36 ≡ b = eqb-true 36 b start.0 in
    let brace : 123 ≡ c = eqb-true 123 c (and_parts (nat_eq 123 c) true start.1).0 in
    let count : length (inside_of (b ∷ c ∷ text)) + 3 ≡ suc (suc (position_or_len is_brace text + 1)) =
    omega (arith, length-take-le (position_or_len is_brace text) text (offset_within is_brace text)) in
    rw (count, brace_ends text parts.1) (λ i. sym dollar i ∷ sym brace i ∷ (inside_of (b ∷ c ∷ text) ++ codes "}"))

-- and lies within its text
pub reference_within : (text : Text) → has_reference text ≡ true → length (inside_of text) + 3 ≤ length text
reference_within text h =
    let n : ℕ = length (inside_of text) + 3 in
    let whole : length (take n text) ≡ n =
    ap length (reference_is text h) ∙ simp (length-append {A = ℕ}) (omega arith) in
    omega (arith, length-take n text, whole)

-- what stands between its braces
pub between_braces : (text : Text) (n : ℕ) → has_reference text ≡ true → n ≡ length (inside_of text) + 3 →
    take (n - 1 - 2) (drop 2 (take n text)) ≡ inside_of text
between_braces text n h len =
    let count : n - 1 - 2 ≡ length (inside_of text) = omega (arith, len) in
    rw (count, len, reference_is text h) (take_at (inside_of text) (codes "}") (length (inside_of text)) refl)

-- the bytes of a slice, or else of another
now-unwrap_or : (given : Option (Bor Text)) (whole : Bor Text) →
    (unwrap_or given whole).now ≡ unwrap_or (option_map (λ bytes. bytes.now) given) whole.now
now-unwrap_or None whole = refl
now-unwrap_or (Some bytes) whole = refl

-- what a reference gives, or else the whole of it
pub meaning_is : (known : Pairs) (text : Text) (n : ℕ) (given : Option (Bor Text)) (whole : Bor Text) → has_reference text ≡ true →
    n ≡ length (inside_of text) + 3 → whole.now ≡ take n text
    → option_map (λ bytes. bytes.now) given ≡ value_asked known (take (n - 1 - 2) (drop 2 whole.now))
    → (unwrap_or given whole).now ≡ meaning known (inside_of text)
unfolding meaning
meaning_is known text n given whole h len is asked =
    let inside =
    ap (λ bytes. value_asked known (take (n - 1 - 2) (drop 2 bytes))) is ∙ ap (value_asked known) (between_braces text n h len) in
    let written = is ∙ ap (λ k. take k text) len ∙ reference_is text h in
    now-unwrap_or given whole ∙ (λ i. unwrap_or ((asked ∙ inside) i) (written i))
