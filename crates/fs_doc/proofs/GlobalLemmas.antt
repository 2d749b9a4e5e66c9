-- A text whose globals are put in is made piece after piece, and each piece is told.
use Rattle.std.proofs.Common.{◌≡◌, ℕ, zero, suc, ◌+◌, ◌<◌, ◌≤◌, Bool, true, false, cond, not, List, [], ◌∷◌, ◌++◌, length, take, drop}
use Rattle.std.proofs.Common.{codes, Option, None, Some, unwrap_or, append_assoc, refl, sym, ap, ◌∙◌, subst, arith}
use Rattle.std.specs.List.{list_any, position_or_len, before_first, after_first}
use Rattle.std.proofs.lemmas.Bool.{and_left, and_right, or_parts, ne_eqb, eqb-false}
use Rattle.std.proofs.lemmas.List.{length-take-le, drop-drop}
use Rattle.fs_text.specs.Words.{is_byte, halves_of}
use Rattle.fs_text.specs.Texts.{Text}
use Rattle.fs_text.proofs.Cuts.{offset_within, cut_behind, none_cut}
use Rattle.fs_vars.specs.Pairs.{Pairs, value_of}
use Rattle.fs_vars.specs.Expansion.{Piece, by_pieces, is_brace}
use Rattle.fs_vars.proofs.ExpansionLemmas.{by_pieces-front}
use Rattle.fs_doc.specs.Values.{begins_global, has_global, global_name, global_front, replaced, plain_len}

-- a byte of a kind that a text has not, no end of it has
none_in_end : (p : ℕ → Bool) (n : ℕ) (text : Text) → list_any p text ≡ false → list_any p (drop n text) ≡ false
none_in_end p zero text none = none
none_in_end p (suc n) [] none = refl
none_in_end p (suc n) (b ∷ text) none = none_in_end p n text (or_parts (p b) (list_any p text) none).1

-- ---- the front of a text

-- another byte than `$` in front begins no reference
no_dollar : (b : ℕ) (text : Text) → is_byte 36 b ≡ false → has_global (b ∷ text) ≡ false
no_dollar b text h = and_left _ _ (and_left _ _ (ne_eqb 36 b (λ e. eqb-false b 36 h (sym e))))

-- a text with `$${` in front has bytes
has_bytes : (text : Text) → begins_global text ≡ true → 0 < length text
has_bytes [] h = absurd (cc)
has_bytes (b ∷ text) h = omega arith

module _ (globals : Pairs) where
  -- no text gives no text
  pub replaced-nothing : replaced globals [] ≡ []
  unfolding replaced
  replaced-nothing = refl

  -- a piece in front, and then the others
  replaced-front : (text : Text) (piece : Piece) → 0 < length text → global_front globals text ≡ piece → 1 ≤ piece.len →
      replaced globals text ≡ piece.text ++ replaced globals (drop piece.len text)
  unfolding replaced
  replaced-front text piece h is some =
      subst (λ p. by_pieces (global_front globals) 0 text ≡ p.text ++ by_pieces (global_front globals) 0 (drop p.len text)) is
      (by_pieces-front (global_front globals) text h (subst (λ p. 1 ≤ p.len) (sym is) some))

  -- a byte that begins no reference stands as it is
  replaced-byte : (b : ℕ) (rest : Text) → has_global (b ∷ rest) ≡ false → replaced globals (b ∷ rest) ≡ b ∷ replaced globals rest
  unfolding global_front
  replaced-byte b rest h = replaced-front (b ∷ rest) (record { text = b ∷ []; len = 1 }) (omega arith) (rw h) (omega arith)

  -- in particular one that begins no `$${`
  pub replaced-other : (b : ℕ) (rest : Text) → begins_global (b ∷ rest) ≡ false → replaced globals (b ∷ rest) ≡ b ∷ replaced globals rest
  replaced-other b rest h = replaced-byte b rest (and_left _ _ h)

  -- a text in which no reference begins stands as it is
  replaced-same : (text : Text) → ((n : ℕ) → has_global (drop n text) ≡ false) → replaced globals text ≡ text
  replaced-same [] none = replaced-nothing
  replaced-same (b ∷ text) none = replaced-byte b text (none 0) ∙ ap (λ more. b ∷ more) (replaced-same text (λ n. none (suc n)))

  -- so does one in which no `$${` begins
  pub replaced-plain : (text : Text) → ((n : ℕ) → begins_global (drop n text) ≡ false) → replaced globals text ≡ text
  replaced-plain text none = replaced-same text (λ n. and_left _ _ (none n))

  -- and one without a `}` behind its first three bytes
  pub replaced-unclosed : (text : Text) → list_any is_brace (drop 3 text) ≡ false → replaced globals text ≡ text
  replaced-unclosed text none =
      replaced-same text (λ n. and_right _ _ (subst (λ k. list_any is_brace k ≡ false) (turned n)
      (none_in_end is_brace n (drop 3 text) none)))
    where
      turned : (n : ℕ) → drop n (drop 3 text) ≡ drop 3 (drop n text)
      turned n = drop-drop n 3 text ∙ ap (λ k. drop k text) (omega arith) ∙ sym (drop-drop 3 n text)

  -- that is, one that no `}` cuts there
  pub replaced-uncut : (text : Text) → halves_of 125 (drop 3 text) ≡ None → replaced globals text ≡ text
  replaced-uncut text whole = replaced-unclosed text (none_cut 125 (drop 3 text) whole)

  -- a reference gives the value of its name, or nothing, and what stands behind its `}` follows
  pub replaced-reference : (text name rest : Text) → begins_global text ≡ true → halves_of 125 (drop 3 text) ≡ Some (name, rest) →
      replaced globals text ≡ unwrap_or (value_of globals name) [] ++ replaced globals rest
  unfolding halves_of global_front
  replaced-reference text name rest start halves = by (list_any is_brace (drop 3 text)) refl halves
    where
      more : Text
      more = drop 3 text

      n : ℕ
      n = position_or_len is_brace more

      by : (t : Bool) → list_any is_brace more ≡ t →
          cond {A = Option (List ℕ × List ℕ)} t (Some (before_first is_brace more, after_first is_brace more)) None ≡ Some (name, rest)
          → replaced globals text ≡ unwrap_or (value_of globals name) [] ++ replaced globals rest
      by true some is =
          let both : ◌≡◌ {A = List ℕ × List ℕ} (before_first is_brace more, after_first is_brace more) (name, rest) = cc in
          let before : before_first is_brace more ≡ name = ap (λ (x : List ℕ × List ℕ). x.0) both in
          let behind : after_first is_brace more ≡ rest = ap (λ (x : List ℕ × List ℕ). x.1) both in
          let offset : length (before_first is_brace more) ≡ n = length-take-le n more (offset_within is_brace more) in
          let past : drop (length (before_first is_brace more) + 4) text ≡ rest =
          ap (λ k. drop k text) (omega (arith, offset)) ∙ sym (drop-drop (n + 1) 3 text) ∙ behind in
          replaced-front text (record { text = unwrap_or (value_of globals (global_name text)) []; len = length (global_name text) + 4 })
          (has_bytes text start) (rw (start, some)) (omega arith)
          ∙ ap (λ bytes. unwrap_or (value_of globals bytes) [] ++ replaced globals (drop (length (global_name text) + 4) text)) before
          ∙ ap (λ bytes. unwrap_or (value_of globals name) [] ++ replaced globals bytes) past
      by false none is = absurd (cc)

  -- as it is written
  pub replaced-written : (name rest : Text) → list_any is_brace name ≡ false →
      replaced globals (codes "$${" ++ name ++ codes "}" ++ rest) ≡ unwrap_or (value_of globals name) [] ++ replaced globals rest
  replaced-written name rest none =
      ap (λ more. replaced globals (36 ∷ 36 ∷ 123 ∷ more)) (append_assoc name (codes "}") rest)
      ∙ replaced-reference (36 ∷ 36 ∷ 123 ∷ (name ++ 125 ∷ rest)) name rest refl (cut_behind 125 name rest none)

  -- what stands before the next `$` stands as it is
  pub replaced-run : (text : Text) → replaced globals text ≡ take (plain_len text) text ++ replaced globals (drop (plain_len text) text)
  unfolding replaced
  replaced-run [] = refl
  replaced-run (b ∷ text) = by (is_byte 36 b) refl (replaced-run text)
    where
      n : ℕ
      n = plain_len text

      by : (t : Bool) → is_byte 36 b ≡ t → replaced globals text ≡ take n text ++ replaced globals (drop n text)
          → replaced globals (b ∷ text) ≡ take (cond (not t) (1 + n) 0) (b ∷ text)
          ++ replaced globals (drop (cond (not t) (1 + n) 0) (b ∷ text))
      by true e rest = refl
      by false e rest =
          let one : 1 + n ≡ suc n = omega arith in
          rw one (replaced-byte b text (no_dollar b text e) ∙ ap (λ more. b ∷ more) rest)
