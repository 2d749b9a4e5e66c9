-- What one step of a search may conclude.
use Rattle.std.proofs.Common.{◌≡◌, ◌≢◌, ℕ, zero, suc, ◌+◌, ◌-◌, ◌≤◌, Bool, true, false, not, cond, ◌||◌, List, [], ◌∷◌, ◌++◌, length, take}
use Rattle.std.proofs.Common.{drop, get_or, Option, None, Some, ◌⊎◌, inl, inr, refl, sym, ◌∙◌, ap, append_assoc, arith, length-append, eqb}
use Rattle.std.proofs.lemmas.Bool.Decides.{eqb_tells}
use Rattle.std.proofs.lemmas.List.{append-nil, take_at, drop_at, take_all, take_rest, length-take-le, take-append-drop, take-append-le}
use Rattle.std.proofs.lemmas.List.{drop-append-le, length-drop}
use Rattle.std.proofs.lemmas.List.Folds.{concat-append, list_any-append}
use Rattle.std.proofs.lemmas.List.Sums.{prefix_len-le-length}
use Rattle.std.specs.List.{concat, list_any, position_or_len}
use Rattle.std.specs.Option.{option_map}
use Rattle.fs_frame.specs.Lines.{is_lf, IsLine, without_cr, text_of, lines_of, has_text, first_text, up_to_command}
use Rattle.fs_frame.specs.Block.{up_to_empty, head_of}
use Rattle.fs_frame.specs.Front.{span_bytes, IsCommandAt, IsPassed, IsScanned, GoesOn, StandsHead}
use Rattle.fs_frame.specs.declared.span.Span.{Span}
use Rattle.fs_frame.specs.declared.span.CommandLine.{CommandLine}
use Rattle.fs_frame.specs.declared.scan.Scan.{Scan}
use Rattle.fs_frame.proofs.LineLaws.{position_or_len-append, position_or_len-none, text_of-content, lines_of-line, lines_of-none}
use Rattle.fs_frame.proofs.LineLaws.{lines_of-append, has_bytes-none, has_bytes-some}

pub position_or_len-le-length : (p : ℕ → Bool) (bytes : List ℕ) → position_or_len p bytes ≤ length bytes
position_or_len-le-length p bytes = prefix_len-le-length (λ (byte : ℕ). not (p byte)) bytes

pub position_or_len-grows : (p : ℕ → Bool) (bytes more : List ℕ) → position_or_len p bytes ≤ position_or_len p (bytes ++ more)
position_or_len-grows p [] more = omega arith
position_or_len-grows p (byte ∷ bytes) more = step (p byte) refl (position_or_len-grows p bytes more)
  where
    step : (b : Bool) → p byte ≡ b → position_or_len p bytes ≤ position_or_len p (bytes ++ more) →
        position_or_len p (byte ∷ bytes) ≤ position_or_len p (byte ∷ (bytes ++ more))
    step true is again = rw is (omega arith)
    step false is again = rw is (omega arith)

-- a byte that was searched does not pass
searched_first : (p : ℕ → Bool) (searched byte : ℕ) (bytes : List ℕ) → suc searched ≤ position_or_len p (byte ∷ bytes) →
    (p byte ≡ false) × (searched ≤ position_or_len p bytes)
searched_first p searched byte bytes none = step (p byte) refl
  where
    step : (b : Bool) → p byte ≡ b → (p byte ≡ false) × (searched ≤ position_or_len p bytes)
    step true is = let no : suc searched ≤ 0 = rw is at none in absurd (omega arith)
    step false is = let more : suc searched ≤ 1 + position_or_len p bytes = rw is at none in (is, omega arith)

-- the first byte that passes stands behind those that were searched
position_or_len-searched : (p : ℕ → Bool) (searched : ℕ) (bytes : List ℕ) → searched ≤ position_or_len p bytes →
    searched + position_or_len p (drop searched bytes) ≡ position_or_len p bytes
position_or_len-searched p zero bytes none = omega arith
position_or_len-searched p (suc searched) [] none = absurd (omega arith)
position_or_len-searched p (suc searched) (byte ∷ bytes) none =
    let parts : (p byte ≡ false) × (searched ≤ position_or_len p bytes) = searched_first p searched byte bytes none in
    rw parts.0 (omega (arith, position_or_len-searched p searched bytes parts.1))

-- so a search may begin there
pub position_or_len-from : (searched offset : ℕ) (bytes : List ℕ) → searched ≤ position_or_len is_lf bytes →
    offset ≡ position_or_len is_lf (take (length bytes - searched) (drop searched bytes)) → searched + offset ≡ position_or_len is_lf bytes
position_or_len-from searched offset bytes none found =
    let rest : offset ≡ position_or_len is_lf (drop searched bytes) = rw (take_rest bytes searched) at found in
    rw rest (position_or_len-searched is_lf searched bytes none)

pub searched-le-length : (searched : ℕ) (bytes : List ℕ) → searched ≤ position_or_len is_lf bytes → searched ≤ length bytes
searched-le-length searched bytes none = omega (arith, position_or_len-le-length is_lf bytes)

pub offset-le-length : (searched offset : ℕ) (bytes : List ℕ) → searched ≤ position_or_len is_lf bytes →
    offset ≡ position_or_len is_lf (take (length bytes - searched) (drop searched bytes)) → searched + offset ≤ length bytes
offset-le-length searched offset bytes none found =
    omega (arith, position_or_len-from searched offset bytes none found, position_or_len-le-length is_lf bytes)

-- a CR at the end is left out of the text
pub ends_with_cr : (n : ℕ) (bytes : List ℕ) → length bytes ≡ suc n → get_or bytes n 0 ≡ 13 → without_cr bytes ≡ take n bytes
ends_with_cr n [] len last = absurd (omega arith)
ends_with_cr zero (byte ∷ []) len last = rw last refl
ends_with_cr (suc n) (byte ∷ []) len last = absurd (omega arith)
ends_with_cr zero (byte ∷ next ∷ bytes) len last = absurd (omega arith)
ends_with_cr (suc n) (byte ∷ next ∷ bytes) len last = ap (λ (bs : List ℕ). byte ∷ bs) (ends_with_cr n (next ∷ bytes) (omega arith) last)

pub without_cr-cr : (bytes : List ℕ) → 1 ≤ length bytes → get_or bytes (length bytes - 1) 0 ≡ 13 →
    without_cr bytes ≡ take (length (take (length bytes - 1) bytes)) bytes
without_cr-cr bytes some last =
    rw (length-take-le (length bytes - 1) bytes (omega arith)) (ends_with_cr (length bytes - 1) bytes (omega arith) last)

-- and nothing is left out where none stands there
pub ends_with_other : (n : ℕ) (bytes : List ℕ) → length bytes ≡ suc n → get_or bytes n 0 ≢ 13 → without_cr bytes ≡ bytes
ends_with_other n [] len last = absurd (omega arith)
ends_with_other zero (byte ∷ []) len last = step (eqb_tells byte 13)
  where
    step : ((eqb byte 13 ≡ true) × (byte ≡ 13)) ⊎ ((eqb byte 13 ≡ false) × (byte ≢ 13)) → without_cr (byte ∷ []) ≡ byte ∷ []
    step (inl is) = absurd (last is.1)
    step (inr other) = rw other.0 refl
ends_with_other (suc n) (byte ∷ []) len last = absurd (omega arith)
ends_with_other zero (byte ∷ next ∷ bytes) len last = absurd (omega arith)
ends_with_other (suc n) (byte ∷ next ∷ bytes) len last =
    ap (λ (bs : List ℕ). byte ∷ bs) (ends_with_other n (next ∷ bytes) (omega arith) last)

pub without_cr-other : (bytes : List ℕ) → (1 ≤ length bytes → get_or bytes (length bytes - 1) 0 ≢ 13) →
    without_cr bytes ≡ take (length bytes) bytes
without_cr-other [] last = refl
without_cr-other (byte ∷ bytes) last =
    rw (take_all (length (byte ∷ bytes)) (byte ∷ bytes) (omega arith))
    (ends_with_other (length (byte ∷ bytes) - 1) (byte ∷ bytes) (omega arith) (last (omega arith)))

-- bytes with a first LF: what stands before it, and behind it
pub record HasLf (bytes : List ℕ) : Type 0 where
  pub content : List ℕ
  pub more : List ℕ
  pub no_lf : list_any is_lf content ≡ false
  pub split : bytes ≡ content ++ 10 ∷ more

-- there is a first LF, or none
pub first_lf : (bytes : List ℕ) → HasLf bytes ⊎ (list_any is_lf bytes ≡ false)
first_lf [] = inr refl
first_lf (byte ∷ bytes) = step (eqb_tells byte 10) (first_lf bytes)
  where
    step : ((eqb byte 10 ≡ true) × (byte ≡ 10)) ⊎ ((eqb byte 10 ≡ false) × (byte ≢ 10)) → HasLf bytes ⊎ (list_any is_lf bytes ≡ false) →
        HasLf (byte ∷ bytes) ⊎ (list_any is_lf (byte ∷ bytes) ≡ false)
    step (inl is) again = inl (record { content = []; more = bytes; no_lf = refl; split = ap (λ (b : ℕ). b ∷ bytes) is.1 })
    step (inr not_lf) (inl has) =
        inl (record {
          content =
              byte ∷ has.content;
          more = has.more;
          no_lf = rw (not_lf.0, has.no_lf) refl;
          split = ap (λ (bs : List ℕ). byte ∷ bs) has.split;
        })
    step (inr not_lf) (inr none) = inr (rw (not_lf.0, none) refl)

pub lf_at : (bytes : List ℕ) (has : HasLf bytes) → position_or_len is_lf bytes ≡ length has.content
lf_at bytes has =
    ap (λ (bs : List ℕ). position_or_len is_lf bs) has.split ∙ position_or_len-append is_lf has.content 10 has.more has.no_lf refl

-- nothing stands behind the offset of the first LF, so there is none
pub no_line : (bytes behind : List ℕ) (offset : ℕ) → offset ≡ position_or_len is_lf bytes → behind ≡ drop offset bytes → length behind ≡ 0 →
    list_any is_lf bytes ≡ false
no_line bytes behind offset at back ended = step (first_lf bytes)
  where
    step : HasLf bytes ⊎ (list_any is_lf bytes ≡ false) → list_any is_lf bytes ≡ false
    step (inr none) = none
    step (inl has) =
        absurd (omega
        (arith, lf_at bytes has, ap length has.split, length-append has.content (10 ∷ has.more), ap length back, length-drop offset bytes))

-- something stands there, so the bytes go on with a line
pub goes_on : (bytes content behind : List ℕ) (offset text_len : ℕ) → offset ≡ position_or_len is_lf bytes → content ≡ take offset bytes →
    behind ≡ drop offset bytes → length behind ≢ 0 →
    without_cr content ≡ take text_len content → text_len ≤ length content → GoesOn bytes text_len (length content + 1)
goes_on bytes content behind offset text_len at front back some text within = step (first_lf bytes)
  where
    step : HasLf bytes ⊎ (list_any is_lf bytes ≡ false) → GoesOn bytes text_len (length content + 1)
    step (inr none) = absurd (some (omega (arith, position_or_len-none is_lf bytes none, ap length back, length-drop offset bytes)))
    step (inl has) =
        let len : offset ≡ length has.content = at ∙ lf_at bytes has in
        let same : content ≡ has.content = front ∙ ap (λ (bs : List ℕ). take offset bs) has.split
        ∙ take_at has.content (10 ∷ has.more) offset (sym len) in
        record {
          content = content;
          more = has.more;
          no_lf = rw same has.no_lf;
          split = rw same has.split;
          len_is = refl;
          text_is = text_of-content content (rw same has.no_lf) ∙ text;
          text_within = within;
        }

-- what stands behind a search that met no LF grows with what is fed
take-grows : (n : ℕ) (xs ys : List ℕ) → (more : List ℕ) × (take n (xs ++ ys) ≡ take n xs ++ more)
take-grows zero xs ys = ([], refl)
take-grows (suc n) [] ys = (take (suc n) ys, refl)
take-grows (suc n) (x ∷ xs) ys = let again : (more : List ℕ) × (take n (xs ++ ys) ≡ take n xs ++ more) = take-grows n xs ys in
    (again.0, ap (λ (bs : List ℕ). x ∷ bs) again.1)

IsScanned-append : (bytes more : List ℕ) (scan : Scan) → IsScanned bytes scan → IsScanned (bytes ++ more) scan
IsScanned-append bytes more scan scanned = record {
  within = omega (arith, scanned.within, length-append bytes more);
  is_passed = rw (take-append-le scan.passed bytes more scanned.within) scanned.is_passed;
  searched =
      rw (drop-append-le scan.passed bytes more scanned.within)
      (omega (arith, scanned.searched, position_or_len-grows is_lf (drop scan.passed bytes) more));
}

pub IsScanned-fed : (n : ℕ) (bytes more : List ℕ) (scan : Scan) → IsScanned (take n bytes) scan → IsScanned (take n (bytes ++ more)) scan
IsScanned-fed n bytes more scan scanned =
    let grown : (behind : List ℕ) × (take n (bytes ++ more) ≡ take n bytes ++ behind) = take-grows n bytes more in
    rw grown.1 (IsScanned-append (take n bytes) grown.0 scan scanned)

-- behind lines among which no head ends
option_map-same : (found : Option (List ℕ)) → option_map (λ (bs : List ℕ). bs) found ≡ found
option_map-same None = refl
option_map-same (Some head) = refl

option_map-append : (line front : List ℕ) (found : Option (List ℕ)) →
    option_map (λ (bs : List ℕ). line ++ bs) (option_map (λ (bs : List ℕ). front ++ bs) found) ≡ option_map
    (λ (bs : List ℕ). (line ++ front) ++ bs) found
option_map-append line front None = refl
option_map-append line front (Some head) = ap (λ (bs : List ℕ). Some bs) (sym (append_assoc line front head))

option_map-none : (line : List ℕ) (found : Option (List ℕ)) → option_map (λ (bs : List ℕ). line ++ bs) found ≡ None → found ≡ None
option_map-none line None nothing = refl
option_map-none line (Some head) nothing = cc

up_to_empty-append : (lines more : List (List ℕ)) → up_to_empty lines ≡ None →
    up_to_empty (lines ++ more) ≡ option_map (λ (bs : List ℕ). concat lines ++ bs) (up_to_empty more)
up_to_empty-append [] more nothing = sym (option_map-same (up_to_empty more))
up_to_empty-append (line ∷ lines) more nothing = step (has_text line) refl (up_to_empty-append lines more)
  where
    step : (b : Bool) → has_text line ≡ b →
        (up_to_empty lines ≡ None → up_to_empty (lines ++ more) ≡ option_map (λ (bs : List ℕ). concat lines ++ bs) (up_to_empty more)) →
        up_to_empty (line ∷ (lines ++ more)) ≡ option_map (λ (bs : List ℕ). (line ++ concat lines) ++ bs) (up_to_empty more)
    step true is again =
        rw (is, again (option_map-none line (up_to_empty lines) (rw is at nothing)))
        (option_map-append line (concat lines) (up_to_empty more))
    step false is again = let no : Some line ≡ None = rw is at nothing in cc

head_of-append : (lines more : List (List ℕ)) → head_of lines ≡ None →
    head_of (lines ++ more) ≡ option_map (λ (bs : List ℕ). concat lines ++ bs)
    (cond (list_any has_text lines) (up_to_empty more) (head_of more))
head_of-append [] more nothing = sym (option_map-same (head_of more))
head_of-append (line ∷ lines) more nothing = step (has_text line) refl (head_of-append lines more)
  where
    step : (b : Bool) → has_text line ≡ b →
        (head_of lines ≡ None →
        head_of (lines ++ more) ≡ option_map (λ (bs : List ℕ). concat lines ++ bs)
        (cond (list_any has_text lines) (up_to_empty more) (head_of more))) →
        head_of (line ∷ (lines ++ more)) ≡ option_map (λ (bs : List ℕ). (line ++ concat lines) ++ bs)
        (cond (list_any has_text (line ∷ lines)) (up_to_empty more) (head_of more))
    step true is again =
        rw (is, up_to_empty-append lines more (option_map-none line (up_to_empty lines) (rw is at nothing)))
        (option_map-append line (concat lines) (up_to_empty more))
    step false is again =
        rw (is, again (option_map-none line (head_of lines) (rw is at nothing)))
        (option_map-append line (concat lines) (cond (list_any has_text lines) (up_to_empty more) (head_of more)))

first_text-append : (lines more : List (List ℕ)) →
    first_text (lines ++ more) ≡ cond (list_any has_text lines) (first_text lines) (first_text more)
first_text-append [] more = refl
first_text-append (line ∷ lines) more = step (has_text line) refl (first_text-append lines more)
  where
    step : (b : Bool) → has_text line ≡ b →
        first_text (lines ++ more) ≡ cond (list_any has_text lines) (first_text lines) (first_text more) →
        first_text (line ∷ (lines ++ more)) ≡ cond (list_any has_text (line ∷ lines)) (first_text (line ∷ lines)) (first_text more)
    step true is again = rw is refl
    step false is again = rw is again

up_to_command-append : (lines more : List (List ℕ)) →
    up_to_command (lines ++ more) ≡ cond (list_any has_text lines) (up_to_command lines) (concat lines ++ up_to_command more)
up_to_command-append [] more = refl
up_to_command-append (line ∷ lines) more = step (has_text line) refl (up_to_command-append lines more)
  where
    behind : (b : Bool) → list_any has_text lines ≡ b →
        up_to_command (lines ++ more) ≡ cond b (up_to_command lines) (concat lines ++ up_to_command more) →
        line ++ up_to_command (lines ++ more) ≡ cond b (line ++ up_to_command lines) ((line ++ concat lines) ++ up_to_command more)
    behind true is again = ap (λ (bs : List ℕ). line ++ bs) again
    behind false is again = ap (λ (bs : List ℕ). line ++ bs) again ∙ sym (append_assoc line (concat lines) (up_to_command more))

    step : (b : Bool) → has_text line ≡ b →
        up_to_command (lines ++ more) ≡ cond (list_any has_text lines) (up_to_command lines) (concat lines ++ up_to_command more) →
        up_to_command (line ∷ (lines ++ more)) ≡ cond (list_any has_text (line ∷ lines)) (up_to_command (line ∷ lines))
        ((line ++ concat lines) ++ up_to_command more)
    step true is again = rw is refl
    step false is again = rw is (behind (list_any has_text lines) refl again)

-- one more line behind those that were passed
lines_of-more : (passed line : List ℕ) → concat (lines_of passed) ≡ passed → IsLine line →
    lines_of (passed ++ line) ≡ lines_of passed ++ line ∷ []
lines_of-more passed line whole is_line =
    lines_of-append passed line whole
    ∙ ap (λ (lines : List (List ℕ)). lines_of passed ++ lines) (ap lines_of (sym (append-nil line)) ∙ lines_of-line line [] is_line)

whole-more : (passed line : List ℕ) → concat (lines_of passed) ≡ passed → IsLine line → concat (lines_of (passed ++ line)) ≡ passed ++ line
whole-more passed line whole is_line =
    rw (lines_of-more passed line whole is_line, concat-append (lines_of passed) (line ∷ []), whole, append-nil line) refl

pub span_bytes-append : (xs ys : List ℕ) (span : Span) → span.start + span.len ≤ length xs → span_bytes (xs ++ ys) span ≡ span_bytes xs span
span_bytes-append xs ys span fits =
    rw (drop-append-le span.start xs ys (omega arith))
    (take-append-le (span.start + span.len - span.start) (drop span.start xs) ys (omega (arith, length-drop span.start xs)))

any-more : (lines : List (List ℕ)) (line : List ℕ) → list_any has_text (lines ++ line ∷ []) ≡ (list_any has_text lines || has_text line)
any-more lines line =
    list_any-append has_text lines (line ∷ []) ∙ ap (λ (b : Bool). list_any has_text lines || b) (or-false (has_text line))
  where
    or-false : (b : Bool) → (b || false) ≡ b
    or-false true = refl
    or-false false = refl

-- the command line stays where it is
IsCommandAt-more : (passed line : List ℕ) (command : CommandLine) → IsCommandAt passed command →
    list_any has_text (lines_of passed) ≡ true → lines_of (passed ++ line) ≡ lines_of passed ++ line ∷ [] →
    IsCommandAt (passed ++ line) command
IsCommandAt-more passed line command is met lines = record {
  within = omega (arith, is.within, length-append passed line);
  text = rw (lines, first_text-append (lines_of passed) (line ∷ []), met) (span_bytes-append passed line command.text is.within ∙ is.text);
  end_within = omega (arith, is.end_within, length-append passed line);
  end_is = rw (lines, up_to_command-append (lines_of passed) (line ∷ []), met) is.end_is;
}

-- an empty line before the command
pub IsPassed-empty : (passed line : List ℕ) → IsPassed passed None → IsLine line → text_of line ≡ [] → IsPassed (passed ++ line) None
IsPassed-empty passed line is is_line empty =
    let none : list_any has_text (lines_of passed) ≡ false = sym is.met in
    let no_text : has_text line ≡ false = has_bytes-none (text_of line) empty in
    let lines : lines_of (passed ++ line) ≡ lines_of passed ++ line ∷ [] = lines_of-more passed line is.whole is_line in
    record {
      whole = whole-more passed line is.whole is_line;
      no_head = rw (lines, head_of-append (lines_of passed) (line ∷ []) is.no_head, none, no_text) refl;
      met = rw (lines, any-more (lines_of passed) line, none, no_text) refl;
      command_is = tt;
    }

-- the command line
pub IsPassed-command : (passed line : List ℕ) (command : CommandLine) → IsPassed passed None → IsLine line → text_of line ≢ [] →
    command.text.start + command.text.len ≤ length (passed ++ line) → span_bytes (passed ++ line) command.text ≡ text_of line →
    command.end ≡ length (passed ++ line) → IsPassed (passed ++ line) (Some command)
IsPassed-command passed line command is is_line some fits text ends =
    let none : list_any has_text (lines_of passed) ≡ false = sym is.met in
    let has : has_text line ≡ true = has_bytes-some (text_of line) some in
    let lines : lines_of (passed ++ line) ≡ lines_of passed ++ line ∷ [] = lines_of-more passed line is.whole is_line in
    record {
      whole = whole-more passed line is.whole is_line;
      no_head = rw (lines, head_of-append (lines_of passed) (line ∷ []) is.no_head, none, has) refl;
      met = rw (lines, any-more (lines_of passed) line, none, has) refl;
      command_is = record {
        within = fits;
        text = rw (lines, first_text-append (lines_of passed) (line ∷ []), none, has) text;
        end_within = omega (arith, ends);
        end_is = rw (lines, up_to_command-append (lines_of passed) (line ∷ []), none, has, is.whole, append-nil line) ends;
      };
    }

-- a header line
pub IsPassed-header : (passed line : List ℕ) (command : CommandLine) → IsPassed passed (Some command) → IsLine line → text_of line ≢ [] →
    IsPassed (passed ++ line) (Some command)
IsPassed-header passed line command is is_line some =
    let met : list_any has_text (lines_of passed) ≡ true = sym is.met in
    let has : has_text line ≡ true = has_bytes-some (text_of line) some in
    let lines : lines_of (passed ++ line) ≡ lines_of passed ++ line ∷ [] = lines_of-more passed line is.whole is_line in
    record {
      whole = whole-more passed line is.whole is_line;
      no_head = rw (lines, head_of-append (lines_of passed) (line ∷ []) is.no_head, met, has) refl;
      met = rw (lines, any-more (lines_of passed) line, met) refl;
      command_is = IsCommandAt-more passed line command is.command_is met lines;
    }

-- the empty line that ends the head
head-ended : (passed line more : List ℕ) (command : CommandLine) → IsPassed passed (Some command) → IsLine line → text_of line ≡ [] →
    head_of (lines_of (passed ++ (line ++ more))) ≡ Some (passed ++ line)
head-ended passed line more command is is_line empty =
    let met : list_any has_text (lines_of passed) ≡ true = sym is.met in
    let none : has_text line ≡ false = has_bytes-none (text_of line) empty in
    rw (
      lines_of-append passed (line ++ more) is.whole,
      lines_of-line line more is_line,
      head_of-append (lines_of passed)
          (line ∷ lines_of more) is.no_head,
      met,
      none,
      is.whole,
    ) refl

command_at : (passed line : List ℕ) (command : CommandLine) → IsPassed passed (Some command) → IsLine line →
    IsCommandAt (passed ++ line) command
command_at passed line command is is_line =
    IsCommandAt-more passed line command is.command_is (sym is.met) (lines_of-more passed line is.whole is_line)

-- the line at hand, behind what was passed
record AtHand (bytes : List ℕ) (scan : Scan) (text_len len : ℕ) : Type 0 where
  passed : List ℕ
  line : List ℕ
  content : List ℕ
  more : List ℕ
  passed_is : take scan.passed bytes ≡ passed
  passed_len : length passed ≡ scan.passed
  line_len : length line ≡ len
  line_is : line ≡ content ++ 10 ∷ []
  is_line : IsLine line
  split : bytes ≡ passed ++ (line ++ more)
  text : text_of line ≡ take text_len content
  text_within : text_len ≤ length content

at_hand : (bytes : List ℕ) (scan : Scan) (text_len len : ℕ) → IsScanned bytes scan → GoesOn (drop scan.passed bytes) text_len len →
    AtHand bytes scan text_len len
at_hand bytes scan text_len len scanned goes = record {
  passed = take scan.passed bytes;
  line = goes.content ++ 10 ∷ [];
  content = goes.content;
  more = goes.more;
  passed_is = refl;
  passed_len = length-take-le scan.passed bytes scanned.within;
  line_len = length-append goes.content (10 ∷ []) ∙ sym goes.len_is;
  line_is = refl;
  is_line = record { content = goes.content; no_lf = goes.no_lf; spelling = refl };
  split = sym (take-append-drop scan.passed bytes)
      ∙ ap (λ (bs : List ℕ). take scan.passed bytes ++ bs) (goes.split ∙ sym (append_assoc goes.content (10 ∷ []) goes.more));
  text = goes.text_is;
  text_within = goes.text_within;
}

behind_len : (bytes : List ℕ) (scan : Scan) (text_len len : ℕ) (hand : AtHand bytes scan text_len len) →
    length (hand.passed ++ hand.line) ≡ scan.passed + len
behind_len bytes scan text_len len hand = omega (arith, length-append hand.passed hand.line, hand.passed_len, hand.line_len)

behind_split : (bytes : List ℕ) (scan : Scan) (text_len len : ℕ) (hand : AtHand bytes scan text_len len) →
    bytes ≡ (hand.passed ++ hand.line) ++ hand.more
behind_split bytes scan text_len len hand = hand.split ∙ sym (append_assoc hand.passed hand.line hand.more)

behind_take : (bytes : List ℕ) (scan : Scan) (text_len len : ℕ) (hand : AtHand bytes scan text_len len) →
    take (scan.passed + len) bytes ≡ hand.passed ++ hand.line
behind_take bytes scan text_len len hand =
    ap (λ (bs : List ℕ). take (scan.passed + len) bs) (behind_split bytes scan text_len len hand)
    ∙ take_at (hand.passed ++ hand.line) hand.more (scan.passed + len) (behind_len bytes scan text_len len hand)

behind_within : (bytes : List ℕ) (scan : Scan) (text_len len : ℕ) → AtHand bytes scan text_len len → scan.passed + len ≤ length bytes
behind_within bytes scan text_len len hand =
    omega (
      arith,
      ap length (behind_split bytes scan text_len len hand),
      length-append
          (hand.passed ++ hand.line) hand.more,
      behind_len bytes scan text_len len hand,
    )

-- the search goes on behind the line
goes_behind : (bytes : List ℕ) (scan next : Scan) (text_len len : ℕ) (hand : AtHand bytes scan text_len len) →
    IsPassed (hand.passed ++ hand.line) next.command → next.passed ≡ scan.passed + len → next.searched ≡ 0 → IsScanned bytes next
goes_behind bytes scan next text_len len hand is passed_is none = record {
  within = omega (arith, passed_is, behind_within bytes scan text_len len hand);
  is_passed = rw (passed_is, behind_take bytes scan text_len len hand) is;
  searched = omega (arith, none);
}

no_text : (content line : List ℕ) (text_len : ℕ) → text_of line ≡ take text_len content → text_len ≡ 0 → text_of line ≡ []
no_text content line text_len text none = rw (text, none) refl

some_text : (content line : List ℕ) (text_len : ℕ) → text_of line ≡ take text_len content → text_len ≤ length content → text_len ≢ 0 →
    text_of line ≢ []
some_text content line text_len text within some empty =
    some (omega (arith, ap length (sym text ∙ empty), length-take-le text_len content within))

passed_by : (bytes : List ℕ) (scan : Scan) (text_len len : ℕ) (command : Option CommandLine) (hand : AtHand bytes scan text_len len) →
    IsScanned bytes scan → scan.command ≡ command → IsPassed hand.passed command
passed_by bytes scan text_len len command hand scanned is = rw (← is, ← hand.passed_is) scanned.is_passed

-- the line ends a head
pub ends_head : (bytes : List ℕ) (scan : Scan) (text_len len : ℕ) (command : CommandLine) → IsScanned bytes scan →
    GoesOn (drop scan.passed bytes) text_len len → scan.command ≡ Some command → text_len ≡ 0 →
    StandsHead bytes (scan.passed + len) command
ends_head bytes scan text_len len command scanned goes met none =
    let hand : AtHand bytes scan text_len len = at_hand bytes scan text_len len scanned goes in
    let is : IsPassed hand.passed (Some command) = passed_by bytes scan text_len len (Some command) hand scanned met in
    let front : take (scan.passed + len) bytes ≡ hand.passed ++ hand.line = behind_take bytes scan text_len len hand in
    record {
      within = behind_within bytes scan text_len len hand;
      head = ap (λ (bs : List ℕ). head_of (lines_of bs)) hand.split
          ∙ head-ended hand.passed hand.line hand.more command is hand.is_line (no_text hand.content hand.line text_len hand.text none)
          ∙ ap (λ (bs : List ℕ). Some bs) (sym front);
      command_is = rw front (command_at hand.passed hand.line command is hand.is_line);
    }

-- the line is an empty one in front
pub passes_empty : (bytes : List ℕ) (scan next : Scan) (text_len len : ℕ) → IsScanned bytes scan →
    GoesOn (drop scan.passed bytes) text_len len → scan.command ≡ None → text_len ≡ 0 →
    next ≡ record { passed = scan.passed + len; searched = 0; command = None } → IsScanned bytes next × (next.passed ≡ scan.passed + len)
passes_empty bytes scan next text_len len scanned goes met none is =
    let hand : AtHand bytes scan text_len len = at_hand bytes scan text_len len scanned goes in
    let passed : IsPassed (hand.passed ++ hand.line) None =
    IsPassed-empty hand.passed hand.line (passed_by bytes scan text_len len None hand scanned met) hand.is_line
    (no_text hand.content hand.line text_len hand.text none) in
    rw is (
      goes_behind bytes scan
          (record { passed = scan.passed + len; searched = 0; command = None }) text_len len hand passed refl refl,
      refl,
    )

-- the line is the command line
pub passes_command : (bytes : List ℕ) (scan next : Scan) (command : CommandLine) (text_len len : ℕ) → IsScanned bytes scan →
    GoesOn (drop scan.passed bytes) text_len len → scan.command ≡ None → text_len ≢ 0 →
    command ≡ record { text = record { start = scan.passed; len = text_len }; end = scan.passed + len } →
    next ≡ record { passed = scan.passed + len; searched = 0; command = Some command } →
    IsScanned bytes next × (next.passed ≡ scan.passed + len)
passes_command bytes scan next command text_len len scanned goes met some at is =
    let hand : AtHand bytes scan text_len len = at_hand bytes scan text_len len scanned goes in
    let span : Span = record { start = scan.passed; len = text_len } in
    let width : scan.passed + text_len - scan.passed ≡ text_len = omega arith in
    let content_len : text_len ≤ length hand.line =
    omega (arith, ap length hand.line_is, length-append hand.content (10 ∷ []), hand.text_within) in
    let text : span_bytes (hand.passed ++ hand.line) span ≡ text_of hand.line =
    rw (drop_at hand.passed hand.line scan.passed hand.passed_len, width)
    (ap (λ (bs : List ℕ). take text_len bs) hand.line_is ∙ take-append-le text_len hand.content (10 ∷ []) hand.text_within
    ∙ sym hand.text) in
    let offset : CommandLine = record { text = span; end = scan.passed + len } in
    let passed : IsPassed (hand.passed ++ hand.line) (Some offset) =
    IsPassed-command hand.passed hand.line offset (passed_by bytes scan text_len len None hand scanned met) hand.is_line
    (some_text hand.content hand.line text_len hand.text hand.text_within some)
    (omega (arith, hand.passed_len, content_len, length-append hand.passed hand.line)) text
    (sym (behind_len bytes scan text_len len hand)) in
    rw (is, at) (
      goes_behind bytes scan
          (record { passed = scan.passed + len; searched = 0; command = Some offset }) text_len len hand passed refl refl,
      refl,
    )

-- the line is a header line
pub passes_header : (bytes : List ℕ) (scan next : Scan) (text_len len : ℕ) → IsScanned bytes scan →
    GoesOn (drop scan.passed bytes) text_len len → scan.command ≢ None → text_len ≢ 0 →
    next ≡ record { passed = scan.passed + len; searched = 0; command = scan.command } →
    IsScanned bytes next × (next.passed ≡ scan.passed + len)
passes_header bytes scan next text_len len scanned goes met some is = rw is (step scan.command refl, refl)
  where
    hand : AtHand bytes scan text_len len
    hand = at_hand bytes scan text_len len scanned goes

    step : (command : Option CommandLine) → scan.command ≡ command →
        IsScanned bytes (record { passed = scan.passed + len; searched = 0; command = command })
    step None none = absurd (met none)
    step (Some command) there =
        let passed : IsPassed (hand.passed ++ hand.line) (Some command) =
        IsPassed-header hand.passed hand.line command (passed_by bytes scan text_len len (Some command) hand scanned there) hand.is_line
        (some_text hand.content hand.line text_len hand.text hand.text_within some) in
        goes_behind bytes scan (record { passed = scan.passed + len; searched = 0; command = Some command }) text_len len hand passed
        refl refl

-- the bytes go on with no line, so no head ends in them
pub searched_all : (bytes : List ℕ) (scan : Scan) → IsScanned bytes scan → list_any is_lf (drop scan.passed bytes) ≡ false →
    IsScanned bytes (record scan { searched = length bytes - scan.passed }) × (head_of (lines_of bytes) ≡ None)
searched_all bytes scan scanned no_lf = (
  record {
    within = scanned.within;
    is_passed = scanned.is_passed;
    searched = omega (arith, position_or_len-none is_lf (drop scan.passed bytes) no_lf, length-drop scan.passed bytes);
  },
  no_head,
)
  where
    lines : lines_of bytes ≡ lines_of (take scan.passed bytes) ++ []
    lines =
        ap lines_of (sym (take-append-drop scan.passed bytes))
        ∙ lines_of-append (take scan.passed bytes) (drop scan.passed bytes) scanned.is_passed.whole ∙
        ap (λ (more : List (List ℕ)). lines_of (take scan.passed bytes) ++ more) (lines_of-none (drop scan.passed bytes) no_lf)

    no_head : head_of (lines_of bytes) ≡ None
    no_head = ap head_of (lines ∙ append-nil (lines_of (take scan.passed bytes))) ∙ scanned.is_passed.no_head
