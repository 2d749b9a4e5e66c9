-- Headers as they are read off the front of lines.
use Rattle.std.proofs.Common.{◌≡◌, ◌≢◌, ℕ, suc, ◌-◌, ◌≤◌, Bool, true, false, cond, ◌&&◌, List, [], ◌∷◌, ◌++◌, length, take}
use Rattle.std.proofs.Common.{drop, get_or, None, Some, refl, sym, ◌∙◌, ap, arith}
use Rattle.std.proofs.lemmas.List.{append-nil}
use Rattle.std.specs.List.{list_any, list_all, cons_option}
use Rattle.fs_text.specs.Texts.{Text}
use Rattle.fs_frame.specs.Lines.{is_lf, text_of, has_text, lines_of}
use Rattle.std.specs.Str.{str_eq_ignore_ascii_case}
use Rattle.fs_frame.specs.Headers.{is_blank, up_to_last, header_of, headers_among, headers_of, value_among, header_in}
use Rattle.fs_frame.specs.Front.{GoesOn, first_of}
use Rattle.fs_frame.proofs.LineLaws.{lines_of-none, lines_of-behind}
use Rattle.fs_frame.proofs.CommandLaws.{TextHere, NoTextHere, with_text, without_text}

-- ---- the text of the first line

pub first_of-none : (bytes : List ℕ) → list_any is_lf bytes ≡ false → first_of (lines_of bytes) bytes ≡ None
first_of-none bytes no_lf = rw (lines_of-none bytes no_lf) refl

pub first_of-empty : (bytes : List ℕ) (text_len len : ℕ) → GoesOn bytes text_len len → text_len ≡ 0 →
    first_of (lines_of bytes) bytes ≡ None
first_of-empty bytes text_len len goes none =
    let here : NoTextHere bytes len = without_text bytes text_len len goes none in
    rw (here.lines, here.none) refl

pub first_of-text : (bytes : List ℕ) (text_len len : ℕ) → GoesOn bytes text_len len → text_len ≢ 0 →
    first_of (lines_of bytes) bytes ≡ Some (take text_len bytes, drop len bytes)
first_of-text bytes text_len len goes some =
    let here : TextHere bytes text_len len = with_text bytes text_len len goes some in
    rw (here.lines, here.has, here.text, here.line_len) refl

-- ---- headers

-- one does: its header, if it is one, comes before those behind it
pub headers_among-first : (bytes : List ℕ) (parts : List ℕ × List ℕ) → first_of (lines_of bytes) bytes ≡ Some parts →
    headers_among (lines_of bytes) ≡ cons_option (header_of parts.0) (headers_among (lines_of parts.1))
headers_among-first bytes parts found = by (lines_of bytes) refl found
  where
    some_is : (a b : List ℕ × List ℕ) → Some a ≡ Some b → a ≡ b
    some_is a b is = cc

    here : (line : List ℕ) (lines : List (List ℕ)) → lines_of bytes ≡ line ∷ lines → has_text line ≡ true →
        (first : List ℕ × List ℕ) → first ≡ (text_of line, drop (length line) bytes) → Some first ≡ Some parts →
        headers_among (lines_of bytes) ≡ cons_option (header_of parts.0) (headers_among (lines_of parts.1))
    here line lines is has first first_is at =
        let same : first ≡ parts = some_is first parts at in
        let text : parts.0 ≡ text_of line = ap (λ (p : List ℕ × List ℕ). p.0) (sym same ∙ first_is) in
        let behind : parts.1 ≡ drop (length line) bytes = ap (λ (p : List ℕ × List ℕ). p.1) (sym same ∙ first_is) in
        let left : lines_of (drop (length (line ++ [])) bytes) ≡ lines = lines_of-behind bytes (line ∷ []) lines is in
        let rest : lines_of parts.1 ≡ lines = ap lines_of behind ∙ ap (λ (bs : List ℕ). lines_of (drop (length bs) bytes))
        (sym (append-nil line)) ∙ left in
        rw (is, has, text, rest) refl

    by : (lines : List (List ℕ)) → lines_of bytes ≡ lines → first_of lines bytes ≡ Some parts →
        headers_among (lines_of bytes) ≡ cons_option (header_of parts.0) (headers_among (lines_of parts.1))
    by [] is at = let no : None ≡ Some parts = at in cc
    by (line ∷ lines) is at = step (has_text line) refl
      where
        step : (b : Bool) → has_text line ≡ b →
            headers_among (lines_of bytes) ≡ cons_option (header_of parts.0) (headers_among (lines_of parts.1))
        step true has = here line lines is has (text_of line, drop (length line) bytes) refl (rw has at at)
        step false has = let no : None ≡ Some parts = rw has at at in cc

-- ---- the value of a name

-- the headers of a block are searched, from the first
pub value_among-all : (name : Text) (headers : List (Text × Text)) (block : List ℕ) → headers ≡ headers_of block →
    value_among name headers ≡ header_in name block
unfolding header_in
value_among-all name headers block is = ap (value_among name) is

-- the first has the name
pub value_among-here : (name : Text) (headers more : List (Text × Text)) (header : Text × Text) → headers ≡ header ∷ more →
    str_eq_ignore_ascii_case header.0 name ≡ true → Some header.1 ≡ value_among name headers
value_among-here name headers more header is named = rw (is, named) refl

-- it has another
pub value_among-behind : (name : Text) (headers more : List (Text × Text)) (header : Text × Text) → headers ≡ header ∷ more →
    str_eq_ignore_ascii_case header.0 name ≡ false → value_among name more ≡ value_among name headers
value_among-behind name headers more header is other = rw (is, other) refl

-- there is none
pub value_among-none : (name : Text) (headers : List (Text × Text)) → headers ≡ [] → None ≡ value_among name headers
value_among-none name headers is = rw is refl

-- ---- blanks

-- a blank at the end
up_to_last-snoc : (text : Text) (byte : ℕ) → is_blank byte ≡ true → up_to_last (text ++ byte ∷ []) ≡ up_to_last text
up_to_last-snoc [] byte blank = rw blank refl
up_to_last-snoc (first ∷ text) byte blank = rw all_same (ap (λ (bs : Text). cond (is_blank first && list_all is_blank text) [] (first ∷ bs))
    (up_to_last-snoc text byte blank))
  where
    all_more : (bs : Text) → list_all is_blank (bs ++ byte ∷ []) ≡ list_all is_blank bs
    all_more [] = rw blank refl
    all_more (b ∷ bs) = ap (λ (rest : Bool). is_blank b && rest) (all_more bs)

    all_same : (is_blank first && list_all is_blank (text ++ byte ∷ [])) ≡ (is_blank first && list_all is_blank text)
    all_same = ap (λ (rest : Bool). is_blank first && rest) (all_more text)

-- none at the end
up_to_last-other_snoc : (text : Text) (byte : ℕ) → is_blank byte ≡ false → up_to_last (text ++ byte ∷ []) ≡ text ++ byte ∷ []
up_to_last-other_snoc [] byte other = rw other refl
up_to_last-other_snoc (first ∷ text) byte other =
    rw (none_all (first ∷ text)) (ap (λ (bs : Text). first ∷ bs) (up_to_last-other_snoc text byte other))
  where
    none_all : (bs : Text) → list_all is_blank (bs ++ byte ∷ []) ≡ false
    none_all [] = rw other refl
    none_all (b ∷ bs) = rw (none_all bs) (and_false (is_blank b))
      where
        and_false : (b : Bool) → (b && false) ≡ false
        and_false true = refl
        and_false false = refl

-- a text is all but its last byte, and that
split_last : (text : Text) → 1 ≤ length text → take (length text - 1) text ++ get_or text (length text - 1) 0 ∷ [] ≡ text
split_last [] some = absurd (omega arith)
split_last (byte ∷ []) some = refl
split_last (byte ∷ next ∷ text) some =
    let len : length (byte ∷ next ∷ text) - 1 ≡ suc (length (next ∷ text) - 1) = omega arith in
    rw len (ap (λ (bs : Text). byte ∷ bs) (split_last (next ∷ text) (omega arith)))

pub up_to_last-blank : (text : Text) → 1 ≤ length text → is_blank (get_or text (length text - 1) 0) ≡ true →
    up_to_last (take (length text - 1) text) ≡ up_to_last text
up_to_last-blank text some blank =
    sym (up_to_last-snoc (take (length text - 1) text) (get_or text (length text - 1) 0) blank) ∙ ap up_to_last (split_last text some)

pub up_to_last-other : (text : Text) → (1 ≤ length text → is_blank (get_or text (length text - 1) 0) ≡ false) → text ≡ up_to_last text
up_to_last-other [] other = refl
up_to_last-other (byte ∷ text) other =
    let some : 1 ≤ length (byte ∷ text) = omega arith in
    let split : take (length (byte ∷ text) - 1) (byte ∷ text) ++ get_or (byte ∷ text) (length (byte ∷ text) - 1) 0 ∷ [] ≡ byte ∷ text =
    split_last (byte ∷ text) some in
    sym split ∙ sym (up_to_last-other_snoc (take (length (byte ∷ text) - 1) (byte ∷ text))
    (get_or (byte ∷ text) (length (byte ∷ text) - 1) 0) (other some)) ∙ ap up_to_last split
