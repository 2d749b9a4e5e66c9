-- What was written of an event is read back.
use Rattle.std.proofs.Common.{◌≡◌, ◌<◌, ◌≤◌, ◌+◌, ◌^◌, ◌&&◌, ◌==◌, ℕ, zero, suc, Bool, true, false, not, cond, List, [], ◌∷◌, ◌++◌, map}
use Rattle.std.proofs.Common.{length, codes, nat_lt, All, append-nil, refl, sym, ap, ◌∙◌, append_assoc, arith, rules}
use Rattle.std.specs.Char.{is_ascii_digit}
use Rattle.std.specs.Fmt.{decimal}
use Rattle.std.specs.List.{concat, list_any, list_all}
use Rattle.std.specs.Str.Parse.{digits_value}
use Rattle.std.proofs.lemmas.Bool.{agree_below_at, and_parts, eqb-true}
use Rattle.std.proofs.lemmas.Bool.Decides.{nat_tests}
use Rattle.std.proofs.lemmas.Fmt.{digits_decimal}
use Rattle.std.proofs.lemmas.List.{length-append}
use Rattle.std.proofs.lemmas.List.Elements.{All-nil, All-cons, All-head, All-tail, All-append, All-filter, All-weaker}
use Rattle.std.proofs.lemmas.List.Folds.{list_any-append, list_any_none}
use Rattle.std.proofs.lemmas.List.Sums.{AllPass-from_list_all}
use Rattle.std.proofs.lemmas.Str.Parse.{IsNumeralModel, numerals_by_value}
use Rattle.percent_encoding.specs.Percent.{percent_encode_byte}
use Rattle.percent_encoding.proofs.PercentLemmas.{IsEscapeByte, All-percent_encode_byte}
use Rattle.fs_text.specs.Escape.{is_escaped, escape_of_byte, escape}
use Rattle.fs_text.specs.Headers.{with_values}
use Rattle.fs_text.specs.Texts.{Text}
use Rattle.fs_text.specs.Words.{is_byte}
use Rattle.fs_text.proofs.Cuts.{before_behind, after_behind}
use Rattle.fs_text.proofs.EscapeLemmas.{percent_decode-escape}
use Rattle.fs_event.specs.declared.event.Event.{Event}
use Rattle.fs_event.specs.Texts.{escaped_line, line_with_value, length_line, body_length, plain, frame}
use Rattle.fs_event.specs.Reading.{header_of, with_header, read_within, read_text, IsHeader, IsTellable, length_header, body_header}
use Rattle.fs_event.specs.Reading.{told, framed}

-- ---- a line

-- an escaped value stands in one line
kept_no_lf : (b : ℕ) → is_escaped b ≡ false → is_byte 10 b ≡ false
kept_no_lf b kept = by (b == 10) refl
  where
    by : (t : Bool) → (b == 10) ≡ t → t ≡ false
    by false is = refl
    by true is =
        let same : b ≡ 10 = eqb-true b 10 is in
        let no : is_escaped 10 ≡ false = ap is_escaped (sym same) ∙ kept in
        absurd (cc)

escape_byte_no_lf : (b : ℕ) → IsEscapeByte b → is_byte 10 b ≡ false
escape_byte_no_lf b is = grind (arith, nat_tests)

byte_no_lf : (b : ℕ) → list_any (is_byte 10) (escape_of_byte b) ≡ false
byte_no_lf b = by (is_escaped b) refl
  where
    by : (t : Bool) → is_escaped b ≡ t → list_any (is_byte 10) (cond t (percent_encode_byte b) (b ∷ [])) ≡ false
    by true is =
        list_any_none (is_byte 10) (percent_encode_byte b)
        (All-weaker IsEscapeByte (λ c. is_byte 10 c ≡ false) escape_byte_no_lf (percent_encode_byte b) (All-percent_encode_byte b))
    by false is = rw (kept_no_lf b is) refl

escape_no_lf : (text : Text) → list_any (is_byte 10) (escape text) ≡ false
unfolding escape
escape_no_lf [] = refl
escape_no_lf (b ∷ text) =
    list_any-append (is_byte 10) (escape_of_byte b) (escape text) ∙ rw (byte_no_lf b, escape_no_lf text) refl

-- the line of a header, without its end
abbrev content : Text × Text → Text
content header = header.0 ++ 58 ∷ 32 ∷ escape header.1

content_no_lf : (header : Text × Text) → IsHeader header → list_any (is_byte 10) (content header) ≡ false
content_no_lf header is = list_any-append (is_byte 10) header.0 (58 ∷ 32 ∷ escape header.1) ∙ rw (is.no_lf, escape_no_lf header.1) refl

content_is_long : (header : Text × Text) → (length (content header) == 0) ≡ false
content_is_long header = let size = length-append header.0 (58 ∷ 32 ∷ escape header.1) in grind (arith, nat_tests)

content_is_read : (header : Text × Text) → IsHeader header → header_of (content header) ≡ header
content_is_read header is =
    let name = before_behind (is_byte 58) header.0 58 (32 ∷ escape header.1) is.no_colon refl in
    let value = after_behind (is_byte 58) header.0 58 (32 ∷ escape header.1) is.no_colon refl in
    rw (name, value, percent_decode-escape header.1 is.bytes) refl

line_seam : (header : Text × Text) (more : Text) → escaped_line header ++ more ≡ content header ++ 10 ∷ more
line_seam header more = simp append_assoc

-- ---- lines

abbrev lines : List (Text × Text) → Text
lines headers = concat (map escaped_line headers)

line_read : (k : ℕ) (line more : Text) → list_any (is_byte 10) line ≡ false → (length line == 0) ≡ false →
    read_within (suc k) (line ++ 10 ∷ more) ≡ with_header (header_of line) (read_within k more)
line_read k line more one_line some =
    let front = before_behind (is_byte 10) line 10 more one_line refl in
    let back = after_behind (is_byte 10) line 10 more one_line refl in
    rw (front, back, some) refl

lines_read : (k : ℕ) (headers : List (Text × Text)) (body : Text) → All IsHeader headers → length headers ≤ k →
    read_within (suc k) (lines headers ++ 10 ∷ body) ≡ (headers, body)
lines_read k [] body are within = refl
lines_read zero (header ∷ headers) body are within = absurd (omega arith)
lines_read (suc k) (header ∷ headers) body are within =
    let is = All-head IsHeader header headers are in
    let behind = All-tail IsHeader header headers are in
    let more : Text = lines headers ++ 10 ∷ body in
    ap (read_within (suc (suc k))) (append_assoc (escaped_line header) (lines headers) (10 ∷ body) ∙ line_seam header more)
    ∙ line_read (suc k) (content header) more (content_no_lf header is) (content_is_long header)
    ∙ rw (content_is_read header is, lines_read k headers body behind (omega arith)) refl

lines_are_long : (headers : List (Text × Text)) (body : Text) → length headers ≤ length (lines headers ++ body)
lines_are_long [] body = omega arith
lines_are_long (header ∷ headers) body =
    let seam = append_assoc (escaped_line header) (lines headers) body ∙ line_seam header (lines headers ++ body) in
    let size : length (lines (header ∷ headers) ++ body) ≡ length (content header ++ 10 ∷ (lines headers ++ body)) = ap length seam in
    omega (arith, size, length-append (content header) (10 ∷ (lines headers ++ body)), lines_are_long headers body)

all_read : (headers : List (Text × Text)) (body : Text) → All IsHeader headers → read_text (lines headers ++ 10 ∷ body) ≡ (headers, body)
unfolding read_text
all_read headers body are =
    let text : Text = lines headers ++ 10 ∷ body in
    ap (λ n. read_within n text) {x = length text + 1} {y = suc (length text)} (omega arith)
    ∙ lines_read (length text) headers body are (lines_are_long headers (10 ∷ body))

-- ---- lengths

digits : IsNumeralModel (λ text. list_all is_ascii_digit text ≡ true) (digits_value 10)
digits = numerals_by_value _ (search rules)

digit_is_kept : (b : ℕ) → is_ascii_digit b ≡ true → is_escaped b ≡ false
digit_is_kept b digit =
    let small : b < 128 = grind (arith, nat_tests) in
    let both = agree_below_at (λ b. is_ascii_digit b && is_escaped b) (λ _. false) 128 b refl small in
    rw digit at both

digits_are_kept : (text : Text) → list_all is_ascii_digit text ≡ true → escape text ≡ text
unfolding escape
digits_are_kept [] all = refl
digits_are_kept (b ∷ text) all =
    let parts = and_parts (is_ascii_digit b) (list_all is_ascii_digit text) all in
    rw (digit_is_kept b parts.0, digits_are_kept text parts.1) refl

decimal_is_kept : (n : ℕ) → n < 2 ^ 64 → escape (decimal n) ≡ decimal n
decimal_is_kept n small = digits_are_kept (decimal n) (digits_decimal digits n small)

length_line_is : (text : Text) → length text < 2 ^ 64 → length_line (length text) ≡ escaped_line (length_header text)
length_line_is text small = rw (decimal_is_kept (length text) small) refl

are_bytes : (text : Text) → list_all (λ b. nat_lt b 256) text ≡ true → All (λ b. b < 256) text
are_bytes text all =
    All-weaker (λ b. nat_lt b 256 ≡ true) (λ b. b < 256) (λ b is. grind (arith, nat_tests)) text (AllPass-from_list_all _ text all)

digits_are_bytes : (text : Text) → list_all is_ascii_digit text ≡ true → All (λ b. b < 256) text
digits_are_bytes text all =
    All-weaker (λ b. is_ascii_digit b ≡ true) (λ b. b < 256) (λ b is. grind (arith, nat_tests)) text (AllPass-from_list_all _ text all)

length_is_header : (text : Text) → length text < 2 ^ 64 → IsHeader (length_header text)
length_is_header text small = record {
  no_colon = refl;
  no_lf = refl;
  bytes = digits_are_bytes (decimal (length text)) (digits_decimal digits (length text) small);
}

-- ---- the text of an event

-- the lines that are written are those of the headers that have a value
written : (headers : List (Text × Text)) → concat (map line_with_value headers) ≡ lines (with_values headers)
unfolding line_with_value
written [] = refl
written (header ∷ headers) = by (length header.1 == 0) refl (written headers)
  where
    by : (t : Bool) → (length header.1 == 0) ≡ t → concat (map line_with_value headers) ≡ lines (with_values headers) →
        concat (map line_with_value (header ∷ headers)) ≡ lines (with_values (header ∷ headers))
    by true is more = rw (is, more) refl
    by false is more = rw (is, more) refl

lines-append : (some more : List (Text × Text)) → lines (some ++ more) ≡ lines some ++ lines more
lines-append [] more = refl
lines-append (header ∷ some) more =
    ap (λ l. escaped_line header ++ l) (lines-append some more) ∙ sym (append_assoc (escaped_line header) _ _)

body_line : (body : Text) → length body < 2 ^ 64 → body_length body ≡ lines (body_header body)
unfolding body_length body_header
body_line body small = by (length body == 0)
  where
    by : (t : Bool) → cond t [] (length_line (length body)) ≡ lines (cond t [] (length_header body ∷ []))
    by true = refl
    by false = length_line_is body small ∙ sym (append-nil _)

body_headers : (body : Text) → length body < 2 ^ 64 → All IsHeader (body_header body)
unfolding body_header
body_headers body small = by (length body == 0)
  where
    by : (t : Bool) → All IsHeader (cond t [] (length_header body ∷ []))
    by true = All-nil IsHeader
    by false = All-cons IsHeader (length_header body) [] (length_is_header body small) (All-nil IsHeader)

plain_is_lines : (event : Event) → IsTellable event → plain event ≡ lines (told event).0 ++ 10 ∷ event.body
unfolding plain told
plain_is_lines event is =
    let front = written event.headers in
    let back = body_line event.body is.body in
    let both = lines-append (with_values event.headers) (body_header event.body) in
    let seam = append_assoc (lines (body_header event.body)) (codes "\n") event.body in
    rw (front, back, both, seam) (sym (append_assoc (lines (with_values event.headers)) (lines (body_header event.body)) (codes "\n" ++ event.body)))

pub plain_is_read : (event : Event) → IsTellable event → read_text (plain event) ≡ told event
unfolding told
plain_is_read event is =
    let front = All-filter (λ header. not (length header.1 == 0)) IsHeader event.headers is.headers in
    let back = body_headers event.body is.body in
    let are = All-append IsHeader (with_values event.headers) (body_header event.body) front back in
    ap read_text (plain_is_lines event is) ∙ all_read (told event).0 event.body are

pub one_is_told : (a b : Event) → IsTellable a → IsTellable b → plain a ≡ plain b → told a ≡ told b
one_is_told a b a_is b_is same = sym (plain_is_read a a_is) ∙ ap read_text same ∙ plain_is_read b b_is

-- ---- its frame

abbrev type_header : Text × Text
type_header = (codes "Content-Type", codes "text/event-plain")

type_is_header : IsHeader type_header
type_is_header = record { no_colon = refl; no_lf = refl; bytes = are_bytes (codes "text/event-plain") refl }

frame_is_lines : (text : Text) → length text < 2 ^ 64 →
    length_line (length text) ++ codes "Content-Type: text/event-plain\n\n" ++ text ≡ lines (framed text).0 ++ 10 ∷ text
unfolding escape framed
frame_is_lines text small =
    ap (λ line. line ++ codes "Content-Type: text/event-plain\n\n" ++ text) (length_line_is text small)
    ∙ append_assoc (escaped_line (length_header text)) (codes "Content-Type: text/event-plain\n\n") text
    ∙ sym (append_assoc (escaped_line (length_header text)) (lines (type_header ∷ [])) (10 ∷ text))

pub frame_is_read : (event : Event) → length (plain event) < 2 ^ 64 → read_text (frame event) ≡ framed (plain event)
unfolding frame framed
frame_is_read event small =
    let text = plain event in
    let last = All-cons IsHeader type_header [] type_is_header (All-nil IsHeader) in
    let are = All-cons IsHeader (length_header text) (type_header ∷ []) (length_is_header text small) last in
    ap read_text (frame_is_lines text small) ∙ all_read (framed text).0 text are
