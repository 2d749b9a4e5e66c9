-- Where a command line stands, and what stands behind it.
use Rattle.std.proofs.Common.{◌≡◌, ◌≢◌, ℕ, ◌+◌, ◌-◌, ◌≤◌, ◌<◌, Bool, true, false, cond, List, [], ◌∷◌, ◌++◌, length, take, drop, refl}
use Rattle.std.proofs.Common.{sym, ap, ◌∙◌, append_assoc, arith, length-append, Option, None, Some}
use Rattle.std.proofs.lemmas.List.{append-nil, drop_at, drop-drop, take-append-le, length-drop, length-take-le}
use Rattle.std.specs.List.{concat, list_any}
use Rattle.std.specs.Option.{option_map, option_map_or}
use Rattle.fs_frame.specs.Lines.{is_lf, text_of, has_text, lines_of, first_text, up_to_command, behind_command}
use Rattle.fs_frame.specs.Headers.{headers_among, headers_of}
use Rattle.fs_frame.specs.Block.{IsHead, up_to_empty, head_of, body_of}
use Rattle.fs_frame.specs.Front.{GoesOn, IsCommandAt, behind_end}
use Rattle.fs_frame.specs.declared.span.CommandLine.{CommandLine}
use Rattle.fs_frame.proofs.LineLaws.{lines_of-line, lines_of-none, lines_of-behind, has_bytes-none, has_bytes-some}
use Rattle.fs_frame.proofs.FormLaws.{first_text-head, up_to_command-head}
use Rattle.fs_frame.proofs.ScanLaws.{span_bytes-append}

-- ---- behind the command line

-- the lines up to the command line
lines_to : List (List ℕ) → List (List ℕ)
lines_to [] = []
lines_to (line ∷ lines) = line ∷ cond (has_text line) [] (lines_to lines)

lines_to-concat : (lines : List (List ℕ)) → concat (lines_to lines) ≡ up_to_command lines
unfolding lines_to
lines_to-concat [] = refl
lines_to-concat (line ∷ lines) = step (has_text line) refl (lines_to-concat lines)
  where
    step : (b : Bool) → has_text line ≡ b → concat (lines_to lines) ≡ up_to_command lines →
        line ++ concat (cond b [] (lines_to lines)) ≡ line ++ cond b [] (up_to_command lines)
    step true is again = refl
    step false is again = ap (λ (bs : List ℕ). line ++ bs) again

lines_to-behind : (lines : List (List ℕ)) → lines ≡ lines_to lines ++ behind_command lines
unfolding lines_to
lines_to-behind [] = refl
lines_to-behind (line ∷ lines) = step (has_text line) refl (lines_to-behind lines)
  where
    step : (b : Bool) → has_text line ≡ b → lines ≡ lines_to lines ++ behind_command lines →
        line ∷ lines ≡ line ∷ (cond b [] (lines_to lines) ++ cond b lines (behind_command lines))
    step true is again = refl
    step false is again = ap (λ (ls : List (List ℕ)). line ∷ ls) again

-- where it ends the lines behind it begin
pub lines_of-behind_command : (bytes : List ℕ) (command : CommandLine) → IsCommandAt bytes command →
    lines_of (drop command.end bytes) ≡ behind_command (lines_of bytes)
lines_of-behind_command bytes command is =
    ap (λ (n : ℕ). lines_of (drop n bytes)) (is.end_is ∙ ap length (sym (lines_to-concat (lines_of bytes))))
    ∙ lines_of-behind bytes (lines_to (lines_of bytes)) (behind_command (lines_of bytes)) (lines_to-behind (lines_of bytes))

-- so the headers are those of what stands there
pub headers_of-behind : (bytes : List ℕ) (command : CommandLine) → IsCommandAt bytes command →
    headers_among (lines_of (drop command.end bytes)) ≡ headers_of bytes
unfolding headers_of
headers_of-behind bytes command is = ap headers_among (lines_of-behind_command bytes command is)

head_of-command_line : (lines : List (List ℕ)) →
    head_of lines ≡ option_map (λ (more : List ℕ). up_to_command lines ++ more) (up_to_empty (behind_command lines))
head_of-command_line [] = refl
head_of-command_line (line ∷ lines) = step (has_text line) refl (head_of-command_line lines)
  where
    longer : (front : List ℕ) (found : Option (List ℕ)) →
        option_map (λ (more : List ℕ). line ++ more) (option_map (λ (more : List ℕ). front ++ more) found) ≡ option_map
        (λ (more : List ℕ). (line ++ front) ++ more) found
    longer front None = refl
    longer front (Some more) = ap (λ (bs : List ℕ). Some bs) (sym (append_assoc line front more))

    step : (b : Bool) → has_text line ≡ b →
        head_of lines ≡ option_map (λ (more : List ℕ). up_to_command lines ++ more) (up_to_empty (behind_command lines)) →
        option_map (λ (more : List ℕ). line ++ more) (cond b (up_to_empty lines) (head_of lines)) ≡ option_map
        (λ (more : List ℕ). (line ++ cond b [] (up_to_command lines)) ++ more) (up_to_empty (cond b lines (behind_command lines)))
    step true is again = rw (append-nil line) refl
    step false is again =
        ap (option_map (λ (more : List ℕ). line ++ more)) again ∙ longer (up_to_command lines) (up_to_empty (behind_command lines))

-- and the body stands behind the first empty line there
pub body_of-behind : (bytes : List ℕ) (command : CommandLine) → IsCommandAt bytes command →
    behind_end (drop command.end bytes) ≡ body_of bytes
unfolding body_of
body_of-behind bytes command is =
    rw (lines_of-behind_command bytes command is, head_of-command_line (lines_of bytes), is.end_is)
    (step (up_to_empty (behind_command (lines_of bytes))))
  where
    front : List ℕ
    front = up_to_command (lines_of bytes)

    step : (found : Option (List ℕ)) →
        option_map_or (λ (more : List ℕ). drop (length more) (drop (length front) bytes)) found [] ≡ option_map_or
        (λ (head : List ℕ). drop (length head) bytes) (option_map (λ (more : List ℕ). front ++ more) found) []
    step None = refl
    step (Some more) = drop-drop (length more) (length front) bytes ∙ ap (λ (n : ℕ). drop n bytes) (sym (length-append front more))

-- the command line of a head is that of what begins with it
pub IsCommandAt-head : (head more : List ℕ) (command : CommandLine) → IsHead head → IsCommandAt head command →
    IsCommandAt (head ++ more) command
IsCommandAt-head head more command is_head is = record {
  within = omega (arith, is.within, length-append head more);
  text = span_bytes-append head more command.text is.within ∙ is.text
      ∙ ap (λ (bs : List ℕ). first_text (lines_of bs)) (sym (append-nil head)) ∙ first_text-head head [] is_head
      ∙ sym (first_text-head head more is_head);
  end_within = omega (arith, is.end_within, length-append head more);
  end_is = is.end_is
      ∙ ap length
      (ap (λ (bs : List ℕ). up_to_command (lines_of bs)) (sym (append-nil head)) ∙ up_to_command-head head [] is_head
      ∙ sym (up_to_command-head head more is_head));
}

-- ---- the line in front

-- the lines, where the bytes go on with one
pub lines_here : (bytes : List ℕ) (text_len len : ℕ) (goes : GoesOn bytes text_len len) →
    lines_of bytes ≡ (goes.content ++ 10 ∷ []) ∷ lines_of goes.more
lines_here bytes text_len len goes =
    ap lines_of (goes.split ∙ sym (append_assoc goes.content (10 ∷ []) goes.more))
    ∙ lines_of-line (goes.content ++ 10 ∷ []) goes.more (record { content = goes.content; no_lf = goes.no_lf; spelling = refl })

pub text_here : (bytes : List ℕ) (text_len len : ℕ) (goes : GoesOn bytes text_len len) →
    text_of (goes.content ++ 10 ∷ []) ≡ take text_len bytes
text_here bytes text_len len goes =
    goes.text_is ∙ sym (ap (take text_len) goes.split ∙ take-append-le text_len goes.content (10 ∷ goes.more) goes.text_within)

pub more_here : (bytes : List ℕ) (text_len len : ℕ) (goes : GoesOn bytes text_len len) → drop len bytes ≡ goes.more
more_here bytes text_len len goes =
    ap (drop len) (goes.split ∙ sym (append_assoc goes.content (10 ∷ []) goes.more))
    ∙ drop_at (goes.content ++ 10 ∷ []) goes.more len (len_here bytes text_len len goes)
  where
    len_here : (bytes : List ℕ) (text_len len : ℕ) (goes : GoesOn bytes text_len len) → length (goes.content ++ 10 ∷ []) ≡ len
    len_here bytes text_len len goes = length-append goes.content (10 ∷ []) ∙ sym goes.len_is

pub len_within : (bytes : List ℕ) (text_len len : ℕ) → GoesOn bytes text_len len → (len ≤ length bytes) × (text_len < len)
len_within bytes text_len len goes = (
  omega (arith, goes.len_is, ap length goes.split, length-append goes.content (10 ∷ goes.more)),
  omega (arith, goes.len_is, goes.text_within),
)

has_no_text : (bytes : List ℕ) (text_len len : ℕ) (goes : GoesOn bytes text_len len) → text_len ≡ 0 →
    has_text (goes.content ++ 10 ∷ []) ≡ false
has_no_text bytes text_len len goes none =
    has_bytes-none (text_of (goes.content ++ 10 ∷ [])) (rw (text_here bytes text_len len goes, none) refl)

has_some_text : (bytes : List ℕ) (text_len len : ℕ) (goes : GoesOn bytes text_len len) → text_len ≢ 0 →
    has_text (goes.content ++ 10 ∷ []) ≡ true
has_some_text bytes text_len len goes some =
    has_bytes-some (text_of (goes.content ++ 10 ∷ [])) (λ (empty : text_of (goes.content ++ 10 ∷ []) ≡ []).
    some (omega (arith, ap length (sym goes.text_is ∙ empty), length-take-le text_len goes.content goes.text_within)))

-- the first line, by whether it has a text
pub record TextHere (bytes : List ℕ) (text_len len : ℕ) : Type 0 where
  pub line : List ℕ
  pub lines : lines_of bytes ≡ line ∷ lines_of (drop len bytes)
  pub line_len : length line ≡ len
  pub text : text_of line ≡ take text_len bytes
  pub has : has_text line ≡ true

pub record NoTextHere (bytes : List ℕ) (len : ℕ) : Type 0 where
  pub line : List ℕ
  pub lines : lines_of bytes ≡ line ∷ lines_of (drop len bytes)
  pub line_len : length line ≡ len
  pub none : has_text line ≡ false

pub with_text : (bytes : List ℕ) (text_len len : ℕ) → GoesOn bytes text_len len → text_len ≢ 0 → TextHere bytes text_len len
with_text bytes text_len len goes some = record {
  line = goes.content ++ 10 ∷ [];
  lines = rw (more_here bytes text_len len goes) (lines_here bytes text_len len goes);
  line_len = length-append goes.content (10 ∷ []) ∙ sym goes.len_is;
  text = text_here bytes text_len len goes;
  has = has_some_text bytes text_len len goes some;
}

pub without_text : (bytes : List ℕ) (text_len len : ℕ) → GoesOn bytes text_len len → text_len ≡ 0 → NoTextHere bytes len
without_text bytes text_len len goes empty = record {
  line = goes.content ++ 10 ∷ [];
  lines = rw (more_here bytes text_len len goes) (lines_here bytes text_len len goes);
  line_len = length-append goes.content (10 ∷ []) ∙ sym goes.len_is;
  none = has_no_text bytes text_len len goes empty;
}

-- ---- a search for the command line

-- the bytes from this offset on have the command line of all of them
pub record StandsAhead (bytes : List ℕ) (start : ℕ) : Type 0 where
  pub within : start ≤ length bytes
  pub line_is : first_text (lines_of (drop start bytes)) ≡ first_text (lines_of bytes)
  pub end_is : start + length (up_to_command (lines_of (drop start bytes))) ≡ length (up_to_command (lines_of bytes))

pub ahead_of_all : (bytes : List ℕ) → StandsAhead bytes 0
ahead_of_all bytes = record { within = omega arith; line_is = refl; end_is = omega arith }

-- a line with a text is the one
pub found_here : (bytes : List ℕ) (start text_len len : ℕ) → StandsAhead bytes start → GoesOn (drop start bytes) text_len len →
    text_len ≢ 0 → IsCommandAt bytes (record { text = record { start = start; len = text_len }; end = start + len })
found_here bytes start text_len len ahead goes some = record {
  within = omega (arith, ends.0, ends.1, length-drop start bytes, ahead.within);
  text = rw width (sym text ∙ ahead.line_is);
  end_within = omega (arith, ends.0, length-drop start bytes, ahead.within);
  end_is = ap (λ (n : ℕ). start + n) (sym front) ∙ ahead.end_is;
}
  where
    ends : (len ≤ length (drop start bytes)) × (text_len < len)
    ends = len_within (drop start bytes) text_len len goes

    here : TextHere (drop start bytes) text_len len
    here = with_text (drop start bytes) text_len len goes some

    width : start + text_len - start ≡ text_len
    width = omega arith

    text : first_text (lines_of (drop start bytes)) ≡ take text_len (drop start bytes)
    text = rw (here.lines, here.has) here.text

    front : length (up_to_command (lines_of (drop start bytes))) ≡ len
    front = rw (here.lines, here.has, append-nil here.line) here.line_len

-- behind a line without a text it stands ahead
pub ahead_behind : (bytes : List ℕ) (start text_len len : ℕ) → StandsAhead bytes start → GoesOn (drop start bytes) text_len len →
    text_len ≡ 0 → StandsAhead bytes (start + len)
ahead_behind bytes start text_len len ahead goes none = record {
  within = omega (arith, ends.0, length-drop start bytes, ahead.within);
  line_is = rw (← drop-drop len start bytes) (sym text ∙ ahead.line_is);
  end_is = rw (← drop-drop len start bytes) (omega (arith, front, ahead.end_is));
}
  where
    ends : (len ≤ length (drop start bytes)) × (text_len < len)
    ends = len_within (drop start bytes) text_len len goes

    here : NoTextHere (drop start bytes) len
    here = without_text (drop start bytes) text_len len goes none

    text : first_text (lines_of (drop start bytes)) ≡ first_text (lines_of (drop len (drop start bytes)))
    text = rw (here.lines, here.none) refl

    front : length (up_to_command (lines_of (drop start bytes))) ≡ len + length (up_to_command (lines_of (drop len (drop start bytes))))
    front =
        ap (λ (ls : List (List ℕ)). length (up_to_command ls)) here.lines
        ∙ rw here.none
        (length-append here.line (up_to_command (lines_of (drop len (drop start bytes))))
        ∙ ap (λ (n : ℕ). n + length (up_to_command (lines_of (drop len (drop start bytes))))) here.line_len)

-- no line is left
pub found_none : (bytes : List ℕ) (start : ℕ) → StandsAhead bytes start → list_any is_lf (drop start bytes) ≡ false →
    IsCommandAt bytes (record { text = record { start = 0; len = 0 }; end = start })
found_none bytes start ahead no_lf = record {
  within = omega arith;
  text = ap first_text (sym (lines_of-none (drop start bytes) no_lf)) ∙ ahead.line_is;
  end_within = ahead.within;
  end_is = omega (arith, ap (λ (ls : List (List ℕ)). length (up_to_command ls)) (lines_of-none (drop start bytes) no_lf), ahead.end_is);
}

-- ---- a search for an empty line

pub behind_end-text : (bytes : List ℕ) (text_len len : ℕ) → GoesOn bytes text_len len → text_len ≢ 0 →
    behind_end (drop len bytes) ≡ behind_end bytes
behind_end-text bytes text_len len goes some =
    rw (here.lines, here.has) (step (up_to_empty (lines_of (drop len bytes))))
  where
    here : TextHere bytes text_len len
    here = with_text bytes text_len len goes some

    step : (found : Option (List ℕ)) →
        option_map_or (λ (front : List ℕ). drop (length front) (drop len bytes)) found [] ≡ option_map_or
        (λ (front : List ℕ). drop (length front) bytes) (option_map (λ (more : List ℕ). here.line ++ more) found) []
    step None = refl
    step (Some more) =
        drop-drop (length more) len bytes
        ∙ ap (λ (n : ℕ). drop n bytes) (sym (length-append here.line more ∙ ap (λ (n : ℕ). n + length more) here.line_len))

pub behind_end-empty : (bytes : List ℕ) (text_len len : ℕ) → GoesOn bytes text_len len → text_len ≡ 0 → drop len bytes ≡ behind_end bytes
behind_end-empty bytes text_len len goes none =
    let here : NoTextHere bytes len = without_text bytes text_len len goes none in
    rw (here.lines, here.none) (ap (λ (n : ℕ). drop n bytes) (sym here.line_len))

pub behind_end-none : (bytes : List ℕ) → list_any is_lf bytes ≡ false → [] ≡ behind_end bytes
behind_end-none bytes no_lf = rw (lines_of-none bytes no_lf) refl
