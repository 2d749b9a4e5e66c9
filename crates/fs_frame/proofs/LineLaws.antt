-- Lines in bytes, and heads in lines.
use Rattle.std.proofs.Common.{◌≡◌, ◌≢◌, ℕ, Bool, true, false, List, [], ◌∷◌, ◌++◌, length, Option, None, Some, ◌⊎◌, inl, inr, refl, sym}
use Rattle.std.proofs.Common.{◌∙◌, ap, one-add, append_assoc, eqb, drop, arith, length-append}
use Rattle.std.proofs.lemmas.Bool.{or_parts}
use Rattle.std.proofs.lemmas.Bool.Decides.{eqb_tells}
use Rattle.std.proofs.lemmas.List.{append-nil, take_at, drop_at}
use Rattle.std.proofs.lemmas.List.Folds.{concat-append}
use Rattle.std.specs.List.{AllByRecursion, concat, list_any, position_or_len}
use Rattle.std.specs.Option.{option_map}
use Rattle.fs_frame.specs.Lines.{is_lf, IsLine, IsEmptyLine, IsTextLine, without_cr, text_of, with_front, lines_of, has_bytes, has_text}
use Rattle.fs_frame.specs.Lines.{first_text, up_to_command, behind_command}
use Rattle.fs_frame.specs.Block.{up_to_empty, head_of}

-- the first byte that passes stands behind those that do not
pub position_or_len-append : (p : ℕ → Bool) (front : List ℕ) (byte : ℕ) (more : List ℕ) → list_any p front ≡ false → p byte ≡ true →
    position_or_len p (front ++ byte ∷ more) ≡ length front
position_or_len-append p [] byte more none here = rw here refl
position_or_len-append p (x ∷ front) byte more none here =
    let parts : (p x ≡ false) × (list_any p front ≡ false) = or_parts (p x) (list_any p front) none in
    rw (parts.0, position_or_len-append p front byte more parts.1 here, one-add) refl

-- where none passes, that is the length
pub position_or_len-none : (p : ℕ → Bool) (bytes : List ℕ) → list_any p bytes ≡ false → position_or_len p bytes ≡ length bytes
position_or_len-none p [] none = refl
position_or_len-none p (x ∷ bytes) none =
    let parts : (p x ≡ false) × (list_any p bytes ≡ false) = or_parts (p x) (list_any p bytes) none in
    rw (parts.0, position_or_len-none p bytes parts.1, one-add) refl

-- the text of a line is that of its content
pub text_of-content : (content : List ℕ) → list_any is_lf content ≡ false → text_of (content ++ 10 ∷ []) ≡ without_cr content
text_of-content content no_lf =
    rw (position_or_len-append is_lf content 10 [] no_lf refl, take_at content (10 ∷ []) (length content) refl) refl

-- a line in front of the bytes is the first of their lines
lines_of-content : (content more : List ℕ) → list_any is_lf content ≡ false →
    lines_of (content ++ 10 ∷ more) ≡ (content ++ 10 ∷ []) ∷ lines_of more
lines_of-content [] more no_lf = refl
lines_of-content (byte ∷ content) more no_lf =
    let parts : (is_lf byte ≡ false) × (list_any is_lf content ≡ false) = or_parts (is_lf byte) (list_any is_lf content) no_lf in
    rw (parts.0, lines_of-content content more parts.1) refl

pub lines_of-line : (line more : List ℕ) → IsLine line → lines_of (line ++ more) ≡ line ∷ lines_of more
lines_of-line line more is_line =
    rw (is_line.spelling, append_assoc is_line.content (10 ∷ []) more) (lines_of-content is_line.content more is_line.no_lf)

-- lines in front of the bytes are the first of their lines
pub lines_of-lines : (lines : List (List ℕ)) (more : List ℕ) → AllByRecursion IsLine lines →
    lines_of (concat lines ++ more) ≡ lines ++ lines_of more
lines_of-lines [] more all = refl
lines_of-lines (line ∷ lines) more all =
    rw (append_assoc line (concat lines) more, lines_of-line line (concat lines ++ more) all.0, lines_of-lines lines more all.1) refl

-- bytes with no LF have no line
pub lines_of-none : (bytes : List ℕ) → list_any is_lf bytes ≡ false → lines_of bytes ≡ []
lines_of-none [] no_lf = refl
lines_of-none (byte ∷ bytes) no_lf =
    let parts : (is_lf byte ≡ false) × (list_any is_lf bytes ≡ false) = or_parts (is_lf byte) (list_any is_lf bytes) no_lf in
    rw (parts.0, lines_of-none bytes parts.1) refl

-- what the lines of some bytes are: lines, and in front of them
pub record AreLines (bytes : List ℕ) (lines : List (List ℕ)) : Type 0 where
  pub all : AllByRecursion IsLine lines
  pub behind : List ℕ
  pub split : bytes ≡ concat lines ++ behind

AreLines-lf : (bytes : List ℕ) (lines : List (List ℕ)) → AreLines bytes lines → AreLines (10 ∷ bytes) ((10 ∷ []) ∷ lines)
AreLines-lf bytes lines are =
    record {
      all = (record { content = []; no_lf = refl; spelling = refl }, are.all);
      behind = are.behind;
      split = ap (λ (bs : List ℕ). 10 ∷ bs) are.split;
    }

AreLines-front : (byte : ℕ) (bytes : List ℕ) (lines : List (List ℕ)) → is_lf byte ≡ false → AreLines bytes lines →
    AreLines (byte ∷ bytes) (with_front byte lines)
AreLines-front byte bytes [] other are = record { all = tt; behind = byte ∷ bytes; split = refl }
AreLines-front byte bytes (line ∷ lines) other are = record {
  all = (
    record {
      content = byte ∷ are.all.0.content;
      no_lf = rw (other, are.all.0.no_lf) refl;
      spelling = ap (λ (bs : List ℕ). byte ∷ bs) are.all.0.spelling;
    },
    are.all.1,
  );
  behind = are.behind;
  split = ap (λ (bs : List ℕ). byte ∷ bs) are.split;
}

pub AreLines-lines_of : (bytes : List ℕ) → AreLines bytes (lines_of bytes)
AreLines-lines_of [] = record { all = tt; behind = []; split = refl }
AreLines-lines_of (byte ∷ bytes) = step (eqb_tells byte 10) (AreLines-lines_of bytes)
  where
    step : ((eqb byte 10 ≡ true) × (byte ≡ 10)) ⊎ ((eqb byte 10 ≡ false) × (byte ≢ 10)) → AreLines bytes (lines_of bytes) →
        AreLines (byte ∷ bytes) (lines_of (byte ∷ bytes))
    step (inl is) again = rw (is.0, is.1) (AreLines-lf bytes (lines_of bytes) again)
    step (inr not_lf) again = rw not_lf.0 (AreLines-front byte bytes (lines_of bytes) not_lf.0 again)

-- behind whole lines the lines go on
pub lines_of-append : (front more : List ℕ) → concat (lines_of front) ≡ front → lines_of (front ++ more) ≡ lines_of front ++ lines_of more
lines_of-append front more whole =
    ap (λ (bytes : List ℕ). lines_of (bytes ++ more)) (sym whole) ∙ lines_of-lines (lines_of front) more (AreLines-lines_of front).all

-- the test for a text
pub has_bytes-none : (bytes : List ℕ) → bytes ≡ [] → has_bytes bytes ≡ false
has_bytes-none bytes empty = rw empty refl

pub has_bytes-some : (bytes : List ℕ) → bytes ≢ [] → has_bytes bytes ≡ true
has_bytes-some [] some = absurd (some refl)
has_bytes-some (byte ∷ bytes) some = refl

pub no_bytes : (bytes : List ℕ) → has_bytes bytes ≡ false → bytes ≡ []
no_bytes [] empty = refl
no_bytes (byte ∷ bytes) empty = cc

pub some_bytes : (bytes : List ℕ) → has_bytes bytes ≡ true → bytes ≢ []
some_bytes bytes some empty = let none : has_bytes bytes ≡ false = has_bytes-none bytes empty in cc

pub AllByRecursion-lines : (P : List ℕ → Type 0) (lines : List (List ℕ)) → AllByRecursion (λ line. IsLine line × P line) lines →
    AllByRecursion IsLine lines
AllByRecursion-lines P [] all = tt
AllByRecursion-lines P (line ∷ lines) all = (all.0.0, AllByRecursion-lines P lines all.1)

-- header lines and an empty line are found in front
pub up_to_empty-headers : (headers : List (List ℕ)) (end : List ℕ) (more : List (List ℕ)) → AllByRecursion IsTextLine headers →
    text_of end ≡ [] → up_to_empty (headers ++ end ∷ more) ≡ Some (concat headers ++ end)
up_to_empty-headers [] end more all empty = rw (has_bytes-none (text_of end) empty) refl
up_to_empty-headers (line ∷ headers) end more all empty =
    rw (has_bytes-some (text_of line) all.0.1, up_to_empty-headers headers end more all.1 empty, append_assoc line (concat headers) end)
    refl

-- empty lines in front belong to the head
pub head_of-empties : (empties lines : List (List ℕ)) (head : List ℕ) → AllByRecursion IsEmptyLine empties → head_of lines ≡ Some head →
    head_of (empties ++ lines) ≡ Some (concat empties ++ head)
head_of-empties [] lines head all found = found
head_of-empties (line ∷ empties) lines head all found =
    rw (has_bytes-none (text_of line) all.0.1, head_of-empties empties lines head all.1 found, append_assoc line (concat empties) head) refl

head_of-command : (command : List ℕ) (lines : List (List ℕ)) (more : List ℕ) → text_of command ≢ [] → up_to_empty lines ≡ Some more →
    head_of (command ∷ lines) ≡ Some (command ++ more)
head_of-command command lines more some found = rw (has_bytes-some (text_of command) some, found) refl

-- a head is found in front, whatever follows it
pub head_of-parts : (empties : List (List ℕ)) (command : List ℕ) (headers : List (List ℕ)) (end : List ℕ) (more : List (List ℕ)) →
    AllByRecursion IsEmptyLine empties → IsTextLine command → AllByRecursion IsTextLine headers → IsEmptyLine end →
    head_of (empties ++ command ∷ (headers ++ end ∷ more)) ≡ Some (concat empties ++ (command ++ (concat headers ++ end)))
head_of-parts empties command headers end more are_empty is_command are_headers is_end =
    head_of-empties empties (command ∷ (headers ++ end ∷ more)) (command ++ (concat headers ++ end)) are_empty
    (head_of-command command (headers ++ end ∷ more) (concat headers ++ end) is_command.1
    (up_to_empty-headers headers end more are_headers is_end.1))

-- the first text behind empty lines
pub first_text-empties : (empties : List (List ℕ)) (command : List ℕ) (more : List (List ℕ)) → AllByRecursion IsEmptyLine empties →
    text_of command ≢ [] → first_text (empties ++ command ∷ more) ≡ text_of command
first_text-empties [] command more all some = rw (has_bytes-some (text_of command) some) refl
first_text-empties (line ∷ empties) command more all some =
    rw (has_bytes-none (text_of line) all.0.1) (first_text-empties empties command more all.1 some)

-- and what stands behind the command line, and up to it
pub behind_command-empties : (empties : List (List ℕ)) (command : List ℕ) (more : List (List ℕ)) → AllByRecursion IsEmptyLine empties →
    text_of command ≢ [] → behind_command (empties ++ command ∷ more) ≡ more
behind_command-empties [] command more all some = rw (has_bytes-some (text_of command) some) refl
behind_command-empties (line ∷ empties) command more all some =
    rw (has_bytes-none (text_of line) all.0.1) (behind_command-empties empties command more all.1 some)

pub up_to_command-empties : (empties : List (List ℕ)) (command : List ℕ) (more : List (List ℕ)) → AllByRecursion IsEmptyLine empties →
    text_of command ≢ [] → up_to_command (empties ++ command ∷ more) ≡ concat empties ++ command
up_to_command-empties [] command more all some = rw (has_bytes-some (text_of command) some) (append-nil command)
up_to_command-empties (line ∷ empties) command more all some =
    rw (has_bytes-none (text_of line) all.0.1, up_to_command-empties empties command more all.1 some)
    (sym (append_assoc line (concat empties) command))

-- whole lines in front of the bytes
append_none : (xs ys : List (List ℕ)) → xs ≡ xs ++ ys → ys ≡ []
append_none xs [] is = refl
append_none xs (y ∷ ys) is = absurd (omega (arith, ap length is, length-append xs (y ∷ ys)))

-- behind the first lines of the bytes the others follow
pub lines_of-behind : (bytes : List ℕ) (front behind : List (List ℕ)) → lines_of bytes ≡ front ++ behind →
    lines_of (drop (length (concat front)) bytes) ≡ behind
lines_of-behind bytes front behind is =
    ap lines_of (ap (drop (length (concat front))) split ∙ drop_at (concat front) (concat behind ++ rest) (length (concat front)) refl)
    ∙ lines_of-lines behind rest (all_behind front behind (rw is at are.all)) ∙ ap (λ (lines : List (List ℕ)). behind ++ lines) none
    ∙ append-nil behind
  where
    are : AreLines bytes (lines_of bytes)
    are = AreLines-lines_of bytes

    rest : List ℕ
    rest = are.behind

    none : lines_of rest ≡ []
    none = append_none (lines_of bytes) (lines_of rest) (ap lines_of are.split ∙ lines_of-lines (lines_of bytes) rest are.all)

    split : bytes ≡ concat front ++ (concat behind ++ rest)
    split =
        are.split ∙ ap (λ (lines : List (List ℕ)). concat lines ++ rest) is ∙ ap (λ (bs : List ℕ). bs ++ rest) (concat-append front behind)
        ∙ append_assoc (concat front) (concat behind) rest

    all_behind : (xs ys : List (List ℕ)) → AllByRecursion IsLine (xs ++ ys) → AllByRecursion IsLine ys
    all_behind [] ys all = all
    all_behind (x ∷ xs) ys all = all_behind xs ys all.1

-- lines with a text and the empty line behind them stand in front of the lines
pub record Ended (lines : List (List ℕ)) (bytes : List ℕ) : Type 0 where
  pub headers : List (List ℕ)
  pub end : List ℕ
  pub more : List (List ℕ)
  pub are_headers : AllByRecursion IsTextLine headers
  pub is_end : IsEmptyLine end
  pub split : lines ≡ headers ++ end ∷ more
  pub spelling : bytes ≡ concat headers ++ end

some_is : (x y : List ℕ) → Some x ≡ Some y → x ≡ y
some_is x y is = cc

Ended-line : (line : List ℕ) (lines : List (List ℕ)) (bytes : List ℕ) → IsTextLine line → Ended lines bytes →
    Ended (line ∷ lines) (line ++ bytes)
Ended-line line lines bytes is_text ended = record {
  headers = line ∷ ended.headers;
  end = ended.end;
  more = ended.more;
  are_headers = (is_text, ended.are_headers);
  is_end = ended.is_end;
  split = ap (λ (ls : List (List ℕ)). line ∷ ls) ended.split;
  spelling = ap (λ (bs : List ℕ). line ++ bs) ended.spelling ∙ sym (append_assoc line (concat ended.headers) ended.end);
}

-- what was found behind a command line stands there
pub up_to_empty-ended : (lines : List (List ℕ)) (bytes : List ℕ) → AllByRecursion IsLine lines → up_to_empty lines ≡ Some bytes →
    Ended lines bytes
up_to_empty-ended [] bytes all found = cc
up_to_empty-ended (line ∷ lines) bytes all found = step (has_text line) refl (λ (more : List ℕ). up_to_empty-ended lines more all.1)
  where
    at_text : (rest : Option (List ℕ)) → up_to_empty lines ≡ rest → has_text line ≡ true →
        option_map (λ (more : List ℕ). line ++ more) rest ≡ Some bytes →
        ((more : List ℕ) → up_to_empty lines ≡ Some more → Ended lines more) → Ended (line ∷ lines) bytes
    at_text None is some here again = cc
    at_text (Some more) is some here again =
        rw (← some_is (line ++ more) bytes here) (Ended-line line lines more (all.0, some_bytes (text_of line) some) (again more is))

    step : (b : Bool) → has_text line ≡ b → ((more : List ℕ) → up_to_empty lines ≡ Some more → Ended lines more) →
        Ended (line ∷ lines) bytes
    step true is again = at_text (up_to_empty lines) refl is (rw is at found) again
    step false is again =
        let here : Some line ≡ Some bytes = rw is at found in
        record {
          headers = [];
          end = line;
          more = lines;
          are_headers = tt;
          is_end = (all.0, no_bytes (text_of line) is);
          split = refl;
          spelling = sym (some_is line bytes here);
        }

-- a head stands in front of the lines
pub record Headed (lines : List (List ℕ)) (bytes : List ℕ) : Type 0 where
  pub empties : List (List ℕ)
  pub command : List ℕ
  pub ended_lines : List (List ℕ)
  pub ended_bytes : List ℕ
  pub ended : Ended ended_lines ended_bytes
  pub are_empty : AllByRecursion IsEmptyLine empties
  pub is_command : IsTextLine command
  pub split : lines ≡ empties ++ command ∷ ended_lines
  pub spelling : bytes ≡ concat empties ++ (command ++ ended_bytes)

Headed-line : (line : List ℕ) (lines : List (List ℕ)) (bytes : List ℕ) → IsEmptyLine line → Headed lines bytes →
    Headed (line ∷ lines) (line ++ bytes)
Headed-line line lines bytes is_empty headed = record {
  empties = line ∷ headed.empties;
  command = headed.command;
  ended_lines = headed.ended_lines;
  ended_bytes = headed.ended_bytes;
  ended = headed.ended;
  are_empty = (is_empty, headed.are_empty);
  is_command = headed.is_command;
  split = ap (λ (ls : List (List ℕ)). line ∷ ls) headed.split;
  spelling = ap (λ (bs : List ℕ). line ++ bs) headed.spelling
      ∙ sym (append_assoc line (concat headed.empties) (headed.command ++ headed.ended_bytes));
}

Headed-command : (line : List ℕ) (lines : List (List ℕ)) (bytes : List ℕ) → IsTextLine line → Ended lines bytes →
    Headed (line ∷ lines) (line ++ bytes)
Headed-command line lines bytes is_text ended =
    record {
      empties = [];
      command = line;
      ended_lines = lines;
      ended_bytes = bytes;
      ended = ended;
      are_empty = tt;
      is_command = is_text;
      split = refl;
      spelling = refl;
    }

-- what was found in front of the lines is a head, and stands there
pub head_of-headed : (lines : List (List ℕ)) (bytes : List ℕ) → AllByRecursion IsLine lines → head_of lines ≡ Some bytes →
    Headed lines bytes
head_of-headed [] bytes all found = cc
head_of-headed (line ∷ lines) bytes all found = step (has_text line) refl (λ (more : List ℕ). head_of-headed lines more all.1)
  where
    at_text : (rest : Option (List ℕ)) → up_to_empty lines ≡ rest → has_text line ≡ true →
        option_map (λ (more : List ℕ). line ++ more) rest ≡ Some bytes → Headed (line ∷ lines) bytes
    at_text None is some here = cc
    at_text (Some more) is some here =
        rw (← some_is (line ++ more) bytes here)
        (Headed-command line lines more (all.0, some_bytes (text_of line) some) (up_to_empty-ended lines more all.1 is))

    at_empty : (rest : Option (List ℕ)) → head_of lines ≡ rest → has_text line ≡ false →
        option_map (λ (more : List ℕ). line ++ more) rest ≡ Some bytes → ((more : List ℕ) → head_of lines ≡ Some more → Headed lines more) →
        Headed (line ∷ lines) bytes
    at_empty None is none here again = cc
    at_empty (Some more) is none here again =
        rw (← some_is (line ++ more) bytes here) (Headed-line line lines more (all.0, no_bytes (text_of line) none) (again more is))

    step : (b : Bool) → has_text line ≡ b → ((more : List ℕ) → head_of lines ≡ Some more → Headed lines more) → Headed (line ∷ lines) bytes
    step true is again = at_text (up_to_empty lines) refl is (rw is at found)
    step false is again = at_empty (head_of lines) refl is (rw is at found) again
