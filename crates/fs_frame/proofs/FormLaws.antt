-- The head in front of some bytes.
use Rattle.std.proofs.Common.{◌≡◌, ℕ, ◌≤◌, Bool, true, false, List, [], ◌∷◌, ◌++◌, length, take, drop, nat_le, Option, None, Some, refl}
use Rattle.std.proofs.Common.{sym, ◌∙◌, ap, append_assoc, arith}
use Rattle.std.proofs.lemmas.Bool.{le-leb, leb-true}
use Rattle.std.proofs.lemmas.List.{append-nil, take_at, take-take, take-append-drop}
use Rattle.std.proofs.lemmas.List.Folds.{concat-append}
use Rattle.std.specs.List.{AllByRecursion, concat, filter_map}
use Rattle.fs_frame.specs.Lines.{IsEmptyLine, IsTextLine, text_of, lines_of, first_text, up_to_command, behind_command}
use Rattle.fs_frame.specs.Headers.{header_of, headers_among, headers_of}
use Rattle.fs_frame.specs.Block.{IsHead, line_of, head_of, within_limit, head_in_front}
use Rattle.fs_frame.proofs.LineLaws.{lines_of-line, lines_of-lines, AreLines, AreLines-lines_of, AllByRecursion-lines, head_of-parts}
use Rattle.fs_frame.proofs.LineLaws.{first_text-empties, behind_command-empties, up_to_command-empties, has_bytes-none, has_bytes-some}
use Rattle.fs_frame.proofs.LineLaws.{Headed, head_of-headed}

-- the parts of a head
abbrev spelling_of : List (List ℕ) → List ℕ → List (List ℕ) → List ℕ → List ℕ
spelling_of empties command headers end = concat empties ++ command ++ concat headers ++ end

grouped : (a b c d : List ℕ) → a ++ b ++ c ++ d ≡ a ++ (b ++ (c ++ d))
grouped a b c d = simp append_assoc

grouped_behind : (a b c d e : List ℕ) → (a ++ b ++ c ++ d) ++ e ≡ a ++ (b ++ (c ++ (d ++ e)))
grouped_behind a b c d e = simp append_assoc

-- the lines of bytes that begin with a head
lines_of-parts : (empties : List (List ℕ)) (command : List ℕ) (headers : List (List ℕ)) (end more : List ℕ) →
    AllByRecursion IsEmptyLine empties → IsTextLine command → AllByRecursion IsTextLine headers → IsEmptyLine end →
    lines_of (spelling_of empties command headers end ++ more) ≡ empties ++ command ∷ (headers ++ end ∷ lines_of more)
lines_of-parts empties command headers end more are_empty is_command are_headers is_end =
    rw (
      grouped_behind (concat empties) command (concat headers) end more,
      lines_of-lines empties (command ++ (concat headers ++ (end ++ more)))
          (AllByRecursion-lines (λ line. text_of line ≡ []) empties are_empty),
      lines_of-line command (concat headers ++ (end ++ more)) is_command.0,
      lines_of-lines headers (end ++ more) (AllByRecursion-lines (λ line. text_of line ≡ [] → ⊥) headers are_headers),
      lines_of-line end more is_end.0,
    )
    refl

lines_of-head : (bytes more : List ℕ) (head : IsHead bytes) →
    lines_of (bytes ++ more) ≡ head.empties ++ head.command ∷ (head.headers ++ head.end ∷ lines_of more)
lines_of-head bytes more head = ap (λ (bs : List ℕ). lines_of (bs ++ more)) head.spelling
    ∙ lines_of-parts head.empties head.command head.headers head.end more head.are_empty head.is_command head.are_headers head.is_end

-- the line of bytes that begin with a head is the text of its command line
pub first_text-head : (bytes more : List ℕ) (head : IsHead bytes) → first_text (lines_of (bytes ++ more)) ≡ text_of head.command
first_text-head bytes more head = ap first_text (lines_of-head bytes more head)
    ∙ first_text-empties head.empties head.command (head.headers ++ head.end ∷ lines_of more) head.are_empty head.is_command.1

pub line_of-head : (bytes : List ℕ) (head : IsHead bytes) → line_of bytes ≡ text_of head.command
unfolding line_of
line_of-head bytes head = ap (λ (bs : List ℕ). first_text (lines_of bs)) (sym (append-nil bytes)) ∙ first_text-head bytes [] head

pub up_to_command-head : (bytes more : List ℕ) (head : IsHead bytes) →
    up_to_command (lines_of (bytes ++ more)) ≡ concat head.empties ++ head.command
up_to_command-head bytes more head = ap up_to_command (lines_of-head bytes more head)
    ∙ up_to_command-empties head.empties head.command (head.headers ++ head.end ∷ lines_of more) head.are_empty head.is_command.1

-- and their headers are those of its header lines
headers_among-lines : (headers : List (List ℕ)) (end : List ℕ) (more : List (List ℕ)) → AllByRecursion IsTextLine headers →
    text_of end ≡ [] → headers_among (headers ++ end ∷ more) ≡ filter_map (λ line. header_of (text_of line)) headers
headers_among-lines [] end more all empty = rw (has_bytes-none (text_of end) empty) refl
headers_among-lines (line ∷ headers) end more all empty =
    rw (has_bytes-some (text_of line) all.0.1, headers_among-lines headers end more all.1 empty) refl

pub headers_of-append : (bytes more : List ℕ) (head : IsHead bytes) →
    headers_of (bytes ++ more) ≡ filter_map (λ line. header_of (text_of line)) head.headers
unfolding headers_of
headers_of-append bytes more head =
    ap (λ (lines : List (List ℕ)). headers_among (behind_command lines)) (lines_of-head bytes more head)
    ∙ ap headers_among
    (behind_command-empties head.empties head.command (head.headers ++ head.end ∷ lines_of more) head.are_empty head.is_command.1)
    ∙ headers_among-lines head.headers head.end (lines_of more) head.are_headers head.is_end.1

pub headers_of-head : (bytes : List ℕ) (head : IsHead bytes) →
    headers_of bytes ≡ filter_map (λ line. header_of (text_of line)) head.headers
headers_of-head bytes head = ap headers_of (sym (append-nil bytes)) ∙ headers_of-append bytes [] head

-- a head is found in front, whatever follows it
pub head_of-head : (bytes more : List ℕ) (head : IsHead bytes) → head_of (lines_of (bytes ++ more)) ≡ Some bytes
head_of-head bytes more head =
    let whole : bytes ≡ concat head.empties ++ (head.command ++ (concat head.headers ++ head.end)) =
    head.spelling ∙ grouped (concat head.empties) head.command (concat head.headers) head.end in
    ap head_of (lines_of-head bytes more head)
    ∙ head_of-parts head.empties head.command head.headers head.end
    (lines_of more) head.are_empty head.is_command head.are_headers head.is_end ∙ ap (λ (bs : List ℕ). Some bs) (sym whole)

pub head_in_front-found : (bytes head : List ℕ) → head_of (lines_of bytes) ≡ Some head → length head ≤ 65536 →
    head_in_front bytes ≡ Some head
unfolding head_in_front
head_in_front-found bytes head found within = rw (found, le-leb (length head) 65536 within) refl

pub head_in_front-no_head : (bytes : List ℕ) → head_of (lines_of bytes) ≡ None → head_in_front bytes ≡ None
unfolding head_in_front
head_in_front-no_head bytes nothing = rw nothing refl

-- so is one within the limit
pub head_in_front-append : (head more : List ℕ) → IsHead head → length head ≤ 65536 → head_in_front (head ++ more) ≡ Some head
head_in_front-append head more is_head within = head_in_front-found (head ++ more) head (head_of-head head more is_head) within

-- the head stands in front of the bytes
pub record HeadInFront (head bytes : List ℕ) : Type 0 where
  pub is_head : IsHead head
  pub more : List ℕ
  pub split : bytes ≡ head ++ more

spelling-headed : (lines : List (List ℕ)) (bytes : List ℕ) (headed : Headed lines bytes) →
    bytes ≡ spelling_of headed.empties headed.command headed.ended.headers headed.ended.end
spelling-headed lines bytes headed =
    headed.spelling ∙ ap (λ (bs : List ℕ). concat headed.empties ++ (headed.command ++ bs)) headed.ended.spelling ∙
    sym (grouped (concat headed.empties) headed.command (concat headed.ended.headers) headed.ended.end)

-- the bytes of lines that begin with a head
concat-headed : (lines : List (List ℕ)) (bytes : List ℕ) (headed : Headed lines bytes) → concat lines ≡ bytes ++ concat headed.ended.more
concat-headed lines bytes headed =
    let parts : concat lines ≡ concat
    headed.empties ++ (headed.command ++ (concat headed.ended.headers ++ (headed.ended.end ++ concat headed.ended.more))) =
    ap concat headed.split ∙ concat-append headed.empties (headed.command ∷ headed.ended_lines) ∙
    ap (λ (ls : List (List ℕ)). concat headed.empties ++ (headed.command ++ concat ls)) headed.ended.split ∙
    ap (λ (bs : List ℕ). concat headed.empties ++ (headed.command ++ bs))
    (concat-append headed.ended.headers (headed.ended.end ∷ headed.ended.more)) in
    parts ∙ sym
    (grouped_behind (concat headed.empties) headed.command (concat headed.ended.headers) headed.ended.end (concat headed.ended.more)) ∙
    ap (λ (bs : List ℕ). bs ++ concat headed.ended.more) (sym (spelling-headed lines bytes headed))

IsHead-headed : (lines : List (List ℕ)) (bytes : List ℕ) → Headed lines bytes → IsHead bytes
IsHead-headed lines bytes headed = record {
  empties = headed.empties;
  command = headed.command;
  headers = headed.ended.headers;
  end = headed.ended.end;
  are_empty = headed.are_empty;
  is_command = headed.is_command;
  are_headers = headed.ended.are_headers;
  is_end = headed.ended.is_end;
  spelling = spelling-headed lines bytes headed;
}

-- what is found in front is a head, and stands there
pub head_of-stands : (bytes head : List ℕ) → head_of (lines_of bytes) ≡ Some head → HeadInFront head bytes
head_of-stands bytes head found =
    let are : AreLines bytes (lines_of bytes) = AreLines-lines_of bytes in
    let headed : Headed (lines_of bytes) head = head_of-headed (lines_of bytes) head are.all found in
    record {
      is_head = IsHead-headed (lines_of bytes) head headed;
      more = concat headed.ended.more ++ are.behind;
      split = are.split ∙ ap (λ (bs : List ℕ). bs ++ are.behind) (concat-headed (lines_of bytes) head headed)
          ∙ append_assoc head (concat headed.ended.more) are.behind;
    }

within_limit-some : (head found : List ℕ) → within_limit head ≡ Some found → (head ≡ found) × (length found ≤ 65536)
within_limit-some head found is = step (nat_le (length head) 65536) refl
  where
    step : (b : Bool) → nat_le (length head) 65536 ≡ b → (head ≡ found) × (length found ≤ 65536)
    step false over = let no : None ≡ Some found = rw over at is in cc
    step true fits =
        let here : Some head ≡ Some found = rw fits at is in
        let same : head ≡ found = cc in
        (same, rw (← same) (leb-true (length head) 65536 fits))

-- a head within the limit stands in front of the bytes
pub record ShortHead (head bytes : List ℕ) : Type 0 where
  pub is_head : IsHead head
  pub within : length head ≤ 65536
  pub more : List ℕ
  pub split : bytes ≡ head ++ more

pub head_in_front-stands : (bytes head : List ℕ) → head_in_front bytes ≡ Some head → ShortHead head bytes
unfolding head_in_front
head_in_front-stands bytes head found = step (head_of (lines_of bytes)) refl
  where
    step : (first : Option (List ℕ)) → head_of (lines_of bytes) ≡ first → ShortHead head bytes
    step None is = let no : None ≡ Some head = rw is at found in cc
    step (Some first) is =
        let parts : (first ≡ head) × (length head ≤ 65536) = within_limit-some first head (rw is at found) in
        let stands : HeadInFront head bytes = head_of-stands bytes head (rw (← parts.0) is) in
        record { is_head = stands.is_head; within = parts.1; more = stands.more; split = stands.split }

-- it is found whatever follows
pub head_in_front-grown : (bytes more head : List ℕ) → head_in_front bytes ≡ Some head → head_in_front (bytes ++ more) ≡ Some head
head_in_front-grown bytes more head found =
    let stands : ShortHead head bytes = head_in_front-stands bytes head found in
    ap (λ (bs : List ℕ). head_in_front (bs ++ more)) stands.split ∙ ap head_in_front (append_assoc head stands.more more) ∙
    head_in_front-append head (stands.more ++ more) stands.is_head stands.within

-- a front that is no longer than so many bytes is a front of these
front_within : (n : ℕ) (bytes front more : List ℕ) → bytes ≡ front ++ more → length front ≤ n →
    take n bytes ≡ front ++ drop (length front) (take n bytes)
front_within n bytes front more split fits =
    let same : take (length front) (take n bytes) ≡ front = take-take (length front) n bytes fits
    ∙ ap (λ (bs : List ℕ). take (length front) bs) split ∙ take_at front more (length front) refl in
    sym (take-append-drop (length front) (take n bytes)) ∙ ap (λ (bs : List ℕ). bs ++ drop (length front) (take n bytes)) same

-- the head is found in as many bytes as a block may have
pub head_in_front-take : (n : ℕ) (bytes : List ℕ) → 65536 ≤ n → head_in_front (take n bytes) ≡ head_in_front bytes
head_in_front-take n bytes enough = step (head_in_front bytes) refl
  where
    grown : (found : Option (List ℕ)) → head_in_front (take n bytes) ≡ found → head_in_front bytes ≡ None → found ≡ None
    grown None is nothing = refl
    grown (Some head) is nothing =
        let found : head_in_front bytes ≡ Some head = ap head_in_front (sym (take-append-drop n bytes))
        ∙ head_in_front-grown (take n bytes) (drop n bytes) head is in
        cc

    step : (found : Option (List ℕ)) → head_in_front bytes ≡ found → head_in_front (take n bytes) ≡ head_in_front bytes
    step None is = grown (head_in_front (take n bytes)) refl is ∙ sym is
    step (Some head) is =
        let stands : ShortHead head bytes = head_in_front-stands bytes head is in
        let split : take n bytes ≡ head ++ drop (length head) (take n bytes) =
        front_within n bytes head stands.more stands.split (omega (arith, stands.within)) in
        ap head_in_front split ∙ head_in_front-append head (drop (length head) (take n bytes)) stands.is_head stands.within ∙ sym is
