-- The lines of a channel and of its variables.
use Rattle.std.proofs.Common.{◌≡◌, ◌==◌, Bool, true, false, not, cond, [], ◌∷◌, ◌++◌, map, codes, length, append_assoc, refl, sym, ap, ◌∙◌}
use Rattle.std.specs.Prelude.{if◌then◌else◌}
use Rattle.std.specs.List.{concat}
use Rattle.std.proofs.lemmas.List.{append-nil, map-append}
use Rattle.std.proofs.lemmas.List.Folds.{concat-append}
use Rattle.fs_text.specs.Headers.{header_line, with_values, variable_header, taking}
use Rattle.fs_text.specs.Texts.{Text}
use Rattle.fs_event.specs.Texts.{escaped_line, line_with_value}
use Rattle.fs_event.proofs.LineLemmas.{taking_lines}
use Rattle.fs_vars.specs.Pairs.{Pairs}
use Rattle.fs_chan.specs.declared.chan.Chan.{Chan}
use Rattle.fs_chan.specs.Headers.{all_headers, channel_headers}
use Rattle.fs_cmd.specs.Frames.{reply}
use Rattle.fs_out.specs.declared.target.Target.{Target}
use Rattle.fs_out.specs.Greetings.{headers_of, escaped_header, lines_of, control_of, greeting_of}

-- what has no value has no line
lines_with_values : (headers : Pairs) → concat (map line_with_value headers) ≡ lines_of (with_values headers)
unfolding line_with_value
lines_with_values [] = refl
lines_with_values (header ∷ headers) = by (length header.1 == 0) (lines_with_values headers)
  where
    by : (t : Bool) → concat (map line_with_value headers) ≡ lines_of (with_values headers) →
        (if t then [] else escaped_line header) ++ concat (map line_with_value headers)
        ≡ lines_of (cond (not t) (header ∷ with_values headers) (with_values headers))
    by true more = more
    by false more = ap (λ lines. escaped_line header ++ lines) more

-- what has a value still has one
valued_again : (headers : Pairs) → with_values (with_values headers) ≡ with_values headers
valued_again [] = refl
valued_again (header ∷ headers) = by (not (length header.1 == 0)) refl (valued_again headers)
  where
    by : (t : Bool) → not (length header.1 == 0) ≡ t → with_values (with_values headers) ≡ with_values headers →
        with_values (cond t (header ∷ with_values headers) (with_values headers)) ≡ cond t (header ∷ with_values headers) (with_values headers)
    by true is more = ap (λ b. cond b (header ∷ with_values (with_values headers)) (with_values (with_values headers))) is ∙ ap (λ hs. header ∷ hs) more
    by false is more = more

-- ---- of variables

-- the lines of those that have a value
abbrev pub variable_lines : Pairs → Text
variable_lines vars = concat (map line_with_value (map variable_header vars))

-- one is told, of those that are left
pub variable_told : (all told new : Text) (left more : Pairs) (here : Text × Text) → left ≡ here ∷ more →
    new ≡ told ++ line_with_value (variable_header here) → told ++ variable_lines left ≡ all → new ++ variable_lines more ≡ all
variable_told all told new left more here steps is kept =
    ap (λ text. text ++ variable_lines more) is
    ∙ append_assoc told (line_with_value (variable_header here)) (variable_lines more)
    ∙ sym (ap (λ some. told ++ variable_lines some) steps)
    ∙ kept

-- ---- of a channel

lines_of-append : (some more : Pairs) → lines_of (some ++ more) ≡ lines_of some ++ lines_of more
lines_of-append some more =
    ap (λ headers. concat (map header_line headers)) (map-append escaped_header some more)
    ∙ ap concat (map-append header_line (map escaped_header some) (map escaped_header more))
    ∙ concat-append (map header_line (map escaped_header some)) (map header_line (map escaped_header more))

-- what an event's text has taken of a channel, and then of its variables
pub told_lines : (c : Chan) (told all : Text) → told ≡ taking (λ header text. text ++ line_with_value header) (channel_headers c) [] →
    all ≡ told ++ variable_lines c.vars.pairs → all ≡ lines_of (headers_of c)
unfolding channel_headers
told_lines c told all is more =
    more
    ∙ ap (λ text. text ++ variable_lines c.vars.pairs) (is ∙ taking_lines (channel_headers c) [] ∙ lines_with_values (channel_headers c)
    ∙ ap lines_of (valued_again (all_headers c)))
    ∙ ap (λ lines. lines_of (channel_headers c) ++ lines) (lines_with_values (map variable_header c.vars.pairs))
    ∙ sym (lines_of-append (channel_headers c) (with_values (map variable_header c.vars.pairs)))

-- ---- of the reply

-- two further headers stand behind those that are escaped
greeting_lines : (headers : Pairs) (mode control : Text × Text) →
    concat (map header_line (map escaped_header headers ++ mode ∷ control ∷ [])) ≡ lines_of headers ++ (header_line mode ++ header_line control)
greeting_lines headers mode control =
    ap concat (map-append header_line (map escaped_header headers) (mode ∷ control ∷ []))
    ∙ concat-append (map header_line (map escaped_header headers)) (header_line mode ∷ header_line control ∷ [])
    ∙ ap (λ rest. lines_of headers ++ (header_line mode ++ rest)) (append-nil (header_line control))

regrouped : (a b c d e : Text) → (((a ++ b) ++ c) ++ d) ++ e ≡ (a ++ (b ++ (c ++ d))) ++ e
regrouped a b c d e = ap (λ text. text ++ e) (append_assoc (a ++ b) c d ∙ append_assoc a b (c ++ d))

-- the reply, put together from its front on
pub greeting_is : (c : Chan) (target : Target) (told : Text) → told ≡ lines_of (headers_of c) →
    codes "Content-Type: command/reply\n" ++ header_line (codes "Reply-Text", codes "+OK") ++ told ++ header_line (codes "Socket-Mode", codes "async")
    ++ header_line (codes "Control", control_of target.full) ++ codes "\n"
    ≡ greeting_of c target
unfolding greeting_of reply
greeting_is c target told is =
    let head = codes "Content-Type: command/reply\n" ++ header_line (codes "Reply-Text", codes "+OK") in
    let mode : Text × Text = (codes "Socket-Mode", codes "async") in
    let control : Text × Text = (codes "Control", control_of target.full) in
    regrouped head told (header_line mode) (header_line control) (codes "\n")
    ∙ ap (λ lines. (head ++ lines) ++ codes "\n")
    (ap (λ lines. lines ++ (header_line mode ++ header_line control)) is ∙ sym (greeting_lines (headers_of c) mode control))
