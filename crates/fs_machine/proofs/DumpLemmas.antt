-- The lines that tell of a channel.
use Rattle.std.proofs.Common.{◌≡◌, ◌==◌, Bool, true, false, if◌then◌else◌, not, cond, [], ◌∷◌, ◌++◌, length, append_assoc, refl, sym, ap, ◌∙◌}
use Rattle.fs_text.specs.Headers.{taking, with_values}
use Rattle.fs_text.specs.Texts.{Text}
use Rattle.fs_vars.specs.Pairs.{Pairs}
use Rattle.fs_event.specs.Texts.{line_with_value, escaped_line}
use Rattle.fs_event.proofs.LineLemmas.{taking_lines}
use Rattle.fs_machine.specs.Dumping.{lines_of}

-- those without a value have no lines
lines_valued : (headers : Pairs) → lines_of (with_values headers) ≡ lines_of headers
unfolding line_with_value
lines_valued [] = refl
lines_valued (header ∷ headers) = by (length header.1 == 0) refl (lines_valued headers)
  where
    by : (empty : Bool) → (length header.1 == 0) ≡ empty → lines_of (with_values headers) ≡ lines_of headers →
        lines_of (cond (not empty) (header ∷ with_values headers) (with_values headers)) ≡ line_with_value header ++ lines_of headers
    by true is rest = rest ∙ ap (λ b. (if b then [] else escaped_line header) ++ lines_of headers) (sym is)
    by false is rest = ap (λ text. line_with_value header ++ text) rest

lines_append : (headers more : Pairs) → lines_of (headers ++ more) ≡ lines_of headers ++ lines_of more
lines_append [] more = refl
lines_append (header ∷ headers) more =
    ap (λ text. line_with_value header ++ text) (lines_append headers more)
    ∙ sym (append_assoc (line_with_value header) (lines_of headers) (lines_of more))

-- a text that has taken some headers, and then those of others that have a value
pub lines_taken : (headers more : Pairs) (text whole : Text) → text ≡ taking (λ header t. t ++ line_with_value header) headers [] →
    whole ≡ taking (λ header t. t ++ line_with_value header) (with_values more) text → whole ≡ lines_of (headers ++ more)
lines_taken headers more text whole some others =
    others
    ∙ taking_lines (with_values more) text
    ∙ ap (λ t. t ++ lines_of (with_values more)) (some ∙ taking_lines headers [])
    ∙ ap (λ t. lines_of headers ++ t) (lines_valued more)
    ∙ sym (lines_append headers more)
