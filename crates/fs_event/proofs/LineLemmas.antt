-- The lines of headers that are taken one by one.
use Rattle.std.proofs.Common.{◌≡◌, List, [], ◌∷◌, ◌++◌, map, append_assoc, sym, ◌∙◌}
use Rattle.std.specs.List.{concat}
use Rattle.std.proofs.lemmas.List.{append-nil}
use Rattle.fs_text.specs.Headers.{taking}
use Rattle.fs_text.specs.Texts.{Text}
use Rattle.fs_event.specs.Texts.{line_with_value}

-- they stand behind what stood there
pub taking_lines : (headers : List (Text × Text)) (text : Text) →
    taking (λ header text. text ++ line_with_value header) headers text ≡ text ++ concat (map line_with_value headers)
taking_lines [] text = sym (append-nil text)
taking_lines (header ∷ headers) text =
    taking_lines headers (text ++ line_with_value header)
    ∙ append_assoc text (line_with_value header) (concat (map line_with_value headers))
