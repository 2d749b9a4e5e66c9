use Rattle.std.proofs.Common.{◌++◌, ap, ◌∙◌}
use Rattle.fs_text.proofs.EscapeLemmas.{clean_from_escaped}
use Rattle.fs_text.specs.Escape.{escape}
use Rattle.fs_text.proofs.escapes.escape.Goals as goal

pub returns-clause-clean : goal.returns-clause-clean
returns-clause-clean c =
    clean_from_escaped c.from_vec.result c.args.bytes.now
    (rw (c.in_ok-push_escaped.ensures ∙ ap (λ text. text ++ escape c.args.bytes.now) c.in_ok-escaped.ensures.items) at c.from_vec.ensures)
