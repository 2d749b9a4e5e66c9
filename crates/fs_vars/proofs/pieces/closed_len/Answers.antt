use Rattle.std.proofs.Common.{sym, ap, ◌∙◌}
use Rattle.std.specs.List.{list_any}
use Rattle.std.proofs.lemmas.List.{take_rest}
use Rattle.fs_vars.specs.Expansion.{is_brace}
use Rattle.fs_text.proofs.Cuts.{none_found, one_found}
use Rattle.fs_vars.proofs.pieces.closed_len.Goals as goal

pub returns-then-inside-rest-clause-found : goal.returns-then-inside-rest-clause-found
returns-then-inside-rest-clause-found c =
    sym (one_found is_brace _ c.offset_of-inside.result c.offset_of-inside.ensures c.if-inside-rest.true)
    ∙ ap (list_any is_brace) (take_rest c.args.text.now 2)

pub returns-else-inside-rest-clause-found : goal.returns-else-inside-rest-clause-found
returns-else-inside-rest-clause-found c =
    sym (none_found is_brace _ c.offset_of-inside.result c.offset_of-inside.ensures c.if-inside-rest.false)
    ∙ ap (list_any is_brace) (take_rest c.args.text.now 2)
