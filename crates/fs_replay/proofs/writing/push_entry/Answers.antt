use Rattle.std.proofs.Common.{◌++◌, ◌∷◌, [], ap, ◌∙◌}
use Rattle.std.proofs.lemmas.Result.{IfOk-equal}
use Rattle.fs_replay.proofs.Writings.{entry_pushed}
use Rattle.fs_replay.proofs.writing.push_entry.Goals as goal

pub returns : goal.returns
returns c =
    let letter = c.in_ok-push.ensures.items ∙ ap (λ l. c.args.out.now.items ++ l ∷ []) c.letter_of.ensures in
    IfOk-equal c.push_act.result _ _ _ c.push_act.ensures (entry_pushed c.args.entry.now _ _ _ letter c.in_ok-push_field.ensures)
