use Rattle.std.proofs.Common.{rules, ◌∙◌}
use Rattle.std.proofs.lemmas.Iterator.{YieldsList-from_slice}
use Rattle.std.proofs.lemmas.Iterator.Search.{find_from_yields_List}
use Rattle.fs_state.specs.Hangups.{is_leg_of}
use Rattle.fs_state.proofs.hangups.first_end.Goals as goal

pub returns : goal.returns
returns c =
    c.copied.ensures
    ∙ find_from_yields_List (is_leg_of c.args.slot) _ _ _ c.find.ensures.ran
    (YieldsList-from_slice c.args.ended.now cc) (λ x b q k. search rules)
