use Rattle.std.proofs.Common.{rules, not}
use Rattle.std.proofs.lemmas.Fn.{filter_same}
use Rattle.fs_state.specs.Hangups.{is_leg_of}
use Rattle.fs_state.proofs.hangups.pass_told.Goals as goal

pub returns : goal.returns
returns c =
    filter_same _ (λ end. not (is_leg_of c.args.slot end)) _ (λ x b f k. search rules) _ _ c.retain.ensures.filtered
