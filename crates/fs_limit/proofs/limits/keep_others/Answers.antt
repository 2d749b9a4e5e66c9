use Rattle.std.proofs.Common.{rules, tests, not}
use Rattle.std.proofs.lemmas.Fn.{filter_same}
use Rattle.fs_limit.specs.Holds.{has_slot}
use Rattle.fs_limit.proofs.limits.keep_others.Goals as goal

pub returns : goal.returns
returns c =
    filter_same _ (λ hold. not (has_slot c.args.slot hold)) _ (λ x b f k. search (rules, tests)) _ _ c.retain.ensures.filtered
