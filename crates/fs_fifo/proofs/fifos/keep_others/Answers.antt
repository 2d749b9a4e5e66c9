use Rattle.std.proofs.Common.{rules, tests, not}
use Rattle.std.proofs.lemmas.Fn.{filter_same}
use Rattle.fs_fifo.specs.Queues.{has_slot}
use Rattle.fs_fifo.proofs.fifos.keep_others.Goals as goal

pub returns : goal.returns
returns c =
    filter_same _ (λ caller. not (has_slot c.args.slot caller)) _ (λ x b f k. search (rules, tests)) _ _ c.retain.ensures.filtered
