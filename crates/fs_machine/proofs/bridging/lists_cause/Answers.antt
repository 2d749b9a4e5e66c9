use Rattle.std.proofs.Common.{rules, tests}
use Rattle.std.proofs.lemmas.Iterator.Search.{any_from_yields_List}
use Rattle.std.proofs.lemmas.Iterator.Splits.{YieldsList-from_slice_split}
use Rattle.fs_text.specs.Words.{is_byte}
use Rattle.fs_machine.specs.Bridging.{says_cause}
use Rattle.fs_machine.proofs.bridging.lists_cause.Goals as goal

pub returns : goal.returns
returns c =
    any_from_yields_List (says_cause c.args.cause) _ _ _ c.any.ensures.ran
    (YieldsList-from_slice_split _ (is_byte 44) c.args.list.now c.split.ensures.rest c.split.ensures.done c.split.ensures.closure
    (λ x r q k. search (rules, tests)))
    (λ x r q k. search (rules, tests))
