use Rattle.std.proofs.Common.{◌≡◌, length, unwrap_or, ap, ◌∙◌, rules, tests}
use Rattle.std.specs.List.{position}
use Rattle.std.proofs.lemmas.Iterator.{YieldsList-from_slice}
use Rattle.std.proofs.lemmas.Iterator.Search.{position_from_yields_List}
use Rattle.fs_fifo.specs.Queues.{is_behind}
use Rattle.fs_fifo.proofs.PositionLemmas.{position_or_length}
use Rattle.fs_fifo.proofs.fifos.position_behind.Goals as goal

pub returns : goal.returns
returns c =
    let found : c.position.result ≡ position (is_behind c.args.priority) c.args.callers.now =
    position_from_yields_List (is_behind c.args.priority) _ _ c.position.result c.position.ensures.ran
    (YieldsList-from_slice c.args.callers.now cc) (λ x b q k. search (rules, tests)) in
    c.unwrap_or.ensures ∙ ap (λ position. unwrap_or position (length c.args.callers.now)) found
    ∙ position_or_length (is_behind c.args.priority) c.args.callers.now
