use Rattle.std.proofs.Common.{not, ap, ◌∙◌, arith}
use Rattle.std.specs.Prelude.{insert}
use Rattle.std.specs.List.{position_or_len}
use Rattle.std.proofs.lemmas.List.Sums.{prefix_len-le-length}
use Rattle.fs_fifo.specs.Queues.{is_behind}
use Rattle.fs_fifo.proofs.PositionLemmas.{insert_placed}
use Rattle.fs_fifo.proofs.fifos.place.Goals as goal

pub insert-requires : goal.insert-requires
insert-requires c =
    let within = prefix_len-le-length (λ caller. not (is_behind c.args.caller.priority caller)) c.deref.result.now in
    omega (arith, within, c.position_behind-position.ensures, c.deref.ensures.len)

pub returns-clause-ok : goal.returns-clause-ok
returns-clause-ok c =
    c.in_ok-insert.ensures.items
    ∙ ap (λ position. insert c.args.callers.now.items position c.args.caller)
    (c.position_behind-position.ensures ∙ ap (position_or_len (is_behind c.args.caller.priority)) c.deref.ensures.value)
    ∙ insert_placed c.args.caller c.args.callers.now.items
