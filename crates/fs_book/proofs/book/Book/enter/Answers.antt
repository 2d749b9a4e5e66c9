use Rattle.std.proofs.Common.{rules, ◌<◌, Some, sym, ap, ◌∙◌, subst}
use Rattle.fs_book.proofs.Stages.{taken_last}
use Rattle.fs_book.proofs.Keeps.{draws, comes}
use Rattle.fs_book.proofs.book.Book.enter.Goals as goal

pub fetch_add-ticket-requires : goal.fetch_add-ticket-requires
fetch_add-ticket-requires g c = (
  search rules,
  search rules,
  draws g.M.Turned.start g.M.Turned.journal g.M.Turned.opens g.M.Turned.names g.met.M.Turned.opens_once _ _ _ _ c.requires.rests.1
      c.requires.rests.2,
)

pub load-turn-requires : goal.load-turn-requires
load-turn-requires g c =
    let waits = c.loop.invariant.1 in (
      search rules,
      search rules,
      comes g.M.Turned.start g.M.Turned.journal g.M.Turned.opens g.M.Turned.names g.met.M.Turned.opens_once _ _ _ _ waits.0
          (ap (λ m. m.0.stage) waits.2)
          (subst (λ n. 0 < n) (sym (ap (λ m. m.0.parts) waits.2)) c.requires.rests.2),
    )

pub exchange-requires : goal.exchange-requires
exchange-requires g c =
    let waits = c.loop.invariant.1 in
    let took = (c.load-turn.ensures.2 waits.0 (ap (λ m. m.0.stage) waits.2)).0 (c.if-turn-ticket.true ∙ waits.1) in
    (search rules, (Some took.0, taken_last _ _ 0 (Some took.0) (ap (λ m. m.1) took.4)))
