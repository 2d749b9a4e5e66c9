use Rattle.std.proofs.Common.{rules, ap, arith}
use Rattle.fs_book.proofs.Lists.{empty_of}
use Rattle.fs_book.proofs.Stages.{idle_of}
use Rattle.fs_book.proofs.Keeps.{joins, learns}
use Rattle.fs_book.proofs.book.Book.meet.Goals as goal

pub join_seat-requires : goal.join_seat-requires
join_seat-requires g c =
    let pass = c.args.pass.now in
    let other = c.args.other in (
      search rules,
      search rules,
      empty_of _ other.empty_handed,
      search rules,
      joins g.M.Turned.start g.M.Turned.journal g.M.Turned.opens g.M.Turned.names g.met.M.Turned.opens_once _ _ _ _ _
          (idle_of _ pass.no_ticket) (idle_of _ other.no_ticket)
          (omega (arith, pass.some_part.0, pass.some_part.1)) (omega (arith, other.some_part.0, other.some_part.1)),
    )

pub load-requires : goal.load-requires
load-requires g c =
    let pass = c.args.pass.now in
    let joined = ap (λ m. m.0.parts) c.join_seat.ensures.2 in (
      search rules,
      search rules,
      learns g.M.Turned.start g.M.Turned.journal g.M.Turned.opens g.M.Turned.names g.met.M.Turned.opens_once _ _ _ _
          (omega (arith, joined, pass.some_part.0, pass.some_part.1)),
    )
