use Rattle.std.proofs.Common.{rules, subst}
use Rattle.atomic_table.specs.Table.{Splits}
use Rattle.fs_book.specs.Turns.{Fair, cut_left, cut_right}
use Rattle.fs_book.proofs.Keeps.{splits}
use Rattle.fs_book.proofs.book.Book.cut.Goals as goal

pub split_seat-requires : goal.split_seat-requires
split_seat-requires g c =
    let start = g.M.Turned.start in
    let v = c.args.seat.now.me.0 in (
      search rules,
      search rules,
      subst (λ n. Splits (Fair start g.M.Turned.journal g.M.Turned.opens g.M.Turned.names (start c.args.self.now.desk.shared.key.value))
          c.args.seat.now.id v (cut_left n v) (cut_right n v)) c.requires.number
          (splits start g.M.Turned.journal g.M.Turned.opens g.M.Turned.names g.met.M.Turned.opens_once _ c.args.seat.now.id v c.args.count
          c.requires.rests c.requires.count.0 c.requires.count.1),
    )
