use Rattle.std.proofs.Common.{[], ◌∷◌, refl, sym, subst₂}
use Rattle.atomic_table.specs.Table.{opening}
use Rattle.fs_book.specs.Turns.{Fair, opening_view}
use Rattle.fs_book.proofs.Keeps.{begins}
use Rattle.fs_book.proofs.book.Book.start.Goals as goal

pub new-requires : goal.new-requires
new-requires g c =
    let start = g.M.Turned.start in
    subst₂ (λ slots about. Fair start g.M.Turned.journal g.M.Turned.opens g.M.Turned.names (start about)
    (opening (0 ∷ 0 ∷ []) slots (opening_view (start about)))) (sym c.in_ok-slots.ensures.ok) (sym c.of-about.ensures)
    (begins start g.M.Turned.journal g.M.Turned.opens g.M.Turned.names g.met.M.Turned.opens_once
    (start c.args.state) c.args.state refl c.requires)
