use Rattle.std.proofs.Common.{◌∷◌, ◌++◌, [], ap, sym, ◌∙◌, subst}
use Rattle.fs_book.specs.Opened.{NamesOwn}
use Rattle.fs_book.proofs.Stages.{Some_is}
use Rattle.fs_book.proofs.Opening.{own_up}
use Rattle.fs_book.proofs.book.Book.submit.Goals as goal

pub leave_longer-requires-clause-longer : goal.leave_longer-requires-clause-longer
leave_longer-requires-clause-longer g c =
    let entry = g.M.Turned.logged c.args.entry in
    let inside = c.enter-state.ensures.is_in in
    let own = own_up g.M.Turned.opens g.M.Turned.names _ _ _ _ entry inside.2 c.requires.owns in
    let start_is = Some_is _ _ (sym c.requires.book.1 ∙ inside.1) ∙ sym c.turn.ensures.start in (
      entry,
      c.in-Ok.ensures.cases.0 ∙ ap (λ m. m.0.seen ++ entry ∷ []) (sym inside.4),
      subst (λ m. NamesOwn g.M.Turned.opens g.M.Turned.names (g.M.Turned.start c.turn.new.self) m.0.seen m.0.mine entry) (sym inside.4)
          (subst (λ b. NamesOwn g.M.Turned.opens g.M.Turned.names b
          (g.M.Turned.journal c.enter-state.result) c.args.pass.now.seat.me.0.mine entry) start_is own),
    )
