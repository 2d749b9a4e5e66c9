use Rattle.std.proofs.Common.{rules, ◌<◌, ◌∷◌, ◌++◌, [], sym, ap, ◌∙◌, subst}
use Rattle.fs_book.specs.Opened.{NamesOwn}
use Rattle.fs_book.proofs.Keeps.{adds}
use Rattle.fs_book.proofs.book.Book.leave_longer.Goals as goal

pub fetch_add-requires : goal.fetch_add-requires
fetch_add-requires g c =
    let put = c.put_back.ensures.carries in
    let longer = c.requires.longer in (
      search rules,
      search rules,
      adds g.M.Turned.start g.M.Turned.journal g.M.Turned.opens g.M.Turned.names g.met.M.Turned.opens_once _ _ _ _ _ c.args.state longer.0
          (ap (λ m. m.0.stage) put ∙ c.requires.out.1)
          (subst (λ n. 0 < n) (sym (ap (λ m. m.0.parts) put)) c.requires.some_part)
          (ap (λ m. m.1) put)
          (ap (λ m. m.0.start) put ∙ c.requires.same_start)
          (longer.1 ∙ sym (ap (λ m. m.0.seen ++ longer.0 ∷ []) put))
          (subst (λ m. NamesOwn g.M.Turned.opens g.M.Turned.names (g.M.Turned.start c.args.state) m.0.seen m.0.mine longer.0)
          (sym put) longer.2),
    )
