use Rattle.std.proofs.Common.{rules, ◌<◌, sym, ap, ◌∙◌, subst}
use Rattle.fs_book.proofs.Keeps.{leaves}
use Rattle.fs_book.proofs.book.Book.leave.Goals as goal

pub fetch_add-requires : goal.fetch_add-requires
fetch_add-requires g c =
    let put = c.put_back.ensures.carries in (
      search rules,
      search rules,
      leaves g.M.Turned.start g.M.Turned.journal g.M.Turned.opens g.M.Turned.names g.met.M.Turned.opens_once _ _ _ _ _ c.args.state
          (ap (λ m. m.0.stage) put ∙ c.requires.out.1)
          (subst (λ n. 0 < n) (sym (ap (λ m. m.0.parts) put)) c.requires.some_part)
          (ap (λ m. m.1) put)
          (ap (λ m. m.0.start) put ∙ c.requires.same_start)
          (c.requires.same_journal ∙ sym (ap (λ m. m.0.seen) put)),
    )
