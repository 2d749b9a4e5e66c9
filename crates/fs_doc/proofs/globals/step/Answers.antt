use Rattle.std.proofs.Common.{◌≡◌, ◌++◌, IfOk, append_assoc, ap, sym, subst}
use Rattle.fs_doc.specs.Values.{replaced, rest_replaced}
use Rattle.fs_doc.proofs.GlobalLemmas.{replaced-run}
use Rattle.fs_doc.proofs.globals.step.Goals as goal

pub returns-clause-whole : goal.returns-clause-whole
returns-clause-whole c =
    let whole : c.extend_from_slice.new.self.items ++ replaced c.args.globals.now.pairs c.split_at.result.1.now ≡ c.args.out.now.items
    ++ replaced c.args.globals.now.pairs c.args.text.now =
    rw (c.in_ok-extend_from_slice.ensures.items, c.split_at.ensures.front, c.split_at.ensures.back, c.plain_len.ensures.offset, append_assoc)
    (ap (λ more. c.args.out.now.items ++ more) (sym (replaced-run c.args.globals.now.pairs c.args.text.now))) in
    subst (λ bytes. IfOk c.add_dollar.result (λ rest. c.add_dollar.new.out.items ++ rest_replaced c.args.globals.now.pairs rest ≡ bytes))
    whole c.add_dollar.ensures.whole
