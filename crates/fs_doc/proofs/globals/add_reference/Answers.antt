use Rattle.std.proofs.Common.{◌≡◌, ◌++◌, [], drop, None, Some, unwrap_or, append_assoc, ap, sym, ◌∙◌, rules}
use Rattle.std.proofs.lemmas.List.{append-nil, take_rest}
use Rattle.fs_text.specs.Words.{halves_of}
use Rattle.fs_vars.specs.Pairs.{value_of}
use Rattle.fs_doc.specs.Values.{replaced}
use Rattle.fs_doc.proofs.GlobalLemmas.{replaced-uncut, replaced-reference}
use Rattle.fs_doc.proofs.globals.add_reference.Goals as goal

pub returns-in_ok-extend_from_slice-in-None-clause-whole : goal.returns-in_ok-extend_from_slice-in-None-clause-whole
returns-in_ok-extend_from_slice-in-None-clause-whole c =
    let whole : halves_of 125 (drop 3 c.args.text.now) ≡ None =
    ap (halves_of 125) (sym (take_rest c.args.text.now 3)) ∙ sym c.in-None.ensures.halves in
    append-nil c.extend_from_slice.new.self.items ∙ c.in_ok-extend_from_slice-in-None.ensures.items
    ∙ ap (λ more. c.args.out.now.items ++ more) (sym (replaced-uncut c.args.globals.now.pairs c.args.text.now whole))

pub returns-after-get-clause-whole : goal.returns-after-get-clause-whole
returns-after-get-clause-whole c =
    let halves : halves_of 125 (drop 3 c.args.text.now) ≡ Some (c.in-Some.name.now, c.in-Some.rest.now) =
    ap (halves_of 125) (sym (take_rest c.args.text.now 3)) ∙ sym c.in-Some.ensures.halves in
    let out : c.match-get.out.items ≡ c.args.out.now.items ++ unwrap_or (value_of c.args.globals.now.pairs c.in-Some.name.now) [] =
    search rules in
    let front = c.args.out.now.items in
    ap (λ items. items ++ replaced c.args.globals.now.pairs c.in-Some.rest.now) out
    ∙ append_assoc front _ _ ∙ ap (λ more. front ++ more)
    (sym (replaced-reference c.args.globals.now.pairs c.args.text.now _ _ c.requires.start halves))
