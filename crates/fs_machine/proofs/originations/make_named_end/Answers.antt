use Rattle.std.proofs.Common.{◌≡◌, Option, Some, sym, subst, ap, ◌∙◌}
use Rattle.fs_text.specs.Texts.{Text}
use Rattle.fs_state.specs.Switch.{with_chan}
use Rattle.fs_state.specs.Drafts.{drafted}
use Rattle.fs_machine.specs.Originations.{end_of, named_end_made}
use Rattle.fs_machine.proofs.originations.make_named_end.Goals as goal

pub returns-clause-made : goal.returns-clause-made
returns-clause-made c =
    let before = drafted c.args.draft.now in
    let made = c.in_ok-chan.ensures ∙ ap (end_of c.args.call.now c.args.end) c.in_ok-copy.ensures in
    let P : Option Text → Type 0 = λ uuid. drafted c.put_chan.new.self ≡ named_end_made uuid c.args.call.now c.args.end before in
    let put = c.in_ok-put_chan.ensures.1 ∙ ap (λ chan. with_chan c.args.end.slot (Some chan) before) made in
    (c.in_ok-put_chan.ensures.0, subst P (sym c.in-Some.is) put)
