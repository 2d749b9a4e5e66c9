use Rattle.std.proofs.Common.{◌≡◌, Some, subst, ap, ◌∙◌}
use Rattle.fs_state.specs.Switch.{Switch, with_chan, identifier_of}
use Rattle.fs_state.specs.Drafts.{drafted}
use Rattle.fs_machine.specs.Originations.{end_of, end_made_as}
use Rattle.fs_machine.proofs.originations.make_end.Goals as goal

pub returns-clause-made : goal.returns-clause-made
returns-clause-made c =
    let before = drafted c.draw_identifier.new.self in
    let made = c.in_ok-chan.ensures ∙ ap (end_of c.args.call.now c.args.end) (c.in_ok-copy.ensures ∙ c.in_ok-uuid.ensures.identifier) in
    let base = c.in_ok-put_chan.ensures.0 ∙ c.in_ok-uuid.ensures.draft.0 in
    let P : Switch → Type 0 = λ s. drafted c.put_chan.new.self ≡ end_made_as (identifier_of s) c.args.call.now c.args.end s in
    let put = c.in_ok-put_chan.ensures.1 ∙ ap (λ chan. with_chan c.args.end.slot (Some chan) before) made in
    (base, subst P c.in_ok-uuid.ensures.draft.1 put)
