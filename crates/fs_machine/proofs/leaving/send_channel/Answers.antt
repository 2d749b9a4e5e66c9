use Rattle.std.proofs.Common.{Option, ℕ, IfOk, subst, ap, ◌∙◌}
use Rattle.fs_state.specs.Drafts.{drafted}
use Rattle.fs_state.specs.Switch.{slot_named}
use Rattle.fs_machine.specs.Done.{ComesTo}
use Rattle.fs_machine.specs.Leaving.{moved_on, sent_at, sent_done}
use Rattle.fs_machine.proofs.leaving.send_channel.Goals as goal

pub returns-clause-done : goal.returns-clause-done
unfolding sent_done
returns-clause-done c =
    let s = drafted c.args.draft.now in
    let found = c.slot_named-found.ensures ∙ ap (λ uuid. slot_named uuid s) c.as_bytes.ensures in
    let done : Option ℕ → Type 0 = λ slot. IfOk c.send_found.result
    (ComesTo (sent_at (moved_on c.args.onward) c.args.side slot s) (drafted c.send_found.new.draft)) in
    subst (λ slot. done slot) found c.send_found.ensures.done
