use Rattle.std.proofs.Common.{ℕ, Option, IfOk, subst, ap, ◌∙◌}
use Rattle.fs_state.specs.Drafts.{drafted}
use Rattle.fs_state.specs.Switch.{slot_named}
use Rattle.fs_machine.specs.Done.{ComesTo}
use Rattle.fs_machine.specs.Joining.{bridge_done_at, uuid_bridge_done}
use Rattle.fs_machine.proofs.joining.bridge_channels.Goals as goal

pub returns-clause-done : goal.returns-clause-done
unfolding uuid_bridge_done
returns-clause-done c =
    let s = drafted c.args.draft.now in
    let one = c.slot_named-one.ensures ∙ ap (λ uuid. slot_named uuid s) c.as_bytes.ensures in
    let two = c.slot_named-two.ensures ∙ ap (λ uuid. slot_named uuid s) c.as_bytes-2.ensures in
    let done : Option ℕ → Option ℕ → Type 0 = λ first second. IfOk c.bridge_found.result
    (ComesTo (bridge_done_at first second c.args.other.now s) (drafted c.bridge_found.new.draft)) in
    subst (λ first. done first (slot_named c.args.other.now s)) one
    (subst (λ second. done c.slot_named-one.result second) two c.bridge_found.ensures.done)
