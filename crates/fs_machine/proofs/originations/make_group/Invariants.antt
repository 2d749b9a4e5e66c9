use Rattle.std.proofs.Common.{◌≡◌, length, drop}
use Rattle.fs_state.specs.Drafts.{drafted}
use Rattle.fs_machine.specs.Originations.{group_made}
use Rattle.fs_machine.proofs.GroupLemmas.{behind}
use Rattle.fs_machine.proofs.originations.make_group.Given as goal

abbrev pub invariant-loop-plan : goal.invariant-loop-plan
invariant-loop-plan l =
    (l.draft.base ≡ l.fn.draft.base)
    × (behind l.legs (group_made (drop l.plan-index l.plans) l.caller l.orig (drafted l.draft))
    ≡ group_made l.plans l.caller l.orig (drafted l.fn.draft))
    × (length l.legs ≡ l.plan-index)
