use Rattle.std.proofs.Common.{◌≡◌, ◌≤◌, length}
use Rattle.fs_state.specs.Drafts.{drafted}
use Rattle.fs_state.proofs.QueueLemmas.{first_from}
use Rattle.fs_state.proofs.draft.Draft.first_caller.Given as goal

abbrev pub invariant-slots : goal.invariant-slots
invariant-slots l = record {
  within : l.slot ≤ length (drafted l.fn.self).channels;
  first : l.first ≡ first_from l.fn.name (drafted l.fn.self).channels l.slot;
}

abbrev pub decreases-slots : goal.decreases-slots
decreases-slots l = l.slot
