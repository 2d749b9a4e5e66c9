use Rattle.std.proofs.Common.{◌≡◌, take}
use Rattle.fs_state.specs.Drafts.{drafted}
use Rattle.fs_state.specs.Hangups.{living_of}
use Rattle.fs_state.proofs.draft.Draft.living_of.Given as goal

abbrev pub invariant-loop-member : goal.invariant-loop-member
invariant-loop-member l = l.living.items ≡ living_of (drafted l.self) (take l.member-index l.named)
