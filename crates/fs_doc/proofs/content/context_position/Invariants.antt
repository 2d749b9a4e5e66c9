use Rattle.std.proofs.Common.{◌≡◌, ◌-◌, ◌+◌, ◌≤◌, length, drop}
use Rattle.fs_doc.specs.Contents.{context_position}
use Rattle.fs_doc.proofs.content.context_position.Given as goal

abbrev pub invariant-loop-position : goal.invariant-loop-position
invariant-loop-position l = record {
  within : l.position ≤ length l.contexts;
  so_far : l.position + context_position l.name (drop l.position l.contexts) ≡ context_position l.name l.contexts;
}

abbrev pub decreases-loop-position : goal.decreases-loop-position
decreases-loop-position l = length l.contexts - l.position
