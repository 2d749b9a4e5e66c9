use Rattle.std.proofs.Common.{◌≡◌, ◌++◌, take}
use Rattle.fs_replay.specs.Texts.{entries_text}
use Rattle.fs_replay.proofs.writing.push_entries.Given as goal

abbrev pub invariant-loop-entry : goal.invariant-loop-entry
invariant-loop-entry l = l.out.items ≡ l.initial.out.items ++ entries_text (take l.entry-index l.entries)
