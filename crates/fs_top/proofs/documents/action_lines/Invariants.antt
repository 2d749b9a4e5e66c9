use Rattle.std.proofs.Common.{◌≡◌, ◌++◌, map}
use Rattle.std.specs.List.{concat}
use Rattle.fs_top.specs.Documents.{action_line}
use Rattle.fs_top.proofs.documents.action_lines.Given as goal

-- the lines so far, and those of the actions that are left, are all
abbrev pub invariant-loop-action : goal.invariant-loop-action
invariant-loop-action l = l.lines.items ++ concat (map action_line l.action-iterator) ≡ concat (map action_line l.fn.actions)
