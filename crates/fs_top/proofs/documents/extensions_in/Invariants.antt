use Rattle.std.proofs.Common.{◌≡◌, take}
use Rattle.fs_top.specs.Documents.{extensions_counted}
use Rattle.fs_top.proofs.documents.extensions_in.Given as goal

-- the extensions of the contexts so far
abbrev pub invariant-loop-context : goal.invariant-loop-context
invariant-loop-context l = l.count ≡ extensions_counted (take l.context-index l.contexts)
