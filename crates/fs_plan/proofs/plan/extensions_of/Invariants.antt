use Rattle.std.proofs.Common.{◌≡◌, drop}
use Rattle.fs_plan.specs.Hunting.{extensions_of}
use Rattle.fs_plan.proofs.plan.extensions_of.Given as goal

-- no context so far has the name
abbrev pub invariant-loop-context : goal.invariant-loop-context
invariant-loop-context l = extensions_of (drop l.context-index l.contexts) l.name ≡ extensions_of l.contexts l.name
