use Rattle.fs_vars.specs.Scopes.{known_in}
use Rattle.fs_vars.proofs.OutputLemmas.{Expands}
use Rattle.fs_vars.proofs.expansion.expand.Given as goal

abbrev pub invariant-loop-piece : goal.invariant-loop-piece
invariant-loop-piece l = Expands (known_in l.scope) l.text l.piece-iterator l.output
