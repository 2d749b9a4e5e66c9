use Rattle.std.proofs.Common.{take}
use Rattle.fs_lead.proofs.SharedLemmas.{AllBegin}
use Rattle.fs_lead.proofs.shared.shared.Given as goal

abbrev pub invariant-loop-text : goal.invariant-loop-text
invariant-loop-text l = AllBegin l.shared (take l.text-index l.texts)
