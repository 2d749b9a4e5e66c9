use Rattle.std.proofs.Common.{sym, ◌∙◌, arith, length}
use Rattle.std.proofs.lemmas.List.{take_all}
use Rattle.fs_lead.proofs.SharedLemmas.{front_begins}
use Rattle.fs_lead.proofs.shared.common.Goals as goal

pub returns-clause-first : goal.returns-clause-first
returns-clause-first c =
    front_begins _ _ (length c.args.first.now) (sym (take_all _ c.args.first.now (omega arith)))

pub returns-clause-second : goal.returns-clause-second
returns-clause-second c =
    front_begins _ _ c.loop-i.i (sym (take_all _ c.args.first.now (omega arith)) ∙ c.loop-i.invariant)
