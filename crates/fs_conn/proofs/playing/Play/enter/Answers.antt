use Rattle.std.proofs.Common.{[], ap, ◌∙◌}
use Rattle.fs_conn.specs.Play.{noted}
use Rattle.fs_conn.proofs.StepLemmas.{accepts}
use Rattle.fs_conn.proofs.NoteLemmas.{noted_more, adds_none, adds_other}
use Rattle.fs_conn.proofs.playing.Play.enter.Goals as goal

pub returns-in-Ok-clause-enters : goal.returns-in-Ok-clause-enters
returns-in-Ok-clause-enters g c =
    let did = c.in-Ok.ensures in
    accepts [] c.args.self.now.machine.now c.step.new.self c.args.self.now.clock c.args.act c.in-Ok.reply did.config did.journal did.defined
    did.reply did.cost did.free

pub returns-in-Ok-clause-noted : goal.returns-in-Ok-clause-noted
returns-in-Ok-clause-noted g c =
    ap noted c.in-Ok.ensures.journal ∙ noted_more c.args.self.now.machine.now.journal _ c.requires.other

pub returns-in-Ok-clause-adds : goal.returns-in-Ok-clause-adds
returns-in-Ok-clause-adds g c = adds_other _ _ _ c.requires.other c.in-Ok.ensures.journal

pub returns-in-Err-JournalFull-clause-adds : goal.returns-in-Err-JournalFull-clause-adds
returns-in-Err-JournalFull-clause-adds g c = adds_none _ _ c.in-Err-JournalFull.ensures.refused.journal

pub returns-in-Err-Memory-clause-adds : goal.returns-in-Err-Memory-clause-adds
returns-in-Err-Memory-clause-adds g c = adds_none _ _ c.in-Err-Memory.ensures.refused.journal

pub returns-clause-adds : goal.returns-clause-adds
returns-clause-adds g c = adds_none _ _ c.in-Err.ensures.refused.journal
