use Rattle.fs_replay.proofs.Lines.{one_journal}
use Rattle.fs_replay.proofs.laws.journal_law.Goals as goal

pub returns : goal.returns
returns c = one_journal
