use Rattle.std.proofs.Common.{◌∙◌}
use Rattle.std.proofs.lemmas.Result.{IfOk-weaker}
use Rattle.fs_replay.proofs.Writings.{journal_written}
use Rattle.fs_replay.proofs.writing.write_journal.Goals as goal

pub returns : goal.returns
returns c = IfOk-weaker c.from_vec.result _ _ (λ text same. same ∙ journal_written _ _ _ _ _ _ c.entries-entries.ensures c.in_ok-out.ensures.items
    c.in_ok-push_entries.ensures c.in_ok-push.ensures.items c.in_ok-push_last.ensures) c.from_vec.ensures
