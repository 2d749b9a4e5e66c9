use Rattle.fs_doc.proofs.WithinLemmas.{config_within}
use Rattle.fs_spelling.proofs.Whole.{spelt_is_read}
use Rattle.fs_spelling.proofs.document.within_limits.Goals as goal

pub returns : goal.returns
returns c = λ bytes configuration is. config_within bytes configuration (spelt_is_read bytes configuration is)
