use Rattle.fs_doc.proofs.CoreLemmas.{core_is}
use Rattle.fs_doc.proofs.settings.core_of.Goals as goal

pub returns : goal.returns
returns c = core_is c.args.text.now c.of_text.result c.of_text.ensures
