use Rattle.fs_api.proofs.RangeLemmas.{IfOk-in_range}
use Rattle.fs_api.proofs.api.Api.of.Goals as goal

pub returns-clause-range : goal.returns-clause-range
returns-clause-range c = IfOk-in_range c.cut_word.result.0.now c.cut_word.result.1.now c.named.result c.named.ensures
