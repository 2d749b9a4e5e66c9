use Rattle.fs_text.proofs.NumberLemmas.{read_u64-decimal}
use Rattle.fs_text.proofs.numbers.decimal_law.Goals as goal

pub returns : goal.returns
returns c = read_u64-decimal
