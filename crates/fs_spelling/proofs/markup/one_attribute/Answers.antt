use Rattle.fs_spelling.proofs.AttributeLaws.{read_attribute, spelt_attribute}
use Rattle.fs_spelling.proofs.markup.one_attribute.Goals as goal

pub returns : goal.returns
returns c = record { read = read_attribute; spelt = spelt_attribute }
