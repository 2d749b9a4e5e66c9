use Rattle.fs_spelling.proofs.ElementLaws.{read_begins, begins_read}
use Rattle.fs_spelling.proofs.document.one_element.Goals as goal

pub returns : goal.returns
returns c = record { read = read_begins; spelt = begins_read }
