use Rattle.fs_spelling.proofs.MarkLaws.{taken_mark, spelt_comment, spelt_end, spelt_tag}
use Rattle.fs_spelling.proofs.markup.one_markup.Goals as goal

pub returns : goal.returns
returns c = record { read = taken_mark; comment = spelt_comment; end_tag = spelt_end; tag = spelt_tag }
