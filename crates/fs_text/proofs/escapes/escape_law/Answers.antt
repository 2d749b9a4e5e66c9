use Rattle.fs_text.proofs.EscapeLemmas.{percent_decode-escape}
use Rattle.fs_text.proofs.escapes.escape_law.Goals as goal

pub returns : goal.returns
returns c = percent_decode-escape
