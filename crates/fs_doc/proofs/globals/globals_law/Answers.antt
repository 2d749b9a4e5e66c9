use Rattle.std.proofs.Common.{◌++◌, codes}
use Rattle.fs_doc.proofs.GlobalLemmas.{replaced-nothing, replaced-other, replaced-written, replaced-unclosed, replaced-plain}
use Rattle.fs_doc.proofs.globals.globals_law.Goals as goal

pub returns : goal.returns
returns c = record {
  nothing = replaced-nothing;
  other = replaced-other;
  reference = replaced-written;
  unclosed = λ globals text none. replaced-unclosed globals (codes "$${" ++ text) none;
  plain = replaced-plain;
}
