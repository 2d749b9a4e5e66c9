use Rattle.std.proofs.Common.{◌++◌, refl, codes}
use Rattle.fs_vars.proofs.ExpansionLemmas.{expanded-nothing, expanded-escape, expanded-other}
use Rattle.fs_vars.proofs.LawLemmas.{expanded-written, meaning-name, meaning-part, meaning-written}
use Rattle.fs_vars.proofs.expansion.expansion_law.Goals as goal

pub returns : goal.returns
returns c = record {
  nothing = expanded-nothing;
  escape = λ known rest. expanded-escape known (codes "\\$" ++ rest) refl;
  reference = expanded-written;
  other = expanded-other;
  name = meaning-name;
  part = meaning-part;
  written = meaning-written;
}
