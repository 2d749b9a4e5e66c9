use Rattle.std.proofs.Common.{◌∙◌, ap, map}
use Rattle.fs_doc.proofs.GivenLemmas.{new_last, pair_of}
use Rattle.fs_doc.proofs.given.Given.push.Goals as goal

pub returns : goal.returns
returns c =
    rw (← c.self.view_is) (ap (map pair_of) c.in_ok-insert.ensures.entries
    ∙ new_last c.args.name c.args.text c.self.inside.entries.entries (rw c.self.view_is c.requires))
