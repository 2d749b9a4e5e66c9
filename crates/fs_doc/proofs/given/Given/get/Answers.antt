use Rattle.std.proofs.Common.{◌∙◌, ap}
use Rattle.fs_vars.specs.Pairs.{value_of}
use Rattle.fs_doc.proofs.GivenLemmas.{value_is}
use Rattle.fs_doc.proofs.given.Given.get.Goals as goal

pub returns : goal.returns
returns c =
    c.get.ensures.value ∙ value_is c.args.name.now c.self.inside.entries.entries
    ∙ ap (λ pairs. value_of pairs c.args.name.now) c.self.view_is
