use Rattle.std.proofs.Common.{◌∙◌, ap}
use Rattle.std.proofs.lemmas.Result.{IfOk-weaker}
use Rattle.serde_json.specs.Data.{object}
use Rattle.serde_json.proofs.Views.{view-Object}
use Rattle.fs_json.proofs.ReadLemmas.{text_is}
use Rattle.fs_json.proofs.writing.text_of.Goals as goal

pub returns : goal.returns
returns c = λ pairs has.
    let is = view-Object c.args.object ∙ ap object has in
    IfOk-weaker c.from_vec.result _ _ (λ t same. same ∙ text_is pairs _ _ is c.in_ok-text.ensures.text) c.from_vec.ensures
