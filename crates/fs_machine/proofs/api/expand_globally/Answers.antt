use Rattle.std.proofs.Common.{refl}
use Rattle.fs_vars.proofs.GlobalLemmas.{empty_fields, IfOk-globally, IfErr-globally}
use Rattle.fs_machine.proofs.api.expand_globally.Goals as goal

pub returns : goal.returns
returns c =
    let empty = empty_fields c.in_ok-profile.profile c.in_ok-profile.ensures in record {
      text = IfOk-globally _ c.args.text.now c.expand.result empty refl c.expand.ensures.text;
      short = c.expand.ensures.short;
      refused = IfErr-globally _ c.args.text.now c.expand.result empty refl c.expand.ensures.refused;
    }
