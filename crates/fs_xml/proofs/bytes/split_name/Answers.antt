use Rattle.std.proofs.Common.{◌-◌, length, take, drop, ap, ◌∙◌}
use Rattle.fs_xml.specs.Bytes.{is_name_byte}
use Rattle.fs_xml.proofs.ByteLemmas.{front_is, back_is}
use Rattle.fs_xml.proofs.bytes.split_name.Goals as goal

pub returns-clause-name : goal.returns-clause-name
returns-clause-name c =
    c.split_at.ensures.front ∙ ap (λ rest. take (length c.args.text.now - length rest) c.args.text.now) c.past_name.ensures.rest
    ∙ front_is is_name_byte c.args.text.now

pub returns-clause-rest : goal.returns-clause-rest
returns-clause-rest c =
    c.split_at.ensures.back ∙ ap (λ rest. drop (length c.args.text.now - length rest) c.args.text.now) c.past_name.ensures.rest
    ∙ back_is is_name_byte c.args.text.now
