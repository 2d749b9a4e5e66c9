use Rattle.std.proofs.Common.{◌∙◌, sym, ap, Some, None}
use Rattle.fs_text.proofs.IdLemmas.{high_is}
use Rattle.fs_text.proofs.core_id.high_half.Goals as goal

pub returns-in_err-id : goal.returns-in_err-id
returns-in_err-id c =
    let read = c.try_parse_ascii in
    c.from_residual.ensures ∙ high_is read.result None c.args.text.now read.ensures.ok read.ensures.bytes
    (sym c.in_err-id.was ∙ c.ok.ensures.value)

pub returns : goal.returns
returns c =
    let read = c.try_parse_ascii in
    ap Some c.as_u64_pair.ensures.high ∙ high_is read.result (Some c.in_ok-id.id) c.args.text.now read.ensures.ok read.ensures.bytes
    (sym c.in_ok-id.was ∙ c.ok.ensures.value)
