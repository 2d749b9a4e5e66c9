use Rattle.std.proofs.Common.{◌+◌, ◌∙◌, ap, Some, take}
use Rattle.std.proofs.lemmas.List.{take_rest}
use Rattle.fs_text.specs.Texts.{Text}
use Rattle.fs_out.proofs.AddressLemmas.{no_parts, parts_are}
use Rattle.fs_out.proofs.target.parts_of.Goals as goal

pub returns-in_err-colon : goal.returns-in_err-colon
returns-in_err-colon c = rw c.from_residual.ensures (no_parts c.args.address.now c.in_err-colon.ensures)

pub returns : goal.returns
returns c =
    let address = c.args.address.now in
    let colon = c.in_ok-colon.colon in
    ap (λ (behind : Text). Some (take colon address, behind)) (take_rest address (colon + 1))
    ∙ parts_are address colon c.in_ok-colon.ensures.0 c.in_ok-colon.ensures.1
