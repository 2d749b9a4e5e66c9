use Rattle.std.proofs.Common.{◌<◌, ◌∙◌, sym, subst, IfSome}
use Rattle.fs_vars.proofs.DigitLemmas.{read_size, small_size}
use Rattle.fs_vars.proofs.part.size_in.Goals as goal

pub returns : goal.returns
returns c =
    let text = c.args.text.now in
    let value = c.read_u64.ensures ∙ read_size text c.if-text-gt9.false in
    record { value = value; small = subst (λ size. IfSome size (λ n. n < 1000000000)) (sym value) (small_size text c.if-text-gt9.false) }
