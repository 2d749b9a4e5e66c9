use Rattle.std.proofs.Common.{◌≡◌, IfOk, subst}
use Rattle.fs_text.specs.Texts.{Text}
use Rattle.fs_out.proofs.LineLemmas.{told_lines}
use Rattle.fs_out.proofs.greetings.told.Goals as goal

pub returns : goal.returns
returns c =
    let told = rw c.in_ok-text.ensures at c.in_ok-tell_in.ensures in
    let all = rw c.deref.ensures at c.in_ok-tell_variables.ensures in
    subst (λ (lines : Text). IfOk c.into_text.result (λ text. text ≡ lines)) (told_lines c.args.chan.now c.tell_in.new.sink c.tell_variables.new.text told all)
    c.into_text.ensures
