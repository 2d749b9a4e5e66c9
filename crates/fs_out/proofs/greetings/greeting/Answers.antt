use Rattle.std.proofs.Common.{◌≡◌, IfOk, subst, ◌∙◌}
use Rattle.fs_text.specs.Texts.{Text}
use Rattle.fs_out.proofs.LineLemmas.{greeting_is}
use Rattle.fs_out.proofs.greetings.greeting.Goals as goal

pub returns : goal.returns
returns c =
    let told = c.as_bytes-told.ensures ∙ c.in_ok-told.ensures in
    let whole = greeting_is c.args.chan.now c.args.target.now c.as_bytes-told.result.now told in
    let control = rw c.control_of.ensures at c.as_bytes.ensures.value in
    let formed = rw (
      c.in_ok-push_header-3.ensures.ok,
      control,
      c.in_ok-push_header-2.ensures.ok,
      c.in_ok-extend_from_slice-2.ensures.items,
      c.in_ok-push_header.ensures.ok,
      c.in_ok-extend_from_slice.ensures.items,
      c.in_ok-frame.ensures.items,
    ) at c.in_ok-push.ensures.items in
    subst (λ (frame : Text). IfOk c.from_vec.result (λ text. text ≡ frame)) (formed ∙ whole) c.from_vec.ensures
