use Rattle.std.proofs.Common.{sym, ◌∙◌, ap, arith, rules}
use Rattle.fs_frame.specs.Headers.{declared_by}
use Rattle.fs_frame.proofs.LengthLaws.{declared_by-short}
use Rattle.fs_frame.proofs.FrontLaws.{spoilt_by_length, spoilt_by_body}
use Rattle.fs_frame.proofs.front.behind_head.Goals as goal

pub returns-in_default : goal.returns-in_default
returns-in_default c = λ bytes stands.
    spoilt_by_length bytes c.args.head.now stands (sym (c.in_default.ensures ∙ ap declared_by c.cut.ensures))

pub overflow_add-len : goal.overflow_add-len
overflow_add-len c =
    let short = declared_by-short c.args.head.now c.in-Length.body (sym (c.in-Length.ensures ∙ ap declared_by c.cut.ensures)) in
    let few = c.requires.within in
    search (rules, arith)

pub returns-then-len : goal.returns-then-len
returns-then-len c = λ bytes stands.
    spoilt_by_body bytes c.args.head.now c.in-Length.body stands (sym (c.in-Length.ensures ∙ ap declared_by c.cut.ensures)) c.if-len.true
