use Rattle.std.proofs.Common.{sym, ◌∙◌}
use Rattle.fs_frame.proofs.HeaderLaws.{value_among-all, value_among-here, value_among-behind, value_among-none}
use Rattle.fs_frame.proofs.block.Block.header.Goals as goal

pub loop-other-init : goal.loop-other-init
loop-other-init c =
    value_among-all c.args.name.now c.into_iter-other-iterator.result c.args.self.now.bytes.now
    (c.into_iter-other-iterator.ensures.into_iter_gives ∙ c.headers-other-items.ensures)

pub returns-then-is_named : goal.returns-then-is_named
returns-then-is_named c =
    value_among-here c.args.name.now c.loop-other.other-iterator c.next.new.self (c.in-Some.other.now, c.in-Some.value.now)
    c.in-Some.ensures.steps (sym c.is_named.ensures ∙ c.if-is_named.true) ∙ c.loop-other.invariant

pub loop-other-preserved : goal.loop-other-preserved
loop-other-preserved c =
    value_among-behind c.args.name.now c.loop-other.other-iterator c.next.new.self (c.in-Some.other.now, c.in-Some.value.now)
    c.in-Some.ensures.steps (sym c.is_named.ensures ∙ c.if-is_named.false) ∙ c.loop-other.invariant

pub returns : goal.returns
returns c = value_among-none c.args.name.now c.loop-other.other-iterator c.in-None.ensures.steps.0 ∙ c.loop-other.invariant
