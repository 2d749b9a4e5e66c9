use Rattle.std.proofs.Common.{arith}
use Rattle.std.proofs.lemmas.List.{take_rest}
use Rattle.fs_frame.proofs.CommandLaws.{ahead_of_all, found_here, ahead_behind, found_none}
use Rattle.fs_frame.proofs.scan.find_command.Goals as goal

pub loop-line-init : goal.loop-line-init
loop-line-init c = ahead_of_all c.args.bytes.now

pub returns-then-line-gt0 : goal.returns-then-line-gt0
returns-then-line-gt0 c =
    rw c.command_at.ensures
    (found_here c.args.bytes.now c.loop-line.start _ _ c.loop-line.invariant
    (rw (take_rest c.args.bytes.now c.loop-line.start) at c.in-Some.ensures) (λ none. omega (arith, none, c.if-line-gt0.true)))

pub loop-line-preserved : goal.loop-line-preserved
loop-line-preserved c =
    ahead_behind c.args.bytes.now c.loop-line.start _ _ c.loop-line.invariant
    (rw (take_rest c.args.bytes.now c.loop-line.start) at c.in-Some.ensures) (omega (arith, c.if-line-gt0.false))

pub returns : goal.returns
returns c =
    found_none c.args.bytes.now c.loop-line.start c.loop-line.invariant
    (rw (take_rest c.args.bytes.now c.loop-line.start) at c.in_default.ensures)
