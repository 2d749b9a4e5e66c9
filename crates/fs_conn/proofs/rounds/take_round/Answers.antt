use Rattle.std.proofs.Common.{ap, ◌∙◌}
use Rattle.fs_ports.specs.Ports.{Input}
use Rattle.fs_conn.proofs.ToldLemmas.{turns_departed}
use Rattle.fs_conn.proofs.rounds.take_round.Goals as goal

pub returns-in-Err-clause-turns : goal.returns-in-Err-clause-turns
returns-in-Err-clause-turns g c = λ from h same. (c.args.blocks.now.rest, c.in-Err.ensures.hands from c.args.blocks.now.rest h)

pub returns-then-standing-clause-turns : goal.returns-then-standing-clause-turns
returns-then-standing-clause-turns g c = λ from h same. (
  c.in-Ok.ensures.hands from c.args.blocks.now.rest h,
  ap (λ (i : Input). i.faults) c.hand_over.ensures.input ∙ same,
)

pub returns-then-not-standing-clause-turns : goal.returns-then-not-standing-clause-turns
returns-then-not-standing-clause-turns g c = λ from h same.
    let rest = c.args.blocks.now.rest in
    turns_departed _ _ _ from _ rest rest c.leave.result
    (c.leave.ensures.departed from rest (c.in-Ok.ensures.hands from rest h))

pub returns-then-standing-2-clause-turns : goal.returns-then-standing-2-clause-turns
returns-then-standing-2-clause-turns g c = λ from h same. (
  c.in-Ok.ensures.hands from c.args.blocks.now.rest h,
  ap (λ (i : Input). i.faults) c.hand_over.ensures.input ∙ same,
)

pub returns-in-Ok-Some-clause-turns : goal.returns-in-Ok-Some-clause-turns
returns-in-Ok-Some-clause-turns g c = λ from h same.
    rw c.in-Ok-Some.field-0-is at
    (c.in-Ok-Some.ensures.turns from (c.in-Ok.ensures.hands from c.args.blocks.now.rest h)
    (ap (λ (i : Input). i.faults) c.hand_over.ensures.input ∙ same))

pub returns-in-Ok-None-clause-turns : goal.returns-in-Ok-None-clause-turns
returns-in-Ok-None-clause-turns g c = λ from h same.
    let tried = rw c.in-Ok-None.field-0-is at
    (c.in-Ok-None.ensures.turns from (c.in-Ok.ensures.hands from c.args.blocks.now.rest h)
    (ap (λ (i : Input). i.faults) c.hand_over.ensures.input ∙ same)) in
    c.read_more.ensures.turns from tried.0 tried.1

pub returns-in-Err-enter_next-clause-turns : goal.returns-in-Err-enter_next-clause-turns
returns-in-Err-enter_next-clause-turns g c = λ from h same.
    c.in-Err-enter_next.ensures.turns from (c.in-Ok.ensures.hands from c.args.blocks.now.rest h)
    (ap (λ (i : Input). i.faults) c.hand_over.ensures.input ∙ same)
