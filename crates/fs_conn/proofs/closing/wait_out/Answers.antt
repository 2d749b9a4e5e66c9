use Rattle.std.proofs.Common.{refl, ◌∙◌}
use Rattle.fs_book.specs.Passes.{seen, mine}
use Rattle.fs_machine.specs.declared.entry.Act.TheVariants.{Close}
use Rattle.fs_machine.specs.declared.entry.Closing.TheVariants.{Sent}
use Rattle.fs_conn.proofs.TalkLemmas.{stops_tried, holds_quiet, finishes}
use Rattle.fs_conn.proofs.closing.wait_out.Goals as goal

pub returns-in-Err-clause-closes : goal.returns-in-Err-clause-closes
returns-in-Err-clause-closes g c = λ from rest h. c.in-Err.ensures.drains from rest (c.waits.invariant.holds from rest h)

pub returns-in-Ok-Some-clause-closes : goal.returns-in-Ok-Some-clause-closes
returns-in-Ok-Some-clause-closes g c = λ from rest h. (
  refl,
  finishes _ _ _ from (seen c.drain.new.pass) (seen c.attempt.new.pass) (mine c.drain.new.pass) (mine c.attempt.new.pass) _ _ rest
      c.in-Ok-Some.field-0-0.reply (rw c.in-Ok-Some.field-0-is at c.in-Ok-Some.ensures.tries)
      (c.in-Ok.ensures.drains from rest (c.waits.invariant.holds from rest h)),
)

pub returns-in-Err-attempt-clause-closes : goal.returns-in-Err-attempt-clause-closes
returns-in-Err-attempt-clause-closes g c = λ from rest h.
    stops_tried _ _ _ from (seen c.drain.new.pass) (seen c.attempt.new.pass) (mine c.drain.new.pass) (mine c.attempt.new.pass) _ _ rest
    (Close c.args.conn Sent) c.in-Err-attempt.stop c.in-Err-attempt.ensures.tries
    (c.in-Ok.ensures.drains from rest (c.waits.invariant.holds from rest h))

pub waits-preserved-in-Ok-None-3 : goal.waits-preserved-in-Ok-None-3
waits-preserved-in-Ok-None-3 g c = record {
  book = c.attempt.ensures.book;
  owns = c.attempt.ensures.owns;
  met_kept = c.attempt.ensures.kept.0 ∙ c.drain.ensures.kept.0 ∙ c.waits.invariant.met_kept;
  parts_kept = c.attempt.ensures.kept.1 ∙ c.drain.ensures.kept.1 ∙ c.waits.invariant.parts_kept;
  input = c.drain.ensures.input ∙ c.waits.invariant.input;
  holds = λ from rest h.
      holds_quiet _ _ _ from (seen c.drain.new.pass) (seen c.attempt.new.pass) (mine c.drain.new.pass) (mine c.attempt.new.pass) _ _ rest
      (rw c.in-Ok-None.field-0-is at c.in-Ok-None.ensures.tries)
      (c.in-Ok.ensures.drains from rest (c.waits.invariant.holds from rest h));
}
