use Rattle.std.proofs.Common.{[], refl, ◌∙◌}
use Rattle.fs_book.specs.Passes.{seen, mine}
use Rattle.fs_conn.proofs.TalkLemmas.{stops_holds}
use Rattle.fs_conn.proofs.ToldLemmas.{holds_first, ends_over, ends_memory, ends_given_up, ends_early}
use Rattle.fs_conn.proofs.HeldLemmas.{held_new}
use Rattle.fs_conn.proofs.conversing.converse.Goals as goal

pub returns-in_default-clause-talks : goal.returns-in_default-clause-talks
returns-in_default-clause-talks g c =
    ends_memory _ _ _ _ _ []
    (stops_holds _ _ _ _ (seen c.args.pass.now) (mine c.args.pass.now) _ _ []
    (holds_first _ _ _ (seen c.args.pass.now) (mine c.args.pass.now) _ _ c.requires.run c.requires.owns c.requires.fresh))

pub rounds-init : goal.rounds-init
rounds-init g c = record {
  book = c.requires.book;
  owns = c.requires.owns;
  met_kept = refl;
  parts_kept = refl;
  holds =
      rw c.in-Ok.ensures
      (holds_first _ _ _ (seen c.args.pass.now) (mine c.args.pass.now) _ _ c.requires.run c.requires.owns c.requires.fresh);
  faults = refl;
  little = held_new _ c.in-Ok.ensures;
}

pub rounds-preserved : goal.rounds-preserved
rounds-preserved g c =
    let on = rw c.in-Ok-GoOn.field-0-is at (c.in-Ok-GoOn.ensures.turns _ c.rounds.invariant.holds c.rounds.invariant.faults) in record {
      book = c.take_round.ensures.book;
      owns = c.take_round.ensures.owns;
      met_kept = c.take_round.ensures.kept.0 ∙ c.rounds.invariant.met_kept;
      parts_kept = c.take_round.ensures.kept.1 ∙ c.rounds.invariant.parts_kept;
      holds = on.0;
      faults = on.1;
      little = c.take_round.ensures.little;
    }

pub returns-in-Ok-Done-clause-talks : goal.returns-in-Ok-Done-clause-talks
returns-in-Ok-Done-clause-talks g c =
    ends_over _ _ _ _ _ c.in-Ok-Done.end
    (rw c.in-Ok-Done.field-0-is at (c.in-Ok-Done.ensures.turns _ c.rounds.invariant.holds c.rounds.invariant.faults))

pub returns-in-Err-Over-clause-talks : goal.returns-in-Err-Over-clause-talks
returns-in-Err-Over-clause-talks g c =
    let stopped = rw c.in-Err-Over.field-0-is at (c.in-Err-Over.ensures.turns _ c.rounds.invariant.holds c.rounds.invariant.faults) in
    rw c.in-Err-Over.field-0-is (ends_early _ _ _ _ _ stopped.0 c.in-Err-Over.end stopped.1)

pub returns-in-Err-OutOfMemory-clause-talks : goal.returns-in-Err-OutOfMemory-clause-talks
returns-in-Err-OutOfMemory-clause-talks g c =
    let stopped =
    rw c.in-Err-OutOfMemory.field-0-is at (c.in-Err-OutOfMemory.ensures.turns _ c.rounds.invariant.holds c.rounds.invariant.faults) in
    ends_memory _ _ _ _ _ stopped.0 stopped.1

pub returns-in-Err-WriteFault-clause-talks : goal.returns-in-Err-WriteFault-clause-talks
returns-in-Err-WriteFault-clause-talks g c =
    let stopped =
    rw c.in-Err-WriteFault.field-0-is at (c.in-Err-WriteFault.ensures.turns _ c.rounds.invariant.holds c.rounds.invariant.faults) in
    ends_given_up _ _ _ _ _ stopped.0 c.give_up.result
    (c.give_up.ensures.stops _ (g.L.Port.input c.take_round.new.link) (g.L.Port.output c.take_round.new.link) stopped.0 stopped.1)
