use Rattle.std.proofs.Common.{refl, ap, ◌∙◌}
use Rattle.fs_load.specs.Calls.{input_left, dropped}
use Rattle.fs_doc.specs.Reading.{Configuration}
use Rattle.fs_state.specs.Switch.{empty}
use Rattle.fs_machine.specs.Runs.{run_from}
use Rattle.fs_conn.specs.Play.{noted}
use Rattle.fs_top.proofs.AnswerLaws.{loads_counted, loads_ended, loads_none}
use Rattle.fs_top.proofs.program.load_on.Goals as goal

pub returns-in-Exit-clause-does : goal.returns-in-Exit-clause-does
returns-in-Exit-clause-does g c =
    loads_counted c.args.machine.now.config (noted c.play.new.machine.journal) c.args.count c.args.start (input_left c.play.new.link) _
    dropped _ _ c.play.new.machine.journal c.counts.result.now _ (rw c.new-calls.ensures at c.in-Exit.ensures.plays) refl
    (c.counts.ensures.state
    ∙ ap (λ (d : Configuration). (run_from (empty d) c.play.new.machine.journal).counts) c.play.ensures.config)
    c.print_counts.ensures.does

pub returns-in_default-clause-does : goal.returns-in_default-clause-does
returns-in_default-clause-does g c = loads_none c.args.machine.now.config _ _ _

pub returns : goal.returns
returns g c = record {
  does =
      loads_ended c.args.machine.now.config (noted c.play.new.machine.journal) c.args.count c.args.start (input_left c.play.new.link) _
      c.play.result c.play.new.machine.journal (rw c.new-calls.ensures at c.play.ensures.plays) refl c.in_default-play.not-Exit;
  input = refl;
}
