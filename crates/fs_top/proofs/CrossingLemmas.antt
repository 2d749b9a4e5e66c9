-- A regular expression may go to another thread, and be shared with it; so may a dialplan, and a machine may go there.
use denote.Param.Send.{IsSend, IsSync, view_send, view_sync, sendable}
use denote.Param.SendFields.{declared_send, declared_sync}
use Rattle.std.proofs.Crossing.{crosses, Arc-send}
use Rattle.regex_hir.proofs.hir.Hir.TheLaws.TheKnot as knot
use Rattle.regex_hir.specs.contracts.hir.Hir as Hir
use Rattle.regex_dfa.proofs.dfa.Dfa.TheSendSync as dfa
use Rattle.regex_extract.proofs.frames.Frame.TheSendSync as frame
use Rattle.regex_literal.proofs.prefilter.Prefilter.TheSendSync as prefilter
use Rattle.regex_literal.proofs.byte_set.ByteSet.TheSendSync as byte_set
use Rattle.regex_literal.proofs.caseless.Caseless.TheSendSync as caseless
use Rattle.regex_meta.specs.contracts.plan.Plan as Plan
use Rattle.regex_meta.specs.contracts.plan.Plans as Plans
use Rattle.regex_meta.specs.contracts.signs.Signs as Signs
use Rattle.regex_meta.specs.contracts.program.Program as Program
use Rattle.regex.specs.contracts.pattern.Pattern as Pattern
use Rattle.regex.specs.contracts.bytes.regex.Regex as Regex
use Rattle.fs_lead.proofs.lead.Lead.TheSendSync as lead
use Rattle.fs_plan.specs.contracts.pattern.Pattern as Condition
use Rattle.fs_plan.specs.contracts.pattern.Pattern.TheInside as InCondition
use Rattle.fs_plan.specs.contracts.plan.Dialplan as Dialplan
use Rattle.fs_machine.specs.contracts.machine.Machine as Machine
use Rattle.fs_machine.specs.contracts.machine.Machine.TheInside as InMachine
use Rattle.fs_machine.proofs.journal.Journal.TheSendSync as journal
use Rattle.fs_machine.proofs.touches.Touches.TheSendSync as touches
use Rattle.fs_doc.proofs.config.Config.TheSendSync as config
use Rattle.fs_state.proofs.switch.Core.TheSendSync as core
use Rattle.fs_state.proofs.blank.Blank.TheSendSync as blank

ruleset known = (crosses, knot.crosses, sendable)

pub hir_send : IsSend Hir.the_row
hir_send = search known depth 60 fits 20000

pub plan_send : IsSend Plan.the_row
plan_send = search (frame.the_send, prefilter.the_send, known) depth 60 fits 20000

pub plans_send : IsSend Plans.the_row
plans_send = search (plan_send, known) depth 60 fits 20000

pub signs_send : IsSend Signs.the_row
signs_send = search (caseless.the_send, known) depth 60 fits 20000

pub program_send : IsSend Program.the_row
program_send = declared_send Program.the_type (
  hir_send,
  (
    dfa.the_send,
    (
      plans_send,
      (
        search (signs_send, known) depth 60 fits 20000,
        (
          search (byte_set.the_send, known) depth 60 fits 20000,
          (search sendable depth 20, (search sendable depth 20, (search sendable depth 20, tt))),
        ),
      ),
    ),
  ),
)

pub pattern_send : IsSend Pattern.the_row
pattern_send = declared_send Pattern.the_type (
  search known depth 20,
  (search known depth 20, (search known depth 20, (program_send, tt))),
)

pub regex_send : IsSend Regex.the_row
regex_send = declared_send Regex.the_type (pattern_send, tt)

pub condition_send : IsSend Condition.the_row
condition_send = view_send InCondition.the_row _ _ _ _ (declared_send InCondition.the_type (regex_send, (lead.the_send, tt)))

pub dialplan_send : IsSend Dialplan.the_row
dialplan_send = search (condition_send, known) depth 60 fits 20000

-- ---- the same of sharing

pub hir_sync : IsSync Hir.the_row
hir_sync = search known depth 60 fits 20000

pub plan_sync : IsSync Plan.the_row
plan_sync = search (frame.the_sync, prefilter.the_sync, known) depth 60 fits 20000

pub plans_sync : IsSync Plans.the_row
plans_sync = search (plan_sync, known) depth 60 fits 20000

pub signs_sync : IsSync Signs.the_row
signs_sync = search (caseless.the_sync, known) depth 60 fits 20000

pub program_sync : IsSync Program.the_row
program_sync = declared_sync Program.the_type (
  hir_sync,
  (
    dfa.the_sync,
    (
      plans_sync,
      (
        search (signs_sync, known) depth 60 fits 20000,
        (
          search (byte_set.the_sync, known) depth 60 fits 20000,
          (search sendable depth 20, (search sendable depth 20, (search sendable depth 20, tt))),
        ),
      ),
    ),
  ),
)

pub pattern_sync : IsSync Pattern.the_row
pattern_sync = declared_sync Pattern.the_type (
  search known depth 20,
  (search known depth 20, (search known depth 20, (program_sync, tt))),
)

pub regex_sync : IsSync Regex.the_row
regex_sync = declared_sync Regex.the_type (pattern_sync, tt)

pub condition_sync : IsSync Condition.the_row
condition_sync = view_sync InCondition.the_row _ _ _ _ (declared_sync InCondition.the_type (regex_sync, (lead.the_sync, tt)))

pub dialplan_sync : IsSync Dialplan.the_row
dialplan_sync = search (condition_sync, known) depth 60 fits 20000

-- ---- the machine

pub machine_send : IsSend Machine.the_row
machine_send = view_send InMachine.the_row _ _ _ _ (declared_send InMachine.the_type (
  search (config.the_send, config.the_sync, known) depth 60 fits 20000,
  (
    core.the_send,
    (
      Arc-send Dialplan.the_row dialplan_send dialplan_sync,
      (journal.the_send, (search (blank.the_send, known) depth 60 fits 20000, (touches.the_send, tt))),
    ),
  ),
))
