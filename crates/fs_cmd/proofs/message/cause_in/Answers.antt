use Rattle.std.proofs.Common.{ap, ◌∙◌}
use Rattle.fs_text.specs.Cause.{cause_or_clearing}
use Rattle.fs_cmd.specs.Commands.{cause_in}
use Rattle.fs_cmd.proofs.message.cause_in.Goals as goal

-- the cause is the one that is named by what the header says
pub returns : goal.returns
unfolding cause_in
returns c = c.of_name_or_clearing.ensures ∙ ap cause_or_clearing c.said_by.ensures
