use Rattle.std.proofs.Common.{◌∙◌, ap}
use Rattle.fs_frame.specs.Headers.{length_by, declared_by}
use Rattle.fs_frame.proofs.length.declared_in.Goals as goal

pub returns-in-Some : goal.returns-in-Some
unfolding declared_by
returns-in-Some c = c.read_length.ensures ∙ ap length_by c.in-Some.ensures

pub returns-in-None : goal.returns-in-None
unfolding declared_by
returns-in-None c = ap length_by c.in-None.ensures
