use Rattle.fs_dial.proofs.OffsetLaws.{dial_stands}
use Rattle.fs_dial.proofs.laws.each_part_stands.Goals as goal

pub returns : goal.returns
returns c = dial_stands
