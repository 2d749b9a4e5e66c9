use Rattle.fs_dial.proofs.ValueLaws.{plain_is_said, said_is_left}
use Rattle.fs_dial.proofs.laws.one_value.Goals as goal

pub returns : goal.returns
returns c = record {
  said = λ pair. plain_is_said pair.separator pair.value;
  one = λ pair text says. said_is_left pair.separator pair.value text says;
}
