use Rattle.fs_event.proofs.ReadLaws.{plain_is_read, frame_is_read, one_is_told}
use Rattle.fs_event.proofs.laws.read_back.Goals as goal

pub returns : goal.returns
returns c = record {
  plain = plain_is_read;
  frame = frame_is_read;
  one = one_is_told;
}
