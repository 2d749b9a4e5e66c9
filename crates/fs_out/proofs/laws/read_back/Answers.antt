use Rattle.fs_out.proofs.LawLemmas.{parted, spelled_read}
use Rattle.fs_out.proofs.laws.read_back.Goals as goal

pub returns : goal.returns
returns c = record { parts = parted; target = spelled_read }
