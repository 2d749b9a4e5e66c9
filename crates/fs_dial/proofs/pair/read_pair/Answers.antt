use Rattle.std.proofs.Common.{not, arith}
use Rattle.std.proofs.lemmas.List.Sums.{prefix_len-le-length}
use Rattle.fs_dial.specs.Pairs.{is_equals}
use Rattle.fs_dial.proofs.pair.read_pair.Goals as goal

pub split_at-requires : goal.split_at-requires
split_at-requires c = omega (arith, c.offset_of.ensures, prefix_len-le-length (λ b. not (is_equals b)) c.args.text.now)
