use Rattle.std.proofs.Common.{◌+◌, ◌*◌}
use Rattle.bench.proofs.by_book.+fn-together-join+arg2+fn-together-join+arg3+together.Given as goal

abbrev pub decreases-join+arg2 : goal.decreases-join+arg2
decreases-join+arg2 g l = 2 * l.deeper + 2

abbrev pub decreases-join+arg3 : goal.decreases-join+arg3
decreases-join+arg3 g l = 2 * l.deeper + 2

abbrev pub decreases-together : goal.decreases-together
decreases-together g l = 2 * l.depth + 1
