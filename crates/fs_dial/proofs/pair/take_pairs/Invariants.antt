use Rattle.std.proofs.Common.{◌≡◌, ◌<◌, ◌≤◌, ℕ, length}
use Rattle.fs_dial.specs.Pairs.{pairs_within, pairs_at}
use Rattle.fs_dial.proofs.pair.take_pairs.Given as goal

abbrev pub invariant-pieces : goal.invariant-pieces
invariant-pieces l = record {
  within : length l.left ≤ length l.text;
  more : ℕ;
  enough : length l.left < more;
  so_far : pairs_within more l.end l.separator l.pairs l.left ≡ pairs_at l.end l.separator l.initial.pairs l.text;
}

abbrev pub decreases-pieces : goal.decreases-pieces
decreases-pieces l = length l.left
