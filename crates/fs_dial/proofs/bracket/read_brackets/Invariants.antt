use Rattle.std.proofs.Common.{◌≡◌, ◌<◌, ◌≤◌, ℕ, length}
use Rattle.fs_dial.specs.Brackets.{brackets_within, brackets_at}
use Rattle.fs_dial.proofs.bracket.read_brackets.Given as goal

abbrev pub invariant-brackets : goal.invariant-brackets
invariant-brackets l = record {
  within : length l.left ≤ length l.text;
  more : ℕ;
  enough : length l.left < more;
  so_far : brackets_within more l.bracket l.end l.pairs l.left ≡ brackets_at l.bracket l.end l.text;
}

abbrev pub decreases-brackets : goal.decreases-brackets
decreases-brackets l = length l.left
