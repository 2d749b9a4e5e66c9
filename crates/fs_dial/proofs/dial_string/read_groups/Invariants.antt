use Rattle.std.proofs.Common.{◌≡◌, ◌<◌, ◌≤◌, ℕ, length}
use Rattle.fs_dial.specs.DialStrings.{legs_within, groups_at}
use Rattle.fs_dial.proofs.dial_string.read_groups.Given as goal

abbrev pub invariant-legs : goal.invariant-legs
invariant-legs l = record {
  within : length l.left ≤ length l.text;
  more : ℕ;
  enough : length l.left < more;
  so_far : legs_within more l.end l.reading l.left ≡ groups_at l.end l.text;
}

abbrev pub decreases-legs : goal.decreases-legs
decreases-legs l = length l.left
