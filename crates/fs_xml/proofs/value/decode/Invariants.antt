use Rattle.std.proofs.Common.{◌≡◌, ◌<◌, ◌≤◌, ℕ, length}
use Rattle.fs_xml.specs.Entities.{value_within, value_text}
use Rattle.fs_xml.proofs.value.decode.Given as goal

abbrev pub invariant-steps : goal.invariant-steps
invariant-steps l = record {
  within : length l.left ≤ length l.value;
  more : ℕ;
  enough : length l.left < more;
  so_far : value_within more l.raw l.end l.text.items l.left ≡ value_text l.raw l.end l.value;
}

abbrev pub decreases-steps : goal.decreases-steps
decreases-steps l = length l.left
