use Rattle.std.proofs.Common.{◌≡◌, ◌<◌, ◌≤◌, ℕ, length, map}
use Rattle.fs_xml.specs.Attributes.{written_of}
use Rattle.fs_xml.specs.Tags.{body_within, body_at}
use Rattle.fs_xml.proofs.tag.read_body.Given as goal

abbrev pub invariant-parts : goal.invariant-parts
invariant-parts l = record {
  within : length l.left ≤ length l.text;
  more : ℕ;
  enough : length l.left < more;
  so_far : body_within more l.end (map written_of l.attrs.items) l.left ≡ body_at l.end l.text;
}

abbrev pub decreases-parts : goal.decreases-parts
decreases-parts l = length l.left
