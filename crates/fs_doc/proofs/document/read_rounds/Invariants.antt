use Rattle.std.proofs.Common.{◌≡◌, ◌<◌, ◌≤◌, ℕ, length}
use Rattle.fs_doc.specs.Reading.{read_within, document_of}
use Rattle.fs_doc.specs.Views.{reading_of}
use Rattle.fs_doc.proofs.document.read_rounds.Given as goal

abbrev pub invariant-rounds : goal.invariant-rounds
invariant-rounds l = record {
  within : length l.left ≤ l.end;
  more : ℕ;
  enough : length l.left < more;
  so_far : read_within more l.end (reading_of l.state) l.left ≡ document_of l.end l.text;
}

abbrev pub decreases-rounds : goal.decreases-rounds
decreases-rounds l = length l.left
