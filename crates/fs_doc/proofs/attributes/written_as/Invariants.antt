use Rattle.std.proofs.Common.{◌≡◌, length, map}
use Rattle.fs_xml.specs.Attributes.{written_of}
use Rattle.fs_doc.specs.Attributes.{written_as}
use Rattle.fs_doc.proofs.attributes.written_as.Given as goal

abbrev pub invariant-loop-left : goal.invariant-loop-left
invariant-loop-left l = written_as l.name (map written_of l.left) ≡ written_as l.name (map written_of l.attrs)

abbrev pub decreases-loop-left : goal.decreases-loop-left
decreases-loop-left l = length l.left
