use Rattle.std.proofs.Common.{◌≡◌, [], length, map}
use Rattle.fs_xml.specs.Attributes.{written_of}
use Rattle.fs_doc.specs.Attributes.{attributes_read}
use Rattle.fs_doc.specs.Tagged.{tagged_of}
use Rattle.fs_doc.proofs.attributes.Element.all_read.Given as goal

abbrev pub invariant-loop-left : goal.invariant-loop-left
invariant-loop-left l =
    attributes_read (tagged_of l.self) l.given (map written_of l.left)
    ≡ attributes_read (tagged_of l.self) [] (map written_of l.self.attrs.now)

abbrev pub decreases-loop-left : goal.decreases-loop-left
decreases-loop-left l = length l.left
