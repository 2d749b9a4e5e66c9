-- How the code's tags are seen by the definitions.
use Rattle.std.specs.Prelude.{map}
use Rattle.fs_text.specs.Texts.{Text}
use Rattle.fs_vars.specs.Pairs.{Pairs}
use Rattle.fs_xml.specs.Attributes.{written_of}
use Rattle.fs_doc.specs.declared.attributes.Element.{Element}
use Rattle.fs_doc.specs.Attributes.{Tagged}

abbrev pub tagged_of : Element → Tagged
tagged_of e = record { kind = e.kind; tag = e.tag; globals = e.globals.now.pairs; attrs = map written_of e.attrs.now }

abbrev pub pairs_seen : Pairs → Pairs
pairs_seen pairs = pairs

abbrev pub text_seen : Text → Text
text_seen text = text
