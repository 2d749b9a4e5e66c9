use Rattle.std.proofs.Common.{sym, subst}
use Rattle.fs_doc.specs.declared.content.Content.{Content}
use Rattle.fs_doc.specs.Reading.{configured}
use Rattle.fs_doc.specs.Limits.{IsWithin}
use Rattle.fs_doc.proofs.WithinLemmas.{nothing_within, content_within}
use Rattle.fs_doc.proofs.document.config_of.Goals as goal

pub of-requires : goal.of-requires
of-requires c = subst (λ (content : Content). IsWithin (configured content)) (sym c.in_ok-new.ensures) nothing_within

pub of-requires-2 : goal.of-requires-2
of-requires-2 c = content_within c.args.bytes.now c.in_ok-content_of.field-0 c.in_ok-content_of.ensures
