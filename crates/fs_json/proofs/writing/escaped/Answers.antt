use Rattle.std.proofs.Common.{sym, subst, All}
use Rattle.fs_text.specs.Escape.{IsClean}
use Rattle.fs_json.proofs.ShownLemmas.{is_read, clean_is_utf8}
use Rattle.fs_json.proofs.writing.escaped.Goals as goal

pub unwrap-escaped-requires : goal.unwrap-escaped-requires
unwrap-escaped-requires c =
    is_read c.as_bytes.result.now c.from_utf8.result _ _ c.from_utf8.ensures.cases
    (clean_is_utf8 _ (subst (All IsClean) (sym c.as_bytes.ensures) c.in_ok-escaped.ensures.clean))
