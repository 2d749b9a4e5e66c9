use Rattle.std.proofs.Common.{◌∙◌, sym, rules, tests}
use Rattle.std.proofs.lemmas.Iterator.Search.{any_from_yields_List}
use Rattle.std.proofs.lemmas.Iterator.Splits.{YieldsList-from_slice_split}
use Rattle.fs_text.specs.Words.{is_byte}
use Rattle.fs_out.specs.Targets.{is_full}
use Rattle.fs_out.proofs.WordLemmas.{full_among}
use Rattle.fs_out.proofs.target.has_full.Goals as goal

pub returns : goal.returns
returns c =
    any_from_yields_List is_full _ _ _ c.any.ensures.ran
    (YieldsList-from_slice_split _ (is_byte 32) c.args.words.now c.split.ensures.rest c.split.ensures.done c.split.ensures.closure
    (λ x r q k. search (rules, tests)))
    (λ x r q k. search (rules, tests))
    ∙ sym (full_among c.args.words.now)
