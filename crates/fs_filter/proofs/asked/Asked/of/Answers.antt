use Rattle.std.proofs.Common.{not, ◌∙◌, arith}
use Rattle.std.proofs.lemmas.List.Sums.{prefix_len-le-length}
use Rattle.fs_filter.specs.Asked.{is_custom}
use Rattle.fs_filter.proofs.AskedLemmas.{text_position, cut_at_custom}
use Rattle.fs_filter.proofs.asked.Asked.of.Goals as goal

pub split_at-requires : goal.split_at-requires
split_at-requires c =
    omega (arith, c.position_of_custom.ensures, prefix_len-le-length (λ word. not (is_custom word.now)) c.args.words.now)

pub returns : goal.returns
returns c =
    cut_at_custom c.args.words.now c.position_of_custom.result c.split_at.result.0.now c.split_at.result.1.now c.behind_first.result
    (c.position_of_custom.ensures ∙ text_position is_custom c.args.words.now) c.split_at.ensures.front c.split_at.ensures.back
    c.behind_first.ensures
