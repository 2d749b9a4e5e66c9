use Rattle.std.proofs.Common.{◌∙◌, sym}
use Rattle.fs_out.proofs.WordLemmas.{target_is}
use Rattle.fs_out.proofs.target.Target.of.Goals as goal

pub returns : goal.returns
returns c =
    let first = c.without_spaces.ensures in
    let word = c.cut_word.ensures.word in
    let behind = c.cut_word.ensures.behind in
    λ plain. (rw (word, behind, first) at (c.at.ensures plain)) ∙ sym (target_is c.args.text.now)
