use Rattle.std.proofs.Common.{sym, arith}
use Rattle.fs_text.specs.Words.{is_byte}
use Rattle.fs_text.proofs.Cuts.{offset_within, none_found, nothing_after, behind_is}
use Rattle.fs_text.proofs.words.cut_at.Goals as goal

pub split_at-requires : goal.split_at-requires
split_at-requires c = omega (arith, c.offset_of.ensures, offset_within (is_byte c.args.byte) c.args.text.now)

pub returns-in-empty-clause-behind : goal.returns-in-empty-clause-behind
returns-in-empty-clause-behind c =
    let p = is_byte c.args.byte in
    sym (nothing_after p c.args.text.now (none_found p c.args.text.now c.offset_of.result c.offset_of.ensures
    (omega (arith, c.split_at.ensures.back_len))))

pub returns-in-len1-up-clause-behind : goal.returns-in-len1-up-clause-behind
returns-in-len1-up-clause-behind c =
    behind_is (is_byte c.args.byte) c.args.text.now c.offset_of.result _ c.offset_of.ensures c.split_at.ensures.back
