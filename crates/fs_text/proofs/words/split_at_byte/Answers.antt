use Rattle.std.proofs.Common.{arith}
use Rattle.fs_text.specs.Words.{is_byte}
use Rattle.fs_text.proofs.Cuts.{offset_within, no_halves, halves_are}
use Rattle.fs_text.proofs.words.split_at_byte.Goals as goal

pub split_at-requires : goal.split_at-requires
split_at-requires c = omega (arith, c.offset_of.ensures, offset_within (is_byte c.args.byte) c.args.text.now)

pub returns-in-empty-clause-halves : goal.returns-in-empty-clause-halves
returns-in-empty-clause-halves c =
    no_halves c.args.byte c.args.text.now c.offset_of.result c.offset_of.ensures (omega (arith, c.split_at.ensures.back_len))

pub returns-in-len1-up-clause-halves : goal.returns-in-len1-up-clause-halves
returns-in-len1-up-clause-halves c =
    halves_are c.args.byte c.args.text.now c.offset_of.result _ _ c.offset_of.ensures
    (omega (arith, c.split_at.ensures.back_len)) c.split_at.ensures.front c.split_at.ensures.back
