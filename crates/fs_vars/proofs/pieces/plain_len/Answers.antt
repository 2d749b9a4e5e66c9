use Rattle.std.proofs.Common.{◌+◌, ap, ◌∙◌, arith, drop, length-drop}
use Rattle.std.specs.List.{position_or_len}
use Rattle.std.proofs.lemmas.List.{take_rest}
use Rattle.memchr.specs.Find.{is_byte2}
use Rattle.fs_text.proofs.Offsets.{first_is}
use Rattle.fs_text.proofs.Cuts.{offset_within}
use Rattle.fs_vars.proofs.pieces.plain_len.Goals as goal

pub returns : goal.returns
returns c =
    let offset = c.unwrap_or.ensures ∙ first_is (is_byte2 36 92) _ c.memchr2.result c.memchr2.ensures in
    let plain = ap (λ n. 1 + n) (offset ∙ ap (position_or_len (is_byte2 36 92)) (take_rest c.args.text.now 1)) in
    record {
      plain = plain;
      within = omega (arith, plain, offset_within (is_byte2 36 92) (drop 1 c.args.text.now), length-drop 1 c.args.text.now);
    }
