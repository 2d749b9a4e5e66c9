use Rattle.std.proofs.Common.{◌+◌, length, drop, ap, ◌∙◌, arith}
use Rattle.std.specs.List.{position_or_len}
use Rattle.fs_vars.specs.Pieces.{Left}
use Rattle.fs_vars.proofs.ExpansionLemmas.{plain_taken, is_special}
use Rattle.fs_vars.proofs.pieces.Pieces.take_plain.Goals as goal

pub take-requires : goal.take-requires
take-requires c = omega (arith, c.plain_len-len.ensures.within, ap (λ (s : Left). length s.text) c.self.view_is)

pub returns : goal.returns
returns c =
    let len = c.plain_len-len.ensures.plain ∙ ap (λ (s : Left). 1 + position_or_len is_special (drop 1 s.text)) c.self.view_is in
    rw (c.take.ensures.front) (plain_taken c.args.self.now c.take.new.self c.plain_len-len.result len c.take.ensures.rest c.requires.text
    c.requires.no_escape c.requires.no_reference)
