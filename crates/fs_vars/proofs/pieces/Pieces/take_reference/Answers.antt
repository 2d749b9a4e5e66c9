use Rattle.std.proofs.Common.{◌-◌, sym, ap, ◌∙◌, subst, arith, take, drop, Bor}
use Rattle.fs_text.specs.Texts.{Text}
use Rattle.fs_vars.specs.Expansion.{value_asked}
use Rattle.fs_vars.specs.Pieces.{Left, TakesPiece}
use Rattle.fs_vars.proofs.ExpansionLemmas.{reference_taken, reference_within, meaning_is}
use Rattle.fs_vars.proofs.pieces.Pieces.take_reference.Goals as goal

pub take-whole-requires : goal.take-whole-requires
take-whole-requires c = omega (arith, c.requires.len, reference_within c.args.self.now.text c.requires.front)

pub returns : goal.returns
returns c =
    let old = c.args.self.now in
    let known = ap (λ (s : Left). s.known) (c.self.view_is ∙ c.take-whole.ensures.rest) in
    let inside = take (c.args.len - 1 - 2) (drop 2 c.take-whole.result.now) in
    let given = c.value_asked.ensures ∙ ap (λ k. value_asked k inside) known in
    let meant =
    meaning_is old.known old.text c.args.len c.value_asked.result c.take-whole.result c.requires.front c.requires.len
    c.take-whole.ensures.front given in
    let bytes = ap (λ (b : Bor Text). b.now) c.unwrap_or.ensures ∙ meant in
    subst (λ piece. TakesPiece old piece c.take-whole.new.self) (sym bytes)
    (reference_taken old c.take-whole.new.self c.args.len c.requires.len c.take-whole.ensures.rest c.requires.front)
