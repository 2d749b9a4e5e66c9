-- An output that takes the pieces of a text one after another.
use Rattle.std.proofs.Common.{◌≡◌, ◌++◌, [], sym, ap, ◌∙◌, subst}
use Rattle.std.proofs.lemmas.List.{append-nil}
use Rattle.fs_text.specs.Texts.{Text}
use Rattle.fs_vars.specs.declared.output.Output.{Output}
use Rattle.fs_vars.specs.Pairs.{Pairs}
use Rattle.fs_vars.specs.Expansion.{expanded}
use Rattle.fs_vars.specs.Pieces.{Left}
use Rattle.fs_vars.specs.Outputs.{Holds}
use Rattle.fs_vars.proofs.ExpansionLemmas.{expanded-nothing}

-- the output holds what the text is expanded to, up to what is left
pub record Expands (known : Pairs) (text : Text) (left : Left) (output : Output) : Type 0 where
  pub done : Text
  pub whole : expanded known text ≡ done ++ expanded left.known left.text
  pub holds : Holds output done

-- once no text is left, the output holds the whole
pub expands_all : (known : Pairs) (text : Text) (left : Left) (output : Output) → Expands known text left output → left.text ≡ [] →
    Holds output (expanded known text)
expands_all known text left output so_far nothing =
    let whole =
    so_far.whole ∙ ap (λ rest. so_far.done ++ expanded left.known rest) nothing
    ∙ ap (λ rest. so_far.done ++ rest) (expanded-nothing left.known) ∙ append-nil so_far.done in
    subst (Holds output) (sym whole) so_far.holds
