use Rattle.std.proofs.Common.{refl, sym, ◌∙◌}
use Rattle.fs_book.specs.Passes.{seen}
use Rattle.fs_book.proofs.Lists.{prefix_self, prefix_trans}
use Rattle.fs_top.proofs.ending.settle.Goals as goal

pub looks-init : goal.looks-init
looks-init g c = record {
  book = c.requires.book;
  kept = (refl, refl, refl);
  later = prefix_self (seen c.args.pass.now);
}

pub looks-preserved : goal.looks-preserved
looks-preserved g c =
    let kept = c.look.ensures.kept in
    let before = c.looks.invariant.kept in record {
      book = c.look.ensures.book;
      kept = (kept.0 ∙ before.0, kept.1 ∙ before.1, kept.2 ∙ before.2);
      later = prefix_trans (seen c.args.pass.now) (seen c.looks.pass) (seen c.look.new.pass) c.looks.invariant.later c.look.ensures.later;
    }

pub returns-then-look-clause-later : goal.returns-then-look-clause-later
returns-then-look-clause-later g c =
    prefix_trans (seen c.args.pass.now) (seen c.looks.pass) (seen c.look.new.pass) c.looks.invariant.later c.look.ensures.later

pub returns-then-look-clause-settled : goal.returns-then-look-clause-settled
returns-then-look-clause-settled g c = sym c.look.ensures.answer.is ∙ c.if-look.true
