use mathlib.Core.List.{IsPrefix}
use Rattle.fs_book.specs.Passes.{seen, IsPassOf, KeepsLists}
use Rattle.fs_machine.specs.Turned.{configured}
use Rattle.fs_top.proofs.ending.settle.Given as goal

abbrev pub invariant-looks : goal.invariant-looks
invariant-looks g l = record {
  book : IsPassOf configured l.fn.book l.pass;
  kept : KeepsLists l.fn.pass l.pass;
  later : IsPrefix (seen l.fn.pass) (seen l.pass);
}
