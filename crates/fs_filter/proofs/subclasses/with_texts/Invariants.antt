use Rattle.std.proofs.Common.{◌≡◌, drop}
use Rattle.fs_filter.specs.Asked.{texts}
use Rattle.fs_filter.specs.Subscriptions.{with_texts}
use Rattle.fs_filter.proofs.subclasses.with_texts.Given as goal

-- the texts so far with those that are left are the whole
abbrev pub invariant-loop-text : goal.invariant-loop-text
invariant-loop-text l = with_texts l.all (texts (drop l.text-index l.others)) ≡ with_texts l.fn.known (texts l.fn.others)
