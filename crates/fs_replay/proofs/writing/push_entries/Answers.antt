use Rattle.std.proofs.Common.{◌++◌, ap, ◌∙◌, sym, arith}
use Rattle.std.proofs.lemmas.List.{append-nil, take_all}
use Rattle.fs_replay.specs.Texts.{entries_text}
use Rattle.fs_replay.proofs.Writings.{entries_pushed}
use Rattle.fs_replay.proofs.writing.push_entries.Goals as goal

pub loop-entry-init : goal.loop-entry-init
unfolding entries_text
loop-entry-init c = sym (append-nil c.args.out.now.items)

pub loop-entry-preserved : goal.loop-entry-preserved
loop-entry-preserved c = entries_pushed c.args.entries.now c.loop-entry.entry-index _ c.args.out.now.items _ _ (omega arith) c.entry-item.is c.loop-entry.invariant c.in_ok-push_entry.ensures

pub returns : goal.returns
returns c = c.loop-entry.invariant ∙ ap (λ l. c.args.out.now.items ++ entries_text l) (take_all _ _ (omega arith))
