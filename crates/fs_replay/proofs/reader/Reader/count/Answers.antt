use Rattle.std.proofs.Common.{refl}
use Rattle.fs_replay.specs.Reading.{count_at}
use Rattle.fs_replay.proofs.reader.Reader.count.Goals as goal

pub returns-then-not-word : goal.returns-then-not-word
unfolding count_at
returns-then-not-word c = rw (← c.if-not-word.ensures.found) refl

pub returns-in_err-count : goal.returns-in_err-count
unfolding count_at
returns-in_err-count c = rw (c.from_residual.ensures, ← c.if-not-word.ensures.found, ← c.if-not-word.ensures.left, c.in_err-count.ensures) refl

pub returns-then-word : goal.returns-then-word
unfolding count_at
returns-then-word c = rw (← c.if-not-word.ensures.found, ← c.if-not-word.ensures.left, c.in_ok-count.ensures, ← c.if-word.ensures.found, c.if-word.ensures.left) refl

pub returns-else-word : goal.returns-else-word
unfolding count_at
returns-else-word c = rw (← c.if-not-word.ensures.found, ← c.if-not-word.ensures.left, c.in_ok-count.ensures, ← c.if-word.ensures.found) refl
