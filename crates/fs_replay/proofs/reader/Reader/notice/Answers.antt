use Rattle.std.proofs.Common.{refl}
use Rattle.fs_replay.specs.Reading.{notice_at}
use Rattle.fs_replay.proofs.reader.Reader.notice.Goals as goal

pub returns-in_err-kind : goal.returns-in_err-kind
unfolding notice_at
returns-in_err-kind c = rw (c.from_residual.ensures, c.in_err-kind.ensures) refl

pub returns-in_err-len : goal.returns-in_err-len
unfolding notice_at
returns-in_err-len c = rw (c.from_residual-in_err-len.ensures, c.in_ok-kind.ensures, c.in_err-len.ensures) refl

pub returns-then-word : goal.returns-then-word
unfolding notice_at
returns-then-word c = rw (c.in_ok-kind.ensures, c.in_ok-len.ensures, ← c.if-word.ensures.found, c.if-word.ensures.left) refl

pub returns-else-word : goal.returns-else-word
unfolding notice_at
returns-else-word c = rw (c.in_ok-kind.ensures, c.in_ok-len.ensures, ← c.if-word.ensures.found) refl
