use Rattle.fs_replay.proofs.Mirrors.{closing_first, closing_second, closing_third, closing_none}
use Rattle.fs_replay.proofs.reader.Reader.closing.Goals as goal

pub returns-then-word : goal.returns-then-word
returns-then-word c = closing_first _ _ c.if-word.ensures.found c.if-word.ensures.left

pub returns-then-word-2 : goal.returns-then-word-2
returns-then-word-2 c = closing_second _ _ _ c.if-word.ensures.found c.if-word.ensures.left c.if-word-2.ensures.found c.if-word-2.ensures.left

pub returns-then-word-3 : goal.returns-then-word-3
returns-then-word-3 c = closing_third _ _ _ _ c.if-word.ensures.found c.if-word.ensures.left c.if-word-2.ensures.found c.if-word-2.ensures.left c.if-word-3.ensures.found c.if-word-3.ensures.left

pub returns-else-word-3 : goal.returns-else-word-3
returns-else-word-3 c = closing_none _ _ _ c.if-word.ensures.found c.if-word.ensures.left c.if-word-2.ensures.found c.if-word-2.ensures.left c.if-word-3.ensures.found
