use Rattle.fs_replay.proofs.Mirrors.{linked_first, linked_second, linked_none}
use Rattle.fs_replay.proofs.reader.Reader.linked.Goals as goal

pub returns-then-word : goal.returns-then-word
returns-then-word c = linked_first _ _ c.if-word.ensures.found c.if-word.ensures.left

pub returns-then-word-2 : goal.returns-then-word-2
returns-then-word-2 c = linked_second _ _ _ c.if-word.ensures.found c.if-word.ensures.left c.if-word-2.ensures.found c.if-word-2.ensures.left

pub returns-else-word-2 : goal.returns-else-word-2
returns-else-word-2 c = linked_none _ _ c.if-word.ensures.found c.if-word.ensures.left c.if-word-2.ensures.found
