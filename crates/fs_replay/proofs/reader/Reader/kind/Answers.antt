use Rattle.std.proofs.Common.{refl}
use Rattle.fs_replay.proofs.Mirrors.{kind_ready, kind_doc, kind_pattern, kind_large, kind_none}
use Rattle.fs_replay.proofs.reader.Reader.kind.Goals as goal

pub returns-then-word : goal.returns-then-word
returns-then-word c = kind_ready _ _ c.if-word.ensures.found c.if-word.ensures.left

pub returns-then-word-2 : goal.returns-then-word-2
returns-then-word-2 c = kind_doc _ _ _ c.if-word.ensures.found c.if-word.ensures.left c.if-word-2.ensures.found c.if-word-2.ensures.left

pub returns-in_err-spot : goal.returns-in_err-spot
returns-in_err-spot c =
    let read = kind_pattern _ _ _ _ c.if-word.ensures.found c.if-word.ensures.left c.if-word-2.ensures.found c.if-word-2.ensures.left
    c.if-word-3.ensures.found c.if-word-3.ensures.left in
    rw (c.from_residual.ensures, read, c.in_err-spot.ensures) refl

pub returns-in_ok-spot : goal.returns-in_ok-spot
returns-in_ok-spot c =
    let read = kind_pattern _ _ _ _ c.if-word.ensures.found c.if-word.ensures.left c.if-word-2.ensures.found c.if-word-2.ensures.left
    c.if-word-3.ensures.found c.if-word-3.ensures.left in
    rw (read, c.in_ok-spot.ensures) refl

pub returns-in_err-spot-2 : goal.returns-in_err-spot-2
returns-in_err-spot-2 c =
    let read = kind_large _ _ _ _ _ c.if-word.ensures.found c.if-word.ensures.left c.if-word-2.ensures.found c.if-word-2.ensures.left
    c.if-word-3.ensures.found c.if-word-3.ensures.left c.if-word-4.ensures.found c.if-word-4.ensures.left in
    rw (c.from_residual-in_err-spot-2.ensures, read, c.in_err-spot-2.ensures) refl

pub returns-in_ok-spot-2 : goal.returns-in_ok-spot-2
returns-in_ok-spot-2 c =
    let read = kind_large _ _ _ _ _ c.if-word.ensures.found c.if-word.ensures.left c.if-word-2.ensures.found c.if-word-2.ensures.left
    c.if-word-3.ensures.found c.if-word-3.ensures.left c.if-word-4.ensures.found c.if-word-4.ensures.left in
    rw (read, c.in_ok-spot-2.ensures) refl

pub returns-else-word-4 : goal.returns-else-word-4
returns-else-word-4 c =
    kind_none _ _ _ _ c.if-word.ensures.found c.if-word.ensures.left c.if-word-2.ensures.found c.if-word-2.ensures.left
    c.if-word-3.ensures.found c.if-word-3.ensures.left c.if-word-4.ensures.found
