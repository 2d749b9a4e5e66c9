use Rattle.std.proofs.Common.{[], false, true, refl, sym, ap, ◌∙◌, subst}
use Rattle.std.proofs.lemmas.Result.{err_from_is_err_and}
use Rattle.fs_ports.proofs.Sides.{reads_nothing}
use Rattle.fs_frame.specs.Stream.{Stream}
use Rattle.fs_frame.specs.Next.{HandsOut, bytes_of}
use Rattle.fs_book.proofs.Lists.{prefix_self}
use Rattle.fs_conn.specs.Play.{noted}
use Rattle.fs_conn.specs.Playing.{seen, play_of, so_far}
use Rattle.fs_conn.proofs.NoteLemmas.{notes_before, notes_stopped, adds_none, adds_then, stopped_adds, stopped_then}
use Rattle.fs_conn.proofs.SendLemmas.{seen_over, only_same, writing_none, writes_first}
use Rattle.fs_conn.proofs.HereLemmas.{here_commanded}
use Rattle.fs_conn.proofs.HeldLemmas.{held_behind}
use Rattle.fs_conn.proofs.TurnLemmas.{is_reading, stops_filling, stops_command, stops_following, goes_on_behind, goes_on_fed}
use Rattle.fs_conn.proofs.TurnLemmas.{ends_by_farewell, ends_between, reads_failed, falls_behind, falls_fed}
use Rattle.fs_conn.proofs.playing.Play.take_turn.Goals as goal

pub returns-in-Some-clause-turns : goal.returns-in-Some-clause-turns
returns-in-Some-clause-turns g c =
    λ notes are start stands. ends_by_farewell notes start (seen c.args.self.now) c.in-Some.end _ stands c.sound.ensures.state.owed
    (sym c.farewell.ensures ∙ c.in-Some.is)

pub returns-in_err-command-in-Block-clause-turns : goal.returns-in_err-command-in-Block-clause-turns
returns-in_err-command-in-Block-clause-turns g c =
    let p = err_from_is_err_and c.from_residual.result c.from_residual.ensures.1 in
    let reading =
    is_reading (so_far (seen c.args.self.now)) _ c.sound.ensures.state.owed c.requires.here c.requires.free c.farewell.ensures
    c.in_default.not-Some in
    let did = rw c.bytes.ensures at c.in_err-command-in-Block.ensures in
    let block = bytes_of c.in-Block.block in
    let hands_out =
    subst (λ (s : Stream). HandsOut c.args.blocks.now s block) (sym c.next_block.follows.holds-at-none) c.in-Block.ensures.answer in
    λ notes are start stands. rw (p.1, p.2)
    (stops_command notes start (seen c.args.self.now) (seen c.command.new.self) _ _ _ block stands hands_out reading.takes
    (did.does notes are) did.output did.only did.unwritten)

pub returns-in_err-follow-in-Block-clause-turns : goal.returns-in_err-follow-in-Block-clause-turns
returns-in_err-follow-in-Block-clause-turns g c =
    let p = err_from_is_err_and c.from_residual-in_err-follow-in-Block.result c.from_residual-in_err-follow-in-Block.ensures.1 in
    let reading =
    is_reading (so_far (seen c.args.self.now)) _ c.sound.ensures.state.owed c.requires.here c.requires.free c.farewell.ensures
    c.in_default.not-Some in
    let did = rw c.bytes.ensures at c.in_ok-command-in-Block.ensures in
    let block = bytes_of c.in-Block.block in
    let hands_out =
    subst (λ (s : Stream). HandsOut c.args.blocks.now s block) (sym c.next_block.follows.holds-at-none) c.in-Block.ensures.answer in
    λ notes are start stands.
    let before =
    notes_stopped _ _ c.in_err-follow-in-Block.field-0.0 (seen c.command.new.self) (seen c.follow.new.self) notes
    c.in_err-follow-in-Block.ensures.loads are in
    rw (p.1, p.2)
    (stops_following notes start (seen c.args.self.now) (seen c.command.new.self) (seen c.follow.new.self) _ _ _ block stands hands_out
    reading.takes (did.does notes before) did.output did.only
    (c.in_err-follow-in-Block.ensures.does notes are) c.in_err-follow-in-Block.ensures.sends c.follow.ensures.reads)

pub returns-in_err-fill-in-NeedMore-clause-turns : goal.returns-in_err-fill-in-NeedMore-clause-turns
returns-in_err-fill-in-NeedMore-clause-turns g c =
    let p = err_from_is_err_and c.from_residual-in_err-fill-in-NeedMore.result c.from_residual-in_err-fill-in-NeedMore.ensures.1 in
    let did = c.in_err-fill-in-NeedMore.ensures in
    let answer = c.in-NeedMore.ensures.answer in
    λ notes are start stands. rw (p.1, p.2)
    (stops_filling notes start (seen c.args.self.now) (seen_over c.args.self.now c.fill.new.self) _ _ _ _ stands answer.0.no_block did.fills
    did.writes refl)

pub returns-in_ok-follow-in-Block-clause-turns : goal.returns-in_ok-follow-in-Block-clause-turns
returns-in_ok-follow-in-Block-clause-turns g c =
    let reading =
    is_reading (so_far (seen c.args.self.now)) _ c.sound.ensures.state.owed c.requires.here c.requires.free c.farewell.ensures
    c.in_default.not-Some in
    let did = rw c.bytes.ensures at c.in_ok-command-in-Block.ensures in
    let block = bytes_of c.in-Block.block in
    let hands_out =
    subst (λ (s : Stream). HandsOut c.args.blocks.now s block) (sym c.next_block.follows.holds-at-none) c.in-Block.ensures.answer in
    let later = c.in_ok-follow-in-Block.ensures in
    λ notes are start stands.
    let before = notes_before (seen c.command.new.self) (seen c.follow.new.self) later.loads.entries notes later.loads.more are in
    goes_on_behind notes start (seen c.args.self.now) (seen c.command.new.self) (seen c.follow.new.self) _ _ block stands
    hands_out reading.takes (did.does notes before) did.output did.only (later.does notes are) later.sends c.follow.ensures.reads

pub returns-in_ok-follow-in-Block-clause-falls : goal.returns-in_ok-follow-in-Block-clause-falls
returns-in_ok-follow-in-Block-clause-falls g c =
    let did = rw c.bytes.ensures at c.in_ok-command-in-Block.ensures in
    let later = c.in_ok-follow-in-Block.ensures in
    let notes = noted c.follow.new.self.machine.now.journal in
    let before =
    notes_before (seen c.command.new.self) (seen c.follow.new.self) later.loads.entries notes later.loads.more (prefix_self notes) in
    falls_behind notes (play_of notes (seen c.args.self.now)) (play_of notes (seen c.command.new.self)) (play_of notes (seen c.follow.new.self))
    c.args.blocks.now c.next_block.follows.lender-at-none
    _ (did.does notes before) (later.does notes (prefix_self notes)) (record { more = did.costs.more; free = did.costs.free }) c.follow.ensures.spent

pub returns-in-More-clause-turns : goal.returns-in-More-clause-turns
returns-in-More-clause-turns g c =
    let did = rw c.in-More.is at c.in_ok-fill-in-NeedMore.ensures in
    let answer = c.in-NeedMore.ensures.answer in
    let same = ap (λ s. s.rest) c.next_block.follows.holds-at-none ∙ answer.0.rest in
    λ notes are start stands. goes_on_fed notes start (seen c.args.self.now) (seen_over c.args.self.now c.fill.new.self) _
    c.next_block.follows.lender-at-none _ stands answer.0.no_block same did.fills did.writes refl

pub returns-in-More-clause-falls : goal.returns-in-More-clause-falls
returns-in-More-clause-falls g c =
    let fills = rw c.in-More.is at c.in_ok-fill-in-NeedMore.ensures.fills in
    let answer = c.in-NeedMore.ensures.answer in
    let same = ap (λ s. s.rest) c.next_block.follows.holds-at-none ∙ answer.0.rest in
    rw fills.5
    (falls_fed [] (so_far (seen c.args.self.now)) c.args.blocks.now c.next_block.follows.lender-at-none fills.0 answer.0.no_block
    answer.1 same fills.1)

pub returns-in-AtEnd-clause-turns : goal.returns-in-AtEnd-clause-turns
returns-in-AtEnd-clause-turns g c =
    let reading =
    is_reading (so_far (seen c.args.self.now)) _ c.sound.ensures.state.owed c.requires.here c.requires.free c.farewell.ensures
    c.in_default.not-Some in
    let fills = rw c.in-AtEnd.is at c.in_ok-fill-in-NeedMore.ensures.fills in
    let answer = c.in-NeedMore.ensures.answer in
    let writes = c.in_ok-fill-in-NeedMore.ensures.writes in
    let old = seen c.args.self.now in
    let new = seen_over c.args.self.now c.fill.new.self in
    λ notes are start stands. ends_between notes start old new _ _ false stands answer.0.no_block reading.none
    (rw fills.1 (reads_nothing old.input)) (ap (λ i. i.faults) fills.1)
    (writes_first old new refl writes.0 writes.1) refl (rw answer.1 refl) refl (λ is_eof. fills.0)

pub returns-in-ReadFailed-clause-turns : goal.returns-in-ReadFailed-clause-turns
returns-in-ReadFailed-clause-turns g c =
    let reading =
    is_reading (so_far (seen c.args.self.now)) _ c.sound.ensures.state.owed c.requires.here c.requires.free c.farewell.ensures
    c.in_default.not-Some in
    let fills = rw c.in-ReadFailed.is at c.in_ok-fill-in-NeedMore.ensures.fills in
    let answer = c.in-NeedMore.ensures.answer in
    let writes = c.in_ok-fill-in-NeedMore.ensures.writes in
    let old = seen c.args.self.now in
    let new = seen_over c.args.self.now c.fill.new.self in
    λ notes are start stands. ends_between notes start old new _ _ true stands answer.0.no_block reading.none
    (rw fills.0 (reads_failed notes old.input)) (ap (λ i. i.faults) fills.0)
    (writes_first old new refl writes.0 writes.1) refl (rw answer.1 refl) refl (λ is_eof. absurd (cc))

pub returns-in-TooLong-clause-turns : goal.returns-in-TooLong-clause-turns
returns-in-TooLong-clause-turns g c =
    let reading =
    is_reading (so_far (seen c.args.self.now)) _ c.sound.ensures.state.owed c.requires.here c.requires.free c.farewell.ensures
    c.in_default.not-Some in
    let answer = c.in-TooLong.ensures.answer in
    let now = seen c.args.self.now in
    λ notes are start stands. ends_between notes start now now _ _ false stands answer.0.no_block reading.none (reads_nothing _) refl
    (writing_none now now refl (only_same now)) refl (rw answer.1 refl) refl (λ is_eof. absurd (cc))

pub returns-in-BadLength-clause-turns : goal.returns-in-BadLength-clause-turns
returns-in-BadLength-clause-turns g c =
    let reading =
    is_reading (so_far (seen c.args.self.now)) _ c.sound.ensures.state.owed c.requires.here c.requires.free c.farewell.ensures
    c.in_default.not-Some in
    let answer = c.in-BadLength.ensures.answer in
    let now = seen c.args.self.now in
    λ notes are start stands. ends_between notes start now now _ _ false stands answer.0.no_block reading.none (reads_nothing _) refl
    (writing_none now now refl (only_same now)) refl (rw answer.1 refl) refl (λ is_eof. absurd (cc))

pub command-requires-clause-reads : goal.command-requires-clause-reads
command-requires-clause-reads g c =
    λ lifetimes lives. (is_reading (so_far (seen c.args.self.now)) _ c.sound.ensures.state.owed c.requires.here c.requires.free
    c.farewell.ensures c.in_default.not-Some).reads

pub returns-in_ok-follow-in-Block-clause-here : goal.returns-in_ok-follow-in-Block-clause-here
returns-in_ok-follow-in-Block-clause-here g c =
    let did = c.in_ok-command-in-Block.ensures in
    let later = c.in_ok-follow-in-Block.ensures in
    let notes = noted c.follow.new.self.machine.now.journal in
    let before =
    notes_before (seen c.command.new.self) (seen c.follow.new.self) later.loads.entries notes later.loads.more (prefix_self notes) in
    here_commanded (play_of notes (seen c.args.self.now)) (play_of notes (seen c.command.new.self)) (play_of notes (seen c.follow.new.self))
    c.bytes.result.now c.requires.here (did.does notes before) (later.does notes (prefix_self notes)) refl

pub returns-in_err-command-in-Block-clause-loads : goal.returns-in_err-command-in-Block-clause-loads
returns-in_err-command-in-Block-clause-loads g c =
    let p = err_from_is_err_and c.from_residual.result c.from_residual.ensures.1 in
    rw (p.1, p.2) c.in_err-command-in-Block.ensures.loads

pub returns-in_err-follow-in-Block-clause-loads : goal.returns-in_err-follow-in-Block-clause-loads
returns-in_err-follow-in-Block-clause-loads g c =
    let p = err_from_is_err_and c.from_residual-in_err-follow-in-Block.result c.from_residual-in_err-follow-in-Block.ensures.1 in
    rw (p.1, p.2)
    (stopped_then _ c.in_err-follow-in-Block.field-0.0 (seen c.args.self.now) (seen c.command.new.self) (seen c.follow.new.self)
    c.in_ok-command-in-Block.ensures.loads c.in_err-follow-in-Block.ensures.loads)

pub returns-in_err-fill-in-NeedMore-clause-loads : goal.returns-in_err-fill-in-NeedMore-clause-loads
returns-in_err-fill-in-NeedMore-clause-loads g c =
    let p = err_from_is_err_and c.from_residual-in_err-fill-in-NeedMore.result c.from_residual-in_err-fill-in-NeedMore.ensures.1 in
    rw (p.1, p.2)
    (stopped_adds c.in_err-fill-in-NeedMore.field-0.0 (seen c.args.self.now) (seen_over c.args.self.now c.fill.new.self)
    (adds_none _ _ refl))

pub returns-in_ok-follow-in-Block-clause-loads : goal.returns-in_ok-follow-in-Block-clause-loads
returns-in_ok-follow-in-Block-clause-loads g c =
    adds_then _ _ _ c.in_ok-command-in-Block.ensures.loads c.in_ok-follow-in-Block.ensures.loads

pub returns-in-Some-clause-loads : goal.returns-in-Some-clause-loads
returns-in-Some-clause-loads g c = adds_none _ _ refl

pub returns-in-More-clause-loads : goal.returns-in-More-clause-loads
returns-in-More-clause-loads g c = adds_none _ _ refl

pub returns-in-AtEnd-clause-loads : goal.returns-in-AtEnd-clause-loads
returns-in-AtEnd-clause-loads g c = adds_none _ _ refl

pub returns-in-ReadFailed-clause-loads : goal.returns-in-ReadFailed-clause-loads
returns-in-ReadFailed-clause-loads g c = adds_none _ _ refl

pub returns-in-TooLong-clause-loads : goal.returns-in-TooLong-clause-loads
returns-in-TooLong-clause-loads g c = adds_none _ _ refl

pub returns-in-BadLength-clause-loads : goal.returns-in-BadLength-clause-loads
returns-in-BadLength-clause-loads g c = adds_none _ _ refl

pub returns-in_err-command-in-Block-clause-little : goal.returns-in_err-command-in-Block-clause-little
returns-in_err-command-in-Block-clause-little g c =
    let block = bytes_of c.in-Block.block in
    held_behind c.args.blocks.now _ block
    (subst (λ (s : Stream). HandsOut c.args.blocks.now s block) (sym c.next_block.follows.holds-at-none) c.in-Block.ensures.answer)
    c.requires.little

pub returns-in_err-follow-in-Block-clause-little : goal.returns-in_err-follow-in-Block-clause-little
returns-in_err-follow-in-Block-clause-little g c =
    let block = bytes_of c.in-Block.block in
    held_behind c.args.blocks.now _ block
    (subst (λ (s : Stream). HandsOut c.args.blocks.now s block) (sym c.next_block.follows.holds-at-none) c.in-Block.ensures.answer)
    c.requires.little

pub returns-in_ok-follow-in-Block-clause-little : goal.returns-in_ok-follow-in-Block-clause-little
returns-in_ok-follow-in-Block-clause-little g c =
    let block = bytes_of c.in-Block.block in
    held_behind c.args.blocks.now _ block
    (subst (λ (s : Stream). HandsOut c.args.blocks.now s block) (sym c.next_block.follows.holds-at-none) c.in-Block.ensures.answer)
    c.requires.little
