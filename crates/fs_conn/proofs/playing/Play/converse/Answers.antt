use Rattle.std.proofs.Common.{refl, ◌∙◌}
use Rattle.std.proofs.lemmas.Result.{err_from_is_err_and}
use Rattle.fs_book.proofs.Lists.{prefix_self}
use Rattle.fs_conn.specs.Play.{noted}
use Rattle.fs_conn.specs.Playing.{seen, play_of}
use Rattle.fs_conn.proofs.NoteLemmas.{notes_before, notes_stopped, adds_then, adds_or_begins, stopped_then}
use Rattle.fs_conn.proofs.HereLemmas.{here_followed}
use Rattle.fs_conn.proofs.TurnLemmas.{stands_first, concludes, stops_closing, stops_coming, came, stops_opening, stops_opened}
use Rattle.fs_conn.proofs.HeldLemmas.{held_new}
use Rattle.fs_conn.proofs.playing.Play.converse.Goals as goal

pub returns-in_err-arrive-clause-converses : goal.returns-in_err-arrive-clause-converses
returns-in_err-arrive-clause-converses g c =
    let p = err_from_is_err_and c.from_residual.result c.from_residual.ensures.1 in
    let did = c.in_err-arrive.ensures in
    λ notes are. rw (p.1, p.2)
    (stops_coming notes (seen c.args.self.now) (seen c.arrive.new.self) _ c.requires.new (did.does notes are) did.output did.only
    did.unwritten)

pub returns-in_err-follow-clause-converses : goal.returns-in_err-follow-clause-converses
returns-in_err-follow-clause-converses g c =
    let p = err_from_is_err_and c.from_residual-in_err-follow.result c.from_residual-in_err-follow.ensures.1 in
    let did = c.in_ok-arrive.ensures in
    λ notes are.
    let before =
    notes_stopped _ _ c.in_err-follow.field-0.0 (seen c.arrive.new.self) (seen c.follow.new.self) notes c.in_err-follow.ensures.loads are in
    let comes = came notes (seen c.args.self.now) (seen c.arrive.new.self) c.requires.new (did.does notes before) did.output did.only in
    rw (p.1, p.2)
    (stops_opening notes (seen c.args.self.now) (seen c.arrive.new.self) (seen c.follow.new.self) _ comes
    (c.in_err-follow.ensures.does notes are) c.in_err-follow.ensures.sends c.follow.ensures.reads)

pub returns-in_err-blocks-clause-converses : goal.returns-in_err-blocks-clause-converses
returns-in_err-blocks-clause-converses g c =
    let p = err_from_is_err_and c.from_residual-in_err-blocks.result c.from_residual-in_err-blocks.ensures.1 in
    let did = c.in_ok-arrive.ensures in
    let later = c.in_ok-follow.ensures in
    λ notes are.
    let before = notes_before (seen c.arrive.new.self) (seen c.follow.new.self) later.loads.entries notes later.loads.more are in
    let comes = came notes (seen c.args.self.now) (seen c.arrive.new.self) c.requires.new (did.does notes before) did.output did.only in
    rw (p.1, p.2)
    (stops_opened notes (seen c.args.self.now) (seen c.arrive.new.self) (seen c.follow.new.self) comes (later.does notes are)
    later.sends c.follow.ensures.reads)

pub loop-blocks-init : goal.loop-blocks-init
loop-blocks-init g c =
    let did = c.in_ok-arrive.ensures in
    let later = c.in_ok-follow.ensures in
    let mid = seen c.arrive.new.self in
    let now = seen c.follow.new.self in
    let own = noted c.follow.new.self.machine.now.journal in record {
      waits = rw (c.follow.ensures.reads.input, did.only.input) c.requires.waits;
      stands = λ notes are.
          let before = notes_before mid now later.loads.entries notes later.loads.more are in
          let comes = came notes (seen c.args.self.now) mid c.requires.new (did.does notes before) did.output did.only in
          stands_first notes (seen c.args.self.now) mid now _ comes (later.does notes are) later.sends
          c.follow.ensures.reads c.in_ok-blocks.ensures;
      here = here_followed (play_of own mid) (play_of own now) did.here (later.does own (prefix_self own)) refl;
      free = c.in_ok-follow.ensures.free;
      adds = adds_then _ _ _ did.loads later.loads;
      lent = c.follow.ensures.reads.lent ∙ did.only.lent;
      little = held_new _ c.in_ok-blocks.ensures;
    }

pub loop-blocks-preserved : goal.loop-blocks-preserved
loop-blocks-preserved g c =
    let did = rw c.in-GoOn.is at c.in_ok-take_turn.ensures in record {
      waits = rw did.waits c.loop-blocks.invariant.waits;
      stands = λ notes are.
          let before = notes_before (seen c.loop-blocks.self) (seen c.take_turn.new.self) did.loads.entries notes did.loads.more are in
          did.turns notes are (seen c.args.self.now) (c.loop-blocks.invariant.stands notes before);
      here = did.here;
      free = did.free;
      adds = adds_then _ _ _ c.loop-blocks.invariant.adds did.loads;
      lent = did.lent ∙ c.loop-blocks.invariant.lent;
      little = c.take_turn.ensures.little;
    }

pub returns-in_err-take_turn-clause-converses : goal.returns-in_err-take_turn-clause-converses
returns-in_err-take_turn-clause-converses g c =
    let p = err_from_is_err_and c.from_residual-in_err-take_turn.result c.from_residual-in_err-take_turn.ensures.1 in
    let did = c.in_err-take_turn.ensures in
    λ notes are.
    let before =
    notes_stopped _ _ c.in_err-take_turn.field-0.0 (seen c.loop-blocks.self) (seen c.take_turn.new.self) notes did.loads are in
    rw (p.1, p.2) (did.turns notes are (seen c.args.self.now) (c.loop-blocks.invariant.stands notes before))

pub returns-in_err-finish-in-Done-clause-converses : goal.returns-in_err-finish-in-Done-clause-converses
returns-in_err-finish-in-Done-clause-converses g c =
    let p = err_from_is_err_and c.from_residual-in_err-finish-in-Done.result c.from_residual-in_err-finish-in-Done.ensures.1 in
    let turn = rw c.in-Done.is at c.in_ok-take_turn.ensures in
    let did = c.in_err-finish-in-Done.ensures in
    λ notes are.
    let before =
    notes_stopped _ _ c.in_err-finish-in-Done.field-0.0 (seen c.take_turn.new.self) (seen c.finish.new.self) notes did.loads are in
    let first = notes_before (seen c.loop-blocks.self) (seen c.take_turn.new.self) turn.loads.entries notes turn.loads.more before in
    rw (p.1, p.2)
    (stops_closing notes (seen c.args.self.now) (seen c.take_turn.new.self) (seen c.finish.new.self) c.in-Done.end
    c.in_err-finish-in-Done.field-0.0 (turn.turns notes before (seen c.args.self.now) (c.loop-blocks.invariant.stands notes first))
    (did.does notes are) (did.sends notes are) c.finish.ensures.reads)

pub returns-in-Done-clause-converses : goal.returns-in-Done-clause-converses
returns-in-Done-clause-converses g c =
    let turn = rw c.in-Done.is at c.in_ok-take_turn.ensures in
    let did = c.in_ok-finish-in-Done.ensures in
    λ notes are.
    let before = notes_before (seen c.take_turn.new.self) (seen c.finish.new.self) did.loads.entries notes did.loads.more are in
    let first = notes_before (seen c.loop-blocks.self) (seen c.take_turn.new.self) turn.loads.entries notes turn.loads.more before in
    concludes notes (seen c.args.self.now) (seen c.take_turn.new.self) (seen c.finish.new.self) c.in-Done.end
    (turn.turns notes before (seen c.args.self.now) (c.loop-blocks.invariant.stands notes first)) (did.does notes are) (did.sends notes are)
    c.finish.ensures.reads did.all

pub returns-in_err-arrive-clause-loads : goal.returns-in_err-arrive-clause-loads
returns-in_err-arrive-clause-loads g c =
    let p = err_from_is_err_and c.from_residual.result c.from_residual.ensures.1 in rw (p.1, p.2) c.in_err-arrive.ensures.loads

pub returns-in_err-follow-clause-loads : goal.returns-in_err-follow-clause-loads
returns-in_err-follow-clause-loads g c =
    let p = err_from_is_err_and c.from_residual-in_err-follow.result c.from_residual-in_err-follow.ensures.1 in
    rw (p.1, p.2)
    (stopped_then _ c.in_err-follow.field-0.0 (seen c.args.self.now) (seen c.arrive.new.self) (seen c.follow.new.self)
    c.in_ok-arrive.ensures.loads c.in_err-follow.ensures.loads)

pub returns-in_err-blocks-clause-loads : goal.returns-in_err-blocks-clause-loads
returns-in_err-blocks-clause-loads g c =
    let p = err_from_is_err_and c.from_residual-in_err-blocks.result c.from_residual-in_err-blocks.ensures.1 in
    rw (p.1, p.2)
    (adds_or_begins (seen c.args.self.now) (seen c.follow.new.self)
    (adds_then _ _ _ c.in_ok-arrive.ensures.loads c.in_ok-follow.ensures.loads))

pub returns-in_err-take_turn-clause-loads : goal.returns-in_err-take_turn-clause-loads
returns-in_err-take_turn-clause-loads g c =
    let p = err_from_is_err_and c.from_residual-in_err-take_turn.result c.from_residual-in_err-take_turn.ensures.1 in
    rw (p.1, p.2)
    (stopped_then _ c.in_err-take_turn.field-0.0 (seen c.args.self.now) (seen c.loop-blocks.self) (seen c.take_turn.new.self)
    c.loop-blocks.invariant.adds c.in_err-take_turn.ensures.loads)

pub returns-in_err-finish-in-Done-clause-loads : goal.returns-in_err-finish-in-Done-clause-loads
returns-in_err-finish-in-Done-clause-loads g c =
    let p = err_from_is_err_and c.from_residual-in_err-finish-in-Done.result c.from_residual-in_err-finish-in-Done.ensures.1 in
    let turn = rw c.in-Done.is at c.in_ok-take_turn.ensures in
    rw (p.1, p.2)
    (stopped_then _ c.in_err-finish-in-Done.field-0.0 (seen c.args.self.now) (seen c.take_turn.new.self) (seen c.finish.new.self)
    (adds_then _ _ _ c.loop-blocks.invariant.adds turn.loads) c.in_err-finish-in-Done.ensures.loads)

pub returns-in-Done-clause-loads : goal.returns-in-Done-clause-loads
returns-in-Done-clause-loads g c =
    let turn = rw c.in-Done.is at c.in_ok-take_turn.ensures in
    adds_then _ _ _ (adds_then _ _ _ c.loop-blocks.invariant.adds turn.loads) c.in_ok-finish-in-Done.ensures.loads
