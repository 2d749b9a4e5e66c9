use Rattle.std.proofs.Common.{◌∙◌}
use Rattle.fs_book.proofs.Lists.{prefix_self}
use Rattle.fs_conn.specs.Play.{noted}
use Rattle.fs_conn.specs.Playing.{seen}
use Rattle.fs_conn.proofs.NoteLemmas.{notes_still, ended_adds, loads_by}
use Rattle.fs_conn.proofs.EndLemmas.{config_concludes, plays_end, stops_config}
use Rattle.fs_conn.proofs.playing.Play.whole.Goals as goal

pub returns-in-Ok-clause-config : goal.returns-in-Ok-clause-config
returns-in-Ok-clause-config g c =
    let notes = noted c.converse.new.self.machine.now.journal in
    config_concludes notes (seen c.args.self.now) (seen c.converse.new.self) c.in-Ok.end (c.in-Ok.ensures.converses notes (prefix_self notes))

pub returns-in-Ok-clause-plays : goal.returns-in-Ok-clause-plays
returns-in-Ok-clause-plays g c =
    let notes = noted c.converse.new.self.machine.now.journal in
    plays_end notes (seen c.args.self.now) (seen c.converse.new.self) c.in-Ok.end (c.in-Ok.ensures.converses notes (prefix_self notes))

pub returns-in-Ok-clause-loads : goal.returns-in-Ok-clause-loads
returns-in-Ok-clause-loads g c =
    loads_by _ _ c.in-Ok.end (seen c.args.self.now) (seen c.converse.new.self) c.requires.new.journal
    (ended_adds c.in-Ok.end (seen c.args.self.now) (seen c.converse.new.self) c.in-Ok.ensures.loads)

pub returns-in-Err-clause-config : goal.returns-in-Err-clause-config
returns-in-Err-clause-config g c =
    let notes = noted c.converse.new.self.machine.now.journal in
    c.break_off.ensures.config
    ∙ stops_config notes (seen c.args.self.now) (seen c.converse.new.self) _ (c.in-Err.ensures.converses notes (prefix_self notes))

pub returns-in-Err-clause-plays : goal.returns-in-Err-clause-plays
returns-in-Err-clause-plays g c =
    let notes = noted c.break_off.new.self.machine.now.journal in
    c.break_off.ensures.plays notes (seen c.args.self.now)
    (c.in-Err.ensures.converses notes
    (notes_still (seen c.converse.new.self) (seen c.break_off.new.self) notes c.break_off.ensures.noted (prefix_self notes)))

pub returns-in-Err-clause-loads : goal.returns-in-Err-clause-loads
returns-in-Err-clause-loads g c =
    loads_by _ _ c.break_off.result (seen c.args.self.now) (seen c.break_off.new.self) c.requires.new.journal
    (c.break_off.ensures.loads (seen c.args.self.now) _ c.in-Err.ensures.loads)
