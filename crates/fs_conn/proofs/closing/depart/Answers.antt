use Rattle.std.proofs.Common.{sym, ap, ◌∙◌}
use Rattle.fs_book.specs.Passes.{seen, mine, opening_state}
use Rattle.fs_machine.specs.declared.standing.Standing.{Standing}
use Rattle.fs_conn.specs.Play.{end_by}
use Rattle.fs_machine.specs.Turned.{configured}
use Rattle.fs_conn.proofs.TalkLemmas.{idle_by, holds_quiet, stops_holds, parted_by, departs_closed}
use Rattle.fs_conn.proofs.closing.depart.Goals as goal

pub returns-in_default-clause-departs : goal.returns-in_default-clause-departs
returns-in_default-clause-departs g c = λ from rest h.
    let idle = idle_by (g.C.Clock.tells c.args.clock.now) (configured (opening_state c.args.book.now)) c.args.conn (seen c.args.pass.now)
    (seen c.look-standing.new.pass) (mine c.args.pass.now) (mine c.look-standing.new.pass) c.look-standing.ensures.quiet
    c.look-standing.ensures.kept.0 c.look-standing.ensures.run in
    stops_holds _ _ _ from (seen c.look-standing.new.pass) (mine c.look-standing.new.pass) _ _ rest
    (holds_quiet _ _ _ from (seen c.args.pass.now) (seen c.look-standing.new.pass) (mine c.args.pass.now) (mine c.look-standing.new.pass) _
    _ rest idle h)

pub returns-clause-departs : goal.returns-clause-departs
returns-clause-departs g c = λ from rest h.
    let idle = idle_by (g.C.Clock.tells c.args.clock.now) (configured (opening_state c.args.book.now)) c.args.conn (seen c.args.pass.now)
    (seen c.look-standing.new.pass) (mine c.args.pass.now) (mine c.look-standing.new.pass) c.look-standing.ensures.quiet
    c.look-standing.ensures.kept.0 c.look-standing.ensures.run in
    departs_closed _ _ _ from (seen c.look-standing.new.pass) (seen c.wait_out.new.pass) (mine c.look-standing.new.pass)
    (mine c.wait_out.new.pass) _ _ _ _ rest c.in-Some.end c.wait_out.result
    (parted_by (g.C.Clock.tells c.args.clock.now) (configured (opening_state c.args.book.now)) c.args.conn (seen c.look-standing.new.pass) c.in-Some.end
    (sym (c.by_parting.ensures ∙ ap (λ (x : Standing). end_by x.parting) c.look-standing.ensures.stands) ∙ c.in-Some.is))
    c.wait_out.ensures.closes
    (holds_quiet _ _ _ from (seen c.args.pass.now) (seen c.look-standing.new.pass) (mine c.args.pass.now) (mine c.look-standing.new.pass) _
    _ rest idle h)
