use Rattle.fs_ports.specs.Ports.{IsNewLink}
use Rattle.fs_book.specs.Passes.{seen, mine, met, opening_state}
use Rattle.fs_machine.specs.Turned.{configured}
use Rattle.fs_top.proofs.TalkLemmas.{opened_came, kept_none, vain_one, kept_served, vain_served}
use Rattle.fs_top.proofs.dialing.dial.Goals as goal

pub serve_beside-requires-clause-owns : goal.serve_beside-requires-clause-owns
serve_beside-requires-clause-owns g c = λ _ _. (opened_came _ _ _ _ _ _ _ _ _ _ _ _ c.in-Opened.ensures.talks).owns

pub serve_beside-requires-clause-run : goal.serve_beside-requires-clause-run
serve_beside-requires-clause-run g c = λ _ _. (opened_came _ _ _ _ _ _ _ _ _ _ _ _ c.in-Opened.ensures.talks).run

pub serve_beside-requires-clause-fresh : goal.serve_beside-requires-clause-fresh
serve_beside-requires-clause-fresh g c = λ _ _. (opened_came _ _ _ _ _ _ _ _ _ _ _ _ c.in-Opened.ensures.talks).fresh

pub returns-in-Opened-clause-keeps : goal.returns-in-Opened-clause-keeps
returns-in-Opened-clause-keeps g c =
    let old = c.args.theirs.now in
    let mid = c.talk_once.new.pass in
    let new = c.serve_beside.new.theirs in
    let conn = c.serve_beside.result in
    kept_served g.L.Port.input g.L.Port.output (g.C.Clock.tells c.args.clock.now) (configured (opening_state c.args.book.now))
    new.seat.me.0.start c.serve_beside.ensures.book.1 c.args.lane.now.slot (seen old) (seen mid) (mine old) (mine mid) (met old) (met mid)
    c.requires.new.0 c.requires.new.1 c.talk_once.ensures.kept.0 c.requires.run old.sound.places c.now.result c.now.ensures (seen new) (mine new)
    (met new) c.serve_beside.ensures.kept.0 (λ link. IsNewLink (g.L.Port.input link) (g.L.Port.output link)) _ _ c.in-Opened.conn
    c.in-Opened.link c.in-Opened.ensures.talks c.serve_beside.ensures.talks.later c.serve_beside.ensures.talks.gains new.sound.owned conn _ _
    c.serve_beside.ensures.number c.in-Opened.ensures.talks.is_new c.serve_beside.ensures.owns c.serve_beside.ensures.talks.told

pub returns-in-Opened-clause-failed : goal.returns-in-Opened-clause-failed
returns-in-Opened-clause-failed g c =
    let old = c.args.theirs.now in
    let mid = c.talk_once.new.pass in
    let new = c.serve_beside.new.theirs in
    rw c.serve_beside.ensures.same.1
    (vain_served g.L.Port.input g.L.Port.output (g.C.Clock.tells c.args.clock.now) (configured (opening_state c.args.book.now))
    new.seat.me.0.start c.serve_beside.ensures.book.1 c.args.lane.now.slot (seen old) (seen mid) (mine old) (mine mid) (met old) (met mid)
    c.requires.new.0 c.requires.new.1 c.talk_once.ensures.kept.0 c.requires.run old.sound.places c.now.result c.now.ensures (seen new)
    (mine new) (met new) c.serve_beside.ensures.kept.0 (λ link. IsNewLink (g.L.Port.input link) (g.L.Port.output link)) _ _ c.in-Opened.conn
    c.in-Opened.link c.in-Opened.ensures.talks c.serve_beside.ensures.talks.later c.serve_beside.ensures.talks.gains new.sound.owned)

pub returns-in-Not-clause-keeps : goal.returns-in-Not-clause-keeps
returns-in-Not-clause-keeps g c =
    let old = c.args.theirs.now in
    let new = c.talk_once.new.pass in
    kept_none g.L.Port.input g.L.Port.output (g.C.Clock.tells c.args.clock.now) (configured (opening_state c.args.book.now))
    new.seat.me.0.start c.talk_once.ensures.book.1 c.args.lane.now.slot (seen old) (seen new) (mine old) (mine new) (met old) (met new)
    c.requires.new.0 c.requires.new.1 c.talk_once.ensures.kept.0 c.requires.run old.sound.places c.now.result c.now.ensures new.sound.owned
    _ _ _ c.in-Not.ensures.talks

pub returns-in-Not-clause-failed : goal.returns-in-Not-clause-failed
returns-in-Not-clause-failed g c =
    let old = c.args.theirs.now in
    let new = c.talk_once.new.pass in
    vain_one g.L.Port.input g.L.Port.output (g.C.Clock.tells c.args.clock.now) (configured (opening_state c.args.book.now))
    new.seat.me.0.start c.talk_once.ensures.book.1 c.args.lane.now.slot (seen old) (seen new) (mine old) (mine new) (met old) (met new)
    c.requires.new.0 c.requires.new.1 c.talk_once.ensures.kept.0 c.requires.run old.sound.places c.now.result c.now.ensures _ _ _
    c.in-Not.ensures.talks
