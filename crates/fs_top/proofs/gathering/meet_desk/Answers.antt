use Rattle.std.proofs.Common.{[], ◌∷◌, Some, arith, sym, append-nil}
use Rattle.fs_book.specs.Passes.{seen, mine, met, opening_state}
use Rattle.fs_machine.specs.Turned.{configured}
use Rattle.fs_session.specs.declared.actor.Actor.TheVariants as who
use Rattle.fs_top.specs.Dials.{vain_in}
use Rattle.fs_top.specs.Doors.{Rose}
use Rattle.fs_top.specs.Lanes.{MayEnter, Enters}
use Rattle.fs_top.proofs.ReloadLemmas.{notes_met}
use Rattle.fs_top.proofs.GatherLemmas.{keeps_joined, enters_less}
use Rattle.fs_top.proofs.VainLemmas.{vain_none, vain_met, bounded_as}
use Rattle.fs_top.proofs.gathering.meet_desk.Goals as goal

pub returns-clause-keeps : goal.returns-clause-keeps
returns-clause-keeps g c = λ from to before.
    let old = c.args.pass.now in
    let other = c.args.desk.pass in
    let new = c.meet.new.pass in
    let tells = g.C.Clock.tells c.args.clock.now in
    let conns = c.args.conns.now.items in
    keeps_joined g.L.Port.input g.L.Port.output (MayEnter tells (Rose from to)) (MayEnter tells (Rose from to)) (Enters tells ⊥ (Some who.Jobs))
    (configured (opening_state c.args.book.now)) new.seat.me.0.start (seen old) (seen other) (seen new) (mine old) (mine other) (mine new)
    (met old) (met other) (met new) conns [] conns (λ entry may. may) (enters_less tells (Rose from to) (Some who.Jobs)) c.meet.ensures.book.1
    c.meet.ensures.seen c.meet.ensures.lists (sym (append-nil conns)) old.sound.places other.sound.places new.sound.owned
    c.requires.desk.keeps before

pub returns-clause-bounded : goal.returns-clause-bounded
returns-clause-bounded g c = λ from counts.
    let old = c.args.pass.now in
    let other = c.args.desk.pass in
    let new = c.meet.new.pass in
    bounded_as (λ slot. vain_in slot (seen old) (mine old ∷ met old)) (λ slot. vain_in slot (seen new) (mine new ∷ met new)) from counts
    (λ slot.
    let none =
    vain_none (g.C.Clock.tells c.args.clock.now) ⊥ (Some who.Jobs) (configured (opening_state c.args.book.now)) (seen other) (mine other ∷ met other) slot
    c.requires.desk.keeps.allowed (λ is. absurd (cc is)) in
    let sums =
    vain_met (seen old) (seen other) (seen new) (mine old) (mine other) (mine new) (met old) (met other) (met new) slot
    c.meet.ensures.seen.0 c.meet.ensures.seen.1 c.meet.ensures.lists.0 c.meet.ensures.lists.1 old.sound.places other.sound.places in
    omega (arith, none, sums))

pub returns-clause-loads : goal.returns-clause-loads
returns-clause-loads g c = λ first last quiet noted.
    let old = c.args.pass.now in
    let other = c.args.desk.pass in
    let new = c.meet.new.pass in
    notes_met (seen old) (seen other) (seen new) (mine old) (mine other) (mine new) (met old) (met other) (met new) c.meet.ensures.seen.0
    c.meet.ensures.seen.1 c.meet.ensures.lists.0 c.meet.ensures.lists.1 old.sound.places other.sound.places first last quiet noted.alone
    noted.reloads
