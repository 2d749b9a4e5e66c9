use Rattle.std.proofs.Common.{◌∷◌, None, arith}
use Rattle.std.proofs.lemmas.Option.{none-some}
use Rattle.fs_book.specs.Passes.{seen, mine, met, opening_state}
use Rattle.fs_machine.specs.Turned.{configured}
use Rattle.fs_session.specs.declared.actor.Actor.TheVariants as who
use Rattle.fs_top.specs.Dials.{vain_in}
use Rattle.fs_top.specs.Doors.{Rose}
use Rattle.fs_top.specs.Lanes.{MayEnter, Enters}
use Rattle.fs_top.proofs.ReloadLemmas.{none_notes, none_met}
use Rattle.fs_top.proofs.GatherLemmas.{keeps_joined, enters_less}
use Rattle.fs_top.proofs.VainLemmas.{vain_none, vain_met, bounded_as}
use Rattle.fs_top.proofs.gathering.gather_staff.Goals as goal

pub returns-clause-keeps : goal.returns-clause-keeps
returns-clause-keeps g c = λ from to before.
    let old = c.args.pass.now in
    let other = c.args.staff.pass in
    let new = c.meet.new.pass in
    let tells = g.C.Clock.tells c.args.clock.now in
    keeps_joined g.L.Port.input g.L.Port.output (MayEnter tells (Rose from to)) (MayEnter tells (Rose from to)) (Enters tells ⊥ None)
    (configured (opening_state c.args.book.now)) new.seat.me.0.start (seen old) (seen other) (seen new) (mine old) (mine other) (mine new)
    (met old) (met other) (met new) c.args.conns.now.items c.args.staff.conns.items c.append.new.self.items (λ entry may. may)
    (enters_less tells (Rose from to) None) c.meet.ensures.book.1 c.meet.ensures.seen c.meet.ensures.lists c.in_ok-append.ensures.items
    old.sound.places other.sound.places new.sound.owned c.requires.staff.keeps before

pub returns-clause-bounded : goal.returns-clause-bounded
returns-clause-bounded g c = λ from counts.
    let old = c.args.pass.now in
    let other = c.args.staff.pass in
    let new = c.meet.new.pass in
    bounded_as (λ slot. vain_in slot (seen old) (mine old ∷ met old)) (λ slot. vain_in slot (seen new) (mine new ∷ met new)) from counts
    (λ slot.
    let none =
    vain_none (g.C.Clock.tells c.args.clock.now) ⊥ None (configured (opening_state c.args.book.now)) (seen other) (mine other ∷ met other) slot
    c.requires.staff.keeps.allowed (λ is. none-some (who.Slot slot) is) in
    let sums =
    vain_met (seen old) (seen other) (seen new) (mine old) (mine other) (mine new) (met old) (met other) (met new) slot
    c.meet.ensures.seen.0 c.meet.ensures.seen.1 c.meet.ensures.lists.0 c.meet.ensures.lists.1 old.sound.places other.sound.places in
    omega (arith, none, sums))

pub returns-clause-quiet : goal.returns-clause-quiet
returns-clause-quiet g c = λ before.
    let old = c.args.pass.now in
    let other = c.args.staff.pass in
    let new = c.meet.new.pass in
    none_met (seen old) (seen other) (seen new) (mine old) (mine other) (mine new) (met old) (met other) (met new) c.meet.ensures.seen.0
    c.meet.ensures.seen.1 c.meet.ensures.lists.0 c.meet.ensures.lists.1 old.sound.places other.sound.places before
    (none_notes (g.C.Clock.tells c.args.clock.now) ⊥ None (configured (opening_state c.args.book.now)) (seen other) (mine other ∷ met other)
    c.requires.staff.keeps.allowed (λ is. none-some who.Jobs is))
