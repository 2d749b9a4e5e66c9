use Rattle.std.proofs.Common.{◌∙◌, ◌∷◌, None, length, sym, ap, arith}
use Rattle.std.proofs.lemmas.Option.{none-some}
use Rattle.fs_book.specs.Passes.{seen, mine, met, parts, opening_state}
use Rattle.fs_machine.specs.Turned.{configured}
use Rattle.fs_top.specs.Dials.{vain_in}
use Rattle.fs_top.specs.Doors.{Rose}
use Rattle.fs_session.specs.declared.actor.Actor.TheVariants as who
use Rattle.fs_top.specs.Lanes.{MayEnter, Enters}
use Rattle.fs_top.specs.Reloading.{store}
use Rattle.fs_top.proofs.ReloadLemmas.{none_notes, notes_up, reloads_first}
use Rattle.fs_top.proofs.LaneLemmas.{keeps_may}
use Rattle.fs_top.proofs.PlacedLemmas.{lent_back, placed_as, counted_as, failed_all}
use Rattle.fs_top.proofs.ServeLaws.{keeps_none}
use Rattle.fs_top.proofs.SettleLaws.{keeps_settled, vain_settled}
use Rattle.fs_top.proofs.VainLemmas.{vain_none, bounded_none, bounded_as}
use Rattle.fs_top.proofs.serving.serve_to_end.Goals as goal

pub run_beside-began-requires-clause-keeps : goal.run_beside-began-requires-clause-keeps
run_beside-began-requires-clause-keeps g c =
    λ _ _.
    keeps_none _ _ _ _ _ _ (c.in_ok-desk.ensures.same.0 ∙ c.in_ok-add_staff.ensures.same.0 ∙ c.in_ok-lanes.ensures.same.0 ∙ c.requires.first.0) c.requires.run

pub gather-requires-clause-placed : goal.gather-requires-clause-placed
gather-requires-clause-placed g c =
    λ _ _.
    placed_as c.args.slots c.run_beside-began.new.lanes _
    (lent_back c.add_staff.new.lanes.items c.as_mut_slice.result.now c.run_beside-began.new.lanes c.add_staff.new.lanes.len
    c.as_mut_slice.ensures.value c.as_mut_slice.ensures.len c.run_beside-began.ensures.count)
    (c.run_beside-began.ensures.placed c.args.slots
    (placed_as c.args.slots c.add_staff.new.lanes.items _ (sym c.as_mut_slice.ensures.value)
    (c.in_ok-add_staff.ensures.placed c.args.slots (omega (arith, c.in_ok-lanes.ensures.count)) c.in_ok-lanes.ensures.placed)))

pub returns-clause-parts : goal.returns-clause-parts
returns-clause-parts g c =
    let gathered =
    counted_as (parts c.run_beside-began.new.pass) (parts c.gather.new.pass) c.run_beside-began.new.lanes _ c.in_ok-gathered.ensures.parts
    (lent_back c.add_staff.new.lanes.items c.as_mut_slice.result.now c.run_beside-began.new.lanes c.add_staff.new.lanes.len
    c.as_mut_slice.ensures.value c.as_mut_slice.ensures.len c.run_beside-began.ensures.count) in
    omega (
      arith,
      ap length c.as_mut_slice.ensures.value,
      gathered,
      c.settle.ensures.kept.2,
      c.run_beside-began.ensures.parts,
      c.run_beside-began.ensures.count,
      c.meet_desk.ensures.parts,
      c.in_ok-desk.ensures.parts,
      c.in_ok-add_staff.ensures.parts,
      c.in_ok-lanes.ensures.parts,
      c.requires.first,
    )

pub returns-clause-keeps : goal.returns-clause-keeps
returns-clause-keeps g c =
    let input = g.D.Link.Port.input in
    let output = g.D.Link.Port.output in
    let tells = g.C.Clock.tells c.args.clock.now in
    let from = g.D.Door.door_faults c.args.door.now in
    let to = g.D.Door.door_faults c.run_beside-began.new.door in
    let ran = c.run_beside-began.new.pass in
    let before = c.meet_desk.new.pass in
    let after = c.settle.new.pass in
    let first =
    keeps_may input output (Enters tells (Rose from to) None) (MayEnter tells (Rose from to)) _ (seen ran) (mine ran ∷ met ran) _
    (λ entry entered. entered.0) c.run_beside-began.ensures.keeps in
    keeps_settled _ _ _ _ after.seat.me.0.start (seen before) (seen after) (mine before) (mine after) (met before) (met after) _
    c.settle.ensures.book.1 c.settle.ensures.later before.sound.places after.sound.owned c.settle.ensures.kept.0 c.settle.ensures.kept.1
    c.settle.ensures.run (c.meet_desk.ensures.keeps from to (c.in_ok-gathered.ensures.keeps from to first))

pub returns-clause-bounded : goal.returns-clause-bounded
returns-clause-bounded g c =
    let tells = g.C.Clock.tells c.args.clock.now in
    let from = g.O.Dialer.dial_faults c.args.dialer.now in
    let ran = c.run_beside-began.new.pass in
    let before = c.meet_desk.new.pass in
    let after = c.settle.new.pass in
    let rose = Rose (g.D.Door.door_faults c.args.door.now) (g.D.Door.door_faults c.run_beside-began.new.door) in
    let config = configured (opening_state c.args.book.now) in
    let none =
    bounded_none (λ slot. vain_in slot (seen ran) (mine ran ∷ met ran)) from
    (λ slot. vain_none tells rose None config (seen ran) (mine ran ∷ met ran) slot c.run_beside-began.ensures.keeps.allowed (λ is. none-some (who.Slot slot) is)) in
    let faults = g.O.Dialer.dial_faults in
    let added = c.in_ok-add_staff.ensures.failed from c.in_ok-lanes.ensures.failed in
    let failed = c.run_beside-began.ensures.failed from (failed_all faults from c.add_staff.new.lanes.items _ (sym c.as_mut_slice.ensures.value) added) in
    bounded_as (λ slot. vain_in slot (seen before) (mine before ∷ met before)) (λ slot. vain_in slot (seen after) (mine after ∷ met after))
    from _
    (λ slot.
    vain_settled (seen before) (seen after) (mine before) (mine after) (met before) (met after) slot c.settle.ensures.later
    before.sound.places c.settle.ensures.kept.0 c.settle.ensures.kept.1)
    (c.meet_desk.ensures.bounded from _
    (c.in_ok-gathered.ensures.bounded from (failed_all faults from c.run_beside-began.new.lanes _
    (lent_back c.add_staff.new.lanes.items c.as_mut_slice.result.now c.run_beside-began.new.lanes c.add_staff.new.lanes.len
    c.as_mut_slice.ensures.value c.as_mut_slice.ensures.len c.run_beside-began.ensures.count) failed) none))

pub returns-clause-loads : goal.returns-clause-loads
returns-clause-loads g c =
    let tells = g.C.Clock.tells c.args.clock.now in
    let ran = c.run_beside-began.new.pass in
    let before = c.meet_desk.new.pass in
    let after = c.settle.new.pass in
    let rose = Rose (g.D.Door.door_faults c.args.door.now) (g.D.Door.door_faults c.run_beside-began.new.door) in
    let config = configured (opening_state c.args.book.now) in
    let desk = c.in_ok-desk.desk in
    let name = c.args.name.now in
    let first = store (g.F.Store.loads c.args.files.now name) (g.F.Store.counts c.args.files.now) (g.F.Store.sizes c.args.files.now) in
    let files = c.run_beside-began.new.files in
    let last = store (g.F.Store.loads files name) (g.F.Store.counts files) (g.F.Store.sizes files) in
    let fresh = c.in_ok-desk.ensures.fresh in
    let quiet =
    none_notes tells rose None config (seen ran) (mine ran ∷ met ran) c.run_beside-began.ensures.keeps.allowed (λ is. none-some who.Jobs is) in
    notes_up (seen before) (seen after) (mine before ∷ met before) (mine after ∷ met after) first last c.settle.ensures.later
    (cc (c.settle.ensures.kept.0, c.settle.ensures.kept.1)) before.sound.places
    (c.meet_desk.ensures.loads first last (c.in_ok-gathered.ensures.quiet quiet)
    (c.run_beside-began.ensures.loads first
    (record { reloads = reloads_first first (seen desk.pass) (mine desk.pass) fresh.0; alone = fresh.1 })))
