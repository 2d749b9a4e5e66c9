use Rattle.std.proofs.Common.{◌≡◌, ℕ, suc, ◌+◌, ◌∷◌, [], Some, length, map, ◌∙◌, arith, sym, subst}
use Rattle.std.proofs.lemmas.List.{map-append, length-map}
use Rattle.fs_book.specs.Passes.{seen, mine, met, opening_state}
use Rattle.fs_machine.specs.Turned.{configured}
use Rattle.fs_session.specs.declared.actor.Actor.TheVariants as who
use Rattle.fs_top.specs.Dials.{vain_in, HasRisen, AreBounded}
use Rattle.fs_top.specs.Doors.{Rose}
use Rattle.fs_top.specs.Lanes.{MayEnter, Enters}
use Rattle.fs_top.proofs.ReloadLemmas.{none_notes, none_met}
use Rattle.fs_top.proofs.GatherLemmas.{keeps_joined, enters_less}
use Rattle.fs_top.proofs.VainLemmas.{vain_none, vain_met, bounded_push}
use Rattle.fs_top.proofs.gathering.gather_slot.Goals as goal

pub returns-clause-keeps : goal.returns-clause-keeps
returns-clause-keeps g c = λ from to before.
    let old = c.args.pass.now in
    let other = c.args.lane.pass in
    let new = c.meet.new.pass in
    let tells = g.C.Clock.tells c.args.clock.now in
    let slot = length c.args.dialers.now.items + 1 in
    keeps_joined g.L.Port.input g.L.Port.output (MayEnter tells (Rose from to)) (MayEnter tells (Rose from to)) (Enters tells ⊥ (Some (who.Slot slot)))
    (configured (opening_state c.args.book.now)) new.seat.me.0.start (seen old) (seen other) (seen new) (mine old) (mine other) (mine new)
    (met old) (met other) (met new) c.args.conns.now.items c.args.lane.conns.items c.append.new.self.items (λ entry may. may)
    (enters_less tells (Rose from to) (Some (who.Slot slot))) c.meet.ensures.book.1 c.meet.ensures.seen c.meet.ensures.lists
    c.in_ok-append.ensures.items old.sound.places other.sound.places new.sound.owned c.requires.lane.3 before

pub returns-clause-bounded : goal.returns-clause-bounded
returns-clause-bounded g c = λ from failed before.
    let old = c.args.pass.now in
    let other = c.args.lane.pass in
    let new = c.meet.new.pass in
    let faults = g.O.Dialer.dial_faults in
    let dialers = c.args.dialers.now.items in
    let counts = map faults dialers in
    let last : suc (length counts) ≡ length dialers + 1 = omega (arith, length-map dialers faults) in
    let vain = λ (slot : ℕ). vain_in slot (seen old) (mine old ∷ met old) in
    let more = λ (slot : ℕ). vain_in slot (seen other) (mine other ∷ met other) in
    let vain' = λ (slot : ℕ). vain_in slot (seen new) (mine new ∷ met new) in
    let pushed =
    bounded_push vain more vain' from (faults c.args.lane.dialer) counts
    (λ slot.
    vain_met (seen old) (seen other) (seen new) (mine old) (mine other) (mine new) (met old) (met other) (met new) slot
    c.meet.ensures.seen.0 c.meet.ensures.seen.1 c.meet.ensures.lists.0 c.meet.ensures.lists.1 old.sound.places other.sound.places)
    (λ slot differs.
    vain_none (g.C.Clock.tells c.args.clock.now) ⊥ (Some (who.Slot (length dialers + 1))) (configured (opening_state c.args.book.now)) (seen other)
    (mine other ∷ met other) slot c.requires.lane.3.allowed
    (λ is. let same : length dialers + 1 ≡ slot = cc is in differs (sym same ∙ sym last)))
    (subst (λ (slot : ℕ). HasRisen (more slot) from (faults c.args.lane.dialer)) (c.requires.lane.0 ∙ sym last) failed) before in
    subst (λ ds. AreBounded vain' from (map faults ds)) (sym c.in_ok-push.ensures.items)
    (subst (λ ns. AreBounded vain' from ns) (sym (map-append faults dialers (c.args.lane.dialer ∷ []))) pushed)

pub returns-clause-quiet : goal.returns-clause-quiet
returns-clause-quiet g c = λ before.
    let old = c.args.pass.now in
    let other = c.args.lane.pass in
    let new = c.meet.new.pass in
    none_met (seen old) (seen other) (seen new) (mine old) (mine other) (mine new) (met old) (met other) (met new) c.meet.ensures.seen.0
    c.meet.ensures.seen.1 c.meet.ensures.lists.0 c.meet.ensures.lists.1 old.sound.places other.sound.places before
    (none_notes (g.C.Clock.tells c.args.clock.now) ⊥ (Some (who.Slot (length c.args.dialers.now.items + 1)))
    (configured (opening_state c.args.book.now)) (seen other) (mine other ∷ met other) c.requires.lane.3.allowed (λ is. absurd (cc is)))
