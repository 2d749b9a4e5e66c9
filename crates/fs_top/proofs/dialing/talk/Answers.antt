use Rattle.std.proofs.Common.{◌≡◌, ℕ, ◌+◌, ◌∷◌, ◌++◌, Some, ◌∙◌, arith, ap, sym, subst, append-nil}
use Rattle.fs_book.specs.Passes.{seen, mine, met, opening_state}
use Rattle.fs_machine.specs.Turned.{configured}
use Rattle.fs_top.specs.Dials.{vain_in, HasRisen}
use Rattle.fs_session.specs.declared.actor.Actor.TheVariants as who
use Rattle.fs_top.specs.Lanes.{Enters}
use Rattle.fs_top.specs.Standing.{conns_of}
use Rattle.fs_top.proofs.GatherLemmas.{keeps_joined}
use Rattle.fs_top.proofs.VainLemmas.{vain_met, vain_same, risen_more}
use Rattle.fs_top.proofs.dialing.talk.Goals as goal

pub returns-in-Some-clause-stands : goal.returns-in-Some-clause-stands
returns-in-Some-clause-stands g c =
    let lane = c.dial-conn.new.lane in
    let theirs = c.dial-conn.new.theirs in
    let new = c.meet.new.pass in
    let its = Enters (g.C.Clock.tells c.args.clock.now) ⊥ (Some (who.Slot c.args.lane.now.slot)) in
    let all : c.keep.new.conns.items ≡ lane.conns.items ++ conns_of c.dial-conn.result =
    c.keep.ensures ∙ ap (λ r. lane.conns.items ++ conns_of r) (sym c.in-Some.is) in (
      c.dial-conn.ensures.holds.0,
      c.meet.ensures.book,
      omega (arith, c.meet.ensures.parts, c.dial-conn.ensures.holds.2, c.dial-conn.ensures.parts, c.split-theirs.ensures.new.3),
      keeps_joined g.L.Port.input g.L.Port.output its its its (configured (opening_state c.args.book.now)) new.seat.me.0.start (seen lane.pass)
          (seen theirs) (seen new) (mine lane.pass) (mine theirs) (mine new) (met lane.pass) (met theirs) (met new) lane.conns.items
          (conns_of c.dial-conn.result) c.keep.new.conns.items (λ entry may. may) (λ entry may. may) c.meet.ensures.book.1 c.meet.ensures.seen
          c.meet.ensures.lists all lane.pass.sound.places theirs.sound.places new.sound.owned c.dial-conn.ensures.keeps
          c.dial-conn.ensures.holds.3,
    )

pub returns-in_default-clause-stands : goal.returns-in_default-clause-stands
returns-in_default-clause-stands g c =
    let lane = c.dial-conn.new.lane in
    let theirs = c.dial-conn.new.theirs in
    let new = c.meet.new.pass in
    let its = Enters (g.C.Clock.tells c.args.clock.now) ⊥ (Some (who.Slot c.args.lane.now.slot)) in
    let all : lane.conns.items ≡ lane.conns.items ++ conns_of c.dial-conn.result =
    sym (append-nil lane.conns.items) ∙ ap (λ r. lane.conns.items ++ conns_of r) (sym c.in_default.is) in (
      c.dial-conn.ensures.holds.0,
      c.meet.ensures.book,
      omega (arith, c.meet.ensures.parts, c.dial-conn.ensures.holds.2, c.dial-conn.ensures.parts, c.split-theirs.ensures.new.3),
      keeps_joined g.L.Port.input g.L.Port.output its its its (configured (opening_state c.args.book.now)) new.seat.me.0.start (seen lane.pass)
          (seen theirs) (seen new) (mine lane.pass) (mine theirs) (mine new) (met lane.pass) (met theirs) (met new) lane.conns.items
          (conns_of c.dial-conn.result) lane.conns.items (λ entry may. may) (λ entry may. may) c.meet.ensures.book.1 c.meet.ensures.seen
          c.meet.ensures.lists all lane.pass.sound.places theirs.sound.places new.sound.owned c.dial-conn.ensures.keeps
          c.dial-conn.ensures.holds.3,
    )

pub returns-in-Some-clause-failed : goal.returns-in-Some-clause-failed
returns-in-Some-clause-failed g c = λ from before.
    let old = c.args.lane.now.pass in
    let left = c.split-theirs.new.pass in
    let lane = c.dial-conn.new.lane in
    let theirs = c.dial-conn.new.theirs in
    let new = c.meet.new.pass in
    let slot = c.args.lane.now.slot in
    let faults = g.O.Dialer.dial_faults lane.dialer in
    let same =
    c.dial-conn.ensures.vain slot
    ∙ vain_same (seen old) (seen left) (mine old) (mine left) (met old) (met left) slot c.split-theirs.ensures.old.0
    c.split-theirs.ensures.old.1 c.split-theirs.ensures.old.2 in
    let sums =
    vain_met (seen lane.pass) (seen theirs) (seen new) (mine lane.pass) (mine theirs) (mine new) (met lane.pass) (met theirs) (met new) slot
    c.meet.ensures.seen.0 c.meet.ensures.seen.1 c.meet.ensures.lists.0 c.meet.ensures.lists.1 lane.pass.sound.places theirs.sound.places in
    subst (λ (s : ℕ). HasRisen (vain_in s (seen new) (mine new ∷ met new)) from faults) (sym c.dial-conn.ensures.holds.0)
    (subst (λ (n : ℕ). HasRisen n from faults)
    (sym (sums ∙ ap (λ (n : ℕ). n + vain_in slot (seen theirs) (mine theirs ∷ met theirs)) same))
    (risen_more _ _ from _ _ before c.dial-conn.ensures.failed))

pub returns-in_default-clause-failed : goal.returns-in_default-clause-failed
returns-in_default-clause-failed g c = λ from before.
    let old = c.args.lane.now.pass in
    let left = c.split-theirs.new.pass in
    let lane = c.dial-conn.new.lane in
    let theirs = c.dial-conn.new.theirs in
    let new = c.meet.new.pass in
    let slot = c.args.lane.now.slot in
    let faults = g.O.Dialer.dial_faults lane.dialer in
    let same =
    c.dial-conn.ensures.vain slot
    ∙ vain_same (seen old) (seen left) (mine old) (mine left) (met old) (met left) slot c.split-theirs.ensures.old.0
    c.split-theirs.ensures.old.1 c.split-theirs.ensures.old.2 in
    let sums =
    vain_met (seen lane.pass) (seen theirs) (seen new) (mine lane.pass) (mine theirs) (mine new) (met lane.pass) (met theirs) (met new) slot
    c.meet.ensures.seen.0 c.meet.ensures.seen.1 c.meet.ensures.lists.0 c.meet.ensures.lists.1 lane.pass.sound.places theirs.sound.places in
    subst (λ (s : ℕ). HasRisen (vain_in s (seen new) (mine new ∷ met new)) from faults) (sym c.dial-conn.ensures.holds.0)
    (subst (λ (n : ℕ). HasRisen n from faults)
    (sym (sums ∙ ap (λ (n : ℕ). n + vain_in slot (seen theirs) (mine theirs ∷ met theirs)) same))
    (risen_more _ _ from _ _ before c.dial-conn.ensures.failed))
