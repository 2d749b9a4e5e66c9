use Rattle.std.proofs.Common.{◌≡◌, ◌∷◌, [], Some, refl, inl, sym, subst}
use Rattle.fs_book.specs.Passes.{seen, mine, met, opening_state}
use Rattle.fs_machine.specs.Turned.{configured}
use Rattle.fs_top.specs.Dials.{vain_in, HasRisen}
use Rattle.fs_session.specs.declared.actor.Actor.TheVariants as who
use Rattle.fs_top.specs.Lanes.{Enters}
use Rattle.fs_top.proofs.GatherLemmas.{keeps_split}
use Rattle.fs_top.proofs.VainLemmas.{risen_none}
use Rattle.fs_top.proofs.gathering.make_slot.Goals as goal

pub returns-clause-lane : goal.returns-clause-lane
returns-clause-lane g c =
    let new = c.split.result in
    let split = c.split.ensures in (
      refl,
      split.book.1,
      split.new.3,
      keeps_split g.L.Port.input g.L.Port.output (Enters (g.C.Clock.tells c.args.clock.now) ⊥ (Some (who.Slot c.args.slot)))
          (configured (opening_state c.args.book.now)) (seen c.args.pass.now) (seen new) (mine new) (met new) c.new.result.items split.new.0
          split.new.1 split.new.2 c.new.ensures.items c.requires.run,
    )

pub returns-clause-failed : goal.returns-clause-failed
returns-clause-failed g c =
    let new = c.split.result in
    let split = c.split.ensures in
    let lists : mine new ∷ met new ≡ [] ∷ [] = cc (split.new.1, split.new.2) in
    subst (λ ls. HasRisen (vain_in c.args.slot (seen new) ls) (g.O.Dialer.dial_faults c.args.dialer.now) (g.O.Dialer.dial_faults c.in_ok-dialer.dialer))
    (sym lists) (risen_none _ _ (inl c.in_ok-dialer.ensures))
