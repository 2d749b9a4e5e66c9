use Rattle.std.proofs.Common.{◌≡◌, ◌⊎◌, inl, inr, ℕ, [], ◌∷◌, None, refl, sym, subst, ◌∙◌}
use Rattle.fs_book.specs.Passes.{seen, mine, met, opening_state}
use Rattle.fs_machine.specs.Turned.{configured}
use Rattle.fs_top.specs.Doors.{Rose}
use Rattle.fs_top.specs.Lanes.{Enters}
use Rattle.fs_top.proofs.LaneLemmas.{keeps_looked, keeps_may}
use Rattle.fs_top.proofs.DoorLemmas.{rose_raised, keeps_halts, may_halt}
use Rattle.fs_top.proofs.accepting.accept_all.Goals as goal

pub links-init : goal.links-init
links-init g c =
    let tells = g.C.Clock.tells c.args.clock.now in
    let first = g.D.Door.door_faults c.args.door.now in
    let pass = c.args.pass.now in record {
      book = c.requires.book;
      parts_kept = refl;
      rises = inl refl;
      keeps =
          keeps_may g.D.Link.Port.input g.D.Link.Port.output (Enters tells ⊥ None) (Enters tells (Rose first first) None)
          (configured (opening_state c.args.book.now)) (seen pass) (mine pass ∷ met pass) []
          (λ entry allowed. ((allowed.0.0, λ halts. absurd (allowed.0.1 halts), allowed.0.2), allowed.1, allowed.2)) c.requires.keeps;
    }

pub returns-then-is_ending-clause-keeps : goal.returns-then-is_ending-clause-keeps
returns-then-is_ending-clause-keeps g c =
    let old = c.links.pass in
    let new = c.is_ending.new.pass in
    let kept = c.is_ending.ensures.kept in
    keeps_looked _ _ _ _ new.seat.me.0.start (seen old) (seen new) (mine old) (mine new) (met old) (met new) _ c.is_ending.ensures.book.1
    c.is_ending.ensures.later kept.0 kept.1 old.sound.places new.sound.owned c.is_ending.ensures.run c.links.invariant.keeps

pub links-preserved-in-Came : goal.links-preserved-in-Came
links-preserved-in-Came g c =
    let input = g.D.Link.Port.input in
    let output = g.D.Link.Port.output in
    let tells = g.C.Clock.tells c.args.clock.now in
    let config = configured (opening_state c.args.book.now) in
    let first = g.D.Door.door_faults c.args.door.now in
    let now = g.D.Door.door_faults c.links.door in
    let next = g.D.Door.door_faults c.accept.new.self in
    let old = c.links.pass in
    let looked = c.is_ending.new.pass in
    let kept = c.is_ending.ensures.kept in
    let same : next ≡ now = c.in-Came.ensures.1 in record {
      book = c.is_ending.ensures.book;
      parts_kept = kept.2 ∙ c.links.invariant.parts_kept;
      rises = subst (λ (n : ℕ). (n ≡ first) ⊎ Rose first n) (sym same) c.links.invariant.rises;
      keeps =
          may_halt input output tells config (seen looked) (mine looked ∷ met looked) [] first now next
          (λ rose. subst (Rose first) (sym same) rose)
          (keeps_looked input output (Enters tells (Rose first now) None) config looked.seat.me.0.start (seen old) (seen looked) (mine old)
          (mine looked) (met old) (met looked) [] c.is_ending.ensures.book.1 c.is_ending.ensures.later kept.0 kept.1 old.sound.places
          looked.sound.owned c.is_ending.ensures.run c.links.invariant.keeps);
    }

pub links-preserved-in-NotYet : goal.links-preserved-in-NotYet
links-preserved-in-NotYet g c =
    let input = g.D.Link.Port.input in
    let output = g.D.Link.Port.output in
    let tells = g.C.Clock.tells c.args.clock.now in
    let config = configured (opening_state c.args.book.now) in
    let first = g.D.Door.door_faults c.args.door.now in
    let now = g.D.Door.door_faults c.links.door in
    let next = g.D.Door.door_faults c.accept.new.self in
    let old = c.links.pass in
    let looked = c.is_ending.new.pass in
    let kept = c.is_ending.ensures.kept in
    let same : next ≡ now = c.in-NotYet.ensures in record {
      book = c.is_ending.ensures.book;
      parts_kept = kept.2 ∙ c.links.invariant.parts_kept;
      rises = subst (λ (n : ℕ). (n ≡ first) ⊎ Rose first n) (sym same) c.links.invariant.rises;
      keeps =
          may_halt input output tells config (seen looked) (mine looked ∷ met looked) [] first now next
          (λ rose. subst (Rose first) (sym same) rose)
          (keeps_looked input output (Enters tells (Rose first now) None) config looked.seat.me.0.start (seen old) (seen looked) (mine old)
          (mine looked) (met old) (met looked) [] c.is_ending.ensures.book.1 c.is_ending.ensures.later kept.0 kept.1 old.sound.places
          looked.sound.owned c.is_ending.ensures.run c.links.invariant.keeps);
    }

pub links-preserved : goal.links-preserved
links-preserved g c =
    let input = g.D.Link.Port.input in
    let output = g.D.Link.Port.output in
    let tells = g.C.Clock.tells c.args.clock.now in
    let config = configured (opening_state c.args.book.now) in
    let first = g.D.Door.door_faults c.args.door.now in
    let now = g.D.Door.door_faults c.links.door in
    let next = g.D.Door.door_faults c.accept.new.self in
    let old = c.links.pass in
    let looked = c.is_ending.new.pass in
    let kept = c.is_ending.ensures.kept in
    let new = c.halt.new.pass in
    let rose = rose_raised first now next c.in-Failed.ensures c.links.invariant.rises in record {
      book = c.halt.ensures.book;
      parts_kept = c.halt.ensures.kept.1 ∙ kept.2 ∙ c.links.invariant.parts_kept;
      rises = inr rose;
      keeps =
          keeps_halts input output tells (Rose first next) config new.seat.me.0.start (seen looked) (seen new) (mine looked) (mine new)
          (met looked) (met new) [] c.halt.ensures.book.1 rose c.halt.ensures.kept.0 looked.sound.places new.sound.owned
          (may_halt input output tells config (seen looked) (mine looked ∷ met looked) [] first now next (λ _. rose)
          (keeps_looked input output (Enters tells (Rose first now) None) config looked.seat.me.0.start (seen old) (seen looked) (mine old)
          (mine looked) (met old) (met looked) [] c.is_ending.ensures.book.1 c.is_ending.ensures.later kept.0 kept.1 old.sound.places
          looked.sound.owned c.is_ending.ensures.run c.links.invariant.keeps)) c.halt.ensures.halts;
    }
