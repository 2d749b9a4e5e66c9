use Rattle.std.proofs.Common.{◌<◌, length, arith, ◌∙◌}
use Rattle.fs_state.specs.Drafts.{drafted}
use Rattle.fs_state.specs.Posting as spec
use Rattle.fs_state.proofs.PostLemmas.{taken_next}
use Rattle.fs_state.proofs.draft.Draft.takers.Goals as goal

pub loop-seat-preserved : goal.loop-seat-preserved
loop-seat-preserved c =
    let base = c.args.self.now.base in
    let telling = spec.telling_of base (drafted c.args.self.now) c.args.number c.args.event.now in
    let within : c.loop-seat.seat < length base.conns = omega (arith, c.loop-seat-test.true, c.requires) in
    c.in_ok-push.ensures
    ∙ taken_next telling base.conns c.loop-seat.seat c.loop-seat.takers c.in_ok-wants_at.field-0 within c.loop-seat.invariant
    c.in_ok-wants_at.ensures
