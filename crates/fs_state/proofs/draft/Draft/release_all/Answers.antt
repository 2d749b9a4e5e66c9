use Rattle.std.proofs.Common.{◌<◌, ◌≤◌, length, subst, ◌∙◌, arith}
use Rattle.fs_seats.specs.declared.numbered.Numbered.{Numbered}
use Rattle.fs_seats.specs.Overlays.{Overlaid, now_of}
use Rattle.fs_state.specs.declared.conn.Conn.{Conn}
use Rattle.fs_state.specs.Drafts.{drafted}
use Rattle.fs_state.proofs.EndLemmas.{released_next}
use Rattle.fs_state.proofs.draft.Draft.release_all.Goals as goal

pub loop-seat-preserved : goal.loop-seat-preserved
loop-seat-preserved c =
    let s = drafted c.args.self.now in
    let filled = c.filled-seat-end.result in
    let few : filled ≤ length s.conns =
    subst (λ (o : Overlaid (Numbered Conn)). filled ≤ length (now_of o)) c.conns.ensures c.filled-seat-end.ensures.within in
    let within : c.loop-seat.seat < length s.conns = omega (arith, few, c.loop-seat-test.true) in (
      c.in_ok-release_at.ensures.0 ∙ c.loop-seat.invariant.0,
      c.in_ok-release_at.ensures.1
          ∙ released_next c.loop-seat.seat c.args.reply.now c.args.notice.now s (drafted c.loop-seat.self) within c.loop-seat.invariant.1,
    )
