use Rattle.std.proofs.Common.{◌+◌, ◌-◌, ◌^◌, ◌<◌, ap, subst, arith}
use Rattle.std.proofs.lemmas.Bool.{ltb-true}
use Rattle.fs_state.specs.Mail.{mail_of}
use Rattle.fs_state.specs.Outboxes.{HaveRoom}
use Rattle.fs_state.specs.Waiting.{Waits}
use Rattle.fs_state.proofs.MailLemmas.{room_frames}
use Rattle.fs_state.proofs.OutboxLemmas.{room_within}
use Rattle.fs_state.proofs.outboxes.Outboxes.have_room.Goals as goal

pub returns : goal.returns
returns c =
    let mail = mail_of c.self.inside.mail in
    let most = c.self.inside.most in
    let count = c.args.count in
    λ yes.
    let less : count < c.saturating_sub.result = ltb-true count c.saturating_sub.result yes in
    let within : count + most < 2 ^ 63 = omega (arith, less, c.saturating_sub.ensures) in
    subst (λ frames. HaveRoom frames count) (ap (λ (w : Waits). w.frames) c.self.view_is)
    (room_frames mail.pairs mail.outboxes count (room_within mail.outboxes most count c.self.invariant.0 within))
