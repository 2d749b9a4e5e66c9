use Rattle.std.proofs.Common.{◌≡◌, ap, sym, subst, ◌∙◌}
use Rattle.fs_event.specs.Rings.{AreBelow}
use Rattle.fs_state.specs.Mail.{mail_of}
use Rattle.fs_state.specs.Outboxes.{AreWithin, without_first_frame}
use Rattle.fs_state.specs.Waiting.{Mail, Waits, AreRead, outboxes_in}
use Rattle.fs_state.proofs.MailLemmas.{taken_first}
use Rattle.fs_state.proofs.OutboxLemmas.{within_taken}
use Rattle.fs_state.proofs.outboxes.Outboxes.take_first.Goals as goal

pub invariant_of-self : goal.invariant_of-self
invariant_of-self c =
    let mail = mail_of c.self.inside.mail in
    let taken = taken_first c.args.seat mail c.sound.ensures c.self.invariant.1 in
    let done = c.take_first.ensures.mail in (
      subst (λ (m : Mail). AreWithin m.outboxes c.self.inside.most) (sym done) (within_taken c.args.seat mail.outboxes c.self.inside.most c.self.invariant.0),
      subst (λ (m : Mail). AreRead m.outboxes m.pairs) (sym done) taken.read,
    )

pub returns-clause-frames : goal.returns-clause-frames
returns-clause-frames c =
    let mail = mail_of c.self.inside.mail in
    let taken = taken_first c.args.seat mail c.sound.ensures c.self.invariant.1 in
    ap (λ (m : Mail). outboxes_in m.pairs m.outboxes) c.take_first.ensures.mail ∙ taken.come
    ∙ ap (λ (w : Waits). without_first_frame c.args.seat w.frames) c.self.view_is

pub returns-clause-ring : goal.returns-clause-ring
returns-clause-ring c =
    let mail = mail_of c.self.inside.mail in
    let taken = taken_first c.args.seat mail c.sound.ensures c.self.invariant.1 in
    let ring : c.self.inside.mail.ring ≡ c.args.self.now.ring = ap (λ (w : Waits). w.ring) c.self.view_is in
    rw (← ring) (record {
      below = λ end below. subst (λ (m : Mail). AreBelow end m.pairs) (sym c.take_first.ensures.mail) (taken.below end below);
      spare = c.take_first.ensures.spare;
    })
