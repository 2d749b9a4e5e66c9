use Rattle.std.proofs.Common.{ap, ◌∙◌}
use Rattle.std.specs.Option.{option_map}
use Rattle.fs_state.specs.Frames.{text_of}
use Rattle.fs_state.specs.Mail.{mail_of}
use Rattle.fs_state.specs.Outboxes.{first_at}
use Rattle.fs_state.specs.Waiting.{Waits}
use Rattle.fs_state.proofs.MailLemmas.{first_known}
use Rattle.fs_state.proofs.outboxes.Outboxes.first.Goals as goal

pub returns : goal.returns
returns c =
    let mail = mail_of c.self.inside.mail in
    c.first.ensures
    ∙ first_known mail.pairs mail.outboxes c.args.seat c.self.invariant.1
    ∙ ap (λ (w : Waits). option_map text_of (first_at w.frames c.args.seat)) c.self.view_is
