use Rattle.std.proofs.Common.{◌≡◌, ◌≤◌, drop}
use Rattle.fs_state.specs.Mail.{mail_of}
use Rattle.fs_state.specs.Outboxes.{HaveRoom}
use Rattle.fs_state.specs.Waiting.{mail_delivered, waiting_given}
use Rattle.fs_state.proofs.mail.Mail.deliver.Given as goal

-- what is still to be delivered makes of the mail what all does
abbrev pub invariant-loop-given : goal.invariant-loop-given
invariant-loop-given l =
    (mail_delivered l.conns (drop l.given-index l.given-items) (mail_of l.self) ≡ mail_delivered l.conns l.fn.all.items (mail_of l.fn.self))
    × HaveRoom l.self.outboxes.items (waiting_given (drop l.given-index l.given-items))
    × (l.fn.self.ring.spare ≤ l.self.ring.spare)
