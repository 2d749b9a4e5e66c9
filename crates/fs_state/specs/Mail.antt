-- What waits for connections, as it is kept.
use Rattle.fs_state.specs.declared.mail.Mail.{Mail as Kept}
use Rattle.fs_state.specs.Waiting.{Mail}

-- the outboxes and the events, without the room of the ring
abbrev pub mail_of : Kept → Mail
mail_of mail = record { outboxes = mail.outboxes.items; pairs = mail.ring.pairs }
