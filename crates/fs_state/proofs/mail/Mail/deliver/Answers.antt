use Rattle.std.proofs.Common.{◌≡◌, ◌+◌, ◌<◌, ◌∷◌, drop, length, sym, ap, subst, ◌∙◌, arith}
use Rattle.std.specs.Prelude.{slice_set}
use Rattle.std.proofs.lemmas.List.{drop_more, drop-set-lt}
use Rattle.fs_seats.specs.Rows.{seat_of}
use Rattle.fs_state.specs.declared.gift.Given.{Given}
use Rattle.fs_state.specs.Mail.{mail_of}
use Rattle.fs_state.specs.Outboxes.{HaveRoom}
use Rattle.fs_state.specs.Waiting.{mail_delivered, waiting_given, with_waiting, Mail}
use Rattle.fs_state.proofs.MailLemmas.{room_next, room_first}
use Rattle.fs_state.proofs.mail.Mail.deliver.Goals as goal

pub append-requires : goal.append-requires
append-requires c =
    let outboxes = c.loop-given.self.outboxes.items in
    let items = c.loop-given.given-items in
    let i = c.loop-given.given-index in
    let given = c.given-item.result in
    let within : i < length items = omega (arith, c.loop-given-test.true) in
    let split : drop i items ≡ given ∷ drop (i + 1) items =
    drop_more items i given within ∙ ap (λ g. g ∷ drop (i + 1) items) (sym c.given-item.is) in
    let waiting : c.take_waiting-waiting.result ≡ given.waiting =
    c.take_waiting-waiting.ensures ∙ ap (λ (g : Given). g.waiting) (sym c.given-item.is) in
    rw waiting (room_first given (drop (i + 1) items) outboxes
    (subst (λ all. HaveRoom outboxes (waiting_given all)) split c.loop-given.invariant.1))

pub loop-given-preserved : goal.loop-given-preserved
loop-given-preserved c =
    let conns = c.args.conns.now in
    let mail = mail_of c.loop-given.self in
    let items = c.loop-given.given-items in
    let i = c.loop-given.given-index in
    let given = c.given-item.result in
    let left = c.take_waiting-waiting.new.self in
    let within : i < length items = omega (arith, c.loop-given-test.true) in
    let split : drop i items ≡ given ∷ drop (i + 1) items =
    drop_more items i given within ∙ ap (λ g. g ∷ drop (i + 1) items) (sym c.given-item.is) in
    let rest : drop (i + 1) (slice_set items i left) ≡ drop (i + 1) items = drop-set-lt (i + 1) items i left (omega arith) in
    let waiting : c.take_waiting-waiting.result ≡ given.waiting =
    c.take_waiting-waiting.ensures ∙ ap (λ (g : Given). g.waiting) (sym c.given-item.is) in
    let found : c.seat_of.result ≡ seat_of conns given.conn =
    c.seat_of.ensures ∙ ap (λ (g : Given). seat_of conns g.conn) (sym c.given-item.is) in
    let done : mail_of c.append.new.self ≡ with_waiting (seat_of conns given.conn) given.waiting mail =
    c.append.ensures.mail ∙ ap (λ w. with_waiting c.seat_of.result w mail) waiting
    ∙ ap (λ f. with_waiting f given.waiting mail) found in
    let room : HaveRoom mail.outboxes (waiting_given (given ∷ drop (i + 1) items)) =
    subst (λ all. HaveRoom mail.outboxes (waiting_given all)) split c.loop-given.invariant.1 in
    rw rest (
      ap (mail_delivered conns (drop (i + 1) items)) done
          ∙ subst (λ all. mail_delivered conns all mail ≡ mail_delivered conns c.args.all.now.items (mail_of c.args.self.now)) split
          c.loop-given.invariant.0,
      subst (λ (m : Mail). HaveRoom m.outboxes (waiting_given (drop (i + 1) items))) (sym done)
          (room_next (seat_of conns given.conn) given (drop (i + 1) items) mail room),
      omega (arith, c.loop-given.invariant.2, c.append.ensures.spare),
    )
