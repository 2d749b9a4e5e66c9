use Rattle.std.proofs.Common.{◌≡◌, ◌+◌, ◌-◌, ◌^◌, min, ◌++◌, List, sym, ap, subst, ◌∙◌, arith}
use Rattle.fs_text.specs.Texts.{Text}
use Rattle.fs_event.specs.Rings.{Pair, AreBelow}
use Rattle.fs_state.specs.Mail.{mail_of}
use Rattle.fs_state.specs.Outboxes.{HaveRoom, AreWithin, all_of, frames_given, delivered}
use Rattle.fs_state.specs.Posted.{events_of}
use Rattle.fs_state.specs.Waiting.{Mail, Posted, Waits, AreBehind, AreDelivered, gifts_in, gifts_of_posts, outboxes_in, waiting_given}
use Rattle.fs_state.proofs.DeliveryLemmas.{Parts, holding, room_start, room_gifts, read_then, come_then, below_then, within_then}
use Rattle.fs_state.proofs.MailLemmas.{room_delivered}
use Rattle.fs_state.proofs.OutboxLemmas.{room_less}
use Rattle.fs_state.proofs.outboxes.Outboxes.deliver_all.Goals as goal

pub deliver_gifts-requires : goal.deliver_gifts-requires
deliver_gifts-requires c =
    let d = c.args.delta.now in
    let start = mail_of c.self.inside.mail in
    let lists = c.events.inside.lists.items in
    let room : HaveRoom start.outboxes (frames_given d.replies + (waiting_given lists + (frames_given d.late + frames_given d.notices))) =
    room_start c.args.self.now.frames start.pairs start.outboxes d.posted (events_of c.events.inside.events.items) lists d.replies d.late d.notices
    (ap (λ (w : Waits). w.frames) c.self.view_is) (c.events.view_is ∙ c.take.ensures.result) (record { each = c.requires.room.each }) in
    room_less start.outboxes (frames_given d.replies)
    (frames_given d.replies + (waiting_given lists + (frames_given d.late + frames_given d.notices))) (omega arith) room

pub deliver-requires : goal.deliver-requires
deliver-requires c =
    let d = c.args.delta.now in
    let start = mail_of c.self.inside.mail in
    let lists = c.events.inside.lists.items in
    let room : HaveRoom start.outboxes (frames_given d.replies + (waiting_given lists + (frames_given d.late + frames_given d.notices))) =
    room_start c.args.self.now.frames start.pairs start.outboxes d.posted (events_of c.events.inside.events.items) lists d.replies d.late d.notices
    (ap (λ (w : Waits). w.frames) c.self.view_is) (c.events.view_is ∙ c.take.ensures.result) (record { each = c.requires.room.each }) in
    let conns = c.args.conns.now in
    let before : Mail = record { outboxes = start.outboxes; pairs = c.hold_all.new.ring.pairs } in
    let one = mail_of c.deliver_gifts.new.self in
    let room_one : HaveRoom one.outboxes (waiting_given lists + (frames_given d.late + frames_given d.notices)) =
    room_gifts conns d.replies before one (waiting_given lists + (frames_given d.late + frames_given d.notices)) c.deliver_gifts.ensures.mail room in
    room_less one.outboxes (waiting_given lists) (waiting_given lists + (frames_given d.late + frames_given d.notices)) (omega arith) room_one

pub deliver_gifts-requires-2 : goal.deliver_gifts-requires-2
deliver_gifts-requires-2 c =
    let d = c.args.delta.now in
    let start = mail_of c.self.inside.mail in
    let lists = c.events.inside.lists.items in
    let room : HaveRoom start.outboxes (frames_given d.replies + (waiting_given lists + (frames_given d.late + frames_given d.notices))) =
    room_start c.args.self.now.frames start.pairs start.outboxes d.posted (events_of c.events.inside.events.items) lists d.replies d.late d.notices
    (ap (λ (w : Waits). w.frames) c.self.view_is) (c.events.view_is ∙ c.take.ensures.result) (record { each = c.requires.room.each }) in
    let conns = c.args.conns.now in
    let before : Mail = record { outboxes = start.outboxes; pairs = c.hold_all.new.ring.pairs } in
    let one = mail_of c.deliver_gifts.new.self in
    let room_one : HaveRoom one.outboxes (waiting_given lists + (frames_given d.late + frames_given d.notices)) =
    room_gifts conns d.replies before one (waiting_given lists + (frames_given d.late + frames_given d.notices)) c.deliver_gifts.ensures.mail room in
    let two = mail_of c.deliver.new.self in
    let room_two : HaveRoom two.outboxes (frames_given d.late + frames_given d.notices) =
    subst (λ (m : Mail). HaveRoom m.outboxes (frames_given d.late + frames_given d.notices)) (sym c.deliver.ensures.mail)
    (room_delivered conns lists one (frames_given d.late + frames_given d.notices) room_one) in
    room_less two.outboxes (frames_given d.late) (frames_given d.late + frames_given d.notices) (omega arith) room_two

pub deliver_gifts-requires-3 : goal.deliver_gifts-requires-3
deliver_gifts-requires-3 c =
    let d = c.args.delta.now in
    let start = mail_of c.self.inside.mail in
    let lists = c.events.inside.lists.items in
    let room : HaveRoom start.outboxes (frames_given d.replies + (waiting_given lists + (frames_given d.late + frames_given d.notices))) =
    room_start c.args.self.now.frames start.pairs start.outboxes d.posted (events_of c.events.inside.events.items) lists d.replies d.late d.notices
    (ap (λ (w : Waits). w.frames) c.self.view_is) (c.events.view_is ∙ c.take.ensures.result) (record { each = c.requires.room.each }) in
    let conns = c.args.conns.now in
    let before : Mail = record { outboxes = start.outboxes; pairs = c.hold_all.new.ring.pairs } in
    let one = mail_of c.deliver_gifts.new.self in
    let room_one : HaveRoom one.outboxes (waiting_given lists + (frames_given d.late + frames_given d.notices)) =
    room_gifts conns d.replies before one (waiting_given lists + (frames_given d.late + frames_given d.notices)) c.deliver_gifts.ensures.mail room in
    let two = mail_of c.deliver.new.self in
    let room_two : HaveRoom two.outboxes (frames_given d.late + frames_given d.notices) =
    subst (λ (m : Mail). HaveRoom m.outboxes (frames_given d.late + frames_given d.notices)) (sym c.deliver.ensures.mail)
    (room_delivered conns lists one (frames_given d.late + frames_given d.notices) room_one) in
    let three = mail_of c.deliver_gifts-2.new.self in
    let room_three : HaveRoom three.outboxes (frames_given d.notices) =
    room_gifts conns d.late two three (frames_given d.notices) c.deliver_gifts-2.ensures.mail room_two in
    room_three

pub invariant_of-self : goal.invariant_of-self
invariant_of-self c =
    let d = c.args.delta.now in
    let start = mail_of c.self.inside.mail in
    let lists = c.events.inside.lists.items in
    let room : HaveRoom start.outboxes (frames_given d.replies + (waiting_given lists + (frames_given d.late + frames_given d.notices))) =
    room_start c.args.self.now.frames start.pairs start.outboxes d.posted (events_of c.events.inside.events.items) lists d.replies d.late d.notices
    (ap (λ (w : Waits). w.frames) c.self.view_is) (c.events.view_is ∙ c.take.ensures.result) (record { each = c.requires.room.each }) in
    let conns = c.args.conns.now in
    let events = events_of c.events.inside.events.items in
    let one = mail_of c.deliver_gifts.new.self in
    let two = mail_of c.deliver.new.self in
    let three = mail_of c.deliver_gifts-2.new.self in
    let last = mail_of c.deliver_gifts-3.new.self in
    let same : record { events = events; lists = lists } ≡ d.posted = c.events.view_is ∙ c.take.ensures.result in
    let pairs : start.pairs ≡ c.args.self.now.ring.pairs = ap (λ (w : Waits). w.ring.pairs) c.self.view_is in
    let held : record { outboxes = start.outboxes; pairs = c.hold_all.new.ring.pairs } ≡ holding events start =
    ap (λ (p : List (Pair Text)). let m : Mail = record { outboxes = start.outboxes; pairs = p } in m) c.hold_all.ensures.pairs in
    let behind : AreBehind start.pairs events =
    subst (λ p. AreBehind p events) (sym pairs)
    (subst (λ (p : Posted). AreBehind c.args.self.now.ring.pairs p.events) (sym same) (record { each = c.requires.behind.each })) in
    let p : Parts conns start events lists d.replies d.late d.notices one two three last = record {
      sound = c.sound.ensures;
      read = c.self.invariant.1;
      counted = c.events.invariant;
      behind = behind;
      first = subst (λ m. AreDelivered conns d.replies m one) held c.deliver_gifts.ensures.mail;
      second = c.deliver.ensures.mail;
      third = c.deliver_gifts-2.ensures.mail;
      fourth = c.deliver_gifts-3.ensures.mail;
    } in
    let room_one : HaveRoom one.outboxes (waiting_given lists + (frames_given d.late + frames_given d.notices)) =
    room_gifts conns d.replies (holding events start) one (waiting_given lists + (frames_given d.late + frames_given d.notices)) p.first room in
    let room_two : HaveRoom two.outboxes (frames_given d.late + frames_given d.notices) =
    subst (λ (m : Mail). HaveRoom m.outboxes (frames_given d.late + frames_given d.notices)) (sym p.second)
    (room_delivered conns lists one (frames_given d.late + frames_given d.notices) room_one) in
    let room_three : HaveRoom three.outboxes (frames_given d.notices + 0) =
    room_less three.outboxes (frames_given d.notices + 0) (frames_given d.notices) (omega arith)
    (room_gifts conns d.late two three (frames_given d.notices) p.third room_two) in
    let room_last : HaveRoom last.outboxes 0 = room_gifts conns d.notices three last 0 p.fourth room_three in
    let given : c.frames_given.result
    ≡ min (frames_given (d.replies ++ (gifts_in events lists ++ (d.late ++ d.notices)))) (2 ^ 64 - 1) =
    c.frames_given.ensures
    ∙ ap (λ (p : Posted). min (frames_given (d.replies ++ (gifts_of_posts p ++ (d.late ++ d.notices)))) (2 ^ 64 - 1)) (sym same) in (
      subst (AreWithin last.outboxes) (sym c.saturating_add-self-inside.ensures)
          (within_then conns start events lists d.replies d.late d.notices one two three last p c.self.inside.most c.frames_given.result
          c.self.invariant.0 room_last given),
      read_then conns start events lists d.replies d.late d.notices one two three last p,
    )

pub returns-clause-frames : goal.returns-clause-frames
returns-clause-frames c =
    let d = c.args.delta.now in
    let start = mail_of c.self.inside.mail in
    let lists = c.events.inside.lists.items in
    let room : HaveRoom start.outboxes (frames_given d.replies + (waiting_given lists + (frames_given d.late + frames_given d.notices))) =
    room_start c.args.self.now.frames start.pairs start.outboxes d.posted (events_of c.events.inside.events.items) lists d.replies d.late d.notices
    (ap (λ (w : Waits). w.frames) c.self.view_is) (c.events.view_is ∙ c.take.ensures.result) (record { each = c.requires.room.each }) in
    let conns = c.args.conns.now in
    let events = events_of c.events.inside.events.items in
    let one = mail_of c.deliver_gifts.new.self in
    let two = mail_of c.deliver.new.self in
    let three = mail_of c.deliver_gifts-2.new.self in
    let last = mail_of c.deliver_gifts-3.new.self in
    let same : record { events = events; lists = lists } ≡ d.posted = c.events.view_is ∙ c.take.ensures.result in
    let pairs : start.pairs ≡ c.args.self.now.ring.pairs = ap (λ (w : Waits). w.ring.pairs) c.self.view_is in
    let held : record { outboxes = start.outboxes; pairs = c.hold_all.new.ring.pairs } ≡ holding events start =
    ap (λ (p : List (Pair Text)). let m : Mail = record { outboxes = start.outboxes; pairs = p } in m) c.hold_all.ensures.pairs in
    let behind : AreBehind start.pairs events =
    subst (λ p. AreBehind p events) (sym pairs)
    (subst (λ (p : Posted). AreBehind c.args.self.now.ring.pairs p.events) (sym same) (record { each = c.requires.behind.each })) in
    let p : Parts conns start events lists d.replies d.late d.notices one two three last = record {
      sound = c.sound.ensures;
      read = c.self.invariant.1;
      counted = c.events.invariant;
      behind = behind;
      first = subst (λ m. AreDelivered conns d.replies m one) held c.deliver_gifts.ensures.mail;
      second = c.deliver.ensures.mail;
      third = c.deliver_gifts-2.ensures.mail;
      fourth = c.deliver_gifts-3.ensures.mail;
    } in
    come_then conns start events lists d.replies d.late d.notices one two three last p
    ∙ ap (λ (p : Posted). delivered conns (d.replies ++ (gifts_of_posts p ++ (d.late ++ d.notices))) (outboxes_in start.pairs start.outboxes)) same
    ∙ ap (λ (w : Waits). delivered conns (all_of d) w.frames) c.self.view_is

pub returns-clause-below : goal.returns-clause-below
returns-clause-below c =
    let d = c.args.delta.now in
    let start = mail_of c.self.inside.mail in
    let lists = c.events.inside.lists.items in
    let room : HaveRoom start.outboxes (frames_given d.replies + (waiting_given lists + (frames_given d.late + frames_given d.notices))) =
    room_start c.args.self.now.frames start.pairs start.outboxes d.posted (events_of c.events.inside.events.items) lists d.replies d.late d.notices
    (ap (λ (w : Waits). w.frames) c.self.view_is) (c.events.view_is ∙ c.take.ensures.result) (record { each = c.requires.room.each }) in
    let conns = c.args.conns.now in
    let events = events_of c.events.inside.events.items in
    let one = mail_of c.deliver_gifts.new.self in
    let two = mail_of c.deliver.new.self in
    let three = mail_of c.deliver_gifts-2.new.self in
    let last = mail_of c.deliver_gifts-3.new.self in
    let same : record { events = events; lists = lists } ≡ d.posted = c.events.view_is ∙ c.take.ensures.result in
    let pairs : start.pairs ≡ c.args.self.now.ring.pairs = ap (λ (w : Waits). w.ring.pairs) c.self.view_is in
    let held : record { outboxes = start.outboxes; pairs = c.hold_all.new.ring.pairs } ≡ holding events start =
    ap (λ (p : List (Pair Text)). let m : Mail = record { outboxes = start.outboxes; pairs = p } in m) c.hold_all.ensures.pairs in
    let behind : AreBehind start.pairs events =
    subst (λ p. AreBehind p events) (sym pairs)
    (subst (λ (p : Posted). AreBehind c.args.self.now.ring.pairs p.events) (sym same) (record { each = c.requires.behind.each })) in
    let p : Parts conns start events lists d.replies d.late d.notices one two three last = record {
      sound = c.sound.ensures;
      read = c.self.invariant.1;
      counted = c.events.invariant;
      behind = behind;
      first = subst (λ m. AreDelivered conns d.replies m one) held c.deliver_gifts.ensures.mail;
      second = c.deliver.ensures.mail;
      third = c.deliver_gifts-2.ensures.mail;
      fourth = c.deliver_gifts-3.ensures.mail;
    } in
    λ end below less. below_then conns start events lists d.replies d.late d.notices one two three last p end
    (subst (AreBelow end) (sym pairs) below)
    (subst (λ (p : Posted). AreBelow end p.events) (sym same) less)
