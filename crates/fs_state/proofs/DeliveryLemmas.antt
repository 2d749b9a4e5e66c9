-- What an entry gives, as it is delivered: the events that it posts are held, and then its four parts are put behind what waits.
use Rattle.std.proofs.Common.{◌≡◌, ℕ, ◌+◌, ◌-◌, ◌^◌, min, List, [], ◌++◌, Option, sym, ap, subst, ◌∙◌, arith}
use Rattle.std.proofs.lemmas.List.{map-append}
use Rattle.fs_text.specs.Texts.{Text}
use Rattle.fs_event.specs.Rings.{Pair, IsSound, AreBelow}
use Rattle.fs_seats.specs.declared.numbered.Numbered.{Numbered}
use Rattle.fs_state.specs.declared.conn.Conn.{Conn}
use Rattle.fs_state.specs.declared.gift.Given.{Given}
use Rattle.fs_state.specs.Frames.{Frames, Gift}
use Rattle.fs_state.specs.Outboxes.{delivered, frames_given, HaveRoom, AreWithin}
use Rattle.fs_state.specs.Waiting.{Outbox, Mail, outboxes_in, gift_in, gifts_in, waiting_given, mail_delivered}
use Rattle.fs_state.specs.Waiting.{Posted, gifts_of_posts, with_events_held, AreRead, AreDelivered, AreCounted, AreBehind}
use Rattle.fs_state.proofs.HeldLemmas.{readers_held, texts_old, texts_new, sound_held, below_held}
use Rattle.fs_state.proofs.MailLemmas.{outboxes_alike, gifts_alike, replies_alike, AreOwed, all_delivered, mail_append}
use Rattle.fs_state.proofs.MailLemmas.{given_append, waiting_append, frames_waiting, below_delivered, room_delivered, room_waiting, within_delivered}
use Rattle.fs_state.proofs.OutboxLemmas.{given_append as frames_append}

-- the connections that stand at seats
abbrev Seats : Type 0
Seats = List (Option (Numbered Conn))

-- with these events held
abbrev pub holding : List (Pair Text) → Mail → Mail
holding events mail = record mail { pairs = with_events_held events mail.pairs }

-- the parts that are put behind what waits, and the mail after each of them
pub record Parts (conns : Seats) (start : Mail) (events : List (Pair Text)) (lists : List Given) (replies late notices : List Gift)
    (one two three last : Mail) : Type 0 where
  pub sound : IsSound start.pairs
  pub read : AreRead start.outboxes start.pairs
  pub counted : AreCounted events lists
  pub behind : AreBehind start.pairs events
  pub first : AreDelivered conns replies (holding events start) one
  pub second : two ≡ mail_delivered conns lists one
  pub third : AreDelivered conns late two three
  pub fourth : AreDelivered conns notices three last

-- how many frames gifts have
gifts_waiting : (conns : Seats) (gifts : List Gift) (before after : Mail) → (d : AreDelivered conns gifts before after) →
    frames_given gifts ≡ waiting_given d.all
gifts_waiting conns gifts before after d = ap frames_given (sym d.come) ∙ frames_waiting [] d.all

-- there is room for gifts, and for so many frames more then
pub room_gifts : (conns : Seats) (gifts : List Gift) (before after : Mail) (n : ℕ) → AreDelivered conns gifts before after →
    HaveRoom before.outboxes (frames_given gifts + n) → HaveRoom after.outboxes n
room_gifts conns gifts before after n d room =
    subst (λ (m : Mail). HaveRoom m.outboxes n) (sym d.done)
    (room_delivered conns d.all before n
    (subst (λ k. HaveRoom before.outboxes (k + n)) (gifts_waiting conns gifts before after d) room))

-- how many frames are given
given_parts : (events : List (Pair Text)) (lists : List Given) (replies late notices : List Gift) →
    frames_given (replies ++ (gifts_in events lists ++ (late ++ notices)))
    ≡ frames_given replies + (waiting_given lists + (frames_given late + frames_given notices))
given_parts events lists replies late notices = omega (
  arith,
  frames_append replies (gifts_in events lists ++ (late ++ notices)),
  frames_append (gifts_in events lists) (late ++ notices),
  frames_append late notices,
  frames_waiting events lists,
)

-- there is room for them
pub room_start : (frames : List Frames) (pairs : List (Pair Text)) (outboxes : List Outbox) (posted : Posted) (events : List (Pair Text))
    (lists : List Given) (replies late notices : List Gift) →
    outboxes_in pairs outboxes ≡ frames → record { events = events; lists = lists } ≡ posted →
    HaveRoom frames (frames_given (replies ++ (gifts_of_posts posted ++ (late ++ notices)))) →
    HaveRoom outboxes (frames_given replies + (waiting_given lists + (frames_given late + frames_given notices)))
room_start frames pairs outboxes posted events lists replies late notices come same room =
    let all : frames_given (replies ++ (gifts_of_posts posted ++ (late ++ notices)))
    ≡ frames_given replies + (waiting_given lists + (frames_given late + frames_given notices)) =
    ap (λ (p : Posted). frames_given (replies ++ (gifts_of_posts p ++ (late ++ notices)))) (sym same)
    ∙ given_parts events lists replies late notices in
    room_waiting pairs outboxes (frames_given replies + (waiting_given lists + (frames_given late + frames_given notices)))
    (subst (HaveRoom (outboxes_in pairs outboxes)) all
    (subst (λ f. HaveRoom f (frames_given (replies ++ (gifts_of_posts posted ++ (late ++ notices))))) (sym come) room))

module _ (conns : Seats) (start : Mail) (events : List (Pair Text)) (lists : List Given) (replies late notices : List Gift)
    (one two three last : Mail) (p : Parts conns start events lists replies late notices one two three last)
  where
    -- all that is given
    all : List Given
    all = p.first.all ++ (lists ++ (p.third.all ++ p.fourth.all))

    held : List (Pair Text)
    held = with_events_held events start.pairs

    done : last ≡ mail_delivered conns all (holding events start)
    unfolding all
    done =
        p.fourth.done
        ∙ ap (mail_delivered conns p.fourth.all) (p.third.done
        ∙ ap (mail_delivered conns p.third.all) (p.second ∙ ap (mail_delivered conns lists) p.first.done))
        ∙ sym (mail_append conns p.first.all (lists ++ (p.third.all ++ p.fourth.all)) (holding events start)
        ∙ mail_append conns lists (p.third.all ++ p.fourth.all) (mail_delivered conns p.first.all (holding events start))
        ∙ mail_append conns p.third.all p.fourth.all
        (mail_delivered conns lists (mail_delivered conns p.first.all (holding events start))))

    owed : AreOwed all (holding events start)
    unfolding all
    owed = record {
      sound = sound_held events start.pairs p.sound p.counted.order p.behind;
      each = λ number. omega (
        arith,
        readers_held number events start.pairs p.counted.order p.behind,
        p.read.each number,
        p.counted.each number,
        p.first.replies.each number,
        p.third.replies.each number,
        p.fourth.replies.each number,
        given_append number p.first.all (lists ++ (p.third.all ++ p.fourth.all)),
        given_append number lists (p.third.all ++ p.fourth.all),
        given_append number p.third.all p.fourth.all,
      );
    }

    come_all : gifts_in held all ≡ replies ++ (gifts_in events lists ++ (late ++ notices))
    unfolding all held
    come_all =
        let first : gifts_in held p.first.all ≡ replies = replies_alike held [] p.first.all p.first.replies ∙ p.first.come in
        let second : gifts_in held lists ≡ gifts_in events lists =
        gifts_alike held events lists
        (λ number there. texts_new number events start.pairs p.counted.order p.behind (omega (arith, there, p.counted.each number))) in
        let third : gifts_in held p.third.all ≡ late = replies_alike held [] p.third.all p.third.replies ∙ p.third.come in
        let fourth : gifts_in held p.fourth.all ≡ notices = replies_alike held [] p.fourth.all p.fourth.replies ∙ p.fourth.come in
        map-append (gift_in held) p.first.all (lists ++ (p.third.all ++ p.fourth.all))
        ∙ ap (λ rest. gifts_in held p.first.all ++ rest) (map-append (gift_in held) lists (p.third.all ++ p.fourth.all)
        ∙ ap (λ rest. gifts_in held lists ++ rest) (map-append (gift_in held) p.third.all p.fourth.all))
        ∙ rw (first, second, third, fourth)

    pub read_then : AreRead last.outboxes last.pairs
    read_then =
        subst (λ (m : Mail). AreRead m.outboxes m.pairs) (sym done) (all_delivered conns all (holding events start) owed).read

    pub come_then : outboxes_in last.pairs last.outboxes
        ≡ delivered conns (replies ++ (gifts_in events lists ++ (late ++ notices))) (outboxes_in start.pairs start.outboxes)
    unfolding held
    come_then =
        ap (λ (m : Mail). outboxes_in m.pairs m.outboxes) done
        ∙ (all_delivered conns all (holding events start) owed).come
        ∙ ap (λ gifts. delivered conns gifts (outboxes_in held start.outboxes)) come_all
        ∙ ap (delivered conns (replies ++ (gifts_in events lists ++ (late ++ notices))))
        (outboxes_alike held start.pairs start.outboxes
        (λ number there. texts_old number events start.pairs p.counted.order p.behind (omega (arith, there, p.read.each number))))

    pub below_then : (end : ℕ) → AreBelow end start.pairs → AreBelow end events → AreBelow end last.pairs
    below_then end below less =
        subst (λ (m : Mail). AreBelow end m.pairs) (sym done)
        (below_delivered conns all (holding events start) end (below_held end events start.pairs below less))

    pub within_then : (most given : ℕ) → AreWithin start.outboxes most → HaveRoom last.outboxes 0 →
        given ≡ min (frames_given (replies ++ (gifts_in events lists ++ (late ++ notices)))) (2 ^ 64 - 1) →
        AreWithin last.outboxes (min (most + given) (2 ^ 64 - 1))
    unfolding all
    within_then most given within room is =
        let all_within : AreWithin last.outboxes (most + waiting_given all) =
        subst (λ (m : Mail). AreWithin m.outboxes (most + waiting_given all)) (sym done)
        (within_delivered conns all (holding events start) most within) in
        let as_many : waiting_given all ≡ frames_given (replies ++ (gifts_in events lists ++ (late ++ notices))) = omega (
          arith,
          given_parts events lists replies late notices,
          waiting_append p.first.all (lists ++ (p.third.all ++ p.fourth.all)),
          waiting_append lists (p.third.all ++ p.fourth.all),
          waiting_append p.third.all p.fourth.all,
          gifts_waiting conns replies (holding events start) one p.first,
          gifts_waiting conns late two three p.third,
          gifts_waiting conns notices three last p.fourth,
        ) in
        record { each = λ k d here. omega (arith, is, as_many, all_within.each k d here, room.each k d here) }
