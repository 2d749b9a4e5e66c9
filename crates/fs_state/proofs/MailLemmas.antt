-- What waits for connections comes to the frames by definition, and each event is held for as many readers as its number waits for.
use Rattle.std.proofs.Common.{◌≡◌, ℕ, zero, suc, ◌+◌, ◌-◌, ◌<◌, ◌≤◌, Bool, true, false, cond, List, [], ◌∷◌, ◌++◌, length, map}
use Rattle.std.proofs.Common.{drop, get_or, Option, None, Some, refl, sym, ap, subst, ◌∙◌, arith, if◌then◌else◌, replicate}
use Rattle.std.specs.Prelude.{nat_lt, slice_get}
use Rattle.std.specs.Option.{option_map, option_and_then}
use Rattle.std.specs.List.{slice_set}
use Rattle.std.proofs.Math.ListN.{get_or-map as at_index}
use Rattle.std.proofs.lemmas.Bool.{ltb-true, ltb-false}
use Rattle.std.proofs.lemmas.List.{map-set, get_or-map, set_past, length-map, length-append, map-append, drop-map}
use Rattle.std.proofs.lemmas.List.Sums.{sum_by-cons, sum_by-append, sum_by-set}
use Rattle.fs_text.specs.Texts.{Text}
use Rattle.fs_event.specs.Rings.{Pair, IsSound, AreBelow}
use Rattle.fs_seats.specs.declared.numbered.Numbered.{Numbered}
use Rattle.fs_seats.specs.Rows.{seat_of}
use Rattle.fs_state.specs.declared.conn.Conn.{Conn}
use Rattle.fs_state.specs.declared.gift.Given.{Given}
use Rattle.fs_state.specs.declared.outbox.Waiting.{Waiting}
use Rattle.fs_state.specs.declared.outbox.Waiting.TheVariants as waiting
use Rattle.fs_state.specs.Frames.{Frames, Gift, Event, text_of, is_event, events_in}
use Rattle.fs_state.specs.Outboxes.{outbox_at, first_at, with_frames, with_frames_at, delivered, without_first_frame}
use Rattle.fs_state.specs.Outboxes.{frames_given, HaveRoom, AreWithin}
use Rattle.fs_state.specs.Waiting.{Outbox, Mail, text_in, frame_in, frames_in, outboxes_in, gift_in, gifts_in, is_of, is_number, numbers_in, times, times_in}
use Rattle.fs_state.specs.Waiting.{times_given, readers_of, waiting_given, gone, all_gone, first_gone, waiting_at, known_text, first_text, without_first}
use Rattle.fs_state.specs.Waiting.{with_waiting, mail_delivered, AreRead, AreReplies}
use Rattle.fs_state.proofs.HeldLemmas.{one_if, same_number, text_held, times_cons, readers_gone, texts_gone, below_gone}
use Rattle.fs_state.proofs.HeldLemmas.{readers_all_gone, texts_all_gone, sound_all_gone, below_all_gone}
use Rattle.fs_state.proofs.OutboxLemmas.{room_less, room_with, within_given, within_less}

-- ---- the texts of what waits

-- the texts of these numbers are the same
abbrev AreAlike : (ℕ → ℕ) → List (Pair Text) → List (Pair Text) → Type 0
AreAlike count pairs others = (number : ℕ) → 0 < count number → text_in pairs number ≡ text_in others number

outbox_alike : (pairs others : List (Pair Text)) (outbox : Outbox) → AreAlike (λ number. times number outbox) pairs others →
    frames_in pairs outbox ≡ frames_in others outbox
outbox_alike pairs others [] alike = refl
outbox_alike pairs others (first ∷ outbox) alike =
    by first (λ number there. alike number (omega (arith, there, times_cons number first outbox)))
    ∙ ap (λ frames. frame_in others first ∷ frames)
    (outbox_alike pairs others outbox (λ number there. alike number (omega (arith, there, times_cons number first outbox))))
  where
    by : (w : Waiting) → ((number : ℕ) → 0 < one_if (is_of number w) → text_in pairs number ≡ text_in others number) →
        frame_in pairs w ∷ frames_in pairs outbox ≡ frame_in others w ∷ frames_in pairs outbox
    by (waiting.Reply text) same = refl
    by (waiting.Event number) same =
        ap (λ text. Event text ∷ frames_in pairs outbox)
        (same number (subst (λ b. 0 < one_if b) (sym (same_number number)) (omega arith)))

pub outboxes_alike : (pairs others : List (Pair Text)) (outboxes : List Outbox) → AreAlike (λ number. times_in number outboxes) pairs others →
    outboxes_in pairs outboxes ≡ outboxes_in others outboxes
outboxes_alike pairs others [] alike = refl
outboxes_alike pairs others (outbox ∷ outboxes) alike =
    ap (λ frames. frames ∷ outboxes_in pairs outboxes)
    (outbox_alike pairs others outbox (λ number there. alike number (omega (arith, there, sum_by-cons (times number) outbox outboxes))))
    ∙ ap (λ all. frames_in others outbox ∷ all)
    (outboxes_alike pairs others outboxes
    (λ number there. alike number (omega (arith, there, sum_by-cons (times number) outbox outboxes))))

-- how often numbers are given
given_cons : (number : ℕ) (given : Given) (all : List Given) →
    times_given number (given ∷ all) ≡ times number given.waiting + times_given number all
given_cons number given all = sum_by-cons (λ (g : Given). times number g.waiting) given all

pub gifts_alike : (pairs others : List (Pair Text)) (all : List Given) → AreAlike (λ number. times_given number all) pairs others →
    gifts_in pairs all ≡ gifts_in others all
gifts_alike pairs others [] alike = refl
gifts_alike pairs others (given ∷ all) alike =
    ap (λ (frames : Frames). record { conn = given.conn; frames = frames } ∷ gifts_in pairs all)
    (outbox_alike pairs others given.waiting (λ number there. alike number (omega (arith, there, given_cons number given all))))
    ∙ ap (λ gifts. gift_in others given ∷ gifts)
    (gifts_alike pairs others all (λ number there. alike number (omega (arith, there, given_cons number given all))))

-- replies come to the same whatever is held
pub replies_alike : (pairs others : List (Pair Text)) (all : List Given) → AreReplies all → gifts_in pairs all ≡ gifts_in others all
replies_alike pairs others all replies =
    gifts_alike pairs others all (λ number there. absurd (omega (arith, there, replies.each number)))

-- where nothing waits there are no frames
pub none_come : (pairs : List (Pair Text)) (count : ℕ) → outboxes_in pairs (replicate count []) ≡ replicate count []
none_come pairs zero = refl
none_come pairs (suc count) = ap (λ (rest : List Frames). [] ∷ rest) (none_come pairs count)

-- ---- how much waits

pub events_waiting : (pairs : List (Pair Text)) (outbox : Outbox) → events_in (frames_in pairs outbox) ≡ numbers_in outbox
events_waiting pairs [] = refl
events_waiting pairs (first ∷ outbox) =
    omega (
      arith,
      sum_by-cons (λ frame. one_if (is_event frame)) (frame_in pairs first) (frames_in pairs outbox),
      sum_by-cons (λ w. one_if (is_number w)) first outbox,
      by first,
      events_waiting pairs outbox,
    )
  where
    by : (w : Waiting) → one_if (is_event (frame_in pairs w)) ≡ one_if (is_number w)
    by (waiting.Reply text) = refl
    by (waiting.Event number) = refl

-- what waits at a seat comes to what waits there by definition
pub outbox_is : (pairs : List (Pair Text)) (outboxes : List Outbox) (seat : ℕ) →
    outbox_at (outboxes_in pairs outboxes) seat ≡ frames_in pairs (waiting_at outboxes seat)
outbox_is pairs [] seat = refl
outbox_is pairs (outbox ∷ outboxes) zero = refl
outbox_is pairs (outbox ∷ outboxes) (suc seat) = outbox_is pairs outboxes seat

pub len_waiting : (pairs : List (Pair Text)) (outboxes : List Outbox) (seat : ℕ) →
    length (outbox_at (outboxes_in pairs outboxes) seat) ≡ length (waiting_at outboxes seat)
len_waiting pairs outboxes seat =
    ap length (outbox_is pairs outboxes seat) ∙ length-map (waiting_at outboxes seat) (frame_in pairs)

pub events_at : (pairs : List (Pair Text)) (outboxes : List Outbox) (seat : ℕ) →
    events_in (outbox_at (outboxes_in pairs outboxes) seat) ≡ numbers_in (waiting_at outboxes seat)
events_at pairs outboxes seat = ap events_in (outbox_is pairs outboxes seat) ∙ events_waiting pairs (waiting_at outboxes seat)

-- how often a number waits at one seat is no more than at all
times_at : (number seat : ℕ) (outboxes : List Outbox) → times number (waiting_at outboxes seat) ≤ times_in number outboxes
times_at number seat [] = omega arith
times_at number zero (outbox ∷ outboxes) = omega (arith, sum_by-cons (times number) outbox outboxes)
times_at number (suc seat) (outbox ∷ outboxes) =
    omega (arith, sum_by-cons (times number) outbox outboxes, times_at number seat outboxes)

-- the text of what waits first is known
pub first_known : (pairs : List (Pair Text)) (outboxes : List Outbox) (seat : ℕ) → AreRead outboxes pairs →
    first_text (record { outboxes = outboxes; pairs = pairs }) seat ≡ option_map text_of (first_at (outboxes_in pairs outboxes) seat)
first_known pairs outboxes seat read =
    by (waiting_at outboxes seat) (λ number there. omega (arith, there, times_at number seat outboxes, read.each number))
    ∙ ap (λ frames. option_map text_of (slice_get frames 0)) (sym (outbox_is pairs outboxes seat))
  where
    known : (w : Waiting) → ((number : ℕ) → 0 < one_if (is_of number w) → 0 < readers_of number pairs) →
        known_text pairs w ≡ Some (text_of (frame_in pairs w))
    known (waiting.Reply text) some = refl
    known (waiting.Event number) some =
        text_held number pairs (some number (subst (λ b. 0 < one_if b) (sym (same_number number)) (omega arith)))

    by : (outbox : Outbox) → ((number : ℕ) → 0 < times number outbox → 0 < readers_of number pairs) →
        option_and_then (known_text pairs) (slice_get outbox 0) ≡ option_map text_of (slice_get (frames_in pairs outbox) 0)
    by [] some = refl
    by (first ∷ outbox) some = known first (λ number there. some number (omega (arith, there, times_cons number first outbox)))

-- ---- one is taken out

-- how often a number waits once what waits first at a seat is taken out
times_taken : (number seat : ℕ) (outboxes : List Outbox) (first : Waiting) (rest : Outbox) → waiting_at outboxes seat ≡ first ∷ rest →
    times_in number (slice_set outboxes seat rest) + one_if (is_of number first) ≡ times_in number outboxes
times_taken number seat outboxes first rest is = by (nat_lt seat (length outboxes)) refl
  where
    by : (b : Bool) → nat_lt seat (length outboxes) ≡ b →
        times_in number (slice_set outboxes seat rest) + one_if (is_of number first) ≡ times_in number outboxes
    by true e =
        omega (
          arith,
          sum_by-set (times number) outboxes seat rest [] (ltb-true seat (length outboxes) e),
          ap (times number) is,
          times_cons number first rest,
        )
    by false e = let none : waiting_at outboxes seat ≡ [] = past outboxes seat (ltb-false seat (length outboxes) e) in absurd (not_none (sym is ∙ none))
      where
        past : (outboxes : List Outbox) (seat : ℕ) → length outboxes ≤ seat → waiting_at outboxes seat ≡ []
        past [] seat less = refl
        past (outbox ∷ outboxes) zero less = absurd (omega (arith, less))
        past (outbox ∷ outboxes) (suc seat) less = past outboxes seat (omega (arith, less))

        not_none : first ∷ rest ≡ [] → ⊥
        not_none same = absurd cc

-- nothing changes where nothing waits
none_taken : (seat : ℕ) (outboxes : List Outbox) → waiting_at outboxes seat ≡ [] → slice_set outboxes seat [] ≡ outboxes
none_taken seat [] none = refl
none_taken zero (outbox ∷ outboxes) none = ap (λ o. o ∷ outboxes) (sym none)
none_taken (suc seat) (outbox ∷ outboxes) none = ap (λ all. outbox ∷ all) (none_taken seat outboxes none)

-- what holds once what waits first at a seat is taken out
pub record IsTaken (seat : ℕ) (mail : Mail) : Type 0 where
  pub read : AreRead (without_first seat mail).outboxes (without_first seat mail).pairs
  pub come : outboxes_in (without_first seat mail).pairs (without_first seat mail).outboxes ≡ without_first_frame seat
      (outboxes_in mail.pairs mail.outboxes)
  pub below : (end : ℕ) → AreBelow end mail.pairs → AreBelow end (without_first seat mail).pairs

-- the frames without the first of a seat
come_without : (pairs : List (Pair Text)) (outboxes : List Outbox) (seat : ℕ) →
    outboxes_in pairs (slice_set outboxes seat (drop 1 (waiting_at outboxes seat))) ≡ without_first_frame seat (outboxes_in pairs outboxes)
come_without pairs outboxes seat =
    map-set (frames_in pairs) outboxes seat (drop 1 (waiting_at outboxes seat))
    ∙ ap (slice_set (outboxes_in pairs outboxes) seat)
    (sym (drop-map (frame_in pairs) 1 (waiting_at outboxes seat)) ∙ ap (drop 1) (sym (outbox_is pairs outboxes seat)))

pub taken_first : (seat : ℕ) (mail : Mail) → IsSound mail.pairs → AreRead mail.outboxes mail.pairs → IsTaken seat mail
taken_first seat mail sound read = by (waiting_at mail.outboxes seat) refl
  where
    outboxes : List Outbox
    outboxes = mail.outboxes

    pairs : List (Pair Text)
    pairs = mail.pairs

    after : Outbox → Mail
    after outbox = record { outboxes = slice_set outboxes seat (drop 1 outbox); pairs = first_gone outbox pairs }

    put : (outbox : Outbox) → waiting_at outboxes seat ≡ outbox → AreRead (after outbox).outboxes (after outbox).pairs →
        outboxes_in (after outbox).pairs (after outbox).outboxes ≡ outboxes_in pairs (after outbox).outboxes →
        ((end : ℕ) → AreBelow end pairs → AreBelow end (after outbox).pairs) → IsTaken seat mail
    put outbox is r c b =
        subst (λ (o : Outbox). (waiting_at outboxes seat ≡ o) → IsTaken seat mail) is
        (λ _. record {
          read = subst (λ o. AreRead (after o).outboxes (after o).pairs) (sym is) r;
          come = subst (λ o. outboxes_in (after o).pairs (after o).outboxes ≡ outboxes_in pairs (after o).outboxes) (sym is) c
              ∙ come_without pairs outboxes seat;
          below = subst (λ o. (end : ℕ) → AreBelow end pairs → AreBelow end (after o).pairs) (sym is) b;
        }) is

    by : (outbox : Outbox) → waiting_at outboxes seat ≡ outbox → IsTaken seat mail
    by [] is =
        put [] is (subst (λ all. AreRead all pairs) (sym (none_taken seat outboxes is)) read) refl (λ end below. below)
    by (first ∷ rest) is =
        let left : (number : ℕ) → readers_of number (gone first pairs) ≡ times_in number (slice_set outboxes seat rest) =
        λ number. omega (arith, readers_gone first number pairs sound, read.each number, times_taken number seat outboxes first rest is) in
        put (first ∷ rest) is (record { each = left })
        (outboxes_alike (gone first pairs) pairs (slice_set outboxes seat rest)
        (λ number there. texts_gone first number pairs sound (omega (arith, there, left number))))
        (λ end below. below_gone first end pairs below)

-- ---- all is put behind what waits

-- events are held for as many readers as their numbers wait for, and are given
pub record AreOwed (all : List Given) (mail : Mail) : Type 0 where
  pub sound : IsSound mail.pairs
  pub each : (number : ℕ) → readers_of number mail.pairs ≡ times_in number mail.outboxes + times_given number all

-- what holds once a first one is put behind what waits
record IsPut (found : Option ℕ) (given : Given) (all : List Given) (mail : Mail) : Type 0 where
  owed : AreOwed all (with_waiting found given.waiting mail)
  come : outboxes_in (with_waiting found given.waiting mail).pairs (with_waiting found given.waiting mail).outboxes
      ≡ with_frames_at found (frames_in mail.pairs given.waiting) (outboxes_in mail.pairs mail.outboxes)
  gifts : gifts_in (with_waiting found given.waiting mail).pairs all ≡ gifts_in mail.pairs all

-- it is gone
put_nowhere : (given : Given) (all : List Given) (mail : Mail) → AreOwed (given ∷ all) mail → IsPut None given all mail
put_nowhere given all mail owed =
    let pairs = mail.pairs in
    let left : (number : ℕ) → readers_of number (all_gone given.waiting pairs) ≡ times_in number mail.outboxes + times_given number all =
    λ number. omega (arith, readers_all_gone given.waiting number pairs owed.sound, owed.each number, given_cons number given all) in
    record {
      owed = record { sound = sound_all_gone given.waiting pairs owed.sound; each = left };
      come = outboxes_alike (all_gone given.waiting pairs) pairs mail.outboxes
          (λ number there. texts_all_gone given.waiting number pairs owed.sound (omega (arith, there, left number)));
      gifts = gifts_alike (all_gone given.waiting pairs) pairs all
          (λ number there. texts_all_gone given.waiting number pairs owed.sound (omega (arith, there, left number)));
    }

-- it is put behind what waits at a seat, or gone
abbrev put_at : ℕ → Outbox → Mail → Bool → Mail
put_at seat waiting mail within =
    if within then record mail { outboxes = slice_set mail.outboxes seat (waiting_at mail.outboxes seat ++ waiting) }
    else record mail { pairs = all_gone waiting mail.pairs }

put_there : (seat : ℕ) (given : Given) (all : List Given) (mail : Mail) → AreOwed (given ∷ all) mail → IsPut (Some seat) given all mail
put_there seat given all mail owed = by (nat_lt seat (length mail.outboxes)) refl
  where
    pairs : List (Pair Text)
    pairs = mail.pairs

    outboxes : List Outbox
    outboxes = mail.outboxes

    more : Outbox
    more = waiting_at outboxes seat ++ given.waiting

    frames : Frames
    frames = frames_in pairs given.waiting

    at : Bool → Mail
    at b = put_at seat given.waiting mail b

    put : (b : Bool) → nat_lt seat (length outboxes) ≡ b → AreOwed all (at b) →
        outboxes_in (at b).pairs (at b).outboxes ≡ with_frames seat frames (outboxes_in pairs outboxes) →
        gifts_in (at b).pairs all ≡ gifts_in pairs all → IsPut (Some seat) given all mail
    put b e o c g = record {
      owed = subst (λ b. AreOwed all (at b)) (sym e) o;
      come = ap (λ b. outboxes_in (at b).pairs (at b).outboxes) e ∙ c;
      gifts = ap (λ b. gifts_in (at b).pairs all) e ∙ g;
    }

    by : (b : Bool) → nat_lt seat (length outboxes) ≡ b → IsPut (Some seat) given all mail
    by true e =
        let within : seat < length outboxes = ltb-true seat (length outboxes) e in
        put true e
        (record {
          sound = owed.sound;
          each = λ number. omega (
            arith,
            sum_by-set (times number) outboxes seat more [] within,
            sum_by-append (λ w. cond (is_of number w) 1 0) (waiting_at outboxes seat) given.waiting,
            owed.each number,
            given_cons number given all,
          );
        })
        (map-set (frames_in pairs) outboxes seat more
        ∙ ap (slice_set (outboxes_in pairs outboxes) seat)
        (map-append (frame_in pairs) (waiting_at outboxes seat) given.waiting ∙ ap (λ o. o ++ frames) (sym (outbox_is pairs outboxes seat))))
        refl
    by false e =
        let none = put_nowhere given all mail owed in
        let past : length (outboxes_in pairs outboxes) ≤ seat =
        omega (arith, length-map outboxes (frames_in pairs), ltb-false seat (length outboxes) e) in
        put false e none.owed
        (none.come ∙ sym (set_past (outboxes_in pairs outboxes) seat (outbox_at (outboxes_in pairs outboxes) seat ++ frames) past)) none.gifts

put_behind : (found : Option ℕ) (given : Given) (all : List Given) (mail : Mail) → AreOwed (given ∷ all) mail → IsPut found given all mail
put_behind None given all mail owed = put_nowhere given all mail owed
put_behind (Some seat) given all mail owed = put_there seat given all mail owed

-- what holds once all is
pub record IsDelivered (conns : List (Option (Numbered Conn))) (all : List Given) (mail : Mail) : Type 0 where
  pub read : AreRead (mail_delivered conns all mail).outboxes (mail_delivered conns all mail).pairs
  pub come : outboxes_in (mail_delivered conns all mail).pairs (mail_delivered conns all mail).outboxes
      ≡ delivered conns (gifts_in mail.pairs all) (outboxes_in mail.pairs mail.outboxes)

pub all_delivered : (conns : List (Option (Numbered Conn))) (all : List Given) (mail : Mail) → AreOwed all mail → IsDelivered conns all mail
all_delivered conns [] mail owed = record { read = record { each = λ number. omega (arith, owed.each number) }; come = refl }
all_delivered conns (given ∷ all) mail owed =
    let found = seat_of conns given.conn in
    let now = with_waiting found given.waiting mail in
    let put = put_behind found given all mail owed in
    let rest = all_delivered conns all now put.owed in
    record {
      read = record { each = λ number. rest.read.each number };
      come = rest.come
          ∙ ap (λ gifts. delivered conns gifts (outboxes_in now.pairs now.outboxes)) put.gifts
          ∙ ap (delivered conns (gifts_in mail.pairs all)) put.come;
    }

-- ---- in several parts

pub mail_append : (conns : List (Option (Numbered Conn))) (a b : List Given) (mail : Mail) →
    mail_delivered conns (a ++ b) mail ≡ mail_delivered conns b (mail_delivered conns a mail)
mail_append conns [] b mail = refl
mail_append conns (given ∷ a) b mail = mail_append conns a b (with_waiting (seat_of conns given.conn) given.waiting mail)

pub given_append : (number : ℕ) (a b : List Given) → times_given number (a ++ b) ≡ times_given number a + times_given number b
given_append number a b = sum_by-append (λ (g : Given). times number g.waiting) a b

pub waiting_append : (a b : List Given) → waiting_given (a ++ b) ≡ waiting_given a + waiting_given b
waiting_append a b = sum_by-append (λ (g : Given). length g.waiting) a b

-- how many frames are given
pub frames_waiting : (pairs : List (Pair Text)) (all : List Given) → frames_given (gifts_in pairs all) ≡ waiting_given all
frames_waiting pairs [] = refl
frames_waiting pairs (given ∷ all) =
    omega (
      arith,
      sum_by-cons (λ (g : Gift). length g.frames) (gift_in pairs given) (gifts_in pairs all),
      sum_by-cons (λ (g : Given). length g.waiting) given all,
      length-map given.waiting (frame_in pairs),
      frames_waiting pairs all,
    )

-- ---- how much room there is

-- no numbers go lower
pub below_delivered : (conns : List (Option (Numbered Conn))) (all : List Given) (mail : Mail) (end : ℕ) → AreBelow end mail.pairs →
    AreBelow end (mail_delivered conns all mail).pairs
below_delivered conns [] mail end below = below
below_delivered conns (given ∷ all) mail end below =
    below_delivered conns all (with_waiting (seat_of conns given.conn) given.waiting mail) end (by (seat_of conns given.conn))
  where
    by : (found : Option ℕ) → AreBelow end (with_waiting found given.waiting mail).pairs
    by None = below_all_gone given.waiting end mail.pairs below
    by (Some seat) = on (nat_lt seat (length mail.outboxes))
      where
        on : (b : Bool) → AreBelow end (put_at seat given.waiting mail b).pairs
        on true = below
        on false = below_all_gone given.waiting end mail.pairs below

waiting_cons : (given : Given) (all : List Given) → waiting_given (given ∷ all) ≡ length given.waiting + waiting_given all
waiting_cons given all = sum_by-cons (λ (g : Given). length g.waiting) given all

-- there is room for what is put behind, and for so many more then
pub room_put : (found : Option ℕ) (waiting : Outbox) (mail : Mail) (n : ℕ) → HaveRoom mail.outboxes (length waiting + n) →
    HaveRoom (with_waiting found waiting mail).outboxes n
room_put None waiting mail n room = room_less mail.outboxes n (length waiting + n) (omega arith) room
room_put (Some seat) waiting mail n room = by (nat_lt seat (length mail.outboxes))
  where
    by : (b : Bool) → HaveRoom (put_at seat waiting mail b).outboxes n
    by true =
        room_with seat (waiting_at mail.outboxes seat ++ waiting) mail.outboxes n (length waiting)
        (omega (arith, length-append (waiting_at mail.outboxes seat) waiting)) room
    by false = room_less mail.outboxes n (length waiting + n) (omega arith) room

pub room_first : (given : Given) (all : List Given) (outboxes : List Outbox) → HaveRoom outboxes (waiting_given (given ∷ all)) →
    HaveRoom outboxes (length given.waiting)
room_first given all outboxes room =
    room_less outboxes (length given.waiting) (waiting_given (given ∷ all)) (omega (arith, waiting_cons given all)) room

pub room_next : (found : Option ℕ) (given : Given) (all : List Given) (mail : Mail) → HaveRoom mail.outboxes (waiting_given (given ∷ all)) →
    HaveRoom (with_waiting found given.waiting mail).outboxes (waiting_given all)
room_next found given all mail room =
    room_put found given.waiting mail (waiting_given all) (subst (HaveRoom mail.outboxes) (waiting_cons given all) room)

pub room_delivered : (conns : List (Option (Numbered Conn))) (all : List Given) (mail : Mail) (n : ℕ) →
    HaveRoom mail.outboxes (waiting_given all + n) → HaveRoom (mail_delivered conns all mail).outboxes n
room_delivered conns [] mail n room = room_less mail.outboxes n (0 + n) (omega arith) room
room_delivered conns (given ∷ all) mail n room =
    let found = seat_of conns given.conn in
    let split : waiting_given (given ∷ all) + n ≡ length given.waiting + (waiting_given all + n) = omega (arith, waiting_cons given all) in
    room_delivered conns all (with_waiting found given.waiting mail) n
    (room_put found given.waiting mail (waiting_given all + n) (subst (HaveRoom mail.outboxes) split room))

-- as much waits as there are frames
pub room_waiting : (pairs : List (Pair Text)) (outboxes : List Outbox) (n : ℕ) → HaveRoom (outboxes_in pairs outboxes) n → HaveRoom outboxes n
room_waiting pairs outboxes n room = record {
  each = λ k d within. omega (
    arith,
    room.each k (frames_in pairs d) (omega (arith, within, length-map outboxes (frames_in pairs))),
    ap length (at_index (frames_in pairs) outboxes k d),
    length-map (get_or outboxes k d) (frame_in pairs),
  );
}

pub room_frames : (pairs : List (Pair Text)) (outboxes : List Outbox) (n : ℕ) → HaveRoom outboxes n → HaveRoom (outboxes_in pairs outboxes) n
room_frames pairs outboxes n room = record {
  each = λ k d within.
      let here : k < length outboxes = omega (arith, within, length-map outboxes (frames_in pairs)) in
      omega (
        arith,
        room.each k [] here,
        ap length (get_or-map (frames_in pairs) outboxes k [] d here),
        length-map (get_or outboxes k []) (frame_in pairs),
      );
}

pub within_delivered : (conns : List (Option (Numbered Conn))) (all : List Given) (mail : Mail) (most : ℕ) → AreWithin mail.outboxes most →
    AreWithin (mail_delivered conns all mail).outboxes (most + waiting_given all)
within_delivered conns [] mail most within = within_less mail.outboxes most (most + 0) (omega arith) within
within_delivered conns (given ∷ all) mail most within =
    let found = seat_of conns given.conn in
    within_less (mail_delivered conns (given ∷ all) mail).outboxes (most + length given.waiting + waiting_given all) (most + waiting_given (given ∷ all))
    (omega (arith, waiting_cons given all))
    (within_delivered conns all (with_waiting found given.waiting mail) (most + length given.waiting) (by found))
  where
    by : (found : Option ℕ) → AreWithin (with_waiting found given.waiting mail).outboxes (most + length given.waiting)
    by None = within_less mail.outboxes most (most + length given.waiting) (omega arith) within
    by (Some seat) = on (nat_lt seat (length mail.outboxes))
      where
        on : (b : Bool) → AreWithin (put_at seat given.waiting mail b).outboxes (most + length given.waiting)
        on true = within_given seat given.waiting mail.outboxes most within
        on false = within_less mail.outboxes most (most + length given.waiting) (omega arith) within
