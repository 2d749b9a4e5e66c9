-- What waits for connections, as it is kept: replies as they are, and events by their numbers, with a ring of the events.
use Rattle.std.specs.Prelude.{◌≡◌, ℕ, ◌+◌, ◌-◌, ◌^◌, ◌<◌, ◌≤◌, ◌==◌, min, drop, Bool, true, false, List, [], map, length, All, count_by, sum_by, nat_lt, ◌++◌, ◌∷◌, if◌then◌else◌, get_or}
use Rattle.std.specs.Prelude.{Option, None, Some, unwrap_or, slice_get}
use Rattle.std.specs.List.{find, AllPairs, slice_set}
use Rattle.std.specs.Option.{option_and_then}
use Rattle.fs_text.specs.Texts.{Text}
use Rattle.fs_event.specs.Rings.{released, Pair, Events, event_of, has_number, AreBelow}
use Rattle.fs_seats.specs.declared.numbered.Numbered.{Numbered}
use Rattle.fs_seats.specs.Rows.{seat_of}
use Rattle.fs_state.specs.declared.conn.Conn.{Conn}
use Rattle.fs_state.specs.declared.outbox.Waiting.{Waiting}
use Rattle.fs_state.specs.declared.outbox.Waiting.TheVariants as waiting
use Rattle.fs_state.specs.declared.gift.Given.{Given}
use Rattle.fs_state.specs.Frames.{Outgoing, Reply, Event, Frames, Gift}

-- what waits for a connection, in order
abbrev pub Outbox : Type 0
Outbox = List Waiting

-- the text of the event of a number
abbrev pub text_in : List (Pair Text) → ℕ → Text
text_in pairs number = unwrap_or (event_of number pairs) []

-- the frame that waits, where these are the events
abbrev pub frame_in : List (Pair Text) → Waiting → Outgoing
frame_in pairs (waiting.Reply text) = Reply text
frame_in pairs (waiting.Event number) = Event (text_in pairs number)

-- the frames that wait
abbrev pub frames_in : List (Pair Text) → Outbox → Frames
frames_in pairs outbox = map (frame_in pairs) outbox

-- those that wait for each connection
abbrev pub outboxes_in : List (Pair Text) → List Outbox → List Frames
outboxes_in pairs outboxes = map (frames_in pairs) outboxes

-- the frames that are given to a connection
abbrev pub gift_in : List (Pair Text) → Given → Gift
gift_in pairs given = record { conn = given.conn; frames = frames_in pairs given.waiting }

-- so of all that is given
abbrev pub gifts_in : List (Pair Text) → List Given → List Gift
gifts_in pairs all = map (gift_in pairs) all

-- it tells of an event
abbrev pub is_number : Waiting → Bool
is_number (waiting.Reply text) = false
is_number (waiting.Event number) = true

-- how many do
abbrev pub numbers_in : Outbox → ℕ
numbers_in outbox = count_by is_number outbox

-- ---- how often a number stands there

-- it is the event of this number
abbrev pub is_of : ℕ → Waiting → Bool
is_of number (waiting.Reply text) = false
is_of number (waiting.Event other) = other == number

-- how often it waits for a connection
abbrev pub times : ℕ → Outbox → ℕ
times number outbox = count_by (is_of number) outbox

-- how often for all of them together
abbrev pub times_in : ℕ → List Outbox → ℕ
times_in number outboxes = sum_by (times number) outboxes

-- how often it is given
abbrev pub times_given : ℕ → List Given → ℕ
times_given number all = sum_by (λ given. times number given.waiting) all

-- how many are still to read an event, if it is held
abbrev pub readers_in : Option (Pair Text) → ℕ
readers_in None = 0
readers_in (Some pair) = pair.readers

-- how many are still to read the event of a number
abbrev pub readers_of : ℕ → List (Pair Text) → ℕ
readers_of number pairs = readers_in (find (has_number number) pairs)

-- each event is held for as many readers as its number waits for
pub record AreRead (outboxes : List Outbox) (pairs : List (Pair Text)) : Type 0 where
  pub each : (number : ℕ) → readers_of number pairs ≡ times_in number outboxes

-- What waits for connections is replies and numbers. With the texts of the ring it comes to these frames, and each number stands there as
-- often as its event has readers, so that no other event is held.
pub record AreHeld (frames : List Frames) (pairs : List (Pair Text)) : Type 0 where
  pub outboxes : List Outbox
  pub come : outboxes_in pairs outboxes ≡ frames
  pub each : (number : ℕ) → readers_of number pairs ≡ times_in number outboxes

-- the frames that wait, and the events of which they tell
pub record Waits : Type 0 where
  pub frames : List Frames
  pub ring : Events Text

-- no more events than there were, and no less room for some
pub record AreNoMore (before after : Events Text) : Type 0 where
  pub below : (end : ℕ) → AreBelow end before.pairs → AreBelow end after.pairs
  pub spare : before.spare ≤ after.spare

-- ---- what an entry gives

-- how much is given
abbrev pub waiting_given : List Given → ℕ
waiting_given all = sum_by (λ given. length given.waiting) all

-- the events with their numbers and how many are to read them, and what is given to each connection
pub record Posted : Type 0 where
  pub events : List (Pair Text)
  pub lists : List Given

-- nothing is posted
abbrev pub no_posts : Posted
no_posts = record { events = []; lists = [] }

-- the frames that are posted
abbrev pub gifts_of_posts : Posted → List Gift
gifts_of_posts posted = gifts_in posted.events posted.lists

-- numbers rise
abbrev pub AreOrdered : List (Pair Text) → Type 0
AreOrdered events = AllPairs (λ pair later. pair.number < later.number) events

-- numbers rise, and each event has as many readers as its number is given
pub record AreCounted (events : List (Pair Text)) (lists : List Given) : Type 0 where
  pub order : AreOrdered events
  pub each : (number : ℕ) → readers_of number events ≡ times_given number lists

-- the numbers follow upon so many, as far as so many more events go
pub record AreNumbered (before more : ℕ) (events : List (Pair Text)) : Type 0 where
  pub above : All (λ (pair : Pair Text). before < pair.number) events
  pub within : AreBelow (min (before + more) (2 ^ 64 - 1) + 1) events

-- no number is given
pub record AreReplies (all : List Given) : Type 0 where
  pub each : (number : ℕ) → times_given number all ≡ 0

-- the numbers of these events are greater than those of all that are held
pub record AreBehind (pairs events : List (Pair Text)) : Type 0 where
  pub each : All (λ (event : Pair Text). AreBelow event.number pairs) events

-- ---- how it is put behind what waits

-- what waits for the connections by their seats, and the events
pub record Mail : Type 0 where
  pub outboxes : List Outbox
  pub pairs : List (Pair Text)

-- what waited is gone
abbrev pub gone : Waiting → List (Pair Text) → List (Pair Text)
gone (waiting.Reply text) pairs = pairs
gone (waiting.Event number) pairs = released number pairs

-- so is all of this
abbrev pub all_gone : Outbox → List (Pair Text) → List (Pair Text)
all_gone [] pairs = pairs
all_gone (first ∷ outbox) pairs = all_gone outbox (gone first pairs)

-- what waits first at a seat is gone, if there is anything
abbrev pub first_gone : Outbox → List (Pair Text) → List (Pair Text)
first_gone [] pairs = pairs
first_gone (first ∷ outbox) pairs = gone first pairs

-- what waits at a seat
abbrev pub waiting_at : List Outbox → ℕ → Outbox
waiting_at outboxes seat = get_or outboxes seat []

-- the text of a frame that waits, if it is known
abbrev pub known_text : List (Pair Text) → Waiting → Option Text
known_text pairs (waiting.Reply text) = Some text
known_text pairs (waiting.Event number) = event_of number pairs

-- that of the frame that waits first at a seat
abbrev pub first_text : Mail → ℕ → Option Text
first_text mail seat = option_and_then (known_text mail.pairs) (slice_get (waiting_at mail.outboxes seat) 0)

-- without what waits first at a seat
abbrev pub without_first : ℕ → Mail → Mail
without_first seat mail = record {
  outboxes = slice_set mail.outboxes seat (drop 1 (waiting_at mail.outboxes seat));
  pairs = first_gone (waiting_at mail.outboxes seat) mail.pairs;
}

-- this is put behind what waits at a seat; where there is no such seat it is gone
abbrev pub with_waiting : Option ℕ → Outbox → Mail → Mail
with_waiting None waiting mail = record mail { pairs = all_gone waiting mail.pairs }
with_waiting (Some seat) waiting mail =
    if nat_lt seat (length mail.outboxes) then record mail { outboxes = slice_set mail.outboxes seat (waiting_at mail.outboxes seat ++ waiting) }
    else record mail { pairs = all_gone waiting mail.pairs }

-- all that is given is put behind what waits for its connection
abbrev pub mail_delivered : List (Option (Numbered Conn)) → List Given → Mail → Mail
mail_delivered conns [] mail = mail
mail_delivered conns (given ∷ all) mail = mail_delivered conns all (with_waiting (seat_of conns given.conn) given.waiting mail)

-- these gifts, which are replies, were put behind what waits for their connections
pub record AreDelivered (conns : List (Option (Numbered Conn))) (gifts : List Gift) (before after : Mail) : Type 0 where
  pub all : List Given
  pub come : gifts_in [] all ≡ gifts
  pub replies : AreReplies all
  pub done : after ≡ mail_delivered conns all before

-- events are held for whoever is to read them
abbrev pub with_event_held : Pair Text → List (Pair Text) → List (Pair Text)
with_event_held event pairs = if nat_lt 0 event.readers then pairs ++ event ∷ [] else pairs

-- one after another
abbrev pub with_events_held : List (Pair Text) → List (Pair Text) → List (Pair Text)
with_events_held [] pairs = pairs
with_events_held (event ∷ events) pairs = with_events_held events (with_event_held event pairs)
