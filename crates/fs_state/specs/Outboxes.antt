-- The frames that wait for connections.
use Rattle.std.specs.Prelude.{◌≡◌, ℕ, ◌+◌, ◌<◌, ◌≤◌, ◌^◌, List, [], ◌∷◌, ◌++◌, length, drop, replicate}
use Rattle.std.specs.Prelude.{sum_by, get_or, Option, None, Some}
use Rattle.std.specs.List.{slice_get, slice_set, All}
use Rattle.fs_event.specs.Rings.{no_events}
use Rattle.fs_seats.specs.declared.numbered.Numbered.{Numbered}
use Rattle.fs_seats.specs.Rows.{seat_of}
use Rattle.fs_state.specs.declared.conn.Conn.{Conn}
use Rattle.fs_state.specs.declared.delta.Delta.{Delta}
use Rattle.fs_state.specs.declared.delta.OutboxChange.{OutboxChange}
use Rattle.fs_state.specs.declared.delta.OutboxChange.TheVariants.{Unchanged, Taken, Cleared}
use Rattle.fs_state.specs.Frames.{Outgoing, Gift}
use Rattle.fs_state.specs.Waiting.{Waits, gifts_of_posts, no_posts}
pub use Rattle.fs_state.specs.Frames.{Frames, text_of, texts_of, is_event, events_in}

-- so many outboxes in which nothing waits
unfoldable pub no_outboxes : ℕ → List Frames
no_outboxes count = replicate count []

-- so many, and no event
abbrev pub nothing_waits : ℕ → Waits
nothing_waits count = record { frames = no_outboxes count; ring = no_events }

-- what waits at a seat
abbrev pub outbox_at : List Frames → ℕ → Frames
outbox_at outboxes seat = get_or outboxes seat []

-- the frame that waits first at a seat
abbrev pub first_at : List Frames → ℕ → Option Outgoing
first_at outboxes seat = slice_get (outbox_at outboxes seat) 0

-- with another outbox at a seat
abbrev pub with_outbox : ℕ → Frames → List Frames → List Frames
with_outbox seat outbox outboxes = slice_set outboxes seat outbox

-- without the first frame of a seat
abbrev pub without_first_frame : ℕ → List Frames → List Frames
without_first_frame seat outboxes = with_outbox seat (drop 1 (outbox_at outboxes seat)) outboxes

-- with nothing at a seat
abbrev pub without_frames : ℕ → List Frames → List Frames
without_frames seat outboxes = with_outbox seat [] outboxes

-- with frames behind all others of a seat
abbrev pub with_frames : ℕ → Frames → List Frames → List Frames
with_frames seat frames outboxes = with_outbox seat (outbox_at outboxes seat ++ frames) outboxes

-- what a change does to the outboxes
abbrev pub outboxes_after : OutboxChange → List Frames → List Frames
outboxes_after Unchanged outboxes = outboxes
outboxes_after (Taken seat) outboxes = without_first_frame seat outboxes
outboxes_after (Cleared seat) outboxes = without_frames seat outboxes

-- ---- what an entry gives

-- frames for a connection that stands at a seat, or for none
abbrev pub with_frames_at : Option ℕ → Frames → List Frames → List Frames
with_frames_at None frames outboxes = outboxes
with_frames_at (Some seat) frames outboxes = with_frames seat frames outboxes

-- with a gift behind the frames of its connection, if that is there
abbrev pub with_gift_delivered : List (Option (Numbered Conn)) → Gift → List Frames → List Frames
with_gift_delivered conns gift outboxes = with_frames_at (seat_of conns gift.conn) gift.frames outboxes

-- with what is given to connections; what is given to one that is not there is dropped
abbrev pub delivered : List (Option (Numbered Conn)) → List Gift → List Frames → List Frames
delivered conns [] outboxes = outboxes
delivered conns (gift ∷ gifts) outboxes = delivered conns gifts (with_gift_delivered conns gift outboxes)

-- all that a change gives, in order
abbrev pub all_of : Delta → List Gift
all_of d = d.replies ++ (gifts_of_posts d.posted ++ (d.late ++ d.notices))

-- a change gives nothing
pub record GivesNothing (d : Delta) : Type 0 where
  pub replies : d.replies ≡ []
  pub posted : d.posted ≡ no_posts
  pub late : d.late ≡ []
  pub notices : d.notices ≡ []

-- how many frames are given
abbrev pub frames_given : List Gift → ℕ
frames_given gifts = sum_by (λ gift. length gift.frames) gifts

-- each outbox may grow by so many frames, as far as lengths go
pub record HaveRoom {T : Type 0} (outboxes : List (List T)) (count : ℕ) : Type 0 where
  pub each : All (λ outbox. length outbox + count < 2 ^ 63) outboxes

-- no outbox has more frames than so many
pub record AreWithin {T : Type 0} (outboxes : List (List T)) (most : ℕ) : Type 0 where
  pub each : All (λ outbox. length outbox ≤ most) outboxes
