-- The state of a switch.
use Rattle.std.specs.Prelude.{ℕ, ◌+◌, ◌-◌, ◌^◌, ◌≤◌, min, max, nat_lt, Bool, false, ◌&&◌, List, [], ◌∷◌, ◌++◌, length, position, Option, None, Some, is_none}
use Rattle.std.specs.Prelude.{is_some}
use Rattle.std.specs.Str.{bytes_eq}
use Rattle.fs_text.specs.CoreId as core_id
use Rattle.fs_text.specs.Texts.{Text}
use Rattle.fs_vars.specs.Variables.{Variables}
use Rattle.fs_doc.specs.declared.settings.Settings.{Settings}
use Rattle.fs_doc.specs.Dialplans.{Context}
use Rattle.fs_doc.specs.Reading.{Configuration}
use Rattle.fs_event.specs.Rings.{Events}
use Rattle.fs_chan.specs.declared.chan.Chan.{Chan}
use Rattle.fs_chan.specs.Changes.{is_live}
use Rattle.fs_bridge.specs.declared.row.Row.{Row}
use Rattle.fs_bridge.specs.declared.row.BridgeKind.{BridgeKind}
use Rattle.fs_bridge.specs.Bridges.{BridgeRows, no_bridges, part_of, joined, unbridged}
use Rattle.fs_orig.specs.declared.orig.Orig.{Orig}
use Rattle.fs_seats.specs.declared.numbered.Numbered.{Numbered}
use Rattle.fs_seats.specs.Seats.{no_seats, held_in, with_held, first_seat, least_free}
use Rattle.fs_seats.specs.Rows.{seat_of, row_of, with_row, without_row, with_new_row}
use Rattle.fs_state.specs.declared.conn.Conn.{Conn}
use Rattle.fs_state.specs.declared.drawn.Drawn.{Drawn}
use Rattle.fs_state.specs.declared.event.Event.{Event}
use Rattle.fs_state.specs.declared.job.Job.{Job}
use Rattle.fs_state.specs.Drawn as numbers
use Rattle.fs_state.specs.Drawn.{none_drawn}
use Rattle.fs_state.specs.Counts.{Tallies, no_tallies, with_events_counted}
use Rattle.fs_state.specs.Frames.{Gift, Reply}
use Rattle.fs_state.specs.Losses.{Losses, no_losses}
use Rattle.fs_state.specs.Outboxes.{Frames, texts_of, no_outboxes, outbox_at, without_first_frame, without_frames, delivered}

-- A switch between entries, and while an entry is done. Channels stand at their slots, from 1 on; all else has a number. What happens in
-- the entry in hand, and what it gives to connections, is kept until the entry is over: the reply to its own command, then what it posts
-- of its events, then replies that were owed, then notices.
pub record Switch : Type 0 where
  -- what never changes
  pub settings : Settings
  -- the contexts in force, and how often others came into force
  pub contexts : List Context
  pub reloads : ℕ
  -- what is there
  pub globals : Variables
  pub channels : List (Option Chan)
  pub bridges : BridgeRows
  pub origs : List (Option (Numbered Orig))
  pub jobs : List (Option (Numbered Job))
  pub conns : List (Option (Numbered Conn))
  pub outboxes : List Frames
  -- how far it has come
  pub drawn : Drawn
  pub moment : ℕ
  pub entries : ℕ
  pub cost : ℕ
  -- the place of the entry by which it came to its end, once one did
  pub stopping : Option ℕ
  pub counts : Tallies
  pub losses : Losses
  -- the entry in hand
  pub news : List Event
  pub replies : List Gift
  pub posted : List Gift
  pub late : List Gift
  pub notices : List Gift

-- A switch as it is kept: the events that wait for connections are held in a ring, each once, with its number and how many are still to
-- read it.
pub record Kept : Type 0 where
  pub switch : Switch
  pub ring : Events Text

-- a switch to which nothing has happened
abbrev pub empty : Configuration → Switch
empty config = record {
  settings = config.settings;
  contexts = config.contexts;
  reloads = 0;
  globals = config.globals;
  channels = no_seats (config.settings.max_sessions + 1);
  bridges = no_bridges;
  origs = no_seats 1280;
  jobs = no_seats 1024;
  conns = no_seats config.settings.max_connections;
  outboxes = no_outboxes config.settings.max_connections;
  drawn = none_drawn;
  moment = 0;
  entries = 0;
  cost = 0;
  stopping = None;
  counts = no_tallies;
  losses = no_losses;
  news = [];
  replies = [];
  posted = [];
  late = [];
  notices = [];
}

-- ---- the numbers that are drawn

-- the number that the next origination gets
abbrev pub next_orig_number : Switch → ℕ
next_orig_number s = (numbers.with_orig s.drawn).origs

-- the number that the next job gets
abbrev pub next_job_number : Switch → ℕ
next_job_number s = (numbers.with_job s.drawn).jobs

-- with one more identifier drawn
abbrev pub with_next_identifier : Switch → Switch
with_next_identifier s = record s { drawn = numbers.with_identifier s.drawn }

-- the identifier that was drawn last
abbrev pub identifier_of : Switch → Text
identifier_of s = core_id.uuid s.settings.core_uuid s.drawn.identifiers

-- ---- what is in force

-- the contexts of another configuration come into force
abbrev pub reloaded : Configuration → Switch → Switch
reloaded config s = record s { contexts = config.contexts; reloads = s.reloads + 1 }

-- ---- what is there

-- the channel in a slot
abbrev pub chan_at : Switch → ℕ → Option Chan
chan_at s slot = held_in s.channels slot

-- with this channel in a slot, or none
abbrev pub with_chan : ℕ → Option Chan → Switch → Switch
with_chan slot chan s = record s { channels = with_held s.channels slot chan }

-- the least free slot from one on
abbrev pub free_slot : ℕ → Switch → Option ℕ
free_slot from s = least_free s.channels from

-- there is a channel, it is live, and it has this identifier
abbrev pub is_live_as : Text → Option Chan → Bool
is_live_as uuid None = false
is_live_as uuid (Some c) = is_live c && bytes_eq c.uuid uuid

-- the least slot whose channel is live and has this identifier
abbrev pub slot_named : Text → Switch → Option ℕ
slot_named uuid s = position (is_live_as uuid) s.channels

-- there is a channel, live or not, and it has this identifier
abbrev pub is_called : Text → Option Chan → Bool
is_called uuid None = false
is_called uuid (Some c) = bytes_eq c.uuid uuid

-- the channel in some slot has it
abbrev pub is_held : Text → Switch → Bool
is_held uuid s = is_some (first_seat (is_called uuid) s.channels 0)

-- the bridge that a slot is a leg of
abbrev pub bridge_at : Switch → ℕ → Option Row
bridge_at s slot = part_of slot s.bridges

-- the number that the next bridge gets
abbrev pub next_bridge_number : Switch → ℕ
next_bridge_number s = s.bridges.drawn + 1

-- with a bridge between two slots, of the next number
abbrev pub with_bridge : ℕ → ℕ → BridgeKind → Switch → Switch
with_bridge caller answerer kind s = record s { bridges = joined caller answerer kind s.bridges }

-- without the bridge of a number
abbrev pub without_bridge : ℕ → Switch → Switch
without_bridge number s = record s { bridges = unbridged number s.bridges }

-- the origination of a number
abbrev pub orig_of : Switch → ℕ → Option Orig
orig_of s number = row_of s.origs number

-- with another origination in the place of the one of a number
abbrev pub with_orig : ℕ → Orig → Switch → Switch
with_orig number orig s = record s { origs = with_row s.origs number orig }

-- without the origination of a number
abbrev pub without_orig : ℕ → Switch → Switch
without_orig number s = record s { origs = without_row s.origs number }

-- without any origination
abbrev pub without_origs : Switch → Switch
without_origs s = record s { origs = no_seats (length s.origs) }

-- with one more origination, of the next number
abbrev pub with_new_orig : Orig → Switch → Switch
with_new_orig orig s = record s { drawn = numbers.with_orig s.drawn; origs = with_new_row s.origs (next_orig_number s) orig }

-- the job of a number
abbrev pub job_of : Switch → ℕ → Option Job
job_of s number = row_of s.jobs number

-- without the job of a number
abbrev pub without_job : ℕ → Switch → Switch
without_job number s = record s { jobs = without_row s.jobs number }

-- with one more job, of a number that none has
abbrev pub with_job : ℕ → Job → Switch → Switch
with_job number job s = record s { jobs = with_new_row s.jobs number job }

-- with one more job, of the next number
abbrev pub with_new_job : Job → Switch → Switch
with_new_job job s = record s { drawn = numbers.with_job s.drawn; jobs = with_new_row s.jobs (next_job_number s) job }

-- with this connection at a seat
abbrev pub with_conn_at : ℕ → Numbered Conn → Switch → Switch
with_conn_at seat row s = record s { conns = with_held s.conns seat (Some row) }

-- what stands at a seat for a job
abbrev pub job_at : Switch → ℕ → Option (Numbered Job)
job_at s seat = held_in s.jobs seat

-- each seat for a job is taken
abbrev pub is_full_of_jobs : Switch → Bool
is_full_of_jobs s = is_none (least_free s.jobs 0)

-- without any job
abbrev pub without_jobs : Switch → Switch
without_jobs s = record s { jobs = no_seats (length s.jobs) }

-- what stands at a seat for a connection
abbrev pub conn_at : Switch → ℕ → Option (Numbered Conn)
conn_at s seat = held_in s.conns seat

-- the connection of a number
abbrev pub conn_of : Switch → ℕ → Option Conn
conn_of s number = row_of s.conns number

-- with another connection in the place of the one of a number
abbrev pub with_conn : ℕ → Conn → Switch → Switch
with_conn number conn s = record s { conns = with_row s.conns number conn }

-- with one more connection, of the next number
abbrev pub with_new_conn : Conn → Switch → Switch
with_new_conn conn s = record s { drawn = numbers.with_conn s.drawn; conns = with_new_row s.conns (numbers.with_conn s.drawn).conns conn }

-- an entry of this cost would pass the limit
abbrev pub passes_limit : ℕ → Switch → Bool
passes_limit cost s = nat_lt s.settings.journal_limit (s.cost + cost)

-- the largest entry but that of a load, of 65,600, would pass the limit
abbrev pub is_full : Switch → Bool
is_full s = passes_limit 65600 s

-- the largest entry of a load, of 1,048,641, would pass it
abbrev pub is_full_for_load : Switch → Bool
is_full_for_load s = passes_limit 1048641 s

-- the largest entry but that of a load passes neither this limit nor 64 bits
abbrev pub HasRoomWithin : ℕ → Switch → Type 0
HasRoomWithin limit s = s.cost + 65600 ≤ min limit (2 ^ 64 - 1)

-- each seat for a connection is taken
abbrev pub is_full_of_conns : Switch → Bool
is_full_of_conns s = is_none (least_free s.conns 0)

-- the frames that wait at a seat, if it is one
abbrev pub waiting_at : List Frames → Option ℕ → Frames
waiting_at outboxes None = []
waiting_at outboxes (Some seat) = outbox_at outboxes seat

-- the frames that wait for a connection
abbrev pub outgoing_for : Switch → ℕ → Frames
outgoing_for s number = waiting_at s.outboxes (seat_of s.conns number)

-- their texts
abbrev pub waiting_for : Switch → ℕ → List Text
waiting_for s number = texts_of (outgoing_for s number)

-- what a change does to the frames at a seat, if it is one
abbrev pub changed_at : (ℕ → List Frames → List Frames) → Option ℕ → List Frames → List Frames
changed_at change None outboxes = outboxes
changed_at change (Some seat) outboxes = change seat outboxes

-- the first frame that waits for a connection is taken
abbrev pub with_frame_taken : ℕ → Switch → Switch
with_frame_taken number s = record s { outboxes = changed_at without_first_frame (seat_of s.conns number) s.outboxes }

-- a connection is gone, and with it the frames that wait for it
abbrev pub without_conn : ℕ → Switch → Switch
without_conn number s =
    record s { conns = without_row s.conns number; outboxes = changed_at without_frames (seat_of s.conns number) s.outboxes }

-- ---- the entry in hand

-- the clock comes to a moment; it never goes back
abbrev pub at_moment : ℕ → Switch → Switch
at_moment now s = record s { moment = max s.moment now }

-- the switch comes to its end by the entry in hand
abbrev pub stopped : Switch → Switch
stopped s = record s { stopping = Some s.entries }

-- something happened
abbrev pub with_event : Event → Switch → Switch
with_event event s = record s { news = s.news ++ event ∷ [] }

-- one frame for a connection that is no event
abbrev pub gift_of : ℕ → Text → Gift
gift_of conn text = record { conn = conn; frames = Reply text ∷ [] }

-- a connection gets a frame at once, before the events of the entry
abbrev pub with_frame_now : ℕ → Text → Switch → Switch
with_frame_now conn text s = record s { replies = s.replies ++ gift_of conn text ∷ [] }

-- it gets a reply that was owed, behind the events of the entry
abbrev pub with_late_reply : ℕ → Text → Switch → Switch
with_late_reply conn text s = record s { late = s.late ++ gift_of conn text ∷ [] }

-- it gets a notice, behind all else
abbrev pub with_notice : ℕ → Text → Switch → Switch
with_notice conn text s = record s { notices = s.notices ++ gift_of conn text ∷ [] }

-- all that the entry gives, in order
abbrev pub all_given : Switch → List Gift
all_given s = s.replies ++ (s.posted ++ (s.late ++ s.notices))

-- the entry is over, at this cost; a count stands still at 2^64 - 1
abbrev pub after_entry : ℕ → Switch → Switch
after_entry cost s = record s {
  outboxes = delivered s.conns (all_given s) s.outboxes;
  entries = min (s.entries + 1) (2 ^ 64 - 1);
  cost = min (s.cost + cost) (2 ^ 64 - 1);
  counts = with_events_counted s.news s.counts;
  news = [];
  replies = [];
  posted = [];
  late = [];
  notices = [];
}
