-- The end of a switch: nothing is left to be done, and all connections part.
use Rattle.std.specs.Prelude.{ℕ, List, [], ◌∷◌, ◌++◌, map, flat_map, Option, None, Some}
use Rattle.fs_text.specs.Texts.{Text}
use Rattle.fs_filter.specs.Subscriptions.{nothing}
use Rattle.fs_seats.specs.declared.numbered.Numbered.{Numbered}
use Rattle.fs_state.specs.declared.conn.Conn.{Conn}
use Rattle.fs_state.specs.declared.conn.Phase.{Phase}
use Rattle.fs_state.specs.declared.conn.Phase.TheVariants.{Fresh, Ready, Ending, Closed}
use Rattle.fs_state.specs.declared.conn.Parting.TheVariants.{Stopped}
use Rattle.fs_state.specs.Frames.{Gift}
use Rattle.fs_state.specs.Switch.{Switch, gift_of, with_conn_at, without_jobs, without_origs, stopped}

-- ---- one connection

-- it is owed no reply any more
abbrev pub paid_off : Conn → Conn
paid_off c = record c { owed = None }

-- it reads no further command either, and wants no further event
abbrev pub let_go : Conn → Conn
let_go c = record c { phase = Ending; owed = None; parting = Some Stopped; subs = nothing }

-- what a connection in this phase becomes
abbrev pub released_in : Phase → Conn → Conn
released_in Fresh c = let_go c
released_in Ready c = let_go c
released_in Ending c = paid_off c
released_in Closed c = paid_off c

-- what it is given for a reply that it is owed, if it is
abbrev pub last_reply : ℕ → Text → Option ℕ → List Gift
last_reply conn reply None = []
last_reply conn reply (Some since) = gift_of conn reply ∷ []

-- the notice, if it reads commands
abbrev pub last_notice : ℕ → Text → Phase → List Gift
last_notice conn notice Fresh = gift_of conn notice ∷ []
last_notice conn notice Ready = gift_of conn notice ∷ []
last_notice conn notice Ending = []
last_notice conn notice Closed = []

-- ---- what stands at a seat

-- the connection that stands there, released
abbrev pub released_row : Numbered Conn → Numbered Conn
released_row row = record { number = row.number; held = released_in row.held.phase row.held }

-- the same, if one does
abbrev pub released : Option (Numbered Conn) → Option (Numbered Conn)
released None = None
released (Some row) = Some (released_row row)

-- what it is given for a reply that it is owed
abbrev pub last_replies : Text → Option (Numbered Conn) → List Gift
last_replies reply None = []
last_replies reply (Some row) = last_reply row.number reply row.held.owed

-- the notice that it is given
abbrev pub last_notices : Text → Option (Numbered Conn) → List Gift
last_notices notice None = []
last_notices notice (Some row) = last_notice row.number notice row.held.phase

-- ---- one connection of the switch

-- it gets a reply that it is owed, if it is
abbrev pub with_last_reply : ℕ → Text → Option ℕ → Switch → Switch
with_last_reply conn reply owed s = record s { late = s.late ++ last_reply conn reply owed }

-- it gets the notice, if it reads commands
abbrev pub with_last_notice : ℕ → Text → Phase → Switch → Switch
with_last_notice conn notice phase s = record s { notices = s.notices ++ last_notice conn notice phase }

-- the one that stands at a seat is released, if one does
abbrev pub released_at : ℕ → Text → Text → Option (Numbered Conn) → Switch → Switch
released_at seat reply notice None s = s
released_at seat reply notice (Some row) s =
    with_last_notice row.number notice row.held.phase
    (with_last_reply row.number reply row.held.owed (with_conn_at seat (released_row row) s))

-- ---- all of them

-- each connection gets this reply where it is owed one, and parts with this notice where it reads commands
abbrev pub all_released : Text → Text → Switch → Switch
all_released reply notice s = record s {
  conns = map released s.conns;
  late = s.late ++ flat_map (last_replies reply) s.conns;
  notices = s.notices ++ flat_map (last_notices notice) s.conns;
}

-- so they are, no job and no origination is left, and the switch comes to its end by the entry in hand
abbrev pub ended : Text → Text → Switch → Switch
ended reply notice s = stopped (all_released reply notice (without_origs (without_jobs s)))
