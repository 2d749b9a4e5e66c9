-- How a channel waits in a queue, and for a caller of one.
use Rattle.std.specs.Prelude.{ℕ, ◌-◌, ◌==◌, nat_le, nat_lt, Bool, ◌||◌, ◌&&◌, if◌then◌else◌, [], ◌∷◌, Option, None, Some, codes}
use Rattle.std.specs.Str.{bytes_eq}
use Rattle.fs_text.specs.Texts.{Text}
use Rattle.fs_text.specs.declared.states.State.{State}
use Rattle.fs_text.specs.declared.states.State.TheVariants.{CsExecute, CsPark}
use Rattle.fs_vars.specs.Pairs.{value_of}
use Rattle.fs_vars.specs.Variables.{Variables}
use Rattle.fs_chan.specs.declared.chan.Chan.{Chan}
use Rattle.fs_chan.specs.declared.turn.Turn.{Turn}
use Rattle.fs_chan.specs.declared.wait.Wait.{Wait}
use Rattle.fs_chan.specs.declared.wait.Wait.TheVariants.{FifoIn, FifoOut}

-- a turn comes before another: it has the lesser number of a priority, or the same and came earlier
abbrev pub is_sooner : Turn → Turn → Bool
is_sooner a b = nat_lt a.priority b.priority || ((a.priority == b.priority) && nat_lt a.arrival b.arrival)

-- ---- the number of a priority

-- that of a text: one digit; 5 for any other
abbrev pub priority_in : Text → ℕ
priority_in (digit ∷ []) = if nat_le 48 digit && nat_le digit 57 then digit - 48 else 5
priority_in _ = 5

abbrev pub priority_told : Option Text → ℕ
priority_told None = 5
priority_told (Some text) = priority_in text

-- that of a channel with these variables
abbrev pub priority_of : Variables → ℕ
priority_of vars = priority_told (value_of vars.pairs (codes "fifo_priority"))

-- ---- changes

-- it waits in the queue of a name, and came by the entry at a place
abbrev pub queued : Text → ℕ → Chan → Chan
queued name place c =
    record c { wait = FifoIn name (record { priority = priority_of c.vars; arrival = place }) }

-- it waits for a caller in the queue of a name
abbrev pub awaiting_caller : Text → Chan → Chan
awaiting_caller name c = record c { wait = FifoOut name }

-- ---- questions

-- the name of the queue in which a channel waits
abbrev pub queue_in : State → Wait → Option Text
queue_in CsExecute (FifoIn name turn) = Some name
queue_in CsPark (FifoIn name turn) = Some name
queue_in _ _ = None

abbrev pub queue_of : Chan → Option Text
queue_of c = queue_in c.state c.wait

-- its turn in the queue of a name, if it waits there
abbrev pub turn_in : Text → State → Wait → Option Turn
turn_in name CsExecute (FifoIn queue turn) = if bytes_eq queue name then Some turn else None
turn_in name CsPark (FifoIn queue turn) = if bytes_eq queue name then Some turn else None
turn_in name _ _ = None

abbrev pub turn_of : Text → Chan → Option Turn
turn_of name c = turn_in name c.state c.wait

-- the name of the queue for a caller of which a channel waits
abbrev pub wanted_in : State → Wait → Option Text
wanted_in CsExecute (FifoOut name) = Some name
wanted_in CsPark (FifoOut name) = Some name
wanted_in _ _ = None

abbrev pub wanted_by : Chan → Option Text
wanted_by c = wanted_in c.state c.wait
