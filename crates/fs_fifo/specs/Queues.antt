-- The queues: who waits in them, and what entering, taking and leaving make of them.
use Rattle.std.specs.Prelude.{ℕ, ◌==◌, nat_lt, Bool, not, if◌then◌else◌, List, [], ◌∷◌, filter}
use Rattle.std.specs.Prelude.{Option, option_map, is_some}
use Rattle.std.specs.List.{find}
use Rattle.std.specs.Str.{bytes_eq}
use Rattle.fs_text.specs.Texts.{Text}
use Rattle.fs_fifo.specs.declared.caller.QueuedCaller.{QueuedCaller}

-- the callers of all queues, by priority and then arrival
abbrev pub Queues : Type 0
Queues = List QueuedCaller

-- a caller waits in the queue of this name
abbrev pub waits_in : Text → QueuedCaller → Bool
waits_in name caller = bytes_eq caller.queue name

-- it is the caller of this slot
abbrev pub has_slot : ℕ → QueuedCaller → Bool
has_slot slot caller = caller.slot == slot

-- the queue of a name: who waits in it, in order
abbrev pub queue : Text → Queues → List QueuedCaller
queue name queues = filter (waits_in name) queues

-- the caller of a slot
abbrev pub caller_of : ℕ → Queues → Option QueuedCaller
caller_of slot queues = find (has_slot slot) queues

-- the name of the queue in which it waits
abbrev pub queue_of : ℕ → Queues → Option Text
queue_of slot queues = option_map (λ caller. caller.queue) (caller_of slot queues)

-- a slot stands in some queue
abbrev pub stands : ℕ → Queues → Bool
stands slot queues = is_some (queue_of slot queues)

-- ---- entering

-- a caller comes later than whoever enters with this priority
abbrev pub is_behind : ℕ → QueuedCaller → Bool
is_behind priority caller = nat_lt priority caller.priority

-- with one more, behind those of its priority and of lesser numbers
abbrev pub placed : QueuedCaller → List QueuedCaller → List QueuedCaller
placed new [] = new ∷ []
placed new (caller ∷ callers) =
    if is_behind new.priority caller then new ∷ caller ∷ callers else caller ∷ placed new callers

-- the caller of a slot that enters the queue of a name
abbrev pub newcomer : Text → ℕ → ℕ → QueuedCaller
newcomer name priority slot = record { queue = name; priority = priority; slot = slot }

-- with that caller
abbrev pub entered : Text → ℕ → ℕ → Queues → Queues
entered name priority slot queues = placed (newcomer name priority slot) queues

-- ---- taking and leaving

-- without the first that passes
abbrev pub without_first : (QueuedCaller → Bool) → List QueuedCaller → List QueuedCaller
without_first test [] = []
without_first test (caller ∷ callers) = if test caller then callers else caller ∷ without_first test callers

-- the first of a queue
abbrev pub first : Text → Queues → Option QueuedCaller
first name queues = find (waits_in name) queues

-- without the first of a queue
abbrev pub taken : Text → Queues → Queues
taken name queues = without_first (waits_in name) queues

-- without the caller of a slot
abbrev pub left : ℕ → Queues → Queues
left slot queues = filter (λ caller. not (has_slot slot caller)) queues
