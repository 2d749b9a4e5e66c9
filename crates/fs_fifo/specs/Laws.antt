-- What holds of all queues, and of every change of them.
use Rattle.std.specs.Prelude.{◌≡◌, ◌≢◌, ◌<◌, ◌≤◌, ◌^◌, ◌==◌, ◌||◌, ℕ, false, not, if◌then◌else◌, List, ◌∷◌, ◌++◌}
use Rattle.std.specs.Prelude.{None, Some, option_to_list, filter, All, count_by}
use Rattle.std.specs.List.{AllPairs}
use Rattle.fs_text.specs.Texts.{Text}
use Rattle.fs_fifo.specs.declared.caller.QueuedCaller.{QueuedCaller}
use Rattle.fs_fifo.specs.Queues.{Queues, has_slot, queue, stands, caller_of, queue_of, newcomer, entered, first, taken, left}

-- a caller may stand before another, which has no lesser number
abbrev pub IsBefore : QueuedCaller → QueuedCaller → Type 0
IsBefore caller later = caller.priority ≤ later.priority

-- what holds of all queues
pub record IsSound (queues : Queues) : Type 0 where
  pub order : AllPairs IsBefore queues
  pub slots : All (λ caller. caller.slot < 2 ^ 16) queues
  -- a slot stands in all queues once at most
  pub once : (slot : ℕ) → count_by (has_slot slot) queues ≤ 1

-- ---- what each change makes of a queue

-- a queue is in order
abbrev pub QueuesAreOrdered : Type 0
QueuesAreOrdered = (name : Text) (queues : Queues) → IsSound queues → AllPairs IsBefore (queue name queues)

-- a queue is the caller that is taken, if there is one, and behind it those who wait on
abbrev pub FirstIsTaken : Type 0
FirstIsTaken =
    (name : Text) (queues : Queues) → queue name queues ≡ option_to_list (first name queues) ++ queue name (taken name queues)

-- none who waits on has a lesser number than the caller that is taken
abbrev pub LeastIsTaken : Type 0
LeastIsTaken =
    (name : Text) (caller : QueuedCaller) (queues : Queues) → IsSound queues → first name queues ≡ Some caller →
    All (IsBefore caller) (queue name (taken name queues))

-- the others are all callers but one, in the same order
pub record IsWithout (caller : QueuedCaller) (callers others : List QueuedCaller) : Type 0 where
  pub front : List QueuedCaller
  pub behind : List QueuedCaller
  pub all : callers ≡ front ++ caller ∷ behind
  pub rest : others ≡ front ++ behind

-- of a queue, before and after: one more stands in it, behind all of its priority and of lesser numbers
pub record IsPlaced (new : QueuedCaller) (before after : List QueuedCaller) : Type 0 where
  pub one : IsWithout new after before
  pub sooner : All (λ caller. caller.priority ≤ new.priority) one.front
  pub later : All (λ caller. new.priority < caller.priority) one.behind

-- a caller that enters a queue is put there
abbrev pub EnteredIsPlaced : Type 0
EnteredIsPlaced =
    (name : Text) (priority slot : ℕ) (queues : Queues) → IsSound queues →
    IsPlaced (newcomer name priority slot) (queue name queues) (queue name (entered name priority slot queues))

-- a caller that leaves goes out of its queue, wherever it stands there
abbrev pub LeftIsGone : Type 0
LeftIsGone =
    (name : Text) (slot : ℕ) (queues : Queues) →
    queue name (left slot queues) ≡ filter (λ caller. not (has_slot slot caller)) (queue name queues)

-- whoever is taken or leaves goes alone, and all others wait on in their order
pub record OneGoesOf (queues : Queues) : Type 0 where
  pub taken : (name : Text) (caller : QueuedCaller) → first name queues ≡ Some caller → IsWithout caller queues (taken name queues)
  pub left : (slot : ℕ) (caller : QueuedCaller) → caller_of slot queues ≡ Some caller → IsWithout caller queues (left slot queues)

abbrev pub OneGoes : Type 0
OneGoes = (queues : Queues) → IsSound queues → OneGoesOf queues

-- no other queue is changed by what is done in the queue of a name
pub record OthersStayIn (name other : Text) (queues : Queues) : Type 0 where
  pub entered : (priority slot : ℕ) → queue other (entered name priority slot queues) ≡ queue other queues
  pub taken : queue other (taken name queues) ≡ queue other queues
  pub left : (slot : ℕ) → queue_of slot queues ≡ Some name → queue other (left slot queues) ≡ queue other queues

abbrev pub OthersStay : Type 0
OthersStay = (name other : Text) (queues : Queues) → IsSound queues → name ≢ other → OthersStayIn name other queues

-- where nobody is taken, or leaves, all stays
pub record NobodyChangesAny (queues : Queues) : Type 0 where
  pub taken : (name : Text) → first name queues ≡ None → taken name queues ≡ queues
  pub left : (slot : ℕ) → stands slot queues ≡ false → left slot queues ≡ queues

abbrev pub NobodyChangesNothing : Type 0
NobodyChangesNothing = (queues : Queues) → NobodyChangesAny queues

-- ---- which slots stand in a queue

-- whoever entered does, and whoever did before
abbrev pub EnteredStands : Type 0
EnteredStands =
    (name : Text) (priority slot other : ℕ) (queues : Queues) →
    stands other (entered name priority slot queues) ≡ ((slot == other) || stands other queues)

-- whoever was taken does not, and whoever else did does
abbrev pub TakenStandsNowhere : Type 0
TakenStandsNowhere =
    (name : Text) (caller : QueuedCaller) (slot : ℕ) (queues : Queues) → IsSound queues → first name queues ≡ Some caller →
    stands slot (taken name queues) ≡ (if has_slot slot caller then false else stands slot queues)

-- whoever left does not, and whoever else did does
abbrev pub LeftStandsNowhere : Type 0
LeftStandsNowhere =
    (slot other : ℕ) (queues : Queues) →
    stands other (left slot queues) ≡ (if slot == other then false else stands other queues)
