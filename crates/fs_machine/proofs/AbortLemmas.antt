-- A caller that leaves its queue tells so, and nothing else changes.
use Rattle.std.proofs.Common.{◌≡◌, ℕ, Bool, true, false, if◌then◌else◌, Option, None, Some, refl}
use Rattle.fs_text.specs.Texts.{Text}
use Rattle.fs_state.specs.declared.event.QueueAction.TheVariants.{Abort}
use Rattle.fs_state.specs.Switch.{Switch, with_event}
use Rattle.fs_state.specs.Hangups.{lives_at}
use Rattle.fs_state.specs.Queues.{queue_event, queue_at, abort_told_of, abort_told}
use Rattle.fs_machine.specs.Joining.{queue_left}

-- a fact is kept that bears this event
pub abort_of_kept : (P : Switch → Type 0) (slot : ℕ)
    (told : (name : Text) (s : Switch) → P s → P (with_event (queue_event Abort name slot) s)) (queue : Option Text) (s : Switch) →
    P s → P (abort_told_of slot queue s)
abort_of_kept P slot told None s h = h
abort_of_kept P slot told (Some name) s h = told name s h

pub abort_kept : (P : Switch → Type 0) (slot : ℕ)
    (told : (name : Text) (s : Switch) → P s → P (with_event (queue_event Abort name slot) s)) (s : Switch) → P s →
    P (abort_told slot s)
abort_kept P slot told s h = abort_of_kept P slot told (queue_at s slot) s h

-- no channel changes
pub abort_channels : (slot : ℕ) (s : Switch) → (abort_told slot s).channels ≡ s.channels
abort_channels slot s = by (queue_at s slot)
  where
    by : (queue : Option Text) → (abort_told_of slot queue s).channels ≡ s.channels
    by None = refl
    by (Some name) = refl

-- ---- whoever leaves a queue

pub queue_left_kept : (P : Switch → Type 0)
    (told : (name : Text) (slot : ℕ) (s : Switch) → P s → P (with_event (queue_event Abort name slot) s)) (queue : Option Text) (slot : ℕ)
    (s : Switch) → P s → P (queue_left queue slot s)
queue_left_kept P told queue slot s h = by (lives_at s slot)
  where
    by : (live : Bool) → P (if live then abort_told_of slot queue s else s)
    by true = abort_of_kept P slot (λ name t k. told name slot t k) queue s h
    by false = h
