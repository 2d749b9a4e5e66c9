use Rattle.std.proofs.Common.{◌≡◌, ℕ, ◌<◌, ◌≤◌, length}
use Rattle.std.specs.Prelude.{slice_index}
use Rattle.fs_state.specs.Drafts.{after}
use Rattle.fs_machine.specs.Routes.{IsCountedOn, basis_at}
use Rattle.fs_machine.proofs.touches.Touches.note_all.Given as goal

-- the slots so far are counted, and the others are as they were
abbrev pub invariant-loop-slot : goal.invariant-loop-slot
invariant-loop-slot l = record {
  all : length l.self ≡ length l.fn.self;
  done : (slot : ℕ) → slot < l.slot → IsCountedOn (basis_at slot l.core.switch) (basis_at slot (after l.core.switch l.delta))
      (slice_index l.fn.self slot) (slice_index l.self slot);
  left : (slot : ℕ) → l.slot ≤ slot → slice_index l.self slot ≡ slice_index l.fn.self slot;
}
