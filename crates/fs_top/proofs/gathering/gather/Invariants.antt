use Rattle.std.proofs.Common.{◌≡◌, ℕ, ◌+◌, ◌*◌, ◌≤◌, [], ◌∷◌, length, map}
use Rattle.fs_book.specs.Passes.{seen, mine, met, parts, opening_state, IsPassOf}
use Rattle.fs_machine.specs.Turned.{configured}
use Rattle.fs_top.specs.Dials.{vain_in, AreBounded}
use Rattle.fs_top.specs.Doors.{Rose}
use Rattle.fs_top.specs.Lanes.{Keeps, MayEnter}
use Rattle.fs_top.specs.Reloading.{NoneNotes}
use Rattle.fs_top.specs.Standing.{HaveFailed}
use Rattle.fs_top.proofs.gathering.gather.Given as goal

abbrev pub invariant-lanes : goal.invariant-lanes
invariant-lanes g l = record {
  can : (goal.iterator-lanes g).can_next l.lane-iterator;
  finite : (goal.iterator-lanes g).is_finite l.lane-iterator;
  book : IsPassOf configured l.fn.book l.pass;
  counted : parts l.pass ≡ parts l.fn.pass + 2 * length l.yielded;
  order : length l.yielded ≤ l.fn.slots → length l.dialers.items ≡ length l.yielded;
  keeps : (from to : ℕ)
      → Keeps g.L.Port.input g.L.Port.output (MayEnter (g.C.Clock.tells l.fn.clock) (Rose from to)) (configured (opening_state l.fn.book))
      (seen l.fn.pass) (mine l.fn.pass ∷ met l.fn.pass) []
      → Keeps g.L.Port.input g.L.Port.output (MayEnter (g.C.Clock.tells l.fn.clock) (Rose from to)) (configured (opening_state l.fn.book))
      (seen l.pass) (mine l.pass ∷ met l.pass) l.conns.items;
  bounded : (from : ℕ) → HaveFailed g.O.Dialer.dial_faults from l.fn.lanes.items
      → AreBounded (λ slot. vain_in slot (seen l.fn.pass) (mine l.fn.pass ∷ met l.fn.pass)) from []
      → AreBounded (λ slot. vain_in slot (seen l.pass) (mine l.pass ∷ met l.pass)) from (map g.O.Dialer.dial_faults l.dialers.items);
  quiet : NoneNotes (seen l.fn.pass) (mine l.fn.pass ∷ met l.fn.pass) → NoneNotes (seen l.pass) (mine l.pass ∷ met l.pass);
}
