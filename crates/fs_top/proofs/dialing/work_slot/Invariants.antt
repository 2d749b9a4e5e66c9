use Rattle.std.proofs.Common.{ℕ}
use Rattle.fs_top.specs.Standing.{SlotStands, DialsFailed}
use Rattle.fs_top.proofs.dialing.work_slot.Given as goal

abbrev pub invariant-talks : goal.invariant-talks
invariant-talks g l = record {
  stands : SlotStands g.L.Port.input g.L.Port.output (g.C.Clock.tells l.fn.clock) l.fn.book l.fn.lane.slot l.lane;
  failed : (from : ℕ) → DialsFailed g.O.Dialer.dial_faults from l.fn.lane → DialsFailed g.O.Dialer.dial_faults from l.lane;
}
