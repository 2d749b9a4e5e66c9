use Rattle.std.proofs.Common.{◌≡◌, ◌-◌, ◌≤◌, length, take}
use Rattle.fs_ports.specs.Ports.{Writes}
use Rattle.fs_ports.proofs.send.send_all.Given as goal

-- the bytes so far were written, and nothing was taken
abbrev pub invariant-loop-done : goal.invariant-loop-done
invariant-loop-done g l = record {
  within : l.done ≤ length l.bytes;
  written : Writes (g.K.Port.output l.initial.sink) (g.K.Port.output l.sink) (take l.done l.bytes);
  input : g.K.Port.input l.sink ≡ g.K.Port.input l.initial.sink;
}

abbrev pub decreases-loop-done : goal.decreases-loop-done
decreases-loop-done g l = length l.bytes - l.done
