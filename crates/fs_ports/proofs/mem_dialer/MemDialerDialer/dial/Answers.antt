use Rattle.std.proofs.lemmas.List.Elements.{All-tail}
use Rattle.fs_ports.specs.Memory.{IsNewTape}
use Rattle.fs_ports.proofs.mem_dialer.MemDialerDialer.dial.Goals as goal

pub invariant_of-self : goal.invariant_of-self
invariant_of-self c = All-tail IsNewTape c.in-Some.link c.take_first.new.self (rw c.in-Some.ensures at c.self.invariant)
