use Rattle.std.proofs.Common.{map, take}
use Rattle.std.specs.List.{concat}
use Rattle.fs_ports.specs.Ports.{Writes}
use Rattle.fs_top.proofs.lines.send_parts.Given as goal

-- the parts so far were sent
abbrev pub invariant-loop-part : goal.invariant-loop-part
invariant-loop-part g l =
    Writes (g.E.Port.output l.fn.err) (g.E.Port.output l.err) (concat (map (λ part. part.now) (take l.part-index l.parts)))
