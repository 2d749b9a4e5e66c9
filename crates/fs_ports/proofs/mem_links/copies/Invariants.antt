use Rattle.std.proofs.Common.{◌≡◌, take}
use Rattle.fs_ports.proofs.mem_links.copies.Given as goal

-- the links so far stand in the copy
abbrev pub invariant-loop-link : goal.invariant-loop-link
invariant-loop-link l = l.copied.items ≡ take l.link-index l.links
