use Rattle.std.proofs.Common.{◌≡◌, take}
use Rattle.fs_ports.proofs.mem_files.copies.Given as goal

-- the files so far stand in the copy
abbrev pub invariant-loop-name : goal.invariant-loop-name
invariant-loop-name l = l.copied.items ≡ take l.name-index l.files
