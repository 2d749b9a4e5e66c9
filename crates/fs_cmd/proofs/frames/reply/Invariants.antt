use Rattle.std.proofs.Common.{◌≡◌, ◌++◌, codes, drop, map}
use Rattle.std.specs.List.{concat}
use Rattle.fs_text.specs.Headers.{header_line}
use Rattle.fs_cmd.specs.Frames.{reply}
use Rattle.fs_cmd.proofs.frames.reply.Given as goal

-- what stands so far, the headers that are left, and the empty line are the reply
abbrev pub invariant-loop-name : goal.invariant-loop-name
invariant-loop-name l =
    l.frame.items ++ concat (map header_line (drop l.name-index l.more)) ++ codes "\n" ≡ reply l.fn.text l.fn.more
