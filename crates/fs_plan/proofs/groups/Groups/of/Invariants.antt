use Rattle.std.proofs.Common.{◌≡◌}
use Rattle.std.specs.Prelude.{map}
use Rattle.std.specs.List.{range_with_len}
use Rattle.regex.specs.Bytes.{captures_haystack, captures_span}
use Rattle.fs_plan.specs.Matching.{group_text}
use Rattle.fs_plan.proofs.groups.Groups.of.Given as goal

-- the texts of the groups so far
abbrev pub invariant-loop-n : goal.invariant-loop-n
invariant-loop-n l =
    l.texts.items ≡ map (λ n. group_text (captures_haystack l.captures) (captures_span l.captures n)) (range_with_len 0 l.n)
