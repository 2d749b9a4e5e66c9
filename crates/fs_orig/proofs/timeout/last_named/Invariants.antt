use Rattle.std.proofs.Common.{◌≡◌, map, drop}
use Rattle.std.specs.List.{filter_map, last_or}
use Rattle.std.specs.Option.{option_map}
use Rattle.fs_dial.specs.Pairs.{pair_of, plain}
use Rattle.fs_orig.specs.Plans.{plain_pairs}
use Rattle.fs_orig.specs.Timeouts.{last_value, value_named}
use Rattle.fs_orig.proofs.timeout.last_named.Given as goal

abbrev pub invariant-loop-pair : goal.invariant-loop-pair
invariant-loop-pair l =
    last_value l.name (plain_pairs l.pairs)
    ≡ last_or (option_map (λ p. plain (pair_of p)) l.last)
    (filter_map (value_named l.name) (plain_pairs (map pair_of (drop l.pair-index l.pair-items))))
