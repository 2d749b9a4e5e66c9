-- The front of a file that a load gives.
use Rattle.std.proofs.lemmas.List.{take_min}

pub ruleset front_rules = (take_min)
