-- How a count goes on by one more.
use Rattle.std.proofs.lemmas.List.Sums.{count_by_more_yes, count_by_more_no}

pub ruleset count_rules = (count_by_more_yes, count_by_more_no)
