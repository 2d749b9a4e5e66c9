-- What a dial string is to try: the plans of its legs.
use Rattle.std.specs.Prelude.{List, ◌++◌, map}
use Rattle.fs_text.specs.Texts.{Text}
use Rattle.fs_dial.specs.Pairs.{Pair, plain}
use Rattle.fs_dial.specs.Legs.{LegText}
use Rattle.fs_dial.specs.DialStrings.{Dial}
use Rattle.fs_orig.specs.declared.plan.LegPlan.{LegPlan}

-- its name, and its value without quotes and backslashes
abbrev pub plain_pair : Pair → Text × Text
plain_pair pair = (pair.name, plain pair)

abbrev pub plain_pairs : List Pair → List (Text × Text)
plain_pairs pairs = map plain_pair pairs

-- the leg with these pairs, and its own behind them
abbrev pub leg_behind : List (Text × Text) → LegText → LegPlan
leg_behind pairs leg = record { endpoint = leg.endpoint; pairs = pairs ++ plain_pairs leg.pairs }

-- the leg with the pairs of the braces, and its own behind them
abbrev pub leg_plan : List Pair → LegText → LegPlan
leg_plan braces leg = leg_behind (plain_pairs braces) leg

-- the groups, leg by leg
abbrev pub plans_of : Dial → List (List LegPlan)
plans_of dial = map (λ legs. map (leg_plan dial.pairs) legs) dial.groups

-- a leg with these pairs before its own
abbrev pub plan_behind : List (Text × Text) → LegPlan → LegPlan
plan_behind pairs plan = record plan { pairs = pairs ++ plan.pairs }

-- legs, each with these before its own
abbrev pub all_behind : List (Text × Text) → List LegPlan → List LegPlan
all_behind pairs plans = map (plan_behind pairs) plans
