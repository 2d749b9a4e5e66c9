-- The verdict on an origination at a moment.
use Rattle.std.specs.Prelude.{ℕ, ◌+◌, nat_le, Bool, false, if◌then◌else◌, min, List, Option, None, Some, unwrap_or, slice_get}
use Rattle.std.specs.List.{filter_map, fold, position}
use Rattle.fs_text.specs.declared.causes.Cause.{Cause}
use Rattle.fs_text.specs.declared.causes.Cause.TheVariants.{NormalUnspecified}
use Rattle.fs_orig.specs.declared.leg.OrigLeg.{OrigLeg}
use Rattle.fs_orig.specs.declared.orig.Orig.{Orig}
use Rattle.fs_orig.specs.declared.plan.LegPlan.{LegPlan}
use Rattle.fs_orig.specs.declared.verdict.Verdict.{Verdict}
use Rattle.fs_orig.specs.declared.verdict.Verdict.TheVariants.{Wait, Won, LegExpired, NextGroup, Failed, Expired}
use Rattle.fs_orig.specs.Legs.{lives, winner, last_cause, any_lives}

-- ---- time

-- the moment at which it is given up, while it lives
abbrev pub limit_of : OrigLeg → Option ℕ
limit_of leg = if lives leg then leg.deadline else None

-- a moment that is there has come
abbrev pub has_come : ℕ → Option ℕ → Bool
has_come now None = false
has_come now (Some moment) = nat_le moment now

-- the first position of a living leg whose own deadline has come
abbrev pub expired_leg : ℕ → List OrigLeg → Option ℕ
expired_leg now legs = position (λ leg. has_come now (limit_of leg)) legs

-- the least of the deadline and the deadlines of living legs
abbrev pub least_deadline : Orig → ℕ
least_deadline o = fold min o.deadline (filter_map limit_of o.legs)

-- ---- the verdict

-- the group that is tried after the current one
abbrev pub next_group : Orig → Option (List LegPlan)
next_group o = slice_get o.groups (o.current + 1)

-- where a living leg answered
abbrev pub won_or : Option ℕ → Verdict → Verdict
won_or (Some position) otherwise = Won position
won_or None otherwise = otherwise

-- where a living leg has had its time
abbrev pub leg_expired_or : Option ℕ → Verdict → Verdict
leg_expired_or (Some position) otherwise = LegExpired position
leg_expired_or None otherwise = otherwise

-- where no leg lives: another group, or the cause of the last that died
abbrev pub next_or_failed : Option (List LegPlan) → Option Cause → Verdict
next_or_failed (Some group) cause = NextGroup
next_or_failed None cause = Failed (unwrap_or cause NormalUnspecified)

-- where no living leg has answered, by time and by who lives
abbrev pub unanswered : ℕ → Orig → Verdict
unanswered now o =
    if nat_le o.deadline now then Expired
    else leg_expired_or (expired_leg now o.legs)
    (if any_lives o.legs then Wait (least_deadline o) else next_or_failed (next_group o) (last_cause o.legs))

unfoldable pub verdict_of : ℕ → Orig → Verdict
verdict_of now o = won_or (winner o.legs) (unanswered now o)

-- the moment from which there is something to do, as seen at another
abbrev pub due_moment_by : ℕ → Verdict → ℕ
due_moment_by now (Wait until) = until
due_moment_by now _ = now

abbrev pub due_moment_of : ℕ → Orig → ℕ
due_moment_of now o = due_moment_by now (verdict_of now o)
