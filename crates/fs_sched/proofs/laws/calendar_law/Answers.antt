use Rattle.std.proofs.Common.{refl}
use Rattle.fs_sched.specs.Civil.{day_at}
use Rattle.fs_sched.proofs.laws.calendar_law.Goals as goal

pub returns : goal.returns
unfolding day_at
returns c = record {
  before = refl;
  first = refl;
  behind = refl;
  eve = refl;
  epoch = refl;
  saturday = refl;
  common = refl;
  leap = refl;
  century = refl;
  seconds = refl;
  no_leap = refl;
}
