use Rattle.std.proofs.Common.{subst, sym}
use Rattle.fs_limit.specs.Laws.{IsSound}
use Rattle.fs_limit.proofs.SoundLemmas.{released_sound}
use Rattle.fs_limit.proofs.limits.Limits.release.Goals as goal

pub invariant_of-self : goal.invariant_of-self
invariant_of-self c =
    subst IsSound (sym c.keep_others.ensures) (released_sound c.args.slot c.self.inside.holds.items c.self.invariant)
