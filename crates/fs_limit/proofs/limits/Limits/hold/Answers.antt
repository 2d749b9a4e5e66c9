use Rattle.std.proofs.Common.{rules}
use Rattle.fs_limit.proofs.SoundLemmas.{added_sound}
use Rattle.fs_limit.proofs.limits.Limits.hold.Goals as goal

pub invariant_of-self-2 : goal.invariant_of-self-2
invariant_of-self-2 c =
    added_sound c.args.realm.now c.args.id.now c.args.slot c.self.inside.holds.items c.add.new.holds.items c.add.result
    c.add.ensures.ok c.add.ensures.few c.add.ensures.err (search rules) c.self.invariant
