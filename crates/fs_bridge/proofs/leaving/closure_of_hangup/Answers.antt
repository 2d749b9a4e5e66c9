use Rattle.std.proofs.Common.{◌≡◌, rules, refl}
use Rattle.fs_bridge.specs.Worlds.{World}
use Rattle.fs_bridge.specs.Leaving.{ends_with, leavers_of}
use Rattle.fs_bridge.proofs.LeavingSteps.{ends_are, leaving_is}
use Rattle.fs_bridge.proofs.leaving.closure_of_hangup.Goals as goal

pub returns : goal.returns
returns g c =
    let w : World = g.L.Lines.world c.args.world.now in
    let ends : c.add_survivors.new.self ≡ ends_with w c.args.first.now c.args.left.now =
    ends_are w c.args.first.now c.args.left.now c.in_ok-others.others.items c.in_ok-named.named.items c.in_ok-closure.closure
    c.add_survivors.new.self (search rules) (search rules) (search rules) (search rules) in
    let leavers : c.in_ok-leavers.leavers.items ≡ leavers_of c.args.left.now c.add_survivors.new.self.members = search rules in
    leaving_is w c.args.first.now c.args.left.now c.in_ok-parted.parted.items c.add_survivors.new.self c.in_ok-leavers.leavers.items _
    refl (search rules) ends leavers
