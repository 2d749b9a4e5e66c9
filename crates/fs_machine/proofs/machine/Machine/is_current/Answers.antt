use Rattle.std.proofs.Common.{subst}
use Rattle.std.specs.Prelude.{◌↔◌, IsTrue}
use Rattle.fs_state.specs.Switch.{Switch}
use Rattle.fs_machine.specs.Routes.{IsCurrentBy}
use Rattle.fs_machine.specs.Runs.{View, state_of}
use Rattle.fs_machine.proofs.machine.Machine.is_current.Goals as goal

pub returns : goal.returns
returns c =
    let P : Switch → Type 0 = λ s. IsTrue c.is_current.result ↔ IsCurrentBy c.args.now c.args.slot c.args.seen.now s in
    subst (λ (view : View). P (state_of view)) c.self.view_is (subst P c.self.invariant.0.state c.is_current.ensures)
