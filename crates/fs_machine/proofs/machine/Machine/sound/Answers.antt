use Rattle.std.proofs.Common.{subst}
use Rattle.std.specs.Arc.{arc_value}
use Rattle.fs_doc.specs.Limits.{IsWithin}
use Rattle.fs_machine.specs.Runs.{View, state_of}
use Rattle.fs_machine.specs.Sound.{IsSound}
use Rattle.fs_machine.proofs.SoundLaws.{sound_state}
use Rattle.fs_machine.proofs.machine.Machine.sound.Goals as goal

pub returns-clause-state : goal.returns-clause-state
returns-clause-state c =
    let P : View → Type 0 = λ view. IsSound (state_of view) in
    subst P c.self.view_is
    (sound_state (arc_value c.self.inside.config) c.self.inside.core.switch c.self.inside.journal.entries c.self.invariant.3 c.self.invariant.0)

pub returns-clause-config : goal.returns-clause-config
returns-clause-config c =
    let P : View → Type 0 = λ view. IsWithin view.config in
    subst P c.self.view_is c.self.invariant.3
