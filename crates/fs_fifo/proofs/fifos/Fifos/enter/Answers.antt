use Rattle.std.proofs.Common.{rules}
use Rattle.fs_fifo.specs.Queues.{Queues, entered}
use Rattle.fs_fifo.proofs.SoundLemmas.{entered_sound, sound_either}
use Rattle.fs_fifo.proofs.fifos.Fifos.enter.Goals as goal

pub invariant_of-self : goal.invariant_of-self
invariant_of-self c =
    let old : Queues = c.self.inside.callers.items in
    let next : Queues = entered c.in_ok-copy.field-0 c.args.priority c.args.slot old in
    sound_either c.place.result old next c.place.new.callers.items c.place.ensures.ok c.place.ensures.err c.self.invariant
    (entered_sound c.in_ok-copy.field-0 c.args.priority c.args.slot old c.ranges.slot.fits (search rules) c.self.invariant)
