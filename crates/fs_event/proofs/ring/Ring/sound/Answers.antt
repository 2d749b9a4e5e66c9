use Rattle.std.proofs.Common.{subst}
use Rattle.fs_event.specs.Places.{pairs_of}
use Rattle.fs_event.specs.Rings.{IsSound}
use Rattle.fs_event.proofs.RingLemmas.{pairs_ordered}
use Rattle.fs_event.proofs.ring.Ring.sound.Goals as goal

pub returns : goal.returns
returns g c =
    let sound : IsSound (pairs_of c.self.inside.places.items) = record {
      order = pairs_ordered c.self.inside.places.items c.self.invariant.order;
      read = c.self.invariant.read;
    } in
    subst (λ events. IsSound events.pairs) c.self.view_is sound
