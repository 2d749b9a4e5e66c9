use Rattle.std.proofs.Common.{ap, sym, ◌∙◌}
use Rattle.std.specs.Option.{option_map}
use Rattle.fs_event.specs.Rings.{event_of}
use Rattle.fs_event.proofs.RingLemmas.{event_found, nowhere_found}
use Rattle.fs_event.proofs.ring.Ring.get.Goals as goal

pub returns-in-Some : goal.returns-in-Some
returns-in-Some g c =
    c.event_at.ensures
    ∙ event_found c.args.number c.self.inside.places.items c.in-Some.index c.self.invariant.order c.in-Some.ensures.found
    ∙ ap (λ events. event_of c.args.number events.pairs) c.self.view_is

pub returns-in-None : goal.returns-in-None
returns-in-None g c =
    sym (ap (option_map (λ pair. pair.event)) (nowhere_found c.args.number c.self.inside.places.items c.in-None.ensures.nowhere))
    ∙ ap (λ events. event_of c.args.number events.pairs) c.self.view_is
