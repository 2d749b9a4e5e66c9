use Rattle.std.proofs.Common.{◌+◌, ◌<◌, ap, subst, sym, ◌∙◌, arith, length, All}
use Rattle.std.proofs.lemmas.List.Elements.{filter_map-append}
use Rattle.fs_event.specs.Places.{IsRing, pair_of, pairs_of}
use Rattle.fs_event.specs.Rings.{pushed}
use Rattle.fs_event.proofs.RingLemmas.{pushed_ring, pairs_within}
use Rattle.fs_event.proofs.ring.Ring.push.Goals as goal

pub overflow_add-self : goal.overflow_add-self
overflow_add-self g c =
    let within = pairs_within c.drop_back.new.places.items in
    let pairs = ap length c.drop_back.ensures.kept.pairs in
    grind (arith, within, pairs, c.self.invariant.count, c.put_back.ensures.within)

pub invariant_of-self : goal.invariant_of-self
invariant_of-self g c =
    subst (λ b. IsRing b.items (c.self.inside.held + 1)) (sym c.put_back.ensures.last)
    (pushed_ring c.args.number c.args.event c.args.readers c.self.inside.places.items c.drop_back.new.places.items c.self.inside.held
    c.self.invariant c.drop_back.ensures.kept c.drop_back.ensures.last c.requires.readers
    (subst (λ events. All (λ pair. pair.number < c.args.number) events.pairs) (sym c.self.view_is) c.requires.last))

pub returns-clause-pairs : goal.returns-clause-pairs
returns-clause-pairs g c =
    ap (λ b. pairs_of b.items) c.put_back.ensures.last
    ∙ filter_map-append pair_of c.drop_back.new.places.items _
    ∙ ap (pushed c.args.number c.args.event c.args.readers) (c.drop_back.ensures.kept.pairs ∙ ap (λ events. events.pairs) c.self.view_is)
