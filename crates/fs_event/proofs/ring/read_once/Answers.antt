use Rattle.std.proofs.Common.{◌≡◌, ◌+◌, ap, subst, sym, ◌∙◌}
use Rattle.std.proofs.lemmas.List.{length-set}
use Rattle.fs_event.specs.Places.{IsOrdered, pairs_of, one_if, read_once}
use Rattle.fs_event.specs.Rings.{released}
use Rattle.fs_event.proofs.RingLemmas.{place_at, released_at, read_ordered, count_at, nowhere_released}
use Rattle.std.specs.Prelude.{length, slice_set}
use Rattle.fs_event.proofs.ring.read_once.Goals as goal

pub returns-in-Some : goal.returns-in-Some
returns-in-Some g c =
    let old = c.args.places.now.items in
    let at = place_at c.args.number old c.in-Some.index c.in-Some.ensures.found in
    let new = c.read_at.ensures.left at.0 at.1 in
    let set = slice_set old c.in-Some.index (read_once at.0) in
    let pairs : pairs_of set ≡ released c.args.number (pairs_of old) =
    subst (λ n. pairs_of set ≡ released n (pairs_of old)) at.2 (released_at old c.in-Some.index at.0 c.requires at.1) in
    record {
      pairs = ap (λ b. pairs_of b.items) new ∙ pairs;
      order = subst (λ b. IsOrdered b.items) (sym new) (read_ordered old c.in-Some.index at.0 at.1 c.requires);
      count = ap (λ b. length (pairs_of b.items) + one_if c.read_at.result) new
          ∙ ap (λ gone. length (pairs_of set) + one_if gone) (c.read_at.ensures.gone at.0 at.1)
          ∙ count_at old c.in-Some.index at.0 at.1;
      slots = ap (λ b. length b.items) new ∙ length-set old c.in-Some.index (read_once at.0);
      capacity = ap (λ b. b.capacity) new;
    }

pub returns-in-None-clause-pairs : goal.returns-in-None-clause-pairs
returns-in-None-clause-pairs g c = sym (nowhere_released c.args.number c.args.places.now.items c.in-None.ensures.nowhere)
