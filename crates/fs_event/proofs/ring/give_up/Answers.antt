use Rattle.std.proofs.Common.{◌≡◌, length, ap, subst, sym, ◌∙◌, arith}
use Rattle.std.specs.Prelude.{filter}
use Rattle.fs_event.specs.Places.{KeepsPairs, without_front, is_kept}
use Rattle.fs_event.proofs.RingLemmas.{kept_again, front_kept, turned_kept, turned_length}
use Rattle.fs_event.proofs.ring.give_up.Goals as goal

pub returns-then-len-held-2 : goal.returns-then-len-held-2
returns-then-len-held-2 g c =
    let old = c.args.places.now.items in
    let front = front_kept old c.requires.order in
    let items : c.turn.new.places.items ≡ filter is_kept (without_front old) =
    ap (λ b. b.items) c.turn.ensures ∙ ap (λ b. filter is_kept b.items) c.drop_front.ensures in
    record {
      kept = subst (KeepsPairs old) (sym items)
          (kept_again old (without_front old) (filter is_kept (without_front old)) front (turned_kept (without_front old) front.order));
      capacity = ap (λ b. b.capacity) c.turn.ensures ∙ ap (λ b. b.capacity) c.drop_front.ensures;
      within = let len = ap length items ∙ turned_length (without_front old) ∙ ap length front.pairs in omega (arith, len, c.requires.held);
    }

pub returns-else-len-held-clause-kept : goal.returns-else-len-held-clause-kept
returns-else-len-held-clause-kept g c =
    subst (λ b. KeepsPairs c.args.places.now.items b.items) (sym c.drop_front.ensures) (front_kept c.args.places.now.items c.requires.order)
