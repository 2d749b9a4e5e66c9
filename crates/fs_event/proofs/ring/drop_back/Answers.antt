use Rattle.std.proofs.Common.{◌≡◌, ◌-◌, ap, subst, sym, ◌∙◌}
use Rattle.std.specs.Prelude.{length, take}
use Rattle.circular_buffer.specs.Buffer.{buffer}
use Rattle.fs_event.specs.Places.{KeepsPairs}
use Rattle.fs_event.proofs.RingLemmas.{kept_again, back_kept}
use Rattle.fs_event.proofs.ring.drop_back.Goals as goal

pub loop-places-preserved : goal.loop-places-preserved
loop-places-preserved g c =
    let old = c.args.places.now.items in
    let now = c.loop-places.places.items in
    let kept = c.loop-places.invariant.kept in
    let new : c.truncate_back.new.self ≡ buffer (take (length now - 1) now) c.loop-places.places.capacity =
    c.truncate_back.ensures
    ∙ ap (λ n. buffer (take n now) c.loop-places.places.capacity) (c.saturating_sub.ensures ∙ ap (λ n. n - 1) c.len.ensures.len) in
    record {
      kept = subst (λ b. KeepsPairs old b.items) (sym new)
          (kept_again old now (take (length now - 1) now) kept (back_kept now kept.order (c.has_empty_back.ensures.empty c.loop-places-test.true)));
      capacity = ap (λ b. b.capacity) new ∙ c.loop-places.invariant.capacity;
    }
