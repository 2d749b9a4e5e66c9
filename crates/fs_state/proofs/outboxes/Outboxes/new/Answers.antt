use Rattle.std.proofs.Common.{◌≡◌, List, [], replicate, ap, subst, ◌∙◌, arith, IfOk}
use Rattle.fs_event.specs.Rings.{Events, no_events}
use Rattle.fs_text.specs.Texts.{Text}
use Rattle.fs_state.specs.Outboxes.{no_outboxes}
use Rattle.fs_state.specs.Waiting.{Outbox, Waits, outboxes_in}
use Rattle.fs_state.proofs.MailLemmas.{none_come}
use Rattle.fs_state.proofs.outboxes.Outboxes.new.Goals as goal

pub returns : goal.returns
unfolding no_outboxes
returns c =
    let count = c.args.count in
    let seats : c.loop-seat._seat ≡ count = omega (arith, c.loop-seat-test.false, c.loop-seat.auto._seat-end) in
    let outboxes : c.loop-seat.outboxes.items ≡ replicate count [] =
    c.loop-seat.invariant ∙ ap (λ n. replicate {A = Outbox} n []) seats in
    let ring : c.in_ok-ring.ring ≡ no_events =
    subst (λ r. IfOk r (λ (ring : Events Text). ring ≡ no_events)) c.in_ok-ring.was c.new-2.ensures in
    ap (λ (ring : Events Text). let w : Waits = record { frames = outboxes_in ring.pairs c.loop-seat.outboxes.items; ring = ring } in w) ring
    ∙ ap (λ (o : List Outbox). let w : Waits = record { frames = outboxes_in [] o; ring = no_events } in w) outboxes
    ∙ ap (λ frames. let w : Waits = record { frames = frames; ring = no_events } in w) (none_come [] count)
