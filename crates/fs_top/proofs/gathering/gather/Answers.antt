use Rattle.std.proofs.Common.{◌∷◌, ◌∙◌, rules, arith, ap, subst, sym, length, map}
use Rattle.std.proofs.lemmas.List.{length_push}
use Rattle.std.proofs.lemmas.Iterator.Consumers.{YieldsList-turn}
use Rattle.std.proofs.lemmas.Iterator.Adapters.{YieldsList-from_vec}
use Rattle.fs_book.specs.Passes.{seen, mine, met}
use Rattle.fs_top.specs.Dials.{vain_in, AreBounded}
use Rattle.fs_top.specs.Standing.{Stands, IsPlaced, HasFailed}
use Rattle.fs_top.proofs.PlacedLemmas.{next_of, order_on}
use Rattle.fs_top.proofs.gathering.gather.Goals as goal

pub gather_lane-requires-clause-lane : goal.gather_lane-requires-clause-lane
gather_lane-requires-clause-lane g c =
    λ _ _.
    let turn =
    YieldsList-turn (YieldsList-from_vec {s = c.into_iter-lane-iterator.result} c.args.lanes.items (search rules) (search rules))
    c.lanes.yielded c.lanes.lane-iterator c.lanes.yielded_by c.next.result c.next.new.self c.in-Some.lane c.in-Some.is
    c.next.ensures.steps in
    subst (Stands g.L.Port.input g.L.Port.output (g.C.Clock.tells c.args.clock.now) c.args.book.now) (sym turn.1)
    (c.requires.lanes (length c.lanes.yielded) c.in-Some.lane turn.0)

pub gather_lane-requires-clause-next : goal.gather_lane-requires-clause-next
gather_lane-requires-clause-next g c =
    λ _ _.
    let turn =
    YieldsList-turn (YieldsList-from_vec {s = c.into_iter-lane-iterator.result} c.args.lanes.items (search rules) (search rules))
    c.lanes.yielded c.lanes.lane-iterator c.lanes.yielded_by c.next.result c.next.new.self c.in-Some.lane c.in-Some.is
    c.next.ensures.steps in
    next_of c.args.slots (length c.lanes.yielded) (length c.lanes.dialers.items) c.in-Some.lane c.lanes.invariant.order
    (subst (IsPlaced c.args.slots (length c.lanes.yielded)) (sym turn.1)
    (c.requires.placed (length c.lanes.yielded) c.in-Some.lane turn.0))

pub lanes-init : goal.lanes-init
lanes-init g c = record {
  can = tt;
  finite = tt;
  book = c.requires.book;
  counted = omega arith;
  order = λ _. ap length c.new-dialers.ensures.items;
  keeps = λ from to before. rw c.new-conns.ensures.items before;
  bounded = λ from failed before.
      subst (λ ds. AreBounded (λ slot. vain_in slot (seen c.args.pass.now) (mine c.args.pass.now ∷ met c.args.pass.now)) from
      (map g.O.Dialer.dial_faults ds)) (sym c.new-dialers.ensures.items) before;
  quiet = λ before. before;
}

pub lanes-preserved : goal.lanes-preserved
lanes-preserved g c =
    let turn =
    YieldsList-turn (YieldsList-from_vec {s = c.into_iter-lane-iterator.result} c.args.lanes.items (search rules) (search rules))
    c.lanes.yielded c.lanes.lane-iterator c.lanes.yielded_by c.next.result c.next.new.self c.in-Some.lane c.in-Some.is
    c.next.ensures.steps in
    record {
      can = tt;
      finite = tt;
      book = c.gather_lane.ensures.book;
      counted = omega (arith, c.in_ok-gather_lane.ensures.parts, c.lanes.invariant.counted, length_push c.lanes.yielded c.in-Some.lane);
      order = λ front.
          ap length c.in_ok-gather_lane.ensures.dialers
          ∙ order_on c.args.slots c.lanes.dialers.items c.lanes.yielded c.in-Some.lane c.lanes.invariant.order
          (subst (IsPlaced c.args.slots (length c.lanes.yielded)) (sym turn.1)
          (c.requires.placed (length c.lanes.yielded) c.in-Some.lane turn.0)) front;
      keeps = λ from to before. c.in_ok-gather_lane.ensures.keeps from to (c.lanes.invariant.keeps from to before);
      bounded = λ from failed before.
          c.in_ok-gather_lane.ensures.bounded from
          (subst (HasFailed g.O.Dialer.dial_faults from) (sym turn.1) (failed (length c.lanes.yielded) c.in-Some.lane turn.0))
          (c.lanes.invariant.bounded from failed before);
      quiet = λ before. c.in_ok-gather_lane.ensures.quiet (c.lanes.invariant.quiet before);
    }
