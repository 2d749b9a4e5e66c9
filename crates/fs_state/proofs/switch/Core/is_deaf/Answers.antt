use Rattle.std.proofs.Common.{◌≡◌, ◌<◌, length, List, Option, refl, sym, ap, subst, ◌∙◌, arith}
use Rattle.std.specs.Prelude.{is_some}
use Rattle.fs_seats.specs.declared.numbered.Numbered.{Numbered}
use Rattle.fs_seats.specs.Seats.{IsEmptyFrom}
use Rattle.fs_seats.proofs.SeatLemmas.{first_behind, first_empty}
use Rattle.fs_state.specs.declared.conn.Conn.{Conn}
use Rattle.fs_state.specs.Posting as spec
use Rattle.fs_state.specs.Switch.{Kept}
use Rattle.fs_state.proofs.switch.Core.is_deaf.Goals as goal

pub loop-seat-preserved : goal.loop-seat-preserved
loop-seat-preserved c =
    let conns = c.args.self.now.switch.conns in
    let same : c.self.inside.conns ≡ conns = ap (λ (k : Kept). k.switch.conns) c.self.view_is in
    let within : c.loop-seat.seat < length conns =
    omega (arith, c.loop-seat-test.true, c.filled-seat-end.ensures.within, ap length same) in
    λ name subclass. sym (first_behind (spec.hears_at name subclass) conns c.loop-seat.seat within
    (c.is_deaf_at.ensures c.if-not-is_deaf_at.false name subclass)) ∙ c.loop-seat.invariant name subclass

pub returns : goal.returns
returns c =
    let conns = c.args.self.now.switch.conns in
    let same : c.self.inside.conns ≡ conns = ap (λ (k : Kept). k.switch.conns) c.self.view_is in
    let last : c.filled-seat-end.result ≡ c.loop-seat.seat = omega (arith, c.loop-seat-test.false, c.loop-seat.auto.seat-end) in
    let empty : IsEmptyFrom c.loop-seat.seat conns =
    subst (λ seat. IsEmptyFrom seat conns) last
    (subst (λ (all : List (Option (Numbered Conn))). IsEmptyFrom c.filled-seat-end.result all) same c.filled-seat-end.ensures.empty) in
    λ _. record {
      each = λ name subclass. ap is_some (sym (c.loop-seat.invariant name subclass)
          ∙ first_empty (spec.hears_at name subclass) conns c.loop-seat.seat refl empty);
    }
