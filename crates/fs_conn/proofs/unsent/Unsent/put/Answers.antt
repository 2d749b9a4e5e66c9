use Rattle.std.proofs.Common.{◌++◌, length, sym, ap, ◌∙◌, append-nil, length-append, arith}
use Rattle.fs_ports.proofs.Sides.{writes_both, stopped_later}
use Rattle.fs_conn.proofs.unsent.Unsent.put.Goals as goal

pub returns-in-All-clause-puts : goal.returns-in-All-clause-puts
returns-in-All-clause-puts g c =
    let all = c.args.self.now ++ c.args.frame.now in
    let cleared = c.in_ok-write.ensures.writes in (
      all,
      sym (ap (λ left. all ++ left) cleared.1 ∙ append-nil all),
      writes_both _ _ _ c.args.self.now c.args.frame.now cleared.0 c.in-All.ensures.output,
    )

pub returns-in-Failed-clause-puts : goal.returns-in-Failed-clause-puts
returns-in-Failed-clause-puts g c =
    let long = length-append c.args.self.now c.args.frame.now in
    let same = ap length c.self.view_is in (
      stopped_later _ _ _ c.args.self.now c.args.frame.now c.in_ok-write.ensures.writes.0 c.in-Failed.ensures.output,
      omega (arith, long, same, c.len.ensures, c.if-frame-len.false),
    )
