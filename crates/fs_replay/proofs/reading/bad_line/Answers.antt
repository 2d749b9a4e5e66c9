use Rattle.std.proofs.Common.{ℕ, ◌<◌, ◌≤◌, length, refl, subst}
use Rattle.fs_replay.specs.Faults.{is_lf}
use Rattle.fs_replay.proofs.Stops.{found_any, found_none}
use Rattle.fs_replay.proofs.reading.bad_line.Goals as goal

pub returns-then-found : goal.returns-then-found
returns-then-found c =
    let there = found_any is_lf c.args.line.now (subst (λ (n : ℕ). n < length c.args.line.now) c.offset_of.ensures c.if-found.true) in
    rw there refl

pub returns-else-found : goal.returns-else-found
returns-else-found c =
    let none = found_none is_lf c.args.line.now (subst (λ (n : ℕ). length c.args.line.now ≤ n) c.offset_of.ensures c.if-found.false) in
    rw none refl
