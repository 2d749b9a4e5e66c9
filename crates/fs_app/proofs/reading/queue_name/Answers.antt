use Rattle.std.proofs.Common.{List, ℕ, Option, sym, ap}
use Rattle.std.specs.Prelude.{unwrap_or}
use native.Mathlib.Omega.{arith}
use Rattle.fs_app.proofs.QueueLemmas.{none_before, some_before}
use Rattle.fs_app.proofs.reading.queue_name.Goals as goal

pub returns-in-Some : goal.returns-in-Some
returns-in-Some c =
    let found = c.in-Some.ensures in
    sym (ap (λ (front : Option (List ℕ)). unwrap_or front c.args.word.now)
    (some_before 33 c.args.word.now c.in-Some.last found.0.high found.1 found.0.after))

pub returns-in-None : goal.returns-in-None
returns-in-None c =
    sym (ap (λ (front : Option (List ℕ)). unwrap_or front c.args.word.now)
    (none_before 33 c.args.word.now (λ k below is. c.in-None.ensures k (omega arith) below is)))
