use Rattle.std.proofs.Common.{refl, ◌∙◌, ◌≡◌, true, false, nat_le, length, arith, codes, ap, drop}
use Rattle.std.proofs.lemmas.Bool.Decides.{nat_tests}
use Rattle.fs_replay.specs.Reading.{block_at, begins}
use Rattle.fs_replay.proofs.reader.Reader.block.Goals as goal

pub returns-in_default : goal.returns-in_default
unfolding block_at
returns-in_default c = let cut : nat_le (length c.args.self.now) c.args.len ≡ true = grind (arith, nat_tests, c.in_default.ensures.none) in rw cut refl

pub returns-then-not-word : goal.returns-then-not-word
unfolding block_at
returns-then-not-word c =
    let some = c.in-Some.ensures.some in
    let whole : nat_le (length c.args.self.now) c.args.len ≡ false = grind (arith, nat_tests, some.0) in
    let none = c.if-not-word.ensures.found ∙ ap (begins (codes "\n")) some.2 in
    rw (whole, ← none) refl

pub returns : goal.returns
unfolding block_at
returns c =
    let some = c.in-Some.ensures.some in
    let whole : nat_le (length c.args.self.now) c.args.len ≡ false = grind (arith, nat_tests, some.0) in
    let found = c.if-not-word.ensures.found ∙ ap (begins (codes "\n")) some.2 in
    let left = c.if-not-word.ensures.left ∙ ap (drop 1) some.2 in
    rw (whole, ← found, left, c.in_ok-of.ensures, some.1) refl
