use Rattle.std.proofs.Common.{refl, ◌≡◌, true, false, nat_lt, nat_eq, ◌&&◌, length, arith, get_or}
use Rattle.std.proofs.lemmas.Bool.Decides.{nat_tests}
use Rattle.fs_replay.specs.Reading.{number_of}
use Rattle.fs_replay.proofs.reader.number_of.Goals.{else-digits-gt1-via-then-digits-gt1+else-digits-eq48, else-digits-gt1-via-else-digits-gt1}
use Rattle.fs_replay.proofs.reader.number_of.Goals as goal

pub returns-then-digits-eq48 : goal.returns-then-digits-eq48
unfolding number_of
returns-then-digits-eq48 c =
    let zero : (nat_lt 1 (length c.args.digits.now) && nat_eq (get_or c.args.digits.now 0 0) 48) ≡ true = grind (arith, nat_tests) in
    rw zero refl

pub returns : goal.returns
unfolding number_of
returns c =
    let plain : (nat_lt 1 (length c.args.digits.now) && nat_eq (get_or c.args.digits.now 0 0) 48) ≡ false =
    elim c.else-digits-gt1.branch [
      | else-digits-gt1-via-then-digits-gt1+else-digits-eq48 w ↦ grind (arith, nat_tests)
      | else-digits-gt1-via-else-digits-gt1 w ↦ grind (arith, nat_tests)
    ] in
    rw plain c.read_u64.ensures
