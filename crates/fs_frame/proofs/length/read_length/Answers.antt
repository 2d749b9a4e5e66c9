use Rattle.fs_frame.proofs.LengthLaws.{length_in-long, length_in-some, length_in-none}
use Rattle.fs_frame.proofs.length.read_length.Goals as goal

pub returns-then-value-gt-MOST_DIGITS : goal.returns-then-value-gt-MOST_DIGITS
returns-then-value-gt-MOST_DIGITS c = length_in-long c.args.value.now c.if-value-gt-MOST_DIGITS.true

pub returns-in-Some : goal.returns-in-Some
returns-in-Some c = length_in-some c.args.value.now c.in-Some.length c.if-value-gt-MOST_DIGITS.false c.in-Some.ensures

pub returns-in-None : goal.returns-in-None
returns-in-None c = length_in-none c.args.value.now c.if-value-gt-MOST_DIGITS.false c.in-None.ensures
