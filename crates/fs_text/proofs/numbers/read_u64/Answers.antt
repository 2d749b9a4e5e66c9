use Rattle.std.proofs.Common.{◌∙◌}
use Rattle.fs_text.proofs.NumberLemmas.{digits_are_text, text_is_ok, too_long, not_digits, parsed_is}
use Rattle.fs_text.proofs.numbers.read_u64.Goals as goal
use Rattle.fs_text.proofs.numbers.read_u64.Goals.{then-bytes-gt20-via-then-bytes-gt20}
use Rattle.fs_text.proofs.numbers.read_u64.Goals.{then-bytes-gt20-via-else-bytes-gt20+then-not-has_digits_alone}

pub returns-then-bytes-gt20 : goal.returns-then-bytes-gt20
returns-then-bytes-gt20 c =
    elim c.then-bytes-gt20.branch [
      | then-bytes-gt20-via-then-bytes-gt20 w ↦ too_long c.args.bytes.now w.if-bytes-gt20.true
      | then-bytes-gt20-via-else-bytes-gt20+then-not-has_digits_alone w ↦ not_digits c.args.bytes.now (cc)
    ]

pub unwrap-digits-requires : goal.unwrap-digits-requires
unwrap-digits-requires c = text_is_ok _ _ _ c.args.bytes.now c.from_utf8.ensures.cases (digits_are_text _ (cc))

pub returns : goal.returns
returns c =
    let same = rw c.unwrap-digits.ensures at c.from_utf8.ensures.cases in
    c.ok.ensures.value ∙ parsed_is c.args.bytes.now c.parse.result c.if-bytes-gt20.false (cc) (rw same.0 at c.parse.ensures.value.0)
