use Rattle.std.proofs.Common.{◌<◌, ◌^◌, ◌∙◌, sym, arith}
use Rattle.fs_text.proofs.IdLemmas.{no_uuid, other_version, other_text, the_core}
use Rattle.fs_text.proofs.core_id.CoreId.of_text.Goals as goal
use Rattle.fs_text.proofs.core_id.CoreId.of_text.Goals.{else-high-eq8-via-then-high-eq8+else-eq, else-high-eq8-via-else-high-eq8}

pub returns-in_err-high : goal.returns-in_err-high
returns-in_err-high c =
    rw c.from_residual.ensures (no_uuid c.args.text.now (sym c.in_err-high.was ∙ c.high_half.ensures))

pub returns-then-eq : goal.returns-then-eq
returns-then-eq c =
    let fits : c.in_ok-high.high < 2 ^ 64 = omega arith in
    the_core c.args.text.now c.as_bytes.result.now c.in_ok-high.high (sym c.in_ok-high.was ∙ c.high_half.ensures) (fits, c.if-high-eq8.true)
    (c.as_bytes.ensures.value ∙ c.hyphenated.ensures) c.if-eq.ensures

pub returns-else-high-eq8 : goal.returns-else-high-eq8
returns-else-high-eq8 c =
    let reads = sym c.in_ok-high.was ∙ c.high_half.ensures in
    elim c.else-high-eq8.branch [
      | else-high-eq8-via-then-high-eq8+else-eq w ↦
          other_text c.args.text.now w.as_bytes.result.now c.in_ok-high.high reads
          (w.as_bytes.ensures.value ∙ w.hyphenated.ensures) w.if-eq.ensures
      | else-high-eq8-via-else-high-eq8 w ↦ other_version c.args.text.now c.in_ok-high.high reads w.if-high-eq8.false
    ]
