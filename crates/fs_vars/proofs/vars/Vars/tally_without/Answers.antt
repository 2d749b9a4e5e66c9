use Rattle.std.proofs.Common.{sym, arith}
use Rattle.fs_vars.proofs.PairsLemmas.{without-absent}
use Rattle.fs_vars.proofs.TallyLemmas.{IsSum, taken_out, rest_is, is_within-part}
use Rattle.fs_vars.proofs.vars.Vars.tally_without.Goals as goal

pub minus-requires : goal.minus-requires
minus-requires c =
    let own = rw c.as_bytes.ensures at c.of.ensures in
    let parts =
    taken_out c.self.inside.bounds c.args.name.now c.in-Some.value.now c.self.inside.table c.self.inside.tally c.of.result
    c.in-Some.ensures.distinct c.in-Some.ensures.value c.self.invariant.0 own in
    record { variables = omega (arith, parts.variables); bytes = omega (arith, parts.bytes) }

pub returns-in-Some : goal.returns-in-Some
returns-in-Some c =
    let own = rw c.as_bytes.ensures at c.of.ensures in
    let parts =
    taken_out c.self.inside.bounds c.args.name.now c.in-Some.value.now c.self.inside.table c.self.inside.tally c.of.result
    c.in-Some.ensures.distinct c.in-Some.ensures.value c.self.invariant.0 own in
    let left : IsSum c.self.inside.tally c.minus.result c.of.result =
    record { variables = c.minus.ensures.variables; bytes = c.minus.ensures.bytes } in
    rw (← c.self.view_is) (record {
      value = rest_is left parts;
      within = is_within-part c.self.inside.bounds left c.self.invariant.1;
      distinct = c.in-Some.ensures.distinct;
    })

pub returns-in-None-clause-value : goal.returns-in-None-clause-value
returns-in-None-clause-value c =
    rw (← c.self.view_is, without-absent c.args.name.now c.self.inside.table (sym c.in-None.ensures.value)) c.self.invariant.0
