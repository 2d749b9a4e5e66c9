use Rattle.std.proofs.Common.{sym}
use Rattle.fs_vars.proofs.TallyLemmas.{IsSum, put_in}
use Rattle.fs_vars.proofs.vars.Vars.tally_with.Goals as goal

pub returns : goal.returns
returns c =
    let sum : IsSum c.plus.result c.tally_without.result c.of-own.result =
    record { variables = sym c.plus.ensures.variables; bytes = sym c.plus.ensures.bytes } in
    let vars = c.args.self.now in
    put_in vars.bounds c.args.name.now c.args.value.now vars.pairs c.plus.result c.tally_without.result c.of-own.result
    c.tally_without.ensures.distinct sum c.tally_without.ensures.value (rw (← c.self.view_is) c.of-own.ensures)
