use Rattle.std.proofs.Common.{sym}
use Rattle.fs_top.specs.Reading.{asked_seen}
use Rattle.fs_top.proofs.RunLaws.{runs_given}
use Rattle.fs_top.proofs.program.over_asked.Goals as goal

pub over_file-requires-clause-named : goal.over_file-requires-clause-named
over_file-requires-clause-named g c = λ κs outlives. sym c.in-Some.ensures

pub returns-in-None : goal.returns-in-None
returns-in-None g c =
    runs_given (asked_seen c.args.asked) _ _ _ _ _ _ _ (sym c.in-None.ensures) (rw c.load_document.ensures at c.over_bytes.ensures)
