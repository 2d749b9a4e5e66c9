use Rattle.fs_top.specs.Runs.{name_of}
use Rattle.fs_top.specs.Reading.{asked_seen}
use Rattle.fs_top.proofs.RunLaws.{over_plan, over_fault, loads_kept}
use Rattle.fs_top.proofs.program.over_config.Goals as goal

pub returns-in-Ok : goal.returns-in-Ok
returns-in-Ok g c =
    over_plan (asked_seen c.args.asked) c.args.config _ _ _ _ _ _ _ _ c.over_plan.ensures c.in-Ok.ensures.sizes
    (loads_kept _ _ _ _ _ _ (name_of (asked_seen c.args.asked)) c.build.ensures.files)

pub returns : goal.returns
returns g c =
    rw c.not_built.ensures (over_fault (asked_seen c.args.asked) c.args.config c.in-Err.fault _ _ _ _ c.in-Err.ensures.refused
    c.in-Err.ensures.sizes (loads_kept _ _ _ _ _ _ (name_of (asked_seen c.args.asked)) c.build.ensures.files))
