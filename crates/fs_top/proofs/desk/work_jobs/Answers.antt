use Rattle.fs_top.proofs.ReloadLemmas.{noted_on}
use Rattle.fs_top.proofs.desk.work_jobs.Goals as goal

pub loads-preserved : goal.loads-preserved
loads-preserved g c =
    let turned = c.turn_jobs.ensures in
    record {
      stands = c.load.ensures.stands;
      loads = λ first before.
          c.load.ensures.loads first
          (noted_on first _ c.loads.desk c.turn_jobs.new.desk turned.met turned.noted (c.loads.invariant.loads first before));
    }

pub returns-in-Talk : goal.returns-in-Talk
returns-in-Talk g c =
    let turned = c.turn_jobs.ensures in
    record {
      stands = turned.stands;
      loads = λ first before.
          noted_on first _ c.loads.desk c.turn_jobs.new.desk turned.met turned.noted (c.loads.invariant.loads first before);
    }
