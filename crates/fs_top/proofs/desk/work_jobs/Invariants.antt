use Rattle.fs_session.specs.Loading.{Store}
use Rattle.fs_top.specs.Reloading.{store, HasNoted}
use Rattle.fs_top.specs.Standing.{DeskStands}
use Rattle.fs_top.proofs.desk.work_jobs.Given as goal

abbrev pub invariant-loads : goal.invariant-loads
invariant-loads g l = record {
  stands : DeskStands g.L.Port.input g.L.Port.output (g.C.Clock.tells l.fn.clock) l.fn.book l.desk;
  loads : (first : Store) →
      HasNoted first (store (g.F.Store.loads l.fn.files l.fn.name) (g.F.Store.counts l.fn.files) (g.F.Store.sizes l.fn.files)) l.fn.desk →
      HasNoted first (store (g.F.Store.loads l.files l.fn.name) (g.F.Store.counts l.files) (g.F.Store.sizes l.files)) l.desk;
}
