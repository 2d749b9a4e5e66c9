use Rattle.std.proofs.Common.{rules}
use denote.Exit.{no}
use denote.Param.Send.{param_send, arg_send}
use Rattle.fs_top.proofs.ReloadLemmas.{noted_as}
use Rattle.fs_top.proofs.PlacedLemmas.{placed_as, failed_all}
use Rattle.fs_top.proofs.SendLemmas.{lane_send, book_sync, muster_sync, slice_captures_send}
use Rattle.fs_top.proofs.beside.run_round.Goals as goal

pub join_mut-began-requires-send-F : goal.join_mut-began-requires-send-F
join_mut-began-requires-send-F g c κs o =
    param_send _ _
    (arg_send _ no _
    (slice_captures_send _ _ _ _ _ _ _ _ _ _ _ _ _ c.type_bounds.sync-R book_sync c.type_bounds.sync-C c.type_bounds.sync-G muster_sync
    (lane_send _ _ g.D.Link.Port c.type_bounds.send-D-Link c.type_bounds.send-O)))

pub returns-clause-placed : goal.returns-clause-placed
returns-clause-placed g c = λ slots before.
    placed_as slots c.join_mut-began.new.f.5.now _ (search rules) (c.join_mut-began.ensures.0.met.1.2 slots before)

pub returns-clause-failed : goal.returns-clause-failed
returns-clause-failed g c = λ from before.
    failed_all g.O.Dialer.dial_faults from c.join_mut-began.new.f.5.now _ (search rules) (c.join_mut-began.ensures.0.met.1.3 from before)

pub returns-clause-loads : goal.returns-clause-loads
returns-clause-loads g c = λ first before.
    noted_as g.F.Store.loads g.F.Store.counts g.F.Store.sizes c.args.name.now first c.join_mut-began.new.g.5.now _ c.join_mut-began.new.g.9.now _
    (search rules) (search rules) (c.join_mut-began.ensures.1.met.1.5 first before)
