use Rattle.std.proofs.Common.{◌<◌, length, arith, subst, sym}
use denote.Exit.{no}
use denote.Param.Send.{param_send, param_sync, arg_send, arg_sync}
use Rattle.fs_top.specs.Standing.{IsPlaced, HasFailed}
use Rattle.fs_top.proofs.SendLemmas.{lane_send, book_sync, muster_sync, captures_sync}
use Rattle.fs_top.proofs.lanes.run_lanes.Goals as goal

pub for_each_mut-requires-send-T : goal.for_each_mut-requires-send-T
for_each_mut-requires-send-T g c κs o = param_send _ _ (arg_send _ no _ (lane_send _ _ g.L.Port c.type_bounds.send-L c.type_bounds.send-O))

pub for_each_mut-requires-sync-F : goal.for_each_mut-requires-sync-F
for_each_mut-requires-sync-F g c κs o =
    param_sync _ _
    (arg_sync _ no _ (captures_sync _ _ _ _ _ _ _ _ _ _ _ c.type_bounds.sync-R book_sync c.type_bounds.sync-C c.type_bounds.sync-G muster_sync))

pub returns-clause-placed : goal.returns-clause-placed
returns-clause-placed g c = λ slots before at lane inside.
    let there : at < length c.args.lanes.now = omega (arith, inside, c.for_each_mut.auto.s) in
    let change = (c.for_each_mut.ensures at lane there).1 in
    subst (IsPlaced slots at) change.left
    (change.call.1 slots at (subst (IsPlaced slots at) (sym change.argument_is) (before at lane there)))

pub returns-clause-failed : goal.returns-clause-failed
returns-clause-failed g c = λ from before at lane inside.
    let there : at < length c.args.lanes.now = omega (arith, inside, c.for_each_mut.auto.s) in
    let change = (c.for_each_mut.ensures at lane there).1 in
    subst (HasFailed g.O.Dialer.dial_faults from) change.left
    (change.call.2 from (subst (HasFailed g.O.Dialer.dial_faults from) (sym change.argument_is) (before at lane there)))
