use Rattle.std.proofs.Common.{rules}
use denote.Exit.{no}
use denote.Param.Send.{param_send, arg_send}
use Rattle.fs_top.specs.contracts.beside.attend as contract
use Rattle.fs_top.proofs.ReloadLemmas.{noted_as}
use Rattle.fs_top.proofs.SendLemmas.{desk_send, text_sync, book_sync, muster_sync, desk_captures_send}
use Rattle.fs_top.proofs.beside.attend.Goals as goal

pub join_mut-began-requires-send-F : goal.join_mut-began-requires-send-F
join_mut-began-requires-send-F g c κs o =
    param_send _ _
    (arg_send _ no _
    (desk_captures_send _ _ _ _ _ _ _ _ (contract.D-Link-row g.row.R g.row.F g.row.D g.row.C g.row.D-Link) _ _ _ _ _ _ _ c.type_bounds.sync-R
    book_sync c.type_bounds.sync-C muster_sync c.type_bounds.send-F text_sync desk_send))

pub returns-clause-loads : goal.returns-clause-loads
returns-clause-loads g c = λ first before.
    noted_as g.F.Store.loads g.F.Store.counts g.F.Store.sizes c.args.name.now first c.join_mut-began.new.f.4.now _ c.join_mut-began.new.f.6.now _
    (search rules) (search rules) (c.join_mut-began.ensures.0.met.1.1 first before)
