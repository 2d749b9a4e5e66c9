use denote.Exit.{no}
use denote.Param.Send.{param_send, arg_send}
use Rattle.fs_top.proofs.SendLemmas.{pass_send, book_sync, global_sync, number_sync, talk_captures_send}
use Rattle.fs_top.proofs.dialing.converse_beside.Goals as goal

pub join_mut-end-requires-send-F : goal.join_mut-end-requires-send-F
join_mut-end-requires-send-F g c κs within =
    param_send _ _
    (arg_send _ no _
    (talk_captures_send _ _ _ _ _ _ _ _ _ _ _ _ _ _ _ c.type_bounds.sync-R global_sync book_sync pass_send number_sync
    c.type_bounds.send-L c.type_bounds.sync-C))
