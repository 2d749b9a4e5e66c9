use Rattle.std.proofs.Common.{arith}
use Rattle.fs_doc.proofs.DialplanLemmas.{added, none_added}
use Rattle.fs_doc.proofs.dialplan.add_extension.Goals as goal

pub returns-in_ok-push-clause-added : goal.returns-in_ok-push-clause-added
returns-in_ok-push-clause-added c =
    added c.args.contexts.now.items c.args.position c.index_mut.result.now c.args.extension c.push.new.self c.index_mut.ensures.value
    c.in_ok-push.ensures.ok

pub returns-else-position-len-clause-added : goal.returns-else-position-len-clause-added
returns-else-position-len-clause-added c =
    none_added c.args.contexts.now.items c.args.position c.args.extension (omega (arith, c.len.ensures, c.if-position-len.false))
