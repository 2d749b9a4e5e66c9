use Rattle.fs_conn.proofs.handing.drain.Goals as goal

pub returns-in-Err-clause-drains : goal.returns-in-Err-clause-drains
returns-in-Err-clause-drains g c = λ from rest h. c.in-Err.ensures.drains from rest (c.frames.invariant.holds from rest h)
