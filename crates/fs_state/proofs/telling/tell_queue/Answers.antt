use Rattle.fs_text.proofs.TakingLemmas.{given_is}
use Rattle.fs_state.specs.Posting as spec
use Rattle.fs_state.proofs.telling.tell_queue.Goals as goal

pub returns : goal.returns
returns g c =
    rw (← given_is g.S.HeaderSink.taken (spec.queue_headers c.args.name.now c.args.action) c.args.sink.now)
    (rw (c.in_ok-give.ensures, c.as_bytes.ensures, c.name.ensures) at c.give-2.ensures)
