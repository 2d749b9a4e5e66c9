use Rattle.fs_text.proofs.TakingLemmas.{given_is}
use Rattle.fs_chan.specs.Changes.{in_state}
use Rattle.fs_chan.specs.Headers as spec
use Rattle.fs_chan.proofs.chan.Chan.tell_state.Goals as goal

pub returns : goal.returns
returns g c =
    rw (← given_is g.S.HeaderSink.taken (spec.state_headers (in_state c.args.state c.args.self.now)) c.args.sink.now)
    (rw (
      c.in_ok-give-5.ensures,
      c.in_ok-give-4.ensures,
      c.in_ok-give-3.ensures,
      c.in_ok-give-2.ensures,
      c.in_ok-give.ensures,
      c.as_bytes-6.ensures.value,
      c.answer_state.ensures,
      c.as_bytes-5.ensures.value,
      c.name-2.ensures,
      c.as_bytes-4.ensures,
      c.as_bytes-3.ensures,
      c.deref.ensures,
      c.as_bytes-2.ensures.value,
      c.format-number.ensures.text,
      c.number.ensures,
      c.as_bytes.ensures.value,
      c.name.ensures,
    ) at c.give-6.ensures)
