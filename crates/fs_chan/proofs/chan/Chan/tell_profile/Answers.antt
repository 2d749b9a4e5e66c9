use Rattle.fs_text.proofs.TakingLemmas.{given_is}
use Rattle.fs_chan.specs.Headers as spec
use Rattle.fs_chan.proofs.chan.Chan.tell_profile.Goals as goal

pub returns : goal.returns
returns g c =
    rw (← given_is g.S.HeaderSink.taken (spec.profile_headers c.args.self.now.profile) c.args.sink.now)
    (rw (
      c.in_ok-give-3.ensures,
      c.in_ok-give-2.ensures,
      c.in_ok-give.ensures,
      c.as_bytes.ensures,
      c.as_bytes-destination.ensures,
      c.as_bytes-number.ensures,
      c.as_bytes-name.ensures,
      c.deref-profile.ensures,
    ) at c.give-4.ensures)
