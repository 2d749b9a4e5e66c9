use Rattle.std.proofs.Common.{◌++◌, ◌∙◌, ap}
use Rattle.fs_text.specs.Headers.{taking, with_values}
use Rattle.fs_text.proofs.TakingLemmas.{taking_values}
use Rattle.fs_chan.specs.Changes.{in_state}
use Rattle.fs_chan.specs.Headers as spec
use Rattle.fs_chan.proofs.chan.Chan.tell_in.Goals as goal

pub returns : goal.returns
unfolding spec.channel_headers
returns g c =
    let taken = g.S.HeaderSink.taken in
    let chan = in_state c.args.state c.args.self.now in
    let front = spec.state_headers chan ++ spec.profile_headers chan.profile in
    rw (
    taking_values taken front (spec.peer_header chan) c.args.sink.now
    ∙ ap (taking taken (with_values (spec.peer_header chan)))
    (taking_values taken (spec.state_headers chan) (spec.profile_headers chan.profile) c.args.sink.now)
    )
    (rw (c.in_ok-tell_profile.ensures, c.in_ok-tell_state.ensures, c.peer_uuid.ensures) at c.give.ensures)
