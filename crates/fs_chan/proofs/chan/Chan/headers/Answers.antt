use Rattle.std.proofs.Common.{[]}
use Rattle.fs_text.proofs.TakingLemmas.{taking_list}
use Rattle.fs_chan.specs.Headers as spec
use Rattle.fs_chan.proofs.chan.Chan.headers.Goals as goal

pub returns : goal.returns
returns c = rw (c.in_ok-tell_in.ensures, c.new-headers.ensures) (taking_list (spec.channel_headers c.args.self.now) [])
