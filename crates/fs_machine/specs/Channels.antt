-- What a change makes of a channel.
use Rattle.fs_chan.specs.declared.chan.Chan.{Chan}
use Rattle.fs_chan.specs.Bridging.{awaiting, in_media}
use Rattle.fs_chan.specs.Changes.{asleep}
use Rattle.fs_chan.specs.Controlling.{awaiting_dial}
use Rattle.fs_chan.specs.Queueing.{queued, awaiting_caller}
use Rattle.fs_chan.specs.Work.{after_next}
use Rattle.fs_machine.specs.declared.channels.ChanChange.{ChanChange}
use Rattle.fs_machine.specs.declared.channels.ChanChange.TheVariants as change
use Rattle.fs_machine.specs.Applications.{with_assignment}
use Rattle.fs_machine.specs.Originations.{won_by}

-- a channel with this change
abbrev pub changed_by : ChanChange → Chan → Chan
changed_by change.Pass c = after_next c
changed_by (change.Assign how argument) c = with_assignment how argument.now c
changed_by (change.Sleep now milliseconds) c = asleep now milliseconds c
changed_by (change.AwaitLegs orig) c = awaiting orig c
changed_by (change.Queue name place) c = queued name.now place c
changed_by (change.AwaitCaller name) c = awaiting_caller name.now c
changed_by (change.AwaitDial text) c = awaiting_dial text.now c
changed_by change.EnterMedia c = in_media c
changed_by (change.Win winner) c = won_by winner.now c
