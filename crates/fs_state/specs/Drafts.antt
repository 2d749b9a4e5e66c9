-- What a draft changes of a switch.
use Rattle.std.specs.Prelude.{◌≡◌, ℕ, Option, None, option_map, Result, unwrap_or, OnOk, [], length}
use Rattle.std.specs.Arc.{arc_value}
use Rattle.fs_bridge.specs.Bridges.{BridgeRows}
use Rattle.fs_chan.specs.declared.chan.Chan.{Chan}
use Rattle.fs_doc.specs.Reading.{Configuration}
use Rattle.fs_seats.specs.Sheets.{written}
use Rattle.fs_seats.specs.Overlays.{taken_back}
use Rattle.fs_state.specs.declared.delta.Delta.{Delta}
use Rattle.fs_state.specs.declared.delta.OutboxChange.TheVariants.{Unchanged}
use Rattle.fs_state.specs.Losses.{Losses}
use Rattle.fs_state.specs.Outboxes.{outboxes_after, all_of, HaveRoom, frames_given}
use Rattle.fs_state.specs.Waiting.{no_posts, gifts_of_posts, AreNumbered}
use Rattle.fs_state.specs.Switch.{Switch, chan_at, with_chan}

-- the switch with all of these changes
abbrev pub after : Switch → Delta → Switch
after s d = record s {
  contexts = unwrap_or (option_map (λ config. (arc_value {X = Configuration} config).contexts) d.in_force) s.contexts;
  reloads = d.reloads;
  globals = unwrap_or d.globals s.globals;
  channels = written s.channels d.channels;
  bridges = unwrap_or d.bridges s.bridges;
  origs = written s.origs d.origs;
  jobs = written s.jobs d.jobs;
  conns = written s.conns d.conns;
  outboxes = outboxes_after d.outbox s.outboxes;
  drawn = d.drawn;
  moment = d.moment;
  stopping = d.stopping;
  losses = unwrap_or d.losses s.losses;
  news = d.news;
  replies = d.replies;
  posted = gifts_of_posts d.posted;
  late = d.late;
  notices = d.notices;
}

-- a change of nothing, whatever was drawn and whenever, however often contexts came into force, and whether or not the switch came to
-- its end
abbrev pub IsBlank : Delta → Type 0
IsBlank d = d ≡ record {
  in_force = None;
  reloads = d.reloads;
  globals = None;
  channels = [];
  bridges = None;
  origs = [];
  jobs = [];
  conns = [];
  outbox = Unchanged;
  drawn = d.drawn;
  moment = d.moment;
  stopping = d.stopping;
  losses = None;
  news = [];
  replies = [];
  posted = no_posts;
  late = [];
  notices = [];
  text = d.text;
}

-- what a change still has once it was made: what happens, and what is given
abbrev pub rest_of : Delta → Delta
rest_of d = record d {
  in_force = None;
  globals = None;
  channels = [];
  bridges = None;
  origs = [];
  jobs = [];
  conns = [];
  outbox = Unchanged;
  losses = None;
}

-- a switch, and what is to change of it
pub record Drafted : Type 0 where
  pub base : Switch
  pub delta : Delta

-- the switch as it is to be
abbrev pub drafted : Drafted → Switch
drafted d = after d.base d.delta

-- a call brings a draft to a switch, unless it is refused; what the draft stands over stays
abbrev pub Brings : {T E : Type 0} → Result T E → Drafted → Drafted → Switch → Type 0
Brings result old new s = (new.base ≡ old.base) × OnOk result (drafted new ≡ s)

-- the channel in a slot, as it is to be
abbrev pub chan_in : Drafted → ℕ → Option Chan
chan_in d slot = chan_at (drafted d) slot

-- the switch as it is to be, with another channel in a slot
abbrev pub with_chan_in : Drafted → ℕ → Option Chan → Switch
with_chan_in d slot chan = with_chan slot chan (drafted d)

-- the switch as it is to be, with other bridges
abbrev pub with_bridges_in : Drafted → BridgeRows → Switch
with_bridges_in d bridges = record (drafted d) { bridges = bridges }

-- the switch as it is to be, with other losses
abbrev pub with_losses_in : Drafted → Losses → Switch
with_losses_in d losses = record (drafted d) { losses = losses }

-- the channel that can be taken back from a slot: what was written last, where that put a channel there
abbrev pub chan_taken_back : Drafted → ℕ → Option Chan
chan_taken_back d slot = taken_back (record { kept = d.base.channels; sheet = d.delta.channels }) slot

-- what is given has room in the outboxes, and the events that are posted are numbered by how many there were
pub record Fits (s : Switch) (d : Delta) : Type 0 where
  pub room : HaveRoom (outboxes_after d.outbox s.outboxes) (frames_given (all_of d))
  pub numbers : AreNumbered s.counts.all (length d.news) d.posted.events

-- how many events are posted
abbrev pub events_posted : Delta → ℕ
events_posted d = length d.posted.events
