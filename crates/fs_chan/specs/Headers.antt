-- The headers that tell of a channel.
use Rattle.std.specs.Prelude.{if◌then◌else◌, [], ◌∷◌, ◌++◌, Option, None, Some, is_some, codes}
use Rattle.std.specs.Fmt as fmt
use Rattle.fs_text.specs.Headers.{with_values}
use Rattle.fs_text.specs.State.{state_name, state_number}
use Rattle.fs_text.specs.Texts.{Text}
use Rattle.fs_vars.specs.Pairs.{Pairs}
use Rattle.fs_vars.specs.declared.profile.Profile.{Profile}
use Rattle.fs_chan.specs.declared.chan.Chan.{Chan}
use Rattle.fs_chan.specs.declared.peer.Direction.{Direction}
use Rattle.fs_chan.specs.declared.peer.Direction.TheVariants.{Inbound, Outbound}
use Rattle.fs_chan.specs.declared.peer.Peer.{Peer}
use Rattle.fs_chan.specs.Changes.{is_live}

abbrev pub direction_name : Direction → Text
direction_name Inbound = codes "inbound"
direction_name Outbound = codes "outbound"

-- whether it was answered, while it is live
abbrev pub answer_state : Chan → Text
answer_state c =
    if is_live c then (if is_some c.answered then codes "answered" else codes "ringing") else codes "hangup"

-- the identifier of a peer, or nothing
abbrev pub peer_uuid : Option Peer → Text
peer_uuid None = []
peer_uuid (Some peer) = peer.uuid

-- its state, and how it is called
abbrev pub state_headers : Chan → Pairs
state_headers c =
    (codes "Channel-State", state_name c.state)
    ∷ (codes "Channel-State-Number", fmt.decimal (state_number c.state))
    ∷ (codes "Channel-Name", c.profile.chan_name)
    ∷ (codes "Unique-ID", c.uuid)
    ∷ (codes "Call-Direction", direction_name c.direction)
    ∷ (codes "Answer-State", answer_state c)
    ∷ []

-- who calls, and whom
abbrev pub profile_headers : Profile → Pairs
profile_headers profile =
    (codes "Caller-Caller-ID-Name", profile.caller_id_name)
    ∷ (codes "Caller-Caller-ID-Number", profile.caller_id_number)
    ∷ (codes "Caller-Destination-Number", profile.destination_number)
    ∷ (codes "Caller-Context", profile.context)
    ∷ []

-- its peer
abbrev pub peer_header : Chan → Pairs
peer_header c = (codes "Other-Leg-Unique-ID", peer_uuid c.peer) ∷ []

-- all headers of a channel, in order
abbrev pub all_headers : Chan → Pairs
all_headers c = state_headers c ++ profile_headers c.profile ++ peer_header c

-- the headers of a channel, without those of an empty value
unfoldable pub channel_headers : Chan → Pairs
channel_headers c = with_values (all_headers c)
