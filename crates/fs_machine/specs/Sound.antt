-- What holds of the channels, and of the legs of originations, in every switch that a run comes to.
use Rattle.std.specs.Prelude.{◌≡◌, ◌≢◌, ◌≤◌, ℕ, Bool, true, false, None, Some, is_some, slice_get}
use Rattle.fs_text.specs.Texts.{Text}
use Rattle.fs_text.specs.declared.states.State.{State}
use Rattle.fs_text.specs.declared.states.State.TheVariants.{CsNew, CsInit, CsConsumeMedia}
use Rattle.fs_text.specs.declared.causes.Cause.{Cause}
use Rattle.fs_bridge.specs.Bridges.{has_number_left}
use Rattle.fs_bridge.specs.declared.row.Row.{Row}
use Rattle.fs_bridge.specs.Closure.{peer_in}
use Rattle.fs_bridge.specs.Hangups.{IsOneOf}
use Rattle.fs_chan.specs.declared.chan.Chan.{Chan}
use Rattle.fs_chan.specs.declared.peer.Direction.TheVariants.{Outbound}
use Rattle.fs_chan.specs.declared.peer.Peer.{Peer}
use Rattle.fs_chan.specs.declared.wait.Wait.TheVariants.{Bridged, Dial}
use Rattle.fs_chan.specs.Bridging.{awaited_by}
use Rattle.fs_chan.specs.Changes.{is_live, HasShortFields}
use Rattle.fs_orig.specs.declared.leg.OrigLeg.{OrigLeg}
use Rattle.fs_orig.specs.declared.orig.Orig.{Orig}
use Rattle.fs_orig.specs.declared.orig.Owner.TheVariants as owner
use Rattle.fs_orig.specs.declared.verdict.Verdict.TheVariants.{Failed}
use Rattle.fs_orig.specs.Legs.{lives}
use Rattle.fs_orig.specs.Meaning.{IsWithCauses, IsLastToDie}
use Rattle.fs_orig.specs.Verdicts.{verdict_of}
use Rattle.fs_state.specs.declared.conn.Conn.{Conn}
use Rattle.fs_state.specs.declared.conn.Control.{Control}
use Rattle.fs_state.specs.declared.conn.Phase.TheVariants.{Ready}
use Rattle.fs_state.specs.Outboxes.{events_in}
use Rattle.fs_state.specs.Posting.{most_events}
use Rattle.fs_state.specs.Switch.{Switch, chan_at, bridge_at, conn_of, orig_of, job_at, outgoing_for}
use Rattle.fs_machine.specs.Connections.{phase_at}
use Rattle.fs_machine.specs.Controlling.{names_target}
use Rattle.fs_machine.specs.Owed.{AreOwed}
use Rattle.fs_machine.specs.Step.{reads}

-- a live channel stands in a slot, and the one in another slot is its loopback partner
pub record HasPartner (s : Switch) (slot other : ℕ) : Type 0 where
  pub chan : Chan
  pub there : chan_at s slot ≡ Some chan
  pub live : is_live chan ≡ true
  pub partner : chan.partner ≡ Some other

-- the loopback partner of a live channel is there, is live, and names it back
pub record PartnersAgree (s : Switch) : Type 0 where
  pub back : (slot other : ℕ) → HasPartner s slot other → HasPartner s other slot

-- a channel names a partner, which stands in that slot, is live, and names it back
pub record HasLivePartner (s : Switch) (slot : ℕ) (c : Chan) : Type 0 where
  pub other : ℕ
  pub partner : c.partner ≡ Some other
  pub back : HasPartner s other slot

-- each live channel has such a loopback partner
pub record LiveHasPartner (s : Switch) : Type 0 where
  pub each : (slot : ℕ) (c : Chan) → chan_at s slot ≡ Some c → is_live c ≡ true → HasLivePartner s slot c

-- the profile of each channel has its fields within their limits
pub record ProfilesAreShort (s : Switch) : Type 0 where
  pub each : (slot : ℕ) (c : Chan) → chan_at s slot ≡ Some c → HasShortFields c.profile

-- channels in different slots have different identifiers
pub record IdentifiersDiffer (s : Switch) : Type 0 where
  pub apart : (slot other : ℕ) (c d : Chan) → chan_at s slot ≡ Some c → chan_at s other ≡ Some d → slot ≢ other → c.uuid ≢ d.uuid

-- a leg of the origination of this number lives
pub record HasLeg (s : Switch) (number : ℕ) (leg : OrigLeg) : Type 0 where
  pub orig : Orig
  pub there : orig_of s number ≡ Some orig
  pub position : ℕ
  pub at : slice_get orig.legs position ≡ Some leg
  pub lives : lives leg ≡ true

-- a leg is a live channel, which names the origination of this number
pub record IsChannelOf (s : Switch) (number : ℕ) (leg : OrigLeg) : Type 0 where
  pub slot : ℕ
  pub is : leg.slot ≡ Some slot
  pub chan : Chan
  pub there : chan_at s slot ≡ Some chan
  pub live : is_live chan ≡ true
  pub names : chan.leg_of ≡ Some number

-- a living leg of the origination of this number is the channel in this slot
pub record IsLegIn (s : Switch) (slot number : ℕ) : Type 0 where
  pub leg : OrigLeg
  pub has : HasLeg s number leg
  pub is : leg.slot ≡ Some slot

-- Each living leg of an origination is a live channel that names the origination, and no two are the same one. Whatever channel names an
-- origination is a living leg of it.
pub record LegsAreChannels (s : Switch) : Type 0 where
  pub each : (number : ℕ) (leg : OrigLeg) → HasLeg s number leg → IsChannelOf s number leg
  pub apart : (number : ℕ) (leg other : OrigLeg) (one : HasLeg s number leg) (two : HasLeg s number other) → leg.slot ≡ other.slot →
      one.position ≡ two.position
  pub back : (slot number : ℕ) (c : Chan) → chan_at s slot ≡ Some c → c.leg_of ≡ Some number → IsLegIn s slot number

-- the states of a leg that is not decided yet
abbrev pub is_idle : State → Bool
is_idle CsNew = true
is_idle CsInit = true
is_idle CsConsumeMedia = true
is_idle _ = false

-- a leg that is not decided yet is outbound, runs nothing, and dials nothing itself
pub record IsUndecided (c : Chan) : Type 0 where
  pub outbound : c.direction ≡ Outbound
  pub idle : is_idle c.state ≡ true
  pub dials : awaited_by c ≡ None

-- each channel that names an origination is such a leg
pub record LegsAreUndecided (s : Switch) : Type 0 where
  pub each : (slot number : ℕ) (c : Chan) → chan_at s slot ≡ Some c → c.leg_of ≡ Some number → IsUndecided c

-- an origination has a leg, and each that died has a cause; so where it fails it is told the cause of the leg that died last
pub record FailuresAreTold (s : Switch) : Type 0 where
  pub causes : (number : ℕ) (o : Orig) → orig_of s number ≡ Some o → IsWithCauses o.legs
  pub last : (number now : ℕ) (o : Orig) (cause : Cause) → orig_of s number ≡ Some o → verdict_of now o ≡ Failed cause →
      IsLastToDie o.legs cause

-- a live channel stands in a slot, and names the one in another slot as its peer, by its identifier
pub record HasPeer (s : Switch) (slot other : ℕ) : Type 0 where
  pub chan : Chan
  pub there : chan_at s slot ≡ Some chan
  pub live : is_live chan ≡ true
  pub peer : Chan
  pub peer_there : chan_at s other ≡ Some peer
  pub names : chan.peer ≡ Some (record { slot = other; uuid = peer.uuid })

-- a channel that names a peer is a leg of the bridge with it
pub record IsLegWith (s : Switch) (slot : ℕ) (peer : Peer) : Type 0 where
  pub row : Row
  pub part : bridge_at s slot ≡ Some row
  pub other : peer.slot ≡ peer_in row slot

-- The two legs of a bridge differ, are part of no other one, are live channels and name each other, and whoever names a peer is a leg of a
-- bridge with it.
pub record RowsAgree (s : Switch) : Type 0 where
  pub apart : (row : Row) → IsOneOf row s.bridges.rows → row.caller ≢ row.answerer
  pub caller : (row : Row) → IsOneOf row s.bridges.rows → bridge_at s row.caller ≡ Some row
  pub answerer : (row : Row) → IsOneOf row s.bridges.rows → bridge_at s row.answerer ≡ Some row
  pub legs : (slot : ℕ) (row : Row) → bridge_at s slot ≡ Some row → HasPeer s slot (peer_in row slot)
  pub back : (slot : ℕ) (c : Chan) (peer : Peer) → chan_at s slot ≡ Some c → c.peer ≡ Some peer → IsLegWith s slot peer

-- a channel that names a peer waits for the end of the bridge and is a leg of no origination, and whoever waits so names a peer
pub record BridgedWait (s : Switch) : Type 0 where
  pub wait : (slot : ℕ) (c : Chan) (peer : Peer) → chan_at s slot ≡ Some c → c.peer ≡ Some peer → c.wait ≡ Bridged
  pub alone : (slot : ℕ) (c : Chan) (peer : Peer) → chan_at s slot ≡ Some c → c.peer ≡ Some peer → c.leg_of ≡ None
  pub back : (slot : ℕ) (c : Chan) → chan_at s slot ≡ Some c → c.wait ≡ Bridged → is_some c.peer ≡ true

-- a live channel stands in a slot, and waits for the verdict on an origination
pub record Awaits (s : Switch) (slot number : ℕ) : Type 0 where
  pub chan : Chan
  pub there : chan_at s slot ≡ Some chan
  pub live : is_live chan ≡ true
  pub waits : awaited_by chan ≡ Some number

-- the origination of a number is that of the channel in a slot
pub record IsOwnedBy (s : Switch) (slot number : ℕ) : Type 0 where
  pub orig : Orig
  pub there : orig_of s number ≡ Some orig
  pub owned : orig.owner ≡ owner.Slot slot

-- the channel that owns an origination waits for it, and a channel owns what it waits for
pub record OwnersWait (s : Switch) : Type 0 where
  pub wait : (slot number : ℕ) → IsOwnedBy s slot number → Awaits s slot number
  pub own : (slot number : ℕ) (c : Chan) → chan_at s slot ≡ Some c → awaited_by c ≡ Some number → IsOwnedBy s slot number

-- the connection of a number is there, gives all commands, and controls the channel in a slot
pub record IsBoundTo (s : Switch) (conn slot : ℕ) : Type 0 where
  pub its : Conn
  pub there : conn_of s conn ≡ Some its
  pub ready : its.phase ≡ Ready
  pub control : Control
  pub has : its.control ≡ Some control
  pub at : control.slot ≡ slot

-- a channel that names a connection is live and is what that controls, and one that waits for a controller waits for one that a text names
pub record HoldersAgree (s : Switch) : Type 0 where
  pub live : (slot conn : ℕ) (c : Chan) → chan_at s slot ≡ Some c → c.socket ≡ Some conn → is_live c ≡ true
  pub each : (slot conn : ℕ) (c : Chan) → chan_at s slot ≡ Some c → c.socket ≡ Some conn → IsBoundTo s conn slot
  pub dials : (slot : ℕ) (c : Chan) (text : Text) → chan_at s slot ≡ Some c → c.wait ≡ Dial text → names_target text ≡ true

-- so many events wait for a connection at most
pub record EventsAreFew (s : Switch) : Type 0 where
  pub each : (conn : ℕ) → events_in (outgoing_for s conn) ≤ most_events

-- nothing goes on any more: no channel is live, there is no job, and no connection reads commands
pub record IsStill (s : Switch) : Type 0 where
  pub channels : (slot : ℕ) (c : Chan) → chan_at s slot ≡ Some c → is_live c ≡ false
  pub jobs : (seat : ℕ) → job_at s seat ≡ None
  pub conns : (conn : ℕ) → reads (phase_at s conn) ≡ false

-- what holds of the state of every machine
pub record IsSound (s : Switch) : Type 0 where
  pub partners : PartnersAgree s
  pub live : LiveHasPartner s
  pub profiles : ProfilesAreShort s
  pub identifiers : IdentifiersDiffer s
  pub legs : LegsAreChannels s
  pub undecided : LegsAreUndecided s
  pub failures : FailuresAreTold s
  pub rows : RowsAgree s
  pub bridged : BridgedWait s
  pub owners : OwnersWait s
  pub controllers : HoldersAgree s
  pub owed : AreOwed s
  pub events : EventsAreFew s
  -- so it is once the switch has come to its end
  pub still : is_some s.stopping ≡ true → IsStill s
  -- there is a number for one more bridge
  pub numbers : has_number_left s.bridges ≡ true
