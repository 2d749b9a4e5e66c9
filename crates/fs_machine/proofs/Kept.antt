-- What a fact on switches has to bear for every entry to keep it: a case for each move that entries are made of.
use Rattle.std.proofs.Common.{◌≡◌, ℕ, ◌+◌, true, false, List, slice_get, Option, None, Some, IsSome, unwrap_or, ◌⊎◌}
use Rattle.std.specs.Prelude.{is_some}
use Rattle.fs_text.specs.Texts.{Text}
use Rattle.fs_text.specs.declared.causes.Cause.{Cause}
use Rattle.fs_text.specs.declared.causes.Cause.TheVariants.{LoseRace}
use Rattle.fs_vars.specs.Pairs.{value_of}
use Rattle.fs_vars.specs.Variables.{Variables}
use Rattle.fs_doc.specs.Reading.{Configuration}
use Rattle.fs_filter.specs.Subscriptions.{Subscription}
use Rattle.fs_bridge.specs.declared.row.BridgeKind.{BridgeKind}
use Rattle.fs_bridge.specs.Closure.{Members}
use Rattle.fs_chan.specs.declared.chan.Chan.{Chan}
use Rattle.fs_chan.specs.declared.peer.Direction.TheVariants.{Outbound}
use Rattle.fs_chan.specs.declared.peer.Peer.{Peer}
use Rattle.fs_chan.specs.declared.wait.Wait.{Wait}
use Rattle.fs_chan.specs.declared.wait.Wait.TheVariants.{Ready, Legs, Bridged, Dial}
use Rattle.fs_chan.specs.Bridging.{awaited_by}
use Rattle.fs_chan.specs.Changes.{is_live, IsShortTarget, HasShortFields}
use Rattle.fs_chan.specs.Controlling.{dial_of}
use Rattle.fs_orig.specs.declared.caller.Caller.{Caller}
use Rattle.fs_orig.specs.declared.leg.OrigLeg.{OrigLeg}
use Rattle.fs_orig.specs.declared.orig.Orig.{Orig}
use Rattle.fs_orig.specs.declared.plan.LegPlan.{LegPlan}
use Rattle.fs_orig.specs.declared.winner.Winner.{Winner}
use Rattle.fs_orig.specs.declared.winner.Winner.TheVariants.{App, Route}
use Rattle.fs_orig.specs.Changes.{with_answer, may_enter_next}
use Rattle.fs_orig.specs.Endpoints.{IsShortAddress}
use Rattle.fs_orig.specs.Verdicts.{next_group}
use Rattle.fs_seats.proofs.HeldLemmas.{IsFree}
use Rattle.fs_state.specs.declared.conn.Phase.TheVariants.{Fresh}
use Rattle.fs_state.specs.declared.conn.Parting.{Parting}
use Rattle.fs_state.specs.declared.conn.Parting.TheVariants as parting
use Rattle.fs_state.specs.declared.event.Detail.{Detail}
use Rattle.fs_state.specs.declared.event.Detail.TheVariants as detail
use Rattle.fs_state.specs.declared.event.Event.{Event}
use Rattle.fs_state.specs.declared.job.Asker.{Asker}
use Rattle.fs_state.specs.declared.job.Asker.TheVariants as asker
use Rattle.fs_state.specs.declared.job.Background.{Background}
use Rattle.fs_state.specs.declared.job.JobWork.{JobWork}
use Rattle.fs_state.specs.declared.job.JobWork.TheVariants as work
use Rattle.fs_state.specs.Switch.{Switch, chan_at, with_chan, is_full_of_jobs, is_full_of_conns, job_of, without_job, without_conn}
use Rattle.fs_state.specs.Switch.{with_frame_taken}
use Rattle.fs_state.specs.Switch.{with_event}
use Rattle.fs_state.specs.Switch.{next_orig_number, orig_of, without_orig, with_frame_now, with_notice, with_next_identifier}
use Rattle.fs_state.specs.Switch.{reloaded}
use Rattle.fs_state.specs.Ending.{ended}
use Rattle.fs_state.specs.Moves.{orig_changed, leg_changed}
use Rattle.fs_state.specs.Hangups.{lives_at, after_hangups, after_hangups_for}
use Rattle.fs_state.specs.Bridging.{can_join, joined_as}
use Rattle.fs_machine.specs.declared.attempts.Party.TheVariants as party
use Rattle.fs_machine.specs.declared.attempts.WonLeg.{WonLeg}
use Rattle.fs_machine.specs.declared.call.Call.{Call}
use Rattle.fs_machine.specs.declared.owing.Giver.{Giver}
use Rattle.fs_machine.specs.declared.owing.Giver.TheVariants as giver
use Rattle.fs_machine.specs.EventNames.{can_tell}
use Rattle.fs_machine.specs.Connections.{phase_at, conn_changed, admitted, parted, with_subs_changed}
use Rattle.fs_machine.specs.Controlling.{names_target, taken_hold_of, after_letting_go, after_leavings}
use Rattle.fs_machine.specs.Originations.{pair_made, is_misnamed, target_of, group_made}
use Rattle.fs_machine.specs.Bridging.{after_bridge_failure, after_bridge_win, group_dialed}
use Rattle.fs_machine.specs.Attempts.{first_group, originate_begun, awaits, failed_for, won_in, won_for, death_of, with_group}
use Rattle.fs_machine.specs.Dialing.{tried_by_slot}
use Rattle.fs_machine.specs.Joining.{after_departures}
use Rattle.fs_machine.specs.Owing.{after_job_begin, background_begun, after_job_end}
use Rattle.fs_machine.specs.Step.{arrived}
use Rattle.fs_machine.specs.Sound.{is_idle, HasLeg}
use Rattle.fs_machine.proofs.LimitLemmas.{AreLimited, cause_key}

-- How far an entry has come: nothing has begun in it that draws a number, and no bridge has ended; or such a thing may have, and so many
-- slots at most were freed that are not filled again, with each identifier counted that was drawn for no slot.
abbrev pub Stage : Type 0
Stage = Option ℕ

-- A fact on a switch while an entry is done, at each stage of it.
abbrev pub Fact : Type 1
Fact = Stage → Switch → Type 0

-- ---- moves of channels

-- what holds a channel: the origination that it waits for, or its bridge
abbrev pub hold_in : Wait → Wait
hold_in (Legs orig) = Legs orig
hold_in Bridged = Bridged
hold_in _ = Ready

-- what others know of a channel
pub record Links : Type 0 where
  pub uuid : Text
  pub partner : Option ℕ
  pub peer : Option Peer
  pub leg_of : Option ℕ
  pub hold : Wait

abbrev pub links_of : Chan → Links
links_of c = record { uuid = c.uuid; partner = c.partner; peer = c.peer; leg_of = c.leg_of; hold = hold_in c.wait }

-- such a leg is outbound, has nothing to run and waits for no legs of its own, and a leg of a bridge is none of these, and waits for the
-- end of the bridge
pub record IsApt (c : Chan) : Type 0 where
  pub outbound : is_some c.leg_of ≡ true → c.direction ≡ Outbound
  pub idle : is_some c.leg_of ≡ true → is_idle c.state ≡ true
  pub free : is_some c.leg_of ≡ true → awaited_by c ≡ None
  pub alone : is_some c.peer ≡ true → c.leg_of ≡ None
  pub held : is_some c.peer ≡ true → hold_in c.wait ≡ Bridged

-- what a bridge leaves as it is of a channel: it lives just if it lived, and its texts stay within their limits
pub record Remains (old new : Chan) : Type 0 where
  pub uuid : new.uuid ≡ old.uuid
  pub partner : new.partner ≡ old.partner
  pub live : is_live new ≡ is_live old
  pub short : HasShortFields old.profile → HasShortFields new.profile

-- variables keep their limits, and once a bridge may have ended in the entry, the one stays that tells of what
pub record KeepsVars (b : Stage) (old new : Variables) : Type 0 where
  pub limits : AreLimited old → AreLimited new
  pub cause : is_some b ≡ true → value_of new.pairs cause_key ≡ value_of old.pairs cause_key

-- a channel keeps what others know of it, lives just if it lived, and its texts and variables stay within their limits
pub record Keeps (b : Stage) (old new : Chan) : Type 0 where
  pub links : links_of new ≡ links_of old
  pub live : is_live new ≡ is_live old
  pub short : HasShortFields old.profile → HasShortFields new.profile
  pub apt : IsApt old → IsApt new
  pub vars : KeepsVars b old.vars new.vars

-- where a channel waits for a controller, a text names one
abbrev pub IsDialable : Wait → Type 0
IsDialable (Dial text) = names_target text ≡ true
IsDialable _ = Unit {0}

-- the connection that holds a channel holds it still, or none does, and whom it waits for can be dialed
pub record KeepsHold (old new : Chan) : Type 0 where
  pub socket : (new.socket ≡ old.socket) ⊎ (new.socket ≡ None)
  pub dials : IsDialable old.wait → IsDialable new.wait

-- so does a channel that stays what it is to others
pub record Stays (b : Stage) (old new : Chan) : Type 0 where
  pub keeps : Keeps b old new
  pub holder : KeepsHold old new

-- an event tells neither that a bridge begins nor that one has ended
abbrev pub IsOfNoBridge : Detail → Type 0
IsOfNoBridge (detail.Bridge row) = ⊥
IsOfNoBridge (detail.Unbridge row cause) = ⊥
IsOfNoBridge _ = Unit {0}

-- and its name can tell what it tells
abbrev pub TellsNoBridge : Event → Type 0
TellsNoBridge event = (can_tell event.name event.detail ≡ true) × IsOfNoBridge event.detail

-- what happens to a channel and leaves it what it is to others
pub record KeptByTouches (P : Fact) : Type 0 where
  pub told : (event : Event) {b : Stage} {s : Switch} → TellsNoBridge event → P b s → P b (with_event event s)
  pub globals : (globals : Variables) {b : Stage} {s : Switch} → P b s → P b (record s { globals = globals })
  pub changed : (slot : ℕ) (old new : Chan) {b : Stage} {s : Switch} → chan_at s slot ≡ Some old → Stays b old new → P b s →
      P b (with_chan slot (Some new) s)
  pub answers : (seat slot number : ℕ) {b : Stage} {s : Switch} → P b s →
      P b (orig_changed (leg_changed (λ position. with_answer position seat) slot) number s)

-- no bridge was joined since nothing had begun in the entry
pub record NoneJoined (P : Fact) (s : Switch) : Type 0 where
  pub past : Switch
  pub first : P None past
  pub drawn : s.bridges.drawn ≡ past.bridges.drawn

-- so it is by what a fact tells
pub none_joined_by : {P Q : Fact} {s : Switch} → NoneJoined P s → ((t : Switch) → P None t → Q None t) → NoneJoined Q s
none_joined_by was tells = record { past = was.past; first = tells was.past was.first; drawn = was.drawn }

-- what channels do, and what is done to them
pub record KeptByCalls (P : Fact) : Type 0 where
  pub touches : KeptByTouches P
  pub hung : (named : Members) {s : Switch} → P None s → P (Some 0) s → P (Some 0) (after_hangups named s)
  pub joined : (kind : BridgeKind) (caller answerer : ℕ) (c d : Chan) {s : Switch} → can_join caller answerer s ≡ true →
      chan_at s caller ≡ Some c → chan_at s answerer ≡ Some d → c.leg_of ≡ None → d.leg_of ≡ None →
      awaited_by c ≡ None → awaited_by d ≡ None → NoneJoined P s → P (Some 0) s →
      P (Some 0) (joined_as kind caller answerer s)
  pub departs : (slots : List ℕ) {s : Switch} → P None s → P (Some 0) s → P (Some 0) (after_departures slots s)
  pub more : {s : Switch} → P (Some 0) s → P (Some 1) s
  pub gone : (slot : ℕ) (old : Chan) {s : Switch} → chan_at s slot ≡ Some old → is_live old ≡ false → P None s → P (Some 0) s →
      P (Some 1) (with_chan slot None s)

-- the texts and the variables of a call keep their limits
pub record IsShortCall (call : Call) : Type 0 where
  pub address : IsShortAddress call.exten call.context
  pub vars : AreLimited call.vars

-- how channels are born: each pair fills two slots, and draws no more identifiers than that
pub record KeptByBirths (P : Fact) : Type 0 where
  pub spent : {s : Switch} → P None s → P (Some 0) s
  pub pair : (call : Call) (orig a b : ℕ) {s : Switch} → IsShortCall call →
      is_misnamed call.uuid s ≡ false →
      IsFree Chan s.channels 1 a →
      IsFree Chan s.channels (a + 1) b →
      P (Some 0) s → P (Some 0) (pair_made call orig a b s)

-- ---- moves of those who try originations

-- such work is to wait, and then to answer
abbrev pub IsWait : JobWork → Type 0
IsWait work.Run = ⊥
IsWait (work.Sleep until) = Unit {0}
IsWait (work.Originate orig winner caller) = ⊥
IsWait work.Load = Unit {0}

-- a job of this number does this work for whoever is told its answer
pub record DoesJob (s : Switch) (number : ℕ) (who : Asker) (what : JobWork) : Type 0 where
  pub there : job_of s number ≡ Some (record { asker = who; work = what })

-- the legs in these slots have lost the race
abbrev pub raced : List ℕ → Switch → Switch
raced slots s = after_hangups_for LoseRace slots s

-- a leg that has won, where there is a channel of it
abbrev pub won_of : OrigLeg → WonLeg
won_of leg = won_in leg (unwrap_or leg.slot 0)

-- a leg lived when the entry began, and did not die as those in these slots lost, and each other one did
pub record HasWon (before : Switch) (orig : ℕ) (leg : OrigLeg) (slots : List ℕ) : Type 0 where
  pub has : HasLeg before orig leg
  pub survives : death_of (chan_at (raced slots before) (unwrap_or leg.slot 0)) ≡ None
  pub others : (other : OrigLeg) (slot : ℕ) (one : HasLeg before orig other) → other.slot ≡ Some slot →
      (one.position ≡ has.position) ⊎ (lives_at (raced slots before) slot ≡ false)

-- the channel in a slot named an origination
abbrev pub Named : Switch → ℕ → ℕ → Type 0
Named s slot number = (c : Chan) × (chan_at s slot ≡ Some c) × (c.leg_of ≡ Some number)

-- so the entry began, or some were hung up in it
abbrev pub HasHung : Switch → Switch → Type 0
HasHung before s = (s ≡ before) ⊎ ((named : Members) × (s ≡ after_hangups named before))

-- whoever names an origination did so as the entry began, and no leg of it that lived then is a live channel
pub record IsOver (before s : Switch) (orig : ℕ) : Type 0 where
  pub from : HasHung before s
  pub named : (slot : ℕ) (c : Chan) → chan_at s slot ≡ Some c → c.leg_of ≡ Some orig → Named before slot orig
  pub dead : (leg : OrigLeg) (slot : ℕ) → HasLeg before orig leg → leg.slot ≡ Some slot → lives_at s slot ≡ false

-- the legs of a group are made by plans with which it has a leg, if it has one, and it is the turn of this group
pub record ArePlans (o : Orig) (plans : List LegPlan) : Type 0 where
  pub group : List LegPlan
  pub next : next_group o ≡ Some group
  pub enters : may_enter_next o ≡ true
  pub filled : IsSome (slice_get group 0) → IsSome (slice_get plans 0)

-- there is a group, and each has a leg
pub record AreGroups (groups : List (List LegPlan)) : Type 0 where
  pub some : IsSome (slice_get groups 0)
  pub filled : (k : ℕ) (group : List LegPlan) → slice_get groups k ≡ Some group → IsSome (slice_get group 0)

-- ---- api commands

-- the texts that a winner is routed by can stand in a profile
abbrev pub IsShortWinner : Winner → Type 0
IsShortWinner (App application argument) = Unit {0}
IsShortWinner (Route to) = IsShortTarget (target_of to)

-- nothing had begun in the entry but a job, which was to run its command and was taken out for that
pub record IsTakenOut (P : Fact) (number : ℕ) (job : Background) (s : Switch) : Type 0 where
  pub past : Switch
  pub first : P None past
  pub does : DoesJob past number (asker.Background job) work.Run
  pub left : s ≡ without_job number past

-- whoever gives a command may let a job go on behind it: a job that gives one was taken out
abbrev pub MayGoOn : Fact → Giver → Switch → Type 0
MayGoOn P (giver.Conn conn) s = Unit {0}
MayGoOn P (giver.Job number job) s = IsTakenOut P number job s

-- so it may by what a fact tells
pub goes_on_by : (P Q : Fact) (by : Giver) (s : Switch) → MayGoOn P by s → ((t : Switch) → P None t → Q None t) → MayGoOn Q by s
goes_on_by P Q (giver.Conn conn) s may tells = may
goes_on_by P Q (giver.Job number job) s may tells =
    record { past = may.past; first = tells may.past may.first; does = may.does; left = may.left }

-- nobody lives any more
abbrev pub AreDead : Switch → Type 0
AreDead s = (slot : ℕ) → lives_at s slot ≡ false

-- what api commands do to what is no channel
pub record KeptByApi (by : Giver) (P : Fact) : Type 0 where
  pub spent : {s : Switch} → P None s → P (Some 0) s
  pub draws : {s : Switch} → P None s → P (Some 1) (with_next_identifier s)
  pub waits : (what : JobWork) {s : Switch} → IsWait what → MayGoOn P by s → is_full_of_jobs s ≡ false → P None s →
      P (Some 0) (after_job_begin by what s)
  pub originates : (groups : List (List LegPlan)) (winner : Winner) (caller : Caller) (timeout : Option ℕ) {s : Switch} →
      MayGoOn P by s → AreGroups groups → IsShortWinner winner → is_full_of_jobs s ≡ false → P None s →
      P (Some 0) (originate_begun by groups winner caller timeout s)
  pub leavings : {n : ℕ} {s : Switch} → P (Some n) s → P (Some n) (after_leavings s)
  pub ends : (reply notice : Text) {s : Switch} → AreDead s → P (Some 0) s → P (Some 1) (ended reply notice s)

-- the jobs that run a command, and those that end
pub record KeptByJobs (before : Switch) (P : Fact) : Type 0 where
  pub out : (number : ℕ) (job : Background) {s : Switch} → DoesJob s number (asker.Background job) work.Run → P None s →
      P None (without_job number s)
  pub runs : (number : ℕ) (job : Background) → KeptByApi (giver.Job number job) P
  pub woken : (number : ℕ) (who : Asker) (what : JobWork) (answer : Text) {s : Switch} → IsWait what → DoesJob s number who what →
      P (Some 0) s → P (Some 0) (after_job_end number who answer s)
  pub failed : (job : ℕ) (who : Asker) (winner : Winner) (caller : Caller) (orig : ℕ) (cause : Cause) {s : Switch} →
      DoesJob s job who (work.Originate orig winner caller) → IsOver before s orig → P (Some 0) s →
      P (Some 0) (failed_for (party.Job job who winner caller) orig cause s)
  pub wins : (job : ℕ) (who : Asker) (winner : Winner) (caller : Caller) (orig : ℕ) (leg : OrigLeg) (slots : List ℕ) →
      DoesJob (raced slots before) job who (work.Originate orig winner caller) → HasWon before orig leg slots →
      P (Some 0) (raced slots before) → P (Some 0) (won_for (party.Job job who winner caller) orig (won_of leg) (raced slots before))

-- a channel that lives and runs something: nothing holds it, and it is no leg of an origination
pub record IsAtWork (c : Chan) : Type 0 where
  pub live : is_live c ≡ true
  pub free : hold_in c.wait ≡ Ready
  pub busy : is_idle c.state ≡ false

-- the channels that dial, where each draws one number of an origination and waits for what comes of that, and originations that come to
-- their next group
pub record KeptByDials (before : Switch) (P : Fact) : Type 0 where
  pub spent : {s : Switch} → P None s → P (Some 0) s
  pub dials : (slot : ℕ) (c : Chan) (groups : List (List LegPlan)) (timeout : ℕ) {s : Switch} → chan_at s slot ≡ Some c → IsAtWork c →
      AreGroups groups → P None s →
      P (Some 0)
      (tried_by_slot slot groups timeout (next_orig_number s) (group_dialed (Some c) (first_group groups) (next_orig_number s) s))
  pub regroups : (number : ℕ) (o : Orig) (plans : List LegPlan) (caller : Caller) {s : Switch} → orig_of s number ≡ Some o →
      ArePlans o plans → P (Some 0) s → P (Some 0) (with_group number (group_made plans caller number s))
  pub fails : (slot orig : ℕ) (cause : Cause) {s : Switch} → awaits slot orig s ≡ true → IsOver before s orig → P (Some 0) s →
      P (Some 0) (after_bridge_failure cause slot (without_orig orig s))
  pub wins : (slot orig : ℕ) (leg : OrigLeg) (slots : List ℕ) → awaits slot orig (raced slots before) ≡ true →
      HasWon before orig leg slots → P (Some 0) (raced slots before) →
      P (Some 0) (after_bridge_win slot (unwrap_or leg.slot 0) (without_orig orig (raced slots before)))

-- ---- moves of a connection

-- it parts for another reason than the end of its input
abbrev pub LeavesBy : Parting → Type 0
LeavesBy parting.Exit = Unit {0}
LeavesBy parting.AuthRefused = Unit {0}
LeavesBy parting.EndOfInput = ⊥
LeavesBy parting.Stopped = ⊥
LeavesBy parting.ChannelLeft = ⊥

-- nothing had begun in the entry but that the connection of a number let its channel go
pub record WasLetGo (P : Fact) (conn : ℕ) (s : Switch) : Type 0 where
  pub past : Switch
  pub first : P None past
  pub left : s ≡ after_letting_go conn past

-- so it was by what a fact tells
pub let_go_by : {P Q : Fact} {conn : ℕ} {s : Switch} → WasLetGo P conn s → ((t : Switch) → P None t → Q None t) → WasLetGo Q conn s
let_go_by was tells = record { past = was.past; first = tells was.past was.first; left = was.left }

-- what the commands of a connection do
pub record KeptByCommands (conn : ℕ) (P : Fact) : Type 0 where
  pub api : KeptByApi (giver.Conn conn) P
  pub noticed : (frame : Text) {b : Stage} {s : Switch} → P b s → P b (with_notice conn frame s)
  pub gave : (frame : Text) {b : Stage} {s : Switch} → P b s → P b (with_frame_now conn frame s)
  pub asked : (change : Subscription → Subscription) {n : ℕ} {s : Switch} → P (Some n) s →
      P (Some n) (conn_changed (with_subs_changed change) conn s)
  pub admitted : {n : ℕ} {s : Switch} → phase_at s conn ≡ Fresh → P (Some n) s → P (Some n) (conn_changed admitted conn s)
  pub parted : (why : Parting) {n : ℕ} {s : Switch} → LeavesBy why → WasLetGo P conn s → P (Some n) s →
      P (Some n) (conn_changed (parted why) conn s)
  pub backgrounds : (given : Option Text) (command : Text) {s : Switch} → is_full_of_jobs s ≡ false → P None s →
      P (Some 1) (background_begun given command s)

-- how connections come and go, take hold of the channels for which they were dialed, and take their frames, and how the switch is brought
-- to its end by nobody's command
pub record KeptByVisits (P : Fact) : Type 0 where
  pub arrived : {s : Switch} → P None s → P (Some 0) (arrived s).state
  pub taken : (conn : ℕ) {s : Switch} → P (Some 0) s → P (Some 0) (with_frame_taken conn s)
  pub holds : (slot : ℕ) (c : Chan) (text : Text) {s : Switch} → chan_at s slot ≡ Some c → dial_of c ≡ Some text →
      is_full_of_conns s ≡ false → P None s → P (Some 0) (taken_hold_of slot c text s)
  pub silent : (conn : ℕ) {s : Switch} → WasLetGo P conn s → P (Some 0) s →
      P (Some 0) (conn_changed (parted parting.EndOfInput) conn s)
  pub left : (conn : ℕ) {s : Switch} → WasLetGo P conn s → P (Some 0) s → P (Some 0) (without_conn conn s)
  pub halted : (reply notice : Text) {s : Switch} → AreDead s → P (Some 0) s → P (Some 1) (ended reply notice s)

-- every move of an entry that begins in a switch
pub record KeptByMoves (before : Switch) (P : Fact) : Type 0 where
  pub calls : KeptByCalls P
  pub jobs : KeptByJobs before P
  pub dials : KeptByDials before P
  pub commands : (conn : ℕ) → KeptByCommands conn P
  pub visits : KeptByVisits P

-- Such a fact is kept too where other contexts come into force. Only a load does that, so this stands beside the moves: what sees which
-- contexts are in force holds of every entry but a load.
abbrev pub KeptByReload : Fact → Type 0
KeptByReload P = (config : Configuration) (s : Switch) → P (Some 0) s → P (Some 0) (reloaded config s)
