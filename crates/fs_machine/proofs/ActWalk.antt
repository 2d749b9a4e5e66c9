-- The walk goes on: commands, jobs and all acts.
use Rattle.std.proofs.Common.{◌≡◌, ℕ, zero, suc, ◌+◌, ◌*◌, ◌<◌, ◌≤◌, ◌⊎◌, inl, inr, length, arith, nat_lt, Bool, true, false, if◌then◌else◌, List, [], ◌∷◌, Option, None}
use Rattle.std.proofs.Common.{Some, ◌∙◌, Result, Ok, Err, refl, sym, ap, subst}
use Rattle.std.specs.Prelude.{◌&&◌, not, map, codes}
use Rattle.std.specs.Option.{option_or, option_and_then}
use Rattle.std.specs.Str.{bytes_eq}
use Rattle.fs_text.specs.Texts.{Text}
use Rattle.fs_text.specs.declared.causes.Cause.{Cause}
use Rattle.fs_vars.specs.Variables.{can_set, set_to}
use Rattle.fs_vars.specs.Expansion.{expanded}
use Rattle.fs_cmd.specs.Commands as command
use Rattle.fs_cmd.specs.Commands.{Command, command_of, Message, Execute, Hangup, BadCall}
use Rattle.fs_cmd.specs.Frames.{reply, api_reply, notice, accepted, invalid, bye, denied, not_found}
use Rattle.fs_cmd.specs.Frames.{event_enabled, format_unsupported, event_disabled, no_longer_listening, not_listening}
use Rattle.fs_cmd.specs.Frames.{filter_added, filter_deleted, invalid_syntax, filter_not_found}
use Rattle.fs_cmd.specs.Frames.{job_begun, jobs_full}
use Rattle.fs_cmd.specs.Frames.{message_taken, invalid_session, invalid_call, messages_full}
use Rattle.fs_cmd.specs.declared.command.Form.{Form}
use Rattle.fs_cmd.specs.declared.command.Form.TheVariants.{Plain, Json, Xml}
use Rattle.fs_filter.specs.Asked.{asked_in}
use Rattle.fs_filter.specs.Subscriptions.{Subscription, subscribed, unsubscribed, cleared, has_filter}
use Rattle.fs_api.specs.declared.api.Api.{Api}
use Rattle.fs_api.specs.declared.side.Side.{Side}
use Rattle.fs_api.specs.declared.side.Side.TheVariants.{This}
use Rattle.fs_api.specs.declared.api.Api.TheVariants as api
use Rattle.fs_api.specs.Readings.{api_of, expanded_api_of}
use Rattle.fs_chan.specs.declared.action.Action.{Action}
use Rattle.fs_chan.specs.Moments.{moment_after}
use Rattle.fs_dial.specs.declared.fault.DialFault.{DialFault}
use Rattle.fs_dial.specs.DialStrings.{Dial, dial_string}
use Rattle.fs_orig.specs.declared.caller.Caller.{Caller}
use Rattle.fs_orig.specs.declared.winner.Winner.{Winner}
use Rattle.fs_orig.specs.Plans.{plans_of}
use Rattle.fs_orig.specs.Timeouts.{braces_timeout}
use Rattle.fs_state.specs.declared.conn.Phase.{Phase}
use Rattle.fs_state.specs.declared.conn.Phase.TheVariants as phase
use Rattle.fs_state.specs.declared.conn.Parting.{Parting}
use Rattle.fs_state.specs.declared.conn.Parting.TheVariants as parting
use Rattle.fs_state.specs.declared.job.Asker.{Asker}
use Rattle.fs_state.specs.declared.job.Asker.TheVariants as asker
use Rattle.fs_state.specs.declared.job.Background.{Background}
use Rattle.fs_state.specs.declared.job.Job.{Job}
use Rattle.fs_state.specs.declared.job.JobWork.{JobWork}
use Rattle.fs_state.specs.declared.job.JobWork.TheVariants as work
use Rattle.fs_bridge.specs.declared.row.BridgeKind.TheVariants.{Joined}
use Rattle.fs_text.specs.declared.states.State.TheVariants.{CsExchangeMedia}
use Rattle.fs_chan.specs.Changes.{in_state, is_live, parked, transferred, takes_message, with_message}
use Rattle.fs_chan.specs.Exports.{with_set}
use Rattle.fs_chan.specs.declared.chan.Chan.{Chan}
use Rattle.fs_chan.specs.Controlling.{dial_of}
use Rattle.fs_state.specs.Switch.{Switch, chan_at, with_chan, with_event, job_of, without_job, slot_named, is_full_of_jobs}
use Rattle.fs_state.specs.Switch.{is_full_of_conns, passes_limit}
use Rattle.fs_state.specs.Moves.{plain_event, after_move, after_completion}
use Rattle.fs_state.specs.Hangups.{lives, lives_at}
use Rattle.fs_state.specs.Bridging.{can_join, joined_as, after_join}
use Rattle.fs_machine.specs.declared.entry.Act.{Act}
use Rattle.fs_machine.specs.declared.entry.Act.TheVariants as act
use Rattle.fs_machine.specs.declared.entry.Closing.{Closing}
use Rattle.fs_machine.specs.declared.entry.Closing.TheVariants as closing
use Rattle.fs_machine.specs.declared.attempts.Party.TheVariants as party
use Rattle.fs_machine.specs.declared.owing.Giver.{Giver}
use Rattle.fs_machine.specs.declared.owing.Giver.TheVariants as giver
use Rattle.fs_machine.specs.Texts.{ok, too_many_jobs, made_text, no_channel, not_ready}
use Rattle.fs_machine.specs.Connections.{phase_at, conn_changed, admitted, subs_at}
use Rattle.fs_machine.specs.Attempts.{after_verdict_on}
use Rattle.fs_machine.specs.Owing.{job_uuid, background_begun, job_event, after_job_begin}
use Rattle.fs_machine.specs.Jobs.{told_if, command_run, after_job_work, job_done_from, job_done}
use Rattle.fs_machine.specs.Done.{Done, says, no_reply_yet}
use Rattle.fs_machine.specs.Joining.{in_the_way, after_departures, both_slots, both_in_media, joined_done, bridged_unless, bridge_done_at}
use Rattle.fs_machine.specs.Joining.{uuid_bridge_done, is_ready}
use Rattle.fs_machine.specs.Leaving.{after_arrival, after_arrivals, peer_at, legs_meant, are_ready, legs_sent, sent_at, sent_done}
use Rattle.fs_machine.proofs.LeaveLemmas.{parked_stays, transferred_stays}
use Rattle.fs_machine.proofs.FreeLemmas.{Holds, IsFree, departed_frees, among_both, parked_free, transferred_free, arrived_free, one_ready}
use Rattle.std.specs.List.{range_with_len}
use Rattle.std.proofs.lemmas.Bool.{cases_eq, false≢true}
use Rattle.std.proofs.lemmas.Option.{none-some}
use Rattle.fs_bridge.specs.Hangups.{IsOneOf}
use Rattle.fs_seats.proofs.HeldLemmas.{held_within}
use Rattle.fs_state.specs.Ending.{ended}
use Rattle.fs_text.specs.declared.causes.Cause.TheVariants.{SystemShutdown}
use Rattle.fs_machine.specs.Shutdown.{shutdown_event, stopped_reply, after_shutdown}
use Rattle.fs_machine.proofs.CameLemmas.{CameFrom, came_self, came_hung}
use Rattle.fs_machine.proofs.CutLemmas.{slots_die}
use Rattle.fs_machine.specs.Hangups.{all_slots, after_hangup_of_all}
use Rattle.fs_machine.specs.Applications.{unless_too_long, argument_in}
use Rattle.fs_machine.specs.Api.{kill_done, with_variable, variable_set_on, variable_set_at, sleep_begun, msleep_done, dialed}
use Rattle.fs_machine.specs.Api.{originate_done}
use Rattle.fs_machine.specs.Api.{chan_named, done_plainly, done_expanded, done_over, done_by}
use Rattle.fs_machine.specs.Commands.{with_reply, after_dismissal, after_password, with_response_of, with_response, command_done_in, command_done}
use Rattle.fs_machine.specs.Commands.{after_asking, unless_unknown, after_subscribing, after_unsubscribing, after_silence, after_deletion}
use Rattle.fs_machine.specs.Commands.{with_begun_told, after_background, control_at, controlled_uuid, message_done_to, may_command_all}
use Rattle.fs_machine.specs.Commands.{unless_denied, greeted_by, after_connect}
use Rattle.fs_machine.specs.Commands.{with_filter_added, with_filters_deleted, queued_on, message_done, message_done_at, message_sent}
use Rattle.fs_machine.specs.Controlling.{dial_at, has_hold, taken_hold, after_dial_of, after_dial, after_letting_go, farewell, after_leavings}
use Rattle.fs_machine.specs.Controlling.{greeting_for}
use Rattle.fs_machine.specs.Entries.{is_load}
use Rattle.fs_machine.specs.Loading.{journal_limit_text, reload_begun}
use Rattle.fs_machine.specs.Step.{after_close, acted, act_done}
use Rattle.fs_machine.proofs.Kept.{Stays, Stage, Fact, KeptByCalls, DoesJob, KeptByJobs, KeptByDials, LeavesBy}
use Rattle.fs_machine.proofs.Kept.{IsShortWinner, KeptByReload}
use Rattle.fs_machine.proofs.DrawnLemmas.{departed_drawn}
use Rattle.fs_machine.proofs.Kept.{NoneJoined, WasLetGo, AreDead, MayGoOn, KeptByApi, KeptByCommands, KeptByMoves}
use Rattle.fs_machine.proofs.ShortLemmas.{right_holds, NamesShort, api_short, expanded_short}
use Rattle.fs_machine.proofs.DialLemmas.{dialed_groups}
use Rattle.fs_machine.proofs.JoinLemmas.{ready_now, CanMeet, meets_now, join_meets, media_meets, ready_lone}
use Rattle.fs_machine.proofs.JoinLemmas.{media_stays}
use Rattle.fs_machine.proofs.StayLemmas.{moved_plain, early_vars, same_vars, same_holder, quiet_stays, dials_at_work}
use Rattle.fs_machine.proofs.LimitLemmas.{with_set_limited}
use Rattle.fs_machine.proofs.TryWalk.{verdict_kept}
use Rattle.fs_machine.proofs.Walk.{free_dials, completed_kept, let_go_kept, worked_kept}
use Rattle.fs_machine.proofs.RestLemmas.{hung_rest, does_same}
use Rattle.fs_machine.proofs.LoadLemmas.{load_kept}

-- ---- the end of the switch

in_range : (from count slot : ℕ) → from ≤ slot → slot < from + count → IsOneOf slot (range_with_len from count)
in_range from zero slot low high = absurd (omega (arith, low, high))
in_range from (suc count) slot low high =
    by (cases_eq from slot) (λ differ. in_range (from + 1) count slot (omega (arith, low, differ)) (omega (arith, high)))
  where
    by : (from ≡ slot) ⊎ (from ≡ slot → ⊥) → ((from ≡ slot → ⊥) → IsOneOf slot (range_with_len (from + 1) count)) →
        IsOneOf slot (range_with_len from (suc count))
    by (inl here) behind = inl (sym here)
    by (inr differ) behind = inr (behind differ)

-- behind the hangup of all nobody lives
all_die : (cause : Cause) (s : Switch) → AreDead (after_hangup_of_all cause s)
all_die cause s slot = by (chan_at (after_hangup_of_all cause s) slot) refl
  where
    by : (found : Option Chan) → chan_at (after_hangup_of_all cause s) slot ≡ found → lives_at (after_hangup_of_all cause s) slot ≡ false
    by None is = ap lives is
    by (Some c) is =
        let came : CameFrom s slot c = came_hung (map (λ at. (at, cause)) (all_slots s)) s s (came_self s) slot c is in
        let within : slot < length s.channels = held_within s.channels slot came.was came.there in
        slots_die cause (all_slots s) s slot (in_range 0 (length s.channels) slot (omega arith) (omega (arith, within)))

-- all are hung up, that is told, and nothing is left
module _ (P : Fact) (calls : KeptByCalls P) (leavings : (s : Switch) → P (Some 0) s → P (Some 0) (after_leavings s))
    (ends : (reply notice : Text) (s : Switch) → AreDead s → P (Some 0) s → P (Some 1) (ended reply notice s)) where
  shut_down_kept : (s : Switch) → P None s → P (Some 0) s → P (Some 1) (after_shutdown s)
  unfolding after_shutdown
  shut_down_kept s early h =
      ends stopped_reply notice (with_event shutdown_event (after_leavings (after_hangup_of_all SystemShutdown s)))
      (all_die SystemShutdown s)
      (calls.touches.told shutdown_event (refl, tt)
      (leavings (after_hangup_of_all SystemShutdown s) (calls.hung (map (λ slot. (slot, SystemShutdown)) (all_slots s)) early h)))

-- ---- commands

-- an api command may make a leg, which is a pair of channels
module _ (who : Giver) (P : Fact) (calls : KeptByCalls P) (commands : KeptByApi who P) where
  done_either : {b : Stage} (test : Bool) (x y : Done) → P b x.state → P b y.state → P b (if test then x else y).state
  done_either true x y first second = first
  done_either false x y first second = second

  killed_kept : (cause : Cause) (slot : Option ℕ) {s : Switch} → P None s → P (Some 0) (kill_done cause slot s).state
  killed_kept cause None h = commands.spent h
  killed_kept cause (Some slot) h = calls.hung ((slot, cause) ∷ []) h (commands.spent h)

  -- a variable of a channel is set, which nobody else sees
  variable_kept : (name value : Text) (slot : ℕ) (c : Chan) {s : Switch} → chan_at s slot ≡ Some c → P None s →
      P None (with_chan slot (Some (with_variable name value c)) s)
  variable_kept name value slot c is h =
      calls.touches.changed slot c (with_variable name value c) is
      (quiet_stays c (with_variable name value c) (record { links = refl; direction = refl; state = refl; profile = refl; holder = same_holder refl refl })
      (early_vars c.vars (with_set c.vars name value) (with_set_limited c.vars name value)))
      h

  variable_set_kept : (name value : Text) (found : Option ℕ) {s : Switch} → P None s →
      P (Some 0) (variable_set_at name value found s).state
  variable_set_kept name value None h = commands.spent h
  variable_set_kept name value (Some slot) {s} h = by (chan_at s slot) refl
    where
      by : (chan : Option Chan) → chan_at s slot ≡ chan → P (Some 0) (variable_set_on name value slot chan s).state
      by None is = commands.spent h
      by (Some c) is =
          done_either (can_set c.vars name value) _ _ (commands.spent (variable_kept name value slot c is h)) (commands.spent h)

  slept_kept : (milliseconds : ℕ) {s : Switch} → MayGoOn P who s → P None s → P (Some 0) (msleep_done who milliseconds s).state
  slept_kept milliseconds {s} may h = by (is_full_of_jobs s) refl
    where
      by : (full : Bool) → is_full_of_jobs s ≡ full →
          P (Some 0) (if full then says too_many_jobs s else no_reply_yet (sleep_begun who milliseconds s)).state
      by true is = commands.spent h
      by false is = commands.waits (work.Sleep (moment_after s.moment (milliseconds * 1000))) tt may is h

  reload_kept : {s : Switch} → MayGoOn P who s → P None s → P (Some 0) (reload_begun who s).state
  reload_kept {s} may h = by (is_full_of_jobs s) refl
    where
      room : (passes : Bool) → is_full_of_jobs s ≡ false →
          P (Some 0) (if passes then says journal_limit_text s else no_reply_yet (after_job_begin who work.Load s)).state
      room true is = commands.spent h
      room false is = commands.waits work.Load tt may is h

      by : (full : Bool) → is_full_of_jobs s ≡ full →
          P (Some 0)
          (if full then says too_many_jobs s
          else if passes_limit 1114241 s then says journal_limit_text s
          else no_reply_yet (after_job_begin who work.Load s)).state
      by true is = commands.spent h
      by false is = room (passes_limit 1114241 s) is

  dialed_kept : (url : Text) (read : Result Dial DialFault) → dial_string url ≡ read → (winner : Winner) (caller : Caller)
      (timeout : Option ℕ) {s : Switch} → MayGoOn P who s → IsShortWinner winner → is_full_of_jobs s ≡ false → P None s →
      P (Some 0) (dialed who read winner caller timeout s).state
  dialed_kept url (Err fault) is winner caller timeout may short room h = commands.spent h
  dialed_kept url (Ok dial) is winner caller timeout may short room h =
      commands.originates (plans_of dial) winner caller (option_or timeout (braces_timeout dial)) may (dialed_groups url dial is) short
      room h

  originated_kept : (url : Text) (winner : Winner) (caller : Caller) (timeout : Option ℕ) {s : Switch} → MayGoOn P who s →
      IsShortWinner winner → P None s → P (Some 0) (originate_done who url winner caller timeout s).state
  originated_kept url winner caller timeout {s} may short h = by (is_full_of_jobs s) refl
    where
      by : (full : Bool) → is_full_of_jobs s ≡ full →
          P (Some 0) (if full then says too_many_jobs s else dialed who (dial_string url) winner caller timeout s).state
      by true is = commands.spent h
      by false is = dialed_kept url (dial_string url) refl winner caller timeout may short is h

  media_kept : (slot : ℕ) {s : Switch} → CanMeet s slot → P (Some 0) s → P (Some 0) (after_move (in_state CsExchangeMedia) slot s)
  media_kept slot {s} meets h =
      moved_plain (P (Some 0)) (λ name at t plain k. calls.touches.told (plain_event name at) plain k) (in_state CsExchangeMedia) slot s
      (λ c there. calls.touches.changed slot c (in_state CsExchangeMedia c) there (media_stays s slot meets c there) h) h

  both_media_kept : (a b : ℕ) {s : Switch} → CanMeet s a → CanMeet s b → P (Some 0) s → P (Some 0) (both_in_media a b s)
  both_media_kept a b {s} first second h = by (nat_lt a b)
    where
      by : (test : Bool) →
          P (Some 0)
          (if test then after_move (in_state CsExchangeMedia) b (after_move (in_state CsExchangeMedia) a s)
          else after_move (in_state CsExchangeMedia) a (after_move (in_state CsExchangeMedia) b s))
      by true = media_kept b (media_meets b a s second) (media_kept a first h)
      by false = media_kept a (media_meets a b s first) (media_kept b second h)

  join_kept : (a b : ℕ) {s : Switch} → CanMeet s a → CanMeet s b → NoneJoined P s → P (Some 0) s → P (Some 0) (after_join Joined a b s)
  join_kept a b {s} first second was h = by (can_join a b s) refl
    where
      by : (test : Bool) → can_join a b s ≡ test → P (Some 0) (if test then joined_as Joined a b s else s)
      by true is = calls.joined Joined a b first.chan second.chan is first.there second.there first.lone second.lone first.free
          second.free was h
      by false is = h

  joined_kept : (a b : ℕ) (other : Text) {s : Switch} → Holds IsFree s a → Holds IsFree s b → NoneJoined P s → P (Some 0) s →
      P (Some 0) (joined_done a b other s).state
  joined_kept a b other {s} first second was h = by (lives_at s a) refl (lives_at s b) refl
    where
      meets : (slot : ℕ) → lives_at s slot ≡ true → Holds IsFree s slot → CanMeet s slot
      meets slot live free =
          meets_now s slot live (λ c there. (free c there).lone) (λ c there. free_dials c.wait (free c there).free)

      by : (one : Bool) → lives_at s a ≡ one → (two : Bool) → lives_at s b ≡ two →
          P (Some 0)
          (if one && two then says (made_text other) (both_in_media a b (after_join Joined a b s)) else says no_channel s).state
      by true live true alive =
          let one : CanMeet s a = meets a live first in
          let two : CanMeet s b = meets b alive second in
          both_media_kept a b (join_meets Joined a b a s one) (join_meets Joined a b b s two) (join_kept a b one two was h)
      by true live false dead = h
      by false dead two alive = h

  bridged_kept : (uuid other : Text) {s : Switch} → P None s → P (Some 0) (uuid_bridge_done uuid other s).state
  unfolding uuid_bridge_done
  bridged_kept uuid other {s} h = by (slot_named uuid s) (slot_named other s)
    where
      way : (a b : ℕ) (found : Option Text) → in_the_way a b s ≡ found → P (Some 0) (bridged_unless found a b other s).state
      way a b (Some answer) is = commands.spent h
      way a b None is =
          let ready = ready_now a b s is in
          let slots : List ℕ = both_slots a b in
          joined_kept a b other (departed_frees slots a s (among_both a b).0 (ready_lone (chan_at s a) ready.0))
          (departed_frees slots b s (among_both a b).1 (ready_lone (chan_at s b) ready.1))
          (record { past = s; first = h; drawn = departed_drawn slots s }) (calls.departs slots h (commands.spent h))

      by : (first second : Option ℕ) → P (Some 0) (bridge_done_at first second other s).state
      by (Some a) (Some b) = way a b (in_the_way a b s) refl
      by (Some a) None = commands.spent h
      by None (Some b) = commands.spent h
      by None None = commands.spent h

  -- channels leave what they were in, and go elsewhere
  arrived_kept : (change : Chan → Chan) (slot : ℕ) {s : Switch} →
      ((c : Chan) → chan_at s slot ≡ Some c → is_live c ≡ true → Stays (Some 0) c (change c)) → P (Some 0) s →
      P (Some 0) (after_arrival change slot s)
  arrived_kept change slot {s} stays h = by (lives_at s slot) refl
    where
      by : (live : Bool) → lives_at s slot ≡ live → P (Some 0) (if live then after_move change slot s else s)
      by true live =
          moved_plain (P (Some 0)) (λ name at t plain k. calls.touches.told (plain_event name at) plain k) change slot s
          (λ c there. calls.touches.changed slot c (change c) there (stays c there (sym (ap lives there) ∙ live)) h) h
      by false dead = h

  all_arrived_kept : (change : Chan → Chan) → ((c : Chan) → IsFree c → IsFree (change c)) →
      ((c : Chan) → is_live c ≡ true → IsFree c → Stays (Some 0) c (change c)) → (slots : List ℕ) {s : Switch} →
      ((slot : ℕ) → IsOneOf slot slots → Holds IsFree s slot) → P (Some 0) s → P (Some 0) (after_arrivals change slots s)
  all_arrived_kept change frees stays [] {s} free h = h
  all_arrived_kept change frees stays (slot ∷ slots) {s} free h =
      all_arrived_kept change frees stays slots {s = after_arrival change slot s}
      (λ other one. arrived_free change frees slot other s (free other (inr one)))
      (arrived_kept change slot (λ c there live. stays c live (free slot (inl refl) c there)) h)

  sent_kept : (change : Chan → Chan) (side : Side) (uuid : Text) → ((c : Chan) → IsFree c → IsFree (change c)) →
      ((c : Chan) → is_live c ≡ true → IsFree c → Stays (Some 0) c (change c)) → {s : Switch} → P None s →
      P (Some 0) (sent_done change side uuid s).state
  unfolding sent_done
  sent_kept change side uuid frees stays {s} h = by (slot_named uuid s)
    where
      all_ready : (slots : List ℕ) (test : Bool) → are_ready s slots ≡ test →
          P (Some 0) (if test then says ok (after_arrivals change slots (after_departures slots s)) else says not_ready s).state
      all_ready slots true is =
          all_arrived_kept change frees stays slots {s = after_departures slots s}
          (λ slot one. departed_frees slots slot s one (ready_lone (chan_at s slot) (one_ready s slots is slot one)))
          (calls.departs slots h (commands.spent h))
      all_ready slots false is = commands.spent h

      legs : (found : Option (List ℕ)) → P (Some 0) (legs_sent change found s).state
      legs None = commands.spent h
      legs (Some slots) = all_ready slots (are_ready s slots) refl

      ready : (slot : ℕ) (test : Bool) →
          P (Some 0) (if test then legs_sent change (legs_meant side slot (peer_at s slot)) s else says not_ready s).state
      ready slot true = legs (legs_meant side slot (peer_at s slot))
      ready slot false = commands.spent h

      by : (found : Option ℕ) → P (Some 0) (sent_at change side found s).state
      by None = commands.spent h
      by (Some slot) = ready slot (is_ready (chan_at s slot))

  -- at most one identifier is drawn for no slot
  done_plainly_kept : (what : Api) {s : Switch} → MayGoOn P who s → NamesShort what → P None s →
      P (Some 1) (done_plainly who what s).state
  done_plainly_kept (api.Echo text) may short h = calls.more (commands.spent h)
  done_plainly_kept (api.Expand uuid text) may short h = calls.more (commands.spent h)
  done_plainly_kept api.CreateUuid may short h = commands.draws h
  done_plainly_kept (api.GlobalGetvar name) may short h = calls.more (commands.spent h)
  done_plainly_kept (api.GlobalSetvar name value) {s} may short h =
      calls.more (done_either (can_set s.globals name value) _ _ (calls.touches.globals (set_to s.globals name value) (commands.spent h))
      (commands.spent h))
  done_plainly_kept (api.Msleep milliseconds) may short h = calls.more (slept_kept milliseconds may h)
  done_plainly_kept (api.UuidExists uuid) may short h = calls.more (commands.spent h)
  done_plainly_kept (api.UuidKill uuid cause) {s} may short h = calls.more (killed_kept cause (slot_named uuid s) h)
  done_plainly_kept (api.UuidSetvar uuid name value) {s} may short h = calls.more (variable_set_kept name value (slot_named uuid s) h)
  done_plainly_kept (api.UuidGetvar uuid name) may short h = calls.more (commands.spent h)
  done_plainly_kept (api.UuidDump uuid) may short h = calls.more (commands.spent h)
  done_plainly_kept (api.UuidBridge uuid other) may short h = calls.more (bridged_kept uuid other h)
  done_plainly_kept (api.UuidPark uuid) may short h =
      calls.more (sent_kept parked This uuid parked_free (λ c live free. parked_stays c live free.lone free.free) h)
  done_plainly_kept (api.UuidTransfer uuid side to) may short h =
      calls.more
      (sent_kept (transferred to) side uuid (transferred_free to)
      (λ c live free. transferred_stays to c short live free.lone free.free) h)
  done_plainly_kept (api.Hupall cause) {s} may short h =
      calls.more (calls.hung (map (λ slot. (slot, cause)) (all_slots s)) h (commands.spent h))
  done_plainly_kept api.Shutdown {s} may short h =
      shut_down_kept P calls (λ t k. commands.leavings {s = t} k) (λ reply notice t dead k. commands.ends reply notice {s = t} dead k) s h
      (commands.spent h)
  done_plainly_kept api.Reloadxml may short h = calls.more (reload_kept may h)
  done_plainly_kept (api.Originate url winner cid_name cid_number timeout) may short h =
      calls.more (originated_kept url winner (record { name = cid_name; number = cid_number }) timeout may short h)
  done_plainly_kept (api.Usage which) may short h = calls.more (commands.spent h)
  done_plainly_kept (api.Unknown name) may short h = calls.more (commands.spent h)

  whole_kept : (whole : Option Text) {s : Switch} → MayGoOn P who s → P None s → P (Some 1) (done_expanded who whole s).state
  whole_kept None may h = calls.more (commands.spent h)
  whole_kept (Some text) may h = done_plainly_kept (expanded_api_of text) may (expanded_short text) h

  over_kept : (text : Text) (found : Option Chan) {s : Switch} → MayGoOn P who s → P None s → P (Some 1) (done_over who text found s).state
  over_kept text None may h = calls.more (commands.spent h)
  over_kept text (Some c) {s} may h = whole_kept (argument_in c s text) may h

  pub done_kept : (what : Api) {s : Switch} → MayGoOn P who s → NamesShort what → P None s → P (Some 1) (done_by who what s).state
  done_kept (api.Expand None text) {s} may short h = whole_kept (unless_too_long (expanded s.globals.pairs text)) may h
  done_kept (api.Expand (Some uuid) text) {s} may short h = over_kept text (chan_named uuid s) may h
  done_kept other may short h = done_plainly_kept other may short h

-- ---- jobs

module _ (before : Switch) (P : Fact) (calls : KeptByCalls P) (dials : KeptByDials before P) (jobs : KeptByJobs before P) where
  -- a job was taken out, and runs its command
  run_kept : (number : ℕ) (job : Background) → DoesJob before number (asker.Background job) work.Run → P None before →
      P (Some 1) (command_run number job before)
  run_kept number job does early =
      told_kept (done_by (giver.Job number job) (api_of job.command) (without_job number before)).reply
      (done_kept (giver.Job number job) P calls (jobs.runs number job) (api_of job.command) {s = without_job number before}
      (record { past = before; first = early; does = does; left = refl }) (api_short job.command) (jobs.out number job does early))
    where
      told_kept : (answer : Option Text) {s : Switch} → P (Some 1) s → P (Some 1) (told_if job answer s)
      told_kept None h = h
      told_kept (Some answer) h = calls.touches.told (job_event job answer) (refl, tt) h

  job_tried_kept : (number orig : ℕ) (who : Asker) (winner : Winner) (caller : Caller) →
      DoesJob before number who (work.Originate orig winner caller) → P None before → P (Some 0) before →
      P (Some 0) (after_verdict_on (record { orig = orig; party = party.Job number who winner caller }) before)
  job_tried_kept number orig who winner caller does early h =
      verdict_kept before P calls (record { orig = orig; party = party.Job number who winner caller })
      (λ s. DoesJob s number who (work.Originate orig winner caller)) (λ named can. does_same can (hung_rest named before))
      (λ cause s can over k. jobs.failed number who winner caller orig cause can over k)
      (λ leg slots can won k. jobs.wins number who winner caller orig leg slots can won k)
      (λ o group is next enters k.
      dials.regroups orig o group caller is (record { group = group; next = next; enters = enters; filled = λ some. some }) k)
      does early h

  job_works_kept : (what : JobWork) (number : ℕ) (who : Asker) → DoesJob before number who what → P None before → P (Some 0) before →
      P (Some 1) (after_job_work what number who before)
  job_works_kept work.Run number (asker.Conn conn) does early h = calls.more h
  job_works_kept work.Run number (asker.Background job) does early h = run_kept number job does early
  job_works_kept (work.Sleep until) number who does early h = calls.more (jobs.woken number who (work.Sleep until) ok tt does h)
  job_works_kept (work.Originate orig winner caller) number who does early h =
      calls.more (job_tried_kept number orig who winner caller does early h)
  job_works_kept work.Load number who does early h = calls.more h

  -- a command that it runs may draw an identifier for no slot
  pub job_kept : (number : ℕ) → P None before → P (Some 0) before → P (Some 1) (job_done number before)
  unfolding job_done
  job_kept number early h = by (job_of before number) refl
    where
      by : (found : Option Job) → job_of before number ≡ found → P (Some 1) (job_done_from number found before)
      by None is = calls.more h
      by (Some job) is = job_works_kept job.work number job.asker (record { there = is }) early h

-- ---- commands of the event socket

-- a command may be one of these
module _ (conn : ℕ) (P : Fact) (calls : KeptByCalls P) (commands : KeptByCommands conn P) where
  responded_kept : (answer : Option Text) {b : Stage} {s : Switch} → P b s → P b (with_response_of conn answer s)
  responded_kept None h = h
  responded_kept (Some answer) h = commands.gave (api_reply answer) h

  replied_kept : (text : Text) {s : Switch} → P (Some 0) s → P (Some 0) (with_reply conn text s)
  replied_kept text h = commands.gave (reply text []) h

  dismissed_kept : (why : Parting) (text : Text) {s : Switch} → LeavesBy why → P None s → P (Some 0) (after_dismissal conn why text s)
  dismissed_kept why text {s} leaves h =
      commands.noticed (farewell (control_at s conn))
      (commands.gave (reply text [])
      (commands.parted why leaves (record { past = s; first = h; left = refl })
      (commands.api.spent (let_go_kept P calls.touches conn h))))

  offered_kept : (given : Text) {s : Switch} → phase_at s conn ≡ phase.Fresh → P None s → P (Some 0) (after_password conn given s)
  offered_kept given {s} fresh h = by (bytes_eq given s.settings.password)
    where
      by : (same : Bool) →
          P (Some 0)
          (if same then with_reply conn accepted (conn_changed admitted conn s)
          else after_dismissal conn parting.AuthRefused invalid s)
      by true = replied_kept accepted (commands.admitted fresh (commands.api.spent h))
      by false = dismissed_kept parting.AuthRefused invalid tt h

  -- ---- events

  asked_kept : (change : Subscription → Subscription) (text : Text) {s : Switch} → P (Some 0) s →
      P (Some 0) (after_asking conn change text s)
  asked_kept change text h = replied_kept text (commands.asked change h)

  subscribed_kept : (form : Form) (names : Text) {s : Switch} → P (Some 0) s → P (Some 0) (after_subscribing conn form names s)
  subscribed_kept Plain names h = asked_kept (subscribed (asked_in names)) (unless_unknown (asked_in names) event_enabled) h
  subscribed_kept Json names h = replied_kept format_unsupported h
  subscribed_kept Xml names h = replied_kept format_unsupported h

  unsubscribed_kept : (names : Text) {s : Switch} → P (Some 0) s → P (Some 0) (after_unsubscribing conn names s)
  unsubscribed_kept names h = asked_kept (unsubscribed (asked_in names)) (unless_unknown (asked_in names) event_disabled) h

  silenced_kept : {s : Switch} → P (Some 0) s → P (Some 0) (after_silence conn s)
  silenced_kept {s} h = by (subs_at s conn).listening
    where
      by : (listens : Bool) →
          P (Some 0) (if listens then after_asking conn cleared no_longer_listening s else with_reply conn not_listening s)
      by true = asked_kept cleared no_longer_listening h
      by false = replied_kept not_listening h

  deleted_kept : (header : Text) (value : Option Text) {s : Switch} → P (Some 0) s → P (Some 0) (after_deletion conn header value s)
  deleted_kept header value {s} h = by (has_filter (subs_at s conn).filters header value)
    where
      by : (has : Bool) →
          P (Some 0)
          (if has then after_asking conn (with_filters_deleted header value) (filter_deleted header value) s
          else with_reply conn filter_not_found s)
      by true = asked_kept (with_filters_deleted header value) (filter_deleted header value) h
      by false = replied_kept filter_not_found h

  -- ---- jobs in the background

  behind_kept : (given : Option Text) (text : Text) {s : Switch} → P None s → P (Some 1) (after_background conn given text s)
  behind_kept given text {s} h = by (is_full_of_jobs s) refl
    where
      by : (full : Bool) → is_full_of_jobs s ≡ full →
          P (Some 1)
          (if full then with_reply conn jobs_full s else with_begun_told conn (job_uuid given s) (background_begun given text s))
      by true is = calls.more (replied_kept jobs_full (commands.api.spent h))
      by false is =
          commands.gave (reply (job_begun (job_uuid given s)) ((codes "Job-UUID", job_uuid given s) ∷ []))
          (commands.backgrounds given text is h)

  -- ---- messages

  queued_kept : (uuid : Text) (message : Action) (slot : ℕ) {s : Switch} → P None s →
      P (Some 0) (queued_on conn uuid message slot (chan_at s slot) s)
  queued_kept uuid message slot {s} h = by (chan_at s slot) refl
    where
      room : (c : Chan) (test : Bool) → chan_at s slot ≡ Some c →
          P (Some 0)
          (if test then with_reply conn message_taken (with_chan slot (Some (with_message message c)) s) else with_reply conn messages_full s)
      room c true is =
          replied_kept message_taken (commands.api.spent (calls.touches.changed slot c (with_message message c) is
          (quiet_stays c (with_message message c) (record { links = refl; direction = refl; state = refl; profile = refl; holder = same_holder refl refl })
          (same_vars c.vars c.vars refl)) h))
      room c false is = replied_kept messages_full (commands.api.spent h)

      by : (chan : Option Chan) → chan_at s slot ≡ chan → P (Some 0) (queued_on conn uuid message slot chan s)
      by None is = replied_kept (invalid_session uuid) (commands.api.spent h)
      by (Some c) is = room c (takes_message c) is

  message_kept : (uuid : Text) (message : Message) (slot : ℕ) {s : Switch} → P None s → P (Some 0) (message_done conn uuid message slot s)
  message_kept uuid (Execute application argument) slot h =
      queued_kept uuid (record { application = application; argument = argument }) slot h
  message_kept uuid (Hangup cause) slot h = replied_kept message_taken (calls.hung ((slot, cause) ∷ []) h (commands.api.spent h))
  message_kept uuid BadCall slot h = replied_kept invalid_call (commands.api.spent h)

  messaged_at : (uuid : Text) (message : Message) (found : Option ℕ) {s : Switch} → P None s →
      P (Some 0) (message_done_at conn uuid message found s)
  messaged_at uuid message None h = replied_kept (invalid_session uuid) (commands.api.spent h)
  messaged_at uuid message (Some slot) h = message_kept uuid message slot h

  messaged_for : (uuid : Option Text) (message : Message) {s : Switch} → P None s → P (Some 0) (message_done_to conn uuid message s)
  messaged_for None message h = replied_kept (invalid_session []) (commands.api.spent h)
  messaged_for (Some uuid) message {s} h = messaged_at uuid message (slot_named uuid s) h

  messaged_kept : (uuid : Option Text) (message : Message) {s : Switch} → P None s → P (Some 0) (message_sent conn uuid message s)
  messaged_kept None message {s} h = messaged_for (controlled_uuid (control_at s conn)) message h
  messaged_kept (Some uuid) message h = messaged_for (Some uuid) message h

  -- ---- controllers

  permitted_kept : (done : Switch → Switch) {s : Switch} → (P None s → P (Some 1) (done s)) → P None s →
      P (Some 1) (unless_denied conn done s)
  permitted_kept done {s} does h = by (may_command_all (control_at s conn))
    where
      by : (may : Bool) → P (Some 1) (if may then done s else with_reply conn denied s)
      by true = does h
      by false = calls.more (replied_kept denied (commands.api.spent h))

  greeted_kept : {s : Switch} → P None s → P (Some 0) (after_connect conn s)
  greeted_kept {s} h = by (greeting_for (control_at s conn) s)
    where
      by : (text : Option Text) → P (Some 0) (greeted_by conn text s)
      by None = replied_kept not_found (commands.api.spent h)
      by (Some text) = commands.gave text (commands.api.spent h)

  -- ---- all commands

  pub commanded_kept : (c : Command) {s : Switch} → P None s → P (Some 1) (command_done conn c s)
  unfolding command_done
  commanded_kept c {s} h = by (phase_at s conn) refl c
    where
      by : (at : Phase) → phase_at s conn ≡ at → (given : Command) → P (Some 1) (command_done_in at conn given s)
      by phase.Fresh is (command.Auth given) = calls.more (offered_kept given is h)
      by phase.Fresh is command.Exit = calls.more (dismissed_kept parting.Exit bye tt h)
      by phase.Fresh is _ = calls.more (replied_kept not_found (commands.api.spent h))
      by phase.Ready is (command.Auth given) = calls.more (replied_kept not_found (commands.api.spent h))
      by phase.Ready is command.Exit = calls.more (dismissed_kept parting.Exit bye tt h)
      by phase.Ready is (command.Api text) =
          permitted_kept (λ t. with_response conn (done_by (giver.Conn conn) (api_of text) t))
          (λ k. responded_kept (done_by (giver.Conn conn) (api_of text) s).reply
          (done_kept (giver.Conn conn) P calls commands.api (api_of text) tt (api_short text) k)) h
      by phase.Ready is (command.Event form names) = calls.more (subscribed_kept form names (commands.api.spent h))
      by phase.Ready is (command.Nixevent names) = calls.more (unsubscribed_kept names (commands.api.spent h))
      by phase.Ready is command.Noevents = calls.more (silenced_kept (commands.api.spent h))
      by phase.Ready is (command.Filter header value) =
          calls.more (asked_kept (with_filter_added header value) (filter_added header value) (commands.api.spent h))
      by phase.Ready is (command.FilterDelete header value) = calls.more (deleted_kept header value (commands.api.spent h))
      by phase.Ready is command.BadFilter = calls.more (replied_kept invalid_syntax (commands.api.spent h))
      by phase.Ready is (command.Bgapi text job) = permitted_kept (after_background conn job text) (λ k. behind_kept job text k) h
      by phase.Ready is (command.Sendmsg uuid message) = calls.more (messaged_kept uuid message h)
      by phase.Ready is command.Connect = calls.more (greeted_kept h)
      by phase.Ready is command.Unknown = calls.more (replied_kept not_found (commands.api.spent h))
      by phase.Ending is given = calls.more (commands.api.spent h)
      by phase.Closed is given = calls.more (commands.api.spent h)

-- ---- all acts

module _ (before : Switch) (P : Fact) (kept : KeptByMoves before P) where
  spent : {s : Switch} → P None s → P (Some 0) s
  spent h = (kept.commands 0).api.spent h

  leavings : {n : ℕ} {s : Switch} → P (Some n) s → P (Some n) (after_leavings s)
  leavings h = (kept.commands 0).api.leavings h

  -- it has let its channel go
  freed_kept : (conn : ℕ) {s : Switch} → P None s → P (Some 0) (after_letting_go conn s)
  freed_kept conn h = spent (let_go_kept P kept.calls.touches conn h)

  was_freed : (conn : ℕ) {s : Switch} → P None s → WasLetGo P conn (after_letting_go conn s)
  was_freed conn {s} h = record { past = s; first = h; left = refl }

  closed_kept : (how : Closing) (conn : ℕ) {s : Switch} → P None s → P (Some 0) (after_close how conn s)
  closed_kept closing.EndOfInput conn h = kept.visits.silent conn (was_freed conn h) (freed_kept conn h)
  closed_kept closing.Sent conn h = kept.visits.left conn (was_freed conn h) (freed_kept conn h)
  closed_kept closing.Failed conn h = kept.visits.left conn (was_freed conn h) (freed_kept conn h)

  -- a controller was dialed
  dial_kept : (linked : Bool) (slot : ℕ) → P None before → P (Some 0) (after_dial linked slot before)
  dial_kept linked slot h = by (chan_at before slot) refl (dial_at before slot) refl
    where
      seats : (full : Bool) → not full ≡ true → full ≡ false
      seats true free = absurd (false≢true free)
      seats false free = refl

      held : (c : Chan) (text : Text) → chan_at before slot ≡ Some c → dial_of c ≡ Some text → (test : Bool) →
          has_hold linked before ≡ test →
          P (Some 0) (if test then taken_hold (chan_at before slot) text slot before else after_completion slot before)
      held c text there waits true is =
          subst (λ (found : Option Chan). P (Some 0) (taken_hold found text slot before)) (sym there)
          (kept.visits.holds slot c text there waits
          (seats (is_full_of_conns before) (right_holds linked (not (is_full_of_conns before)) is)) h)
      held c text there waits false is =
          spent
          (completed_kept P kept.calls.touches slot (record { chan = c; there = there; works = dials_at_work c text waits }) h)

      by : (found : Option Chan) → chan_at before slot ≡ found → (text : Option Text) → option_and_then dial_of found ≡ text →
          P (Some 0) (after_dial_of text linked slot before)
      by found there None is = spent h
      by None there (Some text) is = absurd (none-some text is)
      by (Some c) there (Some text) is = held c text there is (has_hold linked before) refl

  -- an act frees one slot at most, or draws one identifier for none; a load frees none, and brings other contexts
  alone_kept : (a : Act) → (is_load a ≡ true → KeptByReload P) → P None before → P (Some 1) (acted a before).state
  alone_kept act.Arrive reloads h = kept.calls.more (kept.visits.arrived h)
  alone_kept (act.Command conn block) reloads h = commanded_kept conn P kept.calls (kept.commands conn) (command_of block) h
  alone_kept (act.Take conn) reloads h = kept.calls.more (kept.visits.taken conn (spent h))
  alone_kept (act.Close conn how) reloads h = kept.calls.more (closed_kept how conn h)
  alone_kept (act.Dialed slot linked) reloads h = kept.calls.more (dial_kept linked slot h)
  alone_kept (act.Work slot) reloads h = worked_kept before P kept.calls kept.dials slot h
  alone_kept act.Halt reloads h =
      shut_down_kept P kept.calls (λ t k. leavings {s = t} k) (λ reply notice t dead k. kept.visits.halted reply notice {s = t} dead k) before h
      (spent h)
  alone_kept (act.Job number) reloads h = job_kept before P kept.calls kept.dials kept.jobs number h (spent h)
  alone_kept (act.Loaded number note) reloads h =
      kept.calls.more (load_kept (P (Some 0)) (P (Some 0))
      (λ config globals t k. kept.calls.touches.globals globals (reloads refl config t k)) (λ t k. k)
      (λ job who answer t does k. kept.jobs.woken job who work.Load answer tt does k) note number before (spent h))

  -- so it does with what comes behind it
  pub acted_kept : (a : Act) → (is_load a ≡ true → KeptByReload P) → P None before → P (Some 1) (act_done a before).state
  acted_kept a reloads h = leavings (alone_kept a reloads h)
