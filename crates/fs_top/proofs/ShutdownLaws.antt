-- A switch comes to its end by an entry that runs `fsctl shutdown`, or as it is halted, and by no other entry.
use Rattle.std.proofs.Common.{◌≡◌, ℕ, ◌*◌, Bool, true, false, if◌then◌else◌, List, [], ◌∷◌, ◌++◌, Option, None, Some, Result, Ok, Err}
use Rattle.std.proofs.Common.{◌⊎◌, inl, inr, unwrap_or, refl, sym, ap, subst, ◌∙◌, true≢false, append_assoc}
use Rattle.std.specs.Prelude.{◌&&◌, ◌||◌, map, nat_lt, is_some, option_map}
use Rattle.std.specs.List.{list_any}
use Rattle.std.proofs.lemmas.List.Folds.{list_any-append}
use Rattle.fs_doc.specs.Reading.{Configuration}
use Rattle.std.specs.Option.{option_and_then, option_or}
use Rattle.std.specs.Str.{bytes_eq}
use Rattle.fs_text.specs.Texts.{Text}
use Rattle.fs_text.specs.declared.causes.Cause.{Cause}
use Rattle.fs_text.specs.declared.states.State.TheVariants.{CsExchangeMedia}
use Rattle.fs_vars.specs.Variables.{can_set}
use Rattle.fs_vars.specs.Expansion.{expanded}
use Rattle.fs_cmd.specs.Commands as command
use Rattle.fs_cmd.specs.Commands.{Command, command_of, Message, Execute, Hangup, BadCall}
use Rattle.fs_cmd.specs.declared.command.Form.{Form}
use Rattle.fs_cmd.specs.declared.command.Form.TheVariants.{Plain, Json, Xml}
use Rattle.fs_api.specs.declared.api.Api.{Api}
use Rattle.fs_api.specs.declared.api.Api.TheVariants as api
use Rattle.fs_api.specs.declared.side.Side.{Side}
use Rattle.fs_api.specs.declared.side.Side.TheVariants.{This}
use Rattle.fs_api.specs.Readings.{api_of, expanded_api_of}
use Rattle.fs_filter.specs.Asked.{asked_in}
use Rattle.fs_filter.specs.Subscriptions.{subscribed, unsubscribed, cleared, has_filter}
use Rattle.fs_bridge.specs.Closure.{Members}
use Rattle.fs_bridge.specs.declared.row.BridgeKind.TheVariants.{Joined}
use Rattle.fs_chan.specs.declared.action.Action.{Action}
use Rattle.fs_chan.specs.declared.chan.Chan.{Chan}
use Rattle.fs_chan.specs.Changes.{in_state, at_rest, parked, transferred, takes_message}
use Rattle.fs_chan.specs.Moments.{moment_after}
use Rattle.fs_dial.specs.declared.fault.DialFault.{DialFault}
use Rattle.fs_dial.specs.DialStrings.{Dial, dial_string}
use Rattle.fs_orig.specs.declared.caller.Caller.{Caller}
use Rattle.fs_orig.specs.declared.plan.LegPlan.{LegPlan}
use Rattle.fs_orig.specs.declared.winner.Winner.{Winner}
use Rattle.fs_orig.specs.Plans.{plans_of}
use Rattle.fs_orig.specs.Timeouts.{braces_timeout}
use Rattle.fs_state.specs.declared.conn.Conn.{Conn}
use Rattle.fs_state.specs.declared.conn.Parting.{Parting}
use Rattle.fs_state.specs.declared.conn.Parting.TheVariants as parting
use Rattle.fs_state.specs.declared.conn.Phase.{Phase}
use Rattle.fs_state.specs.declared.conn.Phase.TheVariants as phase
use Rattle.fs_state.specs.declared.job.Asker.{Asker}
use Rattle.fs_state.specs.declared.job.Asker.TheVariants as asker
use Rattle.fs_state.specs.declared.job.Background.{Background}
use Rattle.fs_state.specs.declared.job.Job.{Job}
use Rattle.fs_state.specs.declared.job.JobWork.{JobWork}
use Rattle.fs_state.specs.declared.job.JobWork.TheVariants as work
use Rattle.fs_state.specs.Switch.{Switch, chan_at, slot_named, is_full_of_jobs, job_of, with_new_job, without_job, without_orig, at_moment}
use Rattle.fs_state.specs.Switch.{empty, next_orig_number, passes_limit}
use Rattle.fs_state.specs.Moves.{after_move, after_completion}
use Rattle.fs_state.specs.Hangups.{lives_at, after_hangups}
use Rattle.fs_state.specs.Bridging.{can_join, joined_as, after_join}
use Rattle.fs_machine.specs.declared.entry.Act.{Act}
use Rattle.fs_machine.specs.declared.entry.Act.TheVariants as act
use Rattle.fs_machine.specs.declared.entry.Closing.{Closing}
use Rattle.fs_machine.specs.declared.entry.Closing.TheVariants as closing
use Rattle.fs_machine.specs.declared.entry.Entry.{Entry}
use Rattle.fs_machine.specs.declared.note.LoadNote.{LoadNote}
use Rattle.fs_machine.specs.declared.refusal.Refusal.TheVariants as refusal
use Rattle.fs_machine.specs.Api.{kill_done, variable_set_on, variable_set_at, dialed, chan_named}
use Rattle.fs_machine.specs.Api.{done_plainly, done_expanded, done_over, done_by}
use Rattle.fs_machine.specs.Applications.{unless_too_long, argument_in}
use Rattle.fs_machine.specs.Attempts.{originate_begun, first_group, with_group}
use Rattle.fs_machine.specs.Commands.{after_password, with_response_of, with_response, after_subscribing, with_filter_added, with_filters_deleted}
use Rattle.fs_machine.specs.Commands.{after_silence, after_deletion, after_background, queued_on, message_done_at, message_done_to}
use Rattle.fs_machine.specs.Commands.{message_sent, control_at, controlled_uuid, may_command_all, unless_denied, greeted_by}
use Rattle.fs_machine.specs.Commands.{command_done_in, command_done}
use Rattle.fs_machine.specs.Connections.{phase_at, conn_changed, admitted, parted, with_subs_changed, owed_since, not_owed, subs_at}
use Rattle.fs_machine.specs.Controlling.{dial_at, has_hold, taken_hold, after_dial_of, after_letting_go, greeting_for}
use Rattle.fs_machine.specs.Done.{Done}
use Rattle.fs_machine.specs.Hangups.{all_slots}
use Rattle.fs_machine.specs.Jobs.{told_if, after_run, after_job_work, job_done_from, job_done}
use Rattle.fs_machine.specs.Joining.{in_the_way, after_departures, both_slots, both_in_media, joined_done, bridged_unless, bridge_done_at}
use Rattle.fs_machine.specs.Joining.{uuid_bridge_done, is_ready}
use Rattle.fs_machine.specs.Loading.{after_load}
use Rattle.fs_machine.specs.Leaving.{after_arrival, after_arrivals, peer_at, legs_meant, are_ready, legs_sent, sent_at, sent_done}
use Rattle.fs_machine.specs.Originations.{after_winning, group_made}
use Rattle.fs_machine.specs.Owing.{after_owing, after_job_begin, background_begun, after_job_end}
use Rattle.fs_machine.specs.Runs.{run_from, IsRunFrom}
use Rattle.fs_machine.specs.Shutdown.{after_shutdown}
use Rattle.fs_machine.specs.Step.{refused_act, refusal_of, after_close, acted, step}
use Rattle.fs_machine.specs.Work.{after_work}
use Rattle.fs_machine.specs.Texts.{ok, made_text, failed_text}
use Rattle.fs_machine.proofs.FrontLemmas.{conn_unread}
use Rattle.fs_machine.proofs.Kept.{Fact, KeptByCalls, raced}
use Rattle.fs_machine.proofs.RestLemmas.{Rest, rest_of, whichever, moved_rest, hung_rest, joined_rest, calls_by_rest, won_rest, group_made_rest}
use Rattle.fs_machine.proofs.RestLemmas.{regrouped_rest, worked_rest}
use Rattle.fs_machine.proofs.LoadLemmas.{load_kept}
use Rattle.fs_machine.proofs.OrderLemmas.{none_refused, not_refused}
use Rattle.fs_machine.proofs.RunLemmas.{run_more, is_run_more, runs_both}
use Rattle.fs_machine.proofs.StillMoves.{stays_stopping}
use Rattle.fs_machine.proofs.TryWalk.{verdict_kept}
use Rattle.fs_machine.proofs.Walk.{let_go_kept}
use Rattle.fs_top.specs.Headline.{is_halt}
use Rattle.fs_top.specs.Shutdowns.{run_for, RunsShutdown, ShutsDown}

-- a switch has come to its end just where another one has, and by the same entry
abbrev Stays : Switch → Fact
Stays s b t = t.stopping ≡ s.stopping

stays_by_rest : (s t : Switch) → rest_of t ≡ rest_of s → t.stopping ≡ s.stopping
stays_by_rest s t same = ap (λ (r : Rest). r.stopping) same

hung_stays : (named : Members) (s : Switch) → (after_hangups named s).stopping ≡ s.stopping
hung_stays named s = stays_by_rest s (after_hangups named s) (hung_rest named s)

moved_stays : (change : Chan → Chan) (slot : ℕ) (s : Switch) → (after_move change slot s).stopping ≡ s.stopping
moved_stays change slot s = stays_by_rest s (after_move change slot s) (moved_rest change slot s)

calls_stay : (s : Switch) → KeptByCalls (Stays s)
calls_stay s = calls_by_rest (Stays s) (λ b t u h same. stays_by_rest t u same ∙ h) (λ t h. h)

-- ---- connections and jobs

changed_stays : (change : Conn → Conn) (conn : ℕ) (s : Switch) → (conn_changed change conn s).stopping ≡ s.stopping
changed_stays change conn s = conn_unread (λ (t : Switch). t.stopping) (λ conns t. refl) change conn s

let_go_stays : (conn : ℕ) (s : Switch) → (after_letting_go conn s).stopping ≡ s.stopping
let_go_stays conn s = let_go_kept (Stays s) (calls_stay s).touches conn {b = None} {s = s} refl

owing_stays : (conn : ℕ) (what : JobWork) (s : Switch) → (after_owing conn what s).stopping ≡ s.stopping
owing_stays conn what s = changed_stays (owed_since s.entries) conn (with_new_job (record { asker = asker.Conn conn; work = what }) s)

ended_stays : (number : ℕ) (who : Asker) (answer : Text) (s : Switch) → (after_job_end number who answer s).stopping ≡ s.stopping
ended_stays number (asker.Conn conn) answer s = changed_stays not_owed conn (without_job number s)
ended_stays number (asker.Background job) answer s = refl

background_stays : (given : Option Text) (command : Text) (s : Switch) → (background_begun given command s).stopping ≡ s.stopping
background_stays None command s = refl
background_stays (Some uuid) command s = refl

-- ---- api commands, by whoever lets a job begin so

-- so it is behind the one of two that a test chooses
either_stays : (s : Switch) (test : Bool) (x y : Done) → x.state.stopping ≡ s.stopping → y.state.stopping ≡ s.stopping →
    (if test then x else y).state.stopping ≡ s.stopping
either_stays s test x y first second = whichever (λ (d : Done). d.state.stopping ≡ s.stopping) test x y first second

killed_stays : (cause : Cause) (slot : Option ℕ) (s : Switch) → (kill_done cause slot s).state.stopping ≡ s.stopping
killed_stays cause None s = refl
killed_stays cause (Some slot) s = hung_stays ((slot, cause) ∷ []) s

set_stays : (name value : Text) (found : Option ℕ) (s : Switch) → (variable_set_at name value found s).state.stopping ≡ s.stopping
set_stays name value None s = refl
set_stays name value (Some slot) s = by (chan_at s slot)
  where
    by : (chan : Option Chan) → (variable_set_on name value slot chan s).state.stopping ≡ s.stopping
    by None = refl
    by (Some c) = either_stays s (can_set c.vars name value) _ _ refl refl

media_stays : (a b : ℕ) (s t : Switch) → t.stopping ≡ s.stopping → (both_in_media a b t).stopping ≡ s.stopping
media_stays a b s t h =
    whichever (λ (u : Switch). u.stopping ≡ s.stopping) (nat_lt a b) _ _
    (moved_stays (in_state CsExchangeMedia) b (after_move (in_state CsExchangeMedia) a t) ∙ (moved_stays (in_state CsExchangeMedia) a t ∙ h))
    (moved_stays (in_state CsExchangeMedia) a (after_move (in_state CsExchangeMedia) b t) ∙ (moved_stays (in_state CsExchangeMedia) b t ∙ h))

joined_stays : (a b : ℕ) (other : Text) (s t : Switch) → t.stopping ≡ s.stopping → (joined_done a b other t).state.stopping ≡ s.stopping
joined_stays a b other s t h =
    either_stays s (lives_at t a && lives_at t b) _ _
    (media_stays a b s (after_join Joined a b t)
    (whichever (λ (u : Switch). u.stopping ≡ s.stopping) (can_join a b t) (joined_as Joined a b t) t
    (stays_by_rest t (joined_as Joined a b t) (joined_rest Joined a b t) ∙ h) h)) h

bridged_stays : (uuid other : Text) (s : Switch) → (uuid_bridge_done uuid other s).state.stopping ≡ s.stopping
unfolding uuid_bridge_done
bridged_stays uuid other s = by (slot_named uuid s) (slot_named other s)
  where
    way : (a b : ℕ) (found : Option Text) → in_the_way a b s ≡ found → (bridged_unless found a b other s).state.stopping ≡ s.stopping
    way a b (Some answer) is = refl
    way a b None is =
        joined_stays a b other s (after_departures (both_slots a b) s) ((calls_stay s).departs (both_slots a b) {s = s} refl refl)

    by : (first second : Option ℕ) → (bridge_done_at first second other s).state.stopping ≡ s.stopping
    by (Some a) (Some b) = way a b (in_the_way a b s) refl
    by (Some a) None = refl
    by None (Some b) = refl
    by None None = refl

sent_stays : (change : Chan → Chan) (side : Side) (uuid : Text) (s : Switch) → (sent_done change side uuid s).state.stopping ≡ s.stopping
unfolding sent_done
sent_stays change side uuid s = by (slot_named uuid s)
  where
    arrived : (slot : ℕ) (t : Switch) → t.stopping ≡ s.stopping → (after_arrival change slot t).stopping ≡ s.stopping
    arrived slot t h =
        whichever (λ (u : Switch). u.stopping ≡ s.stopping) (lives_at t slot) _ _ (moved_stays change slot t ∙ h) h

    all_arrived : (slots : List ℕ) (t : Switch) → t.stopping ≡ s.stopping → (after_arrivals change slots t).stopping ≡ s.stopping
    all_arrived [] t h = h
    all_arrived (slot ∷ slots) t h = all_arrived slots (after_arrival change slot t) (arrived slot t h)

    legs : (found : Option (List ℕ)) → (legs_sent change found s).state.stopping ≡ s.stopping
    legs None = refl
    legs (Some slots) =
        either_stays s (are_ready s slots) _ _
        (all_arrived slots (after_departures slots s) ((calls_stay s).departs slots {s = s} refl refl)) refl

    by : (found : Option ℕ) → (sent_at change side found s).state.stopping ≡ s.stopping
    by None = refl
    by (Some slot) = either_stays s (is_ready (chan_at s slot)) _ _ (legs (legs_meant side slot (peer_at s slot))) refl

module _ (by : _) (begins : (what : JobWork) (t : Switch) → (after_job_begin by what t).stopping ≡ t.stopping) where
  originated_stays : (groups : List (List LegPlan)) (winner : Winner) (caller : Caller) (timeout : Option ℕ) (s : Switch) →
      (originate_begun by groups winner caller timeout s).stopping ≡ s.stopping
  originated_stays groups winner caller timeout s =
      let made = group_made (first_group groups) caller (next_orig_number s) s in
      begins (work.Originate (next_orig_number s) winner caller) _
      ∙ stays_by_rest s made.state (group_made_rest (first_group groups) caller (next_orig_number s) s)

  dialed_stays : (read : Result Dial DialFault) (winner : Winner) (caller : Caller) (timeout : Option ℕ) (s : Switch) →
      (dialed by read winner caller timeout s).state.stopping ≡ s.stopping
  dialed_stays (Err fault) winner caller timeout s = refl
  dialed_stays (Ok dial) winner caller timeout s =
      originated_stays (plans_of dial) winner caller (option_or timeout (braces_timeout dial)) s

  -- a command that expands nothing leaves it so, or is the shutdown
  plainly_stays : (a : Api) (s : Switch) → ((done_plainly by a s).state.stopping ≡ s.stopping) ⊎ (a ≡ api.Shutdown)
  plainly_stays (api.Echo text) s = inl refl
  plainly_stays (api.Expand uuid text) s = inl refl
  plainly_stays api.CreateUuid s = inl refl
  plainly_stays (api.GlobalGetvar name) s = inl refl
  plainly_stays (api.GlobalSetvar name value) s = inl (either_stays s (can_set s.globals name value) _ _ refl refl)
  plainly_stays (api.Msleep milliseconds) s =
      inl (either_stays s (is_full_of_jobs s) _ _ refl (begins (work.Sleep (moment_after s.moment (milliseconds * 1000))) s))
  plainly_stays (api.UuidExists uuid) s = inl refl
  plainly_stays (api.UuidKill uuid cause) s = inl (killed_stays cause (slot_named uuid s) s)
  plainly_stays (api.UuidBridge uuid other) s = inl (bridged_stays uuid other s)
  plainly_stays (api.UuidPark uuid) s = inl (sent_stays parked This uuid s)
  plainly_stays (api.UuidTransfer uuid side to) s = inl (sent_stays (transferred to) side uuid s)
  plainly_stays (api.UuidSetvar uuid name value) s = inl (set_stays name value (slot_named uuid s) s)
  plainly_stays (api.UuidGetvar uuid name) s = inl refl
  plainly_stays (api.UuidDump uuid) s = inl refl
  plainly_stays (api.Hupall cause) s = inl (hung_stays (map (λ slot. (slot, cause)) (all_slots s)) s)
  plainly_stays api.Shutdown s = inr refl
  plainly_stays api.Reloadxml s =
      inl
      (either_stays s (is_full_of_jobs s) _ _ refl
      (either_stays s (passes_limit 1114241 s) _ _ refl (begins work.Load s)))
  plainly_stays (api.Originate url winner cid_name cid_number timeout) s =
      inl
      (either_stays s (is_full_of_jobs s) _ _ refl
      (dialed_stays (dial_string url) winner (record { name = cid_name; number = cid_number }) timeout s))
  plainly_stays (api.Usage which) s = inl refl
  plainly_stays (api.Unknown name) s = inl refl

  some_stays : (a : Api) (s : Switch) → ((done_plainly by a s).state.stopping ≡ s.stopping) ⊎ (Some a ≡ Some api.Shutdown)
  some_stays a s = with_some (plainly_stays a s)
    where
      with_some : ((done_plainly by a s).state.stopping ≡ s.stopping) ⊎ (a ≡ api.Shutdown) →
          ((done_plainly by a s).state.stopping ≡ s.stopping) ⊎ (Some a ≡ Some api.Shutdown)
      with_some (inl same) = inl same
      with_some (inr is) = inr (ap Some is)

  whole_stays : (whole : Option Text) (s : Switch) →
      ((done_expanded by whole s).state.stopping ≡ s.stopping) ⊎ (option_map expanded_api_of whole ≡ Some api.Shutdown)
  whole_stays None s = inl refl
  whole_stays (Some text) s = some_stays (expanded_api_of text) s

  over_stays : (text : Text) (found : Option Chan) (s : Switch) →
      ((done_over by text found s).state.stopping ≡ s.stopping)
      ⊎ (option_map expanded_api_of (option_and_then (λ c. argument_in c s text) found) ≡ Some api.Shutdown)
  over_stays text None s = inl refl
  over_stays text (Some c) s = whole_stays (argument_in c s text) s

  -- so does one, unless the shutdown is run for it
  done_stays : (a : Api) (s : Switch) → ((done_by by a s).state.stopping ≡ s.stopping) ⊎ (run_for a s ≡ Some api.Shutdown)
  done_stays (api.Expand None text) s = whole_stays (unless_too_long (expanded s.globals.pairs text)) s
  done_stays (api.Expand (Some uuid) text) s = over_stays text (chan_named uuid s) s
  done_stays other s = some_stays other s

-- ---- commands of the event socket

response_stays : (conn : ℕ) (answer : Option Text) (s t : Switch) → t.stopping ≡ s.stopping →
    (with_response_of conn answer t).stopping ≡ s.stopping
response_stays conn None s t h = h
response_stays conn (Some text) s t h = h

parted_stays : (conn : ℕ) (why : Parting) (s : Switch) → (conn_changed (parted why) conn (after_letting_go conn s)).stopping ≡ s.stopping
parted_stays conn why s = changed_stays (parted why) conn (after_letting_go conn s) ∙ let_go_stays conn s

offered_stays : (conn : ℕ) (given : Text) (s : Switch) → (after_password conn given s).stopping ≡ s.stopping
offered_stays conn given s =
    whichever (λ (t : Switch). t.stopping ≡ s.stopping) (bytes_eq given s.settings.password) _ _ (changed_stays admitted conn s)
    (parted_stays conn parting.AuthRefused s)

subscribed_stays : (conn : ℕ) (form : Form) (names : Text) (s : Switch) → (after_subscribing conn form names s).stopping ≡ s.stopping
subscribed_stays conn Plain names s = changed_stays (with_subs_changed (subscribed (asked_in names))) conn s
subscribed_stays conn Json names s = refl
subscribed_stays conn Xml names s = refl

silenced_stays : (conn : ℕ) (s : Switch) → (after_silence conn s).stopping ≡ s.stopping
silenced_stays conn s =
    whichever (λ (t : Switch). t.stopping ≡ s.stopping) (subs_at s conn).listening _ _
    (changed_stays (with_subs_changed cleared) conn s) refl

deleted_stays : (conn : ℕ) (header : Text) (value : Option Text) (s : Switch) → (after_deletion conn header value s).stopping ≡ s.stopping
deleted_stays conn header value s =
    whichever (λ (t : Switch). t.stopping ≡ s.stopping) (has_filter (subs_at s conn).filters header value) _ _
    (changed_stays (with_subs_changed (with_filters_deleted header value)) conn s) refl

behind_stays : (conn : ℕ) (given : Option Text) (text : Text) (s : Switch) → (after_background conn given text s).stopping ≡ s.stopping
behind_stays conn given text s =
    whichever (λ (t : Switch). t.stopping ≡ s.stopping) (is_full_of_jobs s) _ _ refl (background_stays given text s)

denied_stays : (conn : ℕ) (done : Switch → Switch) (s : Switch) → (done s).stopping ≡ s.stopping →
    (unless_denied conn done s).stopping ≡ s.stopping
denied_stays conn done s h = whichever (λ (t : Switch). t.stopping ≡ s.stopping) (may_command_all (control_at s conn)) _ _ h refl

queued_stays : (conn : ℕ) (uuid : Text) (message : Action) (slot : ℕ) (found : Option Chan) (s : Switch) →
    (queued_on conn uuid message slot found s).stopping ≡ s.stopping
queued_stays conn uuid message slot None s = refl
queued_stays conn uuid message slot (Some c) s = whichever (λ (t : Switch). t.stopping ≡ s.stopping) (takes_message c) _ _ refl refl

message_stays : (conn : ℕ) (uuid : Text) (message : Message) (found : Option ℕ) (s : Switch) →
    (message_done_at conn uuid message found s).stopping ≡ s.stopping
message_stays conn uuid message None s = refl
message_stays conn uuid (Execute application argument) (Some slot) s = queued_stays conn uuid _ slot (chan_at s slot) s
message_stays conn uuid (Hangup cause) (Some slot) s = hung_stays ((slot, cause) ∷ []) s
message_stays conn uuid BadCall (Some slot) s = refl

message_to_stays : (conn : ℕ) (uuid : Option Text) (message : Message) (s : Switch) →
    (message_done_to conn uuid message s).stopping ≡ s.stopping
message_to_stays conn None message s = refl
message_to_stays conn (Some uuid) message s = message_stays conn uuid message (slot_named uuid s) s

messaged_stays : (conn : ℕ) (uuid : Option Text) (message : Message) (s : Switch) → (message_sent conn uuid message s).stopping ≡ s.stopping
messaged_stays conn None message s = message_to_stays conn (controlled_uuid (control_at s conn)) message s
messaged_stays conn (Some uuid) message s = message_stays conn uuid message (slot_named uuid s) s

greeted_stays : (conn : ℕ) (text : Option Text) (s : Switch) → (greeted_by conn text s).stopping ≡ s.stopping
greeted_stays conn None s = refl
greeted_stays conn (Some text) s = refl

-- a command runs the shutdown
abbrev Runs : Command → Switch → Type 0
Runs c s = (text : Text) × (c ≡ command.Api text) × RunsShutdown text s

-- an api command was done for one
answered_stays : (by : _) → ((what : JobWork) (t : Switch) → (after_job_begin by what t).stopping ≡ t.stopping) →
    (conn : ℕ) (text : Text) (s : Switch) →
    ((unless_denied conn (λ t. with_response conn (done_by by (api_of text) t)) s).stopping ≡ s.stopping) ⊎ Runs (command.Api text) s
answered_stays by begins conn text s = of (done_stays by begins (api_of text) s)
  where
    of : ((done_by by (api_of text) s).state.stopping ≡ s.stopping) ⊎ (run_for (api_of text) s ≡ Some api.Shutdown) →
        ((unless_denied conn (λ t. with_response conn (done_by by (api_of text) t)) s).stopping ≡ s.stopping) ⊎ Runs (command.Api text) s
    of (inl same) =
        inl
        (denied_stays conn (λ t. with_response conn (done_by by (api_of text) t)) s
        (response_stays conn (done_by by (api_of text) s).reply s (done_by by (api_of text) s).state same))
    of (inr is) = inr (text, refl, is)

api_stays : (conn : ℕ) (text : Text) (s : Switch) →
    ((command_done_in phase.Ready conn (command.Api text) s).stopping ≡ s.stopping) ⊎ Runs (command.Api text) s
api_stays conn text s = search (answered_stays, owing_stays)

-- so does each that does not run it
commanded_stays : (conn : ℕ) (c : Command) (s : Switch) → ((command_done conn c s).stopping ≡ s.stopping) ⊎ Runs c s
unfolding command_done
commanded_stays conn c s = by (phase_at s conn) c
  where
    by : (at : Phase) (given : Command) → ((command_done_in at conn given s).stopping ≡ s.stopping) ⊎ Runs given s
    by phase.Fresh (command.Auth given) = inl (offered_stays conn given s)
    by phase.Fresh command.Exit = inl (parted_stays conn parting.Exit s)
    by phase.Fresh _ = inl refl
    by phase.Ready (command.Auth given) = inl refl
    by phase.Ready command.Exit = inl (parted_stays conn parting.Exit s)
    by phase.Ready (command.Api text) = api_stays conn text s
    by phase.Ready (command.Event form names) = inl (subscribed_stays conn form names s)
    by phase.Ready (command.Nixevent names) = inl (changed_stays (with_subs_changed (unsubscribed (asked_in names))) conn s)
    by phase.Ready command.Noevents = inl (silenced_stays conn s)
    by phase.Ready (command.Filter header value) = inl (changed_stays (with_subs_changed (with_filter_added header value)) conn s)
    by phase.Ready (command.FilterDelete header value) = inl (deleted_stays conn header value s)
    by phase.Ready command.BadFilter = inl refl
    by phase.Ready (command.Bgapi text job) = inl (denied_stays conn (after_background conn job text) s (behind_stays conn job text s))
    by phase.Ready (command.Sendmsg uuid message) = inl (messaged_stays conn uuid message s)
    by phase.Ready command.Connect = inl (greeted_stays conn (greeting_for (control_at s conn) s) s)
    by phase.Ready command.Unknown = inl refl
    by phase.Ending given = inl refl
    by phase.Closed given = inl refl

-- ---- jobs

tried_stays : (number orig : ℕ) (who : Asker) (winner : Winner) (caller : Caller) (s : Switch) →
    (after_job_work (work.Originate orig winner caller) number who s).stopping ≡ s.stopping
tried_stays number orig who winner caller s =
    verdict_kept s (Stays s) (calls_stay s) _ (λ t. Unit {0}) (λ named can. can)
    (λ cause t can over h. ended_stays number who (failed_text cause) (without_orig orig t) ∙ h)
    (λ leg slots can won h.
    let t : Switch = raced slots s in
    let u : Switch = after_winning winner (unwrap_or leg.slot 0) t in
    ended_stays number who (made_text leg.uuid) (without_orig orig u)
    ∙ (stays_by_rest t u (won_rest winner (unwrap_or leg.slot 0) t) ∙ h))
    (λ o group is next enters h.
    stays_by_rest s (with_group orig (group_made group caller orig s)) (regrouped_rest orig group caller s) ∙ h)
    tt refl refl

-- what is run does not depend on jobs and moments
run_without : (a : Api) (number : ℕ) (s : Switch) → run_for a (without_job number s) ≡ run_for a s
run_without (api.Expand None text) number s = refl
run_without (api.Expand (Some uuid) text) number s = refl
run_without other number s = refl

run_at : (a : Api) (moment : ℕ) (s : Switch) → run_for a (at_moment moment s) ≡ run_for a s
run_at (api.Expand None text) moment s = refl
run_at (api.Expand (Some uuid) text) moment s = refl
run_at other moment s = refl

-- a job runs the shutdown
abbrev RunsFor : ℕ → Switch → Type 0
RunsFor number s =
    (job : Background) × (job_of s number ≡ Some (record { asker = asker.Background job; work = work.Run })) × RunsShutdown job.command s

told_stays : (job : Background) (answer : Option Text) (s t : Switch) → t.stopping ≡ s.stopping → (told_if job answer t).stopping ≡ s.stopping
told_stays job None s t h = h
told_stays job (Some answer) s t h = h

-- a command was done that a job ran
ran_stays : (by : _) → ((what : JobWork) (t : Switch) → (after_job_begin by what t).stopping ≡ t.stopping) →
    (number : ℕ) (job : Background) (s : Switch) →
    job_of s number ≡ Some (record { asker = asker.Background job; work = work.Run }) →
    ((after_run job (done_by by (api_of job.command) (without_job number s))).stopping ≡ s.stopping) ⊎ RunsFor number s
ran_stays by begins number job s there = of (done_stays by begins (api_of job.command) (without_job number s))
  where
    done : Done
    done = done_by by (api_of job.command) (without_job number s)

    of : (done.state.stopping ≡ s.stopping) ⊎ (run_for (api_of job.command) (without_job number s) ≡ Some api.Shutdown) →
        ((after_run job done).stopping ≡ s.stopping) ⊎ RunsFor number s
    of (inl same) = inl (told_stays job done.reply s done.state same)
    of (inr is) = inr (job, there, sym (run_without (api_of job.command) number s) ∙ is)

run_stays : (number : ℕ) (job : Background) (s : Switch) →
    job_of s number ≡ Some (record { asker = asker.Background job; work = work.Run }) →
    ((after_job_work work.Run number (asker.Background job) s).stopping ≡ s.stopping) ⊎ RunsFor number s
run_stays number job s there = search (ran_stays, there)

-- so does what a job does that does not run it
worked_stays : (number : ℕ) (s : Switch) → ((job_done number s).stopping ≡ s.stopping) ⊎ RunsFor number s
unfolding job_done
worked_stays number s = by (job_of s number) refl
  where
    works : (what : JobWork) (who : Asker) → job_of s number ≡ Some (record { asker = who; work = what }) →
        ((after_job_work what number who s).stopping ≡ s.stopping) ⊎ RunsFor number s
    works work.Run (asker.Conn conn) there = inl refl
    works work.Run (asker.Background job) there = run_stays number job s there
    works (work.Sleep until) who there = inl (ended_stays number who ok s)
    works (work.Originate orig winner caller) who there = inl (tried_stays number orig who winner caller s)
    works work.Load who there = inl refl

    by : (found : Option Job) → job_of s number ≡ found → ((job_done_from number found s).stopping ≡ s.stopping) ⊎ RunsFor number s
    by None there = inl refl
    by (Some job) there = works job.work job.asker there

-- ---- all acts

completed_stays : (slot : ℕ) (s : Switch) → (after_completion slot s).stopping ≡ s.stopping
completed_stays slot s = moved_stays at_rest slot s

dial_stays : (linked : Bool) (slot : ℕ) (text : Option Text) (s : Switch) → (after_dial_of text linked slot s).stopping ≡ s.stopping
dial_stays linked slot None s = refl
dial_stays linked slot (Some text) s =
    whichever (λ (t : Switch). t.stopping ≡ s.stopping) (has_hold linked s) _ _ (held (chan_at s slot)) (completed_stays slot s)
  where
    held : (found : Option Chan) → (taken_hold found text slot s).stopping ≡ s.stopping
    held None = refl
    held (Some c) = refl

closed_stays : (how : Closing) (conn : ℕ) (s : Switch) → (after_close how conn s).stopping ≡ s.stopping
closed_stays closing.EndOfInput conn s = changed_stays (parted parting.EndOfInput) conn (after_letting_go conn s) ∙ let_go_stays conn s
closed_stays closing.Sent conn s = let_go_stays conn s
closed_stays closing.Failed conn s = let_go_stays conn s

loaded_stays : (what : LoadNote) (number : ℕ) (s : Switch) → (after_load what number s).stopping ≡ s.stopping
loaded_stays what number s =
    load_kept (λ (t : Switch). t.stopping ≡ s.stopping) (λ (t : Switch). t.stopping ≡ s.stopping) (λ config globals t h. h) (λ t h. h)
    (λ job who answer t does h. ended_stays job who answer t ∙ h) what number s refl

-- an act leaves it so, is a halt, or runs the shutdown
acted_stays : (a : Act) (s : Switch) → ((acted a s).state.stopping ≡ s.stopping) ⊎ ((a ≡ act.Halt) ⊎ ShutsDown a s)
acted_stays act.Arrive s = inl refl
acted_stays (act.Command conn block) s = by (commanded_stays conn (command_of block) s)
  where
    by : ((command_done conn (command_of block) s).stopping ≡ s.stopping) ⊎ Runs (command_of block) s →
        ((acted (act.Command conn block) s).state.stopping ≡ s.stopping)
        ⊎ ((act.Command conn block ≡ act.Halt) ⊎ ShutsDown (act.Command conn block) s)
    by (inl same) = inl same
    by (inr runs) = inr (inr runs)
acted_stays (act.Take conn) s = inl refl
acted_stays (act.Close conn how) s = inl (closed_stays how conn s)
acted_stays (act.Dialed slot linked) s = inl (dial_stays linked slot (dial_at s slot) s)
acted_stays (act.Work slot) s = inl (stays_by_rest s (after_work slot s) (worked_rest slot s))
acted_stays (act.Job number) s = by (worked_stays number s)
  where
    by : ((job_done number s).stopping ≡ s.stopping) ⊎ RunsFor number s →
        ((acted (act.Job number) s).state.stopping ≡ s.stopping) ⊎ ((act.Job number ≡ act.Halt) ⊎ ShutsDown (act.Job number) s)
    by (inl same) = inl same
    by (inr runs) = inr (inr runs)
acted_stays (act.Loaded number note) s = inl (loaded_stays note number s)
acted_stays act.Halt s = inr (inl refl)

-- what an act runs it runs whenever it is
whenever : (a : Act) (moment : ℕ) (s : Switch) → ShutsDown a (at_moment moment s) → ShutsDown a s
whenever act.Arrive moment s shuts = shuts
whenever (act.Command conn block) moment s shuts = (shuts.0, shuts.1, sym (run_at (api_of shuts.0) moment s) ∙ shuts.2)
whenever (act.Take conn) moment s shuts = shuts
whenever (act.Close conn how) moment s shuts = shuts
whenever (act.Dialed slot linked) moment s shuts = shuts
whenever (act.Work slot) moment s shuts = shuts
whenever (act.Job number) moment s shuts = (shuts.0, shuts.1, sym (run_at (api_of shuts.0.command) moment s) ∙ shuts.2)
whenever (act.Loaded number note) moment s shuts = shuts
whenever act.Halt moment s shuts = shuts

-- ---- entries

-- a halt is told as one
halt_told : (entry : Entry) → entry.act ≡ act.Halt → is_halt entry ≡ true
halt_told entry is = ap (λ (a : Act). is_halt (record { moment = entry.moment; act = a })) is

-- an entry that brings a switch to its end and is no halt runs the shutdown
pub shuts_down : (s : Switch) (entry : Entry) → s.stopping ≡ None → is_some (step s entry).state.stopping ≡ true → is_halt entry ≡ false →
    ShutsDown entry.act s
unfolding step
shuts_down s entry going stops other = by (acted_stays entry.act (at_moment entry.moment s))
  where
    by : ((acted entry.act (at_moment entry.moment s)).state.stopping ≡ s.stopping)
        ⊎ ((entry.act ≡ act.Halt) ⊎ ShutsDown entry.act (at_moment entry.moment s)) → ShutsDown entry.act s
    by (inl same) = absurd (true≢false (sym stops ∙ ap is_some (same ∙ going)))
    by (inr (inl halts)) = absurd (true≢false (sym (halt_told entry halts) ∙ other))
    by (inr (inr shuts)) = whenever entry.act entry.moment s shuts

-- ---- halts

halt_is : (entry : Entry) → is_halt entry ≡ true → entry.act ≡ act.Halt
halt_is entry h = by entry.moment entry.act h
  where
    by : (moment : ℕ) (a : Act) → is_halt (record { moment = moment; act = a }) ≡ true → a ≡ act.Halt
    by moment act.Arrive h = absurd (cc)
    by moment (act.Command conn block) h = absurd (cc)
    by moment (act.Take conn) h = absurd (cc)
    by moment (act.Close conn how) h = absurd (cc)
    by moment (act.Dialed slot linked) h = absurd (cc)
    by moment (act.Work slot) h = absurd (cc)
    by moment (act.Job number) h = absurd (cc)
    by moment (act.Loaded number note) h = absurd (cc)
    by moment act.Halt h = refl

-- behind a halt a switch has come to its end
halts : (s : Switch) (entry : Entry) → is_halt entry ≡ true → is_some (step s entry).state.stopping ≡ true
unfolding step after_shutdown
halts s entry h =
    subst (λ (a : Act). is_some (step s (record { moment = entry.moment; act = a })).state.stopping ≡ true) (sym (halt_is entry h)) refl

-- and then there is none
halts_once : (s : Switch) (entry : Entry) → is_halt entry ≡ true → is_some s.stopping ≡ true → refusal_of s entry ≡ None → ⊥
halts_once s entry h stops none =
    true≢false
    (sym stops
    ∙ (none_refused (is_some s.stopping) refusal.Gone None
    (subst (λ (a : Act). refused_act a (at_moment entry.moment s) ≡ None) (halt_is entry h) (not_refused s entry none))).0)

-- no halt stands behind a front of entries behind all of which the switch goes on
goes_unhalted : (config : Configuration) (front rest : List Entry) → IsRunFrom (empty config) (front ++ rest) →
    (run_from (empty config) (front ++ rest)).stopping ≡ None → list_any is_halt rest ≡ false
goes_unhalted config front [] run goes = refl
goes_unhalted config front (entry ∷ rest) run goes =
    let same = append_assoc front (entry ∷ []) rest in
    let run' : IsRunFrom (empty config) ((front ++ entry ∷ []) ++ rest) = subst (IsRunFrom (empty config)) (sym same) run in
    let goes' : (run_from (empty config) ((front ++ entry ∷ []) ++ rest)).stopping ≡ None =
    ap (λ (entries : List Entry). (run_from (empty config) entries).stopping) same ∙ goes in
    by run' goes' (goes_unhalted config (front ++ entry ∷ []) rest run' goes') (is_halt entry) refl
  where
    by : IsRunFrom (empty config) ((front ++ entry ∷ []) ++ rest) →
        (run_from (empty config) ((front ++ entry ∷ []) ++ rest)).stopping ≡ None → list_any is_halt rest ≡ false → (test : Bool) →
        is_halt entry ≡ test → (test || list_any is_halt rest) ≡ false
    by run' goes' later false is = later
    by run' goes' later true is =
        let stops : is_some (run_from (empty config) (front ++ entry ∷ [])).stopping ≡ true =
        ap (λ (s : Switch). is_some s.stopping) (run_more (empty config) front entry) ∙ halts (run_from (empty config) front) entry is in
        absurd (true≢false (sym stops ∙ ap is_some (sym (stays_stopping config (front ++ entry ∷ []) rest run' stops) ∙ goes')))

-- nor does one stand behind those by which it has come to its end
ends_unhalted : (config : Configuration) (front rest : List Entry) → IsRunFrom (empty config) (front ++ rest) →
    is_some (run_from (empty config) front).stopping ≡ true → list_any is_halt rest ≡ false
ends_unhalted config front [] run stops = refl
ends_unhalted config front (entry ∷ rest) run stops =
    let both = runs_both (empty config) front (entry ∷ rest) run in
    let more : IsRunFrom (empty config) (front ++ entry ∷ []) = is_run_more (empty config) front entry both.0 both.1.0 in
    by both.1.0
    (ends_unhalted config (front ++ entry ∷ []) rest
    (subst (IsRunFrom (empty config)) (sym (append_assoc front (entry ∷ []) rest)) run)
    (ap is_some (stays_stopping config front (entry ∷ []) more stops) ∙ stops)) (is_halt entry) refl
  where
    by : refusal_of (run_from (empty config) front) entry ≡ None → list_any is_halt rest ≡ false → (test : Bool) →
        is_halt entry ≡ test → (test || list_any is_halt rest) ≡ false
    by none later true is = absurd (halts_once (run_from (empty config) front) entry is stops none)
    by none later false is = later

-- so where one halts the switch in a run, it is the one that brought it to its end
pub halts_by : (config : Configuration) (before : List Entry) (entry : Entry) (behind : List Entry) →
    IsRunFrom (empty config) (before ++ entry ∷ behind) → (run_from (empty config) before).stopping ≡ None →
    is_some (run_from (empty config) (before ++ entry ∷ [])).stopping ≡ true → list_any is_halt (before ++ entry ∷ behind) ≡ true →
    is_halt entry ≡ true
halts_by config before entry behind run goes stops any =
    let early : list_any is_halt before ≡ false =
    goes_unhalted config [] before (runs_both (empty config) before (entry ∷ behind) run).0 goes in
    let late : list_any is_halt behind ≡ false =
    ends_unhalted config (before ++ entry ∷ []) behind
    (subst (IsRunFrom (empty config)) (sym (append_assoc before (entry ∷ []) behind)) run) stops in
    one_of (list_any is_halt before) (is_halt entry) (list_any is_halt behind) early late
    (sym (list_any-append is_halt before (entry ∷ behind)) ∙ any)
  where
    one_of : (a b c : Bool) → a ≡ false → c ≡ false → (a || (b || c)) ≡ true → b ≡ true
    one_of a true c first third holds = refl
    one_of true false c first third holds = absurd (true≢false first)
    one_of false false c first third holds = absurd (true≢false (sym holds ∙ third))
