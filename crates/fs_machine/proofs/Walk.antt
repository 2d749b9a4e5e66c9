-- The one walk through what channels do: a fact that bears each of their moves is kept by all that they do.
use Rattle.std.proofs.Common.{◌≡◌, ℕ, ◌+◌, ◌==◌, Bool, true, false, if◌then◌else◌, List, [], ◌∷◌, length, Option, None, Some}
use Rattle.std.proofs.Common.{option_map, option_and_then, is_none, Result, Ok, Err, IsSome, slice_get, unwrap_or, codes}
use Rattle.std.proofs.Common.{refl, sym, ap, subst, inl, inr}
use Rattle.std.proofs.Common.{◌∙◌}
use Rattle.std.proofs.Common.{true≢false}
use Rattle.fs_text.specs.declared.states.State.{State}
use Rattle.fs_text.specs.declared.states.State.TheVariants.{CsNew, CsInit, CsRouting, CsExecute, CsPark, CsHangup, CsReporting}
use Rattle.fs_text.specs.Texts.{Text}
use Rattle.fs_text.specs.Cause.{cause_name}
use Rattle.fs_text.specs.declared.causes.Cause.{Cause}
use Rattle.fs_text.specs.declared.causes.Cause.TheVariants.{NormalClearing, NormalTemporaryFailure, DestinationOutOfOrder}
use Rattle.fs_text.specs.declared.causes.Cause.TheVariants.{ExchangeRoutingError, NoRouteDestination, InvalidNumberFormat}
use Rattle.fs_text.specs.declared.event_names.EventName.TheVariants.{ChannelCreate, ChannelState, ChannelAnswer, ChannelExecute}
use Rattle.fs_text.specs.declared.event_names.EventName.TheVariants.{ChannelExecuteComplete, ChannelDestroy}
use Rattle.fs_vars.specs.Variables.{Variables}
use Rattle.fs_app.specs.declared.application.Application.{Application}
use Rattle.fs_app.specs.declared.application.Application.TheVariants as app
use Rattle.fs_app.specs.Applications as apps
use Rattle.fs_app.specs.Applications.{application_of}
use Rattle.fs_chan.specs.declared.action.Action.{Action}
use Rattle.fs_chan.specs.declared.chan.Chan.{Chan}
use Rattle.fs_chan.specs.declared.peer.Direction.{Direction}
use Rattle.fs_chan.specs.declared.target.Target3.{Target3}
use Rattle.fs_chan.specs.declared.wait.Wait.{Wait}
use Rattle.fs_chan.specs.declared.wait.Wait.TheVariants.{Ready, Sleep, Parked, FifoOut, Legs, Socket}
use Rattle.fs_chan.specs.Bridging.{exported_pairs, with_disposition}
use Rattle.fs_chan.specs.Changes.{IsShortTarget, is_live, in_state, with_answer_place, at_rest, transferred, parked, asleep}
use Rattle.fs_chan.specs.Changes.{may_route, routed}
use Rattle.fs_chan.specs.declared.assignment.Assignment.{Assignment}
use Rattle.fs_chan.specs.declared.assignment.Assignment.TheVariants.{Set, Unset, Export, SetGlobal}
use Rattle.fs_chan.specs.Assignments.{assigned}
use Rattle.fs_chan.specs.Work as chan
use Rattle.fs_dial.specs.declared.fault.DialFault.{DialFault}
use Rattle.fs_dial.specs.DialStrings.{Dial, dial_string}
use Rattle.fs_orig.specs.declared.caller.Caller.{Caller}
use Rattle.fs_orig.specs.declared.endpoint.Endpoint.{Endpoint}
use Rattle.fs_orig.specs.declared.endpoint.Endpoint.TheVariants.{Loopback, Dead}
use Rattle.fs_orig.specs.declared.leg.OrigLeg.{OrigLeg}
use Rattle.fs_orig.specs.declared.orig.Orig.{Orig}
use Rattle.fs_orig.specs.declared.plan.LegPlan.{LegPlan}
use Rattle.fs_orig.specs.Changes.{with_answer, may_enter_next}
use Rattle.fs_orig.specs.Endpoints as endpoints
use Rattle.fs_orig.specs.Endpoints.{endpoint_of}
use Rattle.fs_orig.specs.Plans.{all_behind, plans_of}
use Rattle.fs_orig.specs.Verdicts.{next_group}
use Rattle.fs_seats.proofs.HeldLemmas.{free_seat}
use Rattle.fs_plan.specs.declared.hunt.Hunt.{Hunt}
use Rattle.fs_plan.specs.Hunting.{hunted}
use Rattle.fs_state.specs.Switch.{Switch, chan_at, free_slot, orig_of, without_orig, with_event}
use Rattle.fs_state.specs.Moves.{plain_event, application_event, running_at, report_event, after_move, with_changed_chan, with_running}
use Rattle.fs_state.specs.Moves.{run_on, after_completion, its_leg_changed, after_answer_from, after_one_answer, partner_at, for_slot}
use Rattle.fs_state.specs.Moves.{after_answer, after_report, after_destroy}
use Rattle.fs_state.specs.Hangups.{after_hangup, lives_at}
use Rattle.fs_machine.specs.declared.attempts.Party.TheVariants as party
use Rattle.fs_machine.specs.declared.call.Call.{Call}
use Rattle.fs_machine.specs.Applications.{with_assignment, after_assignment, after_sleep, state_at, after_park_in, after_effect}
use Rattle.fs_machine.specs.Applications.{argument_in, executed_within, after_running_next, after_running_from, after_running}
use Rattle.fs_machine.specs.Attempts.{awaits, failed_for, won_for, group_for, with_group, after_verdict_on}
use Rattle.fs_machine.specs.Bridging.{caller_of, group_dialed, goes_on, after_going_on, bridge_failed_from, after_bridge_failure}
use Rattle.fs_machine.specs.Bridging.{after_bridge_win, disposed}
use Rattle.fs_machine.specs.Controlling.{names_target, may_dial, after_socket, completed_by, with_completion_of, let_go_from, let_go_in}
use Rattle.fs_machine.specs.Controlling.{slot_controlled_by, after_letting_go}
use Rattle.fs_machine.specs.Dialing.{bridge_timeout, bridge_begun_from, bridge_dialed, after_dialing}
use Rattle.fs_machine.specs.Work.{with_variables, routed_to, has_xml, actions_for, too_long_cause, wall_of, found_for, routed_by, after_routing_from}
use Rattle.fs_machine.specs.Work.{first_state, after_wait, after_work_in, after_work_from, after_work}
use Rattle.fs_machine.specs.Originations.{Made, made_dead, made_in, with_second, free_pair, is_congested, loopback_made, set_all}
use Rattle.fs_machine.specs.Originations.{no_variables, own_uuid, call_with, is_misnamed, made_with, made_of, leg_made, group_made}
use Rattle.fs_machine.proofs.DialLemmas.{dialed_groups}
use Rattle.fs_machine.proofs.ShortLemmas.{left_holds, sent_short, application_short, endpoint_short}
use Rattle.fs_machine.specs.Sound.{is_idle}
use Rattle.fs_machine.proofs.LimitLemmas.{AreLimited, assigned_limited, set_all_limited, none_limited, hunted_limited, found_limited}
use Rattle.fs_machine.proofs.Kept.{Stage, Fact, hold_in, Stays, KeptByTouches, KeptByCalls, KeptByBirths, IsAtWork, KeptByDials, won_of}
use Rattle.fs_machine.proofs.Kept.{raced, HasWon, IsOver, IsShortCall}
use Rattle.fs_machine.proofs.StayLemmas.{new_lives, init_lives, routing_lives, execute_lives, park_lives, first_lives, reporting_dead}
use Rattle.fs_machine.proofs.StayLemmas.{live_by}
use Rattle.fs_machine.proofs.StayLemmas.{same_vars, set_vars, early_vars, work_stays, rest_links, AllQuiet, AllKeep, quiet_stays}
use Rattle.fs_machine.proofs.StayLemmas.{same_holder, rest_holder, dials_stays, let_go_stays, after_next_keeps, after_next_quiet, running_quiet}
use Rattle.fs_machine.proofs.StayLemmas.{variables_quiet, assignment_quiet, answer_quiet, disposition_quiet, WorksAt, is_at_work}
use Rattle.fs_machine.proofs.StayLemmas.{application_plain, moved_plain, changed_there, moved_works, changed_works, answered_works}
use Rattle.fs_machine.proofs.StayLemmas.{hangup_dead}
use Rattle.fs_machine.proofs.TryWalk.{verdict_kept}
use Rattle.fs_machine.proofs.CanLemmas.{caller_lives, answerer_lives}
use Rattle.fs_machine.proofs.JoinLemmas.{DialsNone, CanMeet, meets_now, ready_lone}
use Rattle.fs_machine.specs.Joining.{is_ready}
use Rattle.fs_machine.specs.Queueing.{after_queueing, after_take, after_no_caller, after_taking_of, after_taking}
use Rattle.fs_state.proofs.QueueLemmas.{first_waits}
use Rattle.fs_state.specs.Queues.{queue_event, first_caller}
use Rattle.fs_state.specs.declared.event.QueueAction.TheVariants.{Push, CallerPop}
use Rattle.fs_state.specs.Bridging.{can_join, joined_as, after_join}
use Rattle.fs_bridge.specs.declared.row.BridgeKind.TheVariants.{Fifo}
use Rattle.fs_chan.specs.Controlling.{awaiting_dial, let_go, is_held_by}
use Rattle.fs_chan.specs.Queueing.{queued, awaiting_caller, turn_in}
use Rattle.fs_chan.specs.Bridging.{awaited_in}
use Rattle.std.specs.Prelude.{◌&&◌, is_some}
use Rattle.std.proofs.lemmas.Bool.{false≢true}

-- ---- changes of state

-- a channel that is being made is no leg of a bridge, or leaves a state in which others wait for it
begins_stays : {b : Stage} (c : Chan) → c.state ≡ CsNew → Stays b c (in_state CsInit c)
begins_stays c is = record {
  keeps = record {
    links = refl;
    live = init_lives ∙ sym (live_by c CsNew true is new_lives);
    short = λ short. short;
    apt = λ apt. record { outbound = apt.outbound; idle = λ some. refl; free = apt.free; alone = apt.alone; held = apt.held };
    vars = same_vars c.vars c.vars refl;
  };
  holder = same_holder refl refl;
}

-- an inbound one is routed, and is no leg that others wait for
first_stays : {b : Stage} (c : Chan) → c.state ≡ CsInit → Stays b c (in_state (first_state c.direction) c)
first_stays c is = record {
  keeps = record {
    links = refl;
    live = first_lives c.direction ∙ sym (live_by c CsInit true is init_lives);
    short = λ short. short;
    apt = λ apt. record {
      outbound = apt.outbound;
      idle = λ some. ap (λ (direction : Direction). is_idle (first_state direction)) (apt.outbound some);
      free = apt.free;
      alone = apt.alone;
      held = apt.held;
    };
    vars = same_vars c.vars c.vars refl;
  };
  holder = same_holder refl refl;
}

-- nobody waits for one that is being routed
routed_stays : (vars : Variables) (actions : List Action) (c : Chan) → c.state ≡ CsRouting → (AreLimited c.vars → AreLimited vars) →
    Stays None c (routed vars actions c)
routed_stays vars actions c is limits = record {
  keeps = record {
    links = refl;
    live = execute_lives ∙ sym (live_by c CsRouting true is routing_lives);
    short = λ short. short;
    apt = λ apt. record {
      outbound = apt.outbound;
      idle = λ some. absurd (true≢false (sym (apt.idle some) ∙ ap is_idle is));
      free = apt.free;
      alone = apt.alone;
      held = apt.held;
    };
    vars = early_vars c.vars vars limits;
  };
  holder = same_holder refl refl;
}

-- without actions only its variables change
found_stays : (vars : Variables) (c : Chan) → (AreLimited c.vars → AreLimited vars) → Stays None c (with_variables vars c)
found_stays vars c limits = quiet_stays c (with_variables vars c) (variables_quiet vars c) (early_vars c.vars vars limits)

reports_stays : {b : Stage} (c : Chan) → c.state ≡ CsHangup → Stays b c (in_state CsReporting c)
reports_stays c is = record {
  keeps = record {
    links = refl;
    live = reporting_dead ∙ sym (live_by c CsHangup false is hangup_dead);
    short = λ short. short;
    apt = λ apt. record {
      outbound = apt.outbound;
      idle = λ some. absurd (true≢false (sym (apt.idle some) ∙ ap is_idle is));
      free = apt.free;
      alone = apt.alone;
      held = apt.held;
    };
    vars = same_vars c.vars c.vars refl;
  };
  holder = same_holder refl refl;
}

-- what one does that is at work
rests_stays : {b : Stage} (c : Chan) → IsAtWork c → Stays b c (at_rest c)
rests_stays c works =
    work_stays c (at_rest c) works (rest_links c c.state) works.live (λ short. short) refl
    (rest_holder c.socket c.state (inl refl) refl)

parks_stays : {b : Stage} (c : Chan) → IsAtWork c → Stays b c (parked c)
parks_stays c works =
    work_stays c (parked c) works (rest_links c CsPark) park_lives (λ short. short) refl (rest_holder c.socket CsPark (inl refl) refl)

sleeps_stays : {b : Stage} (now milliseconds : ℕ) (c : Chan) → IsAtWork c → Stays b c (asleep now milliseconds c)
sleeps_stays now milliseconds c works =
    work_stays c (asleep now milliseconds c) works refl works.live (λ short. short) refl (record { socket = inl refl; dials = λ h. tt })

queues_stays : {b : Stage} (name : Text) (place : ℕ) (c : Chan) → IsAtWork c → Stays b c (queued name place c)
queues_stays name place c works =
    work_stays c (queued name place c) works refl works.live (λ short. short) refl (record { socket = inl refl; dials = λ h. tt })

awaits_stays : {b : Stage} (name : Text) (c : Chan) → IsAtWork c → Stays b c (awaiting_caller name c)
awaits_stays name c works =
    work_stays c (awaiting_caller name c) works refl works.live (λ short. short) refl (record { socket = inl refl; dials = λ h. tt })

transfers_stays : {b : Stage} (to : Target3) (c : Chan) → IsShortTarget to → IsAtWork c → Stays b c (transferred to c)
transfers_stays to c short works =
    work_stays c (transferred to c) works refl routing_lives (sent_short to c.profile short) refl
    (record { socket = inr refl; dials = λ h. tt })

-- plans have a leg where those have that they are made of
pub behind_filled : (pairs : List (Text × Text)) (group : List LegPlan) → IsSome (slice_get group 0) →
    IsSome (slice_get (all_behind pairs group) 0)
behind_filled pairs [] some = some
behind_filled pairs (plan ∷ plans) some = refl

-- a channel that nothing holds waits for no legs
pub free_dials : (wait : Wait) → hold_in wait ≡ Ready → awaited_in wait ≡ None
free_dials (Legs orig) is = absurd (cc is)
free_dials _ is = refl

-- nor does one that waits in a queue
queued_dials : (name : Text) (state : State) (wait : Wait) → is_some (turn_in name state wait) ≡ true → awaited_in wait ≡ None
queued_dials name CsExecute (Legs orig) is = absurd (false≢true is)
queued_dials name CsPark (Legs orig) is = absurd (false≢true is)
queued_dials name _ (Legs orig) is = absurd (false≢true is)
queued_dials name state _ is = refl

-- ---- what leaves a channel what it is

module _ (P : Fact) (kept : KeptByTouches P) where
  -- what is kept by both is kept by the one that a test chooses
  either : (test : Bool) {b : Stage} {s t : Switch} → P b s → P b t → P b (if test then s else t)
  either true first second = first
  either false first second = second

  moved_by : (change : Chan → Chan) (slot : ℕ) {b : Stage} {s : Switch} → ((c : Chan) → chan_at s slot ≡ Some c → Stays b c (change c)) →
      P b s → P b (after_move change slot s)
  moved_by change slot {b} {s} stays h =
      moved_plain (P b) (λ name at t plain k. kept.told (plain_event name at) plain k) change slot s
      (λ c is. kept.changed slot c (change c) is (stays c is) h) h

  -- the channel that stands there is changed
  moved_as : (change : Chan → Chan) (slot : ℕ) (c : Chan) {b : Stage} {s : Switch} → chan_at s slot ≡ Some c → Stays b c (change c) →
      P b s → P b (after_move change slot s)
  moved_as change slot c {b} {s} there stays h =
      moved_by change slot (λ d is. let same : c ≡ d = cc in subst (λ (x : Chan). Stays b x (change x)) same stays) h

  moved_kept : (change : Chan → Chan) (slot : ℕ) {b : Stage} {s : Switch} → AllQuiet change → AllKeep b change → P b s →
      P b (after_move change slot s)
  moved_kept change slot quiet vars h = moved_by change slot (λ c is. quiet_stays c (change c) (quiet c) (vars c)) h

  -- one that is at work is changed
  work_moved : (change : Chan → Chan) (slot : ℕ) {b : Stage} {s : Switch} → WorksAt s.channels slot →
      ((c : Chan) → IsAtWork c → Stays b c (change c)) → P b s → P b (after_move change slot s)
  work_moved change slot {b} {s} at stays h = moved_by change slot (λ c is. stays c (is_at_work s.channels slot c at is)) h

  pub changed_kept : (change : Chan → Chan) (slot : ℕ) {b : Stage} {s : Switch} → AllQuiet change → AllKeep b change → P b s →
      P b (with_changed_chan change slot s)
  changed_kept change slot {b} {s} quiet vars h =
      changed_there (P b) change slot s
      (λ c is. kept.changed slot c (change c) is (quiet_stays c (change c) (quiet c) (vars c)) h) h

  run_on_kept : (action : Action) (slot : ℕ) {b : Stage} {s : Switch} → P b s → P b (run_on action slot s)
  run_on_kept action slot h =
      kept.told (application_event ChannelExecute (Some action) slot) (refl, tt)
      (moved_kept (with_running action) slot (running_quiet action) (λ c. same_vars c.vars c.vars refl) h)

  pub completed_kept : (slot : ℕ) {b : Stage} {s : Switch} → WorksAt s.channels slot → P b s → P b (after_completion slot s)
  completed_kept slot {b} {s} at h =
      kept.told (application_event ChannelExecuteComplete (running_at slot s) slot) (application_plain (running_at slot s) slot)
      (work_moved at_rest slot at rests_stays h)

  -- ---- answers

  its_leg_kept : (seat slot : ℕ) (leg_of : Option ℕ) {b : Stage} {s : Switch} → P b s →
      P b (its_leg_changed (λ position. with_answer position seat) slot leg_of s)
  its_leg_kept seat slot None h = h
  its_leg_kept seat slot (Some number) h = kept.answers seat slot number h

  one_answered_kept : (slot : ℕ) {b : Stage} {s : Switch} → P b s → P b (after_one_answer slot s)
  one_answered_kept slot {b} {s} h = by (chan_at s slot) refl
    where
      by : (found : Option Chan) → chan_at s slot ≡ found → P b (after_answer_from slot found s)
      by None is = h
      by (Some c) is =
          either (is_none c.answered)
          (its_leg_kept s.entries slot c.leg_of
          (kept.told (plain_event ChannelAnswer slot) (refl, tt)
          (kept.changed slot c (with_answer_place s.entries c) is
          (quiet_stays c (with_answer_place s.entries c) (answer_quiet s.entries c) (same_vars c.vars c.vars refl)) h))) h

  pub answered_kept : (slot : ℕ) {b : Stage} {s : Switch} → P b s → P b (after_answer slot s)
  answered_kept slot {b} {s} h = by (partner_at s slot)
    where
      by : (partner : Option ℕ) → P b (for_slot after_one_answer partner (after_one_answer slot s))
      by None = one_answered_kept slot h
      by (Some partner) = one_answered_kept partner (one_answered_kept slot h)

  pub disposed_kept : (text : Text) (slot : ℕ) {b : Stage} {s : Switch} → P b s → P b (disposed text slot s)
  disposed_kept text slot h =
      changed_kept (with_disposition text) slot (disposition_quiet text)
      (λ c. set_vars c.vars (codes "originate_disposition") text refl) h

  -- ---- applications

  sleeping_kept : (milliseconds slot : ℕ) {b : Stage} {s : Switch} → WorksAt s.channels slot → P b s → P b (after_sleep milliseconds slot s)
  sleeping_kept milliseconds slot {b} {s} at h =
      either (milliseconds == 0) (completed_kept slot at h)
      (work_moved (asleep s.moment milliseconds) slot at (sleeps_stays s.moment milliseconds) h)

  parking_kept : (state : Option State) (slot : ℕ) {b : Stage} {s : Switch} → WorksAt s.channels slot → P b s →
      P b (after_park_in state slot s)
  parking_kept None slot at h = h
  parking_kept (Some CsPark) slot at h = completed_kept slot at h
  parking_kept (Some _) slot at h = work_moved parked slot at parks_stays h

  queueing_kept : (name : Text) (slot : ℕ) {b : Stage} {s : Switch} → WorksAt s.channels slot → P b s → P b (after_queueing name slot s)
  queueing_kept name slot {b} {s} at h =
      kept.told (queue_event Push name slot) (refl, tt) (work_moved (queued name s.entries) slot at (queues_stays name s.entries) h)

  no_caller_kept : (waits : Bool) (name : Text) (slot : ℕ) {b : Stage} {s : Switch} → WorksAt s.channels slot → P b s →
      P b (after_no_caller waits name slot s)
  no_caller_kept true name slot at h = work_moved (awaiting_caller name) slot at (awaits_stays name) h
  no_caller_kept false name slot at h = completed_kept slot at h

  -- a controller is sought
  seeking_kept : (text : Text) (slot : ℕ) {b : Stage} {s : Switch} → WorksAt s.channels slot → P b s → P b (after_socket text slot s)
  seeking_kept text slot {b} {s} at h = by (may_dial text (chan_at s slot)) refl
    where
      names : (found : Option Chan) → may_dial text found ≡ true → names_target text ≡ true
      names None may = absurd (false≢true may)
      names (Some c) may = left_holds (names_target text) (is_none c.socket) may

      by : (may : Bool) → may_dial text (chan_at s slot) ≡ may →
          P b (if may then after_move (awaiting_dial text) slot s else after_completion slot s)
      by true is = work_moved (awaiting_dial text) slot at (λ c works. dials_stays text c (names (chan_at s slot) is) works) h
      by false is = completed_kept slot at h

  variable_kept : (how : Assignment) (argument : Text) (slot : ℕ) {s : Switch} → P None s →
      P None (after_move (with_assignment how argument) slot s)
  variable_kept how argument slot h =
      moved_kept (with_assignment how argument) slot (assignment_quiet how argument)
      (λ c. early_vars c.vars (assigned how argument c.vars) (assigned_limited how argument c.vars)) h

  assigned_kept : (how : Assignment) (argument : Text) (slot : ℕ) {s : Switch} → P None s →
      P None (after_assignment how argument slot s)
  assigned_kept SetGlobal argument slot {s} h = kept.globals (assigned SetGlobal argument s.globals) h
  assigned_kept Set argument slot h = variable_kept Set argument slot h
  assigned_kept Unset argument slot h = variable_kept Unset argument slot h
  assigned_kept Export argument slot h = variable_kept Export argument slot h

  -- ---- controllers

  pub let_go_kept : (conn : ℕ) {b : Stage} {s : Switch} → P b s → P b (after_letting_go conn s)
  let_go_kept conn {b} {s} h = by (slot_controlled_by conn s)
    where
      complete : (running : Option Action) (slot : ℕ) {t : Switch} → P b t → P b (with_completion_of running slot t)
      complete None slot k = k
      complete (Some action) slot k = kept.told (application_event ChannelExecuteComplete (Some action) slot) (refl, tt) k

      from : (slot : ℕ) (found : Option Chan) → chan_at s slot ≡ found → P b (let_go_from conn slot found s)
      from slot None is = h
      from slot (Some c) is =
          either (is_held_by conn c)
          (complete (completed_by c.wait c.running) slot (kept.changed slot c (let_go c) is (let_go_stays c) h)) h

      by : (slot : Option ℕ) → P b (let_go_in conn slot s)
      by None = h
      by (Some slot) = from slot (chan_at s slot) refl

-- it is at work behind an assignment
assigned_works : (how : Assignment) (argument : Text) (slot : ℕ) (s : Switch) → WorksAt s.channels slot →
    WorksAt (after_assignment how argument slot s).channels slot
assigned_works SetGlobal argument slot s at = at
assigned_works Set argument slot s at = moved_works (with_assignment Set argument) slot s (assignment_quiet Set argument) at
assigned_works Unset argument slot s at = moved_works (with_assignment Unset argument) slot s (assignment_quiet Unset argument) at
assigned_works Export argument slot s at = moved_works (with_assignment Export argument) slot s (assignment_quiet Export argument) at

-- ---- what channels do by themselves

module _ (before : Switch) (P : Fact) (kept : KeptByCalls P) (dials : KeptByDials before P) where
  hung_up_kept : (cause : Cause) (slot : ℕ) {s : Switch} → P None s → P (Some 0) (after_hangup cause slot s)
  hung_up_kept cause slot h = kept.hung ((slot, cause) ∷ []) h (dials.spent h)

  -- ---- dialing

  -- a channel that is at work has failed to bridge
  no_bridge_kept : (cause : Cause) (slot : ℕ) {s : Switch} → WorksAt s.channels slot → P None s →
      P (Some 0) (after_bridge_failure cause slot s)
  unfolding after_bridge_failure
  no_bridge_kept cause slot {s} at h = by (chan_at s slot)
    where
      told : P None (disposed (cause_name cause) slot s)
      told = disposed_kept P kept.touches (cause_name cause) slot h

      on : (onward : Bool) → P (Some 0) (after_going_on onward cause slot (disposed (cause_name cause) slot s))
      on true =
          dials.spent
          (completed_kept P kept.touches slot
          (changed_works (with_disposition (cause_name cause)) slot s (disposition_quiet (cause_name cause)) at) told)
      on false = hung_up_kept cause slot told

      by : (found : Option Chan) → P (Some 0) (bridge_failed_from found cause slot s)
      by None = dials.spent h
      by (Some c) = on (goes_on cause c.vars)

  dialing_kept : (dial : Text) (slot : ℕ) {s : Switch} → WorksAt s.channels slot → P None s → P (Some 0) (after_dialing dial slot s)
  unfolding after_dialing
  dialing_kept dial slot {s} at h = by (dial_string dial) refl
    where
      begun : (d : Dial) → dial_string dial ≡ Ok d → (found : Option Chan) → chan_at s slot ≡ found →
          P (Some 0) (bridge_begun_from found d slot s)
      begun d is None there = dials.spent h
      begun d is (Some c) there =
          dials.dials slot c (plans_of d) (bridge_timeout d c.vars) there (is_at_work s.channels slot c at there)
          (dialed_groups dial d is) h

      by : (read : Result Dial DialFault) → dial_string dial ≡ read → P (Some 0) (bridge_dialed read slot s)
      by (Err fault) is = no_bridge_kept InvalidNumberFormat slot at h
      by (Ok d) is = begun d is (chan_at s slot) refl

  -- ---- queues

  -- a caller is taken by a channel that is at work
  take_kept : (name : Text) (caller slot : ℕ) {s : Switch} → WorksAt s.channels slot → DialsNone s caller → P None s →
      P (Some 0) (after_take name caller slot s)
  take_kept name caller slot {s} at dials_none h = by (is_ready (chan_at s caller)) refl (is_ready (chan_at s slot)) refl
    where
      t : Switch
      t = with_event (queue_event CallerPop name caller) s

      popped : P None t
      popped = kept.touches.told (queue_event CallerPop name caller) (refl, tt) h

      meets : (seat : ℕ) → is_ready (chan_at s seat) ≡ true → lives_at t seat ≡ true → DialsNone s seat → CanMeet t seat
      meets seat ready live dials_none = meets_now t seat live (ready_lone (chan_at s seat) ready) dials_none

      joined : is_ready (chan_at s caller) ≡ true → is_ready (chan_at s slot) ≡ true → (test : Bool) → can_join caller slot t ≡ test →
          P (Some 0) (if test then joined_as Fifo caller slot t else t)
      joined one two true can =
          let first : CanMeet t caller = meets caller one (caller_lives caller slot t can) dials_none in
          let second : CanMeet t slot =
          meets slot two (answerer_lives caller slot t can) (λ c there. free_dials c.wait (is_at_work s.channels slot c at there).free) in
          kept.joined Fifo caller slot first.chan second.chan can first.there second.there first.lone second.lone first.free second.free
          (record { past = t; first = popped; drawn = refl }) (dials.spent popped)
      joined one two false can = dials.spent popped

      by : (one : Bool) → is_ready (chan_at s caller) ≡ one → (two : Bool) → is_ready (chan_at s slot) ≡ two →
          P (Some 0) (if one && two then after_join Fifo caller slot t else s)
      by true one true two = joined one two (can_join caller slot t) refl
      by true one false two = dials.spent h
      by false one two is = dials.spent h

  taking_kept : (waits : Bool) (name : Text) (slot : ℕ) {s : Switch} → WorksAt s.channels slot → P None s →
      P (Some 0) (after_taking waits name slot s)
  taking_kept waits name slot {s} at h = by (first_caller name s) refl
    where
      by : (found : Option ℕ) → first_caller name s ≡ found → P (Some 0) (after_taking_of found waits name slot s)
      by None is = dials.spent (no_caller_kept P kept.touches waits name slot at h)
      by (Some caller) is =
          take_kept name caller slot at (λ c there. queued_dials name c.state c.wait (first_waits name s caller is c there)) h

  -- ---- applications

  effect_kept : (what : Application) (slot : ℕ) {s : Switch} → apps.IsShortApplication what → WorksAt s.channels slot → P None s →
      P (Some 0) (after_effect what slot s)
  effect_kept app.Answer slot {s} short at h =
      dials.spent (completed_kept P kept.touches slot (answered_works slot s at) (answered_kept P kept.touches slot h))
  effect_kept (app.Assign how argument) slot {s} short at h =
      dials.spent
      (completed_kept P kept.touches slot (assigned_works how argument slot s at) (assigned_kept P kept.touches how argument slot h))
  effect_kept app.Eval slot short at h = dials.spent (completed_kept P kept.touches slot at h)
  effect_kept (app.Sleep milliseconds) slot short at h = dials.spent (sleeping_kept P kept.touches milliseconds slot at h)
  effect_kept (app.Hangup cause) slot short at h = hung_up_kept cause slot h
  effect_kept app.Park slot {s} short at h = dials.spent (parking_kept P kept.touches (state_at slot s) slot at h)
  effect_kept (app.Transfer to) slot short at h =
      dials.spent (work_moved P kept.touches (transferred to) slot at (λ c works. transfers_stays to c short works) h)
  effect_kept (app.Bridge dial) slot short at h = dialing_kept dial slot at h
  effect_kept (app.FifoIn name) slot {s} short at h =
      dials.spent (queueing_kept P kept.touches name slot (answered_works slot s at) (answered_kept P kept.touches slot h))
  effect_kept (app.FifoOut name waits) slot {s} short at h =
      taking_kept waits name slot (answered_works slot s at) (answered_kept P kept.touches slot h)
  effect_kept (app.Socket text) slot short at h = dials.spent (seeking_kept P kept.touches text slot at h)
  effect_kept app.Unknown slot short at h = hung_up_kept DestinationOutOfOrder slot h

  executed_kept : (application : Text) (argument : Option Text) (slot : ℕ) {s : Switch} → WorksAt s.channels slot → P None s →
      P (Some 0) (executed_within application argument slot s)
  executed_kept application None slot at h = hung_up_kept NormalTemporaryFailure slot h
  executed_kept application (Some argument) slot {s} at h =
      let action : Action = record { application = application; argument = argument } in
      effect_kept (application_of application argument) slot (application_short application argument)
      (moved_works (with_running action) slot s (running_quiet action) at) (run_on_kept P kept.touches action slot h)

  ran_next_kept : (next : Option Action) (slot : ℕ) (c : Chan) {s : Switch} → WorksAt s.channels slot → P None s →
      P (Some 0) (after_running_next next slot c s)
  ran_next_kept None slot c at h = hung_up_kept NormalClearing slot h
  ran_next_kept (Some action) slot c {s} at h =
      executed_kept action.application (argument_in c s action.argument) slot (moved_works chan.after_next slot s after_next_quiet at)
      (moved_kept P kept.touches chan.after_next slot after_next_quiet after_next_keeps h)

  ran_kept : (slot : ℕ) {s : Switch} → WorksAt s.channels slot → P None s → P (Some 0) (after_running slot s)
  unfolding after_running
  ran_kept slot {s} at h = by (chan_at s slot)
    where
      by : (found : Option Chan) → P (Some 0) (after_running_from slot found s)
      by None = dials.spent h
      by (Some c) = ran_next_kept (chan.next_action c) slot c at h

  -- ---- routing

  routed_kept : (vars : Variables) (actions : List Action) (slot : ℕ) (c : Chan) {s : Switch} → chan_at s slot ≡ Some c →
      c.state ≡ CsRouting → (AreLimited c.vars → AreLimited vars) → P None s → P (Some 0) (routed_to vars actions slot s)
  routed_kept vars actions slot c there is limits h =
      either P kept.touches (length actions == 0)
      (hung_up_kept NoRouteDestination slot
      (moved_as P kept.touches (with_variables vars) slot c there (found_stays vars c limits) h))
      (dials.spent (moved_as P kept.touches (routed vars actions) slot c there (routed_stays vars actions c is limits) h))

  routed_by_kept : (hunt : Option Hunt) (slot : ℕ) (c : Chan) {s : Switch} → chan_at s slot ≡ Some c → c.state ≡ CsRouting →
      ((h : Hunt) → hunt ≡ Some h → AreLimited c.vars → AreLimited h.vars) → P None s → P (Some 0) (routed_by hunt c slot s)
  routed_by_kept None slot c there is limits h = hung_up_kept (too_long_cause (has_xml c)) slot h
  routed_by_kept (Some hunt) slot c there is limits h =
      routed_kept hunt.vars (actions_for (has_xml c) hunt.actions) slot c there is (limits hunt refl)
      (kept.touches.globals hunt.globals h)

  routing_kept : (slot : ℕ) (c : Chan) {s : Switch} → chan_at s slot ≡ Some c → c.state ≡ CsRouting → P None s →
      P (Some 0) (after_routing_from slot (Some c) s)
  routing_kept slot c {s} there is h =
      either P kept.touches (may_route c)
      (routed_by_kept (found_for c s) slot c there is
      (λ hunt found limited. found_limited (hunted s.contexts c.profile.context c.profile c.vars s.globals (wall_of s)) hunt found
      (hunted_limited s.contexts c.profile.context c.profile c.vars s.globals (wall_of s) limited)) h)
      (hung_up_kept ExchangeRoutingError slot h)

  -- ---- the end of channels

  reported_kept : (slot : ℕ) (c : Chan) {b : Stage} {s : Switch} → chan_at s slot ≡ Some c → c.state ≡ CsHangup → P b s →
      P b (after_report slot s)
  reported_kept slot c there is h =
      moved_as P kept.touches (in_state CsReporting) slot c there (reports_stays c is)
      (kept.touches.told (report_event slot) (refl, tt) h)

  destroyed_kept : (slot : ℕ) (c : Chan) {s : Switch} → chan_at s slot ≡ Some c → c.state ≡ CsReporting → P None s →
      P (Some 1) (after_destroy slot s)
  destroyed_kept slot c there is h =
      kept.touches.told (plain_event ChannelDestroy slot) (refl, tt)
      (kept.touches.told (plain_event ChannelState slot) (refl, tt)
      (kept.gone slot c there (live_by c CsReporting false is reporting_dead) h (dials.spent h)))

  -- ---- what came of what it dialed

  tried_kept : (slot orig : ℕ) (c : Chan) → chan_at before slot ≡ Some c → P None before →
      P (Some 0) (after_verdict_on (record { orig = orig; party = party.Slot slot }) before)
  tried_kept slot orig c there h =
      verdict_kept before P kept (record { orig = orig; party = party.Slot slot }) (λ s. Unit {0})
      (λ named can. tt) fails wins regroups tt h (dials.spent h)
    where
      fails : (cause : Cause) (s : Switch) → Unit {0} → IsOver before s orig → P (Some 0) s →
          P (Some 0) (failed_for (party.Slot slot) orig cause s)
      fails cause s can over k = by (awaits slot orig s) refl
        where
          by : (test : Bool) → awaits slot orig s ≡ test →
              P (Some 0) (if test then after_bridge_failure cause slot (without_orig orig s) else s)
          by true is = dials.fails slot orig cause is over k
          by false is = k

      wins : (leg : OrigLeg) (slots : List ℕ) → Unit {0} → HasWon before orig leg slots → P (Some 0) (raced slots before) →
          P (Some 0) (won_for (party.Slot slot) orig (won_of leg) (raced slots before))
      wins leg slots can won k = by (awaits slot orig (raced slots before)) refl
        where
          by : (test : Bool) → awaits slot orig (raced slots before) ≡ test →
              P (Some 0) (if test then after_bridge_win slot (unwrap_or leg.slot 0) (without_orig orig (raced slots before))
              else raced slots before)
          by true is = dials.wins slot orig leg slots is won k
          by false is = k

      regroups : (o : Orig) (group : List LegPlan) → orig_of before orig ≡ Some o → next_group o ≡ Some group → may_enter_next o ≡ true →
          P (Some 0) before → P (Some 0) (with_group orig (group_for (party.Slot slot) group orig before))
      regroups o group is next enters k =
          subst (λ (found : Option Chan). P (Some 0) (with_group orig (group_dialed found group orig before))) (sym there)
          (dials.regroups orig o (all_behind (exported_pairs c.vars) group) (caller_of c) is
          (record { group = group; next = next; enters = enters; filled = behind_filled (exported_pairs c.vars) group }) k)

  -- ---- work

  works : (slot : ℕ) (c : Chan) → chan_at before slot ≡ Some c → is_live c ≡ true → hold_in c.wait ≡ Ready → is_idle c.state ≡ false →
      WorksAt before.channels slot
  works slot c there live free busy =
      record { chan = c; there = there; works = record { live = live; free = free; busy = busy } }

  -- whoever waits for nothing that holds it is at work
  waiting_kept : (wait : Wait) (slot : ℕ) (c : Chan) → chan_at before slot ≡ Some c → c.wait ≡ wait → is_live c ≡ true →
      is_idle c.state ≡ false → P None before → P (Some 0) (after_wait wait slot before)
  waiting_kept Ready slot c there is live busy h = ran_kept slot (works slot c there live (ap hold_in is) busy) h
  waiting_kept (Sleep until) slot c there is live busy h =
      dials.spent (completed_kept P kept.touches slot (works slot c there live (ap hold_in is) busy) h)
  waiting_kept Parked slot c there is live busy h = ran_kept slot (works slot c there live (ap hold_in is) busy) h
  waiting_kept (Socket conn) slot c there is live busy h = ran_kept slot (works slot c there live (ap hold_in is) busy) h
  waiting_kept (FifoOut name) slot c there is live busy h =
      taking_kept true name slot (works slot c there live (ap hold_in is) busy) h
  waiting_kept (Legs orig) slot c there is live busy h = tried_kept slot orig c there h
  waiting_kept _ slot c there is live busy h = dials.spent h

  -- only a channel that has come to its end leaves its slot
  working_kept : (state : State) (slot : ℕ) (c : Chan) → chan_at before slot ≡ Some c → c.state ≡ state → P None before →
      P (Some 1) (after_work_in state slot c before)
  working_kept CsNew slot c there is h =
      kept.more
      (dials.spent
      (moved_as P kept.touches (in_state CsInit) slot c there (begins_stays c is)
      (kept.touches.told (plain_event ChannelCreate slot) (refl, tt) h)))
  working_kept CsInit slot c there is h =
      kept.more (dials.spent (moved_as P kept.touches (in_state (first_state c.direction)) slot c there (first_stays c is) h))
  working_kept CsRouting slot c there is h =
      kept.more
      (subst (λ (found : Option Chan). P (Some 0) (after_routing_from slot found before)) (sym there) (routing_kept slot c there is h))
  working_kept CsExecute slot c there is h =
      kept.more (waiting_kept c.wait slot c there refl (live_by c CsExecute true is execute_lives) (ap is_idle is) h)
  working_kept CsPark slot c there is h =
      kept.more (waiting_kept c.wait slot c there refl (live_by c CsPark true is park_lives) (ap is_idle is) h)
  working_kept CsHangup slot c there is h = kept.more (dials.spent (reported_kept slot c there is h))
  working_kept CsReporting slot c there is h = destroyed_kept slot c there is h
  working_kept _ slot c there is h = kept.more (dials.spent h)

  pub worked_kept : (slot : ℕ) → P None before → P (Some 1) (after_work slot before)
  unfolding after_work
  worked_kept slot h = by (chan_at before slot) refl
    where
      by : (found : Option Chan) → chan_at before slot ≡ found → P (Some 1) (after_work_from slot found before)
      by None there = kept.more (dials.spent h)
      by (Some c) there = working_kept c.state slot c there refl h

-- ---- births

module _ (P : Fact) (births : KeptByBirths P) where
  either_made : (test : Bool) (x y : Made) {b : Stage} → P b x.state → P b y.state → P b (if test then x else y).state
  either_made true x y first second = first
  either_made false x y first second = second

  pair_kept : (call : Call) (orig : ℕ) {s : Switch} → IsShortCall call →
      is_misnamed call.uuid s ≡ false → P (Some 0) s → P (Some 0) (made_in call orig (free_pair s) s).state
  pair_kept call orig {s} short named h = first (free_slot 1 s) refl
    where
      second : (a : ℕ) → free_slot 1 s ≡ Some a → (found : Option ℕ) → free_slot (a + 1) s ≡ found →
          P (Some 0) (made_in call orig (option_map (λ b. (a, b)) found) s).state
      second a is_a None is = h
      second a is_a (Some b) is =
          births.pair call orig a b short named (free_seat Chan s.channels 1 a is_a) (free_seat Chan s.channels (a + 1) b is) h

      first : (found : Option ℕ) → free_slot 1 s ≡ found →
          P (Some 0) (made_in call orig (option_and_then (with_second s) found) s).state
      first None is = h
      first (Some a) is = second a is (free_slot (a + 1) s) refl

  with_kept : (exten context : Text) (vars : Option Variables) (caller : Caller) (orig : ℕ) {s : Switch} →
      endpoints.IsShortAddress exten context → ((v : Variables) → vars ≡ Some v → AreLimited v) → P (Some 0) s →
      P (Some 0) (made_with exten context vars caller orig s).state
  with_kept exten context None caller orig short limited h = h
  with_kept exten context (Some vars) caller orig {s} short limited h = by (is_misnamed (own_uuid vars) s) refl
    where
      call : Call
      call = call_with exten context vars caller

      by : (test : Bool) → is_misnamed (own_uuid vars) s ≡ test →
          P (Some 0) (if test then made_dead NormalTemporaryFailure s else loopback_made call orig s).state
      by true is = h
      by false is =
          either_made (is_congested s) _ _ h (pair_kept call orig (record { address = short; vars = limited vars refl }) is h)

  made_kept : (endpoint : Endpoint) (pairs : List (Text × Text)) (caller : Caller) (orig : ℕ) {s : Switch} →
      endpoints.IsShortEndpoint endpoint → P (Some 0) s →
      P (Some 0) (made_of endpoint pairs caller orig s).state
  made_kept (Dead cause) pairs caller orig short h = h
  made_kept (Loopback exten context) pairs caller orig short h =
      with_kept exten context (set_all pairs no_variables) caller orig short
      (λ vars is. set_all_limited pairs no_variables vars is none_limited) h

  pub leg_made_kept : (plan : LegPlan) (caller : Caller) (orig : ℕ) {s : Switch} → P (Some 0) s →
      P (Some 0) (leg_made plan caller orig s).state
  unfolding leg_made
  leg_made_kept plan caller orig h = made_kept (endpoint_of plan.endpoint) plan.pairs caller orig (endpoint_short plan.endpoint) h

  pub group_made_kept : (plans : List LegPlan) (caller : Caller) (orig : ℕ) {s : Switch} → P (Some 0) s →
      P (Some 0) (group_made plans caller orig s).state
  group_made_kept [] caller orig h = h
  group_made_kept (plan ∷ plans) caller orig {s} h =
      group_made_kept plans caller orig {s = (leg_made plan caller orig s).state} (leg_made_kept plan caller orig h)
