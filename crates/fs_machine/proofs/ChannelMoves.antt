-- Each act keeps a partner for each live channel, and the texts of all channels within their limits.
use Rattle.std.proofs.Common.{◌≡◌, ℕ, ◌≤◌, Bool, true, false, List, length, Option, None, Some, IsSome, unwrap_or, refl, sym, subst, ◌∙◌}
use Rattle.std.proofs.Common.{true≢false}
use Rattle.fs_text.specs.Texts.{Text}
use Rattle.fs_text.specs.declared.causes.Cause.TheVariants.{LoseRace}
use Rattle.std.specs.Prelude.{map}
use Rattle.fs_bridge.specs.Closure.{Members}
use Rattle.fs_chan.specs.declared.chan.Chan.{Chan}
use Rattle.fs_chan.specs.Bridging.{in_media}
use Rattle.fs_chan.specs.Changes.{is_live, HasShortFields}
use Rattle.fs_chan.specs.Controlling.{held_by}
use Rattle.fs_orig.specs.declared.caller.Caller.{Caller}
use Rattle.fs_orig.specs.declared.leg.OrigLeg.{OrigLeg}
use Rattle.fs_orig.specs.declared.winner.Winner.{Winner}
use Rattle.fs_orig.specs.declared.winner.Winner.TheVariants.{App, Route}
use Rattle.fs_orig.specs.Endpoints.{IsShortAddress}
use Rattle.fs_seats.specs.Seats.{held_in, with_held}
use Rattle.fs_seats.proofs.RowLemmas.{each_put}
use Rattle.fs_state.specs.declared.job.Asker.{Asker}
use Rattle.fs_state.specs.declared.job.JobWork.TheVariants.{Originate}
use Rattle.fs_state.specs.Switch.{Switch, chan_at, with_chan, with_next_identifier, identifier_of}
use Rattle.fs_state.specs.Moves.{after_move_from, after_move, orig_changed}
use Rattle.fs_state.specs.Hangups.{after_hangups}
use Rattle.fs_state.specs.Leaving.{after_bridges_left}
use Rattle.fs_machine.specs.declared.call.Call.{Call}
use Rattle.fs_machine.specs.declared.originations.End.{End}
use Rattle.fs_machine.specs.Originations.{target_of, end_of, leg_end, far_end, pair_made, leg_uuid, is_misnamed, won_by, after_winning}
use Rattle.fs_machine.proofs.Kept.{Stage, Fact, Remains, DoesJob, raced, IsShortWinner, KeptByBirths, KeptByMoves}
use Rattle.fs_machine.proofs.ShortLemmas.{sent_short, uuid_short, profile_short}
use Rattle.fs_machine.proofs.StayLemmas.{hangup_dead, state_told_kept, moved_there}
use Rattle.fs_machine.proofs.ClosureLemmas.{hangs_up}
use Rattle.fs_machine.proofs.HangLemmas.{dies, Falls, Cut, Unbridged, Rests, Parks, hangups_kept, bridges_left_kept, hangs_as_left}
use Rattle.fs_machine.proofs.NameLemmas.{leg_uuid_short, leg_chan, far_chan, with_leg, pair_channels}
use Rattle.fs_machine.proofs.FrontLemmas.{Front, front_of, orig_changed_front, Lively, KeptByRemains, joins_by_remains, calls_by_remains}
use Rattle.fs_machine.proofs.FrontLemmas.{dials_by_remains, held_remains, moves_by_front}
use Rattle.fs_machine.proofs.RestLemmas.{hung_rest}
use Rattle.fs_machine.proofs.LegLemmas.{roles_of, LegsStand}
use Rattle.fs_machine.proofs.LegHangups.{winner_lively}
use Rattle.fs_machine.proofs.WinnerMoves.{WinnersAreShort, winner_of_job, rest_winners}

-- a channel has a partner while it lives, and texts that keep their limits
pub record IsFit (c : Chan) : Type 0 where
  pub partner : is_live c ≡ true → IsSome c.partner
  pub short : HasShortFields c.profile

abbrev pub FitsIn : Option Chan → Type 0
FitsIn None = Unit {0}
FitsIn (Some c) = IsFit c

abbrev pub AllFit : List (Option Chan) → Type 0
AllFit channels = (slot : ℕ) → FitsIn (held_in channels slot)

abbrev pub Fit : Fact
Fit b s = AllFit s.channels

pub fit_there : (s : Switch) (slot : ℕ) (c : Chan) → chan_at s slot ≡ Some c → AllFit s.channels → IsFit c
fit_there s slot c there h = subst FitsIn there (h slot)

put_fit : (slot : ℕ) (new : Chan) (s : Switch) → IsFit new → AllFit s.channels → AllFit (with_chan slot (Some new) s).channels
put_fit slot new s fit h = each_put FitsIn s.channels slot (Some new) h fit

same_fit : (f g : Front) → g ≡ f → AllFit f.channels → AllFit g.channels
same_fit f g same h = subst (λ (x : Front). AllFit x.channels) (sym same) h

remains_fit : (old new : Chan) → Remains old new → IsFit old → IsFit new
remains_fit old new remains fit = record {
  partner = λ live. subst IsSome (sym remains.partner) (fit.partner (sym remains.live ∙ live));
  short = remains.short fit.short;
}

-- ---- hangups and bridges

falls_fit : (hangs : ℕ → Bool) (slot : ℕ) (old new : Chan) → Falls hangs slot old new → IsFit old → IsFit new
falls_fit hangs slot old new (Cut cause hung) fit = record {
  partner = λ live. absurd (true≢false (sym live ∙ hangup_dead));
  short = fit.short;
}
falls_fit hangs slot old new (Unbridged cause) fit = record { partner = λ live. fit.partner live; short = fit.short }
falls_fit hangs slot old new (Rests outlives lived) fit = record { partner = λ live. fit.partner live; short = fit.short }
falls_fit hangs slot old new (Parks outlives lived) fit = record { partner = λ live. fit.partner lived; short = fit.short }

hung_fit : (named : Members) (s : Switch) → AllFit s.channels → AllFit (after_hangups named s).channels
hung_fit named s h =
    hangups_kept named s (λ (t : Switch). AllFit t.channels) (λ event t k. k)
    (λ slot old new t there falls k. put_fit slot new t
    (falls_fit (λ at. hangs_up at named s) slot old new falls (fit_there t slot old there k)) k)
    (λ number t k. k)
    (λ cause seat leg number t k. same_fit (front_of t) (front_of (orig_changed (dies cause seat leg) number t))
    (orig_changed_front (dies cause seat leg) number t) k) (λ number t k. k) h

bridges_left_fit : (slots : List ℕ) (s : Switch) → AllFit s.channels → AllFit (after_bridges_left slots s).channels
bridges_left_fit slots s h =
    bridges_left_kept slots s (λ (t : Switch). AllFit t.channels) (λ event t k. k)
    (λ slot old new t there falls k. put_fit slot new t
    (falls_fit (hangs_as_left slots s) slot old new falls (fit_there t slot old there k)) k)
    (λ number t k. k)
    (λ cause seat leg number t k. same_fit (front_of t) (front_of (orig_changed (dies cause seat leg) number t))
    (orig_changed_front (dies cause seat leg) number t) k) (λ number t k. k) h

-- whoever is in media lived before
media_fit : (slot : ℕ) (s : Switch) → Lively s slot → AllFit s.channels → AllFit (after_move in_media slot s).channels
media_fit slot s lively h =
    moved_there (λ (t : Switch). AllFit t.channels) (λ event t k. k) in_media slot s
    (λ c there. put_fit slot (in_media c) s
    (record { partner = λ live. (fit_there s slot c there h).partner (lively c there); short = (fit_there s slot c there h).short }) h) h

-- ---- two channels are made

end_fit : (call : Call) (end : End) (uuid : Text) → IsShortAddress call.exten call.context → length uuid ≤ 256 →
    IsFit (end_of call end uuid)
end_fit call end uuid short small = record { partner = λ live. refl; short = profile_short call end.direction uuid short small }

pair_fit : (call : Call) (orig a b : ℕ) (s : Switch) → IsShortAddress call.exten call.context → is_misnamed call.uuid s ≡ false →
    AllFit s.channels → AllFit (pair_made call orig a b s).channels
pair_fit call orig a b s short named h =
    let t : Switch = with_leg call orig a b s in
    let leg : Chan = leg_chan call orig a b s in
    let far : Chan = far_chan call orig a b s in
    let drawn : ℕ = (with_next_identifier t).drawn.identifiers in
    subst AllFit (sym (pair_channels call orig a b s))
    (each_put FitsIn (with_held s.channels a (Some leg)) b (Some far)
    (each_put FitsIn s.channels a (Some leg) h
    (end_fit call (leg_end orig a b) (leg_uuid call.uuid s) short (leg_uuid_short call.uuid s named)))
    (end_fit call (far_end a b) (identifier_of (with_next_identifier t)) short (uuid_short t.settings.core_uuid drawn)))

-- ---- a leg wins

won_by_fit : (winner : Winner) (c : Chan) → IsShortWinner winner → is_live c ≡ true → IsFit c → IsFit (won_by winner c)
won_by_fit (App application argument) c short live fit = record { partner = λ lives. fit.partner live; short = fit.short }
won_by_fit (Route to) c short live fit =
    record { partner = λ lives. fit.partner live; short = sent_short (target_of to) c.profile short fit.short }

won_at_fit : (winner : Winner) (slot : ℕ) (s : Switch) → IsShortWinner winner → ((c : Chan) → chan_at s slot ≡ Some c → is_live c ≡ true) →
    AllFit s.channels → AllFit (after_winning winner slot s).channels
unfolding after_winning
won_at_fit winner slot s short live h = by (chan_at s slot) refl
  where
    by : (found : Option Chan) → chan_at s slot ≡ found → AllFit (after_move_from (won_by winner) slot found s).channels
    by None is = h
    by (Some c) is =
        state_told_kept (λ (t : Switch). AllFit t.channels) (λ event t k. k) c.state
        (won_by winner c).state slot {s = with_chan slot (Some (won_by winner c)) s}
        (put_fit slot (won_by winner c) s (won_by_fit winner c short (live c is) (fit_there s slot c is h)) h)

wins_fit : (job : ℕ) (who : Asker) (winner : Winner) (caller : Caller) (orig : ℕ) (leg : OrigLeg) (slots : List ℕ) (s : Switch) →
    DoesJob (raced slots s) job who (Originate orig winner caller) → Lively (raced slots s) (unwrap_or leg.slot 0) →
    WinnersAreShort s.jobs → AllFit (raced slots s).channels →
    AllFit (after_winning winner (unwrap_or leg.slot 0) (raced slots s)).channels
wins_fit job who winner caller orig leg slots s does lively short h =
    let t : Switch = raced slots s in
    let named : Members = map (λ slot. (slot, LoseRace)) slots in
    won_at_fit winner (unwrap_or leg.slot 0) t
    (winner_of_job t job who orig winner caller does (rest_winners s t (hung_rest named s) short)) lively h

-- ---- every move

remains_moves : KeptByRemains Fit
remains_moves = record {
  told = λ event plain h. h;
  globals = λ globals h. h;
  joins = λ kind caller answerer {b = b} {s = s} can h.
      joins_by_remains Fit (λ event b t k. k) (λ rows b t k. k)
      (λ slot old new b t there remains holder k. put slot old new t there remains k) kind caller answerer b s h;
  remains = λ slot old new {s = s} there remains holder h. put slot old new s there remains h;
  hung = λ named {s = s} h. hung_fit named s h;
  leaves = λ slots {s = s} h. bridges_left_fit slots s h;
  more = λ h. h;
  gone = λ slot old {s = s} there dead h. each_put FitsIn s.channels slot None h tt;
}
  where
    put : (slot : ℕ) (old new : Chan) (s : Switch) → chan_at s slot ≡ Some old → Remains old new → AllFit s.channels →
        AllFit (with_chan slot (Some new) s).channels
    put slot old new s there remains h = put_fit slot new s (remains_fit old new remains (fit_there s slot old there h)) h

births_fit : KeptByBirths Fit
births_fit = record {
  spent = λ h. h;
  pair = λ call orig a b {s = s} short named first second h. pair_fit call orig a b s short.address named h;
}

fit_same : (b : Stage) (t u : Switch) → Fit b t → front_of u ≡ front_of t → Fit b u
fit_same b t u h same = same_fit (front_of t) (front_of u) same h

pub fit_moves : (before : Switch) → LegsStand (roles_of before) → WinnersAreShort before.jobs → KeptByMoves before Fit
fit_moves before stand winners =
    moves_by_front before Fit fit_same
    (calls_by_remains before Fit (λ b t u h e conns. fit_same b t u h e) remains_moves births_fit
    (λ slot u lively h. media_fit slot u lively h)) births_fit
    (dials_by_remains before Fit (λ b t u h e conns. fit_same b t u h e) remains_moves births_fit
    (λ slot u lively h. media_fit slot u lively h))
    (λ job who winner caller orig leg slots does won h. wins_fit job who winner caller orig leg slots before does
    (winner_lively before orig leg slots won stand) winners h)
    (λ s h. h)
    (λ slot conn c text s there waits h. put_fit slot (held_by conn c) s
    (remains_fit c (held_by conn c) (held_remains conn c text waits) (fit_there s slot c there h)) h)
