-- The legs of a bridge that ends are let go: they name no peer any more, and a variable tells the cause. So it is with all bridges that an
-- entry ends, until two are joined in it.
use Rattle.std.proofs.Common.{◌≡◌, ◌≢◌, ℕ, ◌+◌, ◌≤◌, Bool, true, false, not, if◌then◌else◌, List, [], ◌∷◌, map, count_by, Option, None}
use Rattle.std.proofs.Common.{Some, option_and_then, ◌⊎◌, inl, inr, codes, refl, sym, ap, subst, ◌∙◌, arith}
use Rattle.std.specs.List.{find}
use Rattle.std.proofs.lemmas.Bool.{cases_eq}
use Rattle.std.proofs.lemmas.Cmp.{nat_eq_equiv}
use Rattle.std.proofs.lemmas.Option.{none-some, same_Some}
use Rattle.fs_text.specs.declared.states.State.TheVariants.{CsHangup}
use Rattle.fs_text.specs.declared.causes.Cause.{Cause}
use Rattle.fs_text.specs.declared.causes.Cause.TheVariants.{NormalClearing, OriginatorCancel}
use Rattle.fs_text.specs.declared.event_names.EventName.{EventName}
use Rattle.fs_text.specs.declared.event_names.EventName.TheVariants.{ChannelExecuteComplete}
use Rattle.fs_text.specs.Cause.{cause_name}
use Rattle.fs_text.specs.Texts.{Text}
use Rattle.fs_vars.specs.Pairs.{value_of}
use Rattle.fs_bridge.specs.declared.after.After.{After}
use Rattle.fs_bridge.specs.declared.after.After.TheVariants.{GoOn, Hangup, Park}
use Rattle.fs_bridge.specs.declared.row.Row.{Row}
use Rattle.fs_bridge.specs.Bridges.{BridgeRows, has_number, part_of, unbridged}
use Rattle.fs_bridge.specs.Closure.{Members, Ends, closure_of}
use Rattle.fs_bridge.specs.Hangups.{IsOneOf}
use Rattle.fs_bridge.specs.Laws.{unless_numbered}
use Rattle.fs_bridge.proofs.DragLemmas.{one_parts}
use Rattle.fs_bridge.proofs.RowLemmas.{one_if, ended_is_left}
use Rattle.fs_chan.specs.declared.chan.Chan.{Chan}
use Rattle.fs_chan.specs.Bridging.{awaited_by, at_leisure, with_disposition, unbridged as let_go}
use Rattle.fs_chan.specs.Changes.{is_live, at_rest, parked, hung_up}
use Rattle.fs_orig.specs.Changes.{with_death}
use Rattle.fs_orig.specs.declared.orig.Orig.{Orig}
use Rattle.fs_seats.specs.Seats.{held_in, with_held}
use Rattle.fs_seats.proofs.HeldLemmas.{held_here, held_there, held_within}
use Rattle.fs_seats.proofs.RowLemmas.{each_put}
use Rattle.fs_state.specs.declared.event.Detail.{Detail}
use Rattle.fs_state.specs.declared.event.Detail.TheVariants as detail
use Rattle.fs_state.specs.declared.event.Event.{Event}
use Rattle.fs_state.specs.Switch.{Switch, chan_at, with_chan, bridge_at, without_bridge, with_event}
use Rattle.fs_state.specs.Moves.{plain_event, with_changed_chan_from, with_changed_chan, after_move, with_state_events, hangup_event}
use Rattle.fs_state.specs.Moves.{application_event, running_at, its_leg_changed, leg_changed, orig_given_up, after_hangup_from}
use Rattle.fs_state.specs.Moves.{after_one_hangup, after_completion}
use Rattle.fs_state.specs.Hangups.{lives_at, world_of, living_of, Ended, after_end, after_ends, unbridge_event, is_leg_of}
use Rattle.fs_state.specs.Hangups.{with_end_told, untold_by, after_member, after_members, after_outliving, after_survival, after_survivals}
use Rattle.fs_state.specs.declared.event.QueueAction.TheVariants.{Abort}
use Rattle.fs_state.specs.Queues.{queue_event, queue_at, abort_told}
use Rattle.fs_machine.proofs.AbortLemmas.{abort_kept, queue_left_kept}
use Rattle.fs_state.specs.Hangups.{after_closure, after_hangups}
use Rattle.fs_state.specs.Leaving.{all_legs_at, after_cancelling, after_parting, leaving_of, after_bridges_left, after_leaving_others}
use Rattle.fs_machine.specs.Joining.{after_leaving, after_farewell, after_farewells, after_departures}
use Rattle.fs_machine.proofs.Kept.{IsOfNoBridge, TellsNoBridge}
use Rattle.fs_machine.proofs.StayLemmas.{application_plain, moved_plain, state_plain_kept, changed_there}
use Rattle.fs_machine.proofs.ListCounts.{counts_front, one_passes}
use Rattle.fs_machine.proofs.BondRows.{RowsFit, still_part, stays_part, unbridged_fit}
use Rattle.fs_machine.proofs.BondLemmas.{end_stands}
use Rattle.fs_machine.proofs.EndLemmas.{is_end_of, ends_of_number, closure_once}
use Rattle.fs_machine.proofs.PartingLemmas.{parted_state, partings_kept}
use Rattle.fs_machine.proofs.WorldEnds.{left_end_stands, left_once}
use Rattle.fs_machine.proofs.FrontLemmas.{Front, front_of, orig_changed_front, given_up_front}
use Rattle.fs_machine.proofs.LimitLemmas.{AreLimited, cause_key, with_set_limited, with_set_stays, cause_told}

-- ---- what is let go

-- a channel is there, of which something holds, and a variable of it tells of what a bridge ended
pub record Tells (P : Chan → Type 0) (found : Option Chan) (cause : Cause) : Type 0 where
  pub chan : Chan
  pub there : found ≡ Some chan
  pub apart : P chan
  pub told : value_of chan.vars.pairs cause_key ≡ Some (cause_name cause)

-- so it is of what follows from that
pub tells_so : (P Q : Chan → Type 0) (found : Option Chan) (cause : Cause) → ((c : Chan) → P c → Q c) → Tells P found cause →
    Tells Q found cause
tells_so P Q found cause follows h = record { chan = h.chan; there = h.there; apart = follows h.chan h.apart; told = h.told }

-- it names no peer
abbrev pub Alone : Chan → Type 0
Alone c = c.peer ≡ None

-- both legs of a bridge that stood before are let go, and in none now
pub record Gone (before : Switch) (channels : List (Option Chan)) (bridges : BridgeRows) (e : Ended) : Type 0 where
  pub caller_was : bridge_at before e.0.caller ≡ Some e.0
  pub answerer_was : bridge_at before e.0.answerer ≡ Some e.0
  pub caller : Tells Alone (held_in channels e.0.caller) e.1
  pub answerer : Tells Alone (held_in channels e.0.answerer) e.1
  pub caller_out : part_of e.0.caller bridges ≡ None
  pub answerer_out : part_of e.0.answerer bridges ≡ None

-- there is a channel
pub record IsThere (channels : List (Option Chan)) (slot : ℕ) : Type 0 where
  pub chan : Chan
  pub there : held_in channels slot ≡ Some chan

-- the variables of each channel keep their limits
abbrev pub LimitedIn : Option Chan → Type 0
LimitedIn None = Unit {0}
LimitedIn (Some c) = AreLimited c.vars

abbrev pub Limited : List (Option Chan) → Type 0
Limited channels = (slot : ℕ) → LimitedIn (held_in channels slot)

-- What holds in an entry that began with a switch while nobody was joined in it: whatever stands stood before, and the legs of each bridge
-- that was told to have ended are let go, and of each one that is known to have ended.
pub record CoreIn (before : Switch) (known : Ended → Type 0) (channels : List (Option Chan)) (bridges : BridgeRows) (news : List Event) :
    Type 0 where
  pub fit : RowsFit bridges
  pub stood : (slot : ℕ) (row : Row) → part_of slot bridges ≡ Some row → bridge_at before slot ≡ Some row
  pub there : (slot : ℕ) (row : Row) → part_of slot bridges ≡ Some row → IsThere channels slot
  pub limits : Limited channels
  pub told : (row : Row) (cause : Cause) (event : Event) → IsOneOf event news → event.detail ≡ detail.Unbridge row cause →
      Gone before channels bridges (row, cause)
  pub gone : (e : Ended) → known e → Gone before channels bridges e

abbrev pub Core : Switch → (Ended → Type 0) → Switch → Type 0
Core before known s = CoreIn before known s.channels s.bridges s.news

-- ---- a channel is changed

-- what a change leaves of a channel that is let go
pub record Spares (old new : Chan) : Type 0 where
  pub alone : old.peer ≡ None → new.peer ≡ None
  pub cause : value_of new.vars.pairs cause_key ≡ value_of old.vars.pairs cause_key
  pub limits : AreLimited old.vars → AreLimited new.vars

-- one that keeps its peer and its variables
pub spares_same : (old new : Chan) → new.peer ≡ old.peer → new.vars ≡ old.vars → Spares old new
spares_same old new peer vars = record {
  alone = λ none. peer ∙ none;
  cause = ap (λ v. value_of v.pairs cause_key) vars;
  limits = λ limited. subst AreLimited (sym vars) limited;
}

pub spares_hung : (cause : Cause) (c : Chan) → Spares c (hung_up cause c)
spares_hung cause c = record {
  alone = λ none. refl;
  cause = with_set_stays (codes "hangup_cause") cause_key (cause_name cause) c.vars refl;
  limits = λ limited. with_set_limited c.vars (codes "hangup_cause") (cause_name cause) limited;
}

pub spares_disposed : (text : Text) (c : Chan) → Spares c (with_disposition text c)
spares_disposed text c = record {
  alone = λ none. none;
  cause = with_set_stays (codes "originate_disposition") cause_key text c.vars refl;
  limits = λ limited. with_set_limited c.vars (codes "originate_disposition") text limited;
}

-- in another slot
pub go_apart : (P : Chan → Type 0) (channels : List (Option Chan)) (slot q : ℕ) (new : Option Chan) (cause : Cause) → (q ≡ slot → ⊥) →
    Tells P (held_in channels q) cause →
    Tells P (held_in (with_held channels slot new) q) cause
go_apart P channels slot q new cause other h =
    subst (λ (found : Option Chan). Tells P found cause) (sym (held_there channels slot q new other)) h

-- or in the same
pub go_put : (P : Chan → Type 0) (channels : List (Option Chan)) (slot : ℕ) (old new : Chan) → held_in channels slot ≡ Some old →
    value_of new.vars.pairs cause_key ≡ value_of old.vars.pairs cause_key → (q : ℕ) (cause : Cause) → (q ≡ slot → P old → P new) →
    Tells P (held_in channels q) cause →
    Tells P (held_in (with_held channels slot (Some new)) q) cause
go_put P channels slot old new there stays q cause keeps h = by (cases_eq q slot)
  where
    by : (q ≡ slot) ⊎ (q ≡ slot → ⊥) → Tells P (held_in (with_held channels slot (Some new)) q) cause
    by (inl same) =
        let is : h.chan ≡ old = same_Some h.chan old (sym h.there ∙ (ap (held_in channels) same ∙ there)) in
        record {
          chan = new;
          there = ap (held_in (with_held channels slot (Some new))) same
              ∙ held_here channels slot (Some new) (held_within channels slot old there);
          apart = keeps same (subst P is h.apart);
          told = stays ∙ ap (λ (c : Chan). value_of c.vars.pairs cause_key) (sym is) ∙ h.told;
        }
    by (inr other) = go_apart P channels slot q (Some new) cause other h

pub there_put : (channels : List (Option Chan)) (slot : ℕ) (old new : Chan) → held_in channels slot ≡ Some old → (q : ℕ) →
    IsThere channels q → IsThere (with_held channels slot (Some new)) q
there_put channels slot old new there q h = by (cases_eq q slot)
  where
    by : (q ≡ slot) ⊎ (q ≡ slot → ⊥) → IsThere (with_held channels slot (Some new)) q
    by (inl same) = record {
      chan = new;
      there = ap (held_in (with_held channels slot (Some new))) same
          ∙ held_here channels slot (Some new) (held_within channels slot old there);
    }
    by (inr other) = record { chan = h.chan; there = held_there channels slot q (Some new) other ∙ h.there }

pub limits_at : (channels : List (Option Chan)) (slot : ℕ) (c : Chan) → held_in channels slot ≡ Some c → Limited channels → AreLimited c.vars
limits_at channels slot c there h = subst LimitedIn there (h slot)

pub limits_put : (channels : List (Option Chan)) (slot : ℕ) (new : Chan) → AreLimited new.vars → Limited channels →
    Limited (with_held channels slot (Some new))
limits_put channels slot new limited h = each_put LimitedIn channels slot (Some new) h limited

-- ---- one bridge ends

module _ (before : Switch) (known : Ended → Type 0) (e : Ended) (t : Switch) (h : Core before known t)
    (part : bridge_at t e.0.caller ≡ Some e.0) where
  abbrev ends_now : BridgeRows
  ends_now = unbridged e.0.number t.bridges

  other : bridge_at t e.0.answerer ≡ Some e.0
  other = h.fit.answerer e.0.caller e.0 part

  differ : e.0.caller ≢ e.0.answerer
  differ = h.fit.apart e.0.caller e.0 part

  abbrev caller_there : IsThere t.channels e.0.caller
  caller_there = h.there e.0.caller e.0 part

  abbrev answerer_there : IsThere t.channels e.0.answerer
  answerer_there = h.there e.0.answerer e.0 other

  -- with the first leg let go, and with both
  abbrev once : List (Option Chan)
  once = with_held t.channels e.0.caller (Some (let_go e.1 caller_there.chan))

  abbrev both : List (Option Chan)
  both = with_held once e.0.answerer (Some (let_go e.1 answerer_there.chan))

  second_there : held_in once e.0.answerer ≡ Some answerer_there.chan
  second_there =
      held_there t.channels e.0.caller e.0.answerer (Some (let_go e.1 caller_there.chan)) (λ same. differ (sym same)) ∙ answerer_there.there

  after_is : after_end e.0 e.1 t
      ≡ with_chan e.0.answerer (Some (let_go e.1 answerer_there.chan))
      (with_chan e.0.caller (Some (let_go e.1 caller_there.chan)) (without_bridge e.0.number t))
  after_is =
      let u : Switch = without_bridge e.0.number t in
      let v : Switch = with_chan e.0.caller (Some (let_go e.1 caller_there.chan)) u in
      ap (with_changed_chan (let_go e.1) e.0.answerer)
      (ap (λ found. with_changed_chan_from (let_go e.1) e.0.caller found u) caller_there.there)
      ∙ ap (λ found. with_changed_chan_from (let_go e.1) e.0.answerer found v) second_there

  out_still : (q : ℕ) → part_of q t.bridges ≡ None → part_of q ends_now ≡ None
  out_still q none = ended_is_left e.0.number q t.bridges h.fit.sound ∙ ap (unless_numbered e.0.number) none

  out_now : (q : ℕ) → part_of q t.bridges ≡ Some e.0 → part_of q ends_now ≡ None
  out_now q is =
      ended_is_left e.0.number q t.bridges h.fit.sound ∙ ap (unless_numbered e.0.number) is
      ∙ ap (λ test. if test then None else Some e.0) (nat_eq_equiv.refl e.0.number)

  no_leg : (q slot : ℕ) → part_of q t.bridges ≡ None → part_of slot t.bridges ≡ Some e.0 → q ≡ slot → ⊥
  no_leg q slot none is same = none-some e.0 (sym none ∙ (ap (λ at. part_of at t.bridges) same ∙ is))

  -- whoever was let go before
  still_go : (q : ℕ) (cause : Cause) → part_of q t.bridges ≡ None → Tells Alone (held_in t.channels q) cause →
      Tells Alone (held_in both q) cause
  still_go q cause none go =
      go_apart Alone once e.0.answerer q (Some (let_go e.1 answerer_there.chan)) cause (no_leg q e.0.answerer none other)
      (go_apart Alone t.channels e.0.caller q (Some (let_go e.1 caller_there.chan)) cause (no_leg q e.0.caller none part) go)

  still_gone : (x : Ended) → Gone before t.channels t.bridges x → Gone before both ends_now x
  still_gone x g = record {
    caller_was = g.caller_was;
    answerer_was = g.answerer_was;
    caller = still_go x.0.caller x.1 g.caller_out g.caller;
    answerer = still_go x.0.answerer x.1 g.answerer_out g.answerer;
    caller_out = out_still x.0.caller g.caller_out;
    answerer_out = out_still x.0.answerer g.answerer_out;
  }

  -- and its legs are now
  gone_now : Gone before both ends_now e
  gone_now = record {
    caller_was = h.stood e.0.caller e.0 part;
    answerer_was = h.stood e.0.answerer e.0 other;
    caller = record {
      chan = let_go e.1 caller_there.chan;
      there = held_there once e.0.answerer e.0.caller (Some (let_go e.1 answerer_there.chan)) differ
          ∙ held_here t.channels e.0.caller (Some (let_go e.1 caller_there.chan))
          (held_within t.channels e.0.caller caller_there.chan caller_there.there);
      apart = refl;
      told = cause_told e.1 caller_there.chan.vars
          (limits_at t.channels e.0.caller caller_there.chan caller_there.there h.limits);
    };
    answerer = record {
      chan = let_go e.1 answerer_there.chan;
      there = held_here once e.0.answerer (Some (let_go e.1 answerer_there.chan))
          (held_within once e.0.answerer answerer_there.chan second_there);
      apart = refl;
      told = cause_told e.1 answerer_there.chan.vars
          (limits_at t.channels e.0.answerer answerer_there.chan answerer_there.there h.limits);
    };
    caller_out = out_now e.0.caller part;
    answerer_out = out_now e.0.answerer other;
  }

  both_limited : Limited both
  both_limited =
      limits_put once e.0.answerer (let_go e.1 answerer_there.chan)
      (with_set_limited answerer_there.chan.vars cause_key (cause_name e.1)
      (limits_at t.channels e.0.answerer answerer_there.chan answerer_there.there h.limits))
      (limits_put t.channels e.0.caller (let_go e.1 caller_there.chan)
      (with_set_limited caller_there.chan.vars cause_key (cause_name e.1)
      (limits_at t.channels e.0.caller caller_there.chan caller_there.there h.limits)) h.limits)

  core_now : CoreIn before (λ x. known x ⊎ (x ≡ e)) both ends_now t.news
  core_now = record {
    fit = unbridged_fit e.0.number t.bridges h.fit;
    stood = λ slot r is. h.stood slot r (still_part e.0.number slot t.bridges r h.fit.sound is).0;
    there = λ slot r is.
        there_put once e.0.answerer answerer_there.chan (let_go e.1 answerer_there.chan) second_there slot
        (there_put t.channels e.0.caller caller_there.chan (let_go e.1 caller_there.chan) caller_there.there slot
        (h.there slot r (still_part e.0.number slot t.bridges r h.fit.sound is).0));
    limits = both_limited;
    told = λ row cause event one is. still_gone (row, cause) (h.told row cause event one is);
    gone = λ x what. by x what;
  }
    where
      by : (x : Ended) → known x ⊎ (x ≡ e) → Gone before both ends_now x
      by x (inl was) = still_gone x (h.gone x was)
      by x (inr same) = subst (Gone before both ends_now) (sym same) gone_now

  pub one_ended : Core before (λ x. known x ⊎ (x ≡ e)) (after_end e.0 e.1 t)
  one_ended = subst (λ (s : Switch). Core before (λ x. known x ⊎ (x ≡ e)) s) (sym after_is) core_now

  -- bridges of other numbers stand
  pub others_stand : (slot : ℕ) (r : Row) → bridge_at t slot ≡ Some r → has_number e.0.number r ≡ false →
      bridge_at (after_end e.0 e.1 t) slot ≡ Some r
  others_stand slot r is apart =
      ap (λ (s : Switch). bridge_at s slot) after_is ∙ stays_part e.0.number slot t.bridges r h.fit.sound is apart

-- where so much is known, less is
fewer_known : (before : Switch) (known fewer : Ended → Type 0) (s : Switch) → ((e : Ended) → fewer e → known e) → Core before known s →
    Core before fewer s
fewer_known before known fewer s are h = record {
  fit = h.fit;
  stood = h.stood;
  there = h.there;
  limits = h.limits;
  told = h.told;
  gone = λ e one. h.gone e (are e one);
}

-- one that passes is counted
counts_one : {X : Type 0} → (test : X → Bool) (x : X) (xs : List X) → IsOneOf x xs → test x ≡ true → 1 ≤ count_by test xs
counts_one test x [] one passes = absurd one
counts_one test x (y ∷ ys) (inl same) passes =
    let front = counts_front test y ys ∙ ap (λ b. one_if b + count_by test ys) (ap test (sym same) ∙ passes) in omega (arith, front)
counts_one test x (y ∷ ys) (inr one) passes =
    let front = counts_front test y ys in let rest = counts_one test x ys one passes in omega (arith, front, rest)

-- several bridges end, of which no two have one number
all_gone : (before : Switch) (over : List Ended) (known : Ended → Type 0) (t : Switch) → Core before known t →
    ((e : Ended) → IsOneOf e over → bridge_at t e.0.caller ≡ Some e.0) → ((number : ℕ) → ends_of_number number over ≤ 1) →
    Core before (λ x. known x ⊎ IsOneOf x over) (after_ends over t)
all_gone before [] known t h stand once =
    fewer_known before known (λ x. known x ⊎ IsOneOf x []) t (λ x what. elim what [ inl is ↦ is | inr none ↦ absurd none ]) h
all_gone before (e ∷ over) known t h stand once =
    fewer_known before (λ x. (known x ⊎ (x ≡ e)) ⊎ IsOneOf x over) (λ x. known x ⊎ IsOneOf x (e ∷ over))
    (after_ends over (after_end e.0 e.1 t)) parts
    (all_gone before over (λ x. known x ⊎ (x ≡ e)) (after_end e.0 e.1 t) (one_ended before known e t h first)
    (λ x one. others_stand before known e t h first x.0.caller x.0 (stand x (inr one)) (apart x one (has_number e.0.number x.0) refl))
    (λ number.
    let front = counts_front (is_end_of number) e over in
    let all = once number in
    omega (arith, front, all)))
  where
    first : bridge_at t e.0.caller ≡ Some e.0
    first = stand e (inl refl)

    parts : (x : Ended) → known x ⊎ IsOneOf x (e ∷ over) → (known x ⊎ (x ≡ e)) ⊎ IsOneOf x over
    parts x (inl is) = inl (inl is)
    parts x (inr (inl same)) = inl (inr same)
    parts x (inr (inr one)) = inr one

    apart : (x : Ended) → IsOneOf x over → (test : Bool) → has_number e.0.number x.0 ≡ test → has_number e.0.number x.0 ≡ false
    apart x one true is =
        let front = counts_front (is_end_of e.0.number) e over
        ∙ ap (λ b. one_if b + ends_of_number e.0.number over) (nat_eq_equiv.refl e.0.number) in
        let rest = counts_one (is_end_of e.0.number) x over one is in
        let all = once e.0.number in
        absurd (omega (arith, front, rest, all))
    apart x one false is = is

-- ---- what is told, and what channels do

-- an event of no bridge tells no end
pub no_end_in : (what : Detail) (row : Row) (cause : Cause) → IsOfNoBridge what → what ≡ detail.Unbridge row cause → ⊥
no_end_in what row cause none is = subst IsOfNoBridge is none

-- what an event tells to have ended
abbrev ended_in : Detail → Option Ended
ended_in (detail.Unbridge row cause) = Some (row, cause)
ended_in _ = None

-- one that is found is there
found_one : {X : Type 0} → (test : X → Bool) (xs : List X) (x : X) → find test xs ≡ Some x → IsOneOf x xs
found_one test [] x is = absurd (none-some x is)
found_one test (y ∷ ys) x is = by (test y) is (found_one test ys x)
  where
    by : (b : Bool) → (if b then Some y else find test ys) ≡ Some x → (find test ys ≡ Some x → IsOneOf x ys) → IsOneOf x (y ∷ ys)
    by true same later = inl (sym (same_Some y x same))
    by false there later = inr (later there)

module _ (before : Switch) (known : Ended → Type 0) where
  pub core_same : (t u : Switch) → front_of u ≡ front_of t → Core before known t → Core before known u
  core_same t u same h = subst (λ (f : Front). CoreIn before known f.channels f.bridges f.news) (sym same) h

  pub core_put : (slot : ℕ) (old new : Chan) (s : Switch) → chan_at s slot ≡ Some old → Spares old new → Core before known s →
      Core before known (with_chan slot (Some new) s)
  core_put slot old new s there spares h = record {
    fit = h.fit;
    stood = h.stood;
    there = λ q row is. there_put s.channels slot old new there q (h.there q row is);
    limits = limits_put s.channels slot new (spares.limits (limits_at s.channels slot old there h.limits)) h.limits;
    told = λ row cause event one is. gone_put (row, cause) (h.told row cause event one is);
    gone = λ e one. gone_put e (h.gone e one);
  }
    where
      gone_put : (e : Ended) → Gone before s.channels s.bridges e → Gone before (with_held s.channels slot (Some new)) s.bridges e
      gone_put e g = record {
        caller_was = g.caller_was;
        answerer_was = g.answerer_was;
        caller = go_put Alone s.channels slot old new there spares.cause e.0.caller e.1 (λ same none. spares.alone none) g.caller;
        answerer = go_put Alone s.channels slot old new there spares.cause e.0.answerer e.1 (λ same none. spares.alone none) g.answerer;
        caller_out = g.caller_out;
        answerer_out = g.answerer_out;
      }

  -- one more event, of an end that is known or of none
  told_core : (event : Event) (s : Switch) →
      ((row : Row) (cause : Cause) → event.detail ≡ detail.Unbridge row cause → Gone before s.channels s.bridges (row, cause)) →
      Core before known s → Core before known (with_event event s)
  told_core event s tells h = record {
    fit = h.fit;
    stood = h.stood;
    there = h.there;
    limits = h.limits;
    told = λ row cause event_told one is. by row cause event_told is (one_parts event_told s.news (event ∷ []) one);
    gone = h.gone;
  }
    where
      by : (row : Row) (cause : Cause) (one : Event) → one.detail ≡ detail.Unbridge row cause →
          IsOneOf one s.news ⊎ IsOneOf one (event ∷ []) →
          Gone before s.channels s.bridges (row, cause)
      by row cause one is (inl old) = h.told row cause one old is
      by row cause one is (inr (inl same)) = tells row cause (ap (λ (x : Event). x.detail) (sym same) ∙ is)
      by row cause one is (inr (inr none)) = absurd none

  pub core_told : (event : Event) (s : Switch) → TellsNoBridge event → Core before known s → Core before known (with_event event s)
  core_told event s none h = told_core event s (λ row cause is. absurd (no_end_in event.detail row cause none.1 is)) h

  pub core_end_told : (e : Ended) (s : Switch) → known e → Core before known s → Core before known (with_event (unbridge_event e) s)
  core_end_told e s is h =
      told_core (unbridge_event e) s
      (λ row cause same. subst (Gone before s.channels s.bridges) (same_Some e (row, cause) (ap ended_in same)) (h.gone e is)) h

  plain_core : (name : EventName) (slot : ℕ) (s : Switch) → TellsNoBridge (plain_event name slot) → Core before known s →
      Core before known (with_event (plain_event name slot) s)
  plain_core name slot s plain h = core_told (plain_event name slot) s plain h

  pub core_moved : (change : Chan → Chan) (slot : ℕ) (s : Switch) → ((c : Chan) → Spares c (change c)) → Core before known s →
      Core before known (after_move change slot s)
  core_moved change slot s spares h =
      moved_plain (Core before known) plain_core change slot s (λ c is. core_put slot c (change c) s is (spares c) h) h

  pub core_changed : (change : Chan → Chan) (slot : ℕ) (s : Switch) → ((c : Chan) → Spares c (change c)) → Core before known s →
      Core before known (with_changed_chan change slot s)
  core_changed change slot s spares h =
      changed_there (Core before known) change slot s (λ c is. core_put slot c (change c) s is (spares c) h) h

  -- ---- hangups

  its_leg_front : (change : ℕ → Orig → Orig) (slot : ℕ) (leg_of : Option ℕ) (s : Switch) →
      front_of (its_leg_changed change slot leg_of s) ≡ front_of s
  its_leg_front change slot None s = refl
  its_leg_front change slot (Some number) s = orig_changed_front (leg_changed change slot) number s

  one_hung : (cause : Cause) (slot : ℕ) (s : Switch) → Core before known s → Core before known (after_one_hangup cause slot s)
  one_hung cause slot s h = by (chan_at s slot) refl
    where
      either : (test : Bool) (t : Switch) → Core before known t → Core before known (if test then t else s)
      either true t k = k
      either false t k = h

      by : (found : Option Chan) → chan_at s slot ≡ found → Core before known (after_hangup_from cause slot found s)
      by None is = h
      by (Some c) is =
          let cut : Switch = with_event (hangup_event cause slot) (with_chan slot (Some (hung_up cause c)) s) in
          let told : Switch = with_state_events c.state CsHangup slot cut in
          let left : Switch = its_leg_changed (λ position. with_death position s.entries cause) slot c.leg_of told in
          either (is_live c) (orig_given_up slot (awaited_by c) left)
          (core_same told (orig_given_up slot (awaited_by c) left)
          (given_up_front slot (awaited_by c) left ∙ its_leg_front (λ position. with_death position s.entries cause) slot c.leg_of told)
          (state_plain_kept (Core before known) plain_core c.state CsHangup slot {s = cut}
          (core_told (hangup_event cause slot) (with_chan slot (Some (hung_up cause c)) s) (refl, tt)
          (core_put slot c (hung_up cause c) s is (spares_hung cause c) h))))

  end_told : (found : Option Ended) (s : Switch) → ((e : Ended) → found ≡ Some e → known e) → Core before known s →
      Core before known (with_end_told found s)
  end_told None s are h = h
  end_told (Some e) s are h = core_end_told e s (are e refl) h

  core_members : (untold : List Ended) (members : Members) (s : Switch) → ((e : Ended) → IsOneOf e untold → known e) →
      Core before known s → Core before known (after_members untold members s)
  core_members untold [] s are h = h
  core_members untold (m ∷ members) s are h =
      core_members (untold_by m.0 untold) members (after_member untold m s)
      (λ e one. are e (one_passes (λ (x : Ended). not (is_leg_of m.0 x)) e untold one).0)
      (one_hung m.1 m.0 (with_end_told (find (is_leg_of m.0) untold) (abort_told m.0 s))
      (end_told (find (is_leg_of m.0) untold) (abort_told m.0 s) (λ e is. are e (found_one (is_leg_of m.0) untold e is))
      (abort_kept (Core before known) m.0 (λ name t k. core_told (queue_event Abort name m.0) t (refl, tt) k) s h)))

  -- ---- who outlives a bridge

  pub core_completed : (slot : ℕ) (s : Switch) → Core before known s → Core before known (after_completion slot s)
  core_completed slot s h =
      core_told (application_event ChannelExecuteComplete (running_at slot s) slot) (after_move at_rest slot s)
      (application_plain (running_at slot s) slot) (core_moved at_rest slot s (λ c. spares_same c (at_rest c) refl refl) h)

  outlived : (what : After) (slot : ℕ) (s : Switch) → Core before known s → Core before known (after_outliving what slot s)
  outlived GoOn slot s h = core_completed slot s h
  outlived Park slot s h = core_moved parked slot s (λ c. spares_same c (parked c) refl refl) h
  outlived (Hangup cause) slot s h = h

  survived : (what : After) (slot : ℕ) (s : Switch) → Core before known s → Core before known (after_survival what slot s)
  survived what slot s h = by (lives_at s slot)
    where
      by : (live : Bool) → Core before known (if live then after_outliving what slot s else s)
      by true = outlived what slot s h
      by false = h

  all_survived : (survivors : List (ℕ × After)) (s : Switch) → Core before known s → Core before known (after_survivals survivors s)
  all_survived [] s h = h
  all_survived (one ∷ later) s h = all_survived later (after_survival one.1 one.0 s) (survived one.1 one.0 s h)

-- ---- all of it

-- nothing is known beside what was told
abbrev pub Nothing : Ended → Type 0
Nothing e = ⊥

-- bridges that stand end, of which no two have one number, then some are hung up, and others outlive a bridge
closure_core : (before : Switch) (all : Ends) (s : Switch) →
    ((e : Ended) → IsOneOf e all.ended → (slot : ℕ) × (bridge_at s slot ≡ Some e.0)) →
    ((number : ℕ) → ends_of_number number all.ended ≤ 1) → Core before Nothing s → Core before Nothing (after_closure all s)
closure_core before all s stand once h =
    fewer_known before (λ e. Nothing e ⊎ IsOneOf e all.ended) Nothing (after_closure all s) (λ e none. absurd none)
    (all_survived before (λ e. Nothing e ⊎ IsOneOf e all.ended) all.survivors (after_members all.ended all.members (after_ends all.ended s))
    (core_members before (λ e. Nothing e ⊎ IsOneOf e all.ended) all.ended all.members (after_ends all.ended s) (λ e one. inr one)
    (all_gone before all.ended Nothing s h (λ e one. let at = stand e one in h.fit.caller at.0 e.0 at.1) once)))

pub hung_core : (before : Switch) (named : Members) (s : Switch) → Core before Nothing s → Core before Nothing (after_hangups named s)
unfolding after_hangups
hung_core before named s h =
    closure_core before (closure_of (world_of s) (living_of s named)) s (end_stands named s) (closure_once named s h.fit) h

-- ---- channels that leave

-- a bridge is left, which is told at once
parted_core : (before : Switch) (slot : ℕ) (row : Row) (s : Switch) → bridge_at s slot ≡ Some row → Core before Nothing s →
    Core before Nothing (after_parting (row, NormalClearing) s)
parted_core before slot row s is h =
    let e : Ended = (row, NormalClearing) in
    fewer_known before (λ x. Nothing x ⊎ (x ≡ e)) Nothing (after_parting e s) (λ x none. absurd none)
    (core_end_told before (λ x. Nothing x ⊎ (x ≡ e)) e (after_end row NormalClearing s) (inr refl)
    (one_ended before Nothing e s h (h.fit.caller slot row is)))

-- all that they leave end, and then others hang up or outlive a bridge
bridges_left_core : (before : Switch) (slots : List ℕ) (s : Switch) → Core before Nothing s →
    Core before Nothing (after_bridges_left slots s)
unfolding after_bridges_left
bridges_left_core before slots s h =
    closure_core before (leaving_of slots s).ends (parted_state slots s) (left_end_stands slots s h.fit) (left_once slots s h.fit)
    (partings_kept (Core before Nothing) (λ slot row t is k. parted_core before slot row t is k) slots s h.fit h)

left_core : (before : Switch) (slot : ℕ) (s : Switch) → Core before Nothing s → Core before Nothing (after_leaving slot s)
left_core before slot s h =
    let awaited : Option ℕ = option_and_then awaited_by (chan_at s slot) in
    core_changed before Nothing at_leisure slot (orig_given_up slot awaited s) (λ c. spares_same c (at_leisure c) refl refl)
    (core_same before Nothing s (orig_given_up slot awaited s) (given_up_front slot awaited s) h)

farewell_core : (before : Switch) (slot : ℕ) (s : Switch) → Core before Nothing s → Core before Nothing (after_farewell slot s)
farewell_core before slot s h =
    queue_left_kept (Core before Nothing) (λ name at t k. core_told before Nothing (queue_event Abort name at) t (refl, tt) k)
    (queue_at s slot) slot (after_leaving slot s) (left_core before slot s h)

farewells_core : (before : Switch) (slots : List ℕ) (s : Switch) → Core before Nothing s → Core before Nothing (after_farewells slots s)
farewells_core before [] s h = h
farewells_core before (slot ∷ slots) s h = farewells_core before slots (after_farewell slot s) (farewell_core before slot s h)

pub departed_core : (before : Switch) (slots : List ℕ) (s : Switch) → Core before Nothing s → Core before Nothing (after_departures slots s)
departed_core before slots s h =
    farewells_core before slots (after_leaving_others slots s)
    (bridges_left_core before slots (after_cancelling slots s)
    (hung_core before (map (λ slot. (slot, OriginatorCancel)) (all_legs_at s slots)) s h))
