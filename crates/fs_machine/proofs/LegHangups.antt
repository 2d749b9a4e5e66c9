-- The legs of originations stand behind a hangup, whoever else hangs up with those that are named; a leg that has won lives.
use Rattle.std.proofs.Common.{◌≡◌, ℕ, Bool, true, false, if◌then◌else◌, List, Option, None, Some, IsSome, unwrap_or, ◌⊎◌, inl, inr, refl}
use Rattle.std.proofs.Common.{sym, ap, subst, ◌∙◌, true≢false, map}
use Rattle.std.proofs.lemmas.Bool.{cases_eq, false≢true}
use Rattle.std.proofs.lemmas.Option.{same_Some}
use Rattle.fs_text.specs.declared.causes.Cause.TheVariants.{LoseRace}
use Rattle.fs_bridge.specs.Closure.{Members}
use Rattle.fs_chan.specs.declared.chan.Chan.{Chan}
use Rattle.fs_chan.specs.Changes.{is_live, hung_up, at_rest, parked}
use Rattle.fs_chan.specs.Bridging.{unbridged}
use Rattle.fs_orig.specs.declared.leg.OrigLeg.{OrigLeg}
use Rattle.fs_seats.specs.Seats.{held_in, with_held}
use Rattle.fs_seats.specs.Rows.{seat_of}
use Rattle.fs_seats.proofs.HeldLemmas.{held_here, held_there, held_within}
use Rattle.fs_state.specs.Switch.{Switch, chan_at, with_chan}
use Rattle.fs_state.specs.Hangups.{after_hangups}
use Rattle.fs_state.specs.Leaving.{after_bridges_left}
use Rattle.fs_state.proofs.LegTables.{berthed, berth_if, berth_of, berth_in, berth_at, row_there}
use Rattle.fs_machine.specs.Attempts.{death_of}
use Rattle.fs_machine.specs.Sound.{HasLeg, IsLegIn, LegsAreChannels}
use Rattle.fs_machine.proofs.FrontLemmas.{Lively}
use Rattle.fs_machine.proofs.Kept.{raced, HasWon}
use Rattle.fs_machine.proofs.StayLemmas.{hangup_dead, park_lives, orig_changed_channels}
use Rattle.fs_machine.proofs.ClosureLemmas.{hangs_up}
use Rattle.fs_machine.proofs.HangLemmas.{dies, Falls, Cut, Unbridged, Rests, Parks, Settles, Freed, Resumes, Halts, hangups_kept}
use Rattle.fs_machine.proofs.HangLemmas.{hangups_kept_by, hangs_as_left, bridges_left_kept_by}
use Rattle.fs_machine.proofs.LegLemmas.{Channels, roles_of, IsLegOf, LegsStand, put_legs, one_hung_legs}

-- ---- whoever hangs up

-- it is the leg that it was
pub settles_leg : (hangs : ℕ → Bool) (slot : ℕ) (old new : Chan) (s : Switch) → chan_at s slot ≡ Some old → Settles hangs slot old new →
    LegsStand (roles_of s) → LegsStand (roles_of (with_chan slot (Some new) s))
settles_leg hangs slot old new s there (Freed cause) h = put_legs slot old (unbridged cause old) s there refl refl h
settles_leg hangs slot old new s there (Resumes outlives live) h = put_legs slot old (at_rest old) s there refl refl h
settles_leg hangs slot old new s there (Halts outlives live) h =
    put_legs slot old (parked old) s there refl (park_lives ∙ sym live) h

pub hung_legs : (named : Members) (s : Switch) → LegsStand (roles_of s) → LegsStand (roles_of (after_hangups named s))
hung_legs named s h =
    hangups_kept_by named s (λ (t : Switch). LegsStand (roles_of t)) (λ event t k. k)
    (λ slot old new t there how k. settles_leg (λ at. hangs_up at named s) slot old new t there how k) (λ number t k. k)
    (λ cause slot t hangs k. one_hung_legs cause slot t k) h

pub bridges_left_legs : (slots : List ℕ) (s : Switch) → LegsStand (roles_of s) → LegsStand (roles_of (after_bridges_left slots s))
bridges_left_legs slots s h =
    bridges_left_kept_by slots s (λ (t : Switch). LegsStand (roles_of t)) (λ event t k. k)
    (λ slot old new t there how k. settles_leg (hangs_as_left slots s) slot old new t there how k) (λ number t k. k)
    (λ cause slot t hangs k. one_hung_legs cause slot t k) h

-- ---- others lose the race

-- a channel names the origination while it lives, and has a cause once it does not
record MayLive (number slot : ℕ) (channels : Channels) : Type 0 where
  chan : Chan
  there : held_in channels slot ≡ Some chan
  names : is_live chan ≡ true → chan.leg_of ≡ Some number
  dies : is_live chan ≡ false → IsSome chan.cause

put_may_live : (number slot seat : ℕ) (old new : Chan) (channels : Channels) → held_in channels seat ≡ Some old →
    ((is_live old ≡ true → old.leg_of ≡ Some number) → is_live new ≡ true → new.leg_of ≡ Some number) →
    ((is_live old ≡ false → IsSome old.cause) → is_live new ≡ false → IsSome new.cause) →
    MayLive number slot channels → MayLive number slot (with_held channels seat (Some new))
put_may_live number slot seat old new channels is names dies h = by (cases_eq slot seat)
  where
    by : (slot ≡ seat) ⊎ (slot ≡ seat → ⊥) → MayLive number slot (with_held channels seat (Some new))
    by (inl same) =
        let was : h.chan ≡ old = same_Some h.chan old (sym h.there ∙ (ap (held_in channels) same ∙ is)) in
        record {
          chan = new;
          there = ap (held_in (with_held channels seat (Some new))) same
              ∙ held_here channels seat (Some new) (held_within channels seat old is);
          names = names (subst (λ (c : Chan). is_live c ≡ true → c.leg_of ≡ Some number) was h.names);
          dies = dies (subst (λ (c : Chan). is_live c ≡ false → IsSome c.cause) was h.dies);
        }
    by (inr other) = record {
      chan = h.chan;
      there = held_there channels seat slot (Some new) other ∙ h.there;
      names = h.names;
      dies = h.dies;
    }

falls_may_live : (hangs : ℕ → Bool) (number slot seat : ℕ) (old new : Chan) (channels : Channels) → held_in channels seat ≡ Some old →
    Falls hangs seat old new → MayLive number slot channels → MayLive number slot (with_held channels seat (Some new))
falls_may_live hangs number slot seat old new channels there (Cut cause hung) h =
    put_may_live number slot seat old (hung_up cause old) channels there (λ names live. absurd (true≢false (sym live ∙ hangup_dead)))
    (λ dies dead. refl) h
falls_may_live hangs number slot seat old new channels there (Unbridged cause) h =
    put_may_live number slot seat old (unbridged cause old) channels there (λ names. names) (λ dies. dies) h
falls_may_live hangs number slot seat old new channels there (Rests outlives live) h =
    put_may_live number slot seat old (at_rest old) channels there (λ names. names) (λ dies. dies) h
falls_may_live hangs number slot seat old new channels there (Parks outlives live) h =
    put_may_live number slot seat old (parked old) channels there (λ names now. names live)
    (λ dies dead. absurd (true≢false (sym park_lives ∙ dead))) h

raced_may_live : (number slot : ℕ) (slots : List ℕ) (s : Switch) → MayLive number slot s.channels →
    MayLive number slot (raced slots s).channels
raced_may_live number slot slots s h =
    hangups_kept (map (λ loser. (loser, LoseRace)) slots) s (λ (t : Switch). MayLive number slot t.channels) (λ event t k. k)
    (λ seat old new t there falls k.
    falls_may_live (λ at. hangs_up at (map (λ loser. (loser, LoseRace)) slots) s) number slot seat old new t.channels there falls k)
    (λ bridge t k. k)
    (λ cause at leg orig t k.
    subst (λ (channels : Channels). MayLive number slot channels) (sym (orig_changed_channels (dies cause at leg) orig t)) k)
    (λ orig t k. k) h

-- ---- a leg that has won

-- the berth of a living leg
berth_there : (s : Switch) (number : ℕ) (leg : OrigLeg) (has : HasLeg s number leg) →
    (seat : ℕ) × (seat_of s.origs number ≡ Some seat) × (berth_at s.origs seat has.position ≡ Some (berthed number leg.slot))
berth_there s number leg has =
    let row = row_there s.origs number has.orig has.there in
    let sits : berth_of number (Some leg) ≡ Some (berthed number leg.slot) = ap (λ (test : Bool). berth_if test number leg.slot) has.lives in
    (row.0, row.1, ap (berth_in has.position) row.2 ∙ (ap (berth_of number) has.at ∙ sits))

-- a living leg stands
pub has_leg : (s : Switch) (number : ℕ) (leg : OrigLeg) → HasLeg s number leg → LegsStand (roles_of s) →
    IsLegOf s.channels (berthed number leg.slot)
has_leg s number leg has h =
    let berth = berth_there s number leg has in
    h.stand berth.0 has.position (berthed number leg.slot) berth.2

-- as the definition has it
pub legs_are_channels : (s : Switch) → LegsStand (roles_of s) →
    ((slot number : ℕ) (c : Chan) → chan_at s slot ≡ Some c → c.leg_of ≡ Some number → IsLegIn s slot number) → LegsAreChannels s
legs_are_channels s h back = record {
  each = λ number leg has.
      let is : IsLegOf s.channels (berthed number leg.slot) = has_leg s number leg has h in
      record { slot = is.at; is = is.is; chan = is.chan; there = is.there; live = is.live; names = is.names };
  apart = λ number leg other one two same.
      let first = berth_there s number leg one in
      let second = berth_there s number other two in
      let seat : second.0 ≡ first.0 = same_Some second.0 first.0 (sym second.1 ∙ first.1) in
      h.apart first.0 one.position two.position (berthed number leg.slot) first.2
      (subst (λ (at : ℕ). berth_at s.origs at two.position ≡ Some (berthed number leg.slot)) seat
      (second.2 ∙ ap (λ (slot : Option ℕ). Some (berthed number slot)) (sym same)));
  back = back;
}

-- a leg that has won stands still
pub winning_leg : (s : Switch) (number : ℕ) (leg : OrigLeg) (slots : List ℕ) → HasWon s number leg slots → LegsStand (roles_of s) →
    IsLegOf (raced slots s).channels (berthed number leg.slot)
winning_leg s number leg slots won h = record {
  at = was.at;
  is = was.is;
  chan = may.chan;
  there = may.there;
  live = live;
  names = may.names live;
}
  where
    was : IsLegOf s.channels (berthed number leg.slot)
    was = has_leg s number leg won.has h

    may : MayLive number was.at (raced slots s).channels
    may = raced_may_live number was.at slots s
        (record {
          chan = was.chan;
          there = was.there;
          names = λ live. was.names;
          dies = λ dead. absurd (true≢false (sym was.live ∙ dead));
        })

    survives : death_of (Some may.chan) ≡ None
    survives =
        let at : chan_at (raced slots s) (unwrap_or leg.slot 0) ≡ Some may.chan =
        ap (λ (slot : Option ℕ). chan_at (raced slots s) (unwrap_or slot 0)) was.is ∙ may.there in
        sym (ap death_of at) ∙ won.survives

    live : is_live may.chan ≡ true
    live = by (is_live may.chan) refl survives
      where
        by : (test : Bool) → is_live may.chan ≡ test → (if test then None else may.chan.cause) ≡ None → test ≡ true
        by true is none = refl
        by false is none = absurd (false≢true (subst IsSome none (may.dies is)))

-- so it lives
pub winner_lively : (before : Switch) (orig : ℕ) (leg : OrigLeg) (slots : List ℕ) → HasWon before orig leg slots →
    LegsStand (roles_of before) → Lively (raced slots before) (unwrap_or leg.slot 0)
winner_lively before orig leg slots won h c there =
    let stands : IsLegOf (raced slots before).channels (berthed orig leg.slot) = winning_leg before orig leg slots won h in
    let at : chan_at (raced slots before) (unwrap_or leg.slot 0) ≡ Some stands.chan =
    ap (λ (slot : Option ℕ). chan_at (raced slots before) (unwrap_or slot 0)) stands.is ∙ stands.there in
    ap is_live (same_Some c stands.chan (sym there ∙ at)) ∙ stands.live
