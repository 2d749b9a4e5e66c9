-- Whoever hangs up gives up what it dialed, so that owners wait still; whoever outlives a bridge dialed nothing.
use Rattle.std.proofs.Common.{◌≡◌, ℕ, Bool, true, false, List, [], ◌∷◌, None, Some, inl, inr, refl, sym, ap, subst, ◌∙◌, true≢false}
use Rattle.std.proofs.Common.{not, ◌||◌, ◌==◌}
use Rattle.std.proofs.lemmas.Bool.{false≢true, or_cases, or_left, or_right, eqb-true}
use Rattle.std.proofs.lemmas.Option.{same_Some}
use Rattle.std.proofs.lemmas.Cmp.{nat_eq_equiv}
use Rattle.fs_text.specs.declared.states.State.TheVariants.{CsPark}
use Rattle.fs_text.specs.declared.causes.Cause.{Cause}
use Rattle.fs_bridge.specs.declared.after.After.{After}
use Rattle.fs_bridge.specs.Closure.{Member, Members, Ends, closure_of}
use Rattle.fs_bridge.specs.Hangups.{IsOneOf}
use Rattle.fs_bridge.proofs.SettledLemmas.{one_stands}
use Rattle.fs_chan.specs.declared.chan.Chan.{Chan}
use Rattle.fs_chan.specs.Changes.{hung_up, at_rest, parked}
use Rattle.fs_chan.specs.Bridging.{awaited_by, unbridged}
use Rattle.fs_seats.specs.Seats.{held_in, with_held}
use Rattle.fs_seats.proofs.HeldLemmas.{held_within}
use Rattle.fs_state.specs.Switch.{Switch, chan_at, with_chan}
use Rattle.fs_state.specs.Moves.{after_one_hangup}
use Rattle.fs_state.specs.Hangups.{world_of, living_of, after_closure, after_hangups}
use Rattle.fs_machine.proofs.ClosureLemmas.{members_for, hangs_up, survivors_stay}
use Rattle.fs_machine.proofs.HangLemmas.{Settles, Freed, Resumes, Halts, closure_kept_by}
use Rattle.fs_machine.proofs.LegLemmas.{Channels, Roles, roles_of}
use Rattle.fs_machine.proofs.TieLemmas.{HungAs, hung_by}
use Rattle.fs_machine.proofs.BondTables.{Bonds}
use Rattle.fs_machine.proofs.BondHangups.{survivors_dial_none}
use Rattle.fs_machine.proofs.JoinLemmas.{DialsNone, dials_put, rest_dials}
use Rattle.fs_machine.proofs.OwnerLemmas.{Owned, OwnsNone, dials_owns, fresh_owned, alike_owned, one_hung_owned}

-- ---- who outlives a bridge

abbrev tells : List (ℕ × After) → ℕ → Bool
tells [] slot = false
tells (one ∷ more) slot = (one.0 == slot) || tells more slot

record IsToldAt (survivors : List (ℕ × After)) (slot : ℕ) : Type 0 where
  told : ℕ × After
  one : IsOneOf told survivors
  at : told.0 ≡ slot

told_at : (survivors : List (ℕ × After)) (slot : ℕ) → tells survivors slot ≡ true → IsToldAt survivors slot
told_at [] slot is = absurd (false≢true is)
told_at (first ∷ more) slot is =
    elim (or_cases (first.0 == slot) (tells more slot) is) [
      | inl here ↦ record { told = first; one = inl refl; at = eqb-true first.0 slot here }
      | inr there ↦ let later = told_at more slot there in record { told = later.told; one = inr later.one; at = later.at }
    ]

tells_one : (survivors : List (ℕ × After)) (one : ℕ × After) → IsOneOf one survivors → tells survivors one.0 ≡ true
tells_one [] one is = absurd is
tells_one (first ∷ more) one (inl same) =
    or_left (first.0 == one.0) (tells more one.0) (ap (λ (x : ℕ × After). x.0 == one.0) (sym same) ∙ nat_eq_equiv.refl one.0)
tells_one (first ∷ more) one (inr is) = or_right (first.0 == one.0) (tells more one.0) (tells_one more one is)

not_true : (test : Bool) → not test ≡ false → test ≡ true
not_true true is = refl
not_true false is = absurd (true≢false is)

-- ---- who dials nothing

hung_dials : (cause : Cause) (slot seat : ℕ) (t : Switch) → DialsNone t slot → DialsNone (after_one_hangup cause seat t) slot
hung_dials cause slot seat t none c is = by (hung_by cause seat t)
  where
    by : HungAs cause seat t (after_one_hangup cause seat t).channels → awaited_by c ≡ None
    by (inl dead) = none c (sym (ap (λ (channels : Channels). held_in channels slot) dead.1) ∙ is)
    by (inr found) =
        dials_put t slot seat found.0 (hung_up cause found.0) found.1 (λ dialed. refl) none c
        (sym (ap (λ (channels : Channels). held_in channels slot) found.2) ∙ is)

-- it comes to rest, where its slot owns nothing
pub rest_owned : (r : Roles) (slot : ℕ) (c d : Chan) → held_in r.channels slot ≡ Some c → OwnsNone r.origs slot →
    awaited_by d ≡ None → Owned r → Owned (record r { channels = with_held r.channels slot (Some d) })
rest_owned r slot c d there none rests h =
    fresh_owned r slot (Some d) (held_within r.channels slot c there) none (λ x is. ap awaited_by (sym (same_Some d x is)) ∙ rests) h

-- ---- whoever hangs up

-- owners wait, and those dial nothing that are to outlive a bridge
record Falling (hangs : ℕ → Bool) (t : Switch) : Type 0 where
  owned : Owned (roles_of t)
  dials : (slot : ℕ) → hangs slot ≡ false → DialsNone t slot

settles_falling : (hangs : ℕ → Bool) (slot : ℕ) (old new : Chan) (t : Switch) → chan_at t slot ≡ Some old → Settles hangs slot old new →
    Falling hangs t → Falling hangs (with_chan slot (Some new) t)
settles_falling hangs slot old new t there (Freed cause) k = record {
  owned = alike_owned (roles_of t) slot old (unbridged cause old) there refl refl refl k.owned;
  dials = λ at stays. dials_put t at slot old (unbridged cause old) there (λ none. none) (k.dials at stays);
}
settles_falling hangs slot old new t there (Resumes outlives live) k = record {
  owned = rest_owned (roles_of t) slot old (at_rest old) there
      (dials_owns (roles_of t) slot (λ c is lived. k.dials slot outlives c is) k.owned) (rest_dials old.socket old.state) k.owned;
  dials = λ at stays. dials_put t at slot old (at_rest old) there (λ none. rest_dials old.socket old.state) (k.dials at stays);
}
settles_falling hangs slot old new t there (Halts outlives live) k = record {
  owned = rest_owned (roles_of t) slot old (parked old) there
      (dials_owns (roles_of t) slot (λ c is lived. k.dials slot outlives c is) k.owned) (rest_dials old.socket CsPark) k.owned;
  dials = λ at stays. dials_put t at slot old (parked old) there (λ none. rest_dials old.socket CsPark) (k.dials at stays);
}

-- so it is behind a closure: those hang up that no survivor is one of, and each survivor dials nothing
module _ (hangs : ℕ → Bool) (e : Ends) (s : Switch) (all : (m : Member) → IsOneOf m e.members → hangs m.0 ≡ true)
    (none : (one : ℕ × After) → IsOneOf one e.survivors → hangs one.0 ≡ false)
    (dials : (one : ℕ × After) → IsOneOf one e.survivors → DialsNone s one.0) where
  -- whoever does not outlive a bridge
  abbrev falls : ℕ → Bool
  falls slot = not (tells e.survivors slot)

  members_fall : (m : Member) → IsOneOf m e.members → falls m.0 ≡ true
  members_fall m one = by (tells e.survivors m.0) refl
    where
      by : (test : Bool) → tells e.survivors m.0 ≡ test → not test ≡ true
      by false is = refl
      by true is =
          let told : IsToldAt e.survivors m.0 = told_at e.survivors m.0 is in
          absurd (true≢false (sym (all m one) ∙ (ap hangs (sym told.at) ∙ none told.told told.one)))

  outlives_dials : (slot : ℕ) → falls slot ≡ false → DialsNone s slot
  outlives_dials slot stays =
      let told : IsToldAt e.survivors slot = told_at e.survivors slot (not_true (tells e.survivors slot) stays) in
      subst (λ (at : ℕ). DialsNone s at) told.at (dials told.told told.one)

  pub closure_owned : Owned (roles_of s) → Owned (roles_of (after_closure e s))
  closure_owned h =
      (closure_kept_by falls (λ (t : Switch). Falling falls t) (λ event t k. record { owned = k.owned; dials = k.dials })
      (λ slot old new t there how k. settles_falling falls slot old new t there how k)
      (λ number t k. record { owned = k.owned; dials = k.dials })
      (λ cause slot t hung k. record {
        owned = one_hung_owned cause slot t k.owned;
        dials = λ at stays. hung_dials cause at slot t (k.dials at stays);
      }) e s members_fall (λ one is. ap not (tells_one e.survivors one is)) (record { owned = h; dials = outlives_dials })).owned

pub hung_owned : (named : Members) (s : Switch) → Bonds s → Owned (roles_of s) → Owned (roles_of (after_hangups named s))
unfolding after_hangups
hung_owned named s bonds h =
    closure_owned (λ at. hangs_up at named s) (closure_of (world_of s) (living_of s named)) s
    (λ m one. one_stands m (members_for named s) one) (λ one is. survivors_stay named s one is)
    (λ one is. survivors_dial_none named s one bonds is) h
