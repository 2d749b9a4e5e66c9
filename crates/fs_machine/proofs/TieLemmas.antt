-- Channels that name each other in pairs.
use Rattle.std.proofs.Common.{◌≡◌, ℕ, ◌<◌, Bool, true, false, cond, List, length, Option, None, Some, option_and_then, ◌⊎◌, inl}
use Rattle.std.proofs.Common.{inr, refl, sym, ap, subst, ◌∙◌, length-set}
use Rattle.fs_text.specs.declared.states.State.TheVariants.{CsHangup}
use Rattle.fs_text.specs.declared.causes.Cause.{Cause}
use Rattle.fs_chan.specs.declared.chan.Chan.{Chan}
use Rattle.fs_chan.specs.Bridging.{awaited_by}
use Rattle.fs_chan.specs.Changes.{is_live, hung_up}
use Rattle.fs_orig.specs.Changes.{with_death}
use Rattle.fs_seats.specs.Seats.{held_in, with_held}
use Rattle.fs_seats.proofs.HeldLemmas.{held_here, held_there, held_within, at_each}
use Rattle.fs_state.specs.Switch.{Switch, chan_at, with_chan, with_event}
use Rattle.fs_state.specs.Hangups.{lives}
use Rattle.fs_state.specs.Moves.{with_state_events, its_leg_changed, hangup_event, orig_given_up, after_hangup_from, after_one_hangup}
use Rattle.fs_machine.proofs.PartnerLemmas.{Agree, lone, agree_kept, joined}
use Rattle.fs_machine.proofs.StayLemmas.{state_told_kept, its_leg_channels}
use Rattle.fs_machine.proofs.HangLemmas.{given_up_kept}

abbrev pub lives_as : Option Chan → Bool
lives_as found = lives found

abbrev pub lives_in : List (Option Chan) → ℕ → Bool
lives_in channels slot = lives_as (held_in channels slot)

-- two things were written into seats
record Wrote {T : Type 0} (seats new : List (Option T)) (a b : ℕ) (first second : Option T) : Type 0 where
  at_a : held_in new a ≡ first
  at_b : held_in new b ≡ second
  elsewhere : (q : ℕ) → (q ≡ a → ⊥) → (q ≡ b → ⊥) → held_in new q ≡ held_in seats q

wrote : {T : Type 0} → (seats : List (Option T)) (a b : ℕ) (first second : Option T) → (a ≡ b → ⊥) → a < length seats →
    b < length seats →
    Wrote seats (with_held (with_held seats a first) b second) a b first second
wrote seats a b first second apart within_a within_b = record {
  at_a = held_there (with_held seats a first) b a second apart ∙ held_here seats a first within_a;
  at_b = held_here (with_held seats a first) b second (subst (λ n. b < n) (sym (length-set seats a first)) within_b);
  elsewhere = λ q not_a not_b. held_there (with_held seats a first) b q second not_b ∙ held_there seats a q first not_a;
}

-- ---- what a hangup makes of the channels

-- nothing, where none lives in the slot
abbrev pub HungAs : Cause → ℕ → Switch → List (Option Chan) → Type 0
HungAs cause slot s new =
    ((lives_in s.channels slot ≡ false) × (new ≡ s.channels)) ⊎ ((c : Chan) × (chan_at s slot ≡ Some c) × (new ≡ with_held s.channels slot
    (Some (hung_up cause c))))

given_up_channels : (slot : ℕ) (awaited : Option ℕ) (s : Switch) → (orig_given_up slot awaited s).channels ≡ s.channels
given_up_channels slot awaited s = given_up_kept (λ (t : Switch). t.channels ≡ s.channels) (λ number t h. h) slot awaited s refl

pub hung_by : (cause : Cause) (slot : ℕ) (s : Switch) → HungAs cause slot s (after_one_hangup cause slot s).channels
hung_by cause slot s = by (chan_at s slot) refl
  where
    of : (c : Chan) → chan_at s slot ≡ Some c → (b : Bool) → is_live c ≡ b →
        HungAs cause slot s
        (cond b (orig_given_up slot (awaited_by c) (its_leg_changed (λ position. with_death position s.entries cause) slot c.leg_of
        (with_state_events c.state CsHangup slot (with_event (hangup_event cause slot) (with_chan slot (Some (hung_up cause c)) s)))))
        s).channels
    of c is true live =
        let cut : Switch = with_event (hangup_event cause slot) (with_chan slot (Some (hung_up cause c)) s) in
        let told : Switch = with_state_events c.state CsHangup slot cut in
        inr
        ((
          c,
          is,
          given_up_channels slot (awaited_by c)
              (its_leg_changed (λ position. with_death position s.entries cause) slot c.leg_of told)
              ∙ its_leg_channels (λ position. with_death position s.entries cause) slot c.leg_of told
              ∙ state_told_kept (λ (t : Switch). t.channels ≡ with_held s.channels slot (Some (hung_up cause c)))
              (λ event t h. h) c.state CsHangup slot {s = cut} refl,
        ))
    of c is false dead = inl ((ap lives_as is ∙ dead, refl))

    by : (found : Option Chan) → chan_at s slot ≡ found → HungAs cause slot s (after_hangup_from cause slot found s).channels
    by None is = inl ((ap lives_as is, refl))
    by (Some c) is = of c is (is_live c) refl

-- ---- names

module _ (names : Chan → Option ℕ) where
  abbrev pub named_in : List (Option Chan) → ℕ → Option ℕ
  named_in channels slot = option_and_then names (held_in channels slot)

  -- who names another lives, and is named back
  abbrev pub Ties : List (Option Chan) → Type 0
  Ties channels = Agree (named_in channels) (lives_in channels)

  -- something stands in a slot that names the same, and lives if what stood there lived
  pub ties_put : (channels : List (Option Chan)) (slot : ℕ) (new : Option Chan) → slot < length channels →
      option_and_then names new ≡ named_in channels slot →
      (lives_in channels slot ≡ true → lives_as new ≡ true) → Ties channels → Ties (with_held channels slot new)
  ties_put channels slot new within same live =
      agree_kept (named_in channels) (named_in (with_held channels slot new)) (lives_in channels) (lives_in (with_held channels slot new))
      (at_each channels slot new (λ a b. option_and_then names b ≡ option_and_then names a) within same (λ a. refl))
      (at_each channels slot new (λ a b. lives_as a ≡ true → lives_as b ≡ true) within live (λ a e. e))

  -- a channel that does not live is gone
  pub ties_gone : (channels : List (Option Chan)) (slot : ℕ) (old : Chan) → held_in channels slot ≡ Some old → is_live old ≡ false →
      Ties channels → Ties (with_held channels slot None)
  ties_gone channels slot old there dead h =
      let lifeless : lives_in channels slot ≡ false = ap lives_as there ∙ dead in
      ties_put channels slot None (held_within channels slot old there)
      (sym (lone (named_in channels) (lives_in channels) slot h.live lifeless))
      (λ e. sym lifeless ∙ e) h

  -- two that named none name each other
  pub ties_joined : (channels : List (Option Chan)) (a b : ℕ) (first second : Chan) → (a ≡ b → ⊥) → a < length channels →
      b < length channels →
      named_in channels a ≡ None → named_in channels b ≡ None → names first ≡ Some b → names second ≡ Some a → is_live first ≡ true →
      is_live second ≡ true →
      Ties channels → Ties (with_held (with_held channels a (Some first)) b (Some second))
  ties_joined channels a b first second apart within_a within_b none_a none_b names_a names_b live_a live_b =
      let new : List (Option Chan) = with_held (with_held channels a (Some first)) b (Some second) in
      let w : Wrote channels new a b (Some first) (Some second) = wrote channels a b (Some first) (Some second) apart within_a within_b in
      joined a b (named_in channels) (named_in new) (lives_in channels) (lives_in new) none_a none_b
      (ap (option_and_then names) w.at_a ∙ names_a) (ap (option_and_then names) w.at_b ∙ names_b) (ap lives_as w.at_a ∙ live_a)
      (ap lives_as w.at_b ∙ live_b)
      (λ q not_a not_b. ap (option_and_then names) (w.elsewhere q not_a not_b)) (λ q not_a not_b. ap lives_as (w.elsewhere q not_a not_b))
