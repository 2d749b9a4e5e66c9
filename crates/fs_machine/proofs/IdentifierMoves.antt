-- Each act draws no more identifiers than it fills slots, but for those that it frees and one that it draws for no slot, and each
-- identifier stands in one slot.
use Rattle.std.proofs.Common.{◌≡◌, ℕ, ◌+◌, ◌<◌, Bool, false, List, length, Option, None, Some, unwrap_or, refl, sym, ap, subst, ◌∙◌, arith}
use Rattle.std.proofs.Common.{length-set}
use Rattle.fs_text.specs.Texts.{Text}
use Rattle.fs_bridge.specs.Closure.{Members}
use Rattle.fs_chan.specs.declared.chan.Chan.{Chan}
use Rattle.fs_chan.specs.Bridging.{unbridged, in_media}
use Rattle.fs_chan.specs.Changes.{at_rest, parked, hung_up}
use Rattle.fs_chan.specs.Controlling.{held_by}
use Rattle.fs_orig.specs.declared.winner.Winner.{Winner}
use Rattle.fs_orig.specs.declared.winner.Winner.TheVariants.{App, Route}
use Rattle.fs_seats.specs.Seats.{held_in}
use Rattle.fs_seats.proofs.HeldLemmas.{IsFree, held_there}
use Rattle.fs_state.specs.Switch.{Switch, chan_at, with_chan, with_next_identifier, identifier_of}
use Rattle.fs_state.specs.Moves.{after_move_from, after_move, orig_changed}
use Rattle.fs_state.specs.Hangups.{after_hangups}
use Rattle.fs_state.specs.Leaving.{after_bridges_left}
use Rattle.fs_machine.specs.declared.call.Call.{Call}
use Rattle.fs_machine.specs.declared.originations.End.{End}
use Rattle.fs_machine.specs.Originations.{end_of, end_made, named_end_made, leg_end, far_end, pair_made, is_misnamed, won_by, after_winning}
use Rattle.fs_machine.proofs.Kept.{Stage, Fact, KeptByBirths, raced, KeptByMoves}
use Rattle.fs_machine.proofs.StayLemmas.{state_told_kept, moved_there}
use Rattle.fs_machine.proofs.ClosureLemmas.{hangs_up}
use Rattle.fs_machine.proofs.HangLemmas.{dies, Falls, Cut, Unbridged, Rests, Parks, hangups_kept, bridges_left_kept, hangs_as_left}
use Rattle.fs_machine.proofs.FrontLemmas.{Front, front_of, orig_changed_front, KeptByRemains, joins_by_remains, calls_by_remains}
use Rattle.fs_machine.proofs.FrontLemmas.{dials_by_remains, moves_by_front}
use Rattle.fs_machine.proofs.SeenLemmas.{Seen, seen, put, Numbers, numbers_then, numbers_quietly, numbers_more, numbers_same, numbers_gone}
use Rattle.fs_machine.proofs.SeenLemmas.{numbers_new, numbers_named, numbers_drawn}
use Rattle.fs_machine.proofs.NameLemmas.{name_foreign, name_unheld, leg_chan, with_leg, leg_channels}

abbrev pub freed_by : Stage → ℕ
freed_by None = 0
freed_by (Some n) = n

-- so many slots at most were freed since that are not filled again, and identifiers drawn for none
abbrev pub NumbersFrom : Seen → Fact
NumbersFrom x b t = Numbers (freed_by b) x (seen t)

-- one end of a pair is made under the next identifier
end_numbers : (call : Call) (end : End) (s : Switch) → end.slot < length s.channels → chan_at s end.slot ≡ None →
    Numbers 0 (seen s) (seen (end_made call end s))
end_numbers call end s within free =
    numbers_new (seen s) end.slot (end_of call end (identifier_of (with_next_identifier s))) within free refl

-- the other, under one of its own that is free
leg_numbers : (uuid : Option Text) (call : Call) (end : End) (s : Switch) → end.slot < length s.channels → chan_at s end.slot ≡ None →
    is_misnamed uuid s ≡ false → Numbers 0 (seen s) (seen (named_end_made uuid call end s))
leg_numbers None call end s within free named = end_numbers call end s within free
leg_numbers (Some uuid) call end s within free named =
    numbers_named (seen s) end.slot (end_of call end uuid) within free (name_foreign uuid s named) (name_unheld uuid s named)

pair_numbers : (call : Call) (orig a b : ℕ) (s : Switch) → is_misnamed call.uuid s ≡ false → IsFree Chan s.channels 1 a →
    IsFree Chan s.channels (a + 1) b →
    Numbers 0 (seen s) (seen (pair_made call orig a b s))
pair_numbers call orig a b s named free_a free_b =
    let t : Switch = with_leg call orig a b s in
    let u : Switch = end_made call (far_end a b) t in
    let leg : Chan = leg_chan call orig a b s in
    let still : chan_at t b ≡ None =
    ap (λ (channels : List (Option Chan)). held_in channels b) (leg_channels call orig a b s)
    ∙ held_there s.channels a b (Some leg) (λ same. omega (arith, free_b.behind, same))
    ∙ free_b.free in
    let slots : length t.channels ≡ length s.channels = ap length (leg_channels call orig a b s) ∙ length-set s.channels a (Some leg) in
    numbers_quietly 0 (seen s) (seen t) (seen u) (leg_numbers call.uuid call (leg_end orig a b) s free_a.within free_a.free named)
    (end_numbers call (far_end a b) t (subst (λ n. b < n) (sym slots) free_b.within) still)

module _ (x : Seen) where
  put_numbers : (more slot : ℕ) (old new : Chan) (s : Switch) → chan_at s slot ≡ Some old → new.uuid ≡ old.uuid → Numbers more x (seen s) →
      Numbers more x (seen (with_chan slot (Some new) s))
  put_numbers more slot old new s there same h =
      numbers_quietly more x (seen s) (put slot (Some new) (seen s)) h (numbers_same (seen s) slot old new there same)

  front_numbers : (more : ℕ) (t u : Switch) → front_of u ≡ front_of t → Numbers more x (seen t) → Numbers more x (seen u)
  front_numbers more t u same h = subst (λ (f : Front). Numbers more x (seen_in f)) (sym same) h
    where
      seen_in : Front → Seen
      seen_in f = record { channels = f.channels; identifiers = f.identifiers; settings = f.settings }

  falls_numbers : (hangs : ℕ → Bool) (more slot : ℕ) (old new : Chan) (s : Switch) → chan_at s slot ≡ Some old →
      Falls hangs slot old new → Numbers more x (seen s) → Numbers more x (seen (with_chan slot (Some new) s))
  falls_numbers hangs more slot old new s there (Cut cause hung) h = put_numbers more slot old (hung_up cause old) s there refl h
  falls_numbers hangs more slot old new s there (Unbridged cause) h = put_numbers more slot old (unbridged cause old) s there refl h
  falls_numbers hangs more slot old new s there (Rests outlives live) h = put_numbers more slot old (at_rest old) s there refl h
  falls_numbers hangs more slot old new s there (Parks outlives live) h = put_numbers more slot old (parked old) s there refl h

  hung_numbers : (more : ℕ) (named : Members) (s : Switch) → Numbers more x (seen s) → Numbers more x (seen (after_hangups named s))
  hung_numbers more named s h =
      hangups_kept named s (λ (t : Switch). Numbers more x (seen t)) (λ event t k. k)
      (λ seat old new t there falls k. falls_numbers (λ at. hangs_up at named s) more seat old new t there falls k) (λ number t k. k)
      (λ cause seat leg number t k. front_numbers more t (orig_changed (dies cause seat leg) number t)
      (orig_changed_front (dies cause seat leg) number t) k)
      (λ number t k. k) h

  bridges_left_numbers : (more : ℕ) (slots : List ℕ) (s : Switch) → Numbers more x (seen s) →
      Numbers more x (seen (after_bridges_left slots s))
  bridges_left_numbers more slots s h =
      bridges_left_kept slots s (λ (t : Switch). Numbers more x (seen t)) (λ event t k. k)
      (λ seat old new t there falls k. falls_numbers (hangs_as_left slots s) more seat old new t there falls k) (λ number t k. k)
      (λ cause seat leg number t k. front_numbers more t (orig_changed (dies cause seat leg) number t)
      (orig_changed_front (dies cause seat leg) number t) k)
      (λ number t k. k) h

  won_numbers : (winner : Winner) (slot : ℕ) (s : Switch) → Numbers 0 x (seen s) → Numbers 0 x (seen (after_winning winner slot s))
  unfolding after_winning
  won_numbers winner slot s h = by (chan_at s slot) refl
    where
      same_uuid : (what : Winner) (c : Chan) → (won_by what c).uuid ≡ c.uuid
      same_uuid (App application argument) c = refl
      same_uuid (Route to) c = refl

      by : (found : Option Chan) → chan_at s slot ≡ found → Numbers 0 x (seen (after_move_from (won_by winner) slot found s))
      by None is = h
      by (Some c) is =
          state_told_kept (λ (t : Switch). Numbers 0 x (seen t)) (λ event t k. k) c.state
          (won_by winner c).state slot {s = with_chan slot (Some (won_by winner c)) s}
          (put_numbers 0 slot c (won_by winner c) s is (same_uuid winner c) h)

  media_numbers : (slot : ℕ) (s : Switch) → Numbers 0 x (seen s) → Numbers 0 x (seen (after_move in_media slot s))
  media_numbers slot s h =
      moved_there (λ (t : Switch). Numbers 0 x (seen t)) (λ event t k. k) in_media slot s
      (λ c there. put_numbers 0 slot c (in_media c) s there refl h) h

  same_numbers : (b : Stage) (t u : Switch) → Numbers (freed_by b) x (seen t) → front_of u ≡ front_of t → Numbers (freed_by b) x (seen u)
  same_numbers b t u h same = front_numbers (freed_by b) t u same h

  remains_numbers : KeptByRemains (NumbersFrom x)
  remains_numbers = record {
    told = λ event plain h. h;
    globals = λ globals h. h;
    joins = λ kind caller answerer {b = b} {s = s} can h.
        joins_by_remains (NumbersFrom x) (λ event b t k. k) (λ rows b t k. k)
        (λ slot old new b t there remains holder k. put_numbers (freed_by b) slot old new t there remains.uuid k)
        kind caller answerer b s h;
    remains = λ slot old new {b = b} {s = s} there remains holder h. put_numbers (freed_by b) slot old new s there remains.uuid h;
    hung = λ named {b = b} {s = s} h. hung_numbers (freed_by b) named s h;
    leaves = λ slots {b = b} {s = s} h. bridges_left_numbers (freed_by b) slots s h;
    more = λ {s = s} h. numbers_more x (seen s) h;
    gone = λ slot old {s = s} there dead h. numbers_then x (seen s) (put slot None (seen s)) h (numbers_gone (seen s) slot old there);
  }

  births_numbers : KeptByBirths (NumbersFrom x)
  births_numbers = record {
    spent = λ h. h;
    pair = λ call orig a b {s = s} short named first second h.
        numbers_quietly 0 x (seen s) (seen (pair_made call orig a b s)) h (pair_numbers call orig a b s named first second);
  }

  pub numbers_moves : (before : Switch) → KeptByMoves before (NumbersFrom x)
  numbers_moves before =
      moves_by_front before (NumbersFrom x) same_numbers
      (calls_by_remains before (NumbersFrom x) (λ b t u h e conns. same_numbers b t u h e) remains_numbers births_numbers
      (λ at u live h. media_numbers at u h))
      births_numbers
      (dials_by_remains before (NumbersFrom x) (λ b t u h e conns. same_numbers b t u h e) remains_numbers births_numbers
      (λ at u live h. media_numbers at u h))
      (λ job who winner caller orig leg slots does won h. won_numbers winner (unwrap_or leg.slot 0) (raced slots before) h)
      (λ s h. numbers_drawn x (seen s) h)
      (λ slot conn c text s there waits h. put_numbers 0 slot c (held_by conn c) s there refl h)
