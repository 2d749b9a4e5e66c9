-- An entry joins one bridge at most.
use Rattle.std.proofs.Common.{◌≡◌, ℕ, ◌+◌, ◌≤◌, map, None, Some, unwrap_or, refl, ap, ◌∙◌, arith}
use Rattle.fs_text.specs.declared.causes.Cause.TheVariants.{LoseRace}
use Rattle.fs_bridge.specs.declared.row.BridgeKind.{BridgeKind}
use Rattle.fs_bridge.specs.declared.row.BridgeKind.TheVariants.{Dial}
use Rattle.fs_chan.specs.Bridging.{in_media}
use Rattle.fs_chan.specs.Controlling.{held_by}
use Rattle.fs_orig.specs.Changes.{with_answer}
use Rattle.fs_state.specs.Switch.{Switch, with_chan, without_orig, next_orig_number, with_event, with_next_identifier}
use Rattle.fs_state.specs.Moves.{after_move, orig_changed, leg_changed}
use Rattle.fs_state.specs.Hangups.{after_hangups}
use Rattle.fs_state.specs.Bridging.{joined_as}
use Rattle.fs_machine.specs.declared.entry.Act.{Act}
use Rattle.fs_machine.specs.Bridging.{group_dialed, after_bridge_win, after_bridge_failure}
use Rattle.fs_machine.specs.Dialing.{tried_by_slot}
use Rattle.fs_machine.specs.Joining.{after_departures}
use Rattle.fs_machine.specs.Originations.{pair_made, group_made, after_winning}
use Rattle.fs_machine.specs.Attempts.{first_group, with_group}
use Rattle.fs_machine.specs.Step.{act_done}
use Rattle.fs_machine.proofs.ActWalk.{acted_kept}
use Rattle.fs_machine.proofs.DrawnLemmas.{SameDrawn, orig_changed_drawn, moved_drawn, hung_drawn, departed_drawn, won_drawn}
use Rattle.fs_machine.proofs.DrawnLemmas.{joined_drawn, drawn_touches, failure_drawn, pair_drawn, regrouped_drawn, dialed_drawn}
use Rattle.fs_machine.proofs.FrontLemmas.{Front, moves_by_front}
use Rattle.fs_machine.proofs.Kept.{Stage, Fact, KeptByTouches, KeptByCalls, KeptByBirths, KeptByDials, KeptByMoves, raced}
use Rattle.fs_machine.proofs.WonLemmas.{bridge_won_kept}

-- as many numbers of bridges were drawn as when an entry began, until something has begun in it, and then one more at most
abbrev Counting : Switch → Fact
Counting before None s = SameDrawn before s
Counting before (Some n) s = s.bridges.drawn ≤ before.bridges.drawn + 1

module _ (before : Switch) where
  counts_same : (b : Stage) (s t : Switch) → Counting before b s → SameDrawn s t → Counting before b t
  counts_same None s t h same = same ∙ h
  counts_same (Some n) s t h same =
      let most : s.bridges.drawn ≤ before.bridges.drawn + 1 = h in
      let as_many : t.bridges.drawn ≡ s.bridges.drawn = same in
      omega (arith, most, as_many)

  spent_counts : (s t : Switch) → SameDrawn before s → SameDrawn s t → Counting before (Some 0) t
  spent_counts s t first same =
      let as_many : t.bridges.drawn ≡ before.bridges.drawn = same ∙ first in
      omega (arith, as_many)

  touches : KeptByTouches (Counting before)
  touches = record {
    told = λ event {b = b} {s = s} plain h. counts_same b s (with_event event s) h refl;
    globals = λ globals {b = b} {s = s} h. counts_same b s (record s { globals = globals }) h refl;
    changed = λ slot old new {b = b} {s = s} there stays h. counts_same b s (with_chan slot (Some new) s) h refl;
    answers = λ seat slot number {b = b} {s = s} h.
        counts_same b s (orig_changed (leg_changed (λ position. with_answer position seat) slot) number s) h
        (orig_changed_drawn (leg_changed (λ position. with_answer position seat) slot) number s);
  }

  -- two are joined, where none were before in the entry
  joined_counts : (kind : BridgeKind) (caller answerer n : ℕ) (s : Switch) → SameDrawn before s →
      Counting before (Some n) (joined_as kind caller answerer s)
  joined_counts kind caller answerer n s same =
      let one : (joined_as kind caller answerer s).bridges.drawn ≡ s.bridges.drawn + 1 = joined_drawn kind caller answerer s in
      let as_many : s.bridges.drawn ≡ before.bridges.drawn = same in
      omega (arith, one, as_many)

  calls : KeptByCalls (Counting before)
  calls = record {
    touches = touches;
    hung = λ named {s = s} early h. counts_same (Some 0) s (after_hangups named s) h (hung_drawn named s);
    joined = λ kind caller answerer c d {s = s} can there other one two first second was h.
        joined_counts kind caller answerer 0 s (was.drawn ∙ was.first);
    departs = λ slots {s = s} early h. counts_same (Some 0) s (after_departures slots s) h (departed_drawn slots s);
    more = λ h. h;
    gone = λ slot old {s = s} there dead early h. counts_same (Some 1) s (with_chan slot None s) h refl;
  }

  births : KeptByBirths (Counting before)
  births = record {
    spent = λ {s = s} h. spent_counts s s h refl;
    pair = λ call orig a b {s = s} short named first second h.
        counts_same (Some 0) s (pair_made call orig a b s) h (pair_drawn call orig a b s);
  }

  -- a leg that has won is joined to the channel that dialed it
  won_counts : (slot leg : ℕ) (s : Switch) → SameDrawn before s → Counting before (Some 0) (after_bridge_win slot leg s)
  won_counts slot leg s same =
      bridge_won_kept (λ (t : Switch). SameDrawn before t) (λ (t : Switch). Counting before (Some 0) t) (drawn_touches before) slot leg
      (λ t can h. counts_same (Some 0) (joined_as Dial slot leg t) (after_move in_media leg (joined_as Dial slot leg t))
      (joined_counts Dial slot leg 0 t h) (moved_drawn in_media leg (joined_as Dial slot leg t)))
      (λ t cannot h. spent_counts t t h refl) s same

  dials : KeptByDials before (Counting before)
  dials = record {
    spent = λ {s = s} h. spent_counts s s h refl;
    dials = λ slot c groups timeout {s = s} there works are h.
        let number : ℕ = next_orig_number s in
        spent_counts s (tried_by_slot slot groups timeout number (group_dialed (Some c) (first_group groups) number s)) h
        (dialed_drawn slot c groups timeout s);
    regroups = λ number o plans caller {s = s} there next h.
        counts_same (Some 0) s (with_group number (group_made plans caller number s)) h (regrouped_drawn number plans caller s);
    fails = λ slot orig cause {s = s} waits over h.
        counts_same (Some 0) s (after_bridge_failure cause slot (without_orig orig s)) h (failure_drawn cause slot (without_orig orig s));
    wins = λ slot orig leg slots waits won h.
        won_counts slot (unwrap_or leg.slot 0) (without_orig orig (raced slots before))
        (hung_drawn (map (λ loser. (loser, LoseRace)) slots) before);
  }

  counting_moves : KeptByMoves before (Counting before)
  counting_moves =
      moves_by_front before (Counting before) (λ b s t h same. counts_same b s t h (ap (λ (f : Front). f.bridges.drawn) same)) calls births
      dials
      (λ job who winner caller orig leg slots does won h.
      counts_same (Some 0) (raced slots before) (after_winning winner (unwrap_or leg.slot 0) (raced slots before)) h
      (won_drawn winner (unwrap_or leg.slot 0) (raced slots before)))
      (λ s h. spent_counts s (with_next_identifier s) h refl)
      (λ slot conn c text s there waits h. counts_same (Some 0) s (with_chan slot (Some (held_by conn c)) s) h refl)

  -- so an act joins no more than one
  pub acted_joins : (act : Act) → (act_done act before).state.bridges.drawn ≤ before.bridges.drawn + 1
  acted_joins act = acted_kept before (Counting before) counting_moves act (λ loads config t h. h) refl
