-- The walk through a bridge that is won: a leg is joined to the channel that dialed it, where they can be joined.
use Rattle.std.proofs.Common.{◌≡◌, ℕ, Bool, true, false, if◌then◌else◌, Option, None, Some, refl, sym, ap, ◌∙◌}
use Rattle.std.proofs.Common.{true≢false}
use Rattle.std.specs.Prelude.{codes}
use Rattle.fs_bridge.specs.declared.row.BridgeKind.TheVariants.{Dial}
use Rattle.fs_chan.specs.Bridging.{in_media}
use Rattle.fs_orig.specs.declared.orig.Orig.{Orig}
use Rattle.fs_orig.specs.Changes.{with_answer}
use Rattle.fs_seats.proofs.RowLemmas.{held_put}
use Rattle.fs_state.specs.Switch.{Switch, with_chan, orig_of}
use Rattle.fs_state.specs.Moves.{after_move, after_answer, orig_changed_from, leg_changed}
use Rattle.fs_state.specs.Hangups.{lives, lives_at}
use Rattle.fs_state.specs.Bridging.{can_join, joined_as}
use Rattle.fs_machine.specs.Bridging.{after_win_told, joined_to_leg, after_bridge_win}
use Rattle.fs_machine.proofs.CanLemmas.{joins_apart, caller_lone, answerer_lone, caller_lives, answerer_lives, number_left, can_join_by}
use Rattle.fs_machine.proofs.Kept.{KeptByTouches}
use Rattle.fs_machine.proofs.Walk.{answered_kept, disposed_kept}

-- whatever leaves a channel what it is to others leaves them so
pub can_join_touches : (caller answerer : ℕ) → KeptByTouches (λ b s. can_join caller answerer s ≡ true)
can_join_touches caller answerer = record {
  told = λ event plain h. h;
  globals = λ globals h. h;
  changed = λ slot old new {s = s} there stays h.
      let same : (seat : ℕ) → lives_at (with_chan slot (Some new) s) seat ≡ lives_at s seat =
      held_put lives s.channels slot (Some new) (ap lives there ∙ sym stays.keeps.live) in
      can_join_by caller answerer (with_chan slot (Some new) s) (joins_apart caller answerer s h)
      (same caller ∙ caller_lives caller answerer s h) (same answerer ∙ answerer_lives caller answerer s h)
      (caller_lone caller answerer s h) (answerer_lone caller answerer s h) (number_left caller answerer s h);
  answers = λ seat slot number {s = s} h. by seat slot number s h (orig_of s number);
}
  where
    by : (seat slot number : ℕ) (s : Switch) → can_join caller answerer s ≡ true → (found : Option Orig) →
        can_join caller answerer (orig_changed_from (leg_changed (λ position. with_answer position seat) slot) number found s) ≡ true
    by seat slot number s h None = h
    by seat slot number s h (Some o) = h

-- so it is answered, and told of its win
pub win_told_kept : (before : Switch → Type 0) → KeptByTouches (λ b s. before s) → (slot : ℕ) (s : Switch) → before s →
    before (after_win_told slot s)
win_told_kept before touches slot s h =
    disposed_kept (λ b t. before t) touches (codes "SUCCESS") slot {b = None} {s = after_answer slot s}
    (answered_kept (λ b t. before t) touches slot {b = None} {s = s} h)

-- what is a fact before it is answered gives what is a fact behind the bridge, and where they cannot be joined
module _ (before : Switch → Type 0) (after : Switch → Type 0) (touches : KeptByTouches (λ b s. before s)) (slot leg : ℕ)
    (joins : (s : Switch) → can_join slot leg s ≡ true → before s → after (after_move in_media leg (joined_as Dial slot leg s)))
    (stays : (s : Switch) → can_join slot leg s ≡ false → before s → after s) where
  joined_kept : (s : Switch) → before s → after (joined_to_leg slot leg s)
  joined_kept s h = by (can_join slot leg s) refl
    where
      by : (test : Bool) → can_join slot leg s ≡ test →
          after (if test then after_move in_media leg (joined_as Dial slot leg s) else s)
      by true can = joins s can h
      by false cannot = stays s cannot h

  pub bridge_won_kept : (s : Switch) → before s → after (after_bridge_win slot leg s)
  unfolding after_bridge_win
  bridge_won_kept s h = joined_kept (after_win_told slot s) (win_told_kept before touches slot s h)

-- where they can be joined, a fact need not bear the rest
module _ (before : Switch → Type 0) (after : Switch → Type 0) (touches : KeptByTouches (λ b s. before s)) (slot leg : ℕ)
    (joins : (s : Switch) → can_join slot leg s ≡ true → before s → after (after_move in_media leg (joined_as Dial slot leg s))) where
  joinable_touches : KeptByTouches (λ b s. (can_join slot leg s ≡ true) × before s)
  joinable_touches = record {
    told = λ event {b = b} {s = s} plain h.
        ((can_join_touches slot leg).told event {b = b} {s = s} plain h.0, touches.told event {b = b} {s = s} plain h.1);
    globals = λ globals {b = b} {s = s} h.
        ((can_join_touches slot leg).globals globals {b = b} {s = s} h.0, touches.globals globals {b = b} {s = s} h.1);
    changed = λ seat old new {b = b} {s = s} there stays h. (
      (can_join_touches slot leg).changed seat old new {b = b} {s = s} there stays h.0,
      touches.changed seat old new {b = b} {s = s} there stays h.1,
    );
    answers = λ seat at number {b = b} {s = s} h. (
      (can_join_touches slot leg).answers seat at number {b = b} {s = s} h.0,
      touches.answers seat at number {b = b} {s = s} h.1,
    );
  }

  pub joinable_won_kept : (s : Switch) → can_join slot leg s ≡ true → before s → after (after_bridge_win slot leg s)
  joinable_won_kept s can h =
      bridge_won_kept (λ (t : Switch). (can_join slot leg t ≡ true) × before t) after joinable_touches slot leg
      (λ t is k. joins t is k.1) (λ t cannot k. absurd (true≢false (sym k.0 ∙ cannot))) s (can, h)
