-- Each act tells of the bridges that begin and of those that end.
use Rattle.std.proofs.Common.{◌≡◌, ℕ, ◌+◌, true, List, [], ◌∷◌, ◌++◌, Option, None, Some, ◌⊎◌, inl, inr, refl, sym, ap, ◌∙◌, arith}
use Rattle.std.proofs.lemmas.Bool.{false≢true}
use Rattle.std.proofs.lemmas.Option.{same_Some}
use Rattle.std.specs.Prelude.{unwrap_or}
use Rattle.std.proofs.lemmas.List.Sums.{sum_by_push}
use Rattle.fs_bridge.specs.declared.row.BridgeKind.{BridgeKind}
use Rattle.fs_bridge.specs.declared.row.Row.{Row}
use Rattle.fs_bridge.specs.Bridges.{has_number, next_row}
use Rattle.fs_bridge.specs.Hangups.{IsOneOf}
use Rattle.fs_bridge.proofs.DragLemmas.{one_parts}
use Rattle.fs_bridge.proofs.RowLemmas.{one_if}
use Rattle.fs_orig.specs.declared.winner.Winner.{Winner}
use Rattle.fs_chan.specs.declared.chan.Chan.{Chan}
use Rattle.fs_chan.specs.Bridging.{bridged, in_media}
use Rattle.fs_text.specs.Texts.{Text}
use Rattle.fs_state.specs.declared.event.Detail.{Detail}
use Rattle.fs_state.specs.declared.event.Detail.TheVariants.{Bridge}
use Rattle.fs_state.specs.declared.event.Event.{Event}
use Rattle.fs_state.specs.Switch.{Switch, chan_at, with_bridge, with_next_identifier}
use Rattle.fs_state.specs.Bridging.{bridge_event, can_join, peer_of, with_peer_from, with_peer, joined_as}
use Rattle.fs_machine.specs.declared.call.Call.{Call}
use Rattle.fs_machine.specs.BridgeEvents.{begun, ended, shares_leg}
use Rattle.fs_machine.specs.Originations.{leg_end, far_end, named_end_made, end_made, pair_made, won_by, after_winning}
use Rattle.fs_machine.proofs.Kept.{Stage, Fact, KeptByBirths, raced, KeptByMoves}
use Rattle.fs_machine.proofs.CanLemmas.{joins_apart, caller_lone, answerer_lone}
use Rattle.fs_machine.proofs.FrontLemmas.{Front, front_of, KeptByRemains, calls_by_remains, dials_by_remains, moves_by_front}
use Rattle.fs_machine.proofs.BondRows.{joined_fit}
use Rattle.fs_machine.proofs.BridgeCounts.{Tidings, tidings_of, drawn_next, Tells, changed_tidings, begun_push, ended_push, bridge_begins}
use Rattle.fs_machine.proofs.BridgeCounts.{bridge_ends, named_push, behind_push, between_push, rows_push, told_tells, same_tells}
use Rattle.fs_machine.proofs.BridgeCounts.{moved_tells, hung_tells, bridges_left_tells, told_drawn, row_drawn, ended_between}

abbrev pub Telling : List Event → Fact
Telling past b s = Tells past s

-- ---- two are joined

peer_tidings : (slot other : ℕ) (s : Switch) → tidings_of (with_peer slot other s) ≡ tidings_of s
peer_tidings slot other s = by (chan_at s other)
  where
    by : (found : Option Chan) → tidings_of (with_peer_from slot other found s) ≡ tidings_of s
    by None = refl
    by (Some d) = changed_tidings (bridged (peer_of other d)) slot s

-- the bridge that an event tells to begin
abbrev told_of : Detail → Option Row
told_of (Bridge row) = Some row
told_of _ = None

row_told : (row other : Row) → Bridge row ≡ Bridge other → row ≡ other
row_told row other is = same_Some row other (ap told_of is)

joined_tells : (past : List Event) (kind : BridgeKind) (caller answerer : ℕ) (s : Switch) → can_join caller answerer s ≡ true →
    Tells past s → Tells past (joined_as kind caller answerer s)
joined_tells past kind caller answerer s can h =
    same_tells past (λ number. 0) v (joined_as kind caller answerer s)
    (ap (λ (now : Tidings). record { bridges = now.bridges; news = now.news ++ bridge_event row ∷ [] })
    (peer_tidings answerer caller (with_peer caller answerer t) ∙ peer_tidings caller answerer t))
    (record {
      rows = joined_fit caller answerer kind s.bridges (caller_lone caller answerer s can) (answerer_lone caller answerer s can)
          (joins_apart caller answerer s can) h.rows;
      named = named_push past s.news (bridge_event row) refl h.named;
      behind = behind_push past s.news (bridge_event row) (λ number is. absurd (false≢true (sym (bridge_ends number row) ∙ is))) h.behind;
      between = between_push past s.news (bridge_event row)
          (λ one other before between first at begin is shares.
          ended_between past s h one before between first at begin row (caller_lone caller answerer s can)
          (answerer_lone caller answerer s can) (ap (shares_leg one) (row_told row other is) ∙ shares)) h.between;
      rows_told = rows_push past s.news (bridge_event row) t.bridges (λ told other is there same. new_told told other is there same)
          (λ told other event one is there same. old_told told other event one is there same);
      begin = λ number.
          let all = h.begin number in
          let push = begun_push number s.news (bridge_event row)
          ∙ ap (λ b. begun number s.news + one_if b) (bridge_begins number row) in
          let next = drawn_next number s.bridges.drawn in
          omega (arith, all, push, next);
      end = λ number.
          let all = h.end number in
          let push = ended_push number s.news (bridge_event row)
          ∙ ap (λ b. ended number s.news + one_if b) (bridge_ends number row) in
          let next = drawn_next number s.bridges.drawn in
          let more = sum_by_push (λ (r : Row). one_if (has_number number r)) s.bridges.rows row in
          omega (arith, all, push, next, more);
    })
  where
    row : Row
    row = next_row caller answerer kind s.bridges

    t : Switch
    t = with_bridge caller answerer kind s

    -- no bridge had its number
    new_told : (told other : Row) → Bridge row ≡ Bridge told → IsOneOf other (s.bridges.rows ++ row ∷ []) → other.number ≡ told.number →
        other ≡ told
    new_told told other is there same = by (one_parts other s.bridges.rows (row ∷ []) there) (row_told row told is)
      where
        by : IsOneOf other s.bridges.rows ⊎ IsOneOf other (row ∷ []) → row ≡ told → other ≡ told
        by (inl old) is =
            let less = row_drawn past s h other old in
            let number : s.bridges.drawn + 1 ≡ told.number = ap (λ (r : Row). r.number) is in
            absurd (omega (arith, less, number, same))
        by (inr (inl last)) is = last ∙ is
        by (inr (inr none)) is = absurd none

    old_told : (told other : Row) (event : Event) → IsOneOf event (past ++ s.news) → event.detail ≡ Bridge told →
        IsOneOf other (s.bridges.rows ++ row ∷ []) → other.number ≡ told.number → other ≡ told
    old_told told other event one is there same = by (one_parts other s.bridges.rows (row ∷ []) there)
      where
        by : IsOneOf other s.bridges.rows ⊎ IsOneOf other (row ∷ []) → other ≡ told
        by (inl old) = h.rows_told told other event one is old same
        by (inr (inl last)) =
            let less = told_drawn past s h told event one is in
            let number : other.number ≡ s.bridges.drawn + 1 = ap (λ (r : Row). r.number) last in
            absurd (omega (arith, less, number, same))
        by (inr (inr none)) = absurd none

    v : Switch
    v = record t { news = s.news ++ bridge_event row ∷ [] }

-- ---- channels are born

pair_tidings : (uuid : Option Text) (call : Call) (orig a b : ℕ) (s : Switch) →
    tidings_of (end_made call (far_end a b) (named_end_made uuid call (leg_end orig a b) s)) ≡ tidings_of s
pair_tidings None call orig a b s = refl
pair_tidings (Some uuid) call orig a b s = refl

-- ---- every move

module _ (past : List Event) where
  front_tells : (b : Stage) (t u : Switch) → Tells past t → front_of u ≡ front_of t → Tells past u
  front_tells b t u h same =
      same_tells past (λ number. 0) t u (ap (λ (f : Front). record { bridges = f.bridges; news = f.news }) same) h

  remains_tell : KeptByRemains (Telling past)
  remains_tell = record {
    told = λ event {s = s} plain h. told_tells past (λ number. 0) event s plain h;
    globals = λ globals h. h;
    joins = λ kind caller answerer {s = s} can h. joined_tells past kind caller answerer s can h;
    leaves = λ slots {s = s} h. bridges_left_tells past slots s h;
    remains = λ slot old new there remains holder h. h;
    hung = λ named {s = s} h. hung_tells past named s h;
    more = λ h. h;
    gone = λ slot old there dead h. h;
  }

  births_tell : KeptByBirths (Telling past)
  births_tell = record {
    spent = λ h. h;
    pair = λ call orig a b {s = s} short named first second h.
        same_tells past (λ number. 0) s (pair_made call orig a b s) (pair_tidings call.uuid call orig a b s) h;
  }

  won_tells : (winner : Winner) (slot : ℕ) (s : Switch) → Tells past s → Tells past (after_winning winner slot s)
  unfolding after_winning
  won_tells winner slot s h = moved_tells past (λ number. 0) (won_by winner) slot s h

  pub telling_moves : (before : Switch) → KeptByMoves before (Telling past)
  telling_moves before =
      moves_by_front before (Telling past) front_tells
      (calls_by_remains before (Telling past) (λ b t u h e conns. front_tells b t u h e) remains_tell births_tell
      (λ slot u lively h. moved_tells past (λ number. 0) in_media slot u h))
      births_tell
      (dials_by_remains before (Telling past) (λ b t u h e conns. front_tells b t u h e) remains_tell births_tell
      (λ slot u lively h. moved_tells past (λ number. 0) in_media slot u h))
      (λ job who winner caller orig leg slots does won h. won_tells winner (unwrap_or leg.slot 0) (raced slots before) h)
      (λ s h. same_tells past (λ number. 0) s (with_next_identifier s) refl h) (λ slot conn c text s there waits h. h)
