-- The rows of bridges agree with the channels, as the definition has it.
use Rattle.std.proofs.Common.{◌≡◌, ◌≢◌, ℕ, suc, ◌+◌, ◌≤◌, Bool, true, false, if◌then◌else◌, List, [], ◌∷◌, Option, None}
use Rattle.std.proofs.Common.{is_some, Some, All, count_by, ◌⊎◌, inl, inr, refl, sym, ap, subst, ◌∙◌, arith}
use Rattle.std.specs.List.{find}
use Rattle.std.proofs.lemmas.Bool.{false≢true}
use Rattle.std.proofs.lemmas.Option.{none-some, same_Some}
use Rattle.fs_bridge.specs.declared.row.Row.{Row}
use Rattle.fs_bridge.specs.Bridges.{BridgeRows, has_leg, part_of}
use Rattle.fs_bridge.specs.Hangups.{IsOneOf}
use Rattle.fs_bridge.specs.Laws.{IsRow, IsSound}
use Rattle.fs_bridge.specs.Closure.{peer_in}
use Rattle.fs_bridge.proofs.RowLemmas.{one_if, count_front, none_found}
use Rattle.fs_chan.specs.declared.chan.Chan.{Chan}
use Rattle.fs_chan.specs.declared.peer.Peer.{Peer}
use Rattle.fs_state.specs.Switch.{Switch, chan_at, bridge_at}
use Rattle.fs_machine.specs.Sound.{IsLegWith, RowsAgree}
use Rattle.fs_machine.proofs.BondRows.{caller_leg, answerer_leg}
use Rattle.fs_machine.proofs.BondTables.{NamesPeer, Bonds}

-- ---- rows are found by their legs

-- what stands in the list is found, if it is the only one of the test
only_found : (test : Row → Bool) (rows : List Row) (row : Row) → count_by test rows ≤ 1 → IsOneOf row rows → test row ≡ true →
    find test rows ≡ Some row
only_found test [] row one is has = absurd is
only_found test (first ∷ rows) row one is has = by (λ fewer there. only_found test rows row fewer there has) (test first) refl is
  where
    counted : one_if (test first) + count_by test rows ≤ 1
    counted = let front = count_front test first rows in omega (arith, front, one)

    by : (count_by test rows ≤ 1 → IsOneOf row rows → find test rows ≡ Some row) → (b : Bool) → test first ≡ b →
        (row ≡ first) ⊎ IsOneOf row rows → (if b then Some first else find test rows) ≡ Some row
    by later true e (inl same) = ap Some (sym same)
    by later true e (inr there) =
        let alone : one_if true + count_by test rows ≤ 1 = subst (λ b. one_if b + count_by test rows ≤ 1) e counted in
        absurd (none-some row (sym (none_found test rows (omega (arith, alone))) ∙ later (omega (arith, alone)) there))
    by later false e (inl same) = absurd (cc)
    by later false e (inr there) =
        let fewer : one_if false + count_by test rows ≤ 1 = subst (λ b. one_if b + count_by test rows ≤ 1) e counted in
        later (omega (arith, fewer)) there

-- what holds of all rows holds of one
one_holds : (P : Row → Type 0) (rows : List Row) (row : Row) → All P rows → IsOneOf row rows → P row
one_holds P [] row all is = absurd is
one_holds P (first ∷ rows) row all (inl same) = subst P (sym same) (all 0 row (omega arith))
one_holds P (first ∷ rows) row all (inr there) =
    one_holds P rows row (λ k d within. all (suc k) d (omega (arith, within))) there

module _ (bridges : BridgeRows) (row : Row) (sound : IsSound bridges) (is : IsOneOf row bridges.rows) where
  pub row_apart : row.caller ≢ row.answerer
  row_apart = (one_holds (IsRow bridges.drawn) bridges.rows row sound.rows is).apart

  pub caller_part : part_of row.caller bridges ≡ Some row
  caller_part = only_found (has_leg row.caller) bridges.rows row (sound.one row.caller) is (caller_leg row)

  pub answerer_part : part_of row.answerer bridges ≡ Some row
  answerer_part = only_found (has_leg row.answerer) bridges.rows row (sound.one row.answerer) is (answerer_leg row)

-- ---- all of it

-- whoever names a peer is a leg of the bridge with it
leg_with : (s : Switch) → Bonds s → (slot : ℕ) (c : Chan) (peer : Peer) → chan_at s slot ≡ Some c → c.peer ≡ Some peer →
    IsLegWith s slot peer
leg_with s h slot c peer there names = by (bridge_at s slot) refl (h.back slot c there (ap is_some names))
  where
    by : (found : Option Row) → bridge_at s slot ≡ found → is_some found ≡ true → IsLegWith s slot peer
    by None part some = absurd (false≢true some)
    by (Some row) part some =
        let leg : NamesPeer s.channels slot (peer_in row slot) = h.legs slot row part in
        let same : c ≡ leg.chan = same_Some c leg.chan (sym there ∙ leg.there) in
        let named : peer ≡ record { slot = peer_in row slot; uuid = leg.peer.uuid } =
        same_Some peer (record { slot = peer_in row slot; uuid = leg.peer.uuid })
        (sym names ∙ (ap (λ (d : Chan). d.peer) same ∙ leg.names)) in
        record { row = row; part = part; other = ap (λ (p : Peer). p.slot) named }

pub rows_agree : (s : Switch) → Bonds s → RowsAgree s
rows_agree s h = record {
  apart = λ row is. row_apart s.bridges row h.rows.sound is;
  caller = λ row is. caller_part s.bridges row h.rows.sound is;
  answerer = λ row is. answerer_part s.bridges row h.rows.sound is;
  legs = λ slot row part.
      let leg : NamesPeer s.channels slot (peer_in row slot) = h.legs slot row part in
      record {
        chan = leg.chan;
        there = leg.there;
        live = leg.live;
        peer = leg.peer;
        peer_there = leg.peer_there;
        names = leg.names;
      };
  back = leg_with s h;
}
