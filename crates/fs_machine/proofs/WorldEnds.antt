-- Where channels leave their bridges, what ends behind these by a hangup still stands once they have ended, and ends once.
use Rattle.std.proofs.Common.{◌≡◌, ℕ, ◌≤◌, Bool, true, false, List, [], ◌∷◌, Option, None, Some, inl, inr, refl, sym, ap, subst, ◌∙◌}
use Rattle.std.proofs.Common.{true≢false}
use Rattle.std.proofs.lemmas.Bool.{eqb-true}
use Rattle.fs_bridge.specs.declared.row.Row.{Row}
use Rattle.fs_bridge.specs.Bridges.{has_leg, has_number, part_of, unbridged}
use Rattle.fs_bridge.specs.Hangups.{IsOneOf}
use Rattle.fs_bridge.specs.Leaving.{is_left, parted_world}
use Rattle.fs_bridge.proofs.PartLemmas.{leg_left, unless_from}
use Rattle.fs_chan.specs.declared.chan.Chan.{Chan}
use Rattle.fs_chan.specs.Bridging.{unbridged as let_go}
use Rattle.fs_state.specs.Switch.{Switch, chan_at, bridge_at, without_bridge}
use Rattle.fs_state.specs.Moves.{with_changed_chan_from, with_changed_chan}
use Rattle.fs_state.specs.Hangups.{world_of, row_at, Ended}
use Rattle.fs_state.specs.Leaving.{after_parting, after_partings, living_among, leaving_of}
use Rattle.fs_machine.proofs.BondRows.{RowsFit, unbridged_fit, stays_part}
use Rattle.fs_machine.proofs.BondLemmas.{row_seen}
use Rattle.fs_machine.proofs.ListCounts.{found_passes}
use Rattle.fs_machine.proofs.EndLemmas.{Shows, AreEnds, ends_of_number, end_stands_in, closure_once_in, closure_ends_in}
use Rattle.fs_machine.proofs.PartingLemmas.{parted_rows, parted_state, left_named, parted_at}

-- ---- bridges that others leave

changed_rows : (change : Chan → Chan) (slot : ℕ) (s : Switch) → (with_changed_chan change slot s).bridges ≡ s.bridges
changed_rows change slot s = by (chan_at s slot)
  where
    by : (found : Option Chan) → (with_changed_chan_from change slot found s).bridges ≡ s.bridges
    by None = refl
    by (Some c) = refl

parted_bridges : (e : Ended) (s : Switch) → (after_parting e s).bridges ≡ unbridged e.0.number s.bridges
parted_bridges e s =
    changed_rows (let_go e.1) e.0.answerer (with_changed_chan (let_go e.1) e.0.caller (without_bridge e.0.number s))
    ∙ changed_rows (let_go e.1) e.0.caller (without_bridge e.0.number s)

parting_fit : (e : Ended) (s : Switch) → RowsFit s.bridges → RowsFit (after_parting e s).bridges
parting_fit e s fit = subst RowsFit (sym (parted_bridges e s)) (unbridged_fit e.0.number s.bridges fit)

partings_fit : (parted : List Ended) (s : Switch) → RowsFit s.bridges → RowsFit (after_partings parted s).bridges
partings_fit [] s fit = fit
partings_fit (e ∷ parted) s fit = partings_fit parted (after_parting e s) (parting_fit e s fit)

-- a bridge stands still that has none of these numbers
still_stands : (parted : List Ended) (s : Switch) (slot : ℕ) (row : Row) → RowsFit s.bridges →
    ((e : Ended) → IsOneOf e parted → has_number e.0.number row ≡ false) → bridge_at s slot ≡ Some row →
    bridge_at (after_partings parted s) slot ≡ Some row
still_stands [] s slot row fit other part = part
still_stands (e ∷ parted) s slot row fit other part =
    still_stands parted (after_parting e s) slot row (parting_fit e s fit) (λ x one. other x (inr one))
    (ap (part_of slot) (parted_bridges e s) ∙ stays_part e.0.number slot s.bridges row fit.sound part (other e (inl refl)))

module _ (slots : List ℕ) (s : Switch) (fit : RowsFit s.bridges) where
  pub parted_fit : RowsFit (parted_state slots s).bridges
  parted_fit = partings_fit (parted_rows slots s) s fit

  -- one that nobody of those leaves has none of their numbers
  other_number : (slot : ℕ) (row : Row) → bridge_at s slot ≡ Some row → is_left (living_among s slots) row ≡ false →
      (e : Ended) → IsOneOf e (parted_rows slots s) → has_number e.0.number row ≡ false
  other_number slot row part stays e one = by (has_number e.0.number row) refl
    where
      by : (b : Bool) → has_number e.0.number row ≡ b → b ≡ false
      by false is = refl
      by true is =
          let its = parted_at slots s e one in
          let was = row_seen s its.by e.0 its.its in
          let same = fit.numbers slot its.by row e.0 part was (eqb-true row.number e.0.number is) in
          let leg = found_passes (has_leg its.by) s.bridges.rows e.0 was in
          absurd (true≢false
          (sym (leg_left (living_among s slots) row its.by its.leaves (ap (has_leg its.by) same ∙ leg)) ∙ stays))

  -- so what those see who hang up then stands
  pub left_shows : Shows (parted_world (world_of s) (living_among s slots)) (parted_state slots s)
  left_shows slot row is =
      let both = unless_from (living_among s slots) (row_at s slot) row is in
      let part = row_seen s slot row both.0 in
      still_stands (parted_rows slots s) s slot row fit (other_number slot row part both.1) part

  -- each bridge that ends by it stands until then, ends once, and one of its legs hangs up
  pub left_end_stands : (e : Ended) → IsOneOf e (leaving_of slots s).ends.ended →
      (slot : ℕ) × (bridge_at (parted_state slots s) slot ≡ Some e.0)
  left_end_stands =
      end_stands_in (parted_world (world_of s) (living_among s slots)) (left_named slots s) (parted_state slots s) parted_fit left_shows

  pub left_once : (number : ℕ) → ends_of_number number (leaving_of slots s).ends.ended ≤ 1
  left_once =
      closure_once_in (parted_world (world_of s) (living_among s slots)) (left_named slots s) (parted_state slots s) parted_fit left_shows

  pub left_ends : AreEnds (parted_state slots s).bridges (leaving_of slots s).ends.members (leaving_of slots s).ends.ended
  left_ends =
      closure_ends_in (parted_world (world_of s) (living_among s slots)) (left_named slots s) (parted_state slots s) parted_fit left_shows
