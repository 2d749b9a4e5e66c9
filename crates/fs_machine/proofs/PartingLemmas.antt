-- Channels leave their bridges: which bridges end as they are left, what stands once they have, and what is dragged along then.
use Rattle.std.proofs.Common.{◌≡◌, ◌≢◌, ℕ, zero, suc, ◌-◌, ◌==◌, Bool, true, false, not, if◌then◌else◌, List, [], ◌∷◌, ◌++◌, length, fold}
use Rattle.std.proofs.Common.{filter, filter_map, flat_map, Option, None, Some, option_map, option_and_then, option_to_list, ◌⊎◌, inl, inr}
use Rattle.std.proofs.Common.{is_some, refl, sym, ap, subst, ◌∙◌, true≢false}
use Rattle.std.specs.Prelude.{nat_lt, insert, count_by}
use Rattle.std.proofs.lemmas.Bool.{eqb-true, or_cases, false≢true, false_from_ne_true}
use Rattle.std.proofs.lemmas.Cmp.{nat_eq_equiv}
use Rattle.std.proofs.lemmas.List.{length-set}
use Rattle.std.proofs.lemmas.Option.{none-some, same_Some}
use Rattle.std.proofs.Math.Path.{fun_ext}
use Rattle.fs_text.specs.declared.causes.Cause.{Cause}
use Rattle.fs_text.specs.declared.causes.Cause.TheVariants.{NormalClearing}
use Rattle.fs_vars.specs.Variables.{Variables}
use Rattle.fs_bridge.specs.declared.after.After.{After}
use Rattle.fs_bridge.specs.declared.row.Row.{Row}
use Rattle.fs_bridge.specs.After.{after_bridge}
use Rattle.fs_bridge.specs.Bridges.{has_leg, has_number, part_of}
use Rattle.fs_bridge.specs.Closure.{Member, Members, Ends, peer_in, left_in, left_by, hangup_cause, hung, by_partner, by_origination, drags}
use Rattle.fs_bridge.specs.Closure.{may_join, round_after, with_rounds, members_of, has_ended, ended_of, survivors_of, ends_of, closure_of}
use Rattle.fs_bridge.specs.Hangups.{IsOneOf}
use Rattle.fs_bridge.specs.Leaving.{with_parted, is_left, unless_left, parted_world, all_left, first_round, with_survivors}
use Rattle.fs_bridge.specs.Leavings.{IsLeftBehind}
use Rattle.fs_bridge.specs.Orders.{has_slot, in_order}
use Rattle.fs_bridge.specs.Worlds.{World}
use Rattle.fs_bridge.proofs.DragLemmas.{one_insert, one_order}
use Rattle.fs_bridge.proofs.PartLemmas.{left_leg, leg_left, left_is}
use Rattle.fs_bridge.proofs.PartedLemmas.{new_in, parted_from}
use Rattle.fs_bridge.proofs.SurvivorLemmas.{IsTold, one_told, kept_insert}
use Rattle.fs_chan.specs.declared.chan.Chan.{Chan}
use Rattle.fs_chan.specs.Bridging.{awaited_by, unbridged}
use Rattle.fs_orig.specs.declared.orig.Orig.{Orig}
use Rattle.fs_seats.specs.declared.numbered.Numbered.{Numbered}
use Rattle.fs_seats.specs.Rows.{row_of}
use Rattle.fs_seats.proofs.HeldLemmas.{at_each, held_there, held_within}
use Rattle.fs_state.specs.Switch.{Switch, chan_at, bridge_at, orig_of, without_bridge}
use Rattle.fs_state.specs.Moves.{partner_of, partner_at, with_changed_chan}
use Rattle.fs_state.specs.Hangups.{lives, lives_at, vars_of, vars_at, living_in, legs_at, has_peer, row_at, world_of, living_of, Ended}
use Rattle.fs_state.specs.Hangups.{after_end, after_closure}
use Rattle.fs_state.specs.Leaving.{after_parting, after_partings, living_among, leaving_of, after_bridges_left}
use Rattle.fs_machine.proofs.StayLemmas.{changed_there}
use Rattle.fs_machine.proofs.ListCounts.{any_of, one_passes}
use Rattle.fs_machine.proofs.BondRows.{IsLeg, RowsFit, leg_part, peer_leg, is_leg, caller_leg, answerer_leg, still_part, stays_part}
use Rattle.fs_machine.proofs.BondRows.{unbridged_fit}
use Rattle.fs_machine.proofs.BondLemmas.{row_seen}
use Rattle.fs_machine.proofs.BondTables.{NamesPeer, Bonds}
use Rattle.fs_machine.proofs.BondHangups.{Ending, end_bonds}

-- ---- what it comes to that some leave

-- the bridges that end as they are left
abbrev pub parted_rows : List ℕ → Switch → List Ended
parted_rows slots s = (leaving_of slots s).parted

-- the switch once they have
abbrev pub parted_state : List ℕ → Switch → Switch
parted_state slots s = after_partings (parted_rows slots s) s

-- those who are left
abbrev pub others_left : List ℕ → Switch → List (ℕ × After)
others_left slots s = all_left (world_of s) (living_among s slots)

-- those of them who hang up
abbrev pub left_named : List ℕ → Switch → Members
left_named slots s = first_round (world_of s) [] (living_among s slots)

-- what their hangup comes to then
abbrev pub closure_at : List ℕ → Switch → Ends
closure_at slots s = closure_of (world_of (parted_state slots s)) (living_of (parted_state slots s) (left_named slots s))

-- ---- which bridges end

-- what ends as it is left is the bridge of one who leaves and lives, and stands until then
pub record IsPartedAt (slots : List ℕ) (s : Switch) (e : Ended) : Type 0 where
  pub by : ℕ
  pub leaves : IsOneOf by (living_among s slots)
  pub its : row_at s by ≡ Some e.0
  pub cause : e.1 ≡ NormalClearing

pub parted_at : (slots : List ℕ) (s : Switch) (e : Ended) → IsOneOf e (parted_rows slots s) → IsPartedAt slots s e
parted_at slots s e is =
    let its = parted_from (world_of s) (living_among s slots) e is in
    record { by = its.0; leaves = its.1; its = its.2; cause = its.3 }

-- among some bridges is one of this caller
record HasCaller (caller : ℕ) (ended : List Ended) : Type 0 where
  end : Ended
  one : IsOneOf end ended
  calls : end.0.caller ≡ caller

has_caller : (caller : ℕ) (ended : List Ended) → has_ended caller ended ≡ true → HasCaller caller ended
has_caller caller [] is = absurd (false≢true is)
has_caller caller (e ∷ ended) is =
    elim (or_cases (e.0.caller == caller) (has_ended caller ended) is) [
      | inl here ↦ record { end = e; one = inl refl; calls = eqb-true e.0.caller caller here }
      | inr there ↦ let later = has_caller caller ended there in record { end = later.end; one = inr later.one; calls = later.calls }
    ]

-- where one more is placed
abbrev place_of : Row → List Ended → ℕ
place_of row ended = count_by (λ (e : Ended). nat_lt e.0.number row.number) ended

-- with one more that ends as it is left
abbrev with_row : Row → Bool → List Ended → List Ended
with_row row stands ended = if stands then ended else insert ended (place_of row ended) (row, NormalClearing)

caller_kept : (caller : ℕ) (ended : List Ended) (found : Option Row) → HasCaller caller ended → HasCaller caller (with_parted ended found)
caller_kept caller ended None h = h
caller_kept caller ended (Some row) h = by (has_ended row.caller ended)
  where
    by : (stands : Bool) → HasCaller caller (with_row row stands ended)
    by true = h
    by false =
        record { end = h.end; one = kept_insert h.end ended (place_of row ended) (row, NormalClearing) h.one; calls = h.calls }

caller_put : (row : Row) (ended : List Ended) → HasCaller row.caller (with_parted ended (Some row))
caller_put row ended = by (has_ended row.caller ended) refl
  where
    by : (stands : Bool) → has_ended row.caller ended ≡ stands → HasCaller row.caller (with_row row stands ended)
    by true is = has_caller row.caller ended is
    by false is = record { end = (row, NormalClearing); one = new_in (row, NormalClearing) ended (place_of row ended); calls = refl }

-- the bridges of some slots, behind others
abbrev parts_behind : Switch → List Ended → List ℕ → List Ended
parts_behind s before left = fold (λ (parted : List Ended) (slot : ℕ). with_parted parted (row_at s slot)) before left

callers_kept : (s : Switch) (caller : ℕ) (before : List Ended) (left : List ℕ) → HasCaller caller before →
    HasCaller caller (parts_behind s before left)
callers_kept s caller before [] h = h
callers_kept s caller before (slot ∷ left) h =
    callers_kept s caller (with_parted before (row_at s slot)) left (caller_kept caller before (row_at s slot) h)

callers_put : (s : Switch) (slot : ℕ) (row : Row) (before : List Ended) (left : List ℕ) → IsOneOf slot left → row_at s slot ≡ Some row →
    HasCaller row.caller (parts_behind s before left)
callers_put s slot row before [] one is = absurd one
callers_put s slot row before (seat ∷ left) (inl same) is =
    callers_kept s row.caller (with_parted before (row_at s seat)) left
    (subst (λ (found : Option Row). HasCaller row.caller (with_parted before found)) (sym is ∙ ap (row_at s) same)
    (caller_put row before))
callers_put s slot row before (seat ∷ left) (inr one) is = callers_put s slot row (with_parted before (row_at s seat)) left one is

-- a bridge that stands, and ends of a normal clearing
record IsStanding (s : Switch) (e : Ended) : Type 0 where
  at : ℕ
  part : bridge_at s at ≡ Some e.0
  cause : e.1 ≡ NormalClearing

parted_stands : (slots : List ℕ) (s : Switch) (e : Ended) → IsOneOf e (parted_rows slots s) → IsStanding s e
parted_stands slots s e one =
    let its = parted_at slots s e one in record { at = its.by; part = row_seen s its.by e.0 its.its; cause = its.cause }

-- and the bridge of each who leaves, lives and names a peer is among these
pub parts_its : (slots : List ℕ) (s : Switch) (slot : ℕ) (row : Row) → RowsFit s.bridges → IsOneOf slot (living_among s slots) →
    row_at s slot ≡ Some row → IsOneOf (row, NormalClearing) (parted_rows slots s)
parts_its slots s slot row fit one is =
    let has : HasCaller row.caller (parted_rows slots s) = callers_put s slot row [] (living_among s slots) one is in
    let stands : IsStanding s has.end = parted_stands slots s has.end has.one in
    let here : bridge_at s has.end.0.caller ≡ Some has.end.0 = fit.caller stands.at has.end.0 stands.part in
    let there : bridge_at s row.caller ≡ Some row = fit.caller slot row (row_seen s slot row is) in
    let same : has.end.0 ≡ row = same_Some has.end.0 row (sym here ∙ (ap (bridge_at s) has.calls ∙ there)) in
    let pair : has.end ≡ (row, NormalClearing) = ap (λ (r : Row). (r, has.end.1)) same ∙ ap (λ (c : Cause). (row, c)) stands.cause in
    subst (λ (e : Ended). IsOneOf e (parted_rows slots s)) pair has.one

-- ---- no two of them are of one caller

-- each has another caller than all behind it
abbrev IsOther : Ended → List Ended → Type 0
IsOther e ended = (x : Ended) → IsOneOf x ended → x.0.caller ≢ e.0.caller

abbrev AreOthers : List Ended → Type 0
AreOthers [] = Unit {0}
AreOthers (e ∷ ended) = IsOther e ended × AreOthers ended

others_insert : (ended : List Ended) (i : ℕ) (e : Ended) → IsOther e ended → AreOthers ended → AreOthers (insert ended i e)
others_insert [] zero e other are = (λ x one. absurd one, tt)
others_insert [] (suc i) e other are = (λ x one. absurd one, tt)
others_insert (x ∷ ended) zero e other are = (other, are)
others_insert (x ∷ ended) (suc i) e other are =
    (λ y one. by y (one_insert y ended i e one), others_insert ended i e (λ y one. other y (inr one)) are.1)
  where
    by : (y : Ended) → (y ≡ e) ⊎ IsOneOf y ended → y.0.caller ≢ x.0.caller
    by y (inl same) = λ calls. other x (inl refl) (sym calls ∙ ap (λ (z : Ended). z.0.caller) same)
    by y (inr there) = are.0 y there

others_put : (ended : List Ended) (found : Option Row) → AreOthers ended → AreOthers (with_parted ended found)
others_put ended None are = are
others_put ended (Some row) are = by (has_ended row.caller ended) refl
  where
    other : has_ended row.caller ended ≡ false → IsOther (row, NormalClearing) ended
    other none x one same =
        true≢false
        (sym (any_of (λ (e : Ended). e.0.caller == row.caller) x ended one
        (ap (λ (caller : ℕ). caller == row.caller) same ∙ nat_eq_equiv.refl row.caller))
        ∙ none)

    by : (stands : Bool) → has_ended row.caller ended ≡ stands → AreOthers (with_row row stands ended)
    by true is = are
    by false is = others_insert ended (place_of row ended) (row, NormalClearing) (other is) are

parts_others : (s : Switch) (before : List Ended) (left : List ℕ) → AreOthers before → AreOthers (parts_behind s before left)
parts_others s before [] are = are
parts_others s before (slot ∷ left) are = parts_others s (with_parted before (row_at s slot)) left (others_put before (row_at s slot) are)

-- ---- what stands once they have ended

changed_bridges : (cause : Cause) (slot : ℕ) (s : Switch) → (with_changed_chan (unbridged cause) slot s).bridges ≡ s.bridges
changed_bridges cause slot s =
    changed_there (λ (t : Switch). t.bridges ≡ s.bridges) (unbridged cause) slot s (λ c is. refl) refl

parting_bridges : (e : Ended) (s : Switch) → (after_parting e s).bridges ≡ (without_bridge e.0.number s).bridges
parting_bridges e s =
    changed_bridges e.1 e.0.answerer (with_changed_chan (unbridged e.1) e.0.caller (without_bridge e.0.number s))
    ∙ changed_bridges e.1 e.0.caller (without_bridge e.0.number s)

parting_fit : (e : Ended) (s : Switch) → RowsFit s.bridges → RowsFit (after_parting e s).bridges
parting_fit e s fit = subst RowsFit (sym (parting_bridges e s)) (unbridged_fit e.0.number s.bridges fit)

partings_fit : (parted : List Ended) (s : Switch) → RowsFit s.bridges → RowsFit (after_partings parted s).bridges
partings_fit [] s fit = fit
partings_fit (e ∷ parted) s fit = partings_fit parted (after_parting e s) (parting_fit e s fit)

-- it stood before, and has the number of none of these
record Stands (s : Switch) (parted : List Ended) (slot : ℕ) (row : Row) : Type 0 where
  was : bridge_at s slot ≡ Some row
  other : (e : Ended) → IsOneOf e parted → has_number e.0.number row ≡ false

stood_behind : (e : Ended) (parted : List Ended) (s : Switch) (slot : ℕ) (row : Row) → RowsFit s.bridges →
    Stands (after_parting e s) parted slot row → Stands s (e ∷ parted) slot row
stood_behind e parted s slot row fit next = record { was = still.0; other = by }
  where
    still : (bridge_at s slot ≡ Some row) × (has_number e.0.number row ≡ false)
    still = still_part e.0.number slot s.bridges row fit.sound (ap (part_of slot) (sym (parting_bridges e s)) ∙ next.was)

    by : (x : Ended) → IsOneOf x (e ∷ parted) → has_number x.0.number row ≡ false
    by x (inl same) = ap (λ (y : Ended). has_number y.0.number row) same ∙ still.1
    by x (inr one) = next.other x one

stands_behind : (parted : List Ended) (s : Switch) (slot : ℕ) (row : Row) → RowsFit s.bridges →
    bridge_at (after_partings parted s) slot ≡ Some row → Stands s parted slot row
stands_behind [] s slot row fit is = record { was = is; other = λ e one. absurd one }
stands_behind (e ∷ parted) s slot row fit is =
    stood_behind e parted s slot row fit (stands_behind parted (after_parting e s) slot row (parting_fit e s fit) is)

stays_behind : (parted : List Ended) (s : Switch) (slot : ℕ) (row : Row) → RowsFit s.bridges → bridge_at s slot ≡ Some row →
    ((e : Ended) → IsOneOf e parted → has_number e.0.number row ≡ false) → bridge_at (after_partings parted s) slot ≡ Some row
stays_behind [] s slot row fit is other = is
stays_behind (e ∷ parted) s slot row fit is other =
    stays_behind parted (after_parting e s) slot row (parting_fit e s fit)
    (ap (part_of slot) (parting_bridges e s) ∙ stays_part e.0.number slot s.bridges row fit.sound is (other e (inl refl)))
    (λ x one. other x (inr one))

-- once they have ended nobody is part of one
pub gone_as_left : (slots : List ℕ) (s : Switch) (row : Row) (slot : ℕ) → RowsFit s.bridges →
    IsOneOf (row, NormalClearing) (parted_rows slots s) → bridge_at (parted_state slots s) slot ≡ Some row → ⊥
gone_as_left slots s row slot fit one is =
    true≢false
    (sym (nat_eq_equiv.refl row.number)
    ∙ (stands_behind (parted_rows slots s) s slot row fit is).other (row, NormalClearing) one)

-- which bridges stand then stood before
pub stood_before : (slots : List ℕ) (s : Switch) (slot : ℕ) (row : Row) → RowsFit s.bridges →
    bridge_at (parted_state slots s) slot ≡ Some row → bridge_at s slot ≡ Some row
stood_before slots s slot row fit is = (stands_behind (parted_rows slots s) s slot row fit is).was

-- ---- a fact that bears the end of each bridge that stands, told at once, is kept by all of these

module _ (P : Switch → Type 0)
    (parts : (slot : ℕ) (row : Row) (t : Switch) → bridge_at t slot ≡ Some row → P t → P (after_parting (row, NormalClearing) t)) where
  each_kept : (parted : List Ended) (s : Switch) → RowsFit s.bridges → AreOthers parted →
      ((e : Ended) → IsOneOf e parted → IsStanding s e) → P s → P (after_partings parted s)
  each_kept [] s fit are stand h = h
  each_kept (e ∷ parted) s fit are stand h =
      each_kept parted (after_parting e s) (parting_fit e s fit) are.1 still
      (subst (λ (cause : Cause). P (after_parting (e.0, cause) s)) (sym here.cause) (parts here.at e.0 s here.part h))
    where
      here : IsStanding s e
      here = stand e (inl refl)

      other : (x : Ended) → IsOneOf x parted → has_number e.0.number x.0 ≡ false
      other x one =
          let its : IsStanding s x = stand x (inr one) in
          false_from_ne_true (has_number e.0.number x.0)
          (λ same. are.0 x one
          (ap (λ (row : Row). row.caller)
          (fit.numbers its.at here.at x.0 e.0 its.part here.part (eqb-true x.0.number e.0.number same))))

      still : (x : Ended) → IsOneOf x parted → IsStanding (after_parting e s) x
      still x one =
          let its : IsStanding s x = stand x (inr one) in
          record {
            at = its.at;
            part = ap (part_of its.at) (parting_bridges e s)
                ∙ stays_part e.0.number its.at s.bridges x.0 fit.sound its.part (other x one);
            cause = its.cause;
          }

  pub partings_kept : (slots : List ℕ) (s : Switch) → RowsFit s.bridges → P s → P (parted_state slots s)
  partings_kept slots s fit h =
      each_kept (parted_rows slots s) s fit (parts_others s [] (living_among s slots) tt) (λ e one. parted_stands slots s e one) h

-- so they belong together still
pub parted_bonds : (slots : List ℕ) (s : Switch) → Bonds s → Bonds (parted_state slots s)
parted_bonds slots s h =
    (partings_kept (Ending s)
    (λ slot row t part k. told row t (end_bonds s t h.rows row NormalClearing slot (k.less slot row part) k)) slots s h.rows
    (record { bonds = h; less = λ slot row is. is })).bonds
  where
    told : (row : Row) (t : Switch) → Ending s (after_end row NormalClearing t) → Ending s (after_parting (row, NormalClearing) t)
    told row t k = record { bonds = k.bonds; less = k.less }

-- ---- who is left

-- one who is left was the other leg of such a bridge
pub record IsOtherLeg (slots : List ℕ) (s : Switch) (slot : ℕ) : Type 0 where
  pub row : Row
  pub part : bridge_at s slot ≡ Some row
  pub parted : IsOneOf (row, NormalClearing) (parted_rows slots s)

pub other_leg : (slots : List ℕ) (s : Switch) (one : ℕ × After) → RowsFit s.bridges → IsOneOf one (others_left slots s) →
    IsOtherLeg slots s one.0
other_leg slots s one fit among =
    let left : IsLeftBehind (world_of s) (living_among s slots) one.0 one.1 = left_is (world_of s) (living_among s slots) one among in
    let row : Row = left.other.row in
    record {
      row = row;
      part = ap (bridge_at s) left.other.peer
          ∙ leg_part s.bridges left.by (peer_in row left.by) row fit (row_seen s left.by row left.other.bridge) (peer_leg row left.by);
      parted = parts_its slots s left.by row fit left.leaves left.other.bridge;
    }

-- it lives
left_live : (slots : List ℕ) (s : Switch) (one : ℕ × After) → Bonds s → IsOneOf one (others_left slots s) → lives_at s one.0 ≡ true
left_live slots s one h among =
    let leg : IsOtherLeg slots s one.0 = other_leg slots s one h.rows among in
    let names : NamesPeer s.channels one.0 (peer_in leg.row one.0) = h.legs one.0 leg.row leg.part in
    ap lives names.there ∙ names.live

not_true : (test : Bool) → not test ≡ true → test ≡ false
not_true true is = absurd (false≢true is)
not_true false is = refl

-- whoever outlives a bridge outlives one that ended by a hangup behind these, or was left and does not hang up
pub survivors_as_left : (slots : List ℕ) (s : Switch) (e : Ends) (one : ℕ × After) →
    IsOneOf one (with_survivors (others_left slots s) e).survivors →
    IsOneOf one e.survivors ⊎ (IsOneOf one (others_left slots s) × (has_slot one.0 e.members ≡ false))
survivors_as_left slots s e one is =
    elim (one_order one e.survivors (filter (λ o. not (has_slot o.0 e.members)) (others_left slots s)) is) [
      | inl old ↦ inl old
      | inr new ↦
          let passes = one_passes (λ (o : ℕ × After). not (has_slot o.0 e.members)) one (others_left slots s) new in
          inr (passes.0, not_true (has_slot one.0 e.members) passes.1)
    ]

-- ---- the channels once the bridges have ended

-- what tells no channel from the same whose bridge has ended is the same of each slot
module _ (X : Type 0) (F : Option Chan → X) (alike : (cause : Cause) (c : Chan) → F (Some (unbridged cause c)) ≡ F (Some c)) where
  freed_same : (cause : Cause) (seat slot : ℕ) (s : Switch) →
      F (chan_at (with_changed_chan (unbridged cause) seat s) slot) ≡ F (chan_at s slot)
  freed_same cause seat slot s =
      changed_there (λ (t : Switch). F (chan_at t slot) ≡ F (chan_at s slot)) (unbridged cause) seat s
      (λ c is. sym
      (at_each s.channels seat (Some (unbridged cause c)) (λ old new. F old ≡ F new) (held_within s.channels seat c is)
      (ap F is ∙ sym (alike cause c)) (λ x. refl) slot)) refl

  partings_same : (parted : List Ended) (s : Switch) (slot : ℕ) → F (chan_at (after_partings parted s) slot) ≡ F (chan_at s slot)
  partings_same [] s slot = refl
  partings_same (e ∷ parted) s slot =
      partings_same parted (after_parting e s) slot
      ∙ (freed_same e.1 e.0.answerer slot (with_changed_chan (unbridged e.1) e.0.caller (without_bridge e.0.number s))
      ∙ freed_same e.1 e.0.caller slot (without_bridge e.0.number s))

-- whoever is no leg of one of them is the same
freed_other : (cause : Cause) (seat slot : ℕ) (s : Switch) → slot ≢ seat →
    chan_at (with_changed_chan (unbridged cause) seat s) slot ≡ chan_at s slot
freed_other cause seat slot s other =
    changed_there (λ (t : Switch). chan_at t slot ≡ chan_at s slot) (unbridged cause) seat s
    (λ c is. held_there s.channels seat slot (Some (unbridged cause c)) other) refl

partings_other : (parted : List Ended) (s : Switch) (slot : ℕ) → ((e : Ended) → IsOneOf e parted → IsLeg slot e.0 → ⊥) →
    chan_at (after_partings parted s) slot ≡ chan_at s slot
partings_other [] s slot none = refl
partings_other (e ∷ parted) s slot none =
    partings_other parted (after_parting e s) slot (λ x one. none x (inr one))
    ∙ (freed_other e.1 e.0.answerer slot (with_changed_chan (unbridged e.1) e.0.caller (without_bridge e.0.number s))
    (λ same. none e (inl refl) (inr same))
    ∙ freed_other e.1 e.0.caller slot (without_bridge e.0.number s) (λ same. none e (inl refl) (inl same)))

-- originations stay, and no slot comes or goes
freed_origs : (cause : Cause) (seat : ℕ) (s : Switch) → (with_changed_chan (unbridged cause) seat s).origs ≡ s.origs
freed_origs cause seat s = changed_there (λ (t : Switch). t.origs ≡ s.origs) (unbridged cause) seat s (λ c is. refl) refl

partings_origs : (parted : List Ended) (s : Switch) → (after_partings parted s).origs ≡ s.origs
partings_origs [] s = refl
partings_origs (e ∷ parted) s =
    partings_origs parted (after_parting e s)
    ∙ (freed_origs e.1 e.0.answerer (with_changed_chan (unbridged e.1) e.0.caller (without_bridge e.0.number s))
    ∙ freed_origs e.1 e.0.caller (without_bridge e.0.number s))

freed_length : (cause : Cause) (seat : ℕ) (s : Switch) → length (with_changed_chan (unbridged cause) seat s).channels ≡ length s.channels
freed_length cause seat s =
    changed_there (λ (t : Switch). length t.channels ≡ length s.channels) (unbridged cause) seat s
    (λ c is. length-set s.channels seat (Some (unbridged cause c))) refl

partings_length : (parted : List Ended) (s : Switch) → length (after_partings parted s).channels ≡ length s.channels
partings_length [] s = refl
partings_length (e ∷ parted) s =
    partings_length parted (after_parting e s)
    ∙ (freed_length e.1 e.0.answerer (with_changed_chan (unbridged e.1) e.0.caller (without_bridge e.0.number s))
    ∙ freed_length e.1 e.0.caller (without_bridge e.0.number s))

-- ---- variables that tell nothing

-- where all pass a test all are kept
all_pass : {X : Type 0} (test : X → Bool) (xs : List X) → ((x : X) → IsOneOf x xs → test x ≡ true) → filter test xs ≡ xs
all_pass test [] each = refl
all_pass {X} test (x ∷ xs) each =
    ap (λ (b : Bool). if b then x ∷ filter test xs else filter test xs) (each x (inl refl))
    ∙ ap (λ (rest : List X). x ∷ rest) (all_pass test xs (λ y one. each y (inr one)))

-- with other variables by which each leaves its peer as before a hangup comes to the same
module _ (w : World) (vars : ℕ → Option Variables) (same : (m : Member) → left_by w m ≡ left_by (record w { vars = vars }) m) where
  drags_same : drags w ≡ drags (record w { vars = vars })
  drags_same =
      fun_ext
      (λ m. ap (λ left. by_partner w m ++ (by_origination w m ++ option_to_list (option_and_then hung left))) (same m))

  round_same : (members round : Members) → round_after w members round ≡ round_after (record w { vars = vars }) members round
  round_same members round =
      ap (λ (all : Member → Members). in_order (filter (may_join w members) (flat_map all round))) drags_same

  rounds_same : (more : ℕ) (members round : Members) →
      with_rounds w more members round ≡ with_rounds (record w { vars = vars }) more members round
  rounds_same zero members round = refl
  rounds_same (suc more) members round =
      ap (λ (next : Members). with_rounds w more (members ++ next) next) (round_same members round)
      ∙ rounds_same more (members ++ round_after (record w { vars = vars }) members round)
      (round_after (record w { vars = vars }) members round)

  members_same : (named : Members) → members_of w named ≡ members_of (record w { vars = vars }) named
  unfolding members_of
  members_same named = rounds_same w.slots (in_order named) (in_order named)

  survivors_same : (members : Members) → survivors_of w members ≡ survivors_of (record w { vars = vars }) members
  survivors_same members =
      ap (λ (each : Member → Option (ℕ × After)). in_order (filter_map each members))
      (fun_ext
      (λ m. ap (λ left. option_and_then (λ (l : ℕ × After). if has_slot l.0 members then None else Some l) left) (same m)))

  closure_same : (named : Members) → closure_of w named ≡ closure_of (record w { vars = vars }) named
  closure_same named =
      ap (ends_of w) (members_same named)
      ∙ ap (λ (survivors : List (ℕ × After)). record {
        members = in_order (members_of (record w { vars = vars }) named);
        ended = ended_of w (members_of (record w { vars = vars }) named);
        survivors = survivors;
      }) (survivors_same (members_of (record w { vars = vars }) named))

-- ---- what a hangup sees of them

module _ (slots : List ℕ) (s : Switch) (h : Bonds s) where
  -- whoever is part of a bridge sees it
  row_seen_of : (slot : ℕ) (row : Row) → bridge_at s slot ≡ Some row → row_at s slot ≡ Some row
  row_seen_of slot row part =
      let names : NamesPeer s.channels slot (peer_in row slot) = h.legs slot row part in
      ap (λ test. if test then bridge_at s slot else None) (ap has_peer names.there ∙ ap is_some names.names) ∙ part

  -- a bridge of which nobody who leaves is a leg has the number of none that is left
  unleft_other : (slot : ℕ) (row : Row) → bridge_at s slot ≡ Some row → is_left (living_among s slots) row ≡ false → (e : Ended) →
      IsOneOf e (parted_rows slots s) → has_number e.0.number row ≡ false
  unleft_other slot row part none e one =
      let its : IsPartedAt slots s e = parted_at slots s e one in
      let stands : bridge_at s its.by ≡ Some e.0 = row_seen s its.by e.0 its.its in
      false_from_ne_true (has_number e.0.number row)
      (λ number.
      let same : row ≡ e.0 = h.rows.numbers slot its.by row e.0 part stands (eqb-true row.number e.0.number number) in
      let leg : IsLeg its.by row = subst (IsLeg its.by) (sym same) (h.rows.leg its.by e.0 stands) in
      true≢false (sym (leg_left (living_among s slots) row its.by its.leaves (has_its its.by row leg)) ∙ none))
    where
      has_its : (at : ℕ) (r : Row) → IsLeg at r → has_leg at r ≡ true
      has_its at r (inl same) = ap (λ n. has_leg n r) same ∙ caller_leg r
      has_its at r (inr same) = ap (λ n. has_leg n r) same ∙ answerer_leg r

  -- a bridge of which one who leaves is a leg ends
  left_parts : (slot : ℕ) (row : Row) → bridge_at s slot ≡ Some row → is_left (living_among s slots) row ≡ true →
      IsOneOf (row, NormalClearing) (parted_rows slots s)
  left_parts slot row part is =
      let leg = left_leg (living_among s slots) row is in
      let there : bridge_at s leg.0 ≡ Some row = leg_part s.bridges slot leg.0 row h.rows part (is_leg row leg.0 leg.2) in
      parts_its slots s leg.0 row h.rows leg.1 (row_seen_of leg.0 row there)

  -- a leg of a bridge that stands is no leg of one that ended, so it is the same
  legs_stay : (slot : ℕ) (row : Row) → bridge_at (parted_state slots s) slot ≡ Some row →
      chan_at (parted_state slots s) slot ≡ chan_at s slot
  legs_stay slot row is = partings_other (parted_rows slots s) s slot by
    where
      by : (e : Ended) → IsOneOf e (parted_rows slots s) → IsLeg slot e.0 → ⊥
      by e one leg =
          let its : IsStanding s e = parted_stands slots s e one in
          let part : bridge_at s slot ≡ Some e.0 = leg_part s.bridges its.at slot e.0 h.rows its.part leg in
          let same : e.0 ≡ row = same_Some e.0 row (sym part ∙ stood_before slots s slot row h.rows is) in
          gone_as_left slots s row slot h.rows
          (subst (λ (x : Ended). IsOneOf x (parted_rows slots s))
          (ap (λ (r : Row). (r, e.1)) same ∙ ap (λ (c : Cause). (row, c)) its.cause) one) is

  -- who sees a bridge then sees one that stands
  gone_seen : (slot : ℕ) → ((row : Row) → bridge_at (parted_state slots s) slot ≡ Some row → ⊥) →
      row_at (parted_state slots s) slot ≡ None
  gone_seen slot none = by (row_at (parted_state slots s) slot) refl
    where
      by : (found : Option Row) → row_at (parted_state slots s) slot ≡ found → found ≡ None
      by None is = refl
      by (Some row) is = absurd (none row (row_seen (parted_state slots s) slot row is))

  row_then : (slot : ℕ) → row_at (parted_state slots s) slot ≡ unless_left (living_among s slots) (row_at s slot)
  row_then slot = by (row_at s slot) refl
    where
      left : (row : Row) → row_at s slot ≡ Some row → (gone : Bool) → is_left (living_among s slots) row ≡ gone →
          row_at (parted_state slots s) slot ≡ (if gone then None else Some row)
      left row is true gone =
          gone_seen slot
          (λ r part.
          let same : r ≡ row = same_Some r row (sym (stood_before slots s slot r h.rows part) ∙ row_seen s slot row is) in
          gone_as_left slots s row slot h.rows (left_parts slot row (row_seen s slot row is) gone)
          (part ∙ ap (λ (x : Row). Some x) same))
      left row is false stays =
          let was : bridge_at s slot ≡ Some row = row_seen s slot row is in
          let part : bridge_at (parted_state slots s) slot ≡ Some row =
          stays_behind (parted_rows slots s) s slot row h.rows was (unleft_other slot row was stays) in
          ap (λ found. if has_peer found then bridge_at (parted_state slots s) slot else None) (legs_stay slot row part)
          ∙ (ap (λ found. if has_peer (chan_at s slot) then found else None) (part ∙ sym was) ∙ is)

      by : (found : Option Row) → row_at s slot ≡ found → row_at (parted_state slots s) slot ≡ unless_left (living_among s slots) found
      by None is =
          gone_seen slot (λ r part. none-some r (sym is ∙ row_seen_of slot r (stood_before slots s slot r h.rows part)))
      by (Some row) is = left row is (is_left (living_among s slots) row) refl

  -- the variables of the legs of bridges that stand
  vars_then : (slot : ℕ) (row : Row) → row_at (parted_state slots s) slot ≡ Some row →
      vars_at (parted_state slots s) (peer_in row slot) ≡ vars_at s (peer_in row slot)
  vars_then slot row is =
      ap (option_map vars_of) (legs_stay (peer_in row slot) row (leg_then (row_seen (parted_state slots s) slot row is)))
    where
      leg_then : bridge_at (parted_state slots s) slot ≡ Some row → bridge_at (parted_state slots s) (peer_in row slot) ≡ Some row
      leg_then part =
          leg_part (parted_state slots s).bridges slot (peer_in row slot) row (partings_fit (parted_rows slots s) s h.rows) part
          (peer_leg row slot)

  -- what a member drags as the other leg of its bridge
  left_then : (m : Member) → left_by (parted_world (world_of s) (living_among s slots)) m
      ≡ left_by (record (parted_world (world_of s) (living_among s slots)) { vars = vars_at (parted_state slots s) }) m
  left_then m = by (unless_left (living_among s slots) (row_at s m.0)) refl
    where
      by : (found : Option Row) → unless_left (living_among s slots) (row_at s m.0) ≡ found →
          option_and_then (left_in (world_of s) m) found
          ≡ option_and_then (left_in (record (world_of s) { vars = vars_at (parted_state slots s) }) m) found
      by None is = refl
      by (Some row) is =
          ap (option_map (λ vars. (peer_in row m.0, after_bridge row (peer_in row m.0) vars m.1)))
          (sym (vars_then m.0 row (row_then m.0 ∙ is)))

  -- the living legs that they dialed
  legs_then : (slot : ℕ) → legs_at (parted_state slots s) slot ≡ legs_at s slot
  legs_then slot =
      ap (λ (origs : List (Option (Numbered Orig))).
      living_in (option_and_then (row_of origs) (option_and_then awaited_by (chan_at (parted_state slots s) slot))))
      (partings_origs (parted_rows slots s) s)
      ∙ partings_same (List ℕ) (λ found. living_in (option_and_then (orig_of s) (option_and_then awaited_by found))) (λ cause c. refl)
      (parted_rows slots s) s slot

  -- they are the channels of the switch then, but for variables of who is no leg of a bridge any more
  world_then : world_of (parted_state slots s)
      ≡ record (parted_world (world_of s) (living_among s slots)) { vars = vars_at (parted_state slots s) }
  world_then =
      let t : Switch = parted_state slots s in
      let parted : List Ended = parted_rows slots s in
      ap (λ (n : ℕ). record (world_of t) { slots = n - 1 }) (partings_length parted s)
      ∙ (ap (λ (live : ℕ → Bool). record (world_of t) { slots = length s.channels - 1; live = live })
      (fun_ext (λ slot. partings_same Bool lives (λ cause c. refl) parted s slot))
      ∙ (ap (λ (partner : ℕ → Option ℕ). record (world_of t) { slots = length s.channels - 1; live = lives_at s; partner = partner })
      (fun_ext (λ slot. partings_same (Option ℕ) (option_and_then partner_of) (λ cause c. refl) parted s slot))
      ∙ (ap (λ (legs : ℕ → List ℕ).
      record (world_of t) { slots = length s.channels - 1; live = lives_at s; partner = partner_at s; legs = legs })
      (fun_ext (λ slot. legs_then slot))
      ∙ ap (λ (row : ℕ → Option Row).
      record (world_of t) { slots = length s.channels - 1; live = lives_at s; partner = partner_at s; legs = legs_at s; row = row })
      (fun_ext (λ slot. row_then slot)))))

  -- who is left and hangs up lives then
  named_live : (m : Member) → IsOneOf m (left_named slots s) → lives_at (parted_state slots s) m.0 ≡ true
  named_live m one =
      partings_same Bool lives (λ cause c. refl) (parted_rows slots s) s m.0
      ∙ (ap (lives_at s) (at told.by (hangup_cause told.by.1) told.told) ∙ left_live slots s told.by h told.one)
    where
      told : IsTold hung m (others_left slots s)
      told = one_told hung m (others_left slots s) one

      at : (left : ℕ × After) (cause : Option Cause) → option_map (λ (c : Cause). (left.0, c)) cause ≡ Some m → m.0 ≡ left.0
      at left None is = absurd (none-some m is)
      at left (Some cause) is = ap (λ (x : Member). x.0) (sym (same_Some (left.0, cause) m is))

  living_then : living_of (parted_state slots s) (left_named slots s) ≡ left_named slots s
  living_then = all_pass (λ (m : Member). lives_at (parted_state slots s) m.0) (left_named slots s) named_live

  -- so their hangup comes to the same there
  closure_then : closure_of (parted_world (world_of s) (living_among s slots)) (left_named slots s) ≡ closure_at slots s
  closure_then =
      closure_same (parted_world (world_of s) (living_among s slots)) (vars_at (parted_state slots s)) left_then (left_named slots s)
      ∙ (ap (λ (w : World). closure_of w (left_named slots s)) (sym world_then)
      ∙ ap (closure_of (world_of (parted_state slots s))) (sym living_then))

-- what it comes to that they leave is, behind the ends of their bridges, the hangup of those that are named, with those who are left
-- among the survivors
pub leaving_ends : (slots : List ℕ) (s : Switch) → Bonds s →
    (leaving_of slots s).ends ≡ with_survivors (others_left slots s) (closure_at slots s)
leaving_ends slots s h = ap (with_survivors (others_left slots s)) (closure_then slots s h)

pub bridges_left_as : (slots : List ℕ) (s : Switch) → Bonds s →
    after_bridges_left slots s ≡ after_closure (with_survivors (others_left slots s) (closure_at slots s)) (parted_state slots s)
unfolding after_bridges_left
bridges_left_as slots s h = ap (λ (e : Ends). after_closure e (parted_state slots s)) (leaving_ends slots s h)
