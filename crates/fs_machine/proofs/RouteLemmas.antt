-- What is seen for a route, and whether it is still what stands there.
use Rattle.std.proofs.Common.{◌≡◌, ℕ, Bool, true, false, List, Option, None, Some, refl, sym, ap, subst, ◌∙◌}
use Rattle.std.specs.Prelude.{ℤ, if◌then◌else◌, slice_index, ◌&&◌, ◌↔◌, IsTrue}
use Rattle.std.specs.Arc.{arc_value}
use Rattle.std.specs.Option.{option_map}
use Rattle.fs_text.specs.Texts.{Text}
use Rattle.fs_text.specs.declared.states.State.{State}
use Rattle.fs_text.specs.declared.states.State.TheVariants.{CsRouting}
use Rattle.fs_doc.specs.Reading.{Configuration}
use Rattle.fs_doc.specs.Dialplans.{Context}
use Rattle.fs_event.specs.Rings.{Events}
use Rattle.fs_chan.specs.declared.chan.Chan.{Chan}
use Rattle.fs_chan.specs.Changes.{may_route}
use Rattle.fs_plan.specs.Outcomes.{Outcome}
use Rattle.fs_plan.specs.declared.hunt.Hunt.{Hunt}
use Rattle.fs_state.specs.Switch.{Switch, chan_at, at_moment}
use Rattle.fs_machine.specs.declared.entry.Entry.{Entry}
use Rattle.fs_machine.specs.declared.routes.Plan.{Plan}
use Rattle.fs_machine.specs.declared.routes.Snapshot.{Snapshot}
use Rattle.fs_machine.specs.Routes.{Basis, basis_at, basis_of, routing_in, is_routing, is_routable, is_routable_in, shown, Shows, IsOf, AreKept, IsHunted, hunt_in, Suits, IsCurrent}
use Rattle.fs_machine.specs.Routes.{wall_at, IsInForceAfter, IsPlan}
use Rattle.fs_machine.specs.Laws.{state_after}
use Rattle.fs_machine.specs.Runs.{View, StandsFor}
use Rattle.fs_machine.specs.Work.{found_in, after_work, after_work_from, after_routing}
use Rattle.fs_machine.proofs.InForceLemmas.{in_force_now, in_force_once}

-- a channel that is to be routed stands there, and is in the state for it
pub routing_is : (found : Option Chan) (c : Chan) → routing_in found ≡ Some c → (found ≡ Some c) × (is_routing c.state ≡ true)
routing_is None c is = absurd (cc is)
routing_is (Some d) c is = by (is_routing d.state) refl is
  where
    by : (b : Bool) → is_routing d.state ≡ b → ◌≡◌ {A = Option Chan} (if b then Some d else None) (Some c) →
        (◌≡◌ {A = Option Chan} (Some d) (Some c)) × (is_routing c.state ≡ true)
    by true routing e = let same : d ≡ c = cc e in (e, subst (λ (x : Chan). is_routing x.state ≡ true) same routing)
    by false routing e = absurd (cc e)

routable_is : (found : Option Chan) (c : Chan) → routing_in found ≡ Some c → may_route c ≡ true → is_routable_in found ≡ true
routable_is found c is may =
    let has = routing_is found c is in
    ap is_routable_in has.0 ∙ (ap (λ (b : Bool). b && may_route c) has.1 ∙ may)

-- what is copied of a channel that is to be routed shows it
pub shows : (config : Configuration) (kept : Switch) (journal : List Entry) (counts : List ℕ) (spare : ℕ) (ring : Events Text)
    (moment slot : ℕ) (c : Chan) (seen : Snapshot) → StandsFor config kept journal → AreKept config journal counts →
    routing_in (chan_at kept slot) ≡ Some c → may_route c ≡ true → IsOf seen c → kept.globals ≡ seen.globals →
    seen.touched ≡ slice_index counts slot → seen.reloads ≡ kept.reloads → seen.wall ≡ wall_at moment kept →
    arc_value seen.dialplan ≡ kept.contexts →
    Shows (record { config = config; journal = journal; spare = spare; ring = ring }) moment slot seen
shows config kept journal counts spare ring moment slot c seen stands known here may own globals touched reloads wall dialplan =
    record {
      routable = subst (λ (k : Switch). is_routable slot k ≡ true) stands.state (routable_is (chan_at kept slot) c here may);
      basis =
          subst (λ (k : Switch). basis_at slot k ≡ Some (shown seen)) stands.state
          (ap (λ (found : Option Chan). option_map (basis_of kept.globals) found) here ∙ ap (λ (b : Basis). Some b) (basis_shown kept c seen globals own));
      touched = rw touched (known.each slot);
      reloads = reloads ∙ ap (λ (k : Switch). k.reloads) stands.state;
      wall = wall ∙ ap (wall_at moment) stands.state;
      dialplan = dialplan ∙ ap (λ (k : Switch). k.contexts) stands.state;
    }
  where
    basis_shown : (kept : Switch) (c : Chan) (seen : Snapshot) → kept.globals ≡ seen.globals → IsOf seen c → basis_of kept.globals c ≡ shown seen
    basis_shown kept c seen globals own =
        let uuid = own.uuid in let vars = own.vars in let profile = own.profile in cc

same_basis : (x y : Basis) → ◌≡◌ {A = Option Basis} (Some x) (Some y) → x ≡ y
same_basis x y e = cc e

-- it is what stands there exactly where the channel and the globals are told the same
pub current_is : (s : Switch) (slot : ℕ) (c : Chan) (seen : Snapshot) (alike same : Bool) → routing_in (chan_at s slot) ≡ Some c →
    IsTrue alike ↔ IsOf seen c → IsTrue same ↔ (s.globals ≡ seen.globals) →
    IsTrue (alike && same) ↔ (basis_at slot s ≡ Some (shown seen))
current_is s slot c seen alike same here own globals = (
  λ told. on alike same refl refl told,
  λ is.
      let e = same_basis (basis_of s.globals c) (shown seen) (sym basis ∙ is) in
      let first : alike ≡ true = own.1 (record {
        uuid = ap (λ (b : Basis). b.uuid) e;
        vars = ap (λ (b : Basis). b.vars) e;
        profile = ap (λ (b : Basis). b.profile) e;
      }) in
      ap (λ (b : Bool). b && same) first ∙ globals.1 (ap (λ (b : Basis). b.globals) e),
)
  where
    basis : basis_at slot s ≡ Some (basis_of s.globals c)
    basis = ap (λ (found : Option Chan). option_map (basis_of s.globals) found) here

    on : (b b' : Bool) → alike ≡ b → same ≡ b' → IsTrue (b && b') → basis_at slot s ≡ Some (shown seen)
    on true true is is' told =
        let known = own.0 is in
        let uuid = known.uuid in let vars = known.vars in let profile = known.profile in let kept = globals.0 is' in
        let e : basis_of s.globals c ≡ shown seen = cc in basis ∙ ap (λ (b : Basis). Some b) e
    on true false is is' told = absurd (cc told)
    on false b' is is' told = absurd (cc told)

pub not_current : (s : Switch) (slot : ℕ) (seen : Snapshot) → routing_in (chan_at s slot) ≡ None → basis_at slot s ≡ Some (shown seen) → ⊥
not_current s slot seen none is =
    let e : ◌≡◌ {A = Option Basis} None (Some (shown seen)) = sym (ap (λ (found : Option Chan). option_map (basis_of s.globals) found) none) ∙ is in
    absurd (cc e)

pub never_current : (s : Switch) (slot : ℕ) (seen : Snapshot) → routing_in (chan_at s slot) ≡ None →
    IsTrue false ↔ (basis_at slot s ≡ Some (shown seen))
never_current s slot seen none = (λ told. absurd (cc told), λ is. absurd (not_current s slot seen none is))

pub other_current : (s : Switch) (slot : ℕ) (c : Chan) (seen : Snapshot) → routing_in (chan_at s slot) ≡ Some c →
    IsTrue false ↔ IsOf seen c → IsTrue false ↔ (basis_at slot s ≡ Some (shown seen))
other_current s slot c seen here own = (
  λ told. absurd (cc told),
  λ is.
      let e = same_basis (basis_of s.globals c) (shown seen)
      (sym (ap (λ (found : Option Chan). option_map (basis_of s.globals) found) here) ∙ is) in
      own.1 (record {
        uuid = ap (λ (b : Basis). b.uuid) e;
        vars = ap (λ (b : Basis). b.vars) e;
        profile = ap (λ (b : Basis). b.profile) e;
      }),
)

-- the dialplan that a snapshot shows is in force after as many loads as it shows
pub shown_in_force : (m : View) (moment slot : ℕ) (seen : Snapshot) → Shows m moment slot seen →
    IsInForceAfter m.config m.journal seen.reloads (arc_value seen.dialplan)
shown_in_force m moment slot seen h =
    in_force_now m.config m.journal seen.reloads (arc_value seen.dialplan) (sym h.reloads) (sym h.dialplan)

-- so a plan of it suits
pub plan_suits : (m : View) (moment slot : ℕ) (seen : Snapshot) (plan : Plan) → Shows m moment slot seen → plan.seen ≡ seen →
    IsPlan plan → Suits m.config m.journal plan
plan_suits m moment slot seen plan h same right =
    record { in_force = shown_in_force m moment slot plan.seen (subst (λ (x : Snapshot). Shows m moment slot x) (sym same) h); plan_is = right }

-- a plan that is current was hunted for the channel that stands there, through what is in force, at the minute that it is
pub plan_hunted : (config : Configuration) (journal : List Entry) (s : Switch) (moment slot : ℕ) (plan : Plan) →
    s ≡ state_after config journal → Suits config journal plan → IsCurrent moment slot plan s →
    IsHunted slot plan.hunt (at_moment moment s)
plan_hunted config journal s moment slot plan stands suits current = by (routing_in (chan_at s slot)) refl
  where
    in_force : s.contexts ≡ arc_value plan.seen.dialplan
    in_force =
        ap (λ (t : Switch). t.contexts) stands
        ∙ in_force_once config journal plan.seen.reloads (arc_value plan.seen.dialplan) suits.in_force
        (sym (current.reloads ∙ ap (λ (t : Switch). t.reloads) stands))

    state_is : (state : State) → is_routing state ≡ true → state ≡ CsRouting
    state_is CsRouting is = refl
    state_is _ is = absurd (cc is)

    by : (found : Option Chan) → routing_in (chan_at s slot) ≡ found → IsHunted slot plan.hunt (at_moment moment s)
    by None none = absurd (not_current s slot plan.seen none current.basis)
    by (Some c) is =
        let has = routing_is (chan_at s slot) c is in
        let e = same_basis (basis_of s.globals c) (shown plan.seen)
        (sym (ap (λ (found : Option Chan). option_map (basis_of s.globals) found) is) ∙ current.basis) in
        record {
          chan = c;
          at = has.0;
          routing = state_is c.state has.1;
          found =
              ap (λ (b : Basis). found_in (hunt_in s.contexts b (wall_at moment s))) e
              ∙ (ap (λ (contexts : List Context). found_in (hunt_in contexts (shown plan.seen) (wall_at moment s))) in_force
              ∙ (ap (λ (wall : ℤ). found_in (hunt_in (arc_value plan.seen.dialplan) (shown plan.seen) wall)) (sym current.wall)
              ∙ ap (λ (outcome : Outcome Hunt). found_in outcome) suits.plan_is));
        }

-- the work of a channel that is to be routed is its route
pub routing_works : (s : Switch) (slot : ℕ) (hunt : Hunt) → IsHunted slot hunt s → after_work slot s ≡ after_routing slot s
unfolding after_work
routing_works s slot hunt hunted =
    ap (λ (found : Option Chan). after_work_from slot found s) hunted.at
    ∙ works hunted.chan hunted.routing
  where
    works : (c : Chan) → c.state ≡ CsRouting → after_work_from slot (Some c) s ≡ after_routing slot s
    works c routing = rw routing
