-- What channels own of what they dialed: the channel that owns an origination waits for it, and what a channel waits for it owns, if that
use Rattle.std.proofs.Common.{◌≡◌, ℕ, ◌+◌, ◌<◌, Bool, true, false, if◌then◌else◌, Option, None, Some, ◌⊎◌, inl, inr, refl, sym, ap, subst}
use Rattle.std.proofs.Common.{◌∙◌, arith, true≢false, ◌≤◌, length}
use Rattle.std.specs.Prelude.{is_some}
use Rattle.std.proofs.lemmas.Bool.{cases_eq}
use Rattle.std.proofs.lemmas.Option.{none-some, same_Some}
use Rattle.std.proofs.lemmas.Cmp.{nat_eq_equiv}
use Rattle.fs_text.specs.declared.states.State.TheVariants.{CsHangup}
use Rattle.fs_text.specs.declared.causes.Cause.{Cause}
use Rattle.fs_chan.specs.declared.chan.Chan.{Chan}
use Rattle.fs_chan.specs.Changes.{is_live, hung_up}
use Rattle.fs_chan.specs.Bridging.{awaiting, awaited_by}
use Rattle.fs_orig.specs.declared.orig.Orig.{Orig}
use Rattle.fs_orig.specs.declared.orig.Owner.TheVariants as owner
use Rattle.fs_orig.specs.declared.orig.Owner.{Owner}
use Rattle.fs_orig.specs.Legs.{position_in}
use Rattle.fs_orig.specs.Changes.{with_death}
use Rattle.fs_seats.specs.Seats.{held_in, with_held}
use Rattle.fs_seats.specs.Rows.{seat_of, row_of, with_row, without_row, with_new_row}
use Rattle.fs_seats.proofs.HeldLemmas.{held_here, held_there, held_within}
use Rattle.fs_seats.proofs.TableLemmas.{IsWrittenOrKept, written_or_kept}
use Rattle.fs_seats.proofs.RowLemmas.{AreDistinct, AreWithin, above_nowhere, distinct_same, numbers-with_row, seat_of-without_row_same}
use Rattle.fs_seats.proofs.RowLemmas.{distinct-without_row, within-without_row, distinct-with_new_row, within-with_new_row, row_none}
use Rattle.fs_seats.proofs.RowLemmas.{row_of-with_row_same, row_of-with_row_other, row_of-without_row_other, row_of-with_new_row}
use Rattle.fs_seats.proofs.RowLemmas.{row_of-with_new_row_other}
use Rattle.fs_state.specs.Switch.{Switch, chan_at, with_chan, orig_of, without_orig, with_event}
use Rattle.fs_state.specs.Moves.{with_state_events, orig_changed_from, orig_changed, leg_changed, its_leg_changed, hangup_event}
use Rattle.fs_state.specs.Moves.{after_hangup_from, after_one_hangup, given_up_by, orig_given_up, is_owner, leg_changed_at}
use Rattle.fs_state.proofs.LegTables.{Origs, row_there, HasSeat}
use Rattle.fs_machine.proofs.LegLemmas.{Channels, within_same, Roles, roles_of, cut_roles}

-- is there.

-- ---- who owns originations, and who waits for them

-- a live channel waits for the origination
pub record IsWaiting (channels : Channels) (slot number : ℕ) : Type 0 where
  pub chan : Chan
  pub there : held_in channels slot ≡ Some chan
  pub live : is_live chan ≡ true
  pub waits : awaited_by chan ≡ Some number

-- Originations have numbers of their own that were drawn, an owner waits for what it owns, whoever waits for an origination that is there
-- owns it, no number was waited for before it was drawn, and no leg of an origination dials.
pub record Owned (r : Roles) : Type 0 where
  pub distinct : AreDistinct r.origs
  pub within : AreWithin r.drawn r.origs
  pub wait : (slot number : ℕ) (o : Orig) → row_of r.origs number ≡ Some o → o.owner ≡ owner.Slot slot → IsWaiting r.channels slot number
  pub own : (slot number : ℕ) (c : Chan) (o : Orig) → held_in r.channels slot ≡ Some c → awaited_by c ≡ Some number →
      row_of r.origs number ≡ Some o → o.owner ≡ owner.Slot slot
  pub drawn : (slot number : ℕ) (c : Chan) → held_in r.channels slot ≡ Some c → awaited_by c ≡ Some number → number ≤ r.drawn
  pub lone : (slot : ℕ) (c : Chan) → held_in r.channels slot ≡ Some c → is_some c.leg_of ≡ true → awaited_by c ≡ None

-- a slot owns no origination
abbrev pub OwnsNone : Origs → ℕ → Type 0
OwnsNone origs slot = (number : ℕ) (o : Orig) → row_of origs number ≡ Some o → o.owner ≡ owner.Slot slot → ⊥

-- so it owns none, if there is one; and so does a slot with nothing in it
pub dials_owns : (r : Roles) (slot : ℕ) → ((c : Chan) → held_in r.channels slot ≡ Some c → is_live c ≡ true → awaited_by c ≡ None) →
    Owned r → OwnsNone r.origs slot
dials_owns r slot none h number o is owns =
    let w : IsWaiting r.channels slot number = h.wait slot number o is owns in
    none-some number (sym (none w.chan w.there w.live) ∙ w.waits)

-- ---- a channel is changed

-- something comes to a slot: it waits for what the slot owns, and the slot owns what it waits for
pub put_owned : (r : Roles) (slot : ℕ) (new : Option Chan) → slot < length r.channels →
    ((number : ℕ) (o : Orig) → row_of r.origs number ≡ Some o → o.owner ≡ owner.Slot slot →
    IsWaiting (with_held r.channels slot new) slot number) →
    ((c : Chan) (number : ℕ) → new ≡ Some c → awaited_by c ≡ Some number →
    (number ≤ r.drawn) × ((o : Orig) → row_of r.origs number ≡ Some o → o.owner ≡ owner.Slot slot)) →
    ((c : Chan) → new ≡ Some c → is_some c.leg_of ≡ true → awaited_by c ≡ None) → Owned r →
    Owned (record r { channels = with_held r.channels slot new })
put_owned r slot new within waits owns lone h = record {
  distinct = h.distinct;
  within = h.within;
  wait = λ at number o is owned. wait at number o is owned (cases_eq at slot);
  own = λ at number c o there awaits is. own at number c o awaits is (written_or_kept r.channels slot new at c there);
  drawn = λ at number c there awaits. drawn at number c awaits (written_or_kept r.channels slot new at c there);
  lone = λ at c there leg. alone at c leg (written_or_kept r.channels slot new at c there);
}
  where
    wait : (at number : ℕ) (o : Orig) → row_of r.origs number ≡ Some o → o.owner ≡ owner.Slot at → (at ≡ slot) ⊎ (at ≡ slot → ⊥) →
        IsWaiting (with_held r.channels slot new) at number
    wait at number o is owned (inl same) =
        subst (λ (q : ℕ). IsWaiting (with_held r.channels slot new) q number) (sym same)
        (waits number o is (owned ∙ ap (λ (q : ℕ). owner.Slot q) same))
    wait at number o is owned (inr other) =
        let w : IsWaiting r.channels at number = h.wait at number o is owned in
        record { chan = w.chan; there = held_there r.channels slot at new other ∙ w.there; live = w.live; waits = w.waits }

    own : (at number : ℕ) (c : Chan) (o : Orig) → awaited_by c ≡ Some number → row_of r.origs number ≡ Some o →
        IsWrittenOrKept r.channels slot new at c → o.owner ≡ owner.Slot at
    own at number c o awaits is (inl here) = (owns c number here.1 awaits).1 o is ∙ ap (λ (q : ℕ). owner.Slot q) (sym here.0)
    own at number c o awaits is (inr kept) = h.own at number c o kept.1 awaits is

    drawn : (at number : ℕ) (c : Chan) → awaited_by c ≡ Some number → IsWrittenOrKept r.channels slot new at c → number ≤ r.drawn
    drawn at number c awaits (inl here) = (owns c number here.1 awaits).0
    drawn at number c awaits (inr kept) = h.drawn at number c kept.1 awaits

    alone : (at : ℕ) (c : Chan) → is_some c.leg_of ≡ true → IsWrittenOrKept r.channels slot new at c → awaited_by c ≡ None
    alone at c leg (inl here) = lone c here.1 leg
    alone at c leg (inr kept) = h.lone at c kept.1 leg

-- it waits for nothing, where the slot owns nothing
pub fresh_owned : (r : Roles) (slot : ℕ) (new : Option Chan) → slot < length r.channels → OwnsNone r.origs slot →
    ((c : Chan) → new ≡ Some c → awaited_by c ≡ None) → Owned r → Owned (record r { channels = with_held r.channels slot new })
fresh_owned r slot new within none free h =
    put_owned r slot new within (λ number o is owned. absurd (none number o is owned))
    (λ c number is awaits. absurd (none-some number (sym (free c is) ∙ awaits))) (λ c is leg. free c is) h

-- it waits for what the one before it waited for
pub alike_owned : (r : Roles) (slot : ℕ) (old new : Chan) → held_in r.channels slot ≡ Some old → awaited_by new ≡ awaited_by old →
    is_live new ≡ is_live old → new.leg_of ≡ old.leg_of → Owned r → Owned (record r { channels = with_held r.channels slot (Some new) })
alike_owned r slot old new there awaits live leg h =
    put_owned r slot (Some new) (held_within r.channels slot old there) waits
    (λ c number is waited.
    let was : awaited_by old ≡ Some number = same c number is waited in
    (h.drawn slot number old there was, λ o row. h.own slot number old o there was row))
    (λ c is some.
    ap awaited_by (sym (same_Some new c is)) ∙ awaits
    ∙ h.lone slot old there (ap is_some (sym leg) ∙ ap (λ (d : Chan). is_some d.leg_of) (same_Some new c is) ∙ some)) h
  where
    same : (c : Chan) (number : ℕ) → Some new ≡ Some c → awaited_by c ≡ Some number → awaited_by old ≡ Some number
    same c number is waited = sym awaits ∙ ap awaited_by (same_Some new c is) ∙ waited

    waits : (number : ℕ) (o : Orig) → row_of r.origs number ≡ Some o → o.owner ≡ owner.Slot slot →
        IsWaiting (with_held r.channels slot (Some new)) slot number
    waits number o is owned =
        let w : IsWaiting r.channels slot number = h.wait slot number o is owned in
        let was : w.chan ≡ old = same_Some w.chan old (sym w.there ∙ there) in
        record {
          chan = new;
          there = held_here r.channels slot (Some new) (held_within r.channels slot old there);
          live = live ∙ ap is_live (sym was) ∙ w.live;
          waits = awaits ∙ ap awaited_by (sym was) ∙ w.waits;
        }

-- ---- originations are changed, or go

-- each origination was there, with the same owner
abbrev pub Came : Origs → Origs → Type 0
Came old new =
    (number : ℕ) (o : Orig) → row_of new number ≡ Some o → (p : Orig) × (row_of old number ≡ Some p) × (o.owner ≡ p.owner)

pub rows_owned : (r : Roles) (origs : Origs) → AreDistinct origs → AreWithin r.drawn origs → Came r.origs origs → Owned r →
    Owned (record r { origs = origs })
rows_owned r origs distinct within came h = record {
  distinct = distinct;
  within = within;
  wait = λ slot number o is owned.
      let was = came number o is in h.wait slot number was.0 was.1 (sym was.2 ∙ owned);
  own = λ slot number c o there awaits is.
      let was = came number o is in was.2 ∙ h.own slot number c was.0 there awaits was.1;
  drawn = h.drawn;
  lone = h.lone;
}

pub none_came : (old new : Origs) (slot : ℕ) → Came old new → OwnsNone old slot → OwnsNone new slot
none_came old new slot came none number o is owned =
    let was = came number o is in none number was.0 was.1 (sym was.2 ∙ owned)

came_with : (origs : Origs) (number : ℕ) (p x : Orig) → row_of origs number ≡ Some p → x.owner ≡ p.owner →
    Came origs (with_row origs number x)
came_with origs number p x there same n o is = by (cases_eq number n)
  where
    by : (number ≡ n) ⊎ (number ≡ n → ⊥) → (q : Orig) × (row_of origs n ≡ Some q) × (o.owner ≡ q.owner)
    by (inl here) =
        let seat : HasSeat origs number p = row_there origs number p there in
        let now : row_of (with_row origs number x) number ≡ Some x = row_of-with_row_same origs number seat.0 x seat.1 in
        let new : x ≡ o = same_Some x o (sym now ∙ (ap (row_of (with_row origs number x)) here ∙ is)) in
        (p, ap (row_of origs) (sym here) ∙ there, ap (λ (y : Orig). y.owner) (sym new) ∙ same)
    by (inr other) = (o, sym (row_of-with_row_other origs number x n other) ∙ is, refl)

-- nothing has the number of what is gone
gone_row : (origs : Origs) (number : ℕ) (o : Orig) → AreDistinct origs → row_of (without_row origs number) number ≡ Some o → ⊥
gone_row origs number o distinct is =
    none-some o (sym (row_none (without_row origs number) number (seat_of-without_row_same origs number distinct)) ∙ is)

pub came_without : (origs : Origs) (number : ℕ) → AreDistinct origs → Came origs (without_row origs number)
came_without origs number distinct n o is = by (cases_eq number n)
  where
    by : (number ≡ n) ⊎ (number ≡ n → ⊥) → (q : Orig) × (row_of origs n ≡ Some q) × (o.owner ≡ q.owner)
    by (inl here) = absurd (gone_row origs number o distinct (ap (row_of (without_row origs number)) here ∙ is))
    by (inr other) = (o, sym (row_of-without_row_other origs number n other) ∙ is, refl)

-- ---- as a switch has them

-- a change of an origination keeps its owner
abbrev pub KeepsOwner : (Orig → Orig) → Type 0
KeepsOwner change = (o : Orig) → (change o).owner ≡ o.owner

pub leg_keeps : (change : ℕ → Orig → Orig) (slot : ℕ) → ((position : ℕ) → KeepsOwner (change position)) →
    KeepsOwner (leg_changed change slot)
leg_keeps change slot keeps o = by (position_in slot o.legs)
  where
    by : (found : Option ℕ) → (leg_changed_at change found o).owner ≡ o.owner
    by None = refl
    by (Some position) = keeps position o

-- the originations behind a change of one
abbrev changed_row : (Orig → Orig) → ℕ → Option Orig → Origs → Origs
changed_row change number None origs = origs
changed_row change number (Some o) origs = with_row origs number (change o)

changed_roles : (change : Orig → Orig) (number : ℕ) (s : Switch) →
    roles_of (orig_changed change number s) ≡ record (roles_of s) { origs = changed_row change number (orig_of s number) s.origs }
changed_roles change number s = by (orig_of s number)
  where
    by : (found : Option Orig) →
        roles_of (orig_changed_from change number found s) ≡ record (roles_of s) { origs = changed_row change number found s.origs }
    by None = refl
    by (Some o) = refl

changed_row_came : (change : Orig → Orig) (number : ℕ) (origs : Origs) → KeepsOwner change → (found : Option Orig) →
    row_of origs number ≡ found → Came origs (changed_row change number found origs)
changed_row_came change number origs keeps None is = λ n o there. (o, there, refl)
changed_row_came change number origs keeps (Some p) is = came_with origs number p (change p) is (keeps p)

row_changed_owned : (change : Orig → Orig) (number : ℕ) (r : Roles) → KeepsOwner change → (found : Option Orig) →
    row_of r.origs number ≡ found → Owned r → Owned (record r { origs = changed_row change number found r.origs })
row_changed_owned change number r keeps None is h = h
row_changed_owned change number r keeps (Some p) is h =
    let origs : Origs = with_row r.origs number (change p) in
    rows_owned r origs (distinct_same r.origs origs (numbers-with_row r.origs number (change p)) h.distinct)
    (within_same r.origs number (change p) r.drawn h.within) (came_with r.origs number p (change p) is (keeps p)) h

pub changed_owned : (change : Orig → Orig) (number : ℕ) (s : Switch) → KeepsOwner change → Owned (roles_of s) →
    Owned (roles_of (orig_changed change number s))
changed_owned change number s keeps h =
    subst Owned (sym (changed_roles change number s)) (row_changed_owned change number (roles_of s) keeps (orig_of s number) refl h)

pub changed_came : (change : Orig → Orig) (number : ℕ) (s : Switch) → KeepsOwner change →
    Came s.origs (orig_changed change number s).origs
changed_came change number s keeps =
    subst (Came s.origs) (sym (ap (λ (r : Roles). r.origs) (changed_roles change number s)))
    (changed_row_came change number s.origs keeps (orig_of s number) refl)

gone_owned : (r : Roles) (number : ℕ) → Owned r → Owned (record r { origs = without_row r.origs number })
gone_owned r number h =
    rows_owned r (without_row r.origs number) (distinct-without_row r.origs number h.distinct)
    (within-without_row r.origs number r.drawn h.within) (came_without r.origs number h.distinct) h

pub without_owned : (number : ℕ) (s : Switch) → Owned (roles_of s) → Owned (roles_of (without_orig number s))
without_owned number s h = gone_owned (roles_of s) number h

-- whoever waits for what is gone owns nothing
pub without_none : (number slot : ℕ) (s : Switch) → Owned (roles_of s) →
    ((c : Chan) → chan_at s slot ≡ Some c → awaited_by c ≡ Some number) → OwnsNone (without_orig number s).origs slot
without_none number slot s h waits n o is owned =
    let was = came_without s.origs number h.distinct n o is in
    let w : IsWaiting s.channels slot n = h.wait slot n was.0 was.1 (sym was.2 ∙ owned) in
    let same : n ≡ number = same_Some n number (sym w.waits ∙ waits w.chan w.there) in
    gone_row s.origs number o h.distinct (ap (row_of (without_row s.origs number)) (sym same) ∙ is)

-- ---- what a channel dialed is given up

abbrev given_if : Bool → ℕ → Origs → Origs
given_if true number origs = without_row origs number
given_if false number origs = origs

abbrev given_from : ℕ → ℕ → Option Orig → Origs → Origs
given_from slot number None origs = origs
given_from slot number (Some o) origs = given_if (is_owner slot o.owner) number origs

abbrev given_origs : ℕ → Option ℕ → Origs → Origs
given_origs slot None origs = origs
given_origs slot (Some number) origs = given_from slot number (row_of origs number) origs

given_roles : (slot : ℕ) (awaited : Option ℕ) (s : Switch) →
    roles_of (orig_given_up slot awaited s) ≡ record (roles_of s) { origs = given_origs slot awaited s.origs }
given_roles slot None s = refl
given_roles slot (Some number) s = by (orig_of s number)
  where
    either : (test : Bool) →
        roles_of (if test then without_orig number s else s) ≡ record (roles_of s) { origs = given_if test number s.origs }
    either true = refl
    either false = refl

    by : (found : Option Orig) →
        roles_of (given_up_by slot number found s) ≡ record (roles_of s) { origs = given_from slot number found s.origs }
    by None = refl
    by (Some o) = either (is_owner slot o.owner)

given_owned : (slot : ℕ) (awaited : Option ℕ) (r : Roles) → Owned r → Owned (record r { origs = given_origs slot awaited r.origs })
given_owned slot None r h = h
given_owned slot (Some number) r h = by (row_of r.origs number)
  where
    either : (test : Bool) → Owned (record r { origs = given_if test number r.origs })
    either true = gone_owned r number h
    either false = h

    by : (found : Option Orig) → Owned (record r { origs = given_from slot number found r.origs })
    by None = h
    by (Some o) = either (is_owner slot o.owner)

-- so its slot owns nothing
given_none : (slot : ℕ) (awaited : Option ℕ) (c : Chan) (r : Roles) → held_in r.channels slot ≡ Some c → awaited_by c ≡ awaited →
    Owned r → OwnsNone (given_origs slot awaited r.origs) slot
given_none slot None c r there waits h =
    dials_owns r slot (λ d is live. ap awaited_by (same_Some d c (sym is ∙ there)) ∙ waits) h
given_none slot (Some number) c r there waits h = by (row_of r.origs number) refl
  where
    -- it is the one that it waits for
    its : (n : ℕ) (o : Orig) → row_of r.origs n ≡ Some o → o.owner ≡ owner.Slot slot → n ≡ number
    its n o is owned =
        let w : IsWaiting r.channels slot n = h.wait slot n o is owned in
        same_Some n number (sym w.waits ∙ (ap awaited_by (same_Some w.chan c (sym w.there ∙ there)) ∙ waits))

    either : (p : Orig) → row_of r.origs number ≡ Some p → (test : Bool) → is_owner slot p.owner ≡ test →
        OwnsNone (given_if test number r.origs) slot
    either p at true owns n o is owned =
        let was = came_without r.origs number h.distinct n o is in
        gone_row r.origs number o h.distinct
        (ap (row_of (without_row r.origs number)) (sym (its n was.0 was.1 (sym was.2 ∙ owned))) ∙ is)
    either p at false owns n o is owned =
        let same : p ≡ o = same_Some p o (sym at ∙ (ap (row_of r.origs) (sym (its n o is owned)) ∙ is)) in
        true≢false
        (sym (nat_eq_equiv.refl slot) ∙ ap (is_owner slot) (sym (ap (λ (x : Orig). x.owner) same ∙ owned)) ∙ owns)

    by : (found : Option Orig) → row_of r.origs number ≡ found → OwnsNone (given_from slot number found r.origs) slot
    by None at = λ n o is owned. none-some o (sym at ∙ (ap (row_of r.origs) (sym (its n o is owned)) ∙ is))
    by (Some p) at = either p at (is_owner slot p.owner) refl

-- ---- one channel is hung up

abbrev leg_origs : (ℕ → Orig → Orig) → ℕ → Option ℕ → Origs → Origs
leg_origs change slot None origs = origs
leg_origs change slot (Some number) origs = changed_row (leg_changed change slot) number (row_of origs number) origs

leg_roles : (change : ℕ → Orig → Orig) (slot : ℕ) (leg_of : Option ℕ) (s : Switch) →
    roles_of (its_leg_changed change slot leg_of s) ≡ record (roles_of s) { origs = leg_origs change slot leg_of s.origs }
leg_roles change slot None s = refl
leg_roles change slot (Some number) s = changed_roles (leg_changed change slot) number s

leg_owned : (change : ℕ → Orig → Orig) (slot : ℕ) (leg_of : Option ℕ) (r : Roles) → ((position : ℕ) → KeepsOwner (change position)) →
    Owned r → Owned (record r { origs = leg_origs change slot leg_of r.origs })
leg_owned change slot None r keeps h = h
leg_owned change slot (Some number) r keeps h =
    row_changed_owned (leg_changed change slot) number r (leg_keeps change slot keeps) (row_of r.origs number) refl h

pub one_hung_owned : (cause : Cause) (slot : ℕ) (s : Switch) → Owned (roles_of s) → Owned (roles_of (after_one_hangup cause slot s))
one_hung_owned cause slot s h = by (chan_at s slot) refl
  where
    change : ℕ → Orig → Orig
    change position = with_death position s.entries cause

    cut : Chan → Switch
    cut c = with_state_events c.state CsHangup slot (with_event (hangup_event cause slot) (with_chan slot (Some (hung_up cause c)) s))

    -- the originations behind it
    behind : Chan → Origs
    behind c = given_origs slot (awaited_by c) (leg_origs change slot c.leg_of s.origs)

    roles : (c : Chan) → roles_of (orig_given_up slot (awaited_by c) (its_leg_changed change slot c.leg_of (cut c))) ≡ record
        (roles_of s) { channels = with_held s.channels slot (Some (hung_up cause c)); origs = behind c }
    roles c =
        given_roles slot (awaited_by c) (its_leg_changed change slot c.leg_of (cut c))
        ∙ ap (λ (r : Roles). record r { origs = given_origs slot (awaited_by c) r.origs })
        (leg_roles change slot c.leg_of (cut c) ∙ ap (λ (r : Roles). record r { origs = leg_origs change slot c.leg_of r.origs })
        (cut_roles cause slot c s))

    hung : (c : Chan) → chan_at s slot ≡ Some c → Owned
        (record (roles_of s) { channels = with_held s.channels slot (Some (hung_up cause c)); origs = behind c })
    hung c there =
        let legs : Roles = record (roles_of s) { origs = leg_origs change slot c.leg_of s.origs } in
        let owned : Owned legs = leg_owned change slot c.leg_of (roles_of s) (λ position o. refl) h in
        fresh_owned (record legs { origs = given_origs slot (awaited_by c) legs.origs }) slot (Some (hung_up cause c))
        (held_within s.channels slot c there) (given_none slot (awaited_by c) c legs there refl owned)
        (λ d is. ap awaited_by (sym (same_Some (hung_up cause c) d is))) (given_owned slot (awaited_by c) legs owned)

    of : (c : Chan) → chan_at s slot ≡ Some c → (test : Bool) →
        Owned (roles_of (if test then orig_given_up slot (awaited_by c) (its_leg_changed change slot c.leg_of (cut c)) else s))
    of c there true = subst Owned (sym (roles c)) (hung c there)
    of c there false = h

    by : (found : Option Chan) → chan_at s slot ≡ found → Owned (roles_of (after_hangup_from cause slot found s))
    by None there = h
    by (Some c) there = of c there (is_live c)

-- ---- as a switch has it

pub given_up_owned : (slot : ℕ) (awaited : Option ℕ) (s : Switch) → Owned (roles_of s) → Owned (roles_of (orig_given_up slot awaited s))
given_up_owned slot awaited s h =
    subst Owned (sym (given_roles slot awaited s)) (given_owned slot awaited (roles_of s) h)

pub given_up_none : (slot : ℕ) (c : Chan) (s : Switch) → chan_at s slot ≡ Some c → Owned (roles_of s) →
    OwnsNone (orig_given_up slot (awaited_by c) s).origs slot
given_up_none slot c s there h =
    subst (λ (origs : Origs). OwnsNone origs slot) (sym (ap (λ (r : Roles). r.origs) (given_roles slot (awaited_by c) s)))
    (given_none slot (awaited_by c) c (roles_of s) there refl h)

-- ---- one origination more

-- which kind of owner, and which slot
abbrev is_jobs : Owner → Bool
is_jobs (owner.Job job) = true
is_jobs (owner.Slot slot) = false

abbrev slot_in : Owner → ℕ
slot_in (owner.Job job) = 0
slot_in (owner.Slot slot) = slot

-- a number was drawn
pub more_owned : (r : Roles) (number : ℕ) → number ≡ r.drawn + 1 → Owned r → Owned (record r { drawn = number })
more_owned r number next h = record {
  distinct = h.distinct;
  within = λ n seat stands. let less : n ≤ r.drawn = h.within n seat stands in omega (arith, less, next);
  wait = h.wait;
  own = h.own;
  drawn = λ slot n c there awaits. let less : n ≤ r.drawn = h.drawn slot n c there awaits in omega (arith, less, next);
  lone = h.lone;
}

-- it comes: its owner waits for it, and whoever waits for it owns it
pub added_owned : (r : Roles) (number : ℕ) (o : Orig) → seat_of r.origs number ≡ None → number ≤ r.drawn →
    ((slot : ℕ) → o.owner ≡ owner.Slot slot → IsWaiting r.channels slot number) →
    ((slot : ℕ) (c : Chan) → held_in r.channels slot ≡ Some c → awaited_by c ≡ Some number → o.owner ≡ owner.Slot slot) → Owned r →
    Owned (record r { origs = with_new_row r.origs number o })
added_owned r number o nowhere less waits owns h = record {
  distinct = distinct-with_new_row r.origs number o h.distinct nowhere;
  within = within-with_new_row r.origs number o r.drawn h.within less;
  wait = λ slot n x is owned. wait slot n x owned (came n x is);
  own = λ slot n c x there awaits is. own slot n c x there awaits (came n x is);
  drawn = h.drawn;
  lone = h.lone;
}
  where
    came : (n : ℕ) (x : Orig) → row_of (with_new_row r.origs number o) n ≡ Some x →
        ((number ≡ n) × (o ≡ x)) ⊎ (row_of r.origs n ≡ Some x)
    came n x is = by (cases_eq number n)
      where
        at : number ≡ n → (row_of (with_new_row r.origs number o) number ≡ Some o)
            ⊎ (row_of (with_new_row r.origs number o) number ≡ row_of r.origs number) →
            ((number ≡ n) × (o ≡ x)) ⊎ (row_of r.origs n ≡ Some x)
        at same (inl new) = inl (same, same_Some o x (sym new ∙ (ap (row_of (with_new_row r.origs number o)) same ∙ is)))
        at same (inr old) =
            inr
            (ap (row_of r.origs) (sym same) ∙ (sym old ∙ (ap (row_of (with_new_row r.origs number o)) same ∙ is)))

        by : (number ≡ n) ⊎ (number ≡ n → ⊥) → ((number ≡ n) × (o ≡ x)) ⊎ (row_of r.origs n ≡ Some x)
        by (inl same) = at same (row_of-with_new_row r.origs number o)
        by (inr other) = inr (sym (row_of-with_new_row_other r.origs number o n other) ∙ is)

    wait : (slot n : ℕ) (x : Orig) → x.owner ≡ owner.Slot slot → ((number ≡ n) × (o ≡ x)) ⊎ (row_of r.origs n ≡ Some x) →
        IsWaiting r.channels slot n
    wait slot n x owned (inl new) =
        subst (λ (m : ℕ). IsWaiting r.channels slot m) new.0 (waits slot (ap (λ (y : Orig). y.owner) new.1 ∙ owned))
    wait slot n x owned (inr old) = h.wait slot n x old owned

    own : (slot n : ℕ) (c : Chan) (x : Orig) → held_in r.channels slot ≡ Some c → awaited_by c ≡ Some n →
        ((number ≡ n) × (o ≡ x)) ⊎ (row_of r.origs n ≡ Some x) → x.owner ≡ owner.Slot slot
    own slot n c x there awaits (inl new) =
        ap (λ (y : Orig). y.owner) (sym new.1) ∙ owns slot c there (awaits ∙ ap (λ (m : ℕ). Some m) (sym new.0))
    own slot n c x there awaits (inr old) = h.own slot n c x there awaits old

-- a job begins one
pub begun_owned : (r : Roles) (number job : ℕ) (o : Orig) → number ≡ r.drawn + 1 → o.owner ≡ owner.Job job → Owned r →
    Owned (record r { origs = with_new_row r.origs number o; drawn = number })
begun_owned r number job o next is h =
    added_owned (record r { drawn = number }) number o (above_nowhere r.origs r.drawn number h.within (omega (arith, next))) (omega (arith))
    (λ slot owned. absurd (no_slot slot (sym is ∙ owned)))
    (λ slot c there awaits. let less : number ≤ r.drawn = h.drawn slot number c there awaits in absurd (omega (arith, less, next)))
    (more_owned r number next h)
  where
    no_slot : (slot : ℕ) → owner.Job job ≡ owner.Slot slot → ⊥
    no_slot slot same = true≢false (ap is_jobs same)

-- a channel dials one
pub dialed_owned : (r : Roles) (slot number : ℕ) (c : Chan) (o : Orig) → number ≡ r.drawn + 1 → held_in r.channels slot ≡ Some c →
    is_live c ≡ true → awaited_by c ≡ None → (is_some c.leg_of ≡ true → ⊥) → o.owner ≡ owner.Slot slot → Owned r →
    Owned
    (record { channels = with_held r.channels slot (Some (awaiting number c)); origs = with_new_row r.origs number o; drawn = number })
dialed_owned r slot number c o next there live none lone is h =
    added_owned put number o nowhere (omega (arith)) waits owns
    (put_owned more slot (Some (awaiting number c)) (held_within r.channels slot c there)
    (λ n x at owned. absurd (dials_owns r slot (λ d here lived. ap awaited_by (same_Some d c (sym here ∙ there)) ∙ none) h n x at owned))
    (λ d n new awaits.
    let same : number ≡ n = same_Some number n (ap awaited_by (same_Some (awaiting number c) d new) ∙ awaits) in
    (omega (arith, same), λ x at. absurd (none-some x (sym (row_none r.origs number nowhere) ∙ (ap (row_of r.origs) same ∙ at)))))
    (λ d new leg. absurd (lone (ap (λ (x : Chan). is_some x.leg_of) (same_Some (awaiting number c) d new) ∙ leg)))
    (more_owned r number next h))
  where
    more : Roles
    more = record r { drawn = number }

    put : Roles
    put = record more { channels = with_held r.channels slot (Some (awaiting number c)) }

    nowhere : seat_of r.origs number ≡ None
    nowhere = above_nowhere r.origs r.drawn number h.within (omega (arith, next))

    waits : (at : ℕ) → o.owner ≡ owner.Slot at → IsWaiting put.channels at number
    waits at owned =
        subst (λ (q : ℕ). IsWaiting put.channels q number) (ap slot_in (sym is ∙ owned))
        (record {
          chan = awaiting number c;
          there = held_here r.channels slot (Some (awaiting number c)) (held_within r.channels slot c there);
          live = live;
          waits = refl;
        })

    owns : (at : ℕ) (d : Chan) → held_in put.channels at ≡ Some d → awaited_by d ≡ Some number → o.owner ≡ owner.Slot at
    owns at d here awaits = by (written_or_kept r.channels slot (Some (awaiting number c)) at d here)
      where
        by : IsWrittenOrKept r.channels slot (Some (awaiting number c)) at d → o.owner ≡ owner.Slot at
        by (inl new) = is ∙ ap (λ (q : ℕ). owner.Slot q) (sym new.0)
        by (inr kept) =
            let less : number ≤ r.drawn = h.drawn at number d kept.1 awaits in absurd (omega (arith, less, next))
