-- How often what a route rests on was changed, entry by entry and write by write.
use Rattle.std.proofs.Common.{◌≡◌, ◌≢◌, ℕ, zero, suc, ◌+◌, ◌<◌, ◌≤◌, ◌==◌, eqb, leb, Bool, true, false, List, [], ◌∷◌, ◌++◌, length, drop, replicate}
use Rattle.std.proofs.Common.{Option, None, Some, refl, sym, ap, subst, ◌∙◌, arith, add-one}
use Rattle.std.specs.Prelude.{if◌then◌else◌, slice_index, not, ◌&&◌, ◌↔◌, IsTrue, is_some}
use Rattle.std.specs.Option.{option_map}
use Rattle.std.proofs.lemmas.Bool.{eqb-true, leb-true, leb-false}
use Rattle.fs_dial.proofs.Cuts.{eqb-refl}
use Rattle.std.proofs.lemmas.List.{get_or_past}
use Rattle.fs_doc.specs.Reading.{Configuration}
use Rattle.fs_vars.specs.Variables.{Variables}
use Rattle.fs_chan.specs.declared.chan.Chan.{Chan}
use Rattle.fs_seats.specs.declared.sheet.Write.{Write}
use Rattle.fs_seats.specs.Seats.{held_in}
use Rattle.fs_seats.specs.Sheets.{newest, has_write, last_in, last_of}
use Rattle.fs_seats.proofs.SeatLemmas.{written_length, written_newest, written_past}
use Rattle.fs_state.specs.Switch.{Switch, empty, chan_at, after_entry}
use Rattle.fs_state.specs.Drafts.{after}
use Rattle.fs_state.specs.declared.delta.Delta.{Delta}
use Rattle.fs_machine.specs.declared.entry.Entry.{Entry}
use Rattle.fs_machine.specs.declared.reply.Reply.{Reply}
use Rattle.fs_machine.specs.Entries.{cost_of}
use Rattle.fs_machine.specs.Routes.{Basis, basis_at, basis_of, routing_in, IsAs, IsCountedOn, AreCountedFrom, AreCountedOn, AreKept}
use Rattle.fs_machine.specs.Runs.{run_from, StandsFor, IsPrepared}
use Rattle.fs_machine.specs.Step.{Acted, step}
use Rattle.fs_machine.proofs.RunLemmas.{run_more}

-- ---- entry by entry

-- one entry more
pub counted_more : (slot : ℕ) (s : Switch) (entries : List Entry) (entry : Entry) (old mid new : ℕ) →
    AreCountedFrom slot s entries old mid →
    IsCountedOn (basis_at slot (run_from s entries)) (basis_at slot (step (run_from s entries) entry).state) mid new →
    AreCountedFrom slot s (entries ++ entry ∷ []) old new
counted_more slot s [] entry old mid new are on = (
  new,
  subst (λ (n : ℕ). IsCountedOn (basis_at slot s) (basis_at slot (step s entry).state) n new) are on,
  refl,
)
counted_more slot s (first ∷ entries) entry old mid new are on =
    (are.0, are.1, counted_more slot (step s first).state entries entry are.0 mid new are.2 on)

-- none before the first entry
none_yet : (slots slot : ℕ) → slice_index (replicate slots 0) slot ≡ 0
none_yet zero slot = refl
none_yet (suc slots) zero = refl
none_yet (suc slots) (suc slot) = none_yet slots slot

lengths : {A B : Type 0} (a : A) (b : B) (n : ℕ) → length (replicate n a) ≡ length (replicate n b)
lengths a b zero = refl
lengths a b (suc n) = ap suc (lengths a b n)

same_many : {A : Type 0} (a : A) (n : ℕ) → length (replicate n a) ≡ n
same_many a zero = refl
same_many a (suc n) = ap suc (same_many a n)

pub none_kept : (config : Configuration) (slots : ℕ) → slots ≡ length (empty config).channels → AreKept config [] (replicate slots 0)
none_kept config slots is = record {
  each = λ slot. none_yet slots slot;
  all = same_many 0 slots ∙ is;
}

-- what was prepared is counted once more
pub kept_more : (config : Configuration) (kept : Switch) (journal : List Entry) (entry : Entry) (delta : Delta) (reply : Reply)
    (counts counts' : List ℕ) →
    StandsFor config kept journal → IsPrepared (run_from (empty config) journal) entry delta reply → AreKept config journal counts →
    AreCountedOn kept (after kept delta) counts counts' → length counts' ≡ length counts →
    AreKept config (journal ++ entry ∷ []) counts'
kept_more config kept journal entry delta reply counts counts' stands prepared known on all =
    let s = run_from (empty config) journal in
    let steps : (step s entry).state ≡ after_entry (cost_of entry.act) (after s delta) = ap (λ (t : Acted). t.state) prepared.steps in
    record {
      each = λ slot.
          let here : IsCountedOn (basis_at slot s) (basis_at slot (after s delta)) (slice_index counts slot) (slice_index counts' slot) =
          subst (λ (k : Switch). IsCountedOn (basis_at slot k) (basis_at slot (after k delta)) (slice_index counts slot) (slice_index counts' slot))
          stands.state (on slot) in
          counted_more slot (empty config) journal entry 0 (slice_index counts slot) (slice_index counts' slot) (known.each slot)
          (subst (λ (k : Switch). IsCountedOn (basis_at slot s) (basis_at slot k) (slice_index counts slot) (slice_index counts' slot)) (sym steps) here);
      all =
          all ∙ known.all
          ∙ sym (ap (λ (k : Switch). length k.channels) (run_more (empty config) journal entry ∙ steps) ∙ written_length s.channels delta.channels);
    }

-- ---- write by write

-- what is not written stays
unwritten : {T : Type 0} (ws : List (Write T)) (seat : ℕ) (kept : Option T) → has_write ws seat ≡ false → newest ws seat kept ≡ kept
unwritten [] seat kept none = refl
unwritten (w ∷ ws) seat kept none = by (w.seat == seat) none (unwritten ws seat kept)
  where
    by : (b : Bool) → (if b then true else has_write ws seat) ≡ false → (has_write ws seat ≡ false → newest ws seat kept ≡ kept) →
        newest ws seat (if b then w.held else kept) ≡ kept
    by true none rest = absurd (cc none)
    by false none rest = rest none

-- the channel in a slot that is not written stays; past the last slot there is none
pub chan_stays : (s : Switch) (delta : Delta) (slot : ℕ) → has_write delta.channels slot ≡ false →
    chan_at (after s delta) slot ≡ chan_at s slot
chan_stays s delta slot none = by (leb (length s.channels) slot) refl
  where
    by : (past : Bool) → leb (length s.channels) slot ≡ past → chan_at (after s delta) slot ≡ chan_at s slot
    by true is =
        let far : length s.channels ≤ slot = leb-true (length s.channels) slot is in
        written_past s.channels delta.channels slot far ∙ sym (get_or_past s.channels slot None far)
    by false is =
        written_newest s.channels delta.channels slot (leb-false (length s.channels) slot is)
        ∙ unwritten delta.channels slot (held_in s.channels slot) none

pub chan_past : (s : Switch) (delta : Delta) (slot : ℕ) → length s.channels ≤ slot → chan_at (after s delta) slot ≡ chan_at s slot
chan_past s delta slot far = written_past s.channels delta.channels slot far ∙ sym (get_or_past s.channels slot None far)

pub basis_stays : (s : Switch) (delta : Delta) (slot : ℕ) → (after s delta).globals ≡ s.globals →
    chan_at (after s delta) slot ≡ chan_at s slot → basis_at slot s ≡ basis_at slot (after s delta)
basis_stays s delta slot globals chan =
    ap (λ (g : Variables). option_map (basis_of g) (routing_in (chan_at s slot))) (sym globals)
    ∙ ap (λ (c : Option Chan). option_map (basis_of (after s delta).globals) (routing_in c)) (sym chan)

-- past the last slot nothing is to be routed
pub basis_past : (s : Switch) (delta : Delta) (slot : ℕ) → length s.channels ≤ slot → basis_at slot s ≡ basis_at slot (after s delta)
basis_past s delta slot far =
    ap (λ (c : Option Chan). option_map (basis_of s.globals) (routing_in c)) (get_or_past s.channels slot None far)
    ∙ sym (ap (λ (c : Option Chan). option_map (basis_of (after s delta).globals) (routing_in c)) (written_past s.channels delta.channels slot far))

pub stays_counted : (before behind : Option Basis) (old new : ℕ) → before ≡ behind → new ≡ old → IsCountedOn before behind old new
stays_counted before behind old new is same = record { same = λ _. same; changed = λ differs. absurd (differs is) }

-- Which writes are noted so far: a slot that none of those to come is of is counted, and another one is as it was.
pub record AreNoted {T : Type 0} (s behind : Switch) (to_come : List (Write T)) (old new : List ℕ) : Type 0 where
  pub done : (slot : ℕ) → has_write to_come slot ≡ false →
      IsCountedOn (basis_at slot s) (basis_at slot behind) (slice_index old slot) (slice_index new slot)
  pub left : (slot : ℕ) → has_write to_come slot ≡ true → slice_index new slot ≡ slice_index old slot

pub none_noted : (s : Switch) (delta : Delta) (counts : List ℕ) → (after s delta).globals ≡ s.globals →
    AreNoted s (after s delta) delta.channels counts counts
none_noted s delta counts globals = record {
  done = λ slot none.
      stays_counted (basis_at slot s) (basis_at slot (after s delta)) _ _ (basis_stays s delta slot globals (chan_stays s delta slot none)) refl;
  left = λ slot some. refl;
}

-- a write that a later one of the same seat is behind is passed over
has_other : {T : Type 0} (w : Write T) (ws : List (Write T)) (slot : ℕ) → has_write ws slot ≡ true → has_write (w ∷ ws) slot ≡ true
has_other w ws slot some = by (w.seat == slot)
  where
    by : (b : Bool) → (if b then true else has_write ws slot) ≡ true
    by true = refl
    by false = some

has_none : {T : Type 0} (w : Write T) (ws : List (Write T)) (slot : ℕ) → w.seat ≢ slot → has_write ws slot ≡ false →
    has_write (w ∷ ws) slot ≡ false
has_none w ws slot other none = by (w.seat == slot) refl
  where
    by : (b : Bool) → (w.seat == slot) ≡ b → (if b then true else has_write ws slot) ≡ false
    by true is = absurd (other (eqb-true w.seat slot is))
    by false is = none

has_own : {T : Type 0} (w : Write T) (ws : List (Write T)) → has_write (w ∷ ws) w.seat ≡ true
has_own w ws = ap (λ (b : Bool). if b then true else has_write ws w.seat) (eqb-refl w.seat)

pub noted_again : {T : Type 0} (s behind : Switch) (w : Write T) (ws : List (Write T)) (old new : List ℕ) →
    last_in (w ∷ ws) ≡ None → AreNoted s behind (w ∷ ws) old new → AreNoted s behind ws old new
noted_again s behind w ws old new passed noted = record {
  done = λ slot none.
      noted.done slot (has_none w ws slot
      (λ same. let again : has_write ws slot ≡ true = subst (λ (n : ℕ). has_write ws n ≡ true) same (later (has_write ws w.seat) refl passed) in
      absurd (cc (again, none))) none);
  left = λ slot some. noted.left slot (has_other w ws slot some);
}
  where
    later : (b : Bool) → has_write ws w.seat ≡ b → ◌≡◌ {A = Option ℕ} (if b then None else Some w.seat) None → has_write ws w.seat ≡ true
    later true is none = is
    later false is none = absurd (cc none)

pub noted_here : {T : Type 0} (s behind : Switch) (w : Write T) (ws : List (Write T)) (seat : ℕ) (old new new' : List ℕ) →
    last_in (w ∷ ws) ≡ Some seat → AreNoted s behind (w ∷ ws) old new →
    IsCountedOn (basis_at seat s) (basis_at seat behind) (slice_index new seat) (slice_index new' seat) →
    ((other : ℕ) → other ≢ seat → slice_index new' other ≡ slice_index new other) →
    AreNoted s behind ws old new'
noted_here s behind w ws seat old new new' is noted here others = by (has_write ws w.seat) refl is
  where
    by : (b : Bool) → has_write ws w.seat ≡ b → ◌≡◌ {A = Option ℕ} (if b then None else Some w.seat) (Some seat) → AreNoted s behind ws old new'
    by true later is = absurd (cc is)
    by false later is =
        let own : w.seat ≡ seat = cc is in
        let kept : slice_index new seat ≡ slice_index old seat = noted.left seat (subst (λ (n : ℕ). has_write (w ∷ ws) n ≡ true) own (has_own w ws)) in
        let counted : IsCountedOn (basis_at seat s) (basis_at seat behind) (slice_index old seat) (slice_index new' seat) =
        subst (λ (n : ℕ). IsCountedOn (basis_at seat s) (basis_at seat behind) n (slice_index new' seat)) kept here in
        record {
          done = λ slot none. at slot none (eqb slot seat) refl counted;
          left = λ slot some.
              others slot (λ same. let again : has_write ws seat ≡ true = subst (λ (n : ℕ). has_write ws n ≡ true) same some in
              let never : has_write ws seat ≡ false = subst (λ (n : ℕ). has_write ws n ≡ false) own later in absurd (cc (again, never)))
              ∙ noted.left slot (has_other w ws slot some);
        }
      where
        at : (slot : ℕ) → has_write ws slot ≡ false → (b : Bool) → eqb slot seat ≡ b →
            IsCountedOn (basis_at seat s) (basis_at seat behind) (slice_index old seat) (slice_index new' seat) →
            IsCountedOn (basis_at slot s) (basis_at slot behind) (slice_index old slot) (slice_index new' slot)
        at slot none true same counted =
            subst (λ (n : ℕ). IsCountedOn (basis_at n s) (basis_at n behind) (slice_index old n) (slice_index new' n)) (sym (eqb-true slot seat same)) counted
        at slot none false apart counted =
            let other : slot ≢ seat = λ same. absurd (cc (sym apart ∙ (ap (λ (n : ℕ). eqb n seat) same ∙ eqb-refl seat))) in
            let own : w.seat ≡ seat = cc is in
            subst (λ (n : ℕ). IsCountedOn (basis_at slot s) (basis_at slot behind) (slice_index old slot) n) (sym (others slot other))
            (noted.done slot (has_none w ws slot (λ same. other (sym same ∙ own)) none))

-- a seat past the last slot is counted as it is
pub noted_past : {T : Type 0} (s : Switch) (delta : Delta) (w : Write T) (ws : List (Write T)) (seat : ℕ) (old new : List ℕ) →
    last_in (w ∷ ws) ≡ Some seat → AreNoted s (after s delta) (w ∷ ws) old new → length s.channels ≤ seat →
    AreNoted s (after s delta) ws old new
noted_past s delta w ws seat old new is noted far =
    noted_here s (after s delta) w ws seat old new new is noted
    (stays_counted (basis_at seat s) (basis_at seat (after s delta)) _ _ (basis_past s delta seat far) refl) (λ other apart. refl)

-- ---- one channel

-- what a route rests on is told by the globals, and by who the channel is and what it has
basis_same : (g g' : Variables) (c d : Chan) → g ≡ g' → IsAs c d → basis_of g c ≡ basis_of g' d
basis_same g g' c d globals own =
    let uuid = own.uuid in let vars = own.vars in let profile = own.profile in cc

basis_is : (s : Switch) (slot : ℕ) (c : Chan) → routing_in (chan_at s slot) ≡ Some c → basis_at slot s ≡ Some (basis_of s.globals c)
basis_is s slot c is = ap (λ (found : Option Chan). option_map (basis_of s.globals) found) is

basis_none : (s : Switch) (slot : ℕ) → routing_in (chan_at s slot) ≡ None → basis_at slot s ≡ None
basis_none s slot is = ap (λ (found : Option Chan). option_map (basis_of s.globals) found) is

same_some : (x y : Basis) → ◌≡◌ {A = Option Basis} (Some x) (Some y) → x ≡ y
same_some x y e = cc e

-- two channels that are both to be routed
pub both_changed : (s s' : Switch) (slot : ℕ) (c d : Chan) (same alike : Bool) → routing_in (chan_at s slot) ≡ Some c →
    routing_in (chan_at s' slot) ≡ Some d → IsTrue same ↔ (s'.globals ≡ s.globals) → IsTrue alike ↔ IsAs c d →
    IsTrue (not (same && alike)) ↔ (basis_at slot s ≢ basis_at slot s')
both_changed s s' slot c d same alike here there globals own = (
  λ differs is.
      let e = same_some (basis_of s.globals c) (basis_of s'.globals d)
      (sym (basis_is s slot c here) ∙ (is ∙ basis_is s' slot d there)) in
      let known : same ≡ true = globals.1 (sym (ap (λ (b : Basis). b.globals) e)) in
      let told : alike ≡ true = own.1 (record {
        uuid = ap (λ (b : Basis). b.uuid) e;
        vars = ap (λ (b : Basis). b.vars) e;
        profile = ap (λ (b : Basis). b.profile) e;
      }) in
      absurd (by same alike known told differs),
  λ other. on same alike refl refl other,
)
  where
    by : (same alike : Bool) → same ≡ true → alike ≡ true → IsTrue (not (same && alike)) → ⊥
    by true true known told differs = absurd (cc differs)
    by true false known told differs = absurd (cc told)
    by false alike known told differs = absurd (cc known)

    on : (b b' : Bool) → same ≡ b → alike ≡ b' → basis_at slot s ≢ basis_at slot s' → IsTrue (not (b && b'))
    on true true is is' other =
        let told = own.0 is' in
        let g : s'.globals ≡ s.globals = globals.0 is in
        absurd
        (other (basis_is s slot c here
        ∙ (ap (λ (b : Basis). Some b) (basis_same s.globals s'.globals c d (sym g) told) ∙ sym (basis_is s' slot d there))))
    on true false is is' other = refl
    on false b' is is' other = refl

-- one of them is to be routed, or none
pub one_changed : (s s' : Switch) (slot : ℕ) (c : Chan) → routing_in (chan_at s slot) ≡ Some c → routing_in (chan_at s' slot) ≡ None →
    basis_at slot s ≢ basis_at slot s'
one_changed s s' slot c here there is =
    let e : ◌≡◌ {A = Option Basis} (Some (basis_of s.globals c)) None = sym (basis_is s slot c here) ∙ (is ∙ basis_none s' slot there) in
    absurd (cc e)

pub none_changed : (s s' : Switch) (slot : ℕ) (found : Option Chan) → routing_in (chan_at s slot) ≡ None → routing_in (chan_at s' slot) ≡ found →
    IsTrue (is_some found) ↔ (basis_at slot s ≢ basis_at slot s')
none_changed s s' slot None here there =
    (λ some is. absurd (cc some), λ other. absurd (other (basis_none s slot here ∙ sym (basis_none s' slot there))))
none_changed s s' slot (Some d) here there = (
  λ some is.
      let e : ◌≡◌ {A = Option Basis} None (Some (basis_of s'.globals d)) = sym (basis_none s slot here) ∙ (is ∙ basis_is s' slot d there) in
      absurd (cc e),
  λ other. refl,
)

-- ---- one slot after another

-- one slot more
pub counted_next : (s s' : Switch) (slot : ℕ) (old new new' : List ℕ) →
    ((k : ℕ) → k < slot → IsCountedOn (basis_at k s) (basis_at k s') (slice_index old k) (slice_index new k)) →
    ((k : ℕ) → slot ≤ k → slice_index new k ≡ slice_index old k) →
    IsCountedOn (basis_at slot s) (basis_at slot s') (slice_index new slot) (slice_index new' slot) →
    ((other : ℕ) → other ≢ slot → slice_index new' other ≡ slice_index new other) →
    (k : ℕ) → k < slot + 1 → IsCountedOn (basis_at k s) (basis_at k s') (slice_index old k) (slice_index new' k)
counted_next s s' slot old new new' done left here others k within = by (eqb k slot) refl
  where
    by : (b : Bool) → eqb k slot ≡ b → IsCountedOn (basis_at k s) (basis_at k s') (slice_index old k) (slice_index new' k)
    by true same =
        let e : k ≡ slot = eqb-true k slot same in
        let kept : slice_index new slot ≡ slice_index old slot = left slot (omega arith) in
        subst (λ (n : ℕ). IsCountedOn (basis_at n s) (basis_at n s') (slice_index old n) (slice_index new' n)) (sym e)
        (subst (λ (n : ℕ). IsCountedOn (basis_at slot s) (basis_at slot s') n (slice_index new' slot)) kept here)
    by false apart =
        let other : k ≢ slot = λ same. absurd (cc (sym apart ∙ (ap (λ (n : ℕ). eqb n slot) same ∙ eqb-refl slot))) in
        let below : k < slot = omega (arith, other, within) in
        subst (λ (n : ℕ). IsCountedOn (basis_at k s) (basis_at k s') (slice_index old k) n) (sym (others k other)) (done k below)

-- all slots are counted
pub all_counted : (s : Switch) (delta : Delta) (end : ℕ) (old new : List ℕ) → length s.channels ≤ end →
    ((k : ℕ) → k < end → IsCountedOn (basis_at k s) (basis_at k (after s delta)) (slice_index old k) (slice_index new k)) →
    ((k : ℕ) → end ≤ k → slice_index new k ≡ slice_index old k) →
    AreCountedOn s (after s delta) old new
all_counted s delta end old new past done left slot = by (leb end slot) refl
  where
    by : (b : Bool) → leb end slot ≡ b → IsCountedOn (basis_at slot s) (basis_at slot (after s delta)) (slice_index old slot) (slice_index new slot)
    by true is =
        let far : end ≤ slot = leb-true end slot is in
        stays_counted (basis_at slot s) (basis_at slot (after s delta)) _ _ (basis_past s delta slot (omega (arith, past, far))) (left slot far)
    by false is = done slot (leb-false end slot is)

-- ---- one write after another

front_write : {T : Type 0} (ws : List (Write T)) (at : ℕ) → at < length ws → (w : Write T) × (drop at ws ≡ w ∷ drop (suc at) ws)
front_write [] at within = absurd (omega (arith, within))
front_write (w ∷ ws) zero within = (w, refl)
front_write (w ∷ ws) (suc at) within = front_write ws at (omega (arith, within))

pub write_passed : {T : Type 0} (s behind : Switch) (ws : List (Write T)) (at : ℕ) (old new : List ℕ) → at < length ws →
    last_of ws at ≡ None → AreNoted s behind (drop at ws) old new → AreNoted s behind (drop (at + 1) ws) old new
write_passed s behind ws at old new within passed noted =
    let front = front_write ws at within in
    rw (add-one) (noted_again s behind front.0 (drop (suc at) ws) old new (sym (ap last_in front.1) ∙ passed) (rw front.1 at noted))

pub write_noted : {T : Type 0} (s behind : Switch) (ws : List (Write T)) (at seat : ℕ) (old new new' : List ℕ) → at < length ws →
    last_of ws at ≡ Some seat → AreNoted s behind (drop at ws) old new →
    IsCountedOn (basis_at seat s) (basis_at seat behind) (slice_index new seat) (slice_index new' seat) →
    ((other : ℕ) → other ≢ seat → slice_index new' other ≡ slice_index new other) →
    AreNoted s behind (drop (at + 1) ws) old new'
write_noted s behind ws at seat old new new' within last noted here others =
    let front = front_write ws at within in
    rw (add-one)
    (noted_here s behind front.0 (drop (suc at) ws) seat old new new' (sym (ap last_in front.1) ∙ last) (rw front.1 at noted) here others)

pub write_past : {T : Type 0} (s : Switch) (delta : Delta) (ws : List (Write T)) (at seat : ℕ) (old new : List ℕ) → at < length ws →
    last_of ws at ≡ Some seat → AreNoted s (after s delta) (drop at ws) old new → length s.channels ≤ seat →
    AreNoted s (after s delta) (drop (at + 1) ws) old new
write_past s delta ws at seat old new within last noted far =
    let front = front_write ws at within in
    rw (add-one) (noted_past s delta front.0 (drop (suc at) ws) seat old new (sym (ap last_in front.1) ∙ last) (rw front.1 at noted) far)

-- no write is left
pub all_noted : {T : Type 0} (s behind : Switch) (ws : List (Write T)) (at : ℕ) (old new : List ℕ) → length ws ≤ at →
    AreNoted s behind (drop at ws) old new → AreCountedOn s behind old new
all_noted s behind ws at old new past noted slot = noted.done slot (ap (λ (left : List (Write _)). has_write left slot) (none_left ws at past))
  where
    none_left : {T : Type 0} (ws : List (Write T)) (at : ℕ) → length ws ≤ at → drop at ws ≡ []
    none_left [] zero past = refl
    none_left [] (suc at) past = refl
    none_left (w ∷ ws) zero past = absurd (omega (arith, past))
    none_left (w ∷ ws) (suc at) past = none_left ws at (omega (arith, past))
