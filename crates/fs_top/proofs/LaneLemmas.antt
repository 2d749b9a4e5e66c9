-- What a lane keeps of its connections where its pass goes on.
use Rattle.std.proofs.Common.{◌≡◌, ◌≢◌, ℕ, zero, suc, ◌<◌, ◌≤◌, ◌⊎◌, inl, inr, Bool, List, [], ◌∷◌, ◌++◌, length, Option, None, Some, refl, sym}
use Rattle.std.proofs.Common.{ap, subst, ◌∙◌, cond, eqb, arith, append_assoc, append-nil, length-append}
use Rattle.std.specs.Prelude.{slice_get, slice_index_or, take, map, if◌then◌else◌, false}
use Rattle.std.specs.List.{All, AllByRecursion, Contains}
use Rattle.std.proofs.lemmas.Bool.{cases_eq}
use Rattle.std.proofs.lemmas.Bool.Decides.{nat_tests}
use Rattle.std.proofs.lemmas.Option.{none-some, same_Some}
use Rattle.std.proofs.lemmas.List.Elements.{All-push, Contains-append_left, Contains-append_right}
use Rattle.std.proofs.lemmas.List.{map-append}
use mathlib.Core.List.{IsPrefix}
use mathlib.Core.Logic.{dite}
use mathlib.Core.Option.{some}
use lib.ListN.{get_elem?}
use native.Mathlib.Decide.{dec_lt}
use Rattle.fs_doc.specs.Reading.{Configuration}
use Rattle.fs_ports.specs.Ports.{Input, Output, IsNewLink}
use Rattle.fs_book.specs.Counts.{times}
use Rattle.fs_book.specs.Numbered.{count_behind, by_history_once}
use Rattle.fs_book.specs.Opened.{OpensAt, Owned, Quiet}
use Rattle.fs_book.proofs.Lists.{prefix_trans, prefix_get, prefix_got, prefix_take, last_get, last_take, times_before, times_push, total_append}
use Rattle.fs_book.proofs.Opening.{opens_up, owns_up}
use Rattle.fs_book.proofs.Quiets.{quiet_places, quiet_owned}
use Rattle.fs_machine.specs.declared.entry.Entry.{Entry}
use Rattle.fs_machine.specs.declared.entry.Act.{Act}
use Rattle.fs_machine.specs.declared.entry.Act.TheVariants.{Arrive, Command, Take, Close, Dialed, Work, Job, Loaded, Halt}
use Rattle.fs_machine.specs.declared.note.LoadNote.{LoadNote}
use Rattle.fs_machine.specs.Concerns.{actor_of}
use Rattle.fs_machine.specs.Loading.{IsBuiltAsNoted}
use Rattle.fs_machine.specs.declared.reply.Reply.{Reply}
use Rattle.fs_machine.specs.Turned.{IsJournal, Answers, opens, names, comes_by, comes_after}
use Rattle.fs_conn.specs.declared.end.End.{End}
use Rattle.fs_conn.specs.Owning.{OwnsConn, entry_at}
use Rattle.fs_conn.specs.Talks.{Told, Gains, MadeAt}
use Rattle.fs_conn.proofs.ToldLemmas.{told_up}
use Rattle.fs_session.specs.declared.actor.Actor.{Actor}
use Rattle.fs_session.specs.declared.actor.Actor.TheVariants.{Slot, Jobs}
use Rattle.fs_session.specs.declared.worked.Worked.{Worked}
use Rattle.fs_session.specs.declared.worked.Worked.TheVariants.{Did, Idle, Talk, Load, Stopped, Refused}
use Rattle.fs_session.specs.Loading.{Store, LoadsOnce}
use Rattle.fs_session.specs.Working.{Works, Stays, Gained, IsTurnOf}
use Rattle.fs_state.specs.Switch.{Switch, empty}
use Rattle.fs_machine.specs.Laws.{state_after}
use Rattle.fs_machine.proofs.RunLemmas.{is_run_more}
use Rattle.fs_top.specs.declared.conns.Conn.{Conn}
use Rattle.fs_top.specs.Lanes.{IsHeld, IsServed, AreAll, AreOnce, AreAllowed, IsNotedWell, Enters, Keeps, number_of}

-- a place of two lists together stands in one of them
pub times_either : (p : ℕ) (front back : List ℕ) → 0 < times p (front ++ back) → (0 < times p front) ⊎ (0 < times p back)
times_either p [] back has = inr has
times_either p (q ∷ front) back has = by (times p (q ∷ [])) refl (times_either p front back)
  where
    more : (0 < times p front) ⊎ (0 < times p back) → (0 < times p (q ∷ front)) ⊎ (0 < times p back)
    more (inl in_front) = inl (omega (arith, in_front))
    more (inr in_back) = inr in_back

    by : (n : ℕ) → times p (q ∷ []) ≡ n → (0 < times p (front ++ back) → (0 < times p front) ⊎ (0 < times p back)) →
        (0 < times p (q ∷ front)) ⊎ (0 < times p back)
    by zero is rest = more (rest (omega (arith, has, is)))
    by (suc n) is rest = inl (omega (arith, is))

pub times_front : (p : ℕ) (front back : List ℕ) → 0 < times p front → 0 < times p (front ++ back)
times_front p [] back has = absurd (omega (arith, has))
times_front p (q ∷ front) back has = by (times p front) refl (times_front p front back)
  where
    by : (n : ℕ) → times p front ≡ n → (0 < times p front → 0 < times p (front ++ back)) → 0 < times p ((q ∷ front) ++ back)
    by zero is rest = omega (arith, has, is)
    by (suc n) is rest = let more = rest (omega (arith, is)) in omega (arith, more)

-- a pass that goes on: its own places are more, and those of the passes that were met into it are as they were
module _ (config : Configuration) (start : Option Configuration) (is : start ≡ Some config) (seen seen' : List Entry)
    (mine gained : List ℕ) (met : List (List ℕ)) (front : IsPrefix seen seen')
    (below : (k : ℕ) (l : List ℕ) → get_elem? (mine ∷ met) k ≡ some l → (p : ℕ) → 0 < times p l → p < length seen)
    (owned : Owned opens names start ((mine ++ gained) ∷ met) seen') (number : ℕ)
    (apart : (p : ℕ) (entry : Entry) → 0 < times p gained → slice_get seen' p ≡ Some entry → names entry ≢ Some number) where
  pub held_on : IsHeld config seen (mine ∷ met) number → IsHeld config seen' ((mine ++ gained) ∷ met) number
  held_on held = by held.at held.there
    where
      by : (k : ℕ) → get_elem? (mine ∷ met) k ≡ some held.places → IsHeld config seen' ((mine ++ gained) ∷ met) number
      by zero there =
          let same : mine ≡ held.places = cc there in
          let own = owns_up opens config number seen seen' held.places front held.owns in record {
            at = 0;
            places = mine ++ gained;
            there = refl;
            owns = (
              own.0,
              times_front own.0 mine gained (subst (λ (ps : List ℕ). 0 < times own.0 ps) (sym same) own.1),
              own.2,
            );
          }
      by (suc k) there = record {
        at = suc k;
        places = held.places;
        there = there;
        owns = owns_up opens config number seen seen' held.places front held.owns;
      }

  pub quiet_on : IsHeld config seen (mine ∷ met) number → Quiet names number seen seen'
  quiet_on held = by held.at held.there
    where
      by : (k : ℕ) → get_elem? (mine ∷ met) k ≡ some held.places → Quiet names number seen seen'
      by zero there =
          let same : mine ≡ held.places = cc there in
          let own = owns_up opens config number seen seen' held.places front held.owns in
          quiet_places names number seen seen' front
          (λ p named.
          elim (times_either p mine gained
          (owned config is 0 (mine ++ gained) refl own.0 number
          (times_front own.0 mine gained (subst (λ (ps : List ℕ). 0 < times own.0 ps) (sym same) own.1)) own.2 p named))
          [ inl old ↦ below 0 mine refl p old | inr new ↦ absurd (apart p named.0 new named.1 named.2) ])
      by (suc k) there =
          quiet_owned opens names config number start ((mine ++ gained) ∷ met) (suc k) held.places seen seen' is there front
          (below (suc k) held.places there) owned held.owns

  -- a connection that was served is told so in what the pass sees then
  pub served_on : (stays : (in0 : Input) (out0 : Output) (in1 : Input) (out1 : Output) (end : End) → Quiet names number seen seen' →
      Told config number in0 out0 seen in1 out1 end → Told config number in0 out0 seen' in1 out1 end) → (input : Input) (output : Output)
      (end : End) → IsServed config seen (mine ∷ met) number input output end →
      IsServed config seen' ((mine ++ gained) ∷ met) number input output end
  served_on stays input output end served = record {
    held = held_on served.held;
    input0 = served.input0;
    output0 = served.output0;
    is_new = served.is_new;
    told = stays served.input0 served.output0 input output end (quiet_on served.held) served.told;
  }

-- ---- numbers that stand among others

counts_same : (p q : ℕ) → p ≡ q → ◌≡◌ {A = ℕ} (cond (eqb p q) 1 0) 1
counts_same p q same = grind (arith, nat_tests)

counts_other : (p q : ℕ) → p ≢ q → ◌≡◌ {A = ℕ} (cond (eqb p q) 1 0) 0
counts_other p q differs = grind (arith, nat_tests)

-- a number that none of these connections has stands nowhere among their numbers
pub times_none : {L : Type 0} (number : ℕ) (conns : List (Conn L)) → All (λ conn. conn.number ≢ number) conns →
    times number (map number_of conns) ≡ 0
times_none number [] none = refl
times_none number (conn ∷ conns) none =
    let rest = times_none number conns (λ k d inside. none (suc k) d (omega (arith, inside))) in
    let here = counts_other conn.number number (none 0 conn (omega arith)) in omega (arith, rest, here)

-- ---- places that were gained

eq_or_not : (p q : ℕ) → 0 < times p (q ∷ []) → q ≡ p
eq_or_not p q has =
    elim (cases_eq q p) [ inl same ↦ same | inr differ ↦ absurd (omega (arith, times_before p q [] (λ same. differ (sym same)) has)) ]

-- what holds of each of these places holds of one of them
each_of : (P : ℕ → Type 0) (places : List ℕ) → AllByRecursion P places → (p : ℕ) → 0 < times p places → P p
each_of P [] each p has = absurd (omega (arith, has))
each_of P (q ∷ places) each p has =
    elim (times_either p (q ∷ []) places has)
    [ inl here ↦ subst P (eq_or_not p q here) each.0 | inr later ↦ each_of P places each.1 p later ]

opens_down : (config : Configuration) (seen seen' : List Entry) (p number : ℕ) → IsPrefix seen seen' → p < length seen →
    OpensAt opens config seen' p number → OpensAt opens config seen p number
opens_down config seen seen' p number front inside opened = (
  opened.0,
  prefix_got seen seen' p opened.0 front inside opened.1,
  ap (λ (log : List Entry). opens config log opened.0) (sym (prefix_take seen seen' p front (omega (arith, inside)))) ∙ opened.2,
)

module _ (config : Configuration) (seen seen' : List Entry) (mine gained : List ℕ) (met : List (List ℕ)) (front : IsPrefix seen seen')
    (below : (k : ℕ) (l : List ℕ) → get_elem? (mine ∷ met) k ≡ some l → (p : ℕ) → 0 < times p l → p < length seen) where
  -- a place of a list of the pass is one of before, or was gained
  place_of : (k : ℕ) (places : List ℕ) → get_elem? ((mine ++ gained) ∷ met) k ≡ some places → (p : ℕ) → 0 < times p places →
      ((j : ℕ) × (l : List ℕ) × (get_elem? (mine ∷ met) j ≡ some l) × (0 < times p l)) ⊎ (0 < times p gained)
  place_of zero places there p has =
      let same : mine ++ gained ≡ places = cc there in
      elim (times_either p mine gained (subst (λ (ps : List ℕ). 0 < times p ps) (sym same) has))
      [ inl old ↦ inl (0, mine, refl, old) | inr new ↦ inr new ]
  place_of (suc k) places there p has = inl (suc k, places, there, has)

  pub all_on : (numbers numbers' : List ℕ) → ((n : ℕ) → Contains numbers n → Contains numbers' n) →
      AreAll config seen (mine ∷ met) numbers
      → ((p n : ℕ) → 0 < times p gained → OpensAt opens config seen' p n → Contains numbers' n)
      → AreAll config seen' ((mine ++ gained) ∷ met) numbers'
  all_on numbers numbers' more all new k places there p n has opened =
      elim (place_of k places there p has) [
        | inl old ↦
            more n (all old.0 old.1 old.2 p n old.3
            (opens_down config seen seen' p n front (below old.0 old.1 old.2 p old.3) opened))
        | inr is_new ↦ new p n is_new opened
      ]

  pub allowed_on : (may : Entry → Type 0) → AreAllowed config seen (mine ∷ met) may →
      ((p : ℕ) (entry : Entry) → 0 < times p gained → slice_get seen' p ≡ Some entry → may entry)
      → AreAllowed config seen' ((mine ++ gained) ∷ met) may
  allowed_on may allowed new k places there p entry has at =
      elim (place_of k places there p has) [
        | inl old ↦
            allowed old.0 old.1 old.2 p entry old.3 (prefix_got seen seen' p entry front (below old.0 old.1 old.2 p old.3) at)
        | inr is_new ↦ new p entry is_new at
      ]

  -- a place that the pass had not seen opens no number of these connections
  pub once_on : {L : Type 0} (conns : List (Conn L)) → All (λ conn. IsHeld config seen (mine ∷ met) conn.number) conns →
      AreOnce config seen (mine ∷ met) (map number_of conns)
      → AreOnce config seen' ((mine ++ gained) ∷ met) (map number_of conns)
  once_on conns held once p number opened =
      dite (dec_lt p (length seen))
      (λ inside.
      let least = once p number (opens_down config seen seen' p number front inside opened) in
      let joined = total_append (λ (q : ℕ). cond (eqb q p) 1 0) mine gained in omega (arith, least, joined))
      (λ outside.
      let none = times_none number conns
      (λ k d here same.
      let c = slice_index_or conns k d in
      let h = held k d here in
      let q = h.owns.0 in
      let inside = below h.at h.places h.there q h.owns.1 in
      let its = subst (λ n. OpensAt opens config seen' q n) same (opens_up opens config seen seen' q c.number front h.owns.2) in
      let one : q ≡ p = by_history_once comes_after config seen' q p number its opened in omega (arith, inside, one, outside)) in
      omega (arith, none))

-- ---- a link that is served from its coming to its end

abbrev opened_where : Configuration → Bool → List Entry → Option ℕ
opened_where config test log = if test then Some (suc (count_behind (comes_after config) [] log)) else None

opens_none : (config : Configuration) (act : Act) (log : List Entry) (conn n : ℕ) → actor_of act ≡ Some conn →
    opened_where config (comes_by act (state_after config log)) log ≢ Some n
opens_none config Arrive log conn n named opened = absurd (cc named)
opens_none config (Command c block) log conn n named opened = absurd (cc opened)
opens_none config (Take c) log conn n named opened = absurd (cc opened)
opens_none config (Close c how) log conn n named opened = absurd (cc opened)
opens_none config (Dialed slot linked) log conn n named opened = absurd (cc named)
opens_none config (Work slot) log conn n named opened = absurd (cc named)
opens_none config (Job number) log conn n named opened = absurd (cc named)
opens_none config (Loaded number note) log conn n named opened = absurd (cc named)
opens_none config Halt log conn n named opened = absurd (cc named)

-- an entry that names a connection opens none
named_opens_none : (config : Configuration) (log : List Entry) (entry : Entry) (conn n : ℕ) → names entry ≡ Some conn →
    opens config log entry ≢ Some n
named_opens_none config log entry conn n named opened = opens_none config entry.act log conn n named opened

-- an act of a connection notes no load
named_noted : (conn : ℕ) (done : Act) → actor_of done ≡ Some conn → IsNotedWell done
named_noted conn Arrive named = tt
named_noted conn (Command c block) named = tt
named_noted conn (Take c) named = tt
named_noted conn (Close c how) named = tt
named_noted conn (Dialed slot linked) named = tt
named_noted conn (Work slot) named = tt
named_noted conn (Job number) named = tt
named_noted conn (Loaded number note) named = absurd (none-some conn named)
named_noted conn Halt named = tt

-- what a served link leaves, whose connection came by an entry of the pass
module _ (may : ℕ → Type 0) (halts : Type 0) (own : Option Actor) (config : Configuration) (start : Option Configuration)
    (is : start ≡ Some config) (seen seen' seen'' : List Entry) (mine mine' mine'' : List ℕ) (met : List (List ℕ))
    (below : (k : ℕ) (l : List ℕ) → get_elem? (mine ∷ met) k ≡ some l → (p : ℕ) → 0 < times p l → p < length seen) (conn : ℕ)
    (before : List Entry) (coming : Entry) (front : IsPrefix seen before) (sees : seen' ≡ before ++ coming ∷ [])
    (more : mine' ≡ mine ++ length before ∷ []) (opened_by : opens config before coming ≡ Some conn) (unnamed : names coming ≡ None)
    (entered : Enters may halts own coming) (later : IsPrefix seen' seen'') (gains : Gains may conn mine' seen'' mine'')
    (owned : Owned opens names start (mine'' ∷ met) seen'') where
  abbrev place : ℕ
  place = length before

  abbrev gained : List ℕ
  gained = place ∷ gains.places

  all_mine : mine'' ≡ mine ++ gained
  all_mine = gains.more ∙ (ap (λ (ps : List ℕ). ps ++ gains.places) more ∙ append_assoc mine (place ∷ []) gains.places)

  whole : IsPrefix seen seen''
  whole =
      prefix_trans seen seen' seen''
      (prefix_trans seen before seen' front (coming ∷ [], sym sees)) later

  coming_at : slice_get seen'' place ≡ Some coming
  coming_at =
      prefix_get seen' seen'' place coming later
      (ap (λ (log : List Entry). slice_get log place) sees ∙ last_get before coming)

  taken : take place seen'' ≡ before
  taken =
      prefix_take seen' seen'' place later
      (subst (λ (log : List Entry). place ≤ length log) (sym sees)
      (omega (arith, length-append before (coming ∷ []))))
      ∙ (ap (λ (log : List Entry). take place log) sees ∙ last_take before coming)

  abbrev opened_at : OpensAt opens config seen'' place conn
  opened_at = (
    coming,
    coming_at,
    ap (λ (log : List Entry). opens config log coming) taken ∙ opened_by,
  )

  times_gained : (p : ℕ) → 0 < times p gained → (place ≡ p) ⊎ MadeAt may conn seen'' p
  times_gained p has =
      elim (times_either p (place ∷ []) gains.places has)
      [ inl here ↦ inl (eq_or_not p place here) | inr there ↦ inr (each_of (MadeAt may conn seen'') gains.places gains.each p there) ]

  is_coming : (p : ℕ) (entry : Entry) → place ≡ p → slice_get seen'' p ≡ Some entry → coming ≡ entry
  is_coming p entry here at =
      same_Some coming entry (sym coming_at ∙ (ap (λ q. slice_get seen'' q) here ∙ at))

  owned_all : Owned opens names start ((mine ++ gained) ∷ met) seen''
  owned_all = subst (λ (ps : List ℕ). Owned opens names start (ps ∷ met) seen'') all_mine owned

  -- a connection that the lane served before is another one
  other : (number : ℕ) → IsHeld config seen (mine ∷ met) number → number ≢ conn
  other number held same =
      let q = held.owns.0 in
      let inside = below held.at held.places held.there q held.owns.1 in
      let opened = subst (λ n. OpensAt opens config seen'' q n) same (opens_up opens config seen seen'' q number whole held.owns.2) in
      let once : q ≡ place = by_history_once comes_after config seen'' q place conn opened opened_at in
      let lasts = ap length front.1 in
      let joined = length-append seen front.0 in omega (arith, inside, once, lasts, joined)

  apart : (number : ℕ) → number ≢ conn → (p : ℕ) (entry : Entry) → 0 < times p gained → slice_get seen'' p ≡ Some entry →
      names entry ≢ Some number
  apart number differs p entry has at named =
      elim (times_gained p has) [
        | inl here ↦ absurd (none-some number (sym unnamed ∙ (ap names (is_coming p entry here at) ∙ named)))
        | inr made ↦
            let same : made.0 ≡ entry = same_Some made.0 entry (sym made.1 ∙ at) in
            absurd (differs (same_Some number conn (sym named ∙ (sym (ap names same) ∙ made.2))))
      ]

  new_numbers : (numbers : List ℕ) (p n : ℕ) → 0 < times p gained → OpensAt opens config seen'' p n → Contains (numbers ++ conn ∷ []) n
  new_numbers numbers p n has opened =
      elim (times_gained p has) [
        | inl here ↦
            let same = is_coming p opened.0 here opened.1 in
            let number_is : ◌≡◌ {A = Option ℕ} (Some conn) (Some n) =
            sym opened_at.2
            ∙ (ap (λ q. opens config (take q seen'') coming) here
            ∙ (ap (λ (e : Entry). opens config (take p seen'') e) same ∙ opened.2)) in
            Contains-append_right numbers (conn ∷ []) n (0, omega arith, same_Some conn n number_is)
        | inr made ↦
            let same : made.0 ≡ opened.0 = same_Some made.0 opened.0 (sym made.1 ∙ opened.1) in
            absurd (named_opens_none config (take p seen'') opened.0 conn n (sym (ap names same) ∙ made.2) opened.2)
      ]

  new_allowed : (p : ℕ) (entry : Entry) → 0 < times p gained → slice_get seen'' p ≡ Some entry → Enters may halts own entry
  new_allowed p entry has at =
      elim (times_gained p has) [
        | inl here ↦ subst (λ (e : Entry). Enters may halts own e) (is_coming p entry here at) entered
        | inr made ↦
            let same : made.0 ≡ entry = same_Some made.0 entry (sym made.1 ∙ at) in
            subst (λ (e : Entry). Enters may halts own e) same (
              (made.3, λ halted. absurd (none-some conn (sym (ap actor_of halted) ∙ made.2)), named_noted conn made.0.act made.2),
              λ slot linked dialed. absurd (none-some conn (sym (ap actor_of dialed) ∙ made.2)),
              λ job note loaded. absurd (none-some conn (sym (ap actor_of loaded) ∙ made.2)),
            )
      ]

  -- what fails for the entry by which it came, and for each that names it, fails at all places that were gained
  pub gained_fails : (test : Entry → Bool) → test coming ≡ false → ((entry : Entry) → names entry ≡ Some conn → test entry ≡ false) →
      (p : ℕ) (entry : Entry) → 0 < times p (mine ++ gained) → (0 < times p mine → ⊥) → slice_get seen'' p ≡ Some entry →
      test entry ≡ false
  gained_fails test first others p entry has old at =
      elim (times_either p mine gained has) [
        | inl before ↦ absurd (old before)
        | inr new ↦
            elim (times_gained p new) [
              | inl here ↦ ap test (sym (is_coming p entry here at)) ∙ first
              | inr made ↦ others entry (ap names (sym (same_Some made.0 entry (sym made.1 ∙ at))) ∙ made.2)
            ]
      ]

  -- the number of the new connection stands among them once
  new_once : {L : Type 0} (conns : List (Conn L)) → All (λ conn. IsHeld config seen (mine ∷ met) conn.number) conns →
      AreOnce config seen (mine ∷ met) (map number_of conns)
      → AreOnce config seen'' ((mine ++ gained) ∷ met) (map number_of conns ++ conn ∷ [])
  new_once conns held once p number opened =
      let most = once_on config seen seen'' mine gained met whole below conns held once p number opened in
      let pushed = times_push number conn (map number_of conns) in
      elim (cases_eq conn number) [
        | inl same ↦
            let none =
            times_none number conns (λ k d here is. other (slice_index_or conns k d).number (held k d here) (is ∙ sym same)) in
            let one : p ≡ place =
            by_history_once comes_after config seen'' p place conn (subst (λ n. OpensAt opens config seen'' p n) (sym same) opened) opened_at in
            let joined = total_append (λ (q : ℕ). cond (eqb q p) 1 0) mine gained in
            let here = counts_same place p (sym one) in
            let there = counts_same conn number same in omega (arith, pushed, none, joined, here, there)
        | inr differ ↦ let there = counts_other conn number differ in omega (arith, most, pushed, there)
      ]

  -- the lane keeps those that it served, and the new one
  pub keeps_served : {L : Type 0} (input : L → Input) (output : L → Output) (conns : List (Conn L)) (new : Conn L) (in0 : Input)
      (out0 : Output) (in1 : Input) (out1 : Output) → conn ≡ new.number → input new.link ≡ in1 → output new.link ≡ out1
      → Keeps input output (Enters may halts own) config seen (mine ∷ met) conns → IsNewLink in0 out0
      → IsJournal config seen'' → OwnsConn config conn seen'' mine''
      → Told config conn in0 out0 seen'' in1 out1 new.end
      → Keeps input output (Enters may halts own) config seen'' (mine'' ∷ met) (conns ++ new ∷ [])
  keeps_served input output conns new in0 out0 in1 out1 number input_is output_is keeps is_new run owns told =
      subst (λ (ps : List ℕ). Keeps input output (Enters may halts own) config seen'' (ps ∷ met) (conns ++ new ∷ [])) (sym all_mine) (record {
        run = run;
        served =
            All-push
            (λ c. IsServed config seen'' ((mine ++ gained) ∷ met) c.number (input c.link) (output c.link) c.end) conns new
            (λ k d inside.
            let c = slice_index_or conns k d in
            let was = keeps.served k d inside in
            served_on config start is seen seen'' mine gained met whole below owned_all c.number
            (apart c.number (other c.number was.held))
            (λ i o i' o' end quiet before. told_up config c.number i o seen seen'' i' o' end run quiet before) (input c.link) (output c.link)
            c.end was)
            (subst (λ n. IsServed config seen'' ((mine ++ gained) ∷ met) n (input new.link) (output new.link) new.end) number
            (record {
              held = record {
                at = 0;
                places = mine ++ gained;
                there = refl;
                owns = subst (λ (ps : List ℕ). OwnsConn config conn seen'' ps) all_mine owns;
              };
              input0 = in0;
              output0 = out0;
              is_new = is_new;
              told =
                  subst (λ i. Told config conn in0 out0 seen'' i (output new.link) new.end) (sym input_is)
                  (subst (λ o. Told config conn in0 out0 seen'' in1 o new.end) (sym output_is) told);
            }));
        all =
            subst (λ (ns : List ℕ). AreAll config seen'' ((mine ++ gained) ∷ met) ns)
            (ap (λ n. map number_of conns ++ n ∷ []) number ∙ sym (map-append number_of conns (new ∷ [])))
            (all_on config seen seen'' mine gained met whole below (map number_of conns) (map number_of conns ++ conn ∷ [])
            (λ n there. Contains-append_left (map number_of conns) (conn ∷ []) n there) keeps.all (new_numbers (map number_of conns)));
        once =
            subst (λ (ns : List ℕ). AreOnce config seen'' ((mine ++ gained) ∷ met) ns)
            (ap (λ n. map number_of conns ++ n ∷ []) number ∙ sym (map-append number_of conns (new ∷ [])))
            (new_once conns (λ k d inside. (keeps.served k d inside).held) keeps.once);
        allowed = allowed_on config seen seen'' mine gained met whole below (Enters may halts own) keeps.allowed new_allowed;
      })

-- what may be entered by a lane may be entered by one that may enter more
pub keeps_may : {L : Type 0} (input : L → Input) (output : L → Output) (may may' : Entry → Type 0) (config : Configuration)
    (seen : List Entry) (lists : List (List ℕ)) (conns : List (Conn L)) → ((entry : Entry) → may entry → may' entry)
    → Keeps input output may config seen lists conns → Keeps input output may' config seen lists conns
keeps_may input output may may' config seen lists conns more keeps = record {
  run = keeps.run;
  served = keeps.served;
  all = keeps.all;
  once = keeps.once;
  allowed = λ k places there p entry has at. more entry (keeps.allowed k places there p entry has at);
}

-- the same connections, as they stand in another list, are kept
pub keeps_same : {L : Type 0} (input : L → Input) (output : L → Output) (may : Entry → Type 0) (config : Configuration) (seen : List Entry)
    (lists : List (List ℕ)) (conns conns' : List (Conn L)) → conns' ≡ conns → Keeps input output may config seen lists conns
    → Keeps input output may config seen lists conns'
keeps_same {L} input output may config seen lists conns conns' same keeps =
    subst (λ (cs : List (Conn L)). Keeps input output may config seen lists cs) (sym same) keeps

-- a lane that entered nothing keeps what it kept
pub keeps_away : {L : Type 0} (input : L → Input) (output : L → Output) (may : Entry → Type 0) (config : Configuration)
    (start : Option Configuration) (seen seen' : List Entry) (mine : List ℕ) (met : List (List ℕ)) (conns : List (Conn L)) →
    start ≡ Some config → IsPrefix seen seen'
    → ((k : ℕ) (l : List ℕ) → get_elem? (mine ∷ met) k ≡ some l → (p : ℕ) → 0 < times p l → p < length seen)
    → Owned opens names start (mine ∷ met) seen' → IsJournal config seen' → Keeps input output may config seen (mine ∷ met) conns
    → Keeps input output may config seen' (mine ∷ met) conns
keeps_away input output may config start seen seen' mine met conns is front below owned run keeps =
    let same : mine ++ [] ≡ mine = append-nil mine in
    let owned' = subst (λ (ps : List ℕ). Owned opens names start (ps ∷ met) seen') (sym same) owned in
    subst (λ (ps : List ℕ). Keeps input output may config seen' (ps ∷ met) conns) same (record {
      run = run;
      served =
          λ k d inside.
          let c = slice_index_or conns k d in
          served_on config start is seen seen' mine [] met front below owned' c.number (λ p entry has. absurd (omega (arith, has)))
          (λ i o i' o' end quiet before. told_up config c.number i o seen seen' i' o' end run quiet before) (input c.link)
          (output c.link) c.end (keeps.served k d inside);
      all =
          all_on config seen seen' mine [] met front below (map number_of conns) (map number_of conns) (λ n there. there) keeps.all
          (λ p n has. absurd (omega (arith, has)));
      once = once_on config seen seen' mine [] met front below conns (λ k d inside. (keeps.served k d inside).held) keeps.once;
      allowed = allowed_on config seen seen' mine [] met front below may keeps.allowed (λ p entry has. absurd (omega (arith, has)));
    })

-- the same, where its lists are told to be as they were
pub keeps_looked : {L : Type 0} (input : L → Input) (output : L → Output) (may : Entry → Type 0) (config : Configuration)
    (start : Option Configuration) (seen seen' : List Entry) (mine mine' : List ℕ) (met met' : List (List ℕ)) (conns : List (Conn L)) →
    start ≡ Some config → IsPrefix seen seen' → mine' ≡ mine → met' ≡ met
    → ((k : ℕ) (l : List ℕ) → get_elem? (mine ∷ met) k ≡ some l → (p : ℕ) → 0 < times p l → p < length seen)
    → Owned opens names start (mine' ∷ met') seen' → IsJournal config seen' → Keeps input output may config seen (mine ∷ met) conns
    → Keeps input output may config seen' (mine' ∷ met') conns
keeps_looked input output may config start seen seen' mine mine' met met' conns is front mine_is met_is below owned run keeps =
    subst (λ (ms : List (List ℕ)). Keeps input output may config seen' (mine' ∷ ms) conns) (sym met_is)
    (subst (λ (ps : List ℕ). Keeps input output may config seen' (ps ∷ met) conns) (sym mine_is)
    (keeps_away input output may config start seen seen' mine met conns is front below
    (subst (λ (ps : List ℕ). Owned opens names start (ps ∷ met) seen') mine_is
    (subst (λ (ms : List (List ℕ)). Owned opens names start (mine' ∷ ms) seen') met_is owned)) run keeps))

-- ---- an entry that concerns no connection

one_place : (p place : ℕ) (log log' : List Entry) (entry entry' : Entry) → log' ≡ log ++ entry ∷ [] → place ≡ length log →
    0 < times p (place ∷ []) → slice_get log' p ≡ Some entry' → entry ≡ entry'
one_place p place log log' entry entry' sees at has there =
    let here : length log ≡ p = sym at ∙ eq_or_not p place has in
    same_Some entry entry'
    (sym (last_get log entry) ∙ (ap (λ (l : List Entry). slice_get l (length log)) (sym sees) ∙ (ap (λ q. slice_get log' q) here ∙ there)))

taken_before : (p place : ℕ) (log log' : List Entry) (entry : Entry) → log' ≡ log ++ entry ∷ [] → place ≡ length log →
    0 < times p (place ∷ []) → take p log' ≡ log
taken_before p place log log' entry sees at has =
    let here : p ≡ length log = sym (eq_or_not p place has) ∙ at in
    ap (λ (n : ℕ). take n log') here ∙ (ap (λ (l : List Entry). take (length log) l) sees ∙ last_take log entry)

-- a lane that entered one such entry keeps what it kept
pub keeps_entered : {L : Type 0} (input : L → Input) (output : L → Output) (may : Entry → Type 0) (config : Configuration)
    (start : Option Configuration) (seen before seen' : List Entry) (mine mine' : List ℕ) (met : List (List ℕ)) (conns : List (Conn L))
    (place : ℕ) (entry : Entry) → start ≡ Some config → IsPrefix seen before → seen' ≡ before ++ entry ∷ [] → place ≡ length before
    → mine' ≡ mine ++ place ∷ [] → names entry ≡ None → ((n : ℕ) → opens config before entry ≢ Some n)
    → may entry → IsJournal config seen'
    → ((k : ℕ) (l : List ℕ) → get_elem? (mine ∷ met) k ≡ some l → (p : ℕ) → 0 < times p l → p < length seen)
    → Owned opens names start (mine' ∷ met) seen' → Keeps input output may config seen (mine ∷ met) conns
    → Keeps input output may config seen' (mine' ∷ met) conns
keeps_entered input output may config start seen before seen' mine mine' met conns place entry is front sees at more unnamed closed told run
    below owned keeps =
    let owned' = subst (λ (ps : List ℕ). Owned opens names start (ps ∷ met) seen') more owned in
    let whole : IsPrefix seen seen' = prefix_trans seen before seen' front (entry ∷ [], sym sees) in
    subst (λ (ps : List ℕ). Keeps input output may config seen' (ps ∷ met) conns) (sym more) (record {
      run = run;
      served =
          λ k d inside.
          let c = slice_index_or conns k d in
          served_on config start is seen seen' mine (place ∷ []) met whole below owned' c.number
          (λ p e has there named.
          none-some c.number (sym unnamed ∙ (ap names (one_place p place before seen' entry e sees at has there) ∙ named)))
          (λ i o i' o' end quiet told. told_up config c.number i o seen seen' i' o' end run quiet told) (input c.link) (output c.link)
          c.end (keeps.served k d inside);
      all =
          all_on config seen seen' mine (place ∷ []) met whole below (map number_of conns) (map number_of conns) (λ n there. there) keeps.all
          (λ p n has opened.
          absurd
          (closed n
          (ap (λ (log : List Entry). opens config log entry) (sym (taken_before p place before seen' entry sees at has))
          ∙ (ap (λ (e : Entry). opens config (take p seen') e) (one_place p place before seen' entry opened.0 sees at has opened.1)
          ∙ opened.2))));
      once =
          once_on config seen seen' mine (place ∷ []) met whole below conns (λ k d inside. (keeps.served k d inside).held) keeps.once;
      allowed =
          allowed_on config seen seen' mine (place ∷ []) met whole below may keeps.allowed
          (λ p e has there. subst may (one_place p place before seen' entry e sees at has there) told);
    })

-- what an entry was taken behind is a run, and so is that with the entry
pub run_behind : (config : Configuration) (before seen' : List Entry) (entry : Entry) (answer : Reply) → seen' ≡ before ++ entry ∷ [] →
    Answers config before entry answer → IsJournal config seen'
run_behind config before seen' entry answer sees answers =
    subst (λ (log : List Entry). IsJournal config log) (sym sees) (record {
      within = answers.before.within;
      run = is_run_more (empty config) before entry answers.before.run answers.defined;
    })

-- A turn names no connection and opens none, does not halt the switch, and tells of no dial; what it notes of a load is so.
pub record IsTurn (done : Act) : Type 0 where
  pub unnamed : actor_of done ≡ None
  pub running : done ≢ Halt
  pub noted : IsNotedWell done
  pub undialed : (slot : ℕ) (linked : Bool) → done ≢ Dialed slot linked
  pub closed : (s : Switch) → comes_by done s ≡ false

pub turn_is : (who : Actor) (done : Act) → IsTurnOf who done → IsTurn done
turn_is (Slot slot) done is =
    subst IsTurn (sym is) (record {
      unnamed = refl;
      running = λ same. absurd (cc same);
      noted = tt;
      undialed = λ other linked same. absurd (cc same);
      closed = λ s. refl;
    })
turn_is Jobs done is =
    subst IsTurn (sym is.1) (record {
      unnamed = refl;
      running = λ same. absurd (cc same);
      noted = tt;
      undialed = λ slot linked same. absurd (cc same);
      closed = λ s. refl;
    })

load_is : (job : ℕ) (note : LoadNote) (done : Act) → done ≡ Loaded job note → IsBuiltAsNoted note → IsTurn done
load_is job note done is built =
    subst IsTurn (sym is) (record {
      unnamed = refl;
      running = λ same. absurd (cc same);
      noted = built;
      undialed = λ slot linked same. absurd (cc same);
      closed = λ s. refl;
    })

turn_opens_none : (config : Configuration) (log : List Entry) (moment : ℕ) (done : Act) (n : ℕ) → IsTurn done →
    opens config log (entry_at moment done) ≢ Some n
turn_opens_none config log moment done n turn opened =
    let e : ◌≡◌ {A = Option ℕ} None (Some n) =
    sym (ap (λ (b : Bool). opened_where config b log) (turn.closed (state_after config log))) ∙ opened in none-some n e

-- a turn loads nothing
turn_unloaded : (own : Option Actor) (who : Actor) (done : Act) → IsTurnOf who done → (job : ℕ) (note : LoadNote) → done ≡ Loaded job note →
    own ≡ Some Jobs
turn_unloaded own (Slot slot) done is job note loaded = absurd (cc (is, loaded))
turn_unloaded own Jobs done is job note loaded = let done_is = is.1 in absurd (cc (done_is, loaded))

turn_enters : (may : ℕ → Type 0) (halts : Type 0) (own : Option Actor) (moment : ℕ) (done : Act) → may moment → IsTurn done →
    ((job : ℕ) (note : LoadNote) → done ≡ Loaded job note → own ≡ Some Jobs) → Enters may halts own (entry_at moment done)
turn_enters may halts own moment done told turn loads =
    ((told, λ halted. absurd (turn.running halted), turn.noted), λ slot linked dialed. absurd (turn.undialed slot linked dialed), loads)

-- a lane that worked keeps what it kept
module _ {L : Type 0} (input : L → Input) (output : L → Output) (may : ℕ → Type 0) (halts : Type 0) (own : Option Actor) (config : Configuration)
    (start : Option Configuration) (seen seen' : List Entry) (mine mine' : List ℕ) (met met' : List (List ℕ))
    (conns : List (Conn L)) (is : start ≡ Some config) (met_is : met' ≡ met)
    (below : (k : ℕ) (l : List ℕ) → get_elem? (mine ∷ met) k ≡ some l → (p : ℕ) → 0 < times p l → p < length seen)
    (owned : Owned opens names start (mine' ∷ met') seen')
    (keeps : Keeps input output (Enters may halts own) config seen (mine ∷ met) conns) where
  keeps_stays : Stays config seen mine seen' mine' → Keeps input output (Enters may halts own) config seen' (mine' ∷ met') conns
  keeps_stays stays =
      keeps_looked input output (Enters may halts own) config start seen seen' mine mine' met met' conns is stays.front stays.same met_is below
      owned stays.run keeps

  keeps_gained : (IsIt : Act → Type 0) (now place : ℕ) (gained : Gained config seen mine seen' mine' IsIt now place) → may now →
      IsTurn gained.act → ((job : ℕ) (note : LoadNote) → gained.act ≡ Loaded job note → own ≡ Some Jobs) →
      Keeps input output (Enters may halts own) config seen' (mine' ∷ met') conns
  keeps_gained IsIt now place gained told turn loads =
      let entry = entry_at now gained.act in
      subst (λ (ms : List (List ℕ)). Keeps input output (Enters may halts own) config seen' (mine' ∷ ms) conns) (sym met_is)
      (keeps_entered input output (Enters may halts own) config start seen gained.before seen' mine mine' met conns place entry is
      gained.front gained.sees gained.at gained.more turn.unnamed
      (λ n. turn_opens_none config gained.before now gained.act n turn) (turn_enters may halts own now gained.act told turn loads)
      (run_behind config gained.before seen' entry gained.reply gained.sees gained.answers) below
      (subst (λ (ms : List (List ℕ)). Owned opens names start (mine' ∷ ms) seen') met_is owned) keeps)

  pub keeps_worked : (who : Actor) (now : ℕ) (worked : Worked) → may now → Works config seen mine seen' mine' who now worked →
      Keeps input output (Enters may halts own) config seen' (mine' ∷ met') conns
  keeps_worked who now (Did place wakes) told gained =
      keeps_gained (IsTurnOf who) now place gained told (turn_is who gained.act gained.is) (turn_unloaded own who gained.act gained.is)
  keeps_worked who now (Idle None) told works = keeps_stays works.stays
  keeps_worked who now (Idle (Some next)) told works = keeps_stays works.stays
  keeps_worked who now (Talk target) told works = keeps_stays works.stands.stays
  keeps_worked who now (Load job) told works = keeps_stays works.stays
  keeps_worked who now Stopped told works = keeps_stays works.stays
  keeps_worked who now (Refused why) told works = keeps_stays works.stays

  -- so does the one that noted a load
  pub keeps_loaded : own ≡ Some Jobs → (job now : ℕ) (old new : Store) (worked : Worked) → may now →
      LoadsOnce config seen mine seen' mine' job old new now worked →
      Keeps input output (Enters may halts own) config seen' (mine' ∷ met') conns
  keeps_loaded jobs job now old new (Did place wakes) told noted =
      keeps_gained (λ done. done ≡ Loaded job noted.note) now place noted.entered told
      (load_is job noted.note noted.entered.act noted.entered.is noted.loaded.built) (λ _ _ _. jobs)
  keeps_loaded jobs job now old new (Idle None) told loads = keeps_stays loads.0.stays
  keeps_loaded jobs job now old new (Idle (Some next)) told loads = absurd loads
  keeps_loaded jobs job now old new (Talk target) told loads = absurd loads
  keeps_loaded jobs job now old new (Load other) told loads = absurd loads
  keeps_loaded jobs job now old new Stopped told loads = absurd loads
  keeps_loaded jobs job now old new (Refused why) told loads = keeps_stays loads.0.stays
