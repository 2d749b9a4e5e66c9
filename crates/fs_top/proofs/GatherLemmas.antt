-- What two passes keep together where one is met into the other, and what the pass of a whole book keeps.
use Rattle.std.proofs.Common.{◌≡◌, ℕ, zero, suc, ◌+◌, ◌<◌, ◌≤◌, ◌⊎◌, inl, inr, Bool, true, false, List, [], ◌∷◌, ◌++◌, length, Option, Some, cond, eqb, refl, sym}
use Rattle.std.proofs.Common.{ap, subst, ◌∙◌, arith}
use Rattle.std.specs.Prelude.{slice_index_or, map, nat_lt, if◌then◌else◌}
use Rattle.std.specs.List.{All, Contains}
use Rattle.std.proofs.lemmas.Bool.{cases_eq}
use Rattle.std.proofs.lemmas.Bool.Decides.{nat_tests}
use Rattle.std.proofs.lemmas.Option.{slice_get-get_or}
use Rattle.std.proofs.lemmas.List.{map-append}
use Rattle.std.proofs.lemmas.List.Elements.{All-append, All-map, All-contains, Contains-append_left, Contains-append_right}
use mathlib.Core.List.{IsPrefix}
use mathlib.Core.Option.{some, some-ne-none, some-injective}
use lib.ListN.{get_elem?}
use Rattle.fs_book.specs.Counts.{times, total, once_below}
use Rattle.fs_book.specs.Numbered.{by_history_once}
use Rattle.fs_book.specs.Opened.{OpensAt, Owned, Quiet}
use Rattle.fs_book.specs.Turns.{longer}
use Rattle.fs_book.proofs.Lists.{prefix_got, prefix_take, get_below, total_append, find}
use Rattle.fs_book.proofs.Opening.{opens_up, owns_up}
use Rattle.fs_book.proofs.Quiets.{quiet_owned}
use Rattle.fs_doc.specs.Reading.{Configuration}
use Rattle.fs_ports.specs.Ports.{Input, Output}
use Rattle.fs_machine.specs.declared.entry.Entry.{Entry}
use Rattle.fs_machine.specs.Turned.{IsJournal, comes_after, opens, names}
use Rattle.fs_conn.specs.declared.end.End.{End}
use Rattle.fs_conn.proofs.ToldLemmas.{told_up}
use Rattle.fs_top.specs.declared.conns.Conn.{Conn}
use Rattle.fs_session.specs.declared.actor.Actor.{Actor}
use Rattle.fs_top.specs.Lanes.{IsHeld, IsServed, AreAll, AreOnce, MayEnter, Enters, number_of, Keeps}
use Rattle.fs_top.specs.Headline.{Headline}

le_or_lt : (a b : ℕ) → (a ≤ b) ⊎ (b < a)
le_or_lt zero b = inl (omega arith)
le_or_lt (suc a) zero = inr (omega arith)
le_or_lt (suc a) (suc b) = elim (le_or_lt a b) [ inl le ↦ inl (omega (arith, le)) | inr lt ↦ inr (omega (arith, lt)) ]

-- the one list of a new pass has no place
nothing : (k : ℕ) (places : List ℕ) → get_elem? ([] ∷ []) k ≡ some places → (p : ℕ) → 0 < times p places → ⊥
nothing zero places there p has =
    let same : [] ≡ places = some-injective _ _ there in omega (arith, subst (λ (ps : List ℕ). 0 < times p ps) (sym same) has)
nothing (suc k) places there p has = some-ne-none places (sym there)

-- ---- lists, one behind the other

module _ {X : Type 0} where
  -- what stands in the first stands in both together
  got_left : (xs ys : List X) (k : ℕ) (x : X) → get_elem? xs k ≡ some x → (j : ℕ) × (get_elem? (xs ++ ys) j ≡ some x)
  got_left [] ys k x at = absurd (some-ne-none x (sym at))
  got_left (z ∷ xs) ys zero x at = (zero, at)
  got_left (z ∷ xs) ys (suc k) x at = let r = got_left xs ys k x at in (suc r.0, r.1)

  -- so does what stands in the second
  pub got_right : (xs ys : List X) (k : ℕ) (x : X) → get_elem? ys k ≡ some x → (j : ℕ) × (get_elem? (xs ++ ys) j ≡ some x)
  got_right [] ys k x at = (k, at)
  got_right (z ∷ xs) ys k x at = let r = got_right xs ys k x at in (suc r.0, r.1)

  -- what stands in both together stands in one of them
  pub got_either : (xs ys : List X) (k : ℕ) (x : X) → get_elem? (xs ++ ys) k ≡ some x →
      ((j : ℕ) × (get_elem? xs j ≡ some x)) ⊎ ((j : ℕ) × (get_elem? ys j ≡ some x))
  got_either [] ys k x at = inr (k, at)
  got_either (z ∷ xs) ys zero x at = inl (zero, at)
  got_either (z ∷ xs) ys (suc k) x at =
      elim (got_either xs ys k x at) [ inl old ↦ inl (suc old.0, old.1) | inr new ↦ inr new ]

-- ---- how often a number stands in a list

-- a number that stands in a list is counted there
times_held : (n : ℕ) (xs : List ℕ) → Contains xs n → 0 < times n xs
times_held n [] there = absurd (let lt = there.1 in omega arith)
times_held n (x ∷ xs) there = by there.0 there.1 there.2 (times_held n xs)
  where
    by : (k : ℕ) → k < length (x ∷ xs) → slice_index_or (x ∷ xs) k n ≡ n → (Contains xs n → 0 < times n xs) → 0 < times n (x ∷ xs)
    by zero inside is rest = grind (arith, nat_tests)
    by (suc k) inside is rest = let r = rest (k, omega arith, is) in omega (arith, r)

-- one that is counted stands in it
held_times : (n : ℕ) (xs : List ℕ) → 0 < times n xs → Contains xs n
held_times n [] has = absurd (omega (arith, has))
held_times n (x ∷ xs) has =
    elim (cases_eq x n) [
      | inl same ↦ (0, omega arith, same)
      | inr differ ↦
          let more : 0 < times n xs = grind (arith, nat_tests) in
          let r = held_times n xs more in
          (suc r.0, let lt = r.1 in omega arith, r.2)
    ]

-- one that does not is not
times_none : (n : ℕ) (xs : List ℕ) → (Contains xs n → ⊥) → times n xs ≡ 0
times_none n xs none = by (times n xs) refl
  where
    by : (m : ℕ) → times n xs ≡ m → times n xs ≡ 0
    by zero is = is
    by (suc m) is = absurd (none (held_times n xs (omega (arith, is))))

times_append : (n : ℕ) (xs ys : List ℕ) → times n (xs ++ ys) ≡ times n xs + times n ys
times_append n xs ys = total_append (λ q. cond (eqb q n) 1 0) xs ys

once_at_most : (p n : ℕ) → once_below p n ≤ 1
once_at_most p n = grind (arith, nat_tests)

once_inside : (p n : ℕ) → p < n → once_below p n ≡ 1
once_inside p n inside = grind (arith, nat_tests)

-- a place below the length stands in one of the lists
pub in_lists : (lists : List (List ℕ)) (p n : ℕ) → total (times p) lists ≡ once_below p n → p < n →
    (k : ℕ) × (l : List ℕ) × (get_elem? lists k ≡ some l) × (0 < times p l)
in_lists lists p n once inside = find (times p) lists (omega (arith, once, once_inside p n inside))

opens_down : (config : Configuration) (seen seen' : List Entry) (p number : ℕ) → IsPrefix seen seen' → p < length seen →
    OpensAt opens config seen' p number → OpensAt opens config seen p number
opens_down config seen seen' p number front inside opened = (
  opened.0,
  prefix_got seen seen' p opened.0 front inside opened.1,
  ap (λ (log : List Entry). opens config log opened.0) (sym (prefix_take seen seen' p front (omega (arith, inside)))) ∙ opened.2,
)

-- ---- what one of two passes kept

module _ (config : Configuration) (start : Option Configuration) (is : start ≡ Some config) (seen seen' : List Entry)
    (lists lists' : List (List ℕ)) (front : IsPrefix seen seen')
    (kept : (k : ℕ) (l : List ℕ) → get_elem? lists k ≡ some l → (j : ℕ) × (get_elem? lists' j ≡ some l))
    (below : (k : ℕ) (l : List ℕ) → get_elem? lists k ≡ some l → (p : ℕ) → 0 < times p l → p < length seen)
    (owned : Owned opens names start lists' seen') where
  held_up : (number : ℕ) → IsHeld config seen lists number → IsHeld config seen' lists' number
  held_up number held =
      let at = kept held.at held.places held.there in
      record {
        at = at.0;
        places = held.places;
        there = at.1;
        owns = owns_up opens config number seen seen' held.places front held.owns;
      }

  quiet_up : (number : ℕ) → IsHeld config seen lists number → Quiet names number seen seen'
  quiet_up number held =
      let at = kept held.at held.places held.there in
      quiet_owned opens names config number start lists' at.0 held.places seen seen' is at.1 front (below held.at held.places held.there)
      owned held.owns

  -- a connection that was served is told so in what both saw
  served_up : (number : ℕ) (input : Input) (output : Output) (end : End) → IsJournal config seen' →
      IsServed config seen lists number input output end → IsServed config seen' lists' number input output end
  served_up number input output end run served = record {
    held = held_up number served.held;
    input0 = served.input0;
    output0 = served.output0;
    is_new = served.is_new;
    told =
        told_up config number served.input0 served.output0 seen seen' input output end run (quiet_up number served.held) served.told;
  }

  all_served_up : {L : Type 0} (input : L → Input) (output : L → Output) (conns : List (Conn L)) → IsJournal config seen' →
      All (λ conn. IsServed config seen lists conn.number (input conn.link) (output conn.link) conn.end) conns
      → All (λ conn. IsServed config seen' lists' conn.number (input conn.link) (output conn.link) conn.end) conns
  all_served_up input output conns run served k d inside =
      let c = slice_index_or conns k d in
      served_up c.number (input c.link) (output c.link) c.end run (served k d inside)

  -- a number that a later place opened is none of those that were kept
  once_up : (numbers : List ℕ) → All (IsHeld config seen lists) numbers → AreOnce config seen lists numbers → (p number : ℕ) →
      OpensAt opens config seen' p number → times number numbers ≤ total (times p) lists
  once_up numbers held once p number opened =
      elim (le_or_lt (length seen) p) [
        | inl past ↦
            let none =
            times_none number numbers (λ there.
            let h = All-contains (IsHeld config seen lists) numbers number held there in
            let inside = below h.at h.places h.there h.owns.0 h.owns.1 in
            let same : h.owns.0 ≡ p =
            by_history_once comes_after config seen' h.owns.0 p number (opens_up opens config seen seen' h.owns.0 number front h.owns.2) opened in
            omega (arith, inside, same, past)) in
            omega (arith, none)
        | inr inside ↦ once p number (opens_down config seen seen' p number front inside opened)
      ]

are_held : {L : Type 0} (input : L → Input) (output : L → Output) (config : Configuration) (seen : List Entry) (lists : List (List ℕ))
    (conns : List (Conn L))
    → All (λ conn. IsServed config seen lists conn.number (input conn.link) (output conn.link) conn.end) conns
    → All (IsHeld config seen lists) (map number_of conns)
are_held input output config seen lists conns served =
    All-map (IsHeld config seen lists) number_of conns (λ k d inside. (served k d inside).held)

-- ---- two passes met

module _ (config : Configuration) (start : Option Configuration) (is : start ≡ Some config) (seen1 seen2 seen' : List Entry)
    (lists1 lists2 : List (List ℕ)) (front1 : IsPrefix seen1 seen') (front2 : IsPrefix seen2 seen')
    (below1 : (k : ℕ) (l : List ℕ) → get_elem? lists1 k ≡ some l → (p : ℕ) → 0 < times p l → p < length seen1)
    (below2 : (k : ℕ) (l : List ℕ) → get_elem? lists2 k ≡ some l → (p : ℕ) → 0 < times p l → p < length seen2)
    (owned : Owned opens names start (lists1 ++ lists2) seen') (run : IsJournal config seen') where
  -- the pass that both met into keeps what both kept
  keeps_met : {L : Type 0} (input : L → Input) (output : L → Output) (may may1 may2 : Entry → Type 0)
      (conns1 conns2 : List (Conn L)) → ((entry : Entry) → may1 entry → may entry) → ((entry : Entry) → may2 entry → may entry)
      → Keeps input output may1 config seen1 lists1 conns1 → Keeps input output may2 config seen2 lists2 conns2
      → Keeps input output may config seen' (lists1 ++ lists2) (conns1 ++ conns2)
  keeps_met input output may may1 may2 conns1 conns2 weaker1 weaker2 keeps1 keeps2 =
      let joined : map number_of (conns1 ++ conns2) ≡ map number_of conns1 ++ map number_of conns2 = map-append number_of conns1 conns2 in
      record {
        run = run;
        served =
            All-append (λ conn. IsServed config seen' (lists1 ++ lists2) conn.number (input conn.link) (output conn.link) conn.end) conns1
            conns2
            (all_served_up config start is seen1 seen' lists1 (lists1 ++ lists2) front1 (got_left lists1 lists2) below1 owned input output
            conns1 run keeps1.served)
            (all_served_up config start is seen2 seen' lists2 (lists1 ++ lists2) front2 (got_right lists1 lists2) below2 owned input output
            conns2 run keeps2.served);
        all =
            subst (λ (ns : List ℕ). AreAll config seen' (lists1 ++ lists2) ns) (sym joined)
            (λ k places there p n has opened.
            elim (got_either lists1 lists2 k places there) [
              | inl old ↦
                  Contains-append_left (map number_of conns1) (map number_of conns2) n
                  (keeps1.all old.0 places old.1 p n has
                  (opens_down config seen1 seen' p n front1 (below1 old.0 places old.1 p has) opened))
              | inr old ↦
                  Contains-append_right (map number_of conns1) (map number_of conns2) n
                  (keeps2.all old.0 places old.1 p n has
                  (opens_down config seen2 seen' p n front2 (below2 old.0 places old.1 p has) opened))
            ]);
        once =
            subst (λ (ns : List ℕ). AreOnce config seen' (lists1 ++ lists2) ns) (sym joined)
            (λ p n opened.
            let first =
            once_up config start is seen1 seen' lists1 (lists1 ++ lists2) front1 (got_left lists1 lists2) below1 owned (map number_of conns1)
            (are_held input output config seen1 lists1 conns1 keeps1.served) keeps1.once p n opened in
            let second =
            once_up config start is seen2 seen' lists2 (lists1 ++ lists2) front2 (got_right lists1 lists2) below2 owned (map number_of conns2)
            (are_held input output config seen2 lists2 conns2 keeps2.served) keeps2.once p n opened in
            omega (arith, first, second, times_append n (map number_of conns1) (map number_of conns2), total_append (times p) lists1 lists2));
        allowed = λ k places there p entry has at.
            elim (got_either lists1 lists2 k places there) [
              | inl old ↦
                  weaker1 entry
                  (keeps1.allowed old.0 places old.1 p entry has
                  (prefix_got seen1 seen' p entry front1 (below1 old.0 places old.1 p has) at))
              | inr old ↦
                  weaker2 entry
                  (keeps2.allowed old.0 places old.1 p entry has
                  (prefix_got seen2 seen' p entry front2 (below2 old.0 places old.1 p has) at))
            ];
      }

-- ---- a new pass

-- a pass that has no places keeps no connections
keeps_none : {L : Type 0} (input : L → Input) (output : L → Output) (may : Entry → Type 0) (config : Configuration)
    (seen : List Entry) → IsJournal config seen → Keeps input output may config seen ([] ∷ []) []
keeps_none input output may config seen run = record {
  run = run;
  served = λ k d inside. absurd (omega (arith, inside));
  all = λ k places there p n has opened. absurd (nothing k places there p has);
  once = λ p n opened. omega arith;
  allowed = λ k places there p entry has at. absurd (nothing k places there p has);
}

-- so does one that was just split off
pub keeps_split : {L : Type 0} (input : L → Input) (output : L → Output) (may : Entry → Type 0) (config : Configuration)
    (seen seen' : List Entry) (mine' : List ℕ) (met' : List (List ℕ)) (conns : List (Conn L)) → seen' ≡ seen → mine' ≡ [] → met' ≡ []
    → conns ≡ [] → IsJournal config seen → Keeps input output may config seen' (mine' ∷ met') conns
keeps_split {L} input output may config seen seen' mine' met' conns same no_place none_met none_served run =
    let lists_is : mine' ∷ met' ≡ [] ∷ [] = cc (no_place, none_met) in
    subst (λ (ls : List (List ℕ)). Keeps input output may config seen' ls conns) (sym lists_is)
    (subst (λ (cs : List (Conn L)). Keeps input output may config seen' ([] ∷ []) cs) (sym none_served)
    (keeps_none input output may config seen' (subst (λ (log : List Entry). IsJournal config log) (sym same) run)))

-- ---- the whole book

pub headline : {L : Type 0} (input : L → Input) (output : L → Output) (may : Entry → Type 0) (config : Configuration)
    (seen : List Entry) (lists : List (List ℕ)) (conns : List (Conn L)) → ((p : ℕ) → total (times p) lists ≡ once_below p (length seen))
    → Keeps input output may config seen lists conns → Headline input output may config seen conns
headline input output may config seen lists conns whole keeps = record {
  run = keeps.run;
  each = λ p n opened.
      let inside = get_below seen p opened.0 opened.1 in
      let at = in_lists lists p (length seen) (whole p) inside in
      let least = times_held n (map number_of conns) (keeps.all at.0 at.1 at.2 p n at.3 opened) in
      let most = keeps.once p n opened in
      omega (arith, least, most, whole p, once_at_most p (length seen));
  told = λ k d inside.
      let served = keeps.served k d inside in
      record { input0 = served.input0; output0 = served.output0; is_new = served.is_new; told = served.told };
  allowed = λ k d inside.
      let at = in_lists lists k (length seen) (whole k) inside in
      keeps.allowed at.0 at.1 at.2 k (slice_index_or seen k d) at.3 (slice_get-get_or seen k d inside);
}

-- ---- a lane met into a pass

one_of : (P : List Entry → Type 0) (test : Bool) (xs ys : List Entry) → P xs → P ys → P (if test then ys else xs)
one_of P true xs ys first second = second
one_of P false xs ys first second = first

-- A pass keeps what it kept and what another one kept that was met into it.
pub keeps_joined : {L : Type 0} (input : L → Input) (output : L → Output) (may may1 may2 : Entry → Type 0) (config : Configuration)
    (start : Option Configuration) (seen1 seen2 seen' : List Entry) (mine1 mine2 mine' : List ℕ) (met1 met2 met' : List (List ℕ))
    (conns1 conns2 conns' : List (Conn L)) → ((entry : Entry) → may1 entry → may entry) → ((entry : Entry) → may2 entry → may entry)
    → start ≡ Some config → IsPrefix seen1 seen' × IsPrefix seen2 seen' × (seen' ≡ longer seen1 seen2)
    → (mine' ≡ mine1) × (met' ≡ met1 ++ mine2 ∷ met2) → conns' ≡ conns1 ++ conns2
    → ((k : ℕ) (l : List ℕ) → get_elem? (mine1 ∷ met1) k ≡ some l → (p : ℕ) → 0 < times p l → p < length seen1)
    → ((k : ℕ) (l : List ℕ) → get_elem? (mine2 ∷ met2) k ≡ some l → (p : ℕ) → 0 < times p l → p < length seen2)
    → Owned opens names start (mine' ∷ met') seen' → Keeps input output may2 config seen2 (mine2 ∷ met2) conns2
    → Keeps input output may1 config seen1 (mine1 ∷ met1) conns1 → Keeps input output may config seen' (mine' ∷ met') conns'
keeps_joined {L} input output may may1 may2 config start seen1 seen2 seen' mine1 mine2 mine' met1 met2 met' conns1 conns2 conns' weaker1
    weaker2 is seens lists items below1 below2 owned keeps2 keeps1 =
    let lists_is : mine' ∷ met' ≡ (mine1 ∷ met1) ++ mine2 ∷ met2 = cc (lists.0, lists.1) in
    let run =
    subst (λ (log : List Entry). IsJournal config log) (sym seens.2)
    (one_of (λ (log : List Entry). IsJournal config log) (nat_lt (length seen1) (length seen2)) seen1 seen2 keeps1.run keeps2.run) in
    let owned' = subst (λ (ls : List (List ℕ)). Owned opens names start ls seen') lists_is owned in
    subst (λ (ls : List (List ℕ)). Keeps input output may config seen' ls conns') (sym lists_is)
    (subst (λ (cs : List (Conn L)). Keeps input output may config seen' ((mine1 ∷ met1) ++ mine2 ∷ met2) cs) (sym items)
    (keeps_met config start is seen1 seen2 seen' (mine1 ∷ met1) (mine2 ∷ met2) seens.0 seens.1 below1 below2 owned' run input output
    may may1 may2 conns1 conns2 weaker1 weaker2 keeps1 keeps2))

-- what a lane may enter that never halts the switch may be entered
pub enters_less : (may : ℕ → Type 0) (halts : Type 0) (own : Option Actor) (entry : Entry) → Enters may ⊥ own entry → MayEnter may halts entry
enters_less may halts own entry entered = (entered.0.0, λ halt. absurd (entered.0.1 halt), entered.0.2)
