-- Each step keeps the rule of the lock.
use Rattle.std.proofs.Common.{◌≡◌, ◌≢◌, ◌⊎◌, ℕ, suc, ◌+◌, ◌%◌, ◌^◌, ◌<◌, ◌≤◌, cond, eqb, ltb, Bool, true, false, List, [], ◌∷◌, ◌++◌}
use Rattle.std.proofs.Common.{length, set, Option, Some, slice_index, slice_set, refl, ap, sym, ◌∙◌, subst, inl, inr, ⊎_elim, arith}
use Rattle.std.proofs.Common.{length-append}
use Rattle.std.proofs.lemmas.Bool.Decides.{nat_tests}
use mathlib.Core.List.{IsPrefix}
use mathlib.Core.Logic.{dite}
use mathlib.Core.Option.{some, none, some-injective, some-ne-none}
use native.Mathlib.Decide.{dec_lt, ℕ_discrete}
use native.Mathlib.Nat.{mod-add-mod}
use lib.ListN.{get_elem?}
use Rattle.atomic_table.specs.Table.{State, Me, keeps, takes, gives, step, rest, put_back, Allows, Splits, Joins, opening, Final, Seen}
use Rattle.atomic_table.proofs.Lists.{at_set, at_snoc, at_longer, set_here, set_else, set_again, one_turn}
use Rattle.fs_book.specs.declared.view.Stage.{Stage}
use Rattle.fs_book.specs.declared.view.Stage.TheVariants.{Idle, Waiting, Out}
use Rattle.fs_book.specs.declared.view.View.{View}
use Rattle.fs_book.specs.Counts.{total, times, once_below}
use Rattle.fs_book.specs.Opened.{OpensAt, NamesAt, NamesOwn, Closed, Owned}
use Rattle.fs_book.specs.Turns.{all_parts, tickets_of, HasTicket, parts_of, drawn_by, lists_of, held, longer, shorter, spent_view}
use Rattle.fs_book.specs.Turns.{opening_view, cut_left, cut_right, both, Sound, AtStage, Fits, Fair, DrawsTicket, Took, ReadsTurn}
use Rattle.fs_book.specs.Turns.{LeavesTurn, LeavesLonger, LearnsRule}
use Rattle.fs_book.proofs.Lists.{prefix_self, prefix_trans, prefix_shorter, prefix_whole, prefix_length, get_below, total_set, total_push}
use Rattle.fs_book.proofs.Lists.{total_append, one_le_total, two_le_total, total_le, total_only, total_alone, find, times_push, once_more}
use Rattle.fs_book.proofs.Opening.{opens_up, names_up, names_down, closed_up, closed_push}
-- what stands at one place is one
use Rattle.fs_book.proofs.Stages.{same_at, at_below, each_set, tickets_le, idle_out, waiting_out, waiting_is, Some_is, no_ticket}
use Rattle.fs_book.proofs.Stages.{one_carried, none_in, none_rises, alone, only_one, rises_all, at_either}

module _ {E : Type 0} (xs ys : List E) where
  picks : (log : List E) (b : Bool) → ltb (length xs) (length ys) ≡ b → IsPrefix xs log → IsPrefix ys log
      → IsPrefix xs (cond b ys xs) × IsPrefix ys (cond b ys xs) × IsPrefix (cond b ys xs) log × IsPrefix (cond b xs ys) (cond b ys xs)
  picks log true is p q = let r = prefix_shorter xs ys log p q (grind (arith, nat_tests)) in (r, prefix_self ys, q, r)
  picks log false is p q = let r = prefix_shorter ys xs log q p (grind (arith, nat_tests)) in (prefix_self xs, r, p, r)

  -- of two beginnings of one journal the longer one begins with both
  meets : (log : List E) → IsPrefix xs log → IsPrefix ys log →
      IsPrefix xs (longer xs ys) × IsPrefix ys (longer xs ys) × IsPrefix (longer xs ys) log × IsPrefix (shorter xs ys) (longer xs ys)
  meets log = picks log (ltb (length xs) (length ys)) refl

module _ {S E : Type 0} (log log' : List E) (served drawn : ℕ) (homes homes' : List (mathlib.Core.Option.Option (Option S))) where
  -- a stage that has a ticket has one that is drawn and not yet served
  in_queue : (seen : List E) (stage : Stage) (k : ℕ) → AtStage log served drawn homes seen stage → HasTicket stage k →
      (served ≤ k) × (k < drawn)
  in_queue seen Idle k at h = absurd h
  in_queue seen (Waiting t) k at h = (omega (arith, at.0, h), omega (arith, at.1, h))
  in_queue seen (Out t) k at h = (omega (arith, at.0, h), omega (arith, at.1, h))

  more_drawn : (seen : List E) (stage : Stage) → AtStage log served drawn homes seen stage → AtStage log served (drawn + 1) homes seen stage
  more_drawn seen Idle at = tt
  more_drawn seen (Waiting t) at = (at.0, omega (arith, at.1))
  more_drawn seen (Out t) at = (at.0, omega (arith, at.1), at.2, at.3)

  -- the turn is another's, who takes the state
  takes_it : (seen : List E) (stage : Stage) → AtStage log served drawn homes seen stage → ((k : ℕ) → HasTicket stage k → k ≢ served) →
      AtStage log served drawn homes' seen stage
  takes_it seen Idle at other = tt
  takes_it seen (Waiting t) at other = at
  takes_it seen (Out t) at other = absurd (other t refl at.0)

  -- the turn is another's, who passes it on
  later : (seen : List E) (stage : Stage) → AtStage log served drawn homes seen stage → ((k : ℕ) → HasTicket stage k → k ≢ served) →
      AtStage log' (served + 1) drawn homes' seen stage
  later seen Idle at other = tt
  later seen (Waiting t) at other = (let n = other t refl in omega (arith, at.0, n), at.1)
  later seen (Out t) at other = absurd (other t refl at.0)

module _ {S B E : Type 0} (opens : B → List E → E → Option ℕ) (names : E → Option ℕ) (origin : B) (log log' : List E)
    (served drawn served' drawn' : ℕ) (homes homes' : List (mathlib.Core.Option.Option (Option S))) where
  -- what the rule says of a pass whose view stays, where the rest changed
  refit : (u : View B E) → Fits opens names origin log served drawn homes u → IsPrefix log log' →
      AtStage log' served' drawn' homes' u.seen u.stage → Fits opens names origin log' served' drawn' homes' u
  refit u f pre at =
      record {
        some_part = f.some_part;
        origin_is = f.origin_is;
        prefix = prefix_trans u.seen log log' f.prefix pre;
        told = f.told;
        places = f.places;
        rising = f.rising;
        closed = f.closed;
        stage = at;
      }

module _ {S B E : Type 0} (start : S → B) (journal : S → List E) (opens : B → List E → E → Option ℕ) (names : E → Option ℕ)
    (opens_once : (origin : B) (log : List E) (p q number : ℕ) → OpensAt opens origin log p number → OpensAt opens origin log q number →
    p ≡ q) (origin : B) where
  abbrev Rule : State (Option S) (View B E) → Type 0
  Rule s = Fair start journal opens names origin s

  -- a pass with a part is not spent
  fits : (s : State (Option S) (View B E)) (r : Rule s) (j : ℕ) (v : View B E) → get_elem? s.views j ≡ some v → 0 < v.parts →
      Fits opens names origin r.log r.served r.drawn s.homes v
  fits s r j v at part =
      ⊎_elim (λ (e : v ≡ spent_view). let p : v.parts ≡ 0 = ap parts_of e in absurd (omega arith)) (λ f. f) (r.each j v at)

  ticket_below : (s : State (Option S) (View B E)) (r : Rule s) (j k : ℕ) (v : View B E) → get_elem? s.views j ≡ some v →
      HasTicket v.stage k → (r.served ≤ k) × (k < r.drawn)
  ticket_below s r j k v at h =
      ⊎_elim (λ (e : v ≡ spent_view). absurd (no_ticket v.stage k (ap (λ (u : View B E). u.stage) e) h))
      (λ (f : Fits opens names origin r.log r.served r.drawn s.homes v). in_queue r.log r.log r.served r.drawn s.homes s.homes v.seen
      v.stage k f.stage h) (r.each j v at)

  -- a ticket costs a part
  few : (s : State (Option S) (View B E)) (r : Rule s) → r.drawn ≤ r.served + all_parts
  few s r =
      let costs = total_le drawn_by parts_of s.views
      (λ j v at. ⊎_elim (λ (e : v ≡ spent_view). let d : drawn_by v ≡ 0 = ap drawn_by e in omega arith)
      (λ (f : Fits opens names origin r.log r.served r.drawn s.homes v). let t = tickets_le v.stage in let p = f.some_part in omega arith)
      (r.each j v at)) in
      let q = r.queue in let p = r.parts in omega arith

  -- a place stands in one list of one pass
  one_list : (s : State (Option S) (View B E)) (r : Rule s) (q i j k k' : ℕ) (u v : View B E) (l l' : List ℕ) →
      get_elem? s.views i ≡ some u → get_elem? s.views j ≡ some v
      → get_elem? (lists_of u) k ≡ some l → get_elem? (lists_of v) k' ≡ some l' → 0 < times q l → 0 < times q l' → l ≡ l'
  one_list s r q i j k k' u v l l' at at' at_l at_l' in_l in_l' =
      let once : total (held q) s.views ≤ 1 = (let o = r.once q in grind (arith, nat_tests)) in
      let held_u : times q l ≤ held q u = one_le_total (times q) (lists_of u) k l at_l in
      let held_v : times q l' ≤ held q v = one_le_total (times q) (lists_of v) k' l' at_l' in
      let one_pass : i ≡ j =
      dite (ℕ_discrete i j) (λ e. e) (λ n. let two = two_le_total (held q) s.views i j u v n at at' in absurd (omega arith)) in
      let here : get_elem? (lists_of u) k' ≡ some l' =
      subst (λ (x : View B E). get_elem? (lists_of x) k' ≡ some l') (sym (same_at s.views i j u v at at' one_pass)) at_l' in
      let whole = one_le_total (held q) s.views i u at in
      let one : k ≡ k' = dite (ℕ_discrete k k') (λ e. e)
      (λ n. let two = two_le_total (times q) (lists_of u) k k' l l' n at_l here in absurd (omega arith)) in
      same_at (lists_of u) k k' l l' at_l here one

  -- a pass that has a place is not spent
  fits_held : (s : State (Option S) (View B E)) (r : Rule s) (p i : ℕ) (u : View B E) → get_elem? s.views i ≡ some u → 0 < held p u →
      Fits opens names origin r.log r.served r.drawn s.homes u
  fits_held s r p i u at has =
      ⊎_elim (λ (e : u ≡ spent_view). let none_held : held p u ≡ 0 = ap (held p) e in absurd (omega arith)) (λ f. f) (r.each i u at)

  -- a pass that has the opening of a number has the place of any entry that names it, which stands in some list of some pass
  has_named : (s : State (Option S) (View B E)) (r : Rule s) (b : B) (j k q number p : ℕ) (v : View B E) (l : List ℕ) →
      get_elem? s.views j ≡ some v → Fits opens names origin r.log r.served r.drawn s.homes v
      → v.start ≡ Some b → get_elem? (lists_of v) k ≡ some l → 0 < times q l → OpensAt opens b v.seen q number
      → NamesAt names v.seen p number
      → (i k' : ℕ) (u : View B E) (l' : List ℕ) → get_elem? s.views i ≡ some u → Fits opens names origin r.log r.served r.drawn s.homes u
      → get_elem? (lists_of u) k' ≡ some l' → 0 < times p l' → 0 < times p l
  has_named s r b j k q number p v l at f is at_l in_l opened named i k' u l' at_u g at_l' in_l' =
      let held_u = one_le_total (times p) (lists_of u) k' l' at_l' in
      let named_u =
      names_down names u.seen r.log p number g.prefix (g.places p (omega arith))
      (names_up names v.seen r.log p number f.prefix named) in
      let home = g.closed b (g.origin_is ∙ sym f.origin_is ∙ is) k' l' at_l' p number in_l' named_u in
      let same : home.0 ≡ q =
      opens_once b r.log home.0 q number (opens_up opens b u.seen r.log home.0 number g.prefix home.2)
      (opens_up opens b v.seen r.log q number f.prefix opened) in
      let in_home : 0 < times q l' = subst (λ (x : ℕ). 0 < times x l') same home.1 in
      subst (λ (x : List ℕ). 0 < times p x) (one_list s r q i j k' k u v l' l at_u at at_l' at_l in_home in_l) in_l'

  owns : (s : State (Option S) (View B E)) (r : Rule s) (j : ℕ) (v : View B E) → get_elem? s.views j ≡ some v →
      Fits opens names origin r.log r.served r.drawn s.homes v
      → Owned opens names v.start (lists_of v) v.seen
  owns s r j v at f b is k l at_l q number in_l opened p named =
      let below = get_below v.seen p named.0 named.1 in
      let within = prefix_length v.seen r.log f.prefix in
      let one : total (held p) s.views ≡ 1 = (let o = r.once p in grind (arith, nat_tests)) in
      let pass = find (held p) s.views (omega arith) in
      let list = find (times p) (lists_of pass.1) pass.3 in
      has_named s r b j k q number p v l at f is at_l in_l opened named pass.0 list.0 pass.1 list.1 pass.2
      (fits_held s r p pass.0 pass.1 pass.2 pass.3) list.2 list.3

  -- what a step tells of a pass by itself
  sound : (s : State (Option S) (View B E)) (r : Rule s) (j : ℕ) (v : View B E) → get_elem? s.views j ≡ some v → 0 < v.parts →
      Sound opens names v
  sound s r j v at part =
      let f = fits s r j v at part in
      record {
        places = λ k l at_l p in_l. f.places p (let n = one_le_total (times p) (lists_of v) k l at_l in omega arith);
        rising = f.rising;
        owned = owns s r j v at f;
        closed = λ b is k l at_l p number in_l named none. none (f.closed b is k l at_l p number in_l named);
      }

  apart_set : (s : State (Option S) (View B E)) (r : Rule s) (id : ℕ) (w : View B E)
      → ((j k : ℕ) (u : View B E) → j ≢ id → get_elem? s.views j ≡ some u → HasTicket w.stage k → HasTicket u.stage k → ⊥)
      → (i j k : ℕ) (u u' : View B E) → get_elem? (set s.views id w) i ≡ some u → get_elem? (set s.views id w) j ≡ some u'
      → HasTicket u.stage k → HasTicket u'.stage k → i ≡ j
  apart_set s r id w others i j k u u' at at' h h' =
      ⊎_elim
      (λ (x : (i ≡ id) × (w ≡ u)).
      ⊎_elim (λ (y : (j ≡ id) × (w ≡ u')). x.0 ∙ sym y.0)
      (λ (y : (j ≢ id) × (get_elem? s.views j ≡ some u')). absurd
      (others j k u' y.0 y.1 (subst (λ (z : View B E). HasTicket z.stage k) (sym x.1) h) h'))
      (at_set s.views id j w u' at'))
      (λ (x : (i ≢ id) × (get_elem? s.views i ≡ some u)).
      ⊎_elim (λ (y : (j ≡ id) × (w ≡ u')). absurd (others i k u x.0 x.1 (subst (λ (z : View B E). HasTicket z.stage k) (sym y.1) h') h))
      (λ (y : (j ≢ id) × (get_elem? s.views j ≡ some u')). r.apart i j k u u' x.1 y.1 h h')
      (at_set s.views id j w u' at'))
      (at_set s.views id i w u at)

  -- one pass's view changes, and what the rule says of the others still holds
  changes : (s : State (Option S) (View B E)) (r : Rule s) (id : ℕ) (v w : View B E) → get_elem? s.views id ≡ some v
      → (log' : List E) (served' drawn' : ℕ) (words' : List ℕ) (homes' : List (mathlib.Core.Option.Option (Option S)))
      → words' ≡ (drawn' % (2 ^ 64)) ∷ (served' % (2 ^ 64)) ∷ []
      → served' + r.drawn + drawn_by w ≡ drawn' + r.served + drawn_by v
      → w.parts ≡ v.parts
      → Fits opens names origin log' served' drawn' homes' w
      → ((j : ℕ) (u : View B E) → j ≢ id → get_elem? s.views j ≡ some u → Fits opens names origin r.log r.served r.drawn s.homes u
      → Fits opens names origin log' served' drawn' homes' u)
      → ((j k : ℕ) (u : View B E) → j ≢ id → get_elem? s.views j ≡ some u → HasTicket w.stage k → HasTicket u.stage k → ⊥)
      → ((p : ℕ) → once_below p (length r.log) + held p w ≡ once_below p (length log') + held p v)
      → ((m : S) × (homes' ≡ some (Some m) ∷ []) × (start m ≡ origin) × (journal m ≡ log'))
      ⊎ ((j : ℕ) × (u : View B E) × (get_elem? (set s.views id w) j ≡ some u) × (u.stage ≡ Out served') × (homes' ≡ none ∷ []))
      → Rule (record { words = words'; homes = homes'; views = set s.views id w })
  changes s r id v w at log' served' drawn' words' homes' words queue parts mine others apart once home =
      record {
        log = log';
        served = served';
        drawn = drawn';
        words_are = words;
        queue = (let t = total_set drawn_by s.views id v w at in let q = r.queue in omega arith);
        parts = (let t = total_set parts_of s.views id v w at in let p = r.parts in omega arith);
        each = each_set (λ (u : View B E). (u ≡ spent_view) ⊎ Fits opens names origin log' served' drawn' homes' u) s.views id w (inr mine)
            (λ j u n at_u. ⊎_elim (λ (e : u ≡ spent_view). inl e)
            (λ (f : Fits opens names origin r.log r.served r.drawn s.homes u). inr (others j u n at_u f)) (r.each j u at_u));
        apart = apart_set s r id w apart;
        once = (λ p. let t = total_set (held p) s.views id v w at in let o = r.once p in let c = once p in omega arith);
        home = home;
      }

  -- the state is where it was, where the pass that changed had it not
  home_set : (s : State (Option S) (View B E)) (r : Rule s) (id : ℕ) (v w : View B E) → get_elem? s.views id ≡ some v →
      ((k : ℕ) → v.stage ≡ Out k → ⊥)
      → ((m : S) × (s.homes ≡ some (Some m) ∷ []) × (start m ≡ origin) × (journal m ≡ r.log))
      ⊎ ((j : ℕ) × (u : View B E) × (get_elem? (set s.views id w) j ≡ some u) × (u.stage ≡ Out r.served) × (s.homes ≡ none ∷ []))
  home_set s r id v w at not_out =
      ⊎_elim (λ h. inl h)
      (λ (h : (j : ℕ) × (u : View B E) × (get_elem? s.views j ≡ some u) × (u.stage ≡ Out r.served) × (s.homes ≡ none ∷ [])).
      let n : h.0 ≢ id = λ e. not_out r.served (ap (λ (x : View B E). x.stage) (sym (same_at s.views h.0 id h.1 v h.2 at e)) ∙ h.3) in
      inr (h.0, h.1, set_else s.views id h.0 w n ∙ h.2, h.3, h.4))
      r.home

  -- a ticket is drawn
  pub draws : (slots id : ℕ) (m : Me (Option S) (View B E)) → m.0.stage ≡ Idle → 0 < m.0.parts
      → Allows Rule slots id m 0 (λ n. (n + 1) % (2 ^ 64)) (DrawsTicket start journal opens names (step slots 0 1 0 none) m)
  draws slots id m idle part s r len at small =
      let v = m.0 in
      let w : View B E = record v { stage = Waiting r.drawn } in
      let f = fits s r id v at part in
      let found : slice_index s.words 0 ≡ r.drawn % (2 ^ 64) = ap (λ (ws : List ℕ). slice_index ws 0) r.words_are in
      let words : slice_set s.words 0 ((slice_index s.words 0 + 1) % (2 ^ 64)) ≡ ((r.drawn + 1) % (2 ^ 64)) ∷ (r.served % (2 ^ 64)) ∷ [] =
      ap (λ (ws : List ℕ). slice_set ws 0 ((slice_index ws 0 + 1) % (2 ^ 64))) r.words_are
      ∙ ap (λ (x : ℕ). x ∷ (r.served % (2 ^ 64)) ∷ []) (mod-add-mod r.drawn (2 ^ 64) 1) in
      let none_drawn : drawn_by v ≡ 0 = ap tickets_of idle in
      let q = r.queue in
      let mine : Fits opens names origin r.log r.served (r.drawn + 1) s.homes w =
      record {
        some_part = f.some_part;
        origin_is = f.origin_is;
        prefix = f.prefix;
        told = f.told;
        places = f.places;
        rising = f.rising;
        closed = f.closed;
        stage = (omega arith, omega arith);
      } in (
        w,
        keeps,
        tt,
        changes s r id v w at r.log r.served (r.drawn + 1) _ s.homes words (omega arith) refl mine
            (λ j u n at_u g. refit opens names origin r.log r.log r.served r.drawn r.served (r.drawn + 1) s.homes s.homes u g
            (prefix_self r.log) (more_drawn r.log r.log r.served r.drawn s.homes s.homes u.seen u.stage g.stage))
            (λ j k u n at_u h h'. let b = ticket_below s r j k u at_u h' in let e : r.drawn ≡ k = h in omega arith)
            (λ p. refl)
            (home_set s r id v w at (λ k e. idle_out k (sym idle ∙ e))),
        (r.drawn, found, refl),
      )

  -- who reads another's turn goes on waiting
  unmoved : (s : State (Option S) (View B E)) (r : Rule s) (id : ℕ) (v : View B E) → get_elem? s.views id ≡ some v
      → Rule (record { words = slice_set s.words 1 (slice_index s.words 1); homes = s.homes; views = set s.views id v })
  unmoved s r id v at =
      let words : slice_set s.words 1 (slice_index s.words 1) ≡ s.words =
      ap (λ (ws : List ℕ). slice_set ws 1 (slice_index ws 1)) r.words_are ∙ sym r.words_are in
      let views : set s.views id v ≡ s.views = set_again s.views id v at in
      subst Rule (λ i. record { words = sym words i; homes = s.homes; views = sym views i }) r

  -- the state is at home where a pass waits whose turn it is
  at_home : (s : State (Option S) (View B E)) (r : Rule s) (id : ℕ) (v : View B E) → get_elem? s.views id ≡ some v →
      v.stage ≡ Waiting r.served
      → (m : S) × (s.homes ≡ some (Some m) ∷ []) × (start m ≡ origin) × (journal m ≡ r.log)
  at_home s r id v at waits =
      ⊎_elim (λ h. h)
      (λ (h : (j : ℕ) × (u : View B E) × (get_elem? s.views j ≡ some u) × (u.stage ≡ Out r.served) × (s.homes ≡ none ∷ [])).
      let e : h.0 ≡ id =
      r.apart h.0 id r.served h.1 v h.2 at (subst (λ (x : Stage). HasTicket x r.served) (sym h.3) refl)
      (subst (λ (x : Stage). HasTicket x r.served) (sym waits) refl) in
      absurd (waiting_out r.served r.served (sym waits ∙ ap (λ (x : View B E). x.stage) (sym (same_at s.views h.0 id h.1 v h.2 at e))
      ∙ h.3)))
      r.home

  -- no other pass has the ticket
  others_wait : (s : State (Option S) (View B E)) (r : Rule s) (id : ℕ) (v : View B E) → get_elem? s.views id ≡ some v →
      HasTicket v.stage r.served
      → (j : ℕ) (u : View B E) → j ≢ id → get_elem? s.views j ≡ some u → (k : ℕ) → HasTicket u.stage k → k ≢ r.served
  others_wait s r id v at mine j u n at_u k h is = n (r.apart j id r.served u v at_u at (subst (λ (x : ℕ). HasTicket u.stage x) is h) mine)

  -- whose turn it is takes the state
  takes_turn : (id : ℕ) (m : Me (Option S) (View B E)) (k : ℕ) → m.0.stage ≡ Waiting k → 0 < m.0.parts →
      (s : State (Option S) (View B E)) (r : Rule s) → get_elem? s.views id ≡ some m.0 → k ≡ r.served
      → (x : S) × (s.homes ≡ some (Some x) ∷ [])
      × Took start journal opens names k m (record m.0 { stage = Out k; seen = journal x }, (0, Some x) ∷ m.1)
      × Rule (record {
        words = slice_set s.words 1 (slice_index s.words 1);
        homes = slice_set s.homes 0 none;
        views = set s.views id (record m.0 { stage = Out k; seen = journal x });
      })
  takes_turn id m k waits part s r at here =
      let v = m.0 in
      let f = fits s r id v at part in
      let waits' : v.stage ≡ Waiting r.served = waits ∙ ap (λ (n : ℕ). Waiting n) here in
      let h = at_home s r id v at waits' in
      let x = h.0 in
      let w : View B E = record v { stage = Out k; seen = journal x } in
      let pre : IsPrefix v.seen (journal x) = subst (λ (log : List E). IsPrefix v.seen log) (sym h.3) f.prefix in
      let len = prefix_length v.seen (journal x) pre in
      let gone : slice_set s.homes 0 none ≡ none ∷ [] =
      ap (λ (hs : List (mathlib.Core.Option.Option (Option S))). slice_set hs 0 none) h.1 in
      let words : slice_set s.words 1 (slice_index s.words 1) ≡ (r.drawn % (2 ^ 64)) ∷ (r.served % (2 ^ 64)) ∷ [] =
      ap (λ (ws : List ℕ). slice_set ws 1 (slice_index ws 1)) r.words_are in
      let b = ticket_below s r id k v at (subst (λ (y : Stage). HasTicket y k) (sym waits) refl) in
      let drawn_v : drawn_by v ≡ 1 = ap tickets_of waits in
      let mine : Fits opens names origin r.log r.served r.drawn (slice_set s.homes 0 none) w =
      record {
        some_part = f.some_part;
        origin_is = f.origin_is;
        prefix = subst (λ (log : List E). IsPrefix (journal x) log) h.3 (prefix_self (journal x));
        told = prefix_trans v.told v.seen (journal x) f.told pre;
        places = λ p in_v. let n = f.places p in_v in omega arith;
        rising = f.rising;
        closed = closed_up opens names v.start (lists_of v) v.seen (journal x) pre f.places f.closed;
        stage = (here, b.1, h.3, gone);
      } in
      let wait = others_wait s r id v at (subst (λ (y : Stage). HasTicket y r.served) (sym waits') refl) in
      let kept =
      changes s r id v w at r.log r.served r.drawn (slice_set s.words 1 (slice_index s.words 1)) (slice_set s.homes 0 none) words
      (omega arith) refl mine
      (λ j u n at_u g. refit opens names origin r.log r.log r.served r.drawn r.served r.drawn s.homes (slice_set s.homes 0 none) u g
      (prefix_self r.log)
      (takes_it r.log r.log r.served r.drawn s.homes (slice_set s.homes 0 none) u.seen u.stage g.stage (wait j u n at_u)))
      (λ j n u apart at_u t t'. wait j u apart at_u n t' (sym t ∙ here))
      (λ p. refl)
      (inr (id, w, set_here s.views id w (at_below s.views id v at), ap (λ (n : ℕ). Out n) here, gone)) in (
        x,
        h.1,
        (
          x,
          f.origin_is ∙ ap (λ (y : B). Some y) (sym h.2),
          pre,
          sound _ kept id w (set_here s.views id w (at_below s.views id v at)) part,
          refl,
        ),
        kept,
      )

  -- the turn is read by one who waits
  pub comes : (slots id : ℕ) (m : Me (Option S) (View B E)) (k : ℕ) → m.0.stage ≡ Waiting k → 0 < m.0.parts →
      Allows Rule slots id m 1 (λ n. n) (ReadsTurn start journal opens names (step slots 1 0 0 none) m)
  comes slots id m k waits part s r len at small =
      let found : slice_index s.words 1 ≡ r.served % (2 ^ 64) = ap (λ (ws : List ℕ). slice_index ws 1) r.words_are in
      let b = ticket_below s r id k m.0 at (subst (λ (y : Stage). HasTicket y k) (sym waits) refl) in
      let q = few s r in
      let turn : slice_index s.words 1 ≡ k % (2 ^ 64) → k ≡ r.served =
      λ e. sym (one_turn r.served k (2 ^ 64) b.0 (omega arith) (sym found ∙ e)) in
      dite (ℕ_discrete k r.served)
      (λ here.
      let t = takes_turn id m k waits part s r at here in
      let valid : get_elem? s.homes 0 ≡ some (some (Some t.0)) =
      ap (λ (hs : List (mathlib.Core.Option.Option (Option S))). get_elem? hs 0) t.1 in (
        record m.0 { stage = Out k; seen = journal t.0 },
        takes 0 (Some t.0),
        valid,
        t.3,
        λ k' waits'. let e : k ≡ k' = waiting_is k k' (sym waits ∙ waits') in (
          λ _. subst (λ (n : ℕ). Took start journal opens names n m (record m.0 { stage = Out k; seen = journal t.0 }, (0, Some t.0) ∷ m.1))
              e t.2,
          λ n. absurd (n (found ∙ ap (λ (y : ℕ). y % (2 ^ 64)) (sym here ∙ e))),
        ),
      ))
      (λ elsewhere. (
        m.0,
        keeps,
        tt,
        unmoved s r id m.0 at,
        λ k' waits'. let e : k ≡ k' = waiting_is k k' (sym waits ∙ waits') in (
          λ is. absurd (elsewhere (turn (is ∙ ap (λ (y : ℕ). y % (2 ^ 64)) (sym e)))),
          λ _. refl,
        ),
      ))

  -- what the rule says of the pass that has the state
  its_turn : (s : State (Option S) (View B E)) (r : Rule s) (id : ℕ) (v : View B E) → get_elem? s.views id ≡ some v → 0 < v.parts →
      (k : ℕ) → v.stage ≡ Out k
      → (k ≡ r.served) × (v.seen ≡ r.log) × (s.homes ≡ none ∷ []) × HasTicket v.stage r.served × (drawn_by v ≡ 1)
  its_turn s r id v at part k out =
      let f = fits s r id v at part in
      let a : AtStage r.log r.served r.drawn s.homes v.seen (Out k) =
      subst (λ (y : Stage). AtStage r.log r.served r.drawn s.homes v.seen y) out f.stage in
      (a.0, a.2, a.3, subst (λ (y : Stage). HasTicket y r.served) (sym out) a.0, ap tickets_of out)

  next_turn : (s : State (Option S) (View B E)) (r : Rule s) →
      slice_set s.words 1 ((slice_index s.words 1 + 1) % (2 ^ 64)) ≡ (r.drawn % (2 ^ 64)) ∷ ((r.served + 1) % (2 ^ 64)) ∷ []
  next_turn s r =
      ap (λ (ws : List ℕ). slice_set ws 1 ((slice_index ws 1 + 1) % (2 ^ 64))) r.words_are
      ∙ ap (λ (x : ℕ). (r.drawn % (2 ^ 64)) ∷ x ∷ []) (mod-add-mod r.served (2 ^ 64) 1)

  gives_back : (s : State (Option S) (View B E)) (m : Me (Option S) (View B E)) (x : S) → s.homes ≡ none ∷ [] → m.1 ≡ (0, Some x) ∷ [] →
      put_back s.homes m.1 ≡ some (Some x) ∷ []
  gives_back s m x out carries =
      ap (λ (c : List (ℕ × Option S)). put_back s.homes c) carries
      ∙ ap (λ (hs : List (mathlib.Core.Option.Option (Option S))). slice_set hs 0 (some (Some x))) out

  -- the state is given back as it was, and the turn passed on
  pub leaves : (slots id : ℕ) (m : Me (Option S) (View B E)) (k : ℕ) (x : S) → m.0.stage ≡ Out k → 0 < m.0.parts → m.1 ≡ (0, Some x) ∷ [] →
      m.0.start ≡ Some (start x) → journal x ≡ m.0.seen
      → Allows Rule slots id m 1 (λ n. (n + 1) % (2 ^ 64)) (LeavesTurn start journal opens names (step slots 1 1 0 none) m)
  leaves slots id m k x out part carries start_is same s r len at small =
      let v = m.0 in
      let w : View B E = record v { stage = Idle } in
      let f = fits s r id v at part in
      let t = its_turn s r id v at part k out in
      let homes' = put_back s.homes m.1 in
      let origin_is : start x ≡ origin = Some_is (start x) origin (sym start_is ∙ f.origin_is) in
      let one = t.4 in
      let mine : Fits opens names origin r.log (r.served + 1) r.drawn homes' w =
      record {
        some_part = f.some_part;
        origin_is = f.origin_is;
        prefix = f.prefix;
        told = f.told;
        places = f.places;
        rising = f.rising;
        closed = f.closed;
        stage = tt;
      } in
      let wait = others_wait s r id v at t.3 in (
        w,
        gives,
        tt,
        changes s r id v w at r.log (r.served + 1) r.drawn _ homes' (next_turn s r) (omega arith) refl mine
            (λ j u n at_u g. refit opens names origin r.log r.log r.served r.drawn (r.served + 1) r.drawn s.homes homes' u g
            (prefix_self r.log)
            (later r.log r.log r.served r.drawn s.homes homes' u.seen u.stage g.stage (wait j u n at_u)))
            (λ j n u apart at_u h h'. h)
            (λ p. refl)
            (inl (x, gives_back s m x t.2 carries, origin_is, same ∙ t.1)),
        ap (λ (c : List (ℕ × Option S)). (w, rest c)) carries,
      )

  -- the state is given back with one entry more, which the pass that gives it owns
  pub adds : (slots id : ℕ) (m : Me (Option S) (View B E)) (k : ℕ) (x : S) (entry : E) → m.0.stage ≡ Out k → 0 < m.0.parts →
      m.1 ≡ (0, Some x) ∷ [] → m.0.start ≡ Some (start x)
      → journal x ≡ m.0.seen ++ entry ∷ [] → NamesOwn opens names (start x) m.0.seen m.0.mine entry
      → Allows Rule slots id m 1 (λ n. (n + 1) % (2 ^ 64)) (LeavesLonger start journal opens names (step slots 1 1 0 none) m)
  adds slots id m k x entry out part carries start_is more own s r len at small =
      let v = m.0 in
      let w : View B E = record v { stage = Idle; seen = journal x; mine = v.mine ++ length v.seen ∷ [] } in
      let f = fits s r id v at part in
      let t = its_turn s r id v at part k out in
      let homes' = put_back s.homes m.1 in
      let origin_is : start x ≡ origin = Some_is (start x) origin (sym start_is ∙ f.origin_is) in
      let one = t.4 in
      let pre : IsPrefix v.seen (journal x) = (entry ∷ [], sym more) in
      let pre_log : IsPrefix r.log (journal x) = subst (λ (log : List E). IsPrefix log (journal x)) t.1 pre in
      let len_x : length (journal x) ≡ length v.seen + 1 = ap length more ∙ length-append v.seen (entry ∷ []) in
      let len_log : length v.seen ≡ length r.log = ap length t.1 in
      let counts : (p : ℕ) → held p w ≡ held p v + cond {A = ℕ} (eqb (length v.seen) p) 1 0 =
      λ p. let c = times_push p (length v.seen) v.mine in omega arith in
      let own_all : (b : B) → v.start ≡ Some b → NamesOwn opens names b v.seen v.mine entry =
      λ b is. subst (λ (y : B). NamesOwn opens names y v.seen v.mine entry) (Some_is (start x) b (sym start_is ∙ is)) own in
      let mine : Fits opens names origin (journal x) (r.served + 1) r.drawn homes' w =
      record {
        some_part = f.some_part;
        origin_is = f.origin_is;
        prefix = prefix_self (journal x);
        told = prefix_trans v.told v.seen (journal x) f.told pre;
        places = λ p in_w. let c = counts p in dite (ℕ_discrete (length v.seen) p) (λ e. omega arith)
            (λ n. let g : 0 < held p v = grind (arith, nat_tests) in let b = f.places p g in omega arith);
        rising = rises_all v.mine v.met (length v.seen) f.places f.rising;
        closed =
            subst (λ (log : List E). Closed opens names v.start (lists_of w) log) (sym more)
            (closed_push opens names v.start v.mine v.met v.seen entry f.places own_all f.closed);
        stage = tt;
      } in
      let wait = others_wait s r id v at t.3 in
      let kept = changes s r id v w at (journal x) (r.served + 1) r.drawn _ homes' (next_turn s r) (omega arith) refl mine
      (λ j u n at_u g. refit opens names origin r.log (journal x) r.served r.drawn (r.served + 1) r.drawn s.homes homes' u g pre_log
      (later r.log (journal x) r.served r.drawn s.homes homes' u.seen u.stage g.stage (wait j u n at_u)))
      (λ j n u apart at_u h h'. h)
      (λ p. let c = counts p in let o = once_more p (length r.log) in
      let e : once_below p (length (journal x)) ≡ once_below p (suc (length r.log)) = ap (once_below p) (omega arith) in
      let d : ◌≡◌ {A = ℕ} (cond (eqb (length v.seen) p) 1 0) (cond (eqb (length r.log) p) 1 0) =
      ap (λ (n : ℕ). cond (eqb n p) 1 0) len_log in omega arith)
      (inl (x, gives_back s m x t.2 carries, origin_is, refl)) in (
        w,
        gives,
        tt,
        kept,
        (
          sound _ kept id w (set_here s.views id w (at_below s.views id v at)) part,
          λ x' carries'.
              let e : x ≡ x' = one_carried x x' (sym carries ∙ carries') in
              λ i. (
                record v { stage = Idle; seen = journal (e i); mine = v.mine ++ length v.seen ∷ [] },
                ap (λ (c : List (ℕ × Option S)). rest c) carries i,
              ),
        ),
      )

  -- what is known of a pass by itself is read
  pub learns : (slots id : ℕ) (m : Me (Option S) (View B E)) → 0 < m.0.parts →
      Allows Rule slots id m 1 (λ n. n) (LearnsRule start journal opens names (step slots 1 0 0 none) m)
  learns slots id m part s r len at small =
      let f = fits s r id m.0 at part in
      let n = one_le_total parts_of s.views id m.0 at in
      let p = r.parts in
      (m.0, keeps, tt, unmoved s r id m.0 at, (refl, omega arith, f.told, sound s r id m.0 at part))

  -- a new book
  pub begins : (x : S) → start x ≡ origin → journal x ≡ [] → Rule (opening (0 ∷ 0 ∷ []) (Some x ∷ []) (opening_view origin))
  begins x is empty =
      let v : View B E = opening_view origin in
      record {
        log = [];
        served = 0;
        drawn = 0;
        words_are = refl;
        queue = omega arith;
        parts = omega arith;
        each =
            λ j u at. inr (subst (λ (y : View B E). Fits opens names origin [] 0 0 (some (Some x) ∷ []) y) (alone v j u at) (first_fits x));
        apart = λ i j k u u' at at' h h'. only_one v i j u u' at at';
        once = λ p. grind (arith, nat_tests);
        home = inl (x, refl, is, empty);
      }
    where
      first_fits : (x : S) → Fits opens names origin [] 0 0 (some (Some x) ∷ []) (opening_view origin)
      first_fits x =
          record {
            some_part = omega arith;
            origin_is = refl;
            prefix = ([], refl);
            told = ([], refl);
            places = λ p h. absurd (omega arith);
            rising = λ k l at. none_rises k l at;
            closed = λ b is k l at p number in_l named. absurd (none_in k l p at in_l);
            stage = tt;
          }

  -- parts are given to a new pass
  pub splits : (id : ℕ) (v : View B E) (n : ℕ) → v.stage ≡ Idle → 0 < n → n < v.parts → Splits Rule id v (cut_left n v) (cut_right n v)
  splits id v n idle some_part fewer s r at =
      let f = fits s r id v at (omega arith) in
      let l = cut_left n v in
      let w = cut_right n v in
      let vs = set s.views id l in
      let left_fits : Fits opens names origin r.log r.served r.drawn s.homes l =
      record {
        some_part = omega arith;
        origin_is = f.origin_is;
        prefix = f.prefix;
        told = f.told;
        places = f.places;
        rising = f.rising;
        closed = f.closed;
        stage = f.stage;
      } in
      let right_fits : Fits opens names origin r.log r.served r.drawn s.homes w =
      record {
        some_part = some_part;
        origin_is = f.origin_is;
        prefix = f.prefix;
        told = (v.seen, refl);
        places = λ p h. absurd (omega arith);
        rising = λ k places at_k. none_rises k places at_k;
        closed = λ b is k places at_k p number in_l named. absurd (none_in k places p at_k in_l);
        stage = tt;
      } in
      let old : (i k : ℕ) (u : View B E) → get_elem? (vs ++ w ∷ []) i ≡ some u → HasTicket u.stage k → get_elem? s.views i ≡ some u =
      λ i k u at_u h.
      ⊎_elim (λ at_vs. ⊎_elim (λ (x : (i ≡ id) × (l ≡ u)). absurd (no_ticket u.stage k (ap (λ (y : View B E). y.stage) (sym x.1) ∙ idle) h))
      (λ (x : (i ≢ id) × (get_elem? s.views i ≡ some u)). x.1) (at_set s.views id i l u at_vs))
      (λ (is : w ≡ u). absurd (no_ticket u.stage k (ap (λ (y : View B E). y.stage) (sym is)) h))
      (at_snoc vs w u i at_u) in
      let split_total : (g : View B E → ℕ) → total g (vs ++ w ∷ []) + g v ≡ total g s.views + g l + g w =
      λ g. let a = total_set g s.views id v l at in let b = total_push g vs w in omega arith in
      record {
        log = r.log;
        served = r.served;
        drawn = r.drawn;
        words_are = r.words_are;
        queue = (let t = split_total drawn_by in let q = r.queue in omega arith);
        parts = (let t = split_total parts_of in let p = r.parts in omega arith);
        each = λ j u at_u. ⊎_elim
            (λ at_vs. each_set (λ (y : View B E). (y ≡ spent_view) ⊎ Fits opens names origin r.log r.served r.drawn s.homes y) s.views id l
            (inr left_fits) (λ i y _ at_y. r.each i y at_y) j u at_vs)
            (λ (is : w ≡ u). inr (subst (Fits opens names origin r.log r.served r.drawn s.homes) is right_fits))
            (at_snoc vs w u j at_u);
        apart = λ i j k u u' at_u at_u' h h'. r.apart i j k u u' (old i k u at_u h) (old j k u' at_u' h') h h';
        once = (λ p. let t = split_total (held p) in let o = r.once p in omega arith);
        home = ⊎_elim (λ h. inl h)
            (λ (h : (j : ℕ) × (u : View B E) × (get_elem? vs j ≡ some u) × (u.stage ≡ Out r.served) × (s.homes ≡ none ∷ [])). inr
            (h.0, h.1, at_longer vs (w ∷ []) h.0 h.1 h.2, h.3, h.4))
            (home_set s r id v l at (λ k e. idle_out k (sym idle ∙ e)));
      }

  -- what the rule says of a pass into which another was met
  both_fit : (s : State (Option S) (View B E)) (r : Rule s) (v w : View B E) → Fits opens names origin r.log r.served r.drawn s.homes v →
      Fits opens names origin r.log r.served r.drawn s.homes w
      → v.stage ≡ Idle → Fits opens names origin r.log r.served r.drawn s.homes (both v w)
  both_fit s r v w f g idle =
      let m = meets v.seen w.seen r.log f.prefix g.prefix in
      let len_v = prefix_length v.seen (longer v.seen w.seen) m.0 in
      let len_w = prefix_length w.seen (longer v.seen w.seen) m.1 in
      record {
        some_part = (let p = f.some_part in omega arith);
        origin_is = f.origin_is;
        prefix = m.2;
        told = m.3;
        places = λ p h.
            let t = total_append (times p) (lists_of v) (lists_of w) in
            dite (dec_lt 0 (held p v)) (λ in_v. let b = f.places p in_v in omega arith)
            (λ out. let b = g.places p (omega arith) in omega arith);
        rising = λ k l at. ⊎_elim (λ (x : (i : ℕ) × (get_elem? (lists_of v) i ≡ some l)). f.rising x.0 l x.1)
            (λ (x : (i : ℕ) × (get_elem? (lists_of w) i ≡ some l)). g.rising x.0 l x.1) (at_either (lists_of v) (lists_of w) k l at);
        closed = λ b is k l at. ⊎_elim
            (λ (x : (i : ℕ) × (get_elem? (lists_of v) i ≡ some l)). closed_up opens names v.start (lists_of v) v.seen
            (longer v.seen w.seen) m.0 f.places f.closed b is x.0 l x.1)
            (λ (x : (i : ℕ) × (get_elem? (lists_of w) i ≡ some l)). closed_up opens names w.start (lists_of w) w.seen
            (longer v.seen w.seen) m.1 g.places g.closed b (g.origin_is ∙ sym f.origin_is ∙ is) x.0 l x.1)
            (at_either (lists_of v) (lists_of w) k l at);
        stage = subst (λ (y : Stage). AtStage r.log r.served r.drawn s.homes (longer v.seen w.seen) y) (sym idle) tt;
      }

  -- a pass is met into another
  pub joins : (id other : ℕ) (v w : View B E) → v.stage ≡ Idle → w.stage ≡ Idle → 0 < v.parts → 0 < w.parts →
      Joins Rule id v other w (both v w) spent_view
  joins id other v w idle idle' part part' s r at n at' =
      let b = both v w in
      let vs = set s.views id b in
      let was : get_elem? s.views other ≡ some w = sym (set_else s.views id other b n) ∙ at' in
      let f = fits s r id v at part in
      let g = fits s r other w was part' in
      let old : (i k : ℕ) (u : View B E) → get_elem? (set vs other spent_view) i ≡ some u → HasTicket u.stage k →
      get_elem? s.views i ≡ some u = λ i k u at_u h.
      ⊎_elim (λ (x : (i ≡ other) × (spent_view ≡ u)). absurd (no_ticket u.stage k (ap (λ (y : View B E). y.stage) (sym x.1)) h))
      (λ (x : (i ≢ other) × (get_elem? vs i ≡ some u)).
      ⊎_elim (λ (y : (i ≡ id) × (b ≡ u)). absurd (no_ticket u.stage k (ap (λ (z : View B E). z.stage) (sym y.1) ∙ idle) h))
      (λ (y : (i ≢ id) × (get_elem? s.views i ≡ some u)). y.1) (at_set s.views id i b u x.1))
      (at_set vs other i spent_view u at_u) in
      let met_total : (h : View B E → ℕ) → total h (set vs other spent_view) + h w + h v ≡ total h s.views + h b + h spent_view =
      λ h. let x = total_set h s.views id v b at in let y = total_set h vs other w spent_view at' in omega arith in
      record {
        log = r.log;
        served = r.served;
        drawn = r.drawn;
        words_are = r.words_are;
        queue = (let t = met_total drawn_by in let q = r.queue in let i : drawn_by w ≡ 0 = ap tickets_of idle' in omega arith);
        parts = (let t = met_total parts_of in let p = r.parts in omega arith);
        each = each_set (λ (y : View B E). (y ≡ spent_view) ⊎ Fits opens names origin r.log r.served r.drawn s.homes y) vs other spent_view
            (inl refl)
            (λ j u _ at_u. each_set (λ (y : View B E). (y ≡ spent_view)
            ⊎ Fits opens names origin r.log r.served r.drawn s.homes y) s.views id b (inr (both_fit s r v w f g idle))
            (λ i y _ at_y. r.each i y at_y) j u at_u);
        apart = λ i j k u u' at_u at_u' h h'. r.apart i j k u u' (old i k u at_u h) (old j k u' at_u' h') h h';
        once = (λ p. let t = met_total (held p) in let o = r.once p in let a = total_append (times p) (lists_of v) (lists_of w) in
            omega arith);
        home = ⊎_elim (λ h. inl h)
            (λ (h : (j : ℕ) × (u : View B E) × (get_elem? vs j ≡ some u) × (u.stage ≡ Out r.served) × (s.homes ≡ none ∷ [])).
            let m : h.0 ≢ other =
            λ e. idle_out r.served (sym idle' ∙ ap (λ (z : View B E). z.stage) (sym (same_at vs h.0 other h.1 w h.2 at' e)) ∙ h.3) in
            inr (h.0, h.1, set_else vs other h.0 spent_view m ∙ h.2, h.3, h.4))
            (home_set s r id v b at (λ k e. idle_out k (sym idle ∙ e)));
      }

  -- a pass with all parts is the only one: it has seen the whole journal, and has each place once
  pub closes : (id : ℕ) (v : View B E) (ws : List ℕ) (xs : List (Option S)) (slot : Option S) → v.stage ≡ Idle → v.parts ≡ all_parts →
      Final (Seen Rule id v) ws xs → get_elem? xs 0 ≡ some slot
      → (x : S) × (slot ≡ Some x) × (start x ≡ origin) × (journal x ≡ v.seen)
      × ((p : ℕ) → total (times p) (lists_of v) ≡ once_below p (length v.seen))
  closes id v ws xs slot idle all final taken =
      let s = final.0 in
      let r = final.1.0 in
      let at = final.1.1 in
      let f = fits s r id v at (omega arith) in
      let whole = r.parts in
      let others : (j : ℕ) (u : View B E) → id ≢ j → get_elem? s.views j ≡ some u → u ≡ spent_view = λ j u n at_u.
      let z = total_only parts_of s.views id j v u at (omega arith) n at_u in
      ⊎_elim (λ e. e) (λ (g : Fits opens names origin r.log r.served r.drawn s.homes u). let p = g.some_part in absurd (omega arith))
      (r.each j u at_u) in
      let alone_held : (p : ℕ) → held p v ≡ once_below p (length r.log) = λ p.
      let t = total_alone (held p) s.views id v at (λ j u n at_u. ap (held p) (others j u n at_u)) in let o = r.once p in omega arith in
      let last = alone_held (length v.seen) in
      let none_last : held (length v.seen) v ≡ 0 =
      dite (dec_lt 0 (held (length v.seen) v)) (λ h. let b = f.places (length v.seen) h in absurd (omega arith)) (λ h. omega arith) in
      let reached : length r.log ≤ length v.seen = grind (arith, nat_tests) in
      let seen_is : v.seen ≡ r.log = prefix_whole v.seen r.log f.prefix reached in
      let home = ⊎_elim (λ h. h)
      (λ (h : (j : ℕ) × (u : View B E) × (get_elem? s.views j ≡ some u) × (u.stage ≡ Out r.served) × (s.homes ≡ none ∷ [])).
      dite (ℕ_discrete id h.0)
      (λ e. absurd (idle_out r.served (sym idle ∙ ap (λ (z : View B E). z.stage) (same_at s.views id h.0 v h.1 at h.2 e) ∙ h.3)))
      (λ n. absurd (idle_out r.served (ap (λ (z : View B E). z.stage) (sym (others h.0 h.1 n h.2)) ∙ h.3))))
      r.home in
      let there = final.4 0 (Some home.0) (ap (λ (hs : List (mathlib.Core.Option.Option (Option S))). get_elem? hs 0) home.1) in (
        home.0,
        some-injective slot (Some home.0) (sym taken ∙ there),
        home.2,
        home.3 ∙ sym seen_is,
        λ p. alone_held p
            ∙ ap (λ (log : List E). once_below p (length log)) (sym seen_is),
      )
