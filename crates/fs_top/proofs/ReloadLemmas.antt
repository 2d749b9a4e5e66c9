-- What the journal of a server notes of its loads.
use Rattle.std.proofs.Common.{◌≡◌, ◌≢◌, ℕ, zero, suc, ◌+◌, ◌<◌, ◌≤◌, Bool, true, false, List, [], ◌∷◌, ◌++◌, length, Option, None, Some, refl, sym}
use Rattle.std.proofs.Common.{ap, ◌∙◌, subst, arith, append_assoc, append-nil, length-append, if◌then◌else◌, ◌⊎◌, inl, inr, cond, eqb}
use Rattle.std.specs.Prelude.{nat_lt, slice_get, count_by}
use Rattle.std.proofs.lemmas.Bool.Decides.{nat_tests}
use Rattle.std.proofs.lemmas.List.Sums.{sum_by-append}
use Rattle.std.proofs.lemmas.Option.{none-some}
use mathlib.Core.List.{IsPrefix}
use mathlib.Core.Option.{some}
use lib.ListN.{get_elem?}
use Rattle.fs_ports.specs.Counts.{raised}
use Rattle.fs_ports.specs.Loads.{LoadCounts}
use Rattle.fs_ports.specs.declared.files.Load.{Load as Answer}
use Rattle.fs_doc.specs.Reading.{Configuration}
use Rattle.fs_book.specs.Counts.{times, total, once_below}
use Rattle.fs_book.specs.Passes.{seen, mine, met}
use Rattle.fs_book.proofs.Lists.{times_push, prefix_got}
use Rattle.fs_machine.specs.declared.entry.Entry.{Entry}
use Rattle.fs_machine.specs.declared.entry.Act.{Act}
use Rattle.fs_machine.specs.declared.entry.Act.TheVariants.{Arrive, Command, Take, Close, Dialed, Work, Job, Loaded, Halt}
use Rattle.fs_machine.specs.declared.note.LoadNote.{LoadNote}
use Rattle.fs_machine.specs.declared.note.LoadNote.TheVariants.{Ready, DocRefused, PatternRefused, PatternTooLarge, Absent, Failed}
use Rattle.fs_machine.specs.Entries.{is_load}
use Rattle.fs_machine.specs.Loading.{IsNoteOf, CountsLoad}
use Rattle.fs_conn.specs.Play.{note_in, noted}
use Rattle.fs_session.specs.declared.actor.Actor.{Actor}
use Rattle.fs_session.specs.declared.actor.Actor.TheVariants.{Slot, Jobs}
use Rattle.fs_session.specs.declared.worked.Worked.{Worked}
use Rattle.fs_session.specs.declared.worked.Worked.TheVariants.{Did, Idle, Talk, Load, Stopped, Refused}
use Rattle.fs_session.specs.Loading.{Store, IsLoaded, IsLost, LoadsOnce}
use Rattle.fs_session.specs.Working.{Works, Stays, Gained, IsTurnOf}
use Rattle.fs_top.specs.declared.desk.Desk.{Desk}
use Rattle.fs_top.specs.Dials.{HasRisen}
use Rattle.fs_top.specs.Lanes.{AreAllowed, Enters}
use Rattle.fs_top.specs.Reloading.{IsUntouched, CameOf, notes_of, NotesLoads, tells_failed, tells_absent, tells_too_large, AreCounted, is_among, noted_from, noted_at, HasNoted, NoneNotes, Notes, store}
use Rattle.fs_top.proofs.GatherLemmas.{got_either, got_right, in_lists}
use Rattle.fs_top.proofs.VainLemmas.{risen_or, risen_more}

-- ---- loads, one after another

untouched_same : (store : Store) → IsUntouched store store
untouched_same store = record { loads = λ k. refl; counts = refl; sizes = refl }

-- a load behind files that were not touched
loaded_from : (old mid new : Store) (note : LoadNote) → IsUntouched old mid → IsLoaded mid new note → IsLoaded old new note
loaded_from old mid new note first next = record {
  told = subst (λ answer. IsNoteOf answer note) (first.loads 0) next.told;
  built = next.built;
  behind = λ k. next.behind k ∙ first.loads (k + 1);
  counts =
      subst (λ (c : LoadCounts). CountsLoad note c new.counts old.sizes new.sizes) first.counts
      (subst (λ (n : ℕ). CountsLoad note mid.counts new.counts n new.sizes) first.sizes next.counts);
}

lost_from : (old mid new : Store) → IsUntouched old mid → IsLost mid new → IsLost old new
lost_from old mid new first (inl none) =
    inl (record { counts = none.counts ∙ first.counts; sizes = none.sizes ∙ first.sizes; loads = by none.loads })
  where
    by : ((k : ℕ) → new.loads k ≡ mid.loads k) ⊎ ((k : ℕ) → new.loads k ≡ mid.loads (k + 1)) →
        ((k : ℕ) → new.loads k ≡ old.loads k) ⊎ ((k : ℕ) → new.loads k ≡ old.loads (k + 1))
    by (inl same) = inl (λ k. same k ∙ first.loads k)
    by (inr on) = inr (λ k. on k ∙ first.loads (k + 1))
lost_from old mid new first (inr noted) = inr (noted.0, loaded_from old mid new noted.0 first noted.1)

came_from : (each : List (Option LoadNote)) (old mid new : Store) → IsUntouched old mid → CameOf each mid new → CameOf each old new
came_from [] old mid new first next = record {
  loads = λ k. next.loads k ∙ first.loads k;
  counts = next.counts ∙ first.counts;
  sizes = next.sizes ∙ first.sizes;
}
came_from (Some note ∷ later) old mid new first next = (next.0, loaded_from old mid next.0 note first next.1, next.2)
came_from (None ∷ later) old mid new first next = (next.0, lost_from old mid next.0 first next.1, next.2)

came_then : (each more : List (Option LoadNote)) (old mid new : Store) → CameOf each old mid → CameOf more mid new →
    CameOf (each ++ more) old new
came_then [] more old mid new first next = came_from more old mid new first next
came_then (Some note ∷ later) more old mid new first next = (first.0, first.1, came_then later more first.0 mid new first.2 next)
came_then (None ∷ later) more old mid new first next = (first.0, first.1, came_then later more first.0 mid new first.2 next)

notes_then : (each more : List (Option LoadNote)) → notes_of (each ++ more) ≡ notes_of each ++ notes_of more
notes_then [] more = refl
notes_then (Some note ∷ later) more = ap (λ notes. note ∷ notes) (notes_then later more)
notes_then (None ∷ later) more = notes_then later more

pub reloads_none : (store : Store) → NotesLoads store store []
reloads_none store = record { each = []; came = untouched_same store; noted = refl }

-- of a load a note, or none
reloads_noted : (first old new : Store) (notes : List LoadNote) (note : LoadNote) → NotesLoads first old notes → IsLoaded old new note →
    NotesLoads first new (notes ++ note ∷ [])
reloads_noted first old new notes note before loaded = record {
  each = before.each ++ Some note ∷ [];
  came = came_then before.each (Some note ∷ []) first old new before.came (new, loaded, untouched_same new);
  noted = ap (λ (ns : List LoadNote). ns ++ note ∷ []) before.noted ∙ sym (notes_then before.each (Some note ∷ []));
}

reloads_lost : (first old new : Store) (notes : List LoadNote) → NotesLoads first old notes → IsLost old new → NotesLoads first new notes
reloads_lost first old new notes before lost = record {
  each = before.each ++ None ∷ [];
  came = came_then before.each (None ∷ []) first old new before.came (new, lost, untouched_same new);
  noted = before.noted ∙ (sym (append-nil (notes_of before.each)) ∙ sym (notes_then before.each (None ∷ [])));
}

-- ---- notes at places

abbrev noted_here : Bool → Entry → List LoadNote
noted_here test entry = if test then note_in entry.act else []

noted_more : (at : ℕ) (xs ys : List Entry) (places : List ℕ) →
    noted_from at (xs ++ ys) places ≡ noted_from at xs places ++ noted_from (at + length xs) ys places
noted_more at [] ys places = let here : at ≡ at + 0 = omega arith in ap (λ (n : ℕ). noted_from n ys places) here
noted_more at (x ∷ xs) ys places =
    let there : suc at + length xs ≡ at + suc (length xs) = omega arith in
    ap (λ (notes : List LoadNote). noted_here (is_among at places) x ++ notes)
    (noted_more (suc at) xs ys places ∙ ap (λ (n : ℕ). noted_from (suc at) xs places ++ noted_from n ys places) there)
    ∙ sym (append_assoc (noted_here (is_among at places) x) (noted_from (suc at) xs places) (noted_from (at + suc (length xs)) ys places))

noted_behind : (xs ys : List Entry) (places : List ℕ) → noted_at (xs ++ ys) places ≡ noted_at xs places ++ noted_from (length xs) ys places
noted_behind xs ys places =
    let here : 0 + length xs ≡ length xs = omega arith in
    noted_more 0 xs ys places ∙ ap (λ (n : ℕ). noted_at xs places ++ noted_from n ys places) here

noted_same : (at : ℕ) (xs : List Entry) (places places' : List ℕ) →
    ((p : ℕ) → at ≤ p → p < at + length xs → is_among p places ≡ is_among p places') → noted_from at xs places ≡ noted_from at xs places'
noted_same at [] places places' same = refl
noted_same at (x ∷ xs) places places' same =
    ap (λ (b : Bool). noted_here b x ++ noted_from (suc at) xs places) (same at (omega arith) (omega arith))
    ∙ ap (λ (notes : List LoadNote). noted_here (is_among at places') x ++ notes)
    (noted_same (suc at) xs places places' (λ p past inside. same p (omega (arith, past)) (omega (arith, inside))))

noted_none : (at : ℕ) (xs : List Entry) (places : List ℕ) → ((p : ℕ) → at ≤ p → is_among p places ≡ false) → noted_from at xs places ≡ []
noted_none at [] places none = refl
noted_none at (x ∷ xs) places none =
    ap (λ (b : Bool). noted_here b x ++ noted_from (suc at) xs places) (none at (omega arith))
    ∙ noted_none (suc at) xs places (λ p past. none p (omega (arith, past)))

positive : (n : ℕ) → nat_lt 0 (suc n) ≡ true
positive n = grind (arith, nat_tests)

-- a place past all of these is not among them
past_none : (n p : ℕ) (places : List ℕ) → ((q : ℕ) → 0 < times q places → q < n) → n ≤ p → is_among p places ≡ false
past_none n p places below past = by (times p places) refl
  where
    by : (m : ℕ) → times p places ≡ m → nat_lt 0 m ≡ false
    by zero is = refl
    by (suc m) is = let inside = below p (omega (arith, is)) in absurd (omega (arith, inside, past))

-- more was seen, and the places are of what was seen before
pub noted_up : (seen seen' : List Entry) (places : List ℕ) → IsPrefix seen seen' → ((q : ℕ) → 0 < times q places → q < length seen) →
    noted_at seen' places ≡ noted_at seen places
noted_up seen seen' places front below =
    ap (λ (log : List Entry). noted_at log places) (sym front.1) ∙ noted_behind seen front.0 places
    ∙ ap (λ (notes : List LoadNote). noted_at seen places ++ notes)
    (noted_none (length seen) front.0 places (λ p past. past_none (length seen) p places below past))
    ∙ append-nil (noted_at seen places)

-- another place is as it was
among_before : (p q : ℕ) (places : List ℕ) → p < q → is_among p places ≡ is_among p (places ++ q ∷ [])
among_before p q places less =
    let pushed = times_push p q places in
    let apart : ◌≡◌ {A = ℕ} (cond (eqb q p) 1 0) 0 = grind (less, arith, nat_tests) in
    let same : times p (places ++ q ∷ []) ≡ times p places = omega (arith, pushed, apart) in ap (λ (n : ℕ). nat_lt 0 n) (sym same)

among_last : (p : ℕ) (places : List ℕ) → is_among p (places ++ p ∷ []) ≡ true
among_last p places =
    let pushed = times_push p p places in
    let one : ◌≡◌ {A = ℕ} (cond (eqb p p) 1 0) 1 = grind (arith, nat_tests) in
    let some : times p (places ++ p ∷ []) ≡ suc (times p places) = omega (arith, pushed, one) in ap (λ (n : ℕ). nat_lt 0 n) some ∙ positive (times p places)

-- one entry more, at a place of its own
noted_push : (seen before seen' : List Entry) (places places' : List ℕ) (place : ℕ) (entry : Entry) → IsPrefix seen before →
    ((q : ℕ) → 0 < times q places → q < length seen) → seen' ≡ before ++ entry ∷ [] → place ≡ length before → places' ≡ places ++ place ∷ [] →
    noted_at seen' places' ≡ noted_at seen places ++ note_in entry.act
noted_push seen before seen' places places' place entry front below sees at more =
    let all : places' ≡ places ++ length before ∷ [] = more ∙ ap (λ (p : ℕ). places ++ p ∷ []) at in
    let long : length seen ≤ length before = let joined = length-append seen front.0 in let is = ap length front.1 in omega (arith, joined, is) in
    let first : noted_at before (places ++ length before ∷ []) ≡ noted_at seen places =
    sym (noted_same 0 before places (places ++ length before ∷ [])
    (λ p past inside. among_before p (length before) places (omega (arith, inside))))
    ∙ noted_up seen before places front below in
    let last : noted_from (length before) (entry ∷ []) (places ++ length before ∷ []) ≡ note_in entry.act =
    ap (λ (b : Bool). noted_here b entry ++ []) (among_last (length before) places) ∙ append-nil (note_in entry.act) in
    ap (λ (log : List Entry). noted_at log places') sees ∙ ap (λ (ps : List ℕ). noted_at (before ++ entry ∷ []) ps) all
    ∙ noted_behind before (entry ∷ []) (places ++ length before ∷ [])
    ∙ ap (λ (notes : List LoadNote). notes ++ noted_from (length before) (entry ∷ []) (places ++ length before ∷ [])) first
    ∙ ap (λ (notes : List LoadNote). noted_at seen places ++ notes) last

-- ---- the desk

turn_notes_none : (who : Actor) (done : Act) → IsTurnOf who done → note_in done ≡ []
turn_notes_none (Slot slot) done is = ap note_in is
turn_notes_none Jobs done is = ap note_in is.1

module _ (config : Configuration) (seen seen' : List Entry) (mine mine' : List ℕ) (below : (q : ℕ) → 0 < times q mine → q < length seen) where
  noted_stays : Stays config seen mine seen' mine' → noted_at seen' mine' ≡ noted_at seen mine
  noted_stays stays = ap (λ (ps : List ℕ). noted_at seen' ps) stays.same ∙ noted_up seen seen' mine stays.front below

  noted_gained : (IsIt : Act → Type 0) (now place : ℕ) (gained : Gained config seen mine seen' mine' IsIt now place) →
      noted_at seen' mine' ≡ noted_at seen mine ++ note_in gained.act
  noted_gained IsIt now place gained =
      noted_push seen gained.before seen' mine mine' place (record { moment = now; act = gained.act }) gained.front below gained.sees gained.at
      gained.more

  noted_turned : (who : Actor) (now place : ℕ) → Gained config seen mine seen' mine' (IsTurnOf who) now place →
      noted_at seen' mine' ≡ noted_at seen mine
  noted_turned who now place gained =
      noted_gained (IsTurnOf who) now place gained
      ∙ ap (λ (notes : List LoadNote). noted_at seen mine ++ notes) (turn_notes_none who gained.act gained.is)
      ∙ append-nil (noted_at seen mine)

  -- a turn notes no load
  pub noted_worked : (who : Actor) (now : ℕ) (worked : Worked) → Works config seen mine seen' mine' who now worked →
      noted_at seen' mine' ≡ noted_at seen mine
  noted_worked who now (Did place wakes) works = noted_turned who now place works
  noted_worked who now (Idle None) works = noted_stays works.stays
  noted_worked who now (Idle (Some next)) works = noted_stays works.stays
  noted_worked who now (Talk target) works = noted_stays works.stands.stays
  noted_worked who now (Load job) works = noted_stays works.stays
  noted_worked who now Stopped works = noted_stays works.stays
  noted_worked who now (Refused why) works = noted_stays works.stays

  reloads_stays : (first new : Store) → Stays config seen mine seen' mine' → NotesLoads first new (noted_at seen mine) →
      NotesLoads first new (noted_at seen' mine')
  reloads_stays first new stays reloads = subst (λ (notes : List LoadNote). NotesLoads first new notes) (sym (noted_stays stays)) reloads

  -- a load is noted, or it is lost
  pub reloads_once : (first old new : Store) (job now : ℕ) (worked : Worked) → LoadsOnce config seen mine seen' mine' job old new now worked →
      NotesLoads first old (noted_at seen mine) → NotesLoads first new (noted_at seen' mine')
  reloads_once first old new job now (Did place wakes) did before =
      subst (λ (notes : List LoadNote). NotesLoads first new notes)
      (sym (noted_gained (λ done. done ≡ Loaded job did.note) now place did.entered
      ∙ ap (λ (done : Act). noted_at seen mine ++ note_in done) did.entered.is))
      (reloads_noted first old new (noted_at seen mine) did.note before did.loaded)
  reloads_once first old new job now (Idle None) did before =
      reloads_stays first new did.0.stays (reloads_lost first old new (noted_at seen mine) before did.1)
  reloads_once first old new job now (Idle (Some next)) did before = absurd did
  reloads_once first old new job now (Talk target) did before = absurd did
  reloads_once first old new job now (Load other) did before = absurd did
  reloads_once first old new job now Stopped did before = absurd did
  reloads_once first old new job now (Refused why) did before =
      reloads_stays first new did.0.stays (reloads_lost first old new (noted_at seen mine) before did.1)

-- a desk that goes on without a load
pub noted_on : (first now : Store) (old new : Desk) → met new.pass ≡ met old.pass →
    noted_at (seen new.pass) (mine new.pass) ≡ noted_at (seen old.pass) (mine old.pass) → HasNoted first now old → HasNoted first now new
noted_on first now old new met_is noted_is before = record {
  reloads = subst (λ (notes : List LoadNote). NotesLoads first now notes) (sym noted_is) before.reloads;
  alone = met_is ∙ before.alone;
}

-- ---- a pass that notes no load

act_notes_none : (own : Option Actor) (done : Act) → ((job : ℕ) (note : LoadNote) → done ≡ Loaded job note → own ≡ Some Jobs) →
    own ≢ Some Jobs → is_load done ≡ false
act_notes_none own Arrive loads other = refl
act_notes_none own (Command conn block) loads other = refl
act_notes_none own (Take conn) loads other = refl
act_notes_none own (Close conn how) loads other = refl
act_notes_none own (Dialed slot linked) loads other = refl
act_notes_none own (Work slot) loads other = refl
act_notes_none own (Job number) loads other = refl
act_notes_none own (Loaded number note) loads other = absurd (other (loads number note refl))
act_notes_none own Halt loads other = refl

pub none_notes : (may : ℕ → Type 0) (halts : Type 0) (own : Option Actor) (config : Configuration) (seen : List Entry)
    (lists : List (List ℕ)) → AreAllowed config seen lists (Enters may halts own) → own ≢ Some Jobs → NoneNotes seen lists
none_notes may halts own config seen lists allowed other k places there p entry has at =
    act_notes_none own entry.act (allowed k places there p entry has at).2 other

-- ---- passes that are met

module _ (seen1 seen2 seen' : List Entry) (mine1 mine2 mine' : List ℕ) (met1 met2 met' : List (List ℕ)) (front1 : IsPrefix seen1 seen')
    (front2 : IsPrefix seen2 seen') (mine_is : mine' ≡ mine1) (met_is : met' ≡ met1 ++ mine2 ∷ met2)
    (below1 : (k : ℕ) (l : List ℕ) → get_elem? (mine1 ∷ met1) k ≡ some l → (p : ℕ) → 0 < times p l → p < length seen1)
    (below2 : (k : ℕ) (l : List ℕ) → get_elem? (mine2 ∷ met2) k ≡ some l → (p : ℕ) → 0 < times p l → p < length seen2) where
  lists_are : mine' ∷ met' ≡ (mine1 ∷ met1) ++ mine2 ∷ met2
  lists_are = cc (mine_is, met_is)

  -- what holds of each entry of the one and of the other
  either_pass : (P : List ℕ → Entry → ℕ → Type 0)
      → ((k : ℕ) (l : List ℕ) → get_elem? (mine1 ∷ met1) k ≡ some l → (p : ℕ) (entry : Entry) → 0 < times p l
      → slice_get seen1 p ≡ Some entry → P l entry p)
      → ((k : ℕ) (l : List ℕ) → get_elem? (mine2 ∷ met2) k ≡ some l → (p : ℕ) (entry : Entry) → 0 < times p l
      → slice_get seen2 p ≡ Some entry → P l entry p)
      → (k : ℕ) (l : List ℕ) → get_elem? (mine' ∷ met') k ≡ some l → (p : ℕ) (entry : Entry) → 0 < times p l
      → slice_get seen' p ≡ Some entry → P l entry p
  either_pass P one two k l there p entry has at =
      elim (got_either (mine1 ∷ met1) (mine2 ∷ met2) k l
      (subst (λ (ls : List (List ℕ)). get_elem? ls k ≡ some l) lists_are there)) [
        | inl old ↦ one old.0 l old.1 p entry has (prefix_got seen1 seen' p entry front1 (below1 old.0 l old.1 p has) at)
        | inr old ↦ two old.0 l old.1 p entry has (prefix_got seen2 seen' p entry front2 (below2 old.0 l old.1 p has) at)
      ]

  pub none_met : NoneNotes seen1 (mine1 ∷ met1) → NoneNotes seen2 (mine2 ∷ met2) → NoneNotes seen' (mine' ∷ met')
  none_met none1 none2 = either_pass (λ l entry p. is_load entry.act ≡ false) none1 none2

  -- the desk met last, which met nobody
  pub notes_met : (first last : Store) → NoneNotes seen1 (mine1 ∷ met1) → met2 ≡ [] → NotesLoads first last (noted_at seen2 mine2) →
      Notes seen' (mine' ∷ met') first last
  notes_met first last none alone reloads =
      let there = got_right (mine1 ∷ met1) (mine2 ∷ met2) 0 mine2 refl in
      record {
        at = there.0;
        places = mine2;
        there = subst (λ (ls : List (List ℕ)). get_elem? ls there.0 ≡ some mine2) (sym lists_are) there.1;
        all =
            either_pass (λ l entry p. is_load entry.act ≡ true → 0 < times p mine2)
            (λ k l at p entry has found loads. let quiet = none k l at p entry has found in absurd (cc (quiet, loads)))
            (λ k l at p entry has found loads. own k l (subst (λ (ms : List (List ℕ)). get_elem? (mine2 ∷ ms) k ≡ some l) alone at) p has);
        reloads =
            subst (λ (notes : List LoadNote). NotesLoads first last notes) (sym (noted_up seen2 seen' mine2 front2 (below2 0 mine2 refl))) reloads;
      }
    where
      own : (k : ℕ) (l : List ℕ) → get_elem? (mine2 ∷ []) k ≡ some l → (p : ℕ) → 0 < times p l → 0 < times p mine2
      own zero l at p has = let same : mine2 ≡ l = cc at in subst (λ (ps : List ℕ). 0 < times p ps) (sym same) has
      own (suc k) l at p has = absurd (cc at)

-- ---- the whole journal

-- more was seen
pub notes_up : (seen seen' : List Entry) (lists lists' : List (List ℕ)) (first last : Store) → IsPrefix seen seen' → lists' ≡ lists →
    ((k : ℕ) (l : List ℕ) → get_elem? lists k ≡ some l → (p : ℕ) → 0 < times p l → p < length seen) → Notes seen lists first last →
    Notes seen' lists' first last
notes_up seen seen' lists lists' first last front lists_is below notes =
    subst (λ (ls : List (List ℕ)). Notes seen' ls first last) (sym lists_is) (record {
      at = notes.at;
      places = notes.places;
      there = notes.there;
      all = λ k l there p entry has at.
          notes.all k l there p entry has (prefix_got seen seen' p entry front (below k l there p has) at);
      reloads =
          subst (λ (ns : List LoadNote). NotesLoads first last ns)
          (sym (noted_up seen seen' notes.places front (below notes.at notes.places notes.there))) notes.reloads;
    })

noted_all : (at : ℕ) (xs : List Entry) (places : List ℕ) →
    ((k : ℕ) (entry : Entry) → slice_get xs k ≡ Some entry → is_load entry.act ≡ true → is_among (at + k) places ≡ true) →
    noted_from at xs places ≡ noted xs
noted_all at [] places all = refl
noted_all at (x ∷ xs) places all =
    ap (λ (notes : List LoadNote). notes ++ noted_from (suc at) xs places) (here (is_among at places) (is_load x.act) refl refl)
    ∙ ap (λ (notes : List LoadNote). note_in x.act ++ notes)
    (noted_all (suc at) xs places
    (λ k entry found loads.
    let same : at + suc k ≡ suc at + k = omega arith in
    subst (λ (n : ℕ). is_among n places ≡ true) same (all (suc k) entry found loads)))
  where
    none : (done : Act) → is_load done ≡ false → note_in done ≡ []
    none Arrive other = refl
    none (Command conn block) other = refl
    none (Take conn) other = refl
    none (Close conn how) other = refl
    none (Dialed slot linked) other = refl
    none (Work slot) other = refl
    none (Job number) other = refl
    none (Loaded number note) other = absurd (cc other)
    none Halt other = refl

    here : (among loads : Bool) → is_among at places ≡ among → is_load x.act ≡ loads → noted_here among x ≡ note_in x.act
    here true loads in_it is = refl
    here false false in_it is = sym (none x.act is)
    here false true in_it is =
        let zeroth : at + 0 ≡ at = omega arith in
        let yes : is_among at places ≡ true = subst (λ (n : ℕ). is_among n places ≡ true) zeroth (all 0 x refl is) in
        absurd (cc (in_it, yes))

among_some : (p : ℕ) (places : List ℕ) → 0 < times p places → is_among p places ≡ true
among_some p places has = by (times p places) refl
  where
    by : (m : ℕ) → times p places ≡ m → nat_lt 0 m ≡ true
    by zero is = absurd (omega (arith, has, is))
    by (suc m) is = positive m

-- all that a journal notes of loads came of them
pub notes_whole : (seen : List Entry) (lists : List (List ℕ)) (first last : Store) →
    ((p : ℕ) → total (times p) lists ≡ once_below p (length seen)) → Notes seen lists first last → NotesLoads first last (noted seen)
notes_whole seen lists first last whole notes =
    subst (λ (ns : List LoadNote). NotesLoads first last ns)
    (noted_all 0 seen notes.places (λ k entry found loads.
    let inside = get_inside seen k entry found in
    let at = in_lists lists k (length seen) (whole k) inside in
    let has = notes.all at.0 at.1 at.2 k entry at.3 found loads in
    let here : k ≡ 0 + k = omega arith in
    subst (λ (n : ℕ). is_among n notes.places ≡ true) here (among_some k notes.places has))) notes.reloads
  where
    get_inside : (xs : List Entry) (k : ℕ) (x : Entry) → slice_get xs k ≡ Some x → k < length xs
    get_inside [] k x found = absurd (none-some x found)
    get_inside (y ∷ xs) zero x found = omega arith
    get_inside (y ∷ xs) (suc k) x found = let less = get_inside xs k x found in omega (arith, less)

-- nothing is noted at no place
noted_nowhere : (at : ℕ) (xs : List Entry) → noted_from at xs [] ≡ []
noted_nowhere at xs = noted_none at xs [] (λ p past. refl)

pub reloads_first : (store : Store) (seen : List Entry) (mine : List ℕ) → mine ≡ [] → NotesLoads store store (noted_at seen mine)
reloads_first store seen mine none =
    subst (λ (ns : List LoadNote). NotesLoads store store ns)
    (sym (ap (λ (ps : List ℕ). noted_at seen ps) none ∙ noted_nowhere 0 seen)) (reloads_none store)

-- the files that were given back, and the desk
pub noted_as : {F : Type 0} → (loads : F → List ℕ → ℕ → Option Answer) (counts : F → LoadCounts) (sizes : F → ℕ) (name : List ℕ) (first : Store)
    (files files' : F) (desk desk' : Desk) → files' ≡ files → desk' ≡ desk
    → HasNoted first (store (loads files name) (counts files) (sizes files)) desk
    → HasNoted first (store (loads files' name) (counts files') (sizes files')) desk'
noted_as loads counts sizes name first files files' desk desk' files_is desk_is noted = rw (files_is, desk_is) noted

-- ---- behind the first load

pub reloads_from : (first mid last : Store) (notes : List LoadNote) → IsUntouched first mid → NotesLoads mid last notes → NotesLoads first last notes
reloads_from first mid last notes same reloads = record {
  each = reloads.each;
  came = came_from reloads.each first mid last same reloads.came;
  noted = reloads.noted;
}

-- ---- counts

risen_step : (test : Bool) (old new : ℕ) → new ≡ (if test then raised old else old) → HasRisen (if test then 1 else 0) old new
risen_step true old new is = risen_or 1 old new (λ below. omega (arith, is, below))
risen_step false old new is = risen_or 0 old new (λ below. omega (arith, is))

loaded_counted : (old new : Store) (note : LoadNote) → CountsLoad note old.counts new.counts old.sizes new.sizes →
    AreCounted old new (note ∷ [])
loaded_counted old new (Ready text) c = record {
  failed = risen_step false _ _ (ap (λ (n : LoadCounts). n.faults) c.0);
  absent = risen_step false _ _ (ap (λ (n : LoadCounts). n.absences) c.0);
  too_large = risen_step false _ _ c.1;
}
loaded_counted old new (DocRefused text) c = record {
  failed = risen_step false _ _ (ap (λ (n : LoadCounts). n.faults) c.0);
  absent = risen_step false _ _ (ap (λ (n : LoadCounts). n.absences) c.0);
  too_large = risen_step false _ _ c.1;
}
loaded_counted old new (PatternRefused text extension condition) c = record {
  failed = risen_step false _ _ (ap (λ (n : LoadCounts). n.faults) c.0);
  absent = risen_step false _ _ (ap (λ (n : LoadCounts). n.absences) c.0);
  too_large = risen_step false _ _ c.1;
}
loaded_counted old new (PatternTooLarge text extension condition) c = record {
  failed = risen_step false _ _ (ap (λ (n : LoadCounts). n.faults) c.0);
  absent = risen_step false _ _ (ap (λ (n : LoadCounts). n.absences) c.0);
  too_large = risen_step true _ _ c.1;
}
loaded_counted old new Absent c = record {
  failed = risen_step false _ _ (ap (λ (n : LoadCounts). n.faults) c.0);
  absent = risen_step true _ _ (ap (λ (n : LoadCounts). n.absences) c.0);
  too_large = risen_step false _ _ c.1;
}
loaded_counted old new Failed c = record {
  failed = risen_step true _ _ (ap (λ (n : LoadCounts). n.faults) c.0);
  absent = risen_step false _ _ (ap (λ (n : LoadCounts). n.absences) c.0);
  too_large = risen_step false _ _ c.1;
}

risen_same : (old new : ℕ) → new ≡ old → HasRisen 0 old new
risen_same old new is = risen_step false old new is

none_counted : (old new : Store) → new.counts ≡ old.counts → new.sizes ≡ old.sizes → AreCounted old new []
none_counted old new counts sizes = record {
  failed = risen_same _ _ (ap (λ (n : LoadCounts). n.faults) counts);
  absent = risen_same _ _ (ap (λ (n : LoadCounts). n.absences) counts);
  too_large = risen_same _ _ sizes;
}

-- a count that rose has risen at least as often as by fewer
risen_less : (more times old new : ℕ) → HasRisen (more + times) old new → HasRisen times old new
risen_less more times old new (inl rose) = inl (omega (arith, rose))
risen_less more times old new (inr whole) = inr whole

-- one note more
risen_then : (test : LoadNote → Bool) (note : LoadNote) (notes : List LoadNote) (from now last : ℕ) →
    HasRisen (count_by test (note ∷ [])) from now → HasRisen (count_by test notes) now last → HasRisen (count_by test (note ∷ notes)) from last
risen_then test note notes from now last one rest =
    let joined : count_by test (note ∷ notes) ≡ count_by test (note ∷ []) + count_by test notes =
    sum_by-append (λ (n : LoadNote). if test n then 1 else 0) (note ∷ []) notes in
    subst (λ (n : ℕ). HasRisen n from last) (sym joined)
    (risen_more (count_by test (note ∷ [])) (count_by test notes) from now last one rest)

counted_then : (old mid new : Store) (note : LoadNote) (notes : List LoadNote) → AreCounted old mid (note ∷ []) → AreCounted mid new notes →
    AreCounted old new (note ∷ notes)
counted_then old mid new note notes first next = record {
  failed = risen_then tells_failed note notes _ _ _ first.failed next.failed;
  absent = risen_then tells_absent note notes _ _ _ first.absent next.absent;
  too_large = risen_then tells_too_large note notes _ _ _ first.too_large next.too_large;
}

counted_lost : (old mid new : Store) (notes : List LoadNote) → IsLost old mid → AreCounted mid new notes → AreCounted old new notes
counted_lost old mid new notes lost next = by lost
  where
    after : {one : List LoadNote} → AreCounted old mid one → AreCounted old new notes
    after {one = one} first = record {
      failed = risen_less (count_by tells_failed one) _ _ _ (risen_more _ _ _ _ _ first.failed next.failed);
      absent = risen_less (count_by tells_absent one) _ _ _ (risen_more _ _ _ _ _ first.absent next.absent);
      too_large = risen_less (count_by tells_too_large one) _ _ _ (risen_more _ _ _ _ _ first.too_large next.too_large);
    }

    by : IsLost old mid → AreCounted old new notes
    by (inl none) = after (none_counted old mid none.counts none.sizes)
    by (inr noted) = after (loaded_counted old mid noted.0 noted.1.counts)

came_counted : (each : List (Option LoadNote)) (old new : Store) → CameOf each old new → AreCounted old new (notes_of each)
came_counted [] old new came = none_counted old new came.counts came.sizes
came_counted (Some note ∷ later) old new came =
    counted_then old came.0 new note (notes_of later) (loaded_counted old came.0 note came.1.counts) (came_counted later came.0 new came.2)
came_counted (None ∷ later) old new came = counted_lost old came.0 new (notes_of later) came.1 (came_counted later came.0 new came.2)

pub loads_counted : (old new : Store) (notes : List LoadNote) → NotesLoads old new notes → AreCounted old new notes
loads_counted old new notes loads =
    subst (λ (ns : List LoadNote). AreCounted old new ns) (sym loads.noted) (came_counted loads.each old new loads.came)

pub either_counted : (old new : Store) (journal : List Entry) → (journal ≡ []) ⊎ NotesLoads old new (noted journal) →
    (journal ≡ []) ⊎ AreCounted old new (noted journal)
either_counted old new journal (inl none) = inl none
either_counted old new journal (inr loads) = inr (loads_counted old new (noted journal) loads)

pub either_noted : (old new : Store) (journal given : List Entry) → given ≡ journal → NotesLoads old new (noted journal) →
    (given ≡ []) ⊎ NotesLoads old new (noted given)
either_noted old new journal given is loads = inr (subst (λ (log : List Entry). NotesLoads old new (noted log)) (sym is) loads)
