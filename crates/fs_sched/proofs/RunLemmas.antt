-- What fires: the least, once, and of two the lesser first.
use Rattle.std.proofs.Common.{◌≡◌, ◌≢◌, ℕ, ◌≤◌, ◌<◌, inl, inr, Bool, true, false, not, List, [], ◌∷◌, length, slice_index_or}
use Rattle.std.proofs.Common.{Option, None, Some, refl, sym, ap, ◌∙◌, subst, arith, if◌then◌else◌, All, Contains}
use Rattle.std.specs.List.{AllPairs, cons_option}
use Rattle.std.proofs.lemmas.Bool.{leb-true, leb-false, cases_order}
use Rattle.std.proofs.lemmas.Bool.Decides.{nat_tests}
use Rattle.std.proofs.lemmas.List.{get_or_default}
use Rattle.std.proofs.lemmas.List.Elements.{All-nil, All-cons, All-head, All-tail, All-weaker, All-filter, All-contains}
use Rattle.std.proofs.lemmas.List.Kept.{AllPairs-cons, AllPairs-filter}
use Rattle.fs_text.specs.Texts.{Text}
use Rattle.fs_sched.specs.declared.task.Task.{Task}
use Rattle.fs_sched.specs.declared.task.What.{What}
use Rattle.fs_sched.specs.Tasks.{Queue, most, is_due, next_task, with_task, is_full, after_add, is_meant, fired_of, left_of}
use Rattle.fs_sched.specs.Laws.{IsBefore, IsOther, IsDrawn, IsSound, FiredIsLeast, NoneIsDue, Step, Add, Delete}
use Rattle.fs_sched.specs.Laws.{Clear, Fire, after, fired_by, fired_in, StaysSound, FiresOnce, NotBehind, LesserFirst}
use Rattle.fs_sched.proofs.TaskLemmas.{placed, IsLater, head_pairs, tail_pairs, no_pairs, all_insert, before_later, added_sound, kept_sound}

-- ---- at one place

-- what fires of tasks in order
Fired : ℕ → Task → List Task → List Task → Type 0
Fired now task tasks left = (task.moment ≤ now) × All (IsBefore task) left × (tasks ≡ task ∷ left)

fired_first : (now : ℕ) (tasks : List Task) (task : Task) → AllPairs IsBefore tasks → fired_of now tasks ≡ Some task → Fired now task tasks (left_of now tasks)
unfolding Fired
fired_first now [] task order fired = absurd (cc)
fired_first now (first ∷ rest) task order fired = by (is_due now first) refl fired
  where
    by : (b : Bool) → is_due now first ≡ b → (if b then Some first else None) ≡ Some task →
        Fired now task (first ∷ rest) (if b then rest else first ∷ rest)
    by true e fired =
        let same : first ≡ task = cc in
        subst (λ t. Fired now t (first ∷ rest) rest) same
        (leb-true first.moment now e, head_pairs IsBefore first rest order, refl)
    by false e fired = absurd (cc)

pub fired_is_least : FiredIsLeast
unfolding Fired
fired_is_least now queue task sound fired = fired_first now queue.tasks task sound.order fired

none_first : (now : ℕ) (tasks : List Task) → AllPairs IsBefore tasks → fired_of now tasks ≡ None → All (IsLater now) tasks
none_first now [] order none = All-nil (IsLater now)
none_first now (first ∷ rest) order none = by (is_due now first) refl none
  where
    by : (b : Bool) → is_due now first ≡ b → (if b then Some first else None) ≡ None → All (IsLater now) (first ∷ rest)
    by true e none = absurd (cc)
    by false e none =
        let later : now < first.moment = leb-false first.moment now e in
        All-cons (IsLater now) first rest later
        (All-weaker (IsBefore first) (IsLater now) (λ t. before_later now first t later) rest (head_pairs IsBefore first rest order))

pub none_is_due : NoneIsDue
none_is_due now queue sound none = none_first now queue.tasks sound.order none

-- ---- each step keeps what holds

left_sound : (now : ℕ) (tasks : List Task) (added : ℕ) → IsSound (record { tasks = tasks; added = added }) →
    IsSound (record { tasks = left_of now tasks; added = added })
left_sound now [] added sound = sound
left_sound now (first ∷ rest) added sound = by (is_due now first)
  where
    by : (b : Bool) → IsSound (record { tasks = if b then rest else first ∷ rest; added = added })
    by true = record {
      order = tail_pairs IsBefore first rest sound.order;
      apart = tail_pairs IsOther first rest sound.apart;
      drawn = All-tail (IsDrawn added) first rest sound.drawn;
      few = omega (arith, sound.few);
    }
    by false = sound

add_sound : (moment : ℕ) (group : Text) (what : What) (queue : Queue) → IsSound queue → IsSound (after_add moment group what queue)
add_sound moment group what queue sound = by (is_full queue) refl
  where
    by : (b : Bool) → is_full queue ≡ b → IsSound (if b then queue else with_task moment group what queue)
    by true e = sound
    by false e =
        let few : length queue.tasks ≤ most = sound.few in
        let room : length queue.tasks < most = grind (arith, nat_tests) in
        added_sound moment group what queue room sound

pub stays_sound : StaysSound
stays_sound (Add moment group what) queue sound = add_sound moment group what queue sound
stays_sound (Delete key) queue sound = kept_sound (λ task. not (is_meant key task)) queue sound
stays_sound Clear queue sound = record { order = no_pairs IsBefore; apart = no_pairs IsOther; drawn = All-nil (IsDrawn queue.added); few = omega arith }
stays_sound (Fire now) queue sound = left_sound now queue.tasks queue.added sound

-- ---- a number that was drawn and is not there is gone

-- the task is of another number
IsNot : ℕ → Task → Type 0
IsNot n task = task.number ≢ n

-- the number was drawn, and no task of it is there
record IsGone (n : ℕ) (queue : Queue) : Type 0 where
  pub drawn : n ≤ queue.added
  pub gone : All (IsNot n) queue.tasks

gone_add : (n moment : ℕ) (group : Text) (what : What) (queue : Queue) → IsGone n queue → IsGone n (after_add moment group what queue)
unfolding IsNot
gone_add n moment group what queue gone = by (is_full queue)
  where
    other : IsNot n (next_task moment group what queue)
    other = λ same. omega (arith, gone.drawn, same)

    by : (b : Bool) → IsGone n (if b then queue else with_task moment group what queue)
    by true = gone
    by false = record { drawn = omega (arith, gone.drawn); gone = all_insert (IsNot n) queue.tasks _ _ gone.gone other }

all_left : (P : Task → Type 0) (now : ℕ) (tasks : List Task) → All P tasks → All P (left_of now tasks)
all_left P now [] all = all
all_left P now (first ∷ rest) all = by (is_due now first)
  where
    by : (b : Bool) → All P (if b then rest else first ∷ rest)
    by true = All-tail P first rest all
    by false = all

gone_after : (n : ℕ) (step : Step) (queue : Queue) → IsGone n queue → IsGone n (after step queue)
gone_after n (Add moment group what) queue gone = gone_add n moment group what queue gone
gone_after n (Delete key) queue gone = record { drawn = gone.drawn; gone = All-filter (λ task. not (is_meant key task)) (IsNot n) queue.tasks gone.gone }
gone_after n Clear queue gone = record { drawn = gone.drawn; gone = All-nil (IsNot n) }
gone_after n (Fire now) queue gone = record { drawn = gone.drawn; gone = all_left (IsNot n) now queue.tasks gone.gone }

-- what fires is one of those that are there
fired_all : (P : Task → Type 0) (step : Step) (queue : Queue) (rest : List Task) → All P queue.tasks → All P rest →
    All P (cons_option (fired_by step queue) rest)
fired_all P (Add moment group what) queue rest there all = all
fired_all P (Delete key) queue rest there all = all
fired_all P Clear queue rest there all = all
fired_all P (Fire now) queue rest there all = by queue.tasks there
  where
    due : (b : Bool) (first : Task) → P first → All P (cons_option (if b then Some first else None) rest)
    due true first one = All-cons P first rest one all
    due false first one = all

    by : (tasks : List Task) → All P tasks → All P (cons_option (fired_of now tasks) rest)
    by [] there = all
    by (first ∷ tasks) there = due (is_due now first) first (All-head P first tasks there)

-- so it never fires
never_fires : (n : ℕ) (steps : List Step) (queue : Queue) → IsGone n queue → All (IsNot n) (fired_in queue steps)
never_fires n [] queue gone = All-nil (IsNot n)
never_fires n (step ∷ steps) queue gone =
    fired_all (IsNot n) step queue (fired_in (after step queue) steps) gone.gone
    (never_fires n steps (after step queue) (gone_after n step queue gone))

-- ---- what fires, and what fires later

-- what holds of what a step fires and of what fires later, and of all that fires later
pairs_option : (R : Task → Task → Type 0) (fired : Option Task) (rest : List Task) → ((task : Task) → fired ≡ Some task → All (R task) rest) →
    AllPairs R rest → AllPairs R (cons_option fired rest)
pairs_option R None rest head tail = tail
pairs_option R (Some task) rest head tail = AllPairs-cons R task rest (head task refl) tail

-- what a step fires stood first, and the others are left
fires_first : (step : Step) (queue : Queue) (task : Task) → IsSound queue → fired_by step queue ≡ Some task →
    (queue.tasks ≡ task ∷ (after step queue).tasks) × (queue.added ≡ (after step queue).added)
fires_first (Add moment group what) queue task sound fired = absurd (cc)
fires_first (Delete key) queue task sound fired = absurd (cc)
fires_first Clear queue task sound fired = absurd (cc)
fires_first (Fire now) queue task sound fired = ((fired_is_least now queue task sound fired).2, refl)

-- a relation of each task that is there to the ones behind it is one of what is fired to what is left
fired_pairs : (R : Task → Task → Type 0) (step : Step) (queue : Queue) (task : Task) → IsSound queue → fired_by step queue ≡ Some task →
    AllPairs R queue.tasks → All (R task) (after step queue).tasks
fired_pairs R step queue task sound fired pairs =
    head_pairs R task (after step queue).tasks (subst (AllPairs R) (fires_first step queue task sound fired).0 pairs)

fired_gone : (step : Step) (queue : Queue) (task : Task) → IsSound queue → fired_by step queue ≡ Some task → IsGone task.number (after step queue)
unfolding IsNot
fired_gone step queue task sound fired =
    let first = fires_first step queue task sound fired in
    let drawn = All-head (IsDrawn queue.added) task (after step queue).tasks (subst (All (IsDrawn queue.added)) first.0 sound.drawn) in
    record {
      drawn = omega (arith, drawn.1, first.1);
      gone = All-weaker (IsOther task) (IsNot task.number) (λ t apart. λ same. apart (sym same)) (after step queue).tasks
          (fired_pairs IsOther step queue task sound fired sound.apart);
    }

pub fires_once : FiresOnce
unfolding IsNot
fires_once [] queue sound = no_pairs IsOther
fires_once (step ∷ steps) queue sound =
    pairs_option IsOther (fired_by step queue) (fired_in (after step queue) steps)
    (λ task fired. All-weaker (IsNot task.number) (IsOther task) (λ t apart. λ same. apart (sym same)) (fired_in (after step queue) steps)
    (never_fires task.number steps (after step queue) (fired_gone step queue task sound fired)))
    (fires_once steps (after step queue) (stays_sound step queue sound))

-- ---- of two the lesser fires first

-- of two that stand in order, the one is not behind the other once more are there and some are gone
ordered_add : (one other : Task) (moment : ℕ) (group : Text) (what : What) (queue : Queue) → IsSound queue →
    one.number ≤ queue.added → other.number ≤ queue.added → AllPairs (NotBehind one other) queue.tasks →
    AllPairs (NotBehind one other) (after_add moment group what queue).tasks
ordered_add one other moment group what queue sound first second pairs = by (is_full queue)
  where
    new : Task
    new = next_task moment group what queue

    by : (b : Bool) → AllPairs (NotBehind one other) (if b then queue else with_task moment group what queue).tasks
    by true = pairs
    by false = placed (NotBehind one other) new queue.tasks sound.order pairs
        (λ k d within. record { due = λ _ _ same. omega (arith, first, same); later = λ _ same _. omega (arith, second, same) })

ordered_left : (R : Task → Task → Type 0) (now : ℕ) (tasks : List Task) → AllPairs R tasks → AllPairs R (left_of now tasks)
ordered_left R now [] pairs = pairs
ordered_left R now (first ∷ rest) pairs = by (is_due now first)
  where
    by : (b : Bool) → AllPairs R (if b then rest else first ∷ rest)
    by true = tail_pairs R first rest pairs
    by false = pairs

ordered_after : (one other : Task) (step : Step) (queue : Queue) → IsSound queue →
    one.number ≤ queue.added → other.number ≤ queue.added → AllPairs (NotBehind one other) queue.tasks →
    AllPairs (NotBehind one other) (after step queue).tasks
ordered_after one other (Add moment group what) queue sound first second pairs = ordered_add one other moment group what queue sound first second pairs
ordered_after one other (Delete key) queue sound first second pairs = AllPairs-filter (NotBehind one other) (λ task. not (is_meant key task)) queue.tasks pairs
ordered_after one other Clear queue sound first second pairs = no_pairs (NotBehind one other)
ordered_after one other (Fire now) queue sound first second pairs = ordered_left (NotBehind one other) now queue.tasks pairs

more_added : (step : Step) (queue : Queue) → queue.added ≤ (after step queue).added
more_added (Add moment group what) queue = by (is_full queue)
  where
    by : (b : Bool) → queue.added ≤ (if b then queue else with_task moment group what queue).added
    by true = omega arith
    by false = omega arith
more_added (Delete key) queue = omega arith
more_added Clear queue = omega arith
more_added (Fire now) queue = omega arith

ordered_fire : (one other : Task) (steps : List Step) (queue : Queue) → IsSound queue →
    one.number ≤ queue.added → other.number ≤ queue.added → AllPairs (NotBehind one other) queue.tasks →
    AllPairs (NotBehind one other) (fired_in queue steps)
unfolding IsNot
ordered_fire one other [] queue sound first second pairs = no_pairs (NotBehind one other)
ordered_fire one other (step ∷ steps) queue sound first second pairs =
    let more = more_added step queue in
    let early : one.number ≤ (after step queue).added = omega (arith, first, more) in
    let late : other.number ≤ (after step queue).added = omega (arith, second, more) in
    pairs_option (NotBehind one other) (fired_by step queue) (fired_in (after step queue) steps)
    (λ task fired. λ k d within. λ same.
    never_fires one.number steps (after step queue)
    (record { drawn = early; gone = λ i e inside. fired_pairs (NotBehind one other) step queue task sound fired pairs i e inside same }) k d within)
    (ordered_fire one other steps (after step queue) (stays_sound step queue sound) early late
    (ordered_after one other step queue sound first second pairs))

-- a task stands where one of its number stands
place_is : (tasks : List Task) (task : Task) (k i : ℕ) (d : Task) → AllPairs IsOther tasks → k < length tasks → slice_index_or tasks k task ≡ task →
    i < length tasks → (slice_index_or tasks i d).number ≡ task.number → k ≡ i
place_is tasks task k i d apart inside is within same =
    let there : slice_index_or tasks k d ≡ task = get_or_default tasks k d task inside ∙ is in
    let both : (slice_index_or tasks k d).number ≡ (slice_index_or tasks i d).number = ap (λ t. t.number) there ∙ sym same in
    elim (cases_order k i) [
      | inl e ↦ e
      | inr (inl before) ↦ absurd (apart k i d before within both)
      | inr (inr behind) ↦ absurd (apart i k d behind inside (sym both))
    ]

not_both : (one other : Task) → IsBefore one other → IsBefore other one → ⊥
not_both one other (inl less) (inl more) = omega arith
not_both one other (inl less) (inr more) = omega (arith, more.0)
not_both one other (inr less) (inl more) = omega (arith, less.0)
not_both one other (inr less) (inr more) = omega (arith, less.1, more.1)

pub lesser_first : LesserFirst
lesser_first one other steps queue sound there also before =
    ordered_fire one other steps queue sound
    (drawn one there) (drawn other also) pairs
  where
    drawn : (task : Task) → Contains queue.tasks task → task.number ≤ queue.added
    drawn task at = (All-contains (IsDrawn queue.added) queue.tasks task sound.drawn at).1

    pairs : AllPairs (NotBehind one other) queue.tasks
    pairs i j d lt within first second =
        let at : also.0 ≡ i = place_is queue.tasks other also.0 i d sound.apart also.1 also.2 (omega arith) first in
        let behind : there.0 ≡ j = place_is queue.tasks one there.0 j d sound.apart there.1 there.2 within second in
        let other_is : slice_index_or queue.tasks i d ≡ other = ap (λ n. slice_index_or queue.tasks n d) (sym at) ∙ get_or_default queue.tasks also.0 d other also.1 ∙ also.2 in
        let one_is : slice_index_or queue.tasks j d ≡ one = ap (λ n. slice_index_or queue.tasks n d) (sym behind) ∙ get_or_default queue.tasks there.0 d one there.1 ∙ there.2 in
        not_both one other before (subst (λ t. IsBefore other t) one_is (subst (λ t. IsBefore t (slice_index_or queue.tasks j d)) other_is (sound.order i j d lt within)))
