-- The rule of the lock: tickets and turn, the state at home or out, what each pass knows. And what each step on it tells.
use Rattle.std.specs.Prelude.{◌≡◌, ◌≢◌, ◌⊎◌, ℕ, ◌+◌, ◌-◌, ◌%◌, ◌^◌, ◌<◌, ◌≤◌, nat_lt, if◌then◌else◌, List, [], ◌∷◌, ◌++◌, length, Option}
use Rattle.std.specs.Prelude.{Some, None}
use mathlib.Core.Option.{some, none}
use mathlib.Core.List.{IsPrefix}
use lib.ListN.{get_elem?}
use Rattle.atomic_table.specs.Table.{State, Step, Me}
use Rattle.fs_book.specs.declared.view.Stage.{Stage}
use Rattle.fs_book.specs.declared.view.Stage.TheVariants.{Idle, Waiting, Out}
use Rattle.fs_book.specs.declared.view.View.{View}
use Rattle.fs_book.specs.Counts.{total, times, once_below}
use Rattle.fs_book.specs.Opened.{Closed, Rises, IsSound}

-- how many parts all passes have together
abbrev pub all_parts : ℕ
all_parts = 2 ^ 62

abbrev pub tickets_of : Stage → ℕ
tickets_of Idle = 0
tickets_of (Waiting k) = 1
tickets_of (Out k) = 1

-- the stage has the ticket
abbrev pub HasTicket : Stage → ℕ → Type 0
HasTicket Idle k = ⊥
HasTicket (Waiting t) k = t ≡ k
HasTicket (Out t) k = t ≡ k

abbrev pub longer : {E : Type 0} → List E → List E → List E
longer xs ys = if nat_lt (length xs) (length ys) then ys else xs

abbrev pub shorter : {E : Type 0} → List E → List E → List E
shorter xs ys = if nat_lt (length xs) (length ys) then xs else ys

module _ {B E : Type 0} where
  abbrev pub parts_of : View B E → ℕ
  parts_of v = v.parts

  abbrev pub drawn_by : View B E → ℕ
  drawn_by v = tickets_of v.stage

  -- the pass's own places, and those of each pass that was met into it
  abbrev pub lists_of : View B E → List (List ℕ)
  lists_of v = v.mine ∷ v.met

  -- how often the pass has the place
  abbrev pub held : ℕ → View B E → ℕ
  held p v = total (times p) (lists_of v)

  -- what a pass that was met into another leaves
  abbrev pub spent_view : View B E
  spent_view = record { parts = 0; start = None; stage = Idle; seen = []; told = []; mine = []; met = [] }

  -- the first pass
  abbrev pub opening_view : B → View B E
  opening_view origin = record { parts = all_parts; start = Some origin; stage = Idle; seen = []; told = []; mine = []; met = [] }

  -- a pass that gave n parts away, and the new pass that has them
  abbrev pub cut_left : ℕ → View B E → View B E
  cut_left n v = record v { parts = v.parts - n }

  abbrev pub cut_right : ℕ → View B E → View B E
  cut_right n v = record { parts = n; start = v.start; stage = Idle; seen = v.seen; told = []; mine = []; met = [] }

  -- a pass that another was met into
  abbrev pub both : View B E → View B E → View B E
  both v w =
      record v { parts = v.parts + w.parts; seen = longer v.seen w.seen; told = shorter v.seen w.seen; met = v.met ++ w.mine ∷ w.met }

-- the fact that the type of a pass has of its view
abbrev pub Sound : {B E : Type 0} → (B → List E → E → Option ℕ) → (E → Option ℕ) → View B E → Type 0
Sound opens names v = IsSound opens names v.start (lists_of v) v.seen

module _ {S E : Type 0} (log : List E) (served drawn : ℕ) (homes : List (mathlib.Core.Option.Option (Option S))) where
  -- a ticket is drawn and not yet served, and who has the state has seen its whole journal
  abbrev pub AtStage : List E → Stage → Type 0
  AtStage seen Idle = Unit {0}
  AtStage seen (Waiting k) = (served ≤ k) × (k < drawn)
  AtStage seen (Out k) = (k ≡ served) × (k < drawn) × (seen ≡ log) × (homes ≡ none ∷ [])

module _ {S B E : Type 0} (opens : B → List E → E → Option ℕ) (names : E → Option ℕ) (origin : B) (log : List E) (served drawn : ℕ)
    (homes : List (mathlib.Core.Option.Option (Option S))) where
  -- what the rule says of one pass
  pub record Fits (v : View B E) : Type 0 where
    pub some_part : 0 < v.parts
    pub origin_is : v.start ≡ Some origin
    pub prefix : IsPrefix v.seen log
    pub told : IsPrefix v.told v.seen
    pub places : (p : ℕ) → 0 < held p v → p < length v.seen
    pub rising : (k : ℕ) (l : List ℕ) → get_elem? (lists_of v) k ≡ some l → Rises l
    pub closed : Closed opens names v.start (lists_of v) v.seen
    pub stage : AtStage log served drawn homes v.seen v.stage

module _ {S B E : Type 0} (start : S → B) (journal : S → List E) (opens : B → List E → E → Option ℕ) (names : E → Option ℕ) where
  -- the rule: the words are tickets and turn modulo 2^64, and each place of the journal stands in exactly one list of exactly one pass
  pub record Fair (origin : B) (s : State (Option S) (View B E)) : Type 0 where
    pub log : List E
    pub served : ℕ
    pub drawn : ℕ
    pub words_are : s.words ≡ (drawn % (2 ^ 64)) ∷ (served % (2 ^ 64)) ∷ []
    pub queue : served + total drawn_by s.views ≡ drawn
    pub parts : total parts_of s.views ≡ all_parts
    pub each : (j : ℕ) (v : View B E) → get_elem? s.views j ≡ some v → (v ≡ spent_view) ⊎ Fits opens names origin log served drawn s.homes v
    pub apart : (i j k : ℕ) (v w : View B E) → get_elem? s.views i ≡ some v → get_elem? s.views j ≡ some w → HasTicket v.stage k
        → HasTicket w.stage k → i ≡ j
    pub once : (p : ℕ) → total (held p) s.views ≡ once_below p (length log)
    pub home : ((m : S) × (s.homes ≡ some (Some m) ∷ []) × (start m ≡ origin) × (journal m ≡ log))
        ⊎ ((j : ℕ) × (v : View B E) × (get_elem? s.views j ≡ some v) × (v.stage ≡ Out served) × (s.homes ≡ none ∷ []))

  -- a ticket was drawn
  abbrev pub DrawsTicket : Step (Option S) → Me (Option S) (View B E) → ℕ → Me (Option S) (View B E) → Type 0
  DrawsTicket step m n m' = (k : ℕ) × (n ≡ k % (2 ^ 64)) × (m' ≡ (record m.0 { stage = Waiting k }, m.1))

  -- the turn was this ticket's, and the state was taken
  abbrev pub Took : ℕ → Me (Option S) (View B E) → Me (Option S) (View B E) → Type 0
  Took k m m' =
      (x : S) × (m.0.start ≡ Some (start x)) × IsPrefix m.0.seen (journal x) × Sound opens names m'.0
      × (m' ≡ (record m.0 { stage = Out k; seen = journal x }, (0, Some x) ∷ m.1))

  -- the turn was read by one who waits
  abbrev pub ReadsTurn : Step (Option S) → Me (Option S) (View B E) → ℕ → Me (Option S) (View B E) → Type 0
  ReadsTurn step m n m' = (k : ℕ) → m.0.stage ≡ Waiting k → (n ≡ k % (2 ^ 64) → Took k m m') × (n ≢ k % (2 ^ 64) → m' ≡ m)

  -- the state was given back as it was, and the turn passed on
  abbrev pub LeavesTurn : Step (Option S) → Me (Option S) (View B E) → ℕ → Me (Option S) (View B E) → Type 0
  LeavesTurn step m n m' = m' ≡ (record m.0 { stage = Idle }, [])

  -- the state was given back with one entry more, and the turn passed on
  abbrev pub LeavesLonger : Step (Option S) → Me (Option S) (View B E) → ℕ → Me (Option S) (View B E) → Type 0
  LeavesLonger step m n m' = Sound opens names m'.0
      × ((x : S) → m.1 ≡ (0, Some x) ∷ []
      → m' ≡ (record m.0 { stage = Idle; seen = journal x; mine = m.0.mine ++ length m.0.seen ∷ [] }, []))

  -- what a meeting could not tell by itself
  abbrev pub LearnsRule : Step (Option S) → Me (Option S) (View B E) → ℕ → Me (Option S) (View B E) → Type 0
  LearnsRule step m n m' = (m' ≡ m) × (m.0.parts ≤ all_parts) × IsPrefix m.0.told m.0.seen × Sound opens names m.0
