-- What is true of all holds, and of every step and run of steps on them.
use Rattle.std.specs.Prelude.{◌≡◌, ◌≢◌, ◌<◌, ◌≤◌, ◌^◌, ℕ, true, ◌&&◌, ◌||◌, List, [], ◌∷◌, length, All, count_by}
use Rattle.fs_text.specs.Texts.{Text}
use Rattle.fs_limit.specs.Holds.{Holds, is_hold, has, holders, others, held_by, may_hold, new_hold, after_hold, after_release}

-- a slot holds a key once at most
abbrev pub IsOnce : Holds → Type 0
IsOnce holds = (realm id : Text) (slot : ℕ) → count_by (is_hold realm id slot) holds ≤ 1

-- what is true of all holds
pub record IsSound (holds : Holds) : Type 0 where
  pub once : IsOnce holds
  -- 32 bits count them
  pub few : length holds < 2 ^ 32

-- ---- at one step

-- a step: a slot asks to hold a key beside fewer than so many others, or is released
pub data Step : Type 0 where
  Ask : Text → Text → ℕ → ℕ → Step
  Release : ℕ → Step

-- the slot of a step
abbrev pub slot_of : Step → ℕ
slot_of (Ask realm id max slot) = slot
slot_of (Release slot) = slot

-- the holds behind a step
abbrev pub after : Step → Holds → Holds
after (Ask realm id max slot) holds = after_hold realm id max slot holds
after (Release slot) holds = after_release slot holds

-- each step keeps it so that a slot holds a key once at most
abbrev pub StaysOnce : Type 0
StaysOnce = (step : Step) (holds : Holds) → IsOnce holds → IsOnce (after step holds)

-- where a slot may hold a key, no more slots hold it then than that one allows
abbrev pub AllowedIsWithin : Type 0
AllowedIsWithin =
    (realm id : Text) (max slot : ℕ) (holds : Holds) → IsOnce holds → may_hold realm id max slot holds ≡ true →
    length (holders realm id (after_hold realm id max slot holds)) ≤ max

-- a step asks for a key and allows that so many slots hold it
abbrev pub Allows : Text → Text → ℕ → Step → Type 0
Allows realm id count (Ask asked_realm asked_id max slot) = (asked_realm ≡ realm) × (asked_id ≡ id) × (count ≤ max)
Allows realm id count (Release slot) = ⊥

-- where more slots hold a key behind a step, the step asked for that key and allows so many
abbrev pub GrowsByAsking : Type 0
GrowsByAsking =
    (realm id : Text) (step : Step) (holds : Holds) → IsOnce holds →
    length (holders realm id holds) < length (holders realm id (after step holds)) →
    Allows realm id (length (holders realm id (after step holds))) step

-- a slot holds what it held, and the key that it asked for if it may hold that
abbrev pub AskedIsHeld : Type 0
AskedIsHeld =
    (realm id : Text) (max slot : ℕ) (holds : Holds) (other_realm other_id : Text) (other : ℕ) →
    has other_realm other_id other (after_hold realm id max slot holds)
    ≡ (has other_realm other_id other holds
    || (may_hold realm id max slot holds && is_hold other_realm other_id other (new_hold realm id slot)))

-- a slot that is released holds nothing
abbrev pub ReleasedHoldsNothing : Type 0
ReleasedHoldsNothing = (slot : ℕ) (holds : Holds) → held_by slot (after_release slot holds) ≡ []

-- each key is then held by its other holders, in the same order
abbrev pub ReleasedLeavesOthers : Type 0
ReleasedLeavesOthers =
    (realm id : Text) (slot : ℕ) (holds : Holds) → holders realm id (after_release slot holds) ≡ others realm id slot holds

-- all other slots than that of a step hold what they held, in the same order
abbrev pub OthersStay : Type 0
OthersStay =
    (step : Step) (other : ℕ) (holds : Holds) → slot_of step ≢ other → held_by other (after step holds) ≡ held_by other holds

-- ---- over a run of steps

-- the holds behind steps, one after the other
abbrev pub after_all : List Step → Holds → Holds
after_all [] holds = holds
after_all (step ∷ steps) holds = after_all steps (after step holds)

-- a step that asks for a key allows so many at most
abbrev pub AsksWithin : Text → Text → ℕ → Step → Type 0
AsksWithin realm id most (Ask asked_realm asked_id max slot) = asked_realm ≡ realm → asked_id ≡ id → max ≤ most
AsksWithin realm id most (Release slot) = Unit {0}

-- where so many slots hold a key at most, and all who ask for it allow no more, no more ever hold it
abbrev pub NeverMore : Type 0
NeverMore =
    (realm id : Text) (most : ℕ) (steps : List Step) (holds : Holds) → IsOnce holds → All (AsksWithin realm id most) steps →
    length (holders realm id holds) ≤ most → length (holders realm id (after_all steps holds)) ≤ most
