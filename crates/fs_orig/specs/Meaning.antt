-- What a verdict means, told apart from how it is found.
use Rattle.std.specs.Prelude.{◌≡◌, ℕ, ◌<◌, ◌≤◌, ◌⊎◌, Bool, true, false, List, Option, Some, IsSome, slice_get}
use Rattle.std.specs.Option.{option_and_then}
use Rattle.fs_text.specs.declared.causes.Cause.{Cause}
use Rattle.fs_orig.specs.declared.leg.OrigLeg.{OrigLeg}
use Rattle.fs_orig.specs.declared.verdict.Verdict.{Verdict}
use Rattle.fs_orig.specs.declared.verdict.Verdict.TheVariants.{Wait, LegExpired, Expired}
use Rattle.fs_orig.specs.Legs.{answer_of}
use Rattle.fs_orig.specs.Verdicts.{limit_of}

-- the time of the origination or of a leg is over
abbrev pub is_timeout : Verdict → Bool
is_timeout Expired = true
is_timeout (LegExpired position) = true
is_timeout _ = false

-- there is nothing to do yet
abbrev pub is_wait : Verdict → Bool
is_wait (Wait until) = true
is_wait _ = false

-- the place at which the leg at a position answered, if it lives
abbrev pub answer_at : List OrigLeg → ℕ → Option ℕ
answer_at legs position = option_and_then answer_of (slice_get legs position)

-- a leg that lives and answered before all others that do, or at the same place and stands before these
pub record IsWinner (legs : List OrigLeg) (position : ℕ) : Type 0 where
  pub place : ℕ
  pub answered : answer_at legs position ≡ Some place
  pub first : (other k : ℕ) → answer_at legs k ≡ Some other → (place < other) ⊎ ((place ≡ other) × (position ≤ k))

-- the deadline of the leg at a position, if it lives
abbrev pub limit_at : List OrigLeg → ℕ → Option ℕ
limit_at legs position = option_and_then limit_of (slice_get legs position)

-- a leg that lives and whose deadline has come; those before it that live have time or no deadline
pub record IsFirstToExpire (now : ℕ) (legs : List OrigLeg) (position : ℕ) : Type 0 where
  pub limit : ℕ
  pub reached : limit_at legs position ≡ Some limit
  pub late : limit ≤ now
  pub first : (other k : ℕ) → limit_at legs k ≡ Some other → k < position → now < other

-- the place at which the leg at a position died
abbrev pub death_at : List OrigLeg → ℕ → Option ℕ
death_at legs position = option_and_then (λ leg. leg.died) (slice_get legs position)

-- the cause of the leg at a position
abbrev pub death_cause_at : List OrigLeg → ℕ → Option Cause
death_cause_at legs position = option_and_then (λ leg. leg.cause) (slice_get legs position)

-- a leg that died after all others that did, or at the same place and stands behind these; and its cause
pub record IsLastToDie (legs : List OrigLeg) (cause : Cause) : Type 0 where
  pub position : ℕ
  pub place : ℕ
  pub died : death_at legs position ≡ Some place
  pub last : (other k : ℕ) → death_at legs k ≡ Some other → (other < place) ⊎ ((other ≡ place) × (k ≤ position))
  pub told : death_cause_at legs position ≡ Some cause

-- there is a leg, and each that died has a cause
pub record IsWithCauses (legs : List OrigLeg) : Type 0 where
  pub leg : IsSome (slice_get legs 0)
  pub causes : (k : ℕ) → IsSome (death_at legs k) → IsSome (death_cause_at legs k)
