-- One leg: its brackets and its endpoint.
use Rattle.std.specs.Prelude.{ℕ, Bool, List, [], ◌∷◌, drop, Result, Ok}
use Rattle.std.specs.List.{before_first, position_or_len}
use Rattle.std.specs.Borrow.{Bor}
use Rattle.memchr.specs.Find.{is_byte2}
use Rattle.fs_dial.specs.Results.{◌>>=◌}
use Rattle.fs_dial.specs.declared.bracket.Bracket.TheVariants.{Square}
use Rattle.fs_dial.specs.declared.fault.DialFault.{DialFault}
use Rattle.fs_dial.specs.declared.fault.DialKind.TheVariants as kind
use Rattle.fs_dial.specs.declared.leg.Leg.{Leg}
use Rattle.fs_dial.specs.Faults.{fault}
use Rattle.fs_dial.specs.Guards.{offset}
use Rattle.fs_dial.specs.Pairs.{Pair}
use Rattle.fs_dial.specs.Brackets.{brackets_at}

-- a leg as it is written: where its endpoint begins, its endpoint, and its own pairs
pub record LegText : Type 0 where
  pub at : ℕ
  pub endpoint : List ℕ
  pub pairs : List Pair

abbrev pub leg_of : Leg → LegText
leg_of l = record { at = l.at; endpoint = l.endpoint.now; pairs = l.pairs }

abbrev pub leg_seen : Leg × Bor (List ℕ) → LegText × List ℕ
leg_seen x = (leg_of x.0, x.1.now)

-- `,` and `|`
abbrev pub ends_leg : ℕ → Bool
ends_leg = is_byte2 44 124

unfoldable pub leg_on : ℕ → List Pair → List ℕ → List ℕ → Result (LegText × List ℕ) DialFault
leg_on at pairs [] rest = fault at kind.EmptyLeg
leg_on at pairs (b ∷ endpoint) rest = Ok (record { at = at; endpoint = b ∷ endpoint; pairs = pairs }, rest)

-- a leg with these pairs, from behind its brackets: up to the next `,` or `|`
unfoldable pub endpoint_at : ℕ → List Pair → List ℕ → Result (LegText × List ℕ) DialFault
endpoint_at end pairs bytes =
    leg_on (offset end bytes) pairs (before_first ends_leg bytes) (drop (position_or_len ends_leg bytes) bytes)

unfoldable pub leg_at : ℕ → List ℕ → Result (LegText × List ℕ) DialFault
leg_at end bytes = brackets_at Square end bytes >>= λ x. endpoint_at end x.0 x.1
