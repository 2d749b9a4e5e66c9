-- The brackets that stand before a dial string and before a leg.
use Rattle.std.specs.Prelude.{◌==◌, ℕ, zero, suc, ◌+◌, ◌-◌, ◌&&◌, not, if◌then◌else◌, List, [], ◌∷◌, length, Option, None, Some, Result, Ok}
use Rattle.std.specs.Borrow.{Bor}
use Rattle.fs_dial.specs.Results.{◌>>=◌}
use Rattle.fs_dial.specs.declared.bracket.Bracket.{Bracket}
use Rattle.fs_dial.specs.declared.bracket.Bracket.TheVariants.{Brace, Square}
use Rattle.fs_dial.specs.declared.fault.DialFault.{DialFault}
use Rattle.fs_dial.specs.declared.fault.DialKind.TheVariants as kind
use Rattle.fs_dial.specs.declared.guard.Guard.TheVariants.{Bare}
use Rattle.fs_dial.specs.declared.pair.RawPairs.{RawPairs}
use Rattle.fs_dial.specs.Faults.{fault}
use Rattle.fs_dial.specs.Guards.{from_mark, front_of, offset}
use Rattle.fs_dial.specs.Pairs.{Pair, pairs_at}

unfoldable pub opener_of : Bracket → ℕ
opener_of Brace = 123
opener_of Square = 91

unfoldable pub closer_of : Bracket → ℕ
closer_of Brace = 125
closer_of Square = 93

-- what separates the pairs, and where they begin: `^^X` in front makes X the separator, unless X ends the bracket
unfoldable pub lead_of : ℕ → List ℕ → ℕ × List ℕ
lead_of closer [] = (44, [])
lead_of closer (a ∷ []) = (44, a ∷ [])
lead_of closer (a ∷ b ∷ []) = (44, a ∷ b ∷ [])
lead_of closer (a ∷ b ∷ x ∷ bytes) = if a == 94 && b == 94 && not (x == closer) then (x, bytes) else (44, a ∷ b ∷ x ∷ bytes)

-- the pairs so far, and what stands behind them
abbrev pub Taken : Type 0
Taken = Result (List Pair × List ℕ) DialFault

abbrev pub seen : List Pair → Bor (List ℕ) → List Pair × List ℕ
seen pairs rest = (pairs, rest.now)

abbrev pub taken_seen : RawPairs × Bor (List ℕ) → List Pair × List ℕ
taken_seen x = (x.0, x.1.now)

-- a bracket from behind its lead, and from the first mark that ends it
unfoldable pub closed_at : ℕ → ℕ → ℕ → List Pair → List ℕ → List ℕ → Taken
closed_at at end separator so_far bytes [] = fault at kind.Unclosed
closed_at at end separator so_far bytes (b ∷ rest) =
    pairs_at (offset end (b ∷ rest)) separator so_far (front_of bytes (b ∷ rest)) >>= λ pairs. Ok (pairs, rest)

-- a bracket at an offset, from behind its lead
unfoldable pub content_at : Bracket → ℕ → ℕ → List Pair → ℕ × List ℕ → Taken
content_at shape at end so_far lead = closed_at at end lead.0 so_far lead.1 (from_mark (closer_of shape) Bare lead.1)

-- a bracket, from behind its opening one
unfoldable pub bracket_at : Bracket → ℕ → List Pair → List ℕ → Taken
bracket_at shape end so_far bytes = content_at shape (offset end bytes - 1) end so_far (lead_of (closer_of shape) bytes)

-- the pairs so far with those of the bracket in front, and what stands behind it, if there is one
unfoldable pub bracket_step : Bracket → ℕ → List Pair → List ℕ → Result (List Pair × Option (List ℕ)) DialFault
bracket_step shape end so_far [] = Ok (so_far, None)
bracket_step shape end so_far (b ∷ bytes) =
    if b == opener_of shape then (bracket_at shape end so_far bytes >>= λ x. Ok (x.0, Some x.1)) else Ok (so_far, None)

abbrev pub go_on : (List Pair → List ℕ → Taken) → List ℕ → List Pair × Option (List ℕ) → Taken
go_on read bytes (so_far, None) = Ok (so_far, bytes)
go_on read bytes (so_far, Some rest) = read so_far rest

-- with no more than so many brackets
abbrev pub brackets_within : ℕ → Bracket → ℕ → List Pair → List ℕ → Taken
brackets_within zero shape end so_far bytes = Ok (so_far, bytes)
brackets_within (suc more) shape end so_far bytes =
    bracket_step shape end so_far bytes >>= λ x. go_on (λ next rest. brackets_within more shape end next rest) bytes x

-- all brackets of a shape that stand in front
unfoldable pub brackets_at : Bracket → ℕ → List ℕ → Taken
brackets_at shape end bytes = brackets_within (length bytes + 1) shape end [] bytes
