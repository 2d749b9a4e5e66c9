-- The pairs of a bracket.
use Rattle.std.specs.Prelude.{◌==◌, ℕ, zero, suc, ◌+◌, Bool, List, [], ◌∷◌, ◌++◌, length, drop, Option, None, Some, Result, Ok}
use Rattle.std.specs.Option.{option_map}
use Rattle.std.specs.List.{before_first, position_or_len}
use Rattle.std.specs.Borrow.{Bor}
use Rattle.fs_dial.specs.Results.{◌>>=◌}
use Rattle.fs_dial.specs.declared.fault.DialFault.{DialFault}
use Rattle.fs_dial.specs.declared.fault.DialKind.TheVariants as kind
use Rattle.fs_dial.specs.declared.guard.Guard.TheVariants.{Bare}
use Rattle.fs_dial.specs.declared.pair.RawPair.{RawPair}
use Rattle.fs_dial.specs.Faults.{fault}
use Rattle.fs_dial.specs.Guards.{from_mark, front_of, offset, plain_of}

-- a pair as it is written: where it begins, what stands before and behind its first `=`, and what separates the pairs of its bracket
pub record Pair : Type 0 where
  pub at : ℕ
  pub name : List ℕ
  pub value : List ℕ
  pub separator : ℕ

abbrev pub pair_of : RawPair → Pair
pair_of p = record { at = p.at; name = p.name.now; value = p.value.now; separator = p.separator }

-- its value without quotes and backslashes
abbrev pub plain : Pair → List ℕ
plain p = plain_of p.separator Bare p.value

abbrev pub rest_seen : Option (Bor (List ℕ)) → Option (List ℕ)
rest_seen rest = option_map (λ r. r.now) rest

-- the pairs so far, and what stands behind them
abbrev pub taken : List Pair → Option (Bor (List ℕ)) → List Pair × Option (List ℕ)
taken pairs rest = (pairs, rest_seen rest)

abbrev pub is_equals : ℕ → Bool
is_equals b = b == 61

-- a pair, cut in front of its first `=`: there is a name and a `=`
unfoldable pub pair_on : ℕ → ℕ → List ℕ → List ℕ → Result Pair DialFault
pair_on at separator [] from = fault at kind.BadPair
pair_on at separator (b ∷ name) [] = fault at kind.BadPair
pair_on at separator (b ∷ name) (equals ∷ value) =
    Ok (record { at = at; name = b ∷ name; value = value; separator = separator })

unfoldable pub pair_at : ℕ → ℕ → List ℕ → Result Pair DialFault
pair_at at separator bytes = pair_on at separator (before_first is_equals bytes) (drop (position_or_len is_equals bytes) bytes)

-- what stands behind the separator, if there is one
abbrev pub behind : List ℕ → Option (List ℕ)
behind [] = None
behind (b ∷ rest) = Some rest

-- the pairs so far with the next one, and what stands behind its separator
unfoldable pub pair_step : ℕ → ℕ → List Pair → List ℕ → Result (List Pair × Option (List ℕ)) DialFault
pair_step end separator so_far bytes =
    pair_at (offset end bytes) separator (front_of bytes (from_mark separator Bare bytes))
    >>= λ pair. Ok (so_far ++ pair ∷ [], behind (from_mark separator Bare bytes))

abbrev pub Pairs : Type 0
Pairs = Result (List Pair) DialFault

abbrev pub go_on : (List Pair → List ℕ → Pairs) → List Pair × Option (List ℕ) → Pairs
go_on read (so_far, None) = Ok so_far
go_on read (so_far, Some rest) = read so_far rest

-- with no more than so many separators
abbrev pub pairs_within : ℕ → ℕ → ℕ → List Pair → List ℕ → Pairs
pairs_within zero end separator so_far bytes = Ok so_far
pairs_within (suc more) end separator so_far bytes =
    pair_step end separator so_far bytes >>= λ x. go_on (λ next rest. pairs_within more end separator next rest) x

-- the pairs so far with those of a bracket, whose content ends at an offset; one that is empty holds none
unfoldable pub pairs_at : ℕ → ℕ → List Pair → List ℕ → Pairs
pairs_at end separator so_far [] = Ok so_far
pairs_at end separator so_far (b ∷ bytes) = pairs_within (length (b ∷ bytes) + 1) end separator so_far (b ∷ bytes)
