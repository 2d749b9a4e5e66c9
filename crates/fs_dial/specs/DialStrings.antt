-- The dial string that a text is, or its first fault.
use Rattle.std.specs.Prelude.{◌==◌, ℕ, zero, suc, ◌+◌, if◌then◌else◌, List, [], ◌∷◌, ◌++◌, length, Option, None, Some, Result, Ok}
use Rattle.std.specs.Borrow.{Bor}
use Rattle.fs_dial.specs.Results.{◌>>=◌}
use Rattle.fs_dial.specs.declared.bracket.Bracket.TheVariants.{Brace}
use Rattle.fs_dial.specs.declared.fault.DialFault.{DialFault}
use Rattle.fs_dial.specs.declared.fault.DialKind.TheVariants as kind
use Rattle.fs_dial.specs.declared.dial_string.DialString.{DialString}
use Rattle.fs_dial.specs.Faults.{fault}
use Rattle.fs_dial.specs.Pairs.{Pair, rest_seen}
use Rattle.fs_dial.specs.Brackets.{brackets_at}
use Rattle.fs_dial.specs.Legs.{LegText, leg_at}

-- a dial string as it is written: the pairs of its braces, and its groups of legs
pub record Dial : Type 0 where
  pub pairs : List Pair
  pub groups : List (List LegText)

abbrev pub dial_of : DialString → Dial
dial_of d = record { pairs = d.pairs; groups = d.groups }

-- the groups that are read, the legs of the group that is being read, and how many more legs there may be
pub record Reached : Type 0 where
  pub groups : List (List LegText)
  pub legs : List LegText
  pub room : ℕ

-- how far it is read, and what stands behind the separator
abbrev pub taken : Reached → Option (Bor (List ℕ)) → Reached × Option (List ℕ)
taken r rest = (r, rest_seen rest)

abbrev pub added_on : ℕ → List (List LegText) → List LegText → LegText → Result Reached DialFault
added_on zero groups legs leg = fault leg.at kind.TooMany
added_on (suc room) groups legs leg = Ok (record { groups = groups; legs = legs ++ leg ∷ []; room = room })

-- with one more leg
unfoldable pub added : Reached → LegText → Result Reached DialFault
added r leg = added_on r.room r.groups r.legs leg

-- the group is at its end
abbrev pub ended : Reached → Reached
ended r = record { groups = r.groups ++ r.legs ∷ []; legs = []; room = r.room }

-- `,` goes on with the group, `|` with the next one
unfoldable pub behind_leg : Reached → List ℕ → Reached × Option (List ℕ)
behind_leg r [] = (ended r, None)
behind_leg r (b ∷ rest) = if b == 44 then (r, Some rest) else (ended r, Some rest)

unfoldable pub leg_step : ℕ → Reached → List ℕ → Result (Reached × Option (List ℕ)) DialFault
leg_step end r bytes = leg_at end bytes >>= λ x. (added r x.0 >>= λ next. Ok (behind_leg next x.1))

abbrev pub Groups : Type 0
Groups = Result (List (List LegText)) DialFault

abbrev pub go_on : (Reached → List ℕ → Groups) → Reached × Option (List ℕ) → Groups
go_on read (r, None) = Ok r.groups
go_on read (r, Some rest) = read r rest

-- with no more than so many legs
abbrev pub legs_within : ℕ → ℕ → Reached → List ℕ → Groups
legs_within zero end r bytes = fault end kind.TooMany
legs_within (suc more) end r bytes = leg_step end r bytes >>= λ x. go_on (λ next rest. legs_within more end next rest) x

-- before the first leg: 64 may come
abbrev pub at_first : Reached
at_first = record { groups = []; legs = []; room = 64 }

unfoldable pub groups_at : ℕ → List ℕ → Groups
groups_at end bytes = legs_within (length bytes + 1) end at_first bytes

unfoldable pub dial_within : ℕ → List ℕ → Result Dial DialFault
dial_within end bytes =
    brackets_at Brace end bytes >>= λ x. (groups_at end x.1 >>= λ groups. Ok (record { pairs = x.0; groups = groups }))

-- the dial string, or the first fault from the left
unfoldable pub dial_string : List ℕ → Result Dial DialFault
dial_string [] = fault 0 kind.Nothing
dial_string (b ∷ bytes) = dial_within (length (b ∷ bytes)) (b ∷ bytes)
