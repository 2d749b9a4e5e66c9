-- What the variables count to the limits after a name is set or taken out.
use Rattle.std.proofs.Common.{◌≡◌, ◌+◌, ◌≤◌, true, [], ◌∷◌, Some, sym, arith, leb}
use Rattle.std.proofs.lemmas.Bool.{and_parts, and_from, leb-true, le-leb}
use Rattle.fs_text.specs.Texts.{Text}
use Rattle.fs_vars.specs.declared.bounds.Bounds.{Bounds}
use Rattle.fs_vars.specs.declared.tally.Tally.{Tally}
use Rattle.fs_vars.specs.Pairs.{Pairs, value_of, with_value, without, AreDistinct}
use Rattle.fs_vars.specs.Variables.{counted_bytes, tally_of, is_within, most_variables, most_bytes}
use Rattle.fs_vars.proofs.PairsLemmas.{sum_by-without, sum_by-with_value}

-- the sum of two counts
pub record IsSum (total a b : Tally) : Type 0 where
  pub variables : a.variables + b.variables ≡ total.variables
  pub bytes : a.bytes + b.bytes ≡ total.bytes

module _ (bounds : Bounds) (name value : Text) (pairs : Pairs) (distinct : AreDistinct pairs) where
  -- a name that is there takes its own part with it
  pub tally_of-without : value_of pairs name ≡ Some value →
      IsSum (tally_of bounds pairs) (tally_of bounds (without pairs name)) (tally_of bounds ((name, value) ∷ []))
  tally_of-without there =
      record {
        variables = sum_by-without _ name value pairs distinct there;
        bytes = sum_by-without (counted_bytes bounds) name value pairs distinct there;
      }

  -- a name that is set adds its own part to that of the others
  pub tally_of-with_value : IsSum (tally_of bounds (with_value pairs name value)) (tally_of bounds (without pairs name))
      (tally_of bounds ((name, value) ∷ []))
  tally_of-with_value =
      record {
        variables = sum_by-with_value _ name value pairs distinct;
        bytes = sum_by-with_value (counted_bytes bounds) name value pairs distinct;
      }

-- the same, of what is kept
pub taken_out : (bounds : Bounds) (name value : Text) (pairs : Pairs) (tally own : Tally) → AreDistinct pairs →
    Some value ≡ value_of pairs name → tally ≡ tally_of bounds pairs → own ≡ tally_of bounds ((name, value) ∷ [])
    → IsSum tally (tally_of bounds (without pairs name)) own
taken_out bounds name value pairs tally own distinct there is own_is =
    rw (is, own_is) (tally_of-without bounds name value pairs distinct (sym there))

-- one part of a sum is told by the other
pub rest_is : {total a b own : Tally} → IsSum total a own → IsSum total b own → a ≡ b
rest_is {total} {a} {b} {own} s t =
    let variables : a.variables ≡ b.variables = omega (arith, s.variables, t.variables) in
    let bytes : a.bytes ≡ b.bytes = omega (arith, s.bytes, t.bytes) in
    λ i. record { variables = variables i; bytes = bytes i }

-- a sum is told by its parts
pub total_is : {s t a b : Tally} → IsSum s a b → IsSum t a b → s ≡ t
total_is {s} {t} {a} {b} x y =
    let variables : s.variables ≡ t.variables = omega (arith, x.variables, y.variables) in
    let bytes : s.bytes ≡ t.bytes = omega (arith, x.bytes, y.bytes) in
    λ i. record { variables = variables i; bytes = bytes i }

-- what a count within the limits is
within_parts : (bounds : Bounds) (tally : Tally) → is_within bounds tally ≡ true →
    (tally.variables ≤ most_variables bounds) × (tally.bytes ≤ most_bytes bounds)
within_parts bounds tally within =
    let both = and_parts (leb tally.variables (most_variables bounds)) (leb tally.bytes (most_bytes bounds)) within in
    (leb-true _ _ both.0, leb-true _ _ both.1)

-- a part of what is within the limits is within them
pub is_within-part : (bounds : Bounds) {total a b : Tally} → IsSum total a b → is_within bounds total ≡ true → is_within bounds a ≡ true
is_within-part bounds {total} {a} s within =
    let both = within_parts bounds total within in
    let variables : a.variables ≤ most_variables bounds = omega (arith, both.0, s.variables) in
    let bytes : a.bytes ≤ most_bytes bounds = omega (arith, both.1, s.bytes) in
    and_from _ _ (le-leb _ _ variables) (le-leb _ _ bytes)

-- what is set is added to the count of the others
pub put_in : (bounds : Bounds) (name value : Text) (pairs : Pairs) (tally others own : Tally) → AreDistinct pairs → IsSum tally others own →
    others ≡ tally_of bounds (without pairs name) → own ≡ tally_of bounds ((name, value) ∷ [])
    → tally ≡ tally_of bounds (with_value pairs name value)
put_in bounds name value pairs tally others own distinct sum others_is own_is =
    total_is sum (rw (others_is, own_is) (tally_of-with_value bounds name value pairs distinct))
