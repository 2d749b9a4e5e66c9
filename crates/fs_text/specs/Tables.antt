-- Tables of numbers and names.
use Rattle.std.specs.Prelude.{◌≡◌, ◌↔◌, ℕ, List, Option, Some, find, Contains}
use Rattle.std.specs.Option.{option_map}
use Rattle.std.specs.Str.{bytes_eq}
use Rattle.std.specs.Borrow.{Bor}

-- each value has its row in the table, no two values share a number, and a name finds the one value that has it
pub record IsTable {A : Type 0} (table : List (ℕ × List ℕ)) (row : A → ℕ × List ℕ) (of_name : List ℕ → Option A) : Type 0 where
  pub complete : (a : A) → Contains table (row a)
  pub numbers : (a b : A) → (row a).0 ≡ (row b).0 → a ≡ b
  pub names : (a : A) (text : List ℕ) → (of_name text ≡ Some a) ↔ ((row a).1 ≡ text)

-- the value of the first row of this name, among rows of value, number and name
unfoldable pub named : {A : Type 0} → List (A × ℕ × Bor (List ℕ)) → List ℕ → Option A
named rows text = option_map (λ row. row.0) (find (λ row. bytes_eq row.2.now text) rows)
