-- In which values a pattern can find something, by how they begin.
use Rattle.std.specs.Prelude.{◌≡◌, ℕ, ◌<◌, Bool, true, List, get_or, nat_eq, bytes_eq, is_some, IsSome, IfSome, Vec}
use Rattle.std.specs.declared.alloc.Global.{Global}
use Rattle.std.specs.List.{list_any, starts_with}
use Rattle.regex.specs.Patterns.{Re, Start, End, find, empty, literal, look, cat}
use Rattle.fs_ports.specs.Patterns.{pattern_reading}
use Rattle.fs_lead.specs.declared.lead.Lead.{Lead}
use Rattle.fs_lead.specs.declared.lead.Lead.TheVariants.{Whole, Starts, Unknown}

abbrev pub AreBytes : List ℕ → Type 0
AreBytes value = (k : ℕ) → get_or value k 0 < 256

-- the value begins with one of the texts
abbrev pub begins_with_any : List (Vec ℕ Global) → List ℕ → Bool
begins_with_any texts value = list_any (λ text. starts_with nat_eq value text.items) texts

-- `^text$`
abbrev pub whole : List ℕ → Re
whole text = cat (look Start) (cat (literal text) (cat (look End) empty))

-- something is found in that text, and in no other value; only in values that begin with one of the texts; nothing is known
abbrev pub IsLead : Re → Lead → Type 0
IsLead re (Whole text) = (value : List ℕ) → AreBytes value → bytes_eq value text.items ≡ is_some (find re value 0)
IsLead re (Starts texts) = (value : List ℕ) → AreBytes value → IsSome (find re value 0) → begins_with_any texts.items value ≡ true
IsLead re Unknown = Unit {0}

-- the same of the pattern that a text is read as, if it is one
pub record IsLeadOf (text : List ℕ) (lead : Lead) : Type 0 where
  pub is : IfSome (pattern_reading text) (λ what. IsLead what.re lead)
