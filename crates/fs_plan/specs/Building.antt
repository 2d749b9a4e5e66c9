-- Which patterns a dialplan has, and which of them is told where they are not built.
use Rattle.std.specs.Prelude.{◌≡◌, ℕ, ◌+◌, min, ◌⊎◌, List, [], ◌∷◌, ◌++◌, map, All, IsSome, MatchResult, Result}
use Rattle.std.specs.List.{flat_map, enumerate_from}
use Rattle.std.specs.Str.{IsUtf8}
use Rattle.fs_text.specs.Texts.{Text}
use Rattle.fs_ports.specs.Counts.{raised}
use Rattle.fs_ports.specs.Patterns.{pattern_reading, IsUnreadable}
use Rattle.fs_doc.specs.Dialplans.{Context, Extension, Condition}
use Rattle.fs_doc.specs.declared.dialplan.Test.{Test}
use Rattle.fs_doc.specs.declared.dialplan.Test.TheVariants.{Always, Plain, Many}
use Rattle.fs_doc.specs.declared.dialplan.Child.{Child}
use Rattle.fs_plan.specs.declared.fault.Unbuilt.{Unbuilt}
use Rattle.fs_plan.specs.declared.fault.Unbuilt.TheVariants as unbuilt
use Rattle.fs_plan.specs.declared.fault.PlanFault.{PlanFault}
use Rattle.fs_plan.specs.declared.fault.PlanFault.TheVariants as fault

-- ---- patterns

-- the text is UTF-8, and is read as a pattern
pub record HasReading (text : Text) : Type 0 where
  pub is_text : IsUtf8 text
  pub is_read : IsSome (pattern_reading text)

-- each of these texts is
pub record AreRead (texts : List Text) : Type 0 where
  pub each : All HasReading texts

-- the text is not UTF-8, no pattern, or one that is nested too deep
abbrev pub IsNoPattern : Text → Type 0
IsNoPattern text = (¬ (IsUtf8 text)) ⊎ IsUnreadable (pattern_reading text)

abbrev pub IsAnyPattern : Text → Type 0
IsAnyPattern text = Unit {0}

abbrev pub expressions_of : List (Child Text) → List Text
expressions_of children = map (λ child. child.expression) children

-- the patterns of a test, in order
abbrev pub patterns_of : Test Text → List Text
patterns_of Always = []
patterns_of (Plain field expression) = expression ∷ []
patterns_of (Many wanted children) = expressions_of children

-- ---- numbers

-- the number of what stands at a position, from 1 on, as far as 32 bits go
abbrev pub number_of : ℕ → ℕ
number_of position = min (position + 1) 4294967295

-- a pattern, with the number of its extension and that of its condition
pub record NumberedPattern : Type 0 where
  pub text : Text
  pub extension : ℕ
  pub condition : ℕ

-- each of these patterns has a reading
pub record HaveReadings (patterns : List NumberedPattern) : Type 0 where
  pub each : All (λ pattern. HasReading pattern.text) patterns

-- these patterns, under the same numbers
abbrev pub numbered_patterns : ℕ → ℕ → List Text → List NumberedPattern
numbered_patterns extension condition texts = map (λ text. record { text = text; extension = extension; condition = condition }) texts

-- the patterns of the conditions of the extension of a number
abbrev pub patterns_within : ℕ → List Condition → List NumberedPattern
patterns_within number conditions =
    flat_map (λ (position, condition). numbered_patterns number (number_of position) (patterns_of condition.test)) (enumerate_from 0 conditions)

-- the patterns of extensions, where so many stand before them
abbrev pub patterns_from : ℕ → List Extension → List NumberedPattern
patterns_from before extensions =
    flat_map (λ (position, extension). patterns_within (number_of position) extension.conditions) (enumerate_from before extensions)

-- the extensions of all contexts, in order
abbrev pub extensions_in : List Context → List Extension
extensions_in contexts = flat_map (λ context. context.extensions) contexts

-- the patterns of all contexts, in order
abbrev pub patterns_in : List Context → List NumberedPattern
patterns_in contexts = patterns_from 0 (extensions_in contexts)

-- ---- refusals

-- the first of a list that is not as the others: all before it are P, and it is Q
pub record First {A : Type 0} (P Q : A → Type 0) (xs : List A) : Type 0 where
  pub front : List A
  pub first : A
  pub back : List A
  pub split : xs ≡ front ++ first ∷ back
  pub before : All P front
  pub found : Q first

-- why the pattern of a text was not built
abbrev pub IsTextUnbuilt : Text → Unbuilt → Type 0
IsTextUnbuilt text unbuilt.NoReading = IsNoPattern text
IsTextUnbuilt text unbuilt.TooLarge = IsAnyPattern text
IsTextUnbuilt text unbuilt.Memory = Unit {0}

-- why these patterns were not
abbrev pub IsUnbuilt : List Text → Unbuilt → Type 0
IsUnbuilt texts unbuilt.NoReading = First HasReading IsNoPattern texts
IsUnbuilt texts unbuilt.TooLarge = First HasReading IsAnyPattern texts
IsUnbuilt texts unbuilt.Memory = Unit {0}

-- a pattern under these numbers, of which P holds
pub record IsNumbered (P : Text → Type 0) (extension condition : ℕ) (pattern : NumberedPattern) : Type 0 where
  pub extension_is : pattern.extension ≡ extension
  pub condition_is : pattern.condition ≡ condition
  pub is : P pattern.text

-- the first of them without a reading has these numbers, and of its text P holds
abbrev pub IsFirstRefused : (Text → Type 0) → ℕ → ℕ → List NumberedPattern → Type 0
IsFirstRefused P extension condition patterns = First (λ p. HasReading p.text) (IsNumbered P extension condition) patterns

-- why numbered patterns were not built: the first that was refused is named
abbrev pub IsRefusalOf : List NumberedPattern → PlanFault → Type 0
IsRefusalOf patterns (fault.PatternRefused extension condition) = IsFirstRefused IsNoPattern extension condition patterns
IsRefusalOf patterns (fault.PatternTooLarge extension condition) = IsFirstRefused IsAnyPattern extension condition patterns
IsRefusalOf patterns fault.Memory = Unit {0}

-- why a dialplan was not
abbrev pub IsPlanRefusal : List Context → PlanFault → Type 0
IsPlanRefusal contexts refused = IsRefusalOf (patterns_in contexts) refused

-- the fault for a condition of these numbers
abbrev pub fault_of : Unbuilt → ℕ → ℕ → PlanFault
fault_of unbuilt.NoReading extension condition = fault.PatternRefused extension condition
fault_of unbuilt.TooLarge extension condition = fault.PatternTooLarge extension condition
fault_of unbuilt.Memory extension condition = fault.Memory

-- the count of patterns that were too large, after a refusal
abbrev pub sizes_after : PlanFault → ℕ → ℕ
sizes_after (fault.PatternRefused extension condition) sizes = sizes
sizes_after (fault.PatternTooLarge extension condition) sizes = raised sizes
sizes_after fault.Memory sizes = sizes

abbrev pub sizes_unbuilt : Unbuilt → ℕ → ℕ
sizes_unbuilt unbuilt.NoReading sizes = sizes
sizes_unbuilt unbuilt.TooLarge sizes = raised sizes
sizes_unbuilt unbuilt.Memory sizes = sizes

-- what a dialplan's part makes of that count: nothing where it is built, and else what the refusal says
abbrev pub CountsSizes : {A : Type 0} → Result A PlanFault → ℕ → ℕ → Type 0
CountsSizes result old new = MatchResult result (λ _. new ≡ old) (λ fault. new ≡ sizes_after fault old)

-- the same where the refusal does not name its condition yet
abbrev pub CountsUnbuilt : {A : Type 0} → Result A Unbuilt → ℕ → ℕ → Type 0
CountsUnbuilt result old new = MatchResult result (λ _. new ≡ old) (λ why. new ≡ sizes_unbuilt why old)
