-- The ranges and limits that a configuration keeps.
use Rattle.std.specs.Prelude.{◌≡◌, ◌≤◌, ℕ, ◌+◌, List, length, sum_by}
use Rattle.fs_text.specs.CoreId.{IsCore}
use Rattle.fs_text.specs.Texts.{Text}
use Rattle.fs_vars.specs.declared.bounds.Bounds.TheVariants.{Globals}
use Rattle.fs_doc.specs.declared.settings.Settings.{Settings}
use Rattle.fs_doc.specs.declared.dialplan.Test.{Test}
use Rattle.fs_doc.specs.declared.dialplan.Test.TheVariants as test
use Rattle.fs_doc.specs.Dialplans.{Context, Extension, Condition}
use Rattle.fs_doc.specs.Reading.{Configuration}

-- each setting is in its range
pub record AreInRange (s : Settings) : Type 0 where
  pub core : IsCore s.core_uuid
  pub sessions : (1 ≤ s.max_sessions) × (s.max_sessions ≤ 256)
  pub journal : (1048576 ≤ s.journal_limit) × (s.journal_limit ≤ 1073741824)
  pub port : (1 ≤ s.listen_port) × (s.listen_port ≤ 65535)
  pub password : (1 ≤ length s.password) × (length s.password ≤ 256)
  pub connections : (1 ≤ s.max_connections) × (s.max_connections ≤ 16)

-- how many patterns a test has
abbrev pub test_pattern_count : Test Text → ℕ
test_pattern_count test.Always = 0
test_pattern_count (test.Plain field expression) = 1
test_pattern_count (test.Many which children) = length children

abbrev pub pattern_count : Condition → ℕ
pattern_count k = test_pattern_count k.test

-- its actions and anti-actions
abbrev pub action_count : Condition → ℕ
action_count k = length k.actions + length k.anti

-- what the conditions of an extension have together
abbrev pub in_extension : (Condition → ℕ) → Extension → ℕ
in_extension count e = sum_by count e.conditions

-- what the extensions of all contexts have together
abbrev pub in_context : (Extension → ℕ) → Context → ℕ
in_context count context = sum_by count context.extensions

abbrev pub in_all : (Extension → ℕ) → List Context → ℕ
in_all count contexts = sum_by (in_context count) contexts

abbrev pub one : Extension → ℕ
one e = 1

-- the settings are in their ranges, the globals are bounded as globals are, and no count passes its limit
pub record IsWithin (c : Configuration) : Type 0 where
  pub settings : AreInRange c.settings
  pub globals : c.globals.bounds ≡ Globals
  pub contexts : length c.contexts ≤ 256
  pub extensions : in_all one c.contexts ≤ 4096
  pub patterns : in_all (in_extension pattern_count) c.contexts ≤ 4096
  pub actions : in_all (in_extension action_count) c.contexts ≤ 32768
