-- What was read of a document, and what an element adds to it.
use Rattle.std.specs.Prelude.{ℕ, ◌+◌, Bool, true, false, ◌||◌, nat_le, nat_lt, if◌then◌else◌, List, [], ◌∷◌, ◌++◌, length, Option, None}
use Rattle.std.specs.Prelude.{Some, unwrap_or, Result, Ok, Err, codes}
use Rattle.std.specs.Option.{option_map}
use Rattle.std.specs.Str.{bytes_eq}
use Rattle.std.specs.List.{position_or_len}
use Rattle.fs_text.specs.Texts.{Text}
use Rattle.fs_vars.specs.Pairs.{Pairs, value_of}
use Rattle.fs_vars.specs.Variables.{can_set, set_to}
use Rattle.fs_vars.specs.declared.bounds.Bounds.TheVariants.{Globals}
use Rattle.fs_xml.specs.Results.{◌>>=◌}
use Rattle.fs_doc.specs.declared.fault.DocKind.{DocKind}
use Rattle.fs_doc.specs.declared.fault.DocKind.TheVariants as fault
use Rattle.fs_doc.specs.declared.element.Level.{Level}
use Rattle.fs_doc.specs.declared.element.Level.TheVariants as level
use Rattle.fs_doc.specs.declared.element.Kind.{Kind}
use Rattle.fs_doc.specs.declared.element.Kind.TheVariants as kind
use Rattle.fs_doc.specs.declared.settings.Settings.{Settings}
use Rattle.fs_doc.specs.declared.settings.ConfigFile.{ConfigFile}
use Rattle.fs_doc.specs.declared.content.Content.{Content}
use Rattle.fs_doc.specs.declared.dialplan.Break.TheVariants as break
use Rattle.fs_doc.specs.declared.dialplan.Test.{Test}
use Rattle.fs_doc.specs.declared.dialplan.Test.TheVariants as test
use Rattle.fs_doc.specs.declared.dialplan.ManyKind.{ManyKind}
use Rattle.fs_doc.specs.declared.dialplan.PlanAction.{PlanAction}
use Rattle.fs_doc.specs.Dialplans.{Context, Extension, Condition, with_extension, with_child, with_action}
use Rattle.fs_doc.specs.Settings.{default_settings, file_of, setting}
use Rattle.fs_doc.specs.Elements.{has}
use Rattle.fs_doc.specs.Attributes.{break_of, many_of, global_of}

-- before anything is read
unfoldable pub new_content : Content
new_content = record {
  done = false;
  globals = record { bounds = Globals; pairs = [] };
  settings = default_settings;
  contexts = [];
  context = 0;
  extension = None;
  condition = None;
  extensions = 0;
  patterns = 0;
  actions = 0;
}

-- the level inside an element, and what was read once it begins; or the fault that is told at its tag
abbrev pub BeginResult : Type 0
BeginResult = Result (Level × Content) DocKind

-- the value of an attribute, or the empty text
abbrev pub attribute_value : Pairs → Text → Text
attribute_value pairs name = unwrap_or (value_of pairs name) []

-- ---- globals and settings

abbrev pub global_on : Content → Option (Text × Text) → BeginResult
global_on c None = Ok (level.Empty, c)
global_on c (Some pair) =
    if can_set c.globals pair.0 pair.1 then Ok (level.Empty, record c { globals = set_to c.globals pair.0 pair.1 }) else Err fault.TooLarge

unfoldable pub global_begun : Pairs → Content → BeginResult
global_begun pairs c = global_on c (global_of (attribute_value pairs (codes "data")))

unfoldable pub section_level : Text → Level
section_level name =
    if bytes_eq name (codes "dialplan") then level.Dialplan
    else if bytes_eq name (codes "configuration") then level.Configurations
    else level.Foreign

abbrev pub param_on : Content → Option Settings → BeginResult
param_on c None = Err fault.BadSetting
param_on c (Some settings) = Ok (level.Empty, record c { settings = settings })

unfoldable pub param_begun : ConfigFile → Pairs → Content → BeginResult
param_begun file pairs c =
    param_on c (setting file (attribute_value pairs (codes "name")) (attribute_value pairs (codes "value")) c.settings)

-- ---- the dialplan

-- the position of the context of a name, or of a new one
abbrev pub context_position : Text → List Context → ℕ
context_position name contexts = position_or_len (λ context. bytes_eq context.name name) contexts

-- a context of this name, still without extensions
abbrev pub new_context : Text → Context
new_context name = record { name = name; extensions = [] }

-- at the position behind all others a new context begins
abbrev pub context_at : Text → ℕ → Content → BeginResult
context_at name position c =
    if nat_lt position (length c.contexts) then Ok (level.Context, record c { context = position })
    else if nat_lt (length c.contexts) 256
    then Ok (level.Context, record c { context = position; contexts = c.contexts ++ new_context name ∷ [] })
    else Err fault.TooLarge

-- a name that is new is a new context
unfoldable pub context_begun : Pairs → Content → BeginResult
context_begun pairs c =
    context_at (attribute_value pairs (codes "name")) (context_position (attribute_value pairs (codes "name")) c.contexts) c

-- an extension of this name, which may say that the hunt goes on behind it, still without conditions
abbrev pub extension_of : Pairs → Extension
extension_of pairs =
    record {
      name = attribute_value pairs (codes "name");
      goes_on = bytes_eq (attribute_value pairs (codes "continue")) (codes "true");
      conditions = [];
    }

unfoldable pub extension_begun : Pairs → Content → BeginResult
extension_begun pairs c =
    if nat_lt c.extensions 4096
    then Ok (level.Extension, record c { extensions = c.extensions + 1; extension = Some (extension_of pairs) })
    else Err fault.TooLarge

-- a condition of this test and break, without actions
abbrev pub condition_of : Pairs → Test Text → Condition
condition_of pairs tested =
    record { test = tested; stop = unwrap_or (break_of (attribute_value pairs (codes "break"))) break.OnFalse; actions = []; anti = [] }

-- one more pattern is counted
unfoldable pub pattern_counted : Pairs → Content → Result Content DocKind
pattern_counted pairs c =
    if nat_lt 1024 (length (attribute_value pairs (codes "expression"))) || nat_le 4096 c.patterns then Err fault.TooLarge
    else Ok (record c { patterns = c.patterns + 1 })

-- its field is looked up, and its expression is a pattern for that
abbrev pub plain_of : Pairs → Test Text
plain_of pairs = test.Plain (attribute_value pairs (codes "field")) (attribute_value pairs (codes "expression"))

-- a condition with a pattern
unfoldable pub pattern_begun : Pairs → Content → BeginResult
pattern_begun pairs c =
    pattern_counted pairs c >>= λ d.
    Ok (level.Condition, record d { condition = Some (condition_of pairs (plain_of pairs)) })

-- a condition with `regex` has children, one with a field or an expression has a pattern, and any other is true
abbrev pub condition_on : Pairs → Content → Option ManyKind → BeginResult
condition_on pairs c (Some many) = Ok (level.Cases, record c { condition = Some (condition_of pairs (test.Many many [])) })
condition_on pairs c None =
    if has pairs (codes "field") || has pairs (codes "expression") then pattern_begun pairs c
    else Ok (level.Condition, record c { condition = Some (condition_of pairs test.Always) })

unfoldable pub condition_begun : Pairs → Content → BeginResult
condition_begun pairs c = condition_on pairs c (many_of (attribute_value pairs (codes "regex")))

-- the condition with one more child, of this field and this expression
abbrev pub with_child_of : Pairs → Condition → Condition
with_child_of pairs c = with_child (attribute_value pairs (codes "field")) (attribute_value pairs (codes "expression")) c

-- a child of the open condition
unfoldable pub case_begun : Pairs → Content → BeginResult
case_begun pairs c =
    pattern_counted pairs c >>= λ d.
    Ok (level.Empty, record d { condition = option_map (with_child_of pairs) d.condition })

unfoldable pub is_inline : Pairs → Bool
is_inline pairs = bytes_eq (attribute_value pairs (codes "inline")) (codes "true")

abbrev pub action_of : Pairs → PlanAction
action_of pairs =
    record {
      application = attribute_value pairs (codes "application");
      argument = attribute_value pairs (codes "data");
      inline = is_inline pairs;
    }

unfoldable pub action_begun : Bool → Pairs → Content → BeginResult
action_begun anti pairs c =
    if nat_lt c.actions 32768
    then Ok (level.Empty, record c { actions = c.actions + 1; condition = option_map (with_action anti (action_of pairs)) c.condition })
    else Err fault.TooLarge

-- ---- any element

unfoldable pub element_begun : Kind → Pairs → Content → BeginResult
element_begun kind.Document pairs c = Ok (level.Document, c)
element_begun kind.Global pairs c = global_begun pairs c
element_begun kind.Section pairs c = Ok (section_level (attribute_value pairs (codes "name")), c)
element_begun kind.Configuration pairs c = Ok (level.Configuration (file_of (attribute_value pairs (codes "name"))), c)
element_begun (kind.Settings file) pairs c = Ok (level.Settings file, c)
element_begun (kind.Param file) pairs c = param_begun file pairs c
element_begun kind.Context pairs c = context_begun pairs c
element_begun kind.Extension pairs c = extension_begun pairs c
element_begun kind.Condition pairs c = condition_begun pairs c
element_begun kind.Case pairs c = case_begun pairs c
element_begun kind.Action pairs c = action_begun false pairs c
element_begun kind.AntiAction pairs c = action_begun true pairs c
element_begun kind.Foreign pairs c = Ok (level.Foreign, c)

-- the open extension, if there is one, stands in its context
abbrev pub extension_ended : Content → Option Extension → Content
extension_ended c None = c
extension_ended c (Some extension) = record c { extension = None; contexts = with_extension c.context extension c.contexts }

abbrev pub extended : Condition → Extension → Extension
extended condition e = record e { conditions = e.conditions ++ condition ∷ [] }

-- the open condition, if there is one, stands in the open extension
abbrev pub condition_ended : Content → Option Condition → Content
condition_ended c None = c
condition_ended c (Some condition) = record c { condition = None; extension = option_map (extended condition) c.extension }

-- what was read, once an element ends whose inside has this level
unfoldable pub element_ended : Level → Content → Content
element_ended level.Document c = record c { done = true }
element_ended level.Extension c = extension_ended c c.extension
element_ended level.Condition c = condition_ended c c.condition
element_ended level.Cases c = condition_ended c c.condition
element_ended _ c = c
