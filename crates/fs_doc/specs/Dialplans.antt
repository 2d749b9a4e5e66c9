-- The dialplan of a configuration, where patterns are texts.
use Rattle.std.specs.Prelude.{ℕ, zero, suc, Bool, if◌then◌else◌, List, [], ◌∷◌, ◌++◌}
use Rattle.fs_text.specs.Texts.{Text}
use Rattle.fs_doc.specs.declared.dialplan.ContextDef.{ContextDef}
use Rattle.fs_doc.specs.declared.dialplan.ExtensionDef.{ExtensionDef}
use Rattle.fs_doc.specs.declared.dialplan.ConditionDef.{ConditionDef}
use Rattle.fs_doc.specs.declared.dialplan.Test.{Test}
use Rattle.fs_doc.specs.declared.dialplan.Test.TheVariants as test
use Rattle.fs_doc.specs.declared.dialplan.PlanAction.{PlanAction}

abbrev pub Context : Type 0
Context = ContextDef Text

abbrev pub Extension : Type 0
Extension = ExtensionDef Text

abbrev pub Condition : Type 0
Condition = ConditionDef Text

-- the context at a position has one more extension, behind its others
abbrev pub with_extension : ℕ → Extension → List Context → List Context
with_extension position extension [] = []
with_extension zero extension (context ∷ contexts) = record context { extensions = context.extensions ++ extension ∷ [] } ∷ contexts
with_extension (suc position) extension (context ∷ contexts) = context ∷ with_extension position extension contexts

-- a test with one more child
abbrev pub with_case : Text → Text → Test Text → Test Text
with_case field expression (test.Many many children) = test.Many many (children ++ record { field = field; expression = expression } ∷ [])
with_case field expression other = other

-- a condition with one more child
abbrev pub with_child : Text → Text → Condition → Condition
with_child field expression k = record k { test = with_case field expression k.test }

-- a condition with one more action, or anti-action
abbrev pub with_action : Bool → PlanAction → Condition → Condition
with_action anti action k =
    if anti then record k { anti = k.anti ++ action ∷ [] } else record k { actions = k.actions ++ action ∷ [] }
