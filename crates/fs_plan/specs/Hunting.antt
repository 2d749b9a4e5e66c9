-- What a hunt through a dialplan gives.
use Rattle.std.specs.Prelude.{◌==◌, ℕ, ◌+◌, Bool, true, false, not, ◌&&◌, ◌||◌, nat_le, if◌then◌else◌, List, [], ◌∷◌, ◌++◌, length, Option}
use Rattle.std.specs.Prelude.{None, Ok, Err, unwrap_or, ℤ}
use Rattle.fs_text.specs.Texts.{Text}
use Rattle.fs_vars.specs.Pairs.{Pairs, same_text, value_of}
use Rattle.fs_vars.specs.Variables.{Variables}
use Rattle.fs_vars.specs.Scopes.{fields_of}
use Rattle.fs_vars.specs.Expansion.{expanded}
use Rattle.fs_vars.specs.Outputs.{len_of}
use Rattle.fs_vars.specs.declared.profile.Profile.{Profile}
use Rattle.fs_vars.specs.declared.scope.Scope.{Scope}
use Rattle.fs_chan.specs.declared.action.Action.{Action}
use Rattle.fs_doc.specs.Attributes.{has_variable}
use Rattle.fs_doc.specs.Dialplans.{Context, Extension, Condition}
use Rattle.fs_doc.specs.declared.dialplan.Test.{Test}
use Rattle.fs_doc.specs.declared.dialplan.Test.TheVariants.{Always, Plain, Many}
use Rattle.fs_doc.specs.declared.dialplan.Child.{Child}
use Rattle.fs_doc.specs.declared.dialplan.ManyKind.{ManyKind}
use Rattle.fs_doc.specs.declared.dialplan.ManyKind.TheVariants as kind
use Rattle.fs_doc.specs.declared.dialplan.Break.{Break}
use Rattle.fs_doc.specs.declared.dialplan.Break.TheVariants as stop
use Rattle.fs_doc.specs.declared.dialplan.PlanAction.{PlanAction}
use Rattle.fs_plan.specs.declared.tested.Tested.{Tested}
use Rattle.fs_plan.specs.declared.tested.Count.{Count}
use Rattle.fs_plan.specs.declared.hunt.Hunt.{Hunt}
use Rattle.fs_plan.specs.Outcomes.{Outcome, ◌>>=◌}
use Rattle.fs_plan.specs.Matching.{Groups, tested}
use Rattle.fs_plan.specs.Substitution.{substituted}
use Rattle.fs_plan.specs.Inline.{inline_done}

-- ---- texts

-- the named values that a text can use
abbrev pub known : Profile → Hunt → Pairs
known profile s = s.vars.pairs ++ fields_of profile ++ s.globals.pairs

-- a text of at most 65,536 bytes; of a longer one the length
abbrev pub within_text_limit : Text → Outcome Text
within_text_limit text = if nat_le (length text) 65536 then Ok text else Err (len_of text)

unfoldable pub expanded_in : Profile → Text → Hunt → Outcome Text
expanded_in profile text s = within_text_limit (expanded (known profile s) text)

-- the value of a field: what a field with `${` is expanded to, or else the profile's field of that name, if it has one
unfoldable pub field_value : Profile → Text → Hunt → Outcome Text
field_value profile field s =
    if has_variable field then expanded_in profile field s else Ok (unwrap_or (value_of (fields_of profile) field) [])

-- ---- tests

-- no child has matched yet
abbrev pub no_count : Count
no_count = record { matched = 0; groups = None }

-- one more child: the groups are those of the last one that matched
abbrev pub count_with : Count → Tested → Count
count_with count t = if t.holds then record { matched = count.matched + 1; groups = t.groups } else count

-- what the pattern of a text finds in the value of a field
abbrev pub field_tested : Profile → Text → Text → Hunt → Outcome Tested
field_tested profile field expression s = field_value profile field s >>= λ value. Ok (tested expression value)

abbrev pub children_counted : Profile → List (Child Text) → Hunt → Count → Outcome Count
children_counted profile [] s count = Ok count
children_counted profile (child ∷ more) s count =
    field_tested profile child.field child.expression s >>= λ t. children_counted profile more s (count_with count t)

-- all children, counted from none on
abbrev pub all_counted : Profile → List (Child Text) → Hunt → Outcome Count
all_counted profile children s = children_counted profile children s no_count

-- all match, at least one, exactly one
abbrev pub holds_for : ManyKind → ℕ → ℕ → Bool
holds_for kind.All matched all = matched == all
holds_for kind.Any matched all = nat_le 1 matched
holds_for kind.Xor matched all = matched == 1

-- a condition without a test is true; otherwise the pattern is searched in the field's value, or each child's pattern in its field's
unfoldable pub test_done : Profile → Test Text → Hunt → Outcome Tested
test_done profile Always s = Ok (record { holds = true; groups = None })
test_done profile (Plain field expression) s = field_tested profile field expression s
test_done profile (Many wanted children) s =
    all_counted profile children s >>= λ count.
    Ok (record { holds = holds_for wanted count.matched (length children); groups = count.groups })

-- ---- actions

-- an action behind those so far
abbrev pub with_hunt_action : PlanAction → Text → Hunt → Hunt
with_hunt_action action argument s =
    record s { actions = s.actions ++ record { application = action.application; argument = argument } ∷ [] }

-- an action stands behind those so far; an inline one is expanded and acts at once
unfoldable pub action_done : Profile → Option Groups → PlanAction → Hunt → Outcome Hunt
action_done profile groups action s =
    if action.inline
    then expanded_in profile (substituted groups action.argument) s >>= (λ argument. Ok (inline_done action.application argument s))
    else Ok (with_hunt_action action (substituted groups action.argument) s)

abbrev pub actions_done : Profile → Option Groups → List PlanAction → Hunt → Outcome Hunt
actions_done profile groups [] s = Ok s
actions_done profile groups (action ∷ more) s = action_done profile groups action s >>= actions_done profile groups more

-- ---- conditions

-- what a hunt has come to behind a condition, and whether that was true
pub record Evaluated : Type 0 where
  pub so_far : Hunt
  pub holds : Bool

abbrev pub evaluated_to : Hunt → Bool → Evaluated
evaluated_to s holds = record { so_far = s; holds = holds }

-- what a hunt has come to, and whether the last condition that was evaluated takes its extension
pub record Looked : Type 0 where
  pub so_far : Hunt
  pub taken : Bool

abbrev pub looked_to : Hunt → Bool → Looked
looked_to s taken = record { so_far = s; taken = taken }

-- whether an extension stops behind a condition that was true, or false
abbrev pub stops : Break → Bool → Bool
stops stop.OnFalse holds = not holds
stops stop.OnTrue holds = holds
stops stop.Always holds = true
stops stop.Never holds = false

abbrev pub is_empty : {A : Type 0} → List A → Bool
is_empty xs = length xs == 0

-- a true condition takes its extension, and a false one that has an anti-action
abbrev pub takes : Condition → Bool → Bool
takes condition holds = holds || not (is_empty condition.anti)

-- a true condition gives its actions, and a false one its anti-actions, in which groups have no meaning
abbrev pub chosen_actions_done : Profile → Condition → Tested → Hunt → Outcome Hunt
chosen_actions_done profile condition t s =
    if t.holds then actions_done profile t.groups condition.actions s else actions_done profile None condition.anti s

unfoldable pub condition_done : Profile → Condition → Hunt → Outcome Evaluated
condition_done profile condition s =
    test_done profile condition.test s >>= λ t. chosen_actions_done profile condition t s >>= λ later. Ok (evaluated_to later t.holds)

abbrev pub looked_at : Condition → Evaluated → Looked
looked_at condition done = looked_to done.so_far (takes condition done.holds)

-- the conditions in order, up to one behind which the extension stops
abbrev pub conditions_done : Profile → List Condition → Looked → Outcome Looked
conditions_done profile [] looked = Ok looked
conditions_done profile (condition ∷ more) looked =
    condition_done profile condition looked.so_far >>= λ done.
    if stops condition.stop done.holds then Ok (looked_at condition done) else conditions_done profile more (looked_at condition done)

-- all conditions of an extension that is not taken yet
abbrev pub all_done : Profile → List Condition → Hunt → Outcome Looked
all_done profile conditions s = conditions_done profile conditions (looked_to s false)

-- ---- extensions

-- an extension begins without actions, and is not taken before a condition was evaluated
abbrev pub at_extension : Hunt → Looked
at_extension s = looked_to (record s { actions = [] }) false

-- the actions of an extension that is taken go behind those before; those of another one are dropped, but what its inline actions set
-- stays
abbrev pub after_extension : List Action → Looked → Looked
after_extension before looked =
    record looked { so_far = record looked.so_far { actions = if looked.taken then before ++ looked.so_far.actions else before } }

unfoldable pub extension_done : Profile → Extension → Hunt → Outcome Looked
extension_done profile extension s =
    conditions_done profile extension.conditions (at_extension s) >>= λ looked. Ok (after_extension s.actions looked)

-- the hunt ends at the first extension that is taken and does not go on
abbrev pub extensions_done : Profile → List Extension → Hunt → Outcome Hunt
extensions_done profile [] s = Ok s
extensions_done profile (extension ∷ more) s =
    extension_done profile extension s >>= λ looked.
    if looked.taken && not extension.goes_on then Ok looked.so_far else extensions_done profile more looked.so_far

-- the extensions of the first context of a name
abbrev pub extensions_of : List Context → Text → List Extension
extensions_of [] name = []
extensions_of (context ∷ more) name = if same_text name context.name then context.extensions else extensions_of more name

-- nothing is done yet
abbrev pub new_hunt : Variables → Variables → Hunt
new_hunt vars globals = record { actions = []; vars = vars; globals = globals }

-- a hunt with these variables, this profile and these globals through the context of a name, in a minute that no condition reads yet
unfoldable pub hunted : List Context → Text → Profile → Variables → Variables → ℤ → Outcome Hunt
hunted contexts name profile vars globals wall = extensions_done profile (extensions_of contexts name) (new_hunt vars globals)

-- the same with the variables, the profile and the globals of a scope
abbrev pub hunted_in : List Context → Text → Scope → ℤ → Outcome Hunt
hunted_in contexts name scope wall = hunted contexts name scope.profile.now scope.vars.now scope.globals.now wall
