-- Which elements stand where.
use Rattle.std.specs.Prelude.{Bool, true, false, ◌&&◌, if◌then◌else◌, is_some, Result, Ok, Err, codes}
use Rattle.std.specs.Str.{bytes_eq}
use Rattle.fs_text.specs.Texts.{Text}
use Rattle.fs_vars.specs.Pairs.{Pairs, value_of}
use Rattle.fs_doc.specs.declared.fault.DocKind.{DocKind}
use Rattle.fs_doc.specs.declared.fault.DocKind.TheVariants as fault
use Rattle.fs_doc.specs.declared.settings.ConfigFile.{ConfigFile}
use Rattle.fs_doc.specs.declared.element.Level.{Level}
use Rattle.fs_doc.specs.declared.element.Level.TheVariants as level
use Rattle.fs_doc.specs.declared.element.Kind.{Kind}
use Rattle.fs_doc.specs.declared.element.Kind.TheVariants as kind

abbrev pub Kinds : Type 0
Kinds = Result Kind DocKind

abbrev pub is_global : Text → Bool
is_global name = bytes_eq name (codes "X-PRE-PROCESS")

-- at the top one `document`, and nothing behind it
unfoldable pub kind_at_top : Bool → Text → Kinds
kind_at_top done name =
    if done then Err fault.BadTag
    else if bytes_eq name (codes "document") then Ok kind.Document
    else Err fault.UnknownElement

-- the element of a name alone
abbrev pub only : Text → Kind → Text → Kinds
only known element name = if bytes_eq name known then Ok element else Err fault.UnknownElement

-- `X-PRE-PROCESS`, or the element of a name
abbrev pub global_or : Text → Kind → Text → Kinds
global_or known element name = if is_global name then Ok kind.Global else only known element name

-- in a configuration all but the settings is foreign
abbrev pub kind_in_configuration : ConfigFile → Text → Kind
kind_in_configuration file name = if bytes_eq name (codes "settings") then kind.Settings file else kind.Foreign

-- what stands in a condition
unfoldable pub kind_in_condition : Bool → Text → Kinds
kind_in_condition cases name =
    if bytes_eq name (codes "action") then Ok kind.Action
    else if bytes_eq name (codes "anti-action") then Ok kind.AntiAction
    else if bytes_eq name (codes "condition") then Err fault.Nested
    else if cases && bytes_eq name (codes "regex") then Ok kind.Case
    else Err fault.UnknownElement

-- the kind of an element, by where it stands, whether the document is over, and its name
unfoldable pub kind_in : Level → Bool → Text → Kinds
kind_in level.Top done name = kind_at_top done name
kind_in level.Document done name = global_or (codes "section") kind.Section name
kind_in level.Dialplan done name = global_or (codes "context") kind.Context name
kind_in level.Configurations done name = global_or (codes "configuration") kind.Configuration name
kind_in (level.Configuration file) done name = Ok (kind_in_configuration file name)
kind_in (level.Settings file) done name = only (codes "param") (kind.Param file) name
kind_in level.Context done name = global_or (codes "extension") kind.Extension name
kind_in level.Extension done name = only (codes "condition") kind.Condition name
kind_in level.Condition done name = kind_in_condition false name
kind_in level.Cases done name = kind_in_condition true name
kind_in level.Empty done name = Err fault.UnknownElement
kind_in level.Foreign done name = Ok kind.Foreign

-- there is an attribute of this name
abbrev pub has : Pairs → Text → Bool
has pairs name = is_some (value_of pairs name)

-- the attributes that an element needs are there
unfoldable pub has_needed : Kind → Pairs → Bool
has_needed kind.Document pairs = true
has_needed kind.Global pairs = has pairs (codes "cmd") && has pairs (codes "data")
has_needed kind.Section pairs = has pairs (codes "name")
has_needed kind.Configuration pairs = has pairs (codes "name")
has_needed (kind.Settings file) pairs = true
has_needed (kind.Param file) pairs = has pairs (codes "name") && has pairs (codes "value")
has_needed kind.Context pairs = has pairs (codes "name")
has_needed kind.Extension pairs = true
has_needed kind.Condition pairs = true
has_needed kind.Case pairs = true
has_needed kind.Action pairs = has pairs (codes "application")
has_needed kind.AntiAction pairs = has pairs (codes "application")
has_needed kind.Foreign pairs = true

abbrev pub is_foreign : Kind → Bool
is_foreign kind.Foreign = true
is_foreign _ = false
