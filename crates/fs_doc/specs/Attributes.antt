-- What the attributes of an element say, or the first fault among them.
use Rattle.std.specs.Prelude.{◌==◌, ℕ, Bool, true, false, ◌&&◌, ◌||◌, not, nat_eq, if◌then◌else◌, List, [], ◌∷◌, ◌++◌, length, Option, None}
use Rattle.std.specs.Prelude.{Some, is_some, Result, Ok, Err, codes}
use Rattle.std.specs.Str.{bytes_eq, is_utf8}
use Rattle.std.specs.List.{starts_with}
use Rattle.fs_text.specs.Words.{halves_of}
use Rattle.fs_text.specs.Texts.{Text}
use Rattle.fs_vars.specs.Pairs.{Pairs}
use Rattle.fs_xml.specs.Attributes.{Written}
use Rattle.fs_xml.specs.Results.{◌>>=◌}
use Rattle.fs_xml.specs.declared.stop.ValueFault.{ValueFault}
use Rattle.fs_xml.specs.declared.stop.ValueFault.TheVariants as value
use Rattle.fs_doc.specs.declared.fault.DocKind.{DocKind}
use Rattle.fs_doc.specs.declared.fault.DocKind.TheVariants as fault
use Rattle.fs_doc.specs.declared.fault.DocFault.{DocFault}
use Rattle.fs_doc.specs.declared.element.Kind.{Kind}
use Rattle.fs_doc.specs.declared.element.Kind.TheVariants as kind
use Rattle.fs_doc.specs.declared.dialplan.Break.{Break}
use Rattle.fs_doc.specs.declared.dialplan.Break.TheVariants as break
use Rattle.fs_doc.specs.declared.dialplan.ManyKind.{ManyKind}
use Rattle.fs_doc.specs.declared.dialplan.ManyKind.TheVariants as many
use Rattle.fs_doc.specs.Faults as faults
use Rattle.fs_doc.specs.Values.{value_read}
use Rattle.fs_doc.specs.Elements.{has, has_needed, is_foreign}

-- ---- one value

-- `break`
unfoldable pub break_of : Text → Option Break
break_of text =
    if bytes_eq text (codes "on-false") then Some break.OnFalse
    else if bytes_eq text (codes "on-true") then Some break.OnTrue
    else if bytes_eq text (codes "always") then Some break.Always
    else if bytes_eq text (codes "never") then Some break.Never
    else None

-- `regex`
unfoldable pub many_of : Text → Option ManyKind
many_of text =
    if bytes_eq text (codes "all") then Some many.All
    else if bytes_eq text (codes "any") then Some many.Any
    else if bytes_eq text (codes "xor") then Some many.Xor
    else None

-- the name and the value that `X-PRE-PROCESS` sets
abbrev pub named_half : Option (Text × Text) → Option (Text × Text)
named_half None = None
named_half (Some halves) = if length halves.0 == 0 then None else Some halves

unfoldable pub global_of : Text → Option (Text × Text)
global_of text = named_half (halves_of 61 text)

abbrev pub sets_global : Text → Bool
sets_global text = is_some (global_of text)

-- a `${` stands in the text
abbrev pub has_variable : Text → Bool
has_variable [] = false
has_variable (b ∷ text) = starts_with nat_eq (b ∷ text) (codes "${") || has_variable text

unfoldable pub expression_fault : Text → Option DocKind
expression_fault text =
    if not (is_utf8 text) then Some fault.BadAttribute
    else if has_variable text then Some fault.ExpressionVariable
    else None

-- the attributes by which the date decides
unfoldable pub is_date : Text → Bool
is_date name =
    bytes_eq name (codes "wday") || bytes_eq name (codes "mday") || bytes_eq name (codes "mon") || bytes_eq name (codes "year")
    || bytes_eq name (codes "yday") || bytes_eq name (codes "mweek") || bytes_eq name (codes "week") || bytes_eq name (codes "date-time")

-- and those by which the time of day does
unfoldable pub is_clock : Text → Bool
is_clock name =
    bytes_eq name (codes "hour") || bytes_eq name (codes "minute") || bytes_eq name (codes "minute-of-day")
    || bytes_eq name (codes "time-of-day") || bytes_eq name (codes "tz-offset") || bytes_eq name (codes "dst")

-- a condition has an attribute by which the time decides
abbrev pub is_timed : Kind → Text → Bool
is_timed kind.Condition name = is_date name || is_clock name
is_timed _ name = false

-- the applications that may be inline
unfoldable pub may_be_inline : Text → Bool
may_be_inline application =
    bytes_eq application (codes "set") || bytes_eq application (codes "unset") || bytes_eq application (codes "export")
    || bytes_eq application (codes "set_global") || bytes_eq application (codes "log") || bytes_eq application (codes "eval")

abbrev pub fault_unless : Bool → DocKind → Option DocKind
fault_unless fine fault = if fine then None else Some fault

unfoldable pub global_fault : Text → Text → Option DocKind
global_fault name text =
    if bytes_eq name (codes "cmd") then fault_unless (bytes_eq text (codes "set")) fault.UnknownElement
    else if bytes_eq name (codes "data") then fault_unless (sets_global text) fault.BadAttribute
    else None

unfoldable pub condition_fault : Text → Text → Option DocKind
condition_fault name text =
    if bytes_eq name (codes "expression") then expression_fault text
    else if bytes_eq name (codes "break") then fault_unless (is_some (break_of text)) fault.UnknownBreak
    else if bytes_eq name (codes "regex") then fault_unless (is_some (many_of text)) fault.BadAttribute
    else None

unfoldable pub case_fault : Text → Text → Option DocKind
case_fault name text = if bytes_eq name (codes "expression") then expression_fault text else None

-- ---- the attributes of a tag

-- an element's tag: its kind, where it stands, the globals that are set before it, and its attributes as they are written
pub record Tagged : Type 0 where
  pub kind : Kind
  pub tag : ℕ
  pub globals : Pairs
  pub attrs : List Written

-- the first attribute of a name
abbrev pub written_as : Text → List Written → Option Written
written_as name [] = None
written_as name (a ∷ attrs) = if bytes_eq a.name name then Some a else written_as name attrs

-- an application that cannot be read, or is missing, is told of elsewhere
abbrev pub may_be : Result Text ValueFault → Bool
may_be (Ok application) = may_be_inline application
may_be (Err _) = true

abbrev pub may_on : Pairs → Option Written → Bool
may_on globals None = true
may_on globals (Some a) = may_be (value_read false globals a.end a.value)

-- the application may be inline
unfoldable pub application_may : Tagged → Bool
application_may e = may_on e.globals (written_as (codes "application") e.attrs)

-- `inline` on an application that may not be
unfoldable pub inline_fault : Tagged → Text → Text → Option DocKind
inline_fault e name text =
    if bytes_eq name (codes "inline") && bytes_eq text (codes "true") then fault_unless (application_may e) fault.BadAttribute else None

abbrev pub fault_by : Kind → Tagged → Text → Text → Option DocKind
fault_by kind.Global e name text = global_fault name text
fault_by kind.Condition e name text = condition_fault name text
fault_by kind.Case e name text = case_fault name text
fault_by kind.Action e name text = inline_fault e name text
fault_by kind.AntiAction e name text = inline_fault e name text
fault_by _ e name text = None

-- what is wrong with the text of an attribute
unfoldable pub value_fault : Tagged → Text → Text → Option DocKind
value_fault e name text = fault_by e.kind e name text

-- a fault in a value stands at its `&`, or else at the name of the attribute
abbrev pub text_on : ℕ → Result Text ValueFault → Result Text DocFault
text_on at (Ok text) = Ok text
text_on at (Err value.Raw) = faults.fault at fault.BadAttribute
text_on at (Err (value.BadEntity amp)) = faults.fault amp fault.BadEntity

-- the text of an attribute
unfoldable pub text_read : Tagged → Written → Result Text DocFault
text_read e a = text_on a.at (value_read (is_foreign e.kind) e.globals a.end a.value)

-- an unknown command is told at the tag, and all else at the name of the attribute
abbrev pub fault_offset : ℕ → ℕ → DocKind → ℕ
fault_offset tag name fault.UnknownElement = tag
fault_offset tag name _ = name

abbrev pub unless_fault : {X : Type 0} → ℕ → ℕ → Option DocKind → X → Result X DocFault
unless_fault tag name None x = Ok x
unless_fault tag name (Some kind) x = faults.fault (fault_offset tag name kind) kind

-- the attributes so far with one more
unfoldable pub attribute_read : Tagged → Pairs → Written → Result Pairs DocFault
attribute_read e so_far a =
    if has so_far a.name then faults.fault a.at fault.BadAttribute
    else if is_timed e.kind a.name then faults.fault a.at fault.TimeAttribute
    else (text_read e a >>= λ text. unless_fault e.tag a.at (value_fault e a.name text) (so_far ++ (a.name, text) ∷ []))

abbrev pub attributes_read : Tagged → Pairs → List Written → Result Pairs DocFault
attributes_read e so_far [] = Ok so_far
attributes_read e so_far (a ∷ attrs) = attribute_read e so_far a >>= λ next. attributes_read e next attrs

-- a malformed attribute, and then a needed one that is missing
abbrev pub complete : Tagged → Option ℕ → Pairs → Result Pairs DocFault
complete e (Some at) pairs = faults.fault at fault.BadAttribute
complete e None pairs = if has_needed e.kind pairs then Ok pairs else faults.fault e.tag fault.BadAttribute

-- the names of all attributes with their texts
unfoldable pub pairs_read : Tagged → Option ℕ → Result Pairs DocFault
pairs_read e malformed = attributes_read e [] e.attrs >>= λ pairs. complete e malformed pairs
