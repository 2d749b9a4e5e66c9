-- The configuration that a document is read as, or its first fault.
use Rattle.std.specs.Prelude.{◌==◌, ℕ, zero, suc, ◌+◌, Bool, true, false, ◌&&◌, nat_eq, nat_lt, if◌then◌else◌, List, [], ◌∷◌, length, drop}
use Rattle.std.specs.Prelude.{Result, Ok, Err, codes}
use Rattle.std.specs.Str.{bytes_eq}
use Rattle.std.specs.List.{starts_with, position_or_len}
use Rattle.fs_text.specs.Words.{is_byte}
use Rattle.fs_text.specs.Texts.{Text}
use Rattle.fs_vars.specs.Variables.{Variables}
use Rattle.fs_xml.specs.Bytes.{is_blank, past, offset}
use Rattle.fs_xml.specs.Tags.{BodyText}
use Rattle.fs_xml.specs.Markup.{Mark, Comment, End, Start, Marks, mark_at}
use Rattle.fs_xml.specs.Results.{◌>>=◌}
use Rattle.fs_xml.specs.declared.stop.TagStop.{TagStop}
use Rattle.fs_xml.specs.declared.stop.TagStop.TheVariants.{Cut, Bad}
use Rattle.fs_xml.specs.declared.attribute.Ending.{Ending}
use Rattle.fs_xml.specs.declared.attribute.Ending.TheVariants.{Opens, Closes}
use Rattle.fs_doc.specs.declared.fault.DocKind.{DocKind}
use Rattle.fs_doc.specs.declared.fault.DocKind.TheVariants as kind
use Rattle.fs_doc.specs.declared.fault.DocFault.{DocFault}
use Rattle.fs_doc.specs.declared.element.Level.{Level}
use Rattle.fs_doc.specs.declared.element.Level.TheVariants as level
use Rattle.fs_doc.specs.declared.settings.Settings.{Settings}
use Rattle.fs_doc.specs.declared.content.Content.{Content}
use Rattle.fs_doc.specs.Dialplans.{Context}
use Rattle.fs_doc.specs.Elements.{kind_in}
use Rattle.fs_doc.specs.Attributes.{pairs_read}
use Rattle.fs_doc.specs.Contents.{new_content, element_begun, element_ended}
use Rattle.fs_doc.specs.Faults.{fault, or_at}

-- an element that has not ended: the level of its inside, and its name
pub record Opened : Type 0 where
  pub level : Level
  pub name : Text

-- the open elements, innermost first, and what was read
pub record ReadSoFar : Type 0 where
  pub opened : List Opened
  pub content : Content

-- where the next byte stands
abbrev pub level_in : List Opened → Level
level_in [] = level.Top
level_in (o ∷ opened) = o.level

-- no element is open
abbrev pub is_outside : List Opened → Bool
is_outside [] = true
is_outside (o ∷ opened) = false

-- ---- text

abbrev pub text_kind : Level → DocKind
text_kind level.Top = kind.BadTag
text_kind _ = kind.TextContent

-- what stands behind blanks is markup
abbrev pub blank_text : ℕ → Level → Text → Result Text DocFault
blank_text end level [] = Ok []
blank_text end level (b ∷ rest) = if b == 60 then Ok (b ∷ rest) else fault (offset end (b ∷ rest)) (text_kind level)

-- what stands from the first `<` on
abbrev pub any_text : Text → Text
any_text bytes = drop (position_or_len (is_byte 60) bytes) bytes

-- what stands behind the text in front: in a foreign element there may be any text, elsewhere blanks
unfoldable pub text_at : ℕ → Level → Text → Result Text DocFault
text_at end level.Foreign bytes = Ok (any_text bytes)
text_at end level bytes = blank_text end level (past is_blank bytes)

-- ---- markup

-- markup that the bytes cut short is a fault of the whole document, and behind the document it is bad
abbrev pub stop_fault : Bool → ℕ → ℕ → TagStop → DocFault
stop_fault done end at Cut = if done then record { at = at; kind = kind.BadTag } else record { at = end; kind = kind.Truncated }
stop_fault done end at Bad = record { at = at; kind = kind.BadTag }

abbrev pub mark_or : Bool → ℕ → ℕ → Marks → Result (Mark × Text) DocFault
mark_or done end at (Ok x) = Ok x
mark_or done end at (Err stop) = Err (stop_fault done end at stop)

-- the markup behind a `<` at an offset; outside of all elements there is no end tag
unfoldable pub mark_read : Bool → Bool → ℕ → ℕ → Text → Result (Mark × Text) DocFault
mark_read done outside end at bytes =
    if outside && starts_with nat_eq bytes (codes "/") then fault at kind.BadTag else mark_or done end at (mark_at end bytes)

-- ---- elements

-- an element with an end tag to come is open; an empty one is over
abbrev pub with_element : Ending → Text → List Opened → Level × Content → ReadSoFar
with_element Opens name opened x = record { opened = record { level = x.0; name = name } ∷ opened; content = x.1 }
with_element Closes name opened x = record { opened = opened; content = element_ended x.0 x.1 }

-- the element is judged: its level, its attributes, and then what it adds
unfoldable pub element_read : ℕ → Text → BodyText → Level → Content → Result (Level × Content) DocFault
element_read at name body level c =
    or_at at (kind_in level c.done name) >>= λ kind.
    (pairs_read (record { kind = kind; tag = at; globals = c.globals.pairs; attrs = body.attrs }) body.malformed >>= λ pairs.
    or_at at (element_begun kind pairs c))

-- in a reading: at the level of its innermost element
abbrev pub element_in : ℕ → Text → BodyText → ReadSoFar → Result (Level × Content) DocFault
element_in at name body r = element_read at name body (level_in r.opened) r.content

unfoldable pub start_entered : ℕ → Text → BodyText → ReadSoFar → Result ReadSoFar DocFault
start_entered at name body r =
    element_read at name body (level_in r.opened) r.content >>= λ x. Ok (with_element body.ending name r.opened x)

-- an end tag ends the innermost element, whose name it has
abbrev pub end_entered_from : ℕ → Text → List Opened → Content → Result ReadSoFar DocFault
end_entered_from at name [] c = fault at kind.BadTag
end_entered_from at name (o ∷ opened) c =
    if bytes_eq o.name name then Ok (record { opened = opened; content = element_ended o.level c }) else fault at kind.BadTag

unfoldable pub end_entered : ℕ → Text → ReadSoFar → Result ReadSoFar DocFault
end_entered at name r = end_entered_from at name r.opened r.content

-- a comment stands wherever an element may
abbrev pub is_empty_level : Level → Bool
is_empty_level level.Empty = true
is_empty_level _ = false

unfoldable pub mark_entered : ℕ → Mark → ReadSoFar → Result ReadSoFar DocFault
mark_entered at Comment r = if is_empty_level (level_in r.opened) then fault at kind.BadTag else Ok r
mark_entered at (End name) r = end_entered at name r
mark_entered at (Start name body) r = start_entered at name body r

-- ---- rounds

-- the document is over, or the reading goes on
pub data Next : Type 0 where
  Over : Content → Next
  On : ReadSoFar → Text → Next

abbrev pub Nexts : Type 0
Nexts = Result Next DocFault

-- the markup in front
unfoldable pub at_mark : ℕ → ReadSoFar → Text → Nexts
at_mark end r [] = if is_outside r.opened && r.content.done then Ok (Over r.content) else fault end kind.Truncated
at_mark end r (b ∷ rest) =
    mark_read r.content.done (is_outside r.opened) end (offset end (b ∷ rest)) rest >>= λ x.
    (mark_entered (offset end (b ∷ rest)) x.0 r >>= λ next. Ok (On next x.1))

-- the text in front, and the markup behind it
unfoldable pub round : ℕ → ReadSoFar → Text → Nexts
round end r bytes = text_at end (level_in r.opened) bytes >>= λ rest. at_mark end r rest

abbrev pub Contents : Type 0
Contents = Result Content DocFault

abbrev pub with_round : (ReadSoFar → Text → Contents) → Next → Contents
with_round more (Over c) = Ok c
with_round more (On r rest) = more r rest

-- with no more than so many rounds
abbrev pub read_within : ℕ → ℕ → ReadSoFar → Text → Contents
read_within zero end r bytes = fault end kind.Truncated
read_within (suc more) end r bytes = round end r bytes >>= λ next. with_round (λ r rest. read_within more end r rest) next

abbrev pub at_first : ReadSoFar
at_first = record { opened = []; content = new_content }

-- what is read from the first byte behind the declaration on
unfoldable pub document_of : ℕ → Text → Contents
document_of end bytes = read_within (length bytes + 1) end at_first bytes

-- ---- the whole document

-- what stands behind the next `?>`
abbrev pub declaration_end : ℕ → Text → Result Text DocFault
declaration_end end [] = fault end kind.Truncated
declaration_end end (b ∷ rest) = if starts_with nat_eq (b ∷ rest) (codes "?>") then Ok (drop 2 (b ∷ rest)) else declaration_end end rest

-- what stands behind the declaration, if there is one
unfoldable pub past_declaration : Text → Result Text DocFault
past_declaration bytes =
    if starts_with nat_eq bytes (codes "<?xml") then declaration_end (length bytes) (drop 5 bytes)
    else if starts_with nat_eq (codes "<?xml") bytes then fault (length bytes) kind.Truncated
    else Ok bytes

-- what is read of a document that is not blank
unfoldable pub content_of : Text → Contents
content_of bytes = past_declaration bytes >>= λ rest. document_of (length bytes) rest

-- the configuration that was read
pub record Configuration : Type 0 where
  pub settings : Settings
  pub globals : Variables
  pub contexts : List Context

abbrev pub configured : Content → Configuration
configured c = record { settings = c.settings; globals = c.globals; contexts = c.contexts }

-- the configuration of a document: a document that is too large is none, and a blank one is empty
unfoldable pub config_of : Text → Result Configuration DocFault
config_of bytes =
    if nat_lt 1048576 (length bytes) then fault 1048576 kind.TooLarge
    else ((if length (past is_blank bytes) == 0 then Ok new_content else content_of bytes) >>= λ c. Ok (configured c))
