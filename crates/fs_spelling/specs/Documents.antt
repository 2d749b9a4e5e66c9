-- Which bytes are a document that says a configuration.
use Rattle.std.specs.Prelude.{◌≡◌, ◌≤◌, ◌⊎◌, true, false, if◌then◌else◌, List, [], ◌∷◌, ◌++◌, map, None, Ok, length, codes}
use Rattle.std.specs.List.{list_any}
use Rattle.fs_text.specs.Words.{is_byte}
use Rattle.fs_text.specs.Texts.{Text}
use Rattle.fs_vars.specs.Pairs.{Pairs}
use Rattle.fs_xml.specs.Attributes.{Written}
use Rattle.fs_xml.specs.declared.attribute.Ending.TheVariants.{Opens, Closes}
use Rattle.fs_doc.specs.declared.element.Level.{Level}
use Rattle.fs_doc.specs.declared.element.Level.TheVariants as level
use Rattle.fs_doc.specs.declared.element.Kind.{Kind}
use Rattle.fs_doc.specs.declared.content.Content.{Content}
use Rattle.fs_doc.specs.Values.{replaced}
use Rattle.fs_doc.specs.Elements.{kind_in, has, has_needed, is_foreign}
use Rattle.fs_doc.specs.Attributes.{Tagged, is_timed, value_fault}
use Rattle.fs_doc.specs.Contents.{new_content, element_begun, element_ended}
use Rattle.fs_doc.specs.Reading.{Configuration, configured, is_empty_level}
use Rattle.fs_spelling.specs.Values.{SpellsValue}
use Rattle.fs_spelling.specs.Tags.{Pair, AreBlank, IsTag, IsEndTag, IsComment}

-- ---- attributes

-- an attribute without offsets
abbrev pub loose : Pair → Written
loose pair = record { at = 0; name = pair.name; value = pair.value; end = 0 }

-- an element's tag without offsets
abbrev pub tag_of : Kind → Pairs → List Pair → Tagged
tag_of kind globals pairs = record { kind = kind; tag = 0; globals = globals; attrs = map loose pairs }

-- the globals are put into a decoded value, but not in a foreign element
abbrev pub text_with_globals : Tagged → Text → Text
text_with_globals e decoded = if is_foreign e.kind then decoded else replaced e.globals decoded

-- the attributes say these texts behind those before: no name stands twice, and nothing is wrong with a text
pub data Say : (e : Tagged) (before : Pairs) (pairs : List Pair) (texts : Pairs) → Type 0 where
  SayNoMore : (e : Tagged) (before : Pairs) → Say e before [] before
  SayOneMore : (e : Tagged) (before : Pairs) (pair : Pair) (pairs : List Pair) (decoded : Text) (texts : Pairs)
      → has before pair.name ≡ false → is_timed e.kind pair.name ≡ false
      → SpellsValue (is_foreign e.kind) pair.value decoded → value_fault e pair.name (text_with_globals e decoded) ≡ None
      → Say e (before ++ (pair.name, text_with_globals e decoded) ∷ []) pairs texts → Say e before (pair ∷ pairs) texts

-- ---- elements

-- an element of this name and these attributes begins at a level: where c was read before it, d is read with it, and its inside has
-- another level
pub record Begins (outer : Level) (c : Content) (name : Text) (pairs : List Pair) (inner : Level) (d : Content) : Type 0 where
  pub kind : Kind
  pub texts : Pairs
  pub known : kind_in outer c.done name ≡ Ok kind
  pub say : Say (tag_of kind c.globals.pairs pairs) [] pairs texts
  pub needed : has_needed kind texts ≡ true
  pub begins : element_begun kind texts c ≡ Ok (inner, d)

-- what may stand between markup: in a foreign element any text, elsewhere blanks
abbrev pub IsFiller : Level → Text → Type 0
IsFiller level.Foreign text = list_any (is_byte 60) text ≡ false
IsFiller _ text = AreBlank text

-- what stands in an element of this level, where c was read before it and d behind it: nothing, or what stands there and then a comment,
-- an empty element, or an element with its inside and its end tag
pub data Inside : (outer : Level) (c : Content) (text : Text) (d : Content) → Type 0 where
  Bare : (outer : Level) (c : Content) → Inside outer c [] c
  Remark : (outer : Level) (c d : Content) (text before mark : Text) → Inside outer c text d → is_empty_level outer ≡ false
      → IsFiller outer before → IsComment mark → Inside outer c (text ++ (before ++ (60 ∷ mark))) d
  Leaf : (outer inner : Level) (c d e : Content) (text before tag name : Text) (pairs : List Pair) → Inside outer c text d
      → IsFiller outer before → IsTag tag name pairs Closes
      → Begins outer d name pairs inner e → Inside outer c (text ++ (before ++ (60 ∷ tag))) (element_ended inner e)
  Holder : (outer inner : Level) (c d e f : Content) (text before tag held behind close name : Text) (pairs : List Pair)
      → Inside outer c text d → IsFiller outer before
      → IsTag tag name pairs Opens → Begins outer d name pairs inner e → Inside inner e held f → IsFiller inner behind → IsEndTag close name
      → Inside outer c (text ++ (before ++ ((60 ∷ tag) ++ (held ++ (behind ++ (60 ∷ close)))))) (element_ended inner f)

-- ---- documents

-- no `?>` stands in the text
abbrev pub LacksEnd : Text → Type 0
LacksEnd text = (front behind : Text) → text ≡ front ++ (codes "?>" ++ behind) → ⊥

-- behind the declaration stands this text: behind `<?xml` and the next `?>`, or from the first byte on where there is none and the bytes
-- could not go on to one
pub data IsDeclared : (bytes text : Text) → Type 0 where
  Declared : (bytes front text : Text) → bytes ≡ codes "<?xml" ++ (front ++ (codes "?>" ++ text)) → LacksEnd (front ++ codes "?")
      → IsDeclared bytes text
  NotDeclared : (bytes : Text) → ((rest : Text) → bytes ≡ codes "<?xml" ++ rest → ⊥)
      → ((more : Text) → codes "<?xml" ≡ bytes ++ more → ⊥) → IsDeclared bytes bytes

-- behind the declaration, if there is one, stands one document among blanks and comments
pub record IsDocument (bytes : Text) (content : Content) : Type 0 where
  pub text : Text
  pub behind : Text
  pub declared : IsDeclared bytes (text ++ behind)
  pub inside : Inside level.Top new_content text content
  pub blank : AreBlank behind
  pub done : content.done ≡ true

-- the bytes spell the configuration: they are blank and it is empty, or they are a document that says it
pub record Spells (bytes : Text) (c : Configuration) : Type 0 where
  pub content : Content
  pub small : length bytes ≤ 1048576
  pub document : (AreBlank bytes × (content ≡ new_content)) ⊎ ((AreBlank bytes → ⊥) × IsDocument bytes content)
  pub says : c ≡ configured content
