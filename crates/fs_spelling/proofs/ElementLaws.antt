-- The attributes of an element are read as the texts that they say, and the element as it begins.
use Rattle.std.proofs.Common.{◌≡◌, ℕ, Bool, true, false, cond, ◌&&◌, List, [], ◌∷◌, ◌++◌, map, Option, None, Some, Result, Ok, Err, codes}
use Rattle.std.proofs.Common.{refl, sym, ap, ◌∙◌, subst}
use Rattle.std.specs.Str.{bytes_eq}
use Rattle.fs_text.specs.Texts.{Text}
use Rattle.fs_vars.specs.Pairs.{Pairs}
use Rattle.fs_xml.specs.Results.{◌>>=◌}
use Rattle.fs_xml.specs.Attributes.{Written}
use Rattle.fs_xml.specs.Tags.{BodyText}
use Rattle.fs_xml.specs.Entities.{Values, value_text}
use Rattle.fs_xml.specs.declared.stop.ValueFault.TheVariants as value
use Rattle.fs_doc.specs.declared.fault.DocKind.{DocKind}
use Rattle.fs_doc.specs.declared.fault.DocKind.TheVariants as kinds
use Rattle.fs_doc.specs.declared.fault.DocFault.{DocFault}
use Rattle.fs_doc.specs.declared.element.Level.{Level}
use Rattle.fs_doc.specs.declared.element.Kind.{Kind}
use Rattle.fs_doc.specs.declared.element.Kind.TheVariants as kind
use Rattle.fs_doc.specs.declared.content.Content.{Content}
use Rattle.fs_doc.specs.Faults.{fault, or_at}
use Rattle.fs_doc.specs.Values.{replaced, value_read}
use Rattle.fs_doc.specs.Elements.{kind_in, has, has_needed, is_foreign}
use Rattle.fs_doc.specs.Attributes.{Tagged, written_as, may_be, may_on, application_may, inline_fault, fault_unless, fault_by, value_fault}
use Rattle.fs_doc.specs.Attributes.{is_timed, text_on, text_read, unless_fault, attribute_read, attributes_read, complete, pairs_read}
use Rattle.fs_doc.specs.Contents.{element_begun}
use Rattle.fs_doc.specs.Reading.{element_read}
use Rattle.fs_spelling.specs.Values.{SpellsValue}
use Rattle.fs_spelling.specs.Readings.{pair_of}
use Rattle.fs_spelling.specs.Documents.{loose, tag_of, text_with_globals, Say, SayNoMore, SayOneMore, Begins}
use Rattle.fs_spelling.proofs.Binds.{bind_ok}
use Rattle.fs_spelling.proofs.ValueLaws as values

-- ---- offsets do not matter

-- the text of a value does not depend on where it ends
text_anywhere : (raw : Bool) (end other : ℕ) (v t : Text) → value_text raw end v ≡ Ok t → value_text raw other v ≡ Ok t
text_anywhere raw end other v t e = values.value_spelt raw other v t (values.value_read raw end v t e)

abbrev pub onward : Bool → Pairs → Values → Values
onward foreign globals read = read >>= λ text. Ok (cond foreign text (replaced globals text))

-- nor does it whether it may be inline
may_anywhere : (foreign : Bool) (globals : Pairs) (end other : ℕ) (v : Text) →
    may_be (value_read foreign globals end v) ≡ may_be (value_read foreign globals other v)
unfolding value_read
may_anywhere foreign globals end other v = by (value_text foreign end v) (value_text foreign other v) refl refl
  where
    by : (a b : Values) → value_text foreign end v ≡ a → value_text foreign other v ≡ b →
        may_be (onward foreign globals a) ≡ may_be (onward foreign globals b)
    by (Ok t) b is other_is = ap (λ r. may_be (onward foreign globals r)) (sym (text_anywhere foreign end other v t is) ∙ other_is)
    by (Err f) (Ok t) is other_is = let both : value_text foreign end v ≡ Ok t = text_anywhere foreign other end v t other_is in
        let never : Err f ≡ Ok t = sym is ∙ both in absurd (cc)
    by (Err f) (Err g) is other_is = refl

may_loose : (globals : Pairs) (name : Text) (attrs : List Written) →
    may_on globals (written_as name attrs) ≡ may_on globals (written_as name (map loose (map pair_of attrs)))
may_loose globals name [] = refl
may_loose globals name (a ∷ attrs) = by (bytes_eq a.name name) (may_loose globals name attrs)
  where
    by : (t : Bool) → may_on globals (written_as name attrs) ≡ may_on globals (written_as name (map loose (map pair_of attrs)))
        → may_on globals (cond t (Some a) (written_as name attrs))
        ≡ may_on globals (cond t (Some (loose (pair_of a))) (written_as name (map loose (map pair_of attrs))))
    by true more = may_anywhere false globals a.end 0 a.value
    by false more = more

-- the tag without its offsets
abbrev pub bare : Tagged → Tagged
bare e = tag_of e.kind e.globals (map pair_of e.attrs)

may_bare : (e : Tagged) → application_may e ≡ application_may (bare e)
unfolding application_may
may_bare e = may_loose e.globals (codes "application") e.attrs

inline_bare : (e : Tagged) (name text : Text) → inline_fault e name text ≡ inline_fault (bare e) name text
unfolding inline_fault
inline_bare e name text =
    ap (λ may. cond (bytes_eq name (codes "inline") && bytes_eq text (codes "true")) (fault_unless may kinds.BadAttribute) None)
    (may_bare e)

fault_bare : (k : Kind) (e : Tagged) (name text : Text) → fault_by k e name text ≡ fault_by k (bare e) name text
fault_bare kind.Document e name text = refl
fault_bare kind.Global e name text = refl
fault_bare kind.Section e name text = refl
fault_bare kind.Configuration e name text = refl
fault_bare (kind.Settings f) e name text = refl
fault_bare (kind.Param f) e name text = refl
fault_bare kind.Context e name text = refl
fault_bare kind.Extension e name text = refl
fault_bare kind.Condition e name text = refl
fault_bare kind.Case e name text = refl
fault_bare kind.Action e name text = inline_bare e name text
fault_bare kind.AntiAction e name text = inline_bare e name text
fault_bare kind.Foreign e name text = refl

pub value_bare : (e : Tagged) (name text : Text) → value_fault e name text ≡ value_fault (bare e) name text
unfolding value_fault
value_bare e name text = fault_bare e.kind e name text

-- ---- what is said is read

pub text_said : (e : Tagged) (a : Written) (decoded : Text) → SpellsValue (is_foreign e.kind) a.value decoded →
    text_read e a ≡ Ok (text_with_globals e decoded)
unfolding text_read value_read
text_said e a decoded spelt =
    ap (λ r. text_on a.at (onward (is_foreign e.kind) e.globals r)) (values.value_spelt (is_foreign e.kind) a.end a.value decoded spelt)

pub attribute_said : (e : Tagged) (before : Pairs) (a : Written) (decoded : Text) → has before a.name ≡ false → is_timed e.kind a.name ≡ false →
    SpellsValue (is_foreign e.kind) a.value decoded
    → value_fault (bare e) a.name (text_with_globals e decoded) ≡ None → attribute_read e before a ≡ Ok
    (before ++ (a.name, text_with_globals e decoded) ∷ [])
unfolding attribute_read
attribute_said e before a decoded new untimed spelt fine =
    rw (new, untimed) (
    ap (λ (r : Result Text DocFault). r >>= λ text. unless_fault e.tag a.at (value_fault e a.name text) (before ++ (a.name, text) ∷ []))
    (text_said e a decoded spelt)
    ∙ ap (λ f. unless_fault e.tag a.at f (before ++ (a.name, text_with_globals e decoded) ∷ []))
    (value_bare e a.name (text_with_globals e decoded) ∙ fine)
    )

pub all_said : (e : Tagged) (before : Pairs) (attrs : List Written) (texts : Pairs) → Say (bare e) before (map pair_of attrs) texts →
    attributes_read e before attrs ≡ Ok texts
all_said e before [] texts (SayNoMore _ _) = refl
all_said e before (a ∷ attrs) texts (SayOneMore _ _ _ _ decoded _ new untimed spelt fine say) =
    ap (λ (r : Result Pairs DocFault). r >>= λ next. attributes_read e next attrs)
    (attribute_said e before a decoded new untimed spelt fine)
    ∙ all_said e (before ++ (a.name, text_with_globals e decoded) ∷ []) attrs texts say

-- an element that begins is read so
pub begins_read : (at : ℕ) (outer : Level) (c d : Content) (name : Text) (body : BodyText) (inner : Level) → body.malformed ≡ None →
    Begins outer c name (map pair_of body.attrs) inner d
    → element_read at name body outer c ≡ Ok (inner, d)
unfolding element_read pairs_read
begins_read at outer c d name body inner whole is =
    let e : Tagged = record { kind = is.kind; tag = at; globals = c.globals.pairs; attrs = body.attrs } in
    let judged : (k : Kind) → Result (Level × Content) DocFault = λ k.
    (attributes_read (record { kind = k; tag = at; globals = c.globals.pairs; attrs = body.attrs }) [] body.attrs >>= λ pairs. complete
    (record { kind = k; tag = at; globals = c.globals.pairs; attrs = body.attrs }) body.malformed pairs)
    >>= λ pairs. or_at at (element_begun k pairs c) in
    ap (λ (r : Result Kind DocKind). or_at at r >>= judged) is.known
    ∙ ap (λ (r : Result Pairs DocFault). (r >>= λ pairs. complete e body.malformed pairs) >>= λ pairs. or_at at
    (element_begun is.kind pairs c)) (all_said e [] body.attrs is.texts is.say)
    ∙ ap (λ m. complete e m is.texts >>= λ pairs. or_at at (element_begun is.kind pairs c)) whole
    ∙ ap (λ t. cond t (Ok is.texts) (fault at kinds.BadAttribute) >>= λ pairs. or_at at (element_begun is.kind pairs c)) is.needed
    ∙ ap (λ (r : Result (Level × Content) DocKind). or_at at r) is.begins

-- ---- what is read is said

abbrev texts_read : Pairs → Result Pairs DocFault
texts_read x = Ok x

same_texts : (x y : Pairs) → texts_read x ≡ texts_read y → x ≡ y
same_texts x y e = cc

-- a text that is read is said
pub record IsSaid (e : Tagged) (a : Written) (text : Text) : Type 0 where
  pub decoded : Text
  pub spelt : SpellsValue (is_foreign e.kind) a.value decoded
  pub text_is : text ≡ text_with_globals e decoded

pub text_is_said : (e : Tagged) (a : Written) (text : Text) → text_read e a ≡ Ok text → IsSaid e a text
unfolding text_read value_read
text_is_said e a text h = by (value_text (is_foreign e.kind) a.end a.value) refl h
  where
    by : (r : Values) → value_text (is_foreign e.kind) a.end a.value ≡ r → text_on a.at (onward (is_foreign e.kind) e.globals r) ≡ Ok text →
        IsSaid e a text
    by (Ok decoded) is k =
        let same : text_with_globals e decoded ≡ text = cc in
        record { decoded = decoded; spelt = values.value_read (is_foreign e.kind) a.end a.value decoded is; text_is = sym same }
    by (Err value.Raw) is k = absurd (cc)
    by (Err (value.BadEntity amp)) is k = absurd (cc)

-- one attribute that is read
pub record OneSaid (e : Tagged) (before : Pairs) (a : Written) (next : Pairs) : Type 0 where
  pub decoded : Text
  pub new : has before a.name ≡ false
  pub untimed : is_timed e.kind a.name ≡ false
  pub spelt : SpellsValue (is_foreign e.kind) a.value decoded
  pub fine : value_fault (bare e) a.name (text_with_globals e decoded) ≡ None
  pub next_is : next ≡ before ++ (a.name, text_with_globals e decoded) ∷ []

no_fault : (tag at : ℕ) (f : Option DocKind) (pairs next : Pairs) → unless_fault tag at f pairs ≡ Ok next → (f ≡ None) × (pairs ≡ next)
no_fault tag at None pairs next e = (refl, same_texts pairs next e)
no_fault tag at (Some k) pairs next e = absurd (cc)

pub attribute_is_said : (e : Tagged) (before : Pairs) (a : Written) (next : Pairs) → attribute_read e before a ≡ Ok next →
    OneSaid e before a next
unfolding attribute_read
attribute_is_said e before a next h = by (has before a.name) (is_timed e.kind a.name) refl refl h
  where
    by : (s t : Bool) → has before a.name ≡ s → is_timed e.kind a.name ≡ t
        → cond s (fault a.at kinds.BadAttribute)
        (cond t (fault a.at kinds.TimeAttribute)
        (text_read e a >>= λ text. unless_fault e.tag a.at (value_fault e a.name text) (before ++ (a.name, text) ∷ []))) ≡ Ok next
        → OneSaid e before a next
    by true t new untimed k = absurd (cc)
    by false true new untimed k = absurd (cc)
    by false false new untimed k =
        let went =
        bind_ok (text_read e a) (λ text. unless_fault e.tag a.at (value_fault e a.name text) (before ++ (a.name, text) ∷ [])) next k in
        let said = text_is_said e a went.0 went.1 in
        let fine = no_fault e.tag a.at (value_fault e a.name went.0) (before ++ (a.name, went.0) ∷ []) next went.2 in
        record {
          decoded = said.decoded;
          new = new;
          untimed = untimed;
          spelt = said.spelt;
          fine = sym (value_bare e a.name (text_with_globals e said.decoded)) ∙ ap (value_fault e a.name) (sym said.text_is) ∙ fine.0;
          next_is = sym fine.1 ∙ ap (λ text. before ++ (a.name, text) ∷ []) said.text_is;
        }

pub all_are_said : (e : Tagged) (before : Pairs) (attrs : List Written) (texts : Pairs) → attributes_read e before attrs ≡ Ok texts →
    Say (bare e) before (map pair_of attrs) texts
all_are_said e before [] texts h =
    let P : Pairs → Type 0 = λ t. Say (bare e) before [] t in subst P (same_texts before texts h) (SayNoMore (bare e) before)
all_are_said e before (a ∷ attrs) texts h =
    let went = bind_ok (attribute_read e before a) (λ next. attributes_read e next attrs) texts h in
    let one = attribute_is_said e before a went.0 went.1 in
    let P : Pairs → Type 0 = λ n. Say (bare e) n (map pair_of attrs) texts in
    SayOneMore (bare e) before (pair_of a) (map pair_of attrs) one.decoded texts one.new one.untimed one.spelt one.fine
    (subst P one.next_is (all_are_said e went.0 attrs texts went.2))

abbrev kind_read : Kind → Result Kind DocKind
kind_read k = Ok k

at_kind : (at : ℕ) (r : Result Kind DocKind) (k : Kind) → or_at at r ≡ Ok k → r ≡ Ok k
at_kind at (Ok x) k e = let same : x ≡ k = cc in ap kind_read same
at_kind at (Err f) k e = absurd (cc)

abbrev begun_read : Level × Content → Result (Level × Content) DocKind
begun_read x = Ok x

abbrev offset_read : Level × Content → Result (Level × Content) DocFault
offset_read x = Ok x

same_begun : (x y : Level × Content) → offset_read x ≡ offset_read y → x ≡ y
same_begun x y e = cc

-- the pairs are all there, and none is malformed
pub record IsComplete (e : Tagged) (malformed : Option ℕ) (pairs texts : Pairs) : Type 0 where
  pub none : malformed ≡ None
  pub needed : has_needed e.kind pairs ≡ true
  pub same : pairs ≡ texts

pub completed : (e : Tagged) (malformed : Option ℕ) (pairs texts : Pairs) → complete e malformed pairs ≡ Ok texts →
    IsComplete e malformed pairs texts
completed e (Some at) pairs texts h = absurd (cc)
completed e None pairs texts h = by (has_needed e.kind pairs) refl h
  where
    by : (t : Bool) → has_needed e.kind pairs ≡ t → cond t (texts_read pairs) (fault e.tag kinds.BadAttribute) ≡ texts_read texts →
        IsComplete e None pairs texts
    by true needed k = record { none = refl; needed = needed; same = same_texts pairs texts k }
    by false needed k = absurd (cc)

at_content : (at : ℕ) (r : Result (Level × Content) DocKind) (x : Level × Content) → or_at at r ≡ Ok x → r ≡ Ok x
at_content at (Ok y) x e = ap begun_read (same_begun y x e)
at_content at (Err f) x e = absurd (cc)

-- an element that is read has no malformed attribute, and begins so
pub read_begins : (at : ℕ) (outer : Level) (c : Content) (name : Text) (body : BodyText) (inner : Level) (d : Content) →
    element_read at name body outer c ≡ Ok (inner, d)
    → (body.malformed ≡ None) × Begins outer c name (map pair_of body.attrs) inner d
unfolding element_read pairs_read
read_begins at outer c name body inner d h =
    let first = bind_ok (or_at at (kind_in outer c.done name)) (λ k.
    (attributes_read (record { kind = k; tag = at; globals = c.globals.pairs; attrs = body.attrs }) [] body.attrs >>= λ pairs. complete
    (record { kind = k; tag = at; globals = c.globals.pairs; attrs = body.attrs }) body.malformed pairs)
    >>= λ pairs. or_at at (element_begun k pairs c)) (inner, d) h in
    let k = first.0 in
    let e : Tagged = record { kind = k; tag = at; globals = c.globals.pairs; attrs = body.attrs } in
    let second =
    bind_ok (attributes_read e [] body.attrs >>= λ pairs. complete e body.malformed pairs) (λ pairs. or_at at (element_begun k pairs c))
    (inner, d) first.2 in
    let third = bind_ok (attributes_read e [] body.attrs) (λ pairs. complete e body.malformed pairs) second.0 second.1 in
    let whole = completed e body.malformed third.0 second.0 third.2 in
    let P : Pairs → Type 0 = λ t. Say (bare e) [] (map pair_of body.attrs) t in
    let Q : Pairs → Type 0 = λ t. has_needed k t ≡ true in (
      whole.none,
      record {
        kind = k;
        texts = second.0;
        known = at_kind at (kind_in outer c.done name) k first.1;
        say = subst P whole.same (all_are_said e [] body.attrs third.0 third.1);
        needed = subst Q whole.same whole.needed;
        begins = at_content at (element_begun k second.0 c) (inner, d) second.2;
      },
    )
