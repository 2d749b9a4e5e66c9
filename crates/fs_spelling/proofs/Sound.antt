-- What is read is spelt.
use Rattle.std.proofs.Common.{◌≡◌, ℕ, zero, suc, Bool, true, false, cond, ◌&&◌, nat_eq, List, [], ◌∷◌, ◌++◌, map, None, Result, Ok, Err}
use Rattle.std.proofs.Common.{codes, refl, sym, ap, ◌∙◌, subst, append_assoc, append-nil}
use Rattle.std.specs.List.{starts_with}
use Rattle.std.specs.Str.{bytes_eq}
use Rattle.std.proofs.lemmas.Slice.Eq.{bytes_eq-Decides}
use Rattle.fs_text.specs.Texts.{Text}
use Rattle.fs_xml.specs.Results.{◌>>=◌}
use Rattle.fs_xml.specs.Bytes.{offset}
use Rattle.fs_xml.specs.Tags.{BodyText}
use Rattle.fs_xml.specs.Markup.{Mark, Comment, End, Start, Marks, mark_at}
use Rattle.fs_xml.specs.declared.attribute.Ending.{Ending}
use Rattle.fs_xml.specs.declared.attribute.Ending.TheVariants.{Opens, Closes}
use Rattle.fs_doc.specs.declared.fault.DocKind.TheVariants as kinds
use Rattle.fs_doc.specs.declared.fault.DocFault.{DocFault}
use Rattle.fs_doc.specs.declared.element.Level.{Level}
use Rattle.fs_doc.specs.declared.element.Level.TheVariants as level
use Rattle.fs_doc.specs.declared.content.Content.{Content}
use Rattle.fs_doc.specs.Faults.{fault}
use Rattle.fs_doc.specs.Contents.{new_content, element_ended}
use Rattle.fs_doc.specs.Reading.{Opened, ReadSoFar, level_in, is_outside, text_at, mark_or, mark_read, element_read, with_element}
use Rattle.fs_doc.specs.Reading.{start_entered, end_entered, is_empty_level, mark_entered, Next, Over, On, at_mark, round, with_round}
use Rattle.fs_doc.specs.Reading.{read_within}
use Rattle.fs_spelling.specs.Tags.{Pair, IsTag, IsEndTag, IsComment, AreBlank}
use Rattle.fs_spelling.specs.Readings.{pair_of, Takes, TakesMark}
use Rattle.fs_spelling.specs.Documents.{IsFiller, Begins, Inside, Bare, Remark, Leaf, Holder}
use Rattle.fs_spelling.proofs.Binds.{bind_ok}
use Rattle.fs_spelling.proofs.TextLaws.{BeginsMark, text_taken}
use Rattle.fs_spelling.proofs.MarkLaws.{taken_mark}
use Rattle.fs_spelling.proofs.ElementLaws.{read_begins}
use Rattle.fs_spelling.proofs.Again.{state}

-- ---- how far a reading came

-- what was read of an element that is open: what stands before it, its tag, and what stands in it so far
pub record Within (R : Content → Text → Type 0) (outer : Level) (o : Opened) (c : Content) (text : Text) : Type 0 where
  pub before_it : Content
  pub begun_with : Content
  pub front : Text
  pub filler : Text
  pub tag : Text
  pub held : Text
  pub pairs : List Pair
  pub reached : R before_it front
  pub may : IsFiller outer filler
  pub is_tag : IsTag tag o.name pairs Opens
  pub begins : Begins outer before_it o.name pairs o.level begun_with
  pub inside : Inside o.level begun_with held c
  pub whole : text ≡ front ++ (filler ++ ((60 ∷ tag) ++ held))

-- the text up to here is what stands in the open elements, and c is what it says
abbrev pub Reached : List Opened → Content → Text → Type 0
Reached [] c text = Inside level.Top new_content text c
Reached (o ∷ opened) c text = Within (Reached opened) (level_in opened) o c text

-- one more item, whatever is open
grow : (opened : List Opened) (c d : Content) (text item : Text) →
    ((a : Content) (t : Text) → Inside (level_in opened) a t c → Inside (level_in opened) a (t ++ item) d)
    → Reached opened c text → Reached opened d (text ++ item)
grow [] c d text item more reached = more new_content text reached
grow (o ∷ opened) c d text item more w = record {
  before_it = w.before_it;
  begun_with = w.begun_with;
  front = w.front;
  filler = w.filler;
  tag = w.tag;
  held = w.held ++ item;
  pairs = w.pairs;
  reached = w.reached;
  may = w.may;
  is_tag = w.is_tag;
  begins = w.begins;
  inside = more w.begun_with w.held w.inside;
  whole = ap (λ t. t ++ item) w.whole ∙ deeper w.front w.filler (60 ∷ w.tag) w.held item;
}
  where
    deeper : (front filler tag held more : Text) →
        (front ++ (filler ++ (tag ++ held))) ++ more ≡ front ++ (filler ++ (tag ++ (held ++ more)))
    deeper front filler tag held more = simp append_assoc

tag_reached : (opened : List Opened) (c e : Content) (text before tag name : Text) (pairs : List Pair) (inner : Level) →
    Reached opened c text → IsFiller (level_in opened) before
    → IsTag tag name pairs Opens → Begins (level_in opened) c name pairs inner e
    → Reached (record { level = inner; name = name } ∷ opened) e (text ++ (before ++ (60 ∷ tag)))
tag_reached opened c e text before tag name pairs inner reached filler is begins = record {
  before_it = c;
  begun_with = e;
  front = text;
  filler = before;
  tag = tag;
  held = [];
  pairs = pairs;
  reached = reached;
  may = filler;
  is_tag = is;
  begins = begins;
  inside = Bare inner e;
  whole = ap (λ t. text ++ (before ++ t)) (sym (append-nil (60 ∷ tag)));
}

close_reached : (o : Opened) (opened : List Opened) (c : Content) (text behind close : Text) → Reached (o ∷ opened) c text →
    IsFiller o.level behind → IsEndTag close o.name
    → Reached opened (element_ended o.level c) (text ++ (behind ++ (60 ∷ close)))
close_reached o opened c text behind close w filler is =
    let item : Text = w.filler ++ ((60 ∷ w.tag) ++ (w.held ++ (behind ++ (60 ∷ close)))) in
    let whole : text ++ (behind ++ (60 ∷ close)) ≡ w.front ++ item =
    ap (λ t. t ++ (behind ++ (60 ∷ close))) w.whole ∙ deeper w.front w.filler (60 ∷ w.tag) w.held (behind ++ (60 ∷ close)) in
    let P : Text → Type 0 = λ t. Reached opened (element_ended o.level c) t in
    subst P (sym whole) (grow opened w.before_it (element_ended o.level c) w.front item
    (λ a t inside. Holder (level_in opened) o.level a w.before_it w.begun_with c t w.filler w.tag w.held behind close o.name w.pairs inside
    w.may w.is_tag w.begins w.inside filler is) w.reached)
  where
    deeper : (front filler tag held more : Text) →
        (front ++ (filler ++ (tag ++ held))) ++ more ≡ front ++ (filler ++ (tag ++ (held ++ more)))
    deeper front filler tag held more = simp append_assoc

-- ---- one markup

-- the markup in front was entered
pub record Stepped (text before bytes rest : Text) (next : ReadSoFar) : Type 0 where
  pub item : Text
  pub whole : bytes ≡ item ++ rest
  pub reached : Reached next.opened next.content (text ++ (before ++ (60 ∷ item)))

abbrev pub entry : ReadSoFar → Result ReadSoFar DocFault
entry r = Ok r

same_entry : (x y : ReadSoFar) → entry x ≡ entry y → x ≡ y
same_entry x y e = cc

comment_stepped : (at : ℕ) (opened : List Opened) (c : Content) (text before bytes rest : Text) (next : ReadSoFar) → Reached opened c text →
    IsFiller (level_in opened) before
    → Takes IsComment bytes rest → mark_entered at Comment (state opened c) ≡ Ok next → Stepped text before bytes rest next
unfolding mark_entered
comment_stepped at opened c text before bytes rest next reached filler takes e = by (is_empty_level (level_in opened)) refl e
  where
    by : (t : Bool) → is_empty_level (level_in opened) ≡ t → cond t (fault at kinds.BadTag) (entry (state opened c)) ≡ entry next →
        Stepped text before bytes rest next
    by true may h = absurd (cc)
    by false may h =
        let P : ReadSoFar → Type 0 = λ n. Reached n.opened n.content (text ++ (before ++ (60 ∷ takes.bytes))) in
        record {
          item = takes.bytes;
          whole = takes.whole;
          reached = subst P (same_entry (state opened c) next h)
              (grow opened c c text (before ++ (60 ∷ takes.bytes))
              (λ a t inside. Remark (level_in opened) a c t before takes.bytes inside may filler takes.is) reached);
        }

end_stepped : (at : ℕ) (opened : List Opened) (c : Content) (text before bytes rest name : Text) (next : ReadSoFar) →
    Reached opened c text → IsFiller (level_in opened) before
    → Takes (λ b. IsEndTag b name) bytes rest → mark_entered at (End name) (state opened c) ≡ Ok next → Stepped text before bytes rest next
unfolding mark_entered end_entered
end_stepped at [] c text before bytes rest name next reached filler takes e = absurd (cc)
end_stepped at (o ∷ opened) c text before bytes rest name next reached filler takes e =
    by (bytes_eq o.name name) (bytes_eq-Decides o.name name).0 e
  where
    by : (t : Bool) → (t ≡ true → o.name ≡ name) →
        cond t (entry (state opened (element_ended o.level c))) (fault at kinds.BadTag) ≡ entry next → Stepped text before bytes rest next
    by true same h =
        let P : ReadSoFar → Type 0 = λ n. Reached n.opened n.content (text ++ (before ++ (60 ∷ takes.bytes))) in
        let Q : Text → Type 0 = λ n. IsEndTag takes.bytes n in
        record {
          item = takes.bytes;
          whole = takes.whole;
          reached =
              subst P (same_entry (state opened (element_ended o.level c)) next h)
              (close_reached o opened c text before takes.bytes reached filler (subst Q (sym (same refl)) takes.is));
        }
    by false same h = absurd (cc)

start_stepped : (at : ℕ) (opened : List Opened) (c : Content) (text before bytes rest name : Text) (body : BodyText) (next : ReadSoFar) →
    Reached opened c text → IsFiller (level_in opened) before
    → (body.malformed ≡ None → Takes (λ b. IsTag b name (map pair_of body.attrs) body.ending) bytes rest)
    → mark_entered at (Start name body) (state opened c) ≡ Ok next → Stepped text before bytes rest next
unfolding mark_entered start_entered
start_stepped at opened c text before bytes rest name body next reached filler takes e =
    let went = bind_ok (element_read at name body (level_in opened) c) (λ x. entry (with_element body.ending name opened x)) next e in
    let inner = went.0.0 in
    let d = went.0.1 in
    let begins = read_begins at (level_in opened) c name body inner d went.1 in
    let taken = takes begins.0 in
    let P : ReadSoFar → Type 0 = λ n. Reached n.opened n.content (text ++ (before ++ (60 ∷ taken.bytes))) in
    record {
      item = taken.bytes;
      whole = taken.whole;
      reached =
          subst P (same_entry (with_element body.ending name opened (inner, d)) next went.2)
          (by body.ending inner d taken.bytes taken.is begins.1);
    }
  where
    by : (ending : Ending) (inner : Level) (d : Content) (tag : Text) → IsTag tag name (map pair_of body.attrs) ending →
        Begins (level_in opened) c name (map pair_of body.attrs) inner d
        → Reached (with_element ending name opened (inner, d)).opened (with_element ending name opened (inner, d)).content
        (text ++ (before ++ (60 ∷ tag)))
    by Opens inner d tag is begins = tag_reached opened c d text before tag name (map pair_of body.attrs) inner reached filler is begins
    by Closes inner d tag is begins =
        grow opened c (element_ended inner d) text (before ++ (60 ∷ tag))
        (λ a t inside. Leaf (level_in opened) inner a c d t before tag name (map pair_of body.attrs) inside filler is begins) reached

pub mark_stepped : (at : ℕ) (opened : List Opened) (c : Content) (text before bytes rest : Text) (mark : Mark) (next : ReadSoFar) →
    Reached opened c text → IsFiller (level_in opened) before
    → TakesMark mark bytes rest → mark_entered at mark (state opened c) ≡ Ok next → Stepped text before bytes rest next
mark_stepped at opened c text before bytes rest Comment next reached filler takes e =
    comment_stepped at opened c text before bytes rest next reached filler takes e
mark_stepped at opened c text before bytes rest (End name) next reached filler takes e =
    end_stepped at opened c text before bytes rest name next reached filler takes e
mark_stepped at opened c text before bytes rest (Start name body) next reached filler takes e =
    start_stepped at opened c text before bytes rest name body next reached filler takes e

abbrev pub marked : Mark × Text → Result (Mark × Text) DocFault
marked x = Ok x

abbrev pub took : Mark × Text → Marks
took x = Ok x

pub same_marked : (x y : Mark × Text) → marked x ≡ marked y → x ≡ y
same_marked x y e = cc

pub mark_is_taken : (done outside : Bool) (end at : ℕ) (bytes : Text) (x : Mark × Text) → mark_read done outside end at bytes ≡ Ok x →
    mark_at end bytes ≡ Ok x
unfolding mark_read
mark_is_taken done outside end at bytes x e = by (outside && starts_with nat_eq bytes (codes "/")) (mark_at end bytes) e
  where
    by : (t : Bool) (r : Marks) → cond t (fault at kinds.BadTag) (mark_or done end at r) ≡ marked x → r ≡ took x
    by true r h = absurd (cc)
    by false (Ok y) h = ap took (same_marked y x h)
    by false (Err stop) h = absurd (cc)

-- ---- the whole

-- what stands at the top, and blanks behind it
pub record Found (bytes : Text) (content : Content) : Type 0 where
  pub text : Text
  pub behind : Text
  pub whole : bytes ≡ text ++ behind
  pub inside : Inside level.Top new_content text content
  pub blank : AreBlank behind
  pub done : content.done ≡ true

abbrev content_read : Content → Result Content DocFault
content_read c = Ok c

same_content : (x y : Content) → content_read x ≡ content_read y → x ≡ y
same_content x y e = cc

abbrev pub next_read : Next → Result Next DocFault
next_read n = Ok n

pub same_next : (x y : Next) → next_read x ≡ next_read y → x ≡ y
same_next x y e = cc

Onward : ℕ → ℕ → Content → Type 0
Onward more end content =
    (opened : List Opened) (c : Content) (text rest : Text) → Reached opened c text →
    read_within more end (state opened c) rest ≡ Ok content → Found (text ++ rest) content

-- no text is left
over : (end more : ℕ) (content : Content) (opened : List Opened) (c : Content) (text rest before : Text) (next : Next) →
    Reached opened c text → rest ≡ before ++ [] → IsFiller (level_in opened) before
    → at_mark end (state opened c) [] ≡ Ok next → with_round (λ s r. read_within more end s r) next ≡ Ok content
    → Found (text ++ rest) content
unfolding at_mark
over end more content [] c text rest before next reached whole filler e h = by c.done refl e
  where
    by : (t : Bool) → c.done ≡ t → cond t (next_read (Over c)) (fault end kinds.Truncated) ≡ next_read next → Found (text ++ rest) content
    by true done k =
        let P : Next → Type 0 = λ n. with_round (λ s r. read_within more end s r) n ≡ Ok content in
        let same = same_content c content (subst P (sym (same_next (Over c) next k)) h) in
        let Q : Content → Type 0 = λ d. Found (text ++ rest) d in
        subst Q same (record {
          text = text;
          behind = before;
          whole = ap (λ r. text ++ r) (whole ∙ append-nil before);
          inside = reached;
          blank = filler;
          done = done;
        })
    by false done k = absurd (cc)
over end more content (o ∷ opened) c text rest before next reached whole filler e h = absurd (cc)

-- markup is in front
onward : (end more : ℕ) (content : Content) (opened : List Opened) (c : Content) (text rest before : Text) (b : ℕ) (bytes : Text)
    (next : Next) → Onward more end content → Reached opened c text
    → rest ≡ before ++ (b ∷ bytes) → b ≡ 60 → IsFiller (level_in opened) before → at_mark end (state opened c) (b ∷ bytes) ≡ Ok next
    → with_round (λ s r. read_within more end s r) next ≡ Ok content
    → Found (text ++ rest) content
unfolding at_mark Onward
onward end more content opened c text rest before b bytes next again reached whole is filler e h =
    let at = offset end (b ∷ bytes) in
    let first =
    bind_ok (mark_read c.done (is_outside opened) end at bytes)
    (λ x. mark_entered at x.0 (state opened c) >>= λ n. next_read (On n x.1)) next e in
    let mark = first.0.0 in
    let behind = first.0.1 in
    let second = bind_ok (mark_entered at mark (state opened c)) (λ n. next_read (On n behind)) next first.2 in
    let entered_it = second.0 in
    let P : Next → Type 0 = λ n. with_round (λ s r. read_within more end s r) n ≡ Ok content in
    let reads = subst P (sym (same_next (On entered_it behind) next second.2)) h in
    let takes = taken_mark end bytes mark behind (mark_is_taken c.done (is_outside opened) end at bytes (mark, behind) first.1) in
    let stepped = mark_stepped at opened c text before bytes behind mark entered_it reached filler takes second.1 in
    let found = again entered_it.opened entered_it.content (text ++ (before ++ (60 ∷ stepped.item))) behind stepped.reached reads in
    let Q : Text → Type 0 = λ t. Found t content in
    let split : (text ++ (before ++ (60 ∷ stepped.item))) ++ behind ≡ text ++ rest =
    append_assoc text (before ++ (60 ∷ stepped.item)) behind
    ∙ ap (λ t. text ++ t) (append_assoc before (60 ∷ stepped.item) behind ∙ ap (λ r. before ++ (60 ∷ r)) (sym stepped.whole)
    ∙ ap (λ x. before ++ (x ∷ bytes)) (sym is) ∙ sym whole) in
    subst Q split found

from_rest : (end more : ℕ) (content : Content) (opened : List Opened) (c : Content) (text rest before behind : Text) (next : Next) →
    Onward more end content → Reached opened c text
    → rest ≡ before ++ behind → BeginsMark behind → IsFiller (level_in opened) before → at_mark end (state opened c) behind ≡ Ok next
    → with_round (λ s r. read_within more end s r) next ≡ Ok content
    → Found (text ++ rest) content
from_rest end more content opened c text rest before [] next again reached whole begins filler e h =
    over end more content opened c text rest before next reached whole filler e h
from_rest end more content opened c text rest before (b ∷ bytes) next again reached whole begins filler e h =
    onward end more content opened c text rest before b bytes next again reached whole begins filler e h

sound : (more end : ℕ) (content : Content) → Onward more end content
unfolding Onward round
sound zero end content opened c text rest reached e = absurd (cc)
sound (suc more) end content opened c text rest reached e =
    let r = state opened c in
    let first =
    bind_ok (text_at end (level_in opened) rest >>= λ behind. at_mark end r behind)
    (λ n. with_round (λ s t. read_within more end s t) n) content e in
    let second = bind_ok (text_at end (level_in opened) rest) (λ behind. at_mark end r behind) first.0 first.1 in
    let taken = text_taken end (level_in opened) rest second.0 second.1 in
    from_rest end more content opened c text rest taken.text second.0 first.0
    (λ o d t s h k. sound more end content o d t s h k) reached taken.whole taken.begins taken.filler second.2 first.2

pub read_is_found : (more end : ℕ) (content : Content) (bytes : Text) → read_within more end (state [] new_content) bytes ≡ Ok content →
    Found bytes content
unfolding Onward
read_is_found more end content bytes e = sound more end content [] new_content [] bytes (Bare level.Top new_content) e
