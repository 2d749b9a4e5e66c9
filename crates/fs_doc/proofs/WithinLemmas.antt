-- What is read of a document, round by round, keeps the ranges and limits.
use Rattle.std.proofs.Common.{◌≡◌, ◌==◌, ℕ, zero, suc, ◌+◌, Bool, true, false, cond, ◌&&◌, nat_lt, List, [], ◌∷◌, length, Result, Ok, Err}
use Rattle.std.proofs.Common.{IfOk, subst, arith}
use Rattle.std.specs.Str.{bytes_eq}
use Rattle.fs_text.specs.Texts.{Text}
use Rattle.fs_xml.specs.Bytes.{is_blank, past, offset}
use Rattle.fs_xml.specs.Tags.{BodyText}
use Rattle.fs_xml.specs.Markup.{Mark, Comment, End, Start}
use Rattle.fs_xml.specs.Results.{◌>>=◌}
use Rattle.fs_xml.specs.declared.attribute.Ending.{Ending}
use Rattle.fs_xml.specs.declared.attribute.Ending.TheVariants.{Opens, Closes}
use Rattle.fs_doc.specs.declared.fault.DocKind.TheVariants as faults
use Rattle.fs_doc.specs.declared.element.Level.{Level}
use Rattle.fs_doc.specs.declared.content.Content.{Content}
use Rattle.fs_doc.specs.Faults.{fault, or_at}
use Rattle.fs_doc.specs.Elements.{kind_in}
use Rattle.fs_doc.specs.Attributes.{pairs_read}
use Rattle.fs_doc.specs.Contents.{new_content, BeginResult, element_begun, element_ended}
use Rattle.fs_doc.specs.Reading.{Opened, ReadSoFar, level_in, is_outside, is_empty_level, text_at, mark_read, with_element, element_read}
use Rattle.fs_doc.specs.Reading.{start_entered, end_entered_from, end_entered, mark_entered, Next, Over, On, at_mark, round, Contents}
use Rattle.fs_doc.specs.Reading.{with_round, read_within, at_first, document_of, past_declaration, content_of, Configuration, configured}
use Rattle.fs_doc.specs.Reading.{config_of}
use Rattle.fs_doc.specs.Limits.{IsWithin}
use Rattle.fs_doc.proofs.Counts.{IsCounted, Keeps, nothing_counted, begun_counted, ended_counted}

-- ---- one reading after another

then : {X Y E : Type 0} (Q : X → Type 0) (P : Y → Type 0) (read : Result X E) (next : X → Result Y E) → IfOk read Q →
    ((x : X) → Q x → IfOk (next x) P) → IfOk (read >>= next) P
then Q P (Ok x) next first fine = fine x first
then Q P (Err e) next first fine = tt

-- whatever is read first
after : {X Y E : Type 0} (P : Y → Type 0) (read : Result X E) (next : X → Result Y E) → ((x : X) → IfOk (next x) P) → IfOk (read >>= next) P
after P (Ok x) next fine = fine x
after P (Err e) next fine = tt

-- ---- an element

abbrev KeepsInside : Level × Content → Type 0
KeepsInside x = IsCounted x.1

abbrev KeepsRead : ReadSoFar → Type 0
KeepsRead r = IsCounted r.content

told_keeps : (at : ℕ) (begins : BeginResult) → Keeps begins → IfOk (or_at at begins) KeepsInside
told_keeps at (Ok x) h = h
told_keeps at (Err kind) h = tt

element_keeps : (at : ℕ) (name : Text) (body : BodyText) (level : Level) (c : Content) → IsCounted c →
    IfOk (element_read at name body level c) KeepsInside
unfolding element_read
element_keeps at name body level c h =
    after KeepsInside (or_at at (kind_in level c.done name)) _
    (λ kind. after KeepsInside (pairs_read (record { kind = kind; tag = at; globals = c.globals.pairs; attrs = body.attrs }) body.malformed)
    _ (λ pairs. told_keeps at (element_begun kind pairs c) (begun_counted kind pairs c h)))

ending_keeps : (ending : Ending) (name : Text) (opened : List Opened) (x : Level × Content) → IsCounted x.1 →
    KeepsRead (with_element ending name opened x)
ending_keeps Opens name opened x h = h
ending_keeps Closes name opened x h = ended_counted x.0 x.1 h

entered_keeps : (at : ℕ) (name : Text) (body : BodyText) (r : ReadSoFar) → IsCounted r.content →
    IfOk (start_entered at name body r) KeepsRead
unfolding start_entered
entered_keeps at name body r h =
    then KeepsInside KeepsRead (element_read at name body (level_in r.opened) r.content) _
    (element_keeps at name body (level_in r.opened) r.content h)
    (λ x inside. ending_keeps body.ending name r.opened x inside)

left_keeps : (at : ℕ) (name : Text) (opened : List Opened) (c : Content) → IsCounted c → IfOk (end_entered_from at name opened c) KeepsRead
left_keeps at name [] c h = tt
left_keeps at name (o ∷ opened) c h = by (bytes_eq o.name name)
  where
    by : (t : Bool) → IfOk (cond t (Ok (record { opened = opened; content = element_ended o.level c })) (fault at faults.BadTag)) KeepsRead
    by true = ended_counted o.level c h
    by false = tt

mark_keeps : (at : ℕ) (mark : Mark) (r : ReadSoFar) → IsCounted r.content → IfOk (mark_entered at mark r) KeepsRead
unfolding mark_entered end_entered
mark_keeps at Comment r h = by (is_empty_level (level_in r.opened))
  where
    by : (t : Bool) → IfOk (cond t (fault at faults.BadTag) (Ok r)) KeepsRead
    by true = tt
    by false = h
mark_keeps at (End name) r h = left_keeps at name r.opened r.content h
mark_keeps at (Start name body) r h = entered_keeps at name body r h

-- ---- rounds

abbrev KeepsNext : Next → Type 0
KeepsNext (Over c) = IsCounted c
KeepsNext (On r rest) = IsCounted r.content

at_mark_keeps : (end : ℕ) (r : ReadSoFar) (bytes : Text) → IsCounted r.content → IfOk (at_mark end r bytes) KeepsNext
unfolding at_mark
at_mark_keeps end r [] h = by (is_outside r.opened && r.content.done)
  where
    by : (t : Bool) → IfOk (cond t (Ok (Over r.content)) (fault end faults.Truncated)) KeepsNext
    by true = h
    by false = tt
at_mark_keeps end r (b ∷ rest) h =
    after KeepsNext (mark_read r.content.done (is_outside r.opened) end (offset end (b ∷ rest)) rest) _
    (λ x. then KeepsRead KeepsNext (mark_entered (offset end (b ∷ rest)) x.0 r) _ (mark_keeps (offset end (b ∷ rest)) x.0 r h)
    (λ next kept. kept))

round_keeps : (end : ℕ) (r : ReadSoFar) (bytes : Text) → IsCounted r.content → IfOk (round end r bytes) KeepsNext
unfolding round
round_keeps end r bytes h = after KeepsNext (text_at end (level_in r.opened) bytes) _ (λ rest. at_mark_keeps end r rest h)

goes_on : (more : ReadSoFar → Text → Contents) (next : Next) → KeepsNext next →
    ((r : ReadSoFar) (rest : Text) → IsCounted r.content → IfOk (more r rest) IsCounted) → IfOk (with_round more next) IsCounted
goes_on more (Over c) h rounds = h
goes_on more (On r rest) h rounds = rounds r rest h

rounds_keep : (more end : ℕ) (r : ReadSoFar) (bytes : Text) → IsCounted r.content → IfOk (read_within more end r bytes) IsCounted
rounds_keep zero end r bytes h = tt
rounds_keep (suc more) end r bytes h =
    then KeepsNext IsCounted (round end r bytes) _ (round_keeps end r bytes h)
    (λ next kept. goes_on (λ r rest. read_within more end r rest) next kept (λ r rest counted. rounds_keep more end r rest counted))

-- ---- the whole document

content_keeps : (bytes : Text) → IfOk (content_of bytes) IsCounted
unfolding content_of document_of
content_keeps bytes =
    after IsCounted (past_declaration bytes) _ (λ rest. rounds_keep (length rest + 1) (length bytes) at_first rest nothing_counted)

counted_within : (c : Content) → IsCounted c → IsWithin (configured c)
counted_within c h = record {
  settings = h.settings;
  globals = h.bounds;
  contexts = h.contexts;
  extensions = omega (arith, h.extensions, h.extensions_most);
  patterns = omega (arith, h.patterns, h.patterns_most);
  actions = omega (arith, h.actions, h.actions_most);
}

pub nothing_within : IsWithin (configured new_content)
nothing_within = counted_within new_content nothing_counted

pub content_within : (bytes : Text) (c : Content) → content_of bytes ≡ Ok c → IsWithin (configured c)
content_within bytes c is = counted_within c (subst (λ read. IfOk read IsCounted) is (content_keeps bytes))

pub config_within : (bytes : Text) (c : Configuration) → config_of bytes ≡ Ok c → IsWithin c
unfolding config_of
config_within bytes c is = subst (λ read. IfOk read IsWithin) is (by (nat_lt 1048576 (length bytes)) (length (past is_blank bytes) == 0))
  where
    configured_keeps : (c : Content) → IsCounted c → IsWithin (configured c)
    configured_keeps c h = counted_within c h

    read_keeps : (t : Bool) → IfOk (cond t (Ok new_content) (content_of bytes)) IsCounted
    read_keeps true = nothing_counted
    read_keeps false = content_keeps bytes

    by : (t u : Bool) → IfOk (cond t (fault 1048576 faults.TooLarge)
        (cond u (Ok new_content) (content_of bytes) >>= λ c. Ok (configured c))) IsWithin
    by true u = tt
    by false u = then IsCounted IsWithin (cond u (Ok new_content) (content_of bytes)) _ (read_keeps u) configured_keeps
