-- What stands next and is wrong is read as its fault, and what is read so is wrong.
use Rattle.std.proofs.Common.{◌≡◌, ◌≢◌, ◌⊎◌, inl, inr, ℕ, Bool, true, false, cond, ◌==◌, nat_eq, List, [], ◌∷◌, ◌++◌, map, Option, None, Some}
use Rattle.std.proofs.Common.{Result, Ok, Err, codes, refl, sym, ap, ◌∙◌, subst, append-nil}
use Rattle.std.specs.List.{starts_with, take_while}
use Rattle.std.specs.Str.{bytes_eq}
use Rattle.std.proofs.lemmas.Slice.Eq.{bytes_eq-Decides}
use Rattle.fs_text.specs.Texts.{Text}
use Rattle.fs_xml.specs.Results.{◌>>=◌}
use Rattle.fs_xml.specs.Bytes.{is_blank, past, offset}
use Rattle.fs_xml.specs.Tags.{BodyText}
use Rattle.fs_xml.specs.Markup.{Mark, Comment, End, Start, Marks, mark_at}
use Rattle.fs_xml.specs.declared.stop.TagStop.TheVariants.{Cut as WasCut, Bad as WasBad}
use Rattle.fs_xml.proofs.ByteLemmas.{run_past}
use Rattle.fs_doc.specs.declared.fault.DocKind.TheVariants as kinds
use Rattle.fs_doc.specs.declared.fault.DocFault.{DocFault}
use Rattle.fs_doc.specs.declared.element.Level.{Level}
use Rattle.fs_doc.specs.declared.element.Level.TheVariants as level
use Rattle.fs_doc.specs.declared.content.Content.{Content}
use Rattle.fs_doc.specs.Faults.{fault, fault_at}
use Rattle.fs_doc.specs.Contents.{element_ended}
use Rattle.fs_doc.specs.Reading.{Opened, ReadSoFar, level_in, is_outside, text_kind, blank_text, text_at, stop_fault, mark_or, mark_read}
use Rattle.fs_doc.specs.Reading.{element_read, with_element, start_entered, end_entered, is_empty_level, mark_entered, Next, Over, On, at_mark}
use Rattle.fs_doc.specs.Reading.{round}
use Rattle.fs_spelling.specs.Tags.{AreBlank, Stops}
use Rattle.fs_spelling.specs.Readings.{pair_of}
use Rattle.fs_spelling.specs.Marks.{IsMark, AComment, AnEnd, ATag, HasMark, IsCut, IsBad, IsStart}
use Rattle.fs_spelling.specs.Documents.{IsFiller}
use Rattle.fs_spelling.specs.Faults.{WrongElement, WrongMark, Cut, CutBehind, NoMark, RemarkWithin, OtherEnd, OfElement}
use Rattle.fs_spelling.specs.Faults.{WrongNext, Stray, Ends, OfMark}
use Rattle.fs_spelling.proofs.Binds.{bind_err, stopped}
use Rattle.fs_spelling.proofs.Runs.{past_run, run_passes, rest_stops, name_byte, first_byte, no_mark}
use Rattle.fs_spelling.proofs.MarkLaws.{taken_mark}
use Rattle.fs_spelling.proofs.CutLaws.{start_is_read, front_is_read, MarkRest, mark_rest}
use Rattle.fs_spelling.proofs.StartLaws.{all_attributes}
use Rattle.fs_spelling.proofs.TextLaws.{BeginsMark, text_read, text_taken}
use Rattle.fs_spelling.proofs.WrongElements.{element_wrong, element_stops}
use Rattle.fs_spelling.proofs.Again.{state, no_slash, mark_is_read, comment_is_read, end_is_read, filler_here}
use Rattle.fs_spelling.proofs.Sound.{mark_is_taken}

-- the name of the innermost open element, or none
abbrev pub around_in : List Opened → Option Text
around_in [] = None
around_in (o ∷ opened) = Some o.name

-- ---- cut short or bad

-- an end tag stands in front only where an element is open
abbrev pub May : Option Text → Text → Type 0
May around text = around ≡ None → starts_with nat_eq text (codes "/") ≡ false

-- no markup begins with `/` where none is open
never_slash : (text : Text) → starts_with nat_eq text (codes "/") ≡ true → HasMark None text → ⊥
never_slash text slash has = by has.mark has.is has.whole
  where
    P : Text → Type 0
    P t = starts_with nat_eq t (codes "/") ≡ false

    never : starts_with nat_eq text (codes "/") ≡ false → ⊥
    never other = let both : true ≡ false = sym slash ∙ other in cc

    by : (mark : Text) → IsMark None mark → text ≡ mark ++ has.rest → ⊥
    by mark (AComment _ is) whole =
        never (subst P (sym (whole ∙ ap (λ m. m ++ has.rest) is.whole)) refl)
    by mark (AnEnd name _ some is) whole = some refl
    by mark (ATag name attributes tail pairs malformed ending is apart are ends) whole =
        let split : text ≡ is.first ∷ ((is.others ++ (attributes ++ tail)) ++ has.rest) =
        whole ∙ ap (λ n. (n ++ (attributes ++ tail)) ++ has.rest) is.whole in
        never (subst P (sym split) (no_slash is.first ((is.others ++ (attributes ++ tail)) ++ has.rest)
        (no_mark is.first (name_byte is.first (first_byte is.first is.begins)).no_mark).no_slash))

slash_on : (text more : Text) → starts_with nat_eq text (codes "/") ≡ true → starts_with nat_eq (text ++ more) (codes "/") ≡ true
slash_on [] more slash = absurd (cc)
slash_on (b ∷ text) more slash = slash

slash_bad : (text : Text) → starts_with nat_eq text (codes "/") ≡ true → IsBad None text
slash_bad text slash more has = never_slash (text ++ more) (slash_on text more slash) has

-- markup that is read stands in front
front_found : (end : ℕ) (around : Option Text) (text : Text) → May around text → (mark : Mark) (rest : Text) →
    mark_at end text ≡ Ok (mark, rest) → MarkRest end around text (Ok (mark, rest)) → HasMark around text
front_found end around text may Comment rest read found =
    let taken = taken_mark end text Comment rest read in
    record { mark = taken.bytes; rest = rest; whole = taken.whole; is = AComment taken.bytes taken.is }
front_found end None text may (End name) rest read found =
    let taken = taken_mark end text (End name) rest read in
    let P : Text → Type 0 = λ t. starts_with nat_eq t (codes "/") ≡ false in
    let is = taken.is in
    let both : true ≡ false = subst P (taken.whole ∙ ap (λ m. m ++ rest) is.whole) (may refl) in absurd (cc)
front_found end (Some outer) text may (End name) rest read found =
    let taken = taken_mark end text (End name) rest read in
    record { mark = taken.bytes; rest = rest; whole = taken.whole; is = AnEnd name taken.bytes (λ none. absurd (cc)) taken.is }
front_found end around text may (Start name body) rest read found =
    let P : Text → Type 0 = λ t. IsMark around t in
    let is = found.is in
    record {
      mark = found.bytes;
      rest = rest;
      whole = found.whole;
      is = subst P (sym is.whole) (ATag name is.attributes is.tail (map pair_of body.attrs) is.malformed body.ending is.is_name
          is.apart (all_attributes end is.attributes (is.tail ++ rest) body.attrs is.are) is.ends);
    }

cut_is : (end : ℕ) (around : Option Text) (text : Text) → mark_at end text ≡ Err WasCut → MarkRest end around text (Err WasCut) →
    IsCut around text
cut_is end around text read goes = record {
  none = λ has.
      let found = front_is_read end around text has in
      let both : Err WasCut ≡ Ok found.0 = sym read ∙ found.1 in cc;
  more = goes.0;
  goes_on = goes.1;
}

bad_is : (end : ℕ) (around : Option Text) (text : Text) → MarkRest end around text (Err WasBad) → IsBad around text
bad_is end around text stays more has =
    let found = front_is_read 0 around (text ++ more) has in
    let both : Err WasBad ≡ Ok found.0 = sym (stays 0 more) ∙ found.1 in cc

pub cut_found : (end : ℕ) (name text : Text) → mark_at end text ≡ Err WasCut → IsCut (Some name) text
cut_found end name text read =
    let P : Marks → Type 0 = λ r. MarkRest end (Some name) text r in
    cut_is end (Some name) text read (subst P read (mark_rest end (Some name) text (λ none. absurd (cc))))

pub bad_found : (end : ℕ) (name text : Text) → mark_at end text ≡ Err WasBad → IsBad (Some name) text
bad_found end name text read =
    let P : Marks → Type 0 = λ r. MarkRest end (Some name) text r in
    bad_is end (Some name) text (subst P read (mark_rest end (Some name) text (λ none. absurd (cc))))

pub cut_stops : (end : ℕ) (around : Option Text) (text : Text) → May around text → IsCut around text → mark_at end text ≡ Err WasCut
cut_stops end around text may is = by (mark_at end text) refl (mark_rest end around text may)
  where
    by : (r : Marks) → mark_at end text ≡ r → MarkRest end around text r → r ≡ Err WasCut
    by (Ok (mark, rest)) read found = absurd (is.none (front_found end around text may mark rest read found))
    by (Err WasCut) read found = refl
    by (Err WasBad) read found = absurd (bad_is end around text found is.more is.goes_on)

pub bad_stops : (end : ℕ) (around : Option Text) (text : Text) → May around text → IsBad around text → mark_at end text ≡ Err WasBad
bad_stops end around text may is = by (mark_at end text) refl (mark_rest end around text may)
  where
    P : Text → Type 0
    P t = HasMark around t

    by : (r : Marks) → mark_at end text ≡ r → MarkRest end around text r → r ≡ Err WasBad
    by (Ok (mark, rest)) read found =
        absurd (is [] (subst P (sym (append-nil text)) (front_found end around text may mark rest read found)))
    by (Err WasCut) read found = absurd (is found.0 found.1)
    by (Err WasBad) read found = refl

-- ---- the markup that stands next

-- where an end tag may stand, markup is read as it is
read_at : (opened : List Opened) (done : Bool) (end at : ℕ) (text : Text) → May (around_in opened) text →
    mark_read done (is_outside opened) end at text ≡ mark_or done end at (mark_at end text)
unfolding mark_read
read_at [] done end at text may = ap (λ t. cond t (fault at kinds.BadTag) (mark_or done end at (mark_at end text))) (may refl)
read_at (o ∷ opened) done end at text may = refl

-- and elsewhere a `/` is bad
slash_read : (done : Bool) (end at : ℕ) (text : Text) → starts_with nat_eq text (codes "/") ≡ true →
    mark_read done true end at text ≡ fault at kinds.BadTag
unfolding mark_read
slash_read done end at text slash = ap (λ t. cond t (fault at kinds.BadTag) (mark_or done end at (mark_at end text))) slash

abbrev AreNone : List Opened → Type 0
AreNone opened = opened ≡ []

-- one of both
either_way : (opened : List Opened) (text : Text) →
    May (around_in opened) text ⊎ (AreNone opened × (starts_with nat_eq text (codes "/") ≡ true))
either_way [] text = by (starts_with nat_eq text (codes "/")) refl
  where
    by : (t : Bool) → starts_with nat_eq text (codes "/") ≡ t →
        May None text ⊎ (AreNone [] × (starts_with nat_eq text (codes "/") ≡ true))
    by true is = inr (refl, is)
    by false is = inl (λ none. is)
either_way (o ∷ opened) text = inl (λ none. absurd (cc))

stop_wrong : (end at : ℕ) (outer : Level) (around : Option Text) (c : Content) (text : Text) (f : DocFault) (r : Marks) →
    mark_at end text ≡ r → MarkRest end around text r → mark_or c.done end at r ≡ stopped f → WrongMark end at outer around c text f
stop_wrong end at outer around c text f (Ok x) read found e = absurd (cc)
stop_wrong end at outer around c text f (Err WasCut) read found e = by c.done refl e
  where
    P : DocFault → Type 0
    P g = WrongMark end at outer around c text g

    by : (t : Bool) → c.done ≡ t → stopped {X = Mark × Text} (stop_fault t end at WasCut) ≡ stopped f → P f
    by true done h =
        let same : fault_at at kinds.BadTag ≡ f = cc in
        subst P same (CutBehind text (cut_is end around text read found) done)
    by false done h =
        let same : fault_at end kinds.Truncated ≡ f = cc in
        subst P same (Cut text (cut_is end around text read found) done)
stop_wrong end at outer around c text f (Err WasBad) read found e =
    let P : DocFault → Type 0 = λ g. WrongMark end at outer around c text g in
    let same : fault_at at kinds.BadTag ≡ f = cc in
    subst P same (NoMark text (bad_is end around text found))

mark_stop_wrong : (end at : ℕ) (opened : List Opened) (c : Content) (text : Text) (f : DocFault) →
    mark_read c.done (is_outside opened) end at text ≡ Err f → WrongMark end at (level_in opened) (around_in opened) c text f
mark_stop_wrong end at opened c text f e = by (either_way opened text)
  where
    P : List Opened → Type 0
    P o = mark_read c.done (is_outside o) end at text ≡ stopped f

    by : May (around_in opened) text ⊎ (AreNone opened × (starts_with nat_eq text (codes "/") ≡ true)) →
        WrongMark end at (level_in opened) (around_in opened) c text f
    by (inl may) =
        stop_wrong end at (level_in opened) (around_in opened) c text f (mark_at end text) refl (mark_rest end (around_in opened) text may)
        (sym (read_at opened c.done end at text may) ∙ e)
    by (inr (none, slash)) =
        let Q : List Opened → Type 0 = λ o. WrongMark end at (level_in o) (around_in o) c text f in
        let here : fault at kinds.BadTag ≡ stopped {X = Mark × Text} f = sym (slash_read c.done end at text slash) ∙ subst P none e in
        let same : fault_at at kinds.BadTag ≡ f = cc in
        let R : DocFault → Type 0 = λ g. WrongMark end at level.Top None c text g in
        subst Q (sym none) (subst R same (NoMark text (slash_bad text slash)))

-- markup that is read and may not be entered
entry_wrong : (end at : ℕ) (opened : List Opened) (c : Content) (text rest : Text) (mark : Mark) (f : DocFault) →
    mark_at end text ≡ Ok (mark, rest)
    → May (around_in opened) text → MarkRest end (around_in opened) text (Ok (mark, rest))
    → mark_entered at mark (state opened c) ≡ Err f → WrongMark end at (level_in opened) (around_in opened) c text f
unfolding mark_entered start_entered end_entered
entry_wrong end at opened c text rest Comment f read may found e = by (is_empty_level (level_in opened)) refl e
  where
    by : (t : Bool) → is_empty_level (level_in opened) ≡ t → cond t (fault at kinds.BadTag) (Ok (state opened c)) ≡ stopped f →
        WrongMark end at (level_in opened) (around_in opened) c text f
    by true empty h =
        let taken = taken_mark end text Comment rest read in
        let same : fault_at at kinds.BadTag ≡ f = cc in
        let P : Text → DocFault → Type 0 = λ t g. WrongMark end at (level_in opened) (around_in opened) c t g in
        subst (λ t. P t f) (sym taken.whole)
        (subst (P (taken.bytes ++ rest)) same (RemarkWithin taken.bytes rest empty taken.is))
    by false empty h = absurd (cc)
entry_wrong end at [] c text rest (End name) f read may found e =
    absurd (
    let taken = taken_mark end text (End name) rest read in
    let P : Text → Type 0 = λ t. starts_with nat_eq t (codes "/") ≡ false in
    let is = taken.is in
    let both : true ≡ false = subst P (taken.whole ∙ ap (λ m. m ++ rest) is.whole) (may refl) in cc
    )
entry_wrong end at (o ∷ opened) c text rest (End name) f read may found e =
    by (bytes_eq o.name name) (bytes_eq-Decides o.name name).1 e
  where
    by : (t : Bool) → (o.name ≡ name → t ≡ true)
        → cond t (Ok (state opened (element_ended o.level c))) (fault at kinds.BadTag) ≡ stopped f
        → WrongMark end at o.level (Some o.name) c text f
    by true same h = absurd (cc)
    by false same h =
        let taken = taken_mark end text (End name) rest read in
        let is : fault_at at kinds.BadTag ≡ f = cc in
        let other : o.name ≢ name = λ equal. let both : false ≡ true = same equal in cc in
        let P : Text → DocFault → Type 0 = λ t g. WrongMark end at o.level (Some o.name) c t g in
        subst (λ t. P t f) (sym taken.whole)
        (subst (P (taken.bytes ++ rest)) is (OtherEnd o.name name taken.bytes rest refl taken.is other))
entry_wrong end at opened c text rest (Start name body) f read may found e =
    by (bind_err (element_read at name body (level_in opened) c) (λ x. Ok (with_element body.ending name opened x)) f e)
  where
    by : (element_read at name body (level_in opened) c ≡ Err f) ⊎ ((x : Level × Content)
        × (element_read at name body (level_in opened) c ≡ Ok x) × (Ok (with_element body.ending name opened x) ≡ stopped f))
        → WrongMark end at (level_in opened) (around_in opened) c text f
    by (inl stops) =
        let P : Text → Type 0 = λ t. WrongMark end at (level_in opened) (around_in opened) c t f in
        subst P (sym found.whole) (OfElement found.bytes rest name body f found.is
        (element_wrong at (level_in opened) c name body f stops))
    by (inr (x, went, h)) = absurd (cc)

mark_wrong : (end at : ℕ) (opened : List Opened) (c : Content) (text : Text) (f : DocFault) →
    (mark_read c.done (is_outside opened) end at text >>= λ x.
    (mark_entered at x.0 (state opened c) >>= λ next. Ok (On next x.1))) ≡ Err f
    → WrongMark end at (level_in opened) (around_in opened) c text f
mark_wrong end at opened c text f e =
    by (bind_err (mark_read c.done (is_outside opened) end at text)
    (λ x. mark_entered at x.0 (state opened c) >>= λ next. Ok (On next x.1)) f e)
  where
    going : (x : Mark × Text) → mark_read c.done (is_outside opened) end at text ≡ Ok x → May (around_in opened) text ⊎
        (AreNone opened × (starts_with nat_eq text (codes "/") ≡ true)) → May (around_in opened) text
    going x read (inl may) = may
    going x read (inr (none, slash)) =
        let P : List Opened → Type 0 = λ o. mark_read c.done (is_outside o) end at text ≡ Ok x in
        let both : fault at kinds.BadTag ≡ Ok x = sym (slash_read c.done end at text slash) ∙ subst P none read in absurd (cc)

    entered : (x : Mark × Text) → mark_read c.done (is_outside opened) end at text ≡ Ok x
        → (mark_entered at x.0 (state opened c) ≡ Err f) ⊎ ((next : ReadSoFar) × (mark_entered at x.0 (state opened c) ≡ Ok next)
        × (Ok (On next x.1) ≡ stopped f)) → WrongMark end at (level_in opened) (around_in opened) c text f
    entered x read (inl stops) =
        let is = mark_is_taken c.done (is_outside opened) end at text x read in
        let may = going x read (either_way opened text) in
        let P : Marks → Type 0 = λ r. MarkRest end (around_in opened) text r in
        entry_wrong end at opened c text x.1 x.0 f is may (subst P is (mark_rest end (around_in opened) text may)) stops
    entered x read (inr (next, went, h)) = absurd (cc)

    by : (mark_read c.done (is_outside opened) end at text ≡ Err f)
        ⊎ ((x : Mark × Text) × (mark_read c.done (is_outside opened) end at text ≡ Ok x)
        × ((mark_entered at x.0 (state opened c) >>= λ next. Ok (On next x.1)) ≡ Err f))
        → WrongMark end at (level_in opened) (around_in opened) c text f
    by (inl stops) = mark_stop_wrong end at opened c text f stops
    by (inr (x, read, h)) =
        entered x read (bind_err (mark_entered at x.0 (state opened c)) (λ next. Ok (On next x.1)) f h)

-- all of what stands next
foreign_or : (outer : Level) → (outer ≡ level.Foreign) ⊎ (outer ≢ level.Foreign)
foreign_or level.Foreign = inl refl
foreign_or outer = inr (λ e. cc)

strict_text : (end : ℕ) (outer : Level) (bytes : Text) → outer ≢ level.Foreign →
    text_at end outer bytes ≡ blank_text end outer (past is_blank bytes)
unfolding text_at
strict_text end level.Foreign bytes other = absurd (other refl)
strict_text end outer bytes other = refl

any_text_read : (end : ℕ) (bytes : Text) (f : DocFault) → text_at end level.Foreign bytes ≡ Err f → ⊥
unfolding text_at
any_text_read end bytes f e = cc

stray_wrong : (end : ℕ) (outer : Level) (around : Option Text) (c : Content) (bytes behind : Text) (f : DocFault) →
    past is_blank bytes ≡ behind → outer ≢ level.Foreign → Stops is_blank behind
    → blank_text end outer behind ≡ Err f → WrongNext end outer around c bytes f
stray_wrong end outer around c bytes [] f is other stops e = absurd (cc)
stray_wrong end outer around c bytes (b ∷ rest) f is other stops e = by (b == 60) refl e
  where
    by : (t : Bool) → (b == 60) ≡ t → cond t (Ok (b ∷ rest)) (fault (offset end (b ∷ rest)) (text_kind outer)) ≡ stopped f →
        WrongNext end outer around c bytes f
    by true mark h = absurd (cc)
    by false mark h =
        let same : fault_at (offset end (b ∷ rest)) (text_kind outer) ≡ f = cc in
        let P : Text → Type 0 = λ t. WrongNext end outer around c t f in
        let Q : DocFault → Type 0 = λ g. WrongNext end outer around c (take_while is_blank bytes ++ (b ∷ rest)) g in
        subst P (ap (λ t. take_while is_blank bytes ++ t) (sym is) ∙ run_past is_blank bytes)
        (subst Q same (Stray (take_while is_blank bytes) rest b other (run_passes is_blank bytes) stops mark))

text_wrong : (end : ℕ) (outer : Level) (around : Option Text) (c : Content) (bytes : Text) (f : DocFault) →
    text_at end outer bytes ≡ Err f → WrongNext end outer around c bytes f
text_wrong end outer around c bytes f e = by (foreign_or outer)
  where
    by : (outer ≡ level.Foreign) ⊎ (outer ≢ level.Foreign) → WrongNext end outer around c bytes f
    by (inl is) =
        let P : Level → Type 0 = λ l. text_at end l bytes ≡ Err f in absurd (any_text_read end bytes f (subst P is e))
    by (inr other) =
        stray_wrong end outer around c bytes (past is_blank bytes) f refl other (rest_stops is_blank bytes)
        (sym (strict_text end outer bytes other) ∙ e)

-- no bytes are left
end_wrong : (end : ℕ) (opened : List Opened) (c : Content) (text : Text) (f : DocFault) → IsFiller (level_in opened) text →
    at_mark end (state opened c) [] ≡ Err f → WrongNext end (level_in opened) (around_in opened) c text f
unfolding at_mark
end_wrong end [] c text f filler e = by c.done refl e
  where
    by : (t : Bool) → c.done ≡ t → cond t (Ok (Over c)) (fault end kinds.Truncated) ≡ stopped f → WrongNext end level.Top None c text f
    by true done h = absurd (cc)
    by false done h =
        let same : fault_at end kinds.Truncated ≡ f = cc in
        let P : DocFault → Type 0 = λ g. WrongNext end level.Top None c text g in
        subst P same (Ends text filler (λ none. done))
end_wrong end (o ∷ opened) c text f filler e =
    let same : fault_at end kinds.Truncated ≡ f = cc in
    let P : DocFault → Type 0 = λ g. WrongNext end o.level (Some o.name) c text g in
    subst P same (Ends text filler (λ none. absurd (cc)))

pub next_wrong : (end : ℕ) (opened : List Opened) (c : Content) (bytes : Text) (f : DocFault) → round end (state opened c) bytes ≡ Err f →
    WrongNext end (level_in opened) (around_in opened) c bytes f
unfolding round at_mark
next_wrong end opened c bytes f e =
    by (bind_err (text_at end (level_in opened) bytes) (λ rest. at_mark end (state opened c) rest) f e)
  where
    P : Text → Type 0
    P t = WrongNext end (level_in opened) (around_in opened) c t f

    behind : (text rest : Text) → bytes ≡ text ++ rest → IsFiller (level_in opened) text → BeginsMark rest
        → at_mark end (state opened c) rest ≡ Err f → P bytes
    behind text [] whole filler begins h =
        subst P (sym (whole ∙ append-nil text)) (end_wrong end opened c text f filler h)
    behind text (b ∷ more) whole filler begins h =
        let Q : ℕ → Type 0 = λ n. at_mark end (state opened c) (n ∷ more) ≡ Err f in
        subst P (sym (whole ∙ ap (λ n. text ++ (n ∷ more)) begins))
        (OfMark text more f filler
        (mark_wrong end (offset end (60 ∷ more)) opened c more f (subst Q begins h)))

    by : (text_at end (level_in opened) bytes ≡ Err f)
        ⊎ ((rest : Text) × (text_at end (level_in opened) bytes ≡ Ok rest) × (at_mark end (state opened c) rest ≡ Err f)) → P bytes
    by (inl stops) = text_wrong end (level_in opened) (around_in opened) c bytes f stops
    by (inr (rest, read, h)) =
        let taken = text_taken end (level_in opened) bytes rest read in
        behind taken.text rest taken.whole taken.filler taken.begins h

-- ---- what is wrong is read

abbrev Entered : List Opened → Content → ℕ → Result (Mark × Text) DocFault → Result Next DocFault
Entered opened c at read = read >>= λ x. (mark_entered at x.0 (state opened c) >>= λ next. Ok (On next x.1))

-- where an element is open around it, its name is the innermost
around_outside : (opened : List Opened) (name : Text) → around_in opened ≡ Some name →
    (o : Opened) × (others : List Opened) × (opened ≡ o ∷ others) × (o.name ≡ name)
around_outside [] name e = absurd (cc)
around_outside (o ∷ opened) name e = (o, opened, refl, cc)

start_other : (end : ℕ) (mark rest name : Text) (body : BodyText) → IsStart end mark rest name body →
    starts_with nat_eq (mark ++ rest) (codes "/") ≡ false
start_other end mark rest name body is =
    let n = is.is_name in
    let P : Text → Type 0 = λ t. starts_with nat_eq t (codes "/") ≡ false in
    let split : mark ++ rest ≡ n.first ∷ ((n.others ++ (is.attributes ++ is.tail)) ++ rest) =
    ap (λ m. m ++ rest) is.whole ∙ ap (λ m. (m ++ (is.attributes ++ is.tail)) ++ rest) n.whole in
    subst P (sym split) (no_slash n.first ((n.others ++ (is.attributes ++ is.tail)) ++ rest)
    (no_mark n.first (name_byte n.first (first_byte n.first n.begins)).no_mark).no_slash)

cut_entered : (end at : ℕ) (opened : List Opened) (c : Content) (text : Text) → IsCut (around_in opened) text →
    mark_read c.done (is_outside opened) end at text ≡ Err (stop_fault c.done end at WasCut)
cut_entered end at opened c text is = by (either_way opened text)
  where
    by : May (around_in opened) text ⊎ (AreNone opened × (starts_with nat_eq text (codes "/") ≡ true)) →
        mark_read c.done (is_outside opened) end at text ≡ Err (stop_fault c.done end at WasCut)
    by (inl may) =
        read_at opened c.done end at text may ∙ ap (mark_or c.done end at) (cut_stops end (around_in opened) text may is)
    by (inr (none, slash)) =
        let P : List Opened → Type 0 = λ o. IsCut (around_in o) text in
        let own = subst P none is in absurd (slash_bad text slash own.more own.goes_on)

bad_entered : (end at : ℕ) (opened : List Opened) (c : Content) (text : Text) → IsBad (around_in opened) text →
    mark_read c.done (is_outside opened) end at text ≡ fault at kinds.BadTag
bad_entered end at opened c text is = by (either_way opened text)
  where
    by : May (around_in opened) text ⊎ (AreNone opened × (starts_with nat_eq text (codes "/") ≡ true)) →
        mark_read c.done (is_outside opened) end at text ≡ fault at kinds.BadTag
    by (inl may) =
        read_at opened c.done end at text may ∙ ap (mark_or c.done end at) (bad_stops end (around_in opened) text may is)
    by (inr (none, slash)) =
        let P : List Opened → Type 0 = λ o. mark_read c.done (is_outside o) end at text ≡ fault at kinds.BadTag in
        subst P (sym none) (slash_read c.done end at text slash)

mark_stops : (end at : ℕ) (opened : List Opened) (outer : Level) (around : Option Text) (c : Content) (text : Text) (f : DocFault) →
    WrongMark end at outer around c text f → level_in opened ≡ outer → around_in opened ≡ around
    → Entered opened c at (mark_read c.done (is_outside opened) end at text) ≡ Err f
unfolding mark_entered start_entered end_entered
mark_stops end at opened outer around c text f (Cut _ is done) here named =
    let P : Option Text → Type 0 = λ a. IsCut a text in
    ap (Entered opened c at) (cut_entered end at opened c text (subst P (sym named) is)
    ∙ ap (λ d. stopped (stop_fault d end at WasCut)) done)
mark_stops end at opened outer around c text f (CutBehind _ is done) here named =
    let P : Option Text → Type 0 = λ a. IsCut a text in
    ap (Entered opened c at) (cut_entered end at opened c text (subst P (sym named) is)
    ∙ ap (λ d. stopped (stop_fault d end at WasCut)) done)
mark_stops end at opened outer around c text f (NoMark _ is) here named =
    let P : Option Text → Type 0 = λ a. IsBad a text in
    ap (Entered opened c at) (bad_entered end at opened c text (subst P (sym named) is))
mark_stops end at opened outer around c text f (RemarkWithin mark rest empty is) here named =
    ap (Entered opened c at) (comment_is_read c.done (is_outside opened) end at mark rest is)
    ∙ ap (λ t. cond t (fault at kinds.BadTag) (Ok (state opened c)) >>= λ next. Ok (On next rest)) (ap is_empty_level here ∙ empty)
mark_stops end at opened outer around c text f (OtherEnd name other mark rest open_is is different) here named =
    let o = around_outside opened name (named ∙ open_is) in
    let P : List Opened → Type 0 = λ os. Entered os c at (mark_read c.done (is_outside os) end at (mark ++ rest)) ≡ fault at kinds.BadTag in
    let apart : bytes_eq o.0.name other ≡ false =
    not_same (bytes_eq o.0.name other) (λ t. different (sym o.3 ∙ (bytes_eq-Decides o.0.name other).0 t)) in
    subst P (sym o.2) (
    ap (Entered (o.0 ∷ o.1) c at) (end_is_read c.done end at mark other rest is)
    ∙ ap (λ t. cond t (Ok (state o.1 (element_ended o.0.level c))) (fault at kinds.BadTag) >>= λ next. Ok (On next rest)) apart
    )
  where
    not_same : (t : Bool) → (t ≡ true → ⊥) → t ≡ false
    not_same true never = absurd (never refl)
    not_same false never = refl
mark_stops end at opened outer around c text f (OfElement mark rest name body _ is wrong) here named =
    let P : Level → Type 0 = λ l. WrongElement at l c name body f in
    ap (Entered opened c at) (mark_is_read c.done (is_outside opened) end at mark rest (Start name body)
    (start_other end mark rest name body is) (start_is_read end mark rest name body is))
    ∙ ap (λ (r : Result (Level × Content) DocFault). (r >>= λ x. Ok (with_element body.ending name opened x)) >>= λ next. Ok
    (On next rest)) (element_stops at (level_in opened) c name body f (subst P (sym here) wrong))

stray_read : (end : ℕ) (outer : Level) (before rest : Text) (b : ℕ) → outer ≢ level.Foreign → AreBlank before → is_blank b ≡ false →
    (b == 60) ≡ false → text_at end outer (before ++ (b ∷ rest)) ≡ fault (offset end (b ∷ rest)) (text_kind outer)
stray_read end outer before rest b other blank stops mark =
    strict_text end outer (before ++ (b ∷ rest)) other
    ∙ ap (blank_text end outer) (past_run is_blank before (b ∷ rest) blank stops)
    ∙ ap (λ t. cond t (Ok (b ∷ rest)) (fault (offset end (b ∷ rest)) (text_kind outer))) mark

ends_read : (end : ℕ) (opened : List Opened) (c : Content) → (around_in opened ≡ None → c.done ≡ false) →
    at_mark end (state opened c) [] ≡ fault end kinds.Truncated
unfolding at_mark
ends_read end [] c over = ap (λ t. cond t (Ok (Over c)) (fault end kinds.Truncated)) (over refl)
ends_read end (o ∷ opened) c over = refl

pub next_stops : (end : ℕ) (opened : List Opened) (outer : Level) (around : Option Text) (c : Content) (text : Text) (f : DocFault) →
    WrongNext end outer around c text f → level_in opened ≡ outer → around_in opened ≡ around → round end (state opened c) text ≡ Err f
unfolding round at_mark
next_stops end opened outer around c text f (Stray before rest b other blank stops mark) here named =
    ap (λ l. text_at end l (before ++ (b ∷ rest)) >>= λ t. at_mark end (state opened c) t) here
    ∙ ap (λ (r : Result Text DocFault). r >>= λ t. at_mark end (state opened c) t)
    (stray_read end outer before rest b other blank stops mark)
next_stops end opened outer around c text f (Ends _ filler over) here named =
    ap (λ t. text_at end (level_in opened) t >>= λ rest. at_mark end (state opened c) rest) (sym (append-nil text))
    ∙ ap (λ (r : Result Text DocFault). r >>= λ t. at_mark end (state opened c) t)
    (text_read end (level_in opened) text [] (filler_here opened outer text here filler) tt)
    ∙ ends_read end opened c (λ none. over (sym named ∙ none))
next_stops end opened outer around c text f (OfMark before rest _ filler wrong) here named =
    ap (λ (r : Result Text DocFault). r >>= λ t. at_mark end (state opened c) t)
    (text_read end (level_in opened) before (60 ∷ rest) (filler_here opened outer before here filler) refl)
    ∙ mark_stops end (offset end (60 ∷ rest)) opened outer around c rest f wrong here named
