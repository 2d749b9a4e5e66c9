-- What is spelt is read.
use Rattle.std.proofs.Common.{◌≡◌, ℕ, suc, ◌+◌, ◌≤◌, Bool, true, false, cond, ◌==◌, nat_eq, List, [], ◌∷◌, ◌++◌, length, map, None}
use Rattle.std.proofs.Common.{Result, Ok, codes, refl, sym, ap, ◌∙◌, subst, append_assoc, append-nil, arith}
use Rattle.std.specs.List.{starts_with}
use Rattle.std.specs.Str.{bytes_eq}
use Rattle.std.proofs.lemmas.List.{length-append}
use Rattle.std.proofs.lemmas.Slice.Eq.{bytes_eq-Decides}
use Rattle.std.proofs.lemmas.Bool.Decides.{nat_tests}
use Rattle.fs_text.specs.Texts.{Text}
use Rattle.fs_xml.specs.Results.{◌>>=◌}
use Rattle.fs_xml.specs.Bytes.{offset}
use Rattle.fs_xml.specs.Tags.{BodyText}
use Rattle.fs_xml.specs.Markup.{Mark, Comment, End, Start, mark_at}
use Rattle.fs_xml.specs.declared.attribute.Ending.{Ending}
use Rattle.fs_xml.specs.declared.attribute.Ending.TheVariants.{Opens, Closes}
use Rattle.fs_doc.specs.declared.fault.DocKind.TheVariants as kinds
use Rattle.fs_doc.specs.declared.fault.DocFault.{DocFault}
use Rattle.fs_doc.specs.declared.element.Level.{Level}
use Rattle.fs_doc.specs.declared.element.Level.TheVariants as level
use Rattle.fs_doc.specs.declared.content.Content.{Content}
use Rattle.fs_doc.specs.Faults.{fault}
use Rattle.fs_doc.specs.Contents.{element_ended}
use Rattle.fs_doc.specs.Reading.{Opened, ReadSoFar, level_in, is_outside, mark_or, mark_read, with_element, start_entered, end_entered}
use Rattle.fs_doc.specs.Reading.{is_empty_level, mark_entered, Next, Over, On, at_mark, round, with_round, read_within}
use Rattle.fs_spelling.specs.Tags.{Pair, IsTag, IsEndTag, IsComment, AreBlank}
use Rattle.fs_spelling.specs.Readings.{pair_of, ReadsTag}
use Rattle.fs_spelling.specs.Documents.{IsFiller, Begins, Inside, Bare, Remark, Leaf, Holder}
use Rattle.fs_spelling.proofs.Runs.{name_byte, first_byte, no_mark}
use Rattle.fs_spelling.proofs.MarkLaws.{spelt_comment, spelt_end, spelt_tag}
use Rattle.fs_spelling.proofs.TextLaws.{text_read}
use Rattle.fs_spelling.proofs.ElementLaws.{begins_read}

abbrev pub state : List Opened → Content → ReadSoFar
state opened c = record { opened = opened; content = c }

-- ---- one round

round_goes : (end : ℕ) (r : ReadSoFar) (before bytes rest : Text) (mark : Mark) (next : ReadSoFar) → IsFiller (level_in r.opened) before
    → ((at : ℕ) → mark_read r.content.done (is_outside r.opened) end at (bytes ++ rest) ≡ Ok (mark, rest))
    → ((at : ℕ) → mark_entered at mark r ≡ Ok next)
    → round end r (before ++ ((60 ∷ bytes) ++ rest)) ≡ Ok (On next rest)
unfolding round at_mark
round_goes end r before bytes rest mark next filler reads enters =
    let at = offset end (60 ∷ (bytes ++ rest)) in
    ap (λ (t : Result Text DocFault). t >>= λ behind. at_mark end r behind)
    (text_read end (level_in r.opened) before (60 ∷ (bytes ++ rest)) filler refl)
    ∙ ap (λ (m : Result (Mark × Text) DocFault). m >>= λ x. (mark_entered at x.0 r >>= λ n. Ok (On n x.1))) (reads at)
    ∙ ap (λ (e : Result ReadSoFar DocFault). e >>= λ n. Ok (On n rest)) (enters at)

pub one_round : (end : ℕ) (r : ReadSoFar) (bytes : Text) (next : ReadSoFar) (rest : Text) (more : ℕ) →
    round end r bytes ≡ Ok (On next rest) → read_within (suc more) end r bytes ≡ read_within more end next rest
one_round end r bytes next rest more goes =
    ap (λ (n : Result Next DocFault). n >>= λ y. with_round (λ s behind. read_within more end s behind) y) goes

-- ---- markup that is read

pub no_slash : (b : ℕ) (bytes : Text) → (b == 47) ≡ false → starts_with nat_eq (b ∷ bytes) (codes "/") ≡ false
no_slash b bytes other = grind (arith, nat_tests)

pub mark_is_read : (done outside : Bool) (end at : ℕ) (bytes rest : Text) (mark : Mark) →
    starts_with nat_eq (bytes ++ rest) (codes "/") ≡ false → mark_at end (bytes ++ rest) ≡ Ok (mark, rest)
    → mark_read done outside end at (bytes ++ rest) ≡ Ok (mark, rest)
unfolding mark_read
mark_is_read done true end at bytes rest mark other is =
    ap (λ s. cond s (fault at kinds.BadTag) (mark_or done end at (mark_at end (bytes ++ rest)))) other ∙ ap (mark_or done end at) is
mark_is_read done false end at bytes rest mark other is = ap (mark_or done end at) is

pub comment_is_read : (done outside : Bool) (end at : ℕ) (bytes rest : Text) → IsComment bytes →
    mark_read done outside end at (bytes ++ rest) ≡ Ok (Comment, rest)
comment_is_read done outside end at bytes rest is =
    let P : Text → Type 0 = λ b. starts_with nat_eq (b ++ rest) (codes "/") ≡ false in
    mark_is_read done outside end at bytes rest Comment (subst P (sym is.whole) refl) (spelt_comment end bytes rest is)

pub end_is_read : (done : Bool) (end at : ℕ) (bytes name rest : Text) → IsEndTag bytes name →
    mark_read done false end at (bytes ++ rest) ≡ Ok (End name, rest)
unfolding mark_read
end_is_read done end at bytes name rest is = ap (mark_or done end at) (spelt_end end bytes name rest is)

tag_other : (tag name rest : Text) (pairs : List Pair) (ending : Ending) → IsTag tag name pairs ending →
    starts_with nat_eq (tag ++ rest) (codes "/") ≡ false
tag_other tag name rest pairs ending is =
    let n = is.is_name in
    let P : Text → Type 0 = λ b. starts_with nat_eq (b ++ rest) (codes "/") ≡ false in
    let whole : tag ≡ n.first ∷ (n.others ++ is.body) = is.whole ∙ ap (λ m. m ++ is.body) n.whole in
    subst P (sym whole) (no_slash n.first ((n.others ++ is.body) ++ rest)
    (no_mark n.first (name_byte n.first (first_byte n.first n.begins)).no_mark).no_slash)

tag_is_read : (done outside : Bool) (end at : ℕ) (tag name : Text) (pairs : List Pair) (ending : Ending) (rest : Text)
    (is : IsTag tag name pairs ending) (reads : ReadsTag end (tag ++ rest) name pairs ending rest)
    → mark_read done outside end at (tag ++ rest)
    ≡ Ok (Start name (record { attrs = reads.attrs; malformed = None; ending = ending }), rest)
tag_is_read done outside end at tag name pairs ending rest is reads =
    mark_is_read done outside end at tag rest (Start name (record { attrs = reads.attrs; malformed = None; ending = ending }))
    (tag_other tag name rest pairs ending is) reads.read

-- ---- markup that is entered

comment_enters : (at : ℕ) (opened : List Opened) (c : Content) (outer : Level) → level_in opened ≡ outer → is_empty_level outer ≡ false →
    mark_entered at Comment (state opened c) ≡ Ok (state opened c)
unfolding mark_entered
comment_enters at opened c outer here may = ap (λ e. cond e (fault at kinds.BadTag) (Ok (state opened c))) (ap is_empty_level here ∙ may)

tag_enters : (at : ℕ) (opened : List Opened) (c d : Content) (outer inner : Level) (name : Text) (pairs : List Pair) (body : BodyText) →
    level_in opened ≡ outer → body.malformed ≡ None
    → map pair_of body.attrs ≡ pairs → Begins outer c name pairs inner d
    → mark_entered at (Start name body) (state opened c) ≡ Ok (with_element body.ending name opened (inner, d))
unfolding mark_entered start_entered
tag_enters at opened c d outer inner name pairs body here whole same is =
    let P : Level → Type 0 = λ l. Begins l c name (map pair_of body.attrs) inner d in
    let Q : List Pair → Type 0 = λ ps. Begins outer c name ps inner d in
    let begins = subst P (sym here) (subst Q (sym same) is) in
    ap (λ (r : Result (Level × Content) DocFault). r >>= λ x. Ok (with_element body.ending name opened x))
    (begins_read at (level_in opened) c d name body inner whole begins)

end_enters : (at : ℕ) (opened : List Opened) (inner : Level) (name : Text) (c : Content)
    → mark_entered at (End name) (state (record { level = inner; name = name } ∷ opened) c) ≡ Ok (state opened (element_ended inner c))
unfolding mark_entered end_entered
end_enters at opened inner name c =
    let same : bytes_eq name name ≡ true = (bytes_eq-Decides name name).1 refl in
    ap (λ t. cond t (Ok (state opened (element_ended inner c))) (fault at kinds.BadTag)) same

-- ---- what stands inside

-- so many rounds go past the bytes in front
pub record Passes (end : ℕ) (opened : List Opened) (c : Content) (bytes : Text) (d : Content) (rest : Text) (most : ℕ) : Type 0 where
  pub rounds : ℕ
  pub within : rounds ≤ most
  pub goes : (fuel more : ℕ) → fuel ≡ rounds + more →
      read_within fuel end (state opened c) bytes ≡ read_within more end (state opened d) rest

item_seam : (text before mark rest : Text) → (text ++ (before ++ (60 ∷ mark))) ++ rest ≡ text ++ (before ++ ((60 ∷ mark) ++ rest))
item_seam text before mark rest =
    append_assoc text (before ++ (60 ∷ mark)) rest ∙ ap (λ b. text ++ b) (append_assoc before (60 ∷ mark) rest)

item_long : (text before mark : Text) → suc (length text) ≤ length (text ++ (before ++ (60 ∷ mark)))
item_long text before mark = let a = length-append text (before ++ (60 ∷ mark)) in let b = length-append before (60 ∷ mark) in omega arith

holder_seam : (text before tag held behind close rest : Text)
    → (text ++ (before ++ ((60 ∷ tag) ++ (held ++ (behind ++ (60 ∷ close)))))) ++ rest ≡ text
    ++ (before ++ ((60 ∷ tag) ++ (held ++ (behind ++ ((60 ∷ close) ++ rest)))))
holder_seam text before tag held behind close rest = simp append_assoc

holder_long : (text before tag held behind close : Text) →
    suc (suc (length text + length held)) ≤ length (text ++ (before ++ ((60 ∷ tag) ++ (held ++ (behind ++ (60 ∷ close))))))
holder_long text before tag held behind close =
    let a = length-append text (before ++ ((60 ∷ tag) ++ (held ++ (behind ++ (60 ∷ close))))) in
    let b = length-append before ((60 ∷ tag) ++ (held ++ (behind ++ (60 ∷ close)))) in
    let c = length-append (60 ∷ tag) (held ++ (behind ++ (60 ∷ close))) in
    let d = length-append held (behind ++ (60 ∷ close)) in
    let e = length-append behind (60 ∷ close) in
    omega arith

pub filler_here : (opened : List Opened) (outer : Level) (text : Text) → level_in opened ≡ outer → IsFiller outer text →
    IsFiller (level_in opened) text
filler_here opened outer text here filler = let P : Level → Type 0 = λ l. IsFiller l text in subst P (sym here) filler

-- the tag of an element that opens, whatever stands behind it
pub open_round : (end : ℕ) {outer : Level} (opened : List Opened) → level_in opened ≡ outer → (before tag tail name : Text)
    (pairs : List Pair) (inner : Level) (c d : Content) → IsFiller outer before → IsTag tag name pairs Opens
    → Begins outer c name pairs inner d
    → round end (state opened c) (before ++ ((60 ∷ tag) ++ tail))
    ≡ Ok (On (state (record { level = inner; name = name } ∷ opened) d) tail)
open_round end {outer = outer} opened here before tag tail name pairs inner c d filler is begins =
    let tagged = spelt_tag end tag name pairs Opens tail is in
    let body : BodyText = record { attrs = tagged.attrs; malformed = None; ending = Opens } in
    round_goes end (state opened c) before tag tail (Start name body) (state (record { level = inner; name = name } ∷ opened) d)
    (filler_here opened outer before here filler)
    (λ at. tag_is_read c.done (is_outside opened) end at tag name pairs Opens tail is tagged)
    (λ at. tag_enters at opened c d outer inner name pairs body here refl tagged.same begins)

-- what stands inside is passed, whatever stands behind it
pub goes : (end : ℕ) (outer : Level) (c : Content) (text : Text) (d : Content) → Inside outer c text d →
    (opened : List Opened) → level_in opened ≡ outer → (rest : Text) → Passes end opened c (text ++ rest) d rest (length text)
goes end outer c text d (Bare _ _) opened here rest = record {
  rounds = 0;
  within = omega arith;
  goes = λ fuel more enough. ap (λ n. read_within n end (state opened c) rest) (enough ∙ omega arith);
}
goes end outer c text d (Remark _ _ _ front before mark ins may filler is) opened here rest =
    let r = state opened d in
    let tail = before ++ ((60 ∷ mark) ++ rest) in
    let on = goes end outer c front d ins opened here tail in
    let goes_round =
    round_goes end r before mark rest Comment r (filler_here opened outer before here filler)
    (λ at. comment_is_read d.done (is_outside opened) end at mark rest is) (λ at. comment_enters at opened d outer here may) in
    record {
      rounds = suc on.rounds;
      within = omega (arith, on.within, item_long front before mark);
      goes = λ fuel more enough.
          ap (read_within fuel end (state opened c)) (item_seam front before mark rest)
          ∙ on.goes fuel (suc more) (enough ∙ omega arith) ∙ one_round end r tail r rest more goes_round;
    }
goes end outer c text d (Leaf _ inner _ middle e front before tag name pairs ins filler is begins) opened here rest =
    let tagged = spelt_tag end tag name pairs Closes rest is in
    let body : BodyText = record { attrs = tagged.attrs; malformed = None; ending = Closes } in
    let r = state opened middle in
    let next = state opened (element_ended inner e) in
    let tail = before ++ ((60 ∷ tag) ++ rest) in
    let on = goes end outer c front middle ins opened here tail in
    let goes_round =
    round_goes end r before tag rest (Start name body) next (filler_here opened outer before here filler)
    (λ at. tag_is_read middle.done (is_outside opened) end at tag name pairs Closes rest is tagged)
    (λ at. tag_enters at opened middle e outer inner name pairs body here refl tagged.same begins) in
    record {
      rounds = suc on.rounds;
      within = omega (arith, on.within, item_long front before tag);
      goes = λ fuel more enough.
          ap (read_within fuel end (state opened c)) (item_seam front before tag rest)
          ∙ on.goes fuel (suc more) (enough ∙ omega arith) ∙ one_round end r tail next rest more goes_round;
    }
goes end outer c text d (Holder _ inner _ middle e f front before tag held behind close name pairs ins filler is begins held_is
    filler_behind closes) opened here rest =
    let deeper : List Opened = record { level = inner; name = name } ∷ opened in
    let last = behind ++ ((60 ∷ close) ++ rest) in
    let after = state opened (element_ended inner f) in
    let last_goes =
    round_goes end (state deeper f) behind close rest (End name) after filler_behind
    (λ at. end_is_read f.done end at close name rest closes) (λ at. end_enters at opened inner name f) in
    let tail = held ++ last in
    let inside = goes end inner e held f held_is deeper refl last in
    let r = state opened middle in
    let whole = before ++ ((60 ∷ tag) ++ tail) in
    let on = goes end outer c front middle ins opened here whole in
    record {
      rounds = suc (suc (on.rounds + inside.rounds));
      within = omega (arith, on.within, inside.within, holder_long front before tag held behind close);
      goes = λ fuel more enough.
          ap (read_within fuel end (state opened c)) (holder_seam front before tag held behind close rest)
          ∙ on.goes fuel (suc (inside.rounds + suc more)) (enough ∙ omega arith)
          ∙ one_round end r whole (state deeper e) tail (inside.rounds + suc more)
          (open_round end opened here before tag tail name pairs inner middle e filler is begins)
          ∙ inside.goes (inside.rounds + suc more) (suc more) refl
          ∙ one_round end (state deeper f) last after rest more last_goes;
    }

-- ---- the end

pub last_round : (end : ℕ) (c : Content) (behind : Text) (more : ℕ) → AreBlank behind → c.done ≡ true →
    read_within (suc more) end (state [] c) behind ≡ Ok c
unfolding round at_mark
last_round end c behind more blank done =
    let whole : behind ≡ behind ++ [] = sym (append-nil behind) in
    ap (λ b. read_within (suc more) end (state [] c) b) whole
    ∙ ap (λ (t : Result Text DocFault). (t >>= λ rest. at_mark end (state [] c) rest) >>= λ y. with_round
    (λ s rest. read_within more end s rest) y) (text_read end level.Top behind [] blank tt)
    ∙ ap (λ t. cond t (Ok (Over c)) (fault end kinds.Truncated) >>= λ y. with_round (λ s rest. read_within more end s rest) y) done
