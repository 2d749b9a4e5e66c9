-- Markup that is cut short or bad is read as that, and what is read so is cut short or bad.
use Rattle.std.proofs.Common.{◌≡◌, ◌≢◌, ℕ, ◌+◌, Bool, true, false, cond, ◌==◌, nat_eq, List, [], ◌∷◌, ◌++◌, length}
use Rattle.std.proofs.Common.{Option, None, Some, Result, Ok, Err, codes, refl, sym, ap, ◌∙◌, subst, append_assoc, append-nil, arith, drop}
use Rattle.std.specs.List.{starts_with, take_while}
use Rattle.std.proofs.lemmas.Bool.{eqb-true}
use Rattle.fs_text.specs.Texts.{Text}
use Rattle.fs_xml.specs.declared.stop.TagStop.{TagStop}
use Rattle.fs_xml.specs.declared.stop.TagStop.TheVariants.{Cut, Bad}
use Rattle.fs_xml.specs.declared.attribute.Ending.{Ending}
use Rattle.fs_xml.specs.declared.attribute.Ending.TheVariants.{Opens, Closes}
use Rattle.fs_xml.specs.Results.{◌>>=◌}
use Rattle.fs_xml.specs.Bytes.{is_blank, is_quote, is_mark, is_name_byte, begins_name, past, name_of}
use Rattle.fs_xml.specs.Attributes.{Written, part_on, part_at}
use Rattle.fs_xml.specs.Tags.{BodyText, Bodies, body_step, body_at}
use Rattle.fs_xml.specs.Markup.{Mark, Comment, End, Start, Marks, comment_end, second_dash_at, comment_at, closed_at, end_at, start_at}
use Rattle.fs_xml.specs.Markup.{mark_at}
use Rattle.fs_xml.proofs.ByteLemmas.{run_past}
use Rattle.fs_spelling.specs.Tags.{AreBlank, Stops, IsName, NoMore, ending_text}
use Rattle.fs_spelling.specs.Marks.{IsTail, Well, Ill, AreWritten, IsMark, AComment, AnEnd, ATag, HasMark, IsStart}
use Rattle.fs_spelling.proofs.Runs.{past_run, the_run, run_passes, rest_stops, name_passes}
use Rattle.fs_spelling.proofs.AttributeLaws.{name_is}
use Rattle.fs_spelling.proofs.MarkLaws.{comment_taken, greater_stops, begun_read, start_read, tail_stands}
use Rattle.fs_spelling.proofs.MarkLaws.{spelt_comment, spelt_end}
use Rattle.fs_spelling.proofs.StartLaws.{all_written, broken_place, body_read, BodyIs, body_is}

-- ---- a tag is read

-- what a tag has behind its name has a byte
stops_on : (p : ℕ → Bool) (text rest : List ℕ) → text ≢ [] → Stops p text → Stops p (text ++ rest)
stops_on p [] rest some stops = absurd (some refl)
stops_on p (b ∷ text) rest some stops = stops

stops_front : (p : ℕ → Bool) (text rest : List ℕ) → Stops p (text ++ rest) → Stops p text
stops_front p [] rest stops = tt
stops_front p (b ∷ text) rest stops = stops

not_empty : (front back : List ℕ) → back ≢ [] → front ++ back ≢ []
not_empty [] back some = some
not_empty (b ∷ front) back some = λ none. absurd (cc)

tail_some : (tail : List ℕ) (malformed : Option (List ℕ)) (ending : Ending) → IsTail tail malformed ending → tail ≢ []
tail_some tail malformed ending (Well gap _ blank) = not_empty gap (ending_text ending) (by ending)
  where
    by : (e : Ending) → ending_text e ≢ []
    by Opens = λ none. absurd (cc)
    by Closes = λ none. absurd (cc)
tail_some tail malformed ending (Ill gap loose blank is ill) =
    not_empty gap (loose ++ (62 ∷ [])) (not_empty loose (62 ∷ []) (λ none. absurd (cc)))

pub start_is_read : (end : ℕ) (bytes rest name : List ℕ) (body : BodyText) → IsStart end bytes rest name body →
    mark_at end (bytes ++ rest) ≡ Ok (Start name body, rest)
unfolding start_at
start_is_read end bytes rest name body is =
    let behind = is.attributes ++ (is.tail ++ rest) in
    let whole : bytes ++ rest ≡ name ++ behind =
    ap (λ b. b ++ rest) is.whole ∙ append_assoc name (is.attributes ++ is.tail) rest
    ∙ ap (λ t. name ++ t) (append_assoc is.attributes is.tail rest) in
    let some : is.attributes ++ is.tail ≢ [] =
    not_empty is.attributes is.tail (tail_some is.tail is.malformed body.ending is.ends) in
    let P : List ℕ → Type 0 = λ t. Stops is_name_byte t in
    let stops : Stops is_name_byte behind =
    subst P (append_assoc is.attributes is.tail rest) (stops_on is_name_byte (is.attributes ++ is.tail) rest some is.apart) in
    let passes = name_passes name is.is_name in
    ap (mark_at end) whole
    ∙ start_read end name behind is.is_name
    ∙ ap (λ n. body_at end (past is_name_byte (name ++ behind)) >>= λ x. Ok (Start n x.0, x.1))
    (the_run is_name_byte name behind passes stops)
    ∙ ap (λ r. body_at end r >>= λ x. Ok (Start name x.0, x.1)) (past_run is_name_byte name behind passes stops)
    ∙ ap (λ (r : Bodies). r >>= λ x. Ok (Start name x.0, x.1))
    (body_read end is.attributes is.tail rest body.attrs is.malformed body.ending is.are is.ends)
    ∙ ap (λ m. Ok (Start name (record { attrs = body.attrs; malformed = m; ending = body.ending }), rest)) (sym is.place)

-- markup is read, whatever stands behind it
pub mark_is_read : (end : ℕ) (around : Option Text) (mark rest : List ℕ) → IsMark around mark →
    (x : Mark × List ℕ) × (mark_at end (mark ++ rest) ≡ Ok x)
mark_is_read end around mark rest (AComment _ is) = ((Comment, rest), spelt_comment end mark rest is)
mark_is_read end around mark rest (AnEnd name _ some is) = ((End name, rest), spelt_end end mark name rest is)
mark_is_read end around mark rest (ATag name attributes tail pairs malformed ending is_name apart are ends) =
    let written = all_written end attributes (tail ++ rest) pairs are in
    let body : BodyText = record { attrs = written.0; malformed = broken_place end rest malformed; ending = ending } in (
      (Start name body, rest),
      start_is_read end (name ++ (attributes ++ tail)) rest name body (record {
        attributes = attributes;
        tail = tail;
        malformed = malformed;
        whole = refl;
        is_name = is_name;
        apart = apart;
        are = written.1;
        ends = ends;
        place = refl;
      }),
    )

pub front_is_read : (end : ℕ) (around : Option Text) (text : List ℕ) → HasMark around text →
    (x : Mark × List ℕ) × (mark_at end text ≡ Ok x)
front_is_read end around text has =
    let read = mark_is_read end around has.mark has.rest has.is in (read.0, ap (mark_at end) has.whole ∙ read.1)

-- ---- what is read

-- a tag in front, and the rest
pub record TakesStart (end : ℕ) (text name : List ℕ) (body : BodyText) (rest : List ℕ) : Type 0 where
  pub bytes : List ℕ
  pub whole : text ≡ bytes ++ rest
  pub is : IsStart end bytes rest name body

-- the markup is a tag, or it is cut short and goes on, or it stays bad whatever follows
abbrev pub MarkRest : ℕ → Option Text → List ℕ → Marks → Type 0
MarkRest end around text (Ok (Comment, rest)) = Unit {0}
MarkRest end around text (Ok (End name, rest)) = Unit {0}
MarkRest end around text (Ok (Start name body, rest)) = TakesStart end text name body rest
MarkRest end around text (Err Cut) = (more : List ℕ) × HasMark around (text ++ more)
MarkRest end around text (Err Bad) = (other : ℕ) (more : List ℕ) → mark_at other (text ++ more) ≡ Err Bad

a_mark : (around : Option Text) (text more mark : List ℕ) → text ++ more ≡ mark → IsMark around mark →
    (more : List ℕ) × HasMark around (text ++ more)
a_mark around text more mark whole is =
    (more, record { mark = mark; rest = []; whole = whole ∙ sym (append-nil mark); is = is })

-- ---- comments

abbrev CommentIs : List ℕ → Result (List ℕ) TagStop → Type 0
CommentIs text (Ok rest) = Unit {0}
CommentIs text (Err Cut) = (rest : List ℕ) × (comment_end (text ++ codes "-->") ≡ Ok rest)
CommentIs text (Err Bad) = ⊥

comment_is : (text : List ℕ) → CommentIs text (comment_end text)
comment_is [] = ([], refl)
comment_is (b ∷ text) = by (tail_stands (b ∷ text)) (comment_end text) (comment_is text)
  where
    or_later : (t : Bool) (rest : List ℕ) → comment_end (text ++ codes "-->") ≡ Ok rest →
        (found : List ℕ) × (cond t (Ok (drop 3 (b ∷ (text ++ codes "-->")))) (comment_end (text ++ codes "-->")) ≡ Ok found)
    or_later true rest e = (drop 3 (b ∷ (text ++ codes "-->")), refl)
    or_later false rest e = (rest, e)

    by : (t : Bool) (r : Result (List ℕ) TagStop) → CommentIs text r → CommentIs (b ∷ text) (cond t (Ok (drop 3 (b ∷ text))) r)
    by true r is = tt
    by false (Ok rest) is = tt
    by false (Err Cut) is = or_later (tail_stands (b ∷ (text ++ codes "-->"))) is.0 is.1
    by false (Err Bad) is = is

-- from behind `<!`
comment_rest : (end : ℕ) (around : Option Text) (bytes : List ℕ) →
    MarkRest end around (33 ∷ bytes) (comment_at bytes >>= λ behind. Ok (Comment, behind))
unfolding comment_at second_dash_at mark_at
comment_rest end around [] =
    a_mark around (33 ∷ []) (codes "---->") (codes "!---->") refl
    (AComment (codes "!---->") (record { body = codes "-->"; whole = refl; ends = refl }))
comment_rest end around (b ∷ []) = by (b == 45) refl
  where
    by : (t : Bool) → (b == 45) ≡ t →
        MarkRest end around (33 ∷ (b ∷ [])) ((cond t (Err Cut) (Err Bad)) >>= λ behind. Ok (Comment, behind))
    by true is =
        a_mark around (33 ∷ (b ∷ [])) (codes "--->") (codes "!---->") (ap (λ n. 33 ∷ (n ∷ codes "--->")) (eqb-true b 45 is))
        (AComment (codes "!---->") (record { body = codes "-->"; whole = refl; ends = refl }))
    by false is = λ other more. rw is refl
comment_rest end around (b ∷ (c ∷ bytes)) = by (b == 45) (c == 45) refl refl (comment_end bytes) (comment_is bytes)
  where
    by : (s t : Bool) → (b == 45) ≡ s → (c == 45) ≡ t → (r : Result (List ℕ) TagStop) → CommentIs bytes r
        → MarkRest end around (33 ∷ (b ∷ (c ∷ bytes))) ((cond s (cond t r (Err Bad)) (Err Bad)) >>= λ behind. Ok (Comment, behind))
    by true true is it (Ok rest) found = tt
    by true true is it (Err Cut) found =
        let taken = comment_taken (bytes ++ codes "-->") found.0 found.1 in (
          codes "-->",
          record {
            mark = codes "!--" ++ taken.body;
            rest = found.0;
            whole = ap (λ n. 33 ∷ (n ∷ (c ∷ (bytes ++ codes "-->")))) (eqb-true b 45 is)
                ∙ ap (λ n. 33 ∷ (45 ∷ (n ∷ (bytes ++ codes "-->")))) (eqb-true c 45 it)
                ∙ ap (λ t. 33 ∷ (45 ∷ (45 ∷ t))) taken.whole;
            is = AComment (codes "!--" ++ taken.body) (record { body = taken.body; whole = refl; ends = taken.ends });
          },
        )
    by true true is it (Err Bad) found = absurd found
    by true false is it r found = λ other more. rw (is, it) refl
    by false t is it r found = λ other more. rw is refl

-- ---- end tags

letter : IsName (97 ∷ [])
unfolding begins_name is_name_byte is_blank is_quote is_mark
letter = record { first = 97; others = []; whole = refl; begins = refl; goes_on = refl }

an_end : (outer name gap text more : List ℕ) → IsName name → AreBlank gap → text ++ more ≡ 47 ∷ (name ++ (gap ++ (62 ∷ []))) →
    (more : List ℕ) × HasMark (Some outer) (text ++ more)
an_end outer name gap text more is blank whole =
    let mark : List ℕ = 47 ∷ (name ++ (gap ++ (62 ∷ []))) in
    a_mark (Some outer) text more mark whole
    (AnEnd name mark (λ none. absurd (cc)) (record { gap = gap; whole = refl; is_name = is; gap_blank = blank }))

end_goes : (name gap : List ℕ) (c : ℕ) (more : List ℕ) → IsName name → AreBlank gap → Stops is_name_byte (gap ++ (c ∷ more)) →
    is_blank c ≡ false → end_at (name ++ (gap ++ (c ∷ more))) ≡ closed_at name (c ∷ more)
end_goes name gap c more is blank stops no_blank =
    let tail = gap ++ (c ∷ more) in
    let passes = name_passes name is in
    begun_read name tail is
    ∙ ap (λ n. closed_at n (past is_blank (past is_name_byte (name ++ tail)))) (the_run is_name_byte name tail passes stops)
    ∙ ap (λ r. closed_at name (past is_blank r)) (past_run is_name_byte name tail passes stops)
    ∙ ap (closed_at name) (past_run is_blank gap (c ∷ more) blank no_blank)

stops_any : (p : ℕ → Bool) (gap : List ℕ) (c : ℕ) (some other : List ℕ) → Stops p (gap ++ (c ∷ some)) → Stops p (gap ++ (c ∷ other))
stops_any p [] c some other stops = stops
stops_any p (b ∷ gap) c some other stops = stops

closed_rest : (end : ℕ) (outer name gap third : List ℕ) → IsName name → AreBlank gap → Stops is_name_byte (gap ++ third)
    → Stops is_blank third → (text : List ℕ) → text ≡ name ++ (gap ++ third)
    → MarkRest end (Some outer) (47 ∷ text) (closed_at name third)
unfolding closed_at mark_at
closed_rest end outer name gap [] is blank stops blank_stops text whole =
    an_end outer name gap (47 ∷ text) (62 ∷ []) is blank (ap (λ t. 47 ∷ (t ++ (62 ∷ []))) whole ∙ simp (append_assoc, append-nil))
closed_rest end outer name gap (c ∷ third) is blank stops no_blank text whole = by (c == 62) refl
  where
    by : (t : Bool) → (c == 62) ≡ t → MarkRest end (Some outer) (47 ∷ text) (cond t (Ok (End name, third)) (Err Bad))
    by true same = tt
    by false other_byte = λ other more.
        ap (λ t. end_at (t ++ more)) whole
        ∙ ap end_at (append_assoc name (gap ++ (c ∷ third)) more ∙ ap (λ t. name ++ t) (append_assoc gap (c ∷ third) more))
        ∙ end_goes name gap c (third ++ more) is blank (stops_any is_name_byte gap c third (third ++ more) stops) no_blank
        ∙ rw other_byte refl

end_rest : (end : ℕ) (outer : Text) (bytes : List ℕ) → MarkRest end (Some outer) (47 ∷ bytes) (end_at bytes)
unfolding end_at mark_at
end_rest end outer [] = an_end outer (97 ∷ []) [] (47 ∷ []) (97 ∷ (62 ∷ [])) letter refl refl
end_rest end outer (b ∷ bytes) = by (begins_name b) refl
  where
    by : (t : Bool) → begins_name b ≡ t → MarkRest end (Some outer) (47 ∷ (b ∷ bytes))
        (cond t (closed_at (name_of (b ∷ bytes)) (past is_blank (past is_name_byte (b ∷ bytes)))) (Err Bad))
    by true begins =
        let text : List ℕ = b ∷ bytes in
        let behind = past is_name_byte text in
        let Q : List ℕ → Type 0 = λ t. Stops is_name_byte t in
        closed_rest end outer (name_of text) (take_while is_blank behind) (past is_blank behind) (name_is text b bytes refl begins)
        (run_passes is_blank behind) (subst Q (sym (run_past is_blank behind)) (rest_stops is_name_byte text))
        (rest_stops is_blank behind) text
        (sym (run_past is_name_byte text) ∙ ap (λ t. name_of text ++ t) (sym (run_past is_blank behind)))
    by false other_byte = λ other more. rw other_byte refl

-- ---- tags

nothing_cut : (end : ℕ) → body_at end [] ≡ Err Cut
unfolding body_at body_step part_at part_on
nothing_cut end = refl

tag_rest : (end : ℕ) (around : Option Text) (b : ℕ) (bytes third : List ℕ) → begins_name b ≡ true → past is_name_byte (b ∷ bytes) ≡ third
    → (r : Bodies) → body_at end third ≡ r → BodyIs end [] third r
    → MarkRest end around (b ∷ bytes) (r >>= λ x. Ok (Start (name_of (b ∷ bytes)) x.0, x.1))
unfolding body_at start_at
tag_rest end around b bytes third begins behind (Ok (body, rest)) read is =
    let text : List ℕ = b ∷ bytes in
    let name = name_of text in
    let P : List ℕ → Type 0 = λ t. Stops is_name_byte t in
    let split : third ≡ (is.bytes ++ is.tail) ++ rest = is.whole ∙ sym (append_assoc is.bytes is.tail rest) in
    let Q : List Written → Type 0 = λ ws. AreWritten end is.bytes (is.tail ++ rest) ws in
    record {
      bytes = name ++ (is.bytes ++ is.tail);
      whole =
          sym (run_past is_name_byte text) ∙ ap (λ t. name ++ t) (behind ∙ split) ∙ sym (append_assoc name (is.bytes ++ is.tail) rest);
      is = record {
        attributes = is.bytes;
        tail = is.tail;
        malformed = is.malformed;
        whole = refl;
        is_name = name_is text b bytes refl begins;
        apart = stops_front is_name_byte (is.bytes ++ is.tail) rest (subst P (behind ∙ split) (rest_stops is_name_byte text));
        are = subst Q (sym is.attrs_are) is.are;
        ends = is.ends;
        place = is.place;
      };
    }
tag_rest end around b bytes [] begins behind (Err Cut) read goes =
    let text : List ℕ = b ∷ bytes in
    let name = name_of text in
    a_mark around text (62 ∷ []) (name ++ ([] ++ (62 ∷ [])))
    (ap (λ t. t ++ (62 ∷ [])) (sym (run_past is_name_byte text) ∙ ap (λ t. name ++ t) behind ∙ append-nil name))
    (ATag name [] (62 ∷ []) [] None Opens (name_is text b bytes refl begins) greater_stops.0 NoMore (Well [] Opens refl))
tag_rest end around b bytes (c ∷ third) begins behind (Err Cut) read (more, full) =
    let text : List ℕ = b ∷ bytes in
    let name = name_of text in
    let P : List ℕ → Type 0 = λ t. Stops is_name_byte t in
    let here : Stops is_name_byte (c ∷ third) = subst P behind (rest_stops is_name_byte text) in
    let on : Stops is_name_byte ((c ∷ third) ++ more) = here in
    a_mark around text more (name ++ (full.attributes ++ full.tail))
    (ap (λ t. t ++ more) (sym (run_past is_name_byte text) ∙ ap (λ t. name ++ t) behind) ∙ append_assoc name (c ∷ third) more
    ∙ ap (λ t. name ++ t) full.whole)
    (ATag name full.attributes full.tail full.pairs full.malformed full.ending (name_is text b bytes refl begins)
    (subst P full.whole on) full.are full.ends)
tag_rest end around b bytes [] begins behind (Err Bad) read stays =
    let both : Err Cut ≡ Err Bad = sym (nothing_cut end) ∙ read in absurd (cc)
tag_rest end around b bytes (c ∷ third) begins behind (Err Bad) read stays = λ other more.
    let text : List ℕ = b ∷ bytes in
    let name = name_of text in
    let is = name_is text b bytes refl begins in
    let passes = name_passes name is in
    let P : List ℕ → Type 0 = λ t. Stops is_name_byte t in
    let here : Stops is_name_byte (c ∷ third) = subst P behind (rest_stops is_name_byte text) in
    let tail : List ℕ = (c ∷ third) ++ more in
    let on : Stops is_name_byte tail = here in
    ap (mark_at other)
    (ap (λ t. t ++ more) (sym (run_past is_name_byte text) ∙ ap (λ t. name ++ t) behind) ∙ append_assoc name (c ∷ third) more)
    ∙ start_read other name tail is
    ∙ ap (λ r. body_at other r >>= λ x. Ok (Start (name_of (name ++ tail)) x.0, x.1)) (past_run is_name_byte name tail passes on)
    ∙ ap (λ (r : Bodies). r >>= λ x. Ok (Start (name_of (name ++ tail)) x.0, x.1))
    (stays other [] more (length tail + 1) (omega arith))

-- ---- any markup

pub mark_rest : (end : ℕ) (around : Option Text) (text : List ℕ) → (around ≡ None → starts_with nat_eq text (codes "/") ≡ false) →
    MarkRest end around text (mark_at end text)
unfolding mark_at start_at body_at
mark_rest end around [] may =
    a_mark around [] (97 ∷ (62 ∷ [])) ((97 ∷ []) ++ ([] ++ (62 ∷ []))) refl
    (ATag (97 ∷ []) [] (62 ∷ []) [] None Opens letter greater_stops.0 NoMore (Well [] Opens refl))
mark_rest end around (b ∷ bytes) may = by (b == 33) (b == 47) (begins_name b) refl refl refl
  where
    closing : (a : Option Text) → (a ≡ None → starts_with nat_eq (b ∷ bytes) (codes "/") ≡ false) → b ≡ 47 →
        MarkRest end a (b ∷ bytes) (end_at bytes)
    closing None never is =
        let P : ℕ → Type 0 = λ n. starts_with nat_eq (n ∷ bytes) (codes "/") ≡ false in
        let both : true ≡ false = subst P is (never refl) in absurd (cc)
    closing (Some outer) never is =
        let P : ℕ → Type 0 = λ n. MarkRest end (Some outer) (n ∷ bytes) (end_at bytes) in
        subst P (sym is) (end_rest end outer bytes)

    by : (s t u : Bool) → (b == 33) ≡ s → (b == 47) ≡ t → begins_name b ≡ u
        → MarkRest end around (b ∷ bytes) (cond s (comment_at bytes >>= λ behind. Ok (Comment, behind))
        (cond t (end_at bytes) (cond u (start_at end (b ∷ bytes)) (Err Bad))))
    by true t u one two three =
        let P : ℕ → Type 0 = λ n. MarkRest end around (n ∷ bytes) (comment_at bytes >>= λ behind. Ok (Comment, behind)) in
        subst P (sym (eqb-true b 33 one)) (comment_rest end around bytes)
    by false true u one two three = closing around may (eqb-true b 47 two)
    by false false true one two three =
        let third = past is_name_byte (b ∷ bytes) in
        tag_rest end around b bytes third three refl (body_at end third) refl (body_is (length third + 1) end [] third (omega arith))
    by false false false one two three = λ other more. rw (one, two, three) refl
