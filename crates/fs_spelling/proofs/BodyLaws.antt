-- What stands in a tag behind its name is read as what it spells.
use Rattle.std.proofs.Common.{◌≡◌, ◌≢◌, ℕ, zero, suc, ◌+◌, ◌-◌, ◌<◌, Bool, true, false, cond, ◌==◌, List, [], ◌∷◌, ◌++◌, length, map}
use Rattle.std.proofs.Common.{Option, None, Some, Result, Ok, Err, refl, sym, ap, ◌∙◌, subst, append_assoc, append-nil, arith}
use Rattle.std.specs.List.{list_all, take_while}
use Rattle.std.proofs.lemmas.List.{length-append}
use Rattle.std.proofs.lemmas.Bool.{eqb-true}
use Rattle.fs_text.specs.Words.{halves_of}
use Rattle.fs_xml.specs.declared.stop.TagStop.{TagStop}
use Rattle.fs_xml.specs.declared.stop.TagStop.TheVariants.{Bad}
use Rattle.fs_xml.specs.declared.attribute.Ending.{Ending}
use Rattle.fs_xml.specs.declared.attribute.Ending.TheVariants.{Opens, Closes}
use Rattle.fs_xml.specs.Results.{◌>>=◌}
use Rattle.fs_xml.specs.Bytes.{is_blank, is_quote, is_mark, is_name_byte, begins_name, past, offset}
use Rattle.fs_xml.specs.Attributes.{Written, TagPart, Has, Ends, Broken, TagParts, tag_end, broken_at, valued_on, valued_at, quoted_at}
use Rattle.fs_xml.specs.Attributes.{equals_at, named_at, slash_at, part_on, part_at}
use Rattle.fs_xml.specs.Tags.{BodyText, Step, step_of, Bodies, go_on, body_step, body_within, body_at}
use Rattle.fs_xml.proofs.ByteLemmas.{run_past}
use Rattle.fs_spelling.specs.Tags.{Pair, AreBlank, IsAttribute, AreAttributes, NoMore, OneMore, ending_text, IsBody, Stops}
use Rattle.fs_spelling.specs.Readings.{pair_of, ReadsAttribute}
use Rattle.fs_spelling.specs.Readings.{TakesBody}
use Rattle.fs_spelling.proofs.Binds.{bind_ok}
use Rattle.fs_spelling.proofs.Runs.{past_run, run_passes, blank_stops, gap_stops, and_true}
use Rattle.fs_spelling.proofs.AttributeLaws.{spelt_attribute, read_attribute, was_read, same_read}

-- ---- what is spelt is read

pub end_stops : (ending : Ending) (rest : List ℕ) →
    Stops is_blank (ending_text ending ++ rest) × Stops is_name_byte (ending_text ending ++ rest)
unfolding is_blank is_name_byte is_quote is_mark
end_stops Opens rest = (refl, refl)
end_stops Closes rest = (refl, refl)

pub end_on : (end : ℕ) (glued : Bool) (ending : Ending) (rest : List ℕ) →
    part_on end glued (ending_text ending ++ rest) ≡ Ok (Ends ending, rest)
unfolding part_on slash_at
end_on end glued Opens rest = refl
end_on end glued Closes rest = refl

pub end_read : (end : ℕ) (gap : List ℕ) (ending : Ending) (rest : List ℕ) → AreBlank gap →
    part_at end (gap ++ (ending_text ending ++ rest)) ≡ Ok (Ends ending, rest)
unfolding part_at
end_read end gap ending rest blank =
    let whole = gap ++ (ending_text ending ++ rest) in
    ap (λ r. part_on end (length r == length whole) r) (past_run is_blank gap (ending_text ending ++ rest) blank (end_stops ending rest).0)
    ∙ end_on end (length (ending_text ending ++ rest) == length whole) ending rest

-- an attribute has a byte at least
pub attribute_long : (bytes : List ℕ) (pair : Pair) → IsAttribute bytes pair → 0 < length bytes
attribute_long bytes pair is = by is.before is.apart is.whole
  where
    by : (before : List ℕ) → before ≢ [] → bytes ≡ before
        ++ (pair.name ++ (is.gap ++ (61 ∷ (is.gap_behind ++ (is.quote ∷ (pair.value ++ (is.quote ∷ []))))))) → 0 < length bytes
    by [] apart whole = absurd (apart refl)
    by (b ∷ before) apart whole = let size = ap length whole in omega (arith, size)

-- a body that is read so far
pub record Goes (more end : ℕ) (so_far : List Written) (text : List ℕ) (pairs : List Pair) (ending : Ending) (rest : List ℕ) : Type 0 where
  pub attrs : List Written
  pub same : map pair_of attrs ≡ pairs
  pub goes : body_within more end so_far text ≡ Ok (record { attrs = so_far ++ attrs; malformed = None; ending = ending }, rest)

ended_body : (more end : ℕ) (so_far : List Written) (text : List ℕ) (ending : Ending) (rest : List ℕ) →
    part_at end text ≡ Ok (Ends ending, rest) → Goes (suc more) end so_far text [] ending rest
unfolding body_step
ended_body more end so_far text ending rest e = record {
  attrs = [];
  same = refl;
  goes = ap (λ (p : TagParts). (p >>= λ x. Ok (step_of so_far x.0, x.1)) >>= λ x. go_on (λ next r. body_within more end next r) x) e
      ∙ ap (λ attrs. Ok (record { attrs = attrs; malformed = None; ending = ending }, rest)) (sym (append-nil so_far));
}

more_body : (more end : ℕ) (so_far : List Written) (text : List ℕ) (pair : Pair) (pairs : List Pair) (ending : Ending)
    (middle rest : List ℕ) (a : ReadsAttribute end text middle pair)
    → Goes more end (so_far ++ a.written ∷ []) middle pairs ending rest → Goes (suc more) end so_far text (pair ∷ pairs) ending rest
unfolding body_step
more_body more end so_far text pair pairs ending middle rest a on = record {
  attrs = a.written ∷ on.attrs;
  same = ap (λ p. p ∷ map pair_of on.attrs) a.same ∙ ap (λ ps. pair ∷ ps) on.same;
  goes = ap (λ (p : TagParts). (p >>= λ x. Ok (step_of so_far x.0, x.1)) >>= λ x. go_on (λ next r. body_within more end next r) x) a.read
      ∙ on.goes ∙ ap (λ attrs. Ok (record { attrs = attrs; malformed = None; ending = ending }, rest))
      (append_assoc so_far (a.written ∷ []) on.attrs);
}

spelt_body : (end : ℕ) (gap : List ℕ) (ending : Ending) (rest : List ℕ) → AreBlank gap → (bytes : List ℕ) (pairs : List Pair) →
    AreAttributes bytes pairs → (more : ℕ) (so_far : List Written)
    → length (bytes ++ (gap ++ (ending_text ending ++ rest))) < more
    → Goes more end so_far (bytes ++ (gap ++ (ending_text ending ++ rest))) pairs ending rest
spelt_body end gap ending rest blank bytes pairs are zero so_far enough = absurd (omega arith)
spelt_body end gap ending rest blank bytes pairs NoMore (suc more) so_far enough =
    ended_body more end so_far (gap ++ (ending_text ending ++ rest)) ending rest (end_read end gap ending rest blank)
spelt_body end gap ending rest blank bytes pairs (OneMore front others pair more_pairs is are) (suc more) so_far enough =
    let tail = gap ++ (ending_text ending ++ rest) in
    let whole : (front ++ others) ++ tail ≡ front ++ (others ++ tail) = append_assoc front others tail in
    let a = spelt_attribute end front (others ++ tail) pair is in
    let fewer : length (others ++ tail) < more =
    omega (arith, attribute_long front pair is, ap length whole, length-append front (others ++ tail), enough) in
    let on = spelt_body end gap ending rest blank others more_pairs are more (so_far ++ a.written ∷ []) fewer in
    let P : List ℕ → Type 0 = λ text. Goes (suc more) end so_far text (pair ∷ more_pairs) ending rest in
    subst P (sym whole) (more_body more end so_far (front ++ (others ++ tail)) pair more_pairs ending (others ++ tail) rest a on)

-- what follows a name is no byte of it
pub body_stops : (bytes : List ℕ) (pairs : List Pair) (ending : Ending) (rest : List ℕ) → IsBody bytes pairs ending →
    Stops is_name_byte (bytes ++ rest)
body_stops bytes pairs ending rest is =
    let P : List ℕ → Type 0 = λ b. Stops is_name_byte b in
    let whole : bytes ++ rest ≡ is.attributes ++ (is.gap ++ (ending_text ending ++ rest)) =
    ap (λ b. b ++ rest) is.whole ∙ simp append_assoc in
    subst P (sym whole) (by is.attributes pairs is.are)
  where
    blank_first : (before more : List ℕ) → before ≢ [] → AreBlank before → Stops is_name_byte (before ++ more)
    blank_first [] more apart blank = absurd (apart refl)
    blank_first (b ∷ before) more apart blank = blank_stops b (and_true (is_blank b) (list_all is_blank before) blank).0

    attribute_first : (front more : List ℕ) (pair : Pair) → IsAttribute front pair → Stops is_name_byte (front ++ more)
    attribute_first front more pair a =
        let tail = pair.name ++ (a.gap ++ (61 ∷ (a.gap_behind ++ (a.quote ∷ (pair.value ++ (a.quote ∷ [])))))) in
        let Q : List ℕ → Type 0 = λ b. Stops is_name_byte b in
        let split : front ++ more ≡ a.before ++ (tail ++ more) = ap (λ b. b ++ more) a.whole ∙ append_assoc a.before tail more in
        subst Q (sym split) (blank_first a.before (tail ++ more) a.apart a.before_blank)

    by : (attributes : List ℕ) (ps : List Pair) → AreAttributes attributes ps →
        Stops is_name_byte (attributes ++ (is.gap ++ (ending_text ending ++ rest)))
    by attributes ps NoMore = gap_stops is.gap (ending_text ending ++ rest) is.gap_blank (end_stops ending rest).1
    by attributes ps (OneMore front others pair more a are) =
        let Q : List ℕ → Type 0 = λ b. Stops is_name_byte b in
        subst Q (sym (append_assoc front others (is.gap ++ (ending_text ending ++ rest))))
        (attribute_first front (others ++ (is.gap ++ (ending_text ending ++ rest))) pair a)

pub spelt_body_at : (end : ℕ) (bytes rest : List ℕ) (pairs : List Pair) (ending : Ending) → IsBody bytes pairs ending
    → (attrs : List Written) × (map pair_of attrs ≡ pairs)
    × (body_at end (bytes ++ rest) ≡ Ok (record { attrs = attrs; malformed = None; ending = ending }, rest))
unfolding body_at
spelt_body_at end bytes rest pairs ending is =
    let text = is.attributes ++ (is.gap ++ (ending_text ending ++ rest)) in
    let whole : bytes ++ rest ≡ text = ap (λ b. b ++ rest) is.whole ∙ simp append_assoc in
    let on = spelt_body end is.gap ending rest is.gap_blank is.attributes pairs is.are (length text + 1) [] (omega arith) in
    (on.attrs, on.same, ap (λ t. body_within (length t + 1) end [] t) whole ∙ on.goes)

-- ---- what is read is spelt

-- the end of a tag is read where blanks and it stand
pub record TakesEnd (text : List ℕ) (ending : Ending) (rest : List ℕ) : Type 0 where
  pub gap : List ℕ
  pub whole : text ≡ gap ++ (ending_text ending ++ rest)
  pub blank : AreBlank gap

slash_taken : (bytes rest : List ℕ) (ending : Ending) → slash_at bytes ≡ was_read (Ends ending, rest) →
    47 ∷ bytes ≡ ending_text ending ++ rest
unfolding slash_at
slash_taken [] rest ending e = absurd (cc)
slash_taken (b ∷ bytes) rest ending e = by (b == 62) refl e
  where
    by : (t : Bool) → (b == 62) ≡ t → cond t (was_read (Ends Closes, bytes)) (Err Bad) ≡ was_read (Ends ending, rest) →
        47 ∷ (b ∷ bytes) ≡ ending_text ending ++ rest
    by true is h =
        let both = same_read (Ends Closes, bytes) (Ends ending, rest) h in
        let piece : Ends Closes ≡ Ends ending = ap (λ (x : TagPart × List ℕ). x.0) both in
        let same : Closes ≡ ending = cc in
        let after : bytes ≡ rest = ap (λ (x : TagPart × List ℕ). x.1) both in
        ap (λ c. 47 ∷ (c ∷ bytes)) (eqb-true b 62 is) ∙ ap (λ r. ending_text Closes ++ r) after ∙ ap (λ f. ending_text f ++ rest) same
    by false is h = absurd (cc)

no_end : (at : ℕ) (bytes rest : List ℕ) (ending : Ending) → broken_at at bytes ≡ was_read (Ends ending, rest) → ⊥
unfolding broken_at
no_end at bytes rest ending e =
    let went = bind_ok (tag_end None bytes) (λ behind. was_read (Broken at, behind)) (Ends ending, rest) e in
    let piece : Broken at ≡ Ends ending = ap (λ (x : TagPart × List ℕ). x.0) (same_read (Broken at, went.0) (Ends ending, rest) went.2) in
    cc

no_value : (end at : ℕ) (name rest : List ℕ) (ending : Ending) (found : Option (List ℕ × List ℕ)) →
    valued_on end at name found ≡ was_read (Ends ending, rest) → ⊥
no_value end at name rest ending None e = cc
no_value end at name rest ending (Some x) e =
    let w : Written = record { at = at; name = name; value = x.0; end = offset end x.1 - 1 } in
    let piece : Has w ≡ Ends ending = ap (λ (y : TagPart × List ℕ). y.0) (same_read (Has w, x.1) (Ends ending, rest) e) in
    cc

no_quoted : (end at : ℕ) (name text rest : List ℕ) (ending : Ending) → quoted_at end at name text ≡ was_read (Ends ending, rest) → ⊥
unfolding quoted_at valued_at
no_quoted end at name [] rest ending e = cc
no_quoted end at name (q ∷ bytes) rest ending e = by (is_quote q) e
  where
    by : (t : Bool) → cond t (valued_on end at name (halves_of q bytes)) (broken_at at (q ∷ bytes)) ≡ was_read (Ends ending, rest) → ⊥
    by true h = no_value end at name rest ending (halves_of q bytes) h
    by false h = no_end at (q ∷ bytes) rest ending h

no_equals : (end at : ℕ) (name text rest : List ℕ) (ending : Ending) → equals_at end at name text ≡ was_read (Ends ending, rest) → ⊥
unfolding equals_at
no_equals end at name [] rest ending e = cc
no_equals end at name (b ∷ bytes) rest ending e = by (b == 61) e
  where
    by : (t : Bool) → cond t (quoted_at end at name (past is_blank bytes)) (broken_at at (b ∷ bytes)) ≡ was_read (Ends ending, rest) → ⊥
    by true h = no_quoted end at name (past is_blank bytes) rest ending h
    by false h = no_end at (b ∷ bytes) rest ending h

end_taken_on : (end : ℕ) (glued : Bool) (text rest : List ℕ) (ending : Ending) → part_on end glued text ≡ was_read (Ends ending, rest) →
    text ≡ ending_text ending ++ rest
unfolding part_on named_at
end_taken_on end glued [] rest ending e = absurd (cc)
end_taken_on end glued (b ∷ bytes) rest ending e = by (b == 62) (b == 47) (begins_name b) glued refl refl e
  where
    by : (s t u g : Bool) → (b == 62) ≡ s → (b == 47) ≡ t
        → cond s (was_read (Ends Opens, bytes)) (cond t (slash_at bytes)
        (cond u (cond g (broken_at (offset end (b ∷ bytes)) (b ∷ bytes)) (named_at end (b ∷ bytes))) (Err Bad)))
        ≡ was_read (Ends ending, rest)
        → b ∷ bytes ≡ ending_text ending ++ rest
    by true t u g is it h =
        let both = same_read (Ends Opens, bytes) (Ends ending, rest) h in
        let piece : Ends Opens ≡ Ends ending = ap (λ (x : TagPart × List ℕ). x.0) both in
        let same : Opens ≡ ending = cc in
        let after : bytes ≡ rest = ap (λ (x : TagPart × List ℕ). x.1) both in
        ap (λ c. c ∷ bytes) (eqb-true b 62 is) ∙ ap (λ r. ending_text Opens ++ r) after ∙ ap (λ f. ending_text f ++ rest) same
    by false true u g is it h = ap (λ c. c ∷ bytes) (eqb-true b 47 it) ∙ slash_taken bytes rest ending h
    by false false true true is it h = absurd (no_end (offset end (b ∷ bytes)) (b ∷ bytes) rest ending h)
    by false false true false is it h =
        absurd (no_equals end (offset end (b ∷ bytes)) (take_while is_name_byte (b ∷ bytes))
        (past is_blank (past is_name_byte (b ∷ bytes))) rest ending h)
    by false false false g is it h = absurd (cc)

pub end_taken : (end : ℕ) (text rest : List ℕ) (ending : Ending) → part_at end text ≡ Ok (Ends ending, rest) → TakesEnd text ending rest
unfolding part_at
end_taken end text rest ending e = record {
  gap = take_while is_blank text;
  whole =
      sym (run_past is_blank text) ∙ ap (λ r. take_while is_blank text ++ r)
      (end_taken_on end (length (past is_blank text) == length text) (past is_blank text) rest ending e);
  blank = run_passes is_blank text;
}

abbrev done : BodyText × List ℕ → Bodies
done x = Ok x

same_done : (x y : BodyText × List ℕ) → done x ≡ done y → x ≡ y
same_done x y e = cc

ReadsOn : ℕ → ℕ → Type 0
ReadsOn more end =
    (so_far : List Written) (text : List ℕ) (body : BodyText) (rest : List ℕ) → body_within more end so_far text ≡ Ok (body, rest) →
    body.malformed ≡ None → TakesBody so_far text body rest

abbrev stepped_to : Step × List ℕ → Result (Step × List ℕ) TagStop
stepped_to x = Ok x

same_step : (x y : Step × List ℕ) → stepped_to x ≡ stepped_to y → x ≡ y
same_step x y e = cc

from_end : (end : ℕ) (so_far : List Written) (text : List ℕ) (ending : Ending) (middle rest : List ℕ) (body : BodyText) →
    part_at end text ≡ Ok (Ends ending, middle)
    → done (record { attrs = so_far; malformed = None; ending = ending }, middle) ≡ done (body, rest) → TakesBody so_far text body rest
from_end end so_far text ending middle rest body part e =
    let first : BodyText = record { attrs = so_far; malformed = None; ending = ending } in
    let both = same_done (first, middle) (body, rest) e in
    let it : first ≡ body = ap (λ (x : BodyText × List ℕ). x.0) both in
    let after : middle ≡ rest = ap (λ (x : BodyText × List ℕ). x.1) both in
    let taken = end_taken end text middle ending part in
    let P : BodyText → Type 0 = λ b. TakesBody so_far text b rest in
    subst P it (record {
      attrs = [];
      bytes = taken.gap ++ ending_text ending;
      whole = taken.whole ∙ ap (λ r. taken.gap ++ (ending_text ending ++ r)) after ∙ sym (append_assoc taken.gap (ending_text ending) rest);
      attrs_are = sym (append-nil so_far);
      is = record { attributes = []; gap = taken.gap; whole = refl; are = NoMore; gap_blank = taken.blank };
    })

from_attribute : (end : ℕ) (so_far : List Written) (text : List ℕ) (a : Written) (middle rest : List ℕ) (body : BodyText) →
    part_at end text ≡ Ok (Has a, middle)
    → TakesBody (so_far ++ a ∷ []) middle body rest → TakesBody so_far text body rest
from_attribute end so_far text a middle rest body part on =
    let front = read_attribute end text middle a part in
    record {
      attrs = a ∷ on.attrs;
      bytes = front.bytes ++ on.bytes;
      whole = front.whole ∙ ap (λ r. front.bytes ++ r) on.whole ∙ sym (append_assoc front.bytes on.bytes rest);
      attrs_are = on.attrs_are ∙ append_assoc so_far (a ∷ []) on.attrs;
      is = record {
        attributes = front.bytes ++ on.is.attributes;
        gap = on.is.gap;
        whole = ap (λ b. front.bytes ++ b) on.is.whole ∙ sym (append_assoc front.bytes on.is.attributes
            (on.is.gap ++ ending_text body.ending));
        are = OneMore front.bytes on.is.attributes (pair_of a) (map pair_of on.attrs) front.is on.is.are;
        gap_blank = on.is.gap_blank;
      };
    }

from_piece : (more end : ℕ) (so_far : List Written) (text : List ℕ) (piece : TagPart) (middle rest : List ℕ) (body : BodyText) →
    ReadsOn more end → part_at end text ≡ Ok (piece, middle)
    → go_on (λ next r. body_within more end next r) (step_of so_far piece, middle) ≡ Ok (body, rest) → body.malformed ≡ None
    → TakesBody so_far text body rest
unfolding ReadsOn
from_piece more end so_far text (Has a) middle rest body again part e whole =
    from_attribute end so_far text a middle rest body part (again (so_far ++ a ∷ []) middle body rest e whole)
from_piece more end so_far text (Ends ending) middle rest body again part e whole = from_end end so_far text ending middle rest body part e
from_piece more end so_far text (Broken at) middle rest body again part e whole =
    let first : BodyText = record { attrs = so_far; malformed = Some at; ending = Opens } in
    let both = same_done (first, middle) (body, rest) e in
    let broken : Some at ≡ body.malformed = ap (λ (x : BodyText × List ℕ). x.0.malformed) both in
    let none : Some at ≡ None = broken ∙ whole in
    absurd (cc)

taken_body : (more end : ℕ) → ReadsOn more end
unfolding ReadsOn body_step
taken_body zero end so_far text body rest e whole = absurd (cc)
taken_body (suc more) end so_far text body rest e whole =
    let stepped =
    bind_ok (part_at end text >>= λ x. Ok (step_of so_far x.0, x.1)) (λ x. go_on (λ next r. body_within more end next r) x)
    (body, rest) e in
    let parted = bind_ok (part_at end text) (λ x. Ok (step_of so_far x.0, x.1)) stepped.0 stepped.1 in
    let piece = parted.0.0 in
    let middle = parted.0.1 in
    let P : Step × List ℕ → Type 0 = λ s. go_on (λ next r. body_within more end next r) s ≡ Ok (body, rest) in
    let same = same_step (step_of so_far piece, middle) stepped.0 parted.2 in
    from_piece more end so_far text piece middle rest body (λ s t b r h w. taken_body more end s t b r h w) parted.1
    (subst P (sym same) stepped.2) whole

pub taken_body_at : (end : ℕ) (text : List ℕ) (body : BodyText) (rest : List ℕ) → body_at end text ≡ Ok (body, rest) →
    body.malformed ≡ None → TakesBody [] text body rest
unfolding body_at ReadsOn
taken_body_at end text body rest e whole = taken_body (length text + 1) end [] text body rest e whole
