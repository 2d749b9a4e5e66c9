-- An attribute is read as what it spells.
use Rattle.std.proofs.Common.{◌≡◌, ◌≢◌, ℕ, ◌-◌, Bool, true, false, cond, ◌==◌, List, [], ◌∷◌, ◌++◌, length, Option, None, Some, Ok, Err}
use Rattle.std.proofs.Common.{refl, sym, ap, ◌∙◌, subst, append_assoc, arith}
use Rattle.std.specs.List.{list_any, take_while}
use Rattle.std.proofs.lemmas.List.Sums.{take_while-cons}
use Rattle.std.proofs.lemmas.List.{length-append, append_cancel_left}
use Rattle.std.proofs.lemmas.Bool.Decides.{nat_tests}
use Rattle.std.proofs.lemmas.Bool.{eqb-true}
use Rattle.fs_text.specs.Words.{is_byte, halves_of}
use Rattle.fs_text.proofs.Cuts.{cut_behind, halved}
use Rattle.fs_xml.specs.declared.stop.TagStop.TheVariants.{Bad}
use Rattle.fs_xml.specs.declared.attribute.Ending.TheVariants.{Opens, Closes}
use Rattle.fs_xml.specs.Bytes.{is_blank, is_quote, is_mark, is_name_byte, begins_name, past, name_of, offset}
use Rattle.fs_xml.specs.Attributes.{Written, TagPart, Has, Ends, Broken, TagParts, tag_end, broken_at, valued_on, valued_at, quoted_at}
use Rattle.fs_xml.specs.Attributes.{equals_at, named_at, slash_at, part_on, part_at}
use Rattle.fs_xml.proofs.ByteLemmas.{run_past}
use Rattle.fs_spelling.specs.Tags.{Pair, AreBlank, IsName, IsAttribute, Stops}
use Rattle.fs_spelling.specs.Readings.{pair_of, ReadsAttribute, TakesAttribute}
use Rattle.fs_spelling.specs.Marks.{IsWritten}
use Rattle.fs_spelling.proofs.Binds.{bind_ok}
use Rattle.fs_spelling.proofs.Runs.{past_run, the_run, run_passes, name_byte, first_byte, no_mark, quote_stops, gap_stops}
use Rattle.fs_spelling.proofs.Runs.{name_passes, name_stops}

-- ---- what is spelt is read

-- the parts of an attribute, and what stands behind it
abbrev pub Attribute : (name gap behind : List ℕ) (quote : ℕ) (value rest : List ℕ) → List ℕ
Attribute name gap behind quote value rest = name ++ (gap ++ (61 ∷ (behind ++ (quote ∷ (value ++ (quote ∷ rest))))))

pub seam : (before name gap behind : List ℕ) (quote : ℕ) (value rest : List ℕ)
    → (before ++ (name ++ (gap ++ (61 ∷ (behind ++ (quote ∷ (value ++ (quote ∷ [])))))))) ++ rest ≡ before
    ++ Attribute name gap behind quote value rest
seam before name gap behind quote value rest = simp append_assoc

pub equals_stops : (is_name_byte 61 ≡ false) × (is_blank 61 ≡ false)
unfolding is_name_byte is_blank is_quote is_mark
equals_stops = (refl, refl)

not_glued : (before bytes : List ℕ) → before ≢ [] → (length bytes == length (before ++ bytes)) ≡ false
not_glued [] bytes apart = absurd (apart refl)
not_glued (b ∷ before) bytes apart = let longer = length-append before bytes in grind (arith, nat_tests)

part_named : (end : ℕ) (b : ℕ) (bytes : List ℕ) → begins_name b ≡ true → part_on end false (b ∷ bytes) ≡ named_at end (b ∷ bytes)
unfolding part_on
part_named end b bytes begins =
    let no = no_mark b (name_byte b (first_byte b begins)).no_mark in
    rw (no.no_greater, no.no_slash, begins) refl

pub name_read : (end : ℕ) (name bytes : List ℕ) → IsName name → part_on end false (name ++ bytes) ≡ named_at end (name ++ bytes)
name_read end name bytes is =
    let P : List ℕ → Type 0 = λ n. part_on end false (n ++ bytes) ≡ named_at end (n ++ bytes) in
    subst P (sym is.whole) (part_named end is.first (is.others ++ bytes) is.begins)

-- blanks in front of a part are passed
pub part_behind : (end : ℕ) (before bytes : List ℕ) → before ≢ [] → AreBlank before → Stops is_blank bytes →
    part_at end (before ++ bytes) ≡ part_on end false bytes
unfolding part_at
part_behind end before bytes apart blank stops =
    ap (λ rest. part_on end (length rest == length (before ++ bytes)) rest) (past_run is_blank before bytes blank stops)
    ∙ ap (λ glued. part_on end glued bytes) (not_glued before bytes apart)

quoted_read : (end at : ℕ) (name : List ℕ) (quote : ℕ) (value rest : List ℕ) → is_quote quote ≡ true →
    halves_of quote (value ++ (quote ∷ rest)) ≡ Some (value, rest)
    → quoted_at end at name (quote ∷ (value ++ (quote ∷ rest)))
    ≡ Ok (Has (record { at = at; name = name; value = value; end = offset end rest - 1 }), rest)
unfolding quoted_at valued_at
quoted_read end at name quote value rest quotes parts = rw quotes (ap (valued_on end at name) parts)

equals_read : (end at : ℕ) (name behind : List ℕ) (quote : ℕ) (value rest : List ℕ) → AreBlank behind → is_quote quote ≡ true →
    halves_of quote (value ++ (quote ∷ rest)) ≡ Some (value, rest)
    → equals_at end at name (61 ∷ (behind ++ (quote ∷ (value ++ (quote ∷ rest)))))
    ≡ Ok (Has (record { at = at; name = name; value = value; end = offset end rest - 1 }), rest)
unfolding equals_at
equals_read end at name behind quote value rest blank quotes parts =
    ap (quoted_at end at name) (past_run is_blank behind (quote ∷ (value ++ (quote ∷ rest))) blank (quote_stops quote quotes).0)
    ∙ quoted_read end at name quote value rest quotes parts

pub named_read : (end : ℕ) (name gap more : List ℕ) → IsName name → AreBlank gap →
    named_at end (name ++ (gap ++ (61 ∷ more))) ≡ equals_at end (offset end (name ++ (gap ++ (61 ∷ more)))) name (61 ∷ more)
unfolding named_at
named_read end name gap more is blank =
    let whole = name ++ (gap ++ (61 ∷ more)) in
    let at = offset end whole in
    let stops = gap_stops gap (61 ∷ more) blank equals_stops.0 in
    let passes = name_passes name is in
    ap (λ n. equals_at end at n (past is_blank (past is_name_byte whole))) (the_run is_name_byte name (gap ++ (61 ∷ more)) passes stops)
    ∙ ap (λ rest. equals_at end at name (past is_blank rest)) (past_run is_name_byte name (gap ++ (61 ∷ more)) passes stops)
    ∙ ap (equals_at end at name) (past_run is_blank gap (61 ∷ more) blank equals_stops.1)

-- an attribute as it is read in front of a rest
abbrev pub written_as_it_is : (end : ℕ) (bytes rest : List ℕ) (pair : Pair) → IsAttribute bytes pair → Written
written_as_it_is end bytes rest pair is = record {
  at = offset end (Attribute pair.name is.gap is.gap_behind is.quote pair.value rest);
  name = pair.name;
  value = pair.value;
  end = offset end rest - 1;
}

pub attribute_at : (end : ℕ) (bytes rest : List ℕ) (pair : Pair) (is : IsAttribute bytes pair) →
    part_at end (bytes ++ rest) ≡ Ok (Has (written_as_it_is end bytes rest pair is), rest)
attribute_at end bytes rest pair is =
    let more = is.gap_behind ++ (is.quote ∷ (pair.value ++ (is.quote ∷ rest))) in
    let behind = pair.name ++ (is.gap ++ (61 ∷ more)) in
    let at = offset end behind in
    let whole : bytes ++ rest ≡ is.before ++ behind =
    ap (λ b. b ++ rest) is.whole ∙ seam is.before pair.name is.gap is.gap_behind is.quote pair.value rest in
    ap (part_at end) whole
    ∙ part_behind end is.before behind is.apart is.before_blank (name_stops pair.name (is.gap ++ (61 ∷ more)) is.is_name)
    ∙ name_read end pair.name (is.gap ++ (61 ∷ more)) is.is_name
    ∙ named_read end pair.name is.gap more is.is_name is.gap_blank
    ∙ equals_read end at pair.name is.gap_behind is.quote pair.value rest is.behind_blank is.quotes
    (cut_behind is.quote pair.value rest is.unbroken)

pub spelt_attribute : (end : ℕ) (bytes rest : List ℕ) (pair : Pair) → IsAttribute bytes pair → ReadsAttribute end (bytes ++ rest) rest pair
spelt_attribute end bytes rest pair is = record {
  written = written_as_it_is end bytes rest pair is;
  read = attribute_at end bytes rest pair is;
  same = refl;
}

-- with the offsets that it has there
pub written_read : (end : ℕ) (bytes rest : List ℕ) (a : Written) → IsWritten end bytes rest a →
    part_at end (bytes ++ rest) ≡ Ok (Has a, rest)
written_read end bytes rest a w =
    let is = w.is in
    let named : List ℕ = a.name ++ (is.gap ++ (61 ∷ (is.gap_behind ++ (is.quote ∷ (a.value ++ (is.quote ∷ [])))))) in
    let same : w.named ≡ named = append_cancel_left is.before w.named named (sym w.whole ∙ is.whole) in
    let place : a.at ≡ offset end (Attribute a.name is.gap is.gap_behind is.quote a.value rest) =
    w.place ∙ ap (λ t. offset end (t ++ rest)) same ∙ ap (offset end) (seam [] a.name is.gap is.gap_behind is.quote a.value rest) in
    attribute_at end bytes rest (pair_of a) is
    ∙ ap (λ n. Ok (Has (record { at = n; name = a.name; value = a.value; end = offset end rest - 1 }), rest)) (sym place)
    ∙ ap (λ n. Ok (Has (record { at = a.at; name = a.name; value = a.value; end = n }), rest)) (sym w.place_behind)

-- ---- what is read is spelt

abbrev pub was_read : TagPart × List ℕ → TagParts
was_read x = Ok x

pub same_read : (x y : TagPart × List ℕ) → was_read x ≡ was_read y → x ≡ y
same_read x y e = cc

-- only what has an attribute is read as one
no_other : (piece : TagPart) (rest more : List ℕ) (a : Written) → was_read (piece, rest) ≡ was_read (Has a, more) → piece ≡ Has a
no_other piece rest more a e = ap (λ (x : TagPart × List ℕ). x.0) (same_read (piece, rest) (Has a, more) e)

no_malformed : (at : ℕ) (bytes rest : List ℕ) (a : Written) → broken_at at bytes ≡ was_read (Has a, rest) → ⊥
unfolding broken_at
no_malformed at bytes rest a e =
    let went = bind_ok (tag_end None bytes) (λ behind. was_read (Broken at, behind)) (Has a, rest) e in
    let piece : Broken at ≡ Has a = no_other (Broken at) went.0 rest a went.2 in
    cc

-- the value in quotes
pub record Quoted (end at : ℕ) (name text rest : List ℕ) (a : Written) : Type 0 where
  pub quote : ℕ
  pub whole : text ≡ quote ∷ (a.value ++ (quote ∷ rest))
  pub quotes : is_quote quote ≡ true
  pub unbroken : list_any (is_byte quote) a.value ≡ false
  pub named : a.name ≡ name
  pub place : a.at ≡ at
  pub place_behind : a.end ≡ offset end rest - 1

valued_taken : (end at : ℕ) (name : List ℕ) (quote : ℕ) (bytes rest : List ℕ) (a : Written) (found : Option (List ℕ × List ℕ)) →
    halves_of quote bytes ≡ found → is_quote quote ≡ true
    → valued_on end at name found ≡ was_read (Has a, rest) → Quoted end at name (quote ∷ bytes) rest a
valued_taken end at name quote bytes rest a None is quotes e = absurd (cc)
valued_taken end at name quote bytes rest a (Some x) is quotes e =
    let w : Written = record { at = at; name = name; value = x.0; end = offset end x.1 - 1 } in
    let both = same_read (Has w, x.1) (Has a, rest) e in
    let piece : Has w ≡ Has a = ap (λ (y : TagPart × List ℕ). y.0) both in
    let it : w ≡ a = cc in
    let after : x.1 ≡ rest = ap (λ (y : TagPart × List ℕ). y.1) both in
    let value : x.0 ≡ a.value = ap (λ (y : Written). y.value) it in
    let parts = halved quote bytes x.0 x.1 is in
    record {
      quote = quote;
      whole = ap (λ b. quote ∷ b) (parts.1 ∙ ap (λ v. v ++ (quote ∷ x.1)) value ∙ ap (λ r. a.value ++ (quote ∷ r)) after);
      quotes = quotes;
      unbroken = ap (list_any (is_byte quote)) (sym value) ∙ parts.0;
      named = sym (ap (λ (y : Written). y.name) it);
      place = sym (ap (λ (y : Written). y.at) it);
      place_behind = sym (ap (λ (y : Written). y.end) it) ∙ ap (λ r. offset end r - 1) after;
    }

quoted_taken : (end at : ℕ) (name text rest : List ℕ) (a : Written) → quoted_at end at name text ≡ was_read (Has a, rest) →
    Quoted end at name text rest a
unfolding quoted_at valued_at
quoted_taken end at name [] rest a e = absurd (cc)
quoted_taken end at name (q ∷ bytes) rest a e = by (is_quote q) refl e
  where
    by : (t : Bool) → is_quote q ≡ t → cond t (valued_on end at name (halves_of q bytes)) (broken_at at (q ∷ bytes))
        ≡ was_read (Has a, rest) → Quoted end at name (q ∷ bytes) rest a
    by true quotes h = valued_taken end at name q bytes rest a (halves_of q bytes) refl quotes h
    by false other h = absurd (no_malformed at (q ∷ bytes) rest a h)

-- the `=`, and what stands behind it
pub record Equals (end at : ℕ) (name text rest : List ℕ) (a : Written) : Type 0 where
  pub gap : List ℕ
  pub blank : AreBlank gap
  pub behind : List ℕ
  pub whole : text ≡ 61 ∷ (gap ++ behind)
  pub quoted : Quoted end at name behind rest a

equals_taken : (end at : ℕ) (name text rest : List ℕ) (a : Written) → equals_at end at name text ≡ was_read (Has a, rest) →
    Equals end at name text rest a
unfolding equals_at
equals_taken end at name [] rest a e = absurd (cc)
equals_taken end at name (b ∷ bytes) rest a e = by (b == 61) refl e
  where
    by : (t : Bool) → (b == 61) ≡ t → cond t (quoted_at end at name (past is_blank bytes)) (broken_at at (b ∷ bytes))
        ≡ was_read (Has a, rest) → Equals end at name (b ∷ bytes) rest a
    by true equals h = record {
      gap = take_while is_blank bytes;
      blank = run_passes is_blank bytes;
      behind = past is_blank bytes;
      whole = ap (λ c. c ∷ bytes) (eqb-true b 61 equals) ∙ ap (λ r. 61 ∷ r) (sym (run_past is_blank bytes));
      quoted = quoted_taken end at name (past is_blank bytes) rest a h;
    }
    by false other h = absurd (no_malformed at (b ∷ bytes) rest a h)

-- a part that is an attribute begins with a name behind blanks
pub record Named (end : ℕ) (glued : Bool) (text rest : List ℕ) (a : Written) : Type 0 where
  pub apart : glued ≡ false
  pub first : ℕ
  pub others : List ℕ
  pub whole : text ≡ first ∷ others
  pub begins : begins_name first ≡ true
  pub named : named_at end text ≡ was_read (Has a, rest)

no_slash : (bytes rest : List ℕ) (a : Written) → slash_at bytes ≡ was_read (Has a, rest) → ⊥
unfolding slash_at
no_slash [] rest a e = cc
no_slash (b ∷ bytes) rest a e = by (b == 62) e
  where
    by : (t : Bool) → cond t (was_read (Ends Closes, bytes)) (Err Bad) ≡ was_read (Has a, rest) → ⊥
    by true h = let piece : Ends Closes ≡ Has a = no_other (Ends Closes) bytes rest a h in cc
    by false h = cc

part_taken : (end : ℕ) (glued : Bool) (text rest : List ℕ) (a : Written) → part_on end glued text ≡ was_read (Has a, rest) →
    Named end glued text rest a
unfolding part_on
part_taken end glued [] rest a e = absurd (cc)
part_taken end glued (b ∷ bytes) rest a e = by (b == 62) (b == 47) (begins_name b) glued refl refl e
  where
    by : (s t u g : Bool) → begins_name b ≡ u → glued ≡ g
        → cond s (was_read (Ends Opens, bytes)) (cond t (slash_at bytes)
        (cond u (cond g (broken_at (offset end (b ∷ bytes)) (b ∷ bytes)) (named_at end (b ∷ bytes))) (Err Bad))) ≡ was_read (Has a, rest)
        → Named end glued (b ∷ bytes) rest a
    by true t u g begins is h = let piece : Ends Opens ≡ Has a = no_other (Ends Opens) bytes rest a h in absurd (cc)
    by false true u g begins is h = absurd (no_slash bytes rest a h)
    by false false true true begins is h = absurd (no_malformed (offset end (b ∷ bytes)) (b ∷ bytes) rest a h)
    by false false true false begins is h = record { apart = is; first = b; others = bytes; whole = refl; begins = begins; named = h }
    by false false false g begins is h = absurd (cc)

-- blanks that were passed are some
pub passed : (text : List ℕ) → (length (past is_blank text) == length text) ≡ false → take_while is_blank text ≢ []
passed text longer none =
    let whole = run_past is_blank text in
    let same : past is_blank text ≡ text = ap (λ r. r ++ past is_blank text) (sym none) ∙ whole in
    let equal : length (past is_blank text) ≡ length text = ap length same in
    grind (arith, nat_tests)

pub name_is : (text : List ℕ) (first : ℕ) (others : List ℕ) → text ≡ first ∷ others → begins_name first ≡ true → IsName (name_of text)
name_is text first others whole begins =
    let passes : is_name_byte first ≡ true = first_byte first begins in
    record {
      first = first;
      others = take_while is_name_byte others;
      whole = ap name_of whole ∙ rw (take_while-cons, passes) refl;
      begins = begins;
      goes_on = run_passes is_name_byte others;
    }

-- an attribute with its offsets in front, and the rest
pub record TakesWritten (end : ℕ) (text rest : List ℕ) (a : Written) : Type 0 where
  pub bytes : List ℕ
  pub whole : text ≡ bytes ++ rest
  pub is : IsWritten end bytes rest a

pub read_written : (end : ℕ) (text rest : List ℕ) (a : Written) → part_at end text ≡ Ok (Has a, rest) → TakesWritten end text rest a
unfolding part_at named_at
read_written end text rest a e =
    let before = take_while is_blank text in
    let body = past is_blank text in
    let part = part_taken end (length body == length text) body rest a e in
    let name = name_of body in
    let behind = past is_name_byte body in
    let gap = take_while is_blank behind in
    let equals = equals_taken end (offset end body) name (past is_blank behind) rest a part.named in
    let quoted = equals.quoted in
    let is_name = name_is body part.first part.others part.whole part.begins in
    let tail = gap ++ (61 ∷ (equals.gap ++ (quoted.quote ∷ (a.value ++ (quoted.quote ∷ rest))))) in
    let behind_is : behind ≡ tail =
    sym (run_past is_blank behind) ∙ ap (λ r. gap ++ r) (equals.whole ∙ ap (λ r. 61 ∷ (equals.gap ++ r)) quoted.whole) in
    let body_is : body ≡ Attribute a.name gap equals.gap quoted.quote a.value rest =
    sym (run_past is_name_byte body) ∙ ap (λ r. name ++ r) behind_is ∙ ap (λ n. n ++ tail) (sym quoted.named) in
    let whole : text ≡ before ++ Attribute a.name gap equals.gap quoted.quote a.value rest =
    sym (run_past is_blank text) ∙ ap (λ r. before ++ r) body_is in
    let named : List ℕ = a.name ++ (gap ++ (61 ∷ (equals.gap ++ (quoted.quote ∷ (a.value ++ (quoted.quote ∷ [])))))) in
    record {
      bytes = before ++ named;
      whole = whole ∙ sym (seam before a.name gap equals.gap quoted.quote a.value rest);
      is = record {
        is = record {
          before = before;
          gap = gap;
          gap_behind = equals.gap;
          quote = quoted.quote;
          whole = refl;
          apart = passed text part.apart;
          before_blank = run_passes is_blank text;
          gap_blank = run_passes is_blank behind;
          behind_blank = equals.blank;
          is_name = subst IsName (sym quoted.named) is_name;
          quotes = quoted.quotes;
          unbroken = quoted.unbroken;
        };
        named = named;
        whole = refl;
        place = quoted.place ∙ ap (offset end) (body_is ∙ sym (seam [] a.name gap equals.gap quoted.quote a.value rest));
        place_behind = quoted.place_behind;
      };
    }

pub read_attribute : (end : ℕ) (text rest : List ℕ) (a : Written) → part_at end text ≡ Ok (Has a, rest) →
    TakesAttribute text rest (pair_of a)
read_attribute end text rest a e =
    let taken = read_written end text rest a e in
    record { bytes = taken.bytes; whole = taken.whole; is = taken.is.is }
