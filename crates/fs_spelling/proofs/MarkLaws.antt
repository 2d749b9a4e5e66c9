-- Comments and tags are read as what they spell.
use Rattle.std.proofs.Common.{◌≡◌, ℕ, Bool, true, false, cond, ◌&&◌, ◌==◌, nat_eq, List, [], ◌∷◌, ◌++◌, map, drop, Result, Ok, Err, codes}
use Rattle.std.proofs.Common.{refl, sym, ap, ◌∙◌, subst, append_assoc}
use Rattle.std.specs.List.{take_while, starts_with}
use Rattle.std.proofs.lemmas.Bool.{eqb-true}
use Rattle.fs_xml.specs.declared.stop.TagStop.{TagStop}
use Rattle.fs_xml.specs.declared.stop.TagStop.TheVariants.{Cut, Bad}
use Rattle.fs_xml.specs.declared.attribute.Ending.{Ending}
use Rattle.fs_xml.specs.Results.{◌>>=◌}
use Rattle.fs_xml.specs.Bytes.{is_blank, is_quote, is_mark, is_name_byte, begins_name, past, name_of}
use Rattle.fs_xml.specs.Attributes.{Written}
use Rattle.fs_xml.specs.Tags.{BodyText, body_at}
use Rattle.fs_xml.specs.Markup.{Mark, Comment, End, Start, Marks, comment_end, second_dash_at, comment_at, closed_at, end_at, start_at}
use Rattle.fs_xml.specs.Markup.{mark_at}
use Rattle.fs_xml.proofs.ByteLemmas.{run_past}
use Rattle.fs_spelling.specs.Tags.{Pair, AreBlank, IsName, IsBody, IsTag, IsEndTag, IsComment}
use Rattle.fs_spelling.specs.Readings.{pair_of, ReadsTag, Takes, TakesMark}
use Rattle.fs_spelling.proofs.Binds.{bind_ok}
use Rattle.fs_spelling.proofs.Runs.{past_run, the_run, run_passes, name_byte, first_byte, no_declared, no_mark, gap_stops, name_passes}
use Rattle.fs_spelling.proofs.AttributeLaws.{name_is}
use Rattle.fs_spelling.proofs.BodyLaws.{spelt_body_at, taken_body_at, body_stops}

-- ---- comments

abbrev Rests : Type 0
Rests = Result (List ℕ) TagStop

abbrev pub tail_stands : List ℕ → Bool
tail_stands bytes = starts_with nat_eq bytes (codes "-->")

and_never : (x : Bool) → (x && false) ≡ true → ⊥
and_never true e = cc
and_never false e = cc

and_never_on : (x y : Bool) → (x && (y && false)) ≡ true → ⊥
and_never_on true y e = and_never y e
and_never_on false y e = cc

one_byte : (a : ℕ) → tail_stands (a ∷ []) ≡ true → ⊥
one_byte a e = and_never _ e

two_bytes : (a b : ℕ) → tail_stands (a ∷ (b ∷ [])) ≡ true → ⊥
two_bytes a b e = and_never_on _ _ e

-- what is read behind a byte where no tail stands
goes_on : (t : Bool) (b : ℕ) (bytes rest : List ℕ) → (t ≡ true → ⊥) → cond t (Ok (drop 3 (b ∷ bytes))) (comment_end bytes) ≡ Ok rest →
    comment_end bytes ≡ Ok rest
goes_on true b bytes rest never e = absurd (never refl)
goes_on false b bytes rest never e = e

-- three bytes at least
record IsLong (bytes : List ℕ) : Type 0 where
  pub a : ℕ
  pub b : ℕ
  pub c : ℕ
  pub more : List ℕ
  pub whole : bytes ≡ a ∷ (b ∷ (c ∷ more))

-- a comment that ends has as many
ends_late : (body rest : List ℕ) → comment_end body ≡ Ok rest → IsLong body
ends_late [] rest e = absurd (cc)
ends_late (a ∷ []) rest e =
    let h = goes_on (tail_stands (a ∷ [])) a [] rest (one_byte a) e in absurd (cc)
ends_late (a ∷ (b ∷ [])) rest e =
    let h = goes_on (tail_stands (a ∷ (b ∷ []))) a (b ∷ []) rest (two_bytes a b) e in
    let k = goes_on (tail_stands (b ∷ [])) b [] rest (one_byte b) h in absurd (cc)
ends_late (a ∷ (b ∷ (c ∷ more))) rest e = record { a = a; b = b; c = c; more = more; whole = refl }

-- whatever follows three bytes, they are the tail or not
same_tail : (bytes more : List ℕ) → IsLong bytes → tail_stands (bytes ++ more) ≡ tail_stands bytes
same_tail bytes more long =
    let P : List ℕ → Type 0 = λ b. tail_stands (b ++ more) ≡ tail_stands b in
    subst P (sym long.whole) refl

same_drop : (bytes more : List ℕ) → IsLong bytes → drop 3 (bytes ++ more) ≡ drop 3 bytes ++ more
same_drop bytes more long =
    let P : List ℕ → Type 0 = λ b. drop 3 (b ++ more) ≡ drop 3 b ++ more in
    subst P (sym long.whole) refl

abbrev rested : List ℕ → Rests
rested rest = Ok rest

same_rest : (x y : List ℕ) → rested x ≡ rested y → x ≡ y
same_rest x y e = cc

-- more behind the tail is left
comment_on : (body rest more : List ℕ) → comment_end body ≡ Ok rest → comment_end (body ++ more) ≡ Ok (rest ++ more)
comment_on [] rest more e = absurd (cc)
comment_on (b ∷ body) rest more e = by (tail_stands (b ∷ body)) refl e (comment_on body rest more)
  where
    chosen_rest : (t : Bool) → cond t (rested (drop 3 (b ∷ body))) (comment_end body) ≡ Ok rest →
        (comment_end body ≡ Ok rest → comment_end (body ++ more) ≡ Ok (rest ++ more))
        → cond t (rested (drop 3 (b ∷ body) ++ more)) (comment_end (body ++ more)) ≡ Ok (rest ++ more)
    chosen_rest true h again = ap (λ r. rested (r ++ more)) (same_rest (drop 3 (b ∷ body)) rest h)
    chosen_rest false h again = again h

    by : (t : Bool) → tail_stands (b ∷ body) ≡ t → cond t (rested (drop 3 (b ∷ body))) (comment_end body) ≡ Ok rest
        → (comment_end body ≡ Ok rest → comment_end (body ++ more) ≡ Ok (rest ++ more))
        → comment_end (b ∷ (body ++ more)) ≡ Ok (rest ++ more)
    by t stands h again =
        let long = ends_late (b ∷ body) rest e in
        let tail : tail_stands (b ∷ (body ++ more)) ≡ t = same_tail (b ∷ body) more long ∙ stands in
        ap (λ u. cond u (rested (drop 3 (b ∷ (body ++ more)))) (comment_end (body ++ more))) tail
        ∙ ap (λ d. cond t (rested d) (comment_end (body ++ more))) (same_drop (b ∷ body) more long)
        ∙ chosen_rest t h again

-- the bytes of a comment, up to the end of its tail
pub record TakesBodyOf (text rest : List ℕ) : Type 0 where
  pub body : List ℕ
  pub whole : text ≡ body ++ rest
  pub ends : comment_end body ≡ Ok []

three_taken : (bytes rest : List ℕ) → IsLong bytes → tail_stands bytes ≡ true → drop 3 bytes ≡ rest → TakesBodyOf bytes rest
three_taken bytes rest long stands after =
    let P : List ℕ → Type 0 = λ b. tail_stands b ≡ true in
    let Q : List ℕ → Type 0 = λ b. drop 3 b ≡ rest in
    let front : List ℕ = long.a ∷ (long.b ∷ (long.c ∷ [])) in
    let tail : tail_stands (front ++ long.more) ≡ true = subst P long.whole stands in
    let short : tail_stands front ≡ true = tail in
    record {
      body = front;
      whole = long.whole ∙ ap (λ r. front ++ r) (subst Q long.whole after);
      ends = ap (λ t. cond t (rested []) (comment_end (long.b ∷ (long.c ∷ [])))) short;
    }

one_more : (a : ℕ) (text rest : List ℕ) → tail_stands (a ∷ text) ≡ false → TakesBodyOf text rest → TakesBodyOf (a ∷ text) rest
one_more a text rest none taken =
    let long = ends_late taken.body [] taken.ends in
    let longer : IsLong (a ∷ taken.body) =
    record { a = a; b = long.a; c = long.b; more = long.c ∷ long.more; whole = ap (λ b. a ∷ b) long.whole } in
    let tail : tail_stands (a ∷ taken.body) ≡ false =
    sym (same_tail (a ∷ taken.body) rest longer) ∙ ap (λ b. tail_stands (a ∷ b)) (sym taken.whole) ∙ none in
    record {
      body = a ∷ taken.body;
      whole = ap (λ b. a ∷ b) taken.whole;
      ends = ap (λ t. cond t (rested (drop 3 (a ∷ taken.body))) (comment_end taken.body)) tail ∙ taken.ends;
    }

pub comment_taken : (text rest : List ℕ) → comment_end text ≡ Ok rest → TakesBodyOf text rest
comment_taken [] rest e = absurd (cc)
comment_taken (a ∷ text) rest e = by (tail_stands (a ∷ text)) refl e (comment_taken text rest)
  where
    by : (t : Bool) → tail_stands (a ∷ text) ≡ t → cond t (rested (drop 3 (a ∷ text))) (comment_end text) ≡ Ok rest →
        (comment_end text ≡ Ok rest → TakesBodyOf text rest)
        → TakesBodyOf (a ∷ text) rest
    by true stands h again = three_taken (a ∷ text) rest (ends_late (a ∷ text) rest e) stands (same_rest (drop 3 (a ∷ text)) rest h)
    by false stands h again = one_more a text rest stands (again h)

pub spelt_comment : (end : ℕ) (bytes rest : List ℕ) → IsComment bytes → mark_at end (bytes ++ rest) ≡ Ok (Comment, rest)
unfolding mark_at comment_at second_dash_at
spelt_comment end bytes rest is =
    ap (λ b. mark_at end (b ++ rest)) is.whole
    ∙ ap (λ (r : Rests). r >>= λ behind. Ok (Comment, behind)) (comment_on is.body [] rest is.ends)

-- ---- end tags

end_begun : (b : ℕ) (bytes : List ℕ) → begins_name b ≡ true →
    end_at (b ∷ bytes) ≡ closed_at (name_of (b ∷ bytes)) (past is_blank (past is_name_byte (b ∷ bytes)))
unfolding end_at
end_begun b bytes begins = rw begins refl

pub begun_read : (name bytes : List ℕ) → IsName name →
    end_at (name ++ bytes) ≡ closed_at (name_of (name ++ bytes)) (past is_blank (past is_name_byte (name ++ bytes)))
begun_read name bytes is =
    let P : List ℕ → Type 0 =
    λ n. end_at (n ++ bytes) ≡ closed_at (name_of (n ++ bytes)) (past is_blank (past is_name_byte (n ++ bytes))) in
    subst P (sym is.whole) (end_begun is.first (is.others ++ bytes) is.begins)

pub greater_stops : (is_name_byte 62 ≡ false) × (is_blank 62 ≡ false)
unfolding is_name_byte is_blank is_quote is_mark
greater_stops = (refl, refl)

closed_read : (name gap rest : List ℕ) → IsName name → AreBlank gap → end_at (name ++ (gap ++ (62 ∷ rest))) ≡ Ok (End name, rest)
unfolding closed_at
closed_read name gap rest is blank =
    let tail = gap ++ (62 ∷ rest) in
    let stops = gap_stops gap (62 ∷ rest) blank greater_stops.0 in
    let passes = name_passes name is in
    begun_read name tail is
    ∙ ap (λ n. closed_at n (past is_blank (past is_name_byte (name ++ tail)))) (the_run is_name_byte name tail passes stops)
    ∙ ap (λ r. closed_at name (past is_blank r)) (past_run is_name_byte name tail passes stops)
    ∙ ap (closed_at name) (past_run is_blank gap (62 ∷ rest) blank greater_stops.1)

pub end_seam : (name gap rest : List ℕ) → (name ++ (gap ++ (62 ∷ []))) ++ rest ≡ name ++ (gap ++ (62 ∷ rest))
end_seam name gap rest = simp append_assoc

pub spelt_end : (end : ℕ) (bytes name rest : List ℕ) → IsEndTag bytes name → mark_at end (bytes ++ rest) ≡ Ok (End name, rest)
unfolding mark_at
spelt_end end bytes name rest is =
    ap (λ b. mark_at end (b ++ rest)) is.whole ∙ ap end_at (end_seam name is.gap rest)
    ∙ closed_read name is.gap rest is.is_name is.gap_blank

-- ---- start tags

started : (end b : ℕ) (bytes : List ℕ) → begins_name b ≡ true → mark_at end (b ∷ bytes) ≡ start_at end (b ∷ bytes)
unfolding mark_at
started end b bytes begins =
    let no = no_mark b (name_byte b (first_byte b begins)).no_mark in
    rw (no_declared b begins, no.no_slash, begins) refl

pub start_read : (end : ℕ) (name bytes : List ℕ) → IsName name → mark_at end (name ++ bytes) ≡ start_at end (name ++ bytes)
start_read end name bytes is =
    let P : List ℕ → Type 0 = λ n. mark_at end (n ++ bytes) ≡ start_at end (n ++ bytes) in
    subst P (sym is.whole) (started end is.first (is.others ++ bytes) is.begins)

abbrev Bodied : Type 0
Bodied = Result (BodyText × List ℕ) TagStop

pub spelt_tag : (end : ℕ) (bytes name : List ℕ) (pairs : List Pair) (ending : Ending) (rest : List ℕ) → IsTag bytes name pairs ending →
    ReadsTag end (bytes ++ rest) name pairs ending rest
unfolding start_at
spelt_tag end bytes name pairs ending rest is =
    let tail = is.body ++ rest in
    let whole : bytes ++ rest ≡ name ++ tail = ap (λ b. b ++ rest) is.whole ∙ append_assoc name is.body rest in
    let stops = body_stops is.body pairs ending rest is.is_body in
    let passes = name_passes name is.is_name in
    let body = spelt_body_at end is.body rest pairs ending is.is_body in
    record {
      attrs = body.0;
      same = body.1;
      read = ap (mark_at end) whole
          ∙ start_read end name tail is.is_name
          ∙ ap (λ n. body_at end (past is_name_byte (name ++ tail)) >>= λ x. Ok (Start n x.0, x.1))
          (the_run is_name_byte name tail passes stops)
          ∙ ap (λ r. body_at end r >>= λ x. Ok (Start name x.0, x.1)) (past_run is_name_byte name tail passes stops)
          ∙ ap (λ (r : Bodied). r >>= λ x. Ok (Start name x.0, x.1)) body.2;
    }

-- ---- what is read is spelt

abbrev marked : Mark × List ℕ → Marks
marked x = Ok x

same_mark : (x y : Mark × List ℕ) → marked x ≡ marked y → x ≡ y
same_mark x y e = cc

pub dashes_taken : (bytes rest : List ℕ) → comment_at bytes ≡ Ok rest → Takes IsComment (33 ∷ bytes) rest
unfolding comment_at second_dash_at
dashes_taken [] rest e = absurd (cc)
dashes_taken (b ∷ []) rest e = by (b == 45) e
  where
    by : (t : Bool) → cond t (Err Cut) (Err Bad) ≡ rested rest → Takes IsComment (33 ∷ (b ∷ [])) rest
    by true h = absurd (cc)
    by false h = absurd (cc)
dashes_taken (b ∷ (c ∷ bytes)) rest e = by (b == 45) (c == 45) refl refl e
  where
    by : (s t : Bool) → (b == 45) ≡ s → (c == 45) ≡ t → cond s (cond t (comment_end bytes) (Err Bad)) (Err Bad) ≡ rested rest →
        Takes IsComment (33 ∷ (b ∷ (c ∷ bytes))) rest
    by true true is it h =
        let taken = comment_taken bytes rest h in
        record {
          bytes = 33 ∷ (45 ∷ (45 ∷ taken.body));
          whole =
              ap (λ x. 33 ∷ (x ∷ (c ∷ bytes))) (eqb-true b 45 is) ∙ ap (λ x. 33 ∷ (45 ∷ (x ∷ bytes))) (eqb-true c 45 it)
              ∙ ap (λ r. 33 ∷ (45 ∷ (45 ∷ r))) taken.whole;
          is = record { body = taken.body; whole = refl; ends = taken.ends };
        }
    by true false is it h = absurd (cc)
    by false t is it h = absurd (cc)

-- the name of an end tag, and what stands behind it
closed_taken : (name text : List ℕ) (mark : Mark) (rest : List ℕ) → closed_at name text ≡ marked (mark, rest) →
    (End name ≡ mark) × (text ≡ 62 ∷ rest)
unfolding closed_at
closed_taken name [] mark rest e = absurd (cc)
closed_taken name (b ∷ bytes) mark rest e = by (b == 62) refl e
  where
    by : (t : Bool) → (b == 62) ≡ t → cond t (marked (End name, bytes)) (Err Bad) ≡ marked (mark, rest) →
        (End name ≡ mark) × (b ∷ bytes ≡ 62 ∷ rest)
    by true is h =
        let both = same_mark (End name, bytes) (mark, rest) h in
        let after : bytes ≡ rest = ap (λ (x : Mark × List ℕ). x.1) both in
        (ap (λ (x : Mark × List ℕ). x.0) both, ap (λ x. x ∷ bytes) (eqb-true b 62 is) ∙ ap (λ r. 62 ∷ r) after)
    by false is h = absurd (cc)

end_tag_taken : (text : List ℕ) (mark : Mark) (rest : List ℕ) → end_at text ≡ marked (mark, rest) → TakesMark mark (47 ∷ text) rest
unfolding end_at
end_tag_taken [] mark rest e = absurd (cc)
end_tag_taken (b ∷ bytes) mark rest e = by (begins_name b) refl e
  where
    by : (t : Bool) → begins_name b ≡ t → cond t (closed_at (name_of (b ∷ bytes)) (past is_blank (past is_name_byte (b ∷ bytes)))) (Err Bad)
        ≡ marked (mark, rest) → TakesMark mark (47 ∷ (b ∷ bytes)) rest
    by true begins h =
        let text = b ∷ bytes in
        let name = name_of text in
        let behind = past is_name_byte text in
        let gap = take_while is_blank behind in
        let closed = closed_taken name (past is_blank behind) mark rest h in
        let whole : text ≡ name ++ (gap ++ (62 ∷ rest)) =
        sym (run_past is_name_byte text) ∙ ap (λ r. name ++ r) (sym (run_past is_blank behind) ∙ ap (λ r. gap ++ r) closed.1) in
        let P : Mark → Type 0 = λ m. TakesMark m (47 ∷ text) rest in
        subst P closed.0 (record {
          bytes = 47 ∷ (name ++ (gap ++ (62 ∷ [])));
          whole = ap (λ r. 47 ∷ r) (whole ∙ sym (end_seam name gap rest));
          is = record { gap = gap; whole = refl; is_name = name_is text b bytes refl begins; gap_blank = run_passes is_blank behind };
        })
    by false begins h = absurd (cc)

start_taken : (end b : ℕ) (bytes : List ℕ) (mark : Mark) (rest : List ℕ) → begins_name b ≡ true →
    start_at end (b ∷ bytes) ≡ marked (mark, rest) → TakesMark mark (b ∷ bytes) rest
unfolding start_at
start_taken end b bytes mark rest begins e =
    let text = b ∷ bytes in
    let name = name_of text in
    let behind = past is_name_byte text in
    let went = bind_ok (body_at end behind) (λ x. marked (Start name x.0, x.1)) (mark, rest) e in
    let body = went.0.0 in
    let both = same_mark (Start name body, went.0.1) (mark, rest) went.2 in
    let after : went.0.1 ≡ rest = ap (λ (x : Mark × List ℕ). x.1) both in
    let P : Mark → Type 0 = λ m. TakesMark m text rest in
    subst P (ap (λ (x : Mark × List ℕ). x.0) both) (λ whole_body.
    let taken = taken_body_at end behind body went.0.1 went.1 whole_body in
    let attrs : body.attrs ≡ taken.attrs = taken.attrs_are in
    let Q : List Written → Type 0 = λ ws. IsBody taken.bytes (map pair_of ws) body.ending in
    record {
      bytes = name ++ taken.bytes;
      whole =
          sym (run_past is_name_byte text) ∙ ap (λ r. name ++ r) (taken.whole ∙ ap (λ r. taken.bytes ++ r) after)
          ∙ sym (append_assoc name taken.bytes rest);
      is = record { body = taken.bytes; whole = refl; is_name = name_is text b bytes refl begins; is_body = subst Q (sym attrs) taken.is };
    })

pub taken_mark : (end : ℕ) (text : List ℕ) (mark : Mark) (rest : List ℕ) → mark_at end text ≡ Ok (mark, rest) → TakesMark mark text rest
unfolding mark_at
taken_mark end [] mark rest e = absurd (cc)
taken_mark end (b ∷ bytes) mark rest e = by (b == 33) (b == 47) (begins_name b) refl refl refl e
  where
    by : (s t u : Bool) → (b == 33) ≡ s → (b == 47) ≡ t → begins_name b ≡ u
        → cond s (comment_at bytes >>= λ behind. marked (Comment, behind))
        (cond t (end_at bytes) (cond u (start_at end (b ∷ bytes)) (Err Bad))) ≡ marked (mark, rest) → TakesMark mark (b ∷ bytes) rest
    by true t u is it begins h =
        let went = bind_ok (comment_at bytes) (λ behind. marked (Comment, behind)) (mark, rest) h in
        let both = same_mark (Comment, went.0) (mark, rest) went.2 in
        let after : went.0 ≡ rest = ap (λ (x : Mark × List ℕ). x.1) both in
        let P : Mark → Type 0 = λ m. TakesMark m (b ∷ bytes) rest in
        let Q : ℕ → Type 0 = λ x. Takes IsComment (x ∷ bytes) rest in
        let R : List ℕ → Type 0 = λ r. Takes IsComment (33 ∷ bytes) r in
        subst P (ap (λ (x : Mark × List ℕ). x.0) both) (subst Q (sym (eqb-true b 33 is)) (subst R after (dashes_taken bytes went.0 went.1)))
    by false true u is it begins h =
        let P : ℕ → Type 0 = λ x. TakesMark mark (x ∷ bytes) rest in
        subst P (sym (eqb-true b 47 it)) (end_tag_taken bytes mark rest h)
    by false false true is it begins h = start_taken end b bytes mark rest begins h
    by false false false is it begins h = absurd (cc)
