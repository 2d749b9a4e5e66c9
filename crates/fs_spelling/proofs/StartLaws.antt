-- A tag with the offsets of its attributes, also with a malformed one; a tag that is cut short, and one that stays bad.
use Rattle.std.proofs.Common.{◌≡◌, ℕ, zero, suc, ◌+◌, ◌<◌, List, [], ◌∷◌, ◌++◌, length, map, Option, None, Some}
use Rattle.std.proofs.Common.{Result, Ok, Err, refl, sym, ap, ◌∙◌, subst, append_assoc, append-nil, arith}
use Rattle.std.specs.Option.{option_map}
use Rattle.std.proofs.lemmas.List.{length-append}
use Rattle.fs_xml.specs.declared.stop.TagStop.{TagStop}
use Rattle.fs_xml.specs.declared.stop.TagStop.TheVariants.{Cut, Bad}
use Rattle.fs_xml.specs.declared.attribute.Ending.{Ending}
use Rattle.fs_xml.specs.declared.attribute.Ending.TheVariants.{Opens}
use Rattle.fs_xml.specs.Results.{◌>>=◌}
use Rattle.fs_xml.specs.Bytes.{offset}
use Rattle.fs_xml.specs.Attributes.{Written, TagPart, Has, Ends, Broken, TagParts, tag_end, broken_at, part_at}
use Rattle.fs_xml.specs.Tags.{BodyText, Step, Done, step_of, Bodies, go_on, body_step, body_within, body_at}
use Rattle.fs_spelling.specs.Tags.{Pair, AreBlank, IsAttribute, AreAttributes, NoMore, OneMore, ending_text}
use Rattle.fs_spelling.specs.Readings.{pair_of}
use Rattle.fs_spelling.specs.Marks.{IsLoose, IsMalformed, IsTail, Well, Ill, IsWritten, AreWritten, NoneWritten, OneWritten}
use Rattle.fs_spelling.proofs.LooseLaws.{loose_read}
use Rattle.fs_spelling.proofs.AttributeLaws.{seam, written_as_it_is, spelt_attribute, written_read, read_written}
use Rattle.fs_spelling.proofs.BodyLaws.{end_read, end_taken, attribute_long}
use Rattle.fs_spelling.proofs.PartLaws.{malformed_read, GoesOn, PartRest, part_rest}

-- ---- with offsets and without

-- an attribute has offsets, whatever stands behind it
written_here : (end : ℕ) (bytes rest : List ℕ) (pair : Pair) (is : IsAttribute bytes pair) →
    IsWritten end bytes rest (written_as_it_is end bytes rest pair is)
written_here end bytes rest pair is =
    let named : List ℕ = pair.name ++ (is.gap ++ (61 ∷ (is.gap_behind ++ (is.quote ∷ (pair.value ++ (is.quote ∷ [])))))) in
    record {
      is = is;
      named = named;
      whole = is.whole;
      place = ap (offset end) (sym (seam [] pair.name is.gap is.gap_behind is.quote pair.value rest));
      place_behind = refl;
    }

pub all_written : (end : ℕ) (bytes rest : List ℕ) (pairs : List Pair) → AreAttributes bytes pairs →
    (attrs : List Written) × AreWritten end bytes rest attrs
all_written end bytes rest pairs NoMore = ([], NoneWritten end rest)
all_written end bytes rest pairs (OneMore front more pair others is are) =
    let on = all_written end more rest others are in
    let a = written_as_it_is end front (more ++ rest) pair is in
    (a ∷ on.0, OneWritten end front more rest a on.0 (written_here end front (more ++ rest) pair is) on.1)

pub all_attributes : (end : ℕ) (bytes rest : List ℕ) (attrs : List Written) → AreWritten end bytes rest attrs →
    AreAttributes bytes (map pair_of attrs)
all_attributes end bytes rest attrs (NoneWritten _ _) = NoMore
all_attributes end bytes rest attrs (OneWritten _ front more _ a others is are) =
    OneMore front more (pair_of a) (map pair_of others) is.is (all_attributes end more rest others are)

-- ---- what is spelt is read

abbrev pub broken_place : ℕ → List ℕ → Option (List ℕ) → Option ℕ
broken_place end rest malformed = option_map (λ text. offset end (text ++ rest)) malformed

-- with so many attributes in front, the rest of the tag says the same
pub body_over : (end : ℕ) (malformed : Option ℕ) (ending : Ending) (rest bytes behind : List ℕ) (attrs : List Written) →
    AreWritten end bytes behind attrs
    → ((more : ℕ) (so_far : List Written) → body_within (suc more) end so_far behind
    ≡ Ok (record { attrs = so_far; malformed = malformed; ending = ending }, rest))
    → (more : ℕ) (so_far : List Written) → length (bytes ++ behind) < more
    → body_within more end so_far (bytes ++ behind) ≡ Ok (record { attrs = so_far ++ attrs; malformed = malformed; ending = ending }, rest)
unfolding body_step
body_over end malformed ending rest bytes behind attrs are last zero so_far enough = absurd (omega arith)
body_over end malformed ending rest bytes behind attrs (NoneWritten _ _) last (suc more) so_far enough =
    last more so_far ∙ ap (λ (ws : List Written). Ok (record { attrs = ws; malformed = malformed; ending = ending }, rest))
    (sym (append-nil so_far))
body_over end malformed ending rest bytes behind attrs (OneWritten _ front others _ a more_attrs is are) last (suc more) so_far enough =
    let whole : (front ++ others) ++ behind ≡ front ++ (others ++ behind) = append_assoc front others behind in
    let fewer : length (others ++ behind) < more =
    omega (arith, attribute_long front (pair_of a) is.is, ap length whole, length-append front (others ++ behind), enough) in
    ap (body_within (suc more) end so_far) whole
    ∙ ap (λ (p : TagParts). (p >>= λ x. Ok (step_of so_far x.0, x.1)) >>= λ x. go_on (λ next r. body_within more end next r) x)
    (written_read end front (others ++ behind) a is)
    ∙ body_over end malformed ending rest others behind more_attrs are last more (so_far ++ a ∷ []) fewer
    ∙ ap (λ (ws : List Written). Ok (record { attrs = ws; malformed = malformed; ending = ending }, rest))
    (append_assoc so_far (a ∷ []) more_attrs)

one_part : (end : ℕ) (text rest : List ℕ) (malformed : Option ℕ) (ending : Ending) (piece : TagPart) →
    part_at end text ≡ Ok (piece, rest)
    → ((so_far : List Written) → step_of so_far piece ≡ Done (record { attrs = so_far; malformed = malformed; ending = ending }))
    → (more : ℕ) (so_far : List Written) → body_within (suc more) end so_far text
    ≡ Ok (record { attrs = so_far; malformed = malformed; ending = ending }, rest)
unfolding body_step
one_part end text rest malformed ending piece read steps more so_far =
    ap (λ (p : TagParts). (p >>= λ x. Ok (step_of so_far x.0, x.1)) >>= λ x. go_on (λ next r. body_within more end next r) x) read
    ∙ ap (λ (s : Step). go_on (λ next r. body_within more end next r) (s, rest)) (steps so_far)

broken_read : (end : ℕ) (gap loose rest : List ℕ) → AreBlank gap → IsLoose loose → IsMalformed gap (loose ++ (62 ∷ [])) →
    part_at end ((gap ++ (loose ++ (62 ∷ []))) ++ rest) ≡ Ok (Broken (offset end ((loose ++ (62 ∷ [])) ++ rest)), rest)
unfolding broken_at
broken_read end gap loose rest blank is malformed =
    let text : List ℕ = loose ++ (62 ∷ []) in
    ap (part_at end) (append_assoc gap text rest)
    ∙ malformed_read end gap text malformed blank rest
    ∙ ap (λ (r : Result (List ℕ) TagStop). r >>= λ behind. Ok (Broken (offset end (text ++ rest)), behind))
    (ap (tag_end None) (append_assoc loose (62 ∷ []) rest) ∙ loose_read loose rest is)

pub tail_read : (end : ℕ) (tail rest : List ℕ) (malformed : Option (List ℕ)) (ending : Ending) → IsTail tail malformed ending
    → (more : ℕ) (so_far : List Written) → body_within (suc more) end so_far (tail ++ rest)
    ≡ Ok (record { attrs = so_far; malformed = broken_place end rest malformed; ending = ending }, rest)
tail_read end tail rest malformed ending (Well gap _ blank) more so_far =
    one_part end ((gap ++ ending_text ending) ++ rest) rest None ending (Ends ending)
    (ap (part_at end) (append_assoc gap (ending_text ending) rest) ∙ end_read end gap ending rest blank) (λ ws. refl) more so_far
tail_read end tail rest malformed ending (Ill gap loose blank is ill) more so_far =
    one_part end ((gap ++ (loose ++ (62 ∷ []))) ++ rest) rest (Some (offset end ((loose ++ (62 ∷ [])) ++ rest))) Opens
    (Broken (offset end ((loose ++ (62 ∷ [])) ++ rest))) (broken_read end gap loose rest blank is ill) (λ ws. refl) more so_far

pub body_read : (end : ℕ) (bytes tail rest : List ℕ) (attrs : List Written) (malformed : Option (List ℕ)) (ending : Ending)
    → AreWritten end bytes (tail ++ rest) attrs → IsTail tail malformed ending
    → body_at end (bytes ++ (tail ++ rest))
    ≡ Ok (record { attrs = attrs; malformed = broken_place end rest malformed; ending = ending }, rest)
unfolding body_at
body_read end bytes tail rest attrs malformed ending are ends =
    body_over end (broken_place end rest malformed) ending rest bytes (tail ++ rest) attrs are
    (λ more so_far. tail_read end tail rest malformed ending ends more so_far) (length (bytes ++ (tail ++ rest)) + 1) [] (omega arith)

-- ---- what is read is spelt

-- the attributes so far, those behind them, what stands behind these, and the rest
pub record TakesAll (end : ℕ) (so_far : List Written) (text : List ℕ) (body : BodyText) (rest : List ℕ) : Type 0 where
  pub attrs : List Written
  pub bytes : List ℕ
  pub tail : List ℕ
  pub malformed : Option (List ℕ)
  pub whole : text ≡ bytes ++ (tail ++ rest)
  pub attrs_are : body.attrs ≡ so_far ++ attrs
  pub are : AreWritten end bytes (tail ++ rest) attrs
  pub ends : IsTail tail malformed body.ending
  pub place : body.malformed ≡ broken_place end rest malformed

-- the tag is read, or it is cut short and goes on to its end, or it stays bad whatever follows
abbrev pub BodyIs : ℕ → List Written → List ℕ → Bodies → Type 0
BodyIs end so_far text (Ok (body, rest)) = TakesAll end so_far text body rest
BodyIs end so_far text (Err Cut) = GoesOn text
BodyIs end so_far text (Err Bad) =
    (other : ℕ) (others : List Written) (more : List ℕ) (fuel : ℕ) → length (text ++ more) < fuel →
    body_within fuel other others (text ++ more) ≡ Err Bad

attribute_goes : (end : ℕ) (so_far : List Written) (text bytes rest : List ℕ) (a : Written) (r : Bodies) → text ≡ bytes ++ rest →
    IsWritten end bytes rest a → BodyIs end (so_far ++ a ∷ []) rest r → BodyIs end so_far text r
unfolding body_step
attribute_goes end so_far text bytes rest a (Ok (body, behind)) whole is on =
    let P : List ℕ → Type 0 = λ r. IsWritten end bytes r a in
    record {
      attrs = a ∷ on.attrs;
      bytes = bytes ++ on.bytes;
      tail = on.tail;
      malformed = on.malformed;
      whole = whole ∙ ap (λ t. bytes ++ t) on.whole ∙ sym (append_assoc bytes on.bytes (on.tail ++ behind));
      attrs_are = on.attrs_are ∙ append_assoc so_far (a ∷ []) on.attrs;
      are = OneWritten end bytes on.bytes (on.tail ++ behind) a on.attrs (subst P on.whole is) on.are;
      ends = on.ends;
      place = on.place;
    }
attribute_goes end so_far text bytes rest a (Err Cut) whole is (more, full) = (
  more,
  record {
    attributes = bytes ++ full.attributes;
    tail = full.tail;
    pairs = pair_of a ∷ full.pairs;
    malformed = full.malformed;
    ending = full.ending;
    whole = ap (λ t. t ++ more) whole ∙ append_assoc bytes rest more ∙ ap (λ t. bytes ++ t) full.whole
        ∙ sym (append_assoc bytes full.attributes full.tail);
    are = OneMore bytes full.attributes (pair_of a) full.pairs is.is full.are;
    ends = full.ends;
  },
)
attribute_goes end so_far text bytes rest a (Err Bad) whole is stays = λ other others more fuel enough. by fuel other others more enough
  where
    by : (fuel other : ℕ) (others : List Written) (more : List ℕ) → length (text ++ more) < fuel →
        body_within fuel other others (text ++ more) ≡ Err Bad
    by zero other others more enough = absurd (omega arith)
    by (suc fuel) other others more enough =
        let split : text ++ more ≡ bytes ++ (rest ++ more) = ap (λ t. t ++ more) whole ∙ append_assoc bytes rest more in
        let again = spelt_attribute other bytes (rest ++ more) (pair_of a) is.is in
        let fewer : length (rest ++ more) < fuel =
        omega (arith, attribute_long bytes (pair_of a) is.is, ap length split, length-append bytes (rest ++ more), enough) in
        ap (body_within (suc fuel) other others) split
        ∙ ap (λ (p : TagParts). (p >>= λ x. Ok (step_of others x.0, x.1)) >>= λ x. go_on (λ next r. body_within fuel other next r) x)
        again.read
        ∙ stays other (others ++ again.written ∷ []) more fuel fewer

bad_body : (other : ℕ) (others : List Written) (text : List ℕ) (fuel : ℕ) → part_at other text ≡ Err Bad → length text < fuel →
    body_within fuel other others text ≡ Err Bad
unfolding body_step
bad_body other others text zero bad enough = absurd (omega arith)
bad_body other others text (suc fuel) bad enough =
    ap (λ (p : TagParts). (p >>= λ x. Ok (step_of others x.0, x.1)) >>= λ x. go_on (λ next r. body_within fuel other next r) x) bad

pub body_is : (fuel end : ℕ) (so_far : List Written) (text : List ℕ) → length text < fuel →
    BodyIs end so_far text (body_within fuel end so_far text)
unfolding body_step
body_is zero end so_far text enough = absurd (omega arith)
body_is (suc fuel) end so_far text enough =
    by (part_at end text) refl (part_rest end text) (λ a rest few. body_is fuel end (so_far ++ a ∷ []) rest few)
  where
    by : (p : TagParts) → part_at end text ≡ p → PartRest end text p
        → ((a : Written) (rest : List ℕ) → length rest < fuel →
        BodyIs end (so_far ++ a ∷ []) rest (body_within fuel end (so_far ++ a ∷ []) rest))
        → BodyIs end so_far text
        ((p >>= λ x. Ok (step_of so_far x.0, x.1)) >>= λ x. go_on (λ next r. body_within fuel end next r) x)
    by (Ok (Has a, rest)) is part again =
        let taken = read_written end text rest a is in
        let fewer : length rest < fuel =
        omega (arith, attribute_long taken.bytes (pair_of a) taken.is.is, ap length taken.whole, length-append taken.bytes rest, enough) in
        attribute_goes end so_far text taken.bytes rest a (body_within fuel end (so_far ++ a ∷ []) rest) taken.whole taken.is
        (again a rest fewer)
    by (Ok (Ends ending, rest)) is part again =
        let taken = end_taken end text rest ending is in
        record {
          attrs = [];
          bytes = [];
          tail = taken.gap ++ ending_text ending;
          malformed = None;
          whole = taken.whole ∙ sym (append_assoc taken.gap (ending_text ending) rest);
          attrs_are = sym (append-nil so_far);
          are = NoneWritten end ((taken.gap ++ ending_text ending) ++ rest);
          ends = Well taken.gap ending taken.blank;
          place = refl;
        }
    by (Ok (Broken at, rest)) is part again =
        let tail : List ℕ = part.gap ++ (part.loose ++ (62 ∷ [])) in
        record {
          attrs = [];
          bytes = [];
          tail = tail;
          malformed = Some (part.loose ++ (62 ∷ []));
          whole = part.whole ∙ sym (append_assoc part.gap (part.loose ++ (62 ∷ [])) rest);
          attrs_are = sym (append-nil so_far);
          are = NoneWritten end (tail ++ rest);
          ends = Ill part.gap part.loose part.blank part.is part.malformed;
          place = ap Some part.place;
        }
    by (Err Cut) is part again = part
    by (Err Bad) is part again = λ other others more more_fuel few. bad_body other others (text ++ more) more_fuel (part other more) few
