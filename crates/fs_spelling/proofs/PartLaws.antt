-- A malformed attribute, a tag that is cut short, and one that stays bad: one part of it.
use Rattle.std.proofs.Common.{◌≡◌, ◌≢◌, ◌⊎◌, inl, inr, ℕ, Bool, true, false, cond, ◌==◌, List, [], ◌∷◌, ◌++◌, length, Option, None}
use Rattle.std.proofs.Common.{Some, Result, Ok, Err, refl, sym, ap, ◌∙◌, subst, append_assoc, append-nil, arith}
use Rattle.std.specs.List.{list_any, list_all, take_while, before_first, after_first}
use Rattle.std.proofs.lemmas.List.{length-append}
use Rattle.std.proofs.lemmas.Bool.{eqb-true}
use Rattle.std.proofs.lemmas.Bool.Decides.{nat_tests}
use Rattle.fs_text.specs.Words.{is_byte, halves_of}
use Rattle.fs_xml.specs.declared.stop.TagStop.{TagStop}
use Rattle.fs_xml.specs.declared.stop.TagStop.TheVariants.{Cut, Bad}
use Rattle.fs_xml.specs.declared.attribute.Ending.{Ending}
use Rattle.fs_xml.specs.declared.attribute.Ending.TheVariants.{Opens, Closes}
use Rattle.fs_xml.specs.Results.{◌>>=◌}
use Rattle.fs_xml.specs.Bytes.{is_blank, is_quote, is_name_byte, begins_name, past, name_of, offset}
use Rattle.fs_xml.specs.Attributes.{Has, Ends, Broken, TagParts, tag_end, broken_at, valued_on, valued_at, quoted_at}
use Rattle.fs_xml.specs.Attributes.{equals_at, named_at, slash_at, part_on, part_at}
use Rattle.fs_xml.proofs.ByteLemmas.{run_past}
use Rattle.fs_spelling.specs.Tags.{Pair, AreBlank, IsName, AreAttributes, NoMore, OneMore, ending_text, Stops}
use Rattle.fs_spelling.specs.Marks.{IsLoose, ByteLoose, IsMalformed, Glued, NoEquals, NoQuote, IsTail, Well, Ill}
use Rattle.fs_spelling.proofs.Runs.{past_run, the_run, run_passes, rest_stops, name_byte, first_byte, no_mark, gap_stops, name_passes}
use Rattle.fs_spelling.proofs.Runs.{name_stops, blank_stops, and_true}
use Rattle.fs_spelling.proofs.LooseLaws.{name_free, blank_free, loose_run, passed_run, EndIs, end_is}
use Rattle.fs_spelling.proofs.AttributeLaws.{part_behind, name_read, equals_stops, name_is, passed}

-- ---- a malformed attribute is read as one

-- blanks are passed, whatever stands behind them
pub part_skips : (end : ℕ) (gap body : List ℕ) → AreBlank gap → Stops is_blank body →
    part_at end (gap ++ body) ≡ part_on end (length body == length (gap ++ body)) body
unfolding part_at
part_skips end gap body blank stops =
    ap (λ rest. part_on end (length rest == length (gap ++ body)) rest) (past_run is_blank gap body blank stops)

no_blank : (b : ℕ) → begins_name b ≡ true → is_blank b ≡ false
no_blank b begins = (name_byte b (first_byte b begins)).no_blank

glued_read : (end b : ℕ) (more : List ℕ) → begins_name b ≡ true → part_at end (b ∷ more) ≡ broken_at (offset end (b ∷ more)) (b ∷ more)
unfolding part_on
glued_read end b more begins =
    let no = no_mark b (name_byte b (first_byte b begins)).no_mark in
    part_skips end [] (b ∷ more) refl (no_blank b begins)
    ∙ ap (λ g. part_on end g (b ∷ more)) (same (length (b ∷ more)))
    ∙ rw (no.no_greater, no.no_slash, begins) refl
  where
    same : (n : ℕ) → (n == n) ≡ true
    same n = grind (arith, nat_tests)

-- an attribute up to what stands behind its name
named_skips : (end : ℕ) (gap name behind third : List ℕ) → gap ≢ [] → AreBlank gap → IsName name → AreBlank behind
    → Stops is_name_byte (behind ++ third) → Stops is_blank third
    → part_at end (gap ++ (name ++ (behind ++ third))) ≡ equals_at end (offset end (name ++ (behind ++ third))) name third
unfolding named_at
named_skips end gap name behind third apart blank is behind_blank ends stops =
    let whole = name ++ (behind ++ third) in
    let at = offset end whole in
    let passes = name_passes name is in
    part_behind end gap whole apart blank (name_stops name (behind ++ third) is)
    ∙ name_read end name (behind ++ third) is
    ∙ ap (λ n. equals_at end at n (past is_blank (past is_name_byte whole))) (the_run is_name_byte name (behind ++ third) passes ends)
    ∙ ap (λ rest. equals_at end at name (past is_blank rest)) (past_run is_name_byte name (behind ++ third) passes ends)
    ∙ ap (equals_at end at name) (past_run is_blank behind third behind_blank stops)

ends_before : (behind more : List ℕ) (b : ℕ) → AreBlank behind → (behind ≢ []) ⊎ (is_name_byte b ≡ false) →
    Stops is_name_byte (behind ++ (b ∷ more))
ends_before [] more b blank (inl some) = absurd (some refl)
ends_before [] more b blank (inr other) = other
ends_before (c ∷ behind) more b blank either = blank_stops c (and_true (is_blank c) (list_all is_blank behind) blank).0

-- the reading of its tag goes on from where it is broken, and might do so from its name
same_broken : (at : ℕ) (whole rest : List ℕ) → tag_end None whole ≡ tag_end None rest → broken_at at rest ≡ broken_at at whole
unfolding broken_at
same_broken at whole rest same = ap (λ (r : Result (List ℕ) TagStop). r >>= λ behind. Ok (Broken at, behind)) (sym same)

passed_name : (name behind rest : List ℕ) → IsName name → AreBlank behind →
    tag_end None (name ++ (behind ++ rest)) ≡ tag_end None rest
passed_name name behind rest is blank =
    passed_run is_name_byte name (behind ++ rest) name_free (name_passes name is) ∙ passed_run is_blank behind rest blank_free blank

passed_equals : (name behind further rest : List ℕ) → IsName name → AreBlank behind → AreBlank further →
    tag_end None (name ++ (behind ++ (61 ∷ (further ++ rest)))) ≡ tag_end None rest
unfolding is_quote
passed_equals name behind further rest is blank more_blank =
    passed_name name behind (61 ∷ (further ++ rest)) is blank ∙ passed_run is_blank further rest blank_free more_blank

pub malformed_read : (end : ℕ) (gap text : List ℕ) → IsMalformed gap text → AreBlank gap → (rest : List ℕ) →
    part_at end (gap ++ (text ++ rest)) ≡ broken_at (offset end (text ++ rest)) (text ++ rest)
unfolding equals_at quoted_at
malformed_read end gap text (Glued b more begins) blank rest = glued_read end b (more ++ rest) begins
malformed_read end gap text (NoEquals _ name behind more b apart is behind_blank either stops other) blank rest =
    let third = b ∷ (more ++ rest) in
    let joined : (name ++ (behind ++ (b ∷ more))) ++ rest ≡ name ++ (behind ++ third) = simp append_assoc in
    let at = offset end (name ++ (behind ++ third)) in
    let P : List ℕ → Type 0 = λ t. part_at end (gap ++ t) ≡ broken_at (offset end t) t in
    let here : part_at end (gap ++ (name ++ (behind ++ third))) ≡ broken_at at (name ++ (behind ++ third)) =
    named_skips end gap name behind third apart blank is behind_blank (ends_before behind (more ++ rest) b behind_blank either) stops
    ∙ ap (λ t. cond t (quoted_at end at name (past is_blank (more ++ rest))) (broken_at at third)) other
    ∙ same_broken at (name ++ (behind ++ third)) third (passed_name name behind third is behind_blank) in
    subst P (sym joined) here
malformed_read end gap text (NoQuote _ name behind further more b apart is behind_blank further_blank stops other) blank rest =
    let third = b ∷ (more ++ rest) in
    let whole = name ++ (behind ++ (61 ∷ (further ++ third))) in
    let joined : (name ++ (behind ++ (61 ∷ (further ++ (b ∷ more))))) ++ rest ≡ whole = simp append_assoc in
    let at = offset end whole in
    let P : List ℕ → Type 0 = λ t. part_at end (gap ++ t) ≡ broken_at (offset end t) t in
    let here : part_at end (gap ++ whole) ≡ broken_at at whole =
    named_skips end gap name behind (61 ∷ (further ++ third)) apart blank is behind_blank
    (gap_stops behind (61 ∷ (further ++ third)) behind_blank equals_stops.0) equals_stops.1
    ∙ ap (quoted_at end at name) (past_run is_blank further third further_blank stops)
    ∙ ap (λ t. cond t (valued_at end at name b (more ++ rest)) (broken_at at third)) other
    ∙ same_broken at whole third (passed_equals name behind further third is behind_blank further_blank) in
    subst P (sym joined) here

-- ---- what is read of one part

-- a tag goes on to its end, from behind its name or from behind an attribute
pub record IsFull (text : List ℕ) : Type 0 where
  pub attributes : List ℕ
  pub tail : List ℕ
  pub pairs : List Pair
  pub malformed : Option (List ℕ)
  pub ending : Ending
  pub whole : text ≡ attributes ++ tail
  pub are : AreAttributes attributes pairs
  pub ends : IsTail tail malformed ending

abbrev pub GoesOn : List ℕ → Type 0
GoesOn text = (more : List ℕ) × IsFull (text ++ more)

-- a malformed attribute in front, with the end of its tag, and the rest
pub record TakesBroken (end : ℕ) (text : List ℕ) (at : ℕ) (rest : List ℕ) : Type 0 where
  pub gap : List ℕ
  pub loose : List ℕ
  pub whole : text ≡ gap ++ ((loose ++ (62 ∷ [])) ++ rest)
  pub blank : AreBlank gap
  pub is : IsLoose loose
  pub malformed : IsMalformed gap (loose ++ (62 ∷ []))
  pub place : at ≡ offset end ((loose ++ (62 ∷ [])) ++ rest)

-- what is read is a malformed attribute, or the tag is cut short and goes on to its end, or it stays bad whatever follows
abbrev pub PartRest : ℕ → List ℕ → TagParts → Type 0
PartRest end text (Ok (Has a, rest)) = Unit {0}
PartRest end text (Ok (Ends ending, rest)) = Unit {0}
PartRest end text (Ok (Broken at, rest)) = TakesBroken end text at rest
PartRest end text (Err Cut) = GoesOn text
PartRest end text (Err Bad) = (other : ℕ) (more : List ℕ) → part_at other (text ++ more) ≡ Err Bad

-- the tag ends here
ended : (text gap more : List ℕ) (ending : Ending) → AreBlank gap → text ++ more ≡ gap ++ ending_text ending → GoesOn text
ended text gap more ending blank whole = (
  more,
  record {
    attributes = [];
    tail = gap ++ ending_text ending;
    pairs = [];
    malformed = None;
    ending = ending;
    whole = whole;
    are = NoMore;
    ends = Well gap ending blank;
  },
)

-- one more attribute, and the tag ends
valued : (text gap name behind further : List ℕ) (quote : ℕ) (value more : List ℕ) → gap ≢ [] → AreBlank gap → IsName name
    → AreBlank behind → AreBlank further → is_quote quote ≡ true → list_any (is_byte quote) value ≡ false
    → text ++ more ≡ gap ++ (name ++ (behind ++ (61 ∷ (further ++ (quote ∷ (value ++ (quote ∷ (62 ∷ []))))))))
    → GoesOn text
valued text gap name behind further quote value more apart blank is behind_blank further_blank quotes none whole =
    let front : List ℕ = gap ++ (name ++ (behind ++ (61 ∷ (further ++ (quote ∷ (value ++ (quote ∷ []))))))) in
    let split : (front ++ []) ++ (62 ∷ [])
    ≡ gap ++ (name ++ (behind ++ (61 ∷ (further ++ (quote ∷ (value ++ (quote ∷ (62 ∷ [])))))))) =
    ap (λ t. t ++ (62 ∷ [])) (append-nil front) ∙ seam_of gap name behind further quote value in
    let pair : Pair = record { name = name; value = value } in (
      more,
      record {
        attributes = front ++ [];
        tail = 62 ∷ [];
        pairs = pair ∷ [];
        malformed = None;
        ending = Opens;
        whole = whole ∙ sym split;
        are = OneMore front [] pair [] (record {
          before = gap;
          gap = behind;
          gap_behind = further;
          quote = quote;
          whole = refl;
          apart = apart;
          before_blank = blank;
          gap_blank = behind_blank;
          behind_blank = further_blank;
          is_name = is;
          quotes = quotes;
          unbroken = none;
        }) NoMore;
        ends = Well [] Opens refl;
      },
    )
  where
    seam_of : (gap name behind further : List ℕ) (quote : ℕ) (value : List ℕ)
        → (gap ++ (name ++ (behind ++ (61 ∷ (further ++ (quote ∷ (value ++ (quote ∷ [])))))))) ++ (62 ∷ [])
        ≡ gap ++ (name ++ (behind ++ (61 ∷ (further ++ (quote ∷ (value ++ (quote ∷ (62 ∷ []))))))))
    seam_of gap name behind further quote value = simp append_assoc

-- the bytes up to a `>` begin as the text does
first_of : (loose rest : List ℕ) (b : ℕ) (more : List ℕ) → b ∷ more ≡ loose ++ (62 ∷ rest) →
    (m : List ℕ) × (loose ++ (62 ∷ []) ≡ b ∷ m)
first_of [] rest b more same = ([], ap (λ n. n ∷ []) (cc))
first_of (c ∷ loose) rest b more same = (loose ++ (62 ∷ []), ap (λ n. n ∷ (loose ++ (62 ∷ []))) (cc))

-- a tag that is broken in front of a byte, behind what may stand in it
broken_rest : (end at : ℕ) (text gap front : List ℕ) (b : ℕ) (more : List ℕ) → text ≡ gap ++ (front ++ (b ∷ more)) → AreBlank gap
    → ((l : List ℕ) → IsLoose l → IsLoose (front ++ l)) → ((m : List ℕ) → IsMalformed gap (front ++ (b ∷ m)))
    → ((m : List ℕ) → tag_end None (front ++ (b ∷ m)) ≡ tag_end None (b ∷ m))
    → at ≡ offset end (front ++ (b ∷ more)) → PartRest end text (broken_at at (b ∷ more))
unfolding broken_at
broken_rest end at text gap front b more whole blank loose malformed passes place =
    by (tag_end None (b ∷ more)) (end_is (b ∷ more) None)
  where
    cut_at : (l rest mine : List ℕ) → b ∷ mine ≡ l ++ (62 ∷ rest) → IsMalformed gap ((front ++ l) ++ (62 ∷ []))
    cut_at l rest mine same =
        let m = first_of l rest b mine same in
        let P : List ℕ → Type 0 = λ t. IsMalformed gap t in
        subst P (ap (λ t. front ++ t) (sym m.1) ∙ sym (append_assoc front l (62 ∷ []))) (malformed m.0)

    joined : (l rest mine : List ℕ) → b ∷ mine ≡ l ++ (62 ∷ rest) → front ++ (b ∷ mine) ≡ ((front ++ l) ++ (62 ∷ [])) ++ rest
    joined l rest mine same = ap (λ t. front ++ t) same ∙ simp append_assoc

    longer : (mine : List ℕ) → text ++ mine ≡ gap ++ (front ++ (b ∷ (more ++ mine)))
    longer mine = ap (λ t. t ++ mine) whole ∙ simp append_assoc

    by : (r : Result (List ℕ) TagStop) → EndIs None (b ∷ more) r → PartRest end text (r >>= λ rest. Ok (Broken at, rest))
    by (Ok rest) takes = record {
      gap = gap;
      loose = front ++ takes.loose;
      whole = whole ∙ ap (λ t. gap ++ t) (joined takes.loose rest more takes.whole);
      blank = blank;
      is = loose takes.loose takes.is;
      malformed = cut_at takes.loose rest more takes.whole;
      place = place ∙ ap (offset end) (joined takes.loose rest more takes.whole);
    }
    by (Err Cut) goes =
        let takes = goes.1 in
        let tail : List ℕ = (front ++ takes.loose) ++ (62 ∷ []) in (
          goes.0,
          record {
            attributes = [];
            tail = gap ++ tail;
            pairs = [];
            malformed = Some tail;
            ending = Opens;
            whole = longer goes.0 ∙ ap (λ t. gap ++ t) (joined takes.loose [] (more ++ goes.0) takes.whole ∙ append-nil tail);
            are = NoMore;
            ends = Ill gap (front ++ takes.loose) blank (loose takes.loose takes.is)
                (cut_at takes.loose [] (more ++ goes.0) takes.whole);
          },
        )
    by (Err Bad) stays = λ other mine.
        let rest : List ℕ = front ++ (b ∷ (more ++ mine)) in
        ap (part_at other) (longer mine ∙ ap (λ t. gap ++ t) (sym (append-nil rest)))
        ∙ malformed_read other gap rest (malformed (more ++ mine)) blank []
        ∙ ap (λ (r : Result (List ℕ) TagStop). r >>= λ x. Ok (Broken (offset other (rest ++ [])), x))
        (ap (tag_end None) (append-nil rest) ∙ passes (more ++ mine) ∙ stays mine)

pub no_half : (quote : ℕ) (text : List ℕ) → halves_of quote text ≡ None → list_any (is_byte quote) text ≡ false
unfolding halves_of
no_half quote text e = by (list_any (is_byte quote) text) e
  where
    by : (t : Bool) → cond {A = Option (List ℕ × List ℕ)} t (Some (before_first (is_byte quote) text, after_first (is_byte quote) text)) None
        ≡ None → t ≡ false
    by true h = absurd (cc)
    by false h = refl

-- behind the blanks behind `=`
quoted_rest : (end at : ℕ) (text gap name behind further fourth : List ℕ) → gap ≢ [] → AreBlank gap → IsName name → AreBlank behind
    → AreBlank further → Stops is_blank fourth → text ≡ gap ++ (name ++ (behind ++ (61 ∷ (further ++ fourth))))
    → at ≡ offset end (name ++ (behind ++ (61 ∷ (further ++ fourth)))) → PartRest end text (quoted_at end at name fourth)
unfolding quoted_at valued_at is_quote
quoted_rest end at text gap name behind further [] apart blank is behind_blank further_blank stops whole place =
    valued text gap name behind further 34 [] (34 ∷ (34 ∷ (62 ∷ []))) apart blank is behind_blank further_blank refl refl
    (ap (λ t. t ++ (34 ∷ (34 ∷ (62 ∷ [])))) whole ∙ simp append_assoc)
quoted_rest end at text gap name behind further (q ∷ value) apart blank is behind_blank further_blank stops whole place =
    by (is_quote q) refl (halves_of q value) refl
  where
    loose_front : (l : List ℕ) → IsLoose l → IsLoose ((name ++ (behind ++ (61 ∷ further))) ++ l)
    loose_front l loose =
        let Q : List ℕ → Type 0 = λ t. IsLoose t in
        let split : name ++ (behind ++ (61 ∷ (further ++ l))) ≡ (name ++ (behind ++ (61 ∷ further))) ++ l = simp append_assoc in
        subst Q split (loose_run is_name_byte name (behind ++ (61 ∷ (further ++ l))) name_free (name_passes name is)
        (loose_run is_blank behind (61 ∷ (further ++ l)) blank_free behind_blank
        (ByteLoose 61 (further ++ l) refl refl refl (loose_run is_blank further l blank_free further_blank loose))))

    by : (t : Bool) → is_quote q ≡ t → (found : Option (List ℕ × List ℕ)) → halves_of q value ≡ found
        → PartRest end text (cond t (valued_on end at name found) (broken_at at (q ∷ value)))
    by true quotes None none =
        valued text gap name behind further q value (q ∷ (62 ∷ [])) apart blank is behind_blank further_blank quotes
        (no_half q value none) (ap (λ t. t ++ (q ∷ (62 ∷ []))) whole ∙ simp append_assoc)
    by true quotes (Some halves) found = tt
    by false other found is_found =
        let front : List ℕ = name ++ (behind ++ (61 ∷ further)) in
        let joined : (m : List ℕ) → front ++ (q ∷ m) ≡ name ++ (behind ++ (61 ∷ (further ++ (q ∷ m)))) = λ m. simp append_assoc in
        let P : List ℕ → Type 0 = λ t. IsMalformed gap t in
        broken_rest end at text gap front q value (whole ∙ ap (λ t. gap ++ t) (sym (joined value))) blank
        (λ l loose. loose_front l loose)
        (λ m. subst P (sym (joined m)) (NoQuote gap name behind further m q apart is behind_blank further_blank stops other))
        (λ m. ap (tag_end None) (joined m) ∙ passed_equals name behind further (q ∷ m) is behind_blank further_blank)
        (place ∙ ap (offset end) (sym (joined value)))

-- behind a name and blanks
equals_rest : (end at : ℕ) (text gap name behind third : List ℕ) → gap ≢ [] → AreBlank gap → IsName name → AreBlank behind
    → Stops is_name_byte (behind ++ third) → Stops is_blank third → text ≡ gap ++ (name ++ (behind ++ third))
    → at ≡ offset end (name ++ (behind ++ third)) → PartRest end text (equals_at end at name third)
unfolding equals_at is_quote
equals_rest end at text gap name behind [] apart blank is behind_blank ends stops whole place =
    valued text gap name behind [] 34 [] (61 ∷ (34 ∷ (34 ∷ (62 ∷ [])))) apart blank is behind_blank refl refl refl
    (ap (λ t. t ++ (61 ∷ (34 ∷ (34 ∷ (62 ∷ []))))) whole ∙ simp append_assoc)
equals_rest end at text gap name behind (c ∷ third) apart blank is behind_blank ends stops whole place = by (c == 61) refl
  where
    apart_or : (run : List ℕ) → Stops is_name_byte (run ++ (c ∷ third)) → (run ≢ []) ⊎ (is_name_byte c ≡ false)
    apart_or [] ends = inr ends
    apart_or (d ∷ run) ends = inl (λ none. absurd (cc))

    loose_front : (l : List ℕ) → IsLoose l → IsLoose ((name ++ behind) ++ l)
    loose_front l loose =
        let Q : List ℕ → Type 0 = λ t. IsLoose t in
        subst Q (sym (append_assoc name behind l)) (loose_run is_name_byte name (behind ++ l) name_free (name_passes name is)
        (loose_run is_blank behind l blank_free behind_blank loose))

    by : (t : Bool) → (c == 61) ≡ t →
        PartRest end text (cond t (quoted_at end at name (past is_blank third)) (broken_at at (c ∷ third)))
    by true equals =
        let further = take_while is_blank third in
        let split : c ∷ third ≡ 61 ∷ (further ++ past is_blank third) =
        ap (λ n. n ∷ third) (eqb-true c 61 equals) ∙ ap (λ t. 61 ∷ t) (sym (run_past is_blank third)) in
        quoted_rest end at text gap name behind further (past is_blank third) apart blank is behind_blank (run_passes is_blank third)
        (rest_stops is_blank third) (whole ∙ ap (λ t. gap ++ (name ++ (behind ++ t))) split)
        (place ∙ ap (λ t. offset end (name ++ (behind ++ t))) split)
    by false other =
        let front : List ℕ = name ++ behind in
        let joined : (m : List ℕ) → front ++ (c ∷ m) ≡ name ++ (behind ++ (c ∷ m)) = λ m. append_assoc name behind (c ∷ m) in
        let P : List ℕ → Type 0 = λ t. IsMalformed gap t in
        broken_rest end at text gap front c third (whole ∙ ap (λ t. gap ++ t) (sym (joined third))) blank
        (λ l loose. loose_front l loose)
        (λ m. subst P (sym (joined m)) (NoEquals gap name behind m c apart is behind_blank (apart_or behind ends) stops other))
        (λ m. ap (tag_end None) (joined m) ∙ passed_name name behind (c ∷ m) is behind_blank)
        (place ∙ ap (offset end) (sym (joined third)))

-- from the first byte that is no blank on
on_rest : (end : ℕ) (text gap body : List ℕ) (g : Bool) → text ≡ gap ++ body → AreBlank gap → Stops is_blank body
    → (g ≡ true → gap ≡ []) → (g ≡ false → gap ≢ []) → PartRest end text (part_on end g body)
unfolding part_on slash_at named_at is_blank
on_rest end text gap [] g whole blank stops glued apart =
    ended text gap (62 ∷ []) Opens blank (ap (λ t. t ++ (62 ∷ [])) (whole ∙ append-nil gap))
on_rest end text gap (b ∷ bytes) g whole blank stops glued apart = by (b == 62) (b == 47) (begins_name b) g refl refl refl refl
  where
    bad_here : (b == 62) ≡ false → (b == 47) ≡ false → begins_name b ≡ false → (other : ℕ) (more : List ℕ) →
        part_at other (text ++ more) ≡ Err Bad
    bad_here one two three other more =
        ap (part_at other) (ap (λ t. t ++ more) whole ∙ append_assoc gap (b ∷ bytes) more)
        ∙ part_skips other gap (b ∷ (bytes ++ more)) blank stops ∙ rw (one, two, three) refl

    slash_stops : is_blank 47 ≡ false
    slash_stops = refl

    slash : (more_bytes : List ℕ) → bytes ≡ more_bytes → b ≡ 47 → PartRest end text (slash_at more_bytes)
    slash [] none is =
        ended text gap (62 ∷ []) Closes blank
        (ap (λ t. t ++ (62 ∷ [])) (whole ∙ ap (λ n. gap ++ (n ∷ bytes)) is ∙ ap (λ t. gap ++ (47 ∷ t)) none) ∙ simp append_assoc)
    slash (c ∷ third) next is = closes (c == 62) refl
      where
        closes : (t : Bool) → (c == 62) ≡ t → PartRest end text (cond t (Ok (Ends Closes, third)) (Err Bad))
        closes true same = tt
        closes false other_byte = λ other more.
            ap (part_at other)
            (ap (λ t. t ++ more) (whole ∙ ap (λ n. gap ++ (n ∷ bytes)) is ∙ ap (λ t. gap ++ (47 ∷ t)) next) ∙ simp append_assoc)
            ∙ part_skips other gap (47 ∷ (c ∷ (third ++ more))) blank slash_stops ∙ rw other_byte refl

    by : (s t u h : Bool) → (b == 62) ≡ s → (b == 47) ≡ t → begins_name b ≡ u → g ≡ h
        → PartRest end text (cond s (Ok (Ends Opens, bytes)) (cond t (slash_at bytes)
        (cond u (cond h (broken_at (offset end (b ∷ bytes)) (b ∷ bytes)) (named_at end (b ∷ bytes))) (Err Bad))))
    by true t u h one two three four = tt
    by false true u h one two three four = slash bytes refl (eqb-true b 47 two)
    by false false true true one two three four =
        let none = glued four in
        broken_rest end (offset end (b ∷ bytes)) text [] [] b bytes (whole ∙ ap (λ t. t ++ (b ∷ bytes)) none) refl (λ l loose. loose)
        (λ m. Glued b m three) (λ m. refl) refl
    by false false true false one two three four =
        let body : List ℕ = b ∷ bytes in
        let name = name_of body in
        let third = past is_name_byte body in
        let behind = take_while is_blank third in
        let split : body ≡ name ++ (behind ++ past is_blank third) =
        sym (run_past is_name_byte body) ∙ ap (λ t. name ++ t) (sym (run_past is_blank third)) in
        let Q : List ℕ → Type 0 = λ t. Stops is_name_byte t in
        equals_rest end (offset end body) text gap name behind (past is_blank third) (apart four) blank
        (name_is body b bytes refl three) (run_passes is_blank third)
        (subst Q (sym (run_past is_blank third)) (rest_stops is_name_byte body)) (rest_stops is_blank third)
        (whole ∙ ap (λ t. gap ++ t) split) (ap (offset end) split)
    by false false false h one two three four = bad_here one two three

pub part_rest : (end : ℕ) (text : List ℕ) → PartRest end text (part_at end text)
unfolding part_at
part_rest end text =
    let gap = take_while is_blank text in
    let body = past is_blank text in
    on_rest end text gap body (length body == length text) (sym (run_past is_blank text)) (run_passes is_blank text)
    (rest_stops is_blank text) (λ same. nothing gap (sizes same)) (λ other. passed text other)
  where
    sizes : (length (past is_blank text) == length text) ≡ true → length (take_while is_blank text) ≡ 0
    sizes same =
        let whole = ap length (run_past is_blank text) in
        let parts = length-append (take_while is_blank text) (past is_blank text) in
        let equal = eqb-true (length (past is_blank text)) (length text) same in
        omega (arith, whole, parts, equal)

    nothing : (run : List ℕ) → length run ≡ 0 → run ≡ []
    nothing [] none = refl
    nothing (b ∷ run) some = absurd (omega (arith, some))
