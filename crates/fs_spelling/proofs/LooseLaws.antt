-- How a tag with a malformed attribute goes on to its end.
use Rattle.std.proofs.Common.{◌≡◌, ℕ, Bool, true, false, cond, ◌==◌, ◌||◌, List, [], ◌∷◌, ◌++◌, Option, None, Some, Result, Ok, Err}
use Rattle.std.proofs.Common.{refl, sym, ap, ◌∙◌, subst, append_assoc, arith}
use Rattle.std.specs.List.{list_any, list_all}
use Rattle.std.proofs.lemmas.Bool.{or_parts, eqb-true}
use Rattle.std.proofs.lemmas.Bool.Decides.{nat_tests}
use Rattle.fs_text.specs.Words.{is_byte}
use Rattle.fs_xml.specs.declared.stop.TagStop.{TagStop}
use Rattle.fs_xml.specs.declared.stop.TagStop.TheVariants.{Cut, Bad}
use Rattle.fs_xml.specs.Bytes.{is_blank, is_quote, is_name_byte}
use Rattle.fs_xml.specs.Attributes.{tag_end}
use Rattle.fs_spelling.specs.Marks.{IsLoose, NoneLoose, ByteLoose, QuotedLoose}
use Rattle.fs_spelling.proofs.Runs.{and_true, name_byte, no_mark}

abbrev Rests : Type 0
Rests = Result (List ℕ) TagStop

-- ---- loose bytes

-- a byte that may stand anywhere in a tag
pub record IsFree (b : ℕ) : Type 0 where
  pub no_less : (b == 60) ≡ false
  pub no_greater : (b == 62) ≡ false
  pub no_quote : is_quote b ≡ false

pub quote_free : (q : ℕ) → is_quote q ≡ true → ((q == 60) ≡ false) × ((q == 62) ≡ false)
unfolding is_quote
quote_free q quotes = by (q == 34) (q == 39) (eqb-true q 34) (eqb-true q 39) quotes
  where
    by : (s t : Bool) → (s ≡ true → q ≡ 34) → (t ≡ true → q ≡ 39) → (s || t) ≡ true → ((q == 60) ≡ false) × ((q == 62) ≡ false)
    by true t one other h = rw (one refl) (refl, refl)
    by false true one other h = rw (other refl) (refl, refl)
    by false false one other h = absurd (cc)

pub name_free : (b : ℕ) → is_name_byte b ≡ true → IsFree b
name_free b passes =
    let plain = name_byte b passes in
    let no = no_mark b plain.no_mark in
    record { no_less = no.no_less; no_greater = no.no_greater; no_quote = plain.no_quote }

pub blank_free : (b : ℕ) → is_blank b ≡ true → IsFree b
unfolding is_blank is_quote
blank_free b blank =
    by (b == 32) (b == 9) (b == 13) (b == 10) (eqb-true b 32) (eqb-true b 9) (eqb-true b 13) (eqb-true b 10) blank
  where
    here : (n : ℕ) → IsFree n → b ≡ n → IsFree b
    here n free is = subst IsFree (sym is) free

    by : (s t u v : Bool) → (s ≡ true → b ≡ 32) → (t ≡ true → b ≡ 9) → (u ≡ true → b ≡ 13) → (v ≡ true → b ≡ 10)
        → (s || t || u || v) ≡ true → IsFree b
    by true t u v one two three four h = here 32 (record { no_less = refl; no_greater = refl; no_quote = refl }) (one refl)
    by false true u v one two three four h = here 9 (record { no_less = refl; no_greater = refl; no_quote = refl }) (two refl)
    by false false true v one two three four h = here 13 (record { no_less = refl; no_greater = refl; no_quote = refl }) (three refl)
    by false false false true one two three four h = here 10 (record { no_less = refl; no_greater = refl; no_quote = refl }) (four refl)
    by false false false false one two three four h = absurd (cc)

-- a run of such bytes
pub loose_run : (p : ℕ → Bool) (run loose : List ℕ) → ((b : ℕ) → p b ≡ true → IsFree b) → list_all p run ≡ true → IsLoose loose →
    IsLoose (run ++ loose)
loose_run p [] loose free all is = is
loose_run p (b ∷ run) loose free all is =
    let parts = and_true (p b) (list_all p run) all in
    let f = free b parts.0 in
    ByteLoose b (run ++ loose) f.no_less f.no_greater f.no_quote (loose_run p run loose free parts.1 is)

-- they are passed
passed_byte : (b : ℕ) (rest : List ℕ) → IsFree b → tag_end None (b ∷ rest) ≡ tag_end None rest
passed_byte b rest free = rw (free.no_greater, free.no_less, free.no_quote) refl

pub passed_run : (p : ℕ → Bool) (run rest : List ℕ) → ((b : ℕ) → p b ≡ true → IsFree b) → list_all p run ≡ true →
    tag_end None (run ++ rest) ≡ tag_end None rest
passed_run p [] rest free all = refl
passed_run p (b ∷ run) rest free all =
    let parts = and_true (p b) (list_all p run) all in
    passed_byte b (run ++ rest) (free b parts.0) ∙ passed_run p run rest free parts.1

-- ---- what is spelt is read

in_quotes : (quote : ℕ) (value rest : List ℕ) → list_any (is_byte quote) value ≡ false →
    tag_end (Some quote) (value ++ (quote ∷ rest)) ≡ tag_end None rest
in_quotes quote [] rest none = ap (λ t. cond t (tag_end None rest) (tag_end (Some quote) rest)) (same quote)
  where
    same : (n : ℕ) → (n == n) ≡ true
    same n = grind (arith, nat_tests)
in_quotes quote (b ∷ value) rest none =
    let parts = or_parts (is_byte quote b) (list_any (is_byte quote) value) none in
    let other : (b == quote) ≡ false = parts.0 in
    rw other (in_quotes quote value rest parts.1)

opened : (quote : ℕ) (rest : List ℕ) → is_quote quote ≡ true → tag_end None (quote ∷ rest) ≡ tag_end (Some quote) rest
opened quote rest quotes =
    let free = quote_free quote quotes in
    rw (free.1, free.0, quotes) refl

pub loose_read : (loose rest : List ℕ) → IsLoose loose → tag_end None (loose ++ (62 ∷ rest)) ≡ Ok rest
loose_read loose rest NoneLoose = refl
loose_read loose rest (ByteLoose b more less greater quote is) =
    passed_byte b (more ++ (62 ∷ rest)) (record { no_less = less; no_greater = greater; no_quote = quote }) ∙ loose_read more rest is
loose_read loose rest (QuotedLoose quote value more quotes none is) =
    ap (λ t. tag_end None (quote ∷ t)) (append_assoc value (quote ∷ more) (62 ∷ rest))
    ∙ opened quote (value ++ (quote ∷ (more ++ (62 ∷ rest)))) quotes
    ∙ in_quotes quote value (more ++ (62 ∷ rest)) none ∙ loose_read more rest is

-- ---- what is read is spelt

-- loose bytes up to a `>`
pub record TakesLoose (text rest : List ℕ) : Type 0 where
  pub loose : List ℕ
  pub whole : text ≡ loose ++ (62 ∷ rest)
  pub is : IsLoose loose

-- and behind the rest of a value in quotes
pub record TakesQuoted (quote : ℕ) (text rest : List ℕ) : Type 0 where
  pub value : List ℕ
  pub behind : List ℕ
  pub whole : text ≡ value ++ (quote ∷ behind)
  pub none : list_any (is_byte quote) value ≡ false
  pub takes : TakesLoose behind rest

abbrev pub TakesTo : Option ℕ → List ℕ → List ℕ → Type 0
TakesTo None text rest = TakesLoose text rest
TakesTo (Some quote) text rest = TakesQuoted quote text rest

free_taken : (b : ℕ) (text rest : List ℕ) → IsFree b → TakesLoose text rest → TakesLoose (b ∷ text) rest
free_taken b text rest free takes = record {
  loose = b ∷ takes.loose;
  whole = ap (λ t. b ∷ t) takes.whole;
  is = ByteLoose b takes.loose free.no_less free.no_greater free.no_quote takes.is;
}

quote_taken : (quote : ℕ) (text rest : List ℕ) → is_quote quote ≡ true → TakesQuoted quote text rest → TakesLoose (quote ∷ text) rest
quote_taken quote text rest quotes takes = record {
  loose = quote ∷ (takes.value ++ (quote ∷ takes.takes.loose));
  whole = ap (λ t. quote ∷ t) (takes.whole ∙ ap (λ t. takes.value ++ (quote ∷ t)) takes.takes.whole
      ∙ sym (append_assoc takes.value (quote ∷ takes.takes.loose) (62 ∷ rest)));
  is = QuotedLoose quote takes.value takes.takes.loose quotes takes.none takes.takes.is;
}

inner_taken : (quote b : ℕ) (text rest : List ℕ) → (b == quote) ≡ false → TakesQuoted quote text rest → TakesQuoted quote (b ∷ text) rest
inner_taken quote b text rest other takes = record {
  value = b ∷ takes.value;
  behind = takes.behind;
  whole = ap (λ t. b ∷ t) takes.whole;
  none = rw (other, takes.none) refl;
  takes = takes.takes;
}

close_taken : (quote b : ℕ) (text rest : List ℕ) → (b == quote) ≡ true → TakesLoose text rest → TakesQuoted quote (b ∷ text) rest
close_taken quote b text rest same takes = record {
  value = [];
  behind = text;
  whole = ap (λ c. c ∷ text) (eqb-true b quote same);
  none = refl;
  takes = takes;
}

-- what the reading of a tag to its end says of the text: loose bytes up to its `>`, or they go on to that, or the tag stays bad
abbrev pub EndIs : Option ℕ → List ℕ → Rests → Type 0
EndIs quote text (Ok rest) = TakesTo quote text rest
EndIs quote text (Err Cut) = (more : List ℕ) × TakesTo quote (text ++ more) []
EndIs quote text (Err Bad) = (more : List ℕ) → tag_end quote (text ++ more) ≡ Err Bad

cut_here : (quote : Option ℕ) → EndIs quote [] (Err Cut)
cut_here None = (62 ∷ [], record { loose = []; whole = refl; is = NoneLoose })
cut_here (Some quote) = (
  quote ∷ (62 ∷ []),
  record {
    value = [];
    behind = 62 ∷ [];
    whole = refl;
    none = refl;
    takes = record { loose = []; whole = refl; is = NoneLoose };
  },
)

-- one more byte, which takes the text from one state to the other
more_end : (quote next : Option ℕ) (b : ℕ) (text : List ℕ) (r : Rests)
    → ((t rest : List ℕ) → TakesTo next t rest → TakesTo quote (b ∷ t) rest)
    → ((t : List ℕ) → tag_end quote (b ∷ t) ≡ tag_end next t)
    → EndIs next text r → EndIs quote (b ∷ text) r
more_end quote next b text (Ok rest) takes same is = takes text rest is
more_end quote next b text (Err Cut) takes same is = (is.0, takes (text ++ is.0) [] is.1)
more_end quote next b text (Err Bad) takes same is = λ more. same (text ++ more) ∙ is more

pub end_is : (text : List ℕ) (quote : Option ℕ) → EndIs quote text (tag_end quote text)
end_is [] quote = cut_here quote
end_is (b ∷ text) None = by (b == 62) (b == 60) (is_quote b) refl refl refl (end_is text None) (end_is text (Some b))
  where
    by : (s t u : Bool) → (b == 62) ≡ s → (b == 60) ≡ t → is_quote b ≡ u → EndIs None text (tag_end None text)
        → EndIs (Some b) text (tag_end (Some b) text)
        → EndIs None (b ∷ text) (cond s (Ok text) (cond t (Err Bad) (cond u (tag_end (Some b) text) (tag_end None text))))
    by true t u is it quotes plain quoted =
        record { loose = []; whole = ap (λ c. c ∷ text) (eqb-true b 62 is); is = NoneLoose }
    by false true u is it quotes plain quoted = λ more. rw (is, it) refl
    by false false true is it quotes plain quoted =
        more_end None (Some b) b text (tag_end (Some b) text) (λ t rest takes. quote_taken b t rest quotes takes)
        (λ t. opened b t quotes) quoted
    by false false false is it quotes plain quoted =
        let free : IsFree b = record { no_less = it; no_greater = is; no_quote = quotes } in
        more_end None None b text (tag_end None text) (λ t rest takes. free_taken b t rest free takes) (λ t. passed_byte b t free) plain
end_is (b ∷ text) (Some quote) = by (b == quote) refl (end_is text None) (end_is text (Some quote))
  where
    by : (s : Bool) → (b == quote) ≡ s → EndIs None text (tag_end None text) → EndIs (Some quote) text (tag_end (Some quote) text)
        → EndIs (Some quote) (b ∷ text) (cond s (tag_end None text) (tag_end (Some quote) text))
    by true is plain quoted =
        more_end (Some quote) None b text (tag_end None text) (λ t rest takes. close_taken quote b t rest is takes) (λ t. rw is refl) plain
    by false is plain quoted =
        more_end (Some quote) (Some quote) b text (tag_end (Some quote) text) (λ t rest takes. inner_taken quote b t rest is takes)
        (λ t. rw is refl) quoted
