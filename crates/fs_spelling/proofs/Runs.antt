-- Runs of bytes, and what stops them.
use Rattle.std.proofs.Common.{◌≡◌, ℕ, Bool, true, false, cond, not, ◌&&◌, ◌||◌, ◌==◌, List, [], ◌∷◌, ◌++◌, refl, ap}
use Rattle.std.specs.List.{list_all, take_while}
use Rattle.std.proofs.lemmas.List.Sums.{take_while-cons}
use Rattle.std.proofs.lemmas.Bool.{or_parts, eqb-true}
use Rattle.fs_xml.specs.Bytes.{is_blank, is_quote, is_mark, is_name_byte, begins_name, past}
use Rattle.fs_spelling.specs.Tags.{AreBlank, Stops, IsName}

pub and_true : (a b : Bool) → (a && b) ≡ true → (a ≡ true) × (b ≡ true)
and_true true b e = (refl, e)
and_true false b e = absurd (cc)

pub not_true : (a : Bool) → not a ≡ true → a ≡ false
not_true true e = absurd (cc)
not_true false e = refl

past_stops : (p : ℕ → Bool) (rest : List ℕ) → Stops p rest → past p rest ≡ rest
past_stops p [] stops = refl
past_stops p (b ∷ rest) stops = let fails : p b ≡ false = stops in rw fails refl

run_stops : (p : ℕ → Bool) (rest : List ℕ) → Stops p rest → take_while p rest ≡ []
run_stops p [] stops = refl
run_stops p (b ∷ rest) stops = let fails : p b ≡ false = stops in rw (take_while-cons, fails) refl

-- what follows a run
pub past_run : (p : ℕ → Bool) (run rest : List ℕ) → list_all p run ≡ true → Stops p rest → past p (run ++ rest) ≡ rest
past_run p [] rest all stops = past_stops p rest stops
past_run p (b ∷ run) rest all stops =
    let parts = and_true (p b) (list_all p run) all in
    let passes : p b ≡ true = parts.0 in
    rw passes (past_run p run rest parts.1 stops)

-- the run itself
pub the_run : (p : ℕ → Bool) (run rest : List ℕ) → list_all p run ≡ true → Stops p rest → take_while p (run ++ rest) ≡ run
the_run p [] rest all stops = run_stops p rest stops
the_run p (b ∷ run) rest all stops =
    let parts = and_true (p b) (list_all p run) all in
    let passes : p b ≡ true = parts.0 in
    rw (take_while-cons, passes) (ap (λ more. b ∷ more) (the_run p run rest parts.1 stops))

-- a run passes, and what follows it stops it
pub run_passes : (p : ℕ → Bool) (bytes : List ℕ) → list_all p (take_while p bytes) ≡ true
run_passes p [] = refl
run_passes p (b ∷ bytes) = rw take_while-cons (by (p b) refl (run_passes p bytes))
  where
    by : (t : Bool) → p b ≡ t → list_all p (take_while p bytes) ≡ true → list_all p (cond t (b ∷ take_while p bytes) []) ≡ true
    by true passes more = rw passes more
    by false fails more = refl

pub rest_stops : (p : ℕ → Bool) (bytes : List ℕ) → Stops p (past p bytes)
rest_stops p [] = tt
rest_stops p (b ∷ bytes) = by (p b) refl (rest_stops p bytes)
  where
    by : (t : Bool) → p b ≡ t → Stops p (past p bytes) → Stops p (cond t (past p bytes) (b ∷ bytes))
    by true passes more = more
    by false fails more = fails

-- ---- bytes of names

-- a byte of a name is no blank, no quote and no mark
pub record IsPlain (b : ℕ) : Type 0 where
  pub no_blank : is_blank b ≡ false
  pub no_quote : is_quote b ≡ false
  pub no_mark : is_mark b ≡ false

pub name_byte : (b : ℕ) → is_name_byte b ≡ true → IsPlain b
unfolding is_name_byte
name_byte b passes =
    let none = not_true (is_blank b || is_quote b || is_mark b) passes in
    let first = or_parts (is_blank b || is_quote b) (is_mark b) none in
    let second = or_parts (is_blank b) (is_quote b) first.0 in
    record { no_blank = second.0; no_quote = second.1; no_mark = first.1 }

pub first_byte : (b : ℕ) → begins_name b ≡ true → is_name_byte b ≡ true
unfolding begins_name
first_byte b begins = (and_true (is_name_byte b) (not (b == 33 || b == 63)) begins).0

pub no_declared : (b : ℕ) → begins_name b ≡ true → (b == 33) ≡ false
unfolding begins_name
no_declared b begins =
    (or_parts (b == 33) (b == 63) (not_true (b == 33 || b == 63) (and_true (is_name_byte b) (not (b == 33 || b == 63)) begins).1)).0

-- which marks a byte is not
pub record IsNoMark (b : ℕ) : Type 0 where
  pub no_less : (b == 60) ≡ false
  pub no_greater : (b == 62) ≡ false
  pub no_slash : (b == 47) ≡ false
  pub no_equals : (b == 61) ≡ false

pub no_mark : (b : ℕ) → is_mark b ≡ false → IsNoMark b
unfolding is_mark
no_mark b none =
    let first = or_parts (b == 60 || b == 62 || b == 47) (b == 61) none in
    let second = or_parts (b == 60 || b == 62) (b == 47) first.0 in
    let third = or_parts (b == 60) (b == 62) second.0 in
    record { no_less = third.0; no_greater = third.1; no_slash = second.1; no_equals = first.1 }

-- a quote is no blank and no byte of a name
pub quote_stops : (q : ℕ) → is_quote q ≡ true → (is_blank q ≡ false) × (is_name_byte q ≡ false)
unfolding is_quote is_name_byte is_blank
quote_stops q quotes = by (q == 34) (q == 39) (eqb-true q 34) (eqb-true q 39) quotes
  where
    by : (s t : Bool) → (s ≡ true → q ≡ 34) → (t ≡ true → q ≡ 39) → (s || t) ≡ true → (is_blank q ≡ false) × (is_name_byte q ≡ false)
    by true t one other h = rw (one refl) (refl, refl)
    by false true one other h = rw (other refl) (refl, refl)
    by false false one other h = absurd (cc)

-- a blank is no byte of a name
pub blank_stops : (b : ℕ) → is_blank b ≡ true → is_name_byte b ≡ false
unfolding is_name_byte
blank_stops b blank = rw blank refl

-- what follows a name may be blanks and then a byte that is no byte of a name
pub gap_stops : (gap rest : List ℕ) → AreBlank gap → Stops is_name_byte rest → Stops is_name_byte (gap ++ rest)
gap_stops [] rest blank stops = stops
gap_stops (b ∷ gap) rest blank stops = blank_stops b (and_true (is_blank b) (list_all is_blank gap) blank).0

-- all bytes of a name
pub name_passes : (name : List ℕ) → IsName name → list_all is_name_byte name ≡ true
name_passes name is = rw (is.whole, first_byte is.first is.begins, is.goes_on) refl

-- a name in front stops blanks
pub name_stops : (name rest : List ℕ) → IsName name → Stops is_blank (name ++ rest)
name_stops name rest is = rw is.whole ((name_byte is.first (first_byte is.first is.begins)).no_blank)
