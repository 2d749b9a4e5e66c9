-- What takes headers, one after another.
use Rattle.std.proofs.Common.{◌≡◌, ◌==◌, Bool, true, false, not, cond, List, [], ◌∷◌, ◌++◌, length, append_assoc, refl, sym, ap, ◌∙◌}
use Rattle.std.proofs.lemmas.List.{append-nil}
use Rattle.fs_text.specs.Headers.{taking, with_values}
use Rattle.fs_text.specs.Texts.{Text}

-- a list has taken these
pub taking_list : (headers taken : List (Text × Text)) → taking (λ header all. all ++ header ∷ []) headers taken ≡ taken ++ headers
taking_list [] taken = sym (append-nil taken)
taking_list (header ∷ headers) taken = taking_list headers (taken ++ header ∷ []) ∙ append_assoc taken (header ∷ []) headers

-- some headers and then others
pub taking_append : {S : Type 0} (taken : Text × Text → S → S) (some more : List (Text × Text)) (sink : S) →
    taking taken (some ++ more) sink ≡ taking taken more (taking taken some sink)
taking_append taken [] more sink = refl
taking_append taken (header ∷ some) more sink = taking_append taken some more (taken header sink)

-- a header, if it has a value, and then others with values
pub taking_more : {S : Type 0} (taken : Text × Text → S → S) (header : Text × Text) (headers : List (Text × Text)) (sink : S) →
    taking taken (with_values (header ∷ headers)) sink
    ≡ taking taken (with_values headers) (taking taken (with_values (header ∷ [])) sink)
taking_more taken header headers sink = by (not (length header.1 == 0))
  where
    by : (b : Bool) →
        taking taken (cond b (header ∷ with_values headers) (with_values headers)) sink
        ≡ taking taken (with_values headers) (taking taken (cond b (header ∷ []) []) sink)
    by true = refl
    by false = refl

-- what it is once it was given these, each unless its value is empty
abbrev pub given : {S : Type 0} → (Text × Text → S → S) → List (Text × Text) → S → S
given taken [] sink = sink
given taken (header ∷ headers) sink = given taken headers (taking taken (with_values (header ∷ [])) sink)

-- it has taken those with a value
pub given_is : {S : Type 0} (taken : Text × Text → S → S) (headers : List (Text × Text)) (sink : S) →
    given taken headers sink ≡ taking taken (with_values headers) sink
given_is taken [] sink = refl
given_is taken (header ∷ headers) sink =
    given_is taken headers (taking taken (with_values (header ∷ [])) sink) ∙ sym (taking_more taken header headers sink)

-- some headers with values and then others
pub taking_values : {S : Type 0} (taken : Text × Text → S → S) (some more : List (Text × Text)) (sink : S) →
    taking taken (with_values (some ++ more)) sink ≡ taking taken (with_values more) (taking taken (with_values some) sink)
taking_values taken [] more sink = refl
taking_values taken (header ∷ some) more sink =
    taking_more taken header (some ++ more) sink
    ∙ taking_values taken some more (taking taken (with_values (header ∷ [])) sink)
    ∙ ap (taking taken (with_values more)) (sym (taking_more taken header some sink))
