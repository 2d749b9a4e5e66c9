-- What a text is expanded to that knows the globals alone.
use Rattle.std.proofs.Common.{◌≡◌, ℕ, zero, suc, ◌-◌, Bool, true, false, cond, [], ◌∷◌, ◌++◌, Option, None, Some, Result, IfOk, IfErr}
use Rattle.std.proofs.Common.{subst, unwrap_or, length, take, append_assoc, ◌+◌, refl, sym, ap, ◌∙◌}
use Rattle.std.specs.List.{AllByRecursion, list_any}
use Rattle.std.specs.Prelude.{codes}
use Rattle.fs_text.specs.Texts.{Text}
use Rattle.fs_vars.specs.Pairs.{Pairs, same_text, value_of}
use Rattle.fs_vars.specs.Expansion.{Piece, asked_name, part_or_whole, asked_part, is_call, value_asked, meaning, inside_of, has_escape}
use Rattle.fs_vars.specs.Expansion.{has_reference, front, by_pieces, expanded}
use Rattle.fs_vars.specs.Scopes.{fields_of, known_in}
use Rattle.fs_vars.specs.Outputs.{IsTextRefusal}
use Rattle.fs_vars.specs.declared.refused.Refused.{Refused}
use Rattle.fs_vars.specs.declared.profile.Profile.{Profile}
use Rattle.fs_vars.specs.declared.scope.Scope.{Scope}
use Rattle.fs_vars.proofs.PairsLemmas.{found_first, found_later}

-- the value of a name, or nothing
abbrev known_value : Pairs → Text → Text
known_value known name = unwrap_or (value_of known name) []

-- empty fields in front of pairs hide at most that a name is not there
behind : (fields pairs : Pairs) (name : Text) → AllByRecursion (λ pair. pair.1 ≡ []) fields → known_value pairs name ≡ [] →
    known_value (fields ++ pairs) name ≡ []
behind [] pairs name empty none = none
behind (field ∷ fields) pairs name empty none = by (same_text name field.0) (behind fields pairs name empty.1 none)
  where
    by : (b : Bool) → known_value (fields ++ pairs) name ≡ [] → unwrap_or (cond b (Some field.1) (value_of (fields ++ pairs) name)) [] ≡ []
    by true again = empty.0
    by false again = again

-- empty fields behind pairs, and the same pairs once more behind these, tell nothing new
known_value-again : (pairs fields again : Pairs) (name : Text) → AllByRecursion (λ pair. pair.1 ≡ []) fields → again ≡ pairs →
    known_value (pairs ++ fields ++ again) name ≡ known_value pairs name
known_value-again pairs fields again name empty same = by (value_of pairs name) refl
  where
    by : (found : Option Text) → value_of pairs name ≡ found → known_value (pairs ++ fields ++ again) name ≡ known_value pairs name
    by (Some value) is =
        ap (λ xs. known_value xs name) (append_assoc pairs fields again)
        ∙ ap (λ v. unwrap_or v []) (found_first name value pairs (fields ++ again) is ∙ sym is)
    by None is =
        let none : known_value pairs name ≡ [] = ap (λ v. unwrap_or v []) is in
        ap (λ xs. known_value xs name) (append_assoc pairs fields again)
        ∙ ap (λ v. unwrap_or v []) (found_later name pairs (fields ++ again) is)
        ∙ behind fields again name empty (ap (λ xs. known_value xs name) same ∙ none) ∙ sym none

-- texts with the same values have the same meaning
front-same : (known other : Pairs) (text : Text) → ((name : Text) → known_value known name ≡ known_value other name) →
    front known text ≡ front other text
unfolding front meaning value_asked
front-same known other text same =
    ap (λ value. cond (has_escape text) (record { text = codes "$"; len = 2 })
    (cond (has_reference text) (record {
      text =
          unwrap_or (cond (list_any is_call (asked_name (inside_of text))) None (Some (part_or_whole (asked_part (inside_of text)) value)))
          (codes "${" ++ inside_of text ++ codes "}");
      len = length (inside_of text) + 3;
    }) (record { text = take 1 text; len = 1 })))
    (same (asked_name (inside_of text)))

by_pieces-same : (piece other : Text → Piece) (skip : ℕ) (text : Text) → ((text : Text) → piece text ≡ other text) →
    by_pieces piece skip text ≡ by_pieces other skip text
by_pieces-same piece other skip [] same = refl
by_pieces-same piece other (suc skip) (b ∷ text) same = by_pieces-same piece other skip text same
by_pieces-same piece other zero (b ∷ text) same =
    ap (λ p. p.text ++ by_pieces piece (p.len - 1) text) (same (b ∷ text))
    ∙ ap (λ rest. (other (b ∷ text)).text ++ rest) (by_pieces-same piece other ((other (b ∷ text)).len - 1) text same)

pub expanded-same : (known other : Pairs) (text : Text) → ((name : Text) → known_value known name ≡ known_value other name) →
    expanded known text ≡ expanded other text
unfolding expanded
expanded-same known other text same = by_pieces-same (front known) (front other) 0 text (λ t. front-same known other t same)

-- the globals as variables, beside an empty profile and the globals once more, expand as the globals alone
pub expanded-globals : (scope : Scope) (text : Text) → AllByRecursion (λ pair. pair.1 ≡ []) (fields_of scope.profile.now) →
    scope.globals.now.pairs ≡ scope.vars.now.pairs →
    expanded (known_in scope) text ≡ expanded scope.vars.now.pairs text
unfolding known_in
expanded-globals scope text empty same =
    expanded-same (known_in scope) scope.vars.now.pairs text
    (λ name. known_value-again scope.vars.now.pairs (fields_of scope.profile.now) scope.globals.now.pairs name empty same)

-- all fields of an empty profile are empty
pub empty_fields : (profile : Profile) →
    profile ≡ record {
      destination_number = [];
      caller_id_name = [];
      caller_id_number = [];
      ani = [];
      rdnis = [];
      context = [];
      dialplan = [];
      source = [];
      uuid = [];
      chan_name = [];
      network_addr = [];
      username = [];
    } →
    AllByRecursion (λ pair. pair.1 ≡ []) (fields_of profile)
unfolding fields_of
empty_fields profile is = rw is (refl, (refl, (refl, (refl, (refl, (refl, (refl, (refl, (refl, (refl, (refl, (refl, tt))))))))))))

-- an expansion over such a scope is one over the globals
pub IfOk-globally : (scope : Scope) (text : Text) (result : Result Text Refused) →
    AllByRecursion (λ pair. pair.1 ≡ []) (fields_of scope.profile.now) → scope.globals.now.pairs ≡ scope.vars.now.pairs →
    IfOk result (λ t. t ≡ expanded (known_in scope) text) → IfOk result (λ t. t ≡ expanded scope.vars.now.pairs text)
IfOk-globally scope text result empty same fact =
    subst (λ (whole : Text). IfOk result (λ t. t ≡ whole)) (expanded-globals scope text empty same) fact

pub IfErr-globally : (scope : Scope) (text : Text) (result : Result Text Refused) →
    AllByRecursion (λ pair. pair.1 ≡ []) (fields_of scope.profile.now) → scope.globals.now.pairs ≡ scope.vars.now.pairs →
    IfErr result (IsTextRefusal (expanded (known_in scope) text)) → IfErr result (IsTextRefusal (expanded scope.vars.now.pairs text))
IfErr-globally scope text result empty same fact =
    subst (λ (whole : Text). IfErr result (IsTextRefusal whole)) (expanded-globals scope text empty same) fact
