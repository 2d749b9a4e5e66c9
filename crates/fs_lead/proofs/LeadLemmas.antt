-- From the tree of a pattern to what a search finds.
use Rattle.std.proofs.Common.{◌≡◌, ℕ, suc, ◌+◌, ◌<◌, ◌≤◌, true, false, List, [], ◌∷◌, ◌++◌, length, drop, get_or, Option, None, Some}
use Rattle.std.proofs.Common.{IsSome, IsSomeAnd, is_some, refl, sym, ap, ◌∙◌, subst, arith, true≢false, append-nil, drop_of_length-le}
use Rattle.std.proofs.Common.{⊎_elim, option_map, nat_eq, Vec, Global}
use Rattle.std.specs.Prelude.{chars, IfSome, bytes_eq}
use Rattle.std.specs.List.{starts_with}
use Rattle.std.proofs.lemmas.Bool.{cases_Bool}
use Rattle.std.proofs.lemmas.Bool.Decides.{Decides-eqb}
use Rattle.std.proofs.lemmas.List.Elements.{All-from_get_or}
use Rattle.std.proofs.lemmas.List.Folds.{list_any_at}
use Rattle.std.proofs.lemmas.Option.{slice_get_past}
use Rattle.std.proofs.lemmas.Slice.Eq.{starts_is, bytes_eq-Decides}
use Rattle.regex_hir.proofs.OptionLemmas.{value_of_IsSome}
use Rattle.regex_hir.proofs.TextLemmas.{has_bytes_at_parts, has_bytes_at_from, has_bytes_at_fits, byte_before-zero}
use Rattle.regex_hir.proofs.FindLemmas.{find_sound, find_complete}
use Rattle.regex_hir.specs.Looks.{holds, holds_between}
use Rattle.regex_hir.specs.Meaning.{meaning}
use Rattle.regex_hir.specs.declared.hir.Hir.{Hir}
use Rattle.regex_literal.specs.Find.{OccursAt}
use Rattle.regex_extract.specs.Bounds.{IsAnchored}
use Rattle.regex_extract.specs.Needles.{StartsWithNeedle, needles_of}
use Rattle.regex_extract.proofs.BoundsLemmas.{IsAnchored-Start, IsAnchored-End}
use Rattle.regex_syntax.specs.Grammar.{Names, read, group_count}
use Rattle.regex_syntax.proofs.GrammarLemmas.{list_any-map}
use Rattle.regex_syntax.specs.Brackets.{Nested}
use Rattle.regex.specs.Patterns.{Re, Matches, SameCaptures, find, Reads}
use Rattle.regex.proofs.SearchLemmas.{leftmost_attempt}
use Rattle.regex.proofs.ForCallers.{is_match_alike}
use Rattle.fs_ports.specs.Patterns.{Reading, pattern_reading, options}
use Rattle.fs_lead.specs.declared.lead.Lead.{Lead}
use Rattle.fs_lead.specs.declared.lead.Lead.TheVariants.{Whole, Starts, Unknown}
use Rattle.fs_lead.specs.Leads.{AreBytes, begins_with_any, whole, IsLead, IsLeadOf}

-- what is found is a match, and starts within the value
found_match : (re : Re) (value : List ℕ) → IsSome (find re value 0) → (i j : ℕ) × (i ≤ length value) × Matches value re i j
found_match re value h =
    let found = value_of_IsSome _ h in
    let m = found.0 in
    (m.start, m.trace.end, (leftmost_attempt re value false 0 m found.1).1, (find_sound re value 0 m found.1).1)

-- ---- a pattern whose matches start at the start, with a needle

-- a list that has the elements of another at its front begins with it
front_splits : (xs ys : List ℕ) → length ys ≤ length xs → ((j : ℕ) → j < length ys → get_or xs j 0 ≡ get_or ys j 0) →
    xs ≡ ys ++ drop (length ys) xs
front_splits xs [] le same = refl
front_splits [] (y ∷ ys) le same = absurd (omega arith)
front_splits (x ∷ xs) (y ∷ ys) le same =
    ap (λ z. z ∷ xs) (same 0 (omega arith)) ∙ ap (λ zs. y ∷ zs) (front_splits xs ys (omega arith) (λ j lt. same (suc j) (omega arith)))

occurs_begins : (value text : List ℕ) → OccursAt value text 0 → starts_with nat_eq value text ≡ true
occurs_begins value text h =
    (starts_is Decides-eqb value text _ refl).1 (drop (length text) value)
    (front_splits value text (omega (arith, h.fits))
    (λ j lt. let e : 0 + j ≡ j = omega arith in ap (λ i. get_or value i 0) (sym e) ∙ h.reads j lt))

pub starts_lead : (re : Re) (texts : Vec (Vec ℕ Global) Global) → IsAnchored true re → StartsWithNeedle re (needles_of texts) →
    (value : List ℕ) → AreBytes value → IsSome (find re value 0) → begins_with_any texts.items value ≡ true
starts_lead re texts anchored starts value ok h =
    let m = found_match re value h in
    let start : m.0 ≡ 0 = anchored.at value m.0 m.1 m.2 m.3 in
    let needle = starts value (All-from_get_or (λ b. b < 256) value 0 (λ k _. ok k)) m.0 m.1 m.3 in
    sym (list_any-map (starts_with nat_eq value) (λ n. n.items) texts.items)
    ∙ list_any_at _ (needles_of texts) needle.0 [] needle.1.numbered
    (occurs_begins value _ (subst (OccursAt value _) start needle.1.occurs))

-- ---- a pattern that is one text

whole_same : (text value : List ℕ) → IsSome (find (whole text) value 0) → value ≡ text
whole_same text value h =
    let m = found_match (whole text) value h in
    let parts : Matches value (whole text) m.0 m.1 = m.3 in
    let start : m.0 ≡ 0 = (IsAnchored-Start true refl).at value m.0 parts.0 m.2 parts.1 in
    let first : parts.0 ≡ 0 = parts.1.1 ∙ start in
    let inside = parts.2 in
    let fits = has_bytes_at_fits value parts.0 text inside.1.0 in
    let close = inside.2 in
    let end : close.0 ≡ length value = (IsAnchored-End false refl).at value inside.0 close.0 (omega arith) close.1 in
    let past : length value ≤ parts.0 + length text = omega arith in
    let here : drop parts.0 value ≡ text ++ drop (parts.0 + length text) value = has_bytes_at_parts value parts.0 text inside.1.0 in
    sym (ap (λ i. drop i value) first) ∙ here ∙ ap (λ rest. text ++ rest) (drop_of_length-le value {i = parts.0 + length text} past)
    ∙ append-nil text

whole_found : (text : List ℕ) → IsSome (find (whole text) text 0)
unfolding holds holds_between
whole_found text =
    find_complete (whole text) text 0 0 (length text) (omega arith) (omega arith) (
      0,
      (rw (byte_before-zero text), refl),
      (
        length text,
        (has_bytes_at_from text 0 text [] (sym (append-nil text)), omega arith),
        (length text, (rw (slice_get_past text (length text) (omega arith)), refl), refl),
      ),
    )

whole_tested : (text value : List ℕ) → bytes_eq value text ≡ is_some (find (whole text) value 0)
whole_tested text value =
    ⊎_elim
    (λ yes. (bytes_eq-Decides value text).1 (whole_same text value yes) ∙ sym yes)
    (λ none. ⊎_elim
    (λ same. let is : value ≡ text = (bytes_eq-Decides value text).0 same in
    absurd (true≢false (sym (whole_found text) ∙ ap (λ v. is_some (find (whole text) v 0)) (sym is) ∙ none)))
    (λ differs. differs ∙ sym none)
    (cases_Bool (bytes_eq value text)))
    (cases_Bool (is_some (find (whole text) value 0)))

pub whole_lead : (re : Re) (bytes : List ℕ) → re ≡ whole bytes → (value : List ℕ) → AreBytes value →
    bytes_eq value bytes ≡ is_some (find re value 0)
whole_lead re bytes is value ok = rw is (whole_tested bytes value)

-- ---- from the tree to what a text is read as

alike_lead : (a b : Re) (lead : Lead) → SameCaptures a b → IsLead a lead → IsLead b lead
alike_lead a b (Whole text) same p = λ value ok. p value ok ∙ is_match_alike same value ok false 0
alike_lead a b (Starts texts) same p = λ value ok h. p value ok (is_match_alike same value ok false 0 ∙ h)
alike_lead a b Unknown same p = tt

abbrev Read : Type 0
Read = Option (Nested Re × Names)

abbrev seen : Read → Option Reading
seen = option_map (λ (re, names). record { re = re.value; depth = re.depth; names = names })

seen_lead : (hir : Hir) (given : Names) (lead : Lead) (read : Read) →
    IsSomeAnd read (λ (re, found). (re.depth ≤ options.nest_limit) × SameCaptures (meaning hir) re.value × (given ≡ found)
    × (group_count (meaning hir) ≤ length given)) →
    IsLead (meaning hir) lead → IfSome (seen read) (λ what. IsLead what.re lead)
seen_lead hir given lead None h p = absurd h
seen_lead hir given lead (Some x) h p = alike_lead _ _ lead h.1 p

-- the lead of the tree that is parsed is the lead of the text
pub read_lead : (text : List ℕ) (hir : Hir) (names : Names) (lead : Lead) → Reads options text hir names → IsLead (meaning hir) lead →
    IsLeadOf text lead
unfolding Reads pattern_reading
read_lead text hir names lead reads p = record { is = seen_lead hir names lead (read options (chars text)) reads p }
