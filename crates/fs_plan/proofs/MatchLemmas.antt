-- From what a matcher finds to what the text of its pattern finds.
use Rattle.std.proofs.Common.{◌≡◌, ℕ, zero, suc, ◌+◌, ◌*◌, ◌<◌, Bool, true, false, map, length, get_or, Option, None, Some, is_some, refl}
use Rattle.std.proofs.Common.{sym, ap, ◌∙◌, arith, true≢false}
use Rattle.std.specs.Prelude.{nat_lt}
use Rattle.std.specs.Option.{option_map}
use Rattle.std.specs.List.{range_with_len}
use Rattle.std.proofs.Math.Path.{fun_ext}
use Rattle.std.proofs.lemmas.Bool.{lt-ltb}
use Rattle.std.proofs.lemmas.Option.{same_Some}
use Rattle.regex.specs.Patterns.{Re, Match, find, span, slot_of}
use Rattle.regex.specs.Writes.{both}
use Rattle.regex.specs.Search.{group_span}
use Rattle.regex.specs.Bytes.{regex_pattern, regex_names, captures_span, captures_haystack, IsCapturesOf}
use Rattle.regex.specs.declared.bytes.regex.Regex.{Regex}
use Rattle.regex.specs.declared.bytes.captures.Captures.{Captures}
use Rattle.regex.proofs.ForCallers.{is_match_alike, found_alike, span_alike}
use Rattle.fs_text.specs.Texts.{Text}
use Rattle.fs_lead.specs.Leads.{IsLead, IsLeadOf}
use Rattle.fs_lead.specs.declared.lead.Lead.{Lead}
use Rattle.fs_ports.specs.Patterns.{Reading, pattern_reading, IsBuiltOf}
use Rattle.fs_plan.specs.Matching.{Groups, groups_of, group_text, span_of, has_groups, match_gives, tested}
use Rattle.fs_plan.specs.declared.tested.Tested.{Tested}

-- ---- a pattern whose groups are not asked for

plain_gives : (pattern : Reading) (value : Text) (found : Option Match) → has_groups pattern ≡ false → (holds : Bool) →
    holds ≡ is_some found →
    record { holds = holds; groups = None } ≡ match_gives pattern value found
plain_gives pattern value None none holds is = ap (λ h. record { holds = h; groups = None }) is
plain_gives pattern value (Some m) none holds is = ap (λ h. record { holds = h; groups = None }) is ∙ rw none refl

no_groups : (n : ℕ) → n < 2 → nat_lt 1 n ≡ false
no_groups zero h = refl
no_groups (suc zero) h = refl
no_groups (suc (suc n)) h = absurd (omega arith)

-- what a text finds by what it is read as
by_reading : (text value : Text) (t : Tested) (pattern : Reading) → pattern_reading text ≡ Some pattern →
    t ≡ match_gives pattern value (find pattern.re value 0) → t ≡ tested text value
unfolding tested
by_reading text value t pattern is e = rw is e

pub plain_tested : (text value : Text) (regex : Regex) (holds : Bool) → IsBuiltOf text regex → ((k : ℕ) → get_or value k 0 < 256) →
    length (regex_names regex) < 2 → holds ≡ is_some (find (regex_pattern regex) value 0) →
    record { holds = holds; groups = None } ≡ tested text value
plain_tested text value regex holds built bytes few is =
    by_reading text value _ built.what built.is_read
    (plain_gives built.what value _ (no_groups _ (rw built.names at few)) holds (is ∙ is_match_alike built.alike value bytes false 0))

-- ---- a pattern with groups

-- nothing is found
none_gives : (pattern : Reading) (value : Text) (found : Option Match) → is_some found ≡ false →
    record { holds = false; groups = None } ≡ match_gives pattern value found
none_gives pattern value None is = refl
none_gives pattern value (Some m) is = absurd (true≢false is)

pub none_tested : (text value : Text) (regex : Regex) → IsBuiltOf text regex → ((k : ℕ) → get_or value k 0 < 256) →
    find (regex_pattern regex) value 0 ≡ None → record { holds = false; groups = None } ≡ tested text value
none_tested text value regex built bytes none =
    by_reading text value _ built.what built.is_read
    (none_gives built.what value _ (sym (is_match_alike built.alike value bytes false 0) ∙ ap is_some none))

-- the spans of a match, in captures of a match with the same slots
same_spans : (value : Text) (m n : Match) (c : Captures) → IsCapturesOf value m c → slot_of n ≡ slot_of m → span n ≡ span m → (k : ℕ) →
    captures_span c k ≡ span_of n k
unfolding group_span
same_spans value m n c of slots spans zero = ap Some (of.1.whole_is ∙ sym spans)
same_spans value m n c of slots spans (suc k) =
    of.2 (suc k) (omega arith) ∙ ap (λ f. both (f (2 * suc k)) (f (2 * suc k + 1))) (sym slots)

same_groups : (value : Text) (m n : Match) (c : Captures) → IsCapturesOf value m c → slot_of n ≡ slot_of m → span n ≡ span m →
    map (λ k. group_text (captures_haystack c) (captures_span c k)) (range_with_len 0 10) ≡ groups_of value n
same_groups value m n c of slots spans =
    ap (λ f. map f (range_with_len 0 10)) (fun_ext
    (λ k. ap (λ h. group_text h (captures_span c k)) of.0 ∙ ap (group_text value) (same_spans value m n c of slots spans k)))

some_gives : (pattern : Reading) (value : Text) (groups : Groups) (n : Match) (found : Option Match) → has_groups pattern ≡ true →
    found ≡ Some n → groups ≡ groups_of value n →
    record { holds = true; groups = Some groups } ≡ match_gives pattern value found
some_gives pattern value groups n found some is same =
    ap (λ g. record { holds = true; groups = Some g }) same ∙ rw (is, some) refl

-- the captures of a match give its groups
pub some_tested : (text value : Text) (regex : Regex) (c : Captures) (groups : Groups) → IsBuiltOf text regex →
    ((k : ℕ) → get_or value k 0 < 256) →
    1 < length (regex_names regex) → (m : Match) → find (regex_pattern regex) value 0 ≡ Some m → IsCapturesOf value m c →
    groups ≡ map (λ k. group_text (captures_haystack c) (captures_span c k)) (range_with_len 0 10) →
    record { holds = true; groups = Some groups } ≡ tested text value
some_tested text value regex c groups built bytes many m found of same =
    let other = found_alike built.alike value bytes false 0 m found in
    let spans : span other.0 ≡ span m =
    same_Some _ _ (sym (ap (option_map span) other.1) ∙ sym (span_alike built.alike value bytes false 0) ∙ ap (option_map span) found) in
    by_reading text value _ built.what built.is_read
    (some_gives built.what value groups other.0 _ (lt-ltb 1 _ (rw built.names at many)) other.1
    (same ∙ same_groups value m other.0 c of other.2 spans))

-- ---- a pattern whose lead tells

-- what is known of a text is known of the pattern that it is read as
lead_read : (text : Text) (regex : Regex) (lead : Lead) (built : IsBuiltOf text regex) → IsLeadOf text lead → IsLead built.what.re lead
lead_read text regex lead built leads = rw built.is_read at leads.is

-- nothing is found
pub missing_told : (text value : Text) (regex : Regex) (lead : Lead) → IsBuiltOf text regex → IsLeadOf text lead →
    ((re : Re) → IsLead re lead → false ≡ is_some (find re value 0)) → record { holds = false; groups = None } ≡ tested text value
missing_told text value regex lead built leads told =
    by_reading text value _ built.what built.is_read
    (none_gives built.what value _ (sym (told built.what.re (lead_read text regex lead built leads))))

-- something is found, and the groups are not asked for
pub found_told : (text value : Text) (regex : Regex) (lead : Lead) → IsBuiltOf text regex → IsLeadOf text lead →
    length (regex_names regex) < 2 →
    ((re : Re) → IsLead re lead → true ≡ is_some (find re value 0)) → record { holds = true; groups = None } ≡ tested text value
found_told text value regex lead built leads few told =
    by_reading text value _ built.what built.is_read
    (plain_gives built.what value _ (no_groups _ (rw built.names at few)) true (told built.what.re (lead_read text regex lead built leads)))
