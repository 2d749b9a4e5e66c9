-- Others append nothing that names a number of one's own.
use Rattle.std.proofs.Common.{◌≡◌, ℕ, ◌<◌, List, [], ◌∷◌, ◌++◌, length, Option, Some, refl, subst, arith, append_assoc, length-append}
use mathlib.Core.List.{IsPrefix}
use mathlib.Core.Option.{some}
use lib.ListN.{get_elem?}
use Rattle.fs_book.specs.Counts.{times}
use Rattle.fs_book.specs.Opened.{NamesAt, OwnsNumber, Owned, NoneNames, Quiet}
use Rattle.fs_book.proofs.Lists.{get_below, last_get, times_before}
use Rattle.fs_book.proofs.Opening.{opens_up, names_up, owns_up, owns_more}

module _ {E : Type 0} (names : E → Option ℕ) (number : ℕ) where
  -- what was appended names no number whose places all stand before it
  pub none_by_places : (old more : List E) → ((p : ℕ) → NamesAt names (old ++ more) p number → p < length old) → NoneNames names number more
  none_by_places old [] below = tt
  none_by_places old (entry ∷ more) below =
      let steps : (old ++ entry ∷ []) ++ more ≡ old ++ entry ∷ more = append_assoc old (entry ∷ []) more in
      let len = length-append old (entry ∷ []) in (
        λ is.
            let named : NamesAt names ((old ++ entry ∷ []) ++ more) (length old) number =
            names_up names (old ++ entry ∷ []) ((old ++ entry ∷ []) ++ more) (length old) number (more, refl)
            (entry, last_get old entry, is) in
            let r = below (length old) (subst (λ (log : List E). NamesAt names log (length old) number) steps named) in omega arith,
        none_by_places (old ++ entry ∷ []) more (λ p named. let r = below p
            (subst (λ (log : List E). NamesAt names log p number) steps named) in omega arith),
      )

  pub quiet_places : (old new : List E) → IsPrefix old new → ((p : ℕ) → NamesAt names new p number → p < length old) →
      Quiet names number old new
  quiet_places old new pre below =
      record {
        more = pre.0;
        split = pre.1;
        none = none_by_places old pre.0 (λ p named. below p (subst (λ (log : List E). NamesAt names log p number) pre.1 named));
      }

module _ {B E : Type 0} (opens : B → List E → E → Option ℕ) (names : E → Option ℕ) (origin : B) (number : ℕ) where
  -- a list of any pass that opened the number, and all of whose places were seen before
  pub quiet_owned : (start : Option B) (lists : List (List ℕ)) (k : ℕ) (places : List ℕ) (old new : List E) → start ≡ Some origin →
      get_elem? lists k ≡ some places
      → IsPrefix old new → ((p : ℕ) → 0 < times p places → p < length old) → Owned opens names start lists new
      → OwnsNumber opens origin number old places → Quiet names number old new
  quiet_owned start lists k places old new is at pre below owned own =
      quiet_places names number old new pre (λ p named. below p
      (owned origin is k places at own.0 number own.1 (opens_up opens origin old new own.0 number pre own.2) p named))

  -- from a pass's last call to its next look
  pub quiet_look : (start : Option B) (mine : List ℕ) (met : List (List ℕ)) (old new : List E) → start ≡ Some origin
      → IsPrefix old new → ((p : ℕ) → 0 < times p mine → p < length old) → Owned opens names start (mine ∷ met) new
      → OwnsNumber opens origin number old mine → Quiet names number old new
  quiet_look start mine met old new is pre below owned own = quiet_owned start (mine ∷ met) 0 mine old new is refl pre below owned own

  -- from a pass's last call to its next entry, which came right after `before`
  pub quiet_submit : (start : Option B) (mine : List ℕ) (met : List (List ℕ)) (old before : List E) (entry : E) → start ≡ Some origin
      → IsPrefix old before → ((p : ℕ) → 0 < times p mine → p < length old)
      → Owned opens names start ((mine ++ length before ∷ []) ∷ met) (before ++ entry ∷ [])
      → OwnsNumber opens origin number old mine → Quiet names number old before
  quiet_submit start mine met old before entry is pre below owned own =
      let whole : IsPrefix before (before ++ entry ∷ []) = (entry ∷ [], refl) in
      let own' = owns_more opens origin number before mine (length before) (owns_up opens origin number old before mine pre own) in
      quiet_places names number old before pre
      (λ p named.
      let inside = get_below before p named.0 named.1 in
      below p (times_before p (length before) mine (λ e. omega arith)
      (owned origin is 0 (mine ++ length before ∷ []) refl own'.0 number own'.1
      (opens_up opens origin before (before ++ entry ∷ []) own'.0 number whole own'.2) p
      (names_up names before (before ++ entry ∷ []) p number whole named))))
