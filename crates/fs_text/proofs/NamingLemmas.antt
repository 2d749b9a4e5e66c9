-- Identifiers in slots, where a function tells which identifier a slot has.
use Rattle.std.proofs.Common.{◌≡◌, ℕ, ◌<◌, ◌≤◌, ◌^◌, true, false, List, Option, None, Some, ◌⊎◌, inl, inr}
use Rattle.std.proofs.Common.{refl, sym, ap, subst, ◌∙◌, arith}
use Rattle.std.proofs.lemmas.Bool.{cases_eq, both_ways, eq-eqb}
use Rattle.std.proofs.lemmas.Option.{same_Some}
use Rattle.fs_text.specs.CoreId.{uuid, owns, is_half_of, IsCore}
use Rattle.fs_text.proofs.IdLemmas.{uuid_tells, uuid_owned}

-- a text is the identifier of a number that was drawn
pub record IsDrawn (core drawn : ℕ) (text : List ℕ) : Type 0 where
  pub number : ℕ
  pub so_far : number ≤ drawn
  pub is : text ≡ uuid core number

-- it was drawn, or the core does not own it
abbrev pub IsKnown : ℕ → ℕ → List ℕ → Type 0
IsKnown core drawn text = IsDrawn core drawn text ⊎ (owns core text ≡ false)

-- each identifier was drawn or is not the core's, and stands in one slot
pub record Naming (core drawn : ℕ) (name : ℕ → Option (List ℕ)) : Type 0 where
  pub known : (a : ℕ) (text : List ℕ) → name a ≡ Some text → IsKnown core drawn text
  pub once : (a b : ℕ) (text : List ℕ) → name a ≡ Some text → name b ≡ Some text → a ≡ b

-- no slot has an identifier
pub naming_none : (core drawn : ℕ) (U : ℕ → Option (List ℕ)) → ((q : ℕ) → U q ≡ None) → Naming core drawn U
naming_none core drawn U none = record {
  known = λ a text e. absurd (no_name a text e);
  once = λ a b text here there. absurd (no_name a text here);
}
  where
    no_name : (a : ℕ) (text : List ℕ) → U a ≡ Some text → ⊥
    no_name a text e = let nothing : U a ≡ None = none a in cc

-- what slots have, they had
pub naming_kept : (core drawn : ℕ) (U V : ℕ → Option (List ℕ)) → ((q : ℕ) (text : List ℕ) → V q ≡ Some text → U q ≡ Some text) →
    Naming core drawn U → Naming core drawn V
naming_kept core drawn U V had h = record {
  known = λ a text e. h.known a text (had a text e);
  once = λ a b text here there. h.once a b text (had a text here) (had b text there);
}

-- one slot has an identifier that no slot had
naming_new : (core drawn more slot : ℕ) (new : List ℕ) (U V : ℕ → Option (List ℕ)) → drawn ≤ more → IsKnown core more new →
    V slot ≡ Some new → ((q : ℕ) → (q ≡ slot → ⊥) → V q ≡ U q) → ((q : ℕ) → U q ≡ Some new → ⊥) →
    Naming core drawn U → Naming core more V
naming_new core drawn more slot new U V later is_known is others unused h = record {
  known = λ a text e. known_by a text (cases_eq a slot) e;
  once = λ a b text here there. once_by a b text (cases_eq a slot) (cases_eq b slot) here there;
}
  where
    still : (text : List ℕ) → IsKnown core drawn text → IsKnown core more text
    still text (inl old) = inl (record { number = old.number; so_far = omega (arith, old.so_far, later); is = old.is })
    still text (inr foreign) = inr foreign

    known_by : (a : ℕ) (text : List ℕ) → (a ≡ slot) ⊎ (a ≡ slot → ⊥) → V a ≡ Some text → IsKnown core more text
    known_by a text (inl same) e =
        subst (IsKnown core more) (same_Some new text (sym is ∙ (ap V (sym same) ∙ e))) is_known
    known_by a text (inr other) e = still text (h.known a text (sym (others a other) ∙ e))

    -- no other slot has it
    alone : (a b : ℕ) (text : List ℕ) → a ≡ slot → (b ≡ slot → ⊥) → V a ≡ Some text → V b ≡ Some text → ⊥
    alone a b text same other here there =
        let it : new ≡ text = same_Some new text (sym is ∙ (ap V (sym same) ∙ here)) in
        unused b (sym (others b other) ∙ (there ∙ ap Some (sym it)))

    once_by : (a b : ℕ) (text : List ℕ) → (a ≡ slot) ⊎ (a ≡ slot → ⊥) → (b ≡ slot) ⊎ (b ≡ slot → ⊥) → V a ≡ Some text → V b ≡ Some text →
        a ≡ b
    once_by a b text (inl same) (inl both) here there = same ∙ sym both
    once_by a b text (inl same) (inr other) here there = absurd (alone a b text same other here there)
    once_by a b text (inr other) (inl same) here there = absurd (alone b a text same other there here)
    once_by a b text (inr other) (inr neither) here there = h.once a b text (sym (others a other) ∙ here) (sym (others b neither) ∙ there)

-- one slot has an identifier that was drawn later
pub naming_more : (core drawn more slot : ℕ) (U V : ℕ → Option (List ℕ)) → IsCore core → drawn < more → more < 2 ^ 62 →
    V slot ≡ Some (uuid core more) →
    ((q : ℕ) → (q ≡ slot → ⊥) → V q ≡ U q) → Naming core drawn U → Naming core more V
naming_more core drawn more slot U V is_core later small new others h =
    naming_new core drawn more slot (uuid core more) U V (omega (arith, later))
    (inl (record { number = more; so_far = omega arith; is = refl })) new others (λ q e. unused q (h.known q (uuid core more) e)) h
  where
    owned : owns core (uuid core more) ≡ true
    owned = ap (is_half_of core) (uuid_owned core more is_core small) ∙ eq-eqb core core refl

    unused : (q : ℕ) → IsKnown core drawn (uuid core more) → ⊥
    unused q (inl old) =
        let same : more ≡ old.number = uuid_tells core more old.number small (omega (arith, old.so_far, later, small)) old.is in
        omega (arith, old.so_far, later, same)
    unused q (inr foreign) = both_ways (owns core (uuid core more)) foreign owned

-- one slot has an identifier that no core's number names and no slot had
pub naming_named : (core drawn slot : ℕ) (new : List ℕ) (U V : ℕ → Option (List ℕ)) → owns core new ≡ false → V slot ≡ Some new →
    ((q : ℕ) → (q ≡ slot → ⊥) → V q ≡ U q) → ((q : ℕ) → U q ≡ Some new → ⊥) → Naming core drawn U → Naming core drawn V
naming_named core drawn slot new U V foreign is others unused h =
    naming_new core drawn drawn slot new U V (omega arith) (inr foreign) is others unused h
