-- Slots that name each other as partners, where two functions tell which slot each names, and which lives.
use Rattle.std.proofs.Common.{◌≡◌, ℕ, ◌==◌, Bool, true, false, if◌then◌else◌, List, [], ◌∷◌, Option, None, Some, ◌⊎◌, inl, inr, refl, sym}
use Rattle.std.proofs.Common.{◌∙◌, true≢false}
use Rattle.std.proofs.lemmas.Bool.{cases_eq}

-- who names a partner lives
abbrev pub LiveNamers : (ℕ → Option ℕ) → (ℕ → Bool) → Type 0
LiveNamers partner lives = (a b : ℕ) → partner a ≡ Some b → lives a ≡ true

-- who names a partner lives, and is named back
pub record Agree (partner : ℕ → Option ℕ) (lives : ℕ → Bool) : Type 0 where
  pub back : (a b : ℕ) → partner a ≡ Some b → partner b ≡ Some a
  pub live : LiveNamers partner lives

-- who does not live names none
pub lone : (P : ℕ → Option ℕ) (L : ℕ → Bool) (a : ℕ) → LiveNamers P L → L a ≡ false → P a ≡ None
lone P L a live dead = by (P a) (live a)
  where
    by : (found : Option ℕ) → ((b : ℕ) → found ≡ Some b → L a ≡ true) → found ≡ None
    by None live = refl
    by (Some b) live = absurd (true≢false (sym (live b refl) ∙ dead))

-- the same are named, and who lived lives
pub agree_kept : (P Q : ℕ → Option ℕ) (L M : ℕ → Bool) → ((q : ℕ) → Q q ≡ P q) → ((q : ℕ) → L q ≡ true → M q ≡ true) → Agree P L → Agree Q M
agree_kept P Q L M same live h = record {
  back = λ a b e. same b ∙ h.back a b (sym (same a) ∙ e);
  live = λ a b e. live a (h.live a b (sym (same a) ∙ e));
}

-- ---- a slot is cut off

-- it names none any more, and nothing else changes
pub record Cuts (slot : ℕ) (P Q : ℕ → Option ℕ) (L M : ℕ → Bool) : Type 0 where
  pub here : Q slot ≡ None
  pub partners : (q : ℕ) → (q ≡ slot → ⊥) → Q q ≡ P q
  pub lives : (q : ℕ) → (q ≡ slot → ⊥) → M q ≡ L q

-- ---- several slots are cut off

abbrev pub among : ℕ → List ℕ → Bool
among q [] = false
among q (slot ∷ slots) = if q == slot then true else among q slots

-- they name none any more, and nothing else changes
pub record CutsAll (slots : List ℕ) (P Q : ℕ → Option ℕ) (L M : ℕ → Bool) : Type 0 where
  pub here : (q : ℕ) → among q slots ≡ true → Q q ≡ None
  pub partners : (q : ℕ) → among q slots ≡ false → Q q ≡ P q
  pub lives : (q : ℕ) → among q slots ≡ false → M q ≡ L q

pub none_cut : (P : ℕ → Option ℕ) (L : ℕ → Bool) → CutsAll [] P P L L
none_cut P L = record { here = λ q is. absurd (true≢false (sym is)); partners = λ q isnt. refl; lives = λ q isnt. refl }

-- ---- two slots are joined

-- two that named none, and were named by none, name each other
pub joined : (a b : ℕ) (P Q : ℕ → Option ℕ) (L M : ℕ → Bool) → P a ≡ None → P b ≡ None → Q a ≡ Some b → Q b ≡ Some a → M a ≡ true →
    M b ≡ true →
    ((q : ℕ) → (q ≡ a → ⊥) → (q ≡ b → ⊥) → Q q ≡ P q) → ((q : ℕ) → (q ≡ a → ⊥) → (q ≡ b → ⊥) → M q ≡ L q) → Agree P L → Agree Q M
joined a b P Q L M free_a free_b names_a names_b live_a live_b partners lives h = record {
  back = λ c d e. back_by c d (cases_eq c a) (cases_eq c b) e;
  live = λ c d e. live_by c d (cases_eq c a) (cases_eq c b) e;
}
  where
    back_by : (c d : ℕ) → (c ≡ a) ⊎ (c ≡ a → ⊥) → (c ≡ b) ⊎ (c ≡ b → ⊥) → Q c ≡ Some d → Q d ≡ Some c
    back_by c d (inl is_a) either e = let other : d ≡ b = cc in cc
    back_by c d (inr not_a) (inl is_b) e = let other : d ≡ a = cc in cc
    back_by c d (inr not_a) (inr not_b) e =
        let again : P d ≡ Some c = h.back c d (sym (partners c not_a not_b) ∙ e) in
        partners d (λ same. cc) (λ same. cc) ∙ again

    live_by : (c d : ℕ) → (c ≡ a) ⊎ (c ≡ a → ⊥) → (c ≡ b) ⊎ (c ≡ b → ⊥) → Q c ≡ Some d → M c ≡ true
    live_by c d (inl is_a) either e = cc
    live_by c d (inr not_a) (inl is_b) e = cc
    live_by c d (inr not_a) (inr not_b) e = lives c not_a not_b ∙ h.live c d (sym (partners c not_a not_b) ∙ e)
