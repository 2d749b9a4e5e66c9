-- What a connection has lost, by the seat at which its loss stands.
use Rattle.std.proofs.Common.{◌≡◌, ℕ, zero, suc, ◌+◌, ◌<◌, Bool, true, false, cond, if◌then◌else◌, [], ◌∷◌, ◌++◌, length}
use Rattle.std.proofs.Common.{get_or, None, Some, refl, sym, ap, ◌∙◌, arith}
use Rattle.std.specs.List.{position, position_from, slice_set}
use Rattle.std.proofs.lemmas.Iterator.Adapters.{position_from-zero}
use Rattle.std.proofs.lemmas.List.Quantifiers.{position-Some}
use Rattle.fs_state.specs.declared.losses.Loss.{Loss}
use Rattle.fs_state.specs.Losses.{Losses, is_of, lost_in, raised_by, with_loss}

-- ---- a loss that is the first of its connection

lost_here : (conn : ℕ) (losses : Losses) (k : ℕ) (d : Loss) → k < length losses → is_of conn (get_or losses k d) ≡ true →
    ((j : ℕ) → j < k → is_of conn (get_or losses j d) ≡ false) → lost_in conn losses ≡ (get_or losses k d).events
lost_here conn [] k d within here before = absurd (omega arith)
lost_here conn (loss ∷ losses) zero d within here before = ap (λ b. if b then loss.events else lost_in conn losses) here
lost_here conn (loss ∷ losses) (suc k) d within here before =
    ap (λ b. if b then loss.events else lost_in conn losses) (before 0 (omega arith))
    ∙ lost_here conn losses k d (omega arith) here (λ j less. before (suc j) (omega arith))

-- the loss of a connection with so many more
abbrev raised : ℕ → ℕ → Loss → Loss
raised conn more loss = record { conn = conn; events = raised_by more loss.events }

with_loss_here : (conn more : ℕ) (losses : Losses) (k : ℕ) (d : Loss) → k < length losses → is_of conn (get_or losses k d) ≡ true →
    ((j : ℕ) → j < k → is_of conn (get_or losses j d) ≡ false) →
    with_loss conn more losses ≡ slice_set losses k (raised conn more (get_or losses k d))
with_loss_here conn more [] k d within here before = absurd (omega arith)
with_loss_here conn more (loss ∷ losses) zero d within here before =
    ap (λ b. if b then raised conn more loss ∷ losses else loss ∷ with_loss conn more losses) here
with_loss_here conn more (loss ∷ losses) (suc k) d within here before =
    ap (λ b. if b then raised conn more loss ∷ losses else loss ∷ with_loss conn more losses) (before 0 (omega arith))
    ∙ ap (λ more. loss ∷ more) (with_loss_here conn more losses k d (omega arith) here (λ j less. before (suc j) (omega arith)))

pub lost_at : (conn : ℕ) (losses : Losses) (k : ℕ) (d : Loss) → position (is_of conn) losses ≡ Some k →
    lost_in conn losses ≡ (get_or losses k d).events
lost_at conn losses k d found =
    let first = position-Some (is_of conn) losses k d found in
    lost_here conn losses k d first.0 first.1 first.2

pub with_loss_at : (conn more : ℕ) (losses : Losses) (k : ℕ) (d : Loss) → position (is_of conn) losses ≡ Some k →
    with_loss conn more losses ≡ slice_set losses k (raised conn more (get_or losses k d))
with_loss_at conn more losses k d found =
    let first = position-Some (is_of conn) losses k d found in
    with_loss_here conn more losses k d first.0 first.1 first.2

-- ---- a connection without a loss

none_lost_from : (conn : ℕ) (losses : Losses) (i : ℕ) → position_from (is_of conn) i losses ≡ None → lost_in conn losses ≡ 0
none_lost_from conn [] i none = refl
none_lost_from conn (loss ∷ losses) i none = by (is_of conn loss) refl (none_lost_from conn losses (i + 1)) none
  where
    by : (b : Bool) → is_of conn loss ≡ b → (position_from (is_of conn) (i + 1) losses ≡ None → lost_in conn losses ≡ 0) →
        cond b (Some i) (position_from (is_of conn) (i + 1) losses) ≡ None → lost_in conn (loss ∷ losses) ≡ 0
    by true is later e = absurd (cc)
    by false is later e = ap (λ b. if b then loss.events else lost_in conn losses) is ∙ later e

with_first_from : (conn more : ℕ) (losses : Losses) (i : ℕ) → position_from (is_of conn) i losses ≡ None →
    with_loss conn more losses ≡ losses ++ record { conn = conn; events = more } ∷ []
with_first_from conn more [] i none = refl
with_first_from conn more (loss ∷ losses) i none = by (is_of conn loss) refl (with_first_from conn more losses (i + 1)) none
  where
    by : (b : Bool) → is_of conn loss ≡ b →
        (position_from (is_of conn) (i + 1) losses ≡ None →
        with_loss conn more losses ≡ losses ++ record { conn = conn; events = more } ∷ []) →
        cond b (Some i) (position_from (is_of conn) (i + 1) losses) ≡ None →
        with_loss conn more (loss ∷ losses) ≡ loss ∷ (losses ++ record { conn = conn; events = more } ∷ [])
    by true is later e = absurd (cc)
    by false is later e =
        ap (λ b. if b then raised conn more loss ∷ losses else loss ∷ with_loss conn more losses) is
        ∙ ap (λ back. loss ∷ back) (later e)

pub none_lost : (conn : ℕ) (losses : Losses) → position (is_of conn) losses ≡ None → lost_in conn losses ≡ 0
none_lost conn losses none = none_lost_from conn losses 0 (sym (position_from-zero (is_of conn) losses) ∙ none)

pub with_first_loss : (conn more : ℕ) (losses : Losses) → position (is_of conn) losses ≡ None →
    with_loss conn more losses ≡ losses ++ record { conn = conn; events = more } ∷ []
with_first_loss conn more losses none =
    with_first_from conn more losses 0 (sym (position_from-zero (is_of conn) losses) ∙ none)

pub ruleset loss_rules = (lost_at, none_lost, with_loss_at, with_first_loss)
