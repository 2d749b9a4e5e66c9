-- What stands before and behind the last colon of an address.
use Rattle.std.proofs.Common.{◌≡◌, ℕ, ◌+◌, ◌-◌, false, not, length, take, drop, None, Some, refl, arith}
use Rattle.std.specs.List.{suffix_len}
use Rattle.std.proofs.lemmas.Bool.{false_from_ne_true, not_from_false, not_from_true}
use Rattle.std.proofs.lemmas.List.Elements.{All-from_get_or}
use Rattle.std.proofs.lemmas.List.Folds.{list_any_none, list_any_at}
use Rattle.std.proofs.lemmas.List.Sums.{suffix_len_is}
use Rattle.memchr.specs.Find.{Nowhere, NoneAfter, Passes}
use Rattle.fs_text.specs.Texts.{Text}
use Rattle.fs_text.specs.Words.{is_byte}
use Rattle.fs_out.specs.Targets.{parts_of}

-- where no byte is a colon there are no parts
pub no_parts : (address : Text) → Nowhere (Passes (is_byte 58) address) 0 (length address) → None ≡ parts_of address
unfolding parts_of
no_parts address none =
    let without = list_any_none (is_byte 58) address (All-from_get_or (λ b. is_byte 58 b ≡ false) address 0
    (λ k below. false_from_ne_true _ (none k (omega arith) below))) in
    rw without refl

-- behind the last one stands none
none_behind : (address : Text) (colon : ℕ) → NoneAfter (Passes (is_byte 58) address) 0 (length address) colon → Passes (is_byte 58) address colon →
    suffix_len (λ b. not (is_byte 58 b)) address ≡ length address - (colon + 1)
none_behind address colon last here =
    let at : colon + 1 - 1 ≡ colon = omega arith in
    suffix_len_is (λ b. not (is_byte 58 b)) address (colon + 1) 0 (omega (arith, last.high))
    (λ k from below. not_from_false _ (false_from_ne_true _ (last.after k from below)))
    (λ some. rw at (not_from_true _ here))

-- where the last colon stands, the parts stand round it
pub parts_are : (address : Text) (colon : ℕ) → NoneAfter (Passes (is_byte 58) address) 0 (length address) colon → Passes (is_byte 58) address colon →
    Some (take colon address, drop (colon + 1) address) ≡ parts_of address
unfolding parts_of
parts_are address colon last here =
    let behind = none_behind address colon last here in
    let some = list_any_at (is_byte 58) address colon 0 last.high here in
    let front : length address - suffix_len (λ b. not (is_byte 58 b)) address - 1 ≡ colon = omega (arith, behind, last.high) in
    let back : length address - suffix_len (λ b. not (is_byte 58 b)) address ≡ colon + 1 = omega (arith, behind, last.high) in
    rw (some, front, back) refl
