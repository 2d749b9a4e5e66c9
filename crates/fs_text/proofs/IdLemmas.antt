-- The halves of an identifier are read back from its text.
use Rattle.std.proofs.Common.{◌≡◌, ◌≢◌, ◌<◌, ◌+◌, ◌*◌, ◌/◌, ◌%◌, ◌^◌, ◌↔◌, ℕ, zero, suc, List, [], All, length, Option, Some, None, refl}
use Rattle.std.proofs.Common.{sym, ap, ◌∙◌, subst, inl, arith, unwrap_or, Result, Ok, Err, IsOk, IfOk, true, false, true≢false}
use Rattle.std.specs.Int.{to_be_bytes, from_be_bytes, bytes_high_first, byte_at, w128}
use Rattle.std.specs.Option.{option_map}
use Rattle.std.specs.Result.{result_ok}
use Rattle.std.specs.Str.{bytes_eq}
use Rattle.std.proofs.lemmas.Slice.Eq.{bytes_eq-Decides}
use Rattle.std.proofs.lemmas.List.Elements.{All-nil, All-cons}
use Rattle.std.proofs.Math.Nat.{div-div-eq-div-mul}
use Rattle.uuid.specs.Text.{lower, parsed}
use Rattle.uuid.proofs.TextLemmas.{by_index_length}
use Rattle.uuid.proofs.RoundTrips.{parses_hyphenated}
use Rattle.fs_text.specs.CoreId.{uuid_text, uuid, high_of, IsCore, IsCoreText, Owns}

byte_and_rest : (n p : ℕ) → n / p ≡ n / p % 256 + n / (p * 256) * 256
byte_and_rest n p = omega (arith, div-div-eq-div-mul n p 256)

-- sixteen bytes keep a number below 2^128
from_be_bytes-to_be_bytes : (n : ℕ) → from_be_bytes w128 (to_be_bytes w128 n) ≡ n % 2 ^ 128
from_be_bytes-to_be_bytes n =
    omega (
      arith,
      byte_and_rest n 256,
      byte_and_rest n (256 ^ 2),
      byte_and_rest n (256 ^ 3),
      byte_and_rest n (256 ^ 4),
      byte_and_rest n (256 ^ 5),
      byte_and_rest n (256 ^ 6),
      byte_and_rest n (256 ^ 7),
      byte_and_rest n (256 ^ 8),
      byte_and_rest n (256 ^ 9),
      byte_and_rest n (256 ^ 10),
      byte_and_rest n (256 ^ 11),
      byte_and_rest n (256 ^ 12),
      byte_and_rest n (256 ^ 13),
      byte_and_rest n (256 ^ 14),
      byte_and_rest n (256 ^ 15),
    )

byte_at-small : (k n : ℕ) → byte_at k n < 256
byte_at-small zero n = omega arith
byte_at-small (suc k) n = omega arith

bytes_are_small : (k n : ℕ) → All (λ b. b < 256) (bytes_high_first k n)
bytes_are_small zero n = All-nil (λ b. b < 256)
bytes_are_small (suc k) n = All-cons (λ b. b < 256) (byte_at k n) (bytes_high_first k n) (byte_at-small k n) (bytes_are_small k n)

-- the number with these halves
abbrev joined : ℕ → ℕ → ℕ
joined high low = high * 2 ^ 64 + low

parsed-uuid_text : (high low : ℕ) → parsed (uuid_text high low) ≡ Some (to_be_bytes w128 (joined high low))
unfolding uuid_text
parsed-uuid_text high low =
    sym (parses_hyphenated lower (to_be_bytes w128 (joined high low)) (inl refl) refl (bytes_are_small 16 (joined high low)))

high_of-uuid_text : (high low : ℕ) → high < 2 ^ 64 → low < 2 ^ 64 → high_of (uuid_text high low) ≡ Some high
unfolding high_of
high_of-uuid_text high low high_fits low_fits =
    let half : joined high low % 2 ^ 128 / 2 ^ 64 ≡ high = omega arith in
    rw (parsed-uuid_text high low) (ap Some (ap (λ n. n / 2 ^ 64) (from_be_bytes-to_be_bytes (joined high low)) ∙ half))

-- an identifier has 36 bytes
pub uuid_length : (core n : ℕ) → length (uuid core n) ≡ 36
unfolding uuid uuid_text
uuid_length core n = by_index_length 36 _

-- a core owns its identifiers
pub uuid_owned : (core n : ℕ) → IsCore core → n < 2 ^ 62 → Owns core (uuid core n)
unfolding uuid
uuid_owned core n is_core small = high_of-uuid_text core (2 ^ 63 + n) is_core.0 (omega arith)

-- an identifier tells its number
pub uuid_tells : (core m n : ℕ) → m < 2 ^ 62 → n < 2 ^ 62 → uuid core m ≡ uuid core n → m ≡ n
unfolding uuid
uuid_tells core m n m_small n_small same =
    let first = joined core (2 ^ 63 + m) in
    let second = joined core (2 ^ 63 + n) in
    let bytes = sym (parsed-uuid_text core (2 ^ 63 + m)) ∙ ap parsed same ∙ parsed-uuid_text core (2 ^ 63 + n) in
    let numbers : first % 2 ^ 128 ≡ second % 2 ^ 128 =
    sym (from_be_bytes-to_be_bytes first) ∙ ap (λ o. from_be_bytes w128 (unwrap_or o [])) bytes ∙ from_be_bytes-to_be_bytes second in
    omega arith

none_parses : {E : Type 0} (e : E) (found : Option (List ℕ)) → (IsOk {T = List ℕ} (Err e) ↔ ((u : List ℕ) × (found ≡ Some u))) →
    None ≡ found
none_parses e None ok = refl
none_parses e (Some u) ok = absurd (true≢false (sym (ok.1 (u, refl))))

reading_is : {E : Type 0} (r : Result (List ℕ) E) (text : List ℕ) → (IsOk r ↔ ((u : List ℕ) × (parsed text ≡ Some u)))
    → IfOk r (λ u. Some u ≡ parsed text) → result_ok r ≡ parsed text
reading_is (Ok u) text ok bytes = bytes
reading_is (Err e) text ok bytes = none_parses e (parsed text) ok

-- what a reading gives, from its two clauses
pub high_is : {E : Type 0} (r : Result (List ℕ) E) (id : Option (List ℕ)) (text : List ℕ) →
    (IsOk r ↔ ((u : List ℕ) × (parsed text ≡ Some u)))
    → IfOk r (λ u. Some u ≡ parsed text) → id ≡ result_ok r → option_map (λ bytes. from_be_bytes w128 bytes / 2 ^ 64) id ≡ high_of text
unfolding high_of
high_is r id text ok bytes reads = ap (option_map (λ bytes. from_be_bytes w128 bytes / 2 ^ 64)) (reads ∙ reading_is r text ok bytes)

-- a text that says this high half says no core but that one
core_is_half : (text : List ℕ) (half : Option ℕ) (core : ℕ) → half ≡ high_of text → IsCoreText core text → half ≡ Some core
unfolding uuid
core_is_half text half core reads is =
    reads ∙ ap high_of is.1 ∙ high_of-uuid_text core (2 ^ 63) is.0.0 (omega arith)

-- no core is said
no_core : (text : List ℕ) → ((core : ℕ) → IsCoreText core text → ⊥) → (core : ℕ) → (None ≡ Some core) ↔ IsCoreText core text
no_core text nowhere core = (λ e. absurd (cc), λ is. absurd (nowhere core is))

pub no_uuid : (text : List ℕ) → None ≡ high_of text → (core : ℕ) → (None ≡ Some core) ↔ IsCoreText core text
no_uuid text reads = no_core text (λ core is. let found = core_is_half text None core reads is in cc)

pub other_version : (text : List ℕ) (high : ℕ) → Some high ≡ high_of text → high / 2 ^ 12 % 16 ≢ 8 → (core : ℕ) →
    (None ≡ Some core) ↔ IsCoreText core text
other_version text high reads other =
    no_core text (λ core is. let found = core_is_half text (Some high) core reads is in let same : high ≡ core = cc in
    other (ap (λ h. h / 2 ^ 12 % 16) same ∙ is.0.1))

pub other_text : (text written : List ℕ) (high : ℕ) → Some high ≡ high_of text → written ≡ uuid_text high (2 ^ 63) →
    false ≡ bytes_eq written text
    → (core : ℕ) → (None ≡ Some core) ↔ IsCoreText core text
unfolding uuid
other_text text written high reads is_written differs =
    no_core text (λ core is.
    let found = core_is_half text (Some high) core reads is in
    let same : high ≡ core = cc in
    let both = is_written ∙ ap (λ h. uuid_text h (2 ^ 63)) same ∙ sym is.1 in
    true≢false (sym ((bytes_eq-Decides written text).1 both) ∙ sym differs))

pub the_core : (text written : List ℕ) (high : ℕ) → Some high ≡ high_of text → IsCore high → written ≡ uuid_text high (2 ^ 63) →
    true ≡ bytes_eq written text
    → (core : ℕ) → (Some high ≡ Some core) ↔ IsCoreText core text
unfolding uuid
the_core text written high reads is_core is_written same core =
    let both = sym ((bytes_eq-Decides written text).0 (sym same)) ∙ is_written in (
      λ e. let is_it : high ≡ core = cc in subst (λ h. IsCore h × (text ≡ uuid_text h (2 ^ 63))) is_it (is_core, both),
      λ is. core_is_half text (Some high) core reads is,
    )
