-- What is read of a target that was written.
use Rattle.std.proofs.Common.{◌≡◌, ℕ, suc, ◌+◌, ◌-◌, ◌<◌, ◌≤◌, ◌==◌, ◌&&◌, nat_le, Bool, true, false, List, [], ◌∷◌, ◌++◌, length, get_or, take, drop, filter, codes, All, Some, Ok, rules, refl, sym, ap, ◌∙◌, arith}
use Rattle.std.proofs.Common.{append-nil, length-append, take_at}
use Rattle.std.specs.Prelude.{if◌then◌else◌}
use Rattle.std.specs.Char.{is_ascii_digit}
use Rattle.std.specs.Fmt.{decimal}
use Rattle.std.specs.List.{list_any, list_all}
use Rattle.std.specs.Str.Parse.{digits_value}
use Rattle.std.proofs.Math.Seq.{drop-append-add, get_or-append_seam, get_or-append_right}
use Rattle.std.proofs.lemmas.Bool.{true≢false, eqb-true, and_parts, and_from, or_from, le-leb, false_from_ne_true}
use Rattle.std.proofs.lemmas.Bool.Decides.{nat_tests}
use Rattle.std.proofs.lemmas.Fmt.{digits_decimal}
use Rattle.std.proofs.lemmas.List.Elements.{All-from_get_or}
use Rattle.std.proofs.lemmas.List.Folds.{list_any_at, list_any-append}
use Rattle.std.proofs.lemmas.List.Splits.{slice_split_none, slice_split_at}
use Rattle.std.proofs.lemmas.Str.Parse.{IsNumeralModel, numerals_by_value}
use Rattle.memchr.specs.Find.{NoneAfter, Passes}
use Rattle.fs_text.specs.Texts.{Text}
use Rattle.fs_text.specs.Words.{is_byte}
use Rattle.fs_text.proofs.NumberLemmas.{read_u64-decimal}
use Rattle.fs_out.specs.declared.target.Target.{Target}
use Rattle.fs_out.specs.Targets.{parts_at_spaces, is_word, words_of, parts_of, within_ports, port_of, is_full, target_at, target_by, target_in, target_of}
use Rattle.fs_out.specs.Laws.{IsTarget, spelled}
use Rattle.fs_out.proofs.AddressLemmas.{parts_are}
use Rattle.fs_out.proofs.WordLemmas.{first_part}

-- what no byte passes fails at each
none_passes : (p : ℕ → Bool) (text : Text) → list_any p text ≡ false → All (λ b. p b ≡ false) text
none_passes p text none = All-from_get_or (λ b. p b ≡ false) text 0
    (λ i below. false_from_ne_true _ (λ passes. true≢false (sym (list_any_at p text i 0 below passes) ∙ none)))

-- ---- the last colon

-- behind the colon in front of a port stands none
last_colon : (host port : Text) → list_any (is_byte 58) port ≡ false →
    NoneAfter (Passes (is_byte 58) (host ++ 58 ∷ port)) 0 (length (host ++ 58 ∷ port)) (length host)
last_colon host port none =
    let size = length-append host (58 ∷ port) in
    record {
      low = omega arith;
      high = omega (arith, size);
      after = λ k from below passes.
          let i = k - length host - 1 in
          let next : k - length host ≡ suc i = omega arith in
          let at = get_or-append_right host (58 ∷ port) k 0 (omega arith) ∙ ap (λ n. get_or (58 ∷ port) n 0) next in
          true≢false (sym passes ∙ ap (is_byte 58) at ∙ none_passes (is_byte 58) port none i 0 (omega (arith, size)));
    }

-- an address is parted there
pub parted : (host port : Text) → list_any (is_byte 58) port ≡ false → parts_of (host ++ 58 ∷ port) ≡ Some (host, port)
parted host port none =
    let here : Passes (is_byte 58) (host ++ 58 ∷ port) (length host) = ap (is_byte 58) (get_or-append_seam host 58 port 0) in
    let front : take (length host) (host ++ 58 ∷ port) ≡ host = take_at host (58 ∷ port) (length host) refl in
    let back : drop (length host + 1) (host ++ 58 ∷ port) ≡ port = drop-append-add host (58 ∷ port) 1 in
    sym (parts_are (host ++ 58 ∷ port) (length host) (last_colon host port none) here) ∙ rw (front, back) refl

-- ---- digits

digits : IsNumeralModel (λ text. list_all is_ascii_digit text ≡ true) (digits_value 10)
digits = numerals_by_value _ (search rules)

-- digits have no byte that is no digit
no_other : (byte : ℕ) → is_ascii_digit byte ≡ false → (text : Text) → list_all is_ascii_digit text ≡ true → list_any (is_byte byte) text ≡ false
no_other byte other [] all = refl
no_other byte other (b ∷ text) all =
    let parts = and_parts (is_ascii_digit b) (list_all is_ascii_digit text) all in
    let fails = false_from_ne_true (is_byte byte b) (λ same. true≢false (sym parts.0 ∙ ap is_ascii_digit (eqb-true b byte same) ∙ other)) in
    or_from (is_byte byte b) (list_any (is_byte byte) text) fails (no_other byte other text parts.1)

-- a port is read from its digits
port_read : (port : ℕ) → 0 < port → port ≤ 65535 → port_of (decimal port) ≡ Some port
port_read port from_one within =
    let both : (nat_le 1 port && nat_le port 65535) ≡ true = and_from _ _ (le-leb 1 port (omega arith)) (le-leb port 65535 within) in
    ap within_ports (read_u64-decimal port (omega arith)) ∙ rw both refl

-- ---- words

-- what has no space is one word
one_word : (text : Text) → is_word text ≡ true → list_any (is_byte 32) text ≡ false → words_of text ≡ text ∷ []
one_word text is none = ap (filter is_word) (slice_split_none (is_byte 32) text (none_passes (is_byte 32) text none)) ∙ first_part text [] is

-- before a space it is the first of the words
word_before : (text rest : Text) → is_word text ≡ true → list_any (is_byte 32) text ≡ false → words_of (text ++ 32 ∷ rest) ≡ text ∷ words_of rest
word_before text rest is none =
    ap (filter is_word) (slice_split_at (is_byte 32) text 32 rest (none_passes (is_byte 32) text none) refl) ∙ first_part text (parts_at_spaces rest) is

-- ---- the target

-- it is the one that an address says, by the words behind that
target_said : (target : Target) (modes : List Text) → IsTarget target → list_any is_full modes ≡ target.full →
    target_by (parts_of (target.host ++ 58 ∷ decimal target.port)) modes ≡ Ok target
target_said target modes is full =
    let all = digits_decimal digits target.port (omega (arith, is.within)) in
    let some : (length target.host == 0) ≡ false = grind (arith, nat_tests, is.some_host) in
    ap (λ parts. target_by parts modes) (parted target.host (decimal target.port) (no_other 58 refl (decimal target.port) all))
    ∙ ap (λ port. target_at target.host port modes) (port_read target.port is.from_one is.within)
    ∙ rw (some, full) refl

-- it is read back from the text that says it
pub spelled_read : (target : Target) → IsTarget target → target_of (spelled target) ≡ Ok target
unfolding target_of
spelled_read target is = by target.full refl
  where
    address : Text
    address = target.host ++ 58 ∷ decimal target.port

    all : list_all is_ascii_digit (decimal target.port) ≡ true
    all = digits_decimal digits target.port (omega (arith, is.within))

    no_space : list_any (is_byte 32) address ≡ false
    no_space =
        list_any-append (is_byte 32) target.host (58 ∷ decimal target.port)
        ∙ or_from (list_any (is_byte 32) target.host) _ is.no_space (no_other 32 refl (decimal target.port) all)

    word : is_word address ≡ true
    word = let size = length-append target.host (58 ∷ decimal target.port) in grind (arith, nat_tests, size)

    by : (full : Bool) → target.full ≡ full → target_in (words_of (address ++ (if full then codes " full" else []))) ≡ Ok target
    by true says = ap target_in (word_before address (codes "full") word no_space) ∙ target_said target (codes "full" ∷ []) is (sym says)
    by false says =
        ap (λ text. target_in (words_of text)) (append-nil address) ∙ ap target_in (one_word address word no_space)
        ∙ target_said target [] is (sym says)
