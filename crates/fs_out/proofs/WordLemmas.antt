-- The words of a text, one after another.
use Rattle.std.proofs.Common.{◌≡◌, ℕ, Bool, true, false, not, cond, List, [], ◌∷◌, length, take, drop, filter, Result, refl, sym, ap, ◌∙◌, inl, inr, arith}
use Rattle.std.specs.List.{list_any, position_or_len}
use Rattle.std.proofs.Math.ListN.{drop_of_length-le}
use Rattle.std.proofs.lemmas.Bool.{cases_lt}
use Rattle.std.proofs.lemmas.Bool.Decides.{nat_tests}
use Rattle.std.proofs.lemmas.List.{take_all}
use Rattle.std.proofs.lemmas.List.Elements.{All-from_get_or}
use Rattle.std.proofs.lemmas.List.Splits.{slice_split-cons_yes, slice_split_none, slice_split_first}
use Rattle.std.proofs.lemmas.List.Sums.{fails_before_first}
use Rattle.std.proofs.lemmas.Map.Views.{any-filter_same}
use Rattle.fs_text.specs.Texts.{Text}
use Rattle.fs_text.specs.Words.{is_byte, is_other, behind_byte, without_spaces, word_of, behind_word}
use Rattle.fs_text.proofs.Cuts.{offset_here, offset_on}
use Rattle.fs_out.specs.declared.fault.TargetFault.{TargetFault}
use Rattle.fs_out.specs.declared.target.Target.{Target}
use Rattle.fs_out.specs.Targets.{parts_at_spaces, is_word, words_of, is_full, parts_of, target_by, target_in, target_of}

-- ---- spaces in front

-- a space in front parts no words
space_front : (b : ℕ) (text : Text) → is_byte 32 b ≡ true → words_of (b ∷ text) ≡ words_of text
space_front b text is = ap (filter is_word) (slice_split-cons_yes (is_byte 32) b text is)

-- it is skipped
space_skipped : (b : ℕ) (text : Text) → is_byte 32 b ≡ true → without_spaces (b ∷ text) ≡ without_spaces text
space_skipped b text is = ap (λ n. drop n (b ∷ text)) (offset_on is_other b text (ap not is))

-- nothing else is
other_stays : (b : ℕ) (text : Text) → is_byte 32 b ≡ false → without_spaces (b ∷ text) ≡ b ∷ text
other_stays b text is = ap (λ n. drop n (b ∷ text)) (offset_here is_other b text (ap not is))

-- the words without the spaces in front are the same
words_behind_spaces : (text : Text) → words_of (without_spaces text) ≡ words_of text
words_behind_spaces [] = refl
words_behind_spaces (b ∷ text) = by (is_byte 32 b) refl (words_behind_spaces text)
  where
    by : (t : Bool) → is_byte 32 b ≡ t → words_of (without_spaces text) ≡ words_of text → words_of (without_spaces (b ∷ text)) ≡ words_of (b ∷ text)
    by true is more = ap words_of (space_skipped b text is) ∙ more ∙ sym (space_front b text is)
    by false is more = ap words_of (other_stays b text is)

-- ---- the first word

-- a part that is a word is the first of them
pub first_part : (part : Text) (parts : List Text) → is_word part ≡ true → filter is_word (part ∷ parts) ≡ part ∷ filter is_word parts
first_part part parts is = ap (λ t. cond t (part ∷ filter is_word parts) (filter is_word parts)) is

-- the parts of a text are what stands before the first space, and the parts behind that
words_by_first : (text : Text) → is_word (word_of text) ≡ true → words_of text ≡ word_of text ∷ words_of (behind_byte 32 text)
words_by_first text is = elim (cases_lt (position_or_len (is_byte 32) text) (length text)) [
  | inl within ↦ ap (filter is_word) (slice_split_first (is_byte 32) text 0 within) ∙ first_part (word_of text) (parts_at_spaces (behind_byte 32 text)) is
  | inr over ↦
      let none = All-from_get_or (λ b. is_byte 32 b ≡ false) text 0 (λ k below. fails_before_first (is_byte 32) text k 0 (omega arith)) in
      let whole : word_of text ≡ text = take_all _ text over in
      let rest : behind_byte 32 text ≡ [] = drop_of_length-le text (omega arith) in
      ap (filter is_word) (slice_split_none (is_byte 32) text none) ∙ first_part text [] (rw whole at is)
      ∙ ap (λ word. word ∷ []) (sym whole) ∙ ap (λ behind. word_of text ∷ words_of behind) (sym rest)
]

-- what has a byte is a word
byte_is_word : (b : ℕ) (part : Text) → is_word (b ∷ part) ≡ true
byte_is_word b part = grind (arith, nat_tests)

-- a text that begins with no space begins with a word
some_word : (b : ℕ) (text : Text) → is_byte 32 b ≡ false → is_word (word_of (b ∷ text)) ≡ true
some_word b text is = ap (λ n. is_word (take n (b ∷ text))) (offset_on (is_byte 32) b text is) ∙ byte_is_word b _

-- ---- the target

-- that of a text by its first word and the words behind that, if it begins with no space
abbrev pub by_first : Text → Result Target TargetFault
by_first text = target_by (parts_of (word_of text)) (words_of (behind_word text))

-- so it is for each text, without the spaces in front
pub target_is : (text : Text) → target_of text ≡ by_first (without_spaces text)
unfolding target_of parts_of
target_is [] = refl
target_is (b ∷ text) = by (is_byte 32 b) refl (target_is text)
  where
    by : (t : Bool) → is_byte 32 b ≡ t → target_in (words_of text) ≡ by_first (without_spaces text) →
        target_in (words_of (b ∷ text)) ≡ by_first (without_spaces (b ∷ text))
    by true is more = ap target_in (space_front b text is) ∙ more ∙ ap by_first (sym (space_skipped b text is))
    by false is more =
        ap target_in (words_by_first (b ∷ text) (some_word b text is))
        ∙ ap (target_by (parts_of (word_of (b ∷ text)))) (sym (words_behind_spaces (behind_byte 32 (b ∷ text))))
        ∙ ap by_first (sym (other_stays b text is))

-- ---- words that are looked for

full_is_word : (part : Text) → is_full part ≡ true → is_word part ≡ true
full_is_word [] is = is
full_is_word (b ∷ part) is = byte_is_word b part

-- `full` is among the words where it is among the parts
pub full_among : (text : Text) → list_any is_full (words_of text) ≡ list_any is_full (parts_at_spaces text)
full_among text = any-filter_same is_full is_word true full_is_word (parts_at_spaces text)
