-- Where words send a channel has texts that can stand in a profile.
use Rattle.std.proofs.Common.{◌≡◌, ◌≤◌, Bool, true, false, ◌&&◌, if◌then◌else◌, [], ◌∷◌, length, None, Some, IfSome, refl}
use Rattle.std.proofs.lemmas.Bool.{leb-true, and_parts}
use Rattle.fs_text.specs.Words.{is_short, word_of, behind_word}
use Rattle.fs_text.specs.Texts.{Text}
use Rattle.fs_chan.specs.Changes.{IsShortTarget}
use Rattle.fs_chan.specs.Targets.{word_named, is_there, is_option, are_fit, routed_to, target_of, any_target_in, target_in}

word_short : (word : Text) → is_short word ≡ true → IfSome (word_named word) (λ text. length text ≤ 256)
word_short [] short = tt
word_short (byte ∷ bytes) short = leb-true (length (byte ∷ bytes)) 256 short

fit_short : (exten dialplan context : Text) → are_fit exten dialplan context ≡ true → IsShortTarget (routed_to exten dialplan context)
fit_short exten dialplan context fit =
    let parts = and_parts (is_there exten && is_short exten && is_short dialplan) (is_short context) fit in
    let first = and_parts (is_there exten && is_short exten) (is_short dialplan) parts.0 in
    record {
      exten = leb-true (length exten) 256 (and_parts (is_there exten) (is_short exten) first.0).1;
      dialplan = word_short dialplan first.1;
      context = word_short context parts.1;
    }

target_by : (exten dialplan context : Text) (test : Bool) → are_fit exten dialplan context ≡ test →
    IfSome (if test then Some (routed_to exten dialplan context) else None) IsShortTarget
target_by exten dialplan context true fit = fit_short exten dialplan context fit
target_by exten dialplan context false unfit = tt

pub target_short : (exten dialplan context : Text) → IfSome (target_of exten dialplan context) IsShortTarget
target_short exten dialplan context = target_by exten dialplan context (are_fit exten dialplan context) refl

pub any_words_short : (text : Text) → IfSome (any_target_in text) IsShortTarget
any_words_short text = target_short (word_of text) (word_of (behind_word text)) (word_of (behind_word (behind_word text)))

pub words_short : (text : Text) → IfSome (target_in text) IsShortTarget
words_short text = by (is_option text)
  where
    by : (option : Bool) → IfSome (if option then None else any_target_in text) IsShortTarget
    by true = tt
    by false = any_words_short text
