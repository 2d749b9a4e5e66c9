-- Where words send a channel.
use Rattle.std.specs.Prelude.{◌==◌, Bool, true, false, ◌&&◌, if◌then◌else◌, [], ◌∷◌, Option, None, Some}
use Rattle.fs_text.specs.Words.{is_short, word_of, behind_word}
use Rattle.fs_text.specs.Texts.{Text}
use Rattle.fs_chan.specs.declared.target.Target3.{Target3}

-- a word, if there is one
abbrev pub word_named : Text → Option Text
word_named [] = None
word_named (byte ∷ bytes) = Some (byte ∷ bytes)

-- a word is there
abbrev pub is_there : Text → Bool
is_there [] = false
is_there (byte ∷ bytes) = true

-- a text begins with `-`
abbrev pub is_option : Text → Bool
is_option [] = false
is_option (byte ∷ bytes) = byte == 45

-- each of these words can stand in a profile, and the first is there
abbrev pub are_fit : Text → Text → Text → Bool
are_fit exten dialplan context = is_there exten && is_short exten && is_short dialplan && is_short context

-- to be routed to these words
abbrev pub routed_to : Text → Text → Text → Target3
routed_to exten dialplan context = record { exten = exten; dialplan = word_named dialplan; context = word_named context }

-- the same, where they are fit
abbrev pub target_of : Text → Text → Text → Option Target3
target_of exten dialplan context = if are_fit exten dialplan context then Some (routed_to exten dialplan context) else None

-- the first three words of a text that begins with no space, whatever the first is
abbrev pub any_target_in : Text → Option Target3
any_target_in text = target_of (word_of text) (word_of (behind_word text)) (word_of (behind_word (behind_word text)))

-- the same, unless the first begins with `-`
abbrev pub target_in : Text → Option Target3
target_in text = if is_option text then None else any_target_in text
