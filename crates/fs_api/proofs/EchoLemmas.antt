-- What is answered to a text that is the command `echo`.
use Rattle.std.proofs.Common.{◌≡◌, Bool, true, false, if◌then◌else◌, codes, None, Some, refl}
use Rattle.std.specs.Str.{bytes_eq}
use Rattle.fs_text.specs.Words.{without_spaces, word_of, behind_word}
use Rattle.fs_text.specs.Texts.{Text}
use Rattle.fs_api.specs.declared.api.Api.TheVariants.{Echo}
use Rattle.fs_api.specs.Readings.{api_of, api_named, echoed}

-- a text with these arguments is that command
echo_at : (name arguments answer : Text) (is : Bool) → bytes_eq name (codes "echo") ≡ is →
    (if is then Some arguments else None) ≡ Some answer → api_named name arguments ≡ Echo answer
unfolding api_named
echo_at name arguments answer true e h = cc
echo_at name arguments answer false e h = absurd (cc)

pub echoes : (text answer : Text) → echoed text ≡ Some answer → api_of text ≡ Echo answer
echoes text answer h =
    echo_at (word_of (without_spaces text)) (behind_word (without_spaces text)) answer
    (bytes_eq (word_of (without_spaces text)) (codes "echo")) refl h
