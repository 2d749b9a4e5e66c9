-- How the arguments of `originate` are read.
use Rattle.std.specs.Prelude.{ℕ, ◌==◌, ◌&&◌, Bool, if◌then◌else◌, [], ◌∷◌, Option, None, Some, unwrap_or, codes}
use Rattle.fs_text.specs.Words.{before_byte, behind_byte, is_short}
use Rattle.fs_text.specs.Texts.{Text}
use Rattle.fs_orig.specs.declared.winner.Winner.{Winner}
use Rattle.fs_orig.specs.declared.winner.Winner.TheVariants.{App, Route}
use Rattle.fs_orig.specs.Timeouts.{seconds_in}
use Rattle.fs_api.specs.declared.api.Api.{Api}
use Rattle.fs_api.specs.declared.api.Api.TheVariants.{Originate, Usage}
use Rattle.fs_api.specs.declared.usages.Which.TheVariants as which
use Rattle.fs_api.specs.Words.{quoted_word, behind_quoted, unquoted}

-- the first word, without the quotes round it
abbrev pub plain_word : Text → Text
plain_word text = unquoted (quoted_word text)

-- the first word, or another text where there is none
abbrev pub word_or : Text → Text → Text
word_or otherwise [] = otherwise
word_or otherwise (byte ∷ bytes) = plain_word (byte ∷ bytes)

-- ---- what the winner does

abbrev pub is_close : ℕ → Bool
is_close byte = byte == 41

-- the text up to its last `)`, if it has one
abbrev pub more_before_close : ℕ → Option Text → Option Text
more_before_close byte (Some front) = Some (byte ∷ front)
more_before_close byte None = if is_close byte then Some [] else None

abbrev pub before_close : Text → Option Text
before_close [] = None
before_close (byte ∷ bytes) = more_before_close byte (before_close bytes)

-- the text up to its last `)`, or the whole of it
abbrev pub up_to_close : Text → Text
up_to_close text = unwrap_or (before_close text) text

-- `app(args)`: without `(` there are no arguments
abbrev pub application : Text → Winner
application text = App (before_byte 40 text) (up_to_close (behind_byte 40 text))

-- routed to these
abbrev pub route_winner : Text → Text → Text → Winner
route_winner exten dialplan context = Route (record { exten = exten; dialplan = dialplan; context = context })

-- what the winner does, where these are within their length
abbrev pub winner_of : Text → Text → Text → Option Winner
winner_of [] dialplan context = if is_short dialplan && is_short context then Some (route_winner [] dialplan context) else None
winner_of (byte ∷ bytes) dialplan context =
    if is_short dialplan && is_short context
    then (if byte == 38 then Some (application bytes)
    else (if is_short (byte ∷ bytes) then Some (route_winner (byte ∷ bytes) dialplan context) else None))
    else None

-- ---- all of it

abbrev pub originate_with : Text → Option Winner → Text → Api
originate_with url None rest = Usage which.Originate
originate_with url (Some winner) rest =
    let number = behind_quoted rest in
    let timeout = behind_quoted number in
    Originate url winner (plain_word rest) (plain_word number) (seconds_in (plain_word timeout))

-- the first three words behind the url, each with all that stands behind it
abbrev pub originate_words : Text → Text → Text → Text → Api
originate_words url exten dialplan context =
    let winner = winner_of (plain_word exten) (word_or (codes "XML") dialplan) (word_or (codes "default") context) in
    originate_with url winner (behind_quoted context)

-- the words of the text behind the url
abbrev pub originate_behind : Text → Text → Api
originate_behind url text = originate_words url text (behind_quoted text) (behind_quoted (behind_quoted text))

-- that text, where there is one
abbrev pub originate_to : Text → Text → Api
originate_to url [] = Usage which.Originate
originate_to url (byte ∷ bytes) = originate_behind url (byte ∷ bytes)

-- the arguments, behind the name and its spaces
abbrev pub originate_of : Text → Api
originate_of [] = Usage which.Originate
originate_of (byte ∷ bytes) = originate_to (quoted_word (byte ∷ bytes)) (behind_quoted (byte ∷ bytes))
