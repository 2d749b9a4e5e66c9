-- How the arguments of `uuid_transfer` are read.
use Rattle.std.specs.Prelude.{if◌then◌else◌, codes, Option, None, Some}
use Rattle.std.specs.Str.{bytes_eq}
use Rattle.fs_text.specs.Words.{word_of, behind_word}
use Rattle.fs_text.specs.Texts.{Text}
use Rattle.fs_chan.specs.declared.target.Target3.{Target3}
use Rattle.fs_chan.specs.Targets.{target_in, any_target_in}
use Rattle.fs_api.specs.declared.api.Api.{Api}
use Rattle.fs_api.specs.declared.api.Api.TheVariants.{UuidTransfer, Usage}
use Rattle.fs_api.specs.declared.side.Side.{Side}
use Rattle.fs_api.specs.declared.side.Side.TheVariants.{This, Both, Other}
use Rattle.fs_api.specs.declared.usages.Which.TheVariants as which

-- which legs a word names; any other word than these two names none, and the channel alone is meant
abbrev pub side_of : Text → Side
side_of word = if bytes_eq word (codes "-both") then Both else (if bytes_eq word (codes "-bleg") then Other else This)

-- where words behind the identifier send these legs: as those of the application `transfer` do, or as those behind the word that names the
-- legs, where the extension is any
abbrev pub sent_to : Side → Text → Option Target3
sent_to This words = target_in words
sent_to Both words = any_target_in (behind_word words)
sent_to Other words = any_target_in (behind_word words)

-- a channel is sent where words send it, if they send it anywhere
abbrev pub transfer_to : Text → Side → Option Target3 → Api
transfer_to uuid side None = Usage which.UuidTransfer
transfer_to uuid side (Some to) = UuidTransfer uuid side to

-- behind the identifier stand which legs are meant, and where they are sent
abbrev pub transfer_by : Text → Text → Api
transfer_by uuid words = transfer_to uuid (side_of (word_of words)) (sent_to (side_of (word_of words)) words)

abbrev pub uuid_transfer_of : Text → Api
uuid_transfer_of arguments = transfer_by (word_of arguments) (behind_word arguments)
