-- How the text of an api command is read.
use Rattle.std.specs.Prelude.{ℕ, ◌==◌, nat_le, nat_lt, Bool, ◌&&◌, if◌then◌else◌, [], ◌∷◌, length, Option, None, Some, codes}
use Rattle.std.specs.Str.{bytes_eq}
use Rattle.fs_text.specs.Number.{read_u64}
use Rattle.fs_text.specs.Words.{name_in, value_in, before_byte, behind_byte, without_spaces, word_of, behind_word}
use Rattle.fs_text.specs.Cause.{cause_or_clearing}
use Rattle.fs_text.specs.declared.causes.Cause.TheVariants.{ManagerRequest}
use Rattle.fs_text.specs.Texts.{Text}
use Rattle.fs_api.specs.declared.api.Api.{Api}
use Rattle.fs_api.specs.declared.api.Api.TheVariants.{Echo, Expand, CreateUuid, GlobalGetvar, GlobalSetvar, Msleep, UuidExists, UuidKill}
use Rattle.fs_api.specs.declared.api.Api.TheVariants.{UuidSetvar, UuidGetvar, UuidDump, UuidBridge, UuidPark, Hupall, Reloadxml}
use Rattle.fs_api.specs.declared.api.Api.TheVariants.{Shutdown, Usage, Unknown}
use Rattle.fs_api.specs.declared.usages.Which.{Which}
use Rattle.fs_api.specs.declared.usages.Which.TheVariants as which
use Rattle.fs_api.specs.Originates.{originate_of}
use Rattle.fs_api.specs.Transfers.{uuid_transfer_of}

-- what these arguments are, or the usage where there are none
abbrev pub needs : Which → (Text → Api) → Text → Api
needs usage read [] = Usage usage
needs usage read (byte ∷ bytes) = read (byte ∷ bytes)

-- the first word is `uuid:` and an identifier, and a space stands behind it
abbrev pub names_channel : Text → Bool
names_channel arguments =
    bytes_eq (before_byte 58 (word_of arguments)) (codes "uuid")
    && nat_lt (length (before_byte 58 (word_of arguments))) (length (word_of arguments))
    && nat_lt (length (word_of arguments)) (length arguments)

-- a text that is to be expanded as a channel knows things, if there is one
abbrev pub expand_over : Text → Text → Api
expand_over uuid text = needs which.Expand (Expand (Some uuid)) text

-- the channel may be named in front of the text
abbrev pub expand_of : Text → Api
expand_of arguments =
    if names_channel arguments then expand_over (behind_byte 58 (word_of arguments)) (behind_word arguments)
    else Expand None arguments

-- a word that sets a global: what stands before its first `=`, to what stands behind it
abbrev pub global_setvar_of : Text → Api
global_setvar_of arguments = GlobalSetvar (name_in (word_of arguments)) (value_in (word_of arguments))

abbrev pub global_getvar_of : Text → Api
global_getvar_of [] = GlobalGetvar None
global_getvar_of (byte ∷ bytes) = GlobalGetvar (Some (word_of (byte ∷ bytes)))

-- a number of milliseconds up to an hour
abbrev pub msleep_for : Option ℕ → Api
msleep_for None = Usage which.Msleep
msleep_for (Some n) = if nat_le n 3600000 then Msleep n else Usage which.Msleep

abbrev pub msleep_of : Text → Api
msleep_of arguments = msleep_for (read_u64 (word_of arguments))

abbrev pub uuid_exists_of : Text → Api
uuid_exists_of arguments = UuidExists (word_of arguments)

abbrev pub uuid_kill_of : Text → Api
uuid_kill_of arguments = UuidKill (word_of arguments) (cause_or_clearing (word_of (behind_word arguments)))

abbrev pub uuid_park_of : Text → Api
uuid_park_of arguments = UuidPark (word_of arguments)

abbrev pub uuid_getvar_of : Text → Api
uuid_getvar_of arguments = needs which.UuidGetvar (λ name. UuidGetvar (word_of arguments) (word_of name)) (behind_word arguments)

-- the name behind the identifier, and the rest of the line as its value
abbrev pub uuid_setvar_of : Text → Api
uuid_setvar_of arguments =
    needs which.UuidSetvar (λ name. UuidSetvar (word_of arguments) (word_of name) (behind_word name)) (behind_word arguments)

abbrev pub uuid_dump_of : Text → Api
uuid_dump_of arguments = UuidDump (word_of arguments)

abbrev pub uuid_bridge_of : Text → Api
uuid_bridge_of arguments = needs which.UuidBridge (λ other. UuidBridge (word_of arguments) (word_of other)) (behind_word arguments)

-- the cause that is named, or the one of a manager where none is
abbrev pub hupall_of : Text → Api
hupall_of [] = Hupall ManagerRequest
hupall_of (byte ∷ bytes) = Hupall (cause_or_clearing (word_of (byte ∷ bytes)))

-- the one word `shutdown`, and nothing else
abbrev pub fsctl_of : Text → Api
fsctl_of arguments =
    if bytes_eq (word_of arguments) (codes "shutdown") && length (behind_word arguments) == 0 then Shutdown else Usage which.Fsctl

-- the api command of a name with these arguments
unfoldable pub api_named : Text → Text → Api
api_named name arguments =
    if bytes_eq name (codes "echo") then Echo arguments
    else (if bytes_eq name (codes "expand") then needs which.Expand expand_of arguments
    else (if bytes_eq name (codes "create_uuid") then CreateUuid
    else (if bytes_eq name (codes "fsctl") then fsctl_of arguments
    else (if bytes_eq name (codes "global_getvar") then global_getvar_of arguments
    else (if bytes_eq name (codes "global_setvar") then needs which.GlobalSetvar global_setvar_of arguments
    else (if bytes_eq name (codes "hupall") then hupall_of arguments
    else (if bytes_eq name (codes "msleep") then msleep_of arguments
    else (if bytes_eq name (codes "originate") then originate_of arguments
    else (if bytes_eq name (codes "reloadxml") then Reloadxml
    else (if bytes_eq name (codes "uuid_bridge") then needs which.UuidBridge uuid_bridge_of arguments
    else (if bytes_eq name (codes "uuid_dump") then needs which.UuidDump uuid_dump_of arguments
    else (if bytes_eq name (codes "uuid_exists") then needs which.UuidExists uuid_exists_of arguments
    else (if bytes_eq name (codes "uuid_getvar") then needs which.UuidGetvar uuid_getvar_of arguments
    else (if bytes_eq name (codes "uuid_kill") then needs which.UuidKill uuid_kill_of arguments
    else (if bytes_eq name (codes "uuid_park") then needs which.UuidPark uuid_park_of arguments
    else (if bytes_eq name (codes "uuid_setvar") then needs which.UuidSetvar uuid_setvar_of arguments
    else (if bytes_eq name (codes "uuid_transfer") then uuid_transfer_of arguments
    else Unknown name)))))))))))))))))

-- the api command that a text is
abbrev pub api_of : Text → Api
api_of text = api_named (word_of (without_spaces text)) (behind_word (without_spaces text))

-- the arguments of a text that is the command `echo`
abbrev pub echoed : Text → Option Text
echoed text =
    if bytes_eq (word_of (without_spaces text)) (codes "echo") then Some (behind_word (without_spaces text)) else None

-- a command, where `expand` is none
abbrev pub without_expand : Api → Api
without_expand (Expand uuid text) = Unknown (codes "expand")
without_expand (Usage which.Expand) = Unknown (codes "expand")
without_expand other = other

-- the api command that a text is which `expand` gave
abbrev pub expanded_api_of : Text → Api
expanded_api_of text = without_expand (api_of text)
