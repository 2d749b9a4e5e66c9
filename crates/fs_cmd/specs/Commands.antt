-- The commands of the event socket, and the one that a block is.
use Rattle.std.specs.Prelude.{ℕ, nat_le, Bool, ◌==◌, ◌&&◌, ◌||◌, List, [], length, codes, if◌then◌else◌}
use Rattle.std.specs.Prelude.{Option, None, Some, unwrap_or}
use Rattle.std.specs.Char.{is_ascii_graphic}
use Rattle.std.specs.List.{list_all}
use Rattle.std.specs.Option.{option_and_then, option_copied}
use Rattle.std.specs.Str.{bytes_eq}
use Rattle.fs_text.specs.Cause.{cause_or_clearing}
use Rattle.fs_text.specs.Words.{word_of, without_spaces, behind_byte, behind_word}
use Rattle.fs_text.specs.declared.causes.Cause.{Cause}
use Rattle.fs_frame.specs.Block.{line_of, body_of}
use Rattle.fs_frame.specs.Headers.{header_in}
use Rattle.fs_cmd.specs.declared.command.Form.{Form}
use Rattle.fs_cmd.specs.declared.command.Form.TheVariants.{Plain, Json, Xml}
use Rattle.fs_cmd.specs.declared.command.Command.{Command as LentCommand}
use Rattle.fs_cmd.specs.declared.command.Command.TheVariants as lent
use Rattle.fs_cmd.specs.declared.message.Message.{Message as LentMessage}
use Rattle.fs_cmd.specs.declared.message.Message.TheVariants as sent

-- a message to a channel
pub data Message : Type 0 where
  Execute : List ℕ → List ℕ → Message
  Hangup : Cause → Message
  BadCall : Message

-- a command of the event socket
pub data Command : Type 0 where
  Auth : List ℕ → Command
  Exit : Command
  Api : List ℕ → Command
  Bgapi : List ℕ → Option (List ℕ) → Command
  Event : Form → List ℕ → Command
  Nixevent : List ℕ → Command
  Noevents : Command
  Filter : List ℕ → List ℕ → Command
  FilterDelete : List ℕ → Option (List ℕ) → Command
  BadFilter : Command
  Sendmsg : Option (List ℕ) → Message → Command
  Connect : Command
  Unknown : Command

-- ---- `event`

-- the form that a word names, if it names one
unfoldable pub form_of : List ℕ → Option Form
form_of word =
    if bytes_eq word (codes "plain") then Some Plain
    else (if bytes_eq word (codes "json") then Some Json
    else (if bytes_eq word (codes "xml") then Some Xml else None))

-- the names are all of the text, or what stands behind the word of the form
abbrev pub event_in : Option Form → List ℕ → Command
event_in None text = Event Plain text
event_in (Some form) text = Event form (behind_byte 32 (without_spaces text))

-- the form is named by the first word of the text, or is plain
abbrev pub event_of : List ℕ → Command
event_of text = event_in (form_of (word_of (without_spaces text))) text

-- ---- `filter`

-- a filter needs both its parts
abbrev pub filter_with : List ℕ → List ℕ → Command
filter_with header value = if length header == 0 || length value == 0 then BadFilter else Filter header value

-- a text that is there
abbrev pub text_named : List ℕ → Option (List ℕ)
text_named text = if length text == 0 then None else Some text

-- filters are taken out by their header, and by their value where one is there
abbrev pub delete_with : List ℕ → List ℕ → Command
delete_with header value = if length header == 0 then BadFilter else FilterDelete header (text_named value)

-- the header is the first word, and the value all that stands behind it and its spaces; behind the word `delete` they are
-- those of filters that are to be taken out
abbrev pub filter_words : List ℕ → Command
filter_words text =
    if bytes_eq (word_of text) (codes "delete") then delete_with (word_of (behind_word text)) (behind_word (behind_word text))
    else filter_with (word_of text) (behind_word text)

-- spaces in front are passed over
unfoldable pub filter_of : List ℕ → Command
filter_of text = filter_words (without_spaces text)

-- ---- `bgapi`

-- 1 to 64 bytes from `!` to `~`
abbrev pub is_name : List ℕ → Bool
is_name text = nat_le 1 (length text) && nat_le (length text) 64 && list_all is_ascii_graphic text

-- a text that has the form of an identifier
abbrev pub name_in_form : List ℕ → Option (List ℕ)
name_in_form text = if is_name text then Some text else None

-- the identifier that a client gave its job, if a header of the block has one
unfoldable pub job_of : List ℕ → Option (List ℕ)
job_of block = option_and_then name_in_form (header_in (codes "Job-UUID") block)

-- ---- `sendmsg`

-- what a block says by this header, or nothing
unfoldable pub said_by : List ℕ → List ℕ → List ℕ
said_by name block = unwrap_or (header_in name block) []

-- the argument of an application: a header has it, or the body where there is none
unfoldable pub argument_of : List ℕ → List ℕ
argument_of block = unwrap_or (header_in (codes "execute-app-arg") block) (body_of block)

-- the cause that a block asks for: a normal clearing where it names none
unfoldable pub cause_in : List ℕ → Cause
cause_in block = cause_or_clearing (said_by (codes "hangup-cause") block)

-- the message of a call, in a block that has its parts
abbrev pub message_named : List ℕ → List ℕ → Message
message_named call block =
    if bytes_eq call (codes "execute") then Execute (said_by (codes "execute-app-name") block) (argument_of block)
    else (if bytes_eq call (codes "hangup") then Hangup (cause_in block) else BadCall)

-- the message of a block, whose call a header names
unfoldable pub message_of : List ℕ → Message
message_of block = message_named (said_by (codes "call-command") block) block

-- the channel is named by the first word
abbrev pub channel_named : List ℕ → Option (List ℕ)
channel_named text = text_named (word_of (without_spaces text))

-- ---- all of them

-- the command of a word, with what stands behind the word and the block that it is in
abbrev pub command_named : List ℕ → List ℕ → List ℕ → Command
command_named word text block =
    if bytes_eq word (codes "auth") then Auth text
    else (if bytes_eq word (codes "exit") then Exit
    else (if bytes_eq word (codes "api") then Api text
    else (if bytes_eq word (codes "bgapi") then Bgapi text (job_of block)
    else (if bytes_eq word (codes "event") then event_of text
    else (if bytes_eq word (codes "nixevent") then Nixevent text
    else (if bytes_eq word (codes "noevents") then Noevents
    else (if bytes_eq word (codes "filter") then filter_of text
    else (if bytes_eq word (codes "sendmsg") then Sendmsg (channel_named text) (message_of block)
    else (if bytes_eq word (codes "connect") then Connect else Unknown)))))))))

-- the command that a block is: its word stands before the first space of the line
unfoldable pub command_of : List ℕ → Command
command_of block = command_named (word_of (line_of block)) (behind_byte 32 (line_of block)) block

-- the message that is lent
abbrev pub message_read : LentMessage → Message
message_read (sent.Execute application argument) = Execute application.now argument.now
message_read (sent.Hangup cause) = Hangup cause
message_read sent.BadCall = BadCall

-- the command that is lent
abbrev pub read_of : LentCommand → Command
read_of (lent.Auth password) = Auth password.now
read_of lent.Exit = Exit
read_of (lent.Api text) = Api text.now
read_of (lent.Bgapi text job) = Bgapi text.now (option_copied job)
read_of (lent.Event form names) = Event form names.now
read_of (lent.Nixevent names) = Nixevent names.now
read_of lent.Noevents = Noevents
read_of (lent.Filter header value) = Filter header.now value.now
read_of (lent.FilterDelete header value) = FilterDelete header.now (option_copied value)
read_of lent.BadFilter = BadFilter
read_of (lent.Sendmsg uuid message) = Sendmsg (option_copied uuid) (message_read message)
read_of lent.Connect = Connect
read_of lent.Unknown = Unknown
