-- The frames that a connection is sent.
use Rattle.std.specs.Prelude.{ℕ, List, [], map, ◌++◌, ◌==◌, length, codes, Option, None, Some, unwrap_or, if◌then◌else◌}
use Rattle.std.specs.List.{concat}
use Rattle.std.specs.Fmt.{decimal}
use Rattle.fs_text.specs.Headers.{header_line}

-- the first frame of a connection
unfoldable pub auth_request : List ℕ
auth_request = codes "Content-Type: auth/request\n\n"

-- the reply to a command, with further headers
unfoldable pub reply : List ℕ → List (List ℕ × List ℕ) → List ℕ
reply text more =
    codes "Content-Type: command/reply\n" ++ header_line (codes "Reply-Text", text) ++ concat (map header_line more) ++ codes "\n"

-- a frame of this type with a body
unfoldable pub with_body : List ℕ → List ℕ → List ℕ
with_body content_type body =
    codes "Content-Type: " ++ content_type ++ codes "\nContent-Length: " ++ decimal (length body) ++ codes "\n\n" ++ body

-- an answer as it is sent: an empty one is told in words
unfoldable pub spoken : List ℕ → List ℕ
spoken answer = if length answer == 0 then codes "-ERR no reply\n" else answer

-- the frame with the answer of an api command
unfoldable pub api_reply : List ℕ → List ℕ
api_reply answer = with_body (codes "api/response") (spoken answer)

-- the last frame of a connection that the switch ends
unfoldable pub notice : List ℕ
notice =
    with_body (codes "text/disconnect-notice") (codes "Disconnected, goodbye.\nSee you at ClueCon! http://www.cluecon.com/\n")

-- the headers that tell which channel a connection controlled
abbrev pub controlled_headers : List ℕ → List ℕ
controlled_headers uuid =
    header_line (codes "Controlled-Session-UUID", uuid) ++ header_line (codes "Content-Disposition", codes "disconnect")

-- the last frame of a connection that controlled the channel of an identifier
unfoldable pub notice_for : List ℕ → List ℕ
notice_for uuid =
    codes "Content-Type: text/disconnect-notice\n" ++ controlled_headers uuid
    ++ codes "Content-Length: 67\n\nDisconnected, goodbye.\nSee you at ClueCon! http://www.cluecon.com/\n"

-- the last frame of a connection, which may have controlled one
abbrev pub notice_of : Option (List ℕ) → List ℕ
notice_of None = notice
notice_of (Some uuid) = notice_for uuid

-- the command is not for a controller of one channel
unfoldable pub denied : List ℕ
denied = codes "-ERR permission denied"

-- ---- the texts of replies

-- the password that was offered is the right one
unfoldable pub accepted : List ℕ
accepted = codes "+OK accepted"

-- the password that was offered is another
unfoldable pub invalid : List ℕ
invalid = codes "-ERR invalid"

-- the connection comes to its end, as it asked
unfoldable pub bye : List ℕ
bye = codes "+OK bye"

-- the command is not known, or not in this phase of the connection
unfoldable pub not_found : List ℕ
not_found = codes "-ERR command not found"

-- ---- the texts of replies that subscriptions have

-- events are told in the plain form
unfoldable pub event_enabled : List ℕ
event_enabled = codes "+OK event listener enabled plain"

-- no known name stands among the words
unfoldable pub no_keywords : List ℕ
no_keywords = codes "-ERR no keywords supplied"

-- events are not told in this form
unfoldable pub format_unsupported : List ℕ
format_unsupported = codes "-ERR event format not supported"

-- the named events are no longer told
unfoldable pub event_disabled : List ℕ
event_disabled = codes "+OK event listener disabled"

-- no event is told any more
unfoldable pub no_longer_listening : List ℕ
no_longer_listening = codes "+OK no longer listening for events"

-- no event was subscribed
unfoldable pub not_listening : List ℕ
not_listening = codes "-ERR not listening for events"

-- a part of a filter is missing
unfoldable pub invalid_syntax : List ℕ
invalid_syntax = codes "-ERR invalid syntax"

-- no filter was meant
unfoldable pub filter_not_found : List ℕ
filter_not_found = codes "-ERR filter not found"

-- a header and a value in brackets, behind a head
abbrev pub bracketed : List ℕ → List ℕ → List ℕ → List ℕ
bracketed head header value = head ++ codes "[" ++ header ++ codes "]=[" ++ value ++ codes "]"

-- the filter is there now
unfoldable pub filter_added : List ℕ → List ℕ → List ℕ
filter_added header value = bracketed (codes "+OK filter added. ") header value

-- the filters are gone: those of the header where no value is named
unfoldable pub filter_deleted : List ℕ → Option (List ℕ) → List ℕ
filter_deleted header value = bracketed (codes "+OK filter deleted. ") header (unwrap_or value [])

-- ---- the texts of replies that jobs in the background have

-- the job of this identifier has begun
unfoldable pub job_begun : List ℕ → List ℕ
job_begun uuid = codes "+OK Job-UUID: " ++ uuid

-- as many jobs as there may be are there
unfoldable pub jobs_full : List ℕ
jobs_full = codes "-ERR too many jobs"

-- ---- the texts of replies that messages have

-- the message was taken
unfoldable pub message_taken : List ℕ
message_taken = codes "+OK"

-- no live channel has this identifier
unfoldable pub invalid_session : List ℕ → List ℕ
invalid_session uuid = codes "-ERR invalid session id [" ++ uuid ++ codes "]"

-- the call of the message is none
unfoldable pub invalid_call : List ℕ
invalid_call = codes "-ERR invalid call-command"

-- so many messages wait that there is no room for another
unfoldable pub messages_full : List ℕ
messages_full = codes "-ERR message queue full"
