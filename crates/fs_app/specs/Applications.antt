-- What an application is asked to do, by its name and its argument.
use Rattle.std.specs.Prelude.{ℕ, ◌==◌, nat_le, Bool, not, ◌||◌, if◌then◌else◌, List, [], ◌∷◌, length, Option, None, Some, unwrap_or, codes}
use Rattle.std.specs.Str.{bytes_eq}
use Rattle.fs_text.specs.Number.{read_u64}
use Rattle.fs_text.specs.Words.{without_spaces, word_of, behind_word}
use Rattle.fs_text.specs.Cause.{cause_or_clearing}
use Rattle.fs_text.specs.Texts.{Text}
use Rattle.fs_chan.specs.declared.assignment.Assignment.{Assignment}
use Rattle.fs_chan.specs.Assignments.{assignment_named}
use Rattle.fs_chan.specs.Changes as changes
use Rattle.fs_chan.specs.declared.target.Target3.{Target3}
use Rattle.fs_chan.specs.Targets.{target_in}
use Rattle.fs_app.specs.declared.application.Application.{Application}
use Rattle.fs_app.specs.declared.application.Application.TheVariants as app

-- ---- waiting and leaving

-- a number of milliseconds up to an hour; 0 for any other
abbrev pub within_hour : Option ℕ → ℕ
within_hour None = 0
within_hour (Some n) = if nat_le n 3600000 then n else 0

abbrev pub sleep_application : Text → Application
sleep_application argument = app.Sleep (within_hour (read_u64 argument))

-- the cause that the first word names; NORMAL_CLEARING where there is no such name
abbrev pub hangup_application : Text → Application
hangup_application argument = app.Hangup (cause_or_clearing (word_of (without_spaces argument)))

-- ---- routing

-- a transfer to where words send a channel, if they send it anywhere
abbrev pub transfer_to : Option Target3 → Application
transfer_to None = app.Unknown
transfer_to (Some to) = app.Transfer to

-- ---- queues

-- a byte in front of what stands before the last such byte behind it; where there is none, nothing before the byte if it is one itself
abbrev pub with_byte : ℕ → Bool → Option (List ℕ) → Option (List ℕ)
with_byte b is (Some more) = Some (b ∷ more)
with_byte b is None = if is then Some [] else None

-- what stands before the last such byte, if there is one
abbrev pub before_last : ℕ → List ℕ → Option (List ℕ)
before_last byte [] = None
before_last byte (b ∷ bytes) = with_byte b (b == byte) (before_last byte bytes)

-- the name of a queue, which a word gives with its importance behind a `!`
abbrev pub queue_name : Text → Text
queue_name word = unwrap_or (before_last 33 word) word

-- a taker waits where it does not say that it will not
abbrev pub waits_by : Text → Bool
waits_by word = not (bytes_eq word (codes "nowait"))

-- what is done in a queue by its name, and by the words behind it: the second says what, the third whether a taker waits
abbrev pub queued_by : Text → Text → Text → Application
queued_by name what third =
    if length name == 0 then app.Unknown
    else (if bytes_eq what (codes "in") then app.FifoIn name
    else (if bytes_eq what (codes "out") then app.FifoOut name (waits_by third)
    else app.Unknown))

abbrev pub fifo_in : Text → Application
fifo_in words = queued_by (queue_name (word_of words)) (word_of (behind_word words)) (word_of (behind_word (behind_word words)))

abbrev pub fifo_application : Text → Application
fifo_application argument = fifo_in (without_spaces argument)

-- ---- all of them

-- what an assignment is asked by its argument, or else another application
abbrev pub assigned_or : Option Assignment → Text → Application → Application
assigned_or (Some how) argument other = app.Assign how argument
assigned_or None argument other = other

unfoldable pub application_of : Text → Text → Application
application_of name argument =
    assigned_or (assignment_named name) argument
    (if bytes_eq name (codes "answer") then app.Answer
    else (if bytes_eq name (codes "log") || bytes_eq name (codes "eval") then app.Eval
    else (if bytes_eq name (codes "sleep") then sleep_application argument
    else (if bytes_eq name (codes "hangup") then hangup_application argument
    else (if bytes_eq name (codes "bridge") then app.Bridge argument
    else (if bytes_eq name (codes "park") then app.Park
    else (if bytes_eq name (codes "transfer") then transfer_to (target_in (without_spaces argument))
    else (if bytes_eq name (codes "fifo") then fifo_application argument
    else (if bytes_eq name (codes "socket") then app.Socket argument
    else app.Unknown)))))))))

-- the texts of a transfer can stand in a profile
abbrev pub IsShortApplication : Application → Type 0
IsShortApplication (app.Transfer to) = changes.IsShortTarget to
IsShortApplication _ = Unit {0}
