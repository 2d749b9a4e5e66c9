-- How the code's states and answers are seen by the definitions.
use Rattle.std.specs.Prelude.{◌<◌, length, reverse, map, Option, None, Some, IfSome, Result}
use Rattle.std.specs.Borrow.{Bor}
use Rattle.fs_text.specs.Texts.{Text}
use Rattle.fs_doc.specs.declared.config.Config.{Config}
use Rattle.fs_doc.specs.declared.content.Content.{Content}
use Rattle.fs_doc.specs.declared.fault.DocFault.{DocFault}
use Rattle.fs_doc.specs.declared.fault.DocStop.{DocStop}
use Rattle.fs_doc.specs.declared.state.Open.{Open}
use Rattle.fs_doc.specs.declared.state.State.{State}
use Rattle.fs_doc.specs.Faults.{DocGives}
use Rattle.fs_doc.specs.Reading.{Opened, ReadSoFar, Next, Over, On, Configuration}

abbrev pub opened_of : Open → Opened
opened_of o = record { level = o.level; name = o.name.now }

abbrev pub reading_of : State → ReadSoFar
reading_of s = record { opened = reverse (map opened_of s.opened.items); content = s.content }

-- a call that answers nothing leaves the state that a reading tells, unless it meets the fault that the reading does
abbrev pub Leaves : State → Result (Unit {0}) DocStop → Result ReadSoFar DocFault → Type 0
Leaves s result read = DocGives (λ _. reading_of s) result read

abbrev pub content_seen : Content → Content
content_seen c = c

abbrev pub rest_seen : Bor Text → Text
rest_seen rest = rest.now

-- the reading goes on where there is a rest
abbrev pub next_seen : State → Option (Bor Text) → Next
next_seen s None = Over s.content
next_seen s (Some rest) = On (reading_of s) rest.now

abbrev pub RestIsShorter : Text → Option (Bor Text) → Type 0
RestIsShorter text rest = IfSome rest (λ r. length r.now < length text)

abbrev pub configuration_of : Config → Configuration
configuration_of c = c
