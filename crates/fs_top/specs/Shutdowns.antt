-- Which entries run `fsctl shutdown`.
use Rattle.std.specs.Prelude.{◌≡◌, Option, None, Some, option_map}
use Rattle.std.specs.Option.{option_and_then}
use Rattle.fs_text.specs.Texts.{Text}
use Rattle.fs_vars.specs.Expansion.{expanded}
use Rattle.fs_cmd.specs.Commands as command
use Rattle.fs_cmd.specs.Commands.{command_of}
use Rattle.fs_api.specs.declared.api.Api.{Api}
use Rattle.fs_api.specs.declared.api.Api.TheVariants as api
use Rattle.fs_api.specs.Readings.{api_of, expanded_api_of}
use Rattle.fs_state.specs.declared.job.Asker.TheVariants as asker
use Rattle.fs_state.specs.declared.job.Background.{Background}
use Rattle.fs_state.specs.declared.job.JobWork.TheVariants.{Run}
use Rattle.fs_state.specs.Switch.{Switch, job_of}
use Rattle.fs_machine.specs.declared.entry.Act.{Act}
use Rattle.fs_machine.specs.declared.entry.Act.TheVariants.{Command, Job}
use Rattle.fs_machine.specs.Applications.{unless_too_long, argument_in}
use Rattle.fs_machine.specs.Api.{chan_named}

-- the text that `expand` runs: it is expanded over the globals, or over what a channel knows, unless that is not there or it is too long then
abbrev pub text_expanded : Option Text → Text → Switch → Option Text
text_expanded None text s = unless_too_long (expanded s.globals.pairs text)
text_expanded (Some uuid) text s = option_and_then (λ c. argument_in c s text) (chan_named uuid s)

-- the api command that is run where this one is given: for `expand` the one of its text, if there is one
abbrev pub run_for : Api → Switch → Option Api
run_for (api.Expand uuid text) s = option_map expanded_api_of (text_expanded uuid text s)
run_for other s = Some other

-- a text runs `fsctl shutdown`
abbrev pub RunsShutdown : Text → Switch → Type 0
RunsShutdown text s = run_for (api_of text) s ≡ Some api.Shutdown

-- An act runs `fsctl shutdown`: it is that command of a connection, or the job that one began in the background to run it.
abbrev pub ShutsDown : Act → Switch → Type 0
ShutsDown (Command conn block) s = (text : Text) × (command_of block ≡ command.Api text) × RunsShutdown text s
ShutsDown (Job number) s =
    (job : Background) × (job_of s number ≡ Some (record { asker = asker.Background job; work = Run })) × RunsShutdown job.command s
ShutsDown _ s = ⊥
