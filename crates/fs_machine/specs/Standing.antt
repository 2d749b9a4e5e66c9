-- How a connection stands, for whoever serves it.
use Rattle.std.specs.Prelude.{ℕ, ◌==◌, not, length, Option, option_map}
use Rattle.fs_state.specs.Switch.{Switch, waiting_for}
use Rattle.fs_machine.specs.declared.entry.Act.{Act}
use Rattle.fs_machine.specs.declared.standing.Standing.{Standing}
use Rattle.fs_machine.specs.Concerns.{actor_of}
use Rattle.fs_machine.specs.Connections.{phase_at}
use Rattle.fs_machine.specs.Questions.{parting_at, owes}
use Rattle.fs_machine.specs.Step.{reads}

-- how a connection stands
abbrev pub standing_of : ℕ → Switch → Standing
standing_of conn s = record {
  reads = reads (phase_at s conn);
  owed = owes s conn;
  waits = not (length (waiting_for s conn) == 0);
  parting = parting_at s conn;
}

-- how the connection whose act it is stands
abbrev pub standing_by : Act → Switch → Option Standing
standing_by act s = option_map (λ conn. standing_of conn s) (actor_of act)
