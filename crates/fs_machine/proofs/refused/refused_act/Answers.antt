use Rattle.fs_machine.proofs.refused.refused_act.Goals as goal

pub returns-in-Command : goal.returns-in-Command
returns-in-Command c = rw c.in-Command.is c.refused_command.ensures

pub returns-in-Loaded : goal.returns-in-Loaded
returns-in-Loaded c = rw c.in-Loaded.is c.refused_load.ensures
