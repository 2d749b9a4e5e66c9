use Rattle.fs_conn.proofs.CommandLemmas.{commands_played, all_commands}
use Rattle.fs_conn.proofs.CauseLemmas.{last_exit, last_refused}
use Rattle.fs_conn.proofs.laws.enters_commands_once.Goals as goal

pub returns-clause-first : goal.returns-clause-first
returns-clause-first c = commands_played

pub returns-clause-all : goal.returns-clause-all
returns-clause-all c = all_commands

pub returns-clause-exit : goal.returns-clause-exit
returns-clause-exit c = last_exit

pub returns-clause-refused : goal.returns-clause-refused
returns-clause-refused c = last_refused
