-- The numbers that a switch draws.
use Rattle.std.specs.Prelude.{◌+◌, ◌-◌, ◌^◌, min}
use Rattle.fs_state.specs.declared.drawn.Drawn.{Drawn}

-- no number is drawn yet
abbrev pub none_drawn : Drawn
none_drawn = record { identifiers = 0; origs = 0; jobs = 0; conns = 0 }

-- with one more identifier; a count that is at its last number stands still
abbrev pub with_identifier : Drawn → Drawn
with_identifier d = record d { identifiers = min (d.identifiers + 1) (2 ^ 62 - 1) }

-- with one more number of an origination
abbrev pub with_orig : Drawn → Drawn
with_orig d = record d { origs = min (d.origs + 1) (2 ^ 64 - 1) }

-- with one more number of a job
abbrev pub with_job : Drawn → Drawn
with_job d = record d { jobs = min (d.jobs + 1) (2 ^ 64 - 1) }

-- with one more number of a connection
abbrev pub with_conn : Drawn → Drawn
with_conn d = record d { conns = min (d.conns + 1) (2 ^ 32 - 1) }
