-- What the applications do that run while the dialplan is searched.
use Rattle.std.specs.Prelude.{Option, None, Some}
use Rattle.fs_text.specs.Texts.{Text}
use Rattle.fs_chan.specs.declared.assignment.Assignment.{Assignment}
use Rattle.fs_chan.specs.declared.assignment.Assignment.TheVariants.{SetGlobal}
use Rattle.fs_chan.specs.Assignments.{assignment_named, assigned}
use Rattle.fs_plan.specs.declared.hunt.Hunt.{Hunt}

-- a global or a variable is set or taken out, or neither
abbrev pub after_assignment : Option Assignment → Text → Hunt → Hunt
after_assignment None argument s = s
after_assignment (Some SetGlobal) argument s = record s { globals = assigned SetGlobal argument s.globals }
after_assignment (Some how) argument s = record s { vars = assigned how argument s.vars }

-- what an application does at once; any that sets nothing does nothing
abbrev pub inline_done : Text → Text → Hunt → Hunt
inline_done application argument s = after_assignment (assignment_named application) argument s
