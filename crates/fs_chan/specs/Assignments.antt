-- What the applications do that set variables and take them out.
use Rattle.std.specs.Prelude.{Option, None, Some, codes, if◌then◌else◌}
use Rattle.fs_text.specs.Texts.{Text}
use Rattle.fs_text.specs.Words.{name_in, value_in}
use Rattle.fs_vars.specs.Pairs.{same_text}
use Rattle.fs_vars.specs.Variables.{Variables}
use Rattle.fs_chan.specs.declared.assignment.Assignment.{Assignment}
use Rattle.fs_chan.specs.declared.assignment.Assignment.TheVariants.{Set, Unset, Export, SetGlobal}
use Rattle.fs_chan.specs.Exports.{with_set, without_name, exported}

-- what the application of a name does, if it is one of these
unfoldable pub assignment_named : Text → Option Assignment
assignment_named application =
    if same_text application (codes "set") then Some Set
    else (if same_text application (codes "unset") then Some Unset
    else (if same_text application (codes "export") then Some Export
    else (if same_text application (codes "set_global") then Some SetGlobal else None)))

-- the variables, or the globals, once it was done by its argument: `name=value`, or the name of what is taken out
abbrev pub assigned : Assignment → Text → Variables → Variables
assigned Set argument vars = with_set vars (name_in argument) (value_in argument)
assigned Unset argument vars = without_name vars argument
assigned Export argument vars = exported vars (name_in argument) (value_in argument)
assigned SetGlobal argument vars = with_set vars (name_in argument) (value_in argument)
