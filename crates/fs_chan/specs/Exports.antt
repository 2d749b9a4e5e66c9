-- What setting, taking out and exporting a variable makes of variables.
use Rattle.std.specs.Prelude.{◌==◌, Bool, ◌||◌, ◌&&◌, if◌then◌else◌, List, [], ◌∷◌, ◌++◌, length, Option, None, Some, codes, unwrap_or}
use Rattle.std.specs.Borrow.{Bor}
use Rattle.std.specs.List.{list_any, slice_split}
use Rattle.fs_text.specs.Words.{is_byte}
use Rattle.fs_text.specs.Texts.{Text}
use Rattle.fs_vars.specs.Pairs.{same_text, value_of, without}
use Rattle.fs_vars.specs.Variables.{Variables, can_set, set_to}
use Rattle.fs_chan.specs.declared.chan.Chan.{Chan}

-- the variables once the name is set, or as they were where it cannot be
abbrev pub with_set : Variables → Text → Text → Variables
with_set vars name value = if can_set vars name value then set_to vars name value else vars

-- the channel with other variables
abbrev pub with_vars : Variables → Chan → Chan
with_vars vars c = record c { vars = vars }

-- the variables without the name
abbrev pub without_name : Variables → Text → Variables
without_name vars name = record vars { pairs = without vars.pairs name }

-- the names of a comma list
abbrev pub names_of : Text → List Text
names_of list = slice_split (is_byte 44) list

-- the names of a list, if it is there
abbrev pub names_behind : Option (Bor Text) → List Text
names_behind None = []
names_behind (Some list) = names_of list.now

-- a name stands in a comma list
abbrev pub is_listed : Text → Text → Bool
is_listed name list = list_any (λ listed. same_text name listed) (names_of list)

-- a comma list with one more name behind its others
abbrev pub with_listed : Text → Text → Text
with_listed name list = if length list == 0 then name else list ++ 44 ∷ name

-- the comma list of the names that are exported
abbrev pub exports : Variables → Text
exports vars = unwrap_or (value_of vars.pairs (codes "export_vars")) []

-- the name is in that list, or can be put into it
abbrev pub can_list : Variables → Text → Bool
can_list vars name = is_listed name (exports vars) || can_set vars (codes "export_vars") (with_listed name (exports vars))

-- the variables with the name in that list, once
abbrev pub with_export : Variables → Text → Variables
with_export vars name = if is_listed name (exports vars) then vars else set_to vars (codes "export_vars") (with_listed name (exports vars))

-- the name can be set, and then be put into the list
abbrev pub can_export : Variables → Text → Text → Bool
can_export vars name value = can_set vars name value && can_list (set_to vars name value) name

-- the variables once the name is set and exported, or as they were where either cannot be
unfoldable pub exported : Variables → Text → Text → Variables
exported vars name value = if can_export vars name value then with_export (set_to vars name value) name else vars
