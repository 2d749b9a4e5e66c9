-- Conditions on what a clock and a calendar show.
use Rattle.std.specs.Prelude.{Bool, true, false, List, [], ◌∷◌, Option, Some, None}
use Rattle.std.specs.List.{list_any, list_all}
use Rattle.fs_sched.specs.Civil.{field_of}
use Rattle.fs_sched.specs.Ranges.{is_within}
use Rattle.fs_sched.specs.declared.shown.Fields.{Fields}
use Rattle.fs_sched.specs.declared.times.Time.{Time}

-- the field lies in one of the ranges
abbrev pub time_holds : Fields → Time → Bool
time_holds fields time = list_any (is_within (field_of fields time.field)) time.ranges

-- all conditions hold; where nothing is shown only if there is none
abbrev pub hold : List Time → Option Fields → Bool
hold [] fields = true
hold (time ∷ times) None = false
hold (time ∷ times) (Some fields) = list_all (time_holds fields) (time ∷ times)
