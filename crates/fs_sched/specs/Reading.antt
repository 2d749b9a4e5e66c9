-- How the values of a field are written in an attribute.
use Rattle.std.specs.Prelude.{ℕ, Bool, ◌&&◌, if◌then◌else◌, nat_le, List, codes, filter_map, Option, Some, None, is_some}
use Rattle.std.specs.List.{list_all, slice_split}
use Rattle.std.specs.Option.{option_or, option_zip}
use Rattle.std.specs.Str.{bytes_eq}
use Rattle.fs_text.specs.Number.{read_u64}
use Rattle.fs_text.specs.Texts.{Text}
use Rattle.fs_text.specs.Words.{is_byte, halves_of}
use Rattle.fs_sched.specs.Ranges.{Range}
use Rattle.fs_sched.specs.declared.shown.TimeField.{TimeField}
use Rattle.fs_sched.specs.declared.shown.TimeField.TheVariants.{Hour, Minute, Mon, Mday, Wday}

-- the name of the attribute that has the values of a field
unfoldable pub field_named : Text → Option TimeField
field_named name =
    if bytes_eq name (codes "hour") then Some Hour
    else (if bytes_eq name (codes "minute") then Some Minute
    else (if bytes_eq name (codes "mon") then Some Mon
    else (if bytes_eq name (codes "mday") then Some Mday
    else (if bytes_eq name (codes "wday") then Some Wday
    else None))))

-- the values of a field: from the first to the last
abbrev pub bounds_of : TimeField → Range
bounds_of Hour = (0, 23)
bounds_of Minute = (0, 59)
bounds_of Mon = (1, 12)
bounds_of Mday = (1, 31)
bounds_of Wday = (1, 7)

-- the day of the week of a name, Sunday being 1
unfoldable pub day_named : Text → Option ℕ
day_named text =
    if bytes_eq text (codes "sun") then Some 1
    else (if bytes_eq text (codes "mon") then Some 2
    else (if bytes_eq text (codes "tue") then Some 3
    else (if bytes_eq text (codes "wed") then Some 4
    else (if bytes_eq text (codes "thu") then Some 5
    else (if bytes_eq text (codes "fri") then Some 6
    else (if bytes_eq text (codes "sat") then Some 7
    else None))))))

-- a number, where there is one, that is one of the values
abbrev pub kept : Range → Option ℕ → Option ℕ
kept bounds None = None
kept bounds (Some n) = if nat_le bounds.0 n && nat_le n bounds.1 then Some n else None

-- the name of a day says a day of the week
abbrev pub named_value : TimeField → Text → Option ℕ
named_value Wday text = day_named text
named_value _ text = None

-- a text says a value by decimal digits, a day of the week also by its name
abbrev pub value_of : TimeField → Text → Option ℕ
value_of field text = option_or (named_value field text) (kept (bounds_of field) (read_u64 text))

-- a range is two values around the first `-`, or one value alone
abbrev pub range_between : TimeField → Text → Option (Text × Text) → Option Range
range_between field text None = option_zip (value_of field text) (value_of field text)
range_between field text (Some halves) = option_zip (value_of field halves.0) (value_of field halves.1)

-- the range that a text says
unfoldable pub range_of : TimeField → Text → Option Range
range_of field text = range_between field text (halves_of 45 text)

-- what stands between commas
abbrev pub parts_of : Text → List Text
parts_of text = slice_split (is_byte 44) text

-- each part says a range
abbrev pub is_list : TimeField → Text → Bool
is_list field text = list_all (λ part. is_some (range_of field part)) (parts_of text)

-- the ranges that a list says; none where a part says no range
abbrev pub ranges_of : TimeField → Text → Option (List Range)
ranges_of field text = if is_list field text then Some (filter_map (range_of field) (parts_of text)) else None
