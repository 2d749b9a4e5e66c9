-- The civil calendar, and what a clock and a calendar show at a minute.
use Rattle.std.specs.Prelude.{ℕ, zero, suc, ◌+◌, ◌/◌, ◌%◌, ◌==◌, Bool, not, ◌&&◌, ◌||◌, if◌then◌else◌, nat_lt, Option}
use Rattle.std.specs.Prelude.{Some, None, ℤ, pos, neg_ℤ, ◌+ℤ◌, int_le, unsigned_abs}
use Rattle.fs_sched.specs.declared.shown.Fields.{Fields}
use Rattle.fs_sched.specs.declared.shown.TimeField.{TimeField}
use Rattle.fs_sched.specs.declared.shown.TimeField.TheVariants.{Hour, Minute, Mon, Mday, Wday}

-- ---- dates

-- a day of the calendar; months and days count from 1
pub record Day : Type 0 where
  pub year : ℕ
  pub month : ℕ
  pub day : ℕ

-- every fourth year, but of the centuries only every fourth
abbrev pub is_leap : ℕ → Bool
is_leap year = (year % 4 == 0) && (not (year % 100 == 0) || (year % 400 == 0))

-- thirty days have April, June, September and November; February has 28, in a leap year 29
abbrev pub month_length : ℕ → ℕ → ℕ
month_length year month =
    if month == 2 then (if is_leap year then 29 else 28)
    else (if (month == 4) || (month == 6) || (month == 9) || (month == 11) then 30 else 31)

-- the next day of the month; behind its last day the first of the next month; behind the last month the next year
abbrev pub day_after : Day → Day
day_after d =
    if nat_lt d.day (month_length d.year d.month) then record { year = d.year; month = d.month; day = d.day + 1 }
    else (if nat_lt d.month 12 then record { year = d.year; month = d.month + 1; day = 1 }
    else record { year = d.year + 1; month = 1; day = 1 })

-- the last day of 1969, a Wednesday
abbrev pub first_day : Day
first_day = record { year = 1969; month = 12; day = 31 }

-- the day so many days behind it
unfoldable pub day_at : ℕ → Day
day_at zero = first_day
day_at (suc n) = day_after (day_at n)

-- the day of the week so many days behind it, Sunday being 1
abbrev pub weekday_at : ℕ → ℕ
weekday_at n = (n + 3) % 7 + 1

-- ---- minutes

-- what is shown so many minutes behind the beginning of 31 December 1969
abbrev pub shown_at : ℕ → Fields
shown_at minutes = record {
  hour = minutes / 60 % 24;
  minute = minutes % 60;
  mon = (day_at (minutes / 1440)).month;
  mday = (day_at (minutes / 1440)).day;
  wday = weekday_at (minutes / 1440);
}

-- the minutes, from 1970-01-01 00:00 on, that are shown: from 1969-12-31 00:01 to 9998-12-31 23:59
abbrev pub is_shown : ℤ → Bool
is_shown wall = int_le (neg_ℤ (pos 1439)) wall && int_le wall (pos 4_222_846_079)

-- what is shown at a minute
abbrev pub fields : ℤ → Option Fields
fields wall = if is_shown wall then Some (shown_at (unsigned_abs (wall +ℤ pos 1440))) else None

-- ---- fields

-- what is shown in a field
abbrev pub field_of : Fields → TimeField → ℕ
field_of fields Hour = fields.hour
field_of fields Minute = fields.minute
field_of fields Mon = fields.mon
field_of fields Mday = fields.mday
field_of fields Wday = fields.wday
