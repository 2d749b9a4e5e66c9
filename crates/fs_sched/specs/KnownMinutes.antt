-- Minutes whose date, time and day of the week are known from elsewhere.
use Rattle.std.specs.Prelude.{◌≡◌, ℕ, ℤ, pos, neg_ℤ, None, Some}
use Rattle.fs_sched.specs.Civil.{fields}

-- what is shown at a minute: the month, the day, the hour, the minute, and the day of the week, Sunday being 1
abbrev pub IsShown : ℤ → ℕ → ℕ → ℕ → ℕ → ℕ → Type 0
IsShown wall mon mday hour minute wday =
    fields wall ≡ Some (record { hour = hour; minute = minute; mon = mon; mday = mday; wday = wday })

pub record MinutesAreKnown : Type 0 where
  -- nothing is shown before the first minute, 1969-12-31 00:01, a Wednesday, nor behind the year 9998
  pub before : fields (neg_ℤ (pos 1440)) ≡ None
  pub first : IsShown (neg_ℤ (pos 1439)) 12 31 0 1 4
  pub behind : fields (pos 4_222_846_080) ≡ None
  -- the last minute of 1969, and the first one of 1970, a Thursday
  pub eve : IsShown (neg_ℤ (pos 1)) 12 31 23 59 4
  pub epoch : IsShown (pos 0) 1 1 0 0 5
  -- a Saturday: 1970-01-03 09:00
  pub saturday : IsShown (pos 3420) 1 3 9 0 7
  -- 1970 has no day behind 28 February, and 1972 has one, a Tuesday
  pub common : IsShown (pos 84_960) 3 1 0 0 1
  pub leap : IsShown (pos 1_136_160) 2 29 0 0 3
  -- 2000 is a leap year too: 2000-02-29 02:00, a Tuesday
  pub century : IsShown (pos 15_863_160) 2 29 2 0 3
  -- 2^31 - 1 seconds are past in 2038-01-19 03:14, a Tuesday
  pub seconds : IsShown (pos 35_791_394) 1 19 3 14 3
  -- 2100 is none: behind 28 February, a Sunday, comes 1 March, a Monday
  pub no_leap : IsShown (pos 68_459_040) 3 1 0 0 2
