-- The days that follow one another are those that jiff numbers, and the time of day is what division leaves.
use Rattle.std.proofs.Common.{◌≡◌, ℕ, zero, suc, ◌+◌, ◌-◌, ◌*◌, ◌/◌, ◌%◌, ◌<◌, ◌≤◌, Bool, true, false, nat_lt, refl, sym, ap, ◌∙◌, arith, rules}
use Rattle.std.proofs.Common.{w8, to_z, of_z, ℤ, pos, negsuc, ◌+ℤ◌, ◌-ℤ◌, ◌*ℤ◌, ◌≤ℤ◌, unsigned_abs, if◌then◌else◌}
use Rattle.std.proofs.lemmas.Bool.{ltb-true, ltb-false}
use Rattle.std.proofs.lemmas.Int.{by_lt_z}
use Rattle.jiff_core.specs.declared.civil.date.Date.{Date}
use Rattle.jiff_core.specs.declared.civil.time.Time.{Time}
use Rattle.jiff_core.specs.Calendar.{days_from_civil, days_in_month, weekday_number, IsCivilDate}
use Rattle.jiff_core.specs.Date.{epoch_day}
use Rattle.jiff_core.specs.Time.{time_nanos, time_seconds}
use Rattle.jiff_core.proofs.SignedLemmas.{signed_arith, back_small}
use Rattle.jiff_core.proofs.CalendarLemmas.{days_in_month_bounds, days_from_civil-day_count, day_count-lt_year, weekday_number-parts}
use Rattle.jiff_core.proofs.DateLemmas.{days_from_civil-day, days_from_civil-next_month, days_from_civil-next_year}
use Rattle.jiff_core.proofs.DateLemmas.{days_from_civil-max, epoch_day_injective}
use Rattle.jiff_core.proofs.StandardFacts.{known_days}
use Rattle.fs_sched.specs.Civil.{Day, month_length, day_after, day_at, weekday_at}
use borrow.Author.Differences.{up, down}

-- ---- dates

-- a day of the calendar, from 1969 on
record IsDay (d : Day) : Type 0 where
  pub year : 1969 ≤ d.year
  pub first_month : 1 ≤ d.month
  pub last_month : d.month ≤ 12
  pub first : 1 ≤ d.day
  pub last : d.day ≤ month_length d.year d.month

-- its number, from 1970-01-01 on
abbrev number : Day → ℤ
number d = days_from_civil (pos d.year) d.month d.day

-- a day of the calendar whose number is one more
abbrev Follows : Day → Day → Type 0
Follows d next = IsDay next × (number next ≡ number d +ℤ pos 1)

follows : (d : Day) → IsDay d → Follows d (day_after d)
follows d is = in_month (nat_lt d.day (month_length d.year d.month)) refl
  where
    long : (days_in_month (pos d.year) d.month ≤ 31) × (28 ≤ days_in_month (pos d.year) d.month)
    long = days_in_month_bounds (pos d.year) d.month

    next_long : (days_in_month (pos d.year) (d.month + 1) ≤ 31) × (28 ≤ days_in_month (pos d.year) (d.month + 1))
    next_long = days_in_month_bounds (pos d.year) (d.month + 1)

    in_year : (b : Bool) → nat_lt d.month 12 ≡ b → d.day ≡ days_in_month (pos d.year) d.month →
        Follows d (if b then record { year = d.year; month = d.month + 1; day = 1 } else record { year = d.year + 1; month = 1; day = 1 })
    in_year true e last = (
      record {
        year = is.year;
        first_month = omega arith;
        last_month = omega (arith, ltb-true _ _ e);
        first = omega arith;
        last = omega (arith, next_long);
      },
      days_from_civil-next_month (pos d.year) d.month d.day is.first_month last,
    )
    in_year false e last =
        let december : d.month ≡ 12 = omega (arith, is.last_month, ltb-false _ _ e) in
        let long : days_in_month (pos d.year) d.month ≡ 31 = rw december refl in
        let end : d.day ≡ 31 = last ∙ long in (
          record { year = omega (arith, is.year); first_month = omega arith; last_month = omega arith; first = omega arith; last = omega arith },
          rw (december, end) (days_from_civil-next_year (pos d.year) (pos (d.year + 1)) (omega (arith, signed_arith)) (omega (arith, signed_arith))),
        )

    in_month : (b : Bool) → nat_lt d.day (month_length d.year d.month) ≡ b →
        Follows d (if b then record { year = d.year; month = d.month; day = d.day + 1 }
        else (if nat_lt d.month 12 then record { year = d.year; month = d.month + 1; day = 1 } else record { year = d.year + 1; month = 1; day = 1 }))
    in_month true e = (
      record {
        year = is.year;
        first_month = is.first_month;
        last_month = is.last_month;
        first = omega arith;
        last = omega (arith, ltb-true _ _ e);
      },
      omega (arith, signed_arith, days_from_civil-day (pos d.year) d.month d.day (d.day + 1) is.first (omega arith)),
    )
    in_month false e = in_year (nat_lt d.month 12) refl (omega (arith, is.last, ltb-false _ _ e))

-- the days behind the last one of 1969 are numbered one by one
numbered : (n : ℕ) → IsDay (day_at n) × (number (day_at n) ≡ pos n -ℤ pos 1)
unfolding day_at
numbered zero = (
  record { year = omega arith; first_month = omega arith; last_month = omega arith; first = omega arith; last = omega arith },
  known_days.1,
)
numbered (suc n) =
    let before = numbered n in
    let next = follows (day_at n) before.0 in
    (next.0, omega (arith, signed_arith, next.1, before.1))

pub is_day_at : (n : ℕ) (date : Date) → n ≤ 2_932_532 → epoch_day date ≡ pos n -ℤ pos 1 →
    (date.month ≡ (day_at n).month) × (date.day ≡ (day_at n).day)
is_day_at n date early is = (same.1, same.2)
  where
    d : Day
    d = day_at n

    known : IsDay d × (number d ≡ pos n -ℤ pos 1)
    known = numbered n

    last_date : IsCivilDate (pos 9999) 12 31
    last_date = search rules

    not_later : pos d.year ≤ℤ pos 9999
    not_later = by_lt_z (pos 9999) (pos d.year)
        (λ later. absurd (omega (arith, signed_arith, known.1, days_from_civil-max, days_from_civil-day_count (pos d.year) d.month d.day, days_from_civil-day_count (pos 9999) 12 31, day_count-lt_year (pos 9999) 12 31 (pos d.year) d.month d.day last_date known.0.first later)))
        (λ le. le)

    there : Date
    there = record {
      year = pos d.year;
      month = d.month;
      day = d.day;
      year_in = (omega (arith, signed_arith), not_later);
      month_in = (known.0.first_month, known.0.last_month);
      day_in = (known.0.first, known.0.last);
    }

    same : (date.year ≡ pos d.year) × (date.month ≡ d.month) × (date.day ≡ d.day)
    same = epoch_day_injective date there (is ∙ sym known.1)

-- ---- minutes

whole : (a b rest : ℕ) → rest < 1_000_000_000 → a * 1_000_000_000 + rest ≡ b * 1_000_000_000 → a ≡ b
whole a b rest small e = omega arith

-- the minutes behind the beginning of 31 December 1969 are the days, the hours and the minutes that are shown
pub parts_are : (n : ℕ) (time : Time) (wall day : ℤ) → pos n ≡ wall +ℤ pos 1440 →
    day *ℤ pos 86_400_000_000_000 +ℤ pos (time_nanos time) ≡ wall *ℤ pos 60 *ℤ pos 1_000_000_000 →
    (day ≡ pos (n / 1440) -ℤ pos 1) × (time.hour ≡ n / 60 % 24) × (time.minute ≡ n % 60)
parts_are n time wall day is e =
    let k = up day + 1 - down day in
    let behind : down day ≤ up day + 1 = omega (arith, signed_arith, e, is) in
    let counted : (k * 86_400 + time_seconds time) * 1_000_000_000 + time.subsec_nanosecond ≡ n * 60 * 1_000_000_000 = omega (arith, signed_arith, e, behind, is) in
    let seconds : k * 86_400 + time_seconds time ≡ n * 60 = whole _ _ time.subsec_nanosecond (omega arith) counted in
    let minutes : k * 1440 + time.hour * 60 + time.minute ≡ n = omega arith in
    let days : n / 1440 ≡ k = omega arith in
    (omega (arith, signed_arith, days, behind), omega arith, omega arith)

pub weekday_is : (n : ℕ) → (weekday_number (pos n -ℤ pos 1) + 1) % 7 + 1 ≡ weekday_at n
weekday_is n = omega (arith, signed_arith, weekday_number-parts (pos n -ℤ pos 1))

-- ---- numbers

-- a number that is not negative is its size
pub size_is : (z : ℤ) → pos 0 ≤ℤ z → pos (unsigned_abs z) ≡ z
size_is (pos n) low = refl
size_is (negsuc n) low = absurd (omega (arith, signed_arith))

-- a small number stays as it is in a byte
pub byte_is : (z : ℤ) (n : ℕ) → z ≡ pos n → n < 128 → unsigned_abs (to_z w8 (of_z w8 z)) ≡ n
byte_is z n is small = rw is (ap unsigned_abs (back_small w8 (pos n) small))
