-- The text of an instant with seven places is what a clock in UTC shows.
use Rattle.std.proofs.Common.{◌≡◌, ℕ, ◌+◌, ◌*◌, ◌/◌, ◌%◌, ◌<◌, ◌≤◌, List, ◌++◌, [], ◌∷◌, false, true, Some, refl, sym, ap, ◌∙◌, subst, arith}
use Rattle.std.proofs.Common.{append_assoc, ℤ, pos, ◌+ℤ◌, ◌-ℤ◌, ◌*ℤ◌}
use Rattle.std.specs.Prelude.{nat_le, if◌then◌else◌, Bool, Option}
use Rattle.std.specs.Fmt.{decimal}
use Rattle.std.proofs.lemmas.Bool.Decides.{nat_tests}
use Rattle.jiff_core.specs.declared.civil.date.Date.{Date}
use Rattle.jiff_core.specs.declared.civil.time.Time.{Time}
use Rattle.jiff_core.specs.declared.civil.datetime.DateTime.{DateTime}
use Rattle.jiff_core.specs.declared.timestamp.Timestamp.{Timestamp}
use Rattle.jiff_core.specs.Calendar.{day_of_year, IsCivilDate}
use Rattle.jiff_core.specs.Date.{epoch_day}
use Rattle.jiff_core.specs.DateTime.{civil_nanos}
use Rattle.jiff_core.specs.Time.{time_nanos}
use Rattle.jiff_core.proofs.SignedLemmas.{signed_arith}
use Rattle.jiff_core.proofs.CalendarLemmas.{days_from_civil-day_count, days_of_months-zero}
use Rattle.jiff_core.proofs.DateLemmas.{civil}
use Rattle.jiff_core.proofs.DateTimeLemmas.{civil_nanos-parts, time_nanos_bound}
use Rattle.jiff_fmt.specs.declared.temporal.printer.DateTimePrinter.{DateTimePrinter}
use Rattle.jiff_fmt.specs.Printer.{options, IsTimestampText}
use Rattle.jiff_fmt.specs.Text as jiff
use Rattle.reg_tables.specs.declared.time.TheConstants.{LAST_INSTANT}
use Rattle.reg_tables.specs.Times.{year_and_day, month_and_day, date_text}
use Rattle.reg_tables.specs.Timelines.{precise_clock, precise_instant, precise_time}
use Rattle.reg_tables.proofs.DatesTold.{day_count-1601, year-found, month-found, IsInYear, IsInMonth}

-- a date by its day number
date-parts : (d : Date) (days : ℕ) → epoch_day d +ℤ pos 134_774 ≡ pos days → IsInYear d.year d.month d.day (year_and_day 8398 1601 days)
date-parts d days e =
    let c = civil d in
    year-found 8398 1601 days d.year d.month d.day c (omega arith) (omega (arith, signed_arith, c.0))
    (omega (arith, signed_arith, e, days_from_civil-day_count d.year d.month d.day, day_count-1601))

month-parts : (y : ℤ) (m d : ℕ) → IsCivilDate y m d → (found : ℕ × ℕ) → IsInYear y m d found → IsInMonth m d (month_and_day 11 found.0 1 found.1)
month-parts y m d c found at =
    let c' : IsCivilDate (pos found.0) m d = subst (λ (z : ℤ). IsCivilDate z m d) at.0 c in
    let place : found.1 + 1 ≡ day_of_year (pos found.0) m d = at.1 ∙ ap (λ (z : ℤ). day_of_year z m d) at.0 in
    month-found 11 found.0 1 found.1 m d (omega arith) c'.1.0 (omega (arith, c'.1.1)) c'.2.0 c'.2.1
    (omega (arith, place, days_of_months-zero (pos found.0)))

date-told : (d : Date) (days : ℕ) → epoch_day d +ℤ pos 134_774 ≡ pos days → jiff.date_text d ≡ date_text days
unfolding date_text
date-told d days e =
    let year = date-parts d days e in
    let month = month-parts d.year d.month d.day (civil d) (year_and_day 8398 1601 days) year in
    let y = (year_and_day 8398 1601 days).0 in
    ap (λ (z : ℤ). jiff.year_text z ++ 45 ∷ [] ++ jiff.pad2 d.month ++ 45 ∷ [] ++ jiff.pad2 d.day) year.0
    ∙ ap (λ (n : ℕ). jiff.pad4 y ++ (45 ∷ (jiff.pad2 n ++ (45 ∷ jiff.pad2 d.day)))) (sym month.0)
    ∙ ap (λ (n : ℕ). jiff.pad4 y ++ (45 ∷ (jiff.pad2 (month_and_day 11 y 1 (year_and_day 8398 1601 days).1).0 ++ (45 ∷ jiff.pad2 n)))) (sym month.1)

clock-told : (t : Time) (rest : ℕ) → time_nanos t ≡ rest * 100 → jiff.time_text (Some 7) t ≡ precise_clock rest
unfolding precise_clock
clock-told t rest e =
    let hour : t.hour ≡ rest / 36_000_000_000 = omega (arith, e) in
    let minute : t.minute ≡ rest / 600_000_000 % 60 = omega (arith, e) in
    let second : t.second ≡ rest / 10_000_000 % 60 = omega (arith, e) in
    let part : t.subsec_nanosecond ≡ rest % 10_000_000 * 100 = omega (arith, e) in
    rw (hour, minute, second, part) refl

parted : (date clock end : List ℕ) → (date ++ (84 ∷ clock)) ++ end ≡ date ++ (84 ∷ (clock ++ end))
parted date clock end = append_assoc date (84 ∷ clock) end

instant-told : (dt : DateTime) (ticks : ℕ) → civil_nanos dt ≡ (pos ticks -ℤ pos 116_444_736_000_000_000) *ℤ pos 100 →
    jiff.datetime_text false 84 (Some 7) dt ++ jiff.zulu_text false ≡ precise_instant ticks
unfolding precise_instant
instant-told dt ticks e =
    let parts = civil_nanos-parts dt in
    let bound = time_nanos_bound dt.time in
    let days : epoch_day dt.date +ℤ pos 134_774 ≡ pos (ticks / 864_000_000_000) = omega (arith, signed_arith, e, parts, bound) in
    let rest : time_nanos dt.time ≡ ticks % 864_000_000_000 * 100 = omega (arith, signed_arith, e, parts, bound) in
    ap (λ (x : List ℕ). (x ++ (84 ∷ jiff.time_text (Some 7) dt.time)) ++ (90 ∷ [])) (date-told dt.date (ticks / 864_000_000_000) days)
    ∙ ap (λ (x : List ℕ). (date_text (ticks / 864_000_000_000) ++ (84 ∷ x)) ++ (90 ∷ [])) (clock-told dt.time (ticks % 864_000_000_000) rest)
    ∙ parted (date_text (ticks / 864_000_000_000)) (precise_clock (ticks % 864_000_000_000)) (90 ∷ [])

-- ---- which times are said as instants

pub precise_time-last : (ticks : ℕ) → ticks ≤ LAST_INSTANT → precise_time ticks ≡ precise_instant ticks
unfolding precise_time
precise_time-last ticks l =
    let t : nat_le ticks LAST_INSTANT ≡ true = grind (arith, nat_tests, l) in ap (λ (b : Bool). if b then precise_instant ticks else decimal ticks) t

pub precise_time-beyond : (ticks : ℕ) → LAST_INSTANT < ticks → precise_time ticks ≡ decimal ticks
unfolding precise_time
precise_time-beyond ticks l =
    let t : nat_le ticks LAST_INSTANT ≡ false = grind (arith, nat_tests, l) in ap (λ (b : Bool). if b then precise_instant ticks else decimal ticks) t

-- ---- what jiff prints

printed : (p : DateTimePrinter) → options p ≡ (false, 84, Some 7) → (dt : DateTime) →
    jiff.datetime_text p.lowercase p.separator p.precision dt ++ jiff.zulu_text p.lowercase ≡ jiff.datetime_text false 84 (Some 7) dt ++ jiff.zulu_text false
printed p e dt = ap (λ (o : Bool × ℕ × Option ℕ). jiff.datetime_text o.0 o.1 o.2 dt ++ jiff.zulu_text o.0) e

pub precise-printed : (plain p : DateTimePrinter) (t : Timestamp) (text : List ℕ) (ticks : ℕ) → options plain ≡ (false, 84, Option.None) →
    options p ≡ (plain.lowercase, plain.separator, Some 7) → IsTimestampText p t text →
    t.nanosecond ≡ (pos ticks -ℤ pos 116_444_736_000_000_000) *ℤ pos 100 → text ≡ precise_instant ticks
precise-printed plain p t text ticks before after shown e =
    let same = after ∙ ap (λ (o : Bool × ℕ × Option ℕ). (o.0, o.1, Some 7)) before in
    shown.2 ∙ (printed p same shown.0 ∙ instant-told shown.0 ticks (shown.1 ∙ e))
