-- A day of the calendar, found by its number.
use Rattle.std.proofs.Common.{◌≡◌, ℕ, zero, suc, ◌+◌, ◌-◌, ◌<◌, ◌≤◌, Bool, true, false, inl, inr, refl, sym, ap, arith, ℤ, pos, ◌≤ℤ◌}
use Rattle.std.specs.Prelude.{nat_lt, if◌then◌else◌}
use Rattle.std.proofs.lemmas.Bool.Decides.{nat_tests}
use Rattle.std.proofs.lemmas.Int.{by_lt_z}
use Rattle.std.proofs.lemmas.Bool.{cases_order}
use Rattle.jiff_core.specs.Calendar.{day_count, day_of_year, days_of_months, days_in_year, days_in_month, IsCivilDate}
use Rattle.jiff_core.proofs.SignedLemmas.{signed_arith}
use Rattle.jiff_core.proofs.CalendarLemmas.{day_count-year_is, day_count-lt_year, day_count-next_year, day_count-day_of_year}
use Rattle.jiff_core.proofs.CalendarLemmas.{days_of_months_more, days_of_months_mono}
use Rattle.jiff_core.proofs.MarchLemmas.{day_count-early}
use Rattle.reg_tables.specs.Times.{year_and_day, month_and_day}

-- the days before 1 January 1601
pub day_count-1601 : day_count (pos 1601) 1 1 ≡ 4_237_179
day_count-1601 = day_count-early _ 11600 1 1 refl (omega arith) (omega arith) (omega arith)

either : {A : Type 0} (P : A → Type 0) (b : Bool) (x y : A) → (b ≡ true → P x) → (b ≡ false → P y) → P (if b then x else y)
either P true x y t f = t refl
either P false x y t f = f refl

-- the year and the place in it that were found are a date's
abbrev pub IsInYear : (y : ℤ) (m d : ℕ) → ℕ × ℕ → Type 0
IsInYear y m d found = (y ≡ pos found.0) × (found.1 + 1 ≡ day_of_year y m d)

in_year : (y : ℤ) (m d year days : ℕ) → IsCivilDate y m d → y ≡ pos year → day_count (pos year) 1 1 + days ≡ day_count y m d → IsInYear y m d (year, days)
in_year y m d year days civil same e =
    let first : day_count (pos year) 1 1 ≡ day_count y 1 1 = ap (λ (z : ℤ). day_count z 1 1) (sym same) in
    (same, omega (arith, e, first, day_count-day_of_year y m d civil.2.0))

pub year-found : (years year days : ℕ) (y : ℤ) (m d : ℕ) → IsCivilDate y m d → year + years ≤ 9999 → y ≤ℤ pos (year + years) →
    day_count (pos year) 1 1 + days ≡ day_count y m d → IsInYear y m d (year_and_day years year days)
unfolding year_and_day
year-found zero year days y m d civil high last e =
    by_lt_z y (pos year)
    (λ lt. absurd (omega (arith, e, day_count-lt_year y m d (pos year) 1 1 civil (omega arith) lt)))
    (λ ge. in_year y m d year days civil (omega (arith, signed_arith)) e)
year-found (suc years) year days y m d civil high last e =
    either (IsInYear y m d) (nat_lt days (days_in_year (pos year))) (year, days) (year_and_day years (year + 1) (days - days_in_year (pos year)))
    (λ t.
    let within : days < days_in_year (pos year) = grind (arith, nat_tests, t) in
    in_year y m d year days civil
    (day_count-year_is (pos year) y m d (omega (arith, signed_arith)) civil (omega (arith, e)) (omega (arith, e, within))) e)
    (λ f.
    let beyond : days_in_year (pos year) ≤ days = grind (arith, nat_tests, f) in
    let next = day_count-next_year (pos year) (pos (year + 1)) (omega (arith, signed_arith)) (omega (arith, signed_arith)) in
    year-found years (year + 1) (days - days_in_year (pos year)) y m d civil (omega (arith, high)) (omega (arith, signed_arith, last))
    (omega (arith, e, beyond, next)))

-- the month and the place in it that were found are a date's
abbrev pub IsInMonth : (m d : ℕ) → ℕ × ℕ → Type 0
IsInMonth m d found = (found.0 ≡ m) × (found.1 + 1 ≡ d)

pub month-found : (months year month days : ℕ) (m d : ℕ) → 1 ≤ month → month ≤ m → m ≤ month + months → 1 ≤ d → d ≤ days_in_month (pos year) m →
    days_of_months (pos year) (month - 1) + days + 1 ≡ day_of_year (pos year) m d → IsInMonth m d (month_and_day months year month days)
unfolding month_and_day
month-found zero year month days m d one low high first last e =
    let same : month ≡ m = omega (arith, low, high) in
    let here : days_of_months (pos year) (month - 1) ≡ days_of_months (pos year) (m - 1) = ap (λ (n : ℕ). days_of_months (pos year) (n - 1)) same in
    (same, omega (arith, e, here))
month-found (suc months) year month days m d one low high first last e =
    either (IsInMonth m d) (nat_lt days (days_in_month (pos year) month)) (month, days)
    (month_and_day months year (month + 1) (days - days_in_month (pos year) month))
    (λ t.
    let within : days < days_in_month (pos year) month = grind (arith, nat_tests, t) in
    let more = days_of_months_more (pos year) month one in
    let no_later : m ≤ month = omega_or m month (λ lt.
    let before = days_of_months_mono (pos year) month (m - 1) (omega (arith, lt)) in absurd (omega (arith, e, within, more, before, first))) in
    let same : month ≡ m = omega (arith, low, no_later) in
    let here : days_of_months (pos year) (month - 1) ≡ days_of_months (pos year) (m - 1) = ap (λ (n : ℕ). days_of_months (pos year) (n - 1)) same in
    (same, omega (arith, e, here)))
    (λ f.
    let beyond : days_in_month (pos year) month ≤ days = grind (arith, nat_tests, f) in
    let more = days_of_months_more (pos year) month one in
    let later : month < m = earlier_or month m low (λ same.
    let here : days_of_months (pos year) (month - 1) ≡ days_of_months (pos year) (m - 1) = ap (λ (n : ℕ). days_of_months (pos year) (n - 1)) same in
    let long : days_in_month (pos year) month ≡ days_in_month (pos year) m = ap (λ (n : ℕ). days_in_month (pos year) n) same in
    absurd (omega (arith, e, beyond, here, long, last))) in
    let back : month + 1 - 1 ≡ month = omega arith in
    let above : days_of_months (pos year) (month + 1 - 1) ≡ days_of_months (pos year) month = ap (λ (n : ℕ). days_of_months (pos year) n) back in
    month-found months year (month + 1) (days - days_in_month (pos year) month) m d (omega arith) (omega (arith, later)) (omega (arith, high)) first last
    (omega (arith, e, beyond, more, above)))
  where
    omega_or : (m n : ℕ) → (n < m → m ≤ n) → m ≤ n
    omega_or m n f = elim (cases_order m n) [ inl same ↦ omega (arith, same) | inr (inl lt) ↦ omega (arith, lt) | inr (inr gt) ↦ f gt ]

    earlier_or : (m n : ℕ) → m ≤ n → (m ≡ n → m < n) → m < n
    earlier_or m n le f = elim (cases_order m n) [ inl same ↦ f same | inr (inl lt) ↦ lt | inr (inr gt) ↦ absurd (omega (arith, gt, le)) ]
