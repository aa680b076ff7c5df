-- Carried from month to month, a day is the date of the civil calendar that has this number.
use Rattle.std.proofs.Common.{◌≡◌, ℕ, zero, suc, ◌+◌, ◌*◌, ◌%◌, ◌<◌, ◌≤◌, ◌≢◌, ◌⊎◌, inl, inr, ◌==◌, Bool, true, ◌&&◌, nat_le, refl, sym, ◌∙◌, arith, ℤ, pos, negsuc, ◌≤ℤ◌, unsigned_abs}
use Rattle.std.proofs.lemmas.Bool.{cases_lt, cond_both, leb-true, le-leb, eqb-true, eqb-false}
use Rattle.std.proofs.lemmas.Int.{by_lt_z}
use Rattle.jiff_core.specs.Calendar.{days_in_month, day_count, days_from_civil, weekday_number, IsCivilDate}
use Rattle.jiff_core.proofs.SignedLemmas.{signed_arith}
use Rattle.jiff_core.proofs.CalendarLemmas.{day_count-epoch, days_from_civil-day_count, day_count-next_month, day_count-next_year, day_count-last_of_year, day_count-day, day_count-lt_year, day_count-later_year, day_count-day_of_year, weekday_number-parts}
use Rattle.jiff_core.proofs.DateLemmas.{epoch_day_injective}
use Rattle.jiff_core.specs.declared.civil.date.Date.{Date}
use Rattle.jiff_core.specs.Date.{epoch_day, IsYmd}
use Rattle.jiff_core.proofs.MarchLemmas.{day_count-early}
use Rattle.lean_fixed.specs.Calendar.{Civil, month_length, is_civil, day_number, carried, carried_through, civil_of, weekday, last_day}

-- months since the year 0
abbrev pub months : Civil → ℕ
months date = date.year * 12 + date.month

-- days since the year -10000
abbrev pub days : Civil → ℕ
days date = day_count (pos date.year) date.month date.day

-- the first of the next month comes after the days of this one
next_month : (year month : ℕ) → 1 ≤ month → day_count (pos year) (month + 1) 1 ≡ day_count (pos year) month 1 + days_in_month (pos year) month
next_month year month low = day_count-next_month (pos year) month low

next_year : (year month : ℕ) → month ≡ 12 → day_count (pos (year + 1)) 1 1 ≡ day_count (pos year) month 1 + days_in_month (pos year) month
next_year year month december =
    rw december (omega (arith, day_count-next_year (pos year) (pos (year + 1)) (omega (arith, signed_arith)) (omega (arith, signed_arith)), day_count-last_of_year (pos year), day_count-day (pos year) 12 31 1 (omega arith) (omega arith)))

-- the same day, written as one of the next month
pub record Carries (from to : Civil) : Type 0 where
  pub same : days to ≡ days from
  pub month_low : 1 ≤ to.month
  pub month_high : to.month ≤ 12
  pub day_low : 1 ≤ to.day
  pub later : from.year ≤ to.year
  pub next : months to ≡ months from + 1

carries : (from to : Civil) → month_length from < from.day → 1 ≤ to.month → to.month ≤ 12 → from.year ≤ to.year → months to ≡ months from + 1 → day_count (pos to.year) to.month 1 ≡ day_count (pos from.year) from.month 1 + month_length from → to.day + month_length from ≡ from.day → Carries from to
carries from to past low high later next first rest =
    let before = day_count-day (pos from.year) from.month from.day 1 (omega arith) (omega arith) in
    let after = day_count-day (pos to.year) to.month to.day 1 (omega arith) (omega arith) in
    record {
      same = omega arith;
      month_low = low;
      month_high = high;
      day_low = omega arith;
      later = later;
      next = next;
    }

carried-past : (date : Civil) → 1 ≤ date.month → date.month ≤ 12 → month_length date < date.day → Carries date (carried date)
carried-past date low high past =
    cond_both (nat_le date.day (month_length date)) _ _ (Carries date)
    (λ t. absurd (omega (arith, leb-true date.day (month_length date) t)))
    (λ f. cond_both (date.month == 12) _ _ (Carries date)
    (λ t. let december : date.month ≡ 12 = eqb-true date.month 12 t in
    carries date _ past (omega arith) (omega arith) (omega arith) (omega arith) (next_year date.year date.month december) (omega arith))
    (λ g. let earlier : date.month ≢ 12 = eqb-false date.month 12 g in
    carries date _ past (omega arith) (omega arith) (omega arith) (omega arith) (next_month date.year date.month low) (omega arith)))

carried-inside : (date : Civil) → date.day ≤ month_length date → carried date ≡ date
carried-inside date inside = rw (le-leb date.day (month_length date) inside) refl

stays : (more : ℕ) (date : Civil) → date.day ≤ month_length date → carried_through more date ≡ date
unfolding carried_through
stays zero date inside = refl
stays (suc more) date inside = rw (carried-inside date inside) (stays more date inside)

-- the same day, written as one of its month, or of the last month that was tried
pub record Reaches (more : ℕ) (from to : Civil) : Type 0 where
  pub same : days to ≡ days from
  pub month_low : 1 ≤ to.month
  pub month_high : to.month ≤ 12
  pub day_low : 1 ≤ to.day
  pub later : from.year ≤ to.year
  pub near : months to ≤ months from + more
  pub inside : (to.day ≤ month_length to) ⊎ (months to ≡ months from + more)

reaches-itself : (more : ℕ) (date : Civil) → 1 ≤ date.month → date.month ≤ 12 → 1 ≤ date.day → (date.day ≤ month_length date) ⊎ (more ≡ 0) → Reaches more date date
reaches-itself more date low high first inside =
    record {
      same = refl;
      month_low = low;
      month_high = high;
      day_low = first;
      later = omega arith;
      near = omega arith;
      inside = elim inside [ inl h ↦ inl h | inr e ↦ inr (omega arith) ];
    }

reaches-on : (more : ℕ) (from next to : Civil) → Carries from next → Reaches more next to → Reaches (suc more) from to
reaches-on more from next to c r =
    record {
      same = r.same ∙ c.same;
      month_low = r.month_low;
      month_high = r.month_high;
      day_low = r.day_low;
      later = omega arith;
      near = omega arith;
      inside = elim r.inside [ inl h ↦ inl h | inr e ↦ inr (omega arith) ];
    }

pub carried_through-reaches : (more : ℕ) (date : Civil) → 1 ≤ date.month → date.month ≤ 12 → 1 ≤ date.day → Reaches more date (carried_through more date)
unfolding carried_through
carried_through-reaches zero date low high first = reaches-itself 0 date low high first (inr refl)
carried_through-reaches (suc more) date low high first =
    elim (cases_lt (month_length date) date.day) [
      | inl past ↦ let c = carried-past date low high past in
          reaches-on more date (carried date) _ c (carried_through-reaches more (carried date) c.month_low c.month_high c.day_low)
      | inr inside ↦ rw (stays (suc more) date inside) (reaches-itself (suc more) date low high first (inl inside))
    ]

-- 1 January 2200, where the walk ends
first_of_2200 : day_count (pos 2200) 1 1 ≡ 4_371_953 + 84_006
first_of_2200 = day_count-early (pos 2200) 12199 1 1 refl (omega arith) (omega arith) (omega arith)

last_month : (year month day n : ℕ) → year * 12 + month ≡ 26_401 → 1 ≤ month → month ≤ 12 → 1 ≤ day → day_count (pos year) month day ≡ 4_371_953 + n → n ≤ 84_036 → day ≤ days_in_month (pos year) month
last_month year month day n last low high first counted small =
    let y : year ≡ 2200 = omega arith in
    let m : month ≡ 1 = omega arith in
    let there = rw (y, m) at counted in
    rw (y, m) (omega (arith, first_of_2200, day_count-day (pos 2200) 1 day 1 first (omega arith)))

-- the date of the calendar from 1970 on that has the number n
pub record IsDateOf (n : ℕ) (date : Civil) : Type 0 where
  pub civil : IsCivilDate (pos date.year) date.month date.day
  pub numbered : days_from_civil (pos date.year) date.month date.day ≡ pos n
  pub low : 1970 ≤ date.year
  pub high : date.year ≤ 2200

reached : (n : ℕ) (date : Civil) → n ≤ 84_036 → Reaches 2760 (record { year = 1970; month = 1; day = n + 1 }) date → IsDateOf n date
reached n date small r =
    let high : date.year ≤ 2200 = omega (arith, r.near, r.month_low) in
    let counted : day_count (pos date.year) date.month date.day ≡ 4_371_953 + n =
    omega (arith, r.same, day_count-epoch, day_count-day (pos 1970) 1 (n + 1) 1 (omega arith) (omega arith)) in
    let fits : date.day ≤ days_in_month (pos date.year) date.month = elim r.inside [
      | inl h ↦ h
      | inr e ↦ last_month date.year date.month date.day n e r.month_low r.month_high r.day_low counted small
    ] in
    record {
      civil = ((omega (arith, signed_arith), omega (arith, signed_arith)), (r.month_low, r.month_high), (r.day_low, fits));
      numbered = omega (arith, signed_arith, days_from_civil-day_count (pos date.year) date.month date.day);
      low = r.later;
      high = high;
    }

-- so it has as far as the end of January 2200
pub civil_of-is : (n : ℕ) → n ≤ 84_036 → IsDateOf n (civil_of n)
unfolding civil_of
civil_of-is n small =
    reached n (civil_of n) small (carried_through-reaches 2760 (record { year = 1970; month = 1; day = n + 1 }) (omega arith) (omega arith) (omega arith))

year_up_to : (year month day n : ℕ) → n ≤ 84_005 → IsCivilDate (pos year) month day → days_from_civil (pos year) month day ≡ pos n → year ≤ 2200 → year ≤ 2199
year_up_to year month day n small civil numbered high =
    elim (cases_lt year 2200) [
      | inl lt ↦ omega arith
      | inr ge ↦ let e : year ≡ 2200 = omega arith in
          let there = rw e at numbered in
          absurd (omega (arith, signed_arith, first_of_2200, day_count-day_of_year (pos 2200) month day civil.2.0, civil.2.0, there, days_from_civil-day_count (pos 2200) month day))
    ]

-- a date with the number n
as_date : (n : ℕ) (date : Civil) → IsDateOf n date → Date
as_date n date is = record { year = pos date.year; month = date.month; day = date.day; year_in = is.civil.0; month_in = is.civil.1; day_in = is.civil.2 }

-- it is the only one
pub civil_of-date : (n : ℕ) (date : Date) → n ≤ 84_036 → epoch_day date ≡ pos n → (date.year ≡ pos (civil_of n).year) × (date.month ≡ (civil_of n).month) × (date.day ≡ (civil_of n).day)
unfolding as_date
civil_of-date n date small e =
    let is = civil_of-is n small in
    epoch_day_injective date (as_date n (civil_of n) is) (e ∙ sym is.numbered)

-- a date from 1970 on has no number before 0
pub not_before : (year : ℤ) (month day : ℕ) → IsCivilDate year month day → pos 1970 ≤ℤ year → pos 0 ≤ℤ days_from_civil year month day
not_before year month day civil low =
    let place = day_count-day_of_year year month day civil.2.0 in
    let after : day_count (pos 1970) 1 1 ≤ day_count year 1 1 = by_lt_z (pos 1970) year
    (λ later. omega (arith, day_count-later_year (pos 1970) year (omega (arith, signed_arith)) later))
    (λ same. let e : year ≡ pos 1970 = omega (arith, signed_arith) in rw e (omega arith)) in
    omega (arith, signed_arith, day_count-epoch, after, place, civil.2.0, days_from_civil-day_count year month day)

-- and one up to 2199 none after the last day
pub not_after : (year : ℤ) (month day : ℕ) → IsCivilDate year month day → year ≤ℤ pos 2199 → days_from_civil year month day ≤ℤ pos 84_005
not_after year month day civil high =
    let before = day_count-lt_year year month day (pos 2200) 1 1 civil (omega arith) (omega (arith, signed_arith)) in
    omega (arith, signed_arith, first_of_2200, before, days_from_civil-day_count year month day)

pub pos-unsigned_abs : (z : ℤ) → pos 0 ≤ℤ z → pos (unsigned_abs z) ≡ z
pos-unsigned_abs (pos n) low = refl
pos-unsigned_abs (negsuc n) low = absurd (omega (arith, signed_arith))

-- what a date that is seen by its parts has for its number
pub day_number-date : (date : Date) (y m d : ℕ) → IsYmd (pos y) (pos m) (pos d) date → pos 0 ≤ℤ epoch_day date → epoch_day date ≡ pos (day_number (record { year = y; month = m; day = d }))
day_number-date date y m d (year, month, day) low =
    let e : date.month ≡ m = omega (arith, signed_arith) in
    let f : date.day ≡ d = omega (arith, signed_arith) in
    let same : epoch_day date ≡ days_from_civil (pos y) m d = rw (year, e, f) refl in
    same ∙ sym (pos-unsigned_abs (days_from_civil (pos y) m d) (rw same at low))

-- the weekday of a day from the one that counts from Monday
pub weekday-monday : (n monday : ℕ) (z : ℤ) → z ≡ pos n → monday ≡ weekday_number z → (monday + 1) % 7 ≡ weekday n
weekday-monday n monday z e m = omega (arith, signed_arith, weekday_number-parts z)

-- a day up to the last one is of a year up to 2199
pub civil_of-year : (n : ℕ) → n ≤ 84_005 → (civil_of n).year ≤ 2199
civil_of-year n small =
    let is = civil_of-is n (omega arith) in
    year_up_to (civil_of n).year (civil_of n).month (civil_of n).day n small is.civil is.numbered is.high

all_six : (a b c d e f : Bool) → (a && b && c && d && e && f) ≡ true → (a ≡ true) × (b ≡ true) × (c ≡ true) × (d ≡ true) × (e ≡ true) × (f ≡ true)
all_six a b c d e f all = grind arith

-- a date that is read is one of the calendar
IsCivilDate-from_is_civil : (date : Civil) → is_civil date ≡ true → (1970 ≤ date.year) × (date.year ≤ 2199) × IsCivilDate (pos date.year) date.month date.day
IsCivilDate-from_is_civil date civil =
    let six = all_six (nat_le 1970 date.year) (nat_le date.year 2199) (nat_le 1 date.month) (nat_le date.month 12) (nat_le 1 date.day) (nat_le date.day (month_length date)) civil in
    let low = leb-true 1970 date.year six.0 in
    let high = leb-true date.year 2199 six.1 in
    (low, high, ((omega (arith, signed_arith), omega (arith, signed_arith)), (leb-true 1 date.month six.2, leb-true date.month 12 six.3), (leb-true 1 date.day six.4, leb-true date.day (month_length date) six.5)))

-- and it is the date of its number
pub civil_of-number : (date : Civil) (n : ℕ) → is_civil date ≡ true → day_number date ≡ n → civil_of n ≡ date
unfolding as_date
civil_of-number date n civil number =
    let is = IsCivilDate-from_is_civil date civil in
    let z = days_from_civil (pos date.year) date.month date.day in
    let low = not_before (pos date.year) date.month date.day is.2 (omega (arith, signed_arith)) in
    let high = not_after (pos date.year) date.month date.day is.2 (omega (arith, signed_arith)) in
    let numbered : z ≡ pos n = rw number at (sym (pos-unsigned_abs z low)) in
    let small : n ≤ 84_036 = omega (arith, signed_arith, numbered, high) in
    let own : IsDateOf n date = record { civil = is.2; numbered = numbered; low = is.0; high = omega arith } in
    let same = civil_of-date n (as_date n date own) small numbered in
    let year : (civil_of n).year ≡ date.year = cc in
    λ i. record { year = year i; month = sym same.1 i; day = sym same.2 i }

-- its number is that of one of the days that there are
pub day_number-last : (date : Civil) (n : ℕ) → is_civil date ≡ true → day_number date ≡ n → n ≤ last_day
day_number-last date n civil number =
    let is = IsCivilDate-from_is_civil date civil in
    let z = days_from_civil (pos date.year) date.month date.day in
    let low = not_before (pos date.year) date.month date.day is.2 (omega (arith, signed_arith)) in
    let high = not_after (pos date.year) date.month date.day is.2 (omega (arith, signed_arith)) in
    let numbered : z ≡ pos n = rw number at (sym (pos-unsigned_abs z low)) in
    omega (arith, signed_arith, numbered, high)
