-- What stands in the fields of a line that says a row, and so where the row's numbers lie.
use Rattle.std.proofs.Common.{◌≡◌, ℕ, ◌+◌, ◌*◌, ◌/◌, ◌%◌, ◌≤◌, ◌<◌, ◌==◌, nat_le, nat_lt, Bool, true, false, ◌&&◌, if◌then◌else◌, pos, List, [], ◌∷◌, Option, Some, None, Ok, Err, option_map, unsigned_abs, refl, sym, ap, ◌∙◌, subst, take, drop, arith}
use Rattle.std.proofs.lemmas.Bool.Decides.{nat_tests}
use Rattle.std.proofs.lemmas.Int.{ints}
use Rattle.lean_fixed.specs.Digits.{is_digit, value_of}
use Rattle.lean_fixed.specs.Calendar.{last_day, day_of_digits}
use Rattle.lean_fixed.specs.Moments.{minutes_per_day, midnight}
use Rattle.lean_fixed.specs.Fields.{plain_number}
use Rattle.lean_fixed.specs.Ranges.{most_price, most_volume, IsDatedMoment}
use Rattle.lean_fixed.specs.declared.resolution.Resolution.{Resolution}
use Rattle.lean_fixed.specs.declared.resolution.Resolution.TheVariants.{Daily}
use Rattle.lean_items.specs.declared.reason.Reason.TheVariants.{Range}
use Rattle.equity_csv.specs.declared.row.Row.{Row}
use Rattle.equity_csv.specs.Rows.{kept_if, price_in, volume_in, is_ranged, row_of, row_of_values, row_of_fields, minute_start, hour_in, has_hour, start_of, dated_start}
use Rattle.equity_csv.specs.Written.{IsRow, start_of_row, day_of_row, minute_of_row}
use Rattle.equity_csv.proofs.DatedLemmas.{no_day}

pub kept : (p : ℕ → Bool) (o : Option ℕ) (n : ℕ) → kept_if p o ≡ Some n → p n ≡ true
kept p None n e = cc
kept p (Some m) n e =
    elim (p m) as (λ v. p m ≡ v → (if v then Some m else None) ≡ Some n → p n ≡ true) [
      | true ↦ λ t h. let same : m ≡ n = cc in subst (λ (x : ℕ). p x ≡ true) same t
      | false ↦ λ t h. cc
    ] refl e

price-range : (o : Option ℕ) (n : ℕ) → kept_if (λ n. nat_le 1 n && nat_le n most_price) o ≡ Some n → (1 ≤ n) × (n ≤ most_price)
price-range o n e =
    let t : (nat_le 1 n && nat_le n most_price) ≡ true = kept (λ n. nat_le 1 n && nat_le n most_price) o n e in
    (grind (arith, nat_tests), grind (arith, nat_tests))

volume-range : (o : Option ℕ) (n : ℕ) → kept_if (λ n. nat_le n most_volume) o ≡ Some n → n ≤ most_volume
volume-range o n e =
    let t : nat_le n most_volume ≡ true = kept (λ n. nat_le n most_volume) o n e in
    grind (arith, nat_tests)

-- the six values of a row, each of its field
pub record Values (t o h l c v : Option ℕ) (row : Row) : Type 0 where
  pub start : ℕ
  pub opening : ℕ
  pub high : ℕ
  pub low : ℕ
  pub closing : ℕ
  pub volume : ℕ
  pub start_is : t ≡ Some start
  pub opening_is : o ≡ Some opening
  pub high_is : h ≡ Some high
  pub low_is : l ≡ Some low
  pub closing_is : c ≡ Some closing
  pub volume_is : v ≡ Some volume
  pub ranged : is_ranged opening high low closing ≡ true
  pub is : row_of start opening high low closing volume ≡ row

values : (t o h l c v : Option ℕ) (row : Row) → row_of_values t o h l c v ≡ Ok row → Values t o h l c v row
values None o h l c v row e = cc
values (Some t) None h l c v row e = cc
values (Some t) (Some o) None l c v row e = cc
values (Some t) (Some o) (Some h) None c v row e = cc
values (Some t) (Some o) (Some h) (Some l) None v row e = cc
values (Some t) (Some o) (Some h) (Some l) (Some c) None row e = cc
values (Some t) (Some o) (Some h) (Some l) (Some c) (Some v) row e =
    elim (is_ranged o h l c) as (λ x. is_ranged o h l c ≡ x → (if x then Ok (row_of t o h l c v) else Err Range) ≡ Ok row → Values (Some t) (Some o) (Some h) (Some l) (Some c) (Some v) row) [
      | true ↦ λ r k. record {
        start = t;
        opening = o;
        high = h;
        low = l;
        closing = c;
        volume = v;
        start_is = refl;
        opening_is = refl;
        high_is = refl;
        low_is = refl;
        closing_is = refl;
        volume_is = refl;
        ranged = r;
        is = cc;
      }
      | false ↦ λ r k. cc
    ] refl e

-- a row whose start the time says, with its values in range
pub record Said (time : List ℕ → Option ℕ) (row : Row) : Type 0 where
  pub at : List ℕ
  pub start : ℕ
  pub timed : time at ≡ Some start
  pub starts : pos start ≡ row.start.0
  pub valid : IsDatedMoment row.start.0 → IsRow row

said_values : (time : List ℕ → Option ℕ) (at o h l c v : List ℕ) (row : Row) → Values (time at) (price_in o) (price_in h) (price_in l) (price_in c) (volume_in v) row → Said time row
said_values time at o h l c v row w =
    let p_o = price-range (plain_number o) w.opening w.opening_is in
    let p_h = price-range (plain_number h) w.high w.high_is in
    let p_l = price-range (plain_number l) w.low w.low_is in
    let p_c = price-range (plain_number c) w.closing w.closing_is in
    let p_v = volume-range (plain_number v) w.volume w.volume_is in
    let l_o : w.low ≤ w.opening = grind (arith, nat_tests, w.ranged) in
    let o_h : w.opening ≤ w.high = grind (arith, nat_tests, w.ranged) in
    let l_c : w.low ≤ w.closing = grind (arith, nat_tests, w.ranged) in
    let c_h : w.closing ≤ w.high = grind (arith, nat_tests, w.ranged) in
    let made : Said time (row_of w.start w.opening w.high w.low w.closing w.volume) = record {
      at = at;
      start = w.start;
      timed = w.start_is;
      starts = refl;
      valid = λ dated. record {
        start = dated;
        opening = (omega (arith, ints, p_o.0), omega (arith, ints, p_o.1));
        high = (omega (arith, ints, p_h.0), omega (arith, ints, p_h.1));
        low = (omega (arith, ints, p_l.0), omega (arith, ints, p_l.1));
        closing = (omega (arith, ints, p_c.0), omega (arith, ints, p_c.1));
        low_opening = omega (arith, ints, l_o);
        opening_high = omega (arith, ints, o_h);
        low_closing = omega (arith, ints, l_c);
        closing_high = omega (arith, ints, c_h);
        volume = (omega (arith, ints), omega (arith, ints, p_v));
      };
    } in
    subst (λ (r : Row). Said time r) w.is made

pub said : (time : List ℕ → Option ℕ) (all : List (List ℕ)) (row : Row) → row_of_fields time all ≡ Ok row → Said time row
said time [] row e = cc
said time (t ∷ []) row e = cc
said time (t ∷ o ∷ []) row e = cc
said time (t ∷ o ∷ h ∷ []) row e = cc
said time (t ∷ o ∷ h ∷ l ∷ []) row e = cc
said time (t ∷ o ∷ h ∷ l ∷ c ∷ []) row e = cc
said time (t ∷ o ∷ h ∷ l ∷ c ∷ v ∷ more) row e =
    said_values time t o h l c v row (values (time t) (price_in o) (price_in h) (price_in l) (price_in c) (volume_in v) row e)

pub row-valid : (time : List ℕ → Option ℕ) (row : Row) (s : Said time row) → s.start < midnight (last_day + 1) → IsRow row
row-valid time row s below = s.valid (omega (arith, ints, s.starts), omega (arith, ints, s.starts, below))

-- a minute row starts within its day
minute-some : (day : ℕ) (found : Option ℕ) (s : ℕ) → option_map (λ minute. midnight day + minute) (option_map (λ ms. ms / 60000) (kept_if (λ ms. nat_lt ms (minutes_per_day * 60000) && (ms % 60000 == 0)) found)) ≡ Some s → s / 1440 ≡ day
minute-some day None s e = cc
minute-some day (Some ms) s e =
    elim (nat_lt ms (minutes_per_day * 60000) && (ms % 60000 == 0)) as (λ v. (nat_lt ms (minutes_per_day * 60000) && (ms % 60000 == 0)) ≡ v → option_map (λ minute. midnight day + minute) (option_map (λ ms. ms / 60000) (if v then Some ms else None)) ≡ Some s → s / 1440 ≡ day) [
      | true ↦ λ t h.
          let below : ms < 86400000 = grind (arith, nat_tests) in
          let same : midnight day + ms / 60000 ≡ s = cc in
          omega arith
      | false ↦ λ t h. cc
    ] refl e

pub minute-day : (day : ℕ) (at : List ℕ) (s : ℕ) → minute_start day at ≡ Some s → s / 1440 ≡ day
minute-day day at s e = minute-some day (plain_number at) s e

-- a dated row starts at a whole hour of a day, a daily one at its first
pub record AtHour (resolution : Resolution) (s : ℕ) : Type 0 where
  pub below : s < midnight (last_day + 1)
  pub whole : s % 1440 % 60 ≡ 0
  pub hour : has_hour resolution (s % 1440 / 60) ≡ true

hour_small : (text : List ℕ) (h : ℕ) → hour_in text ≡ Some h → h ≤ 23
hour_small (a ∷ b ∷ c ∷ d ∷ e ∷ f ∷ []) h k =
    let t = hour-some ((a == 32) && is_digit b && is_digit c && (d == 58) && (e == 48) && (f == 48)) (kept_if (λ hour. nat_le hour 23) (Some (value_of (b ∷ c ∷ [])))) h k in
    let below : nat_le h 23 ≡ true = kept (λ hour. nat_le hour 23) (Some (value_of (b ∷ c ∷ []))) h t in
    grind (arith, nat_tests)
  where
    hour-some : (t : Bool) (x : Option ℕ) (h : ℕ) → (if t then x else None) ≡ Some h → x ≡ Some h
    hour-some true x h k = k
    hour-some false x h k = cc
hour_small [] h k = cc
hour_small (a ∷ []) h k = cc
hour_small (a ∷ b ∷ []) h k = cc
hour_small (a ∷ b ∷ c ∷ []) h k = cc
hour_small (a ∷ b ∷ c ∷ d ∷ []) h k = cc
hour_small (a ∷ b ∷ c ∷ d ∷ e ∷ []) h k = cc
hour_small (a ∷ b ∷ c ∷ d ∷ e ∷ f ∷ g ∷ more) h k = cc

at_hour : (resolution : Resolution) (d h : ℕ) → d ≤ last_day → h ≤ 23 → has_hour resolution h ≡ true → AtHour resolution (midnight d + h * 60)
at_hour r d h day small here =
    let within : (midnight d + h * 60) % 1440 ≡ h * 60 = omega arith in
    let same : (midnight d + h * 60) % 1440 / 60 ≡ h = omega arith in
    record {
      below = omega arith;
      whole = omega arith;
      hour = subst (λ (x : ℕ). has_hour r x ≡ true) (sym same) here;
    }

at_hour-parts : (resolution : Resolution) (day hour : Option ℕ) (s : ℕ) → ((d : ℕ) → day ≡ Some d → d ≤ last_day) → ((h : ℕ) → hour ≡ Some h → h ≤ 23) → start_of day (kept_if (has_hour resolution) hour) ≡ Some s → AtHour resolution s
at_hour-parts r None None s p q e = cc
at_hour-parts r None (Some h) s p q e = cc (no_day (kept_if (has_hour r) (Some h)))
at_hour-parts r (Some d) None s p q e = cc
at_hour-parts r (Some d) (Some h) s p q e =
    elim (has_hour r h) as (λ v. has_hour r h ≡ v → start_of (Some d) (if v then Some h else None) ≡ Some s → AtHour r s) [
      | true ↦ λ t k. let same : midnight d + h * 60 ≡ s = cc in subst (λ (x : ℕ). AtHour r x) same (at_hour r d h (p d refl) (q h refl) t)
      | false ↦ λ t k. cc
    ] refl e

pub dated-at_hour : ((text : List ℕ) (d : ℕ) → day_of_digits text ≡ Some d → d ≤ last_day) → (resolution : Resolution) (at : List ℕ) (s : ℕ) → dated_start resolution at ≡ Some s → AtHour resolution s
dated-at_hour days r at s e =
    at_hour-parts r (day_of_digits (take 8 at)) (hour_in (drop 8 at)) s (days (take 8 at)) (hour_small (drop 8 at)) e

starts-same : (row : Row) (s : ℕ) → pos s ≡ row.start.0 → start_of_row row ≡ s
starts-same row s e = sym (ap unsigned_abs e)

pub minute-of_day : (day : ℕ) (all : List (List ℕ)) (row : Row) → row_of_fields (minute_start day) all ≡ Ok row → day_of_row row ≡ day
minute-of_day day all row e =
    let s = said (minute_start day) all row e in
    ap (λ x. x / 1440) (starts-same row s.start s.starts) ∙ minute-day day s.at s.start s.timed

pub minute-valid : (day : ℕ) (all : List (List ℕ)) (row : Row) → day ≤ last_day → row_of_fields (minute_start day) all ≡ Ok row → IsRow row
minute-valid day all row low e =
    let s = said (minute_start day) all row e in
    let d = minute-day day s.at s.start s.timed in
    row-valid (minute_start day) row s (omega (arith, d, low))

abbrev pub DaysInRange : Type 0
DaysInRange = (text : List ℕ) (d : ℕ) → day_of_digits text ≡ Some d → d ≤ last_day

pub dated-valid : DaysInRange → (resolution : Resolution) (all : List (List ℕ)) (row : Row) → row_of_fields (dated_start resolution) all ≡ Ok row → IsRow row
dated-valid days r all row e =
    let s = said (dated_start r) all row e in
    row-valid (dated_start r) row s (dated-at_hour days r s.at s.start s.timed).below

pub dated-whole : DaysInRange → (resolution : Resolution) (all : List (List ℕ)) (row : Row) → row_of_fields (dated_start resolution) all ≡ Ok row → minute_of_row row % 60 ≡ 0
dated-whole days r all row e =
    let s = said (dated_start r) all row e in
    ap (λ x. x % 1440 % 60) (starts-same row s.start s.starts) ∙ (dated-at_hour days r s.at s.start s.timed).whole

pub daily-midnight : DaysInRange → (all : List (List ℕ)) (row : Row) → row_of_fields (dated_start Daily) all ≡ Ok row → minute_of_row row ≡ 0
daily-midnight days all row e =
    let s = said (dated_start Daily) all row e in
    let at = dated-at_hour days Daily s.at s.start s.timed in
    let zero : s.start % 1440 / 60 ≡ 0 = grind (arith, nat_tests, at.hour) in
    ap (λ x. x % 1440) (starts-same row s.start s.starts) ∙ omega (arith, zero, at.whole)
