-- The plainest line of a row is read as this row.
use Rattle.std.proofs.Common.{◌≡◌, ℕ, ◌+◌, ◌*◌, ◌/◌, ◌%◌, ◌^◌, ◌<◌, ◌≤◌, ◌==◌, nat_le, nat_lt, Bool, true, false, not, ◌&&◌, if◌then◌else◌, ℤ, pos, negsuc, ◌≤ℤ◌, unsigned_abs, List, [], ◌∷◌, ◌++◌, length, take, drop, decimal, Option, Some, None, Ok, Err, option_map, refl, sym, ap, ◌∙◌, arith, append_assoc}
use Rattle.std.specs.List.{list_all, before_first, after_first}
use Rattle.std.proofs.Math.Seq.{take-append_seam, drop-append_seam}
use Rattle.std.proofs.lemmas.Bool.Decides.{nat_tests}
use Rattle.std.proofs.lemmas.Int.{ints}
use Rattle.lean_fixed.specs.Digits.{is_digit, digits, value_of}
use Rattle.lean_fixed.specs.Fields.{fields, begin_first, plain_number}
use Rattle.lean_fixed.specs.Calendar.{day_of_digits, last_day}
use Rattle.lean_fixed.specs.Moments.{minutes_per_day, midnight}
use Rattle.lean_fixed.specs.Ranges.{most_price, most_volume}
use Rattle.lean_fixed.specs.Printed.{two_digits, day_text}
use Rattle.lean_fixed.specs.declared.resolution.Resolution.{Resolution}
use Rattle.lean_items.specs.declared.reason.Reason.TheVariants.{Range}
use Rattle.equity_csv.specs.declared.row.Row.{Row}
use Rattle.equity_csv.specs.Rows.{kept_if, price_in, volume_in, is_ranged, row_of, row_of_values, row_of_fields, minute_start, minute_row, hour_in, has_hour, start_of, dated_start, dated_row}
use Rattle.equity_csv.specs.Written.{IsRow, start_of_row, day_of_row, minute_of_row, field_text, values_text, minute_line, hour_text, dated_line, is_text}
use Rattle.equity_csv.proofs.NumberLemmas.{before_first-cons, after_first-cons}
use Rattle.equity_csv.proofs.JoinLemmas.{no_comma}
use Rattle.equity_csv.proofs.DatedLemmas.{no_comma-digits, passed, three, list_all-append, day-plain, day-digits, dated-plain}

-- what the lower crate says of numbers
abbrev pub NumbersReadBack : Type 0
NumbersReadBack = (n : ℕ) → n ≤ 10 ^ 18 → digits (decimal n) ≡ Some n

abbrev is_point : ℕ → Bool
is_point b = b == 46

point_from_digit : (b : ℕ) → is_digit b ≡ true → is_point b ≡ false
point_from_digit b d = grind (arith, nat_tests)

before-digits : (ds : List ℕ) → list_all is_digit ds ≡ true → before_first is_point ds ≡ ds
before-digits [] h = refl
before-digits (b ∷ ds) h =
    let here : is_digit b ≡ true = grind (arith, nat_tests) in
    let there : list_all is_digit ds ≡ true = grind (arith, nat_tests) in
    before_first-cons is_point b ds ∙ rw (point_from_digit b here) (ap (λ x. b ∷ x) (before-digits ds there))

after-digits : (ds : List ℕ) → list_all is_digit ds ≡ true → after_first is_point ds ≡ []
after-digits [] h = refl
after-digits (b ∷ ds) h =
    let here : is_digit b ≡ true = grind (arith, nat_tests) in
    let there : list_all is_digit ds ≡ true = grind (arith, nat_tests) in
    after_first-cons is_point b ds ∙ rw (point_from_digit b here) (after-digits ds there)

digits-all : (ds : List ℕ) (n : ℕ) → digits ds ≡ Some n → list_all is_digit ds ≡ true
digits-all ds n e =
    let t = passed ((not (length ds == 0) && list_all is_digit ds) && nat_le (value_of ds) (10 ^ 18)) (Some (value_of ds)) n e in
    (three (not (length ds == 0)) (list_all is_digit ds) (nat_le (value_of ds) (10 ^ 18)) t).1

pub plain-digits : (ds : List ℕ) (n : ℕ) → digits ds ≡ Some n → plain_number ds ≡ Some n
plain-digits ds n e =
    let all = digits-all ds n e in
    ap (λ z. if list_all (λ b. b == 48) z then digits (before_first is_point ds) else None) (after-digits ds all)
    ∙ ap digits (before-digits ds all) ∙ e

-- a number that is written is plain, and has no comma
plain-decimal : NumbersReadBack → (n : ℕ) → n ≤ 10 ^ 18 → plain_number (decimal n) ≡ Some n
plain-decimal numbers n h = plain-digits (decimal n) n (numbers n h)

no_comma-decimal : NumbersReadBack → (n : ℕ) → n ≤ 10 ^ 18 → list_all no_comma (decimal n) ≡ true
no_comma-decimal numbers n h = no_comma-digits (decimal n) (digits-all (decimal n) n (numbers n h))

fields-append : (field text : List ℕ) → list_all no_comma field ≡ true → fields (field ++ 44 ∷ text) ≡ field ∷ fields text
fields-append [] text h = refl
fields-append (b ∷ field) text h =
    let here : (b == 44) ≡ false = grind (arith, nat_tests) in
    let there : list_all no_comma field ≡ true = grind (arith, nat_tests) in
    rw here (ap (begin_first b) (fields-append field text there))

pub fields-alone : (field : List ℕ) → list_all no_comma field ≡ true → fields field ≡ field ∷ []
fields-alone [] h = refl
fields-alone (b ∷ field) h =
    let here : (b == 44) ≡ false = grind (arith, nat_tests) in
    let there : list_all no_comma field ≡ true = grind (arith, nat_tests) in
    rw here (ap (begin_first b) (fields-alone field there))

six_fields : (t o h l c v : List ℕ) → list_all no_comma t ≡ true → list_all no_comma o ≡ true → list_all no_comma h ≡ true → list_all no_comma l ≡ true → list_all no_comma c ≡ true → list_all no_comma v ≡ true → fields (t ++ ((((44 ∷ o ++ 44 ∷ h) ++ 44 ∷ l) ++ 44 ∷ c) ++ 44 ∷ v)) ≡ t ∷ o ∷ h ∷ l ∷ c ∷ v ∷ []
six_fields t o h l c v p q r s u w =
    let joined : t ++ ((((44 ∷ o ++ 44 ∷ h) ++ 44 ∷ l) ++ 44 ∷ c) ++ 44 ∷ v) ≡ t ++ 44 ∷ (o ++ 44 ∷ (h ++ 44 ∷ (l ++ 44 ∷ (c ++ 44 ∷ v)))) = simp append_assoc in
    ap fields joined
    ∙ fields-append t (o ++ 44 ∷ (h ++ 44 ∷ (l ++ 44 ∷ (c ++ 44 ∷ v)))) p
    ∙ ap (λ x. t ∷ x) (fields-append o (h ++ 44 ∷ (l ++ 44 ∷ (c ++ 44 ∷ v))) q
    ∙ ap (λ x. o ∷ x) (fields-append h (l ++ 44 ∷ (c ++ 44 ∷ v)) r
    ∙ ap (λ x. h ∷ x) (fields-append l (c ++ 44 ∷ v) s
    ∙ ap (λ x. l ∷ x) (fields-append c v u
    ∙ ap (λ x. c ∷ x) (fields-alone v w)))))

price-decimal : NumbersReadBack → (n : ℕ) → 1 ≤ n → n ≤ most_price → price_in (decimal n) ≡ Some n
price-decimal numbers n low high =
    let a : nat_le 1 n ≡ true = grind (arith, nat_tests) in
    let b : nat_le n most_price ≡ true = grind (arith, nat_tests) in
    ap (kept_if (λ m. nat_le 1 m && nat_le m most_price)) (plain-decimal numbers n (omega arith)) ∙ rw (a, b)

volume-decimal : NumbersReadBack → (n : ℕ) → n ≤ most_volume → volume_in (decimal n) ≡ Some n
volume-decimal numbers n high =
    let b : nat_le n most_volume ≡ true = grind (arith, nat_tests) in
    ap (kept_if (λ m. nat_le m most_volume)) (plain-decimal numbers n (omega arith)) ∙ rw b

-- the values of a row that is valid, as natural numbers
pub record IsValued (o h l c v : ℕ) : Type 0 where
  pub o_low : 1 ≤ o
  pub o_high : o ≤ most_price
  pub h_low : 1 ≤ h
  pub h_high : h ≤ most_price
  pub l_low : 1 ≤ l
  pub l_high : l ≤ most_price
  pub c_low : 1 ≤ c
  pub c_high : c ≤ most_price
  pub v_high : v ≤ most_volume
  pub l_o : l ≤ o
  pub o_h : o ≤ h
  pub l_c : l ≤ c
  pub c_h : c ≤ h

ranged : (o h l c v : ℕ) → IsValued o h l c v → is_ranged o h l c ≡ true
ranged o h l c v i =
    let a : nat_le l o ≡ true = grind (arith, nat_tests, i.l_o) in
    let b : nat_le o h ≡ true = grind (arith, nat_tests, i.o_h) in
    let d : nat_le l c ≡ true = grind (arith, nat_tests, i.l_c) in
    let e : nat_le c h ≡ true = grind (arith, nat_tests, i.c_h) in
    rw (a, b, d, e)

pub values-read : NumbersReadBack → (time : List ℕ → Option ℕ) (t : List ℕ) (s o h l c v : ℕ) → list_all no_comma t ≡ true → time t ≡ Some s → IsValued o h l c v → row_of_fields time (fields (t ++ ((((44 ∷ decimal o ++ 44 ∷ decimal h) ++ 44 ∷ decimal l) ++ 44 ∷ decimal c) ++ 44 ∷ decimal v))) ≡ Ok (row_of s o h l c v)
values-read numbers time t s o h l c v plain e i =
    let d_o = decimal o in
    let d_h = decimal h in
    let d_l = decimal l in
    let d_c = decimal c in
    let d_v = decimal v in
    ap (row_of_fields time) (six_fields t d_o d_h d_l d_c d_v plain (no_comma-decimal numbers o (omega (arith, i.o_high))) (no_comma-decimal numbers h (omega (arith, i.h_high))) (no_comma-decimal numbers l (omega (arith, i.l_high))) (no_comma-decimal numbers c (omega (arith, i.c_high))) (no_comma-decimal numbers v (omega (arith, i.v_high))))
    ∙ ap (λ x. row_of_values x (price_in d_o) (price_in d_h) (price_in d_l) (price_in d_c) (volume_in d_v)) e
    ∙ ap (λ x. row_of_values (Some s) x (price_in d_h) (price_in d_l) (price_in d_c) (volume_in d_v)) (price-decimal numbers o i.o_low i.o_high)
    ∙ ap (λ x. row_of_values (Some s) (Some o) x (price_in d_l) (price_in d_c) (volume_in d_v)) (price-decimal numbers h i.h_low i.h_high)
    ∙ ap (λ x. row_of_values (Some s) (Some o) (Some h) x (price_in d_c) (volume_in d_v)) (price-decimal numbers l i.l_low i.l_high)
    ∙ ap (λ x. row_of_values (Some s) (Some o) (Some h) (Some l) x (volume_in d_v)) (price-decimal numbers c i.c_low i.c_high)
    ∙ ap (λ x. row_of_values (Some s) (Some o) (Some h) (Some l) (Some c) x) (volume-decimal numbers v i.v_high)
    ∙ ap (λ x. if x then Ok (row_of s o h l c v) else Err Range) (ranged o h l c v i)

-- the two forms of a time
pub minute-read : NumbersReadBack → (day m : ℕ) → m < 1440 → minute_start day (decimal (m * 60000)) ≡ Some (midnight day + m)
minute-read numbers day m h =
    let below : nat_lt (m * 60000) (minutes_per_day * 60000) ≡ true = grind (arith, nat_tests) in
    let rest : m * 60000 % 60000 ≡ 0 = omega arith in
    let whole : (m * 60000 % 60000 == 0) ≡ true = grind (arith, nat_tests) in
    let back : m * 60000 / 60000 ≡ m = omega arith in
    ap (λ x. option_map (λ minute. midnight day + minute) (option_map (λ ms. ms / 60000) (kept_if (λ ms. nat_lt ms (minutes_per_day * 60000) && (ms % 60000 == 0)) x))) (plain-decimal numbers (m * 60000) (omega arith))
    ∙ rw (below, whole) (ap (λ x. Some (midnight day + x)) back)

tens_digit : (h : ℕ) → is_digit (48 + h / 10 % 10) ≡ true
tens_digit h = grind (arith, nat_tests)

ones_digit : (h : ℕ) → is_digit (48 + h % 10) ≡ true
ones_digit h = grind (arith, nat_tests)

hour-value : (h : ℕ) → h < 24 → value_of (two_digits h) ≡ h
hour-value h small = omega arith

hour-read : (h : ℕ) → h < 24 → hour_in (hour_text h) ≡ Some h
hour-read h small =
    let below : nat_le h 23 ≡ true = grind (arith, nat_tests) in
    rw (tens_digit h, ones_digit h) (ap (λ x. kept_if (λ hour. nat_le hour 23) (Some x)) (hour-value h small) ∙ rw below)

pub dated-read : (resolution : Resolution) (text : List ℕ) (day hour : ℕ) → length text ≡ 8 → day_of_digits text ≡ Some day → hour < 24 → has_hour resolution hour ≡ true → dated_start resolution (text ++ hour_text hour) ≡ Some (midnight day + hour * 60)
dated-read r text day hour eight d small here =
    let front : take 8 (text ++ hour_text hour) ≡ text = ap (λ n. take n (text ++ hour_text hour)) (sym eight) ∙ take-append_seam text (hour_text hour) in
    let back : drop 8 (text ++ hour_text hour) ≡ hour_text hour = ap (λ n. drop n (text ++ hour_text hour)) (sym eight) ∙ drop-append_seam text (hour_text hour) in
    ap (λ x. start_of (day_of_digits x) (kept_if (has_hour r) (hour_in (drop 8 (text ++ hour_text hour))))) front
    ∙ ap (λ x. start_of x (kept_if (has_hour r) (hour_in (drop 8 (text ++ hour_text hour))))) d
    ∙ ap (λ x. start_of (Some day) (kept_if (has_hour r) (hour_in x))) back
    ∙ ap (λ x. start_of (Some day) (kept_if (has_hour r) x)) (hour-read hour small)
    ∙ rw here

-- a valid row is that of its natural numbers
natural : (z : ℤ) → pos 0 ≤ℤ z → z ≡ pos (unsigned_abs z)
natural (pos n) h = refl
natural (negsuc n) h = absurd (omega (arith, ints))

abbrev made : ℤ → ℤ → ℤ → ℤ → ℤ → ℤ → Row
made s o h l c v = record {
  start = record { 0 = s };
  opening = record { 0 = o };
  high = record { 0 = h };
  low = record { 0 = l };
  closing = record { 0 = c };
  volume = record { 0 = v };
}

pub row-natural : (row : Row) → IsRow row → row ≡ row_of (start_of_row row) (unsigned_abs row.opening.0) (unsigned_abs row.high.0) (unsigned_abs row.low.0) (unsigned_abs row.closing.0) (unsigned_abs row.volume.0)
row-natural row i =
    let s = natural row.start.0 i.start.0 in
    let o = natural row.opening.0 (omega (arith, ints, i.opening.0)) in
    let h = natural row.high.0 (omega (arith, ints, i.high.0)) in
    let l = natural row.low.0 (omega (arith, ints, i.low.0)) in
    let c = natural row.closing.0 (omega (arith, ints, i.closing.0)) in
    let v = natural row.volume.0 i.volume.0 in
    ap (λ x. made x row.opening.0 row.high.0 row.low.0 row.closing.0 row.volume.0) s
    ∙ ap (λ x. made (pos (unsigned_abs row.start.0)) x row.high.0 row.low.0 row.closing.0 row.volume.0) o
    ∙ ap (λ x. made (pos (unsigned_abs row.start.0)) (pos (unsigned_abs row.opening.0)) x row.low.0 row.closing.0 row.volume.0) h
    ∙ ap (λ x. made (pos (unsigned_abs row.start.0)) (pos (unsigned_abs row.opening.0)) (pos (unsigned_abs row.high.0)) x row.closing.0 row.volume.0) l
    ∙ ap (λ x. made (pos (unsigned_abs row.start.0)) (pos (unsigned_abs row.opening.0)) (pos (unsigned_abs row.high.0)) (pos (unsigned_abs row.low.0)) x row.volume.0) c
    ∙ ap (λ x. made (pos (unsigned_abs row.start.0)) (pos (unsigned_abs row.opening.0)) (pos (unsigned_abs row.high.0)) (pos (unsigned_abs row.low.0)) (pos (unsigned_abs row.closing.0)) x) v

pub row-valued : (row : Row) → IsRow row → IsValued (unsigned_abs row.opening.0) (unsigned_abs row.high.0) (unsigned_abs row.low.0) (unsigned_abs row.closing.0) (unsigned_abs row.volume.0)
row-valued row i = record {
  o_low = omega (arith, ints, i.opening.0);
  o_high = omega (arith, ints, i.opening.0, i.opening.1);
  h_low = omega (arith, ints, i.high.0);
  h_high = omega (arith, ints, i.high.0, i.high.1);
  l_low = omega (arith, ints, i.low.0);
  l_high = omega (arith, ints, i.low.0, i.low.1);
  c_low = omega (arith, ints, i.closing.0);
  c_high = omega (arith, ints, i.closing.0, i.closing.1);
  v_high = omega (arith, ints, i.volume.0, i.volume.1);
  l_o = omega (arith, ints, i.low.0, i.opening.0, i.low_opening);
  o_h = omega (arith, ints, i.opening.0, i.high.0, i.opening_high);
  l_c = omega (arith, ints, i.low.0, i.closing.0, i.low_closing);
  c_h = omega (arith, ints, i.closing.0, i.high.0, i.closing_high);
}

-- a time and the values of a row make a line that is read as this row
timed-read : NumbersReadBack → (row : Row) → IsRow row → (time : List ℕ → Option ℕ) (t : List ℕ) (s : ℕ) → list_all no_comma t ≡ true → time t ≡ Some s → s ≡ start_of_row row → row_of_fields time (fields (t ++ values_text row)) ≡ Ok row
timed-read numbers row i time t s plain e same =
    let o = unsigned_abs row.opening.0 in
    let h = unsigned_abs row.high.0 in
    let l = unsigned_abs row.low.0 in
    let c = unsigned_abs row.closing.0 in
    let v = unsigned_abs row.volume.0 in
    values-read numbers time t s o h l c v plain e (row-valued row i)
    ∙ ap (λ x. Ok (row_of x o h l c v)) same
    ∙ ap (λ r. Ok r) (sym (row-natural row i))

pub minute_row-line : NumbersReadBack → (row : Row) → IsRow row → minute_row (day_of_row row) (minute_line row) ≡ Ok row
unfolding minute_row
minute_row-line numbers row i =
    let day = day_of_row row in
    let m = minute_of_row row in
    timed-read numbers row i (minute_start day) (decimal (m * 60000)) (midnight day + m) (no_comma-decimal numbers (m * 60000) (omega arith)) (minute-read numbers day m (omega arith)) (omega arith)

abbrev pub DaysReadBack : Type 0
DaysReadBack = (day : ℕ) → day ≤ last_day → day_of_digits (day_text day) ≡ Some day

row-day : (row : Row) → IsRow row → day_of_row row ≤ last_day
row-day row i = let s = natural row.start.0 i.start.0 in omega (arith, ints, i.start.1)

pub dated_row-line : NumbersReadBack → DaysReadBack → (row : Row) → IsRow row → minute_of_row row % 60 ≡ 0 → (resolution : Resolution) → has_hour resolution (minute_of_row row / 60) ≡ true → dated_row resolution (dated_line row) ≡ Ok row
unfolding dated_row
dated_row-line numbers days row i whole r here =
    let day = day_of_row row in
    let hour = minute_of_row row / 60 in
    let d = days day (row-day row i) in
    let e = dated-read r (day_text day) day hour (day-plain (day_text day) day d).long d (omega arith) here in
    timed-read numbers row i (dated_start r) (day_text day ++ hour_text hour) (midnight day + hour * 60) (dated-plain r (day_text day ++ hour_text hour) (midnight day + hour * 60) e).plain e (omega arith)

-- and has no control character
abbrev is_mark : ℕ → Bool
is_mark b = nat_le 32 b

text-digits : (ds : List ℕ) → list_all is_digit ds ≡ true → is_text ds ≡ true
text-digits [] h = refl
text-digits (b ∷ ds) h =
    let here : is_digit b ≡ true = grind (arith, nat_tests) in
    let there : list_all is_digit ds ≡ true = grind (arith, nat_tests) in
    let first : is_mark b ≡ true = grind (arith, nat_tests) in
    rw first (text-digits ds there)

text-decimal : NumbersReadBack → (n : ℕ) → n ≤ 10 ^ 18 → is_text (decimal n) ≡ true
text-decimal numbers n h = text-digits (decimal n) (digits-all (decimal n) n (numbers n h))

text-values : NumbersReadBack → (row : Row) → IsRow row → is_text (values_text row) ≡ true
text-values numbers row i =
    let w = row-valued row i in
    let o = text-decimal numbers (unsigned_abs row.opening.0) (omega (arith, w.o_high)) in
    let h = text-decimal numbers (unsigned_abs row.high.0) (omega (arith, w.h_high)) in
    let l = text-decimal numbers (unsigned_abs row.low.0) (omega (arith, w.l_high)) in
    let c = text-decimal numbers (unsigned_abs row.closing.0) (omega (arith, w.c_high)) in
    let v = text-decimal numbers (unsigned_abs row.volume.0) (omega (arith, w.v_high)) in
    list_all-append is_mark (((field_text row.opening.0 ++ field_text row.high.0) ++ field_text row.low.0) ++ field_text row.closing.0) (field_text row.volume.0)
    (list_all-append is_mark ((field_text row.opening.0 ++ field_text row.high.0) ++ field_text row.low.0) (field_text row.closing.0)
    (list_all-append is_mark (field_text row.opening.0 ++ field_text row.high.0) (field_text row.low.0)
    (list_all-append is_mark (field_text row.opening.0) (field_text row.high.0) o h) l) c) v

pub text-minute_line : NumbersReadBack → (row : Row) → IsRow row → is_text (minute_line row) ≡ true
text-minute_line numbers row i =
    list_all-append is_mark (decimal (minute_of_row row * 60000)) (values_text row) (text-decimal numbers (minute_of_row row * 60000) (omega arith)) (text-values numbers row i)

text-hour : (h : ℕ) → is_text (hour_text h) ≡ true
text-hour h =
    let a : is_mark (48 + h / 10 % 10) ≡ true = grind (arith, nat_tests) in
    let b : is_mark (48 + h % 10) ≡ true = grind (arith, nat_tests) in
    rw (a, b)

pub text-dated_line : NumbersReadBack → DaysReadBack → (row : Row) → IsRow row → is_text (dated_line row) ≡ true
text-dated_line numbers days row i =
    let day = day_of_row row in
    let d = days day (row-day row i) in
    let hour = minute_of_row row / 60 in
    list_all-append is_mark (day_text day ++ hour_text hour) (values_text row)
    (list_all-append is_mark (day_text day) (hour_text hour) (text-digits (day_text day) (day-digits (day_text day) day d)) (text-hour hour))
    (text-values numbers row i)
