-- The text of a moment is read as that moment, and a text that is read as a moment is its text.
use Rattle.std.proofs.Common.{◌≡◌, ℕ, ◌+◌, ◌*◌, ◌/◌, ◌%◌, ◌<◌, ◌≤◌, Bool, true, false, ◌&&◌, ◌==◌, nat_le, nat_lt, cond, List, [], ◌∷◌, ◌++◌, take, drop, Option, Some, None, codes, arith, refl, ◌⊎◌, inl, inr, ap, sym, ◌∙◌}
use Rattle.std.specs.Str.{bytes_eq}
use Rattle.std.specs.List.{list_all}
use Rattle.std.proofs.lemmas.List.{take-append-drop}
use Rattle.std.proofs.lemmas.Bool.{cases_lt, cases_Bool, le-leb, leb-true, ltb-true, and_parts, and_from, eqb-true}
use Rattle.std.proofs.lemmas.Bool.Decides.{nat_tests}
use Rattle.std.proofs.lemmas.Slice.Eq.{bytes_eq-Decides}
use Rattle.lean_fixed.specs.Digits.{is_digit, value_of}
use Rattle.lean_fixed.specs.Calendar.{last_day, day_of_digits, civil_of, carried_through}
use Rattle.lean_fixed.specs.Moments.{midnight, day_of, minute_of_day}
use Rattle.lean_fixed.specs.Printed.{two_digits, day_text, moment_text}
use Rattle.lean_fixed.specs.Ranges.{last_printed_moment}
use Rattle.lean_fixed.specs.ReadBack.{date_of_text, clock_of_text, moment_at, moment_of_text}
use Rattle.lean_fixed.proofs.RoundTrips.{two-back, day_of_digits-day_text, day_text-day_of_digits, is_digit-last}

-- what stands behind the day of a moment
abbrev pub clock_text : ℕ → List ℕ
clock_text minute = 32 ∷ two_digits (minute / 60) ++ 58 ∷ two_digits (minute % 60)

take-moment_text : (moment : ℕ) → take 8 (moment_text moment) ≡ day_text (day_of moment)
unfolding moment_text day_text
take-moment_text moment = refl

drop-moment_text : (moment : ℕ) → drop 8 (moment_text moment) ≡ clock_text (minute_of_day moment)
unfolding moment_text day_text
drop-moment_text moment = refl

-- the two days behind the last
next_day : day_text 84006 ≡ codes "22000101"
unfolding day_text civil_of carried_through
next_day = refl

day_after_next : day_text 84007 ≡ codes "22000102"
unfolding day_text civil_of carried_through
day_after_next = refl

clock-digits : (a b c d hour minute : ℕ) → list_all is_digit (a ∷ b ∷ c ∷ d ∷ []) ≡ true → value_of (a ∷ b ∷ []) ≡ hour → value_of (c ∷ d ∷ []) ≡ minute → hour < 24 → minute < 60 → clock_of_text (32 ∷ a ∷ b ∷ 58 ∷ c ∷ d ∷ []) ≡ Some (hour * 60 + minute)
clock-digits a b c d hour minute all h m early_h early_m =
    let in_day : nat_lt hour 24 ≡ true = grind (arith, nat_tests) in
    let in_hour : nat_lt minute 60 ≡ true = grind (arith, nat_tests) in
    rw (all, h, m, in_day, in_hour) refl

clock_of_text-clock_text : (minute : ℕ) → minute < 1440 → clock_of_text (clock_text minute) ≡ Some minute
clock_of_text-clock_text minute small =
    let h = minute / 60 in
    let m = minute % 60 in
    let hour : value_of (two_digits h) ≡ h = omega arith in
    let rest : value_of (two_digits m) ≡ m = omega arith in
    let all : list_all is_digit (two_digits h ++ two_digits m) ≡ true = simp is_digit-last in
    let whole : h * 60 + m ≡ minute = omega arith in
    clock-digits _ _ _ _ h m all hour rest (omega arith) (omega arith) ∙ ap Some whole

some_is_no_none : (n : ℕ) → ◌≡◌ {A = Option ℕ} (Some n) None → ⊥
some_is_no_none n e = cc

no_day : (text : List ℕ) (day : ℕ) → day ≤ last_day → day_of_digits text ≡ None → bytes_eq (day_text day) text ≡ false
no_day text day small none =
    elim (cases_Bool (bytes_eq (day_text day) text)) [
      | inl same ↦ let e = sym (day_of_digits-day_text day small) ∙ (ap day_of_digits ((bytes_eq-Decides (day_text day) text).0 same) ∙ none) in absurd (some_is_no_none day e)
      | inr differs ↦ differs
    ]

neither : (a b : Bool) (x y z want : Option ℕ) → a ≡ false → b ≡ false → z ≡ want → cond a x (cond b y z) ≡ want
neither a b x y z want no_a no_b e = rw (no_a, no_b) e

date_of_text-day_text : (day : ℕ) → day ≤ 84007 → date_of_text (day_text day) ≡ Some day
date_of_text-day_text day small =
    elim (cases_lt last_day day) [
      | inr there ↦ neither _ _ _ _ _ _ (no_day (codes "22000101") day there refl) (no_day (codes "22000102") day there refl) (day_of_digits-day_text day there)
      | inl past ↦ elim (cases_lt 84006 day) [
        | inr first ↦ let is : day ≡ 84006 = omega arith in rw (is, next_day) refl
        | inl later ↦ let is : day ≡ 84007 = omega arith in rw (is, day_after_next) refl
      ]
    ]

moment_at-sum : (day minute moment : ℕ) → midnight day + minute ≡ moment → moment ≤ last_printed_moment → moment_at (Some day) (Some minute) ≡ Some moment
moment_at-sum day minute moment sum small = rw (sum, le-leb moment last_printed_moment small) refl

pub moment_of_text-moment_text : (moment : ℕ) → moment ≤ last_printed_moment → moment_of_text (moment_text moment) ≡ Some moment
unfolding moment_of_text
moment_of_text-moment_text moment small =
    let date = date_of_text-day_text (day_of moment) (omega arith) in
    let clock = clock_of_text-clock_text (minute_of_day moment) (omega arith) in
    rw (take-moment_text moment, drop-moment_text moment, date, clock) (moment_at-sum _ _ moment (omega arith) small)

clocked : (first third all early late : Bool) (value n : ℕ) → cond (first && third && all && early && late) (Some value) None ≡ Some n → (first ≡ true) × (third ≡ true) × (all ≡ true) × (early ≡ true) × (late ≡ true) × (value ≡ n)
clocked first third all early late value n e = grind arith

six-told : (space a b colon c d minute : ℕ) → clock_of_text (space ∷ a ∷ b ∷ colon ∷ c ∷ d ∷ []) ≡ Some minute → (space ∷ a ∷ b ∷ colon ∷ c ∷ d ∷ [] ≡ clock_text minute) × (minute < 1440)
six-told space a b colon c d minute e =
    let hour = value_of (a ∷ b ∷ []) in
    let rest = value_of (c ∷ d ∷ []) in
    let digits = list_all is_digit (a ∷ b ∷ c ∷ d ∷ []) in
    let is = clocked (space == 32) (colon == 58) digits (nat_lt hour 24) (nat_lt rest 60) (hour * 60 + rest) minute e in
    let tens = and_parts (is_digit a) (is_digit b && (is_digit c && (is_digit d && true))) is.2 in
    let ones = and_parts (is_digit b) (is_digit c && (is_digit d && true)) tens.1 in
    let in_day : hour < 24 = ltb-true hour 24 is.3 in
    let in_hour : rest < 60 = ltb-true rest 60 is.4 in
    let is_hour : hour ≡ minute / 60 = omega (arith, is.5) in
    let is_rest : rest ≡ minute % 60 = omega (arith, is.5) in
    let front : a ∷ b ∷ [] ≡ two_digits (minute / 60) = sym (two-back (a ∷ b ∷ []) refl (and_from _ _ tens.0 (and_from _ _ ones.0 refl))) ∙ ap two_digits is_hour in
    let back : c ∷ d ∷ [] ≡ two_digits (minute % 60) = sym (two-back (c ∷ d ∷ []) refl ones.1) ∙ ap two_digits is_rest in
    let first = eqb-true space 32 is.0 in
    let third = eqb-true colon 58 is.1 in
    let same : space ∷ a ∷ b ∷ colon ∷ c ∷ d ∷ [] ≡ clock_text minute = λ i. first i ∷ front i ++ third i ∷ back i in
    (same, omega (arith, is.5))

-- what a clock that was read tells of its text
clock-told : (text : List ℕ) (minute : ℕ) → clock_of_text text ≡ Some minute → (text ≡ clock_text minute) × (minute < 1440)
clock-told [] minute e = absurd (some_is_no_none minute (sym e))
clock-told (a ∷ []) minute e = absurd (some_is_no_none minute (sym e))
clock-told (a ∷ b ∷ []) minute e = absurd (some_is_no_none minute (sym e))
clock-told (a ∷ b ∷ c ∷ []) minute e = absurd (some_is_no_none minute (sym e))
clock-told (a ∷ b ∷ c ∷ d ∷ []) minute e = absurd (some_is_no_none minute (sym e))
clock-told (a ∷ b ∷ c ∷ d ∷ f ∷ []) minute e = absurd (some_is_no_none minute (sym e))
clock-told (space ∷ a ∷ b ∷ colon ∷ c ∷ d ∷ []) minute e = six-told space a b colon c d minute e
clock-told (a ∷ b ∷ c ∷ d ∷ f ∷ g ∷ h ∷ text) minute e = absurd (some_is_no_none minute (sym e))

picked : (first second : Bool) (one two n : ℕ) (other : Option ℕ) → cond first (Some one) (cond second (Some two) other) ≡ Some n → ((first ≡ true) × (one ≡ n)) ⊎ (((second ≡ true) × (two ≡ n)) ⊎ (other ≡ Some n))
picked true second one two n other e = inl (refl, cc)
picked false true one two n other e = inr (inl (refl, cc))
picked false false one two n other e = inr (inr e)

date-told : (text : List ℕ) (day : ℕ) → date_of_text text ≡ Some day → day_text day ≡ text
date-told text day read =
    elim (picked (bytes_eq text (codes "22000101")) (bytes_eq text (codes "22000102")) 84006 84007 day (day_of_digits text) read) [
      | inl first ↦ rw (sym first.1, next_day) (sym ((bytes_eq-Decides text (codes "22000101")).0 first.0))
      | inr others ↦ elim others [
        | inl second ↦ rw (sym second.1, day_after_next) (sym ((bytes_eq-Decides text (codes "22000102")).0 second.0))
        | inr there ↦ day_text-day_of_digits text day there
      ]
    ]

record IsAt (date clock : Option ℕ) (moment : ℕ) : Type 0 where
  pub day : ℕ
  pub minute : ℕ
  pub date_is : date ≡ Some day
  pub clock_is : clock ≡ Some minute
  pub sum : midnight day + minute ≡ moment
  pub small : moment ≤ last_printed_moment

within : (early : Bool) (value n : ℕ) → cond early (Some value) None ≡ Some n → (early ≡ true) × (value ≡ n)
within early value n e = grind arith

moment_at-told : (date clock : Option ℕ) (moment : ℕ) → moment_at date clock ≡ Some moment → IsAt date clock moment
moment_at-told None clock moment e = absurd (some_is_no_none moment (sym e))
moment_at-told (Some day) None moment e = absurd (some_is_no_none moment (sym e))
moment_at-told (Some day) (Some minute) moment e =
    let is = within (nat_le (midnight day + minute) last_printed_moment) (midnight day + minute) moment e in
    record {
      day = day;
      minute = minute;
      date_is = refl;
      clock_is = refl;
      sum = is.1;
      small = omega (arith, is.1, leb-true (midnight day + minute) last_printed_moment is.0);
    }

told : (text : List ℕ) (moment : ℕ) → moment_of_text text ≡ Some moment → IsAt (date_of_text (take 8 text)) (clock_of_text (drop 8 text)) moment
unfolding moment_of_text
told text moment read = moment_at-told _ _ moment read

pub moment_of_text-small : (text : List ℕ) (moment : ℕ) → moment_of_text text ≡ Some moment → moment ≤ last_printed_moment
moment_of_text-small text moment read = (told text moment read).small

pub moment_text-moment_of_text : (text : List ℕ) (moment : ℕ) → moment_of_text text ≡ Some moment → moment_text moment ≡ text
moment_text-moment_of_text text moment read =
    let is = told text moment read in
    let clock = clock-told (drop 8 text) is.minute is.clock_is in
    let date = date-told (take 8 text) is.day is.date_is in
    let small : is.minute < 1440 = clock.1 in
    let day : day_of moment ≡ is.day = omega (arith, is.sum) in
    let minute : minute_of_day moment ≡ is.minute = omega (arith, is.sum) in
    let front : take 8 (moment_text moment) ≡ take 8 text = take-moment_text moment ∙ (ap day_text day ∙ date) in
    let back : drop 8 (moment_text moment) ≡ drop 8 text = drop-moment_text moment ∙ (ap clock_text minute ∙ sym clock.0) in
    let joined : take 8 (moment_text moment) ++ drop 8 (moment_text moment) ≡ take 8 text ++ drop 8 text = λ i. front i ++ back i in
    sym (take-append-drop 8 (moment_text moment)) ∙ (joined ∙ take-append-drop 8 text)
