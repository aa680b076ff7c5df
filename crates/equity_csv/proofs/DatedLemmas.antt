-- A good time of an hour or daily row is fourteen bytes without a comma.
use Rattle.std.proofs.Common.{◌≡◌, ℕ, ◌+◌, ◌*◌, ◌==◌, Bool, true, false, ◌&&◌, if◌then◌else◌, nat_le, pos, unsigned_abs, List, [], ◌∷◌, ◌++◌, length, take, drop, Option, Some, None, option_map, refl, sym, ap, ◌∙◌, subst, arith, length-drop, take-append-drop}
use Rattle.std.specs.List.{list_all}
use Rattle.std.proofs.lemmas.Bool.Decides.{nat_tests}
use Rattle.lean_fixed.specs.Digits.{is_digit, value_of}
use Rattle.lean_fixed.specs.Moments.{midnight}
use Rattle.lean_fixed.specs.Calendar.{day_of_digits, is_civil, spelled, day_number}
use Rattle.lean_fixed.specs.declared.resolution.Resolution.{Resolution}
use Rattle.lean_fixed.specs.Printed.{day_text}
use Rattle.lean_fixed.specs.declared.time.Day.{Day}
use Rattle.equity_csv.specs.Dates.{day_spelled, Spells}
use Rattle.equity_csv.specs.Rows.{kept_if, hour_in, has_hour, start_of, dated_start}
use Rattle.equity_csv.proofs.JoinLemmas.{no_comma}

pub record IsPlain (length_wanted : ℕ) (text : List ℕ) : Type 0 where
  pub long : length text ≡ length_wanted
  pub plain : list_all no_comma text ≡ true

pub no_comma-digits : (text : List ℕ) → list_all is_digit text ≡ true → list_all no_comma text ≡ true
no_comma-digits [] h = refl
no_comma-digits (b ∷ text) h =
    let here : is_digit b ≡ true = grind (arith, nat_tests) in
    let there : list_all is_digit text ≡ true = grind (arith, nat_tests) in
    let first : no_comma b ≡ true = grind (arith, nat_tests) in
    rw first (no_comma-digits text there)

-- what a test that passed says
pub passed : {A : Type 0} (b : Bool) (x : Option A) (y : A) → (if b then x else None) ≡ Some y → b ≡ true
passed true x y e = refl
passed false x y e = cc

pub three : (a b c : Bool) → ((a && b) && c) ≡ true → (a ≡ true) × (b ≡ true)
three true true c e = (refl, refl)
three true false c e = cc
three false b c e = cc

pub day-digits : (text : List ℕ) (n : ℕ) → day_of_digits text ≡ Some n → list_all is_digit text ≡ true
day-digits text n e =
    let t = passed ((length text == 8) && list_all is_digit text && is_civil (spelled text)) (Some (day_number (spelled text))) n e in
    (three (length text == 8) (list_all is_digit text) (is_civil (spelled text)) t).1

pub day-plain : (text : List ℕ) (n : ℕ) → day_of_digits text ≡ Some n → IsPlain 8 text
day-plain text n e =
    let t = passed ((length text == 8) && list_all is_digit text && is_civil (spelled text)) (Some (day_number (spelled text))) n e in
    let parts = three (length text == 8) (list_all is_digit text) (is_civil (spelled text)) t in
    let eight : (length text == 8) ≡ true = parts.0 in
    record { long = grind (arith, nat_tests); plain = no_comma-digits text parts.1 }

six : (a b c d e f : Bool) → (a && b && c && d && e && f) ≡ true → (a ≡ true) × (b ≡ true) × (c ≡ true) × (d ≡ true) × (e ≡ true) × (f ≡ true)
six true true true true true f h = (refl, refl, refl, refl, refl, h)
six true true true true false f h = cc
six true true true false e f h = cc
six true true false d e f h = cc
six true false c d e f h = cc
six false b c d e f h = cc

hour-plain : (text : List ℕ) (n : ℕ) → hour_in text ≡ Some n → IsPlain 6 text
hour-plain (a ∷ b ∷ c ∷ d ∷ e ∷ f ∷ []) n h =
    let t = six (a == 32) (is_digit b) (is_digit c) (d == 58) (e == 48) (f == 48) (passed ((a == 32) && is_digit b && is_digit c && (d == 58) && (e == 48) && (f == 48)) (kept_if (λ hour. nat_le hour 23) (Some (value_of (b ∷ c ∷ [])))) n h) in
    let p : no_comma a ≡ true = grind (arith, nat_tests, t.0) in
    let q : no_comma b ≡ true = grind (arith, nat_tests, t.1) in
    let r : no_comma c ≡ true = grind (arith, nat_tests, t.2) in
    let s : no_comma d ≡ true = grind (arith, nat_tests, t.3) in
    let u : no_comma e ≡ true = grind (arith, nat_tests, t.4) in
    let v : no_comma f ≡ true = grind (arith, nat_tests, t.5) in
    record { long = refl; plain = rw (p, q, r, s, u, v) }
hour-plain [] n h = cc
hour-plain (a ∷ []) n h = cc
hour-plain (a ∷ b ∷ []) n h = cc
hour-plain (a ∷ b ∷ c ∷ []) n h = cc
hour-plain (a ∷ b ∷ c ∷ d ∷ []) n h = cc
hour-plain (a ∷ b ∷ c ∷ d ∷ e ∷ []) n h = cc
hour-plain (a ∷ b ∷ c ∷ d ∷ e ∷ f ∷ g ∷ text) n h = cc

pub list_all-append : (p : ℕ → Bool) (a b : List ℕ) → list_all p a ≡ true → list_all p b ≡ true → list_all p (a ++ b) ≡ true
list_all-append p [] b h k = k
list_all-append p (x ∷ a) b h k =
    let here : p x ≡ true = grind (arith, nat_tests) in
    let there : list_all p a ≡ true = grind (arith, nat_tests) in
    rw here (list_all-append p a b there k)

pub no_day : (hour : Option ℕ) → start_of None hour ≡ None
no_day None = refl
no_day (Some h) = refl

no_hour : (day : Option ℕ) → start_of day None ≡ None
no_hour None = refl
no_hour (Some d) = refl

parts : (resolution : Resolution) (day hour : Option ℕ) (s : ℕ) → start_of day (kept_if (has_hour resolution) hour) ≡ Some s → (d : ℕ) × (h : ℕ) × (day ≡ Some d) × (hour ≡ Some h)
parts r None None s e = cc
parts r None (Some h) s e = cc (no_day (kept_if (has_hour r) (Some h)))
parts r (Some d) None s e = cc
parts r (Some d) (Some h) s e = (d, h, refl, refl)

pub dated-plain : (resolution : Resolution) (field : List ℕ) (s : ℕ) → dated_start resolution field ≡ Some s → IsPlain 14 field
dated-plain r field s e =
    let p = parts r (day_of_digits (take 8 field)) (hour_in (drop 8 field)) s e in
    let day = day-plain (take 8 field) p.0 p.2 in
    let hour = hour-plain (drop 8 field) p.1 p.3 in
    let whole : take 8 field ++ drop 8 field ≡ field = take-append-drop 8 field in
    record {
      long = omega (arith, day.long, hour.long, length-drop 8 field);
      plain = subst (λ (x : List ℕ). list_all no_comma x ≡ true) whole (list_all-append no_comma (take 8 field) (drop 8 field) day.plain hour.plain);
    }

abbrev pub day_at : ℕ → Day
day_at n = record { 0 = pos n }

-- what a reader of the time finds, part by part
pub dated-not_long : (resolution : Resolution) (field : List ℕ) → (length field ≡ 14 → ⊥) → None ≡ dated_start resolution field
dated-not_long r field h =
    elim (dated_start r field) as (λ v. dated_start r field ≡ v → None ≡ v) [
      | None ↦ λ e. refl
      | Some s ↦ λ e. absurd (h (dated-plain r field s e).long)
    ] refl

pub dated-no_day : (resolution : Resolution) (day hour : Option ℕ) → None ≡ option_map day_at day → None ≡ start_of day (kept_if (has_hour resolution) hour)
dated-no_day r None hour e = sym (no_day (kept_if (has_hour r) hour))
dated-no_day r (Some d) hour e = cc

pub dated-no_hour : (resolution : Resolution) (day hour : Option ℕ) → None ≡ hour → None ≡ start_of day (kept_if (has_hour resolution) hour)
dated-no_hour r day None e = sym (no_hour day)
dated-no_hour r day (Some h) e = cc

pub dated-other_hour : (resolution : Resolution) (day hour : Option ℕ) (h : ℕ) → Some h ≡ hour → has_hour resolution h ≡ false → None ≡ start_of day (kept_if (has_hour resolution) hour)
dated-other_hour r day hour h f k = rw (← f) (rw k (sym (no_hour day)))

pub day-read : (found : Option ℕ) (day : Day) → Some day ≡ option_map day_at found → found ≡ Some (unsigned_abs day.0)
day-read None day e = cc
day-read (Some n) day e = let same : day ≡ day_at n = cc in ap (λ (d : Day). Some (unsigned_abs d.0)) (sym same)

pub dated-both : (resolution : Resolution) (day hour : Option ℕ) (d : Day) (h : ℕ) → Some d ≡ option_map day_at day → Some h ≡ hour → has_hour resolution h ≡ true → Some (midnight (unsigned_abs d.0) + h * 60) ≡ start_of day (kept_if (has_hour resolution) hour)
dated-both r day hour d h e f k = rw (day-read day d e) (rw (← f) (rw k))

-- the first day that there is, from its text
pub first_spelled : (digits : List ℕ) → digits ≡ day_text 0 → day_of_digits (day_text 0) ≡ Some 0 → Spells digits (day_at 0)
unfolding day_spelled
first_spelled digits e s = ap (option_map day_at) (ap day_of_digits e ∙ s)
