-- The days of a window, as the words have them.
use Rattle.std.proofs.Common.{◌≡◌, ℕ, ◌-◌, ◌<◌, ◌≤◌, Bool, true, false, Option, Some, None, refl, arith, pos}
use Rattle.std.specs.Prelude.{option_map, option_and_then, nat_le, ◌&&◌, if◌then◌else◌, unsigned_abs}
use Rattle.std.proofs.lemmas.Bool.Decides.{nat_tests}
use Rattle.lean_fixed.specs.Calendar.{last_day}
use Rattle.lean_fixed.specs.declared.time.Day.{Day}
use Rattle.lean_top.specs.Command.{if_window_day}

abbrev pub day_at : ℕ → Day
day_at n = record { 0 = pos n }

pub no_day : (found : Option ℕ) → None ≡ option_map day_at found → None ≡ option_and_then if_window_day found
no_day None e = refl
no_day (Some n) e = cc

-- a day before the first of a window, past its last, or neither; `n` is its number
pub early_day : (found : Option ℕ) (day : Day) (n : ℕ) → Some day ≡ option_map day_at found → n ≡ unsigned_abs day.0 → n < 1 → None ≡ option_and_then if_window_day found
early_day None day n e is lt = cc
early_day (Some m) day n e is lt =
    let same : day ≡ day_at m = cc in
    let number : n ≡ m = rw same at is in
    let test : nat_le 1 m ≡ false = grind (arith, nat_tests) in
    rw test refl

pub late_day : (found : Option ℕ) (day : Day) (n : ℕ) → Some day ≡ option_map day_at found → n ≡ unsigned_abs day.0 → last_day ≤ n → None ≡ option_and_then if_window_day found
late_day None day n e is le = cc
late_day (Some m) day n e is le =
    let same : day ≡ day_at m = cc in
    let number : n ≡ m = rw same at is in
    let test : nat_le m (last_day - 1) ≡ false = grind (arith, nat_tests) in
    rw test (both_false (nat_le 1 m))
  where
    both_false : (b : Bool) → None ≡ (if b && false then Some m else None)
    both_false true = refl
    both_false false = refl

pub a_window_day : (found : Option ℕ) (day : Day) (n : ℕ) → Some day ≡ option_map day_at found → n ≡ unsigned_abs day.0 → 1 ≤ n → n < last_day
    → Some n ≡ option_and_then if_window_day found
a_window_day None day n e is low high = cc
a_window_day (Some m) day n e is low high =
    let same : day ≡ day_at m = cc in
    let number : n ≡ m = rw same at is in
    let first : nat_le 1 m ≡ true = grind (arith, nat_tests) in
    let last : nat_le m (last_day - 1) ≡ true = grind (arith, nat_tests) in
    rw (first, last, number) refl
