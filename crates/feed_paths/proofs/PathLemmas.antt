-- The parts of a path, one after the other, are the path, and it is short.
use Rattle.std.proofs.Common.{ℕ, ◌+◌, ◌≤◌, ◌≡◌, List, [], ◌++◌, length, codes, append_assoc, length-append, arith}
use Rattle.std.proofs.lemmas.List.{append-nil, length-map}
use Rattle.lean_fixed.specs.Printed.{day_text}
use Rattle.lean_fixed.specs.declared.resolution.Resolution.{Resolution}
use Rattle.lean_fixed.specs.declared.resolution.Resolution.TheVariants.{Minute, Hour, Daily}
use Rattle.lean_items.specs.declared.feed_key.FeedKind.TheVariants.{Coarse, Equity}
use Rattle.feed_paths.specs.Paths.{lower_case, lower, path_of}

seven : (a b c d e f g : List ℕ) → a ++ (b ++ (c ++ (d ++ (e ++ (f ++ (g ++ [])))))) ≡ a ++ b ++ c ++ d ++ e ++ f ++ g
seven a b c d e f g = simp (append_assoc, append-nil)

three : (a b c : List ℕ) → a ++ (b ++ (c ++ [])) ≡ a ++ b ++ c
three a b c = simp (append_assoc, append-nil)

pub minute_parts : (symbol : List ℕ) (file : ℕ)
    → codes "equity/usa/minute/" ++ (lower symbol ++ (codes "/" ++ (day_text file ++ (codes "_" ++ (lower symbol ++ (codes "_minute_trade.csv" ++ [])))))) ≡ path_of (Equity symbol Minute) file
unfolding path_of
minute_parts symbol file = seven (codes "equity/usa/minute/") (lower symbol) (codes "/") (day_text file) (codes "_") (lower symbol) (codes "_minute_trade.csv")

pub hour_parts : (symbol : List ℕ) (file : ℕ) → codes "equity/usa/hour/" ++ (lower symbol ++ (codes ".csv" ++ [])) ≡ path_of (Equity symbol Hour) file
unfolding path_of
hour_parts symbol file = three (codes "equity/usa/hour/") (lower symbol) (codes ".csv")

pub daily_parts : (symbol : List ℕ) (file : ℕ) → codes "equity/usa/daily/" ++ (lower symbol ++ (codes ".csv" ++ [])) ≡ path_of (Equity symbol Daily) file
unfolding path_of
daily_parts symbol file = three (codes "equity/usa/daily/") (lower symbol) (codes ".csv")

pub coarse_parts : (file : ℕ) → codes "equity/usa/fundamental/coarse/" ++ (day_text file ++ (codes ".csv" ++ [])) ≡ path_of Coarse file
unfolding path_of
coarse_parts file = three (codes "equity/usa/fundamental/coarse/") (day_text file) (codes ".csv")

-- ---- lengths

joined_seven : (a b c d e f g : List ℕ) → length (a ++ b ++ c ++ d ++ e ++ f ++ g) ≡ length a + length b + length c + length d + length e + length f + length g
joined_seven a b c d e f g = simp length-append

joined_three : (a b c : List ℕ) → length (a ++ b ++ c) ≡ length a + length b + length c
joined_three a b c = simp length-append

module _ (eight : (day : ℕ) → length (day_text day) ≡ 8) where
  pub short_equity : (symbol : List ℕ) (resolution : Resolution) (file : ℕ) → length symbol ≤ 12 → length (path_of (Equity symbol resolution) file) ≤ 80
  unfolding path_of
  short_equity symbol Minute file h =
      omega (arith, joined_seven (codes "equity/usa/minute/") (lower symbol) (codes "/") (day_text file) (codes "_") (lower symbol) (codes "_minute_trade.csv"), length-map symbol lower_case, eight file)
  short_equity symbol Hour file h = omega (arith, joined_three (codes "equity/usa/hour/") (lower symbol) (codes ".csv"), length-map symbol lower_case)
  short_equity symbol Daily file h = omega (arith, joined_three (codes "equity/usa/daily/") (lower symbol) (codes ".csv"), length-map symbol lower_case)

  pub short_coarse : (file : ℕ) → length (path_of Coarse file) ≤ 80
  unfolding path_of
  short_coarse file = omega (arith, joined_three (codes "equity/usa/fundamental/coarse/") (day_text file) (codes ".csv"), eight file)
