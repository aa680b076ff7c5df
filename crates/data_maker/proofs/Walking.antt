-- One row more of a walk.
use Rattle.std.proofs.Common.{◌≡◌, ℕ, suc, ◌+◌, ◌-◌, ◌%◌, ◌<◌, max, min, List, ◌∷◌, ◌++◌, take, drop, refl, sym, ap, ◌∙◌, append_assoc, arith}
use Rattle.std.specs.List.{flat_map, range_with_len}
use Rattle.equity_csv.specs.Rows.{row_of}
use Rattle.equity_csv.specs.declared.row.Row.{Row}
use Rattle.data_maker.specs.Walk.{next_random, next_price, row_from, walked}
use Rattle.data_maker.specs.MadeFiles.{row_line}

-- the row between two prices
pub row-between : (start opening closing random : ℕ) (row : Row) → closing ≡ next_price opening random
    → row ≡ row_of start opening (max opening closing + random % 100) (min opening closing - random % 100) closing (100 + random % 900)
    → row ≡ row_from start opening random
unfolding row_from
row-between start opening closing random row e is =
    is ∙ ap (λ c. row_of start opening (max opening c + random % 100) (min opening c - random % 100) c (100 + random % 900)) e

-- the rows of a walk from a minute on, of which so many are those of a day
abbrev pub rows_left : ℕ → ℕ → ℕ → ℕ → List ℕ → List Row
rows_left random price start count later = walked random price (range_with_len start count ++ later)

rows-more : (random price start count : ℕ) (later : List ℕ)
    → rows_left random price start (suc count) later
    ≡ row_from start price (next_random random) ∷ rows_left (next_random random) (next_price price (next_random random)) (start + 1) count later
rows-more random price start count later = refl

module _ (random price midnight minute : ℕ) (later : List ℕ) (h : minute < 960) where
  -- the rows from a minute on are its own and those from the next one on
  pub rows-next : rows_left random price (midnight + minute) (960 - minute) later
      ≡ row_from (midnight + minute) price (next_random random)
      ∷ rows_left (next_random random) (next_price price (next_random random)) (midnight + (minute + 1)) (960 - (minute + 1)) later
  rows-next =
      let e : 960 - minute ≡ suc (960 - (minute + 1)) = omega (arith, h) in
      let t : midnight + minute + 1 ≡ midnight + (minute + 1) = omega arith in
      ap (λ n. rows_left random price (midnight + minute) n later) e
      ∙ rows-more random price (midnight + minute) (960 - (minute + 1)) later
      ∙ ap (λ s. row_from (midnight + minute) price (next_random random) ∷ rows_left (next_random random) (next_price price (next_random random)) s (960 - (minute + 1)) later) t

-- the row of a minute was taken, and the walk went on
pub rows-passed : (random price midnight minute later_random later_price : ℕ) (row : Row) (later : List ℕ) → minute < 960
    → row ≡ row_from (midnight + minute) price (next_random random)
    → later_random ≡ next_random random
    → later_price ≡ next_price price (next_random random)
    → rows_left random price (midnight + minute) (960 - minute) later
    ≡ row ∷ rows_left later_random later_price (midnight + (minute + 1)) (960 - (minute + 1)) later
rows-passed random price midnight minute later_random later_price row later h is r p =
    rows-next random price midnight minute later h
    ∙ ap (λ x. x ∷ rows_left (next_random random) (next_price price (next_random random)) (midnight + (minute + 1)) (960 - (minute + 1)) later) (sym is)
    ∙ ap (λ x. row ∷ rows_left x (next_price price (next_random random)) (midnight + (minute + 1)) (960 - (minute + 1)) later) (sym r)
    ∙ ap (λ x. row ∷ rows_left later_random x (midnight + (minute + 1)) (960 - (minute + 1)) later) (sym p)

-- a row was appended
pub text-more : (first rest : List Row) (row : Row) (out more want : List ℕ) (n k : ℕ) → n ≡ suc k → first ≡ row ∷ rest
    → more ≡ out ++ row_line row
    → out ++ flat_map row_line (take n first) ≡ want
    → more ++ flat_map row_line (take k rest) ≡ want
text-more first rest row out more want n k e is appended before =
    ap (λ o. o ++ flat_map row_line (take k rest)) appended
    ∙ append_assoc out (row_line row) (flat_map row_line (take k rest))
    ∙ ap (λ rs. out ++ flat_map row_line (take (suc k) rs)) (sym is)
    ∙ ap (λ m. out ++ flat_map row_line (take m first)) (sym e)
    ∙ before

-- and it is no longer left
pub left-more : (first rest want : List Row) (row : Row) (n k : ℕ) → n ≡ suc k → first ≡ row ∷ rest
    → drop n first ≡ want → drop k rest ≡ want
left-more first rest want row n k e is before =
    ap (λ rs. drop (suc k) rs) (sym is) ∙ ap (λ m. drop m first) (sym e) ∙ before
