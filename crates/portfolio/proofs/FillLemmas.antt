-- Sums over the fills of one symbol and of all.
use Rattle.std.proofs.Common.{◌≡◌, ℕ, ◌+◌, ◌≤◌, Bool, true, false, cond, ◌||◌, List, [], ◌∷◌, ◌++◌, ◌+ℤ◌, ◌*ℤ◌, refl, sym, ◌∙◌, true≢false, arith, if◌then◌else◌}
use Rattle.std.specs.Prelude.{unsigned_abs, fold}
use Rattle.std.proofs.lemmas.Int.{ints}
use Rattle.std.proofs.lemmas.List.{map-append}
use Rattle.std.proofs.lemmas.List.Elements.{filter-append}
use Rattle.std.proofs.lemmas.List.Sums.{fold-append}
use Rattle.lean_orders.specs.declared.event.Fill.{Fill}
use Rattle.portfolio.specs.declared.lot.Lot.{Lot}
use Rattle.portfolio.specs.Symbols.{same_symbol, is_among, sum_of}
use Rattle.portfolio.specs.Lots.{no_lot, filled, lot_of}
use Rattle.portfolio.specs.Sums.{fills_of, traded}
use Rattle.portfolio.proofs.Numbers.{abs_add_le}
use Rattle.portfolio.proofs.LotLemmas.{money_of, filled-position, filled_grows}
use Rattle.portfolio.proofs.SymbolLemmas.{same_turned, among_same, count_each}

-- one fill more
pub fills_of-append : (s : List ℕ) (fills : List Fill) (fill : Fill)
    → fills_of s (fills ++ fill ∷ []) ≡ fills_of s fills ++ cond (same_symbol s fill.symbol) (fill ∷ []) []
fills_of-append s fills fill = filter-append (λ f. same_symbol s f.symbol) fills (fill ∷ [])

pub traded-append : (fills : List Fill) (fill : Fill) → traded (fills ++ fill ∷ []) ≡ traded fills ++ fill.symbol ∷ []
traded-append fills fill = map-append (λ f. f.symbol) fills (fill ∷ [])

pub lot_of-append : (fills : List Fill) (fill : Fill) → lot_of (fills ++ fill ∷ []) ≡ filled (lot_of fills) fill.quantity.0 fill.price.0
lot_of-append fills fill = fold-append (λ lot f. filled lot f.quantity.0 f.price.0) no_lot fills (fill ∷ [])

-- a symbol that was not traded has no fills
pub never_traded : (s : List ℕ) (fills : List Fill) → is_among s (traded fills) ≡ false → fills_of s fills ≡ []
never_traded s [] h = refl
never_traded s (fill ∷ fills) h = step (same_symbol s fill.symbol) (is_among s (traded fills)) fill (fills_of s fills) h (never_traded s fills)
  where
    step : (b d : Bool) (fill : Fill) (rest : List Fill) → (b || d) ≡ false → (d ≡ false → rest ≡ []) → cond b (fill ∷ rest) rest ≡ []
    step true d fill rest h k = absurd (true≢false h)
    step false d fill rest h k = k h

-- the position of a lot is the sum of its quantities
fold-position : (lot : Lot) (fills : List Fill)
    → (fold (λ lot f. filled lot f.quantity.0 f.price.0) lot fills).position ≡ lot.position +ℤ sum_of (λ f. f.quantity.0) fills
fold-position lot [] = omega (arith, ints)
fold-position lot (fill ∷ fills) =
    omega (arith, ints, fold-position (filled lot fill.quantity.0 fill.price.0) fills, filled-position lot fill.quantity.0 fill.price.0)

pub lot-position : (fills : List Fill) → (lot_of fills).position ≡ sum_of (λ f. f.quantity.0) fills
lot-position fills = fold-position no_lot fills ∙ omega (arith, ints)

-- a weight of all fills, and of those of one symbol
abbrev pub total : (Fill → ℕ) → List Fill → ℕ
total w [] = 0
total w (fill ∷ fills) = w fill + total w fills

-- what is paid and gained by some fills
abbrev pub value_weight : Fill → ℕ
value_weight fill = unsigned_abs (fill.quantity.0 *ℤ fill.price.0)

fold_money : (lot : Lot) (fills : List Fill)
    → money_of (fold (λ lot f. filled lot f.quantity.0 f.price.0) lot fills) ≤ money_of lot + total value_weight fills
fold_money lot [] = omega arith
fold_money lot (fill ∷ fills) =
    omega (arith, fold_money (filled lot fill.quantity.0 fill.price.0) fills, filled_grows lot fill.quantity.0 fill.price.0)

pub lot_money : (fills : List Fill) → money_of (lot_of fills) ≤ total value_weight fills
lot_money fills = omega (arith, fold_money no_lot fills)

-- the weight of a position
abbrev pub share_weight : Fill → ℕ
share_weight fill = unsigned_abs fill.quantity.0

pub sum_shares : (fills : List Fill) → unsigned_abs (sum_of (λ f. f.quantity.0) fills) ≤ total share_weight fills
sum_shares [] = omega arith
sum_shares (fill ∷ fills) = omega (arith, sum_shares fills, abs_add_le fill.quantity.0 (sum_of (λ f. f.quantity.0) fills))

-- the fills of the different symbols are no more than all
weigh_step : (u v w : Bool) (m c n gx : ℕ) → (v ≡ true → u ≡ w) → m ≡ c + (if w then n else 0)
    → (if u then m else (if v then n else 0) + gx + m) ≡ (if u then c else gx + c) + (if v || w then n else 0)
weigh_step true true true m c n gx h e = e
weigh_step true true false m c n gx h e = absurd (true≢false (h refl))
weigh_step true false w m c n gx h e = e
weigh_step false true true m c n gx h e = absurd (true≢false (sym (h refl)))
weigh_step false true false m c n gx h e = omega arith
weigh_step false false true m c n gx h e = omega arith
weigh_step false false false m c n gx h e = omega arith

count-one : (g : List ℕ → ℕ) (k : List ℕ) (n : ℕ) (xs : List (List ℕ))
    → count_each (λ s. (if same_symbol s k then n else 0) + g s) xs ≡ count_each g xs + (if is_among k xs then n else 0)
count-one g k n [] = omega arith
count-one g k n (x ∷ xs) =
    rw (same_turned x k)
    (weigh_step (is_among x xs) (same_symbol k x) (is_among k xs) (count_each (λ s. (if same_symbol s k then n else 0) + g s) xs) (count_each g xs) n (g x)
    (λ h. sym (among_same k x xs h)) (count-one g k n xs))

count-none : (xs : List (List ℕ)) → count_each (λ s. 0) xs ≡ 0
count-none [] = refl
count-none (x ∷ xs) = step (is_among x xs) (count_each (λ s. 0) xs) (count-none xs)
  where
    step : (b : Bool) (n : ℕ) → n ≡ 0 → (if b then n else 0 + n) ≡ 0
    step true n h = h
    step false n h = omega arith

-- the weight of the fills of a symbol
abbrev pub load : (Fill → ℕ) → List ℕ → List Fill → ℕ
load w s [] = 0
load w s (fill ∷ fills) = (if same_symbol s fill.symbol then w fill else 0) + load w s fills

pub load-is : (w : Fill → ℕ) (s : List ℕ) (fills : List Fill) → total w (fills_of s fills) ≡ load w s fills
load-is w s [] = refl
load-is w s (fill ∷ fills) = step (same_symbol s fill.symbol) (fills_of s fills) (load w s fills) (load-is w s fills)
  where
    step : (b : Bool) (rest : List Fill) (n : ℕ) → total w rest ≡ n → total w (cond b (fill ∷ rest) rest) ≡ (if b then w fill else 0) + n
    step true rest n h = omega arith
    step false rest n h = omega arith

small : (b : Bool) (n : ℕ) → (if b then n else 0) ≤ n
small true n = omega arith
small false n = omega arith

pub each_load : (w : Fill → ℕ) (fills : List Fill) (xs : List (List ℕ)) → count_each (λ s. load w s fills) xs ≤ total w fills
each_load w [] xs = omega (arith, count-none xs)
each_load w (fill ∷ fills) xs =
    omega (arith, count-one (λ s. load w s fills) fill.symbol (w fill) xs, small (is_among fill.symbol xs) (w fill), each_load w fills xs)
