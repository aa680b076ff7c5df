-- The last marks of symbols.
use Rattle.std.proofs.Common.{◌≡◌, ℕ, ◌≤◌, Bool, true, false, ◌||◌, List, [], ◌∷◌, ◌++◌, ℤ, pos, negsuc, Option, Some, None, refl, ap, true≢false, arith, if◌then◌else◌}
use Rattle.std.specs.Prelude.{unsigned_abs, unwrap_or}
use Rattle.std.specs.Option.{option_or}
use Rattle.std.proofs.lemmas.Int.{ints}
use Rattle.std.proofs.lemmas.List.{map-append}
use Rattle.lean_fixed.specs.Ranges.{IsPrice, most_price}
use Rattle.portfolio.specs.Symbols.{same_symbol, is_among}
use Rattle.portfolio.specs.Sums.{Mark, last_mark, marked, AreMarks}

-- one mark more
last_step : (b : Bool) (o p q : Option ℤ) → o ≡ (if b then p else q) → (r : Option ℤ) → option_or o r ≡ (if b then option_or p r else option_or q r)
last_step true o p q e r = ap (λ x. option_or x r) e
last_step false o p q e r = ap (λ x. option_or x r) e

pub last-append : (s : List ℕ) (marks : List Mark) (mark : Mark)
    → last_mark s (marks ++ mark ∷ []) ≡ (if same_symbol s mark.symbol then Some mark.price else last_mark s marks)
last-append s [] mark = step (same_symbol s mark.symbol)
  where
    step : (b : Bool) → option_or None (if b then Some mark.price else None) ≡ (if b then Some mark.price else None)
    step true = refl
    step false = refl
last-append s (m ∷ later) mark =
    last_step (same_symbol s mark.symbol) (last_mark s (later ++ mark ∷ [])) (Some mark.price) (last_mark s later) (last-append s later mark)
    (if same_symbol s m.symbol then Some m.price else None)

pub marked-append : (marks : List Mark) (mark : Mark) → marked (marks ++ mark ∷ []) ≡ marked marks ++ mark.symbol ∷ []
marked-append marks mark = map-append (λ m. m.symbol) marks (mark ∷ [])

-- a symbol that was never marked has none
pub never_marked : (s : List ℕ) (marks : List Mark) → is_among s (marked marks) ≡ false → last_mark s marks ≡ None
never_marked s [] h = refl
never_marked s (m ∷ later) h = step (same_symbol s m.symbol) (is_among s (marked later)) (last_mark s later) h (never_marked s later)
  where
    step : (b d : Bool) (o : Option ℤ) → (b || d) ≡ false → (d ≡ false → o ≡ None) → option_or o (if b then Some m.price else None) ≡ None
    step true d o h k = absurd (true≢false h)
    step false d o h k = ap (λ x. option_or x None) (k h)

-- the last mark of a symbol is a price
abbrev pub IsPricedMark : Option ℤ → Type 0
IsPricedMark None = Unit {0}
IsPricedMark (Some price) = IsPrice price

pub last_priced : (s : List ℕ) (marks : List Mark) → AreMarks marks → IsPricedMark (last_mark s marks)
last_priced s [] h = tt
last_priced s (m ∷ later) h = step (last_mark s later) (same_symbol s m.symbol) (last_priced s later h.1)
  where
    step : (o : Option ℤ) (b : Bool) → IsPricedMark o → IsPricedMark (option_or o (if b then Some m.price else None))
    step (Some p) b k = k
    step None true k = h.0
    step None false k = tt

pub AreMarks-append : (marks : List Mark) (mark : Mark) → AreMarks marks → IsPrice mark.price → AreMarks (marks ++ mark ∷ [])
AreMarks-append [] mark h p = (p, tt)
AreMarks-append (m ∷ later) mark h p = (h.0, AreMarks-append later mark h.1 p)

-- the price that a symbol has, or 0
pub price_le : (s : List ℕ) (marks : List Mark) → AreMarks marks → unsigned_abs (unwrap_or (last_mark s marks) (pos 0)) ≤ most_price
price_le s marks h = step (last_mark s marks) (last_priced s marks h)
  where
    step : (o : Option ℤ) → IsPricedMark o → unsigned_abs (unwrap_or o (pos 0)) ≤ most_price
    step None k = omega arith
    step (Some (pos n)) k = omega (arith, ints, k.1)
    step (Some (negsuc n)) k = absurd (omega (arith, ints, k.0))
