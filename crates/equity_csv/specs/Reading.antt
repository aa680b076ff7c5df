-- How a line is read: field by field, from the front on.
use Rattle.std.specs.Prelude.{ℕ, ◌≤◌, Bool, true, ◌&&◌, ◌==◌, nat_le, if◌then◌else◌, List, [], ◌∷◌, Option, Some, None, option_map, option_and_then}
use Rattle.std.specs.List.{list_all}
use Rattle.lean_fixed.specs.Fields.{fields, plain_number}
use Rattle.lean_fixed.specs.Ranges.{most_price}
use Rattle.equity_csv.specs.declared.number.Leading.{Leading}
use Rattle.equity_csv.specs.Rows.{kept_if, price_in}

-- the plain number in a field, where it is at most `most`
abbrev pub number_up_to : ℕ → List ℕ → Option ℕ
number_up_to most field = kept_if (λ n. nat_le n most) (plain_number field)

-- what the first field says, and the fields after it
abbrev pub leading : (List ℕ → Option ℕ) → List (List ℕ) → Option (ℕ × List (List ℕ))
leading read (field ∷ more) = option_map (λ n. (n, more)) (read field)
leading read [] = None

-- the same where there are fields after it
abbrev pub first_of : (List ℕ → Option ℕ) → List (List ℕ) → Option (ℕ × List (List ℕ))
first_of read (field ∷ next ∷ more) = option_map (λ n. (n, next ∷ more)) (read field)
first_of read _ = None

-- the fields after a field at whose end a text begins: those after a comma, or none
abbrev pub fields_after : List ℕ → List (List ℕ)
fields_after [] = []
fields_after (_ ∷ text) = fields text

-- a plain number may end with such bytes: nothing, or a point and zeros
abbrev pub ends_number : List ℕ → Bool
ends_number [] = true
ends_number (b ∷ zeros) = (b == 46) && list_all (λ z. z == 48) zeros

-- the fields after the first one, where this is the end of a plain number
abbrev pub after_end : List (List ℕ) → Option (List (List ℕ))
after_end (field ∷ more) = if ends_number field then Some more else None
after_end [] = None

-- where a text is the rest of the zeros after a point, the fields after them
abbrev pub after_zeros : List (List ℕ) → Option (List (List ℕ))
after_zeros (field ∷ more) = if list_all (λ z. z == 48) field then Some more else None
after_zeros [] = None

-- what the code's own struct holds of these: a number, and what stands at the end of its field or behind its comma
abbrev pub number_and_end : Option Leading → Option (ℕ × List (List ℕ))
number_and_end found = option_map (λ n. (n.number, fields_after n.behind.now)) found

abbrev pub number_and_rest : Option Leading → Option (ℕ × List (List ℕ))
number_and_rest found = option_map (λ n. (n.number, fields n.behind.now)) found

infixl 10 ◌>>=◌
abbrev pub ◌>>=◌ : {A B : Type 0} → Option A → (A → Option B) → Option B
o >>= f = option_and_then f o

-- the four prices that some fields begin with, and the fields after them
pub record Priced : Type 0 where
  pub opening : ℕ
  pub high : ℕ
  pub low : ℕ
  pub closing : ℕ
  pub rest : List (List ℕ)

abbrev pub priced : ℕ → ℕ → ℕ → ℕ → List (List ℕ) → Priced
priced opening high low closing rest =
    record { opening = opening; high = high; low = low; closing = closing; rest = rest }

-- price by price, where each is good and further fields follow
abbrev pub first_prices : List (List ℕ) → Option Priced
first_prices values = do
  opening ← first_of price_in values
  high ← first_of price_in opening.1
  low ← first_of price_in high.1
  closing ← first_of price_in low.1
  Some (priced opening.0 high.0 low.0 closing.0 closing.1)

-- no price is too great
pub record IsPriced (o h l c : ℕ) : Type 0 where
  pub opening : o ≤ most_price
  pub high : h ≤ most_price
  pub low : l ≤ most_price
  pub closing : c ≤ most_price
