-- The random walk that a security's prices take.
use Rattle.std.specs.Prelude.{ℕ, zero, suc, ◌+◌, ◌-◌, ◌*◌, ◌/◌, ◌%◌, max, min, List, [], ◌∷◌, length}
use Rattle.equity_csv.specs.Rows.{row_of}
use Rattle.equity_csv.specs.declared.row.Row.{Row}

-- the seed of a security, of the number of the folder and its own
abbrev pub seed : ℕ → ℕ → ℕ
seed number security = (16 * number + security) % 2147483648

-- the random number after another one, by a linear congruence
unfoldable pub next_random : ℕ → ℕ
next_random random = (1103515245 * random + 12345) % 2147483648

-- the first price of a security
abbrev pub first_price : ℕ → ℕ
first_price security = 1000000 + 10000 * security

-- the price to which a random number leads from another one: up to 1,000 units away, and never below a dollar
unfoldable pub next_price : ℕ → ℕ → ℕ
next_price price random = max 10000 (price + random / 65536 % 2001 - 1000)

-- so many random numbers, each from the one before it
abbrev pub randoms : ℕ → ℕ → List ℕ
randoms zero random = []
randoms (suc more) random = next_random random ∷ randoms more (next_random random)

-- the first price, and then the price to which each random number leads from the one before it
abbrev pub prices : ℕ → List ℕ → List ℕ
prices price [] = price ∷ []
prices price (random ∷ randoms) = price ∷ prices (next_price price random) randoms

-- the row of a minute, of the price at which it opens and its random number
unfoldable pub row_from : ℕ → ℕ → ℕ → Row
row_from start opening random =
    let closing = next_price opening random in
    row_of start opening (max opening closing + random % 100) (min opening closing - random % 100) closing (100 + random % 900)

-- the rows of some minutes, of a random number and an opening price for each
abbrev pub rows : List ℕ → List ℕ → List ℕ → List Row
rows (start ∷ starts) (random ∷ randoms) (opening ∷ openings) = row_from start opening random ∷ rows starts randoms openings
rows _ _ _ = []

-- the rows of some minutes, behind a random number and from a price on
abbrev pub walked : ℕ → ℕ → List ℕ → List Row
walked random price starts = rows starts (randoms (length starts) random) (prices price (randoms (length starts) random))
