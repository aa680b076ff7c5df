-- A book in range, whatever it was asked for.
use Rattle.std.specs.Prelude.{ℕ}
use Rattle.clock_book.specs.Books.{Book}
use Rattle.clock_book.specs.InRange.{IsInRange}

-- the numbers of a book lie in their ranges, and what was asked for within some number either way
abbrev pub Ranged : Book → Type 0
Ranged book = (most : ℕ) × IsInRange most book
