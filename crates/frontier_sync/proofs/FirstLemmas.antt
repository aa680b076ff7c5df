-- The first head of a feed.
use Rattle.std.proofs.Common.{◌≡◌, Bool, true, false, ℤ, ◌≤ℤ◌, ◌+ℤ◌, pos, arith, refl}
use Rattle.std.specs.Prelude.{int_lt}
use Rattle.std.proofs.lemmas.Bool.{true≢false, and_parts}
use Rattle.std.proofs.lemmas.Int.{ints}
use Rattle.lean_items.specs.declared.item.Item.{Item}
use Rattle.lean_items.specs.declared.item.Item.TheVariants.{Bar, Coarse, Bad, Faulted, End}
use Rattle.lean_items.specs.Fits.{is_bar_in_range, is_row_in_range}
use Rattle.lean_items.specs.Given.{IsRow, end_of}
use Rattle.frontier_sync.proofs.RefillLemmas.{misfit-row}
use Rattle.frontier_sync.specs.Heads.{fits_first, fits_by, EndsFrom}

-- what is passed over is a row
passed-row : (start : ℤ) (item : Item) → fits_first start item ≡ false → IsRow item
passed-row start (Bar bar) h = refl
passed-row start (Coarse at row) h = refl
passed-row start (Bad bad) h = absurd (true≢false h)
passed-row start Faulted h = absurd (true≢false h)
passed-row start End h = absurd (true≢false h)

-- so is what does not fit behind another item
pub passed-over : (first : Bool) (after : ℤ) (item : Item) → fits_by first after item ≡ false → IsRow item
passed-over true after item h = passed-row after item h
passed-over false after item h = misfit-row after item h

-- a first head ends at the next moment or later
pub past-from : (start : ℤ) (item : Item) → fits_first start item ≡ true → EndsFrom (start +ℤ pos 1) (end_of item)
past-from start (Bar bar) h = after start bar.end.0 (and_parts (int_lt start bar.end.0) (is_bar_in_range bar) h).0
  where
    after : (s e : ℤ) → int_lt s e ≡ true → (s +ℤ pos 1) ≤ℤ e
    after s e lt = grind (arith, ints)
past-from start (Coarse at row) h = after start at.0 (and_parts (int_lt start at.0) (is_row_in_range at.0 row) h).0
  where
    after : (s e : ℤ) → int_lt s e ≡ true → (s +ℤ pos 1) ≤ℤ e
    after s e lt = grind (arith, ints)
past-from start (Bad bad) h = tt
past-from start Faulted h = tt
past-from start End h = tt
