-- The order of the rows that pass: by falling dollars, and then by the bytes of the symbol.
use Rattle.std.specs.Prelude.{ℕ, ℤ, List, [], ◌∷◌, if◌then◌else◌}
use Rattle.std.specs.Cmp.Lexicographic.{slice_cmp}
use Rattle.std.specs.declared.cmp.Ordering.{Ordering}
use Rattle.std.specs.declared.cmp.Reverse.{Reverse}
use Rattle.std.specs.Ordering.{int_cmp, is_lt, nat_cmp, ordering_then}
use Rattle.lean_items.specs.declared.coarse_row.CoarseRow.{CoarseRow}

-- what orders a row: its dollars, which fall, and its symbol
abbrev pub Rank : Type 0
Rank = Reverse ℤ × List ℕ

abbrev pub rank_of : CoarseRow → Rank
rank_of row = (record { 0 = row.dollars }, row.symbol)

abbrev pub rank_cmp : Rank → Rank → Ordering
rank_cmp x y = ordering_then (int_cmp y.0.0 x.0.0) (slice_cmp nat_cmp x.1 y.1)

-- a rank in its place among others that are in order: behind those that come before it
abbrev pub placed : Rank → List Rank → List Rank
placed rank [] = rank ∷ []
placed rank (first ∷ ranks) =
    if is_lt (rank_cmp first rank) then first ∷ placed rank ranks else rank ∷ first ∷ ranks

abbrev pub in_order : List Rank → List Rank
in_order [] = []
in_order (rank ∷ ranks) = placed rank (in_order ranks)
