-- The selected symbols differ: so do those of the first rows, and neither a filter nor an order brings one back.
use Rattle.std.proofs.Common.{◌≡◌, ◌≤◌, ℕ, zero, suc, Bool, true, false, cond, not, List, [], ◌∷◌, length, map, take, refl, sym, ap, subst, ◌∙◌, inl, inr, arith}
use Rattle.std.specs.List.{AllByRecursion, IsDistinct, filter}
use Rattle.std.specs.Ordering.{is_lt}
use Rattle.std.proofs.lemmas.Bool.{cases_Bool}
use Rattle.std.proofs.lemmas.Cmp.{nat_list_eq_equiv}
use Rattle.std.proofs.lemmas.List.{length-take}
use Rattle.lean_items.specs.declared.coarse_row.CoarseRow.{CoarseRow}
use Rattle.universe_rules.specs.declared.rule.UniverseRule.{UniverseRule}
use Rattle.universe_rules.specs.Passing.{is_same, first_rows, passes, passing}
use Rattle.universe_rules.specs.Ranks.{Rank, rank_of, rank_cmp, placed, in_order}
use Rattle.universe_rules.specs.Selected.{selected, symbol_of}

-- a symbol is none of these
abbrev Apart : List ℕ → List (List ℕ) → Type 0
Apart symbol symbols = AllByRecursion (λ other. is_same symbol other ≡ false) symbols

abbrev Once : List (List ℕ) → Type 0
Once symbols = IsDistinct is_same symbols

abbrev of_rows : List CoarseRow → List (List ℕ)
of_rows rows = map (λ row. row.symbol) rows

abbrev of_ranks : List Rank → List (List ℕ)
of_ranks ranks = map symbol_of ranks

apart-filter : (symbol : List ℕ) (p : CoarseRow → Bool) (rows : List CoarseRow) → Apart symbol (of_rows rows) → Apart symbol (of_rows (filter p rows))
apart-filter symbol p [] apart = tt
apart-filter symbol p (row ∷ rows) apart =
    elim (p row) as (λ b. Apart symbol (of_rows (cond b (row ∷ filter p rows) (filter p rows))))
    [ true ↦ (apart.0, apart-filter symbol p rows apart.1) | false ↦ apart-filter symbol p rows apart.1 ]

once-filter : (p : CoarseRow → Bool) (rows : List CoarseRow) → Once (of_rows rows) → Once (of_rows (filter p rows))
unfolding IsDistinct
once-filter p [] once = tt
once-filter p (row ∷ rows) once =
    elim (p row) as (λ b. Once (of_rows (cond b (row ∷ filter p rows) (filter p rows))))
    [ true ↦ (apart-filter row.symbol p rows once.0, once-filter p rows once.1) | false ↦ once-filter p rows once.1 ]

-- rows of other symbols
apart-others : (symbol : List ℕ) (rows : List CoarseRow) → Apart symbol (of_rows (filter (λ row. not (is_same symbol row.symbol)) rows))
apart-others symbol [] = tt
apart-others symbol (row ∷ rows) =
    let others : List CoarseRow = filter (λ r. not (is_same symbol r.symbol)) rows in
    elim (cases_Bool (is_same symbol row.symbol)) [
      | inl same ↦ subst (λ b. Apart symbol (of_rows (cond (not b) (row ∷ others) others))) (sym same) (apart-others symbol rows)
      | inr other ↦ subst (λ b. Apart symbol (of_rows (cond (not b) (row ∷ others) others))) (sym other) (other, apart-others symbol rows)
    ]

first-once : (rows : List CoarseRow) → Once (of_rows (first_rows rows))
unfolding IsDistinct
first-once [] = tt
first-once (row ∷ rows) = (
  apart-others row.symbol (first_rows rows),
  once-filter (λ later. not (is_same row.symbol later.symbol)) (first_rows rows) (first-once rows),
)

ranks-of : (rows : List CoarseRow) → of_ranks (map rank_of rows) ≡ of_rows rows
ranks-of [] = refl
ranks-of (row ∷ rows) = ap (λ rest. row.symbol ∷ rest) (ranks-of rows)

apart-placed : (symbol : List ℕ) (rank : Rank) (ranks : List Rank) → is_same symbol rank.1 ≡ false → Apart symbol (of_ranks ranks)
    → Apart symbol (of_ranks (placed rank ranks))
apart-placed symbol rank [] other apart = (other, tt)
apart-placed symbol rank (first ∷ ranks) other apart =
    elim (is_lt (rank_cmp first rank)) as (λ b. Apart symbol (of_ranks (cond b (first ∷ placed rank ranks) (rank ∷ first ∷ ranks)))) [
      | true ↦ (apart.0, apart-placed symbol rank ranks other apart.1)
      | false ↦ (other, apart)
    ]

apart-in-order : (symbol : List ℕ) (ranks : List Rank) → Apart symbol (of_ranks ranks) → Apart symbol (of_ranks (in_order ranks))
apart-in-order symbol [] apart = tt
apart-in-order symbol (rank ∷ ranks) apart = apart-placed symbol rank (in_order ranks) apart.0 (apart-in-order symbol ranks apart.1)

once-placed : (rank : Rank) (ranks : List Rank) → Apart rank.1 (of_ranks ranks) → Once (of_ranks ranks) → Once (of_ranks (placed rank ranks))
unfolding IsDistinct
once-placed rank [] apart once = (tt, tt)
once-placed rank (first ∷ ranks) apart once =
    elim (is_lt (rank_cmp first rank)) as (λ b. Once (of_ranks (cond b (first ∷ placed rank ranks) (rank ∷ first ∷ ranks)))) [
      | true ↦ (
        apart-placed first.1 rank ranks (nat_list_eq_equiv.symm first.1 rank.1 ∙ apart.0) once.0,
        once-placed rank ranks apart.1 once.1,
      )
      | false ↦ (apart, once)
    ]

once-in-order : (ranks : List Rank) → Once (of_ranks ranks) → Once (of_ranks (in_order ranks))
unfolding IsDistinct
once-in-order [] once = tt
once-in-order (rank ∷ ranks) once =
    once-placed rank (in_order ranks) (apart-in-order rank.1 ranks once.0) (once-in-order ranks once.1)

apart-taken : (symbol : List ℕ) (n : ℕ) (symbols : List (List ℕ)) → Apart symbol symbols → Apart symbol (take n symbols)
apart-taken symbol zero symbols apart = tt
apart-taken symbol (suc n) [] apart = tt
apart-taken symbol (suc n) (s ∷ symbols) apart = (apart.0, apart-taken symbol n symbols apart.1)

once-taken : (n : ℕ) (symbols : List (List ℕ)) → Once symbols → Once (take n symbols)
unfolding IsDistinct
once-taken zero symbols once = tt
once-taken (suc n) [] once = tt
once-taken (suc n) (s ∷ symbols) once = (apart-taken s n symbols once.0, once-taken n symbols once.1)

pub selected-once : (rows : List CoarseRow) (rule : UniverseRule) → Once (selected rows rule)
selected-once rows rule =
    let ranks : List Rank = map rank_of (passing rule rows) in
    once-taken rule.top (of_ranks (in_order ranks))
    (once-in-order ranks (subst Once (sym (ranks-of (passing rule rows))) (once-filter (passes rule) (first_rows rows) (first-once rows))))

pub selected-few : (rows : List CoarseRow) (rule : UniverseRule) → length (selected rows rule) ≤ rule.top
selected-few rows rule =
    let symbols : List (List ℕ) = of_ranks (in_order (map rank_of (passing rule rows))) in
    omega (arith, length-take rule.top symbols)
