-- The rows that pass, with one row more.
use Rattle.std.proofs.Common.{ℕ, ◌+◌, ◌<◌, Bool, true, false, cond, not, ◌&&◌, ◌||◌, ◌≡◌, List, [], ◌∷◌, ◌++◌, length, map, take, get_or, refl, sym, ap, ◌∙◌}
use Rattle.std.specs.List.{filter, list_any}
use Rattle.std.proofs.lemmas.List.{take_more, map-append}
use Rattle.std.proofs.lemmas.List.Elements.{filter-append}
use Rattle.std.proofs.lemmas.List.Folds.{list_any-append}
use Rattle.lean_items.specs.declared.coarse_row.CoarseRow.{CoarseRow}
use Rattle.universe_rules.specs.declared.rule.UniverseRule.{UniverseRule}
use Rattle.universe_rules.specs.Passing.{is_same, first_rows, passes, passing}
use Rattle.universe_rules.specs.Ranks.{Rank, rank_of}

-- a row of this symbol was seen
abbrev pub seen_in : List ℕ → List CoarseRow → Bool
seen_in symbol rows = list_any (λ row. is_same row.symbol symbol) rows

new_last : (q : CoarseRow → Bool) (row : CoarseRow) (e h : Bool) → q row ≡ not e → filter q (cond h [] (row ∷ [])) ≡ cond (e || h) [] (row ∷ [])
new_last q row true true is = refl
new_last q row true false is = ap (λ b. cond b (row ∷ []) []) is
new_last q row false true is = refl
new_last q row false false is = ap (λ b. cond b (row ∷ []) []) is

first_rows-push : (rows : List CoarseRow) (row : CoarseRow) → first_rows (rows ++ row ∷ []) ≡ first_rows rows ++ cond (seen_in row.symbol rows) [] (row ∷ [])
first_rows-push [] row = refl
first_rows-push (first ∷ rows) row =
    let q : CoarseRow → Bool = λ later. not (is_same first.symbol later.symbol) in
    ap (λ rest. first ∷ rest)
    (ap (filter q) (first_rows-push rows row) ∙ filter-append q (first_rows rows) (cond (seen_in row.symbol rows) [] (row ∷ []))
    ∙ ap (λ rest. filter q (first_rows rows) ++ rest) (new_last q row (is_same first.symbol row.symbol) (seen_in row.symbol rows) refl))

one_row : (rule : UniverseRule) (row : CoarseRow) (seen : Bool)
    → map rank_of (filter (passes rule) (cond seen [] (row ∷ []))) ≡ cond (not seen && passes rule row) (rank_of row ∷ []) []
one_row rule row true = refl
one_row rule row false = passed rule row (passes rule row) refl
  where
    passed : (rule : UniverseRule) (row : CoarseRow) (p : Bool) → passes rule row ≡ p
        → map rank_of (cond (passes rule row) (row ∷ []) []) ≡ cond (passes rule row) (rank_of row ∷ []) []
    passed rule row true is = ap (λ b. map rank_of (cond b (row ∷ []) [])) is ∙ sym (ap (λ b. cond b (rank_of row ∷ []) []) is)
    passed rule row false is = ap (λ b. map rank_of (cond b (row ∷ []) [])) is ∙ sym (ap (λ b. cond b (rank_of row ∷ []) []) is)

ranks-push : (rule : UniverseRule) (rows : List CoarseRow) (row : CoarseRow)
    → map rank_of (passing rule (rows ++ row ∷ []))
    ≡ map rank_of (passing rule rows) ++ cond (not (seen_in row.symbol rows) && passes rule row) (rank_of row ∷ []) []
ranks-push rule rows row =
    ap (λ firsts. map rank_of (filter (passes rule) firsts)) (first_rows-push rows row)
    ∙ ap (map rank_of) (filter-append (passes rule) (first_rows rows) (cond (seen_in row.symbol rows) [] (row ∷ [])))
    ∙ map-append rank_of (passing rule rows) (filter (passes rule) (cond (seen_in row.symbol rows) [] (row ∷ [])))
    ∙ ap (λ rest. map rank_of (passing rule rows) ++ rest) (one_row rule row (seen_in row.symbol rows))

-- a loop's step
pub ranks_more : (rule : UniverseRule) (rows : List CoarseRow) (i : ℕ) (row : CoarseRow) (first : Bool) (before after : List Rank) → i < length rows
    → row ≡ get_or rows i row → first ≡ not (seen_in row.symbol (take i rows)) → before ≡ map rank_of (passing rule (take i rows))
    → after ≡ before ++ cond (first && passes rule row) (rank_of row ∷ []) [] → after ≡ map rank_of (passing rule (take (i + 1) rows))
ranks_more rule rows i row first before after within here is was now =
    now ∙ ap (λ (b : Bool). before ++ cond (b && passes rule row) (rank_of row ∷ []) []) is
    ∙ ap (λ rest. rest ++ cond (not (seen_in row.symbol (take i rows)) && passes rule row) (rank_of row ∷ []) []) was
    ∙ sym (ranks-push rule (take i rows) row)
    ∙ ap (λ front. map rank_of (passing rule front)) (sym (take_more rows i row within ∙ ap (λ r. take i rows ++ r ∷ []) (sym here)))

pub seen_more : (rows : List CoarseRow) (i : ℕ) (row : CoarseRow) (q : List ℕ) (before after : Bool) → i < length rows → row ≡ get_or rows i row
    → before ≡ seen_in q (take i rows) → after ≡ cond (is_same row.symbol q) true before → after ≡ seen_in q (take (i + 1) rows)
seen_more rows i row q before after within here was now =
    now ∙ ap (cond (is_same row.symbol q) true) was ∙ joined (is_same row.symbol q) (seen_in q (take i rows))
    ∙ sym (list_any-append (λ r. is_same r.symbol q) (take i rows) (row ∷ []))
    ∙ ap (seen_in q) (sym (take_more rows i row within ∙ ap (λ r. take i rows ++ r ∷ []) (sym here)))
  where
    joined : (e s : Bool) → cond e true s ≡ (s || (e || false))
    joined true true = refl
    joined true false = refl
    joined false true = refl
    joined false false = refl
