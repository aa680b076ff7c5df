-- The table of what is held.
use Rattle.std.proofs.Common.{◌≡◌, ℕ, Bool, true, false, cond, ◌||◌, List, [], ◌∷◌, ◌++◌, Option, Some, None, refl, sym, ap, ◌∙◌, true≢false}
use Rattle.std.specs.Prelude.{unwrap_or, is_some}
use Rattle.std.specs.Map.{lookup}
use Rattle.std.proofs.lemmas.List.{map-append}
use Rattle.portfolio.specs.declared.totals.Holding.{Holding}
use Rattle.portfolio.specs.Symbols.{same_symbol, is_among}
use Rattle.portfolio.specs.Account.{holding_in, keys_in, nothing_held}

-- a symbol has an entry where it is among the keys
pub found_among : (s : List ℕ) (entries : List (List ℕ × Holding)) → is_some (lookup (same_symbol s) entries) ≡ is_among s (keys_in entries)
found_among s [] = refl
found_among s (entry ∷ entries) = step (same_symbol s entry.0) (found_among s entries)
  where
    step : (b : Bool) → is_some (lookup (same_symbol s) entries) ≡ is_among s (keys_in entries)
        → is_some (cond b (Some entry.1) (lookup (same_symbol s) entries)) ≡ (b || is_among s (keys_in entries))
    step true h = refl
    step false h = h

pub not_absent : (s : List ℕ) (entries : List (List ℕ × Holding)) → is_among s (keys_in entries) ≡ true → lookup (same_symbol s) entries ≡ None → ⊥
not_absent s entries h e = true≢false (sym h ∙ sym (found_among s entries) ∙ ap is_some e)

pub absent : (s : List ℕ) (entries : List (List ℕ × Holding)) → is_among s (keys_in entries) ≡ false → lookup (same_symbol s) entries ≡ None
absent s entries h = step (lookup (same_symbol s) entries) (found_among s entries ∙ h)
  where
    step : (o : Option Holding) → is_some o ≡ false → o ≡ None
    step None e = refl
    step (Some v) e = absurd (true≢false e)

-- an entry of nothing more
pub holding_in-append : (entries : List (List ℕ × Holding)) (k s : List ℕ) → holding_in (entries ++ (k, nothing_held) ∷ []) s ≡ holding_in entries s
holding_in-append [] k s = step (same_symbol s k)
  where
    step : (b : Bool) → unwrap_or (cond b (Some nothing_held) None) nothing_held ≡ nothing_held
    step true = refl
    step false = refl
holding_in-append (entry ∷ entries) k s = step (same_symbol s entry.0) (holding_in-append entries k s)
  where
    step : (b : Bool) → holding_in (entries ++ (k, nothing_held) ∷ []) s ≡ holding_in entries s
        → unwrap_or (cond b (Some entry.1) (lookup (same_symbol s) (entries ++ (k, nothing_held) ∷ []))) nothing_held
        ≡ unwrap_or (cond b (Some entry.1) (lookup (same_symbol s) entries)) nothing_held
    step true h = refl
    step false h = h

pub keys_in-append : (entries : List (List ℕ × Holding)) (k : List ℕ) (v : Holding) → keys_in (entries ++ (k, v) ∷ []) ≡ keys_in entries ++ k ∷ []
keys_in-append entries k v = map-append (λ e. e.0) entries ((k, v) ∷ [])
