-- Symbols that differ stay different as securities come and go.
use Rattle.std.proofs.Common.{◌≡◌, ℕ, true, false, cond, List, [], ◌∷◌, ◌++◌, Some, refl, sym, ap, subst, ◌∙◌, inl, inr}
use Rattle.std.specs.Cmp.Lexicographic.{bytes_decides}
use Rattle.std.specs.List.{AllByRecursion, IsDistinct}
use Rattle.std.proofs.lemmas.Bool.{cases_Bool, or_parts, or_from}
use Rattle.std.proofs.lemmas.Cmp.{nat_list_eq_equiv}
use Rattle.universe_state.specs.Active.{Active, is_same, is_active, security_of, with_security, without_symbol}
use Rattle.universe_state.specs.Choice.{marked}
use Rattle.universe_state.specs.Different.{AreDifferent, symbols_of}

-- a symbol is none of these
abbrev pub Apart : List ℕ → List (List ℕ) → Type 0
Apart symbol symbols = AllByRecursion (λ other. is_same symbol other ≡ false) symbols

pub last : (s : Active) (u : List Active) → is_active u s.symbol ≡ false → with_security s u ≡ u ++ s ∷ []
last s [] new = refl
last s (first ∷ u) new =
    let parts = or_parts (is_same s.symbol first.symbol) (is_active u s.symbol) new in
    ap (λ b. cond b (s ∷ u) (first ∷ with_security s u)) parts.0 ∙ ap (λ rest. first ∷ rest) (last s u parts.1)

pub found : (s : Active) (u : List Active) → security_of s.symbol (with_security s u) ≡ Some s
found s [] = ap (λ b. cond b (Some s) (security_of s.symbol [])) (nat_list_eq_equiv.refl s.symbol)
found s (first ∷ u) =
    elim (cases_Bool (is_same s.symbol first.symbol)) [
      | inl same ↦
          ap (λ b. security_of s.symbol (cond b (s ∷ u) (first ∷ with_security s u))) same
          ∙ ap (λ b. cond b (Some s) (security_of s.symbol u)) (nat_list_eq_equiv.refl s.symbol)
      | inr other ↦
          ap (λ b. security_of s.symbol (cond b (s ∷ u) (first ∷ with_security s u))) other
          ∙ ap (λ b. cond b (Some first) (security_of s.symbol (with_security s u))) other ∙ found s u
    ]

pub kept : (symbols : List (List ℕ)) (u : List Active) → symbols_of (marked symbols u) ≡ symbols_of u
kept symbols [] = refl
kept symbols (first ∷ u) = ap (λ rest. first.symbol ∷ rest) (kept symbols u)

apart-inactive : (symbol : List ℕ) (u : List Active) → Apart symbol (symbols_of u) → is_active u symbol ≡ false
apart-inactive symbol [] apart = refl
apart-inactive symbol (first ∷ u) apart = or_from _ _ apart.0 (apart-inactive symbol u apart.1)

apart-put : (symbol : List ℕ) (s : Active) (u : List Active) → is_same symbol s.symbol ≡ false → Apart symbol (symbols_of u)
    → Apart symbol (symbols_of (with_security s u))
apart-put symbol s [] other apart = (other, tt)
apart-put symbol s (first ∷ u) other apart =
    elim (is_same s.symbol first.symbol) as (λ b. Apart symbol (symbols_of (cond b (s ∷ u) (first ∷ with_security s u)))) [
      | true ↦ (other, apart.1)
      | false ↦ (apart.0, apart-put symbol s u other apart.1)
    ]

apart-removed : (symbol gone : List ℕ) (u : List Active) → Apart symbol (symbols_of u) → Apart symbol (symbols_of (without_symbol gone u))
apart-removed symbol gone [] apart = tt
apart-removed symbol gone (first ∷ u) apart =
    elim (is_same gone first.symbol) as (λ b. Apart symbol (symbols_of (cond b u (first ∷ without_symbol gone u)))) [
      | true ↦ apart.1
      | false ↦ (apart.0, apart-removed symbol gone u apart.1)
    ]

pub put : (s : Active) (u : List Active) → AreDifferent u → AreDifferent (with_security s u)
unfolding IsDistinct
put s [] different = (tt, tt)
put s (first ∷ u) different =
    elim (cases_Bool (is_same s.symbol first.symbol)) [
      | inl same ↦
          subst (λ b. AreDifferent (cond b (s ∷ u) (first ∷ with_security s u))) (sym same)
          (subst (λ symbol. Apart symbol (symbols_of u)) (sym ((bytes_decides s.symbol first.symbol).0 same)) different.0, different.1)
      | inr other ↦
          subst (λ b. AreDifferent (cond b (s ∷ u) (first ∷ with_security s u))) (sym other)
          (apart-put first.symbol s u (nat_list_eq_equiv.symm first.symbol s.symbol ∙ other) different.0, put s u different.1)
    ]

pub removed : (symbol : List ℕ) (u : List Active) → AreDifferent u → AreDifferent (without_symbol symbol u)
unfolding IsDistinct
removed symbol [] different = tt
removed symbol (first ∷ u) different =
    elim (is_same symbol first.symbol) as (λ b. AreDifferent (cond b u (first ∷ without_symbol symbol u))) [
      | true ↦ different.1
      | false ↦ (apart-removed first.symbol symbol u different.0, removed symbol u different.1)
    ]

pub gone : (symbol : List ℕ) (u : List Active) → AreDifferent u → is_active (without_symbol symbol u) symbol ≡ false
unfolding IsDistinct
gone symbol [] different = refl
gone symbol (first ∷ u) different =
    elim (cases_Bool (is_same symbol first.symbol)) [
      | inl same ↦
          ap (λ b. is_active (cond b u (first ∷ without_symbol symbol u)) symbol) same
          ∙ apart-inactive symbol u (subst (λ s. Apart s (symbols_of u)) (sym ((bytes_decides symbol first.symbol).0 same)) different.0)
      | inr other ↦
          ap (λ b. is_active (cond b u (first ∷ without_symbol symbol u)) symbol) other
          ∙ or_from _ _ other (gone symbol u different.1)
    ]

pub chosen : (symbols : List (List ℕ)) (u : List Active) → AreDifferent u → AreDifferent (marked symbols u)
chosen symbols u different = subst (IsDistinct is_same) (sym (kept symbols u)) different
