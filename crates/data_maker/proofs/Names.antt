-- The number of a security, and its part of the algorithm file.
use Rattle.std.proofs.Common.{◌≡◌, ℕ, ◌+◌, ◌-◌, ◌/◌, ◌%◌, ◌<◌, ◌≤◌, List, [], ◌∷◌, ◌++◌, append_assoc, ap, ◌∙◌, arith}
use Rattle.std.specs.Prelude.{codes, decimal}
use Rattle.std.proofs.lemmas.Fmt.{decimal_digit, decimal_step}
use Rattle.data_maker.specs.Texts.{symbol_of, security_text}

pub two_digits : (n : ℕ) → 10 ≤ n → n < 16 → decimal n ≡ 49 ∷ (48 + (n - 10)) ∷ []
two_digits n low high =
    let tens : n / 10 ≡ 1 = omega (arith, low, high) in
    let ones : n % 10 ≡ n - 10 = omega (arith, low, high) in
    decimal_step n low (omega (arith, high))
    ∙ ap (λ t. decimal t ++ ((48 + n % 10) ∷ [])) tens
    ∙ ap (λ ds. ds ++ ((48 + n % 10) ∷ [])) (decimal_digit 1 (omega arith))
    ∙ ap (λ o. 49 ∷ (48 + o) ∷ []) ones

-- three pieces were appended
pieces : (out front back first second third name other : List ℕ) → first ≡ out ++ front → second ≡ first ++ name → third ≡ second ++ back → name ≡ other
    → third ≡ out ++ (front ++ (other ++ back))
pieces out front back first second third name other a b d n =
    d
    ∙ ap (λ (x : List ℕ). x ++ back) b
    ∙ ap (λ (x : List ℕ). (x ++ name) ++ back) a
    ∙ append_assoc (out ++ front) name back
    ∙ append_assoc out front (name ++ back)
    ∙ ap (λ (x : List ℕ). out ++ (front ++ (x ++ back))) n

pub security-appended : (out first second third name : List ℕ) (security : ℕ)
    → first ≡ out ++ codes "[[securities]]\nsymbol = \""
    → second ≡ first ++ name
    → third ≡ second ++ codes "\"\nresolution = \"minute\"\nperiod = 15\n"
    → name ≡ symbol_of security
    → third ≡ out ++ security_text security
unfolding security_text
security-appended out first second third name security a b d n =
    pieces out (codes "[[securities]]\nsymbol = \"") (codes "\"\nresolution = \"minute\"\nperiod = 15\n") first second third name (symbol_of security) a b d n
