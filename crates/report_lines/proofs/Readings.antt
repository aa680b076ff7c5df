-- Days as numbers.
use Rattle.std.proofs.Common.{◌≡◌, ℕ, suc, ◌+◌, ◌-◌, ◌<◌, pos, List, ◌∷◌, ◌++◌, length, get_or, take, drop, Option, Some, None, ap, sym, ◌∙◌, drop-cons, arith}
use Rattle.std.proofs.lemmas.List.{take-append-drop, take_rest}
use Rattle.report_lines.specs.Words.{is_space, cut}
use Rattle.std.specs.Prelude.{unsigned_abs, option_map, position}
use Rattle.lean_fixed.specs.declared.time.Day.{Day}

pub read_number : (o : Option ℕ) (r : Option Day) → r ≡ option_map (λ n. record { 0 = pos n }) o → option_map (λ d. let d : Day = d in unsigned_abs d.0) r ≡ o
read_number None r e = ap (λ r. option_map (λ d. let d : Day = d in unsigned_abs d.0) r) e
read_number (Some n) r e = ap (λ r. option_map (λ d. let d : Day = d in unsigned_abs d.0) r) e

-- a text is what stands before a space, the space, and what stands behind it
pub joined_at : (t : List ℕ) (i : ℕ) → i < length t → get_or t i 0 ≡ 32 → take i t ++ 32 ∷ drop (suc i) t ≡ t
joined_at t i h e = ap (λ b. take i t ++ b ∷ drop (suc i) t) (sym e) ∙ ap (λ l. take i t ++ l) (sym (drop-cons t i 0 h)) ∙ take-append-drop i t

rest_at : (t : List ℕ) (i : ℕ) → take (length t - (i + 1)) (drop (i + 1) t) ≡ drop (suc i) t
rest_at t i = let k : i + 1 ≡ suc i = omega arith in take_rest t (i + 1) ∙ ap (λ n. drop n t) k

pub joined_range : (t : List ℕ) (i : ℕ) → i < length t → get_or t i 0 ≡ 32 → take i t ++ 32 ∷ take (length t - (i + 1)) (drop (i + 1) t) ≡ t
joined_range t i h e = ap (λ l. take i t ++ 32 ∷ l) (rest_at t i) ∙ joined_at t i h e

pub cut_at : (t : List ℕ) (i : ℕ) → Some i ≡ position is_space t → Some (take i t, take (length t - (i + 1)) (drop (i + 1) t)) ≡ cut t
cut_at t i e = ap (λ l. Some (take i t, l)) (rest_at t i) ∙ ap (λ o. option_map (λ i. (take i t, drop (suc i) t)) o) e
