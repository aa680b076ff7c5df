-- A text has one field more than it has commas.
use Rattle.std.proofs.Common.{◌≡◌, ℕ, ◌+◌, ◌-◌, ◌==◌, ◌≤◌, Bool, true, false, if◌then◌else◌, List, [], ◌∷◌, length, count_by, refl, arith}
use Rattle.std.proofs.lemmas.List.Recursion.{is_count_by}
use Rattle.lean_fixed.specs.Fields.{fields, begin_first}
use Rattle.equity_csv.proofs.FieldLemmas.{fields-begin}

abbrev is_comma : ℕ → Bool
is_comma b = b == 44

commas : List ℕ → ℕ
commas text = length (fields text) - 1

commas-cons : (b : ℕ) (text : List ℕ) → commas (b ∷ text) ≡ (if is_comma b then 1 + commas text else commas text)
unfolding commas
commas-cons b text =
    let w = fields-begin text in
    elim (b == 44) as (λ v. length (if v then [] ∷ fields text else begin_first b (fields text)) - 1 ≡ (if v then 1 + (length (fields text) - 1) else length (fields text) - 1)) [
      | true ↦ rw w.is (omega arith)
      | false ↦ rw w.is (omega arith)
    ]

commas-count : (text : List ℕ) → commas text ≡ count_by is_comma text
unfolding commas
commas-count text = is_count_by commas is_comma refl commas-cons text

pub length-fields : (text : List ℕ) → length (fields text) ≡ count_by is_comma text + 1
unfolding commas
length-fields text =
    let w = fields-begin text in
    let some : 1 ≤ length (fields text) = rw w.is (omega arith) in
    omega (arith, commas-count text)
