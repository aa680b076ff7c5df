-- The first field of a text stands before its first comma.
use Rattle.std.proofs.Common.{◌≡◌, ℕ, ◌+◌, ◌<◌, ◌≤◌, ◌==◌, Bool, true, false, not, if◌then◌else◌, List, [], ◌∷◌, length, take, drop, Some, None, refl, sym, ap, ◌∙◌, add-one, one-add, arith}
use Rattle.std.specs.List.{position, position_or_len}
use Rattle.std.proofs.lemmas.Bool.Decides.{nat_tests}
use Rattle.lean_fixed.specs.Fields.{fields, begin_first}
use Rattle.coarse_csv.specs.Columns.{Five, columns_in, first_field}

abbrev is_comma : ℕ → Bool
is_comma b = b == 44

alone : (text : List ℕ) → length text ≤ position_or_len is_comma text → fields text ≡ text ∷ []
alone [] h = refl
alone (b ∷ text) h =
    elim (b == 44) as (λ v. length (b ∷ text) ≤ (if not v then 1 + position_or_len is_comma text else 0) → (if v then [] ∷ fields text else begin_first b (fields text)) ≡ (b ∷ text) ∷ []) [
      | true ↦ λ k. absurd (omega arith)
      | false ↦ λ k. ap (begin_first b) (alone text (omega arith))
    ] h

divided : (text : List ℕ) → position_or_len is_comma text < length text → fields text ≡ take (position_or_len is_comma text) text ∷ fields (drop (position_or_len is_comma text + 1) text)
divided [] h = absurd (omega arith)
divided (b ∷ text) h =
    elim (b == 44) as (λ v. (if not v then 1 + position_or_len is_comma text else 0) < length (b ∷ text) → (if v then [] ∷ fields text else begin_first b (fields text)) ≡ take (if not v then 1 + position_or_len is_comma text else 0) (b ∷ text) ∷ fields (drop ((if not v then 1 + position_or_len is_comma text else 0) + 1) (b ∷ text))) [
      | true ↦ λ k. refl
      | false ↦ λ k.
          let at = position_or_len is_comma text in
          let rest = divided text (omega arith) in
          rw (add-one (1 + at)) (rw (one-add at) (rw (add-one at) at (ap (begin_first b) rest)))
    ] h

pub fields-alone : (text : List ℕ) → position is_comma text ≡ None → fields text ≡ text ∷ []
fields-alone text none =
    let past : length text ≤ position_or_len is_comma text = grind (arith, nat_tests) in
    alone text past

pub fields-divided : (text : List ℕ) (at : ℕ) → position is_comma text ≡ Some at → fields text ≡ take at text ∷ fields (drop (at + 1) text)
fields-divided text at some =
    let is : position_or_len is_comma text ≡ at = grind (arith, nat_tests) in
    let within : at < length text = grind (arith, nat_tests) in
    rw is at (divided text (rw is within))

abbrev five : List ℕ → List ℕ → List ℕ → List ℕ → Five
five symbol close volume dollars = record { symbol = symbol; close = close; volume = volume; dollars = dollars }

last_of : (i s c v d field : List ℕ) (more rest : List (List ℕ)) → rest ≡ field ∷ more → d ≡ first_field rest → Some (five s c v d) ≡ columns_in (i ∷ s ∷ c ∷ v ∷ rest)
last_of i s c v d field more rest is e = rw is (ap (λ x. Some (five s c v x)) (rw is at e))

-- there is a first field, before a comma or alone
last_in : (i s c v d text : List ℕ) → d ≡ first_field (fields text) → Some (five s c v d) ≡ columns_in (i ∷ s ∷ c ∷ v ∷ fields text)
last_in i s c v d text e =
    elim (position is_comma text) as (λ o. position is_comma text ≡ o → Some (five s c v d) ≡ columns_in (i ∷ s ∷ c ∷ v ∷ fields text)) [
      | None ↦ λ none. last_of i s c v d text [] (fields text) (fields-alone text none) e
      | Some at ↦ λ some. last_of i s c v d (take at text) (fields (drop (at + 1) text)) (fields text) (fields-divided text at some) e
    ] refl

pub columns-five : (i s c v d text behind1 behind2 behind3 behind4 : List ℕ) → fields text ≡ i ∷ fields behind1 → fields behind1 ≡ s ∷ fields behind2 → fields behind2 ≡ c ∷ fields behind3 → fields behind3 ≡ v ∷ fields behind4 → d ≡ first_field (fields behind4) → Some (five s c v d) ≡ columns_in (fields text)
columns-five i s c v d text b1 b2 b3 b4 e1 e2 e3 e4 e =
    last_in i s c v d b4 e
    ∙ sym (ap columns_in (e1 ∙ ap (λ x. i ∷ x) (e2 ∙ ap (λ x. s ∷ x) (e3 ∙ ap (λ x. c ∷ x) e4))))
