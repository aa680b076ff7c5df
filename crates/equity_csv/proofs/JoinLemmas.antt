-- The first of several fields stands before the first comma.
use Rattle.std.proofs.Common.{◌≡◌, ℕ, zero, suc, ◌==◌, ◌<◌, Bool, true, false, not, if◌then◌else◌, List, [], ◌∷◌, length, get_or, take, drop, refl, sym, ap, ◌∙◌, subst, arith}
use Rattle.std.specs.List.{list_all}
use Rattle.std.proofs.lemmas.Bool.Decides.{nat_tests}
use Rattle.lean_fixed.specs.Fields.{fields, begin_first}
use Rattle.equity_csv.proofs.FieldLemmas.{fields-begin}

pub record IsJoined (text field : List ℕ) (rest : List (List ℕ)) : Type 0 where
  pub within : length field < length text
  pub comma : get_or text (length field) 0 ≡ 44
  pub front : take (length field) text ≡ field
  pub back : fields (drop (suc (length field)) text) ≡ rest

joined-more : (b : ℕ) (text field : List ℕ) (rest : List (List ℕ)) → IsJoined text field rest → IsJoined (b ∷ text) (b ∷ field) rest
joined-more b text field rest j = record { within = omega (arith, j.within); comma = j.comma; front = ap (λ x. b ∷ x) j.front; back = j.back }

pub fields-joined : (text field next : List ℕ) (more : List (List ℕ)) → fields text ≡ field ∷ next ∷ more → IsJoined text field (next ∷ more)
fields-joined [] field next more e = cc
fields-joined (b ∷ text) field next more e =
    elim (b == 44) as (λ v. (b == 44) ≡ v → (if v then [] ∷ fields text else begin_first b (fields text)) ≡ field ∷ next ∷ more → IsJoined (b ∷ text) field (next ∷ more)) [
      | true ↦ λ t h.
          let none : [] ≡ field = cc in
          let here : b ≡ 44 = grind (arith, nat_tests) in
          let rest : fields text ≡ next ∷ more = cc in
          let j : IsJoined (b ∷ text) [] (next ∷ more) = record { within = omega arith; comma = here; front = refl; back = rest } in
          subst (λ (f : List ℕ). IsJoined (b ∷ text) f (next ∷ more)) none j
      | false ↦ λ t h.
          let w = fields-begin text in
          let h' : (b ∷ w.field) ∷ w.more ≡ field ∷ next ∷ more = ap (begin_first b) (sym w.is) ∙ h in
          let same : b ∷ w.field ≡ field = cc in
          let rest : w.more ≡ next ∷ more = cc in
          let whole : fields text ≡ w.field ∷ next ∷ more = w.is ∙ ap (λ x. w.field ∷ x) rest in
          subst (λ (f : List ℕ). IsJoined (b ∷ text) f (next ∷ more)) same (joined-more b text w.field (next ∷ more) (fields-joined text w.field next more whole))
    ] refl e

abbrev pub no_comma : ℕ → Bool
no_comma b = not (b == 44)

pub fields-split : (text : List ℕ) (i : ℕ) → i < length text → get_or text i 0 ≡ 44 → list_all no_comma (take i text) ≡ true → fields text ≡ take i text ∷ fields (drop (suc i) text)
fields-split [] i h c n = absurd (omega arith)
fields-split (b ∷ text) zero h c n = rw c refl
fields-split (b ∷ text) (suc i) h c n =
    let here : (b == 44) ≡ false = grind (arith, nat_tests) in
    let there : list_all no_comma (take i text) ≡ true = grind (arith, nat_tests) in
    let split = fields-split text i (omega arith) c there in
    rw here (rw split refl)
