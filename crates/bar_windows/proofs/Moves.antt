-- The last closes of a window as the next close comes, and their sum.
use Rattle.std.proofs.Common.{ℕ, suc, ◌-◌, ◌*◌, ◌<◌, ◌≤◌, pos, ◌+ℤ◌, ◌-ℤ◌, ◌≤ℤ◌, cond, leb, ◌≡◌, List, [], ◌∷◌, ◌++◌, length, drop, get_or, Option, Some, None, All, IfSome, refl, sym, ap, ◌∙◌, subst, inl, inr, arith, drop-cons, length-drop, length-append}
use Rattle.std.specs.List.{slice_get}
use Rattle.std.specs.Option.{option_map_or}
use Rattle.std.proofs.lemmas.Bool.{cases_Bool, leb-true, leb-false}
use Rattle.std.proofs.lemmas.Int.{ints}
use Rattle.std.proofs.lemmas.List.{drop-append-le}
use Rattle.std.proofs.lemmas.List.Elements.{All-head, All-tail, All-drop, All-get_or}
use Rattle.std.proofs.lemmas.Option.{slice_get-get_or, get_or_from_slice_get, none-some}
use Rattle.lean_fixed.specs.Ranges.{IsPrice, most_price}
use Rattle.lean_fixed.specs.declared.money.Price.{Price}
use Rattle.bar_windows.specs.Window.{last_closes, total}
use Rattle.bar_windows.specs.Kept.{MovesOn}

-- the close that leaves
abbrev pub leaving_of : ℕ → List Price → Option Price
leaving_of n closes = cond (leb n (length closes)) (slice_get closes (length closes - n)) None

is_full : (n : ℕ) (closes : List Price) (x : Price) → Some x ≡ leaving_of n closes → (n ≤ length closes) × (slice_get closes (length closes - n) ≡ Some x)
is_full n closes x is =
    elim (cases_Bool (leb n (length closes))) [
      | inl full ↦ (leb-true n (length closes) full, sym (is ∙ ap (λ b. cond b (slice_get closes (length closes - n)) None) full))
      | inr part ↦ absurd (none-some x (sym (is ∙ ap (λ b. cond b (slice_get closes (length closes - n)) None) part)))
    ]

is_part : (n : ℕ) (closes : List Price) → 1 ≤ n → None ≡ leaving_of n closes → length closes < n
is_part n [] positive is = omega arith
is_part n (first ∷ closes) positive is =
    elim (cases_Bool (leb n (length (first ∷ closes)))) [
      | inl full ↦
          (let fits : n ≤ length (first ∷ closes) = leb-true n (length (first ∷ closes)) full in
          let within : length (first ∷ closes) - n < length (first ∷ closes) = omega arith in
          absurd (none-some (get_or (first ∷ closes) (length (first ∷ closes) - n) first)
          (is ∙ ap (λ b. cond b (slice_get (first ∷ closes) (length (first ∷ closes) - n)) None) full
          ∙ slice_get-get_or (first ∷ closes) (length (first ∷ closes) - n) first within)))
      | inr part ↦ leb-false n (length (first ∷ closes)) part
    ]

moves_at : (n : ℕ) (closes : List Price) (close : Price) (leaving : Option Price) → 1 ≤ n → leaving ≡ leaving_of n closes
    → MovesOn leaving (last_closes n closes) (last_closes n (closes ++ close ∷ [])) close
moves_at n closes close None positive is =
    let short : length closes < n = is_part n closes positive is in
    let all : length closes - n ≡ 0 = omega arith in
    let after : length (closes ++ close ∷ []) - n ≡ 0 = omega (arith, length-append closes (close ∷ [])) in
    ap (λ k. drop k (closes ++ close ∷ [])) after ∙ sym (ap (λ k. drop k closes ++ close ∷ []) all)
moves_at n closes close (Some x) positive is =
    let full = is_full n closes x is in
    let k : ℕ = length closes - n in
    let fits : n ≤ length closes = full.0 in
    let within : k < length closes = omega arith in
    let here : get_or closes k x ≡ x = get_or_from_slice_get closes k x x full.1 in
    let next : length (closes ++ close ∷ []) - n ≡ suc k = omega (arith, length-append closes (close ∷ [])) in (
      drop (suc k) closes,
      drop-cons closes k x within ∙ ap (λ y. y ∷ drop (suc k) closes) here,
      ap (λ i. drop i (closes ++ close ∷ [])) next ∙ drop-append-le (suc k) closes (close ∷ []) (omega arith),
    )

pub moves_on : (n : ℕ) (closes : List Price) (close : Price) → 1 ≤ n
    → MovesOn (leaving_of n closes) (last_closes n closes) (last_closes n (closes ++ close ∷ [])) close
moves_on n closes close positive = moves_at n closes close (leaving_of n closes) positive refl

pub length_last : (n : ℕ) (closes : List Price) → length (last_closes n closes) ≤ n
length_last n closes = omega (arith, length-drop (length closes - n) closes)

-- ---- sums

total_push : (xs : List Price) (c : Price) → total (xs ++ c ∷ []) ≡ total xs +ℤ c.0
total_push [] c = omega (arith, ints)
total_push (x ∷ xs) c = let rest : total (xs ++ c ∷ []) ≡ total xs +ℤ c.0 = total_push xs c in omega (arith, ints)

pub moved_total : (leaving : Option Price) (before after : List Price) (close : Price) → MovesOn leaving before after close
    → total after ≡ (total before +ℤ close.0) -ℤ option_map_or (λ left. left.0) leaving (pos 0)
moved_total None before after close moves =
    ap total moves ∙ total_push before close ∙ omega (arith, ints)
moved_total (Some x) before after close moves =
    let rest : List Price = moves.0 in
    let was : total before ≡ x.0 +ℤ total rest = ap total moves.1 in
    let now : total after ≡ total rest +ℤ close.0 = ap total moves.2 ∙ total_push rest close in
    omega (arith, ints)

abbrev pub ArePrices : List Price → Type 0
ArePrices closes = All (λ close. IsPrice close.0) closes

pub total_low : (xs : List Price) → ArePrices xs → pos 0 ≤ℤ total xs
total_low [] prices = omega (arith, ints)
total_low (x ∷ xs) prices =
    let here : IsPrice x.0 = All-head (λ close. IsPrice close.0) x xs prices in
    let rest : pos 0 ≤ℤ total xs = total_low xs (All-tail (λ close. IsPrice close.0) x xs prices) in
    omega (arith, ints, here.0)

pub total_high : (xs : List Price) → ArePrices xs → total xs ≤ℤ pos (length xs * most_price)
total_high [] prices = omega (arith, ints)
total_high (x ∷ xs) prices =
    let here : IsPrice x.0 = All-head (λ close. IsPrice close.0) x xs prices in
    let rest : total xs ≤ℤ pos (length xs * most_price) = total_high xs (All-tail (λ close. IsPrice close.0) x xs prices) in
    omega (arith, ints, here.1)

pub total_within : (n : ℕ) (closes : List Price) → n ≤ 1000 → ArePrices closes
    → (pos 0 ≤ℤ total (last_closes n closes)) × (total (last_closes n closes) ≤ℤ pos 10000000000000)
total_within n closes small prices =
    let some : ArePrices (last_closes n closes) = All-drop (λ close. IsPrice close.0) (length closes - n) closes prices in
    let short : length (last_closes n closes) ≤ n = length_last n closes in
    let high : total (last_closes n closes) ≤ℤ pos (length (last_closes n closes) * most_price) = total_high (last_closes n closes) some in
    (total_low (last_closes n closes) some, omega (arith, ints))

pub leaving_price : (n : ℕ) (closes : List Price) (left : Option Price) → 1 ≤ n → ArePrices closes → left ≡ leaving_of n closes → IfSome left (λ close. IsPrice close.0)
leaving_price n closes None positive prices is = tt
leaving_price n closes (Some x) positive prices is =
    let full = is_full n closes x is in
    let fits : n ≤ length closes = full.0 in
    let within : length closes - n < length closes = omega arith in
    subst (λ close. IsPrice close.0) (get_or_from_slice_get closes (length closes - n) x x full.1)
    (All-get_or (λ close. IsPrice close.0) closes (length closes - n) x within prices)
