-- A window over the last closes is a window over all closes, where it looks back no further.
use Rattle.std.proofs.Common.{ℕ, ◌+◌, ◌-◌, ◌<◌, ◌≤◌, pos, ◌-ℤ◌, Bool, true, false, cond, leb, ltb, ◌≡◌, List, [], ◌∷◌, ◌++◌, length, drop, get_or, Some, None, refl, sym, ap, ◌∙◌, arith, length-drop, length-append}
use Rattle.std.specs.Int.RustNames.{int_div}
use Rattle.std.proofs.lemmas.Bool.{ltb-true}
use Rattle.std.proofs.lemmas.Bool.Decides.{nat_tests}
use Rattle.std.proofs.lemmas.List.{drop-drop, get_or-drop, drop-append-le}
use Rattle.lean_fixed.specs.declared.money.Price.{Price}
use Rattle.bar_windows.specs.declared.spec.Func.{Func}
use Rattle.bar_windows.specs.declared.spec.Func.TheVariants.{Sma, Highest, Lowest, Change}
use Rattle.bar_windows.specs.declared.window.Window.{Window}
use Rattle.bar_windows.specs.Window.{last_closes, total, greatest, least, close_before, window}
use Rattle.bar_windows.specs.Kept.{reach, reach_of, kept_of, Heard}

last_drop : (n k : ℕ) (closes : List Price) → k ≤ length closes - n → last_closes n (drop k closes) ≡ last_closes n closes
last_drop n k closes within =
    let place : k + (length (drop k closes) - n) ≡ length closes - n = omega (arith, length-drop k closes) in
    drop-drop (length (drop k closes) - n) k closes ∙ ap (λ i. drop i closes) place

pub last_last : (n m : ℕ) (closes : List Price) → n ≤ m → last_closes n (last_closes m closes) ≡ last_closes n closes
last_last n m closes le = last_drop n (length closes - m) closes (omega arith)

-- the last closes with one more
pub last_push : (m : ℕ) (closes : List Price) (close : Price) → last_closes m (last_closes m closes ++ close ∷ []) ≡ last_closes m (closes ++ close ∷ [])
last_push m closes close =
    let k : ℕ = length closes - m in
    let within : k ≤ length closes = omega arith in
    let room : k ≤ length (closes ++ close ∷ []) - m = omega (arith, length-append closes (close ∷ [])) in
    ap (last_closes m) (sym (drop-append-le k closes (close ∷ []) within)) ∙ last_drop m k (closes ++ close ∷ []) room

enough : (n m : ℕ) (closes : List Price) → n ≤ m → leb n (length (last_closes m closes)) ≡ leb n (length closes)
enough n m closes le =
    let size : length (last_closes m closes) ≡ length closes - (length closes - m) = length-drop (length closes - m) closes in
    grind (arith, nat_tests)

before_last : (k m : ℕ) (closes : List Price) → k < m → k < length closes → close_before k (last_closes m closes) ≡ close_before k closes
before_last k m closes near within =
    let size : length (last_closes m closes) ≡ length closes - (length closes - m) = length-drop (length closes - m) closes in
    let place : (length closes - m) + (length (last_closes m closes) - (k + 1)) ≡ length closes - (k + 1) = omega arith in
    let zero_price : Price = record { 0 = pos 0 } in
    ap (λ (p : Price). p.0)
    (get_or-drop (length closes - m) closes (length (last_closes m closes) - (k + 1)) zero_price
    ∙ ap (λ i. get_or closes i zero_price) place)

pub window_last : (func : Func) (n m : ℕ) (closes : List Price) → reach func n ≤ m → window func n (last_closes m closes) ≡ window func n closes
window_last Sma n m closes le =
    ap (λ b. cond b (Some (int_div (total (last_closes n (last_closes m closes))) (pos n))) None) (enough n m closes le)
    ∙ ap (λ cs. cond (leb n (length closes)) (Some (int_div (total cs) (pos n))) None) (last_last n m closes le)
window_last Highest n m closes le =
    ap (λ b. cond b (greatest (last_closes n (last_closes m closes))) None) (enough n m closes le)
    ∙ ap (λ cs. cond (leb n (length closes)) (greatest cs) None) (last_last n m closes le)
window_last Lowest n m closes le =
    ap (λ b. cond b (least (last_closes n (last_closes m closes))) None) (enough n m closes le)
    ∙ ap (λ cs. cond (leb n (length closes)) (least cs) None) (last_last n m closes le)
window_last Change n m closes le = change_last n m closes (ltb n (length closes)) refl le
  where
    more : (n m : ℕ) (closes : List Price) → n + 1 ≤ m → ltb n (length (last_closes m closes)) ≡ ltb n (length closes)
    more n m closes le =
        let size : length (last_closes m closes) ≡ length closes - (length closes - m) = length-drop (length closes - m) closes in
        grind (arith, nat_tests)

    change_last : (n m : ℕ) (closes : List Price) (t : Bool) → ltb n (length closes) ≡ t → n + 1 ≤ m → window Change n (last_closes m closes) ≡ window Change n closes
    change_last n m closes true test le =
        let within : n < length closes = ltb-true n (length closes) test in
        ap (λ b. cond b (Some (close_before 0 (last_closes m closes) -ℤ close_before n (last_closes m closes))) None) (more n m closes le ∙ test)
        ∙ ap (λ z. Some (z -ℤ close_before n (last_closes m closes))) (before_last 0 m closes (omega arith) (omega arith))
        ∙ ap (λ z. Some (close_before 0 closes -ℤ z)) (before_last n m closes (omega arith) within)
        ∙ sym (ap (λ b. cond b (Some (close_before 0 closes -ℤ close_before n closes)) None) test)
    change_last n m closes false test le =
        ap (λ b. cond b (Some (close_before 0 (last_closes m closes) -ℤ close_before n (last_closes m closes))) None) (more n m closes le ∙ test)
        ∙ sym (ap (λ b. cond b (Some (close_before 0 closes -ℤ close_before n closes)) None) test)

-- the closes of a window lie within what it looks back at
length_reach : (func : Func) (n : ℕ) → n ≤ reach func n
length_reach Sma n = omega arith
length_reach Highest n = omega arith
length_reach Lowest n = omega arith
length_reach Change n = omega arith

pub heard_last : (w : Window) (m : ℕ) (closes : List Price) → reach_of w.spec ≤ m → Heard closes w → Heard (last_closes m closes) w
heard_last w m closes reach heard =
    let n : ℕ = w.spec.length in
    let near : n ≤ m = omega (arith, length_reach w.spec.func n) in
    record { length = heard.length; kept = heard.kept ∙ ap (kept_of w.spec.func n) (sym (last_last n m closes near)) }
