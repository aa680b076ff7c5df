-- The candidates of some closes: they are in order, the first is the extreme, and they follow one close more or less.
use Rattle.std.proofs.Common.{ℕ, ◌+◌, ◌-◌, ◌<◌, ◌≤◌, ℤ, Bool, true, false, cond, ◌&&◌, ◌≡◌, List, [], ◌∷◌, ◌++◌, length, take, Option, Some, None, refl, sym, ap, ◌∙◌, subst, inl, inr, arith, append-nil, suc, drop, get_or, drop-cons}
use Rattle.std.specs.Int.RustNames.{int_le}
use Rattle.std.specs.List.{filter, list_all}
use Rattle.std.specs.Ordering.{int_eq}
use Rattle.std.proofs.lemmas.Bool.{cases_Bool, and_parts, and_from, true≢false}
use Rattle.std.proofs.lemmas.Bool.Decides.{Decides-int_eq}
use Rattle.std.proofs.lemmas.Cmp.{int_eq_equiv}
use Rattle.std.proofs.lemmas.Int.{ints}
use Rattle.std.proofs.lemmas.List.{take-append-drop, drop_all}
use Rattle.std.proofs.lemmas.Option.{slice_get_within, get_or_from_slice_get, slice_get-get_or, none-some}
use Rattle.std.proofs.lemmas.List.Elements.{filter-append}
use Rattle.std.proofs.lemmas.List.Folds.{list_all-append}
use Rattle.circular_buffer.specs.Buffer.{Buffer, buffer, last_item, keep_last}
use Rattle.lean_fixed.specs.declared.money.Price.{Price}
use Rattle.bar_windows.specs.declared.spec.Func.{Func}
use Rattle.bar_windows.specs.declared.spec.Func.TheVariants.{Sma, Highest, Lowest, Change}
use Rattle.bar_windows.specs.Kept.{reaches, candidates, without, is_ranked, MovesOn}

-- ---- `reaches` is an order in which any two closes stand

le_refl : (a : ℤ) → int_le a a ≡ true
le_refl a = grind (arith, ints)

le_trans : (a b c : ℤ) → int_le a b ≡ true → int_le b c ≡ true → int_le a c ≡ true
le_trans a b c s t = grind (arith, ints)

le_total : (a b : ℤ) → int_le a b ≡ false → int_le b a ≡ true
le_total a b f = grind (arith, ints)

same_price : (a b : Price) → a.0 ≡ b.0 → a ≡ b
same_price a b e = ap (λ (z : ℤ). let p : Price = record { 0 = z } in p) e

pub same_buffer : (b : Buffer Price) (xs : List Price) (n : ℕ) → b.items ≡ xs → b.capacity ≡ n → b ≡ buffer xs n
same_buffer b xs n e f = ap (λ (ys : List Price). buffer ys b.capacity) e ∙ ap (λ (m : ℕ). buffer xs m) f

pub reaches_itself : (func : Func) (a : Price) → reaches func a a ≡ true
reaches_itself Sma a = le_refl a.0
reaches_itself Highest a = le_refl a.0
reaches_itself Lowest a = le_refl a.0
reaches_itself Change a = le_refl a.0

pub reaches_on : (func : Func) (a b c : Price) → reaches func a b ≡ true → reaches func b c ≡ true → reaches func a c ≡ true
reaches_on Sma a b c s t = le_trans c.0 b.0 a.0 t s
reaches_on Highest a b c s t = le_trans c.0 b.0 a.0 t s
reaches_on Lowest a b c s t = le_trans a.0 b.0 c.0 s t
reaches_on Change a b c s t = le_trans c.0 b.0 a.0 t s

pub reaches_back : (func : Func) (a b : Price) → reaches func a b ≡ false → reaches func b a ≡ true
reaches_back Sma a b f = le_total b.0 a.0 f
reaches_back Highest a b f = le_total b.0 a.0 f
reaches_back Lowest a b f = le_total a.0 b.0 f
reaches_back Change a b f = le_total b.0 a.0 f

-- ---- tests of all elements

filter_all : (p : Price → Bool) (xs : List Price) → list_all p xs ≡ true → filter p xs ≡ xs
filter_all p [] all = refl
filter_all p (x ∷ xs) all =
    let parts = and_parts (p x) (list_all p xs) all in
    ap (λ b. cond b (x ∷ filter p xs) (filter p xs)) parts.0 ∙ ap (λ rest. x ∷ rest) (filter_all p xs parts.1)

-- ---- the candidates

pub candidates_with : (func : Func) (x : Price) (xs : List Price) → list_all (reaches func x) xs ≡ true → candidates func (x ∷ xs) ≡ x ∷ candidates func xs
candidates_with func x xs all = ap (λ b. cond b (x ∷ candidates func xs) (candidates func xs)) all

pub candidates_past : (func : Func) (x : Price) (xs : List Price) → list_all (reaches func x) xs ≡ false → candidates func (x ∷ xs) ≡ candidates func xs
candidates_past func x xs some = ap (λ b. cond b (x ∷ candidates func xs) (candidates func xs)) some

-- they are some of the closes
pub all_kept : (func : Func) (p : Price → Bool) (xs : List Price) → list_all p xs ≡ true → list_all p (candidates func xs) ≡ true
all_kept func p [] all = refl
all_kept func p (x ∷ xs) all =
    let parts = and_parts (p x) (list_all p xs) all in
    elim (cases_Bool (list_all (reaches func x) xs)) [
      | inl yes' ↦ ap (list_all p) (candidates_with func x xs yes') ∙ and_from (p x) (list_all p (candidates func xs)) parts.0 (all_kept func p xs parts.1)
      | inr no' ↦ ap (list_all p) (candidates_past func x xs no') ∙ all_kept func p xs parts.1
    ]

pub length_kept : (func : Func) (xs : List Price) → length (candidates func xs) ≤ length xs
length_kept func [] = omega arith
length_kept func (x ∷ xs) =
    let shorter : length (candidates func xs) ≤ length xs = length_kept func xs in
    elim (cases_Bool (list_all (reaches func x) xs)) [
      | inl yes' ↦ omega (arith, ap length (candidates_with func x xs yes'))
      | inr no' ↦ omega (arith, ap length (candidates_past func x xs no'))
    ]

-- each of them reaches those after it
pub ranked_candidates : (func : Func) (xs : List Price) → is_ranked func (candidates func xs) ≡ true
ranked_candidates func [] = refl
ranked_candidates func (x ∷ xs) =
    elim (cases_Bool (list_all (reaches func x) xs)) [
      | inl yes' ↦ ap (is_ranked func) (candidates_with func x xs yes')
          ∙ and_from (list_all (reaches func x) (candidates func xs)) (is_ranked func (candidates func xs)) (all_kept func (reaches func x) xs yes') (ranked_candidates func xs)
      | inr no' ↦ ap (is_ranked func) (candidates_past func x xs no') ∙ ranked_candidates func xs
    ]

-- a close that some later one lies beyond, which another reaches
beyond : (func : Func) (x f : Price) (xs : List Price) → list_all (reaches func x) xs ≡ false → list_all (reaches func f) xs ≡ true → reaches func f x ≡ true
beyond func x f [] some all = absurd (true≢false some)
beyond func x f (y ∷ ys) some all =
    let parts = and_parts (reaches func f y) (list_all (reaches func f) ys) all in
    elim (cases_Bool (reaches func x y)) [
      | inl yes' ↦ beyond func x f ys (sym (ap (λ b. b && list_all (reaches func x) ys) yes') ∙ some) parts.1
      | inr no' ↦ reaches_on func f y x parts.0 (reaches_back func x y no')
    ]

-- the first of them reaches every close
pub first_reaches : (func : Func) (xs : List Price) (f : Price) (rest : List Price) → candidates func xs ≡ f ∷ rest → list_all (reaches func f) xs ≡ true
first_reaches func [] f rest e = absurd (cc)
first_reaches func (x ∷ xs) f rest e =
    elim (cases_Bool (list_all (reaches func x) xs)) [
      | inl yes' ↦
          (let whole : x ∷ candidates func xs ≡ f ∷ rest = sym (candidates_with func x xs yes') ∙ e in
          let same : x ≡ f = cc in
          subst (λ g. list_all (reaches func g) (x ∷ xs) ≡ true) same
          (and_from (reaches func x x) (list_all (reaches func x) xs) (reaches_itself func x) yes'))
      | inr no' ↦
          (let all : list_all (reaches func f) xs ≡ true = first_reaches func xs f rest (sym (candidates_past func x xs no') ∙ e) in
          and_from (reaches func f x) (list_all (reaches func f) xs) (beyond func x f xs no' all) all)
    ]

-- one close more
pub candidates_push : (func : Func) (xs : List Price) (c : Price) → candidates func (xs ++ c ∷ []) ≡ filter (λ x. reaches func x c) (candidates func xs) ++ c ∷ []
candidates_push func [] c = refl
candidates_push func (x ∷ xs) c =
    let p : Price → Bool = λ y. reaches func y c in
    let whole = list_all-append (reaches func x) xs (c ∷ []) in
    let kept : candidates func (xs ++ c ∷ []) ≡ filter p (candidates func xs) ++ c ∷ [] = candidates_push func xs c in
    let R : List Price = candidates func (xs ++ c ∷ []) in
    ap (λ b. cond b (x ∷ R) R) whole
    ∙ ap (λ rest. cond (list_all (reaches func x) xs && (reaches func x c && true)) (x ∷ rest) rest) kept
    ∙ pushed x (list_all (reaches func x) xs) (reaches func x c) p (candidates func xs) c refl
  where
    pushed : (x : Price) (a t : Bool) (p : Price → Bool) (ks : List Price) (c : Price) → p x ≡ t
        → cond (a && (t && true)) (x ∷ (filter p ks ++ c ∷ [])) (filter p ks ++ c ∷ []) ≡ filter p (cond a (x ∷ ks) ks) ++ c ∷ []
    pushed x false t p ks c e = refl
    pushed x true true p ks c e = ap (λ b. cond b (x ∷ filter p ks) (filter p ks) ++ c ∷ []) (sym e)
    pushed x true false p ks c e = ap (λ b. cond b (x ∷ filter p ks) (filter p ks) ++ c ∷ []) (sym e)

-- the first close less
pub without_first : (func : Func) (x : Price) (xs : List Price) → without (Some x) (candidates func (x ∷ xs)) ≡ candidates func xs
without_first func x xs =
    elim (cases_Bool (list_all (reaches func x) xs)) [
      | inl yes' ↦ ap (without (Some x)) (candidates_with func x xs yes')
          ∙ ap (λ b. cond b (candidates func xs) (x ∷ candidates func xs)) (int_eq_equiv.refl x.0)
      | inr no' ↦ ap (without (Some x)) (candidates_past func x xs no') ∙ stays func x xs (candidates func xs) refl no'
    ]
  where
    stays : (func : Func) (x : Price) (xs ks : List Price) → candidates func xs ≡ ks → list_all (reaches func x) xs ≡ false → without (Some x) ks ≡ ks
    stays func x xs [] e no' = refl
    stays func x xs (f ∷ rest) e no' =
        elim (cases_Bool (int_eq f.0 x.0)) [
          | inl same ↦ absurd (true≢false (sym (subst (λ g. list_all (reaches func g) xs ≡ true) (same_price f x ((Decides-int_eq f.0 x.0).0 same)) (first_reaches func xs f rest e)) ∙ no'))
          | inr other ↦ ap (λ b. cond b rest (f ∷ rest)) other
        ]

-- ---- the candidates behind which a close lies beyond them

pub last_split : (xs : List Price) (last : Price) → last_item xs ≡ Some last → xs ≡ take (length xs - 1) xs ++ last ∷ []
last_split xs last is =
    let i : ℕ = length xs - 1 in
    let within : i < length xs = slice_get_within xs i last is in
    let here : get_or xs i last ≡ last = get_or_from_slice_get xs i last last is in
    let past : length xs ≤ i + 1 = omega arith in
    sym (ap (λ back. take i xs ++ back) (drop_from_last xs i last within here past) ∙ take-append-drop i xs)
  where
    drop_from_last : (xs : List Price) (i : ℕ) (last : Price) → i < length xs → get_or xs i last ≡ last → length xs ≤ i + 1 → last ∷ [] ≡ drop i xs
    drop_from_last xs i last within here past =
        sym (drop-cons xs i last within ∙ ap (λ x. x ∷ drop (suc i) xs) here ∙ ap (λ back. last ∷ back) (drop_all (suc i) xs (omega arith)))

ranked_front : (func : Func) (xs ys : List Price) → is_ranked func (xs ++ ys) ≡ true → is_ranked func xs ≡ true
ranked_front func [] ys ranked = refl
ranked_front func (x ∷ xs) ys ranked =
    let parts = and_parts (list_all (reaches func x) (xs ++ ys)) (is_ranked func (xs ++ ys)) ranked in
    let here = and_parts (list_all (reaches func x) xs) (list_all (reaches func x) ys) (sym (list_all-append (reaches func x) xs ys) ∙ parts.0) in
    and_from (list_all (reaches func x) xs) (is_ranked func xs) here.0 (ranked_front func xs ys parts.1)

all_reach : (func : Func) (xs : List Price) (last c : Price) → is_ranked func (xs ++ last ∷ []) ≡ true → reaches func last c ≡ true
    → list_all (λ x. reaches func x c) (xs ++ last ∷ []) ≡ true
all_reach func [] last c ranked here = and_from (reaches func last c) true here refl
all_reach func (x ∷ xs) last c ranked here =
    let parts = and_parts (list_all (reaches func x) (xs ++ last ∷ [])) (is_ranked func (xs ++ last ∷ [])) ranked in
    let ends = and_parts (list_all (reaches func x) xs) (reaches func x last && true) (sym (list_all-append (reaches func x) xs (last ∷ [])) ∙ parts.0) in
    let reach = and_parts (reaches func x last) true ends.1 in
    and_from (reaches func x c) (list_all (λ y. reaches func y c) (xs ++ last ∷ [])) (reaches_on func x last c reach.0 here) (all_reach func xs last c parts.1 here)

-- the last reaches the close, and so do all
pub beaten_none : (func : Func) (xs : List Price) (last c : Price) → is_ranked func xs ≡ true → last_item xs ≡ Some last → reaches func last c ≡ true
    → filter (λ x. reaches func x c) xs ≡ xs
beaten_none func xs last c ranked is here =
    let split : xs ≡ take (length xs - 1) xs ++ last ∷ [] = last_split xs last is in
    filter_all (λ x. reaches func x c) xs
    (subst (λ ys. list_all (λ x. reaches func x c) ys ≡ true) (sym split)
    (all_reach func (take (length xs - 1) xs) last c (subst (λ ys. is_ranked func ys ≡ true) split ranked) here))

-- the last does not reach it, and is dropped
pub beaten_last : (func : Func) (xs : List Price) (last c : Price) → last_item xs ≡ Some last → reaches func last c ≡ false
    → filter (λ x. reaches func x c) xs ≡ filter (λ x. reaches func x c) (take (length xs - 1) xs)
beaten_last func xs last c is out =
    let p : Price → Bool = λ x. reaches func x c in
    let front : List Price = take (length xs - 1) xs in
    ap (filter p) (last_split xs last is)
    ∙ filter-append p front (last ∷ [])
    ∙ ap (λ b. filter p front ++ cond b (last ∷ []) []) out
    ∙ append-nil (filter p front)

pub ranked_without_last : (func : Func) (xs : List Price) (last : Price) → is_ranked func xs ≡ true → last_item xs ≡ Some last → is_ranked func (take (length xs - 1) xs) ≡ true
ranked_without_last func xs last ranked is =
    ranked_front func (take (length xs - 1) xs) (last ∷ []) (subst (λ ys. is_ranked func ys ≡ true) (last_split xs last is) ranked)

-- ---- one close comes, and another may leave

-- the closes without the one that leaves
pub record Shifts (func : Func) (leaving : Option Price) (items after : List Price) (close : Price) : Type 0 where
  pub rest : List Price
  pub items_are : without leaving items ≡ candidates func rest
  pub after_is : after ≡ rest ++ close ∷ []

pub shifts : (func : Func) (leaving : Option Price) (items before after : List Price) (close : Price) → items ≡ candidates func before → MovesOn leaving before after close
    → Shifts func leaving items after close
shifts func None items before after close is moves = record { rest = before; items_are = is; after_is = moves }
shifts func (Some x) items before after close is moves = record {
  rest = moves.0;
  items_are = ap (without (Some x)) (is ∙ ap (candidates func) moves.1) ∙ without_first func x moves.0;
  after_is = moves.2;
}

pub renewed : (func : Func) (leaving : Option Price) (items before after : List Price) (close : Price) → items ≡ candidates func before → MovesOn leaving before after close
    → filter (λ x. reaches func x close) (without leaving items) ++ close ∷ [] ≡ candidates func after
renewed func leaving items before after close is moves =
    let s = shifts func leaving items before after close is moves in
    ap (λ ks. filter (λ x. reaches func x close) ks ++ close ∷ []) s.items_are
    ∙ sym (candidates_push func s.rest close) ∙ ap (candidates func) (sym s.after_is)

pub ranked_without : (func : Func) (leaving : Option Price) (items before after : List Price) (close : Price) → items ≡ candidates func before → MovesOn leaving before after close
    → is_ranked func (without leaving items) ≡ true
ranked_without func leaving items before after close is moves =
    let s = shifts func leaving items before after close is moves in
    ap (is_ranked func) s.items_are ∙ ranked_candidates func s.rest

-- as many closes as fit are all kept
pub keep_all : (n : ℕ) (xs : List Price) → length xs ≤ n → keep_last n xs ≡ xs
keep_all n xs fits =
    let none : length xs - n ≡ 0 = omega arith in
    ap (λ k. drop k xs) none

pub last_none : (xs : List Price) → None ≡ last_item xs → xs ≡ []
last_none [] is = refl
last_none (x ∷ xs) is =
    let within : length (x ∷ xs) - 1 < length (x ∷ xs) = omega arith in
    absurd (none-some (get_or (x ∷ xs) (length (x ∷ xs) - 1) x) (is ∙ slice_get-get_or (x ∷ xs) (length (x ∷ xs) - 1) x within))

-- what dropping the close that leaves, dropping those that are beaten and the next close make
pub renew_is : (func : Func) (leaving : Option Price) (close : Price) (b c d e : Buffer Price)
    → c ≡ buffer (without leaving b.items) b.capacity
    → (is_ranked func c.items ≡ true → d ≡ buffer (filter (λ x. reaches func x close) c.items) c.capacity)
    → e ≡ buffer (keep_last d.capacity (d.items ++ close ∷ [])) d.capacity
    → (before after : List Price) → b.items ≡ candidates func before → MovesOn leaving before after close → length after ≤ b.capacity
    → e ≡ buffer (candidates func after) b.capacity
renew_is func leaving close b c d e left beaten pushed before after is moves room =
    let p : Price → Bool = λ x. reaches func x close in
    let ranked : is_ranked func c.items ≡ true =
    ap (λ (x : Buffer Price). is_ranked func x.items) left ∙ ranked_without func leaving b.items before after close is moves in
    let items : d.items ++ close ∷ [] ≡ candidates func after =
    ap (λ (x : Buffer Price). x.items ++ close ∷ []) (beaten ranked) ∙ ap (λ (x : Buffer Price). filter p x.items ++ close ∷ []) left
    ∙ renewed func leaving b.items before after close is moves in
    let capacity : d.capacity ≡ b.capacity =
    ap (λ (x : Buffer Price). x.capacity) (beaten ranked) ∙ ap (λ (x : Buffer Price). x.capacity) left in
    let short : length (candidates func after) ≤ length after = length_kept func after in
    pushed
    ∙ ap (λ (n : ℕ). buffer (keep_last n (d.items ++ close ∷ [])) n) capacity
    ∙ ap (λ (xs : List Price). buffer (keep_last b.capacity xs) b.capacity) items
    ∙ ap (λ (xs : List Price). buffer xs b.capacity) (keep_all b.capacity (candidates func after) (omega arith))
