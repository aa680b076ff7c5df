-- The line of an event is read as that event.
use Rattle.std.proofs.Common.{◌≡◌, ◌≢◌, ℕ, zero, suc, ◌+◌, ◌/◌, ◌%◌, ◌^◌, ◌<◌, ◌≤◌, Bool, true, false, ◌||◌, ◌&&◌, ◌==◌, cond, ℤ, pos, negsuc, neg_ℤ, List, [], ◌∷◌, ◌++◌, length, get_or, take, drop, Option, Some, None, refl, ap, sym, ◌∙◌, true≢false, arith, if◌then◌else◌}
use Rattle.std.specs.Prelude.{option_map, option_and_then, codes, decimal, nat_le, nat_lt, not, slice_index}
use Rattle.std.specs.List.{list_any, list_all, prefix_len}
use Rattle.std.proofs.lemmas.Int.{ints}
use Rattle.std.proofs.lemmas.Bool.Decides.{nat_tests}
use Rattle.std.proofs.lemmas.List.{take_at, length-append}
use Rattle.std.proofs.lemmas.List.Folds.{list_any-append}
use Rattle.lean_fixed.specs.Digits.{is_digit, value_of}
use Rattle.lean_fixed.specs.Printed.{units_text, money_text, moment_text, four_digits}
use Rattle.lean_fixed.specs.Ranges.{IsPrintedMoment, last_printed_moment, IsQuantity, IsFillPrice, IsFee, most_quantity, most_fill_price, most_fee}
use Rattle.lean_fixed.specs.Amount.{most_amount}
use Rattle.lean_fixed.specs.ReadBack.{has_no_leading_zero, number_of_text, amount_of_text, moment_of_text}
use Rattle.lean_fixed.specs.Symbol.{is_symbol, is_symbol_byte}
use Rattle.lean_fixed.specs.declared.money.Price.{Price}
use Rattle.lean_fixed.specs.declared.money.Shares.{Shares}
use Rattle.lean_orders.specs.declared.order.Kind.{Kind}
use Rattle.lean_orders.specs.declared.order.Kind.TheVariants.{Market, Limit, Stop, AtOpen, StopLimit}
use Rattle.lean_orders.specs.declared.event.Cause.{Cause}
use Rattle.lean_orders.specs.declared.event.Cause.TheVariants.{Quantity, NoPrice, PriceForm, BuyingPower, Unknown, Closed}
use Rattle.lean_orders.specs.declared.event.Fill.{Fill}
use Rattle.lean_orders.specs.declared.event.What.{What}
use Rattle.lean_orders.specs.declared.event.What.TheVariants.{Submitted, Updated, Filled, Canceled, Invalid}
use Rattle.lean_orders.specs.Traded.{IsFill}
use Rattle.std.specs.Fmt.{sign_text}
use Rattle.std.specs.Int.{is_negative}
use Rattle.report_lines.specs.Reading.{in_range, id_of_text, shares_of_text, quantity_of_text, price_of_text, fee_of_text, kind_of_text, cause_of_text, limit_step, kept_prices_of, price_step, quantity_step, kind_step, submitted_of_text, filled_as, fee_step, fill_price_step, fill_step, filled_of_text, what_step, what_of_text, event_with, symbol_step, id_step, order_step, order_of_text, event_of_text}
use Rattle.report_lines.specs.EventLines.{kind_text, cause_text, quantity_text, prices_text, what_text, event_line, HasPricesOf, IsWhat, IsWhatOf}
use Rattle.report_lines.specs.Words.{is_space, spaced, cut}

-- a word has no space
abbrev pub has_space : List ℕ → Bool
has_space text = list_any is_space text

-- where the first space is
prefix-spaced : (w rest : List ℕ) → has_space w ≡ false → prefix_len (λ b. not (is_space b)) (w ++ 32 ∷ rest) ≡ length w
prefix-spaced [] rest h = refl
prefix-spaced (b ∷ w) rest h = step (is_space b) (has_space w) h (prefix-spaced w rest)
  where
    step : (t s : Bool) → (t || s) ≡ false → (s ≡ false → prefix_len (λ b. not (is_space b)) (w ++ 32 ∷ rest) ≡ length w)
        → cond (not t) (1 + prefix_len (λ b. not (is_space b)) (w ++ 32 ∷ rest)) 0 ≡ suc (length w)
    step true s h k = absurd (true≢false h)
    step false s h k = let e = k h in omega arith

drop-spaced : (w rest : List ℕ) → drop (suc (length w)) (w ++ 32 ∷ rest) ≡ rest
drop-spaced [] rest = refl
drop-spaced (b ∷ w) rest = drop-spaced w rest

within_spaced : (w rest : List ℕ) → nat_lt (length w) (length (w ++ 32 ∷ rest)) ≡ true
within_spaced w rest = let e : length (w ++ 32 ∷ rest) ≡ length w + suc (length rest) = length-append w (32 ∷ rest) in rw e (grind (arith, nat_tests))

pub cut-spaced : (w rest : List ℕ) → has_space w ≡ false → cut (spaced w rest) ≡ Some (w, rest)
cut-spaced w rest h =
    ap (λ n. option_map (λ i. (take i (w ++ 32 ∷ rest), drop (suc i) (w ++ 32 ∷ rest))) (cond (nat_lt n (length (w ++ 32 ∷ rest))) (Some n) None)) (prefix-spaced w rest h)
    ∙ ap (λ b. option_map (λ i. (take i (w ++ 32 ∷ rest), drop (suc i) (w ++ 32 ∷ rest))) (cond b (Some (length w)) None)) (within_spaced w rest)
    ∙ (λ i. Some (take_at w (32 ∷ rest) (length w) refl i, drop-spaced w rest i))

-- digits have no space
digit_is_no_space : (b : ℕ) → is_digit b ≡ true → is_space b ≡ false
digit_is_no_space b h = grind (arith, nat_tests)

digits_step : (b : ℕ) (d e s : Bool) → is_digit b ≡ d → (d && e) ≡ true → (e ≡ true → s ≡ false) → (is_space b || s) ≡ false
digits_step b true e s p q k = ap (λ x. x || s) (digit_is_no_space b p) ∙ k q
digits_step b false e s p q k = absurd (true≢false (sym q))

pub digits_have_none : (text : List ℕ) → list_all is_digit text ≡ true → has_space text ≡ false
digits_have_none [] h = refl
digits_have_none (b ∷ text) h = digits_step b (is_digit b) (list_all is_digit text) (has_space text) refl h (digits_have_none text)

-- what a text says that is read as a number
digits_form : (z d e l : Bool) (v n : ℕ) → (if z then (if (not e && d) && l then Some v else None) else None) ≡ Some n → d ≡ true
digits_form true true e l v n h = refl
digits_form true false true l v n h = cc
digits_form true false false l v n h = cc
digits_form false d e l v n h = cc

pub number_is_digits : (text : List ℕ) (n : ℕ) → number_of_text text ≡ Some n → list_all is_digit text ≡ true
number_is_digits text n h = digits_form (has_no_leading_zero text) (list_all is_digit text) (length text == 0) (nat_le (value_of text) (10 ^ 18)) (value_of text) n h

-- a number in its range
in-range-is : (least most n : ℕ) → least ≤ n → n ≤ most → in_range least most n ≡ Some n
in-range-is least most n l h = grind (arith, nat_tests)

digit_is_no_dash : (b : ℕ) → is_digit b ≡ true → (b == 45) ≡ false
digit_is_no_dash b h = grind (arith, nat_tests)

positive : (n : ℕ) → pos n ≢ pos 0 → 1 ≤ n
positive zero h = absurd (h refl)
positive (suc n) h = omega arith

-- the words of a line
kind_has_none : (kind : Kind) → has_space (kind_text kind) ≡ false
kind_has_none Market = refl
kind_has_none Limit = refl
kind_has_none Stop = refl
kind_has_none AtOpen = refl
kind_has_none StopLimit = refl

kind-read : (kind : Kind) → kind_of_text (kind_text kind) ≡ Some kind
kind-read Market = refl
kind-read Limit = refl
kind-read Stop = refl
kind-read AtOpen = refl
kind-read StopLimit = refl

cause-read : (cause : Cause) → cause_of_text (cause_text cause) ≡ Some cause
cause-read Quantity = refl
cause-read NoPrice = refl
cause-read PriceForm = refl
cause-read BuyingPower = refl
cause-read Unknown = refl
cause-read Closed = refl

digit_of : (n : ℕ) → is_space (48 + n % 10) ≡ false
digit_of n = let e : 32 < 48 + n % 10 = omega arith in grind (arith, nat_tests)

places_have_none : (n : ℕ) → has_space (four_digits n) ≡ false
places_have_none n = rw (digit_of (n / 100 / 10), digit_of (n / 100), digit_of (n / 10), digit_of n) refl

units_have_none : (n : ℕ) → has_space (decimal (n / 10000)) ≡ false → has_space (units_text n) ≡ false
unfolding units_text
units_have_none n h =
    list_any-append is_space (decimal (n / 10000)) (46 ∷ four_digits n) ∙ ap (λ b. b || has_space (46 ∷ four_digits n)) h ∙ places_have_none n

-- a symbol has no space
symbol_byte_is_no_space : (b : ℕ) → is_symbol_byte b ≡ true → is_space b ≡ false
symbol_byte_is_no_space b h = grind (arith, nat_tests)

symbol_step_none : (b : ℕ) (d e s : Bool) → is_symbol_byte b ≡ d → (d && e) ≡ true → (e ≡ true → s ≡ false) → (is_space b || s) ≡ false
symbol_step_none b true e s p q k = ap (λ x. x || s) (symbol_byte_is_no_space b p) ∙ k q
symbol_step_none b false e s p q k = absurd (true≢false (sym q))

symbol_bytes_have_none : (text : List ℕ) → list_all is_symbol_byte text ≡ true → has_space text ≡ false
symbol_bytes_have_none [] h = refl
symbol_bytes_have_none (b ∷ text) h =
    symbol_step_none b (is_symbol_byte b) (list_all is_symbol_byte text) (has_space text) refl h (symbol_bytes_have_none text)

last_of_four : (a b c d : Bool) → (a && b && c && d) ≡ true → d ≡ true
last_of_four true true true d h = h
last_of_four true true false d h = absurd (true≢false (sym h))
last_of_four true false c d h = absurd (true≢false (sym h))
last_of_four false b c d h = absurd (true≢false (sym h))

symbol_has_none : (text : List ℕ) → is_symbol text ≡ true → has_space text ≡ false
symbol_has_none text h =
    symbol_bytes_have_none text
    (last_of_four (nat_le 1 (length text)) (nat_le (length text) 12) (not (slice_index text 0 == 46)) (list_all is_symbol_byte text) h)

-- the parts of a line
byte_at : (w rest : List ℕ) (b : ℕ) → get_or (w ++ b ∷ rest) (length w) 0 ≡ b
byte_at [] rest b = refl
byte_at (x ∷ w) rest b = byte_at w rest b

event_parts : (m rest : List ℕ) → length m ≡ 14
    → event_of_text (m ++ 32 ∷ rest) ≡ option_and_then (λ at. order_of_text at rest) (moment_of_text m)
event_parts m rest e =
    let long : nat_lt 14 (length (m ++ 32 ∷ rest)) ≡ true = ap (λ n. nat_lt n (length (m ++ 32 ∷ rest))) (sym e) ∙ within_spaced m rest in
    let space : get_or (m ++ 32 ∷ rest) 14 0 ≡ 32 = ap (λ n. get_or (m ++ 32 ∷ rest) n 0) (sym e) ∙ byte_at m rest 32 in
    let front : take 14 (m ++ 32 ∷ rest) ≡ m = take_at m (32 ∷ rest) 14 e in
    let behind : drop 15 (m ++ 32 ∷ rest) ≡ rest = ap (λ n. drop (suc n) (m ++ 32 ∷ rest)) (sym e) ∙ drop-spaced m rest in
    ap (λ b. if b && (slice_index (m ++ 32 ∷ rest) 14 == 32)
    then option_and_then (λ at. order_of_text at (drop 15 (m ++ 32 ∷ rest))) (moment_of_text (take 14 (m ++ 32 ∷ rest))) else None) long
    ∙ ap (λ b. if b == 32
    then option_and_then (λ at. order_of_text at (drop 15 (m ++ 32 ∷ rest))) (moment_of_text (take 14 (m ++ 32 ∷ rest))) else None) space
    ∙ (λ i. option_and_then (λ at. order_of_text at (behind i)) (moment_of_text (front i)))

-- the pieces of a line, by the facts of numbers and amounts
module _ (numbers : (n : ℕ) → n ≤ 10 ^ 18 → number_of_text (decimal n) ≡ Some n)
    (amounts : (n : ℕ) → n ≤ most_amount → amount_of_text (units_text n) ≡ Some n)
    (unsigned : (n : ℕ) → money_text (pos n) ≡ units_text n) where
  number_has_none : (n : ℕ) → n ≤ 10 ^ 18 → has_space (decimal n) ≡ false
  number_has_none n h = digits_have_none (decimal n) (number_is_digits (decimal n) n (numbers n h))

  id-read : (id : ℕ) → 1 ≤ id → id ≤ 1000000 → id_of_text (decimal id) ≡ Some id
  id-read id l h = ap (option_and_then (in_range 1 1000000)) (numbers id (omega arith)) ∙ in-range-is 1 1000000 id l h

  shares-read : (n : ℕ) → 1 ≤ n → n ≤ most_quantity → shares_of_text (decimal n) ≡ Some n
  shares-read n l h = ap (option_and_then (in_range 1 most_quantity)) (numbers n (omega arith)) ∙ in-range-is 1 most_quantity n l h

  price-read : (n : ℕ) → 1 ≤ n → n ≤ most_fill_price → price_of_text (money_text (pos n)) ≡ Some (record { 0 = pos n })
  price-read n l h =
      ap price_of_text (unsigned n)
      ∙ ap (λ o. option_map (λ n. record { 0 = pos n }) (option_and_then (in_range 1 most_fill_price) o)) (amounts n (omega arith))
      ∙ ap (λ o. option_map (λ n. record { 0 = pos n }) o) (in-range-is 1 most_fill_price n l h)

  fee-read : (n : ℕ) → n ≤ most_fee → fee_of_text (money_text (pos n)) ≡ Some (record { 0 = pos n })
  fee-read n h =
      ap fee_of_text (unsigned n)
      ∙ ap (λ o. option_map (λ n. record { 0 = pos n }) (option_and_then (in_range 0 most_fee) o)) (amounts n (omega arith))
      ∙ ap (λ o. option_map (λ n. record { 0 = pos n }) o) (in-range-is 0 most_fee n (omega arith) h)

  -- a quantity: digits do not begin with '-'
  digits-quantity : (text : List ℕ) (n : ℕ) → number_of_text text ≡ Some n → quantity_of_text text ≡ option_map (λ n. record { 0 = pos n }) (shares_of_text text)
  digits-quantity [] n h = cc
  digits-quantity (b ∷ text) n h = step (is_digit b) refl (number_is_digits (b ∷ text) n h)
    where
      step : (d : Bool) → is_digit b ≡ d → (d && list_all is_digit text) ≡ true
          → quantity_of_text (b ∷ text) ≡ option_map (λ n. record { 0 = pos n }) (shares_of_text (b ∷ text))
      step true p q = let e : (b == 45) ≡ false = digit_is_no_dash b p in rw e refl
      step false p q = absurd (true≢false (sym q))

  quantity-plain : (n : ℕ) → quantity_text (pos n) ≡ decimal n
  quantity-plain n = let e : is_negative (pos n) ≡ false = grind (arith, nat_tests) in ap (λ b. sign_text b ++ decimal n) e

  quantity-read : (q : ℤ) → IsQuantity q → quantity_of_text (quantity_text q) ≡ Some (record { 0 = q })
  quantity-read (pos n) r =
      ap quantity_of_text (quantity-plain n)
      ∙ digits-quantity (decimal n) n (numbers n (omega (arith, ints, r.1.1)))
      ∙ ap (λ o. option_map (λ n. record { 0 = pos n }) o) (shares-read n (positive n r.0) (omega (arith, ints, r.1.1)))
  quantity-read (negsuc n) r =
      ap (λ o. option_map (λ n. record { 0 = neg_ℤ (pos n) }) o) (shares-read (suc n) (omega arith) (omega (arith, ints, r.1.0)))

  quantity_has_none : (q : ℤ) → IsQuantity q → has_space (quantity_text q) ≡ false
  quantity_has_none (pos n) r = ap has_space (quantity-plain n) ∙ number_has_none n (omega (arith, ints, r.1.1))
  quantity_has_none (negsuc n) r = number_has_none (suc n) (omega (arith, ints, r.1.0))

  price_has_none : (n : ℕ) → n ≤ most_fill_price → has_space (money_text (pos n)) ≡ false
  price_has_none n h = ap has_space (unsigned n) ∙ units_have_none n (number_has_none (n / 10000) (omega arith))

  money-read : (p : Price) → IsFillPrice p.0 → price_of_text (money_text p.0) ≡ Some p
  money-read p h = step p.0 h
    where
      step : (z : ℤ) → IsFillPrice z → price_of_text (money_text z) ≡ Some (record { 0 = z })
      step (pos n) h = price-read n (omega (arith, ints, h.0)) (omega (arith, ints, h.1))
      step (negsuc n) h = absurd (omega (arith, ints, h.0))

  money_has_none : (z : ℤ) → IsFillPrice z → has_space (money_text z) ≡ false
  money_has_none (pos n) h = price_has_none n (omega (arith, ints, h.1))
  money_has_none (negsuc n) h = absurd (omega (arith, ints, h.0))

  kept-read : (kind : Kind) (price limit : Option Price) → HasPricesOf kind price limit → kept_prices_of kind (prices_text price limit) ≡ Some (price, limit)
  kept-read Market None None h = refl
  kept-read Market None (Some l) h = absurd h
  kept-read Market (Some p) l h = absurd h
  kept-read Limit None l h = absurd h
  kept-read Limit (Some p) None h = ap (option_map (λ price. (Some price, None))) (money-read p h)
  kept-read Limit (Some p) (Some l) h = absurd h
  kept-read Stop None l h = absurd h
  kept-read Stop (Some p) None h = ap (option_map (λ price. (Some price, None))) (money-read p h)
  kept-read Stop (Some p) (Some l) h = absurd h
  kept-read AtOpen None None h = refl
  kept-read AtOpen None (Some l) h = absurd h
  kept-read AtOpen (Some p) l h = absurd h
  kept-read StopLimit None l h = absurd h
  kept-read StopLimit (Some p) None h = absurd h
  kept-read StopLimit (Some p) (Some l) h =
      ap (option_and_then limit_step) (cut-spaced (money_text p.0) (money_text l.0) (money_has_none p.0 h.0))
      ∙ (λ i. option_and_then (λ price. option_map (λ limit. (Some price, Some limit)) (money-read l h.1 i)) (money-read p h.0 i))

  fees-read : (z : ℤ) → IsFee z → fee_of_text (money_text z) ≡ Some (record { 0 = z })
  fees-read (pos n) h = fee-read n (omega (arith, ints, h.1))
  fees-read (negsuc n) h = absurd (omega (arith, ints, h.0))

  submitted-read : (kind : Kind) (q : Shares) (price limit : Option Price) → IsQuantity q.0 → HasPricesOf kind price limit
      → submitted_of_text (spaced (kind_text kind) (spaced (quantity_text q.0) (prices_text price limit))) ≡ Some (Submitted kind q price limit)
  submitted-read kind q price limit r h =
      ap (option_and_then kind_step) (cut-spaced (kind_text kind) (spaced (quantity_text q.0) (prices_text price limit)) (kind_has_none kind))
      ∙ ap (option_and_then (λ k. option_and_then (quantity_step k) (cut (spaced (quantity_text q.0) (prices_text price limit))))) (kind-read kind)
      ∙ ap (option_and_then (quantity_step kind)) (cut-spaced (quantity_text q.0) (prices_text price limit) (quantity_has_none q.0 r))
      ∙ ap (option_and_then (λ quantity. price_step kind quantity (prices_text price limit))) (quantity-read q.0 r)
      ∙ ap (option_map (λ prices. Submitted kind q prices.0 prices.1)) (kept-read kind price limit h)

  filled-read : (symbol : List ℕ) (fill : Fill) → IsFill fill → fill.symbol ≡ symbol
      → filled_of_text symbol (spaced (quantity_text fill.quantity.0) (spaced (money_text fill.price.0) (spaced (codes "fee") (money_text fill.fee.0))))
      ≡ Some (Filled fill)
  filled-read symbol fill r e =
      ap (option_and_then (fill_step symbol))
      (cut-spaced (quantity_text fill.quantity.0) (spaced (money_text fill.price.0) (spaced (codes "fee") (money_text fill.fee.0))) (quantity_has_none fill.quantity.0 r.quantity))
      ∙ ap (option_and_then (λ quantity. option_and_then (fill_price_step symbol quantity) (cut (spaced (money_text fill.price.0) (spaced (codes "fee") (money_text fill.fee.0))))))
      (quantity-read fill.quantity.0 r.quantity)
      ∙ ap (option_and_then (fill_price_step symbol fill.quantity))
      (cut-spaced (money_text fill.price.0) (spaced (codes "fee") (money_text fill.fee.0)) (money_has_none fill.price.0 r.price))
      ∙ ap (option_and_then (λ price. option_and_then (fee_step symbol fill.quantity price) (cut (spaced (codes "fee") (money_text fill.fee.0)))))
      (money-read fill.price r.price)
      ∙ ap (option_and_then (fee_step symbol fill.quantity fill.price)) (cut-spaced (codes "fee") (money_text fill.fee.0) refl)
      ∙ ap (option_map (filled_as symbol fill.quantity fill.price)) (fees-read fill.fee.0 r.fee)
      ∙ ap (λ s. Some (Filled (record { symbol = s; quantity = fill.quantity; price = fill.price; fee = fill.fee }))) (sym e)

  what-read : (symbol : List ℕ) (what : What) → IsWhat symbol what → what_of_text symbol (what_text what) ≡ Some what
  what-read symbol (Submitted kind q price limit) h =
      ap (option_and_then (what_step symbol))
      (cut-spaced (codes "submitted") (spaced (kind_text kind) (spaced (quantity_text q.0) (prices_text price limit))) refl)
      ∙ submitted-read kind q price limit h.0 h.1
  what-read symbol (Updated price) h =
      ap (option_and_then (what_step symbol)) (cut-spaced (codes "updated") (money_text price.0) refl) ∙ ap (option_map Updated) (money-read price h)
  what-read symbol (Filled fill) h =
      ap (option_and_then (what_step symbol))
      (cut-spaced (codes "filled")
      (spaced (quantity_text fill.quantity.0) (spaced (money_text fill.price.0) (spaced (codes "fee") (money_text fill.fee.0)))) refl)
      ∙ filled-read symbol fill h.0 h.1
  what-read symbol Canceled h = refl
  what-read symbol (Invalid cause) h =
      ap (option_and_then (what_step symbol)) (cut-spaced (codes "invalid") (cause_text cause) refl) ∙ ap (option_map Invalid) (cause-read cause)

  order-read : (at id : ℕ) (symbol : List ℕ) (what : What) → 1 ≤ id → id ≤ 1000000 → is_symbol symbol ≡ true → has_space symbol ≡ false → IsWhat symbol what
      → order_of_text at (spaced (codes "order") (spaced (decimal id) (spaced symbol (what_text what)))) ≡ Some (event_with at id symbol what)
  order-read at id symbol what l m s n h =
      ap (option_and_then (order_step at)) (cut-spaced (codes "order") (spaced (decimal id) (spaced symbol (what_text what))) refl)
      ∙ ap (option_and_then (id_step at)) (cut-spaced (decimal id) (spaced symbol (what_text what)) (number_has_none id (omega arith)))
      ∙ ap (option_and_then (λ id. option_and_then (symbol_step at id) (cut (spaced symbol (what_text what))))) (id-read id l m)
      ∙ ap (option_and_then (symbol_step at id)) (cut-spaced symbol (what_text what) n)
      ∙ ap (λ b. if b then option_map (event_with at id symbol) (what_of_text symbol (what_text what)) else None) s
      ∙ ap (option_map (event_with at id symbol)) (what-read symbol what h)

  event-read : (at id : ℕ) (symbol : List ℕ) (what : What) → length (moment_text at) ≡ 14 → moment_of_text (moment_text at) ≡ Some at
      → 1 ≤ id → id ≤ 1000000 → is_symbol symbol ≡ true → IsWhat symbol what
      → event_of_text (event_line (event_with at id symbol what)) ≡ Some (event_with at id symbol what)
  event-read at id symbol what fourteen same l m s h =
      event_parts (moment_text at) (spaced (codes "order") (spaced (decimal id) (spaced symbol (what_text what)))) fourteen
      ∙ ap (option_and_then (λ at. order_of_text at (spaced (codes "order") (spaced (decimal id) (spaced symbol (what_text what)))))) same
      ∙ order-read at id symbol what l m s (symbol_has_none symbol s) h

  pub whole-read : (moments : (n : ℕ) → length (moment_text n) ≡ 14) (back : (n : ℕ) → n ≤ last_printed_moment → moment_of_text (moment_text n) ≡ Some n)
      → (z : ℤ) (id : ℕ) (o : Option (List ℕ)) (what : What) (symbol : List ℕ)
      → IsPrintedMoment z → (1 ≤ id) × (id ≤ 1000000) → IsWhatOf o what → o ≡ Some symbol → is_symbol symbol ≡ true
      → event_of_text (event_line (record { at = record { 0 = z }; id = id; symbol = o; what = what }))
      ≡ Some (record { at = record { 0 = z }; id = id; symbol = o; what = what })
  whole-read moments back (pos n) id None what symbol r i h e s = absurd h
  whole-read moments back (negsuc n) id o what symbol r i h e s = absurd (omega (arith, ints, r.0))
  whole-read moments back (pos n) id (Some t) what symbol r i h e s =
      let same : t ≡ symbol = cc in
      event-read n id t what (moments n) (back n (omega (arith, ints, r.1))) i.0 i.1 (ap is_symbol same ∙ s) h
