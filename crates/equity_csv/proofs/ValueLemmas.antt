-- What the fields behind the time say, once the prices in them were looked for.
use Rattle.std.proofs.Common.{◌≡◌, ℕ, suc, Bool, true, nat_le, if◌then◌else◌, List, [], ◌∷◌, length, Option, Some, None, Err, Result, option_map, option_and_then, refl, sym, ap, ◌∙◌, arith}
use Rattle.std.proofs.lemmas.Bool.Decides.{nat_tests}
use Rattle.lean_items.specs.declared.reason.Reason.{Reason}
use Rattle.lean_items.specs.declared.reason.Reason.TheVariants.{Fields, Time, Price, Volume}
use Rattle.equity_csv.specs.declared.row.Row.{Row}
use Rattle.equity_csv.specs.Rows.{price_in, volume_in, row_of_values, row_of_fields}
use Rattle.equity_csv.specs.Reading.{leading, first_of, first_prices, Priced, priced}
use Rattle.equity_csv.proofs.FieldLemmas.{with_more}

-- the row of a start and the fields behind the time
abbrev pub row_from : ℕ → List (List ℕ) → Result Row Reason
row_from start values = row_of_fields (λ _. Some start) ([] ∷ values)

-- `first_prices` from each price on
abbrev with_closing : ℕ → ℕ → ℕ → Option (ℕ × List (List ℕ)) → Option Priced
with_closing o h l found = option_and_then (λ c. Some (priced o h l c.0 c.1)) found

abbrev with_low : ℕ → ℕ → Option (ℕ × List (List ℕ)) → Option Priced
with_low o h found = option_and_then (λ l. with_closing o h l.0 (first_of price_in l.1)) found

abbrev with_high : ℕ → Option (ℕ × List (List ℕ)) → Option Priced
with_high o found = option_and_then (λ h. with_low o h.0 (first_of price_in h.1)) found

abbrev with_opening : Option (ℕ × List (List ℕ)) → Option Priced
with_opening found = option_and_then (λ o. with_high o.0 (first_of price_in o.1)) found

-- without four good prices the reason is a price
closing-none : (s o h l : ℕ) (rest : List (List ℕ)) (c v : Option ℕ) → with_closing o h l (option_map (with_more rest) c) ≡ None → row_of_values (Some s) (Some o) (Some h) (Some l) c v ≡ Err Price
closing-none s o h l rest None v e = refl
closing-none s o h l rest (Some c) v e = cc

low-none : (s o h : ℕ) (closing next : List ℕ) (more : List (List ℕ)) (l v : Option ℕ) → with_low o h (option_map (with_more (closing ∷ next ∷ more)) l) ≡ None → row_of_values (Some s) (Some o) (Some h) l (price_in closing) v ≡ Err Price
low-none s o h closing next more None v e = refl
low-none s o h closing next more (Some l) v e = closing-none s o h l (next ∷ more) (price_in closing) v e

high-none : (s o : ℕ) (low closing next : List ℕ) (more : List (List ℕ)) (h v : Option ℕ) → with_high o (option_map (with_more (low ∷ closing ∷ next ∷ more)) h) ≡ None → row_of_values (Some s) (Some o) h (price_in low) (price_in closing) v ≡ Err Price
high-none s o low closing next more None v e = refl
high-none s o low closing next more (Some h) v e = low-none s o h closing next more (price_in low) v e

opening-none : (s : ℕ) (high low closing next : List ℕ) (more : List (List ℕ)) (o v : Option ℕ) → with_opening (option_map (with_more (high ∷ low ∷ closing ∷ next ∷ more)) o) ≡ None → row_of_values (Some s) o (price_in high) (price_in low) (price_in closing) v ≡ Err Price
opening-none s high low closing next more None v e = refl
opening-none s high low closing next more (Some o) v e = high-none s o low closing next more (price_in high) v e

five : (more : List (List ℕ)) → nat_le 5 (suc (suc (suc (suc (suc (length more)))))) ≡ true
five more = grind (arith, nat_tests)

pub row_from-unpriced : (start : ℕ) (values : List (List ℕ)) → first_prices values ≡ None → row_from start values ≡ (if nat_le 5 (length values) then Err Price else Err Fields)
row_from-unpriced start [] e = refl
row_from-unpriced start (o ∷ []) e = refl
row_from-unpriced start (o ∷ h ∷ []) e = refl
row_from-unpriced start (o ∷ h ∷ l ∷ []) e = refl
row_from-unpriced start (o ∷ h ∷ l ∷ c ∷ []) e = refl
row_from-unpriced start (o ∷ h ∷ l ∷ c ∷ v ∷ more) e = opening-none start h l c v more (price_in o) (volume_in v) e ∙ sym (ap (λ x. if x then Err Price else Err Fields) (five more))

-- with four good prices the volume and the range decide
abbrev number_of : ℕ × List (List ℕ) → ℕ
number_of found = found.0

abbrev pub row_priced : ℕ → Priced → Option ℕ → Result Row Reason
row_priced start p volume = row_of_values (Some start) (Some p.opening) (Some p.high) (Some p.low) (Some p.closing) volume

abbrev volume_of : List (List ℕ) → Option ℕ
volume_of rest = option_map number_of (leading volume_in rest)

number-with_more : (more : List (List ℕ)) (v : Option ℕ) → v ≡ option_map number_of (option_map (with_more more) v)
number-with_more more None = refl
number-with_more more (Some v) = refl

closing-some : (s o h l : ℕ) (next : List ℕ) (more : List (List ℕ)) (c : Option ℕ) (p : Priced) → with_closing o h l (option_map (with_more (next ∷ more)) c) ≡ Some p → row_of_values (Some s) (Some o) (Some h) (Some l) c (volume_in next) ≡ row_priced s p (volume_of p.rest)
closing-some s o h l next more None p e = cc
closing-some s o h l next more (Some c) p e =
    let same : priced o h l c (next ∷ more) ≡ p = cc in
    ap (row_of_values (Some s) (Some o) (Some h) (Some l) (Some c)) (number-with_more more (volume_in next))
    ∙ ap (λ q. row_priced s q (volume_of q.rest)) same

low-some : (s o h : ℕ) (closing next : List ℕ) (more : List (List ℕ)) (l : Option ℕ) (p : Priced) → with_low o h (option_map (with_more (closing ∷ next ∷ more)) l) ≡ Some p → row_of_values (Some s) (Some o) (Some h) l (price_in closing) (volume_in next) ≡ row_priced s p (volume_of p.rest)
low-some s o h closing next more None p e = cc
low-some s o h closing next more (Some l) p e = closing-some s o h l next more (price_in closing) p e

high-some : (s o : ℕ) (low closing next : List ℕ) (more : List (List ℕ)) (h : Option ℕ) (p : Priced) → with_high o (option_map (with_more (low ∷ closing ∷ next ∷ more)) h) ≡ Some p → row_of_values (Some s) (Some o) h (price_in low) (price_in closing) (volume_in next) ≡ row_priced s p (volume_of p.rest)
high-some s o low closing next more None p e = cc
high-some s o low closing next more (Some h) p e = low-some s o h closing next more (price_in low) p e

opening-some : (s : ℕ) (high low closing next : List ℕ) (more : List (List ℕ)) (o : Option ℕ) (p : Priced) → with_opening (option_map (with_more (high ∷ low ∷ closing ∷ next ∷ more)) o) ≡ Some p → row_of_values (Some s) o (price_in high) (price_in low) (price_in closing) (volume_in next) ≡ row_priced s p (volume_of p.rest)
opening-some s high low closing next more None p e = cc
opening-some s high low closing next more (Some o) p e = high-some s o low closing next more (price_in high) p e

-- fewer than five fields have no four prices with a field behind them
short : (f : ℕ × List (List ℕ) → Option Priced) (rest : List (List ℕ)) (v : Option ℕ) → ((n : ℕ) → f (with_more rest n) ≡ None) → option_and_then f (option_map (with_more rest) v) ≡ None
short f rest None k = refl
short f rest (Some n) k = k n

low-short : (o h : ℕ) (l c : List ℕ) → with_low o h (first_of price_in (l ∷ c ∷ [])) ≡ None
low-short o h l c = short (λ l. with_closing o h l.0 (first_of price_in l.1)) (c ∷ []) (price_in l) (λ n. refl)

high-short : (o : ℕ) (h l : List ℕ) (more : List (List ℕ)) → ((n : ℕ) → with_low o n (first_of price_in (l ∷ more)) ≡ None) → with_high o (first_of price_in (h ∷ l ∷ more)) ≡ None
high-short o h l more k = short (λ h. with_low o h.0 (first_of price_in h.1)) (l ∷ more) (price_in h) k

opening-short : (o h : List ℕ) (more : List (List ℕ)) → ((n : ℕ) → with_high n (first_of price_in (h ∷ more)) ≡ None) → first_prices (o ∷ h ∷ more) ≡ None
opening-short o h more k = short (λ o. with_high o.0 (first_of price_in o.1)) (h ∷ more) (price_in o) k

pub row_from-priced : (start : ℕ) (values : List (List ℕ)) (p : Priced) → first_prices values ≡ Some p → row_from start values ≡ row_priced start p (volume_of p.rest)
row_from-priced start [] p e = cc
row_from-priced start (o ∷ []) p e = cc
row_from-priced start (o ∷ h ∷ []) p e = cc (opening-short o h [] (λ n. refl))
row_from-priced start (o ∷ h ∷ l ∷ []) p e = cc (opening-short o h (l ∷ []) (λ n. high-short n h l [] (λ m. refl)))
row_from-priced start (o ∷ h ∷ l ∷ c ∷ []) p e = cc (opening-short o h (l ∷ c ∷ []) (λ n. high-short n h l (c ∷ []) (λ m. low-short n m l c)))
row_from-priced start (o ∷ h ∷ l ∷ c ∷ v ∷ more) p e = opening-some start h l c v more (price_in o) p e

-- the three answers of a reader, from what it found
pub unpriced : (start : ℕ) (values : List (List ℕ)) (enough : Bool) → None ≡ first_prices values → enough ≡ nat_le 5 (length values) → (if enough then Err Price else Err Fields) ≡ row_from start values
unpriced start values enough e k = ap (λ x. if x then Err Price else Err Fields) k ∙ sym (row_from-unpriced start values (sym e))

pub no_volume : (start : ℕ) (values : List (List ℕ)) (p : Priced) → Some p ≡ first_prices values → None ≡ leading volume_in p.rest → Err Volume ≡ row_from start values
no_volume start values p e v = ap (λ x. row_priced start p (option_map number_of x)) v ∙ sym (row_from-priced start values p (sym e))

pub priced_row : (start : ℕ) (values : List (List ℕ)) (p : Priced) (volume : ℕ) (more : List (List ℕ)) → Some p ≡ first_prices values → Some (with_more more volume) ≡ leading volume_in p.rest → row_priced start p (Some volume) ≡ row_from start values
priced_row start values p volume more e v = ap (λ x. row_priced start p (option_map number_of x)) v ∙ sym (row_from-priced start values p (sym e))

-- the time decides first
row-time : (time : List ℕ → Option ℕ) (at : List ℕ) (values : List (List ℕ)) (n : ℕ) → time at ≡ Some n → row_from n values ≡ row_of_fields time (at ∷ values)
row-time time at [] n e = refl
row-time time at (o ∷ []) n e = refl
row-time time at (o ∷ h ∷ []) n e = refl
row-time time at (o ∷ h ∷ l ∷ []) n e = refl
row-time time at (o ∷ h ∷ l ∷ c ∷ []) n e = refl
row-time time at (o ∷ h ∷ l ∷ c ∷ v ∷ more) n e = ap (λ t. row_of_values t (price_in o) (price_in h) (price_in l) (price_in c) (volume_in v)) (sym e)

pub timed : (time : List ℕ → Option ℕ) (all : List (List ℕ)) (n : ℕ) (rest : List (List ℕ)) → Some (with_more rest n) ≡ first_of time all → row_from n rest ≡ row_of_fields time all
timed time [] n rest e = cc
timed time (at ∷ []) n rest e = cc
timed time (at ∷ next ∷ more) n rest e =
    elim (time at) as (λ v. time at ≡ v → Some (with_more rest n) ≡ option_map (with_more (next ∷ more)) v → row_from n rest ≡ row_of_fields time (at ∷ next ∷ more)) [
      | None ↦ λ t h. cc
      | Some m ↦ λ t h.
          let same : with_more rest n ≡ with_more (next ∷ more) m = cc in
          let number : n ≡ m = ap (λ (p : ℕ × List (List ℕ)). p.0) same in
          let values : rest ≡ next ∷ more = ap (λ (p : ℕ × List (List ℕ)). p.1) same in
          ap (row_from n) values ∙ row-time time at (next ∷ more) n (t ∙ ap (λ x. Some x) (sym number))
    ] refl e

no_time : (time : Option ℕ) (more : List (List ℕ)) (a b c d e : Option ℕ) → None ≡ option_map (with_more more) time → Err Time ≡ row_of_values time a b c d e
no_time None more a b c d e h = refl
no_time (Some n) more a b c d e h = cc

six : (more : List (List ℕ)) → nat_le 6 (suc (suc (suc (suc (suc (suc (length more))))))) ≡ true
six more = grind (arith, nat_tests)

pub untimed : (time : List ℕ → Option ℕ) (all : List (List ℕ)) → None ≡ first_of time all → Err (if nat_le 6 (length all) then Time else Fields) ≡ row_of_fields time all
untimed time [] e = refl
untimed time (at ∷ []) e = refl
untimed time (at ∷ o ∷ []) e = refl
untimed time (at ∷ o ∷ h ∷ []) e = refl
untimed time (at ∷ o ∷ h ∷ l ∷ []) e = refl
untimed time (at ∷ o ∷ h ∷ l ∷ c ∷ []) e = refl
untimed time (at ∷ o ∷ h ∷ l ∷ c ∷ v ∷ more) e =
    ap (λ x. Err (if x then Time else Fields)) (six more)
    ∙ no_time (time at) (o ∷ h ∷ l ∷ c ∷ v ∷ more) (price_in o) (price_in h) (price_in l) (price_in c) (volume_in v) e

-- a reader whose number is counted on from another one
pub first_of-mapped : (read : List ℕ → Option ℕ) (g : ℕ → ℕ) (all : List (List ℕ)) (n : ℕ) (rest : List (List ℕ)) → first_of read all ≡ Some (with_more rest n) → first_of (λ f. option_map g (read f)) all ≡ Some (with_more rest (g n))
first_of-mapped read g [] n rest e = cc
first_of-mapped read g (field ∷ []) n rest e = cc
first_of-mapped read g (field ∷ next ∷ more) n rest e =
    elim (read field) as (λ v. option_map (with_more (next ∷ more)) v ≡ Some (with_more rest n) → option_map (with_more (next ∷ more)) (option_map g v) ≡ Some (with_more rest (g n))) [
      | None ↦ λ h. cc
      | Some m ↦ λ h.
          let same : with_more (next ∷ more) m ≡ with_more rest n = cc in
          ap (λ (p : ℕ × List (List ℕ)). Some (with_more p.1 (g p.0))) same
    ] e
