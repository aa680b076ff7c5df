-- What a line says, from its columns and what stands in them.
use Rattle.std.proofs.Common.{◌≡◌, ℕ, ◌+◌, ◌*◌, ◌≤◌, nat_le, true, false, if◌then◌else◌, List, [], ◌∷◌, Option, Some, None, Result, Ok, Err, option_map, refl, sym, ap, ◌∙◌, subst, arith}
use Rattle.std.proofs.lemmas.Bool.Decides.{nat_tests}
use Rattle.std.proofs.lemmas.Int.{ints}
use Rattle.lean_fixed.specs.Digits.{value_of}
use Rattle.lean_fixed.specs.Fields.{plain_number}
use Rattle.lean_fixed.specs.Ranges.{most_price, most_volume}
use Rattle.lean_fixed.specs.Symbol.{is_symbol}
use Rattle.lean_items.specs.declared.reason.Reason.{Reason}
use Rattle.lean_items.specs.declared.reason.Reason.TheVariants.{Fields, Price, Volume}
use Rattle.lean_items.specs.declared.coarse_row.CoarseRow.{CoarseRow}
use Rattle.lean_items.specs.Coarse.{IsCoarse, most_dollars}
use Rattle.coarse_csv.specs.Rows.{up_to, whole_in, four_places, close_in, volume_in, dollars_in, row_of, row_of_values, row_of_fields}
use Rattle.coarse_csv.specs.Columns.{Five, columns_in}

abbrev pub row_of_five : Five → Result (Option CoarseRow) Reason
row_of_five f =
    if is_symbol f.symbol then row_of_values f.symbol (close_in f.close) (volume_in f.volume) (dollars_in f.dollars) else Ok None

pub few : (all : List (List ℕ)) → None ≡ columns_in all → Err Fields ≡ row_of_fields all
few [] e = refl
few (i ∷ []) e = refl
few (i ∷ s ∷ []) e = refl
few (i ∷ s ∷ c ∷ []) e = refl
few (i ∷ s ∷ c ∷ v ∷ []) e = refl
few (i ∷ s ∷ c ∷ v ∷ d ∷ more) e = cc

pub enough : (all : List (List ℕ)) (f : Five) → Some f ≡ columns_in all → row_of_five f ≡ row_of_fields all
enough [] f e = cc
enough (i ∷ []) f e = cc
enough (i ∷ s ∷ []) f e = cc
enough (i ∷ s ∷ c ∷ []) f e = cc
enough (i ∷ s ∷ c ∷ v ∷ []) f e = cc
enough (i ∷ s ∷ c ∷ v ∷ d ∷ more) f e =
    let same : f ≡ record { symbol = s; close = c; volume = v; dollars = d } = cc in
    ap row_of_five same

-- what `Symbol::read` says
pub no_symbol : (text : List ℕ) → None ≡ (if is_symbol text then Some text else None) → is_symbol text ≡ false
no_symbol text e =
    elim (is_symbol text) as (λ v. None ≡ (if v then Some text else None) → v ≡ false) [
      | true ↦ λ k. cc
      | false ↦ λ k. refl
    ] e

pub a_symbol : (text symbol : List ℕ) → Some symbol ≡ (if is_symbol text then Some text else None) → (is_symbol text ≡ true) × (symbol ≡ text)
a_symbol text symbol e =
    elim (is_symbol text) as (λ v. Some symbol ≡ (if v then Some text else None) → (v ≡ true) × (symbol ≡ text)) [
      | true ↦ λ k. let same : symbol ≡ text = cc in (refl, same)
      | false ↦ λ k. cc
    ] e

abbrev values_of : Five → Option ℕ → Option ℕ → Option ℕ → Result (Option CoarseRow) Reason
values_of f close volume dollars = row_of_values f.symbol close volume dollars

of_symbol : (f : Five) → is_symbol f.symbol ≡ true → values_of f (close_in f.close) (volume_in f.volume) (dollars_in f.dollars) ≡ row_of_five f
of_symbol f y =
    sym (ap (λ x. if x then values_of f (close_in f.close) (volume_in f.volume) (dollars_in f.dollars) else Ok None) y)

-- the answers of the reader, from what it found
abbrev pub symbol_in : List ℕ → Option (List ℕ)
symbol_in text = if is_symbol text then Some text else None

pub skipped : (f : Five) → None ≡ symbol_in f.symbol → Ok None ≡ row_of_five f
skipped f s =
    sym (ap (λ x. if x then values_of f (close_in f.close) (volume_in f.volume) (dollars_in f.dollars) else Ok None) (no_symbol f.symbol s))

pub no_close : (f : Five) (symbol : List ℕ) → Some symbol ≡ symbol_in f.symbol → None ≡ close_in f.close → Err Price ≡ row_of_five f
no_close f symbol s c =
    ap (λ x. values_of f x (volume_in f.volume) (dollars_in f.dollars)) c ∙ of_symbol f (a_symbol f.symbol symbol s).0

pub no_volume : (f : Five) (symbol : List ℕ) (close : ℕ) → Some symbol ≡ symbol_in f.symbol → Some close ≡ close_in f.close → None ≡ volume_in f.volume → Err Volume ≡ row_of_five f
no_volume f symbol close s c v =
    ap (λ x. values_of f (Some close) x (dollars_in f.dollars)) v
    ∙ ap (λ x. values_of f x (volume_in f.volume) (dollars_in f.dollars)) c
    ∙ of_symbol f (a_symbol f.symbol symbol s).0

pub no_dollars : (f : Five) (symbol : List ℕ) (close volume : ℕ) → Some symbol ≡ symbol_in f.symbol → Some close ≡ close_in f.close → Some volume ≡ volume_in f.volume → None ≡ dollars_in f.dollars → Err Volume ≡ row_of_five f
no_dollars f symbol close volume s c v d =
    ap (λ x. values_of f (Some close) (Some volume) x) d
    ∙ ap (λ x. values_of f (Some close) x (dollars_in f.dollars)) v
    ∙ ap (λ x. values_of f x (volume_in f.volume) (dollars_in f.dollars)) c
    ∙ of_symbol f (a_symbol f.symbol symbol s).0

pub a_row : (f : Five) (symbol : List ℕ) (close volume dollars : ℕ) → Some symbol ≡ symbol_in f.symbol → Some close ≡ close_in f.close → Some volume ≡ volume_in f.volume → Some dollars ≡ dollars_in f.dollars → Ok (Some (row_of symbol close volume dollars)) ≡ row_of_five f
a_row f symbol close volume dollars s c v d =
    let t = a_symbol f.symbol symbol s in
    ap (λ x. Ok (Some (row_of x close volume dollars))) t.1
    ∙ ap (λ x. values_of f (Some close) (Some volume) x) d
    ∙ ap (λ x. values_of f (Some close) x (dollars_in f.dollars)) v
    ∙ ap (λ x. values_of f x (volume_in f.volume) (dollars_in f.dollars)) c
    ∙ of_symbol f t.0

-- in range
pub up_to-le : (most : ℕ) (found : Option ℕ) (n : ℕ) → up_to most found ≡ Some n → n ≤ most
up_to-le most None n e = cc
up_to-le most (Some m) n e =
    elim (nat_le m most) as (λ v. nat_le m most ≡ v → (if v then Some m else None) ≡ Some n → n ≤ most) [
      | true ↦ λ t k. let same : m ≡ n = cc in let le : m ≤ most = grind (arith, nat_tests) in omega arith
      | false ↦ λ t k. cc
    ] refl e

values-valid : (symbol : List ℕ) (close volume dollars : Option ℕ) (row : CoarseRow) → is_symbol symbol ≡ true → ((n : ℕ) → close ≡ Some n → n ≤ most_price) → ((n : ℕ) → volume ≡ Some n → n ≤ most_volume) → ((n : ℕ) → dollars ≡ Some n → n ≤ most_dollars) → row_of_values symbol close volume dollars ≡ Ok (Some row) → IsCoarse row
values-valid s None v d row t p q r e = cc
values-valid s (Some c) None d row t p q r e = cc
values-valid s (Some c) (Some v) None row t p q r e = cc
values-valid s (Some c) (Some v) (Some d) row t p q r e =
    let same : row_of s c v d ≡ row = cc in
    let le_c = p c refl in
    let le_v = q v refl in
    let le_d = r d refl in
    let valid : IsCoarse (row_of s c v d) = record {
      symbol = t;
      close = (omega (arith, ints), omega (arith, ints, le_c));
      volume = (omega (arith, ints), omega (arith, ints, le_v));
      dollars = (omega (arith, ints), omega (arith, ints, le_d));
    } in
    subst (λ (x : CoarseRow). IsCoarse x) same valid

pub row-valid : (all : List (List ℕ)) (row : CoarseRow) → row_of_fields all ≡ Ok (Some row) → IsCoarse row
row-valid [] row e = cc
row-valid (i ∷ []) row e = cc
row-valid (i ∷ s ∷ []) row e = cc
row-valid (i ∷ s ∷ c ∷ []) row e = cc
row-valid (i ∷ s ∷ c ∷ v ∷ []) row e = cc
row-valid (i ∷ s ∷ c ∷ v ∷ d ∷ more) row e =
    elim (is_symbol s) as (λ x. is_symbol s ≡ x → (if x then row_of_values s (close_in c) (volume_in v) (dollars_in d) else Ok None) ≡ Ok (Some row) → IsCoarse row) [
      | true ↦ λ t k. values-valid s (close_in c) (volume_in v) (dollars_in d) row t (up_to-le most_price (option_map (λ n. n * 10000 + value_of (four_places c)) (whole_in c))) (up_to-le most_volume (plain_number v)) (up_to-le most_dollars (whole_in d)) k
      | false ↦ λ t k. cc
    ] refl e
