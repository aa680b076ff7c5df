-- A plain number byte by byte: what its first field says once some digits of it are read.
use Rattle.std.proofs.Common.{◌≡◌, ℕ, ◌+◌, ◌-◌, ◌*◌, ◌^◌, ◌<◌, ◌≤◌, Bool, true, false, not, ◌&&◌, ◌==◌, if◌then◌else◌, nat_le, List, [], ◌∷◌, length, get_or, drop, take, Option, Some, None, option_map, refl, ap, ◌∙◌, one-add, add-one, arith}
use Rattle.std.proofs.lemmas.Bool.Decides.{nat_tests}
use Rattle.std.proofs.Math.Dec.{eqb-suc-zero}
use Rattle.std.specs.List.{list_all, before_first, after_first, position_or_len}
use Rattle.lean_fixed.specs.Digits.{is_digit, digits, value_from}
use Rattle.lean_fixed.specs.Fields.{fields, begin_first}
use Rattle.equity_csv.specs.Rows.{kept_if}
use Rattle.equity_csv.specs.Reading.{leading, after_end, ends_number, number_up_to}
use Rattle.equity_csv.proofs.FieldLemmas.{fields-begin, drop-begins, with_more}

abbrev is_point : ℕ → Bool
is_point b = b == 46

-- the number of at most `most` whose digits so far stand for n, from what stands before and after the point of the rest
abbrev pub number_of_parts : ℕ → ℕ → List ℕ → List ℕ → Option ℕ
number_of_parts most n whole zeros =
    kept_if (λ v. nat_le v most)
    (if list_all (λ z. z == 48) zeros
    then (if list_all is_digit whole && nat_le (value_from n whole) (10 ^ 18) then Some (value_from n whole) else None)
    else None)

-- the number of at most `most` that a field goes on with, whose digits so far stand for n
abbrev pub number_on : ℕ → ℕ → List ℕ → Option ℕ
number_on most n field = number_of_parts most n (before_first is_point field) (after_first is_point field)

abbrev pub leading_on : ℕ → ℕ → List (List ℕ) → Option (ℕ × List (List ℕ))
leading_on most n fs = leading (number_on most n) fs

pub before_first-cons : (p : ℕ → Bool) (b : ℕ) (bs : List ℕ) → before_first p (b ∷ bs) ≡ (if p b then [] else b ∷ before_first p bs)
before_first-cons p b bs =
    elim (p b) as (λ v. take (if not v then 1 + position_or_len p bs else 0) (b ∷ bs) ≡ (if v then [] else b ∷ before_first p bs)) [
      | true ↦ refl
      | false ↦ rw one-add
    ]

pub after_first-cons : (p : ℕ → Bool) (b : ℕ) (bs : List ℕ) → after_first p (b ∷ bs) ≡ (if p b then bs else after_first p bs)
after_first-cons p b bs =
    elim (p b) as (λ v. drop ((if not v then 1 + position_or_len p bs else 0) + 1) (b ∷ bs) ≡ (if v then bs else after_first p bs)) [
      | true ↦ refl
      | false ↦ rw (add-one (1 + position_or_len p bs)) (rw (one-add (position_or_len p bs)) (rw (add-one (position_or_len p bs)) refl))
    ]

-- a digit more
parts-digit : (most n b : ℕ) (whole zeros : List ℕ) → is_digit b ≡ true → number_of_parts most n (b ∷ whole) zeros ≡ number_of_parts most (n * 10 + (b - 48)) whole zeros
parts-digit most n b whole zeros d = rw d

point_from_digit : (b : ℕ) → is_digit b ≡ true → is_point b ≡ false
point_from_digit b d = grind (arith, nat_tests)

comma_from_digit : (b : ℕ) → is_digit b ≡ true → (b == 44) ≡ false
comma_from_digit b d = grind (arith, nat_tests)

pub number_on-digit : (most n b : ℕ) (bs : List ℕ) → is_digit b ≡ true → number_on most n (b ∷ bs) ≡ number_on most (n * 10 + (b - 48)) bs
number_on-digit most n b bs d =
    let p = point_from_digit b d in
    let before : before_first is_point (b ∷ bs) ≡ b ∷ before_first is_point bs = before_first-cons is_point b bs ∙ rw p in
    let after : after_first is_point (b ∷ bs) ≡ after_first is_point bs = after_first-cons is_point b bs ∙ rw p in
    ap (λ w. number_of_parts most n w (after_first is_point (b ∷ bs))) before
    ∙ ap (λ z. number_of_parts most n (b ∷ before_first is_point bs) z) after
    ∙ parts-digit most n b (before_first is_point bs) (after_first is_point bs) d

-- no digit more
parts-end : (most n : ℕ) (zeros : List ℕ) → n ≤ most → most ≤ 10 ^ 18 → number_of_parts most n [] zeros ≡ (if list_all (λ z. z == 48) zeros then Some n else None)
parts-end most n zeros h k =
    let m : nat_le n most ≡ true = grind (arith, nat_tests) in
    let e : nat_le n (10 ^ 18) ≡ true = grind (arith, nat_tests) in
    elim (list_all (λ z. z == 48) zeros) as (λ v. kept_if (λ v. nat_le v most) (if v then (if nat_le n (10 ^ 18) then Some n else None) else None) ≡ (if v then Some n else None)) [
      | true ↦ rw e (rw m)
      | false ↦ refl
    ]

parts-other : (most n b : ℕ) (whole zeros : List ℕ) → is_digit b ≡ false → number_of_parts most n (b ∷ whole) zeros ≡ None
parts-other most n b whole zeros d =
    rw d (elim (list_all (λ z. z == 48) zeros) as (λ v. kept_if (λ v. nat_le v most) (if v then None else None) ≡ None) [ true ↦ refl | false ↦ refl ])

pub number_on-end : (most n : ℕ) → n ≤ most → most ≤ 10 ^ 18 → number_on most n [] ≡ Some n
number_on-end most n h k = parts-end most n [] h k

pub number_on-other : (most n b : ℕ) (bs : List ℕ) → n ≤ most → most ≤ 10 ^ 18 → is_digit b ≡ false → number_on most n (b ∷ bs) ≡ (if ends_number (b ∷ bs) then Some n else None)
number_on-other most n b bs h k d =
    let before = before_first-cons is_point b bs in
    let after = after_first-cons is_point b bs in
    ap (λ w. number_of_parts most n w (after_first is_point (b ∷ bs))) before
    ∙ ap (λ z. number_of_parts most n (if is_point b then [] else b ∷ before_first is_point bs) z) after
    ∙ elim (is_point b) as (λ v. number_of_parts most n (if v then [] else b ∷ before_first is_point bs) (if v then bs else after_first is_point bs) ≡ (if v && list_all (λ z. z == 48) bs then Some n else None)) [
      | true ↦ parts-end most n bs h k
      | false ↦ parts-other most n b (before_first is_point bs) (after_first is_point bs) d
    ]

-- digits behind a number make it no less
pub value_from-least : (n : ℕ) (ds : List ℕ) → n ≤ value_from n ds
value_from-least n [] = omega arith
value_from-least n (d ∷ ds) = omega (arith, value_from-least (n * 10 + (d - 48)) ds)

parts-large : (most n : ℕ) (whole zeros : List ℕ) → most < n → number_of_parts most n whole zeros ≡ None
parts-large most n whole zeros h =
    let l = value_from-least n whole in
    let m : nat_le (value_from n whole) most ≡ false = grind (arith, nat_tests) in
    elim (list_all (λ z. z == 48) zeros) as (λ v. kept_if (λ v. nat_le v most) (if v then (if list_all is_digit whole && nat_le (value_from n whole) (10 ^ 18) then Some (value_from n whole) else None) else None) ≡ None) [
      | true ↦ elim (list_all is_digit whole && nat_le (value_from n whole) (10 ^ 18)) as (λ v. kept_if (λ v. nat_le v most) (if v then Some (value_from n whole) else None) ≡ None) [ true ↦ rw m | false ↦ refl ]
      | false ↦ refl
    ]

pub number_on-large : (most n : ℕ) (field : List ℕ) → most < n → number_on most n field ≡ None
number_on-large most n field h = parts-large most n (before_first is_point field) (after_first is_point field) h

-- a number begins with a digit
pub number-begin : (most b : ℕ) (bs : List ℕ) → is_digit b ≡ true → number_up_to most (b ∷ bs) ≡ number_on most 0 (b ∷ bs)
number-begin most b bs d =
    let before : before_first is_point (b ∷ bs) ≡ b ∷ before_first is_point bs = before_first-cons is_point b bs ∙ rw (point_from_digit b d) in
    rw before (rw (eqb-suc-zero (length (before_first is_point bs))))

pub number-none : (most b : ℕ) (bs : List ℕ) → is_digit b ≡ false → number_up_to most (b ∷ bs) ≡ None
number-none most b bs d =
    rw (before_first-cons is_point b bs) (elim (list_all (λ z. z == 48) (after_first is_point (b ∷ bs))) as (λ v. kept_if (λ v. nat_le v most) (if v then digits (if is_point b then [] else b ∷ before_first is_point bs) else None) ≡ None) [
      | true ↦ elim (is_point b) as (λ v. kept_if (λ v. nat_le v most) (digits (if v then [] else b ∷ before_first is_point bs)) ≡ None) [
        | true ↦ refl
        | false ↦ rw (eqb-suc-zero (length (before_first is_point bs))) (rw d)
      ]
      | false ↦ refl
    ])

abbrev with_number : ℕ → List (List ℕ) → ℕ × List (List ℕ)
with_number n more = (n, more)

-- the same of the first field of a text
pub leading_on-digit : (most n b : ℕ) (text : List ℕ) → is_digit b ≡ true → leading_on most n (fields (b ∷ text)) ≡ leading_on most (n * 10 + (b - 48)) (fields text)
leading_on-digit most n b text d =
    let w = fields-begin text in
    let s = number_on-digit most n b w.field d in
    rw (comma_from_digit b d) (rw w.is (ap (option_map (with_more w.more)) s))

pub leading_on-other : (most n b : ℕ) (text : List ℕ) → n ≤ most → most ≤ 10 ^ 18 → is_digit b ≡ false → leading_on most n (fields (b ∷ text)) ≡ option_map (with_number n) (after_end (fields (b ∷ text)))
leading_on-other most n b text h k d =
    elim (b == 44) as (λ v. leading_on most n (if v then [] ∷ fields text else begin_first b (fields text)) ≡ option_map (with_number n) (after_end (if v then [] ∷ fields text else begin_first b (fields text)))) [
      | true ↦ ap (option_map (with_more (fields text))) (number_on-end most n h k)
      | false ↦
          let w = fields-begin text in
          rw w.is (ap (option_map (with_more w.more)) (number_on-other most n b w.field h k d) ∙ ends n w.more (ends_number (b ∷ w.field)))
    ]
  where
    ends : (n : ℕ) (more : List (List ℕ)) (v : Bool) → option_map (with_more more) (if v then Some n else None) ≡ option_map (with_number n) (if v then Some more else None)
    ends n more true = refl
    ends n more false = refl

pub leading_on-end : (most n : ℕ) → n ≤ most → most ≤ 10 ^ 18 → leading_on most n (fields []) ≡ Some (n, [])
leading_on-end most n h k = ap (option_map (with_more [])) (number_on-end most n h k)

pub leading_on-large : (most n : ℕ) (fs : List (List ℕ)) → most < n → leading_on most n fs ≡ None
leading_on-large most n [] h = refl
leading_on-large most n (field ∷ more) h = ap (option_map (with_more more)) (number_on-large most n field h)

pub leading-begin : (most b : ℕ) (text : List ℕ) → is_digit b ≡ true → leading (number_up_to most) (fields (b ∷ text)) ≡ leading_on most 0 (fields (b ∷ text))
leading-begin most b text d =
    let w = fields-begin text in
    rw (comma_from_digit b d) (rw w.is (ap (option_map (with_more w.more)) (number-begin most b w.field d)))

pub leading-none : (most b : ℕ) (text : List ℕ) → is_digit b ≡ false → leading (number_up_to most) (fields (b ∷ text)) ≡ None
leading-none most b text d =
    elim (b == 44) as (λ v. leading (number_up_to most) (if v then [] ∷ fields text else begin_first b (fields text)) ≡ None) [
      | true ↦ refl
      | false ↦ let w = fields-begin text in rw w.is (ap (option_map (with_more w.more)) (number-none most b w.field d))
    ]

-- the same at a place in a text
pub leading_on-drop_digit : (most n : ℕ) (text : List ℕ) (i : ℕ) → i < length text → is_digit (get_or text i 0) ≡ true → leading_on most n (fields (drop i text)) ≡ leading_on most (n * 10 + (get_or text i 0 - 48)) (fields (drop (i + 1) text))
leading_on-drop_digit most n text i h d = rw (drop-begins text i h) (leading_on-digit most n (get_or text i 0) (drop (i + 1) text) d)

pub leading_on-drop_other : (most n : ℕ) (text : List ℕ) (i : ℕ) → i < length text → n ≤ most → most ≤ 10 ^ 18 → is_digit (get_or text i 0) ≡ false → leading_on most n (fields (drop i text)) ≡ option_map (with_number n) (after_end (fields (drop i text)))
leading_on-drop_other most n text i h l k d = rw (drop-begins text i h) (leading_on-other most n (get_or text i 0) (drop (i + 1) text) l k d)

pub leading-text_begin : (most : ℕ) (text : List ℕ) → 0 < length text → is_digit (get_or text 0 0) ≡ true → leading (number_up_to most) (fields text) ≡ leading_on most 0 (fields text)
leading-text_begin most (b ∷ text) h d = leading-begin most b text d
leading-text_begin most [] h d = absurd (omega arith)

pub leading-text_none : (most : ℕ) (text : List ℕ) → 0 < length text → is_digit (get_or text 0 0) ≡ false → leading (number_up_to most) (fields text) ≡ None
leading-text_none most (b ∷ text) h d = leading-none most b text d
leading-text_none most [] h d = absurd (omega arith)
