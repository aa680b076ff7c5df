-- What a reading gives has a property: readings in a row, the rows of a table, and the kinds of values.
use Rattle.std.proofs.Common.{◌≡◌, ℕ, ◌%◌, ◌≤◌, Bool, true, false, ◌&&◌, ◌==◌, nat_le, List, bytes_eq, Option, Some, None, IfSome, is_some, Ok, Err, IfOk, option_and_then, option_map, refl, arith}
use Rattle.std.proofs.lemmas.Bool.{leb-true, eqb-true, and_parts}
use Rattle.std.specs.List.{list_any}
use Rattle.toml.specs.Data.{Data, Items, Members, get_member, as_str, as_array}
use Rattle.lean_fixed.specs.declared.resolution.Resolution.{Resolution}
use Rattle.lean_fixed.specs.declared.resolution.Resolution.TheVariants.{Minute, Hour, Daily}
use Rattle.lean_fixed.specs.Calendar.{day_of_digits}
use Rattle.lean_fixed.specs.Symbol.{is_symbol}
use Rattle.rule_strategy.specs.Answers.{Answer, ◌>>=◌}
use Rattle.rule_strategy.specs.Tables.{or_missing, or_wrong, value_or, row, value_if, optional, length_of, if_few, items_if, array_row, none_or, none_row, text_if, text_row}
use Rattle.rule_strategy.specs.Validity.{IsPeriod}
use Rattle.rule_strategy.specs.Values.{within, whole, amount, symbol_of, symbol, unless_among, new_symbol, window_day, period_of, period}

-- ---- readings in a row

-- where nothing is asked
abbrev pub Any : {A : Type 0} → A → Type 0
Any a = Unit {0}

pub then_holds : {A B : Type 0} (P : A → Type 0) (Q : B → Type 0) (want : Answer A) (next : A → Answer B) → IfOk want P → ((a : A) → P a → IfOk (next a) Q) → IfOk (want >>= next) Q
then_holds P Q (Ok a) next h step = step a h
then_holds P Q (Err fault) next h step = tt

pub any_holds : {A : Type 0} (want : Answer A) → IfOk want Any
any_holds (Ok a) = tt
any_holds (Err fault) = tt

pub weaker : {A : Type 0} (P Q : A → Type 0) (want : Answer A) → ((a : A) → P a → Q a) → IfOk want P → IfOk want Q
weaker P Q (Ok a) step h = step a h
weaker P Q (Err fault) step h = tt

-- ---- rows

or_missing_holds : {A : Type 0} (P : A → Type 0) (key : List ℕ) (default : Option A) → IfSome default P → IfOk (or_missing key default) P
or_missing_holds P key None h = tt
or_missing_holds P key (Some a) h = h

or_wrong_holds : {A : Type 0} (P : A → Type 0) (key : List ℕ) (o : Option A) → IfSome o P → IfOk (or_wrong key o) P
or_wrong_holds P key None h = tt
or_wrong_holds P key (Some a) h = h

value_or_holds : {A : Type 0} (P : A → Type 0) (key : List ℕ) (kind : Data → Option A) (default : Option A) (found : Option Data) → ((d : Data) → IfSome (kind d) P) → IfSome default P → IfOk (value_or key kind default found) P
value_or_holds P key kind default None each h = or_missing_holds P key default h
value_or_holds P key kind default (Some d) each h = or_wrong_holds P key (kind d) (each d)

pub row_holds : {A : Type 0} (P : A → Type 0) (key : List ℕ) (kind : Data → Option A) (default : Option A) (table : Members) → ((d : Data) → IfSome (kind d) P) → IfSome default P → IfOk (row key kind default table) P
unfolding row
row_holds P key kind default table each h = value_or_holds P key kind default (get_member key table) each h

some_holds : {A : Type 0} (P : Option A → Type 0) (key : List ℕ) (o : Option A) → IfSome o (λ a. P (Some a)) → IfOk (or_wrong key (option_map Some o)) P
some_holds P key None h = tt
some_holds P key (Some a) h = h

value_if_holds : {A : Type 0} (P : Option A → Type 0) (key : List ℕ) (kind : Data → Option A) (found : Option Data) → P None → ((d : Data) → IfSome (kind d) (λ a. P (Some a))) → IfOk (value_if key kind found) P
value_if_holds P key kind None none each = none
value_if_holds P key kind (Some d) none each = some_holds P key (kind d) (each d)

pub optional_holds : {A : Type 0} (P : Option A → Type 0) (key : List ℕ) (kind : Data → Option A) (table : Members) → P None → ((d : Data) → IfSome (kind d) (λ a. P (Some a))) → IfOk (optional key kind table) P
unfolding optional
optional_holds P key kind table none each = value_if_holds P key kind (get_member key table) none each

abbrev pub AreFew : ℕ → Items → Type 0
AreFew most items = length_of items ≤ most

few_by : (key : List ℕ) (most : ℕ) (items : Items) (b : Bool) → nat_le (length_of items) most ≡ b → IfOk (if_few key most (Some items)) (AreFew most)
few_by key most items true e = rw e (leb-true (length_of items) most e)
few_by key most items false e = rw e tt

if_few_holds : (key : List ℕ) (most : ℕ) (items : Option Items) → IfOk (if_few key most items) (AreFew most)
if_few_holds key most None = tt
if_few_holds key most (Some items) = few_by key most items (nat_le (length_of items) most) refl

items_if_hold : (key : List ℕ) (most : ℕ) (found : Option Data) → IfOk (items_if key most found) (AreFew most)
items_if_hold key most None = omega arith
items_if_hold key most (Some d) = if_few_holds key most (as_array d)

pub array_holds : (key : List ℕ) (most : ℕ) (table : Members) → IfOk (array_row key most table) (AreFew most)
unfolding array_row
array_holds key most table = items_if_hold key most (get_member key table)

-- a text is there exactly where it is taken
abbrev pub IsThereIf : Bool → Option (List ℕ) → Type 0
IsThereIf taken text = is_some text ≡ taken

none_holds : (key : List ℕ) (found : Option Data) → IfOk (none_or key found) (IsThereIf false)
none_holds key None = refl
none_holds key (Some d) = tt

pub text_if_holds : (taken : Bool) (key : List ℕ) (table : Members) → IfOk (text_if taken key table) (IsThereIf taken)
unfolding text_if none_row
text_if_holds true key table = then_holds Any (IsThereIf true) (text_row key table) _ (any_holds _) (λ text h. refl)
text_if_holds false key table = none_holds key (get_member key table)

-- ---- kinds of values

pub and_then_holds : {A B : Type 0} (P : A → Type 0) (Q : B → Type 0) (f : A → Option B) (o : Option A) → IfSome o P → ((a : A) → P a → IfSome (f a) Q) → IfSome (option_and_then f o) Q
and_then_holds P Q f None h step = tt
and_then_holds P Q f (Some a) h step = step a h

pub any_of : {A : Type 0} (o : Option A) → IfSome o Any
any_of None = tt
any_of (Some a) = tt

abbrev pub InRange : ℕ → ℕ → ℕ → Type 0
InRange least most n = (least ≤ n) × (n ≤ most)

within_by : (least most n : ℕ) (b : Bool) → (nat_le least n && nat_le n most) ≡ b → IfSome (within least most n) (InRange least most)
within_by least most n true e =
    let parts = and_parts (nat_le least n) (nat_le n most) e in
    rw e (leb-true least n parts.0, leb-true n most parts.1)
within_by least most n false e = rw e tt

pub within_holds : (least most n : ℕ) → IfSome (within least most n) (InRange least most)
within_holds least most n = within_by least most n (nat_le least n && nat_le n most) refl

pub whole_holds : (least most : ℕ) (d : Data) → IfSome (whole least most d) (InRange least most)
unfolding whole
whole_holds least most d =
    and_then_holds Any (InRange least most) (within least most) _ (any_of _) (λ n h. within_holds least most n)

pub amount_holds : (least most : ℕ) (d : Data) → IfSome (amount least most d) (InRange least most)
unfolding amount
amount_holds least most d =
    and_then_holds Any (InRange least most) (within least most) _ (any_of _) (λ n h. within_holds least most n)

pub window_day_holds : (d : Data) → IfSome (window_day d) (InRange 1 84004)
unfolding window_day
window_day_holds d =
    let number = option_and_then day_of_digits (as_str d) in
    and_then_holds Any (InRange 1 84004) (within 1 84004) number (any_of number) (λ n h. within_holds 1 84004 n)

abbrev pub IsSymbolText : List ℕ → Type 0
IsSymbolText text = is_symbol text ≡ true

symbol_by : (text : List ℕ) (b : Bool) → is_symbol text ≡ b → IfSome (symbol_of text) IsSymbolText
symbol_by text true e = rw e e
symbol_by text false e = rw e tt

pub symbol_holds : (d : Data) → IfSome (symbol d) IsSymbolText
unfolding symbol
symbol_holds d =
    let text = as_str d in
    and_then_holds Any IsSymbolText symbol_of text (any_of text) (λ text h. symbol_by text (is_symbol text) refl)

-- a symbol that is none of some others
abbrev pub IsNew : List (List ℕ) → List ℕ → Type 0
IsNew symbols text = IsSymbolText text × (list_any (bytes_eq text) symbols ≡ false)

new_by : (symbols : List (List ℕ)) (text : List ℕ) (b : Bool) → list_any (bytes_eq text) symbols ≡ b → IsSymbolText text → IfSome (unless_among symbols text) (IsNew symbols)
new_by symbols text true e h = rw e tt
new_by symbols text false e h = rw e (h, e)

pub new_symbol_holds : (symbols : List (List ℕ)) (d : Data) → IfSome (new_symbol symbols d) (IsNew symbols)
unfolding new_symbol
new_symbol_holds symbols d =
    and_then_holds IsSymbolText (IsNew symbols) (unless_among symbols) _ (symbol_holds d)
    (λ text h. new_by symbols text (list_any (bytes_eq text) symbols) refl h)

minute_by : (n : ℕ) (b : Bool) → 1 ≤ n → (1440 % n == 0) ≡ b → IfSome (period_of Minute n) (λ m. IsPeriod Minute (Some m))
minute_by n true h e = rw e (h, eqb-true (1440 % n) 0 e)
minute_by n false h e = rw e tt

hour_by : (n : ℕ) (b : Bool) → 1 ≤ n → ((1440 % n == 0) && (n % 60 == 0)) ≡ b → IfSome (period_of Hour n) (λ m. IsPeriod Hour (Some m))
hour_by n true h e =
    let parts = and_parts (1440 % n == 0) (n % 60 == 0) e in
    rw e (h, eqb-true (1440 % n) 0 parts.0, eqb-true (n % 60) 0 parts.1)
hour_by n false h e = rw e tt

period_of_holds : (resolution : Resolution) (n : ℕ) → 1 ≤ n → IfSome (period_of resolution n) (λ m. IsPeriod resolution (Some m))
period_of_holds Minute n h = minute_by n (1440 % n == 0) h refl
period_of_holds Hour n h = hour_by n ((1440 % n == 0) && (n % 60 == 0)) h refl
period_of_holds Daily n h = tt

pub period_holds : (resolution : Resolution) (d : Data) → IfSome (period resolution d) (λ m. IsPeriod resolution (Some m))
unfolding period
period_holds resolution d =
    and_then_holds (InRange 1 1440) (λ m. IsPeriod resolution (Some m)) (period_of resolution) _ (whole_holds 1 1440 d)
    (λ n h. period_of_holds resolution n h.0)
