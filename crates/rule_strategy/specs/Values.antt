-- The kinds of values. Each reads a value of a file: `None` where it is of another kind or out of its range.
use Rattle.std.specs.Prelude.{ℕ, ◌%◌, ◌&&◌, ◌==◌, nat_le, if◌then◌else◌, ℤ, pos, negsuc, List, bytes_eq, codes, Option, Some, None, option_and_then}
use Rattle.std.specs.List.{list_any}
use Rattle.toml.specs.Data.{Data, as_integer, as_str}
use Rattle.lean_fixed.specs.declared.resolution.Resolution.{Resolution}
use Rattle.lean_fixed.specs.declared.resolution.Resolution.TheVariants.{Minute, Hour, Daily}
use Rattle.lean_fixed.specs.Amount as fixed
use Rattle.lean_fixed.specs.Calendar.{day_of_digits}
use Rattle.lean_fixed.specs.Symbol.{is_symbol}
use Rattle.lean_orders.specs.declared.order.Kind.{Kind}
use Rattle.lean_orders.specs.declared.order.Kind.TheVariants.{Market, Limit, Stop, AtOpen, StopLimit}
use Rattle.rule_strategy.specs.declared.rule_texts.Verb.{Verb}
use Rattle.rule_strategy.specs.declared.rule_texts.Verb.TheVariants.{Submit, Cancel, Update}

abbrev pub within : ℕ → ℕ → ℕ → Option ℕ
within least most n = if nat_le least n && nat_le n most then Some n else None

abbrev pub natural : ℤ → Option ℕ
natural (pos n) = Some n
natural (negsuc n) = None

-- a whole number from one number to another
unfoldable pub whole : ℕ → ℕ → Data → Option ℕ
whole least most d = option_and_then (within least most) (option_and_then natural (as_integer d))

-- a text that is an amount of so many units
unfoldable pub amount : ℕ → ℕ → Data → Option ℕ
amount least most d = option_and_then (within least most) (option_and_then fixed.amount (as_str d))

-- a text that is a symbol
abbrev pub symbol_of : List ℕ → Option (List ℕ)
symbol_of text = if is_symbol text then Some text else None

unfoldable pub symbol : Data → Option (List ℕ)
symbol d = option_and_then symbol_of (as_str d)

-- one that is none of some symbols
abbrev pub unless_among : List (List ℕ) → List ℕ → Option (List ℕ)
unless_among symbols text = if list_any (bytes_eq text) symbols then None else Some text

unfoldable pub new_symbol : List (List ℕ) → Data → Option (List ℕ)
new_symbol symbols d = option_and_then (unless_among symbols) (symbol d)

-- a text that is the date of a day on which a run may begin or end
unfoldable pub window_day : Data → Option ℕ
window_day d = option_and_then (within 1 84004) (option_and_then day_of_digits (as_str d))

-- a text that is one of some words
abbrev pub resolution_of : List ℕ → Option Resolution
resolution_of text =
    if bytes_eq text (codes "minute") then Some Minute
    else if bytes_eq text (codes "hour") then Some Hour
    else if bytes_eq text (codes "daily") then Some Daily
    else None

unfoldable pub resolution : Data → Option Resolution
resolution d = option_and_then resolution_of (as_str d)

abbrev pub kind_of : List ℕ → Option Kind
kind_of text =
    if bytes_eq text (codes "market") then Some Market
    else if bytes_eq text (codes "limit") then Some Limit
    else if bytes_eq text (codes "stop") then Some Stop
    else if bytes_eq text (codes "open") then Some AtOpen
    else if bytes_eq text (codes "stop-limit") then Some StopLimit
    else None

unfoldable pub kind : Data → Option Kind
kind d = option_and_then kind_of (as_str d)

abbrev pub verb_of : List ℕ → Option Verb
verb_of text =
    if bytes_eq text (codes "order") then Some Submit
    else if bytes_eq text (codes "cancel") then Some Cancel
    else if bytes_eq text (codes "update") then Some Update
    else None

unfoldable pub verb : Data → Option Verb
verb d = option_and_then verb_of (as_str d)

-- A whole number of minutes that divides a day: of hour bars a multiple of 60, and daily bars have none.
abbrev pub period_of : Resolution → ℕ → Option ℕ
period_of Minute n = if 1440 % n == 0 then Some n else None
period_of Hour n = if (1440 % n == 0) && (n % 60 == 0) then Some n else None
period_of Daily n = None

unfoldable pub period : Resolution → Data → Option ℕ
period resolution d = option_and_then (period_of resolution) (whole 1 1440 d)
