-- The tokens of a text. Spaces and tabs separate them and mean nothing else.
use Rattle.std.specs.Prelude.{ℕ, zero, suc, ◌+◌, ◌-◌, ◌*◌, ◌^◌, Bool, ◌&&◌, ◌||◌, ◌==◌, nat_le, nat_eq, bytes_eq, pos, if◌then◌else◌, List, [], ◌∷◌, length, drop, take_while, map, ◌≤◌, Option, Some, None, Result, Ok, Err, codes}
use Rattle.std.specs.List.{starts_with}
use Rattle.std.specs.Borrow.{Bor}
use Rattle.bar_windows.specs.declared.spec.Func.TheVariants as func
use Rattle.lean_fixed.specs.Digits.{is_digit, value_of}
use Rattle.rule_lang.specs.declared.fault.RuleError.{RuleError}
use Rattle.rule_lang.specs.declared.fault.RuleError.TheVariants as error
use Rattle.rule_lang.specs.declared.token.Name.TheVariants as name
use Rattle.rule_lang.specs.declared.token.Comparison.TheVariants.{Less, AtMost, Greater, AtLeast, Equal, Unequal}
use Rattle.rule_lang.specs.declared.token.Arithmetic.TheVariants.{Plus, Minus, Times, Over}
use Rattle.rule_lang.specs.declared.token.Op.TheVariants as op
use Rattle.rule_lang.specs.declared.token.Kind.{Kind}
use Rattle.rule_lang.specs.declared.token.Kind.TheVariants as kind
use Rattle.rule_lang.specs.declared.token.Token.{Token}
use Rattle.rule_lang.specs.declared.token.Front.{Front}
use Rattle.rule_lang.specs.declared.token.Front.TheVariants.{Blank, Lexeme, Bad}

-- what is wrong, and the place of the byte at which it stands
abbrev pub Fault : Type 0
Fault = RuleError × ℕ

-- a space or a tab, and 'a' to 'z'
abbrev pub is_blank : ℕ → Bool
is_blank b = (b == 32) || (b == 9)

abbrev pub is_letter : ℕ → Bool
is_letter b = nat_le 97 b && nat_le b 122

-- the words of the language
abbrev pub words : List (List ℕ × Kind)
words =
    (codes "or", kind.Operator op.Or)
    ∷ (codes "and", kind.Operator op.And)
    ∷ (codes "not", kind.Not)
    ∷ (codes "open", kind.Name name.Open)
    ∷ (codes "high", kind.Name name.High)
    ∷ (codes "low", kind.Name name.Low)
    ∷ (codes "close", kind.Name name.Close)
    ∷ (codes "volume", kind.Name name.Volume)
    ∷ (codes "price", kind.Name name.Price)
    ∷ (codes "position", kind.Name name.Position)
    ∷ (codes "cash", kind.Name name.Cash)
    ∷ (codes "equity", kind.Name name.Equity)
    ∷ (codes "orders", kind.Name name.Orders)
    ∷ (codes "time", kind.Name name.Time)
    ∷ (codes "sma", kind.Func func.Sma)
    ∷ (codes "highest", kind.Func func.Highest)
    ∷ (codes "lowest", kind.Func func.Lowest)
    ∷ (codes "change", kind.Func func.Change)
    ∷ []

-- its signs, the longer before those that they begin with
abbrev pub signs : List (List ℕ × Kind)
signs =
    (codes "<=", kind.Operator (op.Compare AtMost))
    ∷ (codes "<", kind.Operator (op.Compare Less))
    ∷ (codes ">=", kind.Operator (op.Compare AtLeast))
    ∷ (codes ">", kind.Operator (op.Compare Greater))
    ∷ (codes "==", kind.Operator (op.Compare Equal))
    ∷ (codes "!=", kind.Operator (op.Compare Unequal))
    ∷ (codes "+", kind.Operator (op.Compute Plus))
    ∷ (codes "-", kind.Operator (op.Compute Minus))
    ∷ (codes "*", kind.Operator (op.Compute Times))
    ∷ (codes "/", kind.Operator (op.Compute Over))
    ∷ (codes "(", kind.Opening)
    ∷ (codes ")", kind.Closing)
    ∷ []

-- the first entry of a table that a test passes, as a token of so many bytes
abbrev pub lexeme_among : (List ℕ → Bool) → List (List ℕ × Kind) → Front
lexeme_among test [] = Bad error.Token
lexeme_among test (entry ∷ entries) =
    if test entry.0 then Lexeme entry.1 (length entry.0) else lexeme_among test entries

-- a text begins with a sign, the longest that it can be
unfoldable pub sign_at : List ℕ → Front
sign_at text = lexeme_among (λ sign. starts_with nat_eq text sign) signs

-- a text begins with a word, the run of its letters
unfoldable pub word_at : List ℕ → Front
word_at text = lexeme_among (λ word. bytes_eq word (take_while is_letter text)) words

-- the digits behind the point with which a text begins
abbrev pub places_at : List ℕ → Option (List ℕ)
places_at [] = None
places_at (b ∷ text) = if b == 46 then Some (take_while is_digit text) else None

-- a number of these digits before the point and behind it: at most 18, and 1 to 4
abbrev pub numeral : List ℕ → Option (List ℕ) → Front
numeral whole None = if nat_le (length whole) 18 then Lexeme (kind.Whole (value_of whole)) (length whole) else Bad error.Number
numeral whole (Some places) =
    if nat_le (length whole) 18 && nat_le 1 (length places) && nat_le (length places) 4
    then Lexeme (kind.Decimal (pos (value_of whole * 10000 + value_of places * 10 ^ (4 - length places))))
    (length whole + 1 + length places)
    else Bad error.Number

-- a text begins with a number, a run of digits and what may follow it
unfoldable pub number_at : List ℕ → Front
number_at text =
    numeral (take_while is_digit text) (places_at (drop (length (take_while is_digit text)) text))

-- what stands at the front of a text, by its first byte
unfoldable pub front_of : List ℕ → Front
front_of [] = Bad error.Token
front_of (b ∷ text) =
    if is_blank b then Blank
    else if is_digit b then number_at (b ∷ text)
    else if is_letter b then word_at (b ∷ text)
    else sign_at (b ∷ text)

-- a token before others, unless a fault follows it
abbrev pub put : Token → Result (List Token) Fault → Result (List Token) Fault
put t (Ok others) = Ok (t ∷ others)
put t (Err fault) = Err fault

-- what stands at a place, and what follows behind so many further bytes of it
abbrev pub put_front : Front → ℕ → (ℕ → Result (List Token) Fault) → Result (List Token) Fault
put_front Blank at behind = behind 0
put_front (Lexeme sort size) at behind = put (record { kind = sort; at = at }) (behind (size - 1))
put_front (Bad error) at behind = Err (error, at)

-- The tokens of what is left of a text from a place on, whose first bytes may lie inside a token before it. The last token
-- is the end of the text. The fault is the first at which no token begins, or at which a number has too many digits.
unfoldable pub tokens_from : ℕ → ℕ → List ℕ → Result (List Token) Fault
tokens_from at inside [] = Ok (record { kind = kind.End; at = at } ∷ [])
tokens_from at (suc inside) (b ∷ text) = tokens_from (at + 1) inside text
tokens_from at zero (b ∷ text) = put_front (front_of (b ∷ text)) at (λ inside. tokens_from (at + 1) inside text)

abbrev pub tokens : List ℕ → Result (List Token) Fault
tokens text = tokens_from 0 0 text

-- what stands at the front of a text is within it
abbrev pub IsWithin : Front → ℕ → Type 0
IsWithin (Lexeme sort size) most = size ≤ most
IsWithin _ most = Unit {0}

-- a table of texts, as the code holds it
abbrev pub table : List (Bor (List ℕ) × Kind) → List (List ℕ × Kind)
table entries = map (λ entry. (entry.0.now, entry.1)) entries
