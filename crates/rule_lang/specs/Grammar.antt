-- The grammar. Each rule is a reader of tokens: it gives a part of a text and the tokens behind it, or the first fault. The line of
-- the grammar stands above the rule of its name; `{ .. }` is repeated, `[ .. ]` may be missing.
use Rattle.std.specs.Prelude.{ℕ, zero, suc, ◌*◌, Bool, true, false, ◌&&◌, nat_le, if◌then◌else◌, pos, List, [], ◌∷◌, length, fold, Option, Some, None, Result, Ok, Err}
use Rattle.bar_windows.specs.declared.spec.Func.{Func}
use Rattle.rule_lang.specs.declared.fault.RuleError.{RuleError}
use Rattle.rule_lang.specs.declared.fault.RuleError.TheVariants as error
use Rattle.rule_lang.specs.declared.token.Arithmetic.TheVariants.{Plus, Minus, Times, Over}
use Rattle.rule_lang.specs.declared.token.Op.{Op}
use Rattle.rule_lang.specs.declared.token.Op.TheVariants as op
use Rattle.rule_lang.specs.declared.token.Kind.{Kind}
use Rattle.rule_lang.specs.declared.token.Kind.TheVariants as kind
use Rattle.rule_lang.specs.declared.token.Token.{Token}
use Rattle.rule_lang.specs.declared.token.Level.{Level}
use Rattle.rule_lang.specs.declared.token.Level.TheVariants.{Or, And, Compared, Sum, Term}
use Rattle.rule_lang.specs.declared.token.Delimiter.{Delimiter}
use Rattle.rule_lang.specs.declared.token.Delimiter.TheVariants.{Opening, Closing, End}
use Rattle.rule_lang.specs.declared.token.Context.{Context}
use Rattle.rule_lang.specs.declared.token.Context.TheVariants as context
use Rattle.rule_lang.specs.Tokens.{Fault}
use Rattle.rule_lang.specs.Tree.{number, named, window}
use Rattle.rule_lang.specs.Parts.{Part, numeric, not_at, minus_at, binary}

abbrev pub Parser : Type 0 → Type 0
Parser A = List Token → Result (A × List Token) Fault

-- one reader after another: the first fault is the answer
abbrev pub and_then : {A B : Type 0} → Result (A × List Token) Fault → (A → Parser B) → Result (B × List Token) Fault
and_then (Ok read) f = f read.0 read.1
and_then (Err fault) f = Err fault

infixl 10 ◌>>=◌
abbrev pub ◌>>=◌ : {A B : Type 0} → Parser A → (A → Parser B) → Parser B
p >>= f = λ ts. and_then (p ts) f

abbrev pub pure : {A : Type 0} → A → Parser A
pure a = λ ts. Ok (a, ts)

abbrev pub fails : {A : Type 0} → RuleError → ℕ → Parser A
fails error at = λ ts. Err (error, at)

-- the next token; behind the end of the text there is none
unfoldable pub next : Parser Token
next [] = Err (error.Syntax, 0)
next (t ∷ ts) = Ok (t, ts)

-- the next token, which has to be this delimiter
abbrev pub is_delimiter : Delimiter → Kind → Bool
is_delimiter Opening kind.Opening = true
is_delimiter Closing kind.Closing = true
is_delimiter End kind.End = true
is_delimiter _ _ = false

unfoldable pub expect : Delimiter → Parser Token
expect delimiter = next >>= λ t. if is_delimiter delimiter t.kind then pure t else fails error.Syntax t.at

-- what the next token means, if it means something here; it is then behind us
abbrev pub taken_if : {A : Type 0} → List Token → List Token → Option A → Result (Option A × List Token) Fault
taken_if all others None = Ok (None, all)
taken_if all others (Some meant) = Ok (Some meant, others)

unfoldable pub taken : {A : Type 0} → (Token → Option A) → Parser (Option A)
taken meaning [] = Ok (None, [])
taken meaning (t ∷ ts) = taken_if (t ∷ ts) ts (meaning t)

-- the operators of each level
abbrev pub is_at : Level → Op → Bool
is_at Or op.Or = true
is_at And op.And = true
is_at Compared (op.Compare c) = true
is_at Sum (op.Compute Plus) = true
is_at Sum (op.Compute Minus) = true
is_at Term (op.Compute Times) = true
is_at Term (op.Compute Over) = true
is_at _ _ = false

-- an operator and its place
abbrev pub Sign : Type 0
Sign = Op × ℕ

abbrev pub sign_of : Level → Kind → ℕ → Option Sign
sign_of level (kind.Operator op) at = if is_at level op then Some (op, at) else None
sign_of level _ at = None

abbrev pub place_of_not : Kind → ℕ → Option ℕ
place_of_not kind.Not at = Some at
place_of_not _ at = None

-- an operator of this level, or the place of a `not`, if one is next
unfoldable pub sign : Level → Parser (Option Sign)
sign level = taken (λ t. sign_of level t.kind t.at)

unfoldable pub not_sign : Parser (Option ℕ)
not_sign = taken (λ t. place_of_not t.kind t.at)

-- an operator and its right operand, and the part that they make of a left one
abbrev pub Step : Type 0
Step = Sign × Part

abbrev pub grown : Part → Step → Part
grown left step = binary step.0.0 step.0.1 left step.1

-- { sign operand }, in at most so many turns
abbrev pub step_by : Parser Part → Parser (List Step) → Option Sign → Parser (List Step)
step_by operand others None = pure []
step_by operand others (Some s) = do
  right ← operand
  more ← others
  pure ((s, right) ∷ more)

unfoldable pub steps : Level → Parser Part → ℕ → Parser (List Step)
steps level operand zero = pure []
steps level operand (suc turns) = sign level >>= step_by operand (steps level operand turns)

abbrev pub operands : Level → Parser Part → ℕ → Parser Part
operands level operand turns = do
  first ← operand
  others ← steps level operand turns
  pure (fold grown first others)

-- operand { sign operand }: each operator takes all to its left as one operand. There are no more turns than tokens.
unfoldable pub chain : Level → Parser Part → Parser Part
chain level operand = λ ts. operands level operand (length ts) ts

-- operand [ sign operand ]
unfoldable pub pair : Level → Parser Part → Parser Part
pair level operand = operands level operand 1

-- the length of a window: a number without a point from 1 to 1,000
abbrev pub length_by : ℕ → Kind → Parser ℕ
length_by at (kind.Whole n) = if nat_le 1 n && nat_le n 1000 then pure n else fails error.Number at
length_by at (kind.Decimal n) = fails error.Number at
length_by at _ = fails error.Syntax at

unfoldable pub window_length : Parser ℕ
window_length = next >>= λ t. length_by t.at t.kind

-- "(" number ")", behind the word of a function
unfoldable pub called : Func → Parser Part
called func = do
  opening ← expect Opening
  length ← window_length
  closing ← expect Closing
  pure (numeric (Ok (window (record { func = func; length = length }))))

-- `opened context at` is what stands inside the level that the token at this place opens
module _ (opened : Context → ℕ → Parser Part) where
  -- or ")", behind "("
  unfoldable pub enclosed : ℕ → Parser Part
  enclosed at = do
    inner ← opened context.Brackets at
    closing ← expect Closing
    pure inner

  -- factor = number | name | func "(" number ")" | "(" or ")" | "-" factor
  abbrev pub factor_by : ℕ → Kind → Parser Part
  factor_by at (kind.Whole n) = pure (numeric (Ok (number (pos (n * 10000)))))
  factor_by at (kind.Decimal units) = pure (numeric (Ok (number units)))
  factor_by at (kind.Name n) = pure (numeric (Ok (named n)))
  factor_by at (kind.Func f) = called f
  factor_by at kind.Opening = enclosed at
  factor_by at (kind.Operator (op.Compute Minus)) = opened context.Minus at >>= λ inner. pure (minus_at at inner)
  factor_by at _ = fails error.Syntax at

  unfoldable pub factor : Parser Part
  factor = next >>= λ t. factor_by t.at t.kind

  -- term = factor { ("*" | "/") factor }
  unfoldable pub term : Parser Part
  term = chain Term factor

  -- sum = term { ("+" | "-") term }
  unfoldable pub sum : Parser Part
  sum = chain Sum term

  -- cmp = sum [ ("<" | "<=" | ">" | ">=" | "==" | "!=") sum ]
  unfoldable pub cmp : Parser Part
  cmp = pair Compared sum

  -- not = "not" not | cmp
  abbrev pub not_by : Option ℕ → Parser Part
  not_by None = cmp
  not_by (Some at) = opened context.Not at >>= λ inner. pure (not_at at inner)

  unfoldable pub not : Parser Part
  not = not_sign >>= not_by

  -- and = not { "and" not }
  unfoldable pub and : Parser Part
  and = chain And not

  -- or = and { "or" and }
  unfoldable pub or : Parser Part
  or = chain Or and

  -- what stands inside each level
  abbrev pub within : Context → Parser Part
  within context.Brackets = or
  within context.Not = not
  within context.Minus = factor

  -- the operands of the operators of each level
  abbrev pub operand : Level → Parser Part
  operand Or = and
  operand And = not
  operand Compared = sum
  operand Sum = term
  operand Term = factor

-- what stands inside one more level, while so many can still be opened
unfoldable pub opened : ℕ → Context → ℕ → Parser Part
opened zero inside at = fails error.Depth at
opened (suc levels) inside at = within (opened levels) inside

-- a whole text, in which up to 32 levels are open at a place
unfoldable pub whole : Parser Part
whole = do
  part ← or (opened 32)
  end ← expect End
  pure part
