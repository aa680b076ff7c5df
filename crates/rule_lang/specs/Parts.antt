-- The parts of a text and their kinds: a part is a condition or an amount, as its outermost operator gives it, whatever
-- its operands are. A type error is an operator that has an operand of the wrong kind.
use Rattle.std.specs.Prelude.{ℕ, min, Result, Ok, Err}
use Rattle.rule_lang.specs.declared.token.Op.{Op}
use Rattle.rule_lang.specs.declared.token.Op.TheVariants as op
use Rattle.rule_lang.specs.Tree.{Amount, minus, arithmetic, Condition, not, and, or, compare}

-- what was read, or in its place the least place of a type error in it
abbrev pub Typed : Type 0 → Type 0
Typed A = Result A ℕ

pub data Part : Type 0 where
  logical : Typed Condition → Part
  numeric : Typed Amount → Part

-- the least place where an operator at a place has an operand of the wrong kind
abbrev pub wrong : {A : Type 0} → ℕ → Typed A → ℕ
wrong at (Ok x) = at
wrong at (Err place) = min at place

-- the operand of an operator at a place that takes conditions, or amounts
abbrev pub condition_at : ℕ → Part → Typed Condition
condition_at at (logical c) = c
condition_at at (numeric a) = Err (wrong at a)

abbrev pub amount_at : ℕ → Part → Typed Amount
amount_at at (logical c) = Err (wrong at c)
amount_at at (numeric a) = a

-- what an operator makes of its operands
abbrev pub over : {A B : Type 0} → (A → B) → Typed A → Typed B
over f (Ok x) = Ok (f x)
over f (Err place) = Err place

abbrev pub operands : {A : Type 0} → Typed A → Typed A → Typed (A × A)
operands (Ok x) (Ok y) = Ok (x, y)
operands (Ok x) (Err place) = Err place
operands (Err place) (Ok y) = Err place
operands (Err place) (Err other) = Err (min place other)

-- `not` and the sign `-` at a place
abbrev pub not_at : ℕ → Part → Part
not_at at x = logical (over not (condition_at at x))

abbrev pub minus_at : ℕ → Part → Part
minus_at at x = numeric (over minus (amount_at at x))

-- an operator at a place between two operands
abbrev pub binary : Op → ℕ → Part → Part → Part
binary op.Or at x y = logical (over (λ o. or o.0 o.1) (operands (condition_at at x) (condition_at at y)))
binary op.And at x y = logical (over (λ o. and o.0 o.1) (operands (condition_at at x) (condition_at at y)))
binary (op.Compare c) at x y = logical (over (λ o. compare c o.0 o.1) (operands (amount_at at x) (amount_at at y)))
binary (op.Compute a) at x y = numeric (over (λ o. arithmetic a o.0 o.1) (operands (amount_at at x) (amount_at at y)))
