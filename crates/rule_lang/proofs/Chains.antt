-- A chain of operators, as a loop comes to it: the tree so far, and the turns that are left.
use Rattle.std.proofs.Common.{◌≡◌, ℕ, zero, suc, ◌-◌, ◌≤◌, ◌<◌, List, [], ◌∷◌, length, fold, Option, Some, None, Result, Ok, Err, refl, ap, ◌∙◌, arith}
use Rattle.rule_lang.specs.declared.token.Level.{Level}
use Rattle.rule_lang.specs.declared.token.Level.TheVariants.{Or, And, Compared, Sum, Term}
use Rattle.rule_lang.specs.declared.token.Context.{Context}
use Rattle.rule_lang.specs.declared.token.Token.{Token}
use Rattle.rule_lang.specs.declared.fault.RuleFault.{RuleFault}
use Rattle.rule_lang.specs.declared.fault.RuleFault.TheVariants.{At, NoMemory}
use Rattle.rule_lang.specs.Tokens.{Fault}
use Rattle.rule_lang.specs.Parts.{Part}
use Rattle.rule_lang.specs.Grammar.{Parser, and_then, pure, Sign, Step, grown, sign, taken, steps, chain, within, opened}
use Rattle.rule_lang.specs.Reading.{Fails}

-- how much work the operators of a level are
abbrev pub height : Level → ℕ
height Or = 13
height And = 11
height Compared = 7
height Sum = 5
height Term = 3

abbrev pub Read : Type 0
Read = Result (Part × List Token) Fault

-- the operators and operands that are left, behind the tree so far
abbrev pub going : Level → Parser Part → ℕ → Part → List Token → Read
going level operand turns left rest = and_then (steps level operand turns rest) (λ others. pure (fold grown left others))

pub record Goes (level : Level) (operand : Parser Part) (whole : Read) (left : Part) (rest : List Token) : Type 0 where
  pub turns : ℕ
  pub enough : length rest ≤ turns
  pub same : whole ≡ going level operand turns left rest

pub goes-first : (level : Level) (operand : Parser Part) (ts : List Token) (first : Part) (rest : List Token) → operand ts ≡ Ok (first, rest) → length rest ≤ length ts → Goes level operand (chain level operand ts) first rest
unfolding chain
goes-first level operand ts first rest e h = record {
  turns = length ts;
  enough = h;
  same = rw e refl;
}

pub chain-fails : (level : Level) (operand : Parser Part) (ts : List Token) (fault : RuleFault) → Fails (operand ts) fault → Fails (chain level operand ts) fault
unfolding chain
chain-fails level operand ts (At error at) e = rw e refl
chain-fails level operand ts NoMemory e = tt

-- one more operator and operand
turn-step : (s : Sign) (left right : Part) (more : Result (List Step × List Token) Fault) → and_then (and_then more (λ others. pure ((s, right) ∷ others))) (λ others. pure (fold grown left others)) ≡ and_then more (λ others. pure (fold grown (grown left (s, right)) others))
turn-step s left right (Ok read) = refl
turn-step s left right (Err fault) = refl

pub goes-on : (level : Level) (operand : Parser Part) (whole : Read) (left right : Part) (rest behind after : List Token) (s : Sign) (turns : ℕ) → length rest ≤ turns → whole ≡ going level operand turns left rest → sign level rest ≡ Ok (Some s, behind) → length behind < length rest → operand behind ≡ Ok (right, after) → length after ≤ length behind → Goes level operand whole (grown left (s, right)) after
unfolding steps
goes-on level operand whole left right rest behind after s zero enough same e h o k = absurd (omega arith)
goes-on level operand whole left right rest behind after s (suc turns) enough same e h o k = record {
  turns = turns;
  enough = omega arith;
  same = (rw (e, o) at same) ∙ turn-step s left right (steps level operand turns after);
}

-- an operand that fails ends the chain with its fault
pub goes-fails : (level : Level) (operand : Parser Part) (whole : Read) (left : Part) (rest behind : List Token) (s : Sign) (fault : RuleFault) (turns : ℕ) → length rest ≤ turns → whole ≡ going level operand turns left rest → sign level rest ≡ Ok (Some s, behind) → length behind < length rest → Fails (operand behind) fault → Fails whole fault
unfolding steps
goes-fails level operand whole left rest behind s NoMemory turns enough same e h o = tt
goes-fails level operand whole left rest behind s (At error at) zero enough same e h o = absurd (omega arith)
goes-fails level operand whole left rest behind s (At error at) (suc turns) enough same e h o = rw (e, o) at same

-- behind the last token there is no operator
rest_in : Result (Option Sign × List Token) Fault → List Token
rest_in (Ok read) = read.1
rest_in (Err fault) = []

sign-empty : (level : Level) (rest after : List Token) → length rest ≤ 0 → sign level rest ≡ Ok (None, after) → rest ≡ after
unfolding sign taken rest_in
sign-empty level [] after h e = ap rest_in e
sign-empty level (t ∷ ts) after h e = absurd (omega arith)

-- with no operator left the tree so far is the whole
pub goes-end : (level : Level) (operand : Parser Part) (whole : Read) (left : Part) (rest after : List Token) (turns : ℕ) → length rest ≤ turns → whole ≡ going level operand turns left rest → sign level rest ≡ Ok (None, after) → whole ≡ Ok (left, after)
unfolding steps
goes-end level operand whole left rest after zero enough same e = same ∙ ap (λ ts. Ok (left, ts)) (sign-empty level rest after (omega arith) e)
goes-end level operand whole left rest after (suc turns) enough same e = rw e at same

-- one level fewer can be opened inside
pub opened-within : (levels at : ℕ) (inside : Context) → 0 < levels → opened levels inside at ≡ within (opened (levels - 1)) inside
unfolding opened
opened-within zero at inside h = absurd (omega arith)
opened-within (suc levels) at inside h = rw (let e : suc levels - 1 ≡ levels = omega arith in e) refl
