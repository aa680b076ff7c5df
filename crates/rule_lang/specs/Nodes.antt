-- The trees of the code, which hold boxes and the places of windows in a list.
use Rattle.std.specs.Prelude.{◌≡◌, ◌≤◌, ℕ, ◌+◌, List, ◌++◌, length, Result, All, IfOk}
use Rattle.bar_windows.specs.Kept.{IsLength}
use Rattle.bar_windows.specs.declared.spec.WindowSpec.{WindowSpec}
use Rattle.rule_lang.specs.declared.fault.RuleFault.{RuleFault}
use Rattle.rule_lang.specs.declared.node.Amount as a
use Rattle.rule_lang.specs.declared.node.Condition as c
use Rattle.rule_lang.specs.declared.node.Part as p
use Rattle.rule_lang.specs.declared.node.Part.TheVariants.{Logical, Numeric}
use Rattle.rule_lang.specs.declared.node.Tree as t
use Rattle.rule_lang.specs.declared.node.Tree.TheVariants as tree
use Rattle.rule_lang.specs.declared.grammar.Reader.{Reader}
use Rattle.rule_lang.specs.Tree.{Amount, number, named, window, minus, arithmetic, windows_in, Condition, not, and, or, compare, windows_under, Tree, condition, amount}
use Rattle.rule_lang.specs.Parts.{Part, logical, numeric, over}
use Rattle.rule_lang.specs.Grammar.{Parser}
use Rattle.rule_lang.specs.Reading.{Gives}

-- what such trees stand for
abbrev pub amount_of : a.Amount → Amount
amount_of (a.Number n) = number n
amount_of (a.Named name) = named name
amount_of (a.Window spec place) = window spec
amount_of (a.Minus' p x) = minus (amount_of x)
amount_of (a.Arithmetic' op p x q y) = arithmetic op (amount_of x) (amount_of y)

abbrev pub condition_of : c.Condition → Condition
condition_of (c.Not' p x) = not (condition_of x)
condition_of (c.And' p x q y) = and (condition_of x) (condition_of y)
condition_of (c.Or' p x q y) = or (condition_of x) (condition_of y)
condition_of (c.Compare op x y) = compare op (amount_of x) (amount_of y)

abbrev pub part_of : p.Part → Part
part_of (Logical c) = logical (over condition_of c)
part_of (Numeric a) = numeric (over amount_of a)

abbrev pub tree_of : t.Tree → Tree
tree_of (tree.Condition c) = condition (condition_of c)
tree_of (tree.Amount a) = amount (amount_of a)

-- its windows have the places from a number on, as they stand in the text
abbrev pub IsPlaced : a.Amount → ℕ → Type 0
IsPlaced (a.Number n) from = Unit {0}
IsPlaced (a.Named name) from = Unit {0}
IsPlaced (a.Window spec place) from = place ≡ from
IsPlaced (a.Minus' p x) from = IsPlaced x from
IsPlaced (a.Arithmetic' op p x q y) from = IsPlaced x from × IsPlaced y (from + length (windows_in (amount_of x)))

abbrev pub ArePlaced : c.Condition → ℕ → Type 0
ArePlaced (c.Not' p x) from = ArePlaced x from
ArePlaced (c.And' p x q y) from = ArePlaced x from × ArePlaced y (from + length (windows_under (condition_of x)))
ArePlaced (c.Or' p x q y) from = ArePlaced x from × ArePlaced y (from + length (windows_under (condition_of x)))
ArePlaced (c.Compare op x y) from = IsPlaced x from × IsPlaced y (from + length (windows_in (amount_of x)))

-- a tree whose windows were put behind those of a list, and so have their places
pub record Adds (IsAt : ℕ → Type 0) (windows old new : List WindowSpec) : Type 0 where
  pub placed : IsAt (length old)
  pub behind : new ≡ old ++ windows
  pub lengths : All (λ spec. IsLength spec.length) old → All (λ spec. IsLength spec.length) new

abbrev pub AddsAmount : a.Amount → List WindowSpec → List WindowSpec → Type 0
AddsAmount x old new = Adds (IsPlaced x) (windows_in (amount_of x)) old new

abbrev pub AddsCondition : c.Condition → List WindowSpec → List WindowSpec → Type 0
AddsCondition x old new = Adds (ArePlaced x) (windows_under (condition_of x)) old new

-- of a part with a type error nothing is said
abbrev pub AddsPart : p.Part → List WindowSpec → List WindowSpec → Type 0
AddsPart (Logical c) old new = IfOk c (λ x. AddsCondition x old new)
AddsPart (Numeric a) old new = IfOk a (λ x. AddsAmount x old new)

abbrev pub AddsTree : t.Tree → List WindowSpec → List WindowSpec → Type 0
AddsTree (tree.Condition c) old new = AddsCondition c old new
AddsTree (tree.Amount a) old new = AddsAmount a old new

-- What a function of the grammar does: it gives what the rule gives or fails as the rule does, takes tokens from the front
-- alone, and puts the windows of what it gives behind those that were read before.
module _ {A B : Type 0} (view : A → B) (IsAdded : A → List WindowSpec → List WindowSpec → Type 0) where
  pub record Reads (rule : Parser B) (old new : Reader) (result : Result A RuleFault) : Type 0 where
    pub gives : Gives (λ x. (view x, new.rest.now)) result (rule old.rest.now)
    pub shorter : length new.rest.now ≤ length old.rest.now
    pub adds : IfOk result (λ x. IsAdded x old.windows.items new.windows.items)

abbrev pub ReadsPart : Parser Part → Reader → Reader → Result p.Part RuleFault → Type 0
ReadsPart = Reads part_of AddsPart

-- the same where nothing is read that has windows
abbrev pub ReadsPlain : {A : Type 0} → Parser A → Reader → Reader → Result A RuleFault → Type 0
ReadsPlain = Reads (λ x. x) (λ x old new. new ≡ old)
