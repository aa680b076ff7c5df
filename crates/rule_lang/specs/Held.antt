-- A tree as the code would hold it, at no place in memory. By it contracts tell two trees apart.
use Rattle.std.specs.Prelude.{◌≡◌, refl}
use Rattle.std.proofs.Common.{ap, ◌∙◌}
use Rattle.std.specs.Global.{Box}
use Rattle.std.specs.Ptr.{null_ptr}
use Rattle.rule_lang.specs.declared.node.Amount as a
use Rattle.rule_lang.specs.declared.node.Condition as c
use Rattle.rule_lang.specs.declared.node.Tree as t
use Rattle.rule_lang.specs.declared.node.Tree.TheVariants as tree
use Rattle.rule_lang.specs.Tree.{Amount, number, named, window, minus, arithmetic, Condition, not, and, or, compare, Tree, condition, amount}
use Rattle.rule_lang.specs.Nodes.{amount_of, condition_of, tree_of}

abbrev pub nowhere : Box (Unit {0})
nowhere = record { ptr = null_ptr; alloc = record { memory = record { seal = tt } }; value = tt }

abbrev pub amount_held : Amount → a.Amount
amount_held (number n) = a.Number n
amount_held (named name) = a.Named name
amount_held (window spec) = a.Window spec 0
amount_held (minus x) = a.Minus' nowhere (amount_held x)
amount_held (arithmetic op x y) = a.Arithmetic' op nowhere (amount_held x) nowhere (amount_held y)

abbrev pub condition_held : Condition → c.Condition
condition_held (not x) = c.Not' nowhere (condition_held x)
condition_held (and x y) = c.And' nowhere (condition_held x) nowhere (condition_held y)
condition_held (or x y) = c.Or' nowhere (condition_held x) nowhere (condition_held y)
condition_held (compare op x y) = c.Compare op (amount_held x) (amount_held y)

abbrev pub held : Tree → t.Tree
held (condition c) = tree.Condition (condition_held c)
held (amount a) = tree.Amount (amount_held a)

amount_is : (x : Amount) → amount_of (amount_held x) ≡ x
amount_is (number n) = refl
amount_is (named name) = refl
amount_is (window spec) = refl
amount_is (minus x) = ap minus (amount_is x)
amount_is (arithmetic op x y) =
    ap (λ x. arithmetic op x (amount_of (amount_held y))) (amount_is x) ∙ ap (arithmetic op x) (amount_is y)

condition_is : (x : Condition) → condition_of (condition_held x) ≡ x
condition_is (not x) = ap not (condition_is x)
condition_is (and x y) = ap (λ x. and x (condition_of (condition_held y))) (condition_is x) ∙ ap (and x) (condition_is y)
condition_is (or x y) = ap (λ x. or x (condition_of (condition_held y))) (condition_is x) ∙ ap (or x) (condition_is y)
condition_is (compare op x y) =
    ap (λ x. compare op x (amount_of (amount_held y))) (amount_is x) ∙ ap (compare op x) (amount_is y)

pub tree_is : (t : Tree) → tree_of (held t) ≡ t
tree_is (condition c) = ap condition (condition_is c)
tree_is (amount a) = ap amount (amount_is a)
