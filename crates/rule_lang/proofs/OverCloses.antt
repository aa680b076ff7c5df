-- The value of an expression over closes is its value by the values of its windows over them, whatever follows these.
use Rattle.std.proofs.Common.{◌≡◌, List, [], ◌∷◌, ◌++◌, length, drop, map, Option, ℤ, refl, sym, ap, ◌∙◌}
use Rattle.std.specs.Prelude.{not as is_not, neg_ℤ, option_and_then}
use Rattle.std.proofs.lemmas.List.{append-nil, map-append, append_assoc}
use Rattle.lean_fixed.specs.declared.money.Price.{Price}
use Rattle.bar_windows.specs.declared.spec.WindowSpec.{WindowSpec}
use Rattle.rule_lang.specs.declared.view.View.{View}
use Rattle.rule_lang.specs.Tree.{Amount, number, named, window, minus, arithmetic, windows_in, Condition, not, and, or, compare, windows_under, Tree, condition, amount}
use Rattle.rule_lang.specs.Values.{first_value, within, number_of, truth_of, number_in, truth_in}
use Rattle.rule_lang.specs.Closes.{value_over, values_over, amount_over, condition_over, number_over, truth_over}

module _ (view : View) (closes : List Price) where
  -- the values of the windows of two operands, and those of the second one
  split : (ws vs : List WindowSpec) (values rest : List (Option ℤ)) → values ≡ map (value_over closes) (ws ++ vs) ++ rest → values ≡ map (value_over closes) ws ++ (map (value_over closes) vs ++ rest)
  split ws vs values rest e =
      e ∙ ap (λ all. all ++ rest) (map-append (value_over closes) ws vs) ∙ append_assoc (map (value_over closes) ws) (map (value_over closes) vs) rest

  behind : (ws : List WindowSpec) (values rest : List (Option ℤ)) → values ≡ map (value_over closes) ws ++ rest → drop (length ws) values ≡ rest
  behind [] values rest e = e
  behind (w ∷ ws) values rest e = ap (drop (length (w ∷ ws))) e ∙ behind ws _ rest refl

  number-over : (x : Amount) (values rest : List (Option ℤ)) → values ≡ map (value_over closes) (windows_in x) ++ rest → number_of view values x ≡ amount_over view closes x
  unfolding number_of amount_over windows_in
  number-over (number n) values rest e = refl
  number-over (named name) values rest e = refl
  number-over (window spec) values rest e = ap first_value e
  number-over (minus x) values rest e = ap (option_and_then (λ n. within (neg_ℤ n))) (number-over x values rest e)
  number-over (arithmetic op x y) values rest e =
      let parts = split (windows_in x) (windows_in y) values rest e in
      rw (number-over x values _ parts, number-over y (drop (length (windows_in x)) values) rest (behind (windows_in x) values _ parts)) refl

  truth-over : (x : Condition) (values rest : List (Option ℤ)) → values ≡ map (value_over closes) (windows_under x) ++ rest → truth_of view values x ≡ condition_over view closes x
  unfolding truth_of condition_over windows_under
  truth-over (not x) values rest e = ap is_not (truth-over x values rest e)
  truth-over (and x y) values rest e =
      let parts = split (windows_under x) (windows_under y) values rest e in
      rw (truth-over x values _ parts, truth-over y (drop (length (windows_under x)) values) rest (behind (windows_under x) values _ parts)) refl
  truth-over (or x y) values rest e =
      let parts = split (windows_under x) (windows_under y) values rest e in
      rw (truth-over x values _ parts, truth-over y (drop (length (windows_under x)) values) rest (behind (windows_under x) values _ parts)) refl
  truth-over (compare op x y) values rest e =
      let parts = split (windows_in x) (windows_in y) values rest e in
      rw (number-over x values _ parts, number-over y (drop (length (windows_in x)) values) rest (behind (windows_in x) values _ parts)) refl

  pub number-is : (tree : Tree) → view.windows ≡ values_over closes tree → number_in view tree ≡ number_over view closes tree
  number-is (condition c) e = refl
  number-is (amount a) e = number-over a view.windows [] (e ∙ sym (append-nil (values_over closes (amount a))))

  pub truth-is : (tree : Tree) → view.windows ≡ values_over closes tree → truth_in view tree ≡ truth_over view closes tree
  truth-is (condition c) e = truth-over c view.windows [] (e ∙ sym (append-nil (values_over closes (condition c))))
  truth-is (amount a) e = refl
