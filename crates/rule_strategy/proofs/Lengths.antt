-- The length of an array, as the definition counts it.
use Rattle.std.proofs.Common.{◌≡◌, List, [], ◌∷◌, length, refl, ap, suc}
use Rattle.toml.specs.View.{items_view}
use Rattle.toml.specs.declared.value.Value.{Value}
use Rattle.rule_strategy.specs.Tables.{length_of}

pub length_of_view : (vs : List Value) → length_of (items_view vs) ≡ length vs
length_of_view [] = refl
length_of_view (v ∷ vs) = ap suc (length_of_view vs)
