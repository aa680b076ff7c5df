use Rattle.std.proofs.Common.{◌≡◌, [], drop, length}
use Rattle.toml.specs.View.{items_view}
use Rattle.rule_strategy.specs.RuleTexts.{texts_from}
use Rattle.rule_strategy.proofs.rule_texts.read_each.Given as goal

abbrev pub invariant-loop-value : goal.invariant-loop-value
invariant-loop-value l =
    (texts_from [] (items_view l.fn.items) ≡ texts_from l.out.items (items_view (drop l.value-index l.fn.items)))
    × (length l.out.items ≡ l.value-index)
