use Rattle.std.proofs.Common.{◌≡◌, [], drop}
use Rattle.toml.specs.View.{items_view}
use Rattle.rule_strategy.specs.Securities.{securities_from}
use Rattle.rule_strategy.proofs.security.read_each.Given as goal

abbrev pub invariant-loop-value : goal.invariant-loop-value
invariant-loop-value l =
    securities_from [] (items_view l.fn.items) ≡ securities_from l.out.items (items_view (drop l.value-index l.fn.items))
