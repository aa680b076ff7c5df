use Rattle.std.proofs.Common.{◌≡◌, map}
use Rattle.toml.specs.View.{table_view, members_view}
use Rattle.rule_strategy.specs.Tables.{only}
use Rattle.rule_strategy.proofs.table.check_keys.Given as goal

abbrev pub invariant-loop-key : goal.invariant-loop-key
invariant-loop-key l =
    only (map (λ k. k.now) l.fn.keys) (table_view l.fn.table)
    ≡ only (map (λ k. k.now) l.fn.keys) (members_view l.key-iterator)
