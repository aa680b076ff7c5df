use Rattle.std.proofs.Common.{◌≡◌, map, drop}
use Rattle.std.specs.Prelude.{bytes_eq}
use Rattle.std.specs.List.{list_any}
use Rattle.rule_strategy.proofs.table.is_one_of.Given as goal

abbrev pub invariant-loop-known : goal.invariant-loop-known
invariant-loop-known l =
    list_any (bytes_eq l.fn.key) (map (λ k. k.now) l.fn.keys)
    ≡ list_any (bytes_eq l.fn.key) (map (λ k. k.now) (drop l.known-index l.fn.keys))
