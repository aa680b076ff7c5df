use Rattle.std.proofs.Common.{◌≡◌, drop}
use Rattle.std.specs.Prelude.{bytes_eq}
use Rattle.std.specs.List.{list_any}
use Rattle.rule_strategy.specs.Securities.{symbols_of}
use Rattle.rule_strategy.proofs.values.is_listed.Given as goal

abbrev pub invariant-loop-security : goal.invariant-loop-security
invariant-loop-security l =
    list_any (bytes_eq l.fn.symbol) (symbols_of l.fn.earlier)
    ≡ list_any (bytes_eq l.fn.symbol) (symbols_of (drop l.security-index l.fn.earlier))
