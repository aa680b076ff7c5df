use Rattle.std.proofs.Common.{◌≡◌, nat_eq, drop}
use Rattle.std.specs.List.{starts_with}
use Rattle.rule_lang.specs.Tokens.{lexeme_among, table}
use Rattle.rule_lang.proofs.scan.leading_entry.Given as goal

abbrev pub invariant-loop-entry : goal.invariant-loop-entry
invariant-loop-entry l =
    lexeme_among (λ entry. starts_with nat_eq l.text entry) (table l.entries) ≡ lexeme_among (λ entry. starts_with nat_eq l.text entry) (table (drop l.entry-index l.entries))
